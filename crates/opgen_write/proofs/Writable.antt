-- The ports, signals and drivers of a sound, shaped design under allowed names can be written.
use Rattle.std.proofs.Common.{◌≡◌, ℕ, ◌<◌, ◌≤◌, Bool, List, [], ◌∷◌, length, get_or, Option, Some, None, IfSome, slice_get, slice_index, sym, subst, arith}
use Rattle.std.specs.Prelude.{All}
use Rattle.std.proofs.lemmas.List.{get_or-map, length-map}
use Rattle.std.proofs.lemmas.Option.{slice_get-get_or, slice_get_within, get_or_from_slice_get}
use Rattle.opgen_num.specs.declared.format.TheConstants.{MAX_WIDTH}
use Rattle.opgen_design.specs.declared.design.Design.{Design}
use Rattle.opgen_design.specs.declared.design.Driver.{Driver}
use Rattle.opgen_design.specs.declared.design.Driver.TheVariants.{Assign, Choice, Table, Register, Output}
use Rattle.opgen_design.specs.Tree as tree
use Rattle.opgen_design.specs.Tree.{Tree}
use Rattle.opgen_design.specs.Sound.{AllReads, IsSound, IsDeclared, signal_widths, port_widths, HasWidth, WidthsAgree, PortPasses, SignalPasses, DriverPasses, at_design, at_port, at_signal, at_driver}
use Rattle.opgen_design.specs.Value.{IsWidth, width}
use Rattle.opgen_design.specs.declared.sound.Rule.TheVariants.{Undeclared, Width}
use Rattle.opgen_design.proofs.WidthLaws.{width-is_width, some_width}
use Rattle.opgen_vhdl.specs.Shaped.{IsPart, HasFullChains, IsShapedExpression, IsShapedDriver, IsShaped, HasAllowedNames}
use Rattle.opgen_write.proofs.Fitting.{fits}
use Rattle.opgen_write.proofs.Drivers.{AreShort, FitsWhole, DriverFits}
use Rattle.opgen_write.proofs.Declarations.{PortFits, InitialFits, SignalFits}
use Rattle.opgen_write.proofs.Leading.{all_first, all_rest}
use Rattle.opgen_write.proofs.Places.{no_signal}

initial_fits : (initial : Option (List Bool)) (w : ℕ) → IsWidth w → IfSome initial (λ v. length v ≡ w) → InitialFits initial
initial_fits None w wide h = tt
initial_fits (Some v) w wide h = (omega (arith, h, wide.0), omega (arith, h, wide.1))

part_chains : (t : Tree) → IsPart t → HasFullChains t
part_chains (tree.name s) h = tt
part_chains (tree.part s high low) h = tt
part_chains (tree.bits w) h = tt
part_chains (tree.port p) h = tt
part_chains (tree.inverse t) h = absurd h
part_chains (tree.chain o ts) h = absurd h

module _ (d : Design) (s : IsSound d) (shape : IsShaped d) (names : HasAllowedNames d) where
  pub all_ports : All PortFits d.ports
  all_ports = λ k e b. record {
    allowed = names.ports k e b;
    wide = subst (λ o. IfSome o (PortPasses d Width k)) (slice_get-get_or d.ports k e b) (s.widths (at_port k));
  }

  pub enable_fits : IfSome d.enable (λ p. p < length d.ports)
  enable_fits = s.declared at_design

  pub all_signals : All SignalFits d.signals
  all_signals = λ k e b.
      let wide = subst (λ o. IfSome o (SignalPasses d Width k)) (slice_get-get_or d.signals k e b) (s.widths (at_signal k)) in
      let x = get_or d.signals k e in
      record { allowed = names.signals k e b; wide = wide.0; initial = initial_fits x.initial x.width wide.0 wide.1 }

  width_wide : (i : ℕ) → i < length d.signals → IsWidth (slice_index (signal_widths d) i)
  width_wide i h = subst IsWidth (sym (get_or-map (λ q. q.width) d.signals i no_signal 0 h)) (all_signals i no_signal h).wide

  short : (i w : ℕ) → slice_get (signal_widths d) i ≡ Some w → w ≤ MAX_WIDTH
  short i w e =
      let within : i < length d.signals = omega (arith, slice_get_within (signal_widths d) i w e, length-map d.signals (λ q. q.width)) in
      omega (arith, get_or_from_slice_get (signal_widths d) i w 0 e, (width_wide i within).1)

  expression_fits : (e : Tree) (w : ℕ) → IsShapedExpression e → AllReads (λ q. q < length d.signals) (λ p. p < length d.ports) e
      → HasWidth d e w → FitsWhole d e
  expression_fits e w shaped reads h = record { fits = fits d short e w reads shaped.chains h; nests = shaped.nests }

  rows_short : (to : ℕ) (on : Tree) (rows : List (List Bool × List Bool)) → to < length d.signals
      → All (λ r. HasWidth d on (length r.0) × (length r.1 ≡ slice_index (signal_widths d) to)) rows → AreShort rows
  rows_short to on [] h all = tt
  rows_short to on (r ∷ rows) h all =
      let here = all_first (λ r. HasWidth d on (length r.0) × (length r.1 ≡ slice_index (signal_widths d) to)) r rows all in
      let wide = width_wide to h in (
        width-is_width (signal_widths d) (port_widths d) on (length r.0) here.0,
        (omega (arith, here.1, wide.0), omega (arith, here.1, wide.1)),
        rows_short to on rows h (all_rest (λ r. HasWidth d on (length r.0) × (length r.1 ≡ slice_index (signal_widths d) to)) r rows all),
      )

  driver_fits : (k : Driver) → IsDeclared d k → WidthsAgree d k → IsShapedDriver k → DriverFits d k
  driver_fits (Assign to e) declared w shaped = (declared.target, expression_fits e _ shaped declared.reads.0 w)
  driver_fits (Choice to on one other) declared w shaped = (
    declared.target,
    shaped.0,
    fits d short on 1 declared.reads.0 (part_chains on shaped.0) w.0,
    expression_fits one _ shaped.1 declared.reads.1.0 w.1,
    expression_fits other _ shaped.2 declared.reads.1.1.0 w.2,
  )
  driver_fits (Table to on rows other) declared w shaped =
      let on_width = some_width (width (signal_widths d) (port_widths d) on) w.1 in
      let wide = width_wide to declared.target in (
        declared.target,
        shaped,
        fits d short on on_width.0 declared.reads.0 (part_chains on shaped) on_width.1,
        rows_short to on rows declared.target w.0,
        (omega (arith, w.2, wide.0), omega (arith, w.2, wide.1)),
      )
  driver_fits (Register to e) declared w shaped = (declared.target, expression_fits e _ shaped declared.reads.0 w)
  driver_fits (Output p e) declared w shaped = (declared.target, expression_fits e _ shaped declared.reads.0 w)

  pub all_drivers : All (DriverFits d) d.drivers
  all_drivers = λ k e b.
      let at = slice_get-get_or d.drivers k e b in
      driver_fits (get_or d.drivers k e) (subst (λ o. IfSome o (DriverPasses d Undeclared k)) at (s.declared (at_driver k)))
      (subst (λ o. IfSome o (DriverPasses d Width k)) at (s.widths (at_driver k))) (shape.drivers k e b)
