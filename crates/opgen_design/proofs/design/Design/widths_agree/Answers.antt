use Rattle.std.proofs.Common.{◌≡◌, ℕ, Bool, List, length, get_or, eqb, Option, None, Some, ap, sym, ◌∙◌, subst}
use Rattle.std.specs.Prelude.{All, IsSome, slice_get, option_map}
use Rattle.std.specs.Bool.{Decides}
use Rattle.std.specs.Option.{option_eq}
use Rattle.std.proofs.lemmas.Bool.Decides.{Decides-eqb}
use Rattle.std.proofs.lemmas.Option.{slice_get-map, get_or_from_slice_get}
use Rattle.opgen_design.specs.declared.design.Design.{Design}
use Rattle.opgen_design.specs.declared.design.Port.{Port}
use Rattle.opgen_design.specs.declared.design.Signal.{Signal}
use Rattle.opgen_design.specs.declared.design.Driver.{Driver}
use Rattle.opgen_design.specs.declared.design.Driver.TheVariants.{Assign, Table, Register, Output}
use Rattle.opgen_design.specs.Value.{width}
use Rattle.opgen_design.specs.Sound.{signal_widths, port_widths, WidthsAgree}
use Rattle.opgen_design.proofs.design.Design.widths_agree.Goals as goal

abbrev Fit : Option ℕ → List (List Bool × List Bool) → List Bool → ℕ → Type 0
Fit address rows other w = All (λ r. (address ≡ Some (length r.0)) × (length r.1 ≡ w)) rows × IsSome address × (length other ≡ w)

width-at : (d : Design) (to : ℕ) (s : Signal) → slice_get d.signals to ≡ Some s → get_or (signal_widths d) to 0 ≡ s.width
width-at d to s e = get_or_from_slice_get (signal_widths d) to s.width 0
    (slice_get-map (λ x. x.width) d.signals to ∙ ap (λ o. option_map (λ x. x.width) o) e)

port-width-at : (d : Design) (to : ℕ) (p : Port) → slice_get d.ports to ≡ Some p → get_or (port_widths d) to 0 ≡ p.width
port-width-at d to p e = get_or_from_slice_get (port_widths d) to p.width 0
    (slice_get-map (λ x. x.width) d.ports to ∙ ap (λ o. option_map (λ x. x.width) o) e)

same-width : (w : Option ℕ) (n : ℕ) → Decides (option_eq eqb w (Some n)) (w ≡ Some n)
same-width None n = ((λ h. absurd (cc)), (λ e. absurd (cc)))
same-width (Some m) n = ((λ h. ap Some ((Decides-eqb m n).0 h)), (λ e. (Decides-eqb m n).1 (cc)))

-- the width of the one expression of a driver decides
agrees : (d : Design) (k m : Driver) → k ≡ m → (b : Bool) (w : Option ℕ) (n : ℕ) → b ≡ option_eq eqb w (Some n)
    → (w ≡ Some n → WidthsAgree d m) → (WidthsAgree d m → w ≡ Some n) → Decides b (WidthsAgree d k)
agrees d k m is b w n e to from = (
  (λ h. subst (WidthsAgree d) (sym is) (to ((same-width w n).0 (sym e ∙ h)))),
  (λ h. e ∙ (same-width w n).1 (from (subst (WidthsAgree d) is h))),
)

pub returns-in-Assign : goal.returns-in-Assign
returns-in-Assign c =
    let d = c.args.self.now in
    let w = width-at d c.in-Assign.to c.get.result.now c.get.ensures in
    let e : c.width.result ≡ width (signal_widths d) (port_widths d) c.in-Assign.expr = c.width.ensures
    ∙ ap (width (signal_widths d) (port_widths d)) c.expr.ensures in
    agrees d c.args.driver.now (Assign c.in-Assign.to c.in-Assign.expr) c.in-Assign.is c.eq.result c.width.result
    c.get.result.now.width c.eq.ensures (λ h. sym e ∙ h ∙ ap Some (sym w)) (λ h. e ∙ h ∙ ap Some w)

pub returns-in-Register : goal.returns-in-Register
returns-in-Register c =
    let d = c.args.self.now in
    let w = width-at d c.in-Register.to c.get-in-Register.result.now c.get-in-Register.ensures in
    let e : c.width-in-Register.result ≡ width (signal_widths d) (port_widths d) c.in-Register.expr = c.width-in-Register.ensures
    ∙ ap (width (signal_widths d) (port_widths d)) c.expr-in-Register.ensures in
    agrees d c.args.driver.now (Register c.in-Register.to c.in-Register.expr) c.in-Register.is c.eq-in-Register.result c.width-in-Register.result
    c.get-in-Register.result.now.width c.eq-in-Register.ensures (λ h. sym e ∙ h ∙ ap Some (sym w)) (λ h. e ∙ h ∙ ap Some w)

pub returns-in-Output : goal.returns-in-Output
returns-in-Output c =
    let d = c.args.self.now in
    let w = port-width-at d c.in-Output.port c.get-in-Output.result.now c.get-in-Output.ensures in
    let e : c.width-in-Output.result ≡ width (signal_widths d) (port_widths d) c.in-Output.expr = c.width-in-Output.ensures
    ∙ ap (width (signal_widths d) (port_widths d)) c.expr-in-Output.ensures in
    agrees d c.args.driver.now (Output c.in-Output.port c.in-Output.expr) c.in-Output.is c.eq-in-Output.result c.width-in-Output.result
    c.get-in-Output.result.now.width c.eq-in-Output.ensures (λ h. sym e ∙ h ∙ ap Some (sym w)) (λ h. e ∙ h ∙ ap Some w)

pub returns-in-Table : goal.returns-in-Table
returns-in-Table c =
    let d = c.args.self.now in
    let w = width-at d c.in-Table.to c.get-in-Table.result.now c.get-in-Table.ensures in
    let e : c.width-in-Table.result ≡ width (signal_widths d) (port_widths d) c.in-Table.on = c.width-in-Table.ensures
    ∙ ap (width (signal_widths d) (port_widths d)) c.expr-in-Table.ensures in
    let to : Fit c.width-in-Table.result c.as_slice.result.now c.in-Table.other c.get-in-Table.result.now.width
    → WidthsAgree d (Table c.in-Table.to c.in-Table.on c.in-Table.rows c.in-Table.other) = λ h.
    subst (λ x. Fit x c.in-Table.rows c.in-Table.other (get_or (signal_widths d) c.in-Table.to 0)) e
    (subst (λ x. Fit c.width-in-Table.result x c.in-Table.other (get_or (signal_widths d) c.in-Table.to 0)) c.as_slice.ensures
    (subst (λ x. Fit c.width-in-Table.result c.as_slice.result.now c.in-Table.other x) (sym w) h)) in
    let from : WidthsAgree d (Table c.in-Table.to c.in-Table.on c.in-Table.rows c.in-Table.other)
    → Fit c.width-in-Table.result c.as_slice.result.now c.in-Table.other c.get-in-Table.result.now.width = λ h.
    subst (λ x. Fit c.width-in-Table.result c.as_slice.result.now c.in-Table.other x) w
    (subst (λ x. Fit c.width-in-Table.result x c.in-Table.other (get_or (signal_widths d) c.in-Table.to 0)) (sym c.as_slice.ensures)
    (subst (λ x. Fit x c.in-Table.rows c.in-Table.other (get_or (signal_widths d) c.in-Table.to 0)) (sym e) h)) in (
      (λ h. subst (WidthsAgree d) (sym c.in-Table.is) (to (c.rows_agree.ensures.0 h))),
      (λ h. c.rows_agree.ensures.1 (from (subst (WidthsAgree d) c.in-Table.is h))),
    )
