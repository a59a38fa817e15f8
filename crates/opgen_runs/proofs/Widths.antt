-- The drivers of a sound design over words of the widths of its signals and ports.
use Rattle.std.proofs.Common.{◌≡◌, ℕ, suc, Bool, true, false, if◌then◌else◌, List, [], ◌∷◌, length, map, get_or, Option, Some, None, refl, sym, ap, ◌∙◌, subst, arith}
use Rattle.std.specs.Prelude.{IsSome, IfSome, nat_eq, slice_get, slice_index, option_map, unwrap_or}
use Rattle.std.proofs.Math.ListN.{get_or-map}
use Rattle.std.proofs.Math.Seq.{map-set_same}
use Rattle.std.proofs.lemmas.List.{length-map}
use Rattle.std.proofs.lemmas.Option.{slice_get-map, slice_get-get_or, slice_get_within, get_or_from_slice_get}
use Rattle.opgen_num.specs.Words.{nat}
use Rattle.opgen_design.specs.declared.design.Design.{Design}
use Rattle.opgen_design.specs.declared.design.Signal.{Signal}
use Rattle.opgen_design.specs.declared.design.Driver.{Driver}
use Rattle.opgen_design.specs.declared.design.Driver.TheVariants.{Assign, Choice, Table, Register, Output}
use Rattle.opgen_design.specs.Run.{Words, scope}
use Rattle.opgen_design.specs.Tree.{Tree}
use Rattle.opgen_design.specs.Value.{value, IsWidth, width}
use Rattle.opgen_design.specs.declared.design.Target.{Target}
use Rattle.opgen_design.specs.declared.design.Target.TheVariants.{Signal as signal, Port as port_of}
use Rattle.opgen_design.specs.declared.sound.Rule.TheVariants.{Width}
use Rattle.opgen_design.specs.Sound.{IsSound, target, Names, HasWidth, WidthsAgree, SignalPasses, DriverPasses, signal_widths, port_widths, at_signal, at_driver}
use Rattle.opgen_design.proofs.SoundLaws.{declared-at}
use Rattle.opgen_design.proofs.ValueLaws.{length-chosen}
use Rattle.opgen_runs.specs.Fitting.{AreNarrow, Fits}
use Rattle.opgen_runs.specs.Evaluate.{DriverFits, HaveWidths, IsThere, driver_word, table_word, put_at, put, put_option, settle}
use Rattle.opgen_runs.specs.Tables.{row_word}
use Rattle.opgen_runs.proofs.Fitting.{value-fits}

pub words-eq : (signals ports : List (List Bool)) (v : Words) → signals ≡ v.signals → ports ≡ v.ports
    → record { signals = signals; ports = ports } ≡ v
words-eq signals ports v e f = ap (λ s. record { signals = s; ports = ports }) e ∙ ap (λ p. record { signals = v.signals; ports = p }) f

pub found-length : (b : Bool) (word other : List Bool) (found : Option (List Bool)) (w : ℕ) → length word ≡ w → length (unwrap_or found other)
    ≡ w → length (unwrap_or (if b then Some word else found) other) ≡ w
found-length true word other found w h k = h
found-length false word other found w h k = k

table-length : (rows : List (List Bool × List Bool)) (other address : List Bool) (w : ℕ)
    → ((i : ℕ) (r : List Bool × List Bool) → slice_get rows i ≡ Some r → length r.1 ≡ w) → length other ≡ w
    → length (table_word rows other address) ≡ w
table-length [] other address w h k = k
table-length (r ∷ rows) other address w h k = found-length (nat_eq (nat r.0) (nat address)) r.1 other (row_word rows (nat address)) w
    (h 0 r refl) (table-length rows other address w (λ i q e. h (suc i) q e) k)

wide : (d : Design) (i : ℕ) (o : Option Signal) (w : ℕ) → option_map (λ s. s.width) o ≡ Some w → IfSome o (SignalPasses d Width i)
    → IsWidth w
wide d i None w e h = absurd (cc)
wide d i (Some s) w e h = let f : s.width ≡ w = cc in subst IsWidth f h.0

module _ (d : Design) (sound : IsSound d) where
  pub agree-at : (i : ℕ) (k : Driver) → slice_get d.drivers i ≡ Some k → WidthsAgree d k
  agree-at i k e = subst (λ o. IfSome o (DriverPasses d Width i)) e (sound.widths (at_driver i))

  module _ (v : Words) (h : HaveWidths d v) where
    pub narrow : AreNarrow v.signals
    narrow = λ k x l.
        let a : slice_get (map length v.signals) k ≡ Some (length (get_or v.signals k x)) = slice_get-map length v.signals k
        ∙ ap (option_map length) (slice_get-get_or v.signals k x l) in
        let b : slice_get (signal_widths d) k ≡ Some (length (get_or v.signals k x)) = ap (λ ws. slice_get ws k) (sym h.signals) ∙ a in
        let c = sym (slice_get-map (λ s. s.width) d.signals k) ∙ b in
        (wide d k (slice_get d.signals k) (length (get_or v.signals k x)) c (sound.widths (at_signal k))).1

    has-width : (e : Tree) (w : ℕ) → HasWidth d e w → width (map length v.signals) (map length v.ports) e ≡ Some w
    has-width e w k = ap (λ ns. width ns (map length v.ports) e) h.signals ∙ ap (λ ps. width (signal_widths d) ps e) h.ports ∙ k

    fits : (e : Tree) (w : ℕ) → HasWidth d e w → Fits v.signals v.ports e
    fits e w k = subst IsSome (sym (has-width e w k)) refl

    pub long : (e : Tree) (w : ℕ) → HasWidth d e w → length (value (scope v) e) ≡ w
    long e w k = value-fits v.signals v.ports e w (has-width e w k)

    pub driver-fits : (k : Driver) → WidthsAgree d k → DriverFits v.signals v.ports k
    driver-fits (Assign to e) a = fits e (slice_index (signal_widths d) to) a
    driver-fits (Choice to on one other) a = (
      fits on 1 a.0,
      fits one (slice_index (signal_widths d) to) a.1,
      fits other (slice_index
          (signal_widths d) to) a.2,
    )
    driver-fits (Table to on rows other) a = subst (λ ns. IsSome (width ns (map length v.ports) on)) (sym h.signals)
        (subst (λ ps. IsSome (width (signal_widths d) ps on)) (sym h.ports) a.1)
    driver-fits (Register to e) a = fits e (slice_index (signal_widths d) to) a
    driver-fits (Output place e) a = fits e (slice_index (port_widths d) place) a

    pub there : (t : Target) → Names d t → IsThere v t
    there (signal s) n = omega (arith, n, ap length h.signals, length-map v.signals length, length-map d.signals (λ s. s.width))
    there (port_of p) n = omega (arith, n, ap length h.ports, length-map v.ports length, length-map d.ports (λ p. p.width))

    abbrev pub width_of : Target → ℕ
    width_of (signal s) = slice_index (signal_widths d) s
    width_of (port_of p) = slice_index (port_widths d) p

    pub word-length : (k : Driver) → WidthsAgree d k → length (driver_word (scope v) k) ≡ width_of (target k)
    word-length (Assign to e) a = long e (slice_index (signal_widths d) to) a
    word-length (Choice to on one other) a = length-chosen (value (scope v) on) (value (scope v) one) (value (scope v) other)
        (slice_index (signal_widths d) to) (long one (slice_index (signal_widths d) to) a.1)
        (long other (slice_index (signal_widths d) to) a.2)
    word-length (Table to on rows other) a = table-length rows other (value (scope v) on) (slice_index (signal_widths d) to)
        (λ i r e. subst (λ q. length q.1 ≡ slice_index (signal_widths d) to) (get_or_from_slice_get rows i r r e)
        (a.0 i r (slice_get_within rows i r e)).1) a.2
    word-length (Register to e) a = long e (slice_index (signal_widths d) to) a
    word-length (Output place e) a = long e (slice_index (port_widths d) place) a

    put-at-widths : (t : Target) (w : List Bool) → length w ≡ width_of t → HaveWidths d (put_at t w v)
    put-at-widths (signal s) w e = record {
      signals = map-set_same length v.signals s w [] (e ∙ ap (λ ws. get_or ws s 0) (sym h.signals) ∙ get_or-map length v.signals s [])
          ∙ h.signals;
      ports = h.ports;
    }
    put-at-widths (port_of p) w e = record {
      signals = h.signals;
      ports = map-set_same length v.ports p w [] (e ∙ ap (λ ws. get_or ws p 0) (sym h.ports) ∙ get_or-map length v.ports p []) ∙ h.ports;
    }

    pub put-widths : (k : Driver) → WidthsAgree d k → HaveWidths d (put k v)
    put-widths k a = put-at-widths (target k) (driver_word (scope v) k) (word-length k a)

  -- the drivers at places, each of which is there
  pub settle-widths : (order : List ℕ) (v : Words) → HaveWidths d v → HaveWidths d (settle d.drivers order v)
  settle-widths [] v h = h
  settle-widths (i ∷ order) v h = settle-widths order (put_option (slice_get d.drivers i) v) (option-widths (slice_get d.drivers i) refl)
    where
      option-widths : (o : Option Driver) → slice_get d.drivers i ≡ o → HaveWidths d (put_option o v)
      option-widths None e = h
      option-widths (Some k) e = put-widths v h k (agree-at i k e)

  pub declared-there : (v : Words) → HaveWidths d v → (i : ℕ) (k : Driver) → slice_get d.drivers i ≡ Some k → IsThere v (target k)
  declared-there v h i k e = there v h (target k) (declared-at d sound.declared i k e).target
