use Rattle.std.proofs.Common.{◌≡◌, ◌≤◌, ℕ, Bool, List, length, get_or, Option, Some, None, sym, subst, arith}
use Rattle.std.specs.Prelude.{All, IfSome}
use Rattle.std.proofs.lemmas.Option.{slice_get-get_or}
use Rattle.opgen_design.specs.declared.design.Design.{Design}
use Rattle.opgen_design.specs.declared.design.Signal.{Signal}
use Rattle.opgen_design.specs.declared.sound.Rule.TheVariants.{Width}
use Rattle.opgen_design.specs.Sound.{IsSound, SignalPasses, at_signal}
use Rattle.opgen_machine.specs.Laid.{IsFlat}
use Rattle.opgen_machine.proofs.machine.start.Goals as goal

shorter : (o : Option (List Bool)) (w : ℕ) → IfSome o (λ x. length x ≡ w) → w ≤ 64 → IfSome o (λ x. length x ≤ 64)
shorter None w h l = tt
shorter (Some x) w h l = omega (arith, h, l)

initials : (d : Design) → IsSound d → IsFlat d → All (λ s. IfSome s.initial (λ w. length w ≤ 64)) d.signals
initials d sound flat i x l =
    let s = get_or d.signals i x in
    let h = subst (λ o. IfSome o (SignalPasses d Width i)) (slice_get-get_or d.signals i x l) (sound.widths (at_signal i)) in
    shorter s.initial s.width h.1 (flat.signals i x l)

pub start_numbers-requires : goal.start_numbers-requires
start_numbers-requires c = subst (λ ss. All (λ (s : Signal). IfSome s.initial (λ w. length w ≤ 64)) ss) (sym c.as_slice.ensures)
    (initials c.args.design.now c.requires.sound c.requires.flat)
