-- A rule holds of a design or fails at a first place, where the goal is ⊥.
use Rattle.std.proofs.Common.{◌≡◌, ℕ, zero, suc, ◌+◌, ◌⊎◌, List, length, Option, Some, None, IfSome, refl, sym, subst, inl, inr, arith}
use Rattle.std.specs.Prelude.{slice_get}
use Rattle.std.proofs.lemmas.Bool.{cases_eq}
use Rattle.opgen_design.specs.declared.design.Design.{Design}
use Rattle.opgen_design.specs.declared.sound.SoundFault.TheVariants.{Unsound}
use Rattle.opgen_design.specs.Rules.{HoldsBefore, IsFirstFailing, IsFaultAt, FailsFirst, PortsPass, SignalsPass, fault_at}
use Rattle.opgen_design.specs.declared.sound.Rule.{Rule}
use Rattle.opgen_design.specs.Sound.{rule_number, Holds, DesignPasses, PortPasses, SignalPasses, DriverPasses, at_design}
use Rattle.opgen_design.proofs.FirstFailing.{before-none, none-failing}
use Rattle.opgen_design.proofs.SoundLaws.{holds-of, port-fault, signal-fault, driver-fault}
use Rattle.opgen_part_laws.proofs.Classical.{decided}

-- a list has a first place at which P fails, or none
module _ {X : Type 0} (P : ℕ → X → Type 0) (xs : List X) (neither : (o : Option ℕ) → IsFirstFailing P xs o → ⊥) where
  walk : (left n : ℕ) → n + left ≡ length xs → HoldsBefore P xs n → ⊥
  walk zero n e before = neither None (none-failing P xs n (omega (arith, e)) before)
  walk (suc left) n e before = decided (λ (v : IfSome (slice_get xs n) (P n) ⊎ (IfSome (slice_get xs n) (P n) → ⊥)). elim v [
    | inl h ↦
        walk left (n + 1) (omega (arith, e)) (λ i l. elim (cases_eq i n) [
          | inl f ↦ subst (λ j. IfSome (slice_get xs j) (P j)) (sym f) h
          | inr f ↦ before i (omega (arith, l, f))
        ])
    | inr h ↦ neither (Some n) (before, omega (arith, e), h)
  ])

  some_first : ⊥
  some_first = walk (length xs) 0 (omega arith) (before-none P xs)

module _ (d : Design) (r : Rule) (neither : Holds d r ⊎ ((number : ℕ) × FailsFirst d r number) → ⊥) where
  by_drivers : DesignPasses d r → PortsPass d r → SignalsPass d r → (o : Option ℕ) → IsFirstFailing (DriverPasses d r) d.drivers o → ⊥
  by_drivers w p s None h = neither (inl (holds-of d r w p s h))
  by_drivers w p s (Some n) h =
      let before = length d.ports + length d.signals in
      let fault : IsFaultAt d r (Unsound (rule_number r) (before + n + 1)) =
      driver-fault d r w p s (Some n) h (fault_at (rule_number r) before (Some n)) refl in
      neither (inr (before + n + 1, fault.1))

  by_signals : DesignPasses d r → PortsPass d r → (o : Option ℕ) → IsFirstFailing (SignalPasses d r) d.signals o → ⊥
  by_signals w p None h = some_first (DriverPasses d r) d.drivers (by_drivers w p h)
  by_signals w p (Some n) h =
      let fault : IsFaultAt d r (Unsound (rule_number r) (length d.ports + n + 1)) =
      signal-fault d r w p (Some n) h (fault_at (rule_number r) (length d.ports) (Some n)) refl in
      neither (inr (length d.ports + n + 1, fault.1))

  by_ports : DesignPasses d r → (o : Option ℕ) → IsFirstFailing (PortPasses d r) d.ports o → ⊥
  by_ports w None h = some_first (SignalPasses d r) d.signals (by_signals w h)
  by_ports w (Some n) h =
      let fault : IsFaultAt d r (Unsound (rule_number r) (0 + n + 1)) =
      port-fault d r w (Some n) h (fault_at (rule_number r) 0 (Some n)) refl in
      neither (inr (0 + n + 1, fault.1))

  pub judged : ⊥
  judged = decided (λ (v : DesignPasses d r ⊎ (DesignPasses d r → ⊥)). elim v [
    | inl w ↦ some_first (PortPasses d r) d.ports (by_ports w)
    | inr f ↦ neither (inr (0, record { earlier = λ p l. absurd (omega (arith, l)); fails = (at_design, refl, f) }))
  ])
