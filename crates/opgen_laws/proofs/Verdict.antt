-- No design is neither sound nor has a first rule that fails.
use Rattle.std.proofs.Common.{◌≡◌, ℕ, suc, ◌<◌, ◌⊎◌, List, [], ◌∷◌, get_or, refl, sym, ap, ◌∙◌, subst, inl, inr, arith}
use Rattle.std.proofs.lemmas.Bool.{cases_eq}
use Rattle.opgen_design.specs.declared.design.Design.{Design}
use Rattle.opgen_design.specs.Rules.{FailsFirst}
use Rattle.opgen_design.specs.declared.sound.Rule.{Rule}
use Rattle.opgen_design.specs.declared.sound.Rule.TheVariants.{Undeclared, DeclaredTwice, Width, DrivenTwice, NotDriven, Cyclic, ReadsOutput, NoInitial, ChoiceTwice, BadEnable}
use Rattle.opgen_design.specs.Sound.{rule_number, Holds}
use Rattle.opgen_design.proofs.RuleOrder.{same-rule}
use Rattle.opgen_laws.specs.Verdict.{IsSoundOrFails, EachIsSoundOrFails}
use Rattle.opgen_laws.proofs.FirstPlaces.{judged}
use Rattle.opgen_laws.proofs.Numbering.{ordered}

-- the rules by number, from 1
abbrev rules : List Rule
rules = Undeclared ∷ Undeclared ∷ DeclaredTwice ∷ Width ∷ DrivenTwice ∷ NotDriven ∷ Cyclic ∷ ReadsOutput ∷ NoInitial ∷ ChoiceTwice ∷
    BadEnable ∷ []

abbrev rule_of : ℕ → Rule
rule_of number = get_or rules number Undeclared

of_number : (r : Rule) → rule_of (rule_number r) ≡ r
of_number Undeclared = refl
of_number DeclaredTwice = refl
of_number Width = refl
of_number DrivenTwice = refl
of_number NotDriven = refl
of_number Cyclic = refl
of_number ReadsOutput = refl
of_number NoInitial = refl
of_number ChoiceTwice = refl
of_number BadEnable = refl

from_one : (r : Rule) → rule_number r < 1 → ⊥
from_one r l =
    let e : rule_number r ≡ 0 = omega (arith, l) in
    let same : r ≡ Undeclared = sym (of_number r) ∙ ap rule_of e in
    let one : rule_number r ≡ 1 = ap rule_number same in
    omega (arith, e, one)

-- the rules before a number hold
abbrev HoldBefore : Design → ℕ → Type 0
HoldBefore d n = (r : Rule) → rule_number r < n → Holds d r

module _ (d : Design) (neither : IsSoundOrFails d → ⊥) where
  by_rule : (r : Rule) → HoldBefore d (rule_number r) → (HoldBefore d (suc (rule_number r)) → ⊥) → ⊥
  by_rule r earlier later = judged d r (λ (v : Holds d r ⊎ ((number : ℕ) × FailsFirst d r number)). elim v [
    | inl h ↦ later (λ q l. elim (cases_eq (rule_number q) (rule_number r)) [
      | inl e ↦ subst (Holds d) (sym (same-rule q r e)) h
      | inr e ↦ earlier q (omega (arith, l, e))
    ])
    | inr f ↦
        neither (inr (r, f.0, record { earlier_rules = earlier; earlier_places = f.1.earlier; fails = f.1.fails }))
  ])

  by_order : HoldBefore d 11 → ⊥
  by_order all = ordered d (all Undeclared (omega arith)) (all Cyclic (omega arith)) (λ order. neither (inl (record {
    declared = all Undeclared (omega arith);
    declared_once = all DeclaredTwice (omega arith);
    widths = all Width (omega arith);
    driven_once = all DrivenTwice (omega arith);
    driven = all NotDriven (omega arith);
    ordered = order;
    reads_inputs = all ReadsOutput (omega arith);
    initials = all NoInitial (omega arith);
    addresses = all ChoiceTwice (omega arith);
    enable = all BadEnable (omega arith);
  })))

  in_order : ⊥
  in_order =
      by_rule Undeclared (λ r l. absurd (from_one r l)) (λ h.
      by_rule DeclaredTwice h (λ h.
      by_rule Width h (λ h.
      by_rule DrivenTwice h (λ h.
      by_rule NotDriven h (λ h.
      by_rule Cyclic h (λ h.
      by_rule ReadsOutput h (λ h.
      by_rule NoInitial h (λ h.
      by_rule ChoiceTwice h (λ h.
      by_rule BadEnable h by_order)))))))))

pub has_verdict : EachIsSoundOrFails
has_verdict d neither = in_order d neither
