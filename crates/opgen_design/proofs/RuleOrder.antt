-- The fault of a rule is the fault of the design if all rules before it hold.
use Rattle.std.proofs.Common.{◌≡◌, ℕ, ◌+◌, ◌<◌, if◌then◌else◌, Result, Ok, Err, IfErr, refl, sym, ap, ◌∙◌, subst, inl, inr, arith}
use Rattle.std.specs.Prelude.{nat_eq}
use Rattle.std.proofs.lemmas.Bool.{cases_lt}
use Rattle.opgen_design.specs.declared.design.Design.{Design}
use Rattle.opgen_design.specs.declared.sound.SoundFault.{SoundFault}
use Rattle.opgen_design.specs.declared.sound.SoundFault.TheVariants.{Unsound, Memory}
use Rattle.opgen_design.specs.declared.sound.Rule.{Rule}
use Rattle.opgen_design.specs.declared.sound.Rule.TheVariants.{Undeclared, DeclaredTwice, Width, DrivenTwice, NotDriven, Cyclic, ReadsOutput, NoInitial, ChoiceTwice, BadEnable}
use Rattle.opgen_design.specs.Rules.{IsFaultAt}
use Rattle.opgen_design.specs.Sound.{rule_number, Holds, IsFaultOf}

-- the rule of a number
abbrev rule_of : ℕ → Rule
rule_of n =
    if nat_eq n 1 then Undeclared
    else if nat_eq n 2 then DeclaredTwice
    else if nat_eq n 3 then Width
    else if nat_eq n 4 then DrivenTwice
    else if nat_eq n 5 then NotDriven
    else if nat_eq n 6 then Cyclic
    else if nat_eq n 7 then ReadsOutput
    else if nat_eq n 8 then NoInitial
    else if nat_eq n 9 then ChoiceTwice
    else BadEnable

rule-number : (r : Rule) → rule_of (rule_number r) ≡ r
rule-number Undeclared = refl
rule-number DeclaredTwice = refl
rule-number Width = refl
rule-number DrivenTwice = refl
rule-number NotDriven = refl
rule-number Cyclic = refl
rule-number ReadsOutput = refl
rule-number NoInitial = refl
rule-number ChoiceTwice = refl
rule-number BadEnable = refl

pub same-rule : (r q : Rule) → rule_number r ≡ rule_number q → r ≡ q
same-rule r q e = sym (rule-number r) ∙ ap rule_of e ∙ rule-number q

-- each rule of a smaller number holds
abbrev pub HoldBelow : Design → ℕ → Type 0
HoldBelow d n = (r : Rule) → rule_number r < n → Holds d r

module _ (d : Design) where
  pub none-below : HoldBelow d 1
  none-below = λ r l.
      let e : rule_number r ≡ 0 = omega (arith, l) in
      let s : r ≡ BadEnable = sym (rule-number r) ∙ ap rule_of e in
      let t : rule_number r ≡ 10 = ap rule_number s in
      absurd (omega (arith, e, t))

  pub one-more : (r : Rule) → HoldBelow d (rule_number r) → Holds d r → HoldBelow d (rule_number r + 1)
  one-more r before h = λ q l.
      elim (cases_lt (rule_number q) (rule_number r)) [
        | inl m ↦ before q m
        | inr m ↦ subst (Holds d) (same-rule r q (omega (arith, l, m))) h
      ]

  pub first-fault : (r : Rule) → HoldBelow d (rule_number r) → (f : SoundFault) → IsFaultAt d r f → IsFaultOf d f
  first-fault r before (Unsound number place) h =
      (r, h.0, record { earlier_rules = before; earlier_places = h.1.earlier; fails = h.1.fails })
  first-fault r before Memory h = tt

  pub below-widths : Holds d Undeclared → Holds d DeclaredTwice → HoldBelow d 3
  below-widths a b = one-more DeclaredTwice (one-more Undeclared none-below a) b

  pub below-driven : Holds d Undeclared → Holds d DeclaredTwice → Holds d Width → HoldBelow d 4
  below-driven a b c = one-more Width (below-widths a b) c

  pub below-cycles : HoldBelow d 4 → Holds d DrivenTwice → Holds d NotDriven → HoldBelow d 6
  below-cycles before a b = one-more NotDriven (one-more DrivenTwice before a) b

  pub below-initials : HoldBelow d 6 → Holds d Cyclic → Holds d ReadsOutput → HoldBelow d 8
  below-initials before a b = one-more ReadsOutput (one-more Cyclic before a) b

  pub below-enable : HoldBelow d 8 → Holds d NoInitial → Holds d ChoiceTwice → HoldBelow d 10
  below-enable before a b = one-more ChoiceTwice (one-more NoInitial before a) b

  pub first-fault_of : (r : Rule) → HoldBelow d (rule_number r) → (o : Result (Unit {0}) SoundFault) → IfErr o (IsFaultAt d r)
      → IfErr o (IsFaultOf d)
  first-fault_of r before (Ok x) h = tt
  first-fault_of r before (Err f) h = first-fault r before f h
