-- Each graph by the rule of numbers of 20 bits is a shared graph, and has their odd parts.
use Rattle.std.proofs.Common.{◌≡◌, ◌⊎◌, inl, inr, ⊎_elim, ℕ, ◌-◌, ◌≤◌, ◌<◌, List, [], ◌∷◌, ◌++◌, All, Contains, refl, sym, subst, arith}
use Rattle.std.proofs.lemmas.List.Elements.{All-head, All-tail}
use Rattle.opgen_graph.specs.declared.ranks.Adder.{Adder}
use Rattle.opgen_graph.specs.Graphs.{values}
use Rattle.opgen_graph.specs.Reach.{IsWide, IsWideMember}
use Rattle.opgen_graph.proofs.Members.{of_cons, of_nil, all_of}
use Rattle.opgen_shared.specs.Digits.{digit_count}
use Rattle.opgen_shared.specs.Rule.{IsStepTo, Grows, stands, made, GrowsBy, over, next, RuleGraphServes, heavier, weight}
use Rattle.opgen_shared.specs.Shared.{IsSharedGraph}
use Rattle.opgen_shared.specs.Steps.{AreLight}
use Rattle.opgen_shared.specs.Sums.{placed_by}
use Rattle.opgen_shared.proofs.Costs.{each_wide, serves}
use Rattle.opgen_shared.proofs.Existence.{above_one, operand}
use Rattle.opgen_shared.proofs.Growing.{graph_more, last, still}
use Rattle.opgen_shared.proofs.Making.{still_new, light_more}

-- ---- one number
record IsMadeIn (done : List Adder) (number : ℕ) (after : List Adder) : Type 0 where
  graph : IsSharedGraph after
  made : Contains (placed_by after) number
  kept : (x : ℕ) → Contains (placed_by done) x → Contains (placed_by after) x
  light : (most : ℕ) → Contains (placed_by done) number ⊎ (digit_count number ≤ most) → AreLight done most after

module _ (done : List Adder) (number : ℕ) (a : Adder) (step : IsStepTo done number a) where
  abbrev fewer : ℕ
  fewer = digit_count number - 1

  light_operand : (x : ℕ) → weight done x ≤ heavier done a → Contains (placed_by done) x ⊎ (digit_count x ≤ fewer)
  light_operand x most =
      ⊎_elim (λ (c : Contains (placed_by done) x). inl c) (λ (lt : digit_count x < digit_count number). inr (omega (arith, lt)))
      (operand done x (heavier done a) (digit_count number) (digit_count number) most step.lighter (omega arith))

  module _ (first both : List Adder) (u : IsMadeIn done a.u first) (v : IsMadeIn first a.v both) where
    between : AreLight done fewer both
    between x c =
        ⊎_elim
        (λ (k : Contains (placed_by first) x). u.light fewer (light_operand a.u (omega arith)) x k)
        (λ (few : digit_count x ≤ fewer). inr few)
        (v.light fewer (
        ⊎_elim (λ (k : Contains (placed_by done) a.v). inl (u.kept a.v k)) (λ (few : digit_count a.v ≤ fewer). inr few)
        (light_operand a.v (omega arith))) x c)

    joined : IsWide number → (Contains (placed_by done) number → ⊥) → IsMadeIn done number (both ++ a ∷ [])
    joined wide non =
        let lt : fewer < digit_count number = omega (arith, step.lighter) in
        let new = still_new done both number (digit_count number) fewer non refl lt between in
        record {
          graph = graph_more both a v.graph (subst IsWideMember (sym step.value) (above_one done number wide non))
              (λ c. new (subst (Contains (placed_by both)) step.value c)) (v.kept a.u u.made) v.made step.adder.shifted step.adder.makes;
          made = subst (Contains (placed_by (both ++ a ∷ []))) step.value (last both a);
          kept = λ x c. still both a x (v.kept x (u.kept x c));
          light = λ most few x c.
              ⊎_elim
              (λ (k : Contains (placed_by done) x). inl k)
              (λ (l : digit_count x ≤ digit_count number). ⊎_elim (λ (k : Contains (placed_by done) number). absurd (non k))
              (λ (m : digit_count number ≤ most). inr (omega (arith, l, m))) few)
              (light_more done both (both ++ a ∷ []) number (digit_count number) fewer a step.value refl lt between refl x c);
        }

made_in : (done : List Adder) (number : ℕ) (after : List Adder) → Grows done number after → IsSharedGraph done → IsWide number
    → IsMadeIn done number after
made_in done number _ (stands c) g wide = record { graph = g; made = c; kept = λ x k. k; light = λ most few x k. inl k }
made_in done number _ (made {first = first} {both = both} a non best gu gv) g wide =
    let u = made_in done a.u first gu g best.step.adder.u in
    let v = made_in first a.v both gv u.graph best.step.adder.v in
    joined done number a best.step first both u v wide non

-- ---- one number after the other
record AreMadeIn (done : List Adder) (numbers : List ℕ) (after : List Adder) : Type 0 where
  graph : IsSharedGraph after
  made : (x : ℕ) → Contains numbers x → Contains (placed_by after) x
  kept : (x : ℕ) → Contains (placed_by done) x → Contains (placed_by after) x

are_made_in : (done : List Adder) (numbers : List ℕ) (after : List Adder) → GrowsBy done numbers after → IsSharedGraph done
    → All IsWideMember numbers → AreMadeIn done numbers after
are_made_in done _ _ over g each = record { graph = g; made = λ x c. absurd (of_nil x c); kept = λ x c. c }
are_made_in done _ after (next {first = first} {number = n} {numbers = ns} h more) g each =
    let wide = All-head IsWideMember n ns each in
    let one = made_in done n first h g (wide.0, wide.2) in
    let rest = are_made_in first ns after more one.graph (All-tail IsWideMember n ns each) in
    record {
      graph = rest.graph;
      made = λ x c. ⊎_elim (λ (e : n ≡ x). subst (Contains (placed_by after)) e (rest.kept n one.made)) (λ (k : Contains ns x). rest.made x k)
          (of_cons n x ns c);
      kept = λ x c. rest.kept x (one.kept x c);
    }

-- ---- from 1 on
pub rule_graph_serves : RuleGraphServes
rule_graph_serves numbers graph small is =
    let none : IsSharedGraph [] = record { wired = tt; new = tt; members = all_of IsWideMember [] (λ x c. absurd (of_nil x c)) } in
    let all = are_made_in [] is.parts graph.adders is.grows none (each_wide numbers is.parts small is.are_parts) in (
      all.graph,
      serves numbers graph all.graph
          (λ x target.
          let (t, c, h) = target in
          ⊎_elim (λ (e : 1 ≡ x). absurd (omega (arith, e, h.above))) (λ (k : Contains (values graph.adders) x). k)
          (of_cons 1 x (values graph.adders) (all.made x ((is.are_parts.members x).1 target)))),
    )
