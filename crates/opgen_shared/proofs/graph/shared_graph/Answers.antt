use Rattle.std.proofs.Common.{ℕ, ◌≤◌, ◌<◌, List, [], length, get_or, take, All, Contains, inr, sym, ap, subst, arith}
use Rattle.std.proofs.lemmas.List.{take_all, take_more}
use Rattle.opgen_graph.specs.Reach.{IsWideMember}
use Rattle.opgen_shared.specs.Digits.{digit_adders}
use Rattle.opgen_shared.specs.Rule.{GrowsBy, over}
use Rattle.opgen_shared.specs.Sums.{placed_by}
use Rattle.opgen_shared.proofs.Costs.{cost_more, one_made, holds_parts, serves}
use Rattle.opgen_shared.proofs.Forms.{some_digits}
use Rattle.opgen_shared.proofs.RuleLaws.{grows_more}
use Rattle.opgen_shared.proofs.graph.shared_graph.Goals as goal

pub make-requires-clause-weight : goal.make-requires-clause-weight
make-requires-clause-weight c =
    let part = get_or c.as_slice-part-items.result.now c.parts.part-index 0 in
    let parts = c.as_slice-part-items.ensures.value in
    let wide : IsWideMember part = subst (All IsWideMember) (sym parts) c.in_ok-parts.ensures.each c.parts.part-index 0 c.parts-test.true in
    record {
      some = some_digits part c.digit_count.result (omega (arith, wide.1)) c.digit_count.ensures;
      counted = inr c.digit_count.ensures;
    }

pub parts-preserved : goal.parts-preserved
parts-preserved c =
    let i = c.parts.invariant in
    let e = c.in_ok-make.ensures in
    record {
      sums = e.sums;
      grows = subst (λ xs. GrowsBy [] xs c.make.new.sums.adders)
          (sym (take_more c.as_slice-part-items.result.now c.parts.part-index 0 c.parts-test.true))
          (grows_more [] (take c.parts.part-index c.as_slice-part-items.result.now) c.parts.sums.adders _ c.make.new.sums.adders i.grows e.grows);
      made = one_made c.as_slice-part-items.result.now c.parts.sums.adders c.make.new.sums.adders c.parts.part-index i.made e.kept e.made;
      few = λ form forms. cost_more form c.as_slice-part-items.result.now c.parts.part-index (length c.parts.sums.adders)
          (length c.make.new.sums.adders) c.digit_count.result forms c.parts-test.true (i.few form forms) c.digit_count.ensures e.few;
    }

pub parts-init : goal.parts-init
parts-init c = record {
  sums = c.in_ok-sums.ensures.sums;
  grows = subst (GrowsBy [] []) (sym c.in_ok-sums.ensures.none) over;
  made = λ k lt. absurd (omega (arith, lt));
  few = λ form forms. omega (arith, ap length c.in_ok-sums.ensures.none);
}

pub returns-clause-rule : goal.returns-clause-rule
returns-clause-rule c =
    let parts = c.as_slice-part-items.ensures.value in
    record {
      parts = c.in_ok-parts.parts.items;
      are_parts = c.in_ok-parts.ensures.parts;
      grows = subst (λ (xs : List ℕ). GrowsBy [] xs c.parts.sums.adders) parts
          (subst (λ (xs : List ℕ). GrowsBy [] xs c.parts.sums.adders)
          (take_all c.parts.part-index c.as_slice-part-items.result.now c.parts-test.false) c.parts.invariant.grows);
    }

pub returns-clause-serves : goal.returns-clause-serves
returns-clause-serves c =
    let parts = c.as_slice-part-items.ensures.value in
    let graph = c.parts.invariant.sums.graph in
    serves c.args.numbers.now (record { adders = c.parts.sums.adders }) graph
    (holds_parts c.args.numbers.now c.in_ok-parts.parts.items c.parts.sums.adders c.parts.part-index c.in_ok-parts.ensures.parts
    (subst (λ xs. length xs ≤ c.parts.part-index) parts c.parts-test.false)
    (subst (λ (xs : List ℕ). (k : ℕ) → k < c.parts.part-index → Contains (placed_by c.parts.sums.adders) (get_or xs k 0)) parts
    c.parts.invariant.made))

pub returns-clause-few : goal.returns-clause-few
returns-clause-few c =
    let parts = c.as_slice-part-items.ensures.value in
    record {
      parts = c.in_ok-parts.parts.items;
      are_parts = c.in_ok-parts.ensures.parts;
      few = λ form forms. subst (λ (xs : List ℕ). length c.parts.sums.adders ≤ digit_adders form xs) parts
          (subst (λ (xs : List ℕ). length c.parts.sums.adders ≤ digit_adders form xs)
          (take_all c.parts.part-index c.as_slice-part-items.result.now c.parts-test.false) (c.parts.invariant.few form forms));
    }
