use Rattle.std.proofs.Common.{◌≡◌, ◌+◌, ◌≤◌, ◌++◌, ◌∷◌, [], ℕ, List, Vec, Global, length, length-append, take, get_or, FitsSigned, sym, ap, ◌∙◌, subst, arith}
use Rattle.std.specs.Prelude.{ℤ, pos, unsigned_abs}
use Rattle.std.specs.Int.{w64}
use Rattle.std.proofs.lemmas.Int.{ints, to_z-of_z}
use Rattle.std.proofs.lemmas.List.{take_more, take_all}
use Rattle.opgen_graph.specs.Targets.{HasTarget}
use Rattle.opgen_graph.proofs.TargetLists.{Lists, list_more, list_same}
use Rattle.opgen_graph.proofs.odd_parts.odd_parts.Goals.{in-Some+in_ok-push, in_default}
use Rattle.opgen_graph.proofs.odd_parts.odd_parts.Goals as goal

pub constants-preserved : goal.constants-preserved
constants-preserved c =
    let ts : List ℤ = c.args.constants.now in
    let k = c.constants.constant-index in
    let found = c.constants.found.items in
    let t : ℤ = get_or ts k (pos 0) in
    let small : unsigned_abs t ≤ 2047 = c.requires k (pos 0) c.constants-test.true in
    let fits : FitsSigned w64 t = omega (arith, ints) in
    let more : take k ts ++ t ∷ [] ≡ take (k + 1) ts = sym (take_more ts k (pos 0) c.constants-test.true) in
    elim c.match-target.branch [
      | in-Some+in_ok-push w ↦ let is : HasTarget t w.in-Some.part = simp to_z-of_z at w.in-Some.ensures.some in
          let items : c.match-target.found.items ≡ found ++ w.in-Some.part ∷ [] =
          ap (λ (v : Vec ℕ Global). v.items) w.found-is ∙ w.in_ok-push.ensures.items in
          record {
            parts = subst (λ (xs : List ℕ). Lists xs (take (k + 1) ts)) (sym items)
                (subst (Lists (found ++ w.in-Some.part ∷ [])) more
                (list_more found (take k ts) t w.in-Some.part c.constants.invariant.parts is));
            few = omega (arith, ap length items, length-append found (w.in-Some.part ∷ []), c.constants.invariant.few);
          }
      | in_default w ↦ let none : (x : ℕ) → HasTarget t x → ⊥ = simp to_z-of_z at w.in_default.ensures.none in
          let items : c.match-target.found.items ≡ found = ap (λ (v : Vec ℕ Global). v.items) w.found-is in
          record {
            parts = subst (λ (xs : List ℕ). Lists xs (take (k + 1) ts)) (sym items)
                (subst (Lists found) more (list_same found (take k ts) t c.constants.invariant.parts none));
            few = omega (arith, ap length items, c.constants.invariant.few);
          }
    ]

pub returns-clause-parts : goal.returns-clause-parts
returns-clause-parts c =
    subst (Lists c.constants.found.items) (take_all c.constants.constant-index c.args.constants.now c.constants-test.false)
    c.constants.invariant.parts
