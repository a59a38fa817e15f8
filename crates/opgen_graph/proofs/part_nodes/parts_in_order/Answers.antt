use Rattle.std.proofs.Common.{◌≡◌, ◌+◌, ◌≤◌, ◌++◌, ◌∷◌, [], ℕ, List, Vec, Global, take, get_or, FitsSigned, sym, ap, ◌∙◌, subst, arith}
use Rattle.std.specs.Prelude.{ℤ, pos, unsigned_abs}
use Rattle.std.specs.Int.{w64}
use Rattle.std.proofs.lemmas.Int.{ints, to_z-of_z}
use Rattle.std.proofs.lemmas.List.{take_more, take_all}
use Rattle.opgen_graph.specs.Parts.{HasPart}
use Rattle.opgen_graph.proofs.PartLists.{ArePartsOf, parts_more, parts_same}
use Rattle.opgen_graph.proofs.part_nodes.parts_in_order.Goals.{in-Some+in_ok-push, in_default}
use Rattle.opgen_graph.proofs.part_nodes.parts_in_order.Goals as goal

pub numbers-preserved : goal.numbers-preserved
numbers-preserved c =
    let ts : List ℤ = c.args.numbers.now in
    let k = c.numbers.number-index in
    let found = c.numbers.found.items in
    let t : ℤ = get_or ts k (pos 0) in
    let small : unsigned_abs t ≤ 1048575 = c.requires k (pos 0) c.numbers-test.true in
    let fits : FitsSigned w64 t = omega (arith, ints) in
    let more : take k ts ++ t ∷ [] ≡ take (k + 1) ts = sym (take_more ts k (pos 0) c.numbers-test.true) in
    elim c.match-part.branch [
      | in-Some+in_ok-push w ↦ let is : HasPart w.in-Some.part t = simp to_z-of_z at w.in-Some.ensures.some in
          let items : c.match-part.found.items ≡ found ++ w.in-Some.part ∷ [] =
          ap (λ (v : Vec ℕ Global). v.items) w.found-is ∙ w.in_ok-push.ensures.items in
          subst (λ (xs : List ℕ). ArePartsOf xs (take (k + 1) ts)) (sym items)
          (subst (ArePartsOf (found ++ w.in-Some.part ∷ [])) more
          (parts_more found (take k ts) t w.in-Some.part c.numbers.invariant is))
      | in_default w ↦ let none : t ≡ pos 0 = simp to_z-of_z at w.in_default.ensures.none in
          let items : c.match-part.found.items ≡ found = ap (λ (v : Vec ℕ Global). v.items) w.found-is in
          subst (λ (xs : List ℕ). ArePartsOf xs (take (k + 1) ts)) (sym items)
          (subst (ArePartsOf found) more (parts_same found (take k ts) t c.numbers.invariant none))
    ]

pub returns : goal.returns
returns c =
    subst (ArePartsOf c.numbers.found.items) (take_all c.numbers.number-index c.args.numbers.now c.numbers-test.false) c.numbers.invariant
