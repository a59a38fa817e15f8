use Rattle.std.proofs.Common.{◌≡◌, ℕ, ◌+◌, ◌<◌, List, [], ◌∷◌, ◌++◌, length, get_or, take, append_assoc, sym, ap, ◌∙◌}
use Rattle.std.proofs.lemmas.List.{map-append, take_all, take_more}
use Rattle.opgen_graph.specs.declared.ranks.Adder.{Adder}
use Rattle.opgen_graph.specs.Graphs.{values}
use Rattle.opgen_graph.proofs.Vectors.{one_more}
use Rattle.opgen_graph.proofs.ranks.place.Goals as goal

-- one value more
one_value : (fresh : List Adder) (i : ℕ) (none : Adder) → i < length fresh → (before now new : List ℕ)
    → now ≡ before ++ values (take i fresh) → new ≡ now ++ (get_or fresh i none).value ∷ [] → new ≡ before ++ values (take (i + 1) fresh)
one_value fresh i none lt before now new e h =
    let a = get_or fresh i none in
    h
    ∙ ap (λ xs. xs ++ a.value ∷ []) e
    ∙ append_assoc before (values (take i fresh)) (a.value ∷ [])
    ∙ ap (λ xs. before ++ xs) (sym (ap values (take_more fresh i none lt) ∙ map-append (λ b. b.value) (take i fresh) (a ∷ [])))

pub loop-adder-preserved : goal.loop-adder-preserved
loop-adder-preserved c = record {
  placed = one_value c.args.fresh.now c.loop-adder.adder-index _ c.loop-adder-test.true c.args.placed.now.items c.loop-adder.placed.items
      c.push.new.self.items c.loop-adder.invariant.placed c.in_ok-push.ensures.items;
  adders = one_more c.args.fresh.now c.loop-adder.adder-index _ c.loop-adder-test.true c.args.adders.now.items c.loop-adder.adders.items
      c.push-in-loop-adder.new.self.items c.loop-adder.invariant.adders c.in_ok-push-2.ensures.items;
}

pub returns-clause-placed : goal.returns-clause-placed
returns-clause-placed c = c.loop-adder.invariant.placed
    ∙ ap (λ xs. c.args.placed.now.items ++ values xs) (take_all c.loop-adder.adder-index c.args.fresh.now c.loop-adder-test.false)

pub returns-clause-adders : goal.returns-clause-adders
returns-clause-adders c = c.loop-adder.invariant.adders
    ∙ ap (λ xs. c.args.adders.now.items ++ xs) (take_all c.loop-adder.adder-index c.args.fresh.now c.loop-adder-test.false)
