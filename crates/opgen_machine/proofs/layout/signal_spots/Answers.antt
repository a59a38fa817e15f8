use Rattle.std.proofs.Common.{◌+◌, ◌++◌, ◌∷◌, [], drop, map, sym, ap, ◌∙◌, append_assoc}
use Rattle.std.proofs.lemmas.List.{drop_more}
use Rattle.opgen_design.specs.declared.design.Signal.{Signal}
use Rattle.opgen_machine.specs.Layout.{spots_from}
use Rattle.opgen_machine.proofs.layout.signal_spots.Goals as goal

pub loop-place-preserved : goal.loop-place-preserved
loop-place-preserved c =
    let ss = c.args.signals.now in
    let i = c.loop-place.place in
    let s = c.index-signals-place.result in
    let front = c.loop-place.spots.items in
    let split = drop_more ss i s c.loop-place-test.true ∙ ap (λ x. x ∷ drop (i + 1) ss) (sym c.index-signals-place.is) in
    let left = spots_from (i + 1) (map (λ (x : Signal). x.width) (drop (i + 1) ss)) in
    ap (λ xs. xs ++ left) c.in_ok-push.ensures.items
    ∙ append_assoc front (record { place = i; width = s.width } ∷ []) left
    ∙ ap (λ xs. front ++ spots_from i (map (λ (x : Signal). x.width) xs)) (sym split)
    ∙ c.loop-place.invariant
