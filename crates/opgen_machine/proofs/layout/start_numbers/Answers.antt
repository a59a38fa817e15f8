use Rattle.std.proofs.Common.{◌≤◌, ◌++◌, ◌∷◌, [], length, map, take, sym, ap, ◌∙◌, subst}
use Rattle.std.specs.Prelude.{IfSome}
use Rattle.std.proofs.lemmas.List.{map_more}
use Rattle.opgen_design.specs.declared.design.Signal.{Signal}
use Rattle.opgen_machine.specs.Layout.{start_number}
use Rattle.opgen_machine.proofs.layout.start_numbers.Goals as goal

pub start_number-requires : goal.start_number-requires
start_number-requires c = subst (λ (s : Signal). IfSome s.initial (λ w. length w ≤ 64)) (sym c.signal-item.is)
    (c.requires c.loop-signal.signal-index c.signal-item.result c.loop-signal-test.true)

pub loop-signal-preserved : goal.loop-signal-preserved
loop-signal-preserved c =
    let ss = c.args.signals.now in
    let i = c.loop-signal.signal-index in
    let s = c.signal-item.result in
    let front = map start_number (take i ss) in
    c.in_ok-push.ensures.items
    ∙ ap (λ xs. xs ++ c.start_number.result ∷ []) c.loop-signal.invariant
    ∙ ap (λ x. front ++ x ∷ []) (c.start_number.ensures ∙ ap start_number c.signal-item.is)
    ∙ sym (map_more start_number ss i s c.loop-signal-test.true)
