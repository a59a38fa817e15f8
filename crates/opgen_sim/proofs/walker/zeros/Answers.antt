use Rattle.std.proofs.Common.{[], ◌∷◌, ◌++◌, List, Bool, map, take, get_or, sym, ap, ◌∙◌}
use Rattle.std.proofs.lemmas.List.{map-append, take_more}
use Rattle.opgen_num.specs.Words.{word}
use Rattle.opgen_design.specs.declared.design.Port.{Port}
use Rattle.opgen_sim.proofs.walker.zeros.Goals as goal

abbrev zero : Port → List Bool
zero p = word p.width 0

pub loop-port-preserved : goal.loop-port-preserved
loop-port-preserved c =
    let ps = c.args.ports.now in
    let i = c.loop-port.port-index in
    let p = c.port-item.result in
    c.in_ok-push.ensures.items
    ∙ ap (λ ws. ws ++ c.new.result ∷ []) c.loop-port.invariant
    ∙ ap (λ w. map zero (take i ps) ++ w ∷ []) (c.new.ensures ∙ ap zero c.port-item.is)
    ∙ sym (ap (map zero) (take_more ps i p c.loop-port-test.true) ∙ map-append zero (take i ps) (get_or ps i p ∷ []))
