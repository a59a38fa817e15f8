use Rattle.std.proofs.Common.{[], ◌∷◌, ◌++◌, map, sym, ap, ◌∙◌}
use Rattle.std.specs.List.{range_with_len}
use Rattle.std.proofs.lemmas.List.{append_assoc}
use Rattle.opgen_design.specs.Order.{is_register}
use Rattle.opgen_pipe.specs.Pipelined.{node_drivers, own_driver, copy_register}
use Rattle.opgen_pipe.specs.Standings.{standing_at}
use Rattle.opgen_pipe.proofs.Steps.{passing-more, register-own, register-delay}
use Rattle.opgen_pipe.proofs.drivers.push_registers.Goals as goal
use Rattle.opgen_pipe.proofs.drivers.push_registers.Goals.{then-is_delay+in_ok-own_driver+in_ok-push, else-is_delay}

pub nodes-preserved : goal.nodes-preserved
nodes-preserved c =
    let ps = c.args.standings.now in
    let first = c.args.first in
    let ns = c.args.nodes.now in
    let i = c.nodes.number in
    let n = c.index-nodes-number.result in
    let o = standing_at ps i in
    let copies = map (copy_register o) (range_with_len 0 o.copies) in
    elim c.if-is_delay.branch [
      | then-is_delay+in_ok-own_driver+in_ok-push w ↦
          passing-more (node_drivers first ps) is_register ns i n c.nodes.drivers c.push_copies.new.drivers c.nodes-test.true
          c.index-nodes-number.is
          (
          c.in_ok-push_copies.ensures
          ∙ ap (λ ks. ks ++ copies) (w.drivers-is ∙ w.in_ok-push.ensures.ok ∙ ap (λ k. c.nodes.drivers ++ k ∷ [])
          w.in_ok-own_driver.ensures)
          ∙ append_assoc c.nodes.drivers (own_driver first ps o n ∷ []) copies
          ∙ ap (λ ks. c.nodes.drivers ++ ks) (sym (register-delay first ps o n (sym c.is_delay.ensures ∙ w.if-is_delay.true)))
          )
          ∙ c.nodes.invariant
      | else-is_delay w ↦
          passing-more (node_drivers first ps) is_register ns i n c.nodes.drivers c.push_copies.new.drivers c.nodes-test.true
          c.index-nodes-number.is
          (c.in_ok-push_copies.ensures ∙ ap (λ ks. ks ++ copies) w.drivers-is
          ∙ ap (λ ks. c.nodes.drivers ++ ks) (sym (register-own first ps o n (sym c.is_delay.ensures ∙ w.if-is_delay.false))))
          ∙ c.nodes.invariant
    ]
