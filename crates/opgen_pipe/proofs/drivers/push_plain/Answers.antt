use Rattle.std.proofs.Common.{[], ◌∷◌, ◌++◌, not, sym, ap, ◌∙◌}
use Rattle.std.proofs.lemmas.List.{append-nil}
use Rattle.opgen_design.specs.Order.{is_register}
use Rattle.opgen_pipe.specs.Pipelined.{node_drivers}
use Rattle.opgen_pipe.specs.Standings.{standing_at}
use Rattle.opgen_pipe.proofs.Steps.{passing-more, plain-own, plain-delay}
use Rattle.opgen_pipe.proofs.drivers.push_plain.Goals as goal
use Rattle.opgen_pipe.proofs.drivers.push_plain.Goals.{then-not-is_delay+in_ok-own_driver+in_ok-push, else-not-is_delay}

pub nodes-preserved : goal.nodes-preserved
nodes-preserved c =
    let ps = c.args.standings.now in
    let first = c.args.first in
    let ns = c.args.nodes.now in
    let i = c.nodes.number in
    let n = c.index-nodes-number.result in
    let o = standing_at ps i in
    elim c.if-not-is_delay.branch [
      | then-not-is_delay+in_ok-own_driver+in_ok-push w ↦
          passing-more (node_drivers first ps)
          (λ k. not (is_register k)) ns i n c.nodes.drivers c.if-not-is_delay.drivers c.nodes-test.true c.index-nodes-number.is
          (
          w.drivers-is ∙ w.in_ok-push.ensures.ok ∙ ap (λ k. c.nodes.drivers ++ k ∷ []) w.in_ok-own_driver.ensures
          ∙ ap (λ ks. c.nodes.drivers ++ ks) (sym (plain-own first ps o n (sym c.is_delay.ensures ∙ w.if-not-is_delay.true)))
          )
          ∙ c.nodes.invariant
      | else-not-is_delay w ↦
          passing-more (node_drivers first ps)
          (λ k. not (is_register k)) ns i n c.nodes.drivers c.if-not-is_delay.drivers c.nodes-test.true c.index-nodes-number.is
          (w.drivers-is ∙ sym (append-nil c.nodes.drivers)
          ∙ ap (λ ks. c.nodes.drivers ++ ks) (sym (plain-delay first ps o n (sym c.is_delay.ensures ∙ w.if-not-is_delay.false))))
          ∙ c.nodes.invariant
    ]
