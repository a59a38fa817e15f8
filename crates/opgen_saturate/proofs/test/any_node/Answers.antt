use Rattle.std.proofs.Common.{◌≡◌, ◌+◌, ◌-◌, suc, List, [], ◌∷◌, ◌++◌, map, append_assoc, ap, ◌∙◌, arith}
use Rattle.std.proofs.lemmas.List.{map-append}
use Rattle.opgen_design.specs.declared.expr.Expr.{Expr}
use Rattle.opgen_design.specs.Plain.{plain}
use Rattle.opgen_design.specs.Tree.{name}
use Rattle.opgen_saturate.specs.Recipe.{node_list}
use Rattle.opgen_saturate.proofs.test.any_node.Goals as goal

pub nodes-preserved : goal.nodes-preserved
nodes-preserved c =
    let first = c.args.first in
    let k = c.nodes.left - 1 in
    let found = c.nodes.found.items in
    let next : suc k ≡ c.nodes.left = omega (arith, c.nodes-test.true) in
    record {
      nodes = ap (λ (es : List Expr). map plain es ++ node_list first k) c.in_ok-push.ensures.items
          ∙ ap (λ ts. ts ++ node_list first k) (map-append plain found (c.all_of.result ∷ []))
          ∙ ap (λ t. (map plain found ++ t ∷ []) ++ node_list first k) c.all_of.ensures
          ∙ append_assoc (map plain found) (name (first + k) ∷ []) (node_list first k)
          ∙ ap (λ n. map plain found ++ node_list first n) next
          ∙ c.nodes.invariant.nodes;
      few = omega (arith, c.nodes.invariant.few);
    }
