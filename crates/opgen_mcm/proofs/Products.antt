-- The outputs of several constants have the products.
use Rattle.std.proofs.Common.{◌≡◌, ◌++◌, map, ap, ◌∙◌, arith}
use Rattle.std.specs.Prelude.{◌*ℤ◌}
use Rattle.opgen_num.specs.Words.{val}
use Rattle.opgen_net.specs.declared.net.Net.{Net}
use Rattle.opgen_net.specs.Flow.{slice_flow}
use Rattle.opgen_kinds.specs.declared.several.Several.{Several}
use Rattle.opgen_kinds.specs.Several.{IsAcceptedSeveral, multiple_ports}
use Rattle.opgen_operator.specs.Outputs.{output_words}
use Rattle.opgen_graph.specs.declared.ranks.Graph.{Graph}
use Rattle.opgen_graph.specs.Recipe.{with_input, Multiples, multiples_of, net_of_graph}
use Rattle.opgen_graph.specs.Served.{Serves}
use Rattle.opgen_graph.proofs.Fits.{ports-wide, ready, odd_parts, ranges}
use Rattle.opgen_graph.proofs.Kept.{Keeps, keeps-later, keeps-then}
use Rattle.opgen_graph.proofs.Outputs.{HasOutputs, all-outputs, right-at}
use Rattle.opgen_graph.proofs.ServedNets.{stands}
use Rattle.opgen_graph.proofs.Standing.{Stands}
use Rattle.opgen_mcm.specs.Products.{HasProducts}

module _ (m : Several) (is : IsAcceptedSeveral m) (graph : Graph) (serves : Serves m.constants graph) where
  abbrev before : Multiples
  before = multiples_of m.input graph

  abbrev net : Net
  net = net_of_graph graph m

  has : HasOutputs m.input before 0 m.constants net
  has = all-outputs m.input 0 before m.constants (ready m is graph serves) (ranges m is graph serves).constants (odd_parts m is graph serves)
      (ports-wide m.input (ranges m is graph serves).input 0 m.constants (ranges m is graph serves).constants)

  grown : Stands m.input before
  grown = stands m.input (ranges m is graph serves).input m.constants (ranges m is graph serves).constants graph serves

  keeps : Keeps (with_input m.input) net
  keeps = keeps-then (with_input m.input) before.net net (keeps-later (with_input m.input) before.net grown.later) has.keeps

  outputs_are : net.outputs ≡ has.made
  outputs_are = has.outputs ∙ ap (λ os. os ++ has.made) grown.later.grown.outputs

  pub products : HasProducts m net
  products k c got inputs t words =
      ap (λ os. output_words (multiple_ports m) (map (λ o. slice_flow net.nodes inputs o.from t) os) k) outputs_are
      ∙ right-at m.input net has.made m.constants has.right 0 k c got inputs t words
      ∙ ap (λ w. val w m.input *ℤ c) (keeps.nodes.flow inputs 0 t (omega arith))
