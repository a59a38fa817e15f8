-- What laws need of each kind of operator, one arm a kind: it has few ports, at most one net and one set of adders, and one of
-- each unless it is refused.
use Rattle.std.proofs.Common.{◌≡◌, ℕ, ◌+◌, ◌^◌, ◌≤◌, Bool, true, false, List, [], length, map, All, Contains, refl, sym, ap, ◌∙◌, subst, arith}
use Rattle.std.specs.Prelude.{ℤ, IsTrue, codes}
use Rattle.std.proofs.lemmas.List.{length-map}
use Rattle.std.proofs.lemmas.List.Elements.{All-contains}
use Rattle.opgen_ports.specs.declared.ports.PortFormat.{PortFormat}
use Rattle.opgen_ports.specs.Ports.{port, with_rest}
use Rattle.opgen_ports.specs.Ranges.{IsWithin}
use Rattle.opgen_kinds.specs.Pair.{quotient_format, remainder_format}
use Rattle.opgen_kinds.specs.Several.{constant_format}
use Rattle.opgen_kinds.specs.Single.{rest_format, root_format}
use Rattle.opgen_kinds.specs.SmallDiv.{small_quotient_format, small_rest_format}
use Rattle.opgen_kinds.proofs.of_kind.Several.{length-numbered}
use Rattle.opgen_operator.specs.declared.operator.Operator.{Operator}
use Rattle.opgen_operator.specs.declared.operator.Operator.TheVariants.{Scale, Fir, Multiply, Divide, Root, Mcm, Constdiv, Poly, Tfir, Sop}
use Rattle.opgen_operator.specs.declared.spec.Spec.{Spec}
use Rattle.opgen_operator.specs.Operator.{IsOperator, operator_inputs, operator_outputs}
use Rattle.opgen_operator.specs.Valid.{IsValidSpec}
use Rattle.opgen_operator.proofs.Accepted.{accepted_ranges}
use Rattle.opgen_net.specs.declared.net.Net.{Net}
use Rattle.opgen_constdiv.specs.Recipe.{net_of as net_of_small}
use Rattle.opgen_divide.specs.Recipe.{net_of_pair}
use Rattle.opgen_fir.specs.Recipe.{net_of_sum}
use Rattle.opgen_graph.specs.declared.ranks.Adder.{Adder}
use Rattle.opgen_graph.specs.declared.ranks.Graph.{Graph}
use Rattle.opgen_graph.specs.Graphs.{values}
use Rattle.opgen_graph.specs.Reach.{IsWideMember}
use Rattle.opgen_graph.specs.Recipe.{net_of_graph}
use Rattle.opgen_mult.specs.OneNet.{HasOneNet as HasOneProduct}
use Rattle.opgen_poly.specs.Recipe.{net_of_poly}
use Rattle.opgen_saturate.specs.Chosen.{cut_net}
use Rattle.opgen_search.specs.Recipe.{OneAdderSet, OneLeastGraph}
use Rattle.opgen_search.proofs.Sets.{same_set}
use Rattle.opgen_shared.specs.Rule.{OneRuleGraph, SomeRuleGraph}
use Rattle.opgen_shared.proofs.Serving.{rule_graph_serves}
use Rattle.opgen_sop.specs.OneNet.{HasOneNetOfSop}
use Rattle.opgen_sqrt.specs.Recipe.{net_of_single}
use Rattle.opgen_tfir.specs.Recipe.{net_of_taps}
use Rattle.opgen_part_laws.proofs.SomeListing.{some_list}
use Rattle.opgen_part_laws.proofs.SomeNet.{some_least_graph}
use Rattle.opgen_top.specs.AdderGraphs.{IsGraphOf}
use Rattle.opgen_top.specs.Circuit.{CircuitsServe}
use Rattle.opgen_top.specs.Kinds.{AreAddersOf, AreAddersOfOperator, IsNetOf, IsNetOfOperator}
use Rattle.opgen_top.proofs.Building.{accepted_kind}
use Rattle.opgen_laws.proofs.ProductNets.{product_net}
use Rattle.opgen_laws.proofs.SopNets.{some_sop_net}

-- ---- few ports
rest_length : (exact : Bool) (main rest : PortFormat) → length (with_rest exact main rest) ≤ 2
rest_length true main rest = omega arith
rest_length false main rest = omega arith

pub few_ports : (op : Operator) → IsOperator op → length (operator_inputs op) + length (operator_outputs op) ≤ 64
few_ports (Scale s) is = omega arith
few_ports (Fir s) is = omega arith
few_ports (Multiply p) is = omega arith
few_ports (Divide p) is =
    omega (arith, rest_length p.exact (port (codes "q") (quotient_format p)) (port (codes "r") (remainder_format p)))
few_ports (Root r) is = omega (arith, rest_length r.exact (port (codes "y") (root_format r)) (port (codes "r") (rest_format r)))
few_ports (Mcm m) is =
    let few = is.few in
    let formats = map (constant_format m.input) m.constants in
    omega (arith, few, length-numbered 0 formats, length-map m.constants (constant_format m.input))
few_ports (Constdiv c) is =
    omega (arith, rest_length c.exact (port (codes "q") (small_quotient_format c)) (port (codes "r") (small_rest_format c)))
few_ports (Poly p) is = omega arith
few_ports (Tfir f) is = omega arith
few_ports (Sop s) is = let few = is.inputs.few in omega (arith, few)

-- ---- at most one net and one set of adders

-- the kinds whose nets are found by a search, or by a rule, have one each, and one set of adders
pub record OneOfEach : Type 0 where
  pub products : HasOneProduct
  pub sums : HasOneNetOfSop
  pub adders : OneAdderSet
  pub graphs : OneLeastGraph
  pub rules : OneRuleGraph

module _ (one : OneOfEach) where
  one_graph : (searched : Bool) (numbers : List ℤ) (width extra : ℕ) (set other : List ℕ) (graph another : Graph)
      → IsGraphOf searched numbers width extra set graph → IsGraphOf searched numbers width extra other another → graph ≡ another
  one_graph true numbers width extra set other graph another h k = one.graphs numbers width extra set other graph another h k
  one_graph false numbers width extra set other graph another h k =
      ap (λ (adders : List Adder). record { adders = adders }) (one.rules numbers graph.adders another.adders h.rule k.rule)

  one_set : (searched : Bool) (numbers : List ℤ) (width extra : ℕ) (set other : List ℕ) (graph another : Graph)
      → IsGraphOf searched numbers width extra set graph → IsGraphOf searched numbers width extra other another → set ≡ other
  one_set true numbers width extra set other graph another h k = one.adders numbers width extra set other h.adders k.adders
  one_set false numbers width extra set other graph another h k =
      let same = one.rules numbers graph.adders another.adders h.rule k.rule in
      same_set set other h.increasing k.increasing
      (λ x c. (k.members x).1 (subst (λ (adders : List Adder). Contains (values adders) x) same ((h.members x).0 c)))
      (λ x c. (h.members x).1 (subst (λ (adders : List Adder). Contains (values adders) x) (sym same) ((k.members x).0 c)))

  pub one_of_operator : (op : Operator) (a b : Net) → IsNetOfOperator op a → IsNetOfOperator op b → a ≡ b
  one_of_operator (Scale sum) a b h k = h ∙ sym k
  one_of_operator (Fir sum) a b h k = h ∙ sym k
  one_of_operator (Multiply product) a b h k = one.products product a b h k
  one_of_operator (Divide pair) a b h k = h ∙ sym k
  one_of_operator (Root single) a b h k = h ∙ sym k
  one_of_operator (Mcm m) a b h k =
      h.by
      ∙ ap (λ graph. net_of_graph graph m) (one_graph m.searched m.constants m.input.width m.extra h.set k.set h.graph k.graph h.is k.is)
      ∙ sym k.by
  one_of_operator (Constdiv small) a b h k = h ∙ sym k
  one_of_operator (Poly poly) a b h k = h ∙ sym k
  one_of_operator (Tfir taps) a b h k =
      h.by
      ∙ ap (net_of_taps taps) (one_graph taps.searched taps.taps taps.input.width taps.extra h.set k.set h.graph k.graph h.is k.is)
      ∙ sym k.by
  one_of_operator (Sop s) a b h k = one.sums s a b h k

  pub one_adders_of : (op : Operator) (a b : List ℕ) → AreAddersOfOperator op a → AreAddersOfOperator op b → a ≡ b
  one_adders_of (Scale sum) a b h k = h ∙ sym k
  one_adders_of (Fir sum) a b h k = h ∙ sym k
  one_adders_of (Multiply product) a b h k = h ∙ sym k
  one_adders_of (Divide pair) a b h k = h ∙ sym k
  one_adders_of (Root single) a b h k = h ∙ sym k
  one_adders_of (Mcm m) a b h k = one_set m.searched m.constants m.input.width m.extra a b h.graph k.graph h.is k.is
  one_adders_of (Constdiv small) a b h k = h ∙ sym k
  one_adders_of (Poly poly) a b h k = h ∙ sym k
  one_adders_of (Tfir taps) a b h k = one_set taps.searched taps.taps taps.input.width taps.extra a b h.graph k.graph h.is k.is
  one_adders_of (Sop s) a b h k = h ∙ sym k

-- ---- one net and one set of adders, unless it is refused

-- laws that the answers rest on
pub record NetLaws : Type 0 where
  pub serve : CircuitsServe
  pub rules : SomeRuleGraph

-- numbers have a graph
some_graph : NetLaws → (searched : Bool) (numbers : List ℤ) (width extra : ℕ) → All (IsWithin 1048575) numbers
    → (IsTrue searched → All (IsWithin 2047) numbers)
    → ((set : List ℕ) (graph : Graph) → IsGraphOf searched numbers width extra set graph → ⊥) → ⊥
some_graph laws true numbers width extra wide small found =
    some_least_graph numbers width extra (small refl) (λ least. found least.set least.graph least.is)
some_graph laws false numbers width extra wide small found =
    laws.rules numbers wide (λ adders rule.
    let graph : Graph = record { adders = adders } in
    let serves = (rule_graph_serves numbers graph wide rule).1 in
    some_list (Contains (values adders)) (2 ^ 21) (λ x c. (All-contains IsWideMember (values adders) x serves.members c).2) (λ set up is.
    found set graph (record { rule = rule; increasing = up; members = is })))

module _ (laws : NetLaws) (spec : Spec) (valid : IsValidSpec spec)
    (found : (net : Net) (adders : List ℕ) → IsNetOf spec net → AreAddersOf spec adders → ⊥) where
  with_net : (op : Operator) (net : Net) (adders : List ℕ) → spec.op ≡ op → IsNetOfOperator op net → AreAddersOfOperator op adders → ⊥
  with_net op net adders e of are =
      found (cut_net spec net) adders
      (record { own = net; by_kind = subst (λ o. IsNetOfOperator o net) (sym e) of; cut = refl })
      (subst (λ o. AreAddersOfOperator o adders) (sym e) are)

  pub of_kind : (op : Operator) → spec.op ≡ op → ⊥
  of_kind (Scale s) e = with_net (Scale s) (net_of_sum s) [] e refl refl
  of_kind (Fir s) e = with_net (Fir s) (net_of_sum s) [] e refl refl
  of_kind (Multiply p) e = let made = product_net p in with_net (Multiply p) made.0 [] e made.1 refl
  of_kind (Divide p) e = with_net (Divide p) (net_of_pair p) [] e refl refl
  of_kind (Root r) e = with_net (Root r) (net_of_single r) [] e refl refl
  of_kind (Mcm m) e =
      let ranges = accepted_ranges (Mcm m) (accepted_kind spec valid (Mcm m) e) in
      some_graph laws m.searched m.constants m.input.width m.extra ranges.constants (λ asked. (ranges.searched asked).constants) (
      λ set graph is. with_net (Mcm m) (net_of_graph graph m) set e
      (record { set = set; graph = graph; is = is; by = refl }) (record { graph = graph; is = is }))
  of_kind (Constdiv c) e = with_net (Constdiv c) (net_of_small c.exact c.input.width c.divisor) [] e refl refl
  of_kind (Poly p) e = with_net (Poly p) (net_of_poly p) [] e refl refl
  of_kind (Tfir f) e =
      let ranges = accepted_ranges (Tfir f) (accepted_kind spec valid (Tfir f) e) in
      some_graph laws f.searched f.taps f.input.width f.extra ranges.taps (λ asked. (ranges.searched asked).taps) (
      λ set graph is. with_net (Tfir f) (net_of_taps f graph) set e
      (record { set = set; graph = graph; is = is; by = refl }) (record { graph = graph; is = is }))
  of_kind (Sop s) e = some_sop_net s (accepted_kind spec valid (Sop s) e) (λ net is. with_net (Sop s) net [] e is refl)
