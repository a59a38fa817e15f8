-- The net of several constants fits the operator.
use Rattle.std.proofs.Common.{◌≡◌, ℕ, Bool, true, false, ◌+◌, List, [], ◌∷◌, ◌++◌, map, codes, refl, sym, ap, ◌∙◌, arith}
use Rattle.std.specs.Prelude.{ℤ, pos, ◌*ℤ◌, All}
use Rattle.std.proofs.lemmas.Int.{ints}
use Rattle.std.proofs.lemmas.List.Elements.{All-nil, All-cons, All-head, All-tail}
use Rattle.std.specs.Fmt.{decimal}
use Rattle.opgen_num.specs.declared.format.TheConstants.{MAX_WIDTH}
use Rattle.opgen_num.specs.declared.format.Format.{Format}
use Rattle.opgen_num.specs.Rounding.{IsGoodLinear}
use Rattle.opgen_num.specs.Words.{val}
use Rattle.opgen_num.proofs.Quotients.{within_one}
use Rattle.opgen_num.proofs.Integers.{less-zero}
use Rattle.opgen_net.specs.declared.net.Net.{Net}
use Rattle.opgen_design.specs.Run.{AreWords}
use Rattle.opgen_net.specs.Delays.{delay_count}
use Rattle.opgen_net.specs.Flow.{Inputs, flow, input_at, slice_flow}
use Rattle.opgen_net.specs.Valid.{input_widths}
use Rattle.opgen_net.proofs.Delays.{passes-count}
use Rattle.opgen_kinds.specs.declared.several.Several.{Several}
use Rattle.opgen_operator.specs.declared.operator.Operator.TheVariants.{Mcm}
use Rattle.opgen_ports.specs.declared.ports.PortFormat.{PortFormat}
use Rattle.opgen_ports.specs.Ports.{HasWidth}
use Rattle.opgen_ports.specs.Ranges.{IsInput, IsWithin}
use Rattle.opgen_ports.specs.Reaches.{reach_over}
use Rattle.opgen_ports.proofs.Widths.{some_width}
use Rattle.opgen_kinds.proofs.of_kind.Several.{multiple_width}
use Rattle.opgen_operator.specs.Fits.{FitsOperator, FitsInEachMode}
use Rattle.opgen_kinds.specs.Several.{AreGoodMultiples, IsAcceptedSeveral, constant_format, numbered, multiple_ports, IsSeveral}
use Rattle.opgen_operator.specs.Outputs.{recent_words, output_words}
use Rattle.opgen_ports.specs.Modes.{mode_of_exact}
use Rattle.opgen_operator.proofs.EachMode.{fits_each_mode}
use Rattle.opgen_ports.proofs.Marks.{exact_or_faithful}
use Rattle.opgen_ports.specs.Ports.{one_input}
use Rattle.opgen_operator.proofs.Accepted.{accepted_ranges}
use Rattle.opgen_graph.specs.declared.ranks.Graph.{Graph}
use Rattle.opgen_graph.specs.Placing.{AreAdders, HasOddPart}
use Rattle.opgen_graph.specs.Recipe.{with_input, Multiples, multiples_of, net_of_graph}
use Rattle.opgen_graph.specs.Served.{Serves}
use Rattle.opgen_graph.proofs.Kept.{Keeps, keeps-later, keeps-then}
use Rattle.opgen_graph.proofs.Outputs.{HasOutputs, all-outputs, right-at}
use Rattle.opgen_graph.proofs.Products.{Ready}
use Rattle.opgen_graph.proofs.ServedNets as served
use Rattle.opgen_graph.proofs.Standing.{Stands}

-- the exact value is a good output
pub exact_good : (exact : Bool) (n y : ℤ) → y ≡ n → IsGoodLinear n (pos 1) y (mode_of_exact exact)
exact_good true n y e = omega (arith, ints, e)
exact_good false n y e = within_one n (pos 1) y (omega (arith, ints, e)) (omega (arith, ints, e))

-- each output has the width of a signal
pub ports-wide : (input : Format) → IsInput input → (k : ℕ) (ts : List ℤ) → All (IsWithin 1048575) ts
    → All (HasWidth MAX_WIDTH) (numbered k (map (constant_format input) ts))
ports-wide input is k [] small = All-nil (HasWidth MAX_WIDTH)
ports-wide input is k (t ∷ ts) small =
    let port : PortFormat = record { name = codes "y" ++ decimal k; format = constant_format input t } in
    All-cons (HasWidth MAX_WIDTH) port (numbered (k + 1) (map (constant_format input) ts))
    (some_width (reach_over input (t ∷ [])), omega (arith, multiple_width input t (All-head (IsWithin 1048575) t ts small), is.most))
    (ports-wide input is (k + 1) ts (All-tail (IsWithin 1048575) t ts small))

module _ (m : Several) (is : IsAcceptedSeveral m) (graph : Graph) (serves : Serves m.constants graph) where
  pub ranges : IsSeveral m
  ranges = accepted_ranges (Mcm m) is

  pub are_adders : AreAdders m.input graph.adders
  are_adders = served.are_adders m.input ranges.input m.constants ranges.constants graph serves

  abbrev pub multiples : Multiples
  multiples = multiples_of m.input graph

  stands : Stands m.input multiples
  stands = served.stands m.input ranges.input m.constants ranges.constants graph serves

  pub ready : Ready m.input multiples
  ready = served.ready m.input ranges.input m.constants ranges.constants graph serves

  pub odd_parts : All (HasOddPart multiples.known) m.constants
  odd_parts = served.odd_parts m.input ranges.input m.constants ranges.constants graph serves

  abbrev net : Net
  net = net_of_graph graph m

  has : HasOutputs m.input multiples 0 m.constants net
  has = all-outputs m.input 0 multiples m.constants ready ranges.constants odd_parts
      (ports-wide m.input ranges.input 0 m.constants ranges.constants)

  keeps : Keeps (with_input m.input) net
  keeps = keeps-then (with_input m.input) multiples.net net (keeps-later (with_input m.input) multiples.net stands.later) has.keeps

  outputs_are : net.outputs ≡ has.made
  outputs_are = has.outputs ∙ ap (λ os. os ++ has.made) stands.later.grown.outputs

  abbrev now_at : Inputs → ℕ → ℤ
  now_at inputs t = recent_words (one_input m.input) inputs t 0 0

  abbrev shown_at : Inputs → ℕ → (port : ℕ) → ℤ
  shown_at inputs t = output_words (multiple_ports m) (map (λ o. slice_flow net.nodes inputs o.from (pos t)) net.outputs)

  good-multiples : (exact : Bool) (inputs : Inputs) (t : ℕ) → All (AreWords (input_widths net)) inputs
      → AreGoodMultiples (mode_of_exact exact) m.constants (now_at inputs t) (shown_at inputs t)
  good-multiples exact inputs t words k c got =
      let x : ℤ = now_at inputs t in
      let input : val (flow net.nodes inputs 0 (pos t)) m.input ≡ x =
      ap (λ w. val w m.input) (keeps.nodes.flow inputs 0 (pos t) (omega arith))
      ∙ ap (λ u. val (input_at inputs 0 m.input.width u) m.input) (sym (less-zero t)) in
      let value : shown_at inputs t k ≡ x *ℤ c =
      ap (λ os. output_words (multiple_ports m) (map (λ o. slice_flow net.nodes inputs o.from (pos t)) os) k) outputs_are
      ∙ right-at m.input net has.made m.constants has.right 0 k c got inputs (pos t) words
      ∙ ap (λ z. z *ℤ c) input in
      exact_good exact (x *ℤ c) _ value

  fits-operator : (exact : Bool) → FitsOperator (mode_of_exact exact) (Mcm m) net
  fits-operator exact = record {
    valid = has.keeps.valid;
    inputs = keeps.inputs;
    outputs = ap (map _) outputs_are ∙ has.ports;
    delays =
        let none : delay_count (with_input m.input).nodes ≡ 0 = refl in
        passes-count 0 net.nodes (omega (arith, has.delays, stands.later.grown.delays, none));
    good = λ inputs t words within range. (exact_or_faithful exact, good-multiples exact inputs t words);
  }

  pub fits_modes : FitsInEachMode (Mcm m) net
  fits_modes = fits_each_mode (Mcm m) net (λ exact mode. fits-operator exact)
