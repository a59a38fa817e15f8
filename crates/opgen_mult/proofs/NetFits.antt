-- The net of a product, by the nets that lead to it: its output is good at every time.
use Rattle.std.proofs.Common.{◌≡◌, ℕ, zero, suc, ◌+◌, ◌-◌, ◌%◌, ◌^◌, Bool, true, List, [], ◌∷◌, ◌++◌, length, map, codes, refl, sym, ap, ◌∙◌, subst, arith}
use Rattle.std.specs.Prelude.{ℤ, pos, ◌+ℤ◌, ◌-ℤ◌, All, IsTrue, None, replicate, slice_index}
use Rattle.std.proofs.Math.Nat.{zero-mod}
use Rattle.std.proofs.lemmas.Int.{ints}
use Rattle.opgen_num.specs.Words.{val, nat}
use Rattle.opgen_compress.specs.Kept.{words_at, IsSumOf}
use Rattle.opgen_net.specs.Placed.{Placed}
use Rattle.opgen_design.specs.Run.{AreWords}
use Rattle.opgen_design.specs.Value.{cut, word_at}
use Rattle.opgen_heap.specs.Adding.{residue}
use Rattle.opgen_heap.specs.Contents.{Contents}
use Rattle.opgen_heap.specs.Sum.{Words, heap_sum}
use Rattle.opgen_net.specs.declared.net.Net.{Net}
use Rattle.opgen_net.specs.declared.net.Output.{Output}
use Rattle.opgen_net.specs.declared.node.Node.{Node}
use Rattle.opgen_net.specs.declared.word_bits.WordBit.TheVariants.{Zero}
use Rattle.opgen_net.specs.Delays.{delay_count}
use Rattle.opgen_net.specs.Flow.{Inputs, input_at, flow, slice_flow}
use Rattle.opgen_net.specs.Grown.{HasGrown}
use Rattle.opgen_net.specs.Valid.{IsValid, widths, slice_width, input_widths}
use Rattle.opgen_net.specs.WordRule.{bits_from}
use Rattle.opgen_net.proofs.Delays.{passes-count}
use Rattle.opgen_net.proofs.FlowWidths.{flow-width}
use Rattle.opgen_net.proofs.Later.{word-grown}
use Rattle.opgen_kinds.specs.declared.product.Product.{Product}
use Rattle.opgen_operator.specs.declared.operator.Operator.TheVariants.{Multiply}
use Rattle.opgen_operator.specs.Fits.{FitsOperator, FitsInEachMode}
use Rattle.opgen_ports.specs.Modes.{mode_of_exact}
use Rattle.opgen_operator.proofs.EachMode.{asked_whole, fits_each_mode}
use Rattle.opgen_operator.specs.Operator.{inexact}
use Rattle.opgen_ports.specs.Good.{IsGoodRatio}
use Rattle.opgen_operator.specs.Held.{OutputsHold}
use Rattle.opgen_kinds.specs.Product.{IsAcceptedProduct, exact_product, product_format}
use Rattle.opgen_partial.specs.declared.pairs.Work.{Work}
use Rattle.opgen_partial.specs.Law.{HasProducts}
use Rattle.opgen_partial.proofs.Laws.{IsRounded, rounded_sum}
use Rattle.opgen_mult.specs.Recipe.{IsLeftOut, inputs, pairs, above_zeros, bits_below, zeros_below, heap_width, constant, rounding}
use Rattle.opgen_mult.specs.Shifted.{IsAboveZeros}
use Rattle.opgen_mult.proofs.Fits.{exact_whole, output_is_good}
use Rattle.opgen_mult.proofs.InputWords.{AreInputs, first_word, second_word, first-length, second-length}
use Rattle.opgen_mult.proofs.HeapWidth.{Layout}

-- a word more changes no port, and is no delay

pub zeros-inputs : (width zeros : ℕ) (s : Placed) → (above_zeros width zeros s).net.inputs ≡ s.net.inputs
zeros-inputs width zero s = refl
zeros-inputs width (suc z) s = refl

pub zeros-outputs : (width zeros : ℕ) (s : Placed) → (above_zeros width zeros s).net.outputs ≡ s.net.outputs
zeros-outputs width zero s = refl
zeros-outputs width (suc z) s = refl

pub zeros-delays : (width zeros : ℕ) (s : Placed) → delay_count (above_zeros width zeros s).net.nodes ≡ delay_count s.net.nodes
zeros-delays width zero s = refl
zeros-delays width (suc z) s = (word-grown s.net (bits_from s.place 0 width ++ replicate (suc z) Zero)).delays

abbrev pub output_of : (node low width : ℕ) → Output
output_of node low width = record { name = codes "y"; from = record { node = node; high = low + width - 1; low = low } }

module _ (p : Product) (accepted : IsAcceptedProduct p) (fit : Layout p) (hold : OutputsHold)
    (left : ℕ) (cut_is : IsLeftOut p.a.width p.b.width (bits_below p) left)
    (w : Work) (has : HasProducts (pairs p left) (inputs p) w)
    (heap : Contents)
    (added : (words : Words) → heap_sum words heap ≡ residue (pos (heap_sum words w.heap) +ℤ constant p) (2 ^ w.heap.width))
    (two : Net) (place : ℕ) (sums : IsSumOf w.net heap two.nodes place) (valid_two : IsValid two)
    (grown : HasGrown w.net two) (wide : slice_index (widths two.nodes) place ≡ heap_width p)
    (three : Net) (node : ℕ) (above : IsAboveZeros two place (zeros_below p) three.nodes node) where
  abbrev W : ℕ
  W = (product_format p).width

  of_ports : (net : Net) → net.inputs ≡ (inputs p).net.inputs → (ins : Inputs) → AreInputs p ins → All (AreWords (input_widths net)) ins
  of_ports net e ins h = subst (λ (is : List (List ℕ × ℕ)). All (AreWords (map (λ i. i.1) is)) ins) (sym e) h

  -- the output's word is a good product of the inputs' words
  good_flow : (exact : Bool) → (exact ≡ true → bits_below p ≡ 0) → (ins : Inputs) (t : ℤ) → AreInputs p ins
      → IsGoodRatio (mode_of_exact exact) (exact_product p (val (first_word p ins t) p.a) (val (second_word p ins t) p.b))
      (val (slice_flow three.nodes ins (output_of node (bits_below p) W).from t) (product_format p))
  good_flow exact whole ins t words =
      subst (λ v. IsGoodRatio (mode_of_exact exact) (exact_product p (val a p.a) (val b p.b)) (val (kept_bits v) (product_format p)))
      (sym (above ins t (of_ports two (grown.inputs ∙ has.grown.inputs) ins words)))
      (output_is_good p accepted fit hold left cut_is exact whole a b sum long_a long_b long number)
    where
      a : List Bool
      a = first_word p ins t

      b : List Bool
      b = second_word p ins t

      kept_bits : List Bool → List Bool
      kept_bits = cut (bits_below p + W - 1) (bits_below p)

      long_a : length a ≡ p.a.width
      long_a = first-length p accepted ins t words

      long_b : length b ≡ p.b.width
      long_b = second-length p accepted ins t words

      sum : List Bool
      sum = flow two.nodes ins place t

      long : length sum ≡ heap_width p
      long = flow-width two valid_two ins (of_ports two (grown.inputs ∙ has.grown.inputs) ins words) place t ∙ wide

      kept : ℕ
      kept = heap_sum (words_at w.net.nodes ins t) w.heap

      is : nat sum ≡ residue (pos kept +ℤ constant p) (2 ^ heap_width p)
      is =
          sums ins t (of_ports w.net has.grown.inputs ins words)
          ∙ added (words_at w.net.nodes ins t)
          ∙ ap (λ k. residue (pos kept +ℤ constant p) (2 ^ k)) has.width

      number : IsRounded (pairs p left) a b (heap_width p) (pos (rounding (bits_below p))) (nat sum)
      number =
          rounded_sum (pairs p left) a b (heap_width p) (0 % 2 ^ heap_width p) kept (nat sum) (pos (rounding (bits_below p)))
          (zero-mod (2 ^ heap_width p)) (has.sum ins t words) is

  -- the first of some outputs of a net, by inputs that are good for it
  abbrev Good : (exact : Bool) (now : ℤ) (t : ℕ) (ins : Inputs) (ns : List Node) (os : List Output) → Type 0
  Good exact now t ins ns os =
      IsGoodRatio (mode_of_exact exact) (exact_product p (val (input_at ins 0 p.a.width now) p.a) (val (input_at ins 1 p.b.width now) p.b))
      (val (word_at (map (λ o. slice_flow ns ins o.from (pos t)) os) 0) (product_format p))

  pub net_fits : (net : Net) → net ≡ record three { outputs = three.outputs ++ output_of node (bits_below p) W ∷ [] }
      → three.inputs ≡ two.inputs → three.outputs ≡ two.outputs → delay_count three.nodes ≡ delay_count two.nodes → IsValid net
      → FitsInEachMode (Multiply p) net
  net_fits net is same_inputs same_outputs same_delays valid =
      fits_each_mode (Multiply p) net (λ exact mode. fits exact (asked_whole exact (Multiply p) mode))
    where
      o : Output
      o = output_of node (bits_below p) W

      ports : net.inputs ≡ (inputs p).net.inputs
      ports = ap (λ (n : Net). n.inputs) is ∙ same_inputs ∙ grown.inputs ∙ has.grown.inputs

      outputs : net.outputs ≡ o ∷ []
      outputs = ap (λ (n : Net). n.outputs) is ∙ ap (λ os. os ++ o ∷ []) (same_outputs ∙ grown.outputs ∙ has.grown.outputs)

      wide_output : slice_width o.from ≡ W
      wide_output = omega (arith, fit.output)

      fits : (exact : Bool) → (IsTrue exact → inexact (Multiply p) ≡ None) → FitsOperator (mode_of_exact exact) (Multiply p) net
      fits exact asked = record {
        valid = valid;
        inputs = ports;
        outputs = ap (λ os. map (λ (o : Output). (o.name, slice_width o.from)) os) outputs ∙ ap (λ k. (codes "y", k) ∷ []) wide_output;
        delays =
            let none : delay_count (inputs p).net.nodes ≡ 0 = refl in
            let nodes : delay_count net.nodes ≡ delay_count three.nodes = ap (λ (n : Net). delay_count n.nodes) is in
            passes-count 0 net.nodes (omega (arith, nodes, same_delays, grown.delays, has.grown.delays, none));
        good = λ ins t words less ranges.
            let now : pos t ≡ pos t -ℤ pos 0 = omega (arith, ints) in
            let of_inputs : AreInputs p ins = subst (λ (is : List (List ℕ × ℕ)). All (AreWords (map (λ i. i.1) is)) ins) ports words in
            let base : Good exact (pos t) t ins three.nodes (o ∷ []) = good_flow exact (λ e. exact_whole p (asked e)) ins (pos t) of_inputs in
            let nodes : three.nodes ≡ net.nodes = sym (ap (λ (n : Net). n.nodes) is) in
            let at_now = subst (λ u. Good exact u t ins three.nodes (o ∷ [])) now base in
            subst (λ os. Good exact (pos t -ℤ pos 0) t ins net.nodes os) (sym outputs)
            (subst (λ ns. Good exact (pos t -ℤ pos 0) t ins ns (o ∷ [])) nodes at_now);
      }
