-- The nodes of the step: they stand in a valid net, and the last has the number that is brought into the range, or wraps.
use Rattle.std.proofs.Common.{◌≡◌, ℕ, ◌-◌, ◌<◌, ◌≤◌, cond, Bool, true, false, List, [], ◌∷◌, length, if◌then◌else◌, refl, sym, ap, ◌∙◌, subst, arith}
use Rattle.std.specs.Prelude.{ℤ, All, slice_index}
use Rattle.opgen_num.specs.declared.format.Format.{Format}
use Rattle.opgen_num.specs.declared.mode.Overflow.{Overflow}
use Rattle.opgen_num.specs.declared.mode.Overflow.TheVariants.{Saturate, Wrap}
use Rattle.opgen_num.specs.Formats.{Holds}
use Rattle.opgen_num.specs.Words.{val}
use Rattle.opgen_design.specs.Run.{AreWords}
use Rattle.opgen_design.specs.Value.{cut, chosen}
use Rattle.opgen_net.specs.declared.net.Net.{Net}
use Rattle.opgen_net.specs.declared.node.Node.{Node}
use Rattle.opgen_net.specs.declared.node.Node.TheVariants.{Choice}
use Rattle.opgen_net.specs.Flow.{Inputs, flow}
use Rattle.opgen_net.specs.Placed.{Placed, with_bits, with_last, whole}
use Rattle.opgen_net.specs.Valid.{IsValid, FitsChoice, input_widths, widths}
use Rattle.opgen_net.proofs.Appending.{flow-append_last, width-append_last}
use Rattle.opgen_net.proofs.FlowWidths.{flow-width}
use Rattle.opgen_net.proofs.Grown.{grown-flow, grown-width}
use Rattle.opgen_net.proofs.Later.{Later, later-then, later-node, node_there, words-later}
use Rattle.opgen_net.proofs.WordLaws.{all-bits}
use Rattle.opgen_ports.specs.Good.{saturated}
use Rattle.opgen_saturate.specs.Recipe.{is_wider, resized, least_word, greatest_word, last_place, with_test, with_limit, with_choice, with_saturated, with_converted}
use Rattle.opgen_saturate.specs.Converts.{AreFormats}
use Rattle.opgen_saturate.proofs.Ends.{least_is, greatest_is}
use Rattle.opgen_ports.proofs.Clamped.{in_order}
use Rattle.opgen_ports.proofs.InputPorts.{some_bits}
use Rattle.opgen_saturate.proofs.Limit.{HasLimit, has_limit}
use Rattle.opgen_saturate.proofs.Outside.{is_outside, is_below_zero, tells}
use Rattle.opgen_saturate.proofs.Decision.{decided}
use Rattle.opgen_saturate.proofs.Tested.{tested-later, tested-some, test-wide, test-tells}
use Rattle.opgen_saturate.proofs.Lowest.{Made, low-later, low-width, low-long, low-number, wider, wrapped}

-- where it is not
module _ (net : Net) (node : ℕ) (format to : Format) (valid : IsValid net) (are : AreFormats net node format to)
    (narrow : is_wider format to ≡ false) where
  abbrev m : ℕ
  m = to.width

  abbrev n : ℕ
  n = length net.nodes

  abbrev tested : Net
  tested = with_test node format to net

  abbrev q : ℕ
  q = last_place tested

  some : 1 ≤ m
  some = some_bits to.signed m are.to_width.0

  few : 1 ≤ format.width
  few = some_bits format.signed format.width are.from_width.0

  node-there : node < n
  node-there = node_there net node format.width few are.wide

  later : Later net tested
  later = tested-later net node format to valid are narrow

  -- the node stands in a net that has grown
  still : (other : Net) → Later net other → AreFormats other node format to
  still other after = record {
    from_width = are.from_width;
    to_width = are.to_width;
    wide = grown-width net other after.grown node node-there ∙ are.wide;
  }

  pub tested-are : AreFormats tested node format to
  tested-are = still tested later

  abbrev limit : Placed
  limit = with_limit node format to tested

  limited : HasLimit tested node format to limit
  limited = has_limit tested node format to later.valid tested-are

  pub limit-later : Later net limit.net
  limit-later = later-then net tested limit.net later limited.later

  pub limit-are : AreFormats limit.net node format to
  limit-are = still limit.net limit-later

  abbrev low : Placed
  low = with_bits limit.net (resized node format m)

  low-after : Later limit.net low.net
  low-after = low-later limit.net node format to limit-later.valid limit-are

  pub low-net : Later net low.net
  low-net = later-then net limit.net low.net limit-later low-after

  since-test : Later tested low.net
  since-test = later-then tested limit.net low.net limited.later low-after

  q-there : q < length tested.nodes
  q-there = omega (arith, tested-some net node format to valid are narrow)

  limit-there : limit.place < length limit.net.nodes
  limit-there = node_there limit.net limit.place m some limited.width

  test-width : slice_index (widths low.net.nodes) q ≡ 1
  test-width = grown-width tested low.net since-test.grown q q-there ∙ test-wide net node format to valid are narrow

  limit-width : slice_index (widths low.net.nodes) limit.place ≡ m
  limit-width = grown-width limit.net low.net low-after.grown limit.place limit-there ∙ limited.width

  own-width : slice_index (widths low.net.nodes) low.place ≡ m
  own-width = low-width limit.net node format to limit-later.valid limit-are

  abbrev last : Node
  last = Choice q (whole m limit.place) (whole m low.place)

  pub last-fits : FitsChoice (widths low.net.nodes) q (whole m limit.place) (whole m low.place)
  last-fits = record {
    one_bit = test-width;
    one_lies = (omega arith, omega (arith, limit-width, some));
    other_lies = (omega arith, omega (arith, own-width, some));
    same_width = refl;
  }

  abbrev made : Net
  made = with_last low.net last

  made-later : Later net made
  made-later = later-then net low.net made low-net (later-node low.net last low-net.valid last-fits refl)

  module _ (inputs : Inputs) (t : ℤ) (words : All (AreWords (input_widths net)) inputs) where
    abbrev v : List Bool
    v = flow net.nodes inputs node t

    v-long : length v ≡ format.width
    v-long = flow-width net valid inputs words node t ∙ are.wide

    abbrev test : Bool
    test = is_outside v format to

    abbrev limit_word : List Bool
    limit_word = cond (is_below_zero v format) (least_word to) (greatest_word to)

    abbrev low_word : List Bool
    low_word = flow low.net.nodes inputs low.place t

    test-word : flow low.net.nodes inputs q t ≡ test ∷ []
    test-word =
        grown-flow tested low.net since-test.grown inputs q t q-there
        ∙ test-tells net node format to valid are narrow inputs t words

    kept : (other : Net) → Later net other → flow other.nodes inputs node t ≡ v
    kept other after = grown-flow net other after.grown inputs node t node-there

    limit-word : flow low.net.nodes inputs limit.place t ≡ limit_word
    limit-word =
        grown-flow limit.net low.net low-after.grown inputs limit.place t limit-there
        ∙ limited.word inputs t (words-later net tested later inputs words)
        ∙ ap (λ x. cond (is_below_zero x format) (least_word to) (greatest_word to)) (kept tested later)

    limit-long : length limit_word ≡ m
    limit-long =
        ap length (sym limit-word)
        ∙ flow-width low.net low-net.valid inputs (words-later net low.net low-net inputs words) limit.place t
        ∙ limit-width

    low-word_long : length low_word ≡ m
    low-word_long = low-long limit.net node format to limit-later.valid limit-are inputs t (words-later net limit.net limit-later inputs words)

    made-word : flow made.nodes inputs (length low.net.nodes) t ≡ chosen (test ∷ []) limit_word low_word
    made-word =
        flow-append_last low.net.nodes last inputs t
        ∙ ap (λ x. chosen x (cut (m - 1) 0 (flow low.net.nodes inputs limit.place t)) (cut (m - 1) 0 low_word)) test-word
        ∙ ap (λ x. chosen (test ∷ []) (cut (m - 1) 0 x) (cut (m - 1) 0 low_word)) limit-word
        ∙ ap (λ x. chosen (test ∷ []) x (cut (m - 1) 0 low_word)) (all-bits limit_word m some limit-long)
        ∙ ap (λ x. chosen (test ∷ []) limit_word x) (all-bits low_word m some low-word_long)

    low-kept : Holds to.signed m (val v format) → val low_word to ≡ val v format
    low-kept range =
        let same = kept limit.net limit-later in
        low-number limit.net node format to limit-later.valid limit-are inputs t (words-later net limit.net limit-later inputs words)
        (subst (λ x. Holds to.signed m (val x format)) (sym same) range)
        ∙ ap (λ x. val x format) same

    number : val (flow made.nodes inputs (length low.net.nodes) t) to ≡ saturated to (val v format)
    number =
        ap (λ x. val x to) made-word
        ∙ decided to (val v format) (in_order to.signed m) (least_is to are.to_width) (greatest_is to are.to_width) low_word low-kept
        test (is_below_zero v format) (tells v format to v-long are.from_width are.to_width narrow)

  pub narrower : Made Saturate net node format to (with_choice node format to net)
  narrower = record {
    later = made-later;
    converts = record {
      width = width-append_last low.net.nodes last ∙ omega (arith, some);
      number = number;
    };
  }

all_saturated : (net : Net) (node : ℕ) (format to : Format) → IsValid net → AreFormats net node format to
    → Made Saturate net node format to (with_saturated node format to net)
all_saturated net node format to valid are = go (is_wider format to) refl
  where
    go : (c : Bool) → is_wider format to ≡ c
        → Made Saturate net node format to (if c then with_bits net (resized node format to.width) else with_choice node format to net)
    go true h = wider net node format to valid are h
    go false h = narrower net node format to valid are h

pub all_made : (overflow : Overflow) (net : Net) (node : ℕ) (format to : Format) → IsValid net → AreFormats net node format to
    → Made overflow net node format to (with_converted overflow node format to net)
all_made Saturate net node format to valid are = all_saturated net node format to valid are
all_made Wrap net node format to valid are = wrapped net node format to valid are
