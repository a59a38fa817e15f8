-- What a digit more does to a net, and to the words of its nodes.
use Rattle.std.proofs.Common.{◌≡◌, ℕ, ◌+◌, ◌-◌, ◌*◌, ◌^◌, ◌<◌, Bool, true, false, List, [], ◌∷◌, length, length-append, map, refl, ap, ◌∙◌, arith, not}
use Rattle.std.specs.Prelude.{ℤ, All, nat_le, slice_index, slice_index_or}
use Rattle.std.proofs.lemmas.List.Elements.{All-append, All-cons, All-nil}
use Rattle.opgen_num.specs.Words.{digit, nat, sum_with}
use Rattle.opgen_design.specs.Run.{AreWords}
use Rattle.opgen_design.specs.Value.{cut, chosen, IsWidth}
use Rattle.opgen_net.specs.declared.cell.Class.TheVariants as class
use Rattle.opgen_net.specs.declared.net.Net.{Net}
use Rattle.opgen_net.specs.declared.node.Node.TheVariants as node
use Rattle.opgen_net.specs.declared.word_bits.WordBit.{WordBit}
use Rattle.opgen_net.specs.declared.word_bits.WordBit.TheVariants.{Of}
use Rattle.opgen_net.specs.Flow.{Inputs, flow}
use Rattle.opgen_net.specs.Valid.{widths, input_widths, IsValid, FitsChoice}
use Rattle.opgen_net.specs.WordRule.{IsThere}
use Rattle.opgen_net.proofs.Appending.{flow-append_last, width-append_last}
use Rattle.opgen_net.proofs.FlowWidths.{flow-width}
use Rattle.opgen_net.proofs.Grown.{grown-flow, grown-width, grown-all_there}
use Rattle.opgen_net.specs.Placed.{number_at, difference_of}
use Rattle.opgen_digits.specs.Digit.{Known, is_not_negative, lowest, with_difference, with_digit, digit_place, with_choice, with_next, tried, AreOperands, HasDigit}
use Rattle.opgen_net.proofs.BitLists.{length-bits_from, bits_from-there}
use Rattle.opgen_net.proofs.Numbers.{at-push, at-node, number-kept}
use Rattle.opgen_digits.proofs.Differences.{sign, restored}
use Rattle.opgen_net.proofs.Later.{Later, later-then, later-node, node_there}
use Rattle.opgen_digits.proofs.Expressions.{difference-fits, not_negative-fits, not_negative-logic}

module _ (rest : ℕ) (net : Net) (a b : ℕ) (valid : IsValid net) (are : AreOperands rest net a b) where
  abbrev one : Net
  one = with_difference rest net a b

  abbrev two : Net
  two = with_digit rest net a b

  abbrev three : Net
  three = with_choice rest net a b

  abbrev f : ℕ
  f = length net.nodes

  abbrev q : ℕ
  q = digit_place rest net a b

  abbrev r : ℕ
  r = length two.nodes

  wide : IsWidth (rest + 2)
  wide = (omega arith, are.few)

  pub one-later : Later net one
  one-later =
      later-node net (node.Cells class.Add (rest + 2) (difference_of a b)) valid
      (refl, difference-fits (widths net.nodes) a b (rest + 2) wide are.wide_a are.wide_b) refl

  pub one-width : slice_index (widths one.nodes) f ≡ rest + 2
  one-width = width-append_last net.nodes (node.Cells class.Add (rest + 2) (difference_of a b))

  two-after : Later one two
  two-after =
      later-node one (node.Cells class.Logic 1 (is_not_negative rest f)) one-later.valid
      (not_negative-logic (widths one.nodes) rest f, not_negative-fits (widths one.nodes) rest f one-width) refl

  pub two-later : Later net two
  two-later = later-then net one two one-later two-after

  pub digit-width : slice_index (widths two.nodes) q ≡ 1
  digit-width = width-append_last one.nodes (node.Cells class.Logic 1 (is_not_negative rest f))

  a_there : a < length net.nodes
  a_there = node_there net a (rest + 2) (omega arith) are.wide_a

  f_there : f < length one.nodes
  f_there = omega (arith, length-append net.nodes (node.Cells class.Add (rest + 2) (difference_of a b) ∷ []))

  difference-width : slice_index (widths two.nodes) f ≡ rest + 2
  difference-width = grown-width one two two-after.grown f f_there ∙ one-width

  operand-width : slice_index (widths two.nodes) a ≡ rest + 2
  operand-width = grown-width net two two-later.grown a a_there ∙ are.wide_a

  pub choice-fits : FitsChoice (widths two.nodes) q (lowest rest f) (lowest rest a)
  choice-fits = record {
    one_bit = digit-width;
    one_lies = (omega arith, omega (arith, difference-width, are.some));
    other_lies = (omega arith, omega (arith, operand-width, are.some));
    same_width = refl;
  }

  three-after : Later two three
  three-after = later-node two (node.Choice q (lowest rest f) (lowest rest a)) two-later.valid choice-fits refl

  pub three-later : Later net three
  three-later = later-then net two three two-later three-after

  pub rest-width : slice_index (widths three.nodes) r ≡ rest
  rest-width = width-append_last two.nodes (node.Choice q (lowest rest f) (lowest rest a)) ∙ omega (arith, are.some)

  -- the digits stand in the net
  stand : (digits : List WordBit) → All (IsThere (widths net.nodes)) digits
      → All (IsThere (widths two.nodes)) (with_next rest net a b digits)
  stand digits h =
      let P = IsThere (widths two.nodes) in
      All-append P digits (Of q 0 ∷ []) (grown-all_there net two two-later.grown digits h)
      (All-cons P (Of q 0) [] (omega (arith, digit-width)) (All-nil P))

  -- a digit more, and what stands
  pub record Tried (keep : Bool) (digits : List WordBit) (known : Known) : Type 0 where
    pub later : Later net known.net
    pub digits_there : All (IsThere (widths known.net.nodes)) known.digits
    pub rest_there : All (IsThere (widths known.net.nodes)) known.rest
    pub rest_length : keep ≡ true → length known.rest ≡ rest

  pub all-tried : (keep : Bool) (digits : List WordBit) → All (IsThere (widths net.nodes)) digits
      → Tried keep digits (tried keep rest net a b digits)
  all-tried true digits h = record {
    later = three-later;
    digits_there = grown-all_there two three three-after.grown (with_next rest net a b digits) (stand digits h);
    rest_there = bits_from-there (widths three.nodes) r 0 rest (omega (arith, rest-width));
    rest_length = λ _. length-bits_from r 0 rest;
  }
  all-tried false digits h = record {
    later = two-later;
    digits_there = stand digits h;
    rest_there = All-nil (IsThere (widths two.nodes));
    rest_length = λ e. absurd (cc);
  }

  -- at a time
  module _ (inputs : Inputs) (t : ℤ) (words : All (AreWords (input_widths net)) inputs) where
    abbrev x : List Bool
    x = flow net.nodes inputs a t

    abbrev y : List Bool
    y = flow net.nodes inputs b t

    module _ (low_a : nat x < 2 ^ (rest + 1)) (low_b : nat y < 2 ^ (rest + 1)) where
      wide_x : length x ≡ (rest + 1) + 1
      wide_x = flow-width net valid inputs words a t ∙ are.wide_a ∙ omega arith

      wide_y : length y ≡ (rest + 1) + 1
      wide_y = flow-width net valid inputs words b t ∙ are.wide_b ∙ omega arith

      difference-flow : flow one.nodes inputs f t ≡ sum_with true x (map not y)
      difference-flow = flow-append_last net.nodes (node.Cells class.Add (rest + 2) (difference_of a b)) inputs t

      digit-flow : flow two.nodes inputs q t ≡ nat_le (nat y) (nat x) ∷ []
      digit-flow =
          flow-append_last one.nodes (node.Cells class.Logic 1 (is_not_negative rest f)) inputs t
          ∙ ap (λ w. map not (cut (rest + 1) (rest + 1) w)) difference-flow
          ∙ sign (rest + 1) x y wide_x wide_y low_a low_b

      two-digits : (digits : List WordBit) → All (IsThere (widths net.nodes)) digits
          → number_at two.nodes inputs t (with_next rest net a b digits)
          ≡ 2 * number_at net.nodes inputs t digits + digit (nat_le (nat y) (nat x))
      two-digits digits h =
          let bit : slice_index_or (flow two.nodes inputs q t) 0 false ≡ nat_le (nat y) (nat x) =
          ap (λ w. slice_index_or w 0 false) digit-flow in
          omega (
            arith,
            at-push two.nodes inputs t digits (Of q 0),
            ap digit bit,
            number-kept net.nodes two.nodes (grown-flow net two two-later.grown) inputs t digits h,
          )

      rest-flow : flow three.nodes inputs r t
          ≡ chosen (nat_le (nat y) (nat x) ∷ []) (cut (rest - 1) 0 (sum_with true x (map not y))) (cut (rest - 1) 0 x)
      rest-flow =
          let of_f : flow two.nodes inputs f t ≡ sum_with true x (map not y) =
          grown-flow one two two-after.grown inputs f t f_there ∙ difference-flow in
          let of_a : flow two.nodes inputs a t ≡ x = grown-flow net two two-later.grown inputs a t a_there in
          flow-append_last two.nodes (node.Choice q (lowest rest f) (lowest rest a)) inputs t
          ∙ ap (λ w. chosen w (cut (rest - 1) 0 (flow two.nodes inputs f t)) (cut (rest - 1) 0 (flow two.nodes inputs a t))) digit-flow
          ∙ ap (λ w. chosen (nat_le (nat y) (nat x) ∷ []) (cut (rest - 1) 0 w) (cut (rest - 1) 0 (flow two.nodes inputs a t))) of_f
          ∙ ap (λ w. chosen (nat_le (nat y) (nat x) ∷ []) (cut (rest - 1) 0 (sum_with true x (map not y))) (cut (rest - 1) 0 w)) of_a

      pub has_digit : (keep : Bool) (digits : List WordBit) → All (IsThere (widths net.nodes)) digits
          → HasDigit keep rest (nat x) (nat y) (number_at net.nodes inputs t digits) (tried keep rest net a b digits) inputs t
      has_digit false digits h = record { digit = two-digits digits h; left = λ e. absurd (cc) }
      has_digit true digits h = record {
        digit =
            number-kept two.nodes three.nodes (grown-flow two three three-after.grown) inputs t (with_next rest net a b digits)
            (stand digits h)
            ∙ two-digits digits h;
        left = λ _.
            at-node three.nodes inputs t r rest (flow-width three three-later.valid inputs words r t ∙ rest-width)
            ∙ ap nat rest-flow
            ∙ restored (rest + 1) x y wide_x wide_y low_a low_b rest are.some;
      }
