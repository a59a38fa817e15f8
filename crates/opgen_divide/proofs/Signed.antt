-- What the nodes of a sign do to a net, and to the words of its nodes.
use Rattle.std.proofs.Common.{◌≡◌, ℕ, ◌+◌, ◌-◌, ◌*◌, ◌^◌, ◌<◌, ◌≤◌, Bool, true, List, [], ◌∷◌, length, length-append, map, cond, Some, None, refl, sym, ap, ◌∙◌, subst, arith, not}
use Rattle.std.specs.Prelude.{ℤ, All, slice_index, slice_get, option_and_then, nat_le, nat_lt, ◌&&◌, if◌then◌else◌}
use Rattle.std.proofs.lemmas.Bool.{le-leb, lt-ltb}
use Rattle.std.proofs.lemmas.Option.{slice_get-get_or}
use Rattle.opgen_num.specs.Words.{sum_with, highest, int, nat, word}
use Rattle.opgen_num.specs.WordLaws.{length-word}
use Rattle.opgen_design.specs.Run.{AreWords}
use Rattle.opgen_design.specs.Value.{cut, chosen, IsWidth, as_width, width}
use Rattle.opgen_net.specs.declared.cell.Class.TheVariants.{Add, Wire}
use Rattle.opgen_net.specs.declared.net.Net.{Net}
use Rattle.opgen_net.specs.declared.node.Node.{Node}
use Rattle.opgen_net.specs.declared.node.Node.TheVariants.{Constant, Cells, Choice}
use Rattle.opgen_net.specs.declared.word_bits.WordBit.{WordBit}
use Rattle.opgen_net.specs.Flow.{Inputs, flow}
use Rattle.opgen_net.specs.Placed.{Placed, difference_of, whole, with_bits, with_last, number_at}
use Rattle.opgen_net.specs.Valid.{IsValid, FitsChoice, FitsNodes, input_widths, widths}
use Rattle.opgen_net.specs.WordRule.{IsThere}
use Rattle.opgen_net.proofs.Appending.{flow-append_last, width-append_last}
use Rattle.opgen_net.proofs.FlowLaws.{index_within}
use Rattle.opgen_net.proofs.FlowWidths.{flow-width}
use Rattle.opgen_net.proofs.Grown.{grown-flow, grown-width}
use Rattle.opgen_net.proofs.Later.{Later, later-node, later-then, node_there, words-later}
use Rattle.opgen_net.proofs.WordLaws.{all-bits}
use Rattle.opgen_digits.proofs.Expressions.{difference-fits}
use Rattle.opgen_digits.proofs.Outputs.{made-later, made-width, made-number}
use Rattle.opgen_divide.specs.Sign.{sign_of, with_opposite, with_sign, with_highest, with_absolute, with_signed, signed_by, HasSign, HasAbsolute}
use Rattle.opgen_divide.proofs.Opposites.{top-bit, one-bit, picked, opposite, signed-int, absolute-number}

-- the highest bit of a node

pub sign-width : (ws : List ℕ) (n m : ℕ) → 1 ≤ m → slice_index ws n ≡ m → width ws [] (sign_of n m) ≡ Some 1
sign-width ws n m some h =
    let p = m - 1 in
    let within : p < slice_index ws n = omega (arith, some, h) in
    let v = slice_index ws n in
    let there : slice_get ws n ≡ Some v = slice_get-get_or ws n 0 (index_within ws n p within) in
    let one : p + 1 - p ≡ 1 = omega arith in
    ap (option_and_then (λ w. if nat_le p p && nat_lt p w then as_width (p + 1 - p) else None)) there
    ∙ ap (λ c. if c && nat_lt p v then as_width (p + 1 - p) else None) (le-leb p p (omega arith))
    ∙ ap (λ c. if c then as_width (p + 1 - p) else None) (lt-ltb p v within)
    ∙ ap as_width one

pub sign-fits : (ws : List ℕ) (n m : ℕ) → 1 ≤ m → slice_index ws n ≡ m → FitsNodes ws 1 (sign_of n m)
sign-fits ws n m some h = record { has_width = sign-width ws n m some h; nests = omega arith }

-- a node that has at every time the word of a node, or its opposite where a sign is 1
pub record IsSigned (net : Net) (sign node m : ℕ) (made : Placed) : Type 0 where
  pub later : Later net made.net
  pub width : slice_index (widths made.net.nodes) made.place ≡ m
  pub word :
      (inputs : Inputs) (t : ℤ) → All (AreWords (input_widths net)) inputs
      → flow made.net.nodes inputs made.place t
      ≡ cond (highest (flow net.nodes inputs sign t)) (opposite (flow net.nodes inputs node t)) (flow net.nodes inputs node t)

module _ (net : Net) (sign node m : ℕ) (valid : IsValid net) (wide : IsWidth m) (one : slice_index (widths net.nodes) sign ≡ 1)
    (is : slice_index (widths net.nodes) node ≡ m) where
  abbrev n : ℕ
  n = length net.nodes

  abbrev zeros_node : Node
  zeros_node = Constant (word m 0)

  abbrev opposite_node : Node
  opposite_node = Cells Add m (difference_of n node)

  abbrev choice : Node
  choice = Choice sign (whole m (n + 1)) (whole m node)

  abbrev first : Net
  first = with_last net zeros_node

  abbrev second : Net
  second = with_opposite node m net

  abbrev third : Net
  third = (with_sign sign node m net).net

  sign_there : sign < n
  sign_there = node_there net sign 1 (omega arith) one

  node_within : node < n
  node_within = node_there net node m wide.0 is

  pub zeros-wide : IsWidth (length (word m 0))
  zeros-wide = subst IsWidth (sym (length-word m 0)) wide

  first-later : Later net first
  first-later = later-node net zeros_node valid zeros-wide refl

  pub at_first : length first.nodes ≡ n + 1
  at_first = length-append net.nodes (zeros_node ∷ []) ∙ omega arith

  pub opposite-fits : FitsNodes (widths first.nodes) m (difference_of n node)
  opposite-fits =
      difference-fits (widths first.nodes) n node m wide
      (width-append_last net.nodes zeros_node ∙ length-word m 0)
      (grown-width net first first-later.grown node node_within ∙ is)

  second-after : Later first second
  second-after = later-node first opposite_node first-later.valid (refl, opposite-fits) refl

  second-later : Later net second
  second-later = later-then net first second first-later second-after

  at_second : length second.nodes ≡ n + 2
  at_second = length-append first.nodes (opposite_node ∷ []) ∙ omega (arith, at_first)

  opposite-width : slice_index (widths second.nodes) (n + 1) ≡ m
  opposite-width = ap (slice_index (widths second.nodes)) (sym at_first) ∙ width-append_last first.nodes opposite_node

  pub choice-fits : FitsChoice (widths second.nodes) sign (whole m (n + 1)) (whole m node)
  choice-fits = record {
    one_bit = grown-width net second second-later.grown sign sign_there ∙ one;
    one_lies = (omega arith, omega (arith, opposite-width, wide.0));
    other_lies = (omega arith, omega (arith, grown-width net second second-later.grown node node_within, is, wide.0));
    same_width = refl;
  }

  pub third-later : Later net third
  third-later = later-then net second third second-later (later-node second choice second-later.valid choice-fits refl)

  third-width : slice_index (widths third.nodes) (n + 2) ≡ m
  third-width =
      ap (slice_index (widths third.nodes)) (sym at_second)
      ∙ width-append_last second.nodes choice
      ∙ omega (arith, wide.0)

  module _ (inputs : Inputs) (t : ℤ) (words : All (AreWords (input_widths net)) inputs) where
    abbrev v : List Bool
    v = flow net.nodes inputs node t

    abbrev s : List Bool
    s = flow net.nodes inputs sign t

    pub word-length : length v ≡ m
    word-length = flow-width net valid inputs words node t ∙ is

    zeros-flow : flow first.nodes inputs n t ≡ word (length v) 0
    zeros-flow = flow-append_last net.nodes zeros_node inputs t ∙ ap (λ k. word k 0) (sym word-length)

    opposite-flow : flow second.nodes inputs (n + 1) t ≡ opposite v
    opposite-flow =
        ap (λ k. flow second.nodes inputs k t) (sym at_first)
        ∙ flow-append_last first.nodes opposite_node inputs t
        ∙ ap (λ x. sum_with true x (map not (flow first.nodes inputs node t))) zeros-flow
        ∙ ap (λ x. sum_with true (word (length v) 0) (map not x)) (grown-flow net first first-later.grown inputs node t node_within)

    opposite-long : length (flow second.nodes inputs (n + 1) t) ≡ m
    opposite-long =
        flow-width second second-later.valid inputs (words-later net second second-later inputs words) (n + 1) t ∙ opposite-width

    pub choice-flow : flow third.nodes inputs (n + 2) t ≡ cond (highest s) (opposite v) v
    choice-flow =
        ap (λ k. flow third.nodes inputs k t) (sym at_second)
        ∙ flow-append_last second.nodes choice inputs t
        ∙ ap (λ x. chosen x (cut (m - 1) 0 (flow second.nodes inputs (n + 1) t)) (cut (m - 1) 0 (flow second.nodes inputs node t)))
        (grown-flow net second second-later.grown inputs sign t sign_there
        ∙ one-bit s (flow-width net valid inputs words sign t ∙ one))
        ∙ ap (λ x. chosen (highest s ∷ []) x (cut (m - 1) 0 (flow second.nodes inputs node t)))
        (all-bits (flow second.nodes inputs (n + 1) t) m wide.0 opposite-long ∙ opposite-flow)
        ∙ ap (λ x. chosen (highest s ∷ []) (opposite v) (cut (m - 1) 0 x)) (grown-flow net second second-later.grown inputs node t node_within)
        ∙ ap (λ x. chosen (highest s ∷ []) (opposite v) x) (all-bits v m wide.0 word-length)
        ∙ picked (highest s) (opposite v) v

  pub is_signed : IsSigned net sign node m (with_sign sign node m net)
  is_signed = record { later = third-later; width = third-width; word = choice-flow }

  pub has_sign : HasSign net sign node m third (n + 2)
  has_sign = record {
    width = third-width;
    number = λ inputs t words low.
        ap int (choice-flow inputs t words)
        ∙ signed-int (flow net.nodes inputs node t) (highest (flow net.nodes inputs sign t))
        (subst (λ k. 2 * nat (flow net.nodes inputs node t) < 2 ^ k) (sym (word-length inputs t words)) low);
  }

-- the absolute value of a node

module _ (net : Net) (node m : ℕ) (valid : IsValid net) (wide : IsWidth m) (is : slice_index (widths net.nodes) node ≡ m) where
  abbrev sign_node : Node
  sign_node = Cells Wire 1 (sign_of node m)

  abbrev signed : Net
  signed = with_highest node m net

  pub highest-fits : FitsNodes (widths net.nodes) 1 (sign_of node m)
  highest-fits = sign-fits (widths net.nodes) node m wide.0 is

  highest-later : Later net signed
  highest-later = later-node net sign_node valid (refl, highest-fits) refl

  pub highest-width : slice_index (widths signed.nodes) (length net.nodes) ≡ 1
  highest-width = width-append_last net.nodes sign_node

  place_within : node < length net.nodes
  place_within = node_there net node m wide.0 is

  pub still-wide : slice_index (widths signed.nodes) node ≡ m
  still-wide = grown-width net signed highest-later.grown node place_within ∙ is

  abbrev made : Placed
  made = with_absolute node m net

  made_signed : IsSigned signed (length net.nodes) node m made
  made_signed = is_signed signed (length net.nodes) node m highest-later.valid wide highest-width still-wide

  pub absolute-later : Later net made.net
  absolute-later = later-then net signed made.net highest-later made_signed.later

  pub has_absolute : HasAbsolute net node m made.net made.place
  has_absolute = record {
    width = made_signed.width;
    number = λ inputs t words.
        let v = flow net.nodes inputs node t in
        let long : length v ≡ m = flow-width net valid inputs words node t ∙ is in
        let top : flow signed.nodes inputs (length net.nodes) t ≡ highest v ∷ [] =
        flow-append_last net.nodes sign_node inputs t ∙ top-bit v m wide.0 long in
        let kept : flow signed.nodes inputs node t ≡ v = grown-flow net signed highest-later.grown inputs node t place_within in
        ap nat (made_signed.word inputs t (words-later net signed highest-later inputs words))
        ∙ ap (λ x. nat (cond (highest x) (opposite (flow signed.nodes inputs node t)) (flow signed.nodes inputs node t))) top
        ∙ ap (λ x. nat (cond (highest v) (opposite x) x)) kept
        ∙ absolute-number v (omega (arith, long, wide.0));
  }

-- a number of given bits with a sign

module _ (net : Net) (sign : ℕ) (given : List WordBit) (valid : IsValid net) (wide : IsWidth (length given))
    (there : All (IsThere (widths net.nodes)) given) (one : slice_index (widths net.nodes) sign ≡ 1) where
  abbrev word_of : Placed
  word_of = with_bits net given

  word-later : Later net word_of.net
  word-later = made-later net valid given wide there

  sign_within : sign < length net.nodes
  sign_within = node_there net sign 1 (omega arith) one

  pub sign-still : slice_index (widths word_of.net.nodes) sign ≡ 1
  sign-still = grown-width net word_of.net word-later.grown sign sign_within ∙ one

  abbrev result : Placed
  result = with_signed sign net given

  result_signed : IsSigned word_of.net sign word_of.place (length given) result
  result_signed =
      is_signed word_of.net sign word_of.place (length given) word-later.valid wide sign-still (made-width net valid given wide there)

  pub signed-later : Later net result.net
  signed-later = later-then net word_of.net result.net word-later result_signed.later

  pub signed-width : slice_index (widths result.net.nodes) result.place ≡ length given
  signed-width = result_signed.width

  pub signed-number : (inputs : Inputs) (t : ℤ) → All (AreWords (input_widths net)) inputs
      → 2 * number_at net.nodes inputs t given < 2 ^ length given
      → int (flow result.net.nodes inputs result.place t)
      ≡ signed_by (highest (flow net.nodes inputs sign t)) (number_at net.nodes inputs t given)
  signed-number inputs t words low =
      let all =
      has_sign word_of.net sign word_of.place (length given) word-later.valid wide sign-still (made-width net valid given wide there) in
      let same = made-number net valid given wide there inputs t words in
      let kept = grown-flow net word_of.net word-later.grown inputs sign t sign_within in
      all.number inputs t (words-later net word_of.net word-later inputs words)
      (subst (λ k. 2 * k < 2 ^ length given) (sym same) low)
      ∙ ap (λ x. signed_by (highest x) (nat (flow word_of.net.nodes inputs word_of.place t))) kept
      ∙ ap (signed_by (highest (flow net.nodes inputs sign t))) same
