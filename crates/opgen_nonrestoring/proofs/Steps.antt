-- One step: the nets that it appends to, and the words of their nodes.
use Rattle.std.proofs.Common.{◌≡◌, ℕ, ◌+◌, ◌-◌, ◌*◌, ◌^◌, ◌≤◌, Bool, true, false, not, List, [], ◌∷◌, ◌++◌, length, length-append, map, take, replicate, refl, sym, ap, ◌∙◌, arith}
use Rattle.std.specs.Prelude.{ℤ, All, slice_index, slice_index_or}
use Rattle.std.proofs.lemmas.List.{length-map, length-take-le}
use Rattle.std.proofs.lemmas.List.Elements.{All-append, All-cons, All-nil}
use Rattle.opgen_num.specs.Words.{digit, nat, xor, pairwise, sum_with}
use Rattle.opgen_design.specs.Run.{AreWords}
use Rattle.opgen_design.specs.Value.{Scope, cut, value, IsWidth}
use Rattle.opgen_net.specs.declared.cell.Class.TheVariants.{Logic, Add}
use Rattle.opgen_net.specs.declared.net.Net.{Net}
use Rattle.opgen_net.specs.declared.node.Node.TheVariants.{Cells}
use Rattle.opgen_net.specs.declared.word_bits.WordBit.{WordBit}
use Rattle.opgen_net.specs.declared.word_bits.WordBit.TheVariants.{Of}
use Rattle.opgen_net.specs.Flow.{Inputs, flow}
use Rattle.opgen_net.specs.Placed.{number_at, with_bits}
use Rattle.opgen_net.specs.Valid.{widths, input_widths, MayStand, IsValid}
use Rattle.opgen_net.specs.WordRule.{IsThere, bit_flow}
use Rattle.opgen_net.proofs.Appending.{flow-append_last, width-append_last}
use Rattle.opgen_net.proofs.BitLists.{whole-flow}
use Rattle.opgen_net.proofs.FlowWidths.{flow-width}
use Rattle.opgen_net.proofs.Grown.{grown-flow, grown-width, grown-all_there}
use Rattle.opgen_net.proofs.Later.{Later, later-then, later-node, node_there, words-later}
use Rattle.opgen_net.proofs.Numbers.{at-push, number-kept}
use Rattle.opgen_net.proofs.WordLaws.{word-has_bits}
use Rattle.opgen_digits.proofs.Differences.{highest}
use Rattle.opgen_digits.proofs.Outputs.{made-later, made-width}
use Rattle.opgen_nonrestoring.specs.declared.Divisor.{Divisor}
use Rattle.opgen_nonrestoring.specs.Recipe.{Division, every, top, negative, next_bit, next_sum, next_digit, with_negative, with_turned, with_sum, sum_place, stepped}
use Rattle.opgen_nonrestoring.specs.Steps.{IsDivisor, AreReady}
use Rattle.opgen_nonrestoring.proofs.Numbers.{digit_of}
use Rattle.opgen_nonrestoring.proofs.Classes.{negative-logic, next_bit-logic, next_digit-logic}
use Rattle.opgen_nonrestoring.proofs.Widths.{negative-fits, next_bit-fits, next_digit-fits, next_sum-fits}
use Rattle.opgen_nonrestoring.proofs.Words.{every-value, turned_by, xor-every, not-every, turned-number, total, zero-above}

-- a node keeps its width and its words in a net that has grown
module _ (old new : Net) (later : Later old new) (n k : ℕ) (some : 1 ≤ k) (wide : slice_index (widths old.nodes) n ≡ k) where
  pub kept-width : slice_index (widths new.nodes) n ≡ k
  kept-width = grown-width old new later.grown n (node_there old n k some wide) ∙ wide

  pub kept-flow : (inputs : Inputs) (t : ℤ) → flow new.nodes inputs n t ≡ flow old.nodes inputs n t
  kept-flow inputs t = grown-flow old new later.grown inputs n t (node_there old n k some wide)

module _ (v : Divisor) (d : Division) (valid : IsValid d.net) (is : IsDivisor d.net v) (ready : AreReady v.width d) (bit : WordBit)
    (there : IsThere (widths d.net.nodes) bit) where
  abbrev w : ℕ
  w = v.width

  abbrev pub one : Net
  one = (with_bits d.net (bit ∷ [])).net

  abbrev pub a : ℕ
  a = (with_bits d.net (bit ∷ [])).place

  abbrev pub two : Net
  two = with_negative v d bit

  abbrev pub three : Net
  three = with_turned v d bit

  abbrev pub four : Net
  four = with_sum v d bit

  abbrev pub five : Net
  five = (stepped v d bit).net

  abbrev pub n : ℕ
  n = length one.nodes

  abbrev pub u : ℕ
  u = length two.nodes

  abbrev pub s : ℕ
  s = sum_place v d bit

  abbrev pub q : ℕ
  q = length four.nodes

  bits_there : All (IsThere (widths d.net.nodes)) (bit ∷ [])
  bits_there = let P = IsThere (widths d.net.nodes) in All-cons P bit [] there (All-nil P)

  bit_wide : IsWidth 1
  bit_wide = (omega arith, omega arith)

  pub one-later : Later d.net one
  one-later = made-later d.net valid (bit ∷ []) bit_wide bits_there

  pub a-width : slice_index (widths one.nodes) a ≡ 1
  a-width = made-width d.net valid (bit ∷ []) bit_wide bits_there

  pub sum-one : slice_index (widths one.nodes) d.sum ≡ w + 1
  sum-one = kept-width d.net one one-later d.sum (w + 1) (omega arith) ready.sum

  pub negative-stands : MayStand (widths one.nodes) (Cells Logic w (negative w d.sum))
  negative-stands = (negative-logic (widths one.nodes) w d.sum, negative-fits (widths one.nodes) w d.sum is.some is.few sum-one)

  two-after : Later one two
  two-after = later-node one (Cells Logic w (negative w d.sum)) one-later.valid negative-stands refl

  pub two-later : Later d.net two
  two-later = later-then d.net one two one-later two-after

  n-two : slice_index (widths two.nodes) n ≡ w
  n-two = width-append_last one.nodes (Cells Logic w (negative w d.sum))

  pub a-two : slice_index (widths two.nodes) a ≡ 1
  a-two = kept-width one two two-after a 1 (omega arith) a-width

  pub before-two : slice_index (widths two.nodes) d.before ≡ 1
  before-two = kept-width d.net two two-later d.before 1 (omega arith) ready.before

  pub sum-two : slice_index (widths two.nodes) d.sum ≡ w + 1
  sum-two = kept-width d.net two two-later d.sum (w + 1) (omega arith) ready.sum

  pub turned-stands : MayStand (widths two.nodes) (Cells Logic 1 (next_bit w a d.before d.sum))
  turned-stands = (
    next_bit-logic (widths two.nodes) w d.sum a d.before a-two before-two,
    next_bit-fits (widths two.nodes) w d.sum is.some is.few sum-two a d.before a-two before-two,
  )

  three-after : Later two three
  three-after = later-node two (Cells Logic 1 (next_bit w a d.before d.sum)) two-later.valid turned-stands refl

  pub three-later : Later d.net three
  three-later = later-then d.net two three two-later three-after

  pub u-three : slice_index (widths three.nodes) u ≡ 1
  u-three = width-append_last two.nodes (Cells Logic 1 (next_bit w a d.before d.sum))

  pub n-three : slice_index (widths three.nodes) n ≡ w
  n-three = kept-width two three three-after n w is.some n-two

  pub divisor-three : slice_index (widths three.nodes) v.node ≡ w
  divisor-three = kept-width d.net three three-later v.node w is.some is.wide

  pub sum-stands : MayStand (widths three.nodes) (Cells Add (w + 1) (next_sum v.node n u))
  sum-stands = (refl, next_sum-fits (widths three.nodes) w v.node n u is.some is.few divisor-three n-three u-three)

  four-after : Later three four
  four-after = later-node three (Cells Add (w + 1) (next_sum v.node n u)) three-later.valid sum-stands refl

  pub four-later : Later d.net four
  four-later = later-then d.net three four three-later four-after

  pub s-four : slice_index (widths four.nodes) s ≡ w + 1
  s-four = width-append_last three.nodes (Cells Add (w + 1) (next_sum v.node n u))

  pub last-four : slice_index (widths four.nodes) d.last ≡ 1
  last-four = kept-width d.net four four-later d.last 1 (omega arith) ready.last

  pub digit-stands : MayStand (widths four.nodes) (Cells Logic 1 (next_digit w d.last s))
  digit-stands = (
    next_digit-logic (widths four.nodes) w s d.last last-four,
    next_digit-fits (widths four.nodes) w s is.some is.few s-four d.last last-four,
  )

  five-after : Later four five
  five-after = later-node four (Cells Logic 1 (next_digit w d.last s)) four-later.valid digit-stands refl

  pub five-later : Later d.net five
  five-later = later-then d.net four five four-later five-after

  pub ready-after : AreReady w (stepped v d bit)
  ready-after = record {
    before = kept-width d.net five five-later d.last 1 (omega arith) ready.last;
    last = width-append_last four.nodes (Cells Logic 1 (next_digit w d.last s));
    sum = kept-width four five five-after s (w + 1) (omega arith) s-four;
  }

  pub digits-after : All (IsThere (widths d.net.nodes)) d.digits → All (IsThere (widths five.nodes)) (stepped v d bit).digits
  digits-after h =
      let P = IsThere (widths five.nodes) in
      All-append P d.digits (Of q 0 ∷ []) (grown-all_there d.net five five-later.grown d.digits h)
      (All-cons P (Of q 0) [] (omega (arith, ready-after.last)) (All-nil P))

  -- at a time
  module _ (inputs : Inputs) (t : ℤ) (words : All (AreWords (input_widths d.net)) inputs) where
    abbrev number : List Bool
    number = flow d.net.nodes inputs v.node t

    abbrev pub sum : List Bool
    sum = flow d.net.nodes inputs d.sum t

    abbrev before : Bool
    before = bit_flow d.net.nodes inputs t (Of d.before 0)

    abbrev last : Bool
    last = bit_flow d.net.nodes inputs t (Of d.last 0)

    abbrev next : Bool
    next = bit_flow d.net.nodes inputs t bit

    number-length : length number ≡ w
    number-length = flow-width d.net valid inputs words v.node t ∙ is.wide

    sum-length : length sum ≡ w + 1
    sum-length = flow-width d.net valid inputs words d.sum t ∙ ready.sum

    pub sum_top : (b : Bool) × (cut w w sum ≡ b ∷ []) × (nat sum ≡ nat (take w sum) + digit b * 2 ^ w)
    sum_top = highest w sum sum-length

    abbrev pub high : Bool
    high = sum_top.0

    abbrev pub low : List Bool
    low = take w sum

    low-length : length low ≡ w
    low-length = length-take-le w sum (omega (arith, sum-length))

    bit-word : (node : ℕ) → slice_index (widths d.net.nodes) node ≡ 1
        → flow d.net.nodes inputs node t ≡ bit_flow d.net.nodes inputs t (Of node 0) ∷ []
    bit-word node h = sym (whole-flow d.net.nodes inputs t node 1 (flow-width d.net valid inputs words node t ∙ h))

    abbrev scope_in : Net → Scope
    scope_in net = record { names = λ m. flow net.nodes inputs m t; ports = λ m. [] }

    -- the lower bits of the sum, and its highest bit, in a net that has grown
    low-cut : (net : Net) → Later d.net net → cut (w - 1) 0 (flow net.nodes inputs d.sum t) ≡ low
    low-cut net later =
        let e : w - 1 + 1 - 0 ≡ w = omega (arith, is.some) in
        ap (cut (w - 1) 0) (kept-flow d.net net later d.sum (w + 1) (omega arith) ready.sum inputs t) ∙ ap (λ k. take k sum) e

    top-cut : (net : Net) → Later d.net net → cut w w (flow net.nodes inputs d.sum t) ≡ high ∷ []
    top-cut net later = ap (cut w w) (kept-flow d.net net later d.sum (w + 1) (omega arith) ready.sum inputs t) ∙ sum_top.1

    -- the negative word
    negative-flow : flow two.nodes inputs n t ≡ turned_by (not high) low
    negative-flow =
        flow-append_last one.nodes (Cells Logic w (negative w d.sum)) inputs t
        ∙ ap (λ x. pairwise xor x (map not (value (scope_in one) (every w (top w d.sum))))) (low-cut one one-later)
        ∙ ap (λ x. pairwise xor low (map not x)) (every-value (scope_in one) (top w d.sum) high (top-cut one one-later) w is.some)
        ∙ ap (pairwise xor low) (not-every w high)
        ∙ ap (λ k. pairwise xor low (replicate k (not high))) (sym low-length)
        ∙ xor-every low (not high)

    -- the bit of the numerator
    a-flow : flow one.nodes inputs a t ≡ next ∷ []
    a-flow = word-has_bits d.net valid (bit ∷ []) bits_there inputs t words

    turned-flow : flow three.nodes inputs u t ≡ not (xor (xor next before) high) ∷ []
    turned-flow =
        flow-append_last two.nodes (Cells Logic 1 (next_bit w a d.before d.sum)) inputs t
        ∙ ap (λ x. map not (pairwise xor (pairwise xor x (flow two.nodes inputs d.before t)) (cut w w (flow two.nodes inputs d.sum t))))
        (kept-flow one two two-after a 1 (omega arith) a-width inputs t ∙ a-flow)
        ∙ ap (λ x. map not (pairwise xor (pairwise xor (next ∷ []) x) (cut w w (flow two.nodes inputs d.sum t))))
        (kept-flow d.net two two-later d.before 1 (omega arith) ready.before inputs t ∙ bit-word d.before ready.before)
        ∙ ap (λ x. map not (pairwise xor (xor next before ∷ []) x)) (top-cut two two-later)

    abbrev pub turned : Bool
    turned = not (xor (xor next before) high)

    abbrev pub rest : List Bool
    rest = turned_by (not high) low

    sum-flow : flow four.nodes inputs s t ≡ sum_with false (number ++ false ∷ []) (turned ∷ rest)
    sum-flow =
        flow-append_last three.nodes (Cells Add (w + 1) (next_sum v.node n u)) inputs t
        ∙ ap (λ x. sum_with false (x ++ false ∷ []) (flow three.nodes inputs u t ++ flow three.nodes inputs n t))
        (kept-flow d.net three three-later v.node w is.some is.wide inputs t)
        ∙ ap (λ x. sum_with false (number ++ false ∷ []) (x ++ flow three.nodes inputs n t)) turned-flow
        ∙ ap (λ x. sum_with false (number ++ false ∷ []) (turned ∷ x))
        (kept-flow two three three-after n w is.some n-two inputs t ∙ negative-flow)

    abbrev pub new_sum : List Bool
    new_sum = flow four.nodes inputs s t

    words_four : All (AreWords (input_widths four)) inputs
    words_four = words-later d.net four four-later inputs words

    new-length : length new_sum ≡ w + 1
    new-length = flow-width four four-later.valid inputs words_four s t ∙ s-four

    pub new_top : (b : Bool) × (cut w w new_sum ≡ b ∷ []) × (nat new_sum ≡ nat (take w new_sum) + digit b * 2 ^ w)
    new_top = highest w new_sum new-length

    digit-flow : flow five.nodes inputs q t ≡ digit_of last new_top.0 ∷ []
    digit-flow =
        flow-append_last four.nodes (Cells Logic 1 (next_digit w d.last s)) inputs t
        ∙ ap (λ x. map not (pairwise xor x (cut w w new_sum)))
        (kept-flow d.net four four-later d.last 1 (omega arith) ready.last inputs t ∙ bit-word d.last ready.last)
        ∙ ap (λ x. map not (pairwise xor (last ∷ []) x)) new_top.1

    -- in the net after the step: the digit, the digit before it, and the sum
    pub last-after : bit_flow five.nodes inputs t (Of q 0) ≡ digit_of last new_top.0
    last-after = ap (λ x. slice_index_or x 0 false) digit-flow

    pub before-after : bit_flow five.nodes inputs t (Of d.last 0) ≡ last
    before-after = ap (λ x. slice_index_or x 0 false) (kept-flow d.net five five-later d.last 1 (omega arith) ready.last inputs t)

    pub sum-after : flow five.nodes inputs s t ≡ new_sum
    sum-after = kept-flow four five five-after s (w + 1) (omega arith) s-four inputs t

    pub digits-number : All (IsThere (widths d.net.nodes)) d.digits
        → number_at five.nodes inputs t (stepped v d bit).digits ≡ 2 * number_at d.net.nodes inputs t d.digits + digit (digit_of last new_top.0)
    digits-number h =
        at-push five.nodes inputs t d.digits (Of q 0)
        ∙ ap (λ m. 2 * m + digit (bit_flow five.nodes inputs t (Of q 0)))
        (number-kept d.net.nodes five.nodes (grown-flow d.net five five-later.grown) inputs t d.digits h)
        ∙ ap (λ c. 2 * number_at d.net.nodes inputs t d.digits + digit c) last-after

    -- the sums as numbers
    pub old_sum-is : nat sum ≡ nat low + digit high * 2 ^ w
    old_sum-is = sum_top.2

    pub new_sum-is : nat new_sum ≡ nat (take w new_sum) + digit new_top.0 * 2 ^ w
    new_sum-is = new_top.2

    pub negative-zero : high ≡ false → nat rest + nat low + 1 ≡ 2 ^ w
    negative-zero e =
        let turns : not high ≡ true = ap not e in
        (turned-number low (not high)).0 turns ∙ ap (λ k. 2 ^ k) low-length

    pub negative-one : high ≡ true → nat rest ≡ nat low
    negative-one e = let turns : not high ≡ false = ap not e in (turned-number low (not high)).1 turns

    rest-length : length rest ≡ w
    rest-length = by (not high)
      where
        by : (turns : Bool) → length (turned_by turns low) ≡ w
        by true = length-map low not ∙ low-length
        by false = low-length

    pub sum-total : (c : ℕ) × (nat new_sum + 2 ^ (w + 1) * c ≡ nat number + (digit turned + 2 * nat rest))
    sum-total =
        let long : length (number ++ false ∷ []) ≡ w + 1 = omega (arith, length-append number (false ∷ []), number-length) in
        let both : length (number ++ false ∷ []) ≡ length (turned ∷ rest) = omega (arith, long, rest-length) in
        let o = total (number ++ false ∷ []) (turned ∷ rest) both in (
          o.0,
          ap (λ x. nat x + 2 ^ (w + 1) * o.0) sum-flow
              ∙ ap (λ k. nat (sum_with false (number ++ false ∷ []) (turned ∷ rest)) + 2 ^ k * o.0) (sym long)
              ∙ o.1
              ∙ ap (λ m. m + (digit turned + 2 * nat rest)) (zero-above number),
        )
