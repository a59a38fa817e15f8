-- The remainder at the end: the nodes that set it right, and its number.
use Rattle.std.proofs.Common.{◌≡◌, ℕ, ◌+◌, ◌-◌, ◌*◌, ◌^◌, ◌<◌, Bool, true, false, not, ◌&&◌, List, [], ◌∷◌, length, take, replicate, refl, sym, ap, ◌∙◌, subst, arith}
use Rattle.std.specs.Prelude.{ℤ, All, slice_index}
use Rattle.std.proofs.lemmas.List.{length-map, length-replicate, length-take-le}
use Rattle.opgen_num.specs.Words.{digit, nat, xor, pairwise, sum_with}
use Rattle.opgen_num.proofs.Words.{nat-below}
use Rattle.opgen_design.specs.declared.expr.Op.TheVariants.{Plus}
use Rattle.opgen_design.specs.Run.{AreWords}
use Rattle.opgen_design.specs.Tree.{name}
use Rattle.opgen_design.specs.Value.{Scope, cut, value, IsWidth}
use Rattle.opgen_design.proofs.WidthLaws.{length-pairwise}
use Rattle.opgen_net.specs.declared.cell.Class.TheVariants.{Logic, Add}
use Rattle.opgen_net.specs.declared.net.Net.{Net}
use Rattle.opgen_net.specs.declared.node.Node.TheVariants.{Cells}
use Rattle.opgen_net.specs.declared.word_bits.WordBit.TheVariants.{Of}
use Rattle.opgen_net.specs.Flow.{Inputs, flow}
use Rattle.opgen_net.specs.Placed.{number_at}
use Rattle.opgen_net.specs.Valid.{widths, input_widths, MayStand, IsValid}
use Rattle.opgen_net.specs.WordRule.{IsThere, bit_flow, bits_from}
use Rattle.opgen_net.proofs.Appending.{flow-append_last, width-append_last}
use Rattle.opgen_net.proofs.BitLists.{bits_from-there, whole-flow}
use Rattle.opgen_net.proofs.FlowWidths.{flow-width}
use Rattle.opgen_net.proofs.Later.{Later, later-then, later-node, words-later}
use Rattle.opgen_net.proofs.Numbers.{at-node}
use Rattle.opgen_digits.proofs.Differences.{highest}
use Rattle.opgen_nonrestoring.specs.declared.Divisor.{Divisor}
use Rattle.opgen_nonrestoring.specs.Recipe.{Division, two as two_of, every, top, remainder_bits, correction, with_remainder, with_correction, with_rest}
use Rattle.opgen_nonrestoring.specs.Steps.{IsDivisor, AreReady}
use Rattle.opgen_nonrestoring.proofs.Numbers.{digit_of}
use Rattle.opgen_nonrestoring.proofs.Classes.{remainder_bits-logic, correction-logic}
use Rattle.opgen_nonrestoring.proofs.Steps.{kept-width, kept-flow}
use Rattle.opgen_nonrestoring.proofs.Widths.{remainder_bits-fits, correction-fits, sum-fits}
use Rattle.opgen_nonrestoring.proofs.Words.{every-value, turned_by, xor-every, two-every, kept_by, and-every, turned-number, total}

module _ (v : Divisor) (d : Division) (valid : IsValid d.net) (is : IsDivisor d.net v) (ready : AreReady v.width d) where
  abbrev w : ℕ
  w = v.width

  abbrev pub one : Net
  one = with_remainder v d

  abbrev pub two : Net
  two = with_correction v d

  abbrev pub three : Net
  three = with_rest v d

  abbrev pub m : ℕ
  m = length d.net.nodes

  abbrev pub c : ℕ
  c = length one.nodes

  abbrev pub r : ℕ
  r = length two.nodes

  wide : IsWidth w
  wide = (is.some, omega (arith, is.few))

  pub bits-stand : MayStand (widths d.net.nodes) (Cells Logic w (remainder_bits w d.before d.sum))
  bits-stand = (
    remainder_bits-logic (widths d.net.nodes) w d.sum d.before,
    remainder_bits-fits (widths d.net.nodes) w d.sum is.some is.few ready.sum d.before ready.before,
  )

  pub one-later : Later d.net one
  one-later = later-node d.net (Cells Logic w (remainder_bits w d.before d.sum)) valid bits-stand refl

  pub divisor-one : slice_index (widths one.nodes) v.node ≡ w
  divisor-one = kept-width d.net one one-later v.node w is.some is.wide

  pub before-one : slice_index (widths one.nodes) d.before ≡ 1
  before-one = kept-width d.net one one-later d.before 1 (omega arith) ready.before

  pub sum-one : slice_index (widths one.nodes) d.sum ≡ w + 1
  sum-one = kept-width d.net one one-later d.sum (w + 1) (omega arith) ready.sum

  pub correction-stands : MayStand (widths one.nodes) (Cells Logic w (correction v d.before d.sum))
  correction-stands = (
    correction-logic (widths one.nodes) w d.sum v.node d.before,
    correction-fits (widths one.nodes) w d.sum is.some is.few sum-one v.node d.before divisor-one before-one,
  )

  two-after : Later one two
  two-after = later-node one (Cells Logic w (correction v d.before d.sum)) one-later.valid correction-stands refl

  pub two-later : Later d.net two
  two-later = later-then d.net one two one-later two-after

  m-one : slice_index (widths one.nodes) m ≡ w
  m-one = width-append_last d.net.nodes (Cells Logic w (remainder_bits w d.before d.sum))

  pub m-two : slice_index (widths two.nodes) m ≡ w
  m-two = kept-width one two two-after m w is.some m-one

  pub c-two : slice_index (widths two.nodes) c ≡ w
  c-two = width-append_last one.nodes (Cells Logic w (correction v d.before d.sum))

  pub rest-stands : MayStand (widths two.nodes) (Cells Add w (two_of Plus (name m) (name c)))
  rest-stands = (refl, sum-fits (widths two.nodes) w m c wide m-two c-two)

  three-after : Later two three
  three-after = later-node two (Cells Add w (two_of Plus (name m) (name c))) two-later.valid rest-stands refl

  pub three-later : Later d.net three
  three-later = later-then d.net two three two-later three-after

  pub r-three : slice_index (widths three.nodes) r ≡ w
  r-three = width-append_last two.nodes (Cells Add w (two_of Plus (name m) (name c)))

  pub rest-there : All (IsThere (widths three.nodes)) (bits_from r 0 w)
  rest-there = bits_from-there (widths three.nodes) r 0 w (omega (arith, r-three))

  -- at a time
  module _ (inputs : Inputs) (t : ℤ) (words : All (AreWords (input_widths d.net)) inputs) where
    abbrev number : List Bool
    number = flow d.net.nodes inputs v.node t

    abbrev sum : List Bool
    sum = flow d.net.nodes inputs d.sum t

    abbrev before : Bool
    before = bit_flow d.net.nodes inputs t (Of d.before 0)

    number-length : length number ≡ w
    number-length = flow-width d.net valid inputs words v.node t ∙ is.wide

    sum-length : length sum ≡ w + 1
    sum-length = flow-width d.net valid inputs words d.sum t ∙ ready.sum

    pub sum_top : (b : Bool) × (cut w w sum ≡ b ∷ []) × (nat sum ≡ nat (take w sum) + digit b * 2 ^ w)
    sum_top = highest w sum sum-length

    abbrev pub high : Bool
    high = sum_top.0

    abbrev pub low : List Bool
    low = take w sum

    low-length : length low ≡ w
    low-length = length-take-le w sum (omega (arith, sum-length))

    before-word : flow d.net.nodes inputs d.before t ≡ before ∷ []
    before-word = sym (whole-flow d.net.nodes inputs t d.before 1 (flow-width d.net valid inputs words d.before t ∙ ready.before))

    abbrev scope_in : Net → Scope
    scope_in net = record { names = λ k. flow net.nodes inputs k t; ports = λ k. [] }

    -- the lower bits of the remainder
    abbrev pub bits : List Bool
    bits = turned_by before low

    bits-flow : flow one.nodes inputs m t ≡ bits
    bits-flow =
        let e : w - 1 + 1 - 0 ≡ w = omega (arith, is.some) in
        flow-append_last d.net.nodes (Cells Logic w (remainder_bits w d.before d.sum)) inputs t
        ∙ ap (λ k. pairwise xor (take k sum) (value (scope_in d.net) (every w (name d.before)))) e
        ∙ ap (pairwise xor low) (every-value (scope_in d.net) (name d.before) before before-word w is.some)
        ∙ ap (λ k. pairwise xor low (replicate k before)) (sym low-length)
        ∙ xor-every low before

    -- the divisor where the remainder is negative
    abbrev negative : Bool
    negative = xor before high

    abbrev pub added : List Bool
    added = pairwise ◌&&◌ number (replicate (length number) negative)

    added-flow : flow two.nodes inputs c t ≡ added
    added-flow =
        let s = scope_in one in
        let turned = every-value s (name d.before) before
        (kept-flow d.net one one-later d.before 1 (omega arith) ready.before inputs t ∙ before-word) w is.some in
        let signs = every-value s (top w d.sum) high
        (ap (cut w w) (kept-flow d.net one one-later d.sum (w + 1) (omega arith) ready.sum inputs t) ∙ sum_top.1) w is.some in
        flow-append_last one.nodes (Cells Logic w (correction v d.before d.sum)) inputs t
        ∙ ap (λ x. pairwise ◌&&◌ x (pairwise xor (value s (every w (name d.before))) (value s (every w (top w d.sum)))))
        (kept-flow d.net one one-later v.node w is.some is.wide inputs t)
        ∙ ap (λ x. pairwise ◌&&◌ number (pairwise xor x (value s (every w (top w d.sum))))) turned
        ∙ ap (λ x. pairwise ◌&&◌ number (pairwise xor (replicate w before) x)) signs
        ∙ ap (pairwise ◌&&◌ number) (two-every w before high)
        ∙ ap (λ k. pairwise ◌&&◌ number (replicate k negative)) (sym number-length)

    abbrev pub out : List Bool
    out = flow three.nodes inputs r t

    out-flow : out ≡ sum_with false bits added
    out-flow =
        flow-append_last two.nodes (Cells Add w (two_of Plus (name m) (name c))) inputs t
        ∙ ap (λ x. sum_with false x (flow two.nodes inputs c t)) (kept-flow one two two-after m w is.some m-one inputs t ∙ bits-flow)
        ∙ ap (sum_with false bits) added-flow

    words_three : All (AreWords (input_widths three)) inputs
    words_three = words-later d.net three three-later inputs words

    out-length : length out ≡ w
    out-length = flow-width three three-later.valid inputs words_three r t ∙ r-three

    pub out-below : nat out < 2 ^ w
    out-below = subst (λ k. nat out < 2 ^ k) out-length (nat-below out)

    pub rest-number : number_at three.nodes inputs t (bits_from r 0 w) ≡ nat out
    rest-number = at-node three.nodes inputs t r w out-length

    bits-length : length bits ≡ w
    bits-length = by before
      where
        by : (turns : Bool) → length (turned_by turns low) ≡ w
        by true = length-map low not ∙ low-length
        by false = low-length

    pub out-total : (k : ℕ) × (nat out + 2 ^ w * k ≡ nat bits + nat added)
    out-total =
        let even : length number ≡ length (replicate (length number) negative) = sym (length-replicate (length number) negative) in
        let both : length bits ≡ length added = bits-length ∙ sym number-length ∙ sym (length-pairwise ◌&&◌ number (replicate (length number) negative) even) in
        let o = total bits added both in (
          o.0,
          ap (λ x. nat x + 2 ^ w * o.0) out-flow ∙ ap (λ k. nat (sum_with false bits added) + 2 ^ k * o.0) (sym bits-length) ∙ o.1,
        )

    -- the numbers of both
    pub bits-one : before ≡ true → nat bits + nat low + 1 ≡ 2 ^ w
    bits-one e = (turned-number low before).0 e ∙ ap (λ k. 2 ^ k) low-length

    pub bits-zero : before ≡ false → nat bits ≡ nat low
    bits-zero e = (turned-number low before).1 e

    pub added-one : (last : Bool) → last ≡ digit_of before high → last ≡ true → nat added ≡ 0
    added-one last e f =
        let none : negative ≡ false = turned negative (sym e ∙ f) in
        and-every number negative ∙ ap (λ c. kept_by c (nat number)) none
      where
        turned : (b : Bool) → not b ≡ true → b ≡ false
        turned true h = absurd (cc)
        turned false h = refl

    pub added-zero : (last : Bool) → last ≡ digit_of before high → last ≡ false → nat added ≡ nat number
    added-zero last e f =
        let all : negative ≡ true = turned negative (sym e ∙ f) in
        and-every number negative ∙ ap (λ c. kept_by c (nat number)) all
      where
        turned : (b : Bool) → not b ≡ false → b ≡ true
        turned true h = refl
        turned false h = absurd (cc)
