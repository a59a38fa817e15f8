-- The nodes of a nonrestoring division. A step adds the divisor to twice the remainder before, if that is negative, or to its
-- complement, if it is not: the complement of the sum is then what is left when the divisor is subtracted.
use Rattle.std.specs.Prelude.{ℕ, zero, suc, ◌+◌, ◌-◌, Bool, true, false, nat_eq, if◌then◌else◌, List, [], ◌∷◌, ◌++◌, length, replicate, slice_index_or}
use Rattle.opgen_num.specs.Words.{word}
use Rattle.opgen_design.specs.declared.expr.Op.{Op}
use Rattle.opgen_design.specs.declared.expr.Op.TheVariants.{And, Xor, Cat, Plus}
use Rattle.opgen_design.specs.Plain.{trees_of}
use Rattle.opgen_design.specs.Tree.{Tree, name, part, bits, inverse, chain}
use Rattle.opgen_net.specs.declared.cell.Class.TheVariants.{Logic, Add}
use Rattle.opgen_net.specs.declared.net.Net.{Net}
use Rattle.opgen_net.specs.declared.node.Node.TheVariants.{Constant, Cells}
use Rattle.opgen_net.specs.declared.word_bits.WordBit.{WordBit}
use Rattle.opgen_net.specs.declared.word_bits.WordBit.TheVariants.{Zero, Of}
use Rattle.opgen_net.specs.Placed.{with_bits, with_last}
use Rattle.opgen_net.specs.WordRule.{bits_from}
use Rattle.opgen_digits.specs.Digit.{Known}
use Rattle.opgen_nonrestoring.specs.declared.Divisor.{Divisor}
use Rattle.opgen_nonrestoring.specs.declared.Division as declared

-- A net after some steps of a division: the digits, the nodes of the last two digits, and the last sum,
-- which has a bit more than the divisor. The sum is the remainder in two's complement where the digit `before` the last is 0, and the
-- complement of the remainder where it is 1.
pub record Division : Type 0 where
  pub net : Net
  pub digits : List WordBit
  pub before : ℕ
  pub last : ℕ
  pub sum : ℕ

-- a net, with the state of a division in it
abbrev pub division_in : Net → declared.Division → Division
division_in net d = record { net = net; digits = d.known; before = d.before; last = d.last; sum = d.sum }

abbrev pub two : Op → Tree → Tree → Tree
two op a b = chain op (trees_of (a ∷ b ∷ []))

-- the bit of an expression in each place of a word
abbrev pub every : (width : ℕ) → Tree → Tree
every width t = if nat_eq width 1 then t else chain Cat (trees_of (replicate width t))

-- the highest bit of a sum, and those below it
abbrev pub top : (width sum : ℕ) → Tree
top width sum = part sum width width

abbrev pub low : (width sum : ℕ) → Tree
low width sum = part sum (width - 1) 0

-- a step

-- the lower bits of the remainder or of its complement, whichever is negative
abbrev pub negative : (width sum : ℕ) → Tree
negative width sum = two Xor (low width sum) (inverse (every width (top width sum)))

-- the next bit of the numerator, turned where the complement is added to
abbrev pub next_bit : (width bit before sum : ℕ) → Tree
next_bit width bit before sum = inverse (chain Xor (trees_of (name bit ∷ name before ∷ top width sum ∷ [])))

-- the sum of the divisor and twice the negative word, with the next bit below that
abbrev pub next_sum : (divisor negative bit : ℕ) → Tree
next_sum divisor negative bit = two Plus (two Cat (bits (false ∷ [])) (name divisor)) (two Cat (name negative) (name bit))

-- whether the new remainder is not negative
abbrev pub next_digit : (width last sum : ℕ) → Tree
next_digit width last sum = inverse (two Xor (name last) (top width sum))

-- Before the first step the remainder is 0 and the last digit 1.
abbrev pub start : (width : ℕ) → Net → Division
start width net =
    let zeros = with_last net (Constant (word (width + 1) 0)) in
    let zero = with_last zeros (Constant (word 1 0)) in
    record {
      net = with_last zero (Constant (word 1 1));
      digits = [];
      before = length zeros.nodes;
      last = length zero.nodes;
      sum = length net.nodes;
    }

-- the nets of a step: with the next bit, the negative word, the bit turned, the sum, and the digit
abbrev pub with_negative : Divisor → Division → WordBit → Net
with_negative divisor d bit = with_last (with_bits d.net (bit ∷ [])).net (Cells Logic divisor.width (negative divisor.width d.sum))

abbrev pub with_turned : Divisor → Division → WordBit → Net
with_turned divisor d bit =
    with_last (with_negative divisor d bit)
    (Cells Logic 1 (next_bit divisor.width (with_bits d.net (bit ∷ [])).place d.before d.sum))

abbrev pub with_sum : Divisor → Division → WordBit → Net
with_sum divisor d bit =
    with_last (with_turned divisor d bit)
    (Cells Add (divisor.width + 1) (next_sum divisor.node (length (with_bits d.net (bit ∷ [])).net.nodes) (length (with_negative divisor d bit).nodes)))

abbrev pub sum_place : Divisor → Division → WordBit → ℕ
sum_place divisor d bit = length (with_turned divisor d bit).nodes

abbrev pub stepped : Divisor → Division → WordBit → Division
stepped divisor d bit =
    let sum = sum_place divisor d bit in
    let place = length (with_sum divisor d bit).nodes in
    record {
      net = with_last (with_sum divisor d bit) (Cells Logic 1 (next_digit divisor.width d.last sum));
      digits = d.digits ++ Of place 0 ∷ [];
      before = d.last;
      last = place;
      sum = sum;
    }

-- after so many steps, with a bit of the numerator for each
abbrev pub after : (numerator : List WordBit) → Divisor → Net → (steps : ℕ) → Division
after numerator divisor net zero = start divisor.width net
after numerator divisor net (suc k) = stepped divisor (after numerator divisor net k) (slice_index_or numerator k Zero)

-- At the end the remainder is set right: the divisor is added to it where it is negative.

-- the lower bits of the remainder
abbrev pub remainder_bits : (width before sum : ℕ) → Tree
remainder_bits width before sum = two Xor (low width sum) (every width (name before))

-- the divisor where the remainder is negative, and else 0
abbrev pub correction : Divisor → (before sum : ℕ) → Tree
correction divisor before sum =
    two And (name divisor.node) (two Xor (every divisor.width (name before)) (every divisor.width (top divisor.width sum)))

abbrev pub with_remainder : Divisor → Division → Net
with_remainder divisor d = with_last d.net (Cells Logic divisor.width (remainder_bits divisor.width d.before d.sum))

abbrev pub with_correction : Divisor → Division → Net
with_correction divisor d = with_last (with_remainder divisor d) (Cells Logic divisor.width (correction divisor d.before d.sum))

abbrev pub with_rest : Divisor → Division → Net
with_rest divisor d =
    with_last (with_correction divisor d)
    (Cells Add divisor.width (two Plus (name (length d.net.nodes)) (name (length (with_remainder divisor d).nodes))))

-- the digits, and where they are exact the remainder
abbrev pub finished : (exact : Bool) → Divisor → Division → Known
finished true divisor d =
    record { net = with_rest divisor d; digits = d.digits; rest = bits_from (length (with_correction divisor d).nodes) 0 divisor.width }
finished false divisor d = record { net = d.net; digits = d.digits; rest = [] }

abbrev pub divided : (exact : Bool) → (numerator : List WordBit) → Divisor → Net → Known
divided exact numerator divisor net = finished exact divisor (after numerator divisor net (length numerator))
