-- One digit of a quotient or root: a subtraction is tried, and the number is restored if too much was taken off (de Dinechin and
-- Kumm, Application-Specific Arithmetic: digit recurrences).
use Rattle.std.specs.Prelude.{ℕ, ◌≡◌, ◌+◌, ◌-◌, ◌*◌, ◌%◌, ◌^◌, ◌<◌, ◌≤◌, ℤ, Bool, true, false, List, [], ◌∷◌, ◌++◌, length, All, nat_le, slice_index, if◌then◌else◌}
use Rattle.opgen_num.specs.declared.format.TheConstants.{MAX_WIDTH}
use Rattle.opgen_num.specs.Words.{digit, nat}
use Rattle.opgen_design.specs.declared.expr.Slice.{Slice}
use Rattle.opgen_design.specs.Run.{AreWords}
use Rattle.opgen_design.specs.Tree.{Tree, part, inverse}
use Rattle.opgen_net.specs.declared.cell.Class.TheVariants as class
use Rattle.opgen_net.specs.declared.net.Net.{Net}
use Rattle.opgen_net.specs.declared.node.Node.TheVariants as node
use Rattle.opgen_net.specs.declared.word_bits.WordBit.{WordBit}
use Rattle.opgen_net.specs.declared.word_bits.WordBit.TheVariants.{Of}
use Rattle.opgen_net.specs.Flow.{Inputs, flow}
use Rattle.opgen_net.specs.WordRule.{IsThere, bits_from}
use Rattle.opgen_net.specs.Valid.{IsValid, input_widths, widths}
use Rattle.opgen_net.specs.Placed.{number_at, with_last, difference_of}
use Rattle.opgen_digits.specs.declared.Digits.{Digits}
use Rattle.opgen_digits.specs.declared.Trial.{Trial}

-- a net, the digits that are known, and the bits of what is left, from the highest; there are none where they are not made
pub record Known : Type 0 where
  pub net : Net
  pub digits : List WordBit
  pub rest : List WordBit

-- a net, with the digits and the rest that are known in it
abbrev pub known_in : Net → Digits → Known
known_in net digits = record { net = net; digits = digits.known; rest = digits.rest }

-- Numbers of two bits more than the rest are compared, by their difference.

-- 1 where the highest bit of the difference is 0, so where the difference is not negative
abbrev pub is_not_negative : (rest difference : ℕ) → Tree
is_not_negative rest f = inverse (part f (rest + 1) (rest + 1))

abbrev pub lowest : (rest node : ℕ) → Slice
lowest rest n = record { node = n; high = rest - 1; low = 0 }

-- the nodes of a digit
abbrev pub with_difference : (rest : ℕ) → Net → (a b : ℕ) → Net
with_difference rest net a b = with_last net (node.Cells class.Add (rest + 2) (difference_of a b))

abbrev pub with_digit : (rest : ℕ) → Net → (a b : ℕ) → Net
with_digit rest net a b = with_last (with_difference rest net a b) (node.Cells class.Logic 1 (is_not_negative rest (length net.nodes)))

abbrev pub digit_place : (rest : ℕ) → Net → (a b : ℕ) → ℕ
digit_place rest net a b = length (with_difference rest net a b).nodes

abbrev pub with_choice : (rest : ℕ) → Net → (a b : ℕ) → Net
with_choice rest net a b =
    with_last (with_digit rest net a b) (node.Choice (digit_place rest net a b) (lowest rest (length net.nodes)) (lowest rest a))

abbrev pub with_next : (rest : ℕ) → Net → (a b : ℕ) → List WordBit → List WordBit
with_next rest net a b digits = digits ++ Of (digit_place rest net a b) 0 ∷ []

-- Node b is taken off node a where that leaves no less than 0, which is the next digit; what is left is kept or not.
abbrev pub tried : (keep : Bool) → (rest : ℕ) → Net → (a b : ℕ) → List WordBit → Known
tried true rest net a b digits = record {
  net = with_choice rest net a b;
  digits = with_next rest net a b digits;
  rest = bits_from (length (with_digit rest net a b).nodes) 0 rest;
}
tried false rest net a b digits = record { net = with_digit rest net a b; digits = with_next rest net a b digits; rest = [] }

-- the next digit, by the subtraction of a trial
abbrev pub with_trial : (keep : Bool) → Trial → Net → List WordBit → Known
with_trial keep trial net digits = tried keep trial.rest net trial.minuend trial.subtrahend digits

-- a less b where it is not less than b, and else a
abbrev pub left_of : (a b : ℕ) → ℕ
left_of a b = if nat_le b a then a - b else a

-- two nodes of two bits more than the rest
pub record AreOperands (rest : ℕ) (net : Net) (a b : ℕ) : Type 0 where
  pub some : 1 ≤ rest
  pub few : rest + 2 ≤ MAX_WIDTH
  pub wide_a : slice_index (widths net.nodes) a ≡ rest + 2
  pub wide_b : slice_index (widths net.nodes) b ≡ rest + 2

-- At a time at which the highest bits of the numbers x and y of two nodes are 0, there is a digit more, 1 where x is not less
-- than y, and what is kept has the lowest bits of what is left.
pub record HasDigit (keep : Bool) (rest : ℕ) (x y before : ℕ) (known : Known) (inputs : Inputs) (t : ℤ) : Type 0 where
  pub digit : number_at known.net.nodes inputs t known.digits ≡ 2 * before + digit (nat_le y x)
  pub left : keep ≡ true → number_at known.net.nodes inputs t known.rest ≡ left_of x y % 2 ^ rest

abbrev pub DigitsAreRight : Type 0
DigitsAreRight =
    (keep : Bool) (rest : ℕ) (net : Net) (a b : ℕ) (digits : List WordBit) → IsValid net → AreOperands rest net a b
    → All (IsThere (widths net.nodes)) digits → (inputs : Inputs) (t : ℤ) → All (AreWords (input_widths net)) inputs
    → nat (flow net.nodes inputs a t) < 2 ^ (rest + 1) → nat (flow net.nodes inputs b t) < 2 ^ (rest + 1)
    → HasDigit keep rest (nat (flow net.nodes inputs a t)) (nat (flow net.nodes inputs b t)) (number_at net.nodes inputs t digits)
    (tried keep rest net a b digits) inputs t
