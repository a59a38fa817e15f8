-- The net of a division by a small constant: the digits of the input from the highest, each divided by a table with the remainder
-- before it (Ugurdag, de Dinechin and others, Hardware division by small integer constants, 2017).
use Rattle.std.specs.Prelude.{ℕ, zero, suc, ◌+◌, ◌-◌, ◌*◌, ◌/◌, Bool, true, false, List, [], ◌∷◌, ◌++◌, codes, length, replicate, take, drop}
use Rattle.opgen_net.specs.declared.net.Net.{Net}
use Rattle.opgen_net.specs.declared.node.Node.TheVariants.{Input, Table}
use Rattle.opgen_net.specs.declared.word_bits.WordBit.{WordBit}
use Rattle.opgen_net.specs.declared.word_bits.WordBit.TheVariants.{Zero}
use Rattle.opgen_net.specs.WordRule.{bits_from}
use Rattle.opgen_net.specs.Placed.{with_bits, with_last, with_output, whole}
use Rattle.opgen_constdiv.specs.declared.digits.Division.{Division}
use Rattle.opgen_constdiv.specs.Rows.{rest_width, digit_width, rows}

-- the input is node 0
abbrev pub with_input : (width : ℕ) → Net
with_input width = record { inputs = (codes "x", width) ∷ []; nodes = Input 0 width ∷ []; outputs = [] }

-- the fewest digits that have all bits of the input
abbrev pub digit_number : (width divisor : ℕ) → ℕ
digit_number width divisor = (width + (digit_width divisor - 1)) / digit_width divisor

-- the bits of the digits from the highest: those of the input, with zeros above them
abbrev pub dividend : (width divisor : ℕ) → List WordBit
dividend width divisor = replicate (digit_number width divisor * digit_width divisor - width) Zero ++ bits_from 0 0 width

-- digit k from the highest
abbrev pub digit_bits : (width divisor k : ℕ) → List WordBit
digit_bits width divisor k = take (digit_width divisor) (drop (k * digit_width divisor) (dividend width divisor))

-- a net, the bits of the quotient so far, those of the remainder, each from the highest, and the last table
pub record Divided : Type 0 where
  pub net : Net
  pub quotient : List WordBit
  pub rest : List WordBit
  pub table : ℕ

-- a net with a division so far
abbrev pub so_far : Net → Division → Divided
so_far net division = record { net = net; quotient = division.quotient; rest = division.rest; table = division.table }

-- a digit more: a table on the remainder above the digit, which has the next digit of the quotient above the next remainder
abbrev pub divided : (divisor : ℕ) → (digit : List WordBit) → Divided → Divided
divided divisor digit d =
    let address = with_bits d.net (d.rest ++ digit) in
    let table = length address.net.nodes in
    record {
      net = with_last address.net (Table address.place (rows divisor));
      quotient = d.quotient ++ bits_from table (rest_width divisor) (digit_width divisor);
      rest = bits_from table 0 (rest_width divisor);
      table = table;
    }

-- after so many digits; before the first the remainder is zeros
abbrev pub after : (width divisor k : ℕ) → Divided
after width divisor zero =
    record { net = with_input width; quotient = []; rest = replicate (rest_width divisor) Zero; table = 0 }
after width divisor (suc k) = divided divisor (digit_bits width divisor k) (after width divisor k)

-- the lowest bits of the quotient as the output q, and where it is exact the remainder, a part of the last table, as the output r
abbrev pub with_quotient : (width : ℕ) → Divided → Net
with_quotient width d = with_output (codes "q") d.net (drop (length d.quotient - width) d.quotient)

abbrev pub with_rest : (divisor table : ℕ) → Net → Net
with_rest divisor table net =
    record net { outputs = net.outputs ++ record { name = codes "r"; from = whole (rest_width divisor) table } ∷ [] }

abbrev pub with_results : (exact : Bool) → (width divisor : ℕ) → Divided → Net
with_results true width divisor d = with_rest divisor d.table (with_quotient width d)
with_results false width divisor d = with_quotient width d

abbrev pub net_of : (exact : Bool) → (width divisor : ℕ) → Net
net_of exact width divisor = with_results exact width divisor (after width divisor (digit_number width divisor))
