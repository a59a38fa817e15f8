-- The net of a quotient: its digits from the highest, one for each bit of the numerator, with restoring or without. Of signed
-- inputs the absolute values are divided, and the results have their signs put to them.
use Rattle.std.specs.Prelude.{ℕ, zero, suc, ◌+◌, Bool, true, false, ◌||◌, List, [], ◌∷◌, ◌++◌, codes, length, nat_lt, replicate, slice_index_or}
use Rattle.opgen_design.specs.declared.expr.Op.TheVariants.{Xor}
use Rattle.opgen_design.specs.Tree.{Tree, chain, none, more}
use Rattle.opgen_net.specs.declared.cell.Class.TheVariants.{Logic, Wire}
use Rattle.opgen_net.specs.declared.net.Net.{Net}
use Rattle.opgen_net.specs.declared.node.Node.TheVariants.{Input, Cells}
use Rattle.opgen_net.specs.declared.word_bits.WordBit.{WordBit}
use Rattle.opgen_net.specs.declared.word_bits.WordBit.TheVariants.{Zero}
use Rattle.opgen_net.specs.WordRule.{bits_from}
use Rattle.opgen_kinds.specs.declared.pair.Pair.{Pair}
use Rattle.opgen_kinds.specs.Pair.{pair_shift}
use Rattle.opgen_ports.specs.declared.recipes.Recurrence.{Recurrence}
use Rattle.opgen_ports.specs.declared.recipes.Recurrence.TheVariants.{Restoring, Nonrestoring}
use Rattle.opgen_ports.specs.Reaches.{places_up}
use Rattle.opgen_net.specs.Placed.{Placed, with_bits, with_last}
use Rattle.opgen_digits.specs.Digit.{Known, tried}
use Rattle.opgen_digits.specs.Results.{with_results}
use Rattle.opgen_nonrestoring.specs.declared.Divisor.{Divisor}
use Rattle.opgen_nonrestoring.specs.Recipe.{divided}
use Rattle.opgen_divide.specs.Sign.{sign_of, with_absolute, with_signed}

-- the dividend is node 0, the divisor node 1
abbrev pub with_inputs : Pair → Net
with_inputs p = record {
  inputs = (codes "a", p.a.width) ∷ (codes "b", p.b.width) ∷ [];
  nodes = Input 0 p.a.width ∷ Input 1 p.b.width ∷ [];
  outputs = [];
}

-- a net, and the nodes of the dividend and the divisor without their signs
pub record Magnitudes : Type 0 where
  pub net : Net
  pub dividend : ℕ
  pub divisor : ℕ

abbrev pub magnitudes_of : (signed : Bool) → Pair → Magnitudes
magnitudes_of true p =
    let a = with_absolute 0 p.a.width (with_inputs p) in
    let b = with_absolute 1 p.b.width a.net in
    record { net = b.net; dividend = a.place; divisor = b.place }
magnitudes_of false p = record { net = with_inputs p; dividend = 0; divisor = 1 }

abbrev pub with_magnitudes : Pair → Magnitudes
with_magnitudes p = magnitudes_of p.a.signed p

-- the numerator: the dividend, with as many zeros below it as it is shifted up
abbrev pub numerator : Pair → List WordBit
numerator p = bits_from (with_magnitudes p).dividend 0 p.a.width ++ replicate (places_up (pair_shift p)) Zero

abbrev pub digit_count : Pair → ℕ
digit_count p = p.a.width + places_up (pair_shift p)

-- With restoring, each step takes the divisor off and puts it back where that was too much.

-- the divisor with two zeros above it
abbrev pub with_divisor : Pair → Placed
with_divisor p = with_bits (with_magnitudes p).net (Zero ∷ Zero ∷ bits_from (with_magnitudes p).divisor 0 p.b.width)

-- A step: what is left, the next bit of the numerator below it and a zero above it, less the divisor.
abbrev pub minuend : Known → WordBit → List WordBit
minuend known bit = Zero ∷ (known.rest ++ bit ∷ [])

abbrev pub stepped : (keep : Bool) → (width divisor : ℕ) → Known → WordBit → Known
stepped keep width divisor known bit =
    let a = with_bits known.net (minuend known bit) in
    tried keep width a.net a.place divisor known.digits

-- what step k leaves is needed for the step after it, or asked for
abbrev pub keeps : Pair → (k : ℕ) → Bool
keeps p k = p.exact || nat_lt k (digit_count p)

-- after so many steps; nothing is left before the first
abbrev pub after : Pair → (steps : ℕ) → Known
after p zero = record { net = (with_divisor p).net; digits = []; rest = replicate p.b.width Zero }
after p (suc k) = stepped (keeps p (suc k)) p.b.width (with_divisor p).place (after p k) (slice_index_or (numerator p) k Zero)

-- the node of the divisor without its sign
abbrev pub divisor_node : Pair → Divisor
divisor_node p = record { node = (with_magnitudes p).divisor; width = p.b.width }

-- the quotient and the remainder of the numbers without their signs, by the recurrence that is asked for
abbrev pub divided_by : Recurrence → Pair → Known
divided_by Restoring p = after p (digit_count p)
divided_by Nonrestoring p = divided p.exact (numerator p) (divisor_node p) (with_magnitudes p).net

abbrev pub divided_sizes : Pair → Known
divided_sizes p = divided_by p.recurrence p

-- A quotient below 0 is one of inputs of which exactly one is below 0. It has a bit more than it has digits.
abbrev pub signs_differ : Pair → Tree
signs_differ p = chain Xor (more (sign_of 0 p.a.width) (more (sign_of 1 p.b.width) none))

abbrev pub with_quotient : Pair → Net → (digits : List WordBit) → Placed
with_quotient p net digits =
    with_signed (length net.nodes) (with_last net (Cells Logic 1 (signs_differ p))) (Zero ∷ digits)

-- a remainder below 0 is one of a dividend below 0
abbrev pub with_remainder : Pair → Net → (rest : List WordBit) → Placed
with_remainder p net rest =
    with_signed (length net.nodes) (with_last net (Cells Wire 1 (sign_of 0 p.a.width))) rest

-- the results with their signs
abbrev pub signed_results : (exact : Bool) → Pair → Known → Known
signed_results true p known =
    let q = with_quotient p known.net known.digits in
    let r = with_remainder p q.net known.rest in
    record { net = r.net; digits = bits_from q.place 0 (length known.digits + 1); rest = bits_from r.place 0 (length known.rest) }
signed_results false p known =
    let q = with_quotient p known.net known.digits in
    record { net = q.net; digits = bits_from q.place 0 (length known.digits + 1); rest = [] }

abbrev pub results_of : (signed : Bool) → Pair → Known → Known
results_of true p known = signed_results p.exact p known
results_of false p known = known

abbrev pub with_signs : Pair → Known → Known
with_signs p known = results_of p.a.signed p known

abbrev pub net_of_pair : Pair → Net
net_of_pair p = with_results p.exact (codes "q") (with_signs p (divided_sizes p))
