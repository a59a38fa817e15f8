-- Worked cases of the step on nets: three times a number of 4 bits, in 6 bits, brought into 4 bits, and wrapped in 4; numbers of 16 bits
-- brought into 4, and of 80 into 8; and how deep the test of so many bits is.
use Rattle.std.specs.Prelude.{◌≡◌, refl, ℕ, zero, suc, ◌+◌, ◌-◌, ◌^◌, max, Bool, true, false, ◌&&◌, ◌||◌, nat_le, nat_lt, List, [], ◌∷◌, ◌++◌, drop, slice_index, pos, codes}
use Rattle.opgen_num.specs.declared.format.Format.{Format}
use Rattle.opgen_num.specs.declared.mode.Overflow.{Overflow}
use Rattle.opgen_num.specs.declared.mode.Overflow.TheVariants.{Saturate, Wrap}
use Rattle.opgen_num.specs.Words.{nat, word}
use Rattle.opgen_design.specs.declared.expr.Op.TheVariants.{Or}
use Rattle.opgen_design.specs.Tree.{Tree, Trees, name, part, inverse, chain, none, more}
use Rattle.opgen_net.specs.declared.cell.Class.TheVariants.{Logic}
use Rattle.opgen_net.specs.declared.net.Net.{Net}
use Rattle.opgen_net.specs.declared.node.Node.{Node}
use Rattle.opgen_net.specs.declared.node.Node.TheVariants.{Input, Cells}
use Rattle.opgen_net.specs.Flow.{flow}
use Rattle.opgen_saturate.specs.Recipe.{differs, with_tree, last_place, with_converted}

abbrev format_of : (signed : Bool) (width : ℕ) → Format
format_of signed width = record { signed = signed; width = width; lsb = pos 0 }

-- an input of so many bits
abbrev input : (width : ℕ) → Net
input width = record { inputs = (codes "a", width) ∷ []; nodes = Input 0 width ∷ []; outputs = [] }

-- what a number becomes, as the number of its word
abbrev converted : Overflow → (from to : Format) → ℕ → ℕ
converted overflow from to n =
    let made = with_converted overflow 0 from to (input from.width) in
    nat (flow made.net.nodes ((word from.width n ∷ []) ∷ []) made.place (pos 0))

abbrev becomes : (from to : Format) → ℕ → ℕ
becomes from to n = converted Saturate from to n

abbrev wraps : (from to : Format) → ℕ → ℕ
wraps from to n = converted Wrap from to n

-- wrapped, unsigned: three times 5, 6 and 15 are 15, 2 and 13
wraps_15 : wraps (format_of false 6) (format_of false 4) 15 ≡ 15
wraps_15 = refl

wraps_18 : wraps (format_of false 6) (format_of false 4) 18 ≡ 2
wraps_18 = refl

wraps_45 : wraps (format_of false 6) (format_of false 4) 45 ≡ 13
wraps_45 = refl

-- wrapped, signed: -24, -9 and 21 (in 6 bits 40, 55 and 21) are -8, 7 and 5 (in 4 bits 8, 7 and 5), and 7 as well where no sign is read
wraps_least_24 : wraps (format_of true 6) (format_of true 4) 40 ≡ 8
wraps_least_24 = refl

wraps_negative_9 : wraps (format_of true 6) (format_of true 4) 55 ≡ 7
wraps_negative_9 = refl

wraps_positive_21 : wraps (format_of true 6) (format_of true 4) 21 ≡ 5
wraps_positive_21 = refl

wraps_without_sign : wraps (format_of true 6) (format_of false 4) 55 ≡ 7
wraps_without_sign = refl

-- wrapped, in more bits: 45 stays, with a sign and without; -9 is -9 (in 8 bits 247), and 247 where no sign is read
wraps_in_8 : wraps (format_of false 6) (format_of true 8) 45 ≡ 45
wraps_in_8 = refl

wraps_negative_in_8 : wraps (format_of true 6) (format_of true 8) 55 ≡ 247
wraps_negative_in_8 = refl

wraps_around_in_8 : wraps (format_of true 6) (format_of false 8) 55 ≡ 247
wraps_around_in_8 = refl

-- unsigned: 3, 15 and 45 are 3, 15 and 15, and 8 bits hold 45
unsigned_3 : becomes (format_of false 6) (format_of false 4) 3 ≡ 3
unsigned_3 = refl

unsigned_15 : becomes (format_of false 6) (format_of false 4) 15 ≡ 15
unsigned_15 = refl

unsigned_45 : becomes (format_of false 6) (format_of false 4) 45 ≡ 15
unsigned_45 = refl

unsigned_in_8 : becomes (format_of false 6) (format_of false 8) 45 ≡ 45
unsigned_in_8 = refl

-- unsigned, in a signed format: 6 stays, 9 is 7
signed_6 : becomes (format_of false 6) (format_of true 4) 6 ≡ 6
signed_6 = refl

signed_9 : becomes (format_of false 6) (format_of true 4) 9 ≡ 7
signed_9 = refl

-- signed: -24, -6, 6 and 21 (in 6 bits 40, 58, 6 and 21) are -8, -6, 6 and 7 (in 4 bits 8, 10, 6 and 7), and -24 in 8 bits is 232
least_24 : becomes (format_of true 6) (format_of true 4) 40 ≡ 8
least_24 = refl

negative_6 : becomes (format_of true 6) (format_of true 4) 58 ≡ 10
negative_6 = refl

positive_6 : becomes (format_of true 6) (format_of true 4) 6 ≡ 6
positive_6 = refl

positive_21 : becomes (format_of true 6) (format_of true 4) 21 ≡ 7
positive_21 = refl

negative_in_8 : becomes (format_of true 6) (format_of true 8) 40 ≡ 232
negative_in_8 = refl

-- signed, in an unsigned format: -24 and -3 are 0, 6 stays, and 21 is 15; in 8 bits -3 is 0 and 21 stays
none_24 : becomes (format_of true 6) (format_of false 4) 40 ≡ 0
none_24 = refl

none_3 : becomes (format_of true 6) (format_of false 4) 61 ≡ 0
none_3 = refl

kept_6 : becomes (format_of true 6) (format_of false 4) 6 ≡ 6
kept_6 = refl

kept_21 : becomes (format_of true 6) (format_of false 4) 21 ≡ 15
kept_21 = refl

none_in_8 : becomes (format_of true 6) (format_of false 8) 61 ≡ 0
none_in_8 = refl

kept_in_8 : becomes (format_of true 6) (format_of false 8) 21 ≡ 21
kept_in_8 = refl

-- 16 bits in 4, both signed: 13 bits are tested. -8 and 7 stay (in 4 bits 8 and 7); -9, -1025 and -32768 are -8; 8, 1024 and 32767 are 7.
low_end : becomes (format_of true 16) (format_of true 4) 65528 ≡ 8
low_end = refl

high_end : becomes (format_of true 16) (format_of true 4) 7 ≡ 7
high_end = refl

below_9 : becomes (format_of true 16) (format_of true 4) 65527 ≡ 8
below_9 = refl

below_1025 : becomes (format_of true 16) (format_of true 4) 64511 ≡ 8
below_1025 = refl

below_all : becomes (format_of true 16) (format_of true 4) 32768 ≡ 8
below_all = refl

above_8 : becomes (format_of true 16) (format_of true 4) 8 ≡ 7
above_8 = refl

above_1024 : becomes (format_of true 16) (format_of true 4) 1024 ≡ 7
above_1024 = refl

above_all : becomes (format_of true 16) (format_of true 4) 32767 ≡ 7
above_all = refl

-- unsigned: 5 stays, and 16 and 32768 are 15; in 4 signed bits 8 and 32768 are 7
unsigned_5 : becomes (format_of false 16) (format_of false 4) 5 ≡ 5
unsigned_5 = refl

unsigned_16 : becomes (format_of false 16) (format_of false 4) 16 ≡ 15
unsigned_16 = refl

unsigned_32768 : becomes (format_of false 16) (format_of false 4) 32768 ≡ 15
unsigned_32768 = refl

signed_8 : becomes (format_of false 16) (format_of true 4) 8 ≡ 7
signed_8 = refl

signed_32768 : becomes (format_of false 16) (format_of true 4) 32768 ≡ 7
signed_32768 = refl

-- signed, in an unsigned format: -1 is 0, 9 stays, and 16 and 16384 are 15
none_1 : becomes (format_of true 16) (format_of false 4) 65535 ≡ 0
none_1 = refl

kept_9 : becomes (format_of true 16) (format_of false 4) 9 ≡ 9
kept_9 = refl

kept_16 : becomes (format_of true 16) (format_of false 4) 16 ≡ 15
kept_16 = refl

kept_16384 : becomes (format_of true 16) (format_of false 4) 16384 ≡ 15
kept_16384 = refl

-- a product of 40 by 40 signed bits in 8 bits: 2 to the power 78 is 127, and the least, which is minus 2 to the power 79, is -128
most_of_80 : becomes (format_of true 80) (format_of true 8) (2 ^ 78) ≡ 127
most_of_80 = refl

least_of_80 : becomes (format_of true 80) (format_of true 8) (2 ^ 79) ≡ 128
least_of_80 = refl

-- The cells that test bits 3 to 15: three groups, which share bits 8 and 13, and one that joins them. Of unsigned numbers bits 4 to 15 are
-- two groups. Six bits are one cell.
abbrev tested : (both : Bool) → (low count : ℕ) → List Node
tested both low count = drop 1 (with_tree both 0 low count (input 16)).nodes

shared_groups :
    tested true 3 13 ≡ Cells Logic 1 (differs true 0 3 6) ∷ Cells Logic 1 (differs true 0 8 6) ∷ Cells Logic 1 (differs true 0 13 3)
    ∷ Cells Logic 1 (chain Or (more (name 3) (more (name 2) (more (name 1) none)))) ∷ []
shared_groups = refl

two_groups :
    tested false 4 12 ≡ Cells Logic 1 (differs false 0 4 6) ∷ Cells Logic 1 (differs false 0 10 6)
    ∷ Cells Logic 1 (chain Or (more (name 2) (more (name 1) none))) ∷ []
two_groups = refl

one_group : tested true 10 6 ≡ Cells Logic 1 (differs true 0 10 6) ∷ []
one_group = refl

-- how many cells of logic stand one behind the other, up to an expression over nodes of these depths
abbrev mutual
  depth : List ℕ → Tree → ℕ
  depth ds (name n) = slice_index ds n
  depth ds (part n high low) = slice_index ds n
  depth ds (inverse t) = depth ds t
  depth ds (chain op ts) = most_depth ds ts
  depth ds _ = 0

  most_depth : List ℕ → Trees → ℕ
  most_depth ds none = 0
  most_depth ds (more t ts) = max (depth ds t) (most_depth ds ts)

abbrev node_depth : List ℕ → Node → ℕ
node_depth ds (Cells class width e) = depth ds e + 1
node_depth ds _ = 0

abbrev depths_on : List ℕ → List Node → List ℕ
depths_on ds [] = ds
depths_on ds (n ∷ ns) = depths_on (ds ++ node_depth ds n ∷ []) ns

-- the depth of the test of so many bits
abbrev test_depth : (both : Bool) → (count : ℕ) → ℕ
test_depth both count = let made = with_tree both 0 0 count (input 96) in slice_index (depths_on [] made.nodes) (last_place made)

test_of_6 : test_depth true 6 ≡ 1
test_of_6 = refl

test_of_7 : test_depth true 7 ≡ 2
test_of_7 = refl

test_of_36 : test_depth false 36 ≡ 2
test_of_36 = refl

test_of_96 : test_depth true 96 ≡ 3
test_of_96 = refl

-- The depth d of a test of n bits is at most one more than the logarithm of n to base 6, rounded up: d is 1, or n is above 6 to the
-- power d - 2. So it is for each number of bits up to some.
abbrev is_shallow : (depth count : ℕ) → Bool
is_shallow d count = nat_le d 1 || nat_lt (6 ^ (d - 2)) count

abbrev are_shallow : (both : Bool) → (most : ℕ) → Bool
are_shallow both zero = true
are_shallow both (suc k) = is_shallow (test_depth both (suc k)) (suc k) && are_shallow both k

shallow_signed : are_shallow true 96 ≡ true
shallow_signed = refl

shallow_unsigned : are_shallow false 96 ≡ true
shallow_unsigned = refl
