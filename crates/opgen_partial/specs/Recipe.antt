-- The partial products of two factors in a bit heap (de Dinechin and Kumm, Application-Specific Arithmetic: multiplication, and
-- truncated multipliers).
use Rattle.std.specs.Prelude.{ℕ, zero, suc, ◌+◌, ◌-◌, ◌*◌, ◌^◌, ◌&&◌, not, Bool, true, false, if◌then◌else◌, nat_eq, nat_le, nat_lt, length, ℤ, pos, neg_ℤ, ◌+ℤ◌, ◌-ℤ◌}
use Rattle.opgen_num.specs.Words.{xor}
use Rattle.opgen_design.specs.declared.expr.Op.TheVariants.{And}
use Rattle.opgen_design.specs.Tree.{Tree, name, part, inverse, chain, more, none}
use Rattle.opgen_net.specs.declared.cell.Class.TheVariants.{Logic}
use Rattle.opgen_net.specs.declared.node.Node.TheVariants.{Cells}
use Rattle.opgen_net.specs.declared.word_bits.WordBit.TheVariants.{Of}
use Rattle.opgen_net.specs.Placed.{with_last}
use Rattle.opgen_heap.specs.Adding.{with_bit}
use Rattle.opgen_partial.specs.declared.pairs.Factor.{Factor}
use Rattle.opgen_partial.specs.declared.pairs.Placing.{Placing}
use Rattle.opgen_partial.specs.declared.pairs.Products.{Products}
use Rattle.opgen_partial.specs.declared.pairs.Work.{Work}

-- a bit of a factor: a node of one bit is read by its name

abbrev pub bit_of : Factor → (index : ℕ) → Tree
bit_of f index = if nat_eq f.width 1 then name f.node else part f.node index index

abbrev pub both : Products → (i j : ℕ) → Tree
both p i j = chain And (more (bit_of p.a i) (more (bit_of p.b j) none))

abbrev pub is_sign : Factor → (index : ℕ) → Bool
is_sign f index = f.signed && nat_eq (index + 1) f.width

-- one of the two bits is a sign, and not both
abbrev pub has_one_sign : Products → (i j : ℕ) → Bool
has_one_sign p i j = xor (is_sign p.a i) (is_sign p.b j)

-- each bit in its own column, of two factors, added
abbrev pub in_place : Placing
in_place = record { square = false; negative = false; raised = 0; lowered = 0 }

-- two bits of a square are one bit, or two that are there once and count twice

abbrev pub is_single : Placing → (i j : ℕ) → Bool
is_single f i j = f.square && nat_eq i j

abbrev pub own_column : Placing → (i j : ℕ) → ℕ
own_column f i j = if f.square && not (nat_eq i j) then i + j + 1 else i + j

abbrev pub is_counted : Placing → (i j : ℕ) → Bool
is_counted f i j = not (f.square && nat_lt j i)

-- and are not left out
abbrev pub is_made : Products → Placing → (i j : ℕ) → Bool
is_made p f i j = is_counted f i j && nat_le p.left_out (own_column f i j)

-- in the heap
abbrev pub column : Placing → (i j : ℕ) → ℕ
column f i j = own_column f i j + f.raised - f.lowered

-- one of the bits is a sign and not both, or the product is subtracted, and not both
abbrev pub is_turned : Products → Placing → (i j : ℕ) → Bool
is_turned p f i j = xor f.negative (has_one_sign p i j)

abbrev pub pair : Products → Placing → (i j : ℕ) → Tree
pair p f i j = if is_single f i j then bit_of p.a i else both p i j

abbrev pub partial_product : Products → Placing → (i j : ℕ) → Tree
partial_product p f i j = if is_turned p f i j then inverse (pair p f i j) else pair p f i j

-- a bit of a factor as it stands is no node of its own
abbrev pub is_bit : Placing → (i j : ℕ) → Bool
is_bit f i j = is_single f i j && not f.negative

abbrev pub with_bits_of : Products → Placing → (i j : ℕ) → Work → Work
with_bits_of p f i j w =
    if is_bit f i j
    then record w { heap = with_bit w.heap (Of p.a.node i) (column f i j) }
    else record {
      net = with_last w.net (Cells Logic 1 (partial_product p f i j));
      heap = with_bit w.heap (Of (length w.net.nodes) 0) (column f i j);
    }

-- a partial product in its column, if it is made and that is not past the heap's width
abbrev pub with_product : Products → Placing → (i j : ℕ) → Work → Work
with_product p f i j w = if is_made p f i j && nat_lt (column f i j) w.heap.width then with_bits_of p f i j w else w

-- those of bit i of a and the first bits of b, and those of the first bits of a
abbrev pub with_row : Products → Placing → (i count : ℕ) → Work → Work
with_row p f i zero w = w
with_row p f i (suc j) w = with_product p f i j (with_row p f i j w)

abbrev pub with_rows : Products → Placing → (count : ℕ) → Work → Work
with_rows p f zero w = w
with_rows p f (suc i) w = with_row p f i p.b.width (with_rows p f i w)

abbrev pub with_placed : Products → Placing → Work → Work
with_placed p f w = with_rows p f p.a.width w

abbrev pub with_products : Products → Work → Work
with_products p w = with_placed p in_place w

-- what makes good that turned bits stand for negative ones, by which factors are signed and how many bits they have
abbrev pub sign_correction : (a b : Bool) → (m n : ℕ) → ℤ
sign_correction false false m n = pos 0
sign_correction true false m n = pos (2 ^ (m - 1)) -ℤ pos (2 ^ (m + n - 1))
sign_correction false true m n = pos (2 ^ (n - 1)) -ℤ pos (2 ^ (m + n - 1))
sign_correction true true m n = (pos (2 ^ (m - 1)) +ℤ pos (2 ^ (n - 1))) -ℤ pos (2 ^ (m + n - 1))

-- and that products that are subtracted are all turned once more
abbrev pub correction : Products → Placing → ℤ
correction p f =
    let signs = sign_correction p.a.signed p.b.signed p.a.width p.b.width in
    if f.negative then neg_ℤ (signs +ℤ pos ((2 ^ p.a.width - 1) * (2 ^ p.b.width - 1))) else signs
