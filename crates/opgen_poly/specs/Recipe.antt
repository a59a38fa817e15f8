-- The net of a polynomial by Horner's rule in fixed point (de Dinechin and Kumm, Application-Specific Arithmetic): from the last
-- coefficient down, the partial value times the input and the next coefficient, each in a bit heap.
use Rattle.std.specs.Prelude.{ℕ, zero, suc, ◌+◌, ◌-◌, ◌^◌, Bool, true, false, if◌then◌else◌, nat_le, List, [], ◌∷◌, ◌++◌, codes, drop, get_or, ℤ, pos, ◌+ℤ◌, ◌*ℤ◌}
use Rattle.opgen_num.specs.Words.{word}
use Rattle.opgen_budget.specs.Columns.{weight_below, IsGreatestCut}
use Rattle.opgen_net.specs.declared.net.Net.{Net}
use Rattle.opgen_net.specs.declared.node.Node.TheVariants.{Input, Constant}
use Rattle.opgen_net.specs.Placed.{with_bits, with_last}
use Rattle.opgen_net.specs.WordRule.{bits_from}
use Rattle.opgen_heap.specs.Adding.{residue, with_constant}
use Rattle.opgen_compress.specs.Recipe.{compressed}
use Rattle.opgen_kinds.specs.declared.poly.Poly.{Poly as Polynomial}
use Rattle.opgen_kinds.specs.Horner.{degree, poly_guard, guarded, partial_width, all_guarded}
use Rattle.opgen_kinds.specs.Poly.{poly_format}
use Rattle.opgen_partial.specs.declared.pairs.Products.{Products}
use Rattle.opgen_partial.specs.declared.pairs.Work.{Work}
use Rattle.opgen_partial.specs.Recipe.{sign_correction, with_products}
use Rattle.opgen_poly.specs.declared.steps.Partial.{Partial}

-- the coefficient at a place in units of the lowest guard bit, and the width of the partial value of those from there on
abbrev pub coefficient_at : Polynomial → (place : ℕ) → ℤ
coefficient_at p place = guarded p (get_or p.coefs place (pos 0))

abbrev pub width_at : Polynomial → (place : ℕ) → ℕ
width_at p place = partial_width (drop place (all_guarded p))

-- How many of the lowest columns of a product of m by n bits are left out: the greatest number, up to all of them, whose bits weigh
-- at most half a unit of bit n.
abbrev pub greatest_light : (m n limit most : ℕ) → ℕ
greatest_light m n limit zero = 0
greatest_light m n limit (suc k) = if nat_le (weight_below m n (suc k)) limit then suc k else greatest_light m n limit k

abbrev pub left_out : (m n : ℕ) → ℕ
left_out m n = greatest_light m n (2 ^ (n - 1)) (m + n - 1)

-- that is the greatest number of columns whose bits together weigh at most half a unit of column n, the lowest that a step keeps
abbrev pub LeavesOutMost : Type 0
LeavesOutMost = (m n : ℕ) → IsGreatestCut m n n (left_out m n)

-- the partial value of the coefficients after a place, which is signed, and the input, which is node 0
abbrev pub pairs : Polynomial → (place node : ℕ) → Products
pairs p place node = record {
  a = record { node = node; width = width_at p (place + 1); signed = true };
  b = record { node = 0; width = p.input.width; signed = false };
  left_out = left_out (width_at p (place + 1)) p.input.width;
}

-- the bits that a step keeps, above those that are cut off: all guard bits are among these at place 0
abbrev pub heap_width : Polynomial → (place : ℕ) → ℕ
heap_width p zero = p.input.width + poly_guard p + (poly_format p).width
heap_width p (suc k) = p.input.width + width_at p (suc k)

-- half a unit of the output's last place, where the output is cut
abbrev pub rounding : Polynomial → (place : ℕ) → ℕ
rounding p zero = 2 ^ (p.input.width + poly_guard p - 1)
rounding p (suc k) = 0

-- half a unit of the lowest bit that a step keeps, the coefficient above the bits that are cut off, and what rounds the output
abbrev pub kept_part : Polynomial → (place : ℕ) → ℤ
kept_part p place =
    (pos (2 ^ (p.input.width - 1)) +ℤ (coefficient_at p place *ℤ pos (2 ^ p.input.width))) +ℤ pos (rounding p place)

abbrev pub added : Polynomial → (place : ℕ) → ℤ
added p place = sign_correction true false (width_at p (place + 1)) p.input.width +ℤ kept_part p place

-- the sum of a step: the products of the partial value and the input, and what is added to them
abbrev pub start : Polynomial → (place : ℕ) → Partial → Work
start p place s = record { net = s.net; heap = record { width = heap_width p place; constant = 0; columns = [] } }

abbrev pub products : Polynomial → (place : ℕ) → Partial → Work
products p place s = with_products (pairs p place s.node) (start p place s)

abbrev pub summed : Polynomial → (place : ℕ) → Partial → Partial
summed p place s =
    let w = products p place s in
    let c = compressed w.net (with_constant w.heap (added p place)) in
    record { net = c.net; node = c.place }

-- the next partial value: the sum's bits from the input's width up
abbrev pub stepped : Polynomial → (place : ℕ) → Partial → Partial
stepped p place s =
    let sum = summed p place s in
    let w = with_bits sum.net (bits_from sum.node p.input.width (width_at p place)) in
    record { net = w.net; node = w.place }

-- the last coefficient as a word
abbrev pub last_word : Polynomial → List Bool
last_word p = word (width_at p (degree p)) (residue (coefficient_at p (degree p)) (2 ^ width_at p (degree p)))

abbrev pub with_input : Polynomial → Net
with_input p = record { inputs = (codes "x", p.input.width) ∷ []; nodes = Input 0 p.input.width ∷ []; outputs = [] }

abbrev pub first : Polynomial → Partial
first p = record { net = with_last (with_input p) (Constant (last_word p)); node = 1 }

-- after so many steps: the partial value of the coefficients from place `degree p - k` on
abbrev pub after : Polynomial → (k : ℕ) → Partial
after p zero = first p
after p (suc k) = stepped p (degree p - suc k) (after p k)

-- the partial value of the coefficients from a place on
abbrev pub partial_from : Polynomial → (place : ℕ) → Partial
partial_from p place = after p (degree p - place)

-- the output has the last sum's bits above the guard bits
abbrev pub net_of_poly : Polynomial → Net
net_of_poly p =
    let s = summed p 0 (partial_from p 1) in
    let low = p.input.width + poly_guard p in
    record s.net {
      outputs = s.net.outputs ++ record {
        name = codes "y";
        from = record { node = s.node; high = low + (poly_format p).width - 1; low = low };
      } ∷ [];
    }
