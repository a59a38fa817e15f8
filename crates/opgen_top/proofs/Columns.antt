-- Rows of cells for the ports of a design.
use Rattle.std.proofs.Common.{◌≡◌, ℕ, zero, suc, ◌+◌, ◌*◌, ◌/◌, ◌<◌, List, length, ap, ◌∙◌, sym, arith}
use Rattle.std.proofs.Math.Nat.{mul-div_cancel_left}
use Rattle.opgen_vec.specs.Writing.{row_count, row_count_of, HaveSameRows}

-- how many rows cells make
pub counted : (columns rows : ℕ) (cells : List ℕ) → length cells ≡ rows * suc columns → row_count (suc columns) cells ≡ rows
counted columns rows cells len =
    let turned : length cells ≡ suc columns * rows = omega (arith, len) in
    ap (λ n. n / suc columns) turned ∙ mul-div_cancel_left rows (omega arith)

pub whole_rows : (columns rows : ℕ) (cells : List ℕ) → length cells ≡ rows * columns → columns * (length cells / columns) ≡ length cells
whole_rows zero rows cells len = omega (arith, len)
whole_rows (suc columns) rows cells len = ap (λ n. suc columns * n) (counted columns rows cells len) ∙ omega (arith, len)

pub same_rows : (m n rows : ℕ) (inputs outputs : List ℕ) → length inputs ≡ rows * m → length outputs ≡ rows * n
    → HaveSameRows m n inputs outputs
same_rows zero n rows inputs outputs e f = tt
same_rows (suc m) zero rows inputs outputs e f = tt
same_rows (suc m) (suc n) rows inputs outputs e f = counted m rows inputs e ∙ sym (counted n rows outputs f)

pub all_rows : (m n rows : ℕ) (inputs outputs : List ℕ) → 0 < m + n → length inputs ≡ rows * m → length outputs ≡ rows * n
    → row_count_of m n inputs outputs ≡ rows
all_rows zero zero rows inputs outputs some e f = absurd (omega (arith, some))
all_rows zero (suc n) rows inputs outputs some e f = let c = counted n rows outputs f in omega (arith, c)
all_rows (suc m) zero rows inputs outputs some e f = let c = counted m rows inputs e in omega (arith, c)
all_rows (suc m) (suc n) rows inputs outputs some e f =
    let c = counted m rows inputs e in
    let k = counted n rows outputs f in
    omega (arith, c, k)
