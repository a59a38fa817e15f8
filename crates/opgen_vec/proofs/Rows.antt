-- Rows read one after another.
use Rattle.std.proofs.Common.{◌≡◌, ℕ, zero, suc, ◌+◌, ◌-◌, ◌*◌, ◌/◌, ◌<◌, ◌≤◌, cond, List, [], ◌∷◌, ◌++◌, length, take, drop, get_or, Some, None, refl, sym, ap, ◌∙◌, subst, arith, add-one}
use Rattle.std.specs.Prelude.{slice_get, IsSomeAnd}
use Rattle.std.proofs.Math.ListN.{drop_of_length-le}
use Rattle.std.proofs.Math.Seq.{take-suc, drop-cons}
use Rattle.std.proofs.Math.Nat.{mul-div_cancel_left}
use Rattle.std.proofs.lemmas.List.{take_all, length-take, length-drop, take-append-le, drop-append-le, take-append-drop}
use Rattle.std.proofs.lemmas.Bool.{ne_eqb}
use Rattle.std.specs.Str.Lines.{lines}
use Rattle.opgen_num.specs.Words.{AreRowsOfCells}
use Rattle.opgen_num.proofs.RowsOfCells.{length-cells}
use Rattle.opgen_vec.proofs.RowTexts.{bad-line}
use Rattle.opgen_vec.specs.Writing.{row_count}
use Rattle.opgen_vec.specs.declared.TheConstants.{MAX_ROWS}
use Rattle.opgen_vec.specs.Reading.{IsRow, AreRows, IsBad, AreVectors, IsFirstBadLine, AreTooMany}

-- a row after others
pub AreRows-push : (widths cells row : List ℕ) (lines : List (List ℕ)) (line : List ℕ) → AreRows widths cells lines → IsRow widths row line
    → AreRows widths (cells ++ row) (lines ++ line ∷ [])
AreRows-push widths cells row [] line none here =
    let len = length-cells widths row here.0 in
    let same : cells ++ row ≡ row = ap (λ xs. xs ++ row) none in (
      subst (λ xs. IsRow widths xs line) (sym (ap (take (length widths)) same ∙ take_all (length widths) row (omega (arith, len)))) here,
      ap (drop (length widths)) same ∙ drop_of_length-le row (omega (arith, len)),
    )
AreRows-push widths cells row (first ∷ lines) line (is, are) here =
    let n = length widths in
    let len : length (take n cells) ≡ n = length-cells widths (take n cells) is.0 in
    let room : n ≤ length cells = omega (arith, len, length-take n cells) in (
      subst (λ xs. IsRow widths xs first) (sym (take-append-le n cells row room)) is,
      subst (λ xs. AreRows widths xs (lines ++ line ∷ [])) (sym (drop-append-le n cells row room))
          (AreRows-push widths (drop n cells) row lines line are here),
    )

pub length-rows : (widths cells : List ℕ) (lines : List (List ℕ)) → AreRows widths cells lines → length cells ≡ length widths * length lines
length-rows widths cells [] none = omega (arith, ap length none)
length-rows widths cells (line ∷ lines) (is, are) =
    let n = length widths in
    let len : length (take n cells) ≡ n = length-cells widths (take n cells) is.0 in
    omega (arith, len, length-take n cells, length-drop n cells, length-rows widths (drop n cells) lines are)

-- so the number of cells is a multiple of the columns
pub whole : (columns : ℕ) (widths cells : List ℕ) (lines : List (List ℕ)) → columns ≡ length widths → AreRows widths cells lines
    → columns * (length cells / columns) ≡ length cells
whole zero widths cells lines e are =
    let len : length cells ≡ 0 * length lines = length-rows widths cells lines are
    ∙ ap (λ n. n * length lines) (sym e) in omega (arith, len)
whole (suc m) widths cells lines e are =
    let len : length cells ≡ suc m * length lines = length-rows widths cells lines are ∙ ap (λ n. n * length lines) (sym e) in
    ap (λ n. suc m * (n / suc m)) len ∙ ap (λ n. suc m * n) (mul-div_cancel_left (length lines) (omega arith)) ∙ sym len

-- what stands at the front of what is left
pub at_front : (n : ℕ) (lines : List (List ℕ)) (line : List ℕ) (later : List (List ℕ)) → drop n lines ≡ line ∷ later → slice_get lines n
    ≡ Some line
at_front zero [] line later e = cc
at_front zero (l ∷ lines) line later e = cc
at_front (suc n) [] line later e = cc
at_front (suc n) (l ∷ lines) line later e = at_front n lines line later e

-- how far a text's lines are read
pub record IsReadTo (widths cells : List ℕ) (lines : List (List ℕ)) (count : ℕ) (later : List (List ℕ)) : Type 0 where
  pub left : drop count lines ≡ later
  pub within : count ≤ length lines
  pub rows : AreRows widths cells (take count lines)

pub some_left : (widths cells line : List ℕ) (lines later : List (List ℕ)) (count : ℕ) → IsReadTo widths cells lines count (line ∷ later)
    → count < length lines
some_left widths cells line lines later count so_far = omega (arith, ap length so_far.left, length-drop count lines)

pub one_more : (widths cells new line : List ℕ) (lines later : List (List ℕ)) (count : ℕ) → IsReadTo widths cells lines count (line ∷ later)
    → IsRow widths (drop (length cells) new) line → take (length cells) new ≡ cells → IsReadTo widths new lines (count + 1) later
one_more widths cells new line lines later count so_far row kept =
    let within : count < length lines = some_left widths cells line lines later count so_far in
    let parts : get_or lines count [] ∷ drop (suc count) lines ≡ line ∷ later = sym (drop-cons lines count [] within) ∙ so_far.left in
    let first : get_or lines count [] ≡ line = cc in
    let others : drop (suc count) lines ≡ later = cc in
    let front : take (suc count) lines ≡ take count lines ++ line ∷ [] = take-suc lines count [] within
    ∙ ap (λ l. take count lines ++ l ∷ []) first in
    let cells_are : new ≡ cells ++ drop (length cells) new = sym (take-append-drop (length cells) new)
    ∙ ap (λ xs. xs ++ drop (length cells) new) kept in
    rw add-one record {
      left = others;
      within = omega arith;
      rows = rw (front, cells_are) (AreRows-push widths cells (drop (length cells) new) (take count lines) line so_far.rows row);
    }

pub all_read : (widths cells : List ℕ) (lines : List (List ℕ)) (count : ℕ) → IsReadTo widths cells lines count [] → (count ≡ length lines)
    × AreRows widths cells lines
all_read widths cells lines count so_far =
    let end : count ≡ length lines = omega (arith, ap length so_far.left, length-drop count lines, so_far.within) in
    (end, subst (AreRows widths cells) (take_all count lines (omega (arith, end))) so_far.rows)

pub first_bad : (widths cells line : List ℕ) (lines later : List (List ℕ)) (count number : ℕ)
    → IsReadTo widths cells lines count (line ∷ later) → count ≤ MAX_ROWS → (count ≡ MAX_ROWS → ⊥)
    → IsBad widths line → count + 1 ≡ number → IsFirstBadLine widths lines number
first_bad widths cells line lines later count number so_far few more bad e =
    let place : count ≡ number - 1 = omega (arith, e) in
    record {
      counted = omega (arith, e);
      few = omega (arith, e, few, more);
      good = (cells, subst (λ n. AreRows widths cells (take n lines)) place so_far.rows);
      bad = subst (λ o. IsSomeAnd o (IsBad widths)) (sym (at_front count lines line later so_far.left) ∙ ap (slice_get lines) place) bad;
    }

pub too_many : (widths cells line : List ℕ) (lines later : List (List ℕ)) (count : ℕ) → IsReadTo widths cells lines count (line ∷ later)
    → count ≡ MAX_ROWS → AreTooMany widths lines
too_many widths cells line lines later count so_far e = record {
  good = (cells, subst (λ n. AreRows widths cells (take n lines)) e so_far.rows);
  more = subst (λ n. n < length lines) e (some_left widths cells line lines later count so_far);
}

pub vectors : (widths cells : List ℕ) (lines : List (List ℕ)) (count : ℕ) → IsReadTo widths cells lines count [] → count ≤ MAX_ROWS
    → AreVectors widths cells lines
vectors widths cells lines count so_far few =
    let (end, rows) = all_read widths cells lines count so_far in record { few = omega (arith, end, few); rows = rows }

-- the end of a text
pub no_line : (widths cells : List ℕ) (all : List (List ℕ)) (count : ℕ) (text : List ℕ) → length text ≡ 0
    → IsReadTo widths cells all count (lines text) → IsReadTo widths cells all count []
no_line widths cells all count [] e so_far = so_far
no_line widths cells all count (c ∷ text) e so_far = absurd (omega (arith, e))

-- rows without cells
pub empty_row : (line : List ℕ) → length line ≡ 0 → IsRow [] [] line
empty_row [] e = (tt, refl)
empty_row (c ∷ line) e = absurd (omega (arith, e))

pub no_row : (line : List ℕ) → (length line ≡ 0 → ⊥) → IsBad [] line
no_row line some = bad-line [] line (ap (λ b. cond b (Some []) None) (ne_eqb (length line) 0 some))

-- what stands in rows that were read
pub rows-of_cells : (widths cells : List ℕ) (lines : List (List ℕ)) → AreRows widths cells lines
    → AreRowsOfCells widths (length lines) cells
rows-of_cells widths cells [] none = none
rows-of_cells widths cells (line ∷ lines) (is, are) = (is.0, rows-of_cells widths (drop (length widths) cells) lines are)

-- the number of rows
pub row_count-rows : (columns : ℕ) (widths cells : List ℕ) (lines : List (List ℕ)) → columns ≡ length widths → 0 < length widths
    → AreRows widths cells lines → row_count columns cells ≡ length lines
row_count-rows zero widths cells lines e some are = absurd (omega (arith, e, some))
row_count-rows (suc m) widths cells lines e some are =
    let len : length cells ≡ suc m * length lines = length-rows widths cells lines are ∙ ap (λ n. n * length lines) (sym e) in
    ap (λ n. n / suc m) len ∙ mul-div_cancel_left (length lines) (omega arith)
