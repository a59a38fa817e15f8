-- Rows of vectors, and the streams that hold them.
use Rattle.std.proofs.Common.{◌≡◌, ℕ, zero, suc, ◌+◌, ◌-◌, ◌*◌, ◌/◌, ◌<◌, ◌≤◌, List, [], ◌∷◌, ◌++◌, length, take, drop, replicate, cond, refl, sym, ap, ◌∙◌, ⊎_elim, arith}
use Rattle.std.specs.List.{flat_map, range_with_len}
use Rattle.std.proofs.Math.Nat.{mul-le-mul_right, mul-add, mul_comm, mul-div_cancel_left}
use Rattle.std.proofs.lemmas.Bool.{cases_lt, lt-ltb, le-ltb}
use Rattle.std.proofs.lemmas.List.{append-nil, drop-drop, drop_all, length-append, length-drop, take-append-drop, take_all, take_at}
use borrow.Rule.Slice.PartMut.{post_of}
use Rattle.opgen_streams.specs.Rows.{row_at, row_in, row_with_zeros}
use Rattle.opgen_streams.proofs.Rows.{no_row, whole_row, whole_row_in}
use Rattle.opgen_vec.specs.Streams.{row_or_zeros, rows_in}
use Rattle.opgen_vec.specs.Writing.{row_count}

-- the cells of a row
module _ (columns row : ℕ) (cells : List ℕ) (some : 0 < columns) (whole : columns * (length cells / columns) ≡ length cells) where
  rows_of : row_count columns cells ≡ length cells / columns
  rows_of = go columns some
    where
      go : (n : ℕ) → 0 < n → row_count n cells ≡ length cells / n
      go zero h = absurd (omega (arith, h))
      go (suc n) h = refl

  row_within : row < row_count columns cells → (row + 1) * columns ≤ length cells
  row_within h =
      let more : (row + 1) * columns ≤ length cells / columns * columns = mul-le-mul_right columns (omega (arith, h, rows_of)) in
      omega (arith, more, whole, mul_comm columns (length cells / columns))

  row_past : row_count columns cells ≤ row → length cells ≤ row * columns
  row_past h =
      let more : length cells / columns * columns ≤ row * columns = mul-le-mul_right columns (omega (arith, h, rows_of)) in
      omega (arith, more, whole, mul_comm columns (length cells / columns))

  pub row_of_vectors : row_with_zeros columns row cells ≡ row_or_zeros columns row cells
  row_of_vectors = ⊎_elim there past (cases_lt row (row_count columns cells))
    where
      there : row < row_count columns cells → row_with_zeros columns row cells ≡ row_or_zeros columns row cells
      there h =
          whole_row columns row cells (row_within h)
          ∙ sym (ap (λ b. cond b (take columns (drop (row * columns) cells)) (replicate columns 0)) (lt-ltb row (row_count columns cells) h))

      past : row_count columns cells ≤ row → row_with_zeros columns row cells ≡ row_or_zeros columns row cells
      past h =
          no_row columns row cells (row_past h)
          ∙ sym (ap (λ b. cond b (take columns (drop (row * columns) cells)) (replicate columns 0)) (le-ltb row (row_count columns cells) h))

-- cells that are rows of a function, one after another
rows_joined : (n : ℕ) (f : ℕ → List ℕ) (first count : ℕ) (cells : List ℕ) → length cells ≡ count * n
    → ((k : ℕ) → k < count → row_at n k cells ≡ f (first + k)) → cells ≡ flat_map f (range_with_len first count)
rows_joined n f first zero cells len each = nothing cells len
  where
    nothing : (xs : List ℕ) → length xs ≡ 0 * n → xs ≡ []
    nothing [] e = refl
    nothing (x ∷ xs) e = absurd (omega (arith, e))
rows_joined n f first (suc count) cells len each =
    let none : 0 * n ≡ 0 = omega arith in
    let at : first + 0 ≡ first = omega arith in
    let front : take n cells ≡ f first = ap (λ i. take n (drop i cells)) (sym none) ∙ each 0 (omega arith) ∙ ap f at in
    let rest = rows_joined n f (first + 1) count (drop n cells) (omega (arith, len, length-drop n cells)) (λ k within.
    let sum : n + k * n ≡ suc k * n = omega arith in
    let place : first + suc k ≡ first + 1 + k = omega arith in
    ap (take n) (drop-drop (k * n) n cells ∙ ap (λ i. drop i cells) sum) ∙ each (suc k) (omega (arith, within)) ∙ ap f place) in
    sym (take-append-drop n cells) ∙ ap (λ xs. xs ++ drop n cells) front
    ∙ ap (λ xs. f first ++ xs) rest

-- the rows of streams as they were put, from the first row on
pub rows_unpacked : (widths : List ℕ) (lanes : List (List ℕ)) (count : ℕ) (old new : List ℕ) → length old ≡ count * length widths
    → length new ≡ length old
    → ((k : ℕ) → k < count → row_at (length widths) (0 + k * 1) new ≡ take (length (row_at (length widths) (0 + k * 1) old)) (row_in widths lanes k))
    → new ≡ rows_in widths lanes count
rows_unpacked widths lanes count old new len same put =
    rows_joined (length widths) (row_in widths lanes) 0 count new (omega (arith, len, same)) (λ k within.
    let row : 0 + k * 1 ≡ k = omega arith in
    let at : 0 + k ≡ k = omega arith in
    let more : (k + 1) * length widths ≤ count * length widths = mul-le-mul_right (length widths) (omega (arith, within)) in
    let there : (0 + k * 1 + 1) * length widths ≤ length old = omega (arith, more, len) in
    ap (λ i. row_at (length widths) i new) (sym row) ∙ put k within ∙ whole_row_in widths lanes k (0 + k * 1) old there
    ∙ ap (row_in widths lanes) (sym at))

-- rows added to rows
pub whole_more : (columns count : ℕ) (old new : List ℕ) → columns * (length old / columns) ≡ length old
    → length new ≡ length old + count * columns → columns * (length new / columns) ≡ length new
whole_more columns count old new whole is =
    let total : length new ≡ columns * (length old / columns + count)
    = omega (arith, is, whole, mul_comm count columns, mul-add columns (length old / columns) count) in
    go columns (length old / columns + count) total
  where
    go : (n m : ℕ) → length new ≡ n * m → n * (length new / n) ≡ length new
    go zero m len = omega (arith, len)
    go (suc n) m len = ap (λ t. suc n * (t / suc n)) len ∙ ap (λ t. suc n * t) (mul-div_cancel_left m (omega arith)) ∙ sym len

-- a list that was lengthened, and then written from its old end on
module _ (before n : ℕ) (old rest all new items : List ℕ) (start : before ≡ length old) (more : before ≤ n) (lent : all ≡ items)
    (grown : items ≡ take n old ++ rest) (same : length new ≡ length all - before) where
  all-is : all ≡ old ++ rest
  all-is = lent ∙ grown ∙ ap (λ xs. xs ++ rest) (take_all n old (omega (arith, start, more)))

  long : length all ≡ before + length rest
  long = ap length all-is ∙ omega (arith, length-append old rest, start)

  pub written : take before all ++ (new ++ post_of before (length all - before) all) ≡ old ++ new
  written =
      let front : take before all ≡ old = ap (take before) all-is ∙ take_at old rest before (omega (arith, start)) in
      let none : post_of before (length all - before) all ≡ []
      = drop_all (length all - before) (drop before all) (omega (arith, length-drop before all)) in
      ap (λ xs. xs ++ (new ++ post_of before (length all - before) all)) front ∙ ap (λ xs. old ++ (new ++ xs)) none
      ∙ ap (λ xs. old ++ xs) (append-nil new)

  pub length-written : length (take before all ++ (new ++ post_of before (length all - before) all)) ≡ length items
  length-written = ap length written ∙ omega (arith, length-append old new, start, same, long, ap length lent)

  pub written_whole : (len : ℕ) → len ≡ length items
      → take len ((take before all ++ (new ++ post_of before (length all - before) all))
      ++ drop (length (take before all ++ (new ++ post_of before (length all - before) all))) items) ≡ old ++ new
  written_whole len is =
      let put = take before all ++ (new ++ post_of before (length all - before) all) in
      let none : drop (length put) items ≡ [] = drop_all (length put) items (omega (arith, length-written)) in
      ap (λ xs. take len (put ++ xs)) none ∙ ap (take len) (append-nil put) ∙ take_all len put (omega (arith, is, length-written)) ∙ written
