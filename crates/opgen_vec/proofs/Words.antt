-- The cells that a row gives, word after word.
use Rattle.std.proofs.Common.{◌≡◌, ℕ, ◌+◌, ◌-◌, ◌≤◌, Bool, true, false, cond, List, [], ◌∷◌, ◌++◌, length, take, drop, Option, Some, None, refl, sym, ap, ◌∙◌, arith, append_assoc}
use Rattle.std.proofs.Math.Seq.{drop-append_seam}
use Rattle.std.proofs.lemmas.List.{take_rest}
use Rattle.std.specs.Prelude.{nat_lt, ◌==◌}
use Rattle.opgen_vec.specs.Rows.{digit_count}
use Rattle.opgen_vec.specs.Digits.{hex_value, below, word_at, spaced_word_at, joined, spaced_cells, row_cells}

-- cells that stand before those of the words that are left
abbrev pub before : List ℕ → Option (List ℕ) → Option (List ℕ)
before cells None = None
before cells (Some more) = Some (cells ++ more)

pub before-joined : (cells : List ℕ) (cell : ℕ) (more : Option (List ℕ)) → before cells (joined (Some cell) more)
    ≡ before (cells ++ cell ∷ []) more
before-joined cells cell None = refl
before-joined cells cell (Some more) = ap Some (sym (append_assoc cells (cell ∷ []) more))

pub joined-before : (cell : ℕ) (more : Option (List ℕ)) → joined (Some cell) more ≡ before (cell ∷ []) more
joined-before cell None = refl
joined-before cell (Some more) = refl

pub word_at-fits : (width : ℕ) (text : List ℕ) (cell : ℕ) → word_at width text ≡ Some cell → digit_count width ≤ length text
word_at-fits width text cell e = go (nat_lt (length text) (digit_count width)) refl e
  where
    go : (b : Bool) → nat_lt (length text) (digit_count width) ≡ b → cond b None (below width (hex_value 0 (take (digit_count width) text)))
        ≡ Some cell → digit_count width ≤ length text
    go true is e = cc
    go false is e = grind arith

pub spaced_word_at-fits : (width : ℕ) (text : List ℕ) (cell : ℕ) → spaced_word_at width text ≡ Some cell
    → 1 + digit_count width ≤ length text
spaced_word_at-fits width [] cell e = cc
spaced_word_at-fits width (c ∷ text) cell e = go (c == 32) e
  where
    go : (b : Bool) → cond b (word_at width text) None ≡ Some cell → 1 + digit_count width ≤ length (c ∷ text)
    go true e = let fits = word_at-fits width text cell e in omega (arith, fits)
    go false e = cc

-- the first word of a row
pub first_cells : (widths others line old new : List ℕ) (width cell digits : ℕ) → widths ≡ width ∷ others → Some cell ≡ word_at width line
    → new ≡ old ++ cell ∷ [] → digits ≡ digit_count width
    → row_cells widths line ≡ before (drop (length old) new) (spaced_cells others (take (length line - digits) (drop digits line)))
first_cells widths others line old new width cell digits e h n d =
    let rest = drop (digit_count width) line in
    let pushed : drop (length old) new ≡ cell ∷ [] = ap (drop (length old)) n ∙ drop-append_seam old (cell ∷ []) in
    let after : take (length line - digits) (drop digits line) ≡ rest = take_rest line digits ∙ ap (λ k. drop k line) d in
    ap (λ ws. row_cells ws line) e ∙ ap (λ o. joined o (spaced_cells others rest)) (sym h) ∙ joined-before cell (spaced_cells others rest)
    ∙ ap (λ xs. before xs (spaced_cells others rest)) (sym pushed)
    ∙ ap (λ text. before (drop (length old) new) (spaced_cells others text)) (sym after)
