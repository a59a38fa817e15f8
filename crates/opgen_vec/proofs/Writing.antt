-- Texts written from the front: what is written, and what is still to be.
use Rattle.std.proofs.Common.{◌≡◌, ℕ, zero, suc, ◌+◌, ◌-◌, ◌*◌, ◌/◌, ◌%◌, ◌^◌, ◌<◌, ◌≤◌, List, [], ◌∷◌, ◌++◌, length, take, drop, sym, ap, ◌∙◌, arith, append_assoc}
use Rattle.std.specs.Char.{digit_char}
use Rattle.std.proofs.lemmas.List.{length-drop}
use Rattle.std.proofs.Math.Nat.{mul-suc}
use Rattle.opgen_vec.specs.Rows.{hex_text}
use Rattle.opgen_vec.specs.Writing.{line_text, rows_text}

-- one more digit
pub digit_more : (all out new : List ℕ) (place cell digit char : ℕ) → all ≡ out ++ hex_text place cell → 0 < place → new ≡ out ++ char ∷ []
    → char ≡ digit_char digit → digit ≡ cell / 16 ^ (place - 1) % 16
    → all ≡ new ++ hex_text (place - 1) cell
digit_more all out new zero cell digit char e some pushed is at = absurd (omega (arith, some))
digit_more all out new (suc place) cell digit char e some pushed is at =
    let less : suc place - 1 ≡ place = omega arith in
    let first : char ≡ digit_char (cell / 16 ^ place % 16) = is ∙ ap digit_char (at ∙ ap (λ n. cell / 16 ^ n % 16) less) in
    e ∙ ap (λ c. out ++ c ∷ hex_text place cell) (sym first) ∙ sym (append_assoc out (char ∷ []) (hex_text place cell))
    ∙ ap (λ xs. xs ++ hex_text place cell) (sym pushed)
    ∙ ap (λ n. new ++ hex_text n cell) (sym less)

-- the rows that are left have their cells
pub left_cells : (columns left : ℕ) (cells : List ℕ) → length cells ≡ columns * left → 0 < left → (columns ≤ length cells)
    × (length (drop columns cells) ≡ columns * (left - 1))
left_cells columns zero cells e some = absurd (omega (arith, some))
left_cells columns (suc left) cells e some =
    let less : suc left - 1 ≡ left = omega arith in
    let len : length cells ≡ columns * left + columns = e ∙ mul-suc columns left in
    (omega (arith, len), rw less (omega (arith, len, length-drop columns cells)))

-- one more row
pub row_more : (in_widths out_widths all text new inputs outputs : List ℕ) (left : ℕ) → all
    ≡ text ++ rows_text in_widths out_widths left inputs outputs → 0 < left
    → new ≡ text ++ line_text in_widths out_widths (take (length in_widths) inputs) (take (length out_widths) outputs)
    → all ≡ new ++ rows_text in_widths out_widths (left - 1) (drop (length in_widths) inputs) (drop (length out_widths) outputs)
row_more in_widths out_widths all text new inputs outputs zero e some put = absurd (omega (arith, some))
row_more in_widths out_widths all text new inputs outputs (suc left) e some put =
    let less : suc left - 1 ≡ left = omega arith in
    let line = line_text in_widths out_widths (take (length in_widths) inputs) (take (length out_widths) outputs) in
    let more = rows_text in_widths out_widths left (drop (length in_widths) inputs) (drop (length out_widths) outputs) in
    e ∙ sym (append_assoc text line more) ∙ ap (λ xs. xs ++ more) (sym put)
    ∙ ap (λ n. new ++ rows_text in_widths out_widths n (drop (length in_widths) inputs) (drop (length out_widths) outputs)) (sym less)
