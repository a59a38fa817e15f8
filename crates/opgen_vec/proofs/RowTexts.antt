-- The cells of a row are those whose text the row is.
use Rattle.std.proofs.Common.{◌≡◌, ℕ, zero, suc, ◌+◌, ◌*◌, ◌/◌, ◌^◌, ◌<◌, ◌≤◌, Bool, true, false, cond, List, [], ◌∷◌, ◌++◌, length, take, drop, map, Option, Some, None, refl, sym, ap, ◌∙◌, subst, arith, one-add, eq-eqb}
use Rattle.std.proofs.lemmas.Bool.{eqb-true}
use Rattle.std.specs.Prelude.{nat_lt, ◌==◌}
use Rattle.std.specs.Char.{to_ascii_lowercase}
use Rattle.std.proofs.Math.Nat.{pow-succ', pow-le-pow_right, two-pow-succ, div-eq_of_lt}
use Rattle.std.proofs.Math.Seq.{take-append_seam, drop-append_seam}
use Rattle.std.proofs.lemmas.List.{map-append, length-map, length-append, length-take-le, take-append-drop, take-map, drop-map}
use Rattle.std.proofs.lemmas.Bool.Decides.{nat_tests}
use Rattle.opgen_num.specs.Words.{FitWidths}
use Rattle.opgen_vec.specs.Rows.{digit_count, hex_text, word_text, spaced_text}
use Rattle.opgen_vec.specs.Digits.{hex_value, below, word_at, spaced_word_at, joined, spaced_cells, row_cells}
use Rattle.opgen_vec.specs.Reading.{IsRow, IsBad}
use Rattle.opgen_vec.proofs.Digits.{length-hex_text, hex_value-text, text-hex_value}

abbrev lower : List ℕ → List ℕ
lower text = map to_ascii_lowercase text

-- sixteen is four bits
pub four_bits : (k : ℕ) → 16 ^ k ≡ 2 ^ (4 * k)
four_bits zero = refl
four_bits (suc k) =
    let n = 4 * k in
    let e : 4 * suc k ≡ suc (suc (suc (suc n))) = omega arith in
    rw e (omega (
      arith,
      pow-succ' 16 k,
      four_bits k,
      two-pow-succ (suc (suc (suc n))),
      two-pow-succ (suc (suc n)),
      two-pow-succ (suc n),
      two-pow-succ n,
    ))

-- a word's digits hold its bits
word_small : (width cell : ℕ) → cell < 2 ^ width → cell / 16 ^ digit_count width ≡ 0
word_small width cell h =
    let wide : 2 ^ width ≤ 2 ^ (4 * digit_count width) = pow-le-pow_right (omega arith) (omega arith) in
    div-eq_of_lt (omega (arith, h, wide, four_bits (digit_count width)))

-- the front of a text that is a word in small letters, and the text after it
front : (width cell : ℕ) (text rest : List ℕ) → lower text ≡ word_text width cell ++ rest → lower (take (digit_count width) text)
    ≡ word_text width cell
front width cell text rest e =
    let k = digit_count width in
    sym (take-map to_ascii_lowercase k text) ∙ ap (take k) e
    ∙ ap (λ n. take n (word_text width cell ++ rest)) (sym (length-hex_text k cell)) ∙ take-append_seam (word_text width cell) rest

after : (width cell : ℕ) (text rest : List ℕ) → lower text ≡ word_text width cell ++ rest → lower (drop (digit_count width) text) ≡ rest
after width cell text rest e =
    let k = digit_count width in
    sym (drop-map to_ascii_lowercase k text) ∙ ap (drop k) e
    ∙ ap (λ n. drop n (word_text width cell ++ rest)) (sym (length-hex_text k cell)) ∙ drop-append_seam (word_text width cell) rest

long_enough : (width cell : ℕ) (text rest : List ℕ) → lower text ≡ word_text width cell ++ rest → digit_count width ≤ length text
long_enough width cell text rest e =
    omega (
      arith,
      ap length e,
      length-map text to_ascii_lowercase,
      length-append (word_text width cell) rest,
      length-hex_text (digit_count width) cell,
    )

-- a word is read where it stands
word_at-text : (width cell : ℕ) (text rest : List ℕ) → cell < 2 ^ width → lower text ≡ word_text width cell ++ rest → word_at width text
    ≡ Some cell
word_at-text width cell text rest small e =
    let k = digit_count width in
    let long = long_enough width cell text rest e in
    let digits = take k text in
    let len : length digits ≡ k = length-take-le k text long in
    let same : lower digits ≡ hex_text (length digits) cell = front width cell text rest e ∙ ap (λ n. hex_text n cell) (sym len) in
    let top : cell / 16 ^ length digits ≡ 0 = ap (λ n. cell / 16 ^ n) len ∙ word_small width cell small in
    let tests : nat_lt (length text) k ≡ false = grind (arith, nat_tests, long) in
    let fits : nat_lt cell (2 ^ width) ≡ true = grind (arith, nat_tests, small) in
    ap (λ b. cond b None (below width (hex_value 0 digits))) tests ∙ ap (below width) (hex_value-text 0 cell digits same top)
    ∙ ap (λ b. cond b (Some cell) None) fits

-- and what is read stands there
record IsWordAt (width cell : ℕ) (text : List ℕ) : Type 0 where
  small : cell < 2 ^ width
  digits : lower (take (digit_count width) text) ≡ word_text width cell

text-word_at : (width cell : ℕ) (text : List ℕ) → word_at width text ≡ Some cell → IsWordAt width cell text
text-word_at width cell text e = go (nat_lt (length text) (digit_count width)) refl e
  where
    k : ℕ
    k = digit_count width

    check : (n : ℕ) (b : Bool) → nat_lt n (2 ^ width) ≡ b → cond b (Some n) None ≡ Some cell → (n ≡ cell) × (cell < 2 ^ width)
    check n true is e = let same : n ≡ cell = cc in (same, subst (λ m. m < 2 ^ width) same (grind (arith, nat_tests, is)))
    check n false is e = cc

    value : (o : Option ℕ) → hex_value 0 (take (digit_count width) text) ≡ o → below width o ≡ Some cell
        → length (take (digit_count width) text) ≡ digit_count width → IsWordAt width cell text
    value None is e len = cc
    value (Some n) is e len =
        let (same, small) = check n (nat_lt n (2 ^ width)) refl e in
        let (digits, top) = text-hex_value 0 n (take (digit_count width) text) is in
        record { small = small; digits = digits ∙ ap (λ m. hex_text m n) len ∙ ap (hex_text (digit_count width)) same }

    go : (b : Bool) → nat_lt (length text) (digit_count width) ≡ b → cond b None (below width (hex_value 0 (take (digit_count width) text)))
        ≡ Some cell → IsWordAt width cell text
    go true is e = cc
    go false is e =
        let long : digit_count width ≤ length text = grind (arith, nat_tests, is) in
        value (hex_value 0 (take (digit_count width) text)) refl e (length-take-le (digit_count width) text long)

no_text : (text : List ℕ) → lower text ≡ [] → text ≡ []
no_text [] e = refl
no_text (t ∷ text) e = cc

is_space : (t : ℕ) → to_ascii_lowercase t ≡ 32 → t ≡ 32
is_space t e = grind (arith, nat_tests)

drop_one : (k t : ℕ) (text : List ℕ) → drop (1 + k) (t ∷ text) ≡ drop k text
drop_one k t text = rw one-add refl

spaced_cells-text : (widths cells text : List ℕ) → FitWidths widths cells → lower text ≡ spaced_text widths cells → spaced_cells widths text
    ≡ Some cells
spaced_cells-text [] [] text are e = ap (spaced_cells []) (no_text text e)
spaced_cells-text [] (c ∷ cells) text are e = absurd are
spaced_cells-text (w ∷ widths) [] text are e = absurd are
spaced_cells-text (w ∷ widths) (c ∷ cells) [] are e = cc
spaced_cells-text (w ∷ widths) (c ∷ cells) (t ∷ text) (small, are) e =
    let first : to_ascii_lowercase t ≡ 32 = cc in
    let others : lower text ≡ word_text w c ++ spaced_text widths cells = cc in
    let space : (t == 32) ≡ true = eq-eqb t 32 (is_space t first) in
    let word : spaced_word_at w (t ∷ text) ≡ Some c = ap (λ b. cond b (word_at w text) None) space
    ∙ word_at-text w c text (spaced_text widths cells) small others in
    let more : spaced_cells widths (drop (1 + digit_count w) (t ∷ text)) ≡ Some cells =
    ap (spaced_cells widths) (drop_one (digit_count w) t text)
    ∙ spaced_cells-text widths cells (drop (digit_count w) text) are (after w c text (spaced_text widths cells) others) in
    ap (λ o. joined o (spaced_cells widths (drop (1 + digit_count w) (t ∷ text)))) word ∙ ap (joined (Some c)) more

-- the cells of a row are read
pub row_cells-row : (widths cells line : List ℕ) → IsRow widths cells line → row_cells widths line ≡ Some cells
row_cells-row [] [] line (are, e) = ap (row_cells []) (no_text line e)
row_cells-row [] (c ∷ cells) line (are, e) = absurd are
row_cells-row (w ∷ widths) [] line (are, e) = absurd are
row_cells-row (w ∷ widths) (c ∷ cells) line ((small, are), e) =
    let word = word_at-text w c line (spaced_text widths cells) small e in
    let more = spaced_cells-text widths cells (drop (digit_count w) line) are (after w c line (spaced_text widths cells) e) in
    ap (λ o. joined o (spaced_cells widths (drop (digit_count w) line))) word ∙ ap (joined (Some c)) more

-- so a line whose cells are not read is no row
pub bad-line : (widths line : List ℕ) → row_cells widths line ≡ None → IsBad widths line
bad-line widths line none cells row = let e = row_cells-row widths cells line row in cc

word_then : (width cell : ℕ) (text rest : List ℕ) → lower (take (digit_count width) text) ≡ word_text width cell
    → lower (drop (digit_count width) text) ≡ rest → lower text ≡ word_text width cell ++ rest
word_then width cell text rest front after =
    ap lower (sym (take-append-drop (digit_count width) text))
    ∙ map-append to_ascii_lowercase (take (digit_count width) text) (drop (digit_count width) text)
    ∙ ap (λ xs. xs ++ lower (drop (digit_count width) text)) front ∙ ap (λ xs. word_text width cell ++ xs) after

-- no cells, where nothing is left
ended : (text cells : List ℕ) → cond (length text == 0) (Some []) None ≡ Some cells → FitWidths [] cells × (lower text ≡ [])
ended [] [] e = (tt, refl)
ended [] (c ∷ cells) e = cc
ended (t ∷ text) cells e = go (length (t ∷ text) == 0) refl e
  where
    go : (b : Bool) → (length (t ∷ text) == 0) ≡ b → cond b (Some []) None ≡ Some cells → FitWidths [] cells × (lower (t ∷ text) ≡ [])
    go true is e = absurd (omega (arith, eqb-true (length (t ∷ text)) 0 is))
    go false is e = cc

-- the space before a word
after_space : (width cell t : ℕ) (text : List ℕ) → spaced_word_at width (t ∷ text) ≡ Some cell → (to_ascii_lowercase t ≡ 32)
    × (word_at width text ≡ Some cell)
after_space width cell t text e = go (t == 32) refl e
  where
    go : (b : Bool) → (t == 32) ≡ b → cond b (word_at width text) None ≡ Some cell → (to_ascii_lowercase t ≡ 32)
        × (word_at width text ≡ Some cell)
    go true is e = (ap to_ascii_lowercase (eqb-true t 32 is), e)
    go false is e = cc

text-spaced_cells : (widths cells text : List ℕ) → spaced_cells widths text ≡ Some cells → FitWidths widths cells
    × (lower text ≡ spaced_text widths cells)
text-spaced_cells [] cells text e = ended text cells e
text-spaced_cells (w ∷ widths) cells [] e = cc
text-spaced_cells (w ∷ widths) cells (t ∷ text) e =
    go cells (spaced_word_at w (t ∷ text)) refl (spaced_cells widths (drop (1 + digit_count w) (t ∷ text))) refl e
    (λ more. text-spaced_cells widths more (drop (1 + digit_count w) (t ∷ text)))
  where
    rest : List ℕ
    rest = drop (1 + digit_count w) (t ∷ text)

    go : (cells : List ℕ) (o : Option ℕ) → spaced_word_at w (t ∷ text) ≡ o → (p : Option (List ℕ))
        → spaced_cells widths (drop (1 + digit_count w) (t ∷ text)) ≡ p → joined o p ≡ Some cells
        → ((more : List ℕ) → spaced_cells widths (drop (1 + digit_count w) (t ∷ text)) ≡ Some more → FitWidths widths more
        × (lower (drop (1 + digit_count w) (t ∷ text)) ≡ spaced_text widths more))
        → FitWidths (w ∷ widths) cells × (lower (t ∷ text) ≡ spaced_text (w ∷ widths) cells)
    go cells None o p q e later = cc
    go cells (Some c) o None q e later = cc
    go [] (Some c) o (Some more) q e later = cc
    go (d ∷ cells) (Some c) o (Some more) q e later =
        let same : c ≡ d = cc in
        let rest : more ≡ cells = cc in
        let (are, others) = later cells (q ∙ ap Some rest) in
        let (space, word) = after_space w d t text (o ∙ ap Some same) in
        let is = text-word_at w d text word in
        let tail = word_then w d text (spaced_text widths cells) is.digits (ap lower (sym (drop_one (digit_count w) t text)) ∙ others) in
        ((is.small, are), (let both : lower (t ∷ text) ≡ 32 ∷ (word_text w d ++ spaced_text widths cells) = cc in both))

-- what is read from a line is its row
pub row-row_cells : (widths cells line : List ℕ) → row_cells widths line ≡ Some cells → IsRow widths cells line
row-row_cells [] cells line e = ended line cells e
row-row_cells (w ∷ widths) cells line e = go cells (word_at w line) refl (spaced_cells widths (drop (digit_count w) line)) refl e
  where
    go : (cells : List ℕ) (o : Option ℕ) → word_at w line ≡ o → (p : Option (List ℕ)) → spaced_cells widths (drop (digit_count w) line) ≡ p
        → joined o p ≡ Some cells → IsRow (w ∷ widths) cells line
    go cells None o p q e = cc
    go cells (Some c) o None q e = cc
    go [] (Some c) o (Some more) q e = cc
    go (d ∷ cells) (Some c) o (Some more) q e =
        let same : c ≡ d = cc in
        let rest : more ≡ cells = cc in
        let (are, others) = text-spaced_cells widths cells (drop (digit_count w) line) (q ∙ ap Some rest) in
        let is = text-word_at w d line (o ∙ ap Some same) in
        ((is.small, are), word_then w d line (spaced_text widths cells) is.digits others)
