-- The first line of a text.
use Rattle.std.proofs.Common.{◌≡◌, ℕ, ◌+◌, ◌-◌, ◌<◌, ◌≤◌, Bool, true, false, cond, List, [], ◌∷◌, length, take, drop, refl, sym, ap, ◌∙◌, arith}
use Rattle.std.specs.Prelude.{◌==◌, not}
use Rattle.std.specs.List.{slice_split, onto_first, position_or_len}
use Rattle.std.specs.Str.Lines.{lines, lines_of_parts, strip_carriage_return}
use Rattle.std.proofs.lemmas.Bool.{ne_eqb}
use Rattle.std.proofs.lemmas.List.Splits.{slice_split_first}

abbrev is_feed : ℕ → Bool
is_feed byte = byte == 10

-- a part after which another comes is a line
more_parts : (part rest : List ℕ) → lines_of_parts (part ∷ slice_split is_feed rest)
    ≡ strip_carriage_return part ∷ lines_of_parts (slice_split is_feed rest)
more_parts part [] = refl
more_parts part (c ∷ rest) = go (is_feed c) (slice_split is_feed rest)
  where
    go : (b : Bool) (parts : List (List ℕ)) → lines_of_parts (part ∷ cond b ([] ∷ parts) (onto_first c parts))
        ≡ strip_carriage_return part ∷ lines_of_parts (cond b ([] ∷ parts) (onto_first c parts))
    go true parts = refl
    go false [] = refl
    go false (p ∷ parts) = refl

pub lines-feed : (text : List ℕ) (len : ℕ) → len ≡ position_or_len is_feed text → len < length text → lines text
    ≡ strip_carriage_return (take len text) ∷ lines (drop (len + 1) text)
lines-feed text len e within =
    let within' : position_or_len is_feed text < length text = omega (arith, e, within) in
    ap lines_of_parts (slice_split_first is_feed text 0 within')
    ∙ more_parts (take (position_or_len is_feed text) text) (drop (position_or_len is_feed text + 1) text)
    ∙ ap (λ n. strip_carriage_return (take n text) ∷ lines (drop (n + 1) text)) (sym e)

onto_one : (b : Bool) (c : ℕ) (text : List ℕ) → (length text ≡ position_or_len is_feed text → slice_split is_feed text ≡ text ∷ [])
    → length (c ∷ text) ≡ cond (not b) (1 + position_or_len is_feed text) 0
    → cond b ([] ∷ slice_split is_feed text) (onto_first c (slice_split is_feed text)) ≡ (c ∷ text) ∷ []
onto_one true c text one e = absurd (omega (arith, e))
onto_one false c text one e = let e' : length text ≡ position_or_len is_feed text = omega (arith, e) in ap (onto_first c) (one e')

one_part : (text : List ℕ) → length text ≡ position_or_len is_feed text → slice_split is_feed text ≡ text ∷ []
one_part [] e = refl
one_part (c ∷ text) e = onto_one (is_feed c) c text (one_part text) e

lines-none : (text : List ℕ) → length text ≡ position_or_len is_feed text → 0 < length text → lines text ≡ text ∷ []
lines-none text e some = ap lines_of_parts (one_part text e)
    ∙ ap (λ b. cond b [] (text ∷ [])) (ne_eqb (length text) 0 (λ z. omega (arith, some, z)))

pub lines-last : (text : List ℕ) (len : ℕ) → len ≡ position_or_len is_feed text → length text ≤ len → len ≤ length text → 0 < length text
    → lines text ≡ text ∷ lines (take (length text - len) (drop len text))
lines-last text len e high low some =
    let whole : length text ≡ len = omega arith in
    let none : length text - len ≡ 0 = omega arith in
    lines-none text (whole ∙ e) some ∙ ap (λ n. text ∷ lines (take n (drop len text))) (sym none)
