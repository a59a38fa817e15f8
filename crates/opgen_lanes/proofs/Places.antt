-- Words one after another in a list of vectors.
use Rattle.std.proofs.Common.{◌≡◌, ℕ, zero, suc, ◌+◌, ◌*◌, ◌<◌, ◌≤◌, List, [], ◌∷◌, ◌++◌, length, map, take, drop, get_or, sum, refl, sym, ap, ◌∙◌, All, arith}
use Rattle.std.specs.Prelude.{slice_set}
use Rattle.std.proofs.lemmas.List.{take_at, drop_at, length-map, length-take-le, take-append-le, drop-append-le, drop-drop, length-append, length-drop, drop-take, take-take, append-nil}
use Rattle.std.proofs.Math.ListN.{drop_of_length-le}
use Rattle.opgen_num.specs.declared.format.TheConstants.{MAX_WIDTH}
use Rattle.opgen_num.proofs.Lists.{sum-cons}
use Rattle.opgen_streams.specs.Streams.{bit_in, word_in, words_in}
use Rattle.opgen_lanes.specs.declared.bank.Bank.{Bank}
use Rattle.opgen_lanes.specs.declared.bank.Place.{Place}
use Rattle.opgen_lanes.specs.Banks.{IsBank, places_from, widths_of, words_at}

pub length-places : (start : ℕ) (ws : List ℕ) → length (places_from start ws) ≡ length ws
length-places start [] = refl
length-places start (w ∷ ws) = ap suc (length-places (start + w) ws)

pub place-at : (start : ℕ) (ws : List ℕ) (i : ℕ) (p : Place) → i < length ws
    → get_or (places_from start ws) i p ≡ record { start = start + sum (take i ws); width = get_or ws i 0 }
place-at start [] i p l = absurd (omega (arith, l))
place-at start (w ∷ ws) zero p l = let e : start ≡ start + 0 = omega arith in ap (λ s. record { start = s; width = w }) e
place-at start (w ∷ ws) (suc i) p l =
    let e : start + w + sum (take i ws) ≡ start + sum (w ∷ take i ws) = omega (arith, sum-cons w (take i ws)) in
    place-at (start + w) ws i p (omega (arith, l)) ∙ ap (λ s. record { start = s; width = get_or ws i 0 }) e

pub place-end : (ws : List ℕ) (i : ℕ) → i < length ws → sum (take i ws) + get_or ws i 0 ≤ sum ws
place-end [] i l = absurd (omega (arith, l))
place-end (w ∷ ws) zero l = omega (arith, sum-cons w ws)
place-end (w ∷ ws) (suc i) l = omega (arith, place-end ws i (omega (arith, l)), sum-cons w ws, sum-cons w (take i ws))

pub word-there : (ws : List ℕ) (vs : List (List ℕ)) (i k : ℕ) → i < length ws
    → get_or (words_in ws vs k) i [] ≡ word_in (take (get_or ws i 0) (drop (sum (take i ws)) vs)) k
word-there [] vs i k l = absurd (omega (arith, l))
word-there (w ∷ ws) vs zero k l = refl
word-there (w ∷ ws) vs (suc i) k l = word-there ws (drop w vs) i k (omega (arith, l))
    ∙ ap (λ xs. word_in (take (get_or ws i 0) xs) k)
    (drop-drop (sum (take i ws)) w vs ∙ ap (λ n. drop n vs) (sym (sum-cons w (take i ws))))

-- where the word at a place of a bank stands
pub record Stands (bank : Bank) (at : ℕ) (p : Place) : Type 0 where
  pub start : p.start ≡ sum (take at (widths_of bank))
  pub width : p.width ≡ get_or (widths_of bank) at 0
  pub there : at < length (widths_of bank)
  pub ends : p.start + p.width ≤ length bank.vectors.items
  pub within : sum (take at (widths_of bank)) + get_or (widths_of bank) at 0 ≤ length bank.vectors.items

pub stands : (bank : Bank) (at : ℕ) (p : Place) → IsBank bank → at < length bank.places.items → p ≡ get_or bank.places.items at p
    → Stands bank at p
stands bank at p h l e =
    let ws = widths_of bank in
    let m : at < length ws = omega (arith, l, length-map bank.places.items (λ p. p.width)) in
    let is = e ∙ ap (λ ps. get_or ps at p) h.places ∙ place-at 0 ws at p m in
    let s : p.start ≡ 0 + sum (take at ws) = ap (λ q. q.start) is in
    let w : p.width ≡ get_or ws at 0 = ap (λ q. q.width) is in
    record {
      start = omega (arith, s);
      width = w;
      there = m;
      ends = omega (arith, s, w, place-end ws at m, h.room);
      within = omega (arith, place-end ws at m, h.room);
    }

-- the word of a stream there
pub word-stands : (bank : Bank) (at : ℕ) (p : Place) → Stands bank at p → (n : ℕ) → n ≡ p.width → (k : ℕ)
    → word_in (take n (drop p.start bank.vectors.items)) k ≡ get_or (words_at bank k) at []
word-stands bank at p s n e k =
    ap (λ m. word_in (take m (drop p.start bank.vectors.items)) k) (e ∙ s.width)
    ∙ ap (λ m. word_in (take (get_or (widths_of bank) at 0) (drop m bank.vectors.items)) k) s.start
    ∙ sym (word-there (widths_of bank) bank.vectors.items at k s.there)

-- other vectors in a word's place
abbrev pub put_in : (start width : ℕ) (vs ys : List (List ℕ)) → List (List ℕ)
put_in start width vs ys = take start vs ++ (ys ++ drop width (drop start vs))

pub words-put : (ws : List ℕ) (vs ys : List (List ℕ)) (i k : ℕ) → i < length ws → length ys ≡ get_or ws i 0
    → sum (take i ws) + get_or ws i 0 ≤ length vs
    → words_in ws (put_in (sum (take i ws)) (get_or ws i 0) vs ys) k ≡ slice_set (words_in ws vs k) i (word_in ys k)
words-put [] vs ys i k l n r = absurd (omega (arith, l))
words-put (w ∷ ws) vs ys zero k l n r =
    ap (λ xs. word_in xs k ∷ words_in ws (drop w (ys ++ drop w vs)) k) (take_at ys (drop w vs) w n)
    ∙ ap (λ xs. word_in ys k ∷ words_in ws xs k) (drop_at ys (drop w vs) w n)
words-put (w ∷ ws) vs ys (suc i) k l n r =
    let s = sum (take i ws) in
    let u = get_or ws i 0 in
    let first = sum-cons w (take i ws) in
    let tail = ys ++ drop u (drop (w + s) vs) in
    let long : length (take (w + s) vs) ≡ w + s = length-take-le (w + s) vs (omega (arith, r, first)) in
    let low : take w (take (w + s) vs ++ tail) ≡ take w vs = take-append-le w (take (w + s) vs) tail (omega (arith, long))
    ∙ take-take w (w + s) vs (omega arith) in
    let high : drop w (take (w + s) vs ++ tail) ≡ put_in s u (drop w vs) ys =
    drop-append-le w (take (w + s) vs) tail (omega (arith, long))
    ∙ ap (λ xs. xs ++ tail) (drop-take w s vs)
    ∙ ap (λ xs. take s (drop w vs) ++ (ys ++ drop u xs)) (sym (drop-drop s w vs)) in
    ap (λ n. words_in (w ∷ ws) (put_in n u vs ys) k) first
    ∙ ap (λ xs. word_in xs k ∷ words_in ws (drop w (take (w + s) vs ++ tail)) k) low
    ∙ ap (λ xs. word_in (take w vs) k ∷ words_in ws xs k) high
    ∙ ap (λ xs. word_in (take w vs) k ∷ xs)
    (words-put ws (drop w vs) ys i k (omega (arith, l)) n (omega (arith, r, first, length-drop w vs)))

pub length-put_in : (s w : ℕ) (vs ys : List (List ℕ)) → s + w ≤ length vs → length ys ≡ w → length (put_in s w vs ys) ≡ length vs
length-put_in s w vs ys l n = omega (
  arith,
  l,
  n,
  length-append (take s vs) (ys ++ drop w (drop s vs)),
  length-append ys (drop w (drop s vs)),
  length-take-le s vs (omega (arith, l)),
  length-drop w (drop s vs),
  length-drop s vs,
)

-- new places
pub widths-places : (start : ℕ) (ws : List ℕ) → map (λ p. p.width) (places_from start ws) ≡ ws
widths-places start [] = refl
widths-places start (w ∷ ws) = ap (λ xs. w ∷ xs) (widths-places (start + w) ws)

pub sum-narrow : (ws : List ℕ) → All (λ w. w ≤ MAX_WIDTH) ws → sum ws ≤ 96 * length ws
sum-narrow [] h = omega arith
sum-narrow (w ∷ ws) h = omega (arith, h 0 0 (omega arith), sum-cons w ws, sum-narrow ws (λ k d l. h (suc k) d (omega (arith, l))))

pub all-placed : (ws : List ℕ) (ps : List Place) (start i : ℕ) → ps ++ places_from start (drop i ws) ≡ places_from 0 ws
    → start + sum (drop i ws) ≡ sum ws → length ws ≤ i → (ps ≡ places_from 0 ws) × (start ≡ sum ws)
all-placed ws ps start i e s l =
    let n = drop_of_length-le ws l in
    let t : start + sum [] ≡ sum ws = ap (λ xs. start + sum xs) (sym n) ∙ s in
    (sym (append-nil ps) ∙ ap (λ xs. ps ++ places_from start xs) (sym n) ∙ e, omega (arith, t))

pub words-widths : (ws : List ℕ) (vs : List (List ℕ)) (k : ℕ) → sum ws ≤ length vs → map length (words_in ws vs k) ≡ ws
words-widths [] vs k l = refl
words-widths (w ∷ ws) vs k l =
    let s = sum-cons w ws in
    let e : length (word_in (take w vs) k) ≡ w = length-map (take w vs) (λ v. bit_in v k) ∙ length-take-le w vs (omega (arith, l, s)) in
    ap (λ n. n ∷ map length (words_in ws (drop w vs) k)) e
    ∙ ap (λ ns. w ∷ ns) (words-widths ws (drop w vs) k (omega (arith, l, s, length-drop w vs)))
