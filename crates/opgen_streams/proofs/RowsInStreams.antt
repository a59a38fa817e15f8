-- Rows of cells, and the streams that hold them.
use Rattle.std.proofs.Common.{◌≡◌, ℕ, zero, suc, ◌+◌, ◌-◌, ◌*◌, ◌%◌, ◌/◌, ◌^◌, ◌<◌, ◌≤◌, Bool, List, [], ◌∷◌, ◌++◌, length, take, drop, set, get_or, eqb, sum, refl, sym, ap, ◌∙◌, arith, append_assoc, lit<, min, ⊎_elim}
use Rattle.std.proofs.Math.Nat.{pow-le-pow_right}
use Rattle.std.proofs.lemmas.List.{append-nil, map-append, map_push, length-map, length-take, length-take-le, length-drop, length-append, take-map, drop-map, take_at, drop_at, take_all, drop_all, drop_more, take-append-drop, take_more_set, get_or-drop, drop-drop}
use Rattle.std.proofs.lemmas.List.Sums.{sum_by-drop_more}
use Rattle.std.proofs.lemmas.Slice.{take-put_mid}
use borrow.Rule.Slice.PartMut.{put_mid}
use Rattle.std.specs.Int.{bit_at}
use Rattle.std.proofs.lemmas.Bool.{cases_lt}
use Rattle.std.proofs.lemmas.Nat.Bits.{bit_at_lowest, bit_at-suc, bit_at-zero, bit_at-lt, same_from_bits_below}
use Rattle.opgen_num.specs.Words.{digit, nat, word, words_of}
use Rattle.opgen_num.specs.WordLaws.{length-word}
use Rattle.opgen_num.proofs.Words.{digit-below, nat-below}
use Rattle.opgen_num.proofs.Cuts.{nat-append}
use Rattle.opgen_streams.specs.Streams.{streams, bit_in, word_in, words_in}
use Rattle.opgen_streams.specs.Rows.{row_in}

-- words, one after another
abbrev pub bits_of : List (List Bool) → List Bool
bits_of [] = []
bits_of (w ∷ ws) = w ++ bits_of ws

word_in-take : (n : ℕ) (lanes : List (List ℕ)) (k : ℕ) → word_in (take n lanes) k ≡ take n (word_in lanes k)
word_in-take n lanes k = sym (take-map (λ vector. bit_in vector k) n lanes)

word_in-drop : (n : ℕ) (lanes : List (List ℕ)) (k : ℕ) → word_in (drop n lanes) k ≡ drop n (word_in lanes k)
word_in-drop n lanes k = sym (drop-map (λ vector. bit_in vector k) n lanes)

-- the bits of a stream say its words
pub words_in-same : (widths : List ℕ) (a b : List (List ℕ)) (k : ℕ) → word_in a k ≡ word_in b k → words_in widths a k ≡ words_in widths b k
words_in-same [] a b k e = refl
words_in-same (width ∷ widths) a b k e =
    let first : word_in (take width a) k ≡ word_in (take width b) k
    = word_in-take width a k ∙ ap (take width) e ∙ sym (word_in-take width b k) in
    let others : word_in (drop width a) k ≡ word_in (drop width b) k
    = word_in-drop width a k ∙ ap (drop width) e ∙ sym (word_in-drop width b k) in
    ap (λ w. w ∷ words_in widths (drop width a) k) first
    ∙ ap (λ ws. word_in (take width b) k ∷ ws) (words_in-same widths (drop width a) (drop width b) k others)

pub words_in-bits : (widths numbers : List ℕ) (lanes : List (List ℕ)) (k : ℕ) → length numbers ≡ length widths
    → word_in lanes k ≡ bits_of (words_of widths numbers) → words_in widths lanes k ≡ words_of widths numbers
words_in-bits [] numbers lanes k len e = refl
words_in-bits (width ∷ widths) [] lanes k len e = absurd (omega (arith, len))
words_in-bits (width ∷ widths) (n ∷ numbers) lanes k len e =
    let rest = bits_of (words_of widths numbers) in
    let first : word_in (take width lanes) k ≡ word width n
    = word_in-take width lanes k ∙ ap (take width) e ∙ take_at (word width n) rest width (length-word width n) in
    let others : word_in (drop width lanes) k ≡ rest
    = word_in-drop width lanes k ∙ ap (drop width) e ∙ drop_at (word width n) rest width (length-word width n) in
    ap (λ w. w ∷ words_in widths (drop width lanes) k) first
    ∙ ap (λ ws. word width n ∷ ws) (words_in-bits widths numbers (drop width lanes) k (omega (arith, len)) others)

-- one more bit of a stream
pub put_more : (all : List Bool) (lanes : List (List ℕ)) (i count stream rest : ℕ) (lane : List ℕ) → length lanes ≡ count → i < count
    → word_in (take i lanes) stream ++ word (count - i) rest ≡ all → bit_in lane stream ≡ eqb (rest % 2) 1
    → word_in (take (i + 1) (set lanes i lane)) stream ++ word (count - (i + 1)) (rest / 2) ≡ all
put_more all lanes i count stream rest lane len within e bit =
    let here : i < length lanes = omega (arith, len, within) in
    let before = word_in (take i lanes) stream in
    let later = word (count - (i + 1)) (rest / 2) in
    let front : word_in (take (i + 1) (set lanes i lane)) stream ≡ before ++ bit_in lane stream ∷ []
    = ap (λ ls. word_in ls stream) (take_more_set lanes i lane here) ∙ map_push (λ vector. bit_in vector stream) (take i lanes) lane in
    let more : count - i ≡ suc (count - (i + 1)) = omega (arith, within) in
    let next : word (count - i) rest ≡ bit_in lane stream ∷ later = ap (λ n. word n rest) more ∙ ap (λ b. b ∷ later) (sym bit) in
    ap (λ w. w ++ later) front ∙ append_assoc before (bit_in lane stream ∷ []) later ∙ ap (λ w. before ++ w) (sym next) ∙ e

-- one more word of a row
pub place_more : (widths : List ℕ) (lanes new : List (List ℕ)) (start size column : ℕ) → start + sum (drop column widths) ≡ length lanes
    → column < length widths → size ≡ get_or widths column 0 → length new ≡ length (take size (drop start lanes))
    → start + get_or widths column 0 + sum (drop (column + 1) widths) ≡ length (put_mid start size lanes new)
place_more widths lanes new start size column place within k same =
    let later = drop start lanes in
    omega (
      arith,
      sum_by-drop_more (λ n. n) widths column 0 within,
      length-append (take start lanes) (new ++ drop size later),
      length-append new (drop size later),
      length-take start lanes,
      length-take size later,
      length-drop start lanes,
      length-drop size later,
    )

pub word_more : (all : List Bool) (widths row : List ℕ) (lanes new : List (List ℕ)) (start size column stream : ℕ)
    → start + sum (drop column widths) ≡ length lanes → column < length widths → length row ≡ length widths → size ≡ get_or widths column 0
    → length new ≡ length (take size (drop start lanes))
    → word_in new stream ≡ word (length (take size (drop start lanes))) (get_or row column 0)
    → take start (word_in lanes stream) ++ bits_of (words_of (drop column widths) (drop column row)) ≡ all
    → take (start + get_or widths column 0) (word_in (put_mid start size lanes new) stream)
    ++ bits_of (words_of (drop (column + 1) widths) (drop (column + 1) row)) ≡ all
word_more all widths row lanes new start size column stream place within len k same put e =
    let width = get_or widths column 0 in
    let number = get_or row column 0 in
    let before = take start (word_in lanes stream) in
    let later = bits_of (words_of (drop (column + 1) widths) (drop (column + 1) row)) in
    let here : column < length row = omega (arith, len, within) in
    let total = sum_by-drop_more (λ n. n) widths column 0 within in
    let size_is : length (take size (drop start lanes)) ≡ width
    = omega (arith, total, length-take size (drop start lanes), length-drop start lanes) in
    let front : take (start + width) (word_in (put_mid start size lanes new) stream) ≡ before ++ word width number
    = sym (word_in-take (start + width) (put_mid start size lanes new) stream)
    ∙ ap (λ ls. word_in ls stream) (take-put_mid start size lanes new (start + width) (omega (arith, same, size_is)) (omega (arith, place)))
    ∙ map-append (λ vector. bit_in vector stream) (take start lanes) new
    ∙ ap (λ w. w ++ word_in new stream) (word_in-take start lanes stream)
    ∙ ap (λ w. before ++ w) (put ∙ ap (λ n. word n number) size_is) in
    let next : bits_of (words_of (drop column widths) (drop column row)) ≡ word width number ++ later
    = ap (λ ws. bits_of (words_of ws (drop column row))) (drop_more widths column 0 within)
    ∙ ap (λ ns. bits_of (words_of (width ∷ drop (column + 1) widths) ns)) (drop_more row column 0 here) in
    ap (λ w. w ++ later) front ∙ append_assoc before (word width number) later ∙ ap (λ w. before ++ w) (sym next) ∙ e

-- all words of a row
pub row_put : (widths row : List ℕ) (lanes : List (List ℕ)) (start column stream : ℕ) → start + sum (drop column widths) ≡ length lanes
    → length widths ≤ column → length row ≡ length widths
    → take start (word_in lanes stream) ++ bits_of (words_of (drop column widths) (drop column row)) ≡ bits_of (words_of widths row)
    → words_in widths lanes stream ≡ words_of widths row
row_put widths row lanes start column stream place end len e =
    let none : drop column widths ≡ [] = drop_all column widths end in
    let all : length lanes ≤ start = omega (arith, place, ap sum none) in
    let bits : word_in lanes stream ≡ bits_of (words_of widths row)
    = sym (take_all start (word_in lanes stream) (omega (arith, all, length-map lanes (λ vector. bit_in vector stream))))
    ∙ sym (append-nil (take start (word_in lanes stream)))
    ∙ ap (λ ws. take start (word_in lanes stream) ++ bits_of (words_of ws (drop column row))) (sym none)
    ∙ e in
    words_in-bits widths row lanes stream len bits

-- a bit of the number that a stream holds
digit-bit : (n : ℕ) → n < 2 → digit (eqb n 1) ≡ n
digit-bit zero small = refl
digit-bit (suc zero) small = refl
digit-bit (suc (suc n)) small = absurd (omega (arith, small))

bit_of_number : (lanes : List (List ℕ)) (k j : ℕ)
    → bit_at (nat (word_in lanes k)) j ≡ bit_at (get_or (get_or lanes j []) (k / 64) 0) (k % 64)
bit_of_number [] k j = bit_at-zero j ∙ sym (bit_at-zero (k % 64))
bit_of_number (lane ∷ lanes) k zero =
    let bit = bit_at (get_or lane (k / 64) 0) (k % 64) in
    let is : digit (bit_in lane k) ≡ bit = digit-bit bit (bit_at-lt (get_or lane (k / 64) 0) (k % 64)) in
    let low : (digit (bit_in lane k) + 2 * nat (word_in lanes k)) % 2 ≡ bit
    = omega (arith, is, bit_at-lt (get_or lane (k / 64) 0) (k % 64)) in
    bit_at_lowest (digit (bit_in lane k) + 2 * nat (word_in lanes k)) ∙ low
bit_of_number (lane ∷ lanes) k (suc j) =
    let half : (digit (bit_in lane k) + 2 * nat (word_in lanes k)) / 2 ≡ nat (word_in lanes k)
    = omega (arith, digit-below (bit_in lane k)) in
    bit_at-suc (digit (bit_in lane k) + 2 * nat (word_in lanes k)) j ∙ ap (λ n. bit_at n j) half ∙ bit_of_number lanes k j

pub no_number : (lanes : List (List ℕ)) (k : ℕ) → length lanes ≡ 0 → 0 ≡ nat (word_in lanes k)
no_number [] k none = refl
no_number (lane ∷ lanes) k none = absurd (omega (arith, none))

pub number_of_stream : (lanes : List (List ℕ)) (vector : List ℕ) (k row : ℕ) → length lanes ≤ 64 → k < streams → k % 64 ≡ row
    → ((i j : ℕ) → i < 4 → j < 64 → bit_at (get_or vector i 0) j ≡ bit_at (get_or (get_or lanes j []) i 0) row)
    → ((i : ℕ) → i < 4 → get_or vector i 0 < 2 ^ 64) → get_or vector (k / 64) 0 ≡ nat (word_in lanes k)
number_of_stream lanes vector k row few within here bits small =
    let lane : k / 64 < 4 = omega (arith, within) in
    let len : length (word_in lanes k) ≤ 64 = omega (arith, few, length-map lanes (λ vector. bit_in vector k)) in
    let fits : nat (word_in lanes k) < 2 ^ 64 = omega (arith, nat-below (word_in lanes k), pow-le-pow_right {n = 2} (lit< tt) len) in
    same_from_bits_below 64 (get_or vector (k / 64) 0) (nat (word_in lanes k)) (small (k / 64) lane) fits (λ j bit.
    bits (k / 64) j lane bit ∙ ap (bit_at (get_or (get_or lanes j []) (k / 64) 0)) (sym here) ∙ sym (bit_of_number lanes k j))

-- the lowest 64 bits, and those above
pub nat-halves : (lanes : List (List ℕ)) (stream : ℕ) → 64 ≤ length lanes
    → nat (word_in lanes stream) ≡ nat (word_in (take 64 lanes) stream) + 2 ^ 64 * nat (word_in (drop 64 lanes) stream)
nat-halves lanes stream wide =
    let low = word_in (take 64 lanes) stream in
    let high = word_in (drop 64 lanes) stream in
    let len : length low ≡ 64 = length-map (take 64 lanes) (λ vector. bit_in vector stream) ∙ length-take-le 64 lanes wide in
    ap (λ ls. nat (word_in ls stream)) (sym (take-append-drop 64 lanes))
    ∙ ap nat (map-append (λ vector. bit_in vector stream) (take 64 lanes) (drop 64 lanes))
    ∙ nat-append low high
    ∙ ap (λ n. nat low + 2 ^ n * nat high) len

pub nat-parts : (lanes : List (List ℕ)) (stream most : ℕ) → most ≡ min (length lanes) 64
    → nat (word_in (take most lanes) stream) + 2 ^ 64 * nat (word_in (drop most lanes) stream) ≡ nat (word_in lanes stream)
nat-parts lanes stream most is = ⊎_elim short long (cases_lt (length lanes) 64)
  where
    parts : ℕ → ℕ
    parts n = nat (word_in (take n lanes) stream) + 2 ^ 64 * nat (word_in (drop n lanes) stream)

    short : length lanes < 64 → parts most ≡ nat (word_in lanes stream)
    short h =
        let all : length lanes ≤ most = omega (arith, is, h) in
        let none : nat (word_in (drop most lanes) stream) ≡ 0 = ap (λ ls. nat (word_in ls stream)) (drop_all most lanes all) in
        let whole : nat (word_in (take most lanes) stream) ≡ nat (word_in lanes stream)
        = ap (λ ls. nat (word_in ls stream)) (take_all most lanes all) in
        omega (arith, none, whole)

    long : 64 ≤ length lanes → parts most ≡ nat (word_in lanes stream)
    long h =
        let same : most ≡ 64 = omega (arith, is, h) in
        ap parts same ∙ sym (nat-halves lanes stream h)

-- the numbers of a stream that are left, after those of the first columns
pub column_taken : (widths : List ℕ) (all rest : List (List ℕ)) (k column : ℕ) → column < length widths
    → row_in (drop column widths) rest k ≡ drop column (row_in widths all k)
    → nat (word_in (take (get_or widths column 0) rest) k) ≡ get_or (row_in widths all k) column 0
column_taken widths all rest k column within e =
    let here : column + 0 ≡ column = omega arith in
    ap (λ ws. get_or (row_in ws rest k) 0 0) (sym (drop_more widths column 0 within)) ∙ ap (λ ns. get_or ns 0 0) e
    ∙ get_or-drop column (row_in widths all k) 0 0
    ∙ ap (λ i. get_or (row_in widths all k) i 0) here

pub column_left : (widths : List ℕ) (all rest : List (List ℕ)) (k column : ℕ) → column < length widths
    → row_in (drop column widths) rest k ≡ drop column (row_in widths all k)
    → row_in (drop (column + 1) widths) (drop (get_or widths column 0) rest) k ≡ drop (column + 1) (row_in widths all k)
column_left widths all rest k column within e =
    ap (λ ws. drop 1 (row_in ws rest k)) (sym (drop_more widths column 0 within)) ∙ ap (drop 1) e
    ∙ drop-drop 1 column (row_in widths all k)
