-- The bits of a column's cells, gathered into words.
use Rattle.std.proofs.Common.{◌≡◌, ℕ, zero, suc, ◌+◌, ◌-◌, ◌*◌, ◌/◌, ◌%◌, ◌^◌, ◌<◌, ◌≤◌, List, [], ◌∷◌, ◌++◌, Bool, length, take, set, get_or, eqb, refl, sym, ap, ◌∙◌, ⊎_elim, arith, bit_and, bit_or}
use Rattle.std.specs.Int.{bit_at}
use Rattle.std.proofs.lemmas.Bool.{cases_lt}
use Rattle.std.proofs.lemmas.Nat.{shr-shr, shr_split}
use Rattle.std.proofs.lemmas.Nat.Bits.{bit_at_lowest, bit_at-suc, bit_at_or, bit_at_above, bit_at_cat_low, bit_at-lt, bit_at-zero, shr_and_one}
use Rattle.std.proofs.lemmas.List.{append-nil, take_all, get_or_past, get_or-replicate, get_or-set_same, get_or-set_other}
use Rattle.std.specs.Simd.Lanes.{zip2}
use Rattle.std.proofs.lemmas.Simd.{get_or-zip2, length-zip2}
use Rattle.opgen_num.specs.Words.{word}
use Rattle.opgen_streams.specs.Streams.{streams, bit_in, word_in}
use Rattle.opgen_streams.proofs.RowsInStreams.{put_more}

-- a bit of the lowest 64
pub low_bit_at : (n place : ℕ) → place < 64 → bit_at (n % 2 ^ 64) place ≡ bit_at n place
low_bit_at n place within =
    sym (bit_at_cat_low (n / 2 ^ 64) 64 (n % 2 ^ 64) place within) ∙ ap (λ m. bit_at m place) (shr_split n 64)

-- a bit of those above
pub high_bit_at : (n place : ℕ) → 64 ≤ place → bit_at (n / 2 ^ 64) (place - 64) ≡ bit_at n place
high_bit_at n place above =
    let same : 64 + (place - 64) ≡ place = omega (arith, above) in
    ap (λ m. m % 2) (shr-shr n 64 (place - 64)) ∙ ap (λ k. n / 2 ^ k % 2) same

-- a word moved up by a bit, and a bit of another below it
abbrev moved_up : (word other place : ℕ) → ℕ
moved_up word other place = bit_or (word * 2 ^ 1 % 2 ^ 64) (bit_and (other / 2 ^ place) 1)

module _ (word other place : ℕ) where
  small : bit_at other place < 2
  small = bit_at-lt other place

  pub lowest_bit : bit_at (moved_up word other place) 0 ≡ bit_at other place
  lowest_bit =
      let even : bit_at (word * 2 ^ 1 % 2 ^ 64) 0 ≡ 0 = bit_at_lowest (word * 2 ^ 1 % 2 ^ 64) ∙ omega arith in
      let bit : bit_at (bit_and (other / 2 ^ place) 1) 0 ≡ bit_at other place
      = ap (λ n. bit_at n 0) (shr_and_one other place) ∙ bit_at_lowest (bit_at other place) ∙ omega (arith, small) in
      bit_at_or (word * 2 ^ 1 % 2 ^ 64) (bit_and (other / 2 ^ place) 1) 0 ∙ omega (arith, even, bit)

  pub upper_bit : (j : ℕ) → j < 63 → bit_at (moved_up word other place) (suc j) ≡ bit_at word j
  upper_bit j within =
      let half : word * 2 ^ 1 / 2 ≡ word = omega arith in
      let moved : bit_at (word * 2 ^ 1 % 2 ^ 64) (suc j) ≡ bit_at word j
      = low_bit_at (word * 2 ^ 1) (suc j) (omega (arith, within)) ∙ bit_at-suc (word * 2 ^ 1) j ∙ ap (λ n. bit_at n j) half in
      let none : bit_at (bit_and (other / 2 ^ place) 1) (suc j) ≡ 0
      = ap (λ n. bit_at n (suc j)) (shr_and_one other place) ∙ bit_at_above (bit_at other place) 1 (suc j) small (omega arith) in
      bit_at_or (word * 2 ^ 1 % 2 ^ 64) (bit_and (other / 2 ^ place) 1) (suc j) ∙ omega (arith, moved, none)

-- the same, word by word
module _ (vector words : List ℕ) (place i : ℕ) (l : length vector ≡ 4) (m : length words ≡ 4) (lane : i < 4) where
  lanes_of : (f : ℕ → ℕ → ℕ) (xs ys : List ℕ) → length xs ≡ 4 → length ys ≡ 4 → get_or (zip2 f xs ys) i 0 ≡ f (get_or xs i 0) (get_or ys i 0)
  lanes_of f xs ys e e' = get_or-zip2 f xs ys i 0 0 0 (omega (arith, lane, e)) (omega (arith, lane, e'))

  pub word_moved : get_or (zip2 bit_or (zip2 (λ a b. a * 2 ^ b % 2 ^ 64) vector (1 ∷ 1 ∷ 1 ∷ 1 ∷ []))
      (zip2 bit_and (zip2 (λ a b. a / 2 ^ b) words (place ∷ place ∷ place ∷ place ∷ [])) (1 ∷ 1 ∷ 1 ∷ 1 ∷ []))) i 0
      ≡ moved_up (get_or vector i 0) (get_or words i 0) place
  word_moved =
      let up = zip2 (λ a b. a * 2 ^ b % 2 ^ 64) vector (1 ∷ 1 ∷ 1 ∷ 1 ∷ []) in
      let down = zip2 (λ a b. a / 2 ^ b) words (place ∷ place ∷ place ∷ place ∷ []) in
      let low = zip2 bit_and down (1 ∷ 1 ∷ 1 ∷ 1 ∷ []) in
      let one : get_or (1 ∷ 1 ∷ 1 ∷ 1 ∷ []) i 0 ≡ 1 = get_or-replicate 4 i 1 0 lane in
      let up_len : length up ≡ 4 = length-zip2 (λ a b. a * 2 ^ b % 2 ^ 64) vector (1 ∷ 1 ∷ 1 ∷ 1 ∷ []) l ∙ l in
      let down_len : length down ≡ 4 = length-zip2 (λ a b. a / 2 ^ b) words (place ∷ place ∷ place ∷ place ∷ []) m ∙ m in
      let low_len : length low ≡ 4 = length-zip2 bit_and down (1 ∷ 1 ∷ 1 ∷ 1 ∷ []) down_len ∙ down_len in
      let first : get_or up i 0 ≡ get_or vector i 0 * 2 ^ 1 % 2 ^ 64
      = lanes_of (λ a b. a * 2 ^ b % 2 ^ 64) vector (1 ∷ 1 ∷ 1 ∷ 1 ∷ []) l refl ∙ ap (λ n. get_or vector i 0 * 2 ^ n % 2 ^ 64) one in
      let shifted : get_or down i 0 ≡ get_or words i 0 / 2 ^ place
      = lanes_of (λ a b. a / 2 ^ b) words (place ∷ place ∷ place ∷ place ∷ []) m refl
      ∙ ap (λ n. get_or words i 0 / 2 ^ n) (get_or-replicate 4 i place 0 lane) in
      let second : get_or low i 0 ≡ bit_and (get_or words i 0 / 2 ^ place) 1
      = lanes_of bit_and down (1 ∷ 1 ∷ 1 ∷ 1 ∷ []) down_len refl ∙ ap (λ n. bit_and (get_or down i 0) n) one
      ∙ ap (λ n. bit_and n 1) shifted in
      lanes_of bit_or up low up_len low_len ∙ ap (λ n. bit_or n (get_or low i 0)) first
      ∙ ap (λ n. bit_or (get_or vector i 0 * 2 ^ 1 % 2 ^ 64) n) second

-- the words of four cells
pub four_cells : (a b c d : ℕ) (f : ℕ → ℕ → ℕ) → ((j : ℕ) → j < 64 → bit_at a j ≡ f 0 j) → ((j : ℕ) → j < 64 → bit_at b j ≡ f 1 j)
    → ((j : ℕ) → j < 64 → bit_at c j ≡ f 2 j) → ((j : ℕ) → j < 64 → bit_at d j ≡ f 3 j) → (i j : ℕ) → i < 4 → j < 64
    → bit_at (get_or (a ∷ b ∷ c ∷ d ∷ []) i 0) j ≡ f i j
four_cells a b c d f first second third fourth zero j l bit = first j bit
four_cells a b c d f first second third fourth (suc zero) j l bit = second j bit
four_cells a b c d f first second third fourth (suc (suc zero)) j l bit = third j bit
four_cells a b c d f first second third fourth (suc (suc (suc zero))) j l bit = fourth j bit
four_cells a b c d f first second third fourth (suc (suc (suc (suc i)))) j l bit = absurd (omega (arith, l))

-- one more row of words
pub row_placed : (g f : ℕ → ℕ) (words : List (List ℕ)) (new : List ℕ) (row : ℕ) → length words ≡ 64 → row < 64
    → ((k : ℕ) → k < streams → k % 64 < row → g (get_or (get_or words (k % 64) []) (k / 64) 0) ≡ f k)
    → ((k : ℕ) → k < streams → k % 64 ≡ row → g (get_or new (k / 64) 0) ≡ f k) → (k : ℕ) → k < streams → k % 64 < row + 1
    → g (get_or (get_or (set words row new) (k % 64) []) (k / 64) 0) ≡ f k
row_placed g f words new row len within before here k stream reached = ⊎_elim earlier last (cases_lt (k % 64) row)
  where
    at : List ℕ → ℕ
    at lanes = g (get_or lanes (k / 64) 0)

    earlier : k % 64 < row → at (get_or (set words row new) (k % 64) []) ≡ f k
    earlier h =
        let other : k % 64 ≡ row → ⊥ = λ e. omega (arith, h, e) in
        ap at (get_or-set_other words row (k % 64) new [] other) ∙ before k stream h

    last : row ≤ k % 64 → at (get_or (set words row new) (k % 64) []) ≡ f k
    last h =
        let same : k % 64 ≡ row = omega (arith, h, reached) in
        ap (λ n. at (get_or (set words row new) n [])) same ∙ ap at (get_or-set_same words row new [] (omega (arith, len, within)))
        ∙ here k stream same

-- bits of words
pub bits_none : (words : List (List ℕ)) (place i j : ℕ) → i < 4
    → bit_at (get_or (0 ∷ 0 ∷ 0 ∷ 0 ∷ []) i 0) j ≡ bit_at (get_or (get_or words (length words + j) []) i 0) place
bits_none words place i j lane =
    ap (λ n. bit_at n j) (get_or-replicate 4 i 0 0 lane) ∙ bit_at-zero j ∙ sym (bit_at-zero place)
    ∙ sym (ap (λ xs. bit_at (get_or xs i 0) place) (get_or_past words (length words + j) [] (omega arith)))

pub bits_more : (words : List (List ℕ)) (old new : List ℕ) (place left : ℕ) → 0 < left
    → ((i : ℕ) → i < 4 → bit_at (get_or new i 0) 0 ≡ bit_at (get_or (get_or words (left - 1) []) i 0) place)
    → ((i j : ℕ) → i < 4 → j < 63 → bit_at (get_or new i 0) (suc j) ≡ bit_at (get_or old i 0) j)
    → ((i j : ℕ) → i < 4 → j < 64 → bit_at (get_or old i 0) j ≡ bit_at (get_or (get_or words (left + j) []) i 0) place)
    → (i j : ℕ) → i < 4 → j < 64
    → bit_at (get_or new i 0) j ≡ bit_at (get_or (get_or words (left - 1 + j) []) i 0) place
bits_more words old new place left some lowest above before i zero lane within =
    let same : left - 1 ≡ left - 1 + zero = omega arith in
    lowest i lane ∙ ap (λ n. bit_at (get_or (get_or words n []) i 0) place) same
bits_more words old new place left some lowest above before i (suc j) lane within =
    let same : left + j ≡ left - 1 + suc j = omega (arith, some) in
    above i j lane (omega (arith, within)) ∙ before i j lane (omega (arith, within))
    ∙ ap (λ n. bit_at (get_or (get_or words n []) i 0) place) same

-- one more bit of a column
pub column_more : (all : List Bool) (lanes : List (List ℕ)) (place count k cell : ℕ) (lane : List ℕ) → length lanes ≡ count → place < count
    → word_in (take place lanes) k ++ word (count - place) (cell / 2 ^ place) ≡ all → bit_in lane k ≡ eqb (bit_at cell place) 1
    → word_in (take (place + 1) (set lanes place lane)) k ++ word (count - (place + 1)) (cell / 2 ^ (place + 1)) ≡ all
column_more all lanes place count k cell lane len within before bit =
    let half : cell / 2 ^ (place + 1) ≡ cell / 2 ^ place / 2 = sym (shr-shr cell place 1) in
    ap (λ n. word_in (take (place + 1) (set lanes place lane)) k ++ word (count - (place + 1)) n) half
    ∙ put_more all lanes place count k (cell / 2 ^ place) lane len within before bit

pub column_start : (count cell : ℕ) → word (count - 0) (cell / 2 ^ 0) ≡ word count cell
column_start count cell =
    let all : count - 0 ≡ count = omega arith in
    let same : cell / 2 ^ 0 ≡ cell = omega arith in
    ap (λ n. word n (cell / 2 ^ 0)) all ∙ ap (word count) same

pub column_end : (all : List Bool) (lanes : List (List ℕ)) (place count k rest : ℕ) → length lanes ≡ count → count ≤ place
    → word_in (take place lanes) k ++ word (count - place) rest ≡ all → word_in lanes k ≡ all
column_end all lanes place count k rest len end before =
    let none : count - place ≡ 0 = omega (arith, end) in
    sym (append-nil (word_in lanes k)) ∙ ap (λ n. word_in lanes k ++ word n rest) (sym none)
    ∙ ap (λ ls. word_in ls k ++ word (count - place) rest) (sym (take_all place lanes (omega (arith, len, end))))
    ∙ before
