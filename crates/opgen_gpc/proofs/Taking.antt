-- The counters of a heap's columns, with the bits that are left, have the sum of the columns, and each takes six bits of them.
use Rattle.std.proofs.Common.{◌≡◌, ℕ, zero, suc, ◌+◌, ◌*◌, ◌^◌, ◌<◌, ◌≤◌, Bool, true, false, nat_eq, if◌then◌else◌, List, [], ◌∷◌, ◌++◌, length, refl, ap, ◌∙◌, subst, add-one, arith}
use Rattle.std.specs.Prelude.{All, Option, slice_index_or, take, drop}
use Rattle.std.proofs.Math.Nat.{two-pow-succ}
use Rattle.std.proofs.lemmas.Bool.{eqb-true}
use Rattle.std.proofs.lemmas.List.Elements.{All-append, All-cons, All-nil, All-head, All-tail}
use Rattle.opgen_num.specs.Words.{digit}
use Rattle.opgen_heap.specs.Sum.{Words, bit_under, ones, columns_sum}
use Rattle.opgen_net.specs.declared.word_bits.WordBit.{WordBit}
use Rattle.opgen_gpc.specs.declared.counter.Counter.{Counter}
use Rattle.opgen_gpc.specs.Counters.{Column, six, five, sixes, after_sixes, first_bit, is_five, five_of, unless_five, untaken, apart}
use Rattle.opgen_gpc.specs.Kept.{TakesSix}

-- the highest bit once more, where it counts twice
abbrev pub first_more : Words → (twice : Bool) → Column → ℕ
first_more words true (b ∷ bits) = digit (bit_under words b)
first_more words twice bits = 0

abbrev pub counter_value : Words → Counter → ℕ
counter_value words c = ones words c.bits + first_more words c.twice c.bits

abbrev pub counters_sum : Words → List Counter → ℕ
counters_sum words [] = 0
counters_sum words (c ∷ cs) = counter_value words c * 2 ^ c.column + counters_sum words cs

pub counters_sum-append : (words : Words) (cs ds : List Counter) → counters_sum words (cs ++ ds) ≡ counters_sum words cs + counters_sum words ds
counters_sum-append words [] ds = omega arith
counters_sum-append words (c ∷ cs) ds = omega (arith, counters_sum-append words cs ds)

module _ (words : Words) where
  sixes-sum : (column : ℕ) (bits : Column)
      → counters_sum words (sixes column bits) + ones words (after_sixes bits) * 2 ^ column ≡ ones words bits * 2 ^ column
  sixes-sum column [] = omega arith
  sixes-sum column (a ∷ []) = omega arith
  sixes-sum column (a ∷ b ∷ []) = omega arith
  sixes-sum column (a ∷ b ∷ c ∷ []) = omega arith
  sixes-sum column (a ∷ b ∷ c ∷ d ∷ []) = omega arith
  sixes-sum column (a ∷ b ∷ c ∷ d ∷ e ∷ []) = omega arith
  sixes-sum column (a ∷ b ∷ c ∷ d ∷ e ∷ f ∷ bits) = omega (arith, sixes-sum column bits)

  abbrev pub without : (taken : Bool) → List Column → List Column
  without taken [] = []
  without taken (bits ∷ columns) = untaken taken bits ∷ columns

  five-sum : (column : ℕ) (left : Column) (columns : List Column)
      → (counters_sum words (five_of column left (first_bit columns)) + ones words (unless_five left (first_bit columns)) * 2 ^ column)
      + columns_sum words (without (is_five left (first_bit columns)) columns) * (2 * 2 ^ column)
      ≡ ones words left * 2 ^ column + columns_sum words columns * (2 * 2 ^ column)
  five-sum column left [] = omega arith
  five-sum column left ([] ∷ columns) = omega arith
  five-sum column left ((b ∷ bits) ∷ columns) = by (nat_eq (length left) 5)
    where
      by : (c : Bool)
          → (counters_sum words (if c then five column (b ∷ left) ∷ [] else []) + ones words (if c then [] else left) * 2 ^ column)
          + columns_sum words (untaken c (b ∷ bits) ∷ columns) * (2 * 2 ^ column)
          ≡ ones words left * 2 ^ column + columns_sum words ((b ∷ bits) ∷ columns) * (2 * 2 ^ column)
      by true = omega arith
      by false = omega arith

  pub apart-sum : (column : ℕ) (taken : Bool) (columns : List Column)
      → counters_sum words (apart column taken columns).counters + columns_sum words (apart column taken columns).left * 2 ^ column
      ≡ columns_sum words (without taken columns) * 2 ^ column
  apart-sum column taken [] = omega arith
  apart-sum column taken (bits ∷ columns) =
      let given = untaken taken bits in
      let left = after_sixes given in
      let next = first_bit columns in
      let rest = apart (column + 1) (is_five left next) columns in
      let double : 2 ^ (column + 1) ≡ 2 * 2 ^ column = ap (λ k. 2 ^ k) (add-one column) ∙ two-pow-succ column ∙ omega arith in
      let later = apart-sum (column + 1) (is_five left next) columns in
      let later_left = ap (λ n. columns_sum words rest.left * n) double in
      let later_right = ap (λ n. columns_sum words (without (is_five left next) columns) * n) double in
      omega (
        arith,
        counters_sum-append words (sixes column given) (five_of column left next ++ rest.counters),
        counters_sum-append words (five_of column left next) rest.counters,
        sixes-sum column given,
        five-sum column left columns,
        later,
        later_left,
        later_right,
      )

module _ (P : WordBit → Type 0) where
  rest_of : (b : WordBit) (bits : Column) → All P (b ∷ bits) → All P bits
  rest_of b bits h = λ k d l. h (suc k) d (omega (arith, l))

  six-taken : (column : ℕ) (a b c d e f : WordBit) (bits : Column) → All P (a ∷ b ∷ c ∷ d ∷ e ∷ f ∷ bits)
      → TakesSix P (six column (a ∷ b ∷ c ∷ d ∷ e ∷ f ∷ []))
  six-taken column a b c d e f bits h = record {
    bits = λ k x l. subst P (front k x l) (h k x (omega (arith, l)));
    six = refl;
  }
    where
      front : (k : ℕ) (x : WordBit) → k < 6
          → slice_index_or (a ∷ b ∷ c ∷ d ∷ e ∷ f ∷ bits) k x ≡ slice_index_or (a ∷ b ∷ c ∷ d ∷ e ∷ f ∷ []) k x
      front zero x l = refl
      front (suc zero) x l = refl
      front (suc (suc zero)) x l = refl
      front (suc (suc (suc zero))) x l = refl
      front (suc (suc (suc (suc zero)))) x l = refl
      front (suc (suc (suc (suc (suc zero))))) x l = refl
      front (suc (suc (suc (suc (suc (suc k)))))) x l = absurd (omega (arith, l))

  later-six : (a b c d e f : WordBit) (bits : Column) → All P (a ∷ b ∷ c ∷ d ∷ e ∷ f ∷ bits) → All P bits
  later-six a b c d e f bits h = λ k x l. h (suc (suc (suc (suc (suc (suc k)))))) x (omega (arith, l))

  sixes-take : (column : ℕ) (bits : Column) → All P bits → All (TakesSix P) (sixes column bits)
  sixes-take column [] h = All-nil (TakesSix P)
  sixes-take column (a ∷ []) h = All-nil (TakesSix P)
  sixes-take column (a ∷ b ∷ []) h = All-nil (TakesSix P)
  sixes-take column (a ∷ b ∷ c ∷ []) h = All-nil (TakesSix P)
  sixes-take column (a ∷ b ∷ c ∷ d ∷ []) h = All-nil (TakesSix P)
  sixes-take column (a ∷ b ∷ c ∷ d ∷ e ∷ []) h = All-nil (TakesSix P)
  sixes-take column (a ∷ b ∷ c ∷ d ∷ e ∷ f ∷ bits) h =
      All-cons (TakesSix P) (six column (a ∷ b ∷ c ∷ d ∷ e ∷ f ∷ [])) (sixes column bits) (six-taken column a b c d e f bits h)
      (sixes-take column bits (later-six a b c d e f bits h))

  after_sixes-all : (bits : Column) → All P bits → All P (after_sixes bits)
  after_sixes-all [] h = h
  after_sixes-all (a ∷ []) h = h
  after_sixes-all (a ∷ b ∷ []) h = h
  after_sixes-all (a ∷ b ∷ c ∷ []) h = h
  after_sixes-all (a ∷ b ∷ c ∷ d ∷ []) h = h
  after_sixes-all (a ∷ b ∷ c ∷ d ∷ e ∷ []) h = h
  after_sixes-all (a ∷ b ∷ c ∷ d ∷ e ∷ f ∷ bits) h = after_sixes-all bits (later-six a b c d e f bits h)

  untaken-all : (taken : Bool) (bits : Column) → All P bits → All P (untaken taken bits)
  untaken-all true [] h = h
  untaken-all true (b ∷ bits) h = rest_of b bits h
  untaken-all false bits h = h

  five-takes : (column : ℕ) (left : Column) (columns : List Column) → All P left → All (All P) columns
      → All (TakesSix P) (five_of column left (first_bit columns))
  five-takes column left [] h g = All-nil (TakesSix P)
  five-takes column left ([] ∷ columns) h g = All-nil (TakesSix P)
  five-takes column left ((b ∷ bits) ∷ columns) h g = by (nat_eq (length left) 5) (eqb-true (length left) 5)
    where
      by : (c : Bool) → (c ≡ true → length left ≡ 5) → All (TakesSix P) (if c then five column (b ∷ left) ∷ [] else [])
      by true e =
          let first : P b = g 0 (b ∷ bits) (omega arith) 0 b (omega arith) in
          let takes : TakesSix P (five column (b ∷ left)) = record { bits = All-cons P b left first h; six = omega (arith, e refl) } in
          All-cons (TakesSix P) (five column (b ∷ left)) [] takes (All-nil (TakesSix P))
      by false e = All-nil (TakesSix P)

  unless_five-all : (left : Column) (next : Option WordBit) → All P left → All P (unless_five left next)
  unless_five-all left next h = elim (is_five left next) as (λ c. All P (if c then [] else left)) [ true ↦ All-nil P | false ↦ h ]

  pub apart-takes : (column : ℕ) (taken : Bool) (columns : List Column) → All (All P) columns
      → All (TakesSix P) (apart column taken columns).counters × All (All P) (apart column taken columns).left
  apart-takes column taken [] h = (All-nil (TakesSix P), All-nil (All P))
  apart-takes column taken (bits ∷ columns) h =
      let given = untaken taken bits in
      let left = after_sixes given in
      let next = first_bit columns in
      let others = All-tail (All P) bits columns h in
      let rest = apart-takes (column + 1) (is_five left next) columns others in
      let here = untaken-all taken bits (All-head (All P) bits columns h) in
      let there = after_sixes-all given here in
      let ds = (apart (column + 1) (is_five left next) columns).counters in (
        All-append (TakesSix P) (sixes column given) (five_of column left next ++ ds) (sixes-take column given here)
            (All-append (TakesSix P) (five_of column left next) ds (five-takes column left columns there others) rest.0),
        All-cons (All P) (unless_five left next) (apart (column + 1) (is_five left next) columns).left (unless_five-all left next there) rest.1,
      )

-- six bits from the front of a column

pub sixes-more : (column : ℕ) (bits : Column) → 6 ≤ length bits → sixes column bits ≡ six column (take 6 bits) ∷ sixes column (drop 6 bits)
sixes-more column [] h = absurd (omega (arith, h))
sixes-more column (a ∷ []) h = absurd (omega (arith, h))
sixes-more column (a ∷ b ∷ []) h = absurd (omega (arith, h))
sixes-more column (a ∷ b ∷ c ∷ []) h = absurd (omega (arith, h))
sixes-more column (a ∷ b ∷ c ∷ d ∷ []) h = absurd (omega (arith, h))
sixes-more column (a ∷ b ∷ c ∷ d ∷ e ∷ []) h = absurd (omega (arith, h))
sixes-more column (a ∷ b ∷ c ∷ d ∷ e ∷ f ∷ bits) h = refl

pub after_sixes-more : (bits : Column) → 6 ≤ length bits → after_sixes bits ≡ after_sixes (drop 6 bits)
after_sixes-more [] h = absurd (omega (arith, h))
after_sixes-more (a ∷ []) h = absurd (omega (arith, h))
after_sixes-more (a ∷ b ∷ []) h = absurd (omega (arith, h))
after_sixes-more (a ∷ b ∷ c ∷ []) h = absurd (omega (arith, h))
after_sixes-more (a ∷ b ∷ c ∷ d ∷ []) h = absurd (omega (arith, h))
after_sixes-more (a ∷ b ∷ c ∷ d ∷ e ∷ []) h = absurd (omega (arith, h))
after_sixes-more (a ∷ b ∷ c ∷ d ∷ e ∷ f ∷ bits) h = refl

-- fewer than six bits are left

pub sixes-none : (column : ℕ) (bits : Column) → length bits < 6 → sixes column bits ≡ []
sixes-none column [] h = refl
sixes-none column (a ∷ []) h = refl
sixes-none column (a ∷ b ∷ []) h = refl
sixes-none column (a ∷ b ∷ c ∷ []) h = refl
sixes-none column (a ∷ b ∷ c ∷ d ∷ []) h = refl
sixes-none column (a ∷ b ∷ c ∷ d ∷ e ∷ []) h = refl
sixes-none column (a ∷ b ∷ c ∷ d ∷ e ∷ f ∷ bits) h = absurd (omega (arith, h))

pub after_sixes-none : (bits : Column) → length bits < 6 → after_sixes bits ≡ bits
after_sixes-none [] h = refl
after_sixes-none (a ∷ []) h = refl
after_sixes-none (a ∷ b ∷ []) h = refl
after_sixes-none (a ∷ b ∷ c ∷ []) h = refl
after_sixes-none (a ∷ b ∷ c ∷ d ∷ []) h = refl
after_sixes-none (a ∷ b ∷ c ∷ d ∷ e ∷ []) h = refl
after_sixes-none (a ∷ b ∷ c ∷ d ∷ e ∷ f ∷ bits) h = absurd (omega (arith, h))
