-- The heap after counters has the sum of the heap before.
use Rattle.std.proofs.Common.{◌≡◌, ℕ, zero, suc, ◌+◌, ◌*◌, ◌%◌, ◌^◌, ◌<◌, ◌≤◌, Bool, true, false, if◌then◌else◌, List, [], ◌∷◌, length, refl, sym, ap, ◌∙◌, subst, add-one, arith}
use Rattle.std.specs.Prelude.{ℤ, All, nat_lt, slice_index_or, take}
use Rattle.std.proofs.Math.Nat.{two-pow-succ, mod-add-mod}
use Rattle.std.proofs.lemmas.Bool.{ltb-true}
use Rattle.std.proofs.lemmas.List.Elements.{All-head, All-tail, All-nil}
use Rattle.opgen_num.specs.Words.{digit, nat}
use Rattle.opgen_design.specs.Run.{AreWords}
use Rattle.opgen_heap.specs.Adding.{with_bit_at, with_bit, with_row}
use Rattle.opgen_heap.specs.Contents.{Contents}
use Rattle.opgen_heap.specs.Standing.{AllThere}
use Rattle.opgen_heap.specs.Sum.{Words, bit_under, ones, columns_sum, heap_sum}
use Rattle.opgen_heap.proofs.Columns.{length-with_bit_at}
use Rattle.opgen_heap.proofs.Bits.{AllBits, with_bit-all, with_row-all}
use Rattle.opgen_heap.proofs.Kept.{bit-kept, ones-kept, sum-kept}
use Rattle.opgen_heap.proofs.Standing.{columns-still_there}
use Rattle.opgen_heap.proofs.Sums.{with_bit-sum, with_row-sum}
use Rattle.opgen_net.specs.declared.net.Net.{Net}
use Rattle.opgen_net.specs.declared.word_bits.WordBit.{WordBit}
use Rattle.opgen_net.specs.declared.word_bits.WordBit.TheVariants.{Of}
use Rattle.opgen_net.specs.Flow.{Inputs, flow}
use Rattle.opgen_net.specs.Grown.{HasGrown}
use Rattle.opgen_net.specs.Placed.{Placed}
use Rattle.opgen_net.specs.Valid.{widths, input_widths, IsValid}
use Rattle.opgen_net.specs.WordRule.{IsThere}
use Rattle.opgen_net.proofs.Grown.{grown-all_there}
use Rattle.opgen_net.proofs.Later.{Later, later-same, later-then, words-grown, words-later}
use Rattle.opgen_gpc.specs.declared.counter.Counter.{Counter}
use Rattle.opgen_gpc.specs.Counters.{Column, apart}
use Rattle.opgen_gpc.specs.Kept.{TakesSix, CountersThere, KeepsSum}
use Rattle.opgen_gpc.specs.Recipe.{Counting, with_counter, with_counters, with_column, with_columns, with_left, counted, counted_if}
use Rattle.opgen_gpc.proofs.Taking.{first_more, counter_value, counters_sum, without, apart-sum, apart-takes}
use Rattle.opgen_gpc.proofs.Tables.{HasCounter, counter-placed}

-- a heap of the width and the constant of another, with no column past the width if that has none
pub record HasMore (old new : Contents) : Type 0 where
  pub width : new.width ≡ old.width
  pub constant : new.constant ≡ old.constant
  pub few : length old.columns ≤ old.width → length new.columns ≤ new.width

more-same : (heap : Contents) → HasMore heap heap
more-same heap = record { width = refl; constant = refl; few = λ h. h }

more-then : (a b c : Contents) → HasMore a b → HasMore b c → HasMore a c
more-then a b c p q = record { width = q.width ∙ p.width; constant = q.constant ∙ p.constant; few = λ h. q.few (p.few h) }

bit-more : (heap : Contents) (b : WordBit) (weight : ℕ) → HasMore heap (with_bit heap b weight)
bit-more heap b weight = by (nat_lt weight heap.width) (ltb-true weight heap.width)
  where
    by : (c : Bool) → (c ≡ true → weight < heap.width)
        → HasMore heap (if c then record heap { columns = with_bit_at heap.columns weight b } else heap)
    by true within = record {
      width = refl;
      constant = refl;
      few = λ h. length-with_bit_at heap.columns weight b heap.width h (within refl);
    }
    by false within = more-same heap

row-more : (heap : Contents) (node count weight : ℕ) → HasMore heap (with_row heap node count weight)
row-more heap node zero weight = more-same heap
row-more heap node (suc k) weight =
    let before = with_row heap node k weight in
    more-then heap before (with_row heap node (suc k) weight) (row-more heap node k weight) (bit-more before (Of node k) (weight + k))

-- columns of bits that are added

abbrev Rises : Words → (old new : Contents) → ℕ → Type 0
Rises words old new n = heap_sum words new ≡ (heap_sum words old + n) % 2 ^ old.width

rises-none : (words : Words) (heap : Contents) (n : ℕ) → n ≡ 0 → Rises words heap heap n
rises-none words heap n e =
    let s = columns_sum words heap.columns + heap.constant in
    let m = 2 ^ heap.width in
    ap (λ k. k % m) (omega arith) ∙ sym (mod-add-mod s m 0) ∙ ap (λ k. (s % m + k) % m) (sym e)

rises-then : (words : Words) (a b c : Contents) (m n : ℕ) → b.width ≡ a.width → Rises words a b m → Rises words b c n → Rises words a c (m + n)
rises-then words a b c m n same p q =
    let s = heap_sum words a in
    let w = 2 ^ a.width in
    q
    ∙ ap (λ k. (heap_sum words b + n) % 2 ^ k) same
    ∙ ap (λ k. (k + n) % w) p
    ∙ mod-add-mod (s + m) w n
    ∙ ap (λ k. k % w) (omega arith)

column-more : (heap : Contents) (column : ℕ) (bits : Column) → HasMore heap (with_column heap column bits)
column-more heap column [] = more-same heap
column-more heap column (b ∷ bits) =
    let next = with_bit heap b column in
    more-then heap next (with_column next column bits) (bit-more heap b column) (column-more next column bits)

column-rises : (words : Words) (heap : Contents) (column : ℕ) (bits : Column)
    → Rises words heap (with_column heap column bits) (ones words bits * 2 ^ column)
column-rises words heap column [] = rises-none words heap (0 * 2 ^ column) (omega arith)
column-rises words heap column (b ∷ bits) =
    let next = with_bit heap b column in
    let d = digit (bit_under words b) in
    let all : d * 2 ^ column + ones words bits * 2 ^ column ≡ ones words (b ∷ bits) * 2 ^ column = omega arith in
    subst (Rises words heap (with_column next column bits)) all
    (rises-then words heap next (with_column next column bits) (d * 2 ^ column) (ones words bits * 2 ^ column)
    (bit-more heap b column).width (with_bit-sum words heap b column) (column-rises words next column bits))

columns-more : (heap : Contents) (column : ℕ) (columns : List Column) → HasMore heap (with_columns heap column columns)
columns-more heap column [] = more-same heap
columns-more heap column (bits ∷ columns) =
    let next = with_column heap column bits in
    more-then heap next (with_columns next (column + 1) columns) (column-more heap column bits) (columns-more next (column + 1) columns)

columns-rise : (words : Words) (heap : Contents) (column : ℕ) (columns : List Column)
    → Rises words heap (with_columns heap column columns) (columns_sum words columns * 2 ^ column)
columns-rise words heap column [] = rises-none words heap (0 * 2 ^ column) (omega arith)
columns-rise words heap column (bits ∷ columns) =
    let next = with_column heap column bits in
    let double : 2 ^ (column + 1) ≡ 2 * 2 ^ column = ap (λ k. 2 ^ k) (add-one column) ∙ two-pow-succ column ∙ omega arith in
    let above = ap (λ n. columns_sum words columns * n) double in
    let all : ones words bits * 2 ^ column + columns_sum words columns * 2 ^ (column + 1)
    ≡ columns_sum words (bits ∷ columns) * 2 ^ column = omega (arith, above) in
    subst (Rises words heap (with_columns next (column + 1) columns)) all
    (rises-then words heap next (with_columns next (column + 1) columns) (ones words bits * 2 ^ column)
    (columns_sum words columns * 2 ^ (column + 1)) (column-more heap column bits).width (column-rises words heap column bits)
    (columns-rise words next (column + 1) columns))

module _ (P : WordBit → Type 0) where
  column-all : (heap : Contents) (column : ℕ) (bits : Column) → All P bits → AllBits P heap.columns
      → AllBits P (with_column heap column bits).columns
  column-all heap column [] h g = g
  column-all heap column (b ∷ bits) h g =
      column-all (with_bit heap b column) column bits (All-tail P b bits h) (with_bit-all P heap b column (All-head P b bits h) g)

  columns-all : (heap : Contents) (column : ℕ) (columns : List Column) → All (All P) columns → AllBits P heap.columns
      → AllBits P (with_columns heap column columns).columns
  columns-all heap column [] h g = g
  columns-all heap column (bits ∷ columns) h g =
      columns-all (with_column heap column bits) (column + 1) columns (All-tail (All P) bits columns h)
      (column-all heap column bits (All-head (All P) bits columns h) g)

-- counters that stand in a net

module _ (old new : Net) (grown : HasGrown old new) where
  pub counters-still_there : (cs : List Counter) → CountersThere old cs → CountersThere new cs
  counters-still_there cs h = λ k d l.
      let c = slice_index_or cs k d in
      let takes = h k d l in
      record { bits = grown-all_there old new grown c.bits takes.bits; six = takes.six }

  module _ (inputs : Inputs) (t : ℤ) where
    first_more-kept : (twice : Bool) (bits : Column) → All (IsThere (widths old.nodes)) bits
        → first_more (λ n. flow new.nodes inputs n t) twice bits ≡ first_more (λ n. flow old.nodes inputs n t) twice bits
    first_more-kept true [] h = refl
    first_more-kept true (b ∷ bits) h = ap digit (bit-kept old new grown inputs t b (All-head (IsThere (widths old.nodes)) b bits h))
    first_more-kept false [] h = refl
    first_more-kept false (b ∷ bits) h = refl

    counters_sum-kept : (cs : List Counter) → CountersThere old cs
        → counters_sum (λ n. flow new.nodes inputs n t) cs ≡ counters_sum (λ n. flow old.nodes inputs n t) cs
    counters_sum-kept [] h = refl
    counters_sum-kept (c ∷ cs) h =
        let takes = All-head (TakesSix (IsThere (widths old.nodes))) c cs h in
        let value : counter_value (λ n. flow new.nodes inputs n t) c ≡ counter_value (λ n. flow old.nodes inputs n t) c =
        omega (arith, ones-kept old new grown inputs t c.bits takes.bits, first_more-kept c.twice c.bits takes.bits) in
        omega (
          arith,
          ap (λ v. v * 2 ^ c.column) value,
          counters_sum-kept cs (All-tail (TakesSix (IsThere (widths old.nodes))) c cs h),
        )

-- counters in a net, and their rows in the heap
pub record HasCounters (s : Counting) (cs : List Counter) (u : Counting) : Type 0 where
  pub later : Later s.net u.net
  pub there : AllThere u.net u.heap.columns
  pub more : HasMore s.heap u.heap
  pub sum : (inputs : Inputs) (t : ℤ) → All (AreWords (input_widths s.net)) inputs
      → heap_sum (λ n. flow u.net.nodes inputs n t) u.heap
      ≡ (heap_sum (λ n. flow s.net.nodes inputs n t) s.heap + counters_sum (λ n. flow s.net.nodes inputs n t) cs) % 2 ^ s.heap.width

-- a net and a heap with a counter more
abbrev pub next_counting : Counting → Counter → Counting
next_counting s c =
    let p = with_counter s.net c in
    record { net = p.net; heap = with_row s.heap p.place 3 c.column }

module _ (s : Counting) (c : Counter) (valid : IsValid s.net) (there : AllThere s.net s.heap.columns)
    (takes : TakesSix (IsThere (widths s.net.nodes)) c) where
  abbrev p : Placed
  p = with_counter s.net c

  has : HasCounter s.net c p
  has = counter-placed s.net c valid takes

  pub next-later : Later s.net p.net
  next-later = has.later

  pub next-there : AllThere p.net (next_counting s c).heap.columns
  next-there = with_row-all (IsThere (widths p.net.nodes)) s.heap p.place 3 c.column (λ i l. omega (arith, l, has.wide))
      (columns-still_there s.net p.net has.later.grown s.heap.columns there)

  next-sum : (inputs : Inputs) (t : ℤ) → All (AreWords (input_widths s.net)) inputs
      → heap_sum (λ n. flow p.net.nodes inputs n t) (next_counting s c).heap
      ≡ (heap_sum (λ n. flow s.net.nodes inputs n t) s.heap + counter_value (λ n. flow s.net.nodes inputs n t) c * 2 ^ c.column)
      % 2 ^ s.heap.width
  next-sum inputs t words =
      let now : Words = λ n. flow p.net.nodes inputs n t in
      let m = 2 ^ s.heap.width in
      with_row-sum now s.heap p.place 3 c.column
      ∙ ap (λ h. (h + nat (take 3 (now p.place)) * 2 ^ c.column) % m) (sum-kept s.net p.net has.later.grown inputs t s.heap there)
      ∙ ap (λ v. (heap_sum (λ n. flow s.net.nodes inputs n t) s.heap + v * 2 ^ c.column) % m) (has.value inputs t words)

pub with_counters-has : (cs : List Counter) (s : Counting) → IsValid s.net → AllThere s.net s.heap.columns → CountersThere s.net cs
    → HasCounters s cs (with_counters s cs)
with_counters-has [] s valid there h = record {
  later = later-same s.net valid;
  there = there;
  more = more-same s.heap;
  sum = λ inputs t words. rises-none (λ n. flow s.net.nodes inputs n t) s.heap 0 refl;
}
with_counters-has (c ∷ cs) s valid there h =
    let takes = All-head (TakesSix (IsThere (widths s.net.nodes))) c cs h in
    let others = All-tail (TakesSix (IsThere (widths s.net.nodes))) c cs h in
    let next : Counting = next_counting s c in
    let u : Counting = with_counters next cs in
    let later : Later s.net next.net = next-later s c valid there takes in
    let ih : HasCounters next cs u =
    with_counters-has cs next later.valid (next-there s c valid there takes) (counters-still_there s.net next.net later.grown cs others) in
    let more : HasMore s.heap next.heap = row-more s.heap (with_counter s.net c).place 3 c.column in
    record {
      later = later-then s.net next.net u.net later ih.later;
      there = ih.there;
      more = more-then s.heap next.heap u.heap more ih.more;
      sum = λ inputs t words.
          let now : Words = λ n. flow s.net.nodes inputs n t in
          let later_words : Words = λ n. flow next.net.nodes inputs n t in
          let m = 2 ^ s.heap.width in
          let v = counter_value now c * 2 ^ c.column in
          let total : (heap_sum now s.heap + v) + counters_sum now cs ≡ heap_sum now s.heap + counters_sum now (c ∷ cs) = omega arith in
          ih.sum inputs t (words-later s.net next.net later inputs words)
          ∙ ap (λ w. (heap_sum later_words next.heap + counters_sum later_words cs) % 2 ^ w) more.width
          ∙ ap (λ k. (heap_sum later_words next.heap + k) % m) (counters_sum-kept s.net next.net later.grown inputs t cs others)
          ∙ ap (λ k. (k + counters_sum now cs) % m) (next-sum s c valid there takes inputs t words)
          ∙ mod-add-mod (heap_sum now s.heap + v) m (counters_sum now cs)
          ∙ ap (λ k. k % m) total;
    }

-- the whole heap
pub record IsCounted (net : Net) (heap : Contents) (s : Counting) : Type 0 where
  pub later : Later net s.net
  pub there : AllThere s.net s.heap.columns
  pub width : s.heap.width ≡ heap.width
  pub constant : s.heap.constant ≡ heap.constant
  pub few : length heap.columns ≤ heap.width → length s.heap.columns ≤ s.heap.width
  pub sum : KeepsSum net heap s.net s.heap

pub left-there : (net : Net) (heap : Contents) → AllThere net heap.columns
    → AllThere net (with_left heap (apart 0 false heap.columns).left).columns
left-there net heap there =
    let P = IsThere (widths net.nodes) in
    columns-all P (record { width = heap.width; constant = heap.constant; columns = [] }) 0 (apart 0 false heap.columns).left
    (apart-takes P 0 false heap.columns there).1 (All-nil (All P))

pub counters-there : (net : Net) (heap : Contents) → AllThere net heap.columns → CountersThere net (apart 0 false heap.columns).counters
counters-there net heap there = (apart-takes (IsThere (widths net.nodes)) 0 false heap.columns there).0

without-none : (words : Words) (columns : List Column) → columns_sum words (without words false columns) ≡ columns_sum words columns
without-none words [] = refl
without-none words (bits ∷ columns) = refl

pub counted-is : (net : Net) (heap : Contents) → IsValid net → AllThere net heap.columns → IsCounted net heap (counted net heap)
counted-is net heap valid there =
    let a = apart 0 false heap.columns in
    let none : Contents = record { width = heap.width; constant = heap.constant; columns = [] } in
    let left = with_left heap a.left in
    let s : Counting = record { net = net; heap = left } in
    let more : HasMore none left = columns-more none 0 a.left in
    let has : HasCounters s a.counters (counted net heap) =
    with_counters-has a.counters s valid (left-there net heap there) (counters-there net heap there) in
    record {
      later = has.later;
      there = has.there;
      width = has.more.width ∙ more.width;
      constant = has.more.constant ∙ more.constant;
      few = λ h. has.more.few (more.few (omega arith));
      sum = λ inputs t words.
          let now : Words = λ n. flow net.nodes inputs n t in
          let m = 2 ^ heap.width in
          let v = counters_sum now a.counters in
          let start : heap_sum now none ≡ heap.constant % m = ap (λ k. k % m) (omega arith) in
          let total : (heap.constant + columns_sum now a.left * 2 ^ 0) + v ≡ columns_sum now heap.columns + heap.constant =
          omega (arith, apart-sum now 0 false heap.columns, without-none now heap.columns) in
          has.sum inputs t words
          ∙ ap (λ w. (heap_sum now left + v) % 2 ^ w) more.width
          ∙ ap (λ k. (k + v) % m) (columns-rise now none 0 a.left)
          ∙ mod-add-mod (heap_sum now none + columns_sum now a.left * 2 ^ 0) m v
          ∙ ap (λ k. k % m) (omega (arith, start))
          ∙ mod-add-mod heap.constant m (columns_sum now a.left * 2 ^ 0 + v)
          ∙ ap (λ k. k % m) (omega (arith, total));
    }

-- in either state of the counters
pub counted_if-is : (counters : Bool) (net : Net) (heap : Contents) → IsValid net → AllThere net heap.columns
    → IsCounted net heap (counted_if counters net heap)
counted_if-is true net heap valid there = counted-is net heap valid there
counted_if-is false net heap valid there = record {
  later = later-same net valid;
  there = there;
  width = refl;
  constant = refl;
  few = λ h. h;
  sum = λ inputs t words. refl;
}

-- a number that is at every time the sum of the heap after counters is that of the heap before them
pub sum-before : (before : Net) (heap : Contents) (after : Net) (counted : Contents) → HasGrown before after
    → KeepsSum before heap after counted → (number : Inputs → ℤ → ℕ)
    → ((inputs : Inputs) (t : ℤ) → All (AreWords (input_widths after)) inputs
    → number inputs t ≡ heap_sum (λ n. flow after.nodes inputs n t) counted)
    → (inputs : Inputs) (t : ℤ) → All (AreWords (input_widths before)) inputs
    → number inputs t ≡ heap_sum (λ n. flow before.nodes inputs n t) heap
sum-before before heap after counted grown kept number is inputs t words =
    is inputs t (words-grown before after grown inputs words) ∙ kept inputs t words
