-- Passes over all columns keep their sum, but for what weighs twice the highest column or more, and bring them down to two bits.
use Rattle.std.proofs.Common.{◌≡◌, ℕ, zero, suc, ◌+◌, ◌-◌, ◌*◌, ◌^◌, ◌<◌, ◌≤◌, Bool, true, false, List, [], ◌∷◌, ◌++◌, length, refl, sym, ap, ◌∙◌, subst, arith}
use Rattle.std.specs.Prelude.{ℤ, All, filter, nat_lt, if◌then◌else◌}
use Rattle.std.proofs.Math.Nat.{two-pow-succ}
use Rattle.std.proofs.lemmas.Bool.{ltb-true, ltb-false, lt-ltb}
use Rattle.std.proofs.lemmas.List.Elements.{All-append, All-cons, All-nil}
use Rattle.opgen_heap.specs.Sum.{ones, columns_sum}
use Rattle.opgen_heap.proofs.Sums.{ones-append}
use Rattle.opgen_net.specs.declared.net.Net.{Net}
use Rattle.opgen_net.specs.Flow.{Inputs}
use Rattle.opgen_design.specs.Run.{AreWords}
use Rattle.opgen_net.specs.Valid.{widths, input_widths, IsValid}
use Rattle.opgen_net.specs.WordRule.{IsThere}
use Rattle.opgen_compress.specs.Adder.{Work}
use Rattle.opgen_compress.specs.Recipe.{Column, State, reduced, under, is_none, pass, passes, height, falling, heights_below, fullest, lowered}
use Rattle.opgen_heap.specs.Standing.{AllThere}
use Rattle.opgen_compress.specs.Kept.{WorkThere, words_at}
use Rattle.opgen_net.proofs.Later.{Later, later-same, later-then, words-later}
use Rattle.opgen_heap.proofs.Kept.{ones-kept, columns_sum-kept}
use Rattle.opgen_net.proofs.Grown.{grown-all_there}
use Rattle.opgen_heap.proofs.Standing.{columns-still_there}
use Rattle.opgen_compress.proofs.Firsts.{first_column, rest_columns}
use Rattle.opgen_compress.proofs.Reduced.{Reduced, all-reduced, reduced-length}
use Rattle.opgen_compress.proofs.Heights.{less, height-above}

pub record Passed (net : Net) (carries : Column) (columns : List Column) (s : State) : Type 0 where
  pub later : Later net s.net
  pub there : AllThere s.net s.columns
  pub many : length s.columns ≡ length columns
  pub sum : (inputs : Inputs) (t : ℤ) → All (AreWords (input_widths net)) inputs
      → (d : ℕ) × (columns_sum (words_at s.net.nodes inputs t) s.columns + 2 ^ length columns * d
      ≡ columns_sum (words_at net.nodes inputs t) columns + ones (words_at net.nodes inputs t) carries)

-- what the highest column carries weighs a power of two
dropped : (columns : List Column) (d : ℕ) → (is_none columns ≡ false → d ≡ 0) → (x : ℕ) × (2 ^ suc (length columns) * x ≡ 2 * d)
dropped [] d h = (d, refl)
dropped (c ∷ cs) d h = (0, omega (arith, h refl))

pub with_carries : (net : Net) (column carries : Column) (columns : List Column) → AllThere net (column ∷ columns)
    → All (IsThere (widths net.nodes)) carries
    → All (IsThere (widths net.nodes)) (column ++ carries)
with_carries net column carries columns h g =
    let P = All (IsThere (widths net.nodes)) in
    All-append (IsThere (widths net.nodes)) column carries (first_column P column columns h) g

abbrev pub start : Net → Column → Work
start net column = record { net = net; column = column; carries = [] }

pub start-there : (net : Net) (column : Column) → All (IsThere (widths net.nodes)) column → WorkThere (start net column)
start-there net column h = record { column = h; carries = All-nil (IsThere (widths net.nodes)) }

pub passed : (h : ℕ) (net : Net) (carries : Column) (columns : List Column) → IsValid net → All (IsThere (widths net.nodes)) carries
    → AllThere net columns
    → Passed net carries columns (pass h net carries columns)
passed h net carries [] v g a = record {
  later = later-same net v;
  there = a;
  many = refl;
  sum = λ inputs t words. (ones (words_at net.nodes inputs t) carries, omega arith);
}
passed h net carries (column ∷ columns) v g a =
    let P = All (IsThere (widths net.nodes)) in
    let begin : Work = start net (column ++ carries) in
    let w : Work = reduced (length (column ++ carries) - h) (is_none columns) begin in
    let r : Reduced (is_none columns) begin w =
    all-reduced (length (column ++ carries) - h) (is_none columns) begin v
    (start-there net (column ++ carries) (with_carries net column carries columns a g)) in
    let s : State = pass h w.net w.carries columns in
    let others : AllThere net columns = rest_columns P column columns a in
    let ih : Passed w.net w.carries columns s = passed h w.net w.carries columns r.later.valid r.there.carries
    (columns-still_there net w.net r.later.grown columns others) in
    record {
      later = later-then net w.net s.net r.later ih.later;
      there = All-cons (All (IsThere (widths s.net.nodes))) w.column s.columns
          (grown-all_there w.net s.net ih.later.grown w.column r.there.column) ih.there;
      many = ap suc ih.many;
      sum = λ inputs t words.
          let words_w = words-later net w.net r.later inputs words in
          let x = r.sum inputs t words in
          let y = ih.sum inputs t words_w in
          let z = dropped columns x.0 x.2 in
          let double : 2 ^ suc (length columns) * y.0
          ≡ 2 ^ length columns * y.0 + 2 ^ length columns * y.0 = ap (λ n. n * y.0) (two-pow-succ (length columns)) ∙ omega arith in (
            y.0 + z.0,
            omega (
              arith,
              x.1,
              y.1,
              z.1,
              double,
              ones-append (words_at net.nodes inputs t) column carries,
              ones-kept w.net s.net ih.later.grown inputs t w.column r.there.column,
              columns_sum-kept net w.net r.later.grown inputs t columns others,
            ),
          );
    }

passed-then : (net : Net) (columns : List Column) (s u : State) → Passed net [] columns s → Passed s.net [] s.columns u
    → Passed net [] columns u
passed-then net columns s u a b = record {
  later = later-then net s.net u.net a.later b.later;
  there = b.there;
  many = b.many ∙ a.many;
  sum = λ inputs t words.
      let x = a.sum inputs t words in
      let y = b.sum inputs t (words-later net s.net a.later inputs words) in
      let same : 2 ^ length s.columns * y.0 ≡ 2 ^ length columns * y.0 = ap (λ n. 2 ^ n * y.0) a.many in
      (x.0 + y.0, omega (arith, x.1, y.1, same));
}

pub all-passed : (hs : List ℕ) (net : Net) (columns : List Column) → IsValid net → AllThere net columns
    → Passed net [] columns (passes hs net columns)
all-passed [] net columns v a = record {
  later = later-same net v;
  there = a;
  many = refl;
  sum = λ inputs t words. (0, omega arith);
}
all-passed (h ∷ hs) net columns v a =
    let s : State = pass h net [] columns in
    let first : Passed net [] columns s = passed h net [] columns v (All-nil (IsThere (widths net.nodes))) a in
    passed-then net columns s (passes hs s.net s.columns) first (all-passed hs s.net s.columns first.later.valid first.there)

pub no_columns : (columns : List Column) → length columns ≡ 0 → columns ≡ []
no_columns [] h = refl
no_columns (c ∷ cs) h = absurd (omega (arith, h))

-- a column more of a pass, whose adders make w of it
pub one_column : (h : ℕ) (net : Net) (carries column : Column) (columns : List Column) (top : Bool) (queue : Column) (w : Work)
    → top ≡ is_none columns → queue ≡ column ++ carries → reduced (length queue - h) top (start net queue) ≡ w
    → pass h net carries (column ∷ columns) ≡ under w.column (pass h w.net w.carries columns)
one_column h net carries column columns top queue w is_top is_queue e =
    let all : reduced (length (column ++ carries) - h) (is_none columns) (start net (column ++ carries)) ≡ w =
    ap (λ q. reduced (length q - h) (is_none columns) (start net q)) (sym is_queue)
    ∙ ap (λ b. reduced (length queue - h) b (start net queue)) (sym is_top) ∙ e in
    ap (λ (v : Work). under v.column (pass h v.net v.carries columns)) all

-- the columns after it stand in the net that its adders leave
pub others-there : (h : ℕ) (net : Net) (queue : Column) (columns : List Column) (top : Bool) (w : Work) → IsValid net
    → All (IsThere (widths net.nodes)) queue
    → AllThere net columns → reduced (length queue - h) top (start net queue) ≡ w → AllThere w.net columns
others-there h net queue columns top w v a b e =
    let r : Reduced top (start net queue) (reduced (length queue - h) top (start net queue)) = all-reduced (length queue - h) top
    (start net queue) v (start-there net queue a) in
    subst (λ (u : Work). AllThere u.net columns) e
    (columns-still_there net (reduced (length queue - h) top (start net queue)).net r.later.grown columns b)

-- how high the columns are

pass-fullest : (h : ℕ) (net : Net) (carries : Column) (columns : List Column) → 2 ≤ h → fullest (pass h net carries columns).columns ≤ h
pass-fullest h net carries [] l = omega (arith, l)
pass-fullest h net carries (column ∷ columns) l =
    let w : Work = reduced (length (column ++ carries) - h) (is_none columns) (start net (column ++ carries)) in
    omega (
      arith,
      reduced-length (length (column ++ carries) - h) h (is_none columns) (start net (column ++ carries)) l refl,
      pass-fullest h w.net w.carries columns l,
    )

-- no height is less than two
none-less : (bits k : ℕ) → bits ≤ 2 → filter (less bits) (falling k) ≡ []
none-less bits zero h = refl
none-less bits (suc k) h = by (nat_lt (height k) bits) (ltb-true (height k) bits) (none-less bits k h)
  where
    by : (b : Bool) → (b ≡ true → height k < bits) → filter (less bits) (falling k) ≡ []
        → (if b then height k ∷ filter (less bits) (falling k) else filter (less bits) (falling k)) ≡ []
    by true g e = absurd (omega (arith, h, g refl, height-above k))
    by false g e = e

-- the last height is two
down : (bits k : ℕ) (net : Net) (columns : List Column) → 2 < bits
    → fullest (passes (filter (less bits) (falling (suc k))) net columns).columns ≤ 2
down bits zero net columns h =
    let e : filter (less bits) (falling (suc zero)) ≡ 2 ∷ [] = ap (λ b. if b then 2 ∷ [] else []) (lt-ltb 2 bits h) in
    subst (λ hs. fullest (passes hs net columns).columns ≤ 2) (sym e) (pass-fullest 2 net [] columns (omega arith))
down bits (suc k) net columns h = by (nat_lt (height (suc k)) bits) (λ n cs. down bits k n cs h)
  where
    rest : List ℕ
    rest = filter (less bits) (falling (suc k))

    by : (b : Bool) → ((n : Net) (cs : List Column) → fullest (passes rest n cs).columns ≤ 2)
        → fullest (passes (if b then height (suc k) ∷ rest else rest) net columns).columns ≤ 2
    by true f = let s : State = pass (height (suc k)) net [] columns in f s.net s.columns
    by false f = f net columns

pub lowered-fullest : (net : Net) (columns : List Column) → fullest (lowered net columns).columns ≤ 2
lowered-fullest net columns = by (fullest columns) (nat_lt 2 (fullest columns)) (ltb-true 2 (fullest columns))
    (ltb-false 2 (fullest columns)) refl
  where
    by : (bits : ℕ) (b : Bool) → (b ≡ true → 2 < bits) → (b ≡ false → bits ≤ 2) → fullest columns ≡ bits
        → fullest (passes (heights_below bits) net columns).columns ≤ 2
    by bits false f g e = subst (λ hs. fullest (passes hs net columns).columns ≤ 2) (sym (none-less bits bits (g refl)))
        (omega (arith, g refl, e))
    by zero true f g e = absurd (omega (arith, f refl))
    by (suc bits) true f g e = down (suc bits) bits net columns (f refl)
