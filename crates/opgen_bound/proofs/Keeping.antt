-- Each step keeps the rule.
use Rattle.std.proofs.Common.{◌≡◌, ◌≢◌, ℕ, ◌≤◌, ◌<◌, min, List, [], ◌∷◌, ◌++◌, set, refl, sym, ap, ◌∙◌, arith}
use Rattle.std.specs.Prelude.{slice_index, slice_set}
use mathlib.Core.Option.{some}
use lib.ListN.{get_elem?}
use Rattle.atomic_table.specs.Table.{State, keeps, Allows, Splits, Joins}
use Rattle.atomic_table.proofs.Lists.{set_else}
use Rattle.opgen_bound.specs.declared.view.View.{View}
use Rattle.opgen_bound.specs.Views.{spent, least_of, shares_of, Each}
use Rattle.opgen_bound.specs.Rule.{IsBound}
use Rattle.opgen_bound.specs.Steps.{looked, lowered, kept, given, joined, Learns, Looks, Publishes}
use Rattle.opgen_bound.proofs.Closing.{least_of_one}
use Rattle.opgen_bound.proofs.Lists.{least_start, least_at, least_set, least_snoc, least_lowered, set_there, shares_set, shares_snoc, each_set, each_snoc}

-- the parts of the rule that speak of one view, where the least number is n
record Fits (start n : ℕ) (v : View) : Type 0 where
  pub above : n ≤ v.seen
  pub empty : v.share ≡ 0 → v ≡ spent
  pub below : 0 < v.share → (v.seen ≤ start) × (v.seen ≤ v.published)
  pub known : 0 < v.share → v.start ≡ start

-- a lower number takes nothing from them
lowers : (start n m : ℕ) (v : View) → m ≤ n → Fits start n v → Fits start m v
lowers start n m v less f = record { above = omega (arith, less, f.above); empty = f.empty; below = f.below; known = f.known }

-- of a view with a share
has : (start n : ℕ) (v : View) → 1 ≤ v.share → n ≤ v.seen → v.seen ≤ start → v.seen ≤ v.published → v.start ≡ start → Fits start n v
has start n v some_share above low own known = record
    { above = above; empty = λ none. absurd (omega (arith, none, some_share)); below = λ _. (low, own); known = λ _. known }

module _ {S : Type 0} (start : ℕ) (s : State S View) (h : IsBound S start s) where
  each_fits : Each (Fits start (least_of start s.views)) s.views
  each_fits = λ j u at. record { above = h.above j u at; empty = h.empty j u at; below = h.below j u at; known = h.known j u at }

  found_is : slice_index s.words 0 ≡ least_of start s.views
  found_is = ap (λ ws. slice_index ws 0) h.word

  -- the rule of a state, from its word, its shares and what fits
  gathered : (words : List ℕ) (vs : List View) (m : ℕ) → words ≡ m ∷ [] → least_of start vs ≡ m → shares_of vs ≡ shares_of s.views
      → Each (Fits start m) vs → IsBound S start (record { words = words; homes = s.homes; views = vs })
  gathered words vs m word least shares fit = record {
    word = word ∙ ap (λ k. k ∷ []) (sym least);
    above = λ j u at. omega (arith, least, (fit j u at).above);
    shares = shares ∙ h.shares;
    empty = λ j u at. (fit j u at).empty;
    below = λ j u at. (fit j u at).below;
    known = λ j u at. (fit j u at).known;
    fits = h.fits;
  }

module _ {S : Type 0} (start : ℕ) (s : State S View) (h : IsBound S start s) (id : ℕ) (v : View) (at : get_elem? s.views id ≡ some v)
    (some_share : 1 ≤ v.share) where
  mine : Fits start (least_of start s.views) v
  mine = each_fits start s h id v at

  low : v.seen ≤ start
  low = (mine.below (omega (arith, some_share))).0

  own : v.seen ≤ v.published
  own = (mine.below (omega (arith, some_share))).1

  start_is : v.start ≡ start
  start_is = mine.known (omega (arith, some_share))

  learns : Learns v (slice_index s.words 0)
  learns = (
    omega (arith, found_is start s h, mine.above),
    omega (arith, start_is, low),
    own,
    λ all. omega (arith, found_is start s h, least_of_one start s.views id v h.fits h.empty at (h.shares ∙ sym all), start_is),
  )

  look_keeps : IsBound S start (record {
    words = slice_set s.words 0 (slice_index s.words 0);
    homes = s.homes;
    views = slice_set s.views id
        (looked v (slice_index s.words 0));
  })
  look_keeps =
      let n = least_of start s.views in
      let w = looked v n in
      let own_least = least_at start s.views id v at in
      let least : least_of start (set s.views id w) ≡ n = omega (arith, own_least, least_lowered start s.views id v w at (omega arith)) in
      let fit : Fits start n w = has start n w some_share (omega arith) (least_start start s.views) own_least start_is in
      rw (found_is start s h) (gathered start s h (slice_set s.words 0 n) (set s.views id w) n (ap (λ ws. slice_set ws 0 n) h.word) least
      (omega (arith, shares_set s.views id v w at)) (each_set (Fits start n) s.views w (each_fits start s h) fit id))

  publish_keeps : (cost : ℕ) → IsBound S start (record {
    words = slice_set s.words 0 (min (slice_index s.words 0) cost);
    homes = s.homes;
    views = slice_set s.views id (lowered v cost (slice_index s.words 0));
  })
  publish_keeps cost =
      let n = least_of start s.views in
      let w = lowered v cost n in
      let m = min n cost in
      let own_least = least_at start s.views id v at in
      let low_least = least_start start s.views in
      let least : least_of start (set s.views id w) ≡ m = omega (arith, own_least, least_lowered start s.views id v w at (omega arith)) in
      let fit : Fits start m w = has start m w some_share (omega arith) (omega (arith, low_least)) (omega (arith, own_least)) start_is in
      let others : Each (Fits start m) s.views = λ j u here. lowers start n m u (omega arith) (each_fits start s h j u here) in
      rw (found_is start s h) (gathered start s h (slice_set s.words 0 m) (set s.views id w) m (ap (λ ws. slice_set ws 0 m) h.word) least
      (omega (arith, shares_set s.views id v w at)) (each_set (Fits start m) s.views w others fit id))

  split_keeps : 2 ≤ v.share → IsBound S start (record {
    words = s.words;
    homes = s.homes;
    views = slice_set s.views id (kept v) ++ given v ∷
        [];
  })
  split_keeps two =
      let n = least_of start s.views in
      let old = kept v in
      let new = given v in
      let vs = set s.views id old in
      let low_least = least_start start s.views in
      let least : least_of start (vs ++ new ∷ [])
      ≡ n = omega (
        arith,
        least_snoc start vs new,
        least_at start s.views id v at,
        low_least,
        h.fits,
        least_lowered start s.views id v old at (omega arith),
      ) in
      let old_fits : Fits start n old = has start n old (omega (arith, two)) mine.above low own start_is in
      let new_fits : Fits start n new = has start n new (omega (arith, two)) mine.above low (omega (arith, low, h.fits)) start_is in
      gathered start s h s.words (vs ++ new ∷ []) n h.word least
      (omega (arith, shares_snoc vs new, shares_set s.views id v old at, two))
      (each_snoc (Fits start n) vs new (each_set (Fits start n) s.views old (each_fits start s h) old_fits id) new_fits)

  join_keeps : (other : ℕ) (w : View) → other ≢ id → get_elem? (slice_set s.views id (joined v w)) other ≡ some w → 1 ≤ w.share
      → IsBound S start (record { words = s.words; homes = s.homes; views = slice_set (slice_set s.views id (joined v w)) other spent })
  join_keeps other w apart there some_too =
      let n = least_of start s.views in
      let both = joined v w in
      let vs = set s.views id both in
      let there_before : get_elem? s.views other ≡ some w = sym (set_else s.views id other both apart) ∙ there in
      let theirs = each_fits start s h other w there_before in
      let their_own = (theirs.below (omega (arith, some_too))).1 in
      let low_least = least_start start s.views in
      let here : get_elem? (set vs other spent) id ≡ some both = set_else vs other id spent (λ e. apart (sym e))
      ∙ set_there s.views id v both at in
      let middle : least_of start vs ≡ n = omega (
        arith,
        least_at start s.views id v at,
        least_at start s.views other w there_before,
        least_lowered start s.views id v both at (omega arith),
      ) in
      let least : least_of start (set vs other spent)
      ≡ n = omega (
        arith,
        middle,
        low_least,
        h.fits,
        least_at start (set vs other spent) id both here,
        least_set start vs other w spent there,
      ) in
      let both_fits : Fits start n both = has start n both (omega (arith, some_share)) (omega (arith, mine.above, theirs.above))
      (omega (arith, low)) (omega (arith, own, their_own)) start_is in
      let spent_fits : Fits start n spent = record {
        above = omega (arith, low_least, h.fits);
        empty = λ _. refl;
        below = λ none. absurd (omega (arith, none));
        known = λ none. absurd (omega (arith, none));
      } in
      gathered start s h s.words (set vs other spent) n h.word least
      (omega (arith, shares_set s.views id v both at, shares_set vs other w spent there))
      (each_set (Fits start n) vs spent (each_set (Fits start n) s.views both (each_fits start s h) both_fits id) spent_fits other)

-- what the steps of a table ask
pub looks : (S : Type 0) (start slots id : ℕ) (v : View) (c : List (ℕ × S)) → 1 ≤ v.share
    → Allows (IsBound S start) slots id (v, c) 0 (λ n. n) (λ n next. Looks (v, c) n next)
looks S start slots id v c share = λ s h homes at small.
    (looked v (slice_index s.words 0), keeps, tt, look_keeps start s h id v at share, (refl, refl, learns start s h id v at share))

pub publishes : (S : Type 0) (start slots id : ℕ) (v : View) (c : List (ℕ × S)) (cost : ℕ) → 1 ≤ v.share
    → Allows (IsBound S start) slots id (v, c) 0 (λ n. min n cost) (λ n next. Publishes cost (v, c) n next)
publishes S start slots id v c cost share = λ s h homes at small. (
  lowered v cost (slice_index s.words 0),
  keeps,
  tt,
  publish_keeps start s h id v at share cost,
  (refl, refl, learns start s h id v at share),
)

pub splits : (S : Type 0) (start id : ℕ) (v : View) → 2 ≤ v.share → Splits (IsBound S start) id v (kept v) (given v)
splits S start id v two = λ s h at. split_keeps start s h id v at (omega (arith, two)) two

pub joins : (S : Type 0) (start id : ℕ) (v : View) (other : ℕ) (w : View) → 1 ≤ v.share → 1 ≤ w.share
    → Joins (IsBound S start) id v other w (joined v w) spent
joins S start id v other w share share_too = λ s h at apart there. join_keeps start s h id v at share other w apart there share_too
