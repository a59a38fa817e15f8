-- The numbers of further members count the odd numbers that are no targets.
use Rattle.std.proofs.Common.{◌≡◌, ◌≢◌, ⊎_elim, ℕ, zero, suc, ◌+◌, ◌*◌, ◌-◌, ◌/◌, ◌%◌, ◌≤◌, ◌<◌, Bool, true, false, cond, nat_eq, nat_lt, if◌then◌else◌, List, [], ◌∷◌, count_by, All, Contains, refl, ap, ◌∙◌, zero-add, arith}
use Rattle.std.specs.List.{list_any}
use Rattle.std.proofs.lemmas.Bool.{cases_eq, cases_lt}
use Rattle.std.proofs.lemmas.Bool.Decides.{nat_tests}
use Rattle.std.proofs.lemmas.List.Folds.{list_any_none}
use Rattle.std.proofs.lemmas.List.Sums.{sum_by-cons}
use Rattle.std.proofs.lemmas.List.Elements.{All-head, All-tail, All-weaker}
use Rattle.opgen_graph.specs.SignedDigits.{IsTarget}
use Rattle.opgen_graph.proofs.Members.{all_of}
use Rattle.opgen_graph.proofs.SignedSets.{Climbs, climbs}
use Rattle.opgen_search.specs.Space.{AreTargets}
use Rattle.opgen_search.specs.Parts.{free, NumbersCount}

abbrev one_below : (m t : ℕ) → ℕ
one_below m t = cond (nat_lt t m) 1 0

is_below : (m t : ℕ) → t < m → one_below m t ≡ 1
is_below m t lt = let e : nat_lt t m ≡ true = grind (arith, nat_tests) in rw e refl

is_above : (m t : ℕ) → m ≤ t → one_below m t ≡ 0
is_above m t le = let e : nat_lt t m ≡ false = grind (arith, nat_tests) in rw e refl

hit : (x : ℕ) → List ℕ → ℕ
hit x ts = if list_any (λ t. nat_eq t x) ts then 1 else 0

no_hit : (x : ℕ) (ts : List ℕ) → ((t : ℕ) → Contains ts t → x < t) → list_any (λ t. nat_eq t x) ts ≡ false
no_hit x ts above =
    list_any_none (λ t. nat_eq t x) ts (all_of (λ t. nat_eq t x ≡ false) ts (λ t c. let lt = above t c in grind (arith, nat_tests)))

count_below : (m t : ℕ) (ts : List ℕ) → count_by (λ t. nat_lt t m) (t ∷ ts) ≡ one_below m t + count_by (λ t. nat_lt t m) ts
count_below m t ts = sum_by-cons (one_below m) t ts

-- one odd number more: it is a target or it is none
below_more : (k : ℕ) (ts : List ℕ) → Climbs ts → All (λ t. t % 2 ≡ 1) ts
    → count_by (λ t. nat_lt t (2 * k + 5)) ts ≡ count_by (λ t. nat_lt t (2 * k + 3)) ts + hit (2 * k + 3) ts
unfolding hit
below_more k [] h odd = refl
below_more k (t ∷ ts) h odd =
    let one = All-head (λ x. x % 2 ≡ 1) t ts odd in
    let rest = below_more k ts h.1 (All-tail (λ x. x % 2 ≡ 1) t ts odd) in
    ⊎_elim
    (λ (e : t ≡ 2 * k + 3).
    let none = no_hit (2 * k + 3) ts (λ x c. let lt = h.0 x c in omega (arith, lt, e)) in
    let first : nat_eq t (2 * k + 3) ≡ true = grind (arith, nat_tests) in
    let any : list_any (λ x. nat_eq x (2 * k + 3)) (t ∷ ts) ≡ true = rw first refl in
    let now : hit (2 * k + 3) (t ∷ ts) ≡ 1 = ap (λ b. if b then 1 else 0) any in
    let later : hit (2 * k + 3) ts ≡ 0 = ap (λ b. if b then 1 else 0) none in
    omega (
      arith,
      rest,
      now,
      later,
      count_below (2 * k + 5) t ts,
      count_below (2 * k + 3) t ts,
      is_below (2 * k + 5) t (omega (arith, e)),
      is_above (2 * k + 3) t (omega (arith, e)),
    ))
    (λ (ne : t ≢ 2 * k + 3).
    let first : nat_eq t (2 * k + 3) ≡ false = grind (arith, nat_tests) in
    let any : list_any (λ x. nat_eq x (2 * k + 3)) (t ∷ ts) ≡ list_any (λ x. nat_eq x (2 * k + 3)) ts = rw first refl in
    let same : hit (2 * k + 3) (t ∷ ts) ≡ hit (2 * k + 3) ts = ap (λ b. if b then 1 else 0) any in
    ⊎_elim (λ (lt : t < 2 * k + 3). omega (
      arith,
      rest,
      same,
      count_below (2 * k + 5) t ts,
      count_below (2 * k + 3) t ts,
      is_below (2 * k + 5) t (omega (arith, lt)),
      is_below (2 * k + 3) t lt,
    ))
    (λ (ge : 2 * k + 3 ≤ t).
    let high : 2 * k + 5 ≤ t = omega (arith, ge, one, ne) in
    omega (
      arith,
      rest,
      same,
      count_below (2 * k + 5) t ts,
      count_below (2 * k + 3) t ts,
      is_above (2 * k + 5) t high,
      is_above (2 * k + 3) t ge,
    ))
    (cases_lt t (2 * k + 3)))
    (cases_eq t (2 * k + 3))

none_below : (ts : List ℕ) → All IsTarget ts → count_by (λ t. nat_lt t 3) ts ≡ 0
none_below [] all = refl
none_below (t ∷ ts) all = let one = All-head IsTarget t ts all in let rest = none_below ts (All-tail IsTarget t ts all) in
    omega (arith, rest, count_below 3 t ts, is_above 3 t (omega (arith, one.0, one.1)))

either : (b : Bool) → (if b then 0 else 1) + (if b then 1 else 0) ≡ 1
either true = refl
either false = refl

free_count : (targets : List ℕ) (k : ℕ) → AreTargets targets → free targets k + count_by (λ t. nat_lt t (2 * k + 3)) targets ≡ k
unfolding hit
free_count targets zero h = zero-add (count_by (λ t. nat_lt t 3) targets) ∙ none_below targets h.each
free_count targets (suc k) h =
    let more = below_more k targets (climbs targets h.increasing) (All-weaker IsTarget (λ t. t % 2 ≡ 1) (λ t i. i.0) targets h.each) in
    let next : count_by (λ t. nat_lt t (2 * suc k + 3)) targets ≡ count_by (λ t. nat_lt t (2 * k + 5)) targets =
    ap (λ m. count_by (λ t. nat_lt t m) targets) (omega arith) in
    omega (arith, free_count targets k h, next, more, either (list_any (λ t. nat_eq t (2 * k + 3)) targets))

pub numbers_count : NumbersCount
numbers_count targets k h =
    let all = free_count targets k h in
    let half : (2 * k + 3 - 3) / 2 ≡ k = omega arith in
    omega (arith, all, half)
