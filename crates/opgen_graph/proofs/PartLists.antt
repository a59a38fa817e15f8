-- The lists of the odd parts of numbers, and how long they are.
use Rattle.std.proofs.Common.{◌≡◌, ◌≢◌, ◌⊎◌, ◌↔◌, inl, inr, ⊎_elim, ℕ, zero, suc, ◌+◌, ◌*◌, ◌%◌, ◌^◌, ◌<◌, ◌≤◌, Bool, true, false, ◌&&◌, ◌||◌, not, List, [], ◌∷◌, ◌++◌, length, All, Contains, refl, sym, ap, ◌∙◌, subst, arith}
use Rattle.std.specs.Prelude.{ℤ, pos, unsigned_abs, ◌==◌, nat_eq, nat_lt, if◌then◌else◌}
use Rattle.std.specs.List.{dedup}
use Rattle.std.specs.List.Sorted.{IsPermutation, IsSorted}
use Rattle.std.specs.Ordering.{nat_cmp}
use lib.Dec.{eqb}
use Rattle.std.specs.List.{list_any}
use Rattle.std.proofs.Math.Nat.{two-pow-succ}
use Rattle.std.proofs.lemmas.Bool.{cases_lt, eqb-true, eqb-false, and_parts}
use Rattle.std.proofs.lemmas.Bool.Decides.{nat_tests}
use Rattle.std.proofs.lemmas.Map.Keys.{IsStrictlyIncreasing-dedup}
use Rattle.std.proofs.lemmas.List.Kept.{Contains-from_dedup, Contains-dedup_nat}
use Rattle.std.proofs.lemmas.List.Sorted.{IsPermutation-sym, Contains-permutation}
use Rattle.std.proofs.lemmas.List.Elements.{All-contains, Contains-append_left, Contains-append_right, Contains-append_cases}
use Rattle.opgen_ports.specs.OddParts.{power_of, odd_part, has_part, has_part_alone, odd_part_count}
use Rattle.opgen_ports.specs.Ranges.{IsWithin}
use Rattle.opgen_graph.specs.Parts.{HasPart, IsPartOf, inserted, parts_of}
use Rattle.opgen_graph.specs.Targets.{AreTargetsOf}
use Rattle.opgen_graph.proofs.Members.{here, there, of_cons, of_nil, of_one}
use Rattle.opgen_graph.proofs.SignedSets.{Climbs, climbs, same_climbs}
use Rattle.opgen_graph.proofs.TargetLists.{parts_product, part_odd, part_most, some_number, one_constant}

-- ---- a number that is not 0 and has the odd part

not_zero : (t : ℤ) → unsigned_abs t ≢ 0 → t ≢ pos 0
not_zero t h e = h (ap unsigned_abs e)

or_cases : (a b : Bool) → (a || b) ≡ true → (P : Type 0) → (a ≡ true → P) → (b ≡ true → P) → P
or_cases true b h P f g = f refl
or_cases false b h P f g = g h

pub has_part-is : (x : ℕ) (t : ℤ) → has_part x t ≡ true → HasPart x t
has_part-is x t h =
    let (some, same) = and_parts (not (unsigned_abs t == 0)) (odd_part (unsigned_abs t) == x) h in
    let differs : unsigned_abs t ≢ 0 = λ e. (let no : ⊥ = grind (arith, nat_tests, e, some) in no) in
    record { some = not_zero t differs; part = grind (arith, nat_tests, same) }

pub is-has_part : (x : ℕ) (t : ℤ) → HasPart x t → has_part x t ≡ true
is-has_part x t h =
    let some : 0 < unsigned_abs t = some_number t h.some in
    let differs : (unsigned_abs t == 0) ≡ false = grind (arith, nat_tests, some) in
    let same : (odd_part (unsigned_abs t) == x) ≡ true = grind (arith, nat_tests, h.part) in
    ap (λ b. not b && (odd_part (unsigned_abs t) == x)) differs ∙ same

pub any-is : (x : ℕ) (ts : List ℤ) → list_any (has_part x) ts ≡ true → IsPartOf ts x
any-is x [] h = absurd (cc)
any-is x (t ∷ ts) h =
    or_cases (has_part x t) (list_any (has_part x) ts) h (IsPartOf (t ∷ ts) x)
    (λ e. (t, (0, omega arith, refl), has_part-is x t e))
    (λ e. let (u, c, is) = any-is x ts e in (u, (suc c.0, omega (arith, c.1), c.2), is))

pub is-any : (x : ℕ) (ts : List ℤ) → IsPartOf ts x → list_any (has_part x) ts ≡ true
is-any x [] (u, c, is) = absurd (omega (arith, c.1))
is-any x (t ∷ ts) (u, (zero, lt, e), is) =
    let first : has_part x t ≡ true = is-has_part x t (subst (HasPart x) (sym e) is) in
    ap (λ b. b || list_any (has_part x) ts) first
is-any x (t ∷ ts) (u, (suc k, lt, e), is) =
    let rest : list_any (has_part x) ts ≡ true = is-any x ts (u, (k, omega (arith, lt), e), is) in
    ap (λ b. has_part x t || b) rest ∙ or_true (has_part x t)
  where
    or_true : (a : Bool) → (a || true) ≡ true
    or_true true = refl
    or_true false = refl

-- ---- an increasing list with one number more

pub inserted-from : (x : ℕ) (xs : List ℕ) (z : ℕ) → Contains (inserted x xs) z → (x ≡ z) ⊎ Contains xs z
inserted-from x [] z c = inl (of_one x z c)
inserted-from x (y ∷ ys) z c = go (nat_lt x y) (nat_eq x y) (inserted-from x ys z) c
  where
    go : (l e : Bool) → (Contains (inserted x ys) z → (x ≡ z) ⊎ Contains ys z)
        → Contains (if l then x ∷ y ∷ ys else (if e then y ∷ ys else y ∷ inserted x ys)) z → (x ≡ z) ⊎ Contains (y ∷ ys) z
    go true e rest c = of_cons x z (y ∷ ys) c
    go false true rest c = inr c
    go false false rest c =
        ⊎_elim
        (λ (s : y ≡ z). inr (subst (Contains (y ∷ ys)) s (here y ys)))
        (λ (k : Contains (inserted x ys) z). ⊎_elim (λ (s : x ≡ z). inl s) (λ (m : Contains ys z). inr (there y z ys m)) (rest k))
        (of_cons y z (inserted x ys) c)

inserted-keeps : (x : ℕ) (xs : List ℕ) (z : ℕ) → Contains xs z → Contains (inserted x xs) z
inserted-keeps x [] z c = absurd (of_nil z c)
inserted-keeps x (y ∷ ys) z c = go (nat_lt x y) (nat_eq x y) (inserted-keeps x ys z)
  where
    go : (l e : Bool) → (Contains ys z → Contains (inserted x ys) z)
        → Contains (if l then x ∷ y ∷ ys else (if e then y ∷ ys else y ∷ inserted x ys)) z
    go true e rest = there x z (y ∷ ys) c
    go false true rest = c
    go false false rest =
        ⊎_elim
        (λ (s : y ≡ z). subst (Contains (y ∷ inserted x ys)) s (here y (inserted x ys)))
        (λ (k : Contains ys z). there y z (inserted x ys) (rest k))
        (of_cons y z ys c)

inserted-new : (x : ℕ) (xs : List ℕ) → Contains (inserted x xs) x
inserted-new x [] = here x []
inserted-new x (y ∷ ys) = go (nat_lt x y) (nat_eq x y) (λ e. eqb-true x y e) (inserted-new x ys)
  where
    go : (l e : Bool) → (e ≡ true → x ≡ y) → Contains (inserted x ys) x
        → Contains (if l then x ∷ y ∷ ys else (if e then y ∷ ys else y ∷ inserted x ys)) x
    go true e same rest = here x (y ∷ ys)
    go false true same rest = subst (Contains (y ∷ ys)) (sym (same refl)) (here y ys)
    go false false same rest = there y x (inserted x ys) rest

inserted-climbs : (x : ℕ) (xs : List ℕ) → Climbs xs → Climbs (inserted x xs)
inserted-climbs x [] h = (λ y c. absurd (of_nil y c), tt)
inserted-climbs x (y ∷ ys) h = go (nat_lt x y) refl (nat_eq x y) (λ e. eqb-false x y e) (inserted-climbs x ys h.1)
  where
    go : (l : Bool) → nat_lt x y ≡ l → (e : Bool) → (e ≡ false → x ≢ y) → Climbs (inserted x ys)
        → Climbs (if l then x ∷ y ∷ ys else (if e then y ∷ ys else y ∷ inserted x ys))
    go true less e other rest =
        let low : x < y = grind (arith, nat_tests, less) in (
          λ z c. ⊎_elim (λ (s : y ≡ z). omega (arith, low, s)) (λ (k : Contains ys z). omega (arith, low, h.0 z k)) (of_cons y z ys c),
          h,
        )
    go false less true other rest = h
    go false less false other rest =
        let high : y ≤ x = grind (arith, nat_tests, less) in
        let apart : x ≢ y = other refl in
        let above : y < x = ⊎_elim (λ (lt : y < x). lt) (λ (ge : x ≤ y). absurd (apart (omega (arith, high, ge)))) (cases_lt y x) in (
          λ z c. ⊎_elim (λ (s : x ≡ z). omega (arith, above, s)) (λ (k : Contains ys z). h.0 z k) (inserted-from x ys z c),
          rest,
        )

-- ---- the list of odd parts

later : (t : ℤ) (ts : List ℤ) (x : ℕ) → IsPartOf ts x → IsPartOf (t ∷ ts) x
later t ts x (u, c, is) = (u, (suc c.0, omega (arith, c.1), c.2), is)

pub listed-part : (ts : List ℤ) (x : ℕ) → Contains (parts_of ts) x → IsPartOf ts x
unfolding parts_of
listed-part [] x c = absurd (of_nil x c)
listed-part (t ∷ ts) x c = go (unsigned_abs t == 0) refl (listed-part ts x) c
  where
    go : (b : Bool) → (unsigned_abs t == 0) ≡ b → (Contains (parts_of ts) x → IsPartOf ts x)
        → Contains (if b then parts_of ts else inserted (odd_part (unsigned_abs t)) (parts_of ts)) x → IsPartOf (t ∷ ts) x
    go true e rest c = later t ts x (rest c)
    go false e rest c =
        let some : unsigned_abs t ≢ 0 = λ z. (let no : ⊥ = grind (arith, nat_tests, e, z) in no) in
        ⊎_elim
        (λ (s : odd_part (unsigned_abs t) ≡ x). (t, (0, omega arith, refl), record { some = not_zero t some; part = s }))
        (λ (k : Contains (parts_of ts) x). later t ts x (rest k))
        (inserted-from (odd_part (unsigned_abs t)) (parts_of ts) x c)

pub part-listed : (ts : List ℤ) (x : ℕ) → IsPartOf ts x → Contains (parts_of ts) x
unfolding parts_of
part-listed [] x (u, c, is) = absurd (omega (arith, c.1))
part-listed (t ∷ ts) x (u, (zero, lt, same), is) = go (unsigned_abs t == 0) refl
  where
    go : (b : Bool) → (unsigned_abs t == 0) ≡ b
        → Contains (if b then parts_of ts else inserted (odd_part (unsigned_abs t)) (parts_of ts)) x
    go true e =
        let some : 0 < unsigned_abs t = some_number t (subst (λ (v : ℤ). v ≢ pos 0) (sym same) is.some) in
        let no : ⊥ = grind (arith, nat_tests, e, some) in absurd no
    go false e =
        let part : odd_part (unsigned_abs t) ≡ x = ap (λ (v : ℤ). odd_part (unsigned_abs v)) same ∙ is.part in
        subst (Contains (inserted (odd_part (unsigned_abs t)) (parts_of ts))) part (inserted-new (odd_part (unsigned_abs t)) (parts_of ts))
part-listed (t ∷ ts) x (u, (suc k, lt, same), is) =
    go (unsigned_abs t == 0) (part-listed ts x (u, (k, omega (arith, lt), same), is))
  where
    go : (b : Bool) → Contains (parts_of ts) x → Contains (if b then parts_of ts else inserted (odd_part (unsigned_abs t)) (parts_of ts)) x
    go true rest = rest
    go false rest = inserted-keeps (odd_part (unsigned_abs t)) (parts_of ts) x rest

pub parts-climb : (ts : List ℤ) → Climbs (parts_of ts)
unfolding parts_of
parts-climb [] = tt
parts-climb (t ∷ ts) = go (unsigned_abs t == 0) (parts-climb ts)
  where
    go : (b : Bool) → Climbs (parts_of ts) → Climbs (if b then parts_of ts else inserted (odd_part (unsigned_abs t)) (parts_of ts))
    go true rest = rest
    go false rest = inserted-climbs (odd_part (unsigned_abs t)) (parts_of ts) rest

-- ---- a list of parts, with one number more

abbrev pub ArePartsOf : List ℕ → List ℤ → Type 0
ArePartsOf found ts = (x : ℕ) → Contains found x ↔ IsPartOf ts x

pub parts_more : (found : List ℕ) (ts : List ℤ) (t : ℤ) (x : ℕ) → ArePartsOf found ts → HasPart x t
    → ArePartsOf (found ++ x ∷ []) (ts ++ t ∷ [])
parts_more found ts t x before h y = (
  λ c. ⊎_elim
      (λ (k : Contains found y). let (u, in_ts, is) = (before y).0 k in (u, Contains-append_left ts (t ∷ []) u in_ts, is))
      (λ (k : Contains (x ∷ []) y).
      (t, Contains-append_right ts (t ∷ []) t (0, omega arith, refl), subst (λ z. HasPart z t) (of_one x y k) h))
      (Contains-append_cases found (x ∷ []) y c),
  λ o. known o,
)
  where
    known : IsPartOf (ts ++ t ∷ []) y → Contains (found ++ x ∷ []) y
    known (u, c, is) =
        ⊎_elim (λ (k : Contains ts u). Contains-append_left found (x ∷ []) y ((before y).1 (u, k, is)))
        (λ (k : Contains (t ∷ []) u).
        let same : x ≡ y = sym h.part ∙ ap (λ z. odd_part (unsigned_abs z)) (one_constant t u k) ∙ is.part in
        Contains-append_right found (x ∷ []) y (subst (Contains (x ∷ [])) same (here x [])))
        (Contains-append_cases ts (t ∷ []) u c)

pub parts_same : (found : List ℕ) (ts : List ℤ) (t : ℤ) → ArePartsOf found ts → t ≡ pos 0 → ArePartsOf found (ts ++ t ∷ [])
parts_same found ts t before none y = (
  λ c. let (u, in_ts, is) = (before y).0 c in (u, Contains-append_left ts (t ∷ []) u in_ts, is),
  λ o. known o,
)
  where
    known : IsPartOf (ts ++ t ∷ []) y → Contains found y
    known (u, c, is) =
        ⊎_elim (λ (k : Contains ts u). (before y).1 (u, k, is))
        (λ (k : Contains (t ∷ []) u). absurd (is.some (sym (one_constant t u k) ∙ none)))
        (Contains-append_cases ts (t ∷ []) u c)

-- sorted, each once
pub are_parts : (ts : List ℤ) (found sorted : List ℕ) → ArePartsOf found ts → IsPermutation found sorted → IsSorted nat_cmp sorted
    → dedup eqb sorted ≡ parts_of ts
are_parts ts found sorted are perm up =
    same_climbs (dedup eqb sorted) (parts_of ts) (climbs (dedup eqb sorted) (IsStrictlyIncreasing-dedup sorted up)) (parts-climb ts)
    (λ x c. part-listed ts x
    ((are x).0 (Contains-permutation sorted found x (IsPermutation-sym found sorted perm) (Contains-from_dedup eqb sorted x c))))
    (λ x c. Contains-dedup_nat sorted x (Contains-permutation found sorted x perm ((are x).1 (listed-part ts x c))))

-- an odd number is its own odd part
pub odd_itself : (x : ℕ) → x % 2 ≡ 1 → x < 2 ^ 32 → odd_part x ≡ x
odd_itself x odd small = go (power_of x) (parts_product x (omega (arith, odd)) small)
  where
    go : (k : ℕ) → 2 ^ k * odd_part x ≡ x → odd_part x ≡ x
    go zero e = omega (arith, e)
    go (suc k) e =
        let twice : 2 ^ suc k * odd_part x ≡ 2 * (2 ^ k * odd_part x) = omega (arith, ap (λ n. n * odd_part x) (two-pow-succ k)) in
        absurd (omega (arith, e, twice, odd))

pub part-within : (ts : List ℤ) → All (IsWithin 1048575) ts → (x : ℕ) → IsPartOf ts x → (x % 2 ≡ 1) × (0 < x) × (x ≤ 1048575)
part-within ts small x (t, c, is) =
    let n = unsigned_abs t in
    let few : n ≤ 1048575 = All-contains (IsWithin 1048575) ts t small c in
    let odd = part_odd n (some_number t is.some) (omega (arith, few)) in
    (omega (arith, odd, is.part), omega (arith, odd, is.part), omega (arith, part_most n, few, is.part))

-- ---- how many there are: no more than the numbers have different odd parts

abbrev less : (p : ℕ) → List ℕ → List ℕ
less p [] = []
less p (x ∷ xs) = if nat_eq x p then xs else x ∷ less p xs

less-length : (p : ℕ) (xs : List ℕ) → length xs ≤ length (less p xs) + 1
less-length p [] = omega arith
less-length p (x ∷ xs) = go (nat_eq x p) (less-length p xs)
  where
    go : (b : Bool) → length xs ≤ length (less p xs) + 1 → length (x ∷ xs) ≤ length (if b then xs else x ∷ less p xs) + 1
    go true rest = omega arith
    go false rest = omega (arith, rest)

less-is : (p : ℕ) (xs : List ℕ) → Climbs xs → Climbs (less p xs) × ((y : ℕ) → Contains (less p xs) y → Contains xs y × (y ≢ p))
less-is p [] h = (tt, λ y c. absurd (of_nil y c))
less-is p (x ∷ xs) h = go (nat_eq x p) refl (less-is p xs h.1)
  where
    go : (b : Bool) → nat_eq x p ≡ b → Climbs (less p xs) × ((y : ℕ) → Contains (less p xs) y → Contains xs y × (y ≢ p))
        → Climbs (if b then xs else x ∷ less p xs)
        × ((y : ℕ) → Contains (if b then xs else x ∷ less p xs) y → Contains (x ∷ xs) y × (y ≢ p))
    go true e rest = (
      h.1,
      λ y c. (there x y xs c, λ same. let low = h.0 y c in let first : x ≡ p = eqb-true x p e in omega (arith, low, first, same)),
    )
    go false e rest = (
      (λ y c. h.0 y (rest.1 y c).0, rest.0),
      λ y c. ⊎_elim
          (λ (same : x ≡ y). (subst (Contains (x ∷ xs)) same (here x xs), λ is. eqb-false x p e (same ∙ is)))
          (λ (k : Contains (less p xs) y). let old = rest.1 y k in (there x y xs old.0, old.1))
          (of_cons x y (less p xs) c),
    )

alone-not : (n : ℤ) (ns : List ℤ) (x : ℕ) → has_part_alone n ns ≡ false → HasPart x n → list_any (has_part x) ns ≡ true
alone-not n ns x h is =
    let some : 0 < unsigned_abs n = some_number n is.some in
    let differs : (unsigned_abs n == 0) ≡ false = grind (arith, nat_tests, some) in
    let others : not (list_any (has_part (odd_part (unsigned_abs n))) ns) ≡ false =
    sym (ap (λ b. not b && not (list_any (has_part (odd_part (unsigned_abs n))) ns)) differs) ∙ h in
    subst (λ p. list_any (has_part p) ns ≡ true) is.part (turned (list_any (has_part (odd_part (unsigned_abs n))) ns) others)
  where
    turned : (b : Bool) → not b ≡ false → b ≡ true
    turned true e = refl
    turned false e = absurd (cc)

few_parts : (ns : List ℤ) (xs : List ℕ) → Climbs xs → ((x : ℕ) → Contains xs x → list_any (has_part x) ns ≡ true)
    → length xs ≤ odd_part_count ns
few_parts [] [] h each = omega arith
few_parts [] (x ∷ xs) h each = let no : false ≡ true = each x (here x xs) in absurd (cc)
few_parts (n ∷ ns) xs h each = go (has_part_alone n ns) refl (few_parts ns)
  where
    go : (b : Bool) → has_part_alone n ns ≡ b
        → ((ys : List ℕ) → Climbs ys → ((x : ℕ) → Contains ys x → list_any (has_part x) ns ≡ true) → length ys ≤ odd_part_count ns)
        → length xs ≤ (if b then odd_part_count ns + 1 else odd_part_count ns)
    go true e before =
        let p = odd_part (unsigned_abs n) in
        let rest = less-is p xs h in
        let few = before (less p xs) rest.0
        (λ x c. or_cases (has_part x n) (list_any (has_part x) ns) (each x (rest.1 x c).0) (list_any (has_part x) ns ≡ true)
        (λ first. absurd ((rest.1 x c).1 (sym (has_part-is x n first).part)))
        (λ later. later)) in
        omega (arith, few, less-length p xs)
    go false e before =
        before xs h
        (λ x c. or_cases (has_part x n) (list_any (has_part x) ns) (each x c) (list_any (has_part x) ns ≡ true)
        (λ first. alone-not n ns x e (has_part-is x n first))
        (λ later. later))

pub few_targets : (ts : List ℤ) (targets : List ℕ) → AreTargetsOf ts targets → length targets ≤ odd_part_count ts
few_targets ts targets are =
    few_parts ts targets (climbs targets are.increasing)
    (λ x c. let (t, in_ts, is) = (are.members x).0 c in is-any x ts (t, in_ts, record { some = is.some; part = is.part }))

pub count-within : (ts : List ℤ) → odd_part_count ts ≤ length ts
count-within [] = omega arith
count-within (t ∷ ts) = go (has_part_alone t ts) (count-within ts)
  where
    go : (b : Bool) → odd_part_count ts ≤ length ts → (if b then odd_part_count ts + 1 else odd_part_count ts) ≤ length (t ∷ ts)
    go true rest = omega (arith, rest)
    go false rest = omega (arith, rest)
