-- The odd parts of constants.
use Rattle.std.proofs.Common.{◌≡◌, ◌≢◌, ◌↔◌, ⊎_elim, ℕ, zero, suc, ◌*◌, ◌%◌, ◌^◌, ◌<◌, ◌≤◌, List, [], ◌∷◌, ◌++◌, All, Contains, refl, sym, ap, ◌∙◌, subst, arith}
use Rattle.std.specs.Prelude.{ℤ, pos, negsuc, unsigned_abs}
use Rattle.std.specs.Int.{w32}
use Rattle.std.proofs.lemmas.Nat.Bits.{bit_at-trailing_zeros}
use Rattle.std.specs.List.{dedup}
use Rattle.std.specs.List.Sorted.{IsPermutation, IsSorted}
use Rattle.std.specs.Ordering.{nat_cmp}
use lib.Dec.{eqb}
use Rattle.std.proofs.lemmas.Map.Keys.{IsStrictlyIncreasing-dedup}
use Rattle.std.proofs.lemmas.List.Kept.{Contains-from_dedup, Contains-dedup_nat}
use Rattle.std.proofs.lemmas.List.Elements.{All-contains, Contains-append_left, Contains-append_right, Contains-append_cases}
use Rattle.std.proofs.lemmas.List.Sorted.{IsPermutation-sym, Contains-permutation}
use Rattle.opgen_ports.specs.Ranges.{IsWithin}
use Rattle.opgen_graph.specs.SignedDigits.{IsTarget}
use Rattle.opgen_ports.specs.OddParts.{power_of, odd_part}
use Rattle.opgen_graph.specs.Targets.{HasTarget, IsTargetOf, AreTargetsOf}
use Rattle.opgen_graph.proofs.Members.{here, of_one, all_of}
use Rattle.opgen_graph.proofs.Powers.{shifted}

pub parts_product : (n : ℕ) → 0 < n → n < 2 ^ 32 → 2 ^ power_of n * odd_part n ≡ n
parts_product n some small = shifted (power_of n) n (bit_at-trailing_zeros w32 n some small).2

pub part_odd : (n : ℕ) → 0 < n → n < 2 ^ 32 → odd_part n % 2 ≡ 1
part_odd n some small = (bit_at-trailing_zeros w32 n some small).1

pub power_within : (n : ℕ) → 0 < n → n < 2 ^ 32 → power_of n < 32
power_within n some small = (bit_at-trailing_zeros w32 n some small).0

pub part_most : (n : ℕ) → odd_part n ≤ n
part_most n = omega arith

pub some_number : (t : ℤ) → t ≢ pos 0 → 0 < unsigned_abs t
some_number (pos zero) h = absurd (h refl)
some_number (pos (suc n)) h = omega arith
some_number (negsuc n) h = omega arith

-- Lists of targets.

pub has_target : (t : ℤ) (x : ℕ) → HasTarget t x → unsigned_abs t ≤ 2047 → IsTarget x
has_target t x h small =
    let n = unsigned_abs t in
    let odd = part_odd n (some_number t h.some) (omega (arith, small)) in
    (omega (arith, odd, h.part), h.above, omega (arith, part_most n, small, h.part))

pub one_constant : (t u : ℤ) → Contains (t ∷ []) u → t ≡ u
one_constant t u (zero, lt, e) = e
one_constant t u (suc k, lt, e) = absurd (omega (arith, lt))

abbrev pub Lists : List ℕ → List ℤ → Type 0
Lists found ts = (x : ℕ) → Contains found x ↔ IsTargetOf ts x

-- one constant more, with a target or with none

pub list_more : (found : List ℕ) (ts : List ℤ) (t : ℤ) (x : ℕ) → Lists found ts → HasTarget t x → Lists (found ++ x ∷ []) (ts ++ t ∷ [])
list_more found ts t x before h y = (
  λ c. ⊎_elim
      (λ (k : Contains found y). let (u, in_ts, is) = (before y).0 k in (u, Contains-append_left ts (t ∷ []) u in_ts, is))
      (λ (k : Contains (x ∷ []) y). (t, Contains-append_right ts (t ∷ []) t (0, omega arith, refl), subst (HasTarget t) (of_one x y k) h))
      (Contains-append_cases found (x ∷ []) y c),
  λ o. known o,
)
  where
    known : IsTargetOf (ts ++ t ∷ []) y → Contains (found ++ x ∷ []) y
    known (u, c, is) =
        ⊎_elim (λ (k : Contains ts u). Contains-append_left found (x ∷ []) y ((before y).1 (u, k, is)))
        (λ (k : Contains (t ∷ []) u).
        let same : x ≡ y = sym h.part ∙ ap (λ z. odd_part (unsigned_abs z)) (one_constant t u k) ∙ is.part in
        Contains-append_right found (x ∷ []) y (subst (Contains (x ∷ [])) same (here x [])))
        (Contains-append_cases ts (t ∷ []) u c)

pub list_same : (found : List ℕ) (ts : List ℤ) (t : ℤ) → Lists found ts → ((x : ℕ) → HasTarget t x → ⊥) → Lists found (ts ++ t ∷ [])
list_same found ts t before none y = (
  λ c. let (u, in_ts, is) = (before y).0 c in (u, Contains-append_left ts (t ∷ []) u in_ts, is),
  λ o. known o,
)
  where
    known : IsTargetOf (ts ++ t ∷ []) y → Contains found y
    known (u, c, is) =
        ⊎_elim (λ (k : Contains ts u). (before y).1 (u, k, is))
        (λ (k : Contains (t ∷ []) u). absurd (none y (subst (λ z. HasTarget z y) (sym (one_constant t u k)) is)))
        (Contains-append_cases ts (t ∷ []) u c)

-- sorted, each once
pub are_targets : (ts : List ℤ) (found sorted : List ℕ) → Lists found ts → IsPermutation found sorted → IsSorted nat_cmp sorted
    → AreTargetsOf ts (dedup eqb sorted)
are_targets ts found sorted lists perm up = record {
  increasing = IsStrictlyIncreasing-dedup sorted up;
  members = λ x. (
    λ c. (lists x).0 (Contains-permutation sorted found x (IsPermutation-sym found sorted perm) (Contains-from_dedup eqb sorted x c)),
    λ o. Contains-dedup_nat sorted x (Contains-permutation found sorted x perm ((lists x).1 o)),
  );
}

pub each_target : (ts : List ℤ) (targets : List ℕ) → All (IsWithin 2047) ts → AreTargetsOf ts targets → All IsTarget targets
each_target ts targets small are =
    all_of IsTarget targets
    (λ x c. let (t, in_ts, is) = (are.members x).0 c in has_target t x is (All-contains (IsWithin 2047) ts t small in_ts))
