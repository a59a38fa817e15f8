-- The search from its start to its end.
use Rattle.std.proofs.Common.{◌≡◌, ◌⊎◌, inl, inr, ⊎_elim, ℕ, suc, ◌+◌, ◌%◌, ◌^◌, ◌≤◌, ◌<◌, List, [], ◌∷◌, length, All, refl, ap, arith}
use Rattle.std.proofs.lemmas.List.Elements.{All-weaker, All-head, All-tail}
use Rattle.opgen_graph.specs.Reach.{Reaches, IsMember}
use Rattle.opgen_graph.specs.SignedDigits.{IsTarget, IsDigitSet}
use Rattle.opgen_graph.proofs.Members.{all_of}
use Rattle.opgen_graph.proofs.SignedSets.{Climbs, climbs, digit_sets_reach}
use Rattle.opgen_search.specs.Space.{AreTargets, limit, InSpace}
use Rattle.opgen_search.specs.Nodes.{members, IsNode, HasRoom}
use Rattle.opgen_search.proofs.Sets.{distinct_climbs, same_set}
use Rattle.opgen_search.proofs.Limits.{limit_small, below_limit}

-- ---- the start
pub root_node : (targets : List ℕ) → AreTargets targets → IsNode (1 ∷ []) targets
root_node targets h = record {
  starts = refl;
  built = tt;
  distinct = distinct_climbs targets (climbs targets h.increasing);
  adders = All-weaker IsTarget IsMember (λ x t. (t.0, t.1, omega (arith, t))) targets h.each;
}

pub root_room : (targets : List ℕ) (extra : ℕ) → AreTargets targets → HasRoom targets extra (members (1 ∷ []) targets) extra
root_room targets extra h = record { has_targets = λ t c. c; few = omega arith; small = below_limit targets h }

climbs_length : (xs : List ℕ) (low n : ℕ) → Climbs xs → All (λ x. low ≤ x) xs → All (λ x. x < n) xs → length xs + low ≤ n ⊎ (xs ≡ [])
climbs_length [] low n h above below = inr refl
climbs_length (x ∷ xs) low n h above below =
    let first = All-head (λ y. low ≤ y) x xs above in
    let small = All-head (λ y. y < n) x xs below in
    ⊎_elim (λ (k : length xs + suc x ≤ n). inl (omega (arith, k, first)))
    (λ (e : xs ≡ []). inl (omega (arith, first, small, ap length e)))
    (climbs_length xs (suc x) n h.1 (all_of (λ y. suc x ≤ y) xs (λ y c. omega (arith, h.0 y c))) (All-tail (λ y. y < n) x xs below))

pub digit_count : (targets set : List ℕ) → Reaches targets set → length set < 2 ^ 31
digit_count targets set r =
    let small = All-weaker IsMember (λ x. x < 2 ^ 13) (λ x m. m.2) set r.adders.members in
    ⊎_elim (λ (k : length set + 0 ≤ 2 ^ 13). omega (arith, k)) (λ (e : set ≡ []). omega (arith, ap length e))
    (climbs_length set 0 (2 ^ 13) (climbs set r.adders.increasing) (all_of (λ x. 0 ≤ x) set (λ x c. omega arith)) small)

-- ---- the end
pub one_digit_set : (targets set other : List ℕ) → IsDigitSet targets set → IsDigitSet targets other → set ≡ other
one_digit_set targets set other d e = same_set set other d.increasing e.increasing (λ x c. (e.members x).1 ((d.members x).0 c))
    (λ x c. (d.members x).1 ((e.members x).0 c))

pub space_reaches : (targets : List ℕ) (extra : ℕ) (set : List ℕ) → AreTargets targets → InSpace targets extra set → Reaches targets set
space_reaches targets extra set h (inl c) = record {
  adders =
      record {
        increasing = c.increasing;
        members = All-weaker (λ x. (x % 2 ≡ 1) × (1 < x) × (x < limit targets)) IsMember
            (λ x r. (r.0, r.1, omega (arith, r.2, limit_small targets h))) set c.range;
      };
  has_targets = c.has_targets;
  reachable = c.reachable;
}
space_reaches targets extra set h (inr d) = digit_sets_reach targets set h.each d
