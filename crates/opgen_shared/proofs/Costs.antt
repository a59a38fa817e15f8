-- The adders so far, as against those of the signed digits.
use Rattle.std.proofs.Common.{◌≡◌, ⊎_elim, ℕ, ◌+◌, ◌-◌, ◌≤◌, ◌<◌, List, length, get_or, take, All, Contains, refl, subst, arith, below_more}
use Rattle.std.specs.Prelude.{ℤ, unsigned_abs}
use Rattle.std.proofs.lemmas.List.Sums.{sum_by_more}
use Rattle.std.proofs.lemmas.List.Elements.{All-contains}
use Rattle.opgen_csd.specs.Digits.{nonzeros}
use Rattle.opgen_graph.specs.declared.ranks.Adder.{Adder}
use Rattle.opgen_graph.specs.declared.ranks.Graph.{Graph}
use Rattle.opgen_graph.specs.Graphs.{values}
use Rattle.opgen_graph.specs.Targets.{HasTarget, IsTargetOf, AreTargetsOf}
use Rattle.opgen_graph.proofs.Members.{of_cons, read, all_of}
use Rattle.opgen_graph.proofs.TargetLists.{part_odd, part_most, some_number}
use Rattle.opgen_ports.specs.Ranges.{IsWithin}
use Rattle.opgen_graph.specs.Reach.{IsWideMember}
use Rattle.opgen_graph.specs.Served.{Serves}
use Rattle.opgen_shared.specs.Digits.{HasDigits, AreForms, digit_adders}
use Rattle.opgen_shared.specs.Shared.{IsSharedGraph}
use Rattle.opgen_shared.specs.Sums.{placed_by}
use Rattle.opgen_shared.proofs.Forms.{same_count}

pub cost_more : (form : ℕ → List ℤ) (parts : List ℕ) (i before now count : ℕ) → AreForms form → i < length parts
    → before ≤ digit_adders form (take i parts) → HasDigits (get_or parts i 0) count → now + 1 ≤ before + count
    → now ≤ digit_adders form (take (i + 1) parts)
cost_more form parts i before now count forms lt few h more =
    let part = get_or parts i 0 in
    let own : HasDigits part (nonzeros (form part)) =
    record { form = form part; canonical = (forms part).0; value = (forms part).1; nonzero = refl } in
    let same : nonzeros (form part) ≡ count = same_count part (nonzeros (form part)) count own h in
    let sum = sum_by_more (λ n. nonzeros (form n) - 1) parts i 0 lt in
    omega (arith, few, more, same, sum)

has_wide : (t : ℤ) (x : ℕ) → HasTarget t x → unsigned_abs t ≤ 1048575 → IsWideMember x
has_wide t x h small =
    let n = unsigned_abs t in
    let odd = part_odd n (some_number t h.some) (omega (arith, small)) in
    (omega (arith, odd, h.part), h.above, omega (arith, part_most n, small, h.part))

pub each_wide : (numbers : List ℤ) (parts : List ℕ) → All (IsWithin 1048575) numbers → AreTargetsOf numbers parts → All IsWideMember parts
each_wide numbers parts small are =
    all_of IsWideMember parts
    (λ x c. let (t, in_ts, is) = (are.members x).0 c in has_wide t x is (All-contains (IsWithin 1048575) numbers t small in_ts))

pub holds_parts : (numbers : List ℤ) (parts : List ℕ) (adders : List Adder) (n : ℕ) → AreTargetsOf numbers parts → length parts ≤ n
    → ((k : ℕ) → k < n → Contains (placed_by adders) (get_or parts k 0)) → (x : ℕ) → IsTargetOf numbers x → Contains (values adders) x
holds_parts numbers parts adders n are all made x target =
    let c = (are.members x).1 target in
    let (t, in_ts, is) = target in
    let stands : Contains (placed_by adders) x = subst (Contains (placed_by adders)) (read parts x c) (made c.0 (omega (arith, c.1, all))) in
    ⊎_elim (λ (e : 1 ≡ x). absurd (omega (arith, e, is.above))) (λ (k : Contains (values adders) x). k) (of_cons 1 x (values adders) stands)

pub serves : (numbers : List ℤ) (graph : Graph) → IsSharedGraph graph.adders
    → ((x : ℕ) → IsTargetOf numbers x → Contains (values graph.adders) x) → Serves numbers graph
serves numbers graph is has = record { wired = is.wired; members = is.members; has_parts = has }

-- one part more stands
pub one_made : (parts : List ℕ) (before now : List Adder) (i : ℕ) → ((k : ℕ) → k < i → Contains (placed_by before) (get_or parts k 0))
    → ((x : ℕ) → Contains (placed_by before) x → Contains (placed_by now) x) → Contains (placed_by now) (get_or parts i 0)
    → (k : ℕ) → k < i + 1 → Contains (placed_by now) (get_or parts k 0)
one_made parts before now i old kept new =
    below_more (λ k. Contains (placed_by now) (get_or parts k 0)) i (λ k lt. kept (get_or parts k 0) (old k lt)) new
