-- The limit of members.
use Rattle.std.proofs.Common.{◌≡◌, ⊎_elim, ℕ, ◌+◌, ◌*◌, ◌%◌, ◌^◌, ◌≤◌, ◌<◌, max, List, [], ◌∷◌, ◌++◌, length, take, All, Contains, ap, ◌∙◌, add-one, arith}
use Rattle.std.proofs.Math.Nat.{pow-suc}
use Rattle.std.proofs.lemmas.List.{take_all}
use Rattle.std.proofs.lemmas.List.Elements.{All-head, All-tail, All-weaker}
use Rattle.opgen_num.proofs.BitLength.{length_holds, length_least, power_order}
use Rattle.opgen_graph.specs.SetCost.{bit_length}
use Rattle.opgen_graph.specs.SignedDigits.{IsTarget}
use Rattle.opgen_graph.proofs.Members.{of_cons, of_nil, all_of}
use Rattle.opgen_search.specs.Space.{AreTargets, greatest, limit}

greatest_most : (xs : List ℕ) (n : ℕ) → All (λ x. x ≤ n) xs → greatest xs ≤ n
greatest_most [] n h = omega arith
greatest_most (x ∷ xs) n h = let low = All-head (λ y. y ≤ n) x xs h in omega (arith, low, greatest_most xs n (All-tail (λ y. y ≤ n) x xs h))

greatest_above : (xs : List ℕ) (x : ℕ) → Contains xs x → x ≤ greatest xs
greatest_above [] x c = absurd (of_nil x c)
greatest_above (y ∷ ys) x c = ⊎_elim (λ (e : y ≡ x). omega (arith, e)) (λ (k : Contains ys x). omega (arith, greatest_above ys x k))
    (of_cons y x ys c)

pub greatest-snoc : (xs : List ℕ) (x : ℕ) → greatest (xs ++ x ∷ []) ≡ max (greatest xs) x
greatest-snoc [] x = omega arith
greatest-snoc (y ∷ ys) x = omega (arith, greatest-snoc ys x)

pub greatest_target : (targets : List ℕ) → AreTargets targets → greatest targets ≤ 2047
greatest_target targets h = greatest_most targets 2047 (All-weaker IsTarget (λ x. x ≤ 2047) (λ x t. t.2) targets h.each)

pub few_bits : (n : ℕ) → n ≤ 2047 → bit_length n ≤ 11
few_bits n h = length_least 32 n (omega arith) 11 (omega arith)

enough_bits : (n : ℕ) → n ≤ 2047 → n < 2 ^ bit_length n
enough_bits n h = length_holds 32 n (omega arith)

pub limit_small : (targets : List ℕ) → AreTargets targets → limit targets ≤ 2 ^ 12
limit_small targets h = let few = few_bits (greatest targets) (greatest_target targets h) in
    power_order (bit_length (greatest targets) + 1) 12 (omega (arith, few))

pub below_limit : (targets : List ℕ) → AreTargets targets → All (λ x. x < limit targets) targets
below_limit targets h = all_of (λ x. x < limit targets) targets (λ x c. let low = greatest_above targets x c in
    let high = enough_bits (greatest targets) (greatest_target targets h) in
    let twice : limit targets ≡ 2 ^ bit_length (greatest targets) * 2 =
    ap (λ k. 2 ^ k) (add-one (bit_length (greatest targets))) ∙ pow-suc 2 (bit_length (greatest targets)) in
    omega (arith, low, high, twice))

pub shifted_limit : (targets : List ℕ) (n : ℕ) → AreTargets targets → n ≡ greatest targets → (2 * 2 ^ bit_length n) % 2 ^ 32 ≡ limit targets
shifted_limit targets n h e =
    let few = few_bits (greatest targets) (greatest_target targets h) in
    let twice : limit targets ≡ 2 ^ bit_length (greatest targets) * 2 = ap (λ k. 2 ^ k) (add-one (bit_length (greatest targets)))
    ∙ pow-suc 2 (bit_length (greatest targets)) in
    rw e (omega (arith, limit_small targets h, twice))

pub all_taken : (targets : List ℕ) (n g : ℕ) → length targets ≤ n → g ≡ greatest (take n targets) → g ≡ greatest targets
all_taken targets n g le e = e ∙ ap greatest (take_all n targets le)

pub few_shifts : (targets : List ℕ) (g : ℕ) → AreTargets targets → g ≡ greatest targets → bit_length g ≤ 11
few_shifts targets g h e = few_bits g (omega (arith, e, greatest_target targets h))
