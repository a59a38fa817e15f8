-- That numbers of 20 bits have no graph by the rule is impossible.
use Rattle.std.proofs.Common.{◌≡◌, ◌⊎◌, inl, inr, ⊎_elim, ℕ, zero, suc, ◌+◌, ◌-◌, ◌%◌, ◌≤◌, ◌<◌, min, max, List, [], ◌∷◌, ◌++◌, length, All, Contains, refl, sym, ◌∙◌, subst, arith}
use Rattle.std.specs.Prelude.{pos, ◌==◌, if◌then◌else◌}
use Rattle.std.proofs.lemmas.Bool.{cases_lt}
use Rattle.std.proofs.lemmas.Int.{ints}
use Rattle.std.proofs.lemmas.List.Elements.{All-head, All-tail}
use Rattle.opgen_graph.specs.declared.forms.Form.TheVariants.{A, B}
use Rattle.opgen_graph.specs.declared.ranks.Adder.{Adder}
use Rattle.opgen_graph.specs.Graphs.{values}
use Rattle.opgen_graph.specs.Reach.{IsWide, IsWideMember}
use Rattle.opgen_graph.proofs.Members.{here, there, is_in}
use Rattle.opgen_graph.proofs.TargetLists.{parts_product, part_odd}
use Rattle.opgen_ports.specs.OddParts.{power_of, odd_part}
use Rattle.opgen_shared.specs.Digits.{digit_count}
use Rattle.opgen_shared.specs.Levels.{levels_from, with_value, level}
use Rattle.opgen_shared.specs.Rule.{IsBest, IsRankedBefore, IsStepTo, Grows, GrowsBy, SomeRuleGraph, heavier, made, next, over, rank, stands, weight}
use Rattle.opgen_shared.specs.Steps.{IsDigitAdder}
use Rattle.opgen_shared.specs.Sums.{placed_by}
use Rattle.opgen_shared.proofs.Costs.{each_wide}
use Rattle.opgen_shared.proofs.Growing.{still}
use Rattle.opgen_shared.proofs.Leasts.{least_rank}
use Rattle.opgen_shared.proofs.LevelLaws.{counted, own_digits, if_other, weight_placed, weight_new}
use Rattle.opgen_shared.proofs.PartLists.{some_parts}
use Rattle.opgen_shared.proofs.StepLaws.{digit_plus, digit_minus}

-- the adder of the lowest digit
pub digit_adder : (n : ℕ) → IsWideMember n → (a : Adder) × IsDigitAdder n a
digit_adder n w = go (n % 4) refl
  where
    go : (r : ℕ) → n % 4 ≡ r → (a : Adder) × IsDigitAdder n a
    go zero e = absurd (omega (arith, e, w.0))
    go (suc zero) e =
        let m = n - 1 in
        let some : 0 < m = omega (arith, w.1) in (
          record { value = n; u = odd_part m; v = 1; step = record { form = A; shift = power_of m } },
          digit_plus n (odd_part m) (power_of m)
              (record { value = n; u = odd_part m; v = 1; step = record { form = A; shift = power_of m } }) refl w e
              (part_odd m some (omega (arith, w.2))) (parts_product m some (omega (arith, w.2))),
        )
    go (suc (suc zero)) e = absurd (omega (arith, e, w.0))
    go (suc (suc (suc zero))) e =
        let m = n + 1 in
        let some : 0 < m = omega arith in (
          record { value = n; u = odd_part m; v = 1; step = record { form = B; shift = power_of m } },
          digit_minus n (odd_part m) (power_of m)
              (record { value = n; u = odd_part m; v = 1; step = record { form = B; shift = power_of m } }) refl w e
              (part_odd m some (omega (arith, w.2))) (parts_product m some (omega (arith, w.2))),
        )
    go (suc (suc (suc (suc r)))) e = absurd (omega (arith, e))

-- ---- weights
one_digit : digit_count 1 ≡ 1
one_digit = sym (counted 1 1 (record {
  form = pos 1 ∷ [];
  canonical = ((omega (arith, ints), omega (arith, ints)), (λ e. omega (arith, ints, e)), tt);
  value = refl;
  nonzero = refl;
}))

-- a number weighs 1, or as many as its digits
light_or_counted : (done : List Adder) (x : ℕ) → (weight done x ≡ 1) ⊎ (weight done x ≡ digit_count x)
light_or_counted done x =
    ⊎_elim (λ (some : 0 < level done x). inl (sym (weight_placed done x some)))
    (λ (none : level done x ≤ 0). inr (sym (weight_new done x (λ some. omega (arith, some, none))))) (cases_lt 0 (level done x))

level_from : (known : ℕ → ℕ) (done : List Adder) (x : ℕ) → known x ≡ 0 → (Contains (values done) x → ⊥) → levels_from known done x ≡ 0
level_from known [] x none non = none
level_from known (a ∷ done) x none non =
    level_from (with_value known a) done x
    (if_other x a.value (min 255 (max (known a.u) (known a.v) + 1)) (known x)
    (λ e. non (subst (Contains (a.value ∷ values done)) (sym e) (here a.value (values done)))) ∙ none)
    (λ c. non (there a.value x (values done) c))

level_new : (done : List Adder) (x : ℕ) → (Contains (placed_by done) x → ⊥) → level done x ≡ 0
unfolding level
level_new done x non =
    level_from (λ y. if y == 1 then 1 else 0) done x
    (if_other x 1 1 0 (λ e. non (subst (Contains (placed_by done)) (sym e) (here 1 (values done))))) (λ c. non (there 1 x (values done) c))

-- an operand of a step to a number stands, or it has fewer digits
pub operand : (done : List Adder) (x heavy count k : ℕ) → weight done x ≤ heavy → heavy < count → count < suc k
    → Contains (placed_by done) x ⊎ (digit_count x < k)
operand done x heavy count k most lighter few =
    ⊎_elim (λ (c : Contains (placed_by done) x). inl c)
    (λ (non : Contains (placed_by done) x → ⊥).
    inr (omega (arith, weight_new done x (λ some. omega (arith, some, level_new done x non)), most, lighter, few)))
    (is_in (placed_by done) x)

-- ---- the best step
digit_lighter : (done : List Adder) (number : ℕ) (a : Adder) → IsDigitAdder number a → heavier done a < digit_count number
digit_lighter done number a d =
    let fewer = d.fewer (digit_count number) (own_digits number) in
    let same = counted a.u (digit_count number - 1) fewer.1 in
    let one : digit_count a.v ≡ 1 = subst (λ x. digit_count x ≡ 1) (sym d.one) one_digit in
    omega (arith, fewer.0, same, one, light_or_counted done a.u, light_or_counted done a.v)

digit_step : (done : List Adder) (number : ℕ) (a : Adder) → IsDigitAdder number a → IsStepTo done number a
digit_step done number a d = record {
  value = d.value;
  adder = record {
    u = d.wide;
    v = subst IsWide (sym d.one) (omega arith, omega arith);
    form = d.form;
    shifted = d.shifted;
    makes = d.makes;
  };
  stands = inr (subst (Contains (placed_by done)) (sym d.one) (here 1 (values done)));
  lighter = digit_lighter done number a d;
}

record Ranked (done : List Adder) (number : ℕ) (r : List ℕ) : Type 0 where
  adder : Adder
  step : IsStepTo done number adder
  ranked : rank done adder ≡ r

rank_size : (done : List Adder) (a : Adder) → length (rank done a) ≡ 7
unfolding rank
rank_size done a = refl

some_best : (done : List Adder) (number : ℕ) → IsWideMember number → ((a : Adder) → IsBest done number a → ⊥) → ⊥
some_best done number wide found =
    let (a, d) = digit_adder number wide in
    least_rank 7 (Ranked done number) (λ r is. subst (λ s. length s ≡ 7) is.ranked (rank_size done is.adder)) (rank done a)
    (record { adder = a; step = digit_step done number a d; ranked = refl })
    (λ r is first. found is.adder (record {
      step = is.step;
      least = λ b step before.
          first (rank done b) (record { adder = b; step = step; ranked = refl }) (subst (IsRankedBefore (rank done b)) is.ranked before);
    }))

-- ---- one number
record Grown (done : List Adder) (number : ℕ) : Type 0 where
  after : List Adder
  grows : Grows done number after
  kept : (x : ℕ) → Contains (placed_by done) x → Contains (placed_by after) x

already : (done : List Adder) (number : ℕ) → Contains (placed_by done) number → Grown done number
already done number c = record { after = done; grows = stands c; kept = λ x k. k }

pub above_one : (done : List Adder) (number : ℕ) → IsWide number → (Contains (placed_by done) number → ⊥) → IsWideMember number
above_one done number wide non =
    ⊎_elim
    (λ (lt : 1 < number). (wide.0, lt, wide.1))
    (λ (le : number ≤ 1). absurd (non (subst (Contains (placed_by done)) (omega (arith, le, wide.0)) (here 1 (values done)))))
    (cases_lt 1 number)

grow : (k : ℕ) (done : List Adder) (number : ℕ) → IsWide number → Contains (placed_by done) number ⊎ (digit_count number < k)
    → (Grown done number → ⊥) → ⊥
grow zero done number wide few found =
    ⊎_elim (λ (c : Contains (placed_by done) number). found (already done number c)) (λ (lt : digit_count number < 0). omega (arith, lt)) few
grow (suc k) done number wide few found =
    ⊎_elim (λ (c : Contains (placed_by done) number). found (already done number c))
    (λ (non : Contains (placed_by done) number → ⊥).
    let lt : digit_count number < suc k =
    ⊎_elim (λ (c : Contains (placed_by done) number). absurd (non c)) (λ (h : digit_count number < suc k). h) few in
    some_best done number (above_one done number wide non) (λ a best.
    let is = best.step in
    grow k done a.u is.adder.u (operand done a.u (heavier done a) (digit_count number) k (omega arith) is.lighter lt) (λ first.
    grow k first.after a.v is.adder.v (
    ⊎_elim (λ (c : Contains (placed_by done) a.v). inl (first.kept a.v c)) (λ (h : digit_count a.v < k). inr h)
    (operand done a.v (heavier done a) (digit_count number) k (omega arith) is.lighter lt)) (λ both.
    found (record {
      after = both.after ++ a ∷ [];
      grows = made a non best first.grows both.grows;
      kept = λ x c. still both.after a x (both.kept x (first.kept x c));
    })))))
    (is_in (placed_by done) number)

-- ---- one number after the other
grow_by : (numbers : List ℕ) → All IsWideMember numbers → (done : List Adder) → ((after : List Adder) → GrowsBy done numbers after → ⊥) → ⊥
grow_by [] each done found = found done over
grow_by (n ∷ numbers) each done found =
    let wide = All-head IsWideMember n numbers each in
    grow (suc (digit_count n)) done n (wide.0, wide.2) (inr (omega arith)) (λ first.
    grow_by numbers (All-tail IsWideMember n numbers each) first.after (λ after grows. found after (next first.grows grows)))

pub some_rule_graph : SomeRuleGraph
some_rule_graph numbers small found =
    let (parts, are) = some_parts numbers in
    grow_by parts (each_wide numbers parts small are) [] (λ adders grows.
    found adders (record { parts = parts; are_parts = are; grows = grows }))
