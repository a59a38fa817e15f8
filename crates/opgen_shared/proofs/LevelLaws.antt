-- The level of a number after one adder more, and what it makes a number weigh.
use Rattle.std.proofs.Common.{◌≡◌, ◌≢◌, ⊎_elim, ℕ, zero, suc, ◌+◌, ◌<◌, max, min, List, [], ◌∷◌, ◌++◌, length, get_or, refl, sym, ◌∙◌, subst, arith}
use Rattle.std.specs.Prelude.{◌==◌, if◌then◌else◌, pos}
use Rattle.std.proofs.lemmas.Bool.{cases_eq}
use Rattle.std.proofs.lemmas.Bool.Decides.{nat_tests}
use Rattle.std.proofs.lemmas.List.{get_or-set_same, get_or-set_other, get_or-replicate, length-replicate}
use Rattle.std.proofs.Math.ListN.{set, replicate}
use Rattle.opgen_csd.proofs.Existence.{some_form}
use Rattle.opgen_graph.specs.declared.ranks.Adder.{Adder}
use Rattle.opgen_shared.specs.Digits.{HasDigits, digit_count}
use Rattle.opgen_shared.specs.Levels.{with_value, levels_from, level}
use Rattle.opgen_shared.specs.Rule.{weight}
use Rattle.opgen_shared.proofs.Forms.{same_count}

-- ---- levels
from_more : (known : ℕ → ℕ) (done : List Adder) (a : Adder) (x : ℕ)
    → levels_from known (done ++ a ∷ []) x ≡ with_value (levels_from known done) a x
from_more known [] a x = refl
from_more known (b ∷ bs) a x = from_more (with_value known b) bs a x

level_more : (done : List Adder) (a : Adder) (x : ℕ) → level (done ++ a ∷ []) x ≡ with_value (level done) a x
unfolding level
level_more done a x = from_more (λ y. if y == 1 then 1 else 0) done a x

if_same : (x y p q : ℕ) → x ≡ y → (if x == y then p else q) ≡ p
if_same x y p q e = grind (arith, nat_tests)

pub if_other : (x y p q : ℕ) → x ≢ y → (if x == y then p else q) ≡ q
if_other x y p q ne = grind (arith, nat_tests)

-- a list of levels with that of a new value
pub known_more : (done : List Adder) (a : Adder) (known : List ℕ) (high x : ℕ) → high ≡ min 255 (max (level done a.u) (level done a.v) + 1)
    → a.value < length known → get_or known x 0 ≡ level done x → get_or (set known a.value high) x 0 ≡ level (done ++ a ∷ []) x
known_more done a known high x up lt before =
    ⊎_elim
    (λ (e : x ≡ a.value). subst (λ y. get_or (set known a.value high) y 0 ≡ high) (sym e) (get_or-set_same known a.value high 0 lt) ∙ up
    ∙ sym (if_same x a.value (min 255 (max (level done a.u) (level done a.v) + 1)) (level done x) e) ∙ sym (level_more done a x))
    (λ (ne : x ≢ a.value). get_or-set_other known a.value x high 0 ne ∙ before
    ∙ sym (if_other x a.value (min 255 (max (level done a.u) (level done a.v) + 1)) (level done x) ne) ∙ sym (level_more done a x))
    (cases_eq x a.value)

-- 1 alone
pub known_first : (n x : ℕ) → 1 < n → x < n → get_or (set (replicate n 0) 1 1) x 0 ≡ level [] x
unfolding level
known_first n x some lt =
    ⊎_elim
    (λ (e : x ≡ 1). subst (λ y. ◌≡◌ {A = ℕ} (get_or (set (replicate n 0) 1 1) y 0) 1) (sym e)
    (get_or-set_same (replicate n 0) 1 1 0 (omega (arith, length-replicate {A = ℕ} n 0, some))) ∙ sym (if_same x 1 1 0 e))
    (λ (ne : x ≢ 1). get_or-set_other (replicate n 0) 1 x 1 0 ne ∙ get_or-replicate {A = ℕ} n x 0 0 lt ∙ sym (if_other x 1 1 0 ne))
    (cases_eq x 1)

-- ---- weights
pub own_digits : (n : ℕ) → HasDigits n (digit_count n)
unfolding digit_count
own_digits n = let (form, canonical, value) = some_form (pos n) in record { form = form; canonical = canonical; value = value; nonzero = refl }

pub counted : (n count : ℕ) → HasDigits n count → count ≡ digit_count n
counted n count h = same_count n count (digit_count n) h (own_digits n)

pub weight_placed : (done : List Adder) (x : ℕ) → 0 < level done x → 1 ≡ weight done x
unfolding weight
weight_placed done x some = sym (if_other (level done x) 0 (digit_count x) 1 (λ e. omega (arith, e, some)))

pub weight_new : (done : List Adder) (x : ℕ) → (0 < level done x → ⊥) → digit_count x ≡ weight done x
unfolding weight
weight_new done x none = sym (if_same (level done x) 0 (digit_count x) 1 (zero_of (level done x) none))
  where
    zero_of : (n : ℕ) → (0 < n → ⊥) → n ≡ 0
    zero_of zero non = refl
    zero_of (suc n) non = absurd (non (omega arith))
