-- Taps that are 0, and what they add.
use Rattle.std.proofs.Common.{◌≡◌, ◌≢◌, ℕ, zero, suc, ◌+◌, ◌<◌, ◌≤◌, Bool, true, false, ◌&&◌, List, [], ◌∷◌, length, drop, get_or, refl, sym, ap, ◌∙◌, arith}
use Rattle.std.specs.Prelude.{ℤ, pos, ◌+ℤ◌, ◌*ℤ◌, unsigned_abs, ◌==◌, All}
use Rattle.std.proofs.lemmas.Int.{ints}
use Rattle.std.proofs.lemmas.List.{drop_more}
use Rattle.std.proofs.lemmas.List.Elements.{All-nil, All-cons}
use Rattle.std.proofs.lemmas.Bool.{and_parts}
use Rattle.opgen_num.proofs.Integers.{zero-is}
use Rattle.opgen_ports.specs.Ports.{Recent, weighted_from}
use Rattle.opgen_tfir.specs.Recipe.{all_zero}

pub all-zeros : (ts : List ℤ) → all_zero ts ≡ true → All (λ t. t ≡ pos 0) ts
all-zeros [] h = All-nil (λ t. t ≡ pos 0)
all-zeros (t ∷ ts) h =
    let (first, rest) = and_parts (unsigned_abs t == 0) (all_zero ts) h in
    All-cons (λ t. t ≡ pos 0) t ts (zero-is t first) (all-zeros ts rest)

-- they add nothing
pub zeros-weighted : (ts : List ℤ) (ago : ℕ) (x : Recent) → all_zero ts ≡ true → weighted_from ago ts x ≡ pos 0
zeros-weighted [] ago x h = refl
zeros-weighted (t ∷ ts) ago x h =
    let (first, rest) = and_parts (unsigned_abs t == 0) (all_zero ts) h in
    ap (λ c. (x ago *ℤ c) +ℤ weighted_from (ago + 1) ts x) (zero-is t first)
    ∙ ap (λ z. (x ago *ℤ pos 0) +ℤ z) (zeros-weighted ts (ago + 1) x rest)
    ∙ none (x ago)
  where
    none : (z : ℤ) → (z *ℤ pos 0) +ℤ pos 0 ≡ pos 0
    none z = omega (arith, ints)

-- the first tap is not 0 where all later ones are
pub first-some : (t : ℤ) (ts : List ℤ) → all_zero (t ∷ ts) ≡ false → all_zero ts ≡ true → t ≢ pos 0
first-some t ts h rest e =
    let all : all_zero (t ∷ ts) ≡ true = ap (λ c. (unsigned_abs c == 0) && all_zero ts) e ∙ rest in
    let no : true ≡ false = sym all ∙ h in
    cc

-- a list with a part that is not all 0 is not
pub drop-some : (ts : List ℤ) (k : ℕ) → all_zero (drop k ts) ≡ false → all_zero ts ≡ false
drop-some ts zero h = h
drop-some [] (suc k) h = h
drop-some (t ∷ ts) (suc k) h = ap (λ b. (unsigned_abs t == 0) && b) (drop-some ts k h) ∙ and_false (unsigned_abs t == 0)
  where
    and_false : (a : Bool) → a && false ≡ false
    and_false true = refl
    and_false false = refl

-- nor is one that goes on to a tap which is not 0
pub some-at : (ts : List ℤ) (k j : ℕ) → k ≤ j → j < length ts → (unsigned_abs (get_or ts j (pos 0)) == 0) ≡ false
    → all_zero (drop k ts) ≡ false
some-at [] k j le lt h = absurd (omega (arith, lt))
some-at (t ∷ ts) zero zero le lt h = ap (λ b. b && all_zero ts) h
some-at (t ∷ ts) zero (suc j) le lt h =
    ap (λ b. (unsigned_abs t == 0) && b) (some-at ts zero j (omega arith) (omega (arith, lt)) h) ∙ and_false (unsigned_abs t == 0)
  where
    and_false : (a : Bool) → a && false ≡ false
    and_false true = refl
    and_false false = refl
some-at (t ∷ ts) (suc k) zero le lt h = absurd (omega (arith, le))
some-at (t ∷ ts) (suc k) (suc j) le lt h = some-at ts k j (omega (arith, le)) (omega (arith, lt)) h

-- a zero before zeros
pub zeros-before : (ts : List ℤ) (k : ℕ) → k < length ts → (unsigned_abs (get_or ts k (pos 0)) == 0) ≡ true
    → all_zero (drop (k + 1) ts) ≡ true → all_zero (drop k ts) ≡ true
zeros-before ts k lt h rest =
    ap all_zero (drop_more ts k (pos 0) lt)
    ∙ ap (λ b. b && all_zero (drop (k + 1) ts)) h
    ∙ rest

-- a cycle later the inputs stand one place on
pub weighted-later : (ts : List ℤ) (ago : ℕ) (x y : Recent) → ((k : ℕ) → y k ≡ x (k + 1))
    → weighted_from ago ts y ≡ weighted_from (ago + 1) ts x
weighted-later [] ago x y h = refl
weighted-later (t ∷ ts) ago x y h =
    ap (λ z. (z *ℤ t) +ℤ weighted_from (ago + 1) ts y) (h ago)
    ∙ ap (λ z. (x (ago + 1) *ℤ t) +ℤ z) (weighted-later ts (ago + 1) x y h)
