-- The lowest places at which 0 is added or taken off.
use Rattle.std.proofs.Common.{◌≡◌, ℕ, zero, suc, ◌+◌, ◌≤◌, ◌<◌, Bool, true, false, ◌&&◌, nat_eq, if◌then◌else◌, List, [], ◌∷◌, ◌++◌, length, map, reverse, drop, refl, sym, ap, ◌∙◌, subst, arith}
use Rattle.std.specs.Prelude.{ℤ, All, slice_index_or}
use Rattle.std.proofs.lemmas.Bool.{and_parts, eqb-true, ne_eqb}
use Rattle.std.proofs.lemmas.List.{append_assoc, drop_more}
use Rattle.std.proofs.lemmas.List.Elements.{All-cons, All-head, All-nil, All-tail}
use Rattle.opgen_num.specs.Words.{xor, majority, sum_with}
use Rattle.opgen_net.specs.declared.node.Node.{Node}
use Rattle.opgen_net.specs.declared.word_bits.WordBit.{WordBit}
use Rattle.opgen_net.specs.declared.word_bits.WordBit.TheVariants.{Zero, One, Of}
use Rattle.opgen_net.specs.Flow.{Inputs}
use Rattle.opgen_net.specs.WordRule.{bit_flow, word_flow}
use Rattle.opgen_net.proofs.BitLists.{reverse-cons}
use Rattle.opgen_pieces.specs.Recipe.{is_passed, passed_bit, passed_bits, summed}
use Rattle.opgen_pieces.proofs.WordSums.{same-bit, same-carry, turned, turned_bit, turned-cons}

-- at each place of two words 0 is added or taken off
abbrev pub AllPassed : (is_minus : Bool) → (first second : List WordBit) → Type 0
AllPassed m [] [] = Unit {0}
AllPassed m (a ∷ first) (b ∷ second) = (is_passed m a b ≡ true) × AllPassed m first second
AllPassed m [] (b ∷ second) = ⊥
AllPassed m (a ∷ first) [] = ⊥

pub length-passed_bits : (first second : List WordBit) → length second ≡ length first → length (passed_bits first second) ≡ length first
length-passed_bits [] [] h = refl
length-passed_bits [] (b ∷ second) h = absurd (omega (arith, h))
length-passed_bits (a ∷ first) [] h = absurd (omega (arith, h))
length-passed_bits (a ∷ first) (b ∷ second) h = omega (arith, length-passed_bits first second (omega (arith, h)))

-- what holds of both words' bits holds of the bits that are passed on
passed-all_at : (P : WordBit → Type 0) (a b : WordBit) → P a → P b → P (passed_bit a b)
passed-all_at P a Zero f g = f
passed-all_at P a One f g = g
passed-all_at P a (Of node index) f g = g

pub passed-all : (P : WordBit → Type 0) (first second : List WordBit) → All P first → All P second → All P (passed_bits first second)
passed-all P [] second f g = All-nil P
passed-all P (a ∷ first) [] f g = All-nil P
passed-all P (a ∷ first) (b ∷ second) f g =
    All-cons P (passed_bit a b) (passed_bits first second) (passed-all_at P a b (All-head P a first f) (All-head P b second g))
    (passed-all P first second (All-tail P a first f) (All-tail P b second g))

-- how many places need a sum

either-count : (c : Bool) (rest n : ℕ) → rest ≤ n → (if c then 0 else suc rest) ≤ suc n
either-count true rest n h = omega (arith, h)
either-count false rest n h = omega (arith, h)

pub summed-most : (m : Bool) (first second : List WordBit) → summed m first second ≤ length first
summed-most m [] second = omega arith
summed-most m (a ∷ first) [] = omega arith
summed-most m (a ∷ first) (b ∷ second) =
    let rest = summed m first second in
    either-count (nat_eq rest 0 && is_passed m a b) rest (length first) (summed-most m first second)

either-passed : (m : Bool) (a b : WordBit) (first second : List WordBit) (rest : ℕ) → AllPassed m (drop rest first) (drop rest second)
    → (c : Bool) → (c ≡ true → (rest ≡ 0) × (is_passed m a b ≡ true))
    → AllPassed m (drop (if c then 0 else suc rest) (a ∷ first)) (drop (if c then 0 else suc rest) (b ∷ second))
either-passed m a b first second rest h true f = ((f refl).1, subst (λ n. AllPassed m (drop n first) (drop n second)) (f refl).0 h)
either-passed m a b first second rest h false f = h

-- the others are passed on
pub summed-passed : (m : Bool) (first second : List WordBit) → length second ≡ length first
    → AllPassed m (drop (summed m first second) first) (drop (summed m first second) second)
summed-passed m [] [] h = tt
summed-passed m [] (b ∷ second) h = absurd (omega (arith, h))
summed-passed m (a ∷ first) [] h = absurd (omega (arith, h))
summed-passed m (a ∷ first) (b ∷ second) h =
    let rest = summed m first second in
    either-passed m a b first second rest (summed-passed m first second (omega (arith, h))) (nat_eq rest 0 && is_passed m a b)
    (λ e. let parts = and_parts (nat_eq rest 0) (is_passed m a b) e in (eqb-true rest 0 parts.0, parts.1))

-- where all are passed on, none needs a sum
pub summed-none : (m : Bool) (first second : List WordBit) → AllPassed m first second → summed m first second ≡ 0
summed-none m [] second h = refl
summed-none m (a ∷ first) [] h = refl
summed-none m (a ∷ first) (b ∷ second) h =
    ap (λ n. if nat_eq n 0 && is_passed m a b then 0 else suc n) (summed-none m first second h.1)
    ∙ ap (λ c. if c then 0 else suc 0) h.0

-- and otherwise those down to the lowest that is not
pub summed-at : (m : Bool) (j : ℕ) (first second : List WordBit) → length second ≡ length first → j < length first
    → AllPassed m (drop (suc j) first) (drop (suc j) second)
    → is_passed m (slice_index_or first j Zero) (slice_index_or second j Zero) ≡ false → summed m first second ≡ suc j
summed-at m j [] second h l all e = absurd (omega (arith, l))
summed-at m j (a ∷ first) [] h l all e = absurd (omega (arith, h))
summed-at m zero (a ∷ first) (b ∷ second) h l all e =
    ap (λ n. if nat_eq n 0 && is_passed m a b then 0 else suc n) (summed-none m first second all)
    ∙ ap (λ c. if c then 0 else suc 0) e
summed-at m (suc j) (a ∷ first) (b ∷ second) h l all e =
    ap (λ n. if nat_eq n 0 && is_passed m a b then 0 else suc n)
    (summed-at m j first second (omega (arith, h)) (omega (arith, l)) all e)
    ∙ ap (λ c. if c && is_passed m a b then 0 else suc (suc j)) (ne_eqb (suc j) 0 (λ z. omega (arith, z)))

-- above the lowest place, and one place down
pub passed-end : (m : Bool) (first second : List WordBit) → length second ≡ length first
    → AllPassed m (drop (length first) first) (drop (length first) second)
passed-end m [] [] h = tt
passed-end m [] (b ∷ second) h = absurd (omega (arith, h))
passed-end m (a ∷ first) [] h = absurd (omega (arith, h))
passed-end m (a ∷ first) (b ∷ second) h = passed-end m first second (omega (arith, h))

pub passed-down : (m : Bool) (j : ℕ) (first second : List WordBit) → length second ≡ length first → j < length first
    → AllPassed m (drop (suc j) first) (drop (suc j) second)
    → is_passed m (slice_index_or first j Zero) (slice_index_or second j Zero) ≡ true → AllPassed m (drop j first) (drop j second)
passed-down m j [] second h l all e = absurd (omega (arith, l))
passed-down m j (a ∷ first) [] h l all e = absurd (omega (arith, h))
passed-down m zero (a ∷ first) (b ∷ second) h l all e = (e, all)
passed-down m (suc j) (a ∷ first) (b ∷ second) h l all e = passed-down m j first second (omega (arith, h)) (omega (arith, l)) all e

-- the bits of the places from one on
pub passed-step : (first second : List WordBit) (j : ℕ) (a b : WordBit) → j < length first → j < length second
    → a ≡ slice_index_or first j a → b ≡ slice_index_or second j b
    → passed_bits (drop j first) (drop j second) ≡ passed_bit a b ∷ passed_bits (drop (j + 1) first) (drop (j + 1) second)
passed-step first second j a b l m e f =
    ap (λ bits. passed_bits bits (drop j second)) (drop_more first j a l ∙ ap (λ x. x ∷ drop (j + 1) first) (sym e))
    ∙ ap (passed_bits (a ∷ drop (j + 1) first)) (drop_more second j b m ∙ ap (λ x. x ∷ drop (j + 1) second) (sym f))

-- the sum of words whose lowest places are passed on
module _ (nodes : List Node) (inputs : Inputs) (t : ℤ) where
  abbrev at : WordBit → Bool
  at = bit_flow nodes inputs t

  -- one place: its bit, and the carry
  passed-place : (m : Bool) (a b : WordBit) → is_passed m a b ≡ true
      → (xor (xor (at a) (turned_bit m (at b))) m ≡ at (passed_bit a b)) × (majority (at a) (turned_bit m (at b)) m ≡ m)
  passed-place false a Zero h = (same-bit false (at a), same-carry false (at a))
  passed-place true a Zero h = (same-bit true (at a), same-carry true (at a))
  passed-place false Zero One h = (refl, refl)
  passed-place false Zero (Of node index) h = second-bit (at (Of node index))
    where
      second-bit : (y : Bool) → (xor (xor false y) false ≡ y) × (majority false y false ≡ false)
      second-bit false = (refl, refl)
      second-bit true = (refl, refl)
  passed-place false One One h = absurd (cc)
  passed-place false One (Of node index) h = absurd (cc)
  passed-place false (Of n i) One h = absurd (cc)
  passed-place false (Of n i) (Of node index) h = absurd (cc)
  passed-place true Zero One h = absurd (cc)
  passed-place true Zero (Of node index) h = absurd (cc)
  passed-place true One One h = absurd (cc)
  passed-place true One (Of node index) h = absurd (cc)
  passed-place true (Of n i) One h = absurd (cc)
  passed-place true (Of n i) (Of node index) h = absurd (cc)

  reverse-into : (x : Bool) (v w : List Bool) → reverse (x ∷ v) ++ w ≡ reverse v ++ x ∷ w
  reverse-into x v w = ap (λ u. u ++ w) (reverse-cons x v) ∙ append_assoc (reverse v) (x ∷ []) w

  pub passed-sum : (m : Bool) (first second : List WordBit) → AllPassed m first second → (x y : List Bool)
      → sum_with m (word_flow nodes inputs first t ++ x) (turned m (word_flow nodes inputs second t ++ y))
      ≡ word_flow nodes inputs (passed_bits first second) t ++ sum_with m x (turned m y)
  passed-sum m [] [] h x y = refl
  passed-sum m [] (b ∷ second) h x y = absurd h
  passed-sum m (a ∷ first) [] h x y = absurd h
  passed-sum m (a ∷ first) (b ∷ second) h x y =
      let place = passed-place m a b h.0 in
      let passed = passed_bits first second in
      ap (λ v. sum_with m v (turned m (word_flow nodes inputs (b ∷ second) t ++ y))) (reverse-into (at a) (map at first) x)
      ∙ ap (λ v. sum_with m (word_flow nodes inputs first t ++ at a ∷ x) (turned m v)) (reverse-into (at b) (map at second) y)
      ∙ passed-sum m first second h.1 (at a ∷ x) (at b ∷ y)
      ∙ ap (λ v. word_flow nodes inputs passed t ++ v)
      (ap (sum_with m (at a ∷ x)) (turned-cons m (at b) y)
      ∙ ap (λ k. xor (xor (at a) (turned_bit m (at b))) m ∷ sum_with k x (turned m y)) place.1
      ∙ ap (λ p. p ∷ sum_with m x (turned m y)) place.0)
      ∙ sym (reverse-into (at (passed_bit a b)) (map at passed) (sum_with m x (turned m y)))
