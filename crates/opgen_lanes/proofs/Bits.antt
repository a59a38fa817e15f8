-- The bits of words.
use Rattle.std.proofs.Common.{◌≡◌, ℕ, zero, suc, ◌+◌, ◌-◌, ◌*◌, ◌/◌, ◌<◌, ◌≤◌, Bool, true, false, ◌&&◌, if◌then◌else◌, List, [], ◌∷◌, ◌++◌, length, not, take, drop, get_or, append_assoc, eqb, refl, sym, ap, ◌∙◌, arith}
use Rattle.std.specs.Prelude.{slice_set}
use Rattle.std.specs.Int.{bit_at}
use Rattle.std.proofs.lemmas.Bool.{eqb-true, eqb-false}
use Rattle.std.proofs.lemmas.Nat.Bits.{bit_at-suc, bit_at_lowest, bit_at-zero}
use Rattle.std.proofs.lemmas.List.{drop_at, drop_more, drop-set-lt, take_at, take_more_set, length-take-le, length-append, map-append, drop-map}
use Rattle.std.specs.List.{take-map}
use Rattle.opgen_num.specs.Words.{majority, sum_with, xor, digit, nat}
use Rattle.opgen_num.proofs.Words.{digit-below, low-bit}
use Rattle.opgen_streams.specs.Streams.{bit_in, word_in}

-- the bits of the number that a word stands for
pub bit-is : (w : List Bool) (i : ℕ) → eqb (bit_at (nat w) i) 1 ≡ get_or w i false
bit-is [] i = ap (λ n. eqb n 1) (bit_at-zero i)
bit-is (b ∷ w) zero = ap (λ n. eqb n 1) (bit_at_lowest (digit b + 2 * nat w)) ∙ low-bit b (nat w)
bit-is (b ∷ w) (suc i) =
    let half : (digit b + 2 * nat w) / 2 ≡ nat w = omega (arith, digit-below b) in
    ap (λ n. eqb n 1) (bit_at-suc (digit b + 2 * nat w) i)
    ∙ ap (λ n. eqb (bit_at n i) 1) half
    ∙ bit-is w i

-- one more bit of a word, from what is left
grown : (first : List (List ℕ)) (p k : ℕ) (d : List ℕ) (left rest all : List Bool) → p < length first → left ≡ bit_in d k ∷ rest
    → word_in (take p first) k ++ left ≡ all
    → word_in (take (p + 1) (slice_set first p d)) k ++ rest ≡ all
grown first p k d left rest all l e h =
    let w = word_in (take p first) k in
    ap (λ vs. word_in vs k ++ rest) (take_more_set first p d l)
    ∙ ap (λ bs. bs ++ rest) (map-append (λ v. bit_in v k) (take p first) (d ∷ []))
    ∙ append_assoc w (bit_in d k ∷ []) rest
    ∙ sym (ap (λ bs. w ++ bs) e)
    ∙ h

kept : (first : List (List ℕ)) (p k : ℕ) (d : List ℕ) → word_in (drop (p + 1) (slice_set first p d)) k ≡ word_in (drop (p + 1) first) k
kept first p k d = ap (λ vs. word_in vs k) (drop-set-lt (p + 1) first p d (omega arith))

-- one more bit of a sum
pub summed : (first : List (List ℕ)) (p k : ℕ) (d : List ℕ) (c e b : Bool) (left rest all : List Bool) → p < length first
    → left ≡ b ∷ rest
    → bit_in d k ≡ xor (xor (bit_in (get_or first p []) k) b) c
    → e ≡ majority (bit_in (get_or first p []) k) b c
    → word_in (take p first) k ++ sum_with c (word_in (drop p first) k) left ≡ all
    → word_in (take (p + 1) (slice_set first p d)) k ++ sum_with e (word_in (drop (p + 1) (slice_set first p d)) k) rest ≡ all
summed first p k d c e b left rest all l f x y h =
    let a = bit_in (get_or first p []) k in
    let xs = word_in (drop (p + 1) first) k in
    let split : sum_with c (word_in (drop p first) k) left ≡ xor (xor a b) c ∷ sum_with (majority a b c) xs rest =
    ap (λ vs. sum_with c (word_in vs k) left) (drop_more first p [] l) ∙ ap (sum_with c (a ∷ xs)) f in
    grown first p k d (sum_with c (word_in (drop p first) k) left) (sum_with e (word_in (drop (p + 1) (slice_set first p d)) k) rest) all l
    (split
    ∙ ap (λ o. o ∷ sum_with (majority a b c) xs rest) (sym x)
    ∙ ap (λ o. bit_in d k ∷ sum_with o xs rest) (sym y)
    ∙ ap (λ ys. bit_in d k ∷ sum_with e ys rest) (sym (kept first p k d)))
    h

-- one more bit of a word that is put where a condition is 1
pub placed : (first : List (List ℕ)) (w : List Bool) (p k : ℕ) (d : List ℕ) (on : Bool) (all : List Bool) → p < length first → p < length w
    → bit_in d k ≡ (if on then get_or w p false else bit_in (get_or first p []) k)
    → word_in (take p first) k ++ (if on then drop p w else word_in (drop p first) k) ≡ all
    → word_in (take (p + 1) (slice_set first p d)) k
    ++ (if on then drop (p + 1) w else word_in (drop (p + 1) (slice_set first p d)) k)
    ≡ all
placed first w p k d true all l m x h = grown first p k d (drop p w) (drop (p + 1) w) all l
    (drop_more w p false m ∙ ap (λ b. b ∷ drop (p + 1) w) (sym x)) h
placed first w p k d false all l m x h =
    grown first p k d (word_in (drop p first) k) (word_in (drop (p + 1) (slice_set first p d)) k) all l
    (ap (λ vs. word_in vs k) (drop_more first p [] l)
    ∙ ap (λ b. b ∷ word_in (drop (p + 1) first) k) (sym x)
    ∙ ap (λ bs. bit_in d k ∷ bs) (sym (kept first p k d)))
    h

-- two numbers are equal if their lowest bits and the rest are
same-if : (a b c d : ℕ) → (a ≡ b → c ≡ d) → (c ≡ d → a ≡ b) → eqb a b ≡ eqb c d
same-if a b c d f g = by-cases (eqb a b) (eqb c d) refl refl
  where
    by-cases : (x y : Bool) → eqb a b ≡ x → eqb c d ≡ y → eqb a b ≡ eqb c d
    by-cases true true e h = e ∙ sym h
    by-cases false false e h = e ∙ sym h
    by-cases true false e h = absurd (eqb-false c d h (f (eqb-true a b e)))
    by-cases false true e h = absurd (eqb-false a b e (g (eqb-true c d h)))

never-same : (a b : ℕ) → (a ≡ b → ⊥) → eqb a b ≡ false
never-same a b f = by-cases (eqb a b) refl
  where
    by-cases : (x : Bool) → eqb a b ≡ x → eqb a b ≡ false
    by-cases true e = absurd (f (eqb-true a b e))
    by-cases false e = e

same-digits : (a b : Bool) (m n : ℕ) → eqb (digit a + 2 * m) (digit b + 2 * n) ≡ xor (not a) b && eqb m n
same-digits false false m n = same-if (0 + 2 * m) (0 + 2 * n) m n (λ e. omega (arith, e)) (ap (λ x. 0 + 2 * x))
same-digits false true m n = never-same (0 + 2 * m) (1 + 2 * n) (λ e. omega (arith, e))
same-digits true false m n = never-same (1 + 2 * m) (0 + 2 * n) (λ e. omega (arith, e))
same-digits true true m n = same-if (1 + 2 * m) (1 + 2 * n) m n (λ e. omega (arith, e)) (ap (λ x. 1 + 2 * x))

-- one more bit of two words that are compared
pub compared : (w : List Bool) (vectors : List (List ℕ)) (p k : ℕ) (same next all : Bool) → p < length w → p < length vectors
    → next ≡ same && xor (not (get_or w p false)) (bit_in (get_or vectors p []) k)
    → same && eqb (nat (drop p w)) (nat (word_in (drop p vectors) k)) ≡ all
    → next && eqb (nat (drop (p + 1) w)) (nat (word_in (drop (p + 1) vectors) k)) ≡ all
compared w vectors p k same next all l m x h =
    let a = get_or w p false in
    let b = bit_in (get_or vectors p []) k in
    let xs = drop (p + 1) w in
    let ys = word_in (drop (p + 1) vectors) k in
    let split : eqb (nat (drop p w)) (nat (word_in (drop p vectors) k)) ≡ xor (not a) b && eqb (nat xs) (nat ys) =
    ap (λ bs. eqb (nat bs) (nat (word_in (drop p vectors) k))) (drop_more w p false l)
    ∙ ap (λ vs. eqb (nat (a ∷ xs)) (nat (word_in vs k))) (drop_more vectors p [] m)
    ∙ same-digits a b (nat xs) (nat ys) in
    ap (λ o. o && eqb (nat xs) (nat ys)) x
    ∙ both-assoc same (xor (not a) b) (eqb (nat xs) (nat ys))
    ∙ sym (ap (λ o. same && o) split)
    ∙ h
  where
    both-assoc : (x y z : Bool) → (x && y) && z ≡ x && (y && z)
    both-assoc true y z = refl
    both-assoc false y z = refl

-- a word moved up, and another one laid below it
pub laid : (first second moved below : List (List ℕ)) (w : ℕ) → w + length second ≤ length first
    → moved ≡ (take (length second) first ++ take (w - 0) first) ++ drop (length second + (w - 0)) first → below ≡ second → (k : ℕ)
    → word_in (take (w + length second) (below ++ drop (length second) moved)) k ≡ word_in second k ++ word_in (take w first) k
laid first second moved below w l e f k =
    let a = length second in
    let z : w - 0 ≡ w = omega arith in
    let front = take w first in
    let rest = drop (a + w) first in
    let n : length (take a first) ≡ a = length-take-le a first (omega (arith, l)) in
    let g : moved ≡ take a first ++ (front ++ rest) =
    e ∙ ap (λ n. (take a first ++ take n first) ++ drop (a + n) first) z ∙ append_assoc (take a first) front rest in
    let high : drop a moved ≡ front ++ rest = ap (drop a) g ∙ drop_at (take a first) (front ++ rest) a n in
    let all : below ++ drop a moved ≡ (second ++ front) ++ rest =
    ap (λ xs. xs ++ drop a moved) f ∙ ap (λ xs. second ++ xs) high ∙ sym (append_assoc second front rest) in
    let long : length (second ++ front) ≡ w + a = omega
    (arith, length-append second front, length-take-le w first (omega (arith, l))) in
    ap (λ xs. word_in (take (w + a) xs) k) all
    ∙ ap (λ xs. word_in xs k) (take_at (second ++ front) rest (w + a) long)
    ∙ map-append (λ v. bit_in v k) second front

-- a part of a word
pub cut-in : (high low : ℕ) (vs : List (List ℕ)) (k : ℕ)
    → word_in (take (high + 1 - low) (drop low vs)) k ≡ take (high + 1 - low) (drop low (word_in vs k))
cut-in high low vs k = sym (take-map (λ v. bit_in v k) (high + 1 - low) (drop low vs))
    ∙ ap (take (high + 1 - low)) (sym (drop-map (λ v. bit_in v k) low vs))
