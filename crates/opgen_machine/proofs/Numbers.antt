-- The numbers of operations on words.
use Rattle.std.proofs.Common.{◌≡◌, ℕ, ◌+◌, ◌-◌, ◌*◌, ◌%◌, ◌^◌, ◌<◌, ◌≤◌, Bool, true, false, List, ◌++◌, length, map, sym, ap, ◌∙◌, subst, arith, pow-add}
use Rattle.std.specs.Prelude.{not, ◌&&◌, ◌||◌, bit_and, bit_or, bit_xor}
use Rattle.std.proofs.Math.Nat.{add-mul-mod_self_left, pow-le-pow_right}
use Rattle.std.proofs.Math.Pow.{mod-mod-pow}
use Rattle.std.proofs.lemmas.Nat.{and_mask, or_lt, xor_lt, or_shifted, shl_whole, pow_pos}
use Rattle.std.specs.Int.Bits.{and_lt}
use Rattle.std.proofs.lemmas.List.{length-map}
use Rattle.opgen_num.specs.Words.{digit, nat, word, xor, pairwise, sum_with}
use Rattle.opgen_num.specs.WordLaws.{nat-word}
use Rattle.opgen_num.proofs.Carries.{nat-not}
use Rattle.opgen_num.proofs.Words.{nat-below}
use Rattle.opgen_num.proofs.Cuts.{nat-append}
use Rattle.opgen_runs.proofs.WordOps.{word-and, word-or, word-xor, word-sum, word-mod}

-- a shorter mask after the wrap
pub masked : (n w : ℕ) → w ≤ 64 → bit_and (n % 2 ^ 64) (2 ^ w - 1) ≡ n % 2 ^ w
masked n w h =
    let e : 64 ≡ 64 - w + w = omega (arith, h) in
    and_mask (n % 2 ^ 64) w ∙ ap (λ k. n % 2 ^ k % 2 ^ w) e ∙ mod-mod-pow n (64 - w) w

below-mod : (n w : ℕ) → n % 2 ^ w < 2 ^ w
below-mod n w = omega (arith, pow_pos w)

-- the number of a word that is the word of a number
pub number-of : (w n : ℕ) (v : List Bool) → word w n ≡ v → nat v ≡ n % 2 ^ w
number-of w n v e = sym (ap nat e) ∙ sym (ap nat (word-mod w n)) ∙ nat-word w (n % 2 ^ w) (below-mod n w)

pub number-whole : (w n : ℕ) (v : List Bool) → n < 2 ^ w → word w n ≡ v → nat v ≡ n
number-whole w n v h e = sym (ap nat e) ∙ nat-word w n h

pub nat-and : (a b : List Bool) → length a ≡ length b → nat (pairwise ◌&&◌ a b) ≡ bit_and (nat a) (nat b)
nat-and a b h = number-whole (length a) (bit_and (nat a) (nat b)) (pairwise ◌&&◌ a b)
    (and_lt (length a) (nat a) (nat b) (nat-below a) (subst (λ n. nat b < 2 ^ n) (sym h) (nat-below b))) (word-and a b h)

pub nat-or : (a b : List Bool) → length a ≡ length b → nat (pairwise ◌||◌ a b) ≡ bit_or (nat a) (nat b)
nat-or a b h = number-whole (length a) (bit_or (nat a) (nat b)) (pairwise ◌||◌ a b)
    (or_lt (length a) (nat a) (nat b) (nat-below a) (subst (λ n. nat b < 2 ^ n) (sym h) (nat-below b))) (word-or a b h)

pub nat-xor : (a b : List Bool) → length a ≡ length b → nat (pairwise xor a b) ≡ bit_xor (nat a) (nat b)
nat-xor a b h = number-whole (length a) (bit_xor (nat a) (nat b)) (pairwise xor a b)
    (xor_lt (length a) (nat a) (nat b) (nat-below a) (subst (λ n. nat b < 2 ^ n) (sym h) (nat-below b))) (word-xor a b h)

pub nat-turn : (a : List Bool) (w : ℕ) → length a ≡ w → w ≤ 64 → nat (map not a) ≡ ((2 ^ w - 1) + (2 ^ 64 - nat a)) % 2 ^ 64
nat-turn a w e h =
    let most : 2 ^ w ≤ 2 ^ 64 = pow-le-pow_right {n = 2} (omega arith) {i = w} {j = 64} h in
    let p : nat (map not a) + nat a + 1 ≡ 2 ^ w = nat-not a ∙ ap (λ n. 2 ^ n) e in
    let s : (2 ^ w - 1) + (2 ^ 64 - nat a) ≡ 2 ^ 64 + nat (map not a) = omega (arith, p, most) in
    let r : nat (map not a) ≡ (2 ^ 64 + nat (map not a)) % 2 ^ 64 = omega (arith, p, most) in
    r ∙ sym (ap (λ n. n % 2 ^ 64) s)

pub nat-sum : (k : Bool) (a b : List Bool) → length a ≡ length b → nat (sum_with k a b) ≡ (nat a + nat b + digit k) % 2 ^ length a
nat-sum k a b h = number-of (length a) (nat a + nat b + digit k) (sum_with k a b) (word-sum k a b h)

pub nat-add : (a b : List Bool) (w : ℕ) → length a ≡ w → length b ≡ w → w ≤ 64
    → nat (sum_with false a b) ≡ bit_and ((nat a + nat b) % 2 ^ 64) (2 ^ w - 1)
nat-add a b w e f h =
    let z : nat a + nat b + 0 ≡ nat a + nat b = omega arith in
    nat-sum false a b (e ∙ sym f) ∙ ap (λ n. n % 2 ^ length a) z ∙ ap (λ n. (nat a + nat b) % 2 ^ n) e ∙ sym (masked (nat a + nat b) w h)

pub nat-subtract : (a b : List Bool) (w : ℕ) → length a ≡ w → length b ≡ w → w ≤ 64
    → nat (sum_with true a (map not b)) ≡ bit_and ((nat a + (2 ^ 64 - nat b)) % 2 ^ 64) (2 ^ w - 1)
nat-subtract a b w e f h =
    let p : nat (map not b) + nat b + 1 ≡ 2 ^ w = nat-not b ∙ ap (λ n. 2 ^ n) f in
    let k = 2 ^ (64 - w) - 1 in
    let q : 2 ^ (64 - w) ≡ k + 1 = omega (arith, pow_pos (64 - w)) in
    let n : 64 ≡ w + (64 - w) = omega (arith, h) in
    let whole : 2 ^ 64 ≡ 2 ^ w * (k + 1) = ap (λ i. 2 ^ i) n ∙ pow-add 2 w (64 - w) ∙ ap (λ i. 2 ^ w * i) q in
    let total : nat a + (2 ^ 64 - nat b) ≡ nat a + nat (map not b) + 1 + 2 ^ w * k = omega (arith, p, whole) in
    nat-sum true a (map not b) (e ∙ sym f ∙ sym (length-map b not))
    ∙ ap (λ i. (nat a + nat (map not b) + 1) % 2 ^ i) e
    ∙ sym (add-mul-mod_self_left (nat a + nat (map not b) + 1) (2 ^ w) k)
    ∙ sym (ap (λ i. i % 2 ^ w) total)
    ∙ sym (masked (nat a + (2 ^ 64 - nat b)) w h)

pub nat-join : (a b : List Bool) → length a + length b ≤ 64 → nat (b ++ a) ≡ bit_or (nat a * 2 ^ length b % 2 ^ 64) (nat b)
nat-join a b h =
    let e : nat b + 2 ^ length b * nat a ≡ nat a * 2 ^ length b + nat b = omega arith in
    nat-append b a
    ∙ e
    ∙ sym (or_shifted (nat a) (length b) (nat b) (nat-below b))
    ∙ sym (ap (λ n. bit_or n (nat b)) (shl_whole (nat a) (length a) (length b) 64 (nat-below a) h))
