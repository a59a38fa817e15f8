-- What is added to a bit heap raises its sum by its value.
use Rattle.std.proofs.Common.{◌≡◌, ℕ, zero, suc, ◌+◌, ◌*◌, ◌%◌, ◌-◌, ◌^◌, ◌<◌, ◌≤◌, ℤ, pos, ◌+ℤ◌, Bool, true, false, List, [], ◌∷◌, ◌++◌, take, pow-add, inl, inr, refl, sym, ap, ◌∙◌, arith}
use Rattle.std.specs.Prelude.{nat_lt, min, slice_index_or, if◌then◌else◌}
use Rattle.std.proofs.Math.Nat.{two-pow-succ, add-mod-mod, mod-add-mod, add-mul-mod_self_left}
use Rattle.std.proofs.lemmas.Bool.{ltb-false, ltb-true, cases_order}
use Rattle.opgen_num.specs.Words.{digit, nat}
use Rattle.opgen_net.specs.declared.word_bits.WordBit.{WordBit}
use Rattle.opgen_net.specs.declared.word_bits.WordBit.TheVariants.{Of}
use Rattle.opgen_heap.specs.Contents.{Contents}
use Rattle.opgen_heap.specs.Sum.{Words, bit_under, ones, columns_sum, heap_sum}
use Rattle.opgen_heap.specs.Adding.{with_bit_at, with_bit, with_row, residue, with_constant}
use Rattle.opgen_heap.proofs.Residues.{residue-sum}

pub ones-append : (words : Words) (bs cs : List WordBit) → ones words (bs ++ cs) ≡ ones words bs + ones words cs
ones-append words [] cs = omega arith
ones-append words (b ∷ bs) cs = omega (arith, ones-append words bs cs)

double : (d k : ℕ) → d * 2 ^ suc k ≡ d * 2 ^ k + d * 2 ^ k
double d k = ap (λ n. d * n) (two-pow-succ k) ∙ omega arith

columns_sum-with_bit_at : (words : Words) (cs : List (List WordBit)) (k : ℕ) (b : WordBit)
    → columns_sum words (with_bit_at cs k b) ≡ columns_sum words cs + digit (bit_under words b) * 2 ^ k
columns_sum-with_bit_at words [] zero b = omega arith
columns_sum-with_bit_at words [] (suc k) b = omega (arith, columns_sum-with_bit_at words [] k b, double (digit (bit_under words b)) k)
columns_sum-with_bit_at words (c ∷ cs) zero b = omega (arith, ones-append words c (b ∷ []))
columns_sum-with_bit_at words (c ∷ cs) (suc k) b = omega (arith, columns_sum-with_bit_at words cs k b, double (digit (bit_under words b)) k)

-- a multiple of the modulus more
unraised : (s d w k : ℕ) → w ≤ k → s % 2 ^ w ≡ (s % 2 ^ w + d * 2 ^ k) % 2 ^ w
unraised s d w k h =
    let whole : w + (k - w) ≡ k = omega (arith, h) in
    let p : 2 ^ k ≡ 2 ^ w * 2 ^ (k - w) = ap (λ n. 2 ^ n) (sym whole) ∙ pow-add 2 w (k - w) in
    let q : d * 2 ^ k ≡ 2 ^ w * (d * 2 ^ (k - w)) = ap (λ n. d * n) p ∙ omega arith in
    sym (
    ap (λ n. (s % 2 ^ w + n) % 2 ^ w) q
    ∙ mod-add-mod s (2 ^ w) (2 ^ w * (d * 2 ^ (k - w)))
    ∙ add-mul-mod_self_left s (2 ^ w) (d * 2 ^ (k - w))
    )

pub with_bit-sum : (words : Words) (heap : Contents) (b : WordBit) (weight : ℕ)
    → heap_sum words (with_bit heap b weight) ≡ (heap_sum words heap + digit (bit_under words b) * 2 ^ weight) % 2 ^ heap.width
with_bit-sum words heap b weight = by (nat_lt weight heap.width) (ltb-false weight heap.width)
  where
    d : ℕ
    d = digit (bit_under words b)

    s : ℕ
    s = columns_sum words heap.columns + heap.constant

    by : (c : Bool) → (c ≡ false → heap.width ≤ weight)
        → heap_sum words (if c then record heap { columns = with_bit_at heap.columns weight b } else heap)
        ≡ (heap_sum words heap + d * 2 ^ weight) % 2 ^ heap.width
    by true h =
        let e : columns_sum words (with_bit_at heap.columns weight b) + heap.constant
        ≡ s + d * 2 ^ weight = omega (arith, columns_sum-with_bit_at words heap.columns weight b) in
        ap (λ n. n % 2 ^ heap.width) e ∙ sym (mod-add-mod s (2 ^ heap.width) (d * 2 ^ weight))
    by false h = unraised s d heap.width weight (h refl)

-- a weight of the heap's width or more adds nothing
pub with_bit-past : (heap : Contents) (b : WordBit) (weight : ℕ) → heap.width ≤ weight → with_bit heap b weight ≡ heap
with_bit-past heap b weight h = by (nat_lt weight heap.width) (ltb-true weight heap.width)
  where
    by : (c : Bool) → (c ≡ true → weight < heap.width) → (if c then record heap { columns = with_bit_at heap.columns weight b } else heap)
        ≡ heap
    by true g = absurd (omega (arith, g refl, h))
    by false g = refl

pub with_bit-width : (heap : Contents) (b : WordBit) (weight : ℕ) → (with_bit heap b weight).width ≡ heap.width
with_bit-width heap b weight = elim (nat_lt weight heap.width) as
    (λ c. (if c then record heap { columns = with_bit_at heap.columns weight b } else heap).width ≡ heap.width)
    [ true ↦ refl | false ↦ refl ]

pub with_row-width : (heap : Contents) (node count weight : ℕ) → (with_row heap node count weight).width ≡ heap.width
with_row-width heap node zero weight = refl
with_row-width heap node (suc k) weight = with_bit-width (with_row heap node k weight) (Of node k) (weight + k)
    ∙ with_row-width heap node k weight

with_row-past : (heap : Contents) (node n j weight : ℕ) → heap.width ≤ weight + n → with_row heap node (n + j) weight
    ≡ with_row heap node n weight
with_row-past heap node n zero weight h = ap (λ k. with_row heap node k weight) (omega arith)
with_row-past heap node n (suc j) weight h =
    let before = with_row heap node (n + j) weight in
    let e : n + suc j ≡ suc (n + j) = omega arith in
    ap (λ k. with_row heap node k weight) e
    ∙ with_bit-past before (Of node (n + j)) (weight + (n + j)) (omega (arith, h, with_row-width heap node (n + j) weight))
    ∙ with_row-past heap node n j weight h

-- of a row only the bits below the heap's width count
pub with_row-kept : (heap : Contents) (node count weight : ℕ) → with_row heap node (min count (heap.width - weight)) weight
    ≡ with_row heap node count weight
with_row-kept heap node count weight = elim (cases_order count (heap.width - weight)) [
  | inl e ↦ ap (λ k. with_row heap node k weight) (omega (arith, e))
  | inr o ↦ elim o [
    | inl b ↦ ap (λ k. with_row heap node k weight) (omega (arith, b))
    | inr b ↦
        let kept = heap.width - weight in
        let least : min count kept ≡ kept = omega (arith, b) in
        let all : kept + (count - kept) ≡ count = omega (arith, b) in
        ap (λ k. with_row heap node k weight) least
        ∙ sym (with_row-past heap node kept (count - kept) weight (omega arith))
        ∙ ap (λ k. with_row heap node k weight) all
  ]
]

-- a bit more of a word's lowest bits
nat-take : (w : List Bool) (k : ℕ) → nat (take (suc k) w) ≡ nat (take k w) + digit (slice_index_or w k false) * 2 ^ k
nat-take [] zero = omega arith
nat-take [] (suc k) = omega arith
nat-take (b ∷ w) zero = omega arith
nat-take (b ∷ w) (suc k) = omega (arith, nat-take w k, double (digit (slice_index_or w k false)) k)

pub with_row-sum : (words : Words) (heap : Contents) (node count weight : ℕ)
    → heap_sum words (with_row heap node count weight) ≡ (heap_sum words heap + nat (take count (words node)) * 2 ^ weight) % 2 ^ heap.width
with_row-sum words heap node zero weight =
    let s = columns_sum words heap.columns + heap.constant in
    let e : s ≡ s + nat (take 0 (words node)) * 2 ^ weight = omega arith in
    ap (λ n. n % 2 ^ heap.width) e ∙ sym (mod-add-mod s (2 ^ heap.width) (nat (take 0 (words node)) * 2 ^ weight))
with_row-sum words heap node (suc k) weight =
    let before = with_row heap node k weight in
    let d = digit (slice_index_or (words node) k false) in
    let low = nat (take k (words node)) in
    let m = 2 ^ heap.width in
    let p : d * 2 ^ (weight + k) ≡ d * 2 ^ k * 2 ^ weight = ap (λ n. d * n) (pow-add 2 weight k) ∙ omega arith in
    let value : nat (take (suc k) (words node)) * 2 ^ weight
    ≡ low * 2 ^ weight + d * 2 ^ (weight + k) = ap (λ n. n * 2 ^ weight) (nat-take (words node) k) ∙ omega (arith, p) in
    let total : (heap_sum words heap + low * 2 ^ weight) + d * 2 ^ (weight + k)
    ≡ heap_sum words heap + nat (take (suc k) (words node)) * 2 ^ weight = omega (arith, value) in
    with_bit-sum words before (Of node k) (weight + k)
    ∙ ap (λ w. (heap_sum words before + d * 2 ^ (weight + k)) % 2 ^ w) (with_row-width heap node k weight)
    ∙ ap (λ s. (s + d * 2 ^ (weight + k)) % m) (with_row-sum words heap node k weight)
    ∙ mod-add-mod (heap_sum words heap + low * 2 ^ weight) m (d * 2 ^ (weight + k))
    ∙ ap (λ n. n % m) total

pub with_constant-sum : (words : Words) (heap : Contents) (z : ℤ) → 0 < 2 ^ heap.width
    → heap_sum words (with_constant heap z) ≡ residue (pos (heap_sum words heap) +ℤ z) (2 ^ heap.width)
with_constant-sum words heap z h =
    let m = 2 ^ heap.width in
    let s = columns_sum words heap.columns in
    let r = residue z m in
    let e : s + (heap.constant + r) ≡ (s + heap.constant) + r = omega arith in
    ap (λ n. (s + n) % m) (residue-sum heap.constant z m h)
    ∙ add-mod-mod s (heap.constant + r) m
    ∙ ap (λ n. n % m) e
    ∙ sym (residue-sum (heap_sum words heap) z m h ∙ mod-add-mod (s + heap.constant) m r)
