-- A bit more at the end of a column, by empty columns up to it and a change of that column.
use Rattle.std.proofs.Common.{◌≡◌, ℕ, zero, suc, ◌+◌, ◌-◌, ◌<◌, ◌≤◌, List, [], ◌∷◌, ◌++◌, length, refl, sym, ap, ◌∙◌, arith}
use Rattle.std.specs.Prelude.{replicate, slice_set, slice_index_or}
use Rattle.std.proofs.lemmas.List.{append-nil, append_assoc}
use Rattle.opgen_net.specs.declared.word_bits.WordBit.{WordBit}
use Rattle.opgen_heap.specs.Adding.{with_bit_at}

pub with_bit-set : (cs : List (List WordBit)) (k : ℕ) (b : WordBit) (n : ℕ) → n ≡ k + 1 - length cs
    → slice_set (cs ++ replicate n []) k (slice_index_or (cs ++ replicate n []) k [] ++ b ∷ []) ≡ with_bit_at cs k b
with_bit-set [] zero b zero e = absurd (omega (arith, e))
with_bit-set [] zero b (suc zero) e = refl
with_bit-set [] zero b (suc (suc n)) e = absurd (omega (arith, e))
with_bit-set [] (suc k) b zero e = absurd (omega (arith, e))
with_bit-set [] (suc k) b (suc n) e = ap (λ r. [] ∷ r) (with_bit-set [] k b n (omega (arith, e)))
with_bit-set (c ∷ cs) zero b zero e = ap (λ r. (c ++ b ∷ []) ∷ r) (append-nil cs)
with_bit-set (c ∷ cs) zero b (suc n) e = absurd (omega (arith, e))
with_bit-set (c ∷ cs) (suc k) b n e = ap (λ r. c ∷ r) (with_bit-set cs k b n (omega (arith, e)))

-- an empty column more, of those that are to come
pub one_column : (cs : List (List WordBit)) (count n : ℕ) → n ≡ length cs + 1 → n ≤ count
    → (cs ++ [] ∷ []) ++ replicate (count - n) [] ≡ cs ++ replicate (count - length cs) []
one_column cs count n e h =
    let next : count - length cs ≡ suc (count - n) = omega (arith, e, h) in
    append_assoc cs ([] ∷ []) (replicate (count - n) []) ∙ ap (λ k. cs ++ replicate k []) (sym next)

pub length-with_bit_at : (cs : List (List WordBit)) (k : ℕ) (b : WordBit) (n : ℕ) → length cs ≤ n → k < n → length (with_bit_at cs k b) ≤ n
length-with_bit_at [] zero b n h l = omega (arith, l)
length-with_bit_at [] (suc k) b zero h l = absurd (omega (arith, l))
length-with_bit_at [] (suc k) b (suc n) h l = omega (arith, length-with_bit_at [] k b n (omega arith) (omega (arith, l)))
length-with_bit_at (c ∷ cs) zero b n h l = omega (arith, h)
length-with_bit_at (c ∷ cs) (suc k) b zero h l = absurd (omega (arith, l))
length-with_bit_at (c ∷ cs) (suc k) b (suc n) h l = omega (arith, length-with_bit_at cs k b n (omega (arith, h)) (omega (arith, l)))
