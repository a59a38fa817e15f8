-- What holds of all bits of a heap, and of what is added, holds of all bits after it was added.
use Rattle.std.proofs.Common.{ℕ, zero, suc, ◌+◌, ◌<◌, true, false, List, [], ◌∷◌, ◌++◌, arith}
use Rattle.std.specs.Prelude.{All, nat_lt, if◌then◌else◌}
use Rattle.std.proofs.lemmas.List.Elements.{All-cons, All-nil, All-push}
use Rattle.opgen_net.specs.declared.word_bits.WordBit.{WordBit}
use Rattle.opgen_net.specs.declared.word_bits.WordBit.TheVariants.{Of}
use Rattle.opgen_heap.specs.Contents.{Contents}
use Rattle.opgen_heap.specs.Adding.{with_bit_at, with_bit, with_row}

module _ (P : WordBit → Type 0) where
  abbrev pub AllBits : List (List WordBit) → Type 0
  AllBits columns = All (All P) columns

  first : (c : List WordBit) (cs : List (List WordBit)) → AllBits (c ∷ cs) → All P c
  first c cs h = h 0 c (omega arith)

  rest : (c : List WordBit) (cs : List (List WordBit)) → AllBits (c ∷ cs) → AllBits cs
  rest c cs h = λ k d l. h (suc k) d (omega (arith, l))

  bit_at-all : (cs : List (List WordBit)) (place : ℕ) (b : WordBit) → P b → AllBits cs → AllBits (with_bit_at cs place b)
  bit_at-all [] zero b p h = All-cons (All P) (b ∷ []) [] (All-cons P b [] p (All-nil P)) (All-nil (All P))
  bit_at-all [] (suc k) b p h = All-cons (All P) [] (with_bit_at [] k b) (All-nil P) (bit_at-all [] k b p h)
  bit_at-all (c ∷ cs) zero b p h = All-cons (All P) (c ++ b ∷ []) cs (All-push P c b (first c cs h) p) (rest c cs h)
  bit_at-all (c ∷ cs) (suc k) b p h = All-cons (All P) c (with_bit_at cs k b) (first c cs h) (bit_at-all cs k b p (rest c cs h))

  pub with_bit-all : (heap : Contents) (b : WordBit) (weight : ℕ) → P b → AllBits heap.columns → AllBits (with_bit heap b weight).columns
  with_bit-all heap b weight p h =
      elim (nat_lt weight heap.width) as (
      λ c. AllBits (if c then record heap { columns = with_bit_at heap.columns weight b } else heap).columns
      ) [ true ↦ bit_at-all heap.columns weight b p h | false ↦ h ]

  pub with_row-all : (heap : Contents) (node count weight : ℕ) → ((i : ℕ) → i < count → P (Of node i)) → AllBits heap.columns
      → AllBits (with_row heap node count weight).columns
  with_row-all heap node zero weight p h = h
  with_row-all heap node (suc k) weight p h =
      with_bit-all (with_row heap node k weight) (Of node k) (weight + k) (p k (omega arith))
      (with_row-all heap node k weight (λ i l. p i (omega (arith, l))) h)
