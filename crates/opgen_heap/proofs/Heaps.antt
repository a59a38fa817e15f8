-- Bits and constants that are added keep a heap within its width.
use Rattle.std.proofs.Common.{◌≡◌, ℕ, zero, suc, ◌+◌, ◌^◌, ◌<◌, ◌≤◌, Bool, true, false, length, refl}
use Rattle.std.specs.Prelude.{ℤ, pos, ◌+ℤ◌, nat_lt, if◌then◌else◌}
use Rattle.std.proofs.lemmas.Bool.{ltb-true}
use Rattle.std.proofs.lemmas.Nat.{pow_pos}
use Rattle.opgen_heap.specs.Adding.{with_bit_at, with_bit, with_row, with_constant}
use Rattle.opgen_heap.specs.Contents.{Contents}
use Rattle.opgen_heap.proofs.Columns.{length-with_bit_at}
use Rattle.opgen_heap.proofs.Residues.{residue-below}
use Rattle.opgen_net.specs.declared.word_bits.WordBit.{WordBit}
use Rattle.opgen_net.specs.declared.word_bits.WordBit.TheVariants.{Of}

-- its constant is below 2 to the width, and it has no more columns
pub record IsHeap (heap : Contents) : Type 0 where
  pub below : heap.constant < 2 ^ heap.width
  pub few : length heap.columns ≤ heap.width

pub constant-heap : (heap : Contents) (z : ℤ) → IsHeap heap → IsHeap (with_constant heap z)
constant-heap heap z h = record {
  below = residue-below (pos heap.constant +ℤ z) (2 ^ heap.width) (pow_pos heap.width);
  few = h.few;
}

pub bit-heap : (heap : Contents) (b : WordBit) (weight : ℕ) → IsHeap heap → IsHeap (with_bit heap b weight)
bit-heap heap b weight h = by (nat_lt weight heap.width) (ltb-true weight heap.width)
  where
    by : (c : Bool) → (c ≡ true → weight < heap.width)
        → IsHeap (if c then record heap { columns = with_bit_at heap.columns weight b } else heap)
    by true within = record { below = h.below; few = length-with_bit_at heap.columns weight b heap.width h.few (within refl) }
    by false within = h

pub row-heap : (heap : Contents) (node count weight : ℕ) → IsHeap heap → IsHeap (with_row heap node count weight)
row-heap heap node zero weight h = h
row-heap heap node (suc k) weight h = bit-heap (with_row heap node k weight) (Of node k) (weight + k) (row-heap heap node k weight h)
