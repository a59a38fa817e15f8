-- The bits of a heap, and its sum, over a net that has grown.
use Rattle.std.proofs.Common.{◌≡◌, suc, ◌+◌, ◌%◌, ◌^◌, List, [], ◌∷◌, refl, ap, arith}
use Rattle.std.specs.Prelude.{ℤ, false, All, slice_index_or}
use Rattle.opgen_num.specs.Words.{digit}
use Rattle.opgen_net.specs.declared.net.Net.{Net}
use Rattle.opgen_net.specs.declared.word_bits.WordBit.{WordBit}
use Rattle.opgen_net.specs.declared.word_bits.WordBit.TheVariants.{Zero, One, Of}
use Rattle.opgen_net.specs.Flow.{Inputs, flow}
use Rattle.opgen_net.specs.Grown.{HasGrown}
use Rattle.opgen_net.specs.Valid.{widths}
use Rattle.opgen_net.specs.WordRule.{IsThere}
use Rattle.opgen_net.proofs.FlowLaws.{index_within, length-widths}
use Rattle.opgen_net.proofs.Grown.{grown-flow}
use Rattle.opgen_heap.specs.Contents.{Contents}
use Rattle.opgen_heap.specs.Standing.{AllThere}
use Rattle.opgen_heap.specs.Sum.{bit_under, ones, columns_sum, heap_sum}

module _ (old new : Net) (grown : HasGrown old new) where
  module _ (inputs : Inputs) (t : ℤ) where
    pub bit-kept : (b : WordBit) → IsThere (widths old.nodes) b
        → bit_under (λ n. flow new.nodes inputs n t) b ≡ bit_under (λ n. flow old.nodes inputs n t) b
    bit-kept Zero h = refl
    bit-kept One h = refl
    bit-kept (Of node index) h =
        ap (λ w. slice_index_or w index false)
        (grown-flow old new grown inputs node t (omega (arith, index_within (widths old.nodes) node index h, length-widths old.nodes)))

    pub ones-kept : (bs : List WordBit) → All (IsThere (widths old.nodes)) bs
        → ones (λ n. flow new.nodes inputs n t) bs ≡ ones (λ n. flow old.nodes inputs n t) bs
    ones-kept [] h = refl
    ones-kept (b ∷ bs) h =
        omega (arith, ap digit (bit-kept b (h 0 b (omega arith))), ones-kept bs (λ k d l. h (suc k) d (omega (arith, l))))

    pub columns_sum-kept : (cs : List (List WordBit)) → AllThere old cs
        → columns_sum (λ n. flow new.nodes inputs n t) cs ≡ columns_sum (λ n. flow old.nodes inputs n t) cs
    columns_sum-kept [] h = refl
    columns_sum-kept (c ∷ cs) h =
        omega (arith, ones-kept c (h 0 c (omega arith)), columns_sum-kept cs (λ k d l. h (suc k) d (omega (arith, l))))

    pub sum-kept : (heap : Contents) → AllThere old heap.columns
        → heap_sum (λ n. flow new.nodes inputs n t) heap ≡ heap_sum (λ n. flow old.nodes inputs n t) heap
    sum-kept heap h = ap (λ s. (s + heap.constant) % 2 ^ heap.width) (columns_sum-kept heap.columns h)
