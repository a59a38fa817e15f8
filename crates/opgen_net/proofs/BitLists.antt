-- Lists of bits, the highest first, and the words that they make.
use Rattle.std.proofs.Common.{◌≡◌, ℕ, zero, suc, ◌+◌, ◌≤◌, false, List, [], ◌∷◌, ◌++◌, length, map, take, drop, reverse, replicate, refl, sym, ap, ◌∙◌, arith}
use Rattle.std.specs.Prelude.{ℤ, All, slice_index, slice_index_or}
use Rattle.std.proofs.Math.Seq.{take-suc, take-length}
use Rattle.std.proofs.lemmas.List.{get_or-drop, length-drop, length-map, length-reverse, reverse-append}
use Rattle.std.proofs.lemmas.List.Elements.{All-cons, All-nil, All-head, All-tail}
use Rattle.opgen_net.specs.declared.node.Node.{Node}
use Rattle.opgen_net.specs.declared.word_bits.WordBit.{WordBit}
use Rattle.opgen_net.specs.declared.word_bits.WordBit.TheVariants.{Zero, One, Of}
use Rattle.opgen_net.specs.Flow.{Inputs, flow, KeepsFlow}
use Rattle.opgen_net.specs.Valid.{widths}
use Rattle.opgen_net.specs.WordRule.{IsThere, bits_from, bit_flow, word_flow}
use Rattle.opgen_net.proofs.FlowLaws.{index_within, length-widths}

pub reverse-cons : {A : Type 0} (x : A) (xs : List A) → reverse (x ∷ xs) ≡ reverse xs ++ x ∷ []
reverse-cons x xs = reverse-append (x ∷ []) xs

pub length-bits_from : (node low count : ℕ) → length (bits_from node low count) ≡ count
length-bits_from node low zero = refl
length-bits_from node low (suc k) = ap suc (length-bits_from node low k)

pub bits_from-there : (ws : List ℕ) (node low count : ℕ) → low + count ≤ slice_index ws node → All (IsThere ws) (bits_from node low count)
bits_from-there ws node low zero h = All-nil (IsThere ws)
bits_from-there ws node low (suc k) h =
    All-cons (IsThere ws) (Of node (low + k)) (bits_from node low k) (omega (arith, h)) (bits_from-there ws node low k (omega (arith, h)))

pub zeros-there : (ws : List ℕ) (count : ℕ) → All (IsThere ws) (replicate count Zero)
zeros-there ws zero = All-nil (IsThere ws)
zeros-there ws (suc k) = All-cons (IsThere ws) Zero (replicate k Zero) tt (zeros-there ws k)

module _ (nodes : List Node) (inputs : Inputs) (t : ℤ) where
  pub length-word_flow : (given : List WordBit) → length (word_flow nodes inputs given t) ≡ length given
  length-word_flow given = length-reverse (map (bit_flow nodes inputs t) given) ∙ length-map given (bit_flow nodes inputs t)

  -- the word of so many bits of a node from a place up
  pub bits_from-flow : (node low count : ℕ) → low + count ≤ length (flow nodes inputs node t)
      → word_flow nodes inputs (bits_from node low count) t ≡ take count (drop low (flow nodes inputs node t))
  bits_from-flow node low zero h = refl
  bits_from-flow node low (suc k) h =
      let w = flow nodes inputs node t in
      reverse-cons (slice_index_or w (low + k) false) (map (bit_flow nodes inputs t) (bits_from node low k))
      ∙ ap (λ l. l ++ slice_index_or w (low + k) false ∷ []) (bits_from-flow node low k (omega (arith, h)))
      ∙ ap (λ b. take k (drop low w) ++ b ∷ []) (sym (get_or-drop low w k false))
      ∙ sym (take-suc (drop low w) k false (omega (arith, h, length-drop low w)))

  -- all the bits of a node
  pub whole-flow : (node count : ℕ) → length (flow nodes inputs node t) ≡ count
      → word_flow nodes inputs (bits_from node 0 count) t ≡ flow nodes inputs node t
  whole-flow node count h =
      let word = flow nodes inputs node t in
      bits_from-flow node 0 count (omega (arith, h)) ∙ ap (λ n. take n word) (sym h) ∙ take-length word

-- bits of nodes that are there have the same words over nodes that keep the flow
module _ (old new : List Node) (keeps : KeepsFlow old new) (inputs : Inputs) (t : ℤ) where
  pub bit-kept : (b : WordBit) → IsThere (widths old) b → bit_flow new inputs t b ≡ bit_flow old inputs t b
  bit-kept Zero h = refl
  bit-kept One h = refl
  bit-kept (Of node index) h =
      ap (λ w. slice_index_or w index false)
      (keeps inputs node t (omega (arith, index_within (widths old) node index h, length-widths old)))

  bits-kept : (given : List WordBit) → All (IsThere (widths old)) given
      → map (bit_flow new inputs t) given ≡ map (bit_flow old inputs t) given
  bits-kept [] h = refl
  bits-kept (b ∷ bs) h =
      ap (λ x. x ∷ map (bit_flow new inputs t) bs) (bit-kept b (All-head (IsThere (widths old)) b bs h))
      ∙ ap (λ r. bit_flow old inputs t b ∷ r) (bits-kept bs (All-tail (IsThere (widths old)) b bs h))

  pub word-kept : (given : List WordBit) → All (IsThere (widths old)) given → word_flow new inputs given t ≡ word_flow old inputs given t
  word-kept given h = ap reverse (bits-kept given h)
