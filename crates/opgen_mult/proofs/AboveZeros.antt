-- A node's bits above zeros: that they stand in a net, how many they are, and the word that they make.
use Rattle.std.proofs.Common.{◌≡◌, ℕ, zero, suc, ◌+◌, Bool, false, List, [], ◌∷◌, ◌++◌, length, length-append, map, reverse, replicate, refl, ap, ◌∙◌, arith}
use Rattle.std.specs.Prelude.{ℤ, All, slice_index}
use Rattle.std.proofs.lemmas.List.{length-replicate, map-append, reverse-append}
use Rattle.std.proofs.lemmas.List.Elements.{All-append}
use Rattle.opgen_net.specs.declared.net.Net.{Net}
use Rattle.opgen_net.specs.declared.node.Node.{Node}
use Rattle.opgen_net.specs.declared.word_bits.WordBit.{WordBit}
use Rattle.opgen_net.specs.declared.word_bits.WordBit.TheVariants.{Zero}
use Rattle.opgen_net.specs.Flow.{Inputs, flow}
use Rattle.opgen_net.specs.Valid.{widths, IsValid}
use Rattle.opgen_net.specs.WordRule.{IsThere, bits_from, bit_flow, word_flow, HasBits}
use Rattle.opgen_net.proofs.FlowWidths.{flow-width}
use Rattle.opgen_net.proofs.BitLists.{length-bits_from, bits_from-there, zeros-there, whole-flow}
use Rattle.opgen_mult.specs.Shifted.{IsAboveZeros}

abbrev pub given : (node width zeros : ℕ) → List WordBit
given node width zeros = bits_from node 0 width ++ replicate zeros Zero

pub given-count : (node width zeros : ℕ) → length (given node width zeros) ≡ width + zeros
given-count node width zeros =
    omega (arith, length-append (bits_from node 0 width) (replicate zeros Zero), length-bits_from node 0 width, length-replicate zeros Zero)

module _ (ws : List ℕ) where
  pub given-there : (node width zeros : ℕ) → slice_index ws node ≡ width → All (IsThere ws) (given node width zeros)
  given-there node width zeros h =
      All-append (IsThere ws) (bits_from node 0 width) (replicate zeros Zero) (bits_from-there ws node 0 width (omega (arith, h)))
      (zeros-there ws zeros)

module _ (nodes : List Node) (ins : Inputs) (t : ℤ) where
  abbrev f : WordBit → Bool
  f = bit_flow nodes ins t

  map-zeros : (count : ℕ) → map f (replicate count Zero) ≡ replicate count false
  map-zeros zero = refl
  map-zeros (suc k) = ap (λ l. false ∷ l) (map-zeros k)

  last-zero : (count : ℕ) → replicate count false ++ false ∷ [] ≡ replicate (suc count) false
  last-zero zero = refl
  last-zero (suc k) = ap (λ l. false ∷ l) (last-zero k)

  reverse-zeros : (count : ℕ) → reverse (replicate count false) ≡ replicate count false
  reverse-zeros zero = refl
  reverse-zeros (suc k) = reverse-append (false ∷ []) (replicate k false) ∙ ap (λ l. l ++ false ∷ []) (reverse-zeros k) ∙ last-zero k

  pub given-word : (node width zeros : ℕ) → length (flow nodes ins node t) ≡ width
      → word_flow nodes ins (given node width zeros) t ≡ replicate zeros false ++ flow nodes ins node t
  given-word node width zeros h =
      let w = flow nodes ins node t in
      ap reverse (map-append f (bits_from node 0 width) (replicate zeros Zero))
      ∙ reverse-append (map f (bits_from node 0 width)) (map f (replicate zeros Zero))
      ∙ ap (λ l. reverse l ++ reverse (map f (bits_from node 0 width))) (map-zeros zeros)
      ∙ ap (λ l. l ++ reverse (map f (bits_from node 0 width))) (reverse-zeros zeros)
      ∙ ap (λ l. replicate zeros false ++ l) (whole-flow nodes ins t node width h)

pub given-above : (net : Net) (node width zeros : ℕ) (after : List Node) (n : ℕ) → IsValid net → slice_index (widths net.nodes) node ≡ width
    → HasBits net (given node width zeros) after n → IsAboveZeros net node zeros after n
given-above net node width zeros after n valid wide bits ins t words =
    bits ins t words ∙ given-word net.nodes ins t node width zeros (flow-width net valid ins words node t ∙ wide)
