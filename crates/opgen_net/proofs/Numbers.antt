-- Bits from the highest down, and the numbers that they stand for.
use Rattle.std.proofs.Common.{◌≡◌, ℕ, zero, suc, ◌+◌, ◌*◌, ◌^◌, ◌<◌, List, [], ◌∷◌, ◌++◌, length, map, reverse, replicate, refl, ap, ◌∙◌, subst, arith}
use Rattle.std.specs.Prelude.{ℤ, All}
use Rattle.std.proofs.lemmas.List.{map-append, reverse-append}
use Rattle.opgen_num.specs.Words.{digit, nat}
use Rattle.opgen_num.proofs.Cuts.{nat-append}
use Rattle.opgen_num.proofs.Words.{nat-below}
use Rattle.opgen_net.specs.declared.node.Node.{Node}
use Rattle.opgen_net.specs.declared.word_bits.WordBit.{WordBit}
use Rattle.opgen_net.specs.declared.word_bits.WordBit.TheVariants.{Zero}
use Rattle.opgen_net.specs.Flow.{Inputs, flow, KeepsFlow}
use Rattle.opgen_net.specs.Valid.{widths}
use Rattle.opgen_net.specs.WordRule.{IsThere, bits_from, bit_flow, word_flow}
use Rattle.opgen_net.proofs.BitLists.{length-word_flow, whole-flow, word-kept}
use Rattle.opgen_net.specs.Placed.{number_at}

module _ (nodes : List Node) (inputs : Inputs) (t : ℤ) where
  abbrev at : List WordBit → ℕ
  at given = number_at nodes inputs t given

  pub at-below : (given : List WordBit) → at given < 2 ^ length given
  at-below given = subst (λ n. at given < 2 ^ n) (length-word_flow nodes inputs t given) (nat-below (word_flow nodes inputs given t))

  -- bits above other bits
  pub at-append : (high low : List WordBit) → at (high ++ low) ≡ at low + 2 ^ length low * at high
  at-append high low =
      let f = bit_flow nodes inputs t in
      ap nat (ap reverse (map-append f high low) ∙ reverse-append (map f high) (map f low))
      ∙ nat-append (reverse (map f low)) (reverse (map f high))
      ∙ ap (λ n. nat (reverse (map f low)) + 2 ^ n * at high) (length-word_flow nodes inputs t low)

  pub at-push : (given : List WordBit) (b : WordBit) → at (given ++ b ∷ []) ≡ 2 * at given + digit (bit_flow nodes inputs t b)
  at-push given b = at-append given (b ∷ []) ∙ omega arith

  -- zeros above add nothing
  pub at-zero : (given : List WordBit) → at (Zero ∷ given) ≡ at given
  at-zero given = at-append (Zero ∷ []) given ∙ omega arith

  pub at-zeros : (count : ℕ) → at (replicate count Zero) ≡ 0
  at-zeros zero = refl
  at-zeros (suc k) = at-zero (replicate k Zero) ∙ at-zeros k

  -- all the bits of a node
  pub at-node : (node count : ℕ) → length (flow nodes inputs node t) ≡ count
      → at (bits_from node 0 count) ≡ nat (flow nodes inputs node t)
  at-node node count h = ap nat (whole-flow nodes inputs t node count h)

-- bits of nodes that are there have the same number over nodes that keep the flow
module _ (old new : List Node) (keeps : KeepsFlow old new) (inputs : Inputs) (t : ℤ) where
  pub number-kept : (given : List WordBit) → All (IsThere (widths old)) given → number_at new inputs t given ≡ number_at old inputs t given
  number-kept given h = ap nat (word-kept old new keeps inputs t given h)
