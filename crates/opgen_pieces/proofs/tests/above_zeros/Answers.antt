use Rattle.std.proofs.Common.{◌≡◌, ◌+◌, ◌-◌, ◌<◌, ◌++◌, ℕ, zero, suc, List, [], ◌∷◌, length, length-append, replicate, refl, sym, ap, ◌∙◌, subst, arith, rules}
use Rattle.std.specs.Prelude.{All, slice_index}
use Rattle.std.proofs.lemmas.List.{length-replicate}
use Rattle.std.proofs.lemmas.List.Elements.{All-append}
use Rattle.opgen_net.specs.declared.word_bits.WordBit.TheVariants.{Zero}
use Rattle.opgen_net.specs.Valid.{widths}
use Rattle.opgen_net.specs.WordRule.{IsThere, bits_from}
use Rattle.opgen_net.proofs.BitLists.{bits_from-there, length-bits_from, zeros-there}
use Rattle.opgen_pieces.proofs.tests.above_zeros.Goals as goal

nine : (n : ℕ) → n < 2 → slice_index (9 ∷ 9 ∷ []) n ≡ 9
nine zero h = refl
nine (suc zero) h = refl
nine (suc (suc n)) h = absurd (omega (arith, h))

pub returns-clause-width : goal.returns-clause-width
returns-clause-width c =
    let node = c.args.node in
    let zeros = c.args.zeros in
    let bits : c.push_zeros.new.bits ≡ bits_from node zeros (9 - zeros) ++ replicate zeros Zero = search rules in
    omega (
      arith,
      ap length bits,
      length-append (bits_from node zeros (9 - zeros)) (replicate zeros Zero),
      length-bits_from node zeros (9 - zeros),
      length-replicate zeros Zero,
      c.requires.zeros,
    )

pub returns-clause-there : goal.returns-clause-there
returns-clause-there c =
    let node = c.args.node in
    let zeros = c.args.zeros in
    let ws = widths c.args.net.now.nodes in
    let there = IsThere ws in
    let wide : slice_index ws node ≡ 9 = ap (λ (vs : List ℕ). slice_index vs node) c.requires.words ∙ nine node c.requires.node in
    let bits : c.push_zeros.new.bits ≡ bits_from node zeros (9 - zeros) ++ replicate zeros Zero = search rules in
    subst (All there) (sym bits)
    (All-append there (bits_from node zeros (9 - zeros)) (replicate zeros Zero)
    (bits_from-there ws node zeros (9 - zeros) (omega (arith, wide, c.requires.zeros))) (zeros-there ws zeros))
