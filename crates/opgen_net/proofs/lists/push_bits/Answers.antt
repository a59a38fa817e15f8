use Rattle.std.proofs.Common.{◌≡◌, ◌+◌, ◌-◌, suc, [], ◌∷◌, ◌++◌, append_assoc, ap, ◌∙◌, arith}
use Rattle.opgen_net.specs.declared.word_bits.WordBit.TheVariants.{Of}
use Rattle.opgen_net.specs.WordRule.{bits_from}
use Rattle.opgen_net.proofs.lists.push_bits.Goals as goal

pub bits-preserved : goal.bits-preserved
bits-preserved c =
    let low = c.args.low in
    let node = c.args.node in
    let k = c.bits.left - 1 in
    let bits = c.bits.bits in
    let next : suc k ≡ c.bits.left = omega (arith, c.bits-test.true) in
    record {
      bits = ap (λ l. l ++ bits_from node low k) c.in_ok-push.ensures.ok
          ∙ append_assoc bits (Of node (low + k) ∷ []) (bits_from node low k)
          ∙ ap (λ n. bits ++ bits_from node low n) next
          ∙ c.bits.invariant.bits;
      few = omega (arith, c.bits.invariant.few);
    }
