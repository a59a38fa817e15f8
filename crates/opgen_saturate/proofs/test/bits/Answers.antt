use Rattle.std.proofs.Common.{◌≡◌, ◌+◌, ◌-◌, suc, List, [], ◌∷◌, ◌++◌, map, append_assoc, ap, ◌∙◌, arith}
use Rattle.std.proofs.lemmas.List.{map-append}
use Rattle.opgen_design.specs.declared.expr.Expr.{Expr}
use Rattle.opgen_design.specs.Plain.{plain}
use Rattle.opgen_saturate.specs.Recipe.{bit_of, bit_list}
use Rattle.opgen_saturate.proofs.test.bits.Goals as goal

pub bits-preserved : goal.bits-preserved
bits-preserved c =
    let low = c.args.low in
    let node = c.args.node in
    let k = c.bits.left - 1 in
    let found = c.bits.found.items in
    let next : suc k ≡ c.bits.left = omega (arith, c.bits-test.true) in
    record {
      bits = ap (λ (es : List Expr). map plain es ++ bit_list node low k) c.in_ok-push.ensures.items
          ∙ ap (λ ts. ts ++ bit_list node low k) (map-append plain found (c.bit.result ∷ []))
          ∙ ap (λ t. (map plain found ++ t ∷ []) ++ bit_list node low k) c.bit.ensures
          ∙ append_assoc (map plain found) (bit_of node (low + k) ∷ []) (bit_list node low k)
          ∙ ap (λ n. map plain found ++ bit_list node low n) next
          ∙ c.bits.invariant.bits;
      few = omega (arith, c.bits.invariant.few);
    }
