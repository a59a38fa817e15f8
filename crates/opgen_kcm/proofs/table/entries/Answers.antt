use Rattle.std.proofs.Common.{◌≡◌, ◌+◌, ◌^◌, ◌<◌, suc, [], ◌∷◌, ◌++◌, length, unsigned_abs, of_z, to_z, ap, ◌∙◌, arith}
use Rattle.std.specs.Int.{w128}
use Rattle.std.proofs.lemmas.Int.{to_z-of_z}
use Rattle.std.proofs.lemmas.List.Elements.{All-push}
use Rattle.opgen_num.specs.Words.{word}
use Rattle.opgen_num.specs.WordLaws.{length-word}
use Rattle.opgen_kcm.specs.Chunks.{digit_of}
use Rattle.opgen_kcm.specs.Entries.{entry, entries}
use Rattle.opgen_kcm.proofs.table.entries.Goals as goal

pub digit-digit-requires-clause-width : goal.digit-digit-requires-clause-width
digit-digit-requires-clause-width c = ap length c.new.ensures ∙ length-word c.args.chunk.width c.addresses.address

pub addresses-preserved : goal.addresses-preserved
addresses-preserved c =
    let q = c.args.q in
    let k = c.args.chunk in
    let all = c.addresses.all.items in
    let e = entry q k (digit_of k (word k.width c.addresses.address)) in
    let digit : to_z w128 (of_z w128 c.digit-digit.result) ≡ digit_of k (word k.width c.addresses.address) =
    to_z-of_z w128 c.digit-digit.result (record { sfits = c.digit-digit.type_inv }) ∙ c.digit-digit.ensures.value
    ∙ ap (λ w. digit_of k w) c.new.ensures in
    let same = to_z-of_z w128 c.entry.result (record { sfits = c.entry.type_inv }) in
    let value : to_z w128 (of_z w128 c.entry.result) ≡ e = same ∙ c.entry.ensures.value ∙ ap (λ d. entry q k d) digit in
    let more : c.push.new.self.items ≡ all ++ c.entry.result ∷ [] = c.in_ok-push.ensures.items ∙ ap (λ z. all ++ z ∷ []) same in
    let next : suc c.addresses.address ≡ c.addresses.address + 1 = omega arith in
    record {
      value = c.in_ok-push.ensures.items ∙ ap (λ z. all ++ z ∷ []) value ∙ ap (λ l. l ++ e ∷ []) c.addresses.invariant.value
          ∙ ap (λ n. entries q k n) next;
      small = rw more (All-push (λ z. unsigned_abs z < 2 ^ 126) all c.entry.result c.addresses.invariant.small c.entry.ensures.small);
    }
