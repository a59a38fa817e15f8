use Rattle.std.proofs.Common.{◌≡◌, suc, ◌+◌, ◌-◌, ◌/◌, [], ◌∷◌, ◌++◌, map, sym, ap, ◌∙◌, arith}
use Rattle.std.proofs.lemmas.List.{append_assoc}
use Rattle.opgen_num.specs.Words.{word}
use Rattle.opgen_cuts.specs.Wires.{constant_bit}
use Rattle.opgen_cuts.proofs.wires.constant_bits.Goals as goal

pub places-preserved : goal.places-preserved
places-preserved c =
    let bits = c.places.bits.items in
    let rest = c.places.rest in
    let left = c.width-place-end.result - (c.places.place + 1) in
    let tail = map constant_bit (word left (rest / 2)) in
    let next : c.width-place-end.result - c.places.place ≡ suc left = omega (arith, c.places-test.true) in
    record {
      bits = ap (λ l. l ++ tail) c.in_ok-push.ensures.items
          ∙ append_assoc bits (c.constant_bit.result ∷ []) tail
          ∙ ap (λ b. bits ++ b ∷ tail) c.constant_bit.ensures
          ∙ ap (λ n. bits ++ map constant_bit (word n rest)) (sym next)
          ∙ c.places.invariant.bits;
      end = c.places.invariant.end;
    }
