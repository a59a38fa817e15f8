use Rattle.std.proofs.Common.{◌+◌, ap, arith}
use Rattle.opgen_kinds.proofs.of_kind.Results.{partial_bits}
use Rattle.opgen_partial.specs.declared.pairs.Products.{Products}
use Rattle.opgen_poly.proofs.numbers.added.Goals as goal

pub sign_correction-requires-clause-room : goal.sign_correction-requires-clause-room
sign_correction-requires-clause-room c =
    let p = c.args.poly.now in
    let first = ap (λ (q : Products). q.a.width) c.requires.products in
    let second = ap (λ (q : Products). q.b.width) c.requires.products in
    omega (arith, first, second, (partial_bits p (c.args.place + 1) c.requires.poly).1, c.requires.poly.narrow)
