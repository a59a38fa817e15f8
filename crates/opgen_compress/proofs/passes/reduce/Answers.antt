use Rattle.std.proofs.Common.{◌≡◌, ◌-◌, sym, ap, ◌∙◌, arith}
use Rattle.opgen_compress.specs.Adder.{Work, full_adder}
use Rattle.opgen_compress.specs.Recipe.{reduced}
use Rattle.opgen_compress.proofs.Reduced.{reduced-next}
use Rattle.opgen_compress.proofs.passes.reduce.Goals as goal

pub adders-preserved : goal.adders-preserved
adders-preserved c =
    let i = c.adders.invariant in
    let e = c.adders.excess in
    let now : Work = record { net = c.adders.net; column = c.adders.column; carries = c.adders.carries } in
    let next : Work = record { net = c.full_adder.new.net; column = c.full_adder.new.column; carries = c.full_adder.new.carries } in
    let ok : full_adder c.args.top c.adders.net c.adders.column c.adders.carries ≡ next = c.in_ok-full_adder.ensures.ok in (
      omega (arith, i.0, c.in_ok-full_adder.ensures.shorter, c.adders-test.true),
      sym (ap (reduced (e - 2) c.args.top) ok) ∙ sym (reduced-next e c.args.top now c.adders-test.true) ∙ i.1,
      c.in_ok-full_adder.ensures.there,
      c.full_adder.ensures.valid,
    )
