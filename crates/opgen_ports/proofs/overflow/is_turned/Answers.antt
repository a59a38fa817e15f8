use Rattle.std.proofs.Common.{◌≡◌, ◌^◌, ◌∙◌, FitsSigned, arith, rules, sym}
use Rattle.std.specs.Int.{w128, int_rem_euclid}
use Rattle.std.specs.Prelude.{pos}
use Rattle.std.proofs.lemmas.Int.{ints, to_z-of_z}
use borrow.Author.Tests.{eqb-true, eq-eqb}
use Rattle.opgen_num.proofs.BitLength.{power_order}
use Rattle.opgen_ports.proofs.Turned.{turned_is}
use Rattle.opgen_ports.proofs.overflow.is_turned.Goals as goal

pub raised-turn-requires-clause-small : goal.raised-turn-requires-clause-small
raised-turn-requires-clause-small c = omega (arith, power_order c.args.power 96 c.requires)

pub returns : goal.returns
returns c =
    let fits_whole : FitsSigned w128 c.args.whole = search rules in
    let fits_y : FitsSigned w128 c.args.y = search rules in
    let fits_turn : FitsSigned w128 c.raised-turn.result = search rules in
    let fits_first : FitsSigned w128 c.rem_euclid.result = search rules in
    let fits_second : FitsSigned w128 c.rem_euclid-2.result = search rules in
    let turn : c.raised-turn.result ≡ pos (2 ^ c.args.power) = omega (arith, ints, c.raised-turn.ensures.value) in
    let first : c.rem_euclid.result ≡ int_rem_euclid c.args.y (pos (2 ^ c.args.power)) = rw turn at simp to_z-of_z at c.rem_euclid.ensures.value in
    let second : c.rem_euclid-2.result ≡ int_rem_euclid c.args.whole (pos (2 ^ c.args.power)) = rw turn at simp to_z-of_z at c.rem_euclid-2.ensures.value in
    let (only, good) = turned_is c.args.power c.args.whole c.args.y in (
      λ t.
          let same : c.rem_euclid.result ≡ c.rem_euclid-2.result = omega (arith, ints, eqb-true, eq-eqb, t) in
          only (sym first ∙ same ∙ second),
      λ g.
          let same : c.rem_euclid.result ≡ c.rem_euclid-2.result = first ∙ good g ∙ sym second in
          omega (arith, ints, eqb-true, eq-eqb, same),
    )
