use Rattle.std.proofs.Common.{refl, arith}
use Rattle.opgen_shared.proofs.Growing.{sums_more}
use Rattle.opgen_shared.proofs.sums.place.Goals as goal

pub returns-clause-sums : goal.returns-clause-sums
returns-clause-sums c =
    sums_more c.args.sums.now.adders c.push.new.self c.args.sums.now.levels.items _ c.args.adder c.saturating_add-level.result
    (omega (arith, c.saturating_add-level.ensures)) (omega (arith, c.saturating_add-level.ensures, c.operand_level.ensures)) c.requires.sums
    c.requires.value c.requires.new c.requires.u c.requires.v c.requires.shifted c.requires.makes c.in_ok-push.ensures.ok refl
