use Rattle.std.proofs.Common.{◌≡◌, ◌+◌, length, sym, subst, arith}
use Rattle.opgen_design.specs.Order.{AreRanks}
use Rattle.opgen_design.proofs.OrderLaws.{ranks-more}
use Rattle.opgen_design.proofs.SoundLaws.{declared-at}
use Rattle.opgen_design.proofs.design.Design.ranks.Goals as goal

pub rank-requires-clause-names : goal.rank-requires-clause-names
rank-requires-clause-names c = (declared-at c.args.self.now c.requires.declared c.loop-i.i c.get.result.now c.get.ensures).target

pub loop-i-preserved : goal.loop-i-preserved
loop-i-preserved c =
    let d = c.args.self.now in
    let cs = c.args.groups.now in
    subst (AreRanks d cs (c.loop-i.i + 1)) (sym c.in_ok-push.ensures.items)
    (ranks-more d cs c.loop-i.i c.loop-i.ranks.items c.loop-i.invariant c.get.result.now c.get.ensures c.rank.result c.rank.ensures.rank
    c.rank.ensures.small)

pub returns : goal.returns
returns c =
    let e : c.loop-i.i ≡ length c.args.self.now.drivers = omega (arith, c.loop-i-test.false, c.len-i-end.ensures, c.loop-i.auto.i-end) in
    subst (λ n. AreRanks c.args.self.now c.args.groups.now n c.loop-i.ranks.items) e c.loop-i.invariant
