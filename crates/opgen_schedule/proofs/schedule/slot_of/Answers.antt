use Rattle.std.proofs.Common.{length, ap, arith}
use Rattle.opgen_schedule.proofs.Least.{latest_early, after_early}
use Rattle.opgen_schedule.proofs.schedule.slot_of.Goals as goal

pub after-requires-clause-early : goal.after-requires-clause-early
after-requires-clause-early c =
    let e = latest_early c.args.slots.now c.deref.result.now (length c.args.slots.now) c.requires.early in
    omega (arith, e, ap (λ p. p.cycle) c.latest.ensures)

pub returns-in_ok-reads-in-Cells-clause-early : goal.returns-in_ok-reads-in-Cells-clause-early
returns-in_ok-reads-in-Cells-clause-early c =
    let e = latest_early c.args.slots.now c.deref.result.now (length c.args.slots.now) c.requires.early in
    omega (
      arith,
      e,
      ap (λ p. p.cycle) c.latest.ensures,
      ap (λ p. p.cycle) c.after.ensures,
      after_early c.args.setup c.args.period c.args.delay c.latest.result,
    )
