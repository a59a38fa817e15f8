use Rattle.std.proofs.Common.{◌≡◌, ◌+◌, ◌-◌, ◌^◌, ◌<◌, ℕ, drop, length, get_or, ap, ◌∙◌, subst, arith}
use Rattle.std.proofs.lemmas.List.{length-set}
use Rattle.opgen_num.specs.Words.{nat}
use Rattle.opgen_runs.specs.Tables.{Row}
use Rattle.opgen_machine.specs.Laid.{number_at}
use Rattle.opgen_machine.proofs.Laying.{row-before, row-below, row-fits}
use Rattle.opgen_machine.proofs.tables.numbers.Goals as goal

pub index_mut-requires : goal.index_mut-requires
index_mut-requires c =
    let r = c.index-rows-left.result in
    let f = row-fits c.args.bits c.args.rows.now (c.loop-left.left - 1) r c.requires.rows
    (omega (arith, c.loop-left-test.true, c.loop-left.invariant.within)) c.index-rows-left.is in
    omega (
      arith,
      ap (λ (x : Row). nat x.0) c.index-rows-left.is,
      c.number-in-loop-left-2.ensures,
      row-below c.args.bits r f.0,
      c.loop-left.invariant.length,
      c.loop-left.numbers.ok.0,
    )

pub loop-left-preserved : goal.loop-left-preserved
loop-left-preserved c =
    let ns = c.loop-left.numbers.items in
    let rows = c.args.rows.now in
    let i = c.loop-left.left - 1 in
    let more : c.loop-left.left ≡ i + 1 = omega (arith, c.loop-left-test.true) in
    let l : i < length rows = omega (arith, c.loop-left-test.true, c.loop-left.invariant.within) in
    record {
      within = omega (arith, l);
      length = length-set ns c.number-in-loop-left-2.result c.number-in-loop-left.result ∙ c.loop-left.invariant.length;
      numbers = row-before ns rows c.args.other c.args.bits i c.number-in-loop-left-2.result c.number-in-loop-left.result
          c.index-rows-left.result c.index-rows-left-in-loop-left.result c.requires.rows l c.loop-left.invariant.length
          c.number-in-loop-left-2.ensures c.number-in-loop-left.ensures
          (subst (λ k. (n : ℕ) → n < 2 ^ c.args.bits → get_or ns n 0 ≡ number_at (drop k rows) c.args.other n) more
          c.loop-left.invariant.numbers);
    }
