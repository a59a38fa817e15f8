use Rattle.std.proofs.Common.{max, take, get_or, sym, ap, ◌∙◌, arith}
use Rattle.std.proofs.lemmas.List.{take_more}
use Rattle.opgen_search.proofs.Limits.{greatest-snoc, all_taken, few_shifts, shifted_limit}
use Rattle.opgen_search.proofs.least.limit.Goals as goal

pub loop-target-preserved : goal.loop-target-preserved
loop-target-preserved c =
    let i = c.loop-target.target-index in
    let x = get_or c.args.targets.now i 0 in
    rw (take_more c.args.targets.now i 0 c.loop-target-test.true) (c.max-greatest.ensures ∙ ap (λ g. max g x) c.loop-target.invariant
    ∙ sym (greatest-snoc (take i c.args.targets.now) x))

pub overflow_shl-result : goal.overflow_shl-result
overflow_shl-result c =
    omega (
      arith,
      few_shifts c.args.targets.now c.loop-target.greatest c.requires
          (all_taken c.args.targets.now c.loop-target.target-index c.loop-target.greatest c.loop-target-test.false c.loop-target.invariant),
    )

pub returns : goal.returns
returns c = shifted_limit c.args.targets.now c.loop-target.greatest c.requires
    (all_taken c.args.targets.now c.loop-target.target-index c.loop-target.greatest c.loop-target-test.false c.loop-target.invariant)
