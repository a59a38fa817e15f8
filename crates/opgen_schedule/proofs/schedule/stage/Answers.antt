use Rattle.std.proofs.Common.{◌≡◌, ◌<◌, length, refl, sym, ap, ◌∙◌, subst, arith}
use Rattle.opgen_schedule.specs.Laws.{IsLeast, PathsEnd}
use Rattle.opgen_schedule.specs.Schedule.{Fits}
use Rattle.std.specs.Prelude.{All}
use Rattle.std.proofs.lemmas.Option.{slice_get_read}
use Rattle.std.proofs.lemmas.Grind.{common_steps}
use Rattle.opgen_schedule.specs.Stage.{slot_at, stage}
use Rattle.opgen_schedule.specs.Reads.{reads_of}
use Rattle.opgen_schedule.proofs.Reading.{reads-before}
use Rattle.opgen_schedule.proofs.Least.{short_at, stage-ends, all-early, stage_fits, stage_is_least}
use Rattle.opgen_schedule.proofs.Paths.{paths_fit}
use Rattle.opgen_schedule.proofs.schedule.stage.Goals as goal

pub slot_of-requires-clause-before : goal.slot_of-requires-clause-before
slot_of-requires-clause-before c =
    let n = c.index-nodes-place.result in
    let nodes = c.args.nodes.now in
    let i = c.nodes.place in
    let count : i ≡ length c.deref.result.now = sym c.nodes.invariant.count ∙ ap length (sym c.deref.ensures.value) in
    subst (λ k. All (λ j. j < k) (reads_of n)) count
    (reads-before nodes c.requires.valid i n (slice_get_read nodes (length nodes) i n refl c.nodes-test.true c.index-nodes-place.is))

pub slot_of-requires-clause-short : goal.slot_of-requires-clause-short
slot_of-requires-clause-short c = short_at c.args.delays.now c.args.setup c.args.period c.nodes.place c.requires.short

pub returns-clause-early : goal.returns-clause-early
returns-clause-early c = all-early c.nodes.slots.items (length c.args.nodes.now)
    (omega (arith, c.nodes.invariant.count, c.nodes-test.false, c.nodes.auto.place-end)) c.nodes.invariant.early

pub returns-clause-ends : goal.returns-clause-ends
returns-clause-ends c =
    let e : c.nodes.slots.items ≡ stage c.args.delays.now c.args.setup c.args.period c.args.nodes.now = grind (arith, common_steps) in
    stage-ends c.args.nodes.now c.args.delays.now c.args.setup c.args.period c.requires.valid c.requires.short c.nodes.slots.items e

-- the slots are those of one pass
pub returns-clause-fits : goal.returns-clause-fits
returns-clause-fits c =
    let nodes = c.args.nodes.now in
    let delays = c.args.delays.now in
    let e : c.nodes.slots.items ≡ stage delays c.args.setup c.args.period nodes = grind (arith, common_steps) in
    subst (λ ps. Fits nodes delays c.args.setup c.args.period (slot_at ps)) (sym e)
    (stage_fits nodes delays c.args.setup c.args.period c.requires.valid c.requires.delays c.requires.short)

pub returns-clause-paths : goal.returns-clause-paths
returns-clause-paths c =
    let nodes = c.args.nodes.now in
    let delays = c.args.delays.now in
    let setup = c.args.setup in
    let period = c.args.period in
    let e : c.nodes.slots.items ≡ stage delays setup period nodes = grind (arith, common_steps) in
    subst (λ ps. PathsEnd nodes delays setup period (slot_at ps)) (sym e)
    (paths_fit nodes delays setup period (slot_at (stage delays setup period nodes))
    (stage_fits nodes delays setup period c.requires.valid c.requires.delays c.requires.short))

pub returns-clause-least : goal.returns-clause-least
returns-clause-least c =
    let nodes = c.args.nodes.now in
    let delays = c.args.delays.now in
    let e : c.nodes.slots.items ≡ stage delays c.args.setup c.args.period nodes = grind (arith, common_steps) in
    subst (λ ps. IsLeast nodes delays c.args.setup c.args.period (slot_at ps)) (sym e)
    (stage_is_least nodes delays c.args.setup c.args.period c.requires.valid)
