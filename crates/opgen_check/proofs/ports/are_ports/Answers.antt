use Rattle.std.proofs.Common.{sym, ◌∙◌, true≢false}
use Rattle.opgen_check.proofs.Sides.{back_agrees, both_agree, front_agrees}
use Rattle.opgen_check.proofs.ports.are_ports.Goals as goal

pub returns-then-are_side : goal.returns-then-are_side
returns-then-are_side c =
    let cut = c.split_at.ensures.by_index.0 in
    let few = c.split_at.ensures.front_len in (
      λ b. both_agree c.args.ports.now _ _ c.args.inputs.now c.args.outputs.now cut few (c.are_side.ensures.0 c.if-are_side.true) (c.are_side-then-are_side.ensures.0 b),
      λ all. c.are_side-then-are_side.ensures.1 (back_agrees c.args.ports.now _ _ c.args.inputs.now c.args.outputs.now cut few all),
    )

pub returns-else-are_side : goal.returns-else-are_side
returns-else-are_side c =
    let cut = c.split_at.ensures.by_index.0 in
    let few = c.split_at.ensures.front_len in (
      λ a. absurd (true≢false (sym a ∙ c.if-are_side.false)),
      λ all. c.are_side.ensures.1 (front_agrees c.args.ports.now _ _ c.args.inputs.now c.args.outputs.now cut few all),
    )
