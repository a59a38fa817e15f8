use Rattle.std.proofs.Common.{ap, arith}
use Rattle.std.specs.Prelude.{slice_index}
use Rattle.opgen_net.proofs.FlowLaws.{length-widths}
use Rattle.opgen_cuts.proofs.cutting.Cutting.delay.Goals as goal

pub delay-requires-clause-there : goal.delay-requires-clause-there
delay-requires-clause-there c =
    omega (
      arith,
      c.requires.follow.0,
      length-widths c.args.self.now.net.nodes,
      c.place_at.ensures,
      ap (λ ps. slice_index ps c.args.of) c.as_slice-2.ensures,
    )
