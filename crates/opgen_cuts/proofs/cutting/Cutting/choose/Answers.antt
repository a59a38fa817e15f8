use Rattle.std.proofs.Common.{arith}
use Rattle.opgen_design.specs.Value.{IsWidth}
use Rattle.opgen_net.specs.Valid.{slice_width, widths}
use Rattle.opgen_net.proofs.FlowLaws.{length-widths}
use Rattle.opgen_net.proofs.FlowWidths.{are_widths, slice-is_width}
use Rattle.opgen_cuts.specs.Renamed.{renamed_slice}
use Rattle.opgen_cuts.proofs.cutting.Cutting.choose.Goals as goal

pub overflow_add-yes : goal.overflow_add-yes
overflow_add-yes c =
    let nodes = c.args.self.now.net.nodes in
    let wide : IsWidth (slice_width c.args.yes) =
    slice-is_width (widths nodes) (λ i l. are_widths nodes c.requires.net.nodes i (omega (arith, l, length-widths nodes)))
    (renamed_slice c.args.self.now.places c.args.yes) c.requires.follow.one_lies in
    omega (arith, wide.0, wide.1)

pub place-requires : goal.place-requires
place-requires c =
    let nodes = c.args.self.now.net.nodes in
    let wide : IsWidth (slice_width c.args.yes) =
    slice-is_width (widths nodes) (λ i l. are_widths nodes c.requires.net.nodes i (omega (arith, l, length-widths nodes)))
    (renamed_slice c.args.self.now.places c.args.yes) c.requires.follow.one_lies in
    (omega (arith, wide.0), omega (arith, wide.1, c.requires.follow.one_lies.0))
