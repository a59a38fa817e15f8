use Rattle.std.proofs.Common.{List, ap, ◌∙◌, slice_index_or}
use Rattle.opgen_ports.specs.declared.ports.PortFormat.{PortFormat}
use Rattle.opgen_sop.proofs.InputNodes.{format-there}
use Rattle.opgen_sop.proofs.fractions.format_of.Goals as goal

pub returns-clause-value : goal.returns-clause-value
returns-clause-value c =
    ap (λ (ps : List PortFormat). (slice_index_or ps c.args.input c.index-as_slice-input.result).format) c.as_slice.ensures
    ∙ format-there c.args.sop.now.inputs c.args.input c.index-as_slice-input.result c.requires.input
