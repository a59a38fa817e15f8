use Rattle.opgen_ports.proofs.Cycles.{format_at-listed}
use Rattle.opgen_ports.proofs.words.format_at.Goals as goal

pub returns : goal.returns
returns c = format_at-listed c.args.ports.now c.args.place c.index-ports-place.result c.requires
