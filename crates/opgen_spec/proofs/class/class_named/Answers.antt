use Rattle.opgen_net.specs.Classes.{classes}
use Rattle.opgen_spec.proofs.class.class_named.Goals as goal

pub returns : goal.returns
unfolding classes
returns c = c.class_among.ensures
