use Rattle.std.proofs.Common.{sym, subst}
use Rattle.opgen_vhdl.specs.Fronts.{FrontStands}
use Rattle.opgen_vhdl.proofs.FrontLemmas.{front_stands}
use Rattle.opgen_lex.proofs.front.leading.Goals as goal

pub returns : goal.returns
returns c = subst (FrontStands c.args.bytes.now) (sym c.front_of.ensures) (front_stands c.args.bytes.now)
