use Rattle.std.proofs.Common.{refl}
use Rattle.opgen_entries.specs.kinds.{early_kinds, kinds}
use Rattle.opgen_entries.proofs.kinds.kinds_of.Goals as goal

pub returns-in-First : goal.returns-in-First
unfolding early_kinds
returns-in-First c = rw c.in-First.is refl

pub returns-in-Second : goal.returns-in-Second
unfolding early_kinds
returns-in-Second c = rw c.in-Second.is refl

pub returns-in-Third : goal.returns-in-Third
unfolding kinds
returns-in-Third c = rw c.in-Third.is refl

pub returns-in-Fourth : goal.returns-in-Fourth
unfolding kinds
returns-in-Fourth c = rw c.in-Fourth.is refl
