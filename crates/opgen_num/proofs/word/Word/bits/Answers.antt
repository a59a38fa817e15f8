use Rattle.std.proofs.Common.{sym, ap, ◌∙◌}
use Rattle.opgen_num.specs.Words.{nat}
use Rattle.opgen_num.specs.WordLaws.{nat-word}
use Rattle.opgen_num.proofs.word.Word.bits.Goals as goal

pub returns : goal.returns
returns c = sym (nat-word c.self.inside.width c.self.inside.bits c.self.invariant) ∙ ap nat c.self.view_is
