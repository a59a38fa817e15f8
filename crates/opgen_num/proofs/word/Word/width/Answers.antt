use Rattle.std.proofs.Common.{sym, ap, ◌∙◌, length}
use Rattle.opgen_num.specs.WordLaws.{length-word}
use Rattle.opgen_num.proofs.word.Word.width.Goals as goal

pub returns : goal.returns
returns c = sym (length-word c.self.inside.width c.self.inside.bits) ∙ ap length c.self.view_is
