use Rattle.std.proofs.Common.{refl, append_assoc}
use Rattle.opgen_vhdl.specs.DesignText.{other_text}
use Rattle.opgen_write.proofs.statement.put_other.Goals as goal

pub returns : goal.returns
unfolding other_text
returns c = simp (append_assoc, c.in_ok-push_str-2.ensures.bytes, c.in_ok-put_word.ensures, c.in_ok-push_str.ensures.bytes) refl
