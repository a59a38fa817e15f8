use Rattle.std.proofs.Common.{refl, append_assoc}
use Rattle.opgen_vhdl.specs.DesignText.{signal_text}
use Rattle.opgen_write.proofs.architecture.put_signal.Goals as goal

pub returns : goal.returns
unfolding signal_text
returns c = simp (
  append_assoc,
  c.in_ok-push_str.ensures.bytes,
  c.in_ok-put_initial.ensures,
  c.in_ok-put_range.ensures,
  c.in_ok-write.ensures.bytes,
  c.as_str.ensures,
  c.saturating_sub.ensures,
) refl
