use Rattle.std.proofs.Common.{refl, append_assoc}
use Rattle.opgen_vhdl.specs.DesignText.{driver_text}
use Rattle.opgen_write.proofs.statement.put_output.Goals as goal

pub returns : goal.returns
unfolding driver_text
returns c = simp (
  append_assoc,
  c.in_ok-push_str.ensures.bytes,
  c.in_ok-put_expression.ensures,
  c.in_ok-write.ensures.bytes,
  c.port_name.ensures,
  c.expr.ensures,
) refl
