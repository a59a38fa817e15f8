use Rattle.std.proofs.Common.{sym, ◌∙◌}
use Rattle.opgen_write.proofs.Paging.{comes_none, comes_then, comes_as, process_some, process_none}
use Rattle.opgen_write.proofs.architecture.put_process.Goals as goal

pub returns-then-has_register : goal.returns-then-has_register
returns-then-has_register g c =
    comes_as _ _ _ _ _ _ _ _ (process_some c.args.design.now (sym c.has_register.ensures ∙ c.if-has_register.true))
    (comes_then _ _ _ _ _ _ _ _ _ _ _
    (comes_then _ _ _ _ _ _ _ _ _ _ _
    (comes_then _ _ _ _ _ _ _ _ _ _ _
    (c.put_made.ensures _ c.process_head.ensures) c.put_drivers.ensures) c.put_end_enable.ensures) c.put_bytes.ensures)

pub returns-else-has_register : goal.returns-else-has_register
returns-else-has_register g c =
    comes_as _ _ _ _ _ _ _ _ (process_none c.args.design.now (sym c.has_register.ensures ∙ c.if-has_register.false)) (comes_none _ _ _)
