use Rattle.std.proofs.Common.{sym, ◌∙◌}
use Rattle.opgen_write.proofs.Paging.{comes_as, end_enable_some}
use Rattle.opgen_write.proofs.architecture.put_end_enable.Goals as goal

pub returns-then-is_some : goal.returns-then-is_some
returns-then-is_some g c =
    comes_as _ _ _ _ _ _ _ _ (end_enable_some c.args.design.now.enable (sym c.is_some.ensures ∙ c.if-is_some.true)) c.put_bytes.ensures
