use Rattle.std.proofs.Common.{Err, refl, sym, ap, ◌∙◌}
use Rattle.opgen_write.proofs.Paging.{none_of, comes_failed}
use Rattle.opgen_write.proofs.page.turn_page.Goals as goal

pub returns-in-Err-Failed-clause-comes : goal.returns-in-Err-Failed-clause-comes
returns-in-Err-Failed-clause-comes g c =
    let failed = c.in-Err-Failed.is ∙ ap Err c.in-Err-Failed.field-0-is in
    let prefix = rw c.as_slice.ensures.value at (c.put.ensures.failed_prefix failed) in
    comes_failed c.args.page.now _ (g.K.Sink.taken c.args.out.now) (g.K.Sink.taken c.put.new.self) (g.K.Sink.faults c.args.out.now)
    (g.K.Sink.faults c.put.new.self) (none_of c.args.page.now.fault (sym c.is_some.ensures
    ∙ c.if-is_some.false)) refl c.put.ensures.tells (c.put.ensures.failed_counted failed) prefix c.put.ensures.faults_kept
