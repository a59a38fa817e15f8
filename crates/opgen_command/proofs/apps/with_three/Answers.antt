use Rattle.opgen_command.proofs.Added.{added}
use Rattle.opgen_command.proofs.apps.with_three.Goals as goal

pub returns : goal.returns
returns c =
    let one = added c.arg-one.result _ _ _ c.arg-one.ensures c.requires.first_local c.new.ensures.app in
    c.with.ensures _ (c.with-two.ensures _ one)
