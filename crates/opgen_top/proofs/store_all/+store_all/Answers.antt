use Rattle.std.proofs.Common.{map}
use Rattle.opgen_top.specs.Prepared.{store_of}
use Rattle.opgen_top.proofs.Storing.{first_broke, later_broke, first_done}
use Rattle.opgen_top.proofs.store_all.+store_all.Goals as goal

pub returns-in-Ok-clause-failed : goal.returns-in-Ok-clause-failed
returns-in-Ok-clause-failed g t c before told failed =
    let whole = c.in-Some.ensures.cases in
    rw whole.0 (later_broke (store_of c.in-Some.first.now)
    (map store_of c.in-Some.later.now) before _ _ _ c.deref.ensures c.deref-2.ensures.value
    (c.store_all.ensures.failed _ (c.in-Ok.ensures.ok before told) failed))

pub returns-in-Ok-clause-memory : goal.returns-in-Ok-clause-memory
returns-in-Ok-clause-memory g t c before told failed =
    let whole = c.in-Some.ensures.cases in
    rw whole.0 (first_done (store_of c.in-Some.first.now)
    (map store_of c.in-Some.later.now) before _ _ _ c.deref.ensures c.deref-2.ensures.value
    (c.store_all.ensures.memory _ (c.in-Ok.ensures.ok before told) failed))

pub returns-in-Err-clause-failed : goal.returns-in-Err-clause-failed
returns-in-Err-clause-failed g t c before told failed =
    let whole = c.in-Some.ensures.cases in
    rw whole.0 (first_broke (store_of c.in-Some.first.now)
    (map store_of c.in-Some.later.now) before _ _ c.deref-2.result.now c.deref.ensures _ c.store.ensures.tells told
    (c.in-Err.ensures.failed_others failed))
