use Rattle.std.proofs.Common.{◌≡◌, Some, None, position, sym, ap}
use Rattle.std.specs.Prelude.{string_bytes}
use Rattle.opgen_io.specs.Memory.{is_named}
use Rattle.opgen_io.proofs.Places.{stored-place, stored-end, found-absent}
use Rattle.opgen_io.proofs.memory.enter.Goals as goal

pub returns-in-Some-clause-stored : goal.returns-in-Some-clause-stored
returns-in-Some-clause-stored c =
    let at : position (is_named c.args.name.now) c.args.files.now.items ≡ Some c.in-Some.place =
    rw (← c.deref.ensures.value) (sym c.in-Some.ensures) in
    rw (← c.in_ok-copy.ensures.items)
    (stored-place c.args.name.now c.args.files.now.items c.in-Some.place c.index_mut.result.now
    (c.index_mut.result.now.0, c.in_ok-copy.copy) at (ap (λ pair. string_bytes pair.0) c.index_mut.ensures.value))

pub returns-in_ok-push-in-None-clause-stored : goal.returns-in_ok-push-in-None-clause-stored
returns-in_ok-push-in-None-clause-stored c =
    let absent : position (is_named c.args.name.now) c.args.files.now.items ≡ None =
    rw (← c.deref.ensures.value) (sym c.in-None.ensures) in
    rw (c.in_ok-push-in-None.ensures.items, ← c.in_ok-copy.ensures.items)
    (stored-end c.args.name.now c.args.files.now.items (c.in_ok-key-in-None.key, c.in_ok-copy.copy) absent
    c.in_ok-key-in-None.ensures.ok)

pub returns-in_ok-push-in-None-clause-replaces : goal.returns-in_ok-push-in-None-clause-replaces
returns-in_ok-push-in-None-clause-replaces c =
    let absent : position (is_named c.args.name.now) c.args.files.now.items ≡ None =
    rw (← c.deref.ensures.value) (sym c.in-None.ensures) in
    rw (found-absent c.args.name.now c.args.files.now.items absent) (λ h. cc)
