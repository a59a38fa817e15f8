use Rattle.std.proofs.Common.{◌≡◌, ◌+◌, ℕ, length, sym, ap, subst, arith, length-append}
use Rattle.std.specs.Prelude.{All, replicate}
use Rattle.std.specs.List.{AllZip}
use Rattle.std.proofs.lemmas.List.{length-replicate}
use Rattle.opgen_machine.specs.Laid.{AreLaid, CanBeLaid, Grown, HasRoom}
use Rattle.opgen_machine.specs.Layout.{start_of}
use Rattle.opgen_machine.specs.Machines.{IsProgramOf, IsState}
use Rattle.opgen_machine.proofs.Beginning.{grown-behind, length-start, registers-of, rooms, state-of, take-front}
use Rattle.opgen_machine.proofs.First.{can-be-laid}
use Rattle.opgen_machine.proofs.machine.Machine.new.Goals as goal

pub lay_all-requires : goal.lay_all-requires
lay_all-requires c = subst (All CanBeLaid) (sym c.as_slice.ensures) (can-be-laid c.args.design.now c.requires.flat c.requires.sound)

pub compile-requires-clause-room : goal.compile-requires-clause-room
compile-requires-clause-room c =
    let d = c.args.design.now in
    let m = c.lay_all.new.memory.items in
    let base = c.len-base.result in
    let low = length c.in_ok-memory.memory.items in
    let laid = subst (λ ks. AreLaid low m ks c.in_ok-tables.tables.items) c.as_slice.ensures c.in_ok-tables.ensures.laid in
    let count : length m ≡ base = omega (arith, c.len-base.ensures, c.lay_all.new.memory.ok.0) in
    subst (AllZip (HasRoom base) d.drivers) (sym c.deref.ensures.value) (rooms low base m d.drivers c.in_ok-tables.tables.items count laid)

pub returns-clause-machine : goal.returns-clause-machine
returns-clause-machine c =
    let d = c.args.design.now in
    let start = c.in_ok-memory.memory.items in
    let m = c.lay_all.new.memory.items in
    let all = c.push_zeros.new.memory.items in
    let base = c.len-base.result in
    let tables = c.in_ok-tables.tables.items in
    let p = c.in_ok-program.program in
    let count : length m ≡ base = omega (arith, c.len-base.ensures, c.lay_all.new.memory.ok.0) in
    let is-start : start ≡ start_of d = c.in_ok-memory.ensures in
    let laid = subst (λ s. AreLaid (length s) m d.drivers tables) is-start
    (subst (λ ks. AreLaid (length start) m ks tables) c.as_slice.ensures c.in_ok-tables.ensures.laid) in
    let grown = subst (λ s. Grown s m) is-start c.in_ok-tables.ensures.grown in
    let program = subst (λ ps. IsProgramOf d ps base p) c.deref.ensures.value c.in_ok-program.ensures in
    let more = c.in_ok-push_zeros.ensures in
    let state = state-of d c.requires.sound c.requires.flat tables base m grown count laid in
    let room : length all ≡ base + length p.steps.items =
    omega (
      arith,
      ap length more,
      length-append m (replicate {A = ℕ} c.len.result 0),
      length-replicate {A = ℕ} c.len.result 0,
      count,
      c.len.ensures,
      p.steps.ok.0,
    ) in
    let n = length-start d c.requires.sound c.requires.flat in
    record {
      flat = c.requires.flat;
      can_run = record { ready = program.ready; room = room };
      inputs = c.len-2.ensures;
      room = omega (arith, n, grown.longer, count);
      tables = tables;
      program = program;
      state = subst (IsState d tables base) (sym (take-front m (replicate {A = ℕ} c.len.result 0) all base more count)) state;
    }

pub returns-clause-registers : goal.returns-clause-registers
returns-clause-registers c =
    let d = c.args.design.now in
    let m = c.lay_all.new.memory.items in
    let all = c.push_zeros.new.memory.items in
    let grown = subst (λ s. Grown s m) c.in_ok-memory.ensures c.in_ok-tables.ensures.grown in
    registers-of d c.requires.sound c.requires.flat all
    (grown-behind (start_of d) m (replicate {A = ℕ} c.len.result 0) all grown c.in_ok-push_zeros.ensures)
