use Rattle.std.proofs.Common.{◌≡◌, drop}
use Rattle.opgen_net.specs.Valid.{IsValid}
use Rattle.opgen_gpc.specs.Kept.{CountersThere}
use Rattle.opgen_gpc.specs.Recipe.{with_counters}
use Rattle.opgen_gpc.proofs.heaps.add_tables.Given as goal

abbrev pub invariant-counters : goal.invariant-counters
invariant-counters l =
    let rest = drop l.counter-index l.counters in
    (with_counters (record { net = l.net; heap = l.heap }) rest ≡ with_counters (record { net = l.initial.net; heap = l.initial.heap }) l.counters)
    × CountersThere l.net rest
    × IsValid l.net
