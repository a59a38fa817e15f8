use Rattle.std.proofs.Common.{◌^◌, length, sym, ap, ◌∙◌, subst, arith}
use Rattle.opgen_pipe.specs.Counts.{AreSmall}
use Rattle.opgen_pipe.specs.Layouts.{schedule_of}
use Rattle.opgen_pipe.specs.Pipelined.{all_of, node_signals}
use Rattle.opgen_pipe.proofs.Fitting.{latency-few, layout-small, length-standings, nodes-stand, drivers-are}
use Rattle.opgen_pipe.proofs.pipelined.signals_and_drivers.Goals as goal

pub all_signals-requires-clause-standings : goal.all_signals-requires-clause-standings
all_signals-requires-clause-standings c =
    ap length (c.deref.ensures.value ∙ c.requires.layout.standings) ∙ length-standings c.args.net.now (schedule_of c.args.layout.now)

pub all_signals-requires-clause-small : goal.all_signals-requires-clause-small
all_signals-requires-clause-small c =
    subst AreSmall (sym c.deref.ensures.value)
    (layout-small c.args.net.now c.args.layout.now c.requires.layout (2 ^ 32) c.requires.few (omega arith))

pub all_drivers-requires-clause-standings : goal.all_drivers-requires-clause-standings
all_drivers-requires-clause-standings c =
    ap length (c.deref-3.ensures.value ∙ c.requires.layout.standings) ∙ length-standings c.args.net.now (schedule_of c.args.layout.now)

pub all_drivers-requires-clause-small : goal.all_drivers-requires-clause-small
all_drivers-requires-clause-small c =
    subst AreSmall (sym c.deref-3.ensures.value)
    (layout-small c.args.net.now c.args.layout.now c.requires.layout (2 ^ 32) c.requires.few (omega arith))

pub all_drivers-requires-clause-stand : goal.all_drivers-requires-clause-stand
all_drivers-requires-clause-stand c =
    nodes-stand c.args.net.now (schedule_of c.args.layout.now) c.requires.valid c.deref-3.result.now
    (c.deref-3.ensures.value ∙ c.requires.layout.standings)

pub all_drivers-requires-clause-latency : goal.all_drivers-requires-clause-latency
all_drivers-requires-clause-latency c =
    omega (arith, latency-few c.args.net.now c.args.layout.now c.requires.layout (2 ^ 32) c.requires.few)

pub returns-clause-signals : goal.returns-clause-signals
returns-clause-signals c =
    let net = c.args.net.now in
    c.in_ok-signals.ensures
    ∙ ap (λ ps. all_of (node_signals net ps) 0 net.nodes) (c.deref.ensures.value ∙ c.requires.layout.standings)

pub returns-clause-drivers : goal.returns-clause-drivers
returns-clause-drivers c =
    drivers-are c.args.enable c.args.net.now (schedule_of c.args.layout.now) c.deref-3.result.now c.first_input-first.result
    c.args.layout.now.latency (c.deref-3.ensures.value ∙ c.requires.layout.standings) c.first_input-first.ensures.place
    c.requires.layout.latency c.in_ok-drivers.drivers c.in_ok-drivers.ensures
