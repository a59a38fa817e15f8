use Rattle.std.proofs.Common.{sym, ◌∙◌}
use Rattle.opgen_design.specs.Sound.{target}
use Rattle.opgen_lanes.proofs.DriverWords.{signal-there, port-there}
use Rattle.opgen_lanes.proofs.drivers.put_at.Goals as goal

pub store-requires-clause-at : goal.store-requires-clause-at
store-requires-clause-at c =
    signal-there c.args.banks.now.signals c.args.banks.now.ports (target c.args.driver.now) c.in-Signal.place (sym c.target.ensures ∙ c.in-Signal.is)
    c.requires.there

pub store-requires-in-Port-clause-at : goal.store-requires-in-Port-clause-at
store-requires-in-Port-clause-at c =
    port-there c.args.banks.now.signals c.args.banks.now.ports (target c.args.driver.now) c.in-Port.place (sym c.target.ensures ∙ c.in-Port.is)
    c.requires.there
