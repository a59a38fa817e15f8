use Rattle.std.proofs.Common.{◌≡◌, drop}
use Rattle.opgen_schedule.specs.Fitting.{all_fit}
use Rattle.opgen_schedule.proofs.fitting.fits.Given as goal

abbrev pub invariant-graph : goal.invariant-graph
invariant-graph l = all_fit l.room l.slots l.place (drop l.place l.graph) ≡ all_fit l.room l.slots 0 l.graph
