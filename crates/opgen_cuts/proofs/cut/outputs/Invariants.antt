use Rattle.std.proofs.Common.{◌≡◌, map, take}
use Rattle.opgen_cuts.specs.Renamed.{renamed_output}
use Rattle.opgen_cuts.proofs.cut.outputs.Given as goal

abbrev pub invariant-outputs : goal.invariant-outputs
invariant-outputs l = l.found ≡ map (renamed_output l.places) (take l.output-index l.outputs)
