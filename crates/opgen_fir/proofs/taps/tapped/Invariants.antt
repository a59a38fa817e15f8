use Rattle.std.proofs.Common.{◌≡◌, [], ◌∷◌}
use Rattle.std.specs.Prelude.{codes}
use Rattle.opgen_net.specs.declared.node.Node.TheVariants.{Input}
use Rattle.opgen_net.specs.Valid.{IsValid}
use Rattle.opgen_fir.specs.Recipe.{delays}
use Rattle.opgen_fir.proofs.taps.tapped.Given as goal

abbrev pub invariant-delays : goal.invariant-delays
invariant-delays l = record {
  net : l.net ≡ record {
    inputs = (codes "x", l.sum.input.width) ∷ [];
    nodes = Input 0 l.sum.input.width ∷ delays l.place;
    outputs = [];
  };
  valid : IsValid l.net;
}
