use Rattle.std.proofs.Common.{sym, ap, ◌∙◌}
use Rattle.opgen_machine.specs.Layout.{spots_of}
use Rattle.opgen_machine.specs.Programs.{Spots}
use Rattle.opgen_machine.specs.Settles.{put_spot}
use Rattle.opgen_machine.proofs.drivers.put.Goals as goal

pub returns-in-Signal : goal.returns-in-Signal
returns-in-Signal c =
    let spots : Spots = spots_of c.args.spots.now in
    λ low. record {
      spot = c.in_ok-spot.spot;
      leaves = c.in_ok-spot.ensures low;
      moved = ap (λ t. put_spot t c.in_ok-spot.spot spots) (sym c.in-Signal.is ∙ c.target.ensures);
    }

pub returns-in-Port : goal.returns-in-Port
returns-in-Port c =
    let spots : Spots = spots_of c.args.spots.now in
    λ low. record {
      spot = c.in_ok-spot.spot;
      leaves = c.in_ok-spot.ensures low;
      moved = ap (λ t. put_spot t c.in_ok-spot.spot spots) (sym c.in-Port.is ∙ c.target.ensures);
    }
