use Rattle.opgen_top.proofs.Naming.{fitting}
use Rattle.opgen_top.proofs.circuit.build_net.Goals as goal

pub returns-clause-net : goal.returns-clause-net
returns-clause-net g c =
    record { own = c.in_ok-made.made.net; by_kind = c.in_ok-made.ensures.net; cut = c.in_ok-cut_output.ensures.ok }

pub returns-clause-named : goal.returns-clause-named
returns-clause-named g c =
    (fitting c.args.spec.now c.cut_output.new.net c.requires.valid c.in_ok-cut_output.ensures.fits).named

pub returns-clause-fits : goal.returns-clause-fits
returns-clause-fits g c = c.in_ok-cut_output.ensures.fits
