use Rattle.std.proofs.Common.{length, refl}
use Rattle.opgen_read.specs.Places.{leads}
use Rattle.opgen_read.proofs.FirstPlaces.{one_declared, still_allowed}
use Rattle.opgen_read.proofs.declared.Declared.declare.Goals as goal

pub invariant_of-result : goal.invariant_of-result
invariant_of-result g c =
    let before = leads c.self.inside.first in
    let after = leads c.append.new.first in
    let name = g.T.Named.name_of c.args.item in
    let count = length c.self.inside.items in (
      one_declared g.T.Named.name_of c.self.inside.items c.append.new.items c.args.item before after name count
          c.in_ok-append.ensures.items refl refl c.self.invariant.0 c.in_ok-append.ensures.noted,
      still_allowed before after name count c.requires c.self.invariant.1 c.in_ok-append.ensures.noted,
    )
