use Rattle.std.proofs.Common.{◌≡◌, drop, max}
use Rattle.opgen_ports.specs.Reaches.{places_down}
use Rattle.opgen_terms.specs.Sop.{Term, greatest, terms_of, depth}
use Rattle.opgen_terms.proofs.terms.depth.Given as goal

abbrev pub invariant-terms : goal.invariant-terms
invariant-terms l = max l.depth (greatest (λ (t : Term). places_down t.shift) (drop l.place (terms_of l.sop))) ≡ depth l.sop
