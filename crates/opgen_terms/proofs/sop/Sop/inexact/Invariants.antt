use Rattle.std.proofs.Common.{◌≡◌, not, drop}
use Rattle.std.specs.List.{position_from}
use Rattle.opgen_ports.specs.Reaches.{is_whole_at}
use Rattle.opgen_terms.specs.Sop.{Term, terms_of, sop_inexact}
use Rattle.opgen_terms.proofs.sop.Sop.inexact.Given as goal

abbrev pub invariant-terms : goal.invariant-terms
invariant-terms l = position_from (λ (t : Term). not (is_whole_at l.self.den t.shift t.factor)) l.place (drop l.place (terms_of l.self))
    ≡ sop_inexact l.self
