use Rattle.std.proofs.Common.{◌≡◌, not, drop}
use Rattle.std.specs.List.{find}
use Rattle.std.specs.Prelude.{map}
use Rattle.opgen_terms.specs.Sop.{Term, terms_of, is_small_shift}
use Rattle.opgen_terms.proofs.sop.Sop.shift.Given as goal

abbrev pub invariant-terms : goal.invariant-terms
invariant-terms l = find (λ shift. not (is_small_shift shift)) (map (λ (t : Term). t.shift) (drop l.place (terms_of l.self)))
    ≡ find (λ shift. not (is_small_shift shift)) (map (λ (t : Term). t.shift) (terms_of l.self))
