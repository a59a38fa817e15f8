use Rattle.std.proofs.Common.{◌≡◌, ◌≤◌, ◌*◌, ◌^◌, drop}
use Rattle.std.specs.Prelude.{pos, ◌+ℤ◌, ◌*ℤ◌, unsigned_abs}
use Rattle.opgen_terms.specs.Sop.{terms_of, total as total_of, height, raised, last_numbers}
use Rattle.opgen_terms.proofs.AllTerms.{most_bits}
use Rattle.opgen_terms.proofs.sop.total.Given as goal

abbrev pub invariant-terms : goal.invariant-terms
invariant-terms l = record {
  value : (l.total +ℤ total_of (λ t. t.number (last_numbers l.sop l.history) *ℤ pos (2 ^ height l.sop t)) (drop l.place (terms_of l.sop)))
      ≡ raised l.sop (λ t. t.number (last_numbers l.sop l.history));
  small : unsigned_abs l.total ≤ l.place * 2 ^ most_bits l.sop;
}
