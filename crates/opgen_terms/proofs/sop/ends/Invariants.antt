use Rattle.std.proofs.Common.{◌≡◌, ◌≤◌, ◌*◌, ◌^◌, drop}
use Rattle.std.specs.Prelude.{pos, ◌+ℤ◌, ◌*ℤ◌, unsigned_abs}
use Rattle.opgen_terms.specs.Sop.{terms_of, total, height, raised}
use Rattle.opgen_terms.proofs.AllTerms.{most_bits}
use Rattle.opgen_terms.proofs.sop.ends.Given as goal

abbrev pub invariant-terms : goal.invariant-terms
invariant-terms l = record {
  least : (l.least +ℤ total (λ t. t.least *ℤ pos (2 ^ height l.sop t)) (drop l.place (terms_of l.sop))) ≡ raised l.sop (λ t. t.least);
  most : (l.most +ℤ total (λ t. t.most *ℤ pos (2 ^ height l.sop t)) (drop l.place (terms_of l.sop))) ≡ raised l.sop (λ t. t.most);
  least_small : unsigned_abs l.least ≤ l.place * 2 ^ most_bits l.sop;
  most_small : unsigned_abs l.most ≤ l.place * 2 ^ most_bits l.sop;
}
