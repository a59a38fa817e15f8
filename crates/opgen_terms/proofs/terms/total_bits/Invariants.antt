use Rattle.std.proofs.Common.{◌≡◌, ◌≤◌, drop, max}
use Rattle.opgen_terms.specs.Sop.{greatest, terms_of}
use Rattle.opgen_terms.proofs.AllTerms.{bits_of, most_bits}
use Rattle.opgen_terms.proofs.terms.total_bits.Given as goal

abbrev pub invariant-terms : goal.invariant-terms
invariant-terms l = record {
  value : max l.bits (greatest (bits_of l.sop) (drop l.place (terms_of l.sop))) ≡ most_bits l.sop;
  bound : l.bits ≤ 224;
}
