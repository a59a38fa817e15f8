use Rattle.std.proofs.Common.{length, ◌-◌, ◌≤◌}
use Rattle.opgen_vhdl.proofs.CutLemmas.{CutTo}
use Rattle.opgen_lex.proofs.tokens.Given as goal

abbrev pub invariant-elements : goal.invariant-elements
invariant-elements l = record {
  cut : CutTo l.bytes l.at l.found.items;
  within : l.at ≤ length l.bytes;
}

abbrev pub decreases-elements : goal.decreases-elements
decreases-elements l = length l.bytes - l.at
