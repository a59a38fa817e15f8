use Rattle.std.proofs.Common.{ℕ, ◌≡◌, ◌<◌, ◌^◌}
use Rattle.std.specs.Prelude.{slice_index}
use Rattle.opgen_ports.specs.Ports.{format_at}
use Rattle.opgen_ports.proofs.words.is_cycle.Given as goal

abbrev pub invariant-words : goal.invariant-words
invariant-words l = record {
  place : l.place ≡ l.word-index;
  fit : (k : ℕ) → k < l.word-index → slice_index l.words k < 2 ^ (format_at l.ports k).width;
}
