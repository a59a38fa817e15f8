use Rattle.std.proofs.Common.{length, ◌≤◌, ◌+◌}
use Rattle.opgen_lex.specs.First.{IsPassed}
use Rattle.opgen_lex.specs.Left.{symbols_in}
use Rattle.opgen_read.specs.Reached.{Reached}
use Rattle.opgen_read.specs.Seen.{seen}
use Rattle.opgen_read.proofs.pieces.take_pieces.Given as goal

abbrev pub invariant-pieces : goal.invariant-pieces
invariant-pieces l = record {
  reached : Reached (symbols_in l.initial.text.now) (symbols_in l.text.now) l.place (seen l.draft) l.taken;
  within : l.taken + length (symbols_in l.text.now) ≤ length (symbols_in l.initial.text.now);
  passed : IsPassed l.initial.text.now l.text.now;
}

abbrev pub decreases-pieces : goal.decreases-pieces
decreases-pieces l = length (symbols_in l.text.now)
