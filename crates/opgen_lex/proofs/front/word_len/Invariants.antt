use Rattle.std.proofs.Common.{◌≡◌, ◌≤◌, ◌-◌, length, drop, false}
use Rattle.opgen_lex.proofs.Words.{word_end, further}
use Rattle.opgen_lex.proofs.front.word_len.Given as goal

abbrev pub invariant-bytes : goal.invariant-bytes
invariant-bytes l = record {
  walked : further l.len (word_end l.underscore (drop l.len l.bytes)) ≡ word_end false l.bytes;
  within : l.len ≤ length l.bytes;
}

abbrev pub decreases-bytes : goal.decreases-bytes
decreases-bytes l = length l.bytes - l.len
