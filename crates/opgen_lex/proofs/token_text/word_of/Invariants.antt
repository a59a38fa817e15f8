use Rattle.std.proofs.Common.{◌≡◌, ◌≤◌, take, length}
use Rattle.opgen_vhdl.specs.Symbols.{bits_in}
use Rattle.opgen_lex.proofs.token_text.word_of.Given as goal

abbrev pub invariant-bits : goal.invariant-bits
invariant-bits l = record {
  read : l.word ≡ bits_in (take l.byte-index l.text);
  short : length l.word ≤ l.byte-index;
}
