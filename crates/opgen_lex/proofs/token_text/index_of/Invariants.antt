use Rattle.std.proofs.Common.{◌≡◌, ◌<◌, drop}
use Rattle.std.specs.Str.Parse.{digits_value_after}
use Rattle.opgen_num.specs.declared.format.TheConstants.{MAX_WIDTH}
use Rattle.opgen_vhdl.specs.Grammar.{value}
use Rattle.opgen_lex.proofs.token_text.index_of.Given as goal

abbrev pub invariant-digits : goal.invariant-digits
invariant-digits l = record {
  read : digits_value_after 10 l.index (drop l.digit-index l.digits) ≡ value l.digits;
  small : l.index < MAX_WIDTH;
}
