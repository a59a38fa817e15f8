-- Why a text has no list of tokens.
use Rattle.std.specs.Prelude.{ℕ, List}
use Rattle.opgen_vhdl.specs.Tokens.{LexicalAt}
use Rattle.opgen_lex.specs.declared.LexFault.{LexFault}
use Rattle.opgen_lex.specs.declared.LexFault.TheVariants.{Lexical, Memory}

-- nothing starts at the offset that the fault names; running out of memory says nothing of the text
abbrev pub IsLexical : List ℕ → LexFault → Type 0
IsLexical bytes (Lexical offset) = LexicalAt bytes offset
IsLexical bytes Memory = Unit {0}
