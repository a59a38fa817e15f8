-- The design of one signal between two ports, against the symbols of its text.
use Rattle.std.specs.Prelude.{◌≡◌, List, [], ◌∷◌, codes, true, false, None, refl}
use Rattle.opgen_vhdl.specs.declared.kind.TokenKind.TheVariants.{Word, Bits, LeftParen, RightParen, Semicolon, Colon, Dot, LessEqual}
use Rattle.opgen_vhdl.specs.declared.place.Place.TheVariants.{Library, End}
use Rattle.opgen_design.specs.declared.design.Design.{Design}
use Rattle.opgen_design.specs.declared.design.Dir.TheVariants.{In, Out}
use Rattle.opgen_design.specs.declared.design.Driver.TheVariants.{Assign, Output}
use Rattle.opgen_names.specs.Names.{refused_words}
use Rattle.opgen_design.specs.Tree as tree
use Rattle.opgen_vhdl.specs.Symbols.{Symbol, word, number, string, mark, symbol_of, pieces}
use Rattle.opgen_vhdl.specs.Grammar.{whole, signal, input, plain, single}
use Rattle.opgen_vhdl.specs.Statements.{nothing, Follows, stay, onward, library_clause, use_logic, use_numeric, entity, port, last_port, port_line, end_entity, bare, of_unit, architecture, absent, begin, statement, assignment, output, end_without_process}
use Rattle.opgen_vhdl.specs.Statements as said
use Rattle.std.proofs.Common.{lit≤}

-- library ieee; use ieee.std_logic_1164.all; use ieee.numeric_std.all;
-- entity copy is port (clk : in std_logic; x : in std_logic_vector(3 downto 0); y : out std_logic_vector(3 downto 0)); end entity;
-- architecture rtl of copy is signal s0 : unsigned(3 downto 0); begin s0 <= unsigned(x); y <= std_logic_vector(s0); end;
abbrev of_text : List Symbol
of_text =
    word (codes "library") ∷ word (codes "ieee") ∷ mark Semicolon
    ∷ word (codes "use") ∷ word (codes "ieee") ∷ mark Dot ∷ word (codes "std_logic_1164") ∷ mark Dot ∷ word (codes "all") ∷ mark Semicolon
    ∷ word (codes "use") ∷ word (codes "ieee") ∷ mark Dot ∷ word (codes "numeric_std") ∷ mark Dot ∷ word (codes "all") ∷ mark Semicolon
    ∷ word (codes "entity") ∷ word (codes "copy") ∷ word (codes "is") ∷ word (codes "port") ∷ mark LeftParen
    ∷ word (codes "clk") ∷ mark Colon ∷ word (codes "in") ∷ word (codes "std_logic") ∷ mark Semicolon
    ∷ word (codes "x") ∷ mark Colon ∷ word (codes "in") ∷ word (codes "std_logic_vector")
    ∷ mark LeftParen ∷ number (codes "3") ∷ word (codes "downto") ∷ number (codes "0") ∷ mark RightParen ∷ mark Semicolon
    ∷ word (codes "y") ∷ mark Colon ∷ word (codes "out") ∷ word (codes "std_logic_vector")
    ∷ mark LeftParen ∷ number (codes "3") ∷ word (codes "downto") ∷ number (codes "0") ∷ mark RightParen ∷ mark RightParen ∷ mark Semicolon
    ∷ word (codes "end") ∷ word (codes "entity") ∷ mark Semicolon
    ∷ word (codes "architecture") ∷ word (codes "rtl") ∷ word (codes "of") ∷ word (codes "copy") ∷ word (codes "is")
    ∷ word (codes "signal") ∷ word (codes "s0") ∷ mark Colon ∷ word (codes "unsigned")
    ∷ mark LeftParen ∷ number (codes "3") ∷ word (codes "downto") ∷ number (codes "0") ∷ mark RightParen ∷ mark Semicolon
    ∷ word (codes "begin") ∷ word (codes "s0") ∷ mark LessEqual
    ∷ word (codes "unsigned") ∷ mark LeftParen ∷ word (codes "x") ∷ mark RightParen ∷ mark Semicolon
    ∷ word (codes "y") ∷ mark LessEqual ∷ word (codes "std_logic_vector") ∷ mark LeftParen ∷ word
    (codes "s0") ∷ mark RightParen ∷ mark Semicolon
    ∷ word (codes "end") ∷ mark Semicolon ∷ []

abbrev copy : Design
copy = record {
  name = codes "copy";
  ports = record { name = codes "x"; dir = In; width = 4 } ∷ record { name = codes "y"; dir = Out; width = 4 } ∷ [];
  signals = record { name = codes "s0"; width = 4; initial = None } ∷ [];
  drivers = Assign 0 (tree.port 0) ∷ Output 1 (tree.name 0) ∷ [];
  enable = None;
}

pub one_signal : Follows Library nothing (pieces of_text) End (record { design = copy; architecture = codes "rtl"; agrees = true })
unfolding refused_words
one_signal =
    onward library_clause (onward use_logic (onward use_numeric (onward (entity refl)
    (onward (port (port_line {dir = In} refl (lit≤ tt)))
    (onward (last_port (port_line {dir = Out} refl (lit≤ tt))) (onward (end_entity of_unit)
    (onward (architecture refl refl (said.signal refl (lit≤ tt) absent))
    (onward (begin (statement (assignment refl (single (plain (input refl))))))
    (onward (statement (output refl (single (plain (signal (whole refl))))))
    (onward (end_without_process bare) stay))))))))))

-- words are compared without case, and the last digit of a bit string is the lowest bit
pub upper_case : symbol_of (Word, codes "Entity") ≡ word (codes "entity")
upper_case = refl

pub bit_string : symbol_of (Bits, codes "\"011\"") ≡ string (true ∷ true ∷ false ∷ [])
bit_string = refl
