-- The text of a design that multiplies by three, checked against the whole text as it is printed.
use Rattle.std.specs.Prelude.{ℕ, ◌≡◌, ◌*◌, Bool, List, [], ◌∷◌, ◌++◌, codes, None, refl}
use Rattle.std.proofs.Common.{lit<}
use Rattle.std.proofs.lemmas.Fmt.{decimal_digit}
use Rattle.opgen_num.specs.Words.{word}
use Rattle.opgen_design.specs.declared.design.Design.{Design}
use Rattle.opgen_design.specs.declared.design.Dir.TheVariants.{In, Out}
use Rattle.opgen_design.specs.declared.design.Driver.TheVariants.{Assign, Table, Output}
use Rattle.opgen_design.specs.Tree.{name, port}
use Rattle.opgen_vhdl.specs.ExpressionText.{word_text, range_text}
use Rattle.opgen_vhdl.specs.DesignText.{port_text, entity_text, signal_text, row_text, other_text, driver_text, drivers_text, process_text, architecture_text, text_of}

abbrev row : ℕ → List Bool × List Bool
row x = (word 4 x, word 6 (3 * x))

abbrev pub times3 : Design
times3 = record {
  name = codes "times3";
  ports = record { name = codes "x"; dir = In; width = 4 } ∷ record { name = codes "y"; dir = Out; width = 6 } ∷ [];
  signals =
      record { name = codes "s0"; width = 4; initial = None }
      ∷ record { name = codes "s1"; width = 6; initial = None } ∷ [];
  drivers =
      Assign 0 (port 0)
      ∷ Table 1 (name 0) (row 0 ∷ row 1 ∷ row 2 ∷ row 3 ∷ row 4 ∷ row 5 ∷ row 6 ∷ row 7 ∷ row 8 ∷ row 9 ∷ row 10 ∷ row 11 ∷ row 12 ∷ row 13
      ∷ row 14 ∷ []) (word 6 45)
      ∷ Output 1 (name 1) ∷ [];
  enable = None;
}

pub times3-text : text_of times3 ≡
    codes "library ieee;\n"
    ++ codes "use ieee.std_logic_1164.all;\n"
    ++ codes "use ieee.numeric_std.all;\n"
    ++ codes "\n"
    ++ codes "entity times3 is\n"
    ++ codes "  port (\n"
    ++ codes "    clk : in std_logic;\n"
    ++ codes "    x : in std_logic_vector(3 downto 0);\n"
    ++ codes "    y : out std_logic_vector(5 downto 0)\n"
    ++ codes "  );\n"
    ++ codes "end entity;\n"
    ++ codes "\n"
    ++ codes "architecture rtl of times3 is\n"
    ++ codes "  signal s0 : unsigned(3 downto 0);\n"
    ++ codes "  signal s1 : unsigned(5 downto 0);\n"
    ++ codes "begin\n"
    ++ codes "  s0 <= unsigned(x);\n"
    ++ codes "  with s0 select s1 <=\n"
    ++ codes "    \"000000\" when \"0000\",\n"
    ++ codes "    \"000011\" when \"0001\",\n"
    ++ codes "    \"000110\" when \"0010\",\n"
    ++ codes "    \"001001\" when \"0011\",\n"
    ++ codes "    \"001100\" when \"0100\",\n"
    ++ codes "    \"001111\" when \"0101\",\n"
    ++ codes "    \"010010\" when \"0110\",\n"
    ++ codes "    \"010101\" when \"0111\",\n"
    ++ codes "    \"011000\" when \"1000\",\n"
    ++ codes "    \"011011\" when \"1001\",\n"
    ++ codes "    \"011110\" when \"1010\",\n"
    ++ codes "    \"100001\" when \"1011\",\n"
    ++ codes "    \"100100\" when \"1100\",\n"
    ++ codes "    \"100111\" when \"1101\",\n"
    ++ codes "    \"101010\" when \"1110\",\n"
    ++ codes "    \"101101\" when others;\n"
    ++ codes "  y <= std_logic_vector(s1);\n"
    ++ codes "end architecture;\n"
unfolding word_text range_text port_text entity_text signal_text row_text other_text driver_text drivers_text process_text architecture_text
times3-text = rw (decimal_digit 3 (lit< tt), decimal_digit 0 (lit< tt), decimal_digit 5 (lit< tt)) refl
