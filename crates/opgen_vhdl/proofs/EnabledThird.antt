-- The process of a design with an enable, checked against the lines as they are printed.
use Rattle.std.specs.Prelude.{◌≡◌, [], ◌∷◌, ◌++◌, codes, Some, None, false, refl}
use Rattle.opgen_design.specs.declared.design.Design.{Design}
use Rattle.opgen_design.specs.declared.design.Dir.TheVariants.{In, Out}
use Rattle.opgen_design.specs.declared.design.Driver.TheVariants.{Assign, Register, Output}
use Rattle.opgen_design.specs.Tree.{name, port}
use Rattle.opgen_vhdl.specs.DesignText.{driver_text, drivers_text, process_text}

abbrev third : Design
third = record {
  name = codes "third";
  ports =
      record { name = codes "ce"; dir = In; width = 1 } ∷ record { name = codes "x"; dir = In; width = 1 }
      ∷ record { name = codes "y"; dir = Out; width = 1 } ∷ [];
  signals = record { name = codes "s1"; width = 1; initial = None } ∷ record { name = codes "s1_1"; width = 1; initial = Some (false ∷ []) }
      ∷ [];
  drivers = Assign 0 (port 1) ∷ Register 1 (name 0) ∷ Output 2 (name 1) ∷ [];
  enable = Some 0;
}

pub enabled-process : process_text third ≡
    codes "  process (clk)\n"
    ++ codes "  begin\n"
    ++ codes "    if rising_edge(clk) then\n"
    ++ codes "      if ce = \"1\" then\n"
    ++ codes "        s1_1 <= s1;\n"
    ++ codes "      end if;\n"
    ++ codes "    end if;\n"
    ++ codes "  end process;\n"
unfolding driver_text drivers_text process_text
enabled-process = refl
