-- One cycle of a design, with numbers at its input and output ports.
use Rattle.std.specs.Prelude.{ℕ, ◌≡◌, Bool, List, map}
use Rattle.opgen_num.specs.Words.{nat, words_of}
use Rattle.opgen_design.specs.declared.design.Design.{Design}
use Rattle.opgen_design.specs.Run.{Words, Cycle, input_widths, words_at_outputs}

-- a cycle from the registers' words now to the next ones, with these numbers at the input ports and at the output ports
pub record IsStep (d : Design) (now : List (List Bool)) (inputs : List ℕ) (next : List (List Bool)) (outputs : List ℕ) : Type 0 where
  pub words : Words
  pub cycle : Cycle d now (words_of (input_widths d) inputs) words next
  pub outputs_are : outputs ≡ map nat (words_at_outputs d words)
