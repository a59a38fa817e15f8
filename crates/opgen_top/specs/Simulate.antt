-- What `simulate` answers, by the bytes of its VHDL and of its vectors.
use Rattle.std.specs.Prelude.{ℕ, ◌≡◌, ◌≢◌, ◌⊎◌, List, [], ◌∷◌, length, Ok, Err}
use Rattle.std.specs.Str.Lines.{lines}
use Rattle.opgen_design.specs.declared.design.Design.{Design}
use Rattle.opgen_design.specs.Run.{input_widths}
use Rattle.opgen_design.specs.Sound.{IsSound}
use Rattle.opgen_vhdl.specs.Spelled.{Spells}
use Rattle.opgen_read.specs.declared.fault.ReadFault.{ReadFault}
use Rattle.opgen_read.specs.declared.fault.ReadFault.TheVariants as read
use Rattle.opgen_read.specs.Answer.{IsWithinLimits, IsReadFault}
use Rattle.opgen_vec.specs.declared.fault.VecFault.{VecFault}
use Rattle.opgen_vec.specs.Reading.{IsReading}
use Rattle.opgen_top.specs.declared.line.Line.TheVariants as line
use Rattle.opgen_top.specs.Answer.{Answer, file, refusal, success}
use Rattle.opgen_top.specs.Running.{IsRunText}

-- the text spells a sound design within the limits
pub record GivesDesign (text : List ℕ) (design : Design) : Type 0 where
  pub spelled : Spells text design
  pub within : IsWithinLimits design
  pub sound : IsSound design

-- the VHDL has a cause against it
pub record RefusesVhdl (text : List ℕ) (a : Answer) : Type 0 where
  pub fault : ReadFault
  pub of_text : fault ≢ read.Memory
  pub cause : IsReadFault text fault
  pub answer : a ≡ refusal (line.VhdlRefused fault)

-- the vectors are no rows of words of these widths; without widths each line has to be empty
pub record RefusesRows (widths vectors : List ℕ) (a : Answer) : Type 0 where
  pub fault : VecFault
  pub cause : IsReading widths (lines vectors) (Err fault)
  pub answer : a ≡ refusal (line.VectorsRefused fault)

-- nor of the inputs of the design that the VHDL spells
pub record RefusesVectors (text vectors : List ℕ) (a : Answer) : Type 0 where
  pub design : Design
  pub gives : GivesDesign text design
  pub refused : RefusesRows (input_widths design) vectors a

-- they are rows: stored are those of the inputs and of the outputs, in the run of the design
pub record Runs (out text vectors : List ℕ) (a : Answer) : Type 0 where
  pub design : Design
  pub gives : GivesDesign text design
  pub cells : List ℕ
  pub read : IsReading (input_widths design) (lines vectors) (Ok cells)
  pub rows : List ℕ
  pub run : IsRunText design (length (lines vectors)) cells rows
  pub answer : a ≡ success (line.Simulated (length (lines vectors))) (file out rows ∷ [])

-- the answer by the bytes of both files
abbrev pub IsSimulated : (out text vectors : List ℕ) → Answer → Type 0
IsSimulated out text vectors a = RefusesVhdl text a ⊎ (RefusesVectors text vectors a ⊎ Runs out text vectors a)
