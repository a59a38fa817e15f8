-- What holds of every net and every circuit of a specification: there is at most one, and the circuit is sound and checked good.
use Rattle.std.specs.Prelude.{ℕ, ◌≡◌, ◌-◌, Bool, false, List, [], length, Ok}
use Rattle.std.specs.Str.Lines.{lines}
use Rattle.opgen_design.specs.Run.{input_widths}
use Rattle.opgen_design.specs.Sound.{IsSound}
use Rattle.opgen_net.specs.declared.net.Net.{Net}
use Rattle.opgen_operator.specs.declared.spec.Spec.{Spec}
use Rattle.opgen_operator.specs.Valid.{IsValidSpec}
use Rattle.opgen_pipe.specs.declared.planning.Planned.{Planned}
use Rattle.opgen_target.specs.Delays.{Delays}
use Rattle.opgen_top.specs.declared.line.Line.TheVariants as line
use Rattle.opgen_top.specs.Answer.{Answer, success}
use Rattle.opgen_top.specs.Check.{IsAnswerToVhdl}
use Rattle.opgen_top.specs.Circuit.{IsCircuit}
use Rattle.opgen_top.specs.Kinds.{IsNetOf}
use Rattle.opgen_vec.specs.Reading.{IsReading}
use Rattle.opgen_vhdl.specs.DesignText.{text_of}

-- a specification leaves at most one net
abbrev pub HasOneNet : Type 0
HasOneNet = (spec : Spec) (a b : Net) → IsNetOf spec a → IsNetOf spec b → a ≡ b

-- a specification leaves at most one circuit for a table
abbrev pub HasOneCircuit : Type 0
HasOneCircuit = (spec : Spec) (table : Delays) (enable : Bool) (p q : Planned) (a b : List ℕ)
    → IsCircuit spec table enable p a → IsCircuit spec table enable q b → (p ≡ q) × (a ≡ b)

-- every circuit of a valid specification is sound
abbrev pub CircuitsAreSound : Type 0
CircuitsAreSound = (spec : Spec) → IsValidSpec spec → (table : Delays) (enable : Bool) (planned : Planned) (adders : List ℕ)
    → IsCircuit spec table enable planned adders → IsSound planned.design

-- `check` of the text of a circuit, at its latency: whatever rows it is given, each row that is judged is good
abbrev pub CircuitsCheckGood : Type 0
CircuitsCheckGood = (spec : Spec) → IsValidSpec spec → (table : Delays) (planned : Planned) (adders : List ℕ)
    → IsCircuit spec table false planned adders
    → (vectors cells : List ℕ) → IsReading (input_widths planned.design) (lines vectors) (Ok cells)
    → (a : Answer) → IsAnswerToVhdl spec planned.latency (text_of planned.design) vectors a
    → a ≡ success (line.Good (length (lines vectors) - planned.latency)) []
