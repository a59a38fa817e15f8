-- When rows that `check` judged good say what a design does with all inputs: its outputs show one row each, and the rows hold each word.
use Rattle.std.specs.Prelude.{ℕ, ◌≡◌, ◌+◌, ◌<◌, ◌≤◌, ℤ, Bool, false, List, Some, slice_get}
use Rattle.opgen_check.specs.declared.checked.Checked.TheVariants.{Good}
use Rattle.opgen_check.specs.Verdict.{IsChecked}
use Rattle.opgen_design.specs.declared.design.Design.{Design}
use Rattle.opgen_design.specs.Depth.{LooksBack}
use Rattle.opgen_design.specs.Run.{AreWords, input_widths}
use Rattle.opgen_design.specs.Sound.{IsSound}
use Rattle.opgen_num.specs.Words.{AreRowsOfCells}
use Rattle.opgen_operator.specs.declared.spec.Spec.{Spec}
use Rattle.opgen_operator.specs.Operator.{memory}
use Rattle.opgen_operator.specs.Outputs.{IsGood}
use Rattle.opgen_operator.specs.Serves.{Serves, ports_for}
use Rattle.opgen_operator.specs.Valid.{IsValidSpec}
use Rattle.opgen_part_laws.specs.Aligned.{IsAligned}
use Rattle.opgen_ports.specs.Ports.{Recent}
use Rattle.opgen_runs.specs.Rows.{rows_words}

-- Outputs that are good for some inputs, also those of a chosen width, are good for all that agree with them in the last cycle and in the
-- operator's memory of cycles before it.
abbrev pub GoodOutputsRecall : Type 0
GoodOutputsRecall = (spec : Spec) (inputs others : (port : ℕ) → Recent) (outputs : (port : ℕ) → ℤ)
    → ((port ago : ℕ) → ago ≤ memory spec.op → inputs port ago ≡ others port ago)
    → IsGood spec inputs outputs → IsGood spec others outputs

-- The rows are of words of these widths, and each list of such words is one that has so many rows after it or more.
pub record HoldEachWord (widths : List ℕ) (after rows : ℕ) (cells : List ℕ) : Type 0 where
  pub fit : AreRowsOfCells widths rows cells
  pub each : (given : List (List Bool)) → AreWords widths given
      → (row : ℕ) × (row + after < rows) × (slice_get (rows_words widths rows cells) row ≡ Some given)

-- a sound design without an enable, each of whose outputs shows the one row of inputs so many cycles before
pub record ShowsOneRow (d : Design) (latency : ℕ) : Type 0 where
  pub sound : IsSound d
  pub looks : LooksBack d latency
  pub aligned : IsAligned d latency

-- Where the operator has no memory, such a design with the ports of the specification serves it, for all inputs and for ever, if
-- all rows that are judged of rows with each word of the inputs are good.
abbrev pub GoodRowsServe : Type 0
GoodRowsServe = (spec : Spec) (d : Design) (latency rows judged : ℕ) (cells : List ℕ) → IsValidSpec spec → memory spec.op ≡ 0
    → d.ports ≡ ports_for spec false → ShowsOneRow d latency → HoldEachWord (input_widths d) latency rows cells
    → IsChecked spec d latency rows cells (Good judged) → Serves spec latency false d
