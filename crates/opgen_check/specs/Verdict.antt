-- The verdict on a design's run over rows of inputs, for a latency.
use Rattle.std.specs.Prelude.{ℕ, ◌≡◌, ◌+◌, ◌-◌, ◌*◌, ◌<◌, ◌≤◌, List, length, map, take, drop}
use Rattle.opgen_design.specs.declared.design.Design.{Design}
use Rattle.opgen_design.specs.Sound.{IsSound}
use Rattle.opgen_num.specs.Words.{AreRowsOfCells}
use Rattle.opgen_operator.specs.declared.spec.Spec.{Spec}
use Rattle.opgen_operator.specs.Outputs.{inputs_of, outputs_of}
use Rattle.opgen_runs.specs.Rows.{IsRunOf}
use Rattle.opgen_vec.specs.GoodRow.{IsGoodRow}
use Rattle.opgen_check.specs.declared.checked.Checked.{Checked}
use Rattle.opgen_check.specs.declared.checked.Checked.TheVariants.{Good, Bad}

-- the cells of a row, and those of the rows up to it
abbrev pub row_of : (columns row : ℕ) (cells : List ℕ) → List ℕ
row_of columns row cells = take columns (drop (row * columns) cells)

abbrev pub rows_up_to : (columns row : ℕ) (cells : List ℕ) → List ℕ
rows_up_to columns row cells = take ((row + 1) * columns) cells

-- so many rows of numbers of the widths that the specification gives its inputs, and of those of its outputs
abbrev pub AreInputRows : Spec → (rows : ℕ) (cells : List ℕ) → Type 0
AreInputRows spec rows cells = AreRowsOfCells (map (λ p. p.format.width) (inputs_of spec)) rows cells

abbrev pub AreOutputRows : Spec → (rows : ℕ) (cells : List ℕ) → Type 0
AreOutputRows spec rows cells = AreRowsOfCells (map (λ p. p.format.width) (outputs_of spec)) rows cells

-- of so many rows those from the latency on are judged
pub record IsJudged (latency rows row : ℕ) : Type 0 where
  pub from : latency ≤ row
  pub there : row < rows

-- a row of outputs is good for the inputs up to the row so many before
abbrev pub IsGoodAt : Spec → (latency : ℕ) (inputs outputs : List ℕ) (row : ℕ) → Type 0
IsGoodAt spec latency inputs outputs row =
    IsGoodRow spec (rows_up_to (length (inputs_of spec)) (row - latency) inputs) (row_of (length (outputs_of spec)) row outputs)

-- each judged row is good, and they are so many
pub record AreGood (spec : Spec) (latency rows : ℕ) (inputs outputs : List ℕ) (judged : ℕ) : Type 0 where
  pub good : (row : ℕ) → IsJudged latency rows row → IsGoodAt spec latency inputs outputs row
  pub counted : judged ≡ rows - latency

-- this judged row is not good, and each judged row before it is
pub record IsFirstBad (spec : Spec) (latency rows : ℕ) (inputs outputs : List ℕ) (row : ℕ) : Type 0 where
  pub judged : IsJudged latency rows row
  pub bad : IsGoodAt spec latency inputs outputs row → ⊥
  pub before : (earlier : ℕ) → earlier < row → IsJudged latency rows earlier → IsGoodAt spec latency inputs outputs earlier

abbrev pub IsVerdict : Spec → (latency rows : ℕ) (inputs outputs : List ℕ) → Checked → Type 0
IsVerdict spec latency rows inputs outputs (Good judged) = AreGood spec latency rows inputs outputs judged
IsVerdict spec latency rows inputs outputs (Bad row) = IsFirstBad spec latency rows inputs outputs row

-- the verdict on the outputs of the design's run
pub record IsChecked (spec : Spec) (d : Design) (latency rows : ℕ) (inputs : List ℕ) (checked : Checked) : Type 0 where
  pub outputs : List ℕ
  pub run : IsRunOf d rows inputs outputs
  pub verdict : IsVerdict spec latency rows inputs outputs checked

-- there is at most one
abbrev pub HasOneVerdict : Type 0
HasOneVerdict = (spec : Spec) (d : Design) (latency rows : ℕ) (inputs : List ℕ) (one other : Checked) → IsSound d
    → IsChecked spec d latency rows inputs one → IsChecked spec d latency rows inputs other → one ≡ other
