-- What charging cells one by one makes of an empty ledger.
use Rattle.std.proofs.Common.{◌≡◌, ◌+◌, ◌≤◌, min, List, [], ◌∷◌, ◌++◌, true, false, if◌then◌else◌, arith}
use Rattle.std.proofs.Math.Path.{fun_ext}
use Rattle.std.proofs.lemmas.List.Sums.{sum_by-append}
use Rattle.opgen_net.specs.declared.cell.Cell.{Cell}
use Rattle.opgen_net.specs.declared.cell.Class.{Class}
use Rattle.opgen_net.specs.Classes.{is_same}
use Rattle.opgen_target.specs.Ledger.{empty_ledger, with_cell, width_in, width_sum, ledger_of, last_number}

-- no cell leaves the ledger empty
pub ledger_of-none : ledger_of [] ≡ empty_ledger
ledger_of-none = fun_ext (λ class. omega arith)

width_sum-more : (cells : List Cell) (cell : Cell) (class : Class) → width_sum (cells ++ cell ∷ []) class
    ≡ width_sum cells class + width_in class cell
width_sum-more cells cell class = rw (sum_by-append (width_in class) cells (cell ∷ [])) (omega arith)

-- one more cell is entered
pub ledger_of-more : (cells : List Cell) (cell : Cell) → with_cell cell (ledger_of cells) ≡ ledger_of (cells ++ cell ∷ [])
ledger_of-more cells cell = fun_ext (λ class. rw (width_sum-more cells cell class)
    (elim (is_same cell.class class) as (λ same. (if same then min (min (width_sum cells class) last_number + cell.width) last_number else
    min (width_sum cells class) last_number) ≡ min (width_sum cells class + (if same then cell.width else 0)) last_number) [
      | true ↦ omega arith
      | false ↦ omega arith
    ]))

-- a sum that is not beyond the end stands whole
pub ledger_of-whole : (cells : List Cell) (class : Class) → width_sum cells class ≤ last_number → ledger_of cells class
    ≡ width_sum cells class
ledger_of-whole cells class below = omega (arith, below)
