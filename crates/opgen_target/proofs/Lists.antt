-- What an entry of a list means for the table or the ledger that the list stands for.
use Rattle.std.proofs.Common.{◌≡◌, ℕ, ◌+◌, ◌*◌, ◌<◌, ◌≤◌, inl, inr, min, List, length, set, get_or, true, false, eqb, if◌then◌else◌, slice_index, slice_index_or, slice_set, refl, sym, arith}
use Rattle.std.proofs.Math.Path.{fun_ext}
use Rattle.std.proofs.Math.Nat.{mul-le-mul}
use Rattle.std.proofs.lemmas.Bool.Decides.{eqb_tells}
use Rattle.std.proofs.lemmas.List.{get_or-set_same, get_or-set_other}
use Rattle.std.proofs.lemmas.List.Elements.{All-get_or}
use Rattle.opgen_net.specs.declared.cell.Cell.{Cell}
use Rattle.opgen_net.specs.declared.cell.Class.{Class}
use Rattle.opgen_net.specs.declared.cell.Class.TheVariants.{Wire, Logic, Add, Choice, Table, Register}
use Rattle.opgen_net.specs.Classes.{place_of}
use Rattle.opgen_target.specs.Delays.{IsLine, with_line, on_line}
use Rattle.opgen_target.specs.Ledger.{with_cell, last_number}
use Rattle.opgen_target.specs.Tables.{AreLines, line_table, listed_ledger}

pub place_below : (class : Class) → place_of class < 6
place_below Wire = omega arith
place_below Logic = omega arith
place_below Add = omega arith
place_below Choice = omega arith
place_below Table = omega arith
place_below Register = omega arith

pub product_below : (per_bit width : ℕ) → per_bit ≤ 10000 → width ≤ 128 → per_bit * width ≤ 1280000
product_below per_bit width small narrow = mul-le-mul {n₁ = per_bit} {m₁ = width} {n₂ = 10000} {m₂ = 128} small narrow

-- the line of a class has a base and a step that lines may have
pub line-bounded : (lines : List (ℕ × ℕ)) (class : Class) (i : ℕ) → i ≡ place_of class → length lines ≡ 6 → AreLines lines →
    IsLine (slice_index_or lines i (0, 0)).0 (slice_index_or lines i (0, 0)).1
line-bounded lines class i at six bounded = All-get_or (λ line. IsLine line.0 line.1) lines i (0, 0)
    (rw (six, at) (place_below class)) bounded

-- an entry is read at its place, and each other place reads what it did
pub get_or-set : {X : Type 0} (xs : List X) (i j : ℕ) (y d : X) → i < length xs → get_or (set xs i y) j d
    ≡ (if eqb i j then y else get_or xs j d)
get_or-set xs i j y d below = elim (eqb_tells i j) as (λ _. get_or (set xs i y) j d ≡ (if eqb i j then y else get_or xs j d)) [
  | inl same ↦ rw (same.0, ← same.1) (get_or-set_same xs i y d below)
  | inr other ↦ rw other.0 (get_or-set_other xs i j y d (λ e. other.1 (sym e)))
]

-- a line is the table's where it was entered
pub line-entered : (lines : List (ℕ × ℕ)) (class : Class) (i base per_bit : ℕ) → i ≡ place_of class → length lines ≡ 6 →
    line_table (slice_set lines i (base, per_bit)) ≡ with_line class base per_bit (line_table lines)
line-entered lines class i base per_bit at six = rw at (fun_ext (λ other. fun_ext (λ width. read other width))) where
  read : (other : Class) (width : ℕ) → line_table (slice_set lines (place_of class) (base, per_bit)) other width
      ≡ with_line class base per_bit (line_table lines) other width
  read other width = rw (get_or-set lines (place_of class) (place_of other) (base, per_bit) (0, 0) (rw six (place_below class)))
      (elim (eqb (place_of class) (place_of other)) as
      (λ same. (let line = (if same then (base, per_bit) else get_or lines (place_of other) (0, 0)) in on_line line.0 line.1 width)
      ≡ (if same then on_line base per_bit width else line_table lines other width)) [ true ↦ refl | false ↦ refl ])

-- a cell is the ledger's where it was entered
pub cell-entered : (charged : List ℕ) (cell : Cell) (i number : ℕ) → i ≡ place_of cell.class → length charged ≡ 6 →
    number ≡ min (slice_index charged i + cell.width) last_number →
    listed_ledger (slice_set charged i number) ≡ with_cell cell (listed_ledger charged)
cell-entered charged cell i number at six is = rw at (fun_ext read) where
  read : (class : Class) → listed_ledger (slice_set charged (place_of cell.class) number) class
      ≡ with_cell cell (listed_ledger charged) class
  read class = rw (get_or-set charged (place_of cell.class) (place_of class) number 0 (rw six (place_below cell.class)))
      (elim (eqb_tells (place_of cell.class) (place_of class)) as
      (λ _. (if eqb (place_of cell.class) (place_of class) then number else get_or charged (place_of class) 0)
      ≡ with_cell cell (listed_ledger charged) class) [
        | inl same ↦ rw same.0 (rw (← same.1, ← at) is)
        | inr other ↦ rw other.0 refl
      ])
