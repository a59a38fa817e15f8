-- A node has its word after the delays of each path that ends in it.
use Rattle.std.proofs.Common.{◌≡◌, ℕ, ◌+◌, ◌≤◌, false, List, Some, refl, ap, ◌∙◌, arith}
use Rattle.std.specs.Prelude.{slice_get, slice_index}
use Rattle.std.proofs.lemmas.List.Elements.{All-contains}
use Rattle.opgen_net.specs.declared.node.Node.{Node}
use Rattle.opgen_net.specs.declared.node.Node.TheVariants.{Input, Constant, Cells, Choice, Table, Delay}
use Rattle.opgen_schedule.specs.Reads.{reads_of, is_constant, is_some_constant, is_constant_at}
use Rattle.opgen_schedule.specs.Schedule.{Schedule, InTime, CellFits, Fits}
use Rattle.opgen_schedule.specs.Laws.{IsOfCells, Path, alone, longer, PathsFit}

module _ (nodes : List Node) (delays : List ℕ) (setup period : ℕ) (s : Schedule) (fits : Fits nodes delays setup period s) where
  cells_fit : (i : ℕ) (n : Node) → slice_get nodes i ≡ Some n → IsOfCells n
      → CellFits nodes setup period s (slice_index delays i) i (reads_of n)
  cells_fit i (Cells class w e) h c = fits.nodes_fit i (Cells class w e) h
  cells_fit i (Choice on one other) h c = fits.nodes_fit i (Choice on one other) h
  cells_fit i (Table address rows) h c = fits.nodes_fit i (Table address rows) h
  cells_fit i (Input port w) h c = absurd c
  cells_fit i (Constant w) h c = absurd c
  cells_fit i (Delay of) h c = absurd c

  no_constant : (n : Node) → IsOfCells n → is_constant n ≡ false
  no_constant (Cells class w e) c = refl
  no_constant (Choice on one other) c = refl
  no_constant (Table address rows) c = refl
  no_constant (Input port w) c = absurd c
  no_constant (Constant w) c = absurd c
  no_constant (Delay of) c = absurd c

  ends_in_cells : (i sum : ℕ) → Path nodes delays s i sum → (sum ≤ (s i).time) × ((s i).time + setup ≤ period)
      × (is_constant_at nodes i ≡ false)
  ends_in_cells _ _ (alone i n h c) =
      let f = cells_fit i n h c in (f.own, f.ends, ap is_some_constant h ∙ no_constant n c)
  ends_in_cells _ _ (longer j before i n p h c r same) =
      let f = cells_fit i n h c in
      let b = ends_in_cells j before p in
      let t = All-contains (λ j. is_constant_at nodes j ≡ false → InTime s (slice_index delays i) i j) (reads_of n) j f.operands r b.2 in
      (omega (arith, b.0, t.1 same), f.ends, ap is_some_constant h ∙ no_constant n c)

pub paths_fit : PathsFit
paths_fit nodes delays setup period s fits i sum p = let e = ends_in_cells nodes delays setup period s fits i sum p in (e.0, e.1)
