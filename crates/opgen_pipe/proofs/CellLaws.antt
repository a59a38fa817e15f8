-- The cells of a net's design are few, and have widths of signals.
use Rattle.std.proofs.Common.{◌≡◌, ℕ, suc, ◌+◌, ◌*◌, ◌<◌, ◌≤◌, Bool, true, false, List, [], ◌∷◌, length, map, get_or, Some, None, refl, sym, ap, ◌∙◌, subst, arith}
use Rattle.std.specs.Prelude.{All, IfSome, Option, option_to_list, replicate, slice_get, slice_index, if◌then◌else◌}
use Rattle.std.proofs.Math.Path.{fun_ext}
use Rattle.std.proofs.lemmas.List.{length-append, length-replicate}
use Rattle.std.proofs.lemmas.List.Elements.{All-nil, All-cons, All-head, All-tail, All-append, All-replicate, All-same}
use Rattle.std.proofs.lemmas.List.Sums.{sum_by-cons}
use Rattle.std.proofs.lemmas.Option.{slice_get-get_or, slice_get_read, slice_get_within, get_or_from_slice_get}
use Rattle.opgen_design.specs.declared.design.TheConstants.{MAX_SIGNALS}
use Rattle.opgen_net.specs.declared.cell.Cell.{Cell}
use Rattle.opgen_net.specs.declared.cell.Class.{Class}
use Rattle.opgen_net.specs.declared.net.Net.{Net}
use Rattle.opgen_net.specs.declared.node.Node.{Node}
use Rattle.opgen_net.specs.declared.node.Node.TheVariants.{Input, Constant, Cells, Choice, Table, Delay}
use Rattle.opgen_net.specs.Valid.{widths, MayStand, IsValid}
use Rattle.opgen_net.proofs.FlowLaws.{length-widths, lies_within}
use Rattle.opgen_net.proofs.FlowWidths.{are_widths}
use Rattle.opgen_net.proofs.Standing.{may_stand}
use Rattle.opgen_design.proofs.WidthLaws.{width-is_width}
use Rattle.opgen_schedule.specs.Schedule.{Schedule}
use Rattle.opgen_net.specs.Classes.{classes, is_same}
use Rattle.opgen_target.specs.Delays.{IsTableWidth}
use Rattle.opgen_target.specs.Ledger.{Ledger, ledger_of, width_in, width_sum}
use Rattle.opgen_target.proofs.Charging.{ledger_of-whole}
use Rattle.opgen_pipe.specs.Cells.{cell_of, register_of, node_cells, design_cells}
use Rattle.opgen_pipe.specs.Copies.{copies, signals_before, signal_count}
use Rattle.opgen_pipe.specs.Pipelined.{all_of}
use Rattle.opgen_pipe.proofs.Blocks.{before-next}

pub cell-wide : (ws : List ℕ) → All IsTableWidth ws → (n : Node) → MayStand ws n → IfSome (cell_of ws n) (λ c. IsTableWidth c.width)
cell-wide ws all (Input port w) h = tt
cell-wide ws all (Constant w) h = tt
cell-wide ws all (Cells class w e) h = let x = width-is_width ws [] e w h.1.has_width in (x.0, omega (arith, x.1))
cell-wide ws all (Choice on one other) h =
    let x = h.one_lies in
    let y : IsTableWidth (slice_index ws one.node) = all one.node 0 (lies_within ws one h.one_lies) in
    (omega (arith, x.0), omega (arith, x.1, y.1))
cell-wide ws all (Table address rows) h = (h.address_width.0, omega (arith, h.address_width.1))
cell-wide ws all (Delay of) h = all of 0 h

pub all-wide : (net : Net) → IsValid net → (ws : List ℕ) → ws ≡ widths net.nodes → All IsTableWidth ws
all-wide net valid ws e =
    All-same IsTableWidth ws (widths net.nodes) e (
    λ i d l.
    let x = are_widths net.nodes valid.nodes i (omega (arith, l, length-widths net.nodes)) in
    let same : get_or (widths net.nodes) i d ≡ slice_index (widths net.nodes) i = sym (get_or_from_slice_get (widths net.nodes) i
    (get_or (widths net.nodes) i d) 0 (slice_get-get_or (widths net.nodes) i d l)) in
    subst IsTableWidth (sym same) (x.0, omega (arith, x.1))
    )

pub node-stands : (net : Net) → IsValid net → (ws : List ℕ) → ws ≡ widths net.nodes → (nodes : List Node) → nodes ≡ net.nodes
    → (i : ℕ) (n : Node) → i < length nodes → n ≡ get_or nodes i n → MayStand ws n
node-stands net valid ws e nodes f i n l g =
    subst (λ vs. MayStand vs n) (sym e) (may_stand net.nodes valid.nodes i n (ap (λ ns. slice_get ns i) (sym f) ∙ slice_get_read nodes
    (length nodes) i n refl l g))

some-list : (o : Option Cell) → IfSome o (λ c. IsTableWidth c.width) → All (λ c. IsTableWidth c.width) (option_to_list o)
some-list None h = All-nil (λ c. IsTableWidth c.width)
some-list (Some c) h = All-cons (λ c. IsTableWidth c.width) c [] h (All-nil (λ c. IsTableWidth c.width))

few-list : (o : Option Cell) → length (option_to_list o) ≤ 1
few-list None = omega arith
few-list (Some c) = omega arith

module _ (net : Net) (valid : IsValid net) (s : Schedule) where
  abbrev f : ℕ → Node → List Cell
  f = node_cells (widths net.nodes) (copies net s)

  cells-wide_on : (a : ℕ) (ns : List Node) → ((j : ℕ) (n : Node) → slice_get ns j ≡ Some n → slice_get net.nodes (a + j) ≡ Some n)
      → All (λ c. IsTableWidth c.width) (all_of (node_cells (widths net.nodes) (copies net s)) a ns)
  cells-wide_on a [] r = All-nil (λ c. IsTableWidth c.width)
  cells-wide_on a (n ∷ ns) r =
      let ws = widths net.nodes in
      let all = all-wide net valid ws refl in
      let e : a + 0 ≡ a = omega arith in
      let here : slice_get net.nodes a ≡ Some n = ap (slice_get net.nodes) (sym e) ∙ r 0 n refl in
      let own = some-list (cell_of ws n) (cell-wide ws all n (may_stand net.nodes valid.nodes a n here)) in
      let w : IsTableWidth (slice_index ws a) = all a 0 (omega (arith, slice_get_within net.nodes a n here, length-widths net.nodes)) in
      All-append (λ c. IsTableWidth c.width) (f a n) (all_of f (a + 1) ns)
      (All-append (λ c. IsTableWidth c.width) (option_to_list (cell_of ws n))
      (replicate (copies net s a) (register_of (slice_index ws a))) own
      (All-replicate (λ c. IsTableWidth c.width) (copies net s a) (register_of (slice_index ws a)) w))
      (cells-wide_on (a + 1) ns (λ j m g. let x : a + 1 + j ≡ a + suc j = omega arith in ap (slice_get net.nodes) x ∙ r (suc j) m g))

  pub cells-wide : All (λ c. IsTableWidth c.width) (design_cells net s)
  cells-wide = cells-wide_on 0 net.nodes (λ j n h. let e : 0 + j ≡ j = omega arith in ap (slice_get net.nodes) e ∙ h)

  cells-few_on : (a : ℕ) (ns : List Node) → length (all_of (node_cells (widths net.nodes) (copies net s)) a ns) + signals_before
      (copies net s) a ≤ signals_before (copies net s) (a + length ns)
  cells-few_on a [] = let e : a + 0 ≡ a = omega arith in omega (arith, ap (signals_before (copies net s)) e)
  cells-few_on a (n ∷ ns) =
      let ws = widths net.nodes in
      let own = option_to_list (cell_of ws n) in
      let more = replicate (copies net s a) (register_of (slice_index ws a)) in
      let e : a + length (n ∷ ns) ≡ a + 1 + length ns = omega arith in
      omega (
        arith,
        length-append (f a n) (all_of f (a + 1) ns),
        length-append own more,
        few-list (cell_of ws n),
        length-replicate (copies net s a) (register_of (slice_index ws a)),
        before-next (copies net s) a,
        cells-few_on (a + 1) ns,
        ap (signals_before (copies net s)) e,
      )

  pub cells-few : length (design_cells net s) ≤ signal_count net s
  cells-few = let e : 0 + length net.nodes ≡ length net.nodes = omega arith in omega (
    arith,
    cells-few_on 0 net.nodes,
    ap (signals_before
        (copies net s)) e,
  )

-- their bits are so many at most
pub width_sum-most : (cells : List Cell) → All (λ c. IsTableWidth c.width) cells → (class : Class)
    → width_sum cells class ≤ 128 * length cells
width_sum-most [] h class = omega arith
width_sum-most (c ∷ cs) h class =
    let P : Cell → Type 0 = λ c. IsTableWidth c.width in
    let own : width_in class c ≤ 128 = one (is_same c.class class) (All-head P c cs h).1 in
    let e : width_sum (c ∷ cs) class ≡ width_in class c + width_sum cs class = sum_by-cons (width_in class) c cs in
    omega (arith, e, own, width_sum-most cs (All-tail P c cs h) class)
  where
    one : (b : Bool) → c.width ≤ 128 → (if b then c.width else 0) ≤ 128
    one true l = l
    one false l = omega arith

-- so a ledger of them is their sum, which does not come near its end
module _ (net : Net) (valid : IsValid net) (s : Schedule) (few : signal_count net s ≤ MAX_SIGNALS) (cells : List Cell)
    (are : cells ≡ design_cells net s) (l : Ledger) (is : l ≡ ledger_of cells) where
  pub ledger-whole : (class : Class) → l class ≡ width_sum (design_cells net s) class
  ledger-whole class =
      let all = design_cells net s in
      ap (λ f. f class) is
      ∙ ap (λ cs. ledger_of cs class) are
      ∙ ledger_of-whole all class (omega (arith, width_sum-most all (cells-wide net valid s) class, cells-few net valid s, few))

  pub ledger-list : (r : List ℕ) → r ≡ map l classes → r ≡ map (width_sum (design_cells net s)) classes
  ledger-list r e = e ∙ ap (λ f. map f classes) (fun_ext ledger-whole)
