-- The row of cells over the bits that are tested: one of them is 1 where the number lies outside.
use Rattle.std.proofs.Common.{◌≡◌, inl, inr, ℕ, zero, suc, ◌+◌, ◌-◌, ◌≤◌, ◌<◌, Bool, false, List, [], ◌∷◌, length, length-append, ◌||◌, refl, sym, ap, ◌∙◌, subst, arith}
use Rattle.std.specs.Prelude.{ℤ, All, slice_index, slice_index_or}
use Rattle.std.proofs.lemmas.Bool.{cases_lt}
use Rattle.opgen_design.specs.Run.{AreWords}
use Rattle.opgen_design.specs.Tree.{Tree}
use Rattle.opgen_design.specs.Value.{IsWidth, Scope, value}
use Rattle.opgen_net.specs.declared.cell.Class.TheVariants.{Logic}
use Rattle.opgen_net.specs.declared.net.Net.{Net}
use Rattle.opgen_net.specs.declared.node.Node.{Node}
use Rattle.opgen_net.specs.declared.node.Node.TheVariants.{Cells}
use Rattle.opgen_net.specs.Flow.{Inputs, flow, streams_on, stream_at}
use Rattle.opgen_net.specs.Placed.{with_last}
use Rattle.opgen_net.specs.Valid.{IsValid, MayStand, input_widths, widths}
use Rattle.opgen_net.proofs.Appending.{flow-append_before, flow-append_last, width-append_last}
use Rattle.opgen_net.proofs.FlowLaws.{index_within, length-widths}
use Rattle.opgen_net.proofs.FlowWidths.{are_widths, flow-width}
use Rattle.opgen_net.proofs.Grown.{grown-flow, grown-width}
use Rattle.opgen_net.proofs.Later.{Later, later-then, later-node, words-later}
use Rattle.opgen_saturate.specs.Recipe.{differs, stride, followed, with_row}
use Rattle.opgen_saturate.proofs.Bits.{any_at, differ, differs-value}
use Rattle.opgen_saturate.proofs.Expressions.{differs-fits}
use Rattle.opgen_saturate.proofs.Groups.{any-split, any-one, group-split, last-few, more-many, more-next, stride-few}
use Rattle.opgen_saturate.proofs.Logic.{differs-logic}

-- the lowest bit of a node at a time
abbrev pub bit_at : List Node → Inputs → ℤ → ℕ → Bool
bit_at nodes inputs t n = slice_index_or (flow nodes inputs n t) 0 false

-- the words of a net's nodes at a time
abbrev pub scope_at : Net → Inputs → ℤ → Scope
scope_at net inputs t = record { names = λ k. stream_at (streams_on inputs [] net.nodes) k t; ports = λ k. [] }

-- a cell of one bit more
module _ (net : Net) (valid : IsValid net) (e : Tree) (stands : MayStand (widths net.nodes) (Cells Logic 1 e)) where
  abbrev cell : Node
  cell = Cells Logic 1 e

  abbrev next : Net
  next = with_last net cell

  pub next-later : Later net next
  next-later = later-node net cell valid stands refl

  pub next-count : length next.nodes ≡ length net.nodes + 1
  next-count = length-append net.nodes (cell ∷ [])

  pub next-width : slice_index (widths next.nodes) (length net.nodes) ≡ 1
  next-width = width-append_last net.nodes cell

  pub next-flow : (inputs : Inputs) (t : ℤ) → flow next.nodes inputs (length net.nodes) t ≡ value (scope_at net inputs t) e
  next-flow inputs t = flow-append_last net.nodes cell inputs t

-- a row of so many cells and one more: one is 1 where the bits are as the test says
pub record IsRow (net : Net) (both : Bool) (node low count groups : ℕ) (made : Net) : Type 0 where
  pub later : Later net made
  pub long : length made.nodes ≡ length net.nodes + suc groups
  pub bits : (n : ℕ) → length net.nodes ≤ n → n < length made.nodes → slice_index (widths made.nodes) n ≡ 1
  pub tells :
      (inputs : Inputs) (t : ℤ) → All (AreWords (input_widths net)) inputs
      → any_at (bit_at made.nodes inputs t) (length net.nodes) (suc groups) ≡ differ both (flow net.nodes inputs node t) low count

module _ (both : Bool) (node : ℕ) where
  -- a group of bits as a cell
  pub group-stands : (net : Net) (low count : ℕ) → 1 ≤ count → count ≤ 6 → low + count ≤ slice_index (widths net.nodes) node
      → MayStand (widths net.nodes) (Cells Logic 1 (differs both node low count))
  group-stands net low count some six there = (
    differs-logic (widths net.nodes) both node low count some six,
    differs-fits (widths net.nodes) node low count some there both,
  )

  -- the node is there
  pub node-within : (net : Net) (low count : ℕ) → 1 ≤ count → low + count ≤ slice_index (widths net.nodes) node → node < length net.nodes
  node-within net low count some there =
      omega (arith, index_within (widths net.nodes) node low (omega (arith, some, there)), length-widths net.nodes)

  -- and has few bits
  pub bits-within : (net : Net) → IsValid net → (low count : ℕ) → 1 ≤ count → low + count ≤ slice_index (widths net.nodes) node
      → low + count ≤ 96
  bits-within net valid low count some there =
      let most : IsWidth (slice_index (widths net.nodes) node) = are_widths net.nodes valid.nodes node (node-within net low count some there) in
      omega (arith, most.1, there)

  module _ (net : Net) (valid : IsValid net) (low count : ℕ) (some : 1 ≤ count) (six : count ≤ 6)
      (there : low + count ≤ slice_index (widths net.nodes) node) where
    abbrev e : Tree
    e = differs both node low count

    abbrev stands : MayStand (widths net.nodes) (Cells Logic 1 e)
    stands = group-stands net low count some six there

    pub group-bit : (inputs : Inputs) (t : ℤ) → All (AreWords (input_widths net)) inputs
        → bit_at (next net valid e stands).nodes inputs t (length net.nodes) ≡ differ both (flow net.nodes inputs node t) low count
    group-bit inputs t words =
        ap (λ w. slice_index_or w 0 false)
        (next-flow net valid e stands inputs t
        ∙ differs-value (scope_at net inputs t) node low both count some (omega (arith, there, flow-width net valid inputs words node t)))

  pub row-made : (groups low count : ℕ) (net : Net) → IsValid net → 1 ≤ count → low + count ≤ slice_index (widths net.nodes) node
      → groups ≡ followed both count → IsRow net both node low count groups (with_row groups both node low count net)
  row-made zero low count net valid some there is =
      let six = last-few both count is in
      let s = group-stands net low count some six there in
      let e = differs both node low count in
      let n = length net.nodes in
      let made = with_last net (Cells Logic 1 e) in
      record {
        later = next-later net valid e s;
        long = next-count net valid e s ∙ omega arith;
        bits = λ k h l.
            let same : n ≡ k = omega (arith, h, l, next-count net valid e s) in
            subst (λ m. slice_index (widths made.nodes) m ≡ 1) same (next-width net valid e s);
        tells = λ inputs t words. any-one (bit_at made.nodes inputs t) n ∙ group-bit net valid low count some six there inputs t words;
      }
  row-made (suc k) low count net valid some there is =
      let many = more-many both k count is in
      let six : 6 ≤ 6 = omega arith in
      let one : 1 ≤ 6 = omega arith in
      let within : low + 6 ≤ slice_index (widths net.nodes) node = omega (arith, there, many) in
      let s = group-stands net low 6 one six within in
      let e = differs both node low 6 in
      let n = length net.nodes in
      let next_net = with_last net (Cells Logic 1 e) in
      let step = stride both in
      let later = next-later net valid e s in
      let more = next-count net valid e s in
      let known = node-within net low count some there in
      let still : slice_index (widths next_net.nodes) node ≡ slice_index (widths net.nodes) node =
      grown-width net next_net later.grown node known in
      let rest = row-made k (low + step) (count - step) next_net later.valid (omega (arith, many, (stride-few both).1))
      (omega (arith, there, still, many, (stride-few both).1)) (more-next both k count is) in
      let made = with_row k both node (low + step) (count - step) next_net in
      record {
        later = later-then net next_net made later rest.later;
        long = omega (arith, rest.long, more);
        bits = λ m h l. elim (cases_lt n m) [
          | inl g ↦ rest.bits m (omega (arith, g, more)) l
          | inr g ↦
              let same : n ≡ m = omega (arith, g, h) in
              subst (λ x. slice_index (widths made.nodes) x ≡ 1) same
              (grown-width next_net made rest.later.grown n (omega (arith, more)) ∙ next-width net valid e s)
        ];
        tells = λ inputs t words.
            let v = flow net.nodes inputs node t in
            let f = bit_at made.nodes inputs t in
            let first : f n ≡ differ both v low 6 =
            ap (λ w. slice_index_or w 0 false) (grown-flow next_net made rest.later.grown inputs n t (omega (arith, more)))
            ∙ group-bit net valid low 6 one six within inputs t words in
            let others : any_at f (n + 1) (suc k) ≡ differ both v (low + step) (count - step) =
            ap (λ m. any_at f m (suc k)) (sym more)
            ∙ rest.tells inputs t (words-later net next_net later inputs words)
            ∙ ap (λ w. differ both w (low + step) (count - step)) (flow-append_before net.nodes (Cells Logic 1 e) inputs node t known) in
            any-split f n 1 (suc k) (suc (suc k)) (omega arith)
            ∙ ap (λ b. b || any_at f n 1) others
            ∙ ap (λ b. differ both v (low + step) (count - step) || b) (any-one f n ∙ first)
            ∙ sym (group-split v low both count many);
      }
