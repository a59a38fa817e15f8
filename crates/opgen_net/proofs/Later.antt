-- Nets that have grown out of others.
use Rattle.std.proofs.Common.{◌≡◌, ℕ, ◌<◌, ◌≤◌, Bool, true, false, if◌then◌else◌, List, [], ◌∷◌, ◌++◌, length, map, Some, refl, sym, ap, subst, arith}
use Rattle.std.specs.Prelude.{All, slice_index}
use Rattle.std.proofs.lemmas.List.{append-nil}
use Rattle.opgen_design.specs.declared.expr.Slice.{Slice}
use Rattle.opgen_design.specs.Run.{AreWords}
use Rattle.opgen_design.specs.Value.{IsWidth, as_width}
use Rattle.opgen_design.proofs.WidthLaws.{as_width-some}
use Rattle.opgen_net.specs.declared.cell.Class.TheVariants.{Wire}
use Rattle.opgen_net.specs.declared.net.Net.{Net}
use Rattle.opgen_net.specs.declared.node.Node.{Node}
use Rattle.opgen_net.specs.declared.node.Node.TheVariants.{Input, Constant, Cells, Choice, Table, Delay}
use Rattle.opgen_net.specs.declared.word_bits.WordBit.{WordBit}
use Rattle.opgen_net.specs.declared.word_bits.Piece.{Piece}
use Rattle.opgen_net.specs.declared.word_bits.Piece.TheVariants.{Bits, Part}
use Rattle.opgen_net.specs.Delays.{delay_count}
use Rattle.opgen_net.specs.Flow.{Inputs}
use Rattle.opgen_net.specs.Grown.{HasGrown}
use Rattle.opgen_net.specs.Made.{slice_tree}
use Rattle.opgen_net.specs.Valid.{widths, input_widths, MayStand, input_nodes, IsValid, FitsNodes}
use Rattle.opgen_net.specs.WordRule.{IsThere, runs, word_tree, is_whole, Found, with_node, with_runs, with_word}
use Rattle.opgen_net.proofs.CellLaws.{slice_tree-wire, word-wire}
use Rattle.opgen_net.proofs.Appending.{valid-append}
use Rattle.opgen_net.proofs.FlowLaws.{index_within, length-widths}
use Rattle.opgen_net.proofs.Grown.{grown-same, grown-then, grown-more}
use Rattle.opgen_net.proofs.WordLaws.{word-fits}

-- a net that has grown out of another, and is valid
pub record Later (old new : Net) : Type 0 where
  pub valid : IsValid new
  pub grown : HasGrown old new

pub later-same : (net : Net) → IsValid net → Later net net
later-same net v = record { valid = v; grown = grown-same net }

pub later-then : (a b c : Net) → Later a b → Later b c → Later a c
later-then a b c p q = record { valid = q.valid; grown = grown-then a b c p.grown q.grown }

-- the words of a net's inputs are words of the inputs of a net that has grown out of it
pub words-grown : (old new : Net) → HasGrown old new → (inputs : Inputs) → All (AreWords (input_widths old)) inputs
    → All (AreWords (input_widths new)) inputs
words-grown old new grown inputs words =
    subst (λ is. All (AreWords (map (λ (i : List ℕ × ℕ). i.1) is)) inputs) (sym grown.inputs) words

pub words-later : (old new : Net) → Later old new → (inputs : Inputs) → All (AreWords (input_widths old)) inputs
    → All (AreWords (input_widths new)) inputs
words-later old new later = words-grown old new later.grown

-- a node that is no input and no delay
abbrev pub is_inner : Node → Bool
is_inner (Input port w) = false
is_inner (Delay of) = false
is_inner _ = true

inner-no_input : (n : Node) → is_inner n ≡ true → input_nodes (n ∷ []) ≡ []
inner-no_input (Input port w) h = absurd (cc)
inner-no_input (Constant w) h = refl
inner-no_input (Cells class w e) h = refl
inner-no_input (Choice on one other) h = refl
inner-no_input (Table address rows) h = refl
inner-no_input (Delay of) h = refl

inner-no_delay : (n : Node) → is_inner n ≡ true → delay_count (n ∷ []) ≡ 0
inner-no_delay (Input port w) h = refl
inner-no_delay (Constant w) h = refl
inner-no_delay (Cells class w e) h = refl
inner-no_delay (Choice on one other) h = refl
inner-no_delay (Table address rows) h = refl
inner-no_delay (Delay of) h = absurd (cc)

pub later-node : (net : Net) (n : Node) → IsValid net → MayStand (widths net.nodes) n → is_inner n ≡ true
    → Later net (record net { nodes = net.nodes ++ n ∷ [] })
later-node net n v stands inner = record {
  valid = valid-append net n v stands (inner-no_input n inner);
  grown = grown-more net (n ∷ []) (inner-no_delay n inner);
}

pub node_there : (net : Net) (n width : ℕ) → 1 ≤ width → slice_index (widths net.nodes) n ≡ width → n < length net.nodes
node_there net n width some h = omega (arith, index_within (widths net.nodes) n 0 (omega (arith, h, some)), length-widths net.nodes)

-- a node of given bits

constant-width : (w : List Bool) (count : ℕ) → as_width (length w) ≡ Some count → IsWidth (length w)
constant-width w count h = let is = as_width-some (length w) count h in subst IsWidth (sym is.0) is.1

module _ (net : Net) (valid : IsValid net) where
  abbrev ws : List ℕ
  ws = widths net.nodes

  abbrev part_found : ℕ → Slice → Bool → Found
  part_found count s c =
      if c then record { nodes = net.nodes; place = s.node } else with_node net.nodes (Cells Wire count (slice_tree ws s))

  part-later : (count : ℕ) (s : Slice) → FitsNodes ws count (slice_tree ws s) → (c : Bool)
      → Later net (record net { nodes = (part_found count s c).nodes })
  part-later count s fits true = later-same net valid
  part-later count s fits false = later-node net (Cells Wire count (slice_tree ws s)) valid (slice_tree-wire ws s, fits) refl

  runs-later : (count : ℕ) (rs : List Piece) → FitsNodes ws count (word_tree ws rs)
      → Later net (record net { nodes = (with_runs net.nodes count rs).nodes })
  runs-later count [] fits = later-node net (Cells Wire count (word_tree ws [])) valid (word-wire ws [], fits) refl
  runs-later count (Bits w ∷ []) fits = later-node net (Constant w) valid (constant-width w count fits.has_width) refl
  runs-later count (Part s ∷ []) fits = part-later count s fits (is_whole ws s)
  runs-later count (Bits w ∷ q ∷ rs) fits = later-node net (Cells Wire count (word_tree ws (Bits w ∷ q ∷ rs))) valid (word-wire ws (Bits w ∷ q ∷ rs), fits) refl
  runs-later count (Part s ∷ q ∷ rs) fits = later-node net (Cells Wire count (word_tree ws (Part s ∷ q ∷ rs))) valid (word-wire ws (Part s ∷ q ∷ rs), fits) refl

  pub bits-later : (given : List WordBit) → IsWidth (length given) → All (IsThere ws) given
      → Later net (record net { nodes = (with_word net.nodes given).nodes })
  bits-later given wide there = runs-later (length given) (runs given) (word-fits ws given wide there)

-- what a word's runs leave are the nodes before, and further ones, which are no delays
pub word-nodes : (ns : List Node) (count : ℕ) (rs : List Piece)
    → (more : List Node) × ((with_runs ns count rs).nodes ≡ ns ++ more) × (delay_count more ≡ 0)
word-nodes ns count [] = (Cells Wire count (word_tree (widths ns) []) ∷ [], refl, refl)
word-nodes ns count (Bits w ∷ []) = (Constant w ∷ [], refl, refl)
word-nodes ns count (Part s ∷ []) =
    elim (is_whole (widths ns) s) as (
    λ c. (more : List Node) ×
    ((if c then record { nodes = ns; place = s.node } else with_node ns (Cells Wire count (slice_tree (widths ns) s))).nodes ≡ ns ++ more)
    × (delay_count more ≡ 0)
    ) [ true ↦ ([], sym (append-nil ns), refl) | false ↦ (Cells Wire count (slice_tree (widths ns) s) ∷ [], refl, refl) ]
word-nodes ns count (Bits w ∷ q ∷ rs) = (Cells Wire count (word_tree (widths ns) (Bits w ∷ q ∷ rs)) ∷ [], refl, refl)
word-nodes ns count (Part s ∷ q ∷ rs) = (Cells Wire count (word_tree (widths ns) (Part s ∷ q ∷ rs)) ∷ [], refl, refl)

pub word-grown : (net : Net) (bits : List WordBit) → HasGrown net (record net { nodes = (with_word net.nodes bits).nodes })
word-grown net bits =
    let w = word-nodes net.nodes (length bits) (runs bits) in
    subst (HasGrown net) (sym (ap (λ ns. record net { nodes = ns }) w.1)) (grown-more net w.0 w.2)
