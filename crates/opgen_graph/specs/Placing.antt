-- What the steps that build the net of several constants need: nodes that are exact multiples of the input, and sums narrow enough
-- for a signal.
use Rattle.std.specs.Prelude.{◌≡◌, ◌≢◌, ℕ, ◌+◌, ◌≤◌, ◌<◌, ℤ, pos, ◌*ℤ◌, unsigned_abs, List, [], ◌∷◌, map, slice_index, All, Contains}
use Rattle.opgen_num.specs.declared.limits.TheConstants.{MAX_CONSTANT}
use Rattle.opgen_num.specs.declared.format.TheConstants.{MAX_INPUT, MAX_WIDTH}
use Rattle.opgen_num.specs.declared.format.Format.{Format}
use Rattle.opgen_num.specs.Words.{val}
use Rattle.opgen_design.specs.Run.{AreWords}
use Rattle.opgen_net.specs.declared.net.Net.{Net}
use Rattle.opgen_net.specs.Flow.{Inputs, flow}
use Rattle.opgen_net.specs.Valid.{widths, input_widths}
use Rattle.opgen_graph.specs.declared.multiples.Multiple.{Multiple}
use Rattle.opgen_graph.specs.declared.ranks.Adder.{Adder}
use Rattle.opgen_graph.specs.GraphLaws.{IsWired}
use Rattle.opgen_graph.specs.Graphs.{values}
use Rattle.opgen_graph.specs.Reach.{IsWideMember}
use Rattle.opgen_graph.specs.Recipe.{dropped}
use Rattle.opgen_graph.specs.SetCost.{bit_length}
use Rattle.opgen_ports.specs.OddParts.{odd_part}

abbrev pub factors : List Multiple → List ℕ
factors known = map (λ m. m.factor) known

-- a node of the net that has the width
pub record IsNode (net : Net) (m : Multiple) : Type 0 where
  pub some : 1 ≤ m.width
  pub most : m.width ≤ MAX_WIDTH
  pub width : slice_index (widths net.nodes) m.node ≡ m.width

-- a net whose node 0 has the width of the input
pub record HasInput (input : Format) (net : Net) : Type 0 where
  pub some : 1 ≤ input.width
  pub width : slice_index (widths net.nodes) 0 ≡ input.width

-- a node that has at every whole time the input times the factor, exactly
pub record IsMultiple (input : Format) (net : Net) (m : Multiple) : Type 0 where
  pub node : IsNode net m
  pub product : (inputs : Inputs) (t : ℤ) → All (AreWords (input_widths net)) inputs
      → val (flow net.nodes inputs m.node t) input ≡ val (flow net.nodes inputs 0 t) input *ℤ pos m.factor

-- the multiples of the input that stand in a net
pub record AreMultiples (input : Format) (net : Net) (known : List Multiple) : Type 0 where
  pub has_input : HasInput input net
  pub each : All (IsMultiple input net) known

-- the sum of an adder has no more bits than a signal
pub record IsNarrow (input : Format) (a : Adder) : Type 0 where
  pub some : 1 ≤ input.width
  pub sum : input.width + bit_length a.value + dropped a.step.form a.step.shift ≤ MAX_WIDTH
  pub shift : a.step.shift ≤ MAX_WIDTH

-- adders over an input, each of the values before it
pub record AreAdders (input : Format) (adders : List Adder) : Type 0 where
  pub some : 1 ≤ input.width
  pub most : input.width ≤ MAX_INPUT
  pub members : All IsWideMember (values adders)
  pub wired : IsWired (1 ∷ []) adders

-- a number from 1 to the greatest constant whose odd part a multiple has
pub record IsPart (known : List Multiple) (part : ℕ) : Type 0 where
  pub some : 0 < part
  pub small : part ≤ MAX_CONSTANT
  pub made : Contains (factors known) (odd_part part)

-- the multiple by the odd part of a constant, unless that is 0
abbrev pub HasOddPart : List Multiple → ℤ → Type 0
HasOddPart known t = t ≢ pos 0 → Contains (factors known) (odd_part (unsigned_abs t))
