-- What decides whether an operator of a kind is accepted, beside what it means: a record which each kind gives. No good output
-- depends on it.
use Rattle.std.specs.Prelude.{ℕ, Bool, Option, ℤ, List}
use Rattle.opgen_num.specs.declared.mode.Mode.{Mode}
use Rattle.opgen_ports.specs.Ports.{Recent}

pub record Acceptance : Type 1 where
  -- the version has the operator with these fields
  pub IsIn : (version : ℕ) → Type 0
  -- the fields are within the ranges of their keys
  pub IsRanged : Type 0
  -- the names of the inputs, where the document gives them
  pub given_names : List (List ℕ)
  -- The power of two that brings the exact value into units of the output's last place, and its limits: all 0 where the kind has
  -- none.
  pub shift : ℤ
  pub least_shift : ℤ
  pub most_shift : (version : ℕ) → ℤ
  -- Of a sum the place of the first coefficient, tap or term that is not whole, and 0 of a product that is not for every input: the
  -- exact values are then not all whole. Those of a polynomial are never asked to be.
  pub inexact : Option ℕ
  -- The width of the widest signal, of the kinds where it may be over the limit. That of a root has three bits more than the
  -- root, for which there is always room; none is asked of the others, whose signals have always room.
  pub need : Option ℕ
  -- the range of the exact values is computed in 128 bits
  pub HasRoom : Type 0
  -- the operator's own mode of outputs, where it has one
  pub own_mark : Option Mode
  -- The exact values, with their shift, by the numbers of the input ports, have 128 bits: fractions, of a quotient also the
  -- dividend, and of a root the square.
  pub IsExactIn128 : (inputs : (port : ℕ) → Recent) → Type 0
  -- what the formats of the output ports hold
  pub FormatsHold : Type 0
  -- the net is made of an adder graph
  pub has_graph : Bool
