-- Expressions as plain data: signals, slices, constants, ports, `not`, and chains of one operator.
use Rattle.std.specs.Prelude.{ℕ, Bool, List}
use Rattle.opgen_design.specs.declared.expr.Op.{Op}

mutual
  -- an expression; what a name or a part reads is a node of a net, or a signal of a design
  pub data Tree : Type 0 where
    name : (node : ℕ) → Tree
    part : (node high low : ℕ) → Tree
    bits : List Bool → Tree
    port : (place : ℕ) → Tree
    inverse : Tree → Tree
    chain : Op → Trees → Tree

  -- the operands of a chain
  pub data Trees : Type 0 where
    none : Trees
    more : Tree → Trees → Trees
