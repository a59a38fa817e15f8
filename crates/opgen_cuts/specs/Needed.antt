-- Which nodes of a net are needed whole: those that a choice, a table, a delay or logic reads, and those of the outputs. A mark for each.
use Rattle.std.specs.Prelude.{ℕ, Bool, true, false, List, [], ◌∷◌, length, replicate, slice_set}
use Rattle.opgen_design.specs.Tree.{Tree, Trees, name, part, bits, port, inverse, chain, none, more}
use Rattle.opgen_net.specs.declared.cell.Class.{Class}
use Rattle.opgen_net.specs.declared.cell.Class.TheVariants as class
use Rattle.opgen_net.specs.declared.net.Net.{Net}
use Rattle.opgen_net.specs.declared.net.Output.{Output}
use Rattle.opgen_net.specs.declared.node.Node.{Node}
use Rattle.opgen_net.specs.declared.node.Node.TheVariants.{Input, Constant, Cells, Choice, Table, Delay}

-- the marks, with one more
abbrev pub with_mark : ℕ → List Bool → List Bool
with_mark n marks = slice_set marks n true

abbrev mutual
  -- the marks, with those of the nodes that an expression reads
  pub with_reads : Tree → List Bool → List Bool
  with_reads (name n) marks = with_mark n marks
  with_reads (part n high low) marks = with_mark n marks
  with_reads (bits w) marks = marks
  with_reads (port p) marks = marks
  with_reads (inverse t) marks = with_reads t marks
  with_reads (chain op ts) marks = with_operands ts marks

  pub with_operands : Trees → List Bool → List Bool
  with_operands none marks = marks
  with_operands (more t ts) marks = with_operands ts (with_reads t marks)

-- wires and sums read bits, and need no node of them
abbrev pub with_cell_reads : Class → Tree → List Bool → List Bool
with_cell_reads class.Wire e marks = marks
with_cell_reads class.Add e marks = marks
with_cell_reads _ e marks = with_reads e marks

-- the marks, with those of the nodes that a node needs whole
abbrev pub with_node : Node → List Bool → List Bool
with_node (Input place w) marks = marks
with_node (Constant w) marks = marks
with_node (Cells class w e) marks = with_cell_reads class e marks
with_node (Choice on one other) marks = with_mark other.node (with_mark one.node (with_mark on marks))
with_node (Table address rows) marks = with_mark address marks
with_node (Delay of) marks = with_mark of marks

abbrev pub with_nodes : List Node → List Bool → List Bool
with_nodes [] marks = marks
with_nodes (n ∷ ns) marks = with_nodes ns (with_node n marks)

abbrev pub with_outputs : List Output → List Bool → List Bool
with_outputs [] marks = marks
with_outputs (o ∷ os) marks = with_outputs os (with_mark o.from.node marks)

abbrev pub needed : Net → List Bool
needed net = with_outputs net.outputs (with_nodes net.nodes (replicate (length net.nodes) false))
