-- Which signal an expression of the design reads for a node in a given cycle: the node's own signal, or that of a copy.
use Rattle.std.specs.Prelude.{ℕ, ◌+◌, ◌-◌, ◌&&◌, List, nat_eq, if◌then◌else◌}
use Rattle.opgen_design.specs.declared.expr.Slice.{Slice}
use Rattle.opgen_design.specs.Tree.{Tree, Trees, name, part, bits, port, inverse, chain, none, more}
use Rattle.opgen_pipe.specs.declared.standing.Standing.{Standing}
use Rattle.opgen_pipe.specs.Standings.{standing_at}

-- the signal of a node that is read in a cycle: that of the copy of this distance, and of a constant its own
abbrev pub read_in : List Standing → (cycle node : ℕ) → ℕ
read_in ps c n = (standing_at ps n).signal + (if (standing_at ps n).constant then 0 else c - (standing_at ps n).slot.cycle)

-- a part that is a whole node is read by name
abbrev pub part_in : List Standing → (cycle node high low : ℕ) → Tree
part_in ps c n high low = if nat_eq low 0 && nat_eq (high + 1) (standing_at ps n).width then name (read_in ps c n)
    else part (read_in ps c n) high low

abbrev pub slice_in : List Standing → (cycle : ℕ) → Slice → Tree
slice_in ps c s = part_in ps c s.node s.high s.low

abbrev mutual
  -- an expression over nodes, over the signals that a cycle reads
  pub tree_in : List Standing → (cycle : ℕ) → Tree → Tree
  tree_in ps c (name n) = name (read_in ps c n)
  tree_in ps c (part n high low) = part_in ps c n high low
  tree_in ps c (bits w) = bits w
  tree_in ps c (port p) = port p
  tree_in ps c (inverse t) = inverse (tree_in ps c t)
  tree_in ps c (chain op ts) = chain op (trees_in ps c ts)

  pub trees_in : List Standing → (cycle : ℕ) → Trees → Trees
  trees_in ps c none = none
  trees_in ps c (more t ts) = more (tree_in ps c t) (trees_in ps c ts)
