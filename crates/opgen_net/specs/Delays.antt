-- How many delays the ways from the inputs to the nodes of a net pass.
use Rattle.std.specs.Prelude.{ℕ, suc, ◌≤◌, max, All, List, [], ◌∷◌, ◌++◌, slice_index}
use Rattle.opgen_design.specs.Tree.{Tree, Trees, name, part, bits, port, inverse, chain, none, more}
use Rattle.opgen_net.specs.declared.node.Node.{Node}
use Rattle.opgen_net.specs.declared.node.Node.TheVariants.{Input, Constant, Cells, Choice, Table, Delay}

abbrev mutual
  -- the most delays on a way to a node that an expression reads, by those of each node
  pub delays_read : List ℕ → Tree → ℕ
  delays_read ds (name n) = slice_index ds n
  delays_read ds (part n high low) = slice_index ds n
  delays_read ds (bits w) = 0
  delays_read ds (port p) = 0
  delays_read ds (inverse t) = delays_read ds t
  delays_read ds (chain op ts) = operand_delays ds ts

  pub operand_delays : List ℕ → Trees → ℕ
  operand_delays ds none = 0
  operand_delays ds (more t ts) = max (delays_read ds t) (operand_delays ds ts)

-- the most delays on a way to a node, by those of the nodes before it: a Delay has one more than the node that it delays
abbrev pub node_delays : List ℕ → Node → ℕ
node_delays ds (Input place w) = 0
node_delays ds (Constant w) = 0
node_delays ds (Cells class w e) = delays_read ds e
node_delays ds (Choice on one other) = max (slice_index ds on) (max (slice_index ds one.node) (slice_index ds other.node))
node_delays ds (Table address rows) = slice_index ds address
node_delays ds (Delay of) = suc (slice_index ds of)

abbrev pub delays_on : List ℕ → List Node → List ℕ
delays_on ds [] = ds
delays_on ds (n ∷ ns) = delays_on (ds ++ node_delays ds n ∷ []) ns

-- the most delays on a way to each node
abbrev pub delays : List Node → List ℕ
delays nodes = delays_on [] nodes

-- no way through a net's nodes passes more delays than these
abbrev pub PassesAtMost : (most : ℕ) → List Node → Type 0
PassesAtMost most nodes = All (λ d. d ≤ most) (delays nodes)

-- how many nodes are delays
abbrev pub delay_count : List Node → ℕ
delay_count [] = 0
delay_count (Delay of ∷ ns) = suc (delay_count ns)
delay_count (_ ∷ ns) = delay_count ns
