-- Expressions and slices over other nodes: each node that is read is replaced by its place in a list.
use Rattle.std.specs.Prelude.{ℕ, List, slice_index}
use Rattle.opgen_design.specs.declared.expr.Slice.{Slice}
use Rattle.opgen_design.specs.Tree.{Tree, Trees, name, part, bits, port, inverse, chain, none, more}
use Rattle.opgen_net.specs.declared.net.Output.{Output}

abbrev mutual
  pub renamed : (places : List ℕ) → Tree → Tree
  renamed ps (name n) = name (slice_index ps n)
  renamed ps (part n high low) = part (slice_index ps n) high low
  renamed ps (bits w) = bits w
  renamed ps (port p) = port p
  renamed ps (inverse t) = inverse (renamed ps t)
  renamed ps (chain op ts) = chain op (renamed_all ps ts)

  pub renamed_all : (places : List ℕ) → Trees → Trees
  renamed_all ps none = none
  renamed_all ps (more t ts) = more (renamed ps t) (renamed_all ps ts)

abbrev pub renamed_slice : (places : List ℕ) → Slice → Slice
renamed_slice ps s = record { node = slice_index ps s.node; high = s.high; low = s.low }

abbrev pub renamed_output : (places : List ℕ) → Output → Output
renamed_output ps o = record { name = o.name; from = renamed_slice ps o.from }
