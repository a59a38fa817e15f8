-- Nets with an input more, or a node or an output of given bits, and the numbers that such bits stand for at each time.
use Rattle.std.specs.Prelude.{ℕ, ◌-◌, ℤ, List, [], ◌∷◌, ◌++◌, length}
use Rattle.opgen_num.specs.Words.{nat}
use Rattle.opgen_design.specs.declared.expr.Op.TheVariants.{Minus}
use Rattle.opgen_design.specs.declared.expr.Slice.{Slice}
use Rattle.opgen_design.specs.Plain.{trees_of}
use Rattle.opgen_design.specs.Tree.{Tree, name, chain}
use Rattle.opgen_net.specs.declared.net.Net.{Net}
use Rattle.opgen_net.specs.declared.node.Node.{Node}
use Rattle.opgen_net.specs.declared.node.Node.TheVariants.{Input}
use Rattle.opgen_net.specs.declared.word_bits.WordBit.{WordBit}
use Rattle.opgen_net.specs.Flow.{Inputs}
use Rattle.opgen_net.specs.WordRule.{word_flow, with_word}

-- the number that bits stand for at a time
abbrev pub number_at : List Node → Inputs → ℤ → List WordBit → ℕ
number_at nodes inputs t given = nat (word_flow nodes inputs given t)

-- a net, and the number of a node in it
pub record Placed : Type 0 where
  pub net : Net
  pub place : ℕ

-- a net with a node of these bits
abbrev pub with_bits : Net → List WordBit → Placed
with_bits net given = let w = with_word net.nodes given in record { net = record net { nodes = w.nodes }; place = w.place }

-- all bits of a node
abbrev pub whole : (width node : ℕ) → Slice
whole width node = record { node = node; high = width - 1; low = 0 }

-- a net with an output more, of these bits
abbrev pub with_output : (called : List ℕ) → Net → List WordBit → Net
with_output called net given =
    let w = with_bits net given in
    record w.net { outputs = w.net.outputs ++ record { name = called; from = whole (length given) w.place } ∷ [] }

-- a net with an input port more, at the end, and a node for it
abbrev pub with_port : (called : List ℕ) → (width : ℕ) → Net → Net
with_port called width net =
    record net { inputs = net.inputs ++ (called, width) ∷ []; nodes = net.nodes ++ Input (length net.inputs) width ∷ [] }

-- a net with a node more, at its end
abbrev pub with_last : Net → Node → Net
with_last net n = record net { nodes = net.nodes ++ n ∷ [] }

-- the difference of two nodes
abbrev pub difference_of : (a b : ℕ) → Tree
difference_of a b = chain Minus (trees_of (name a ∷ name b ∷ []))
