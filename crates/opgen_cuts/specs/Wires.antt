-- The bits of a wire, the highest first, by the bits of the nodes that it reads.
use Rattle.std.specs.Prelude.{ℕ, ◌+◌, ◌-◌, Bool, true, false, List, [], ◌++◌, length, map, take, drop, reverse, slice_index_or}
use Rattle.opgen_design.specs.Tree.{Tree, Trees, name, part, bits, port, inverse, chain, none, more}
use Rattle.opgen_net.specs.declared.word_bits.WordBit.{WordBit}
use Rattle.opgen_net.specs.declared.word_bits.WordBit.TheVariants.{Zero, One}

abbrev pub constant_bit : Bool → WordBit
constant_bit false = Zero
constant_bit true = One

-- the bits of a constant, the highest first
abbrev pub constant_bits : List Bool → List WordBit
constant_bits w = reverse (map constant_bit w)

-- the bits high to low of a word whose bits are given, the highest first
abbrev pub bits_of_part : (high low : ℕ) → List WordBit → List WordBit
bits_of_part high low given = take (high + 1 - low) (drop (length given - (high + 1)) given)

-- the bits of a node, by those of each node
abbrev pub bits_at : List (List WordBit) → ℕ → List WordBit
bits_at given n = slice_index_or given n []

abbrev mutual
  -- the bits of a wire, by those of each node: the first operand of `&` stands highest
  pub wire_bits : List (List WordBit) → Tree → List WordBit
  wire_bits given (name n) = bits_at given n
  wire_bits given (part n high low) = bits_of_part high low (bits_at given n)
  wire_bits given (bits w) = constant_bits w
  wire_bits given (port p) = []
  wire_bits given (inverse t) = []
  wire_bits given (chain op ts) = operand_bits given ts

  pub operand_bits : List (List WordBit) → Trees → List WordBit
  operand_bits given none = []
  operand_bits given (more t ts) = wire_bits given t ++ operand_bits given ts
