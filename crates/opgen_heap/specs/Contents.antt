-- What a bit heap contains: columns of weighted bits, and a constant (de Dinechin and Kumm, Application-Specific Arithmetic, "Bit
-- heaps").
use Rattle.std.specs.Prelude.{ℕ, List}
use Rattle.opgen_net.specs.declared.word_bits.WordBit.{WordBit}

-- a bit in column i counts 2 ^ i, and column 0 comes first; a column past the end of the list holds no bit
pub record Contents : Type 0 where
  pub width : ℕ
  pub constant : ℕ
  pub columns : List (List WordBit)
