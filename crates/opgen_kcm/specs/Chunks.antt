-- An input as chunks of six bits, each of which addresses a table.
use Rattle.std.specs.Prelude.{ℕ, ◌-◌, ◌*◌, ◌&&◌, Bool, List, take, drop, min, nat_le, ℤ, pos}
use Rattle.std.specs.Int.{div_ceil}
use Rattle.opgen_num.specs.Words.{val}
use Rattle.opgen_kcm.specs.declared.chunk.Chunk.{Chunk}

abbrev pub chunk_count : (width : ℕ) → ℕ
chunk_count width = div_ceil width 6

-- Six bits, or in the last chunk those that are left. The last has the sign of the input.
abbrev pub chunk_at : (width : ℕ) (signed : Bool) (place : ℕ) → Chunk
chunk_at width signed place = record {
  low = 6 * place;
  width = min (width - 6 * place) 6;
  signed = signed && nat_le (width - 6 * place) 6;
}

-- the number of a word of so many bits, in two's complement where it is signed
abbrev pub number : (signed : Bool) (width : ℕ) → List Bool → ℤ
number signed width w = val w (record { signed = signed; width = width; lsb = pos 0 })

-- the chunk's bits of an input
abbrev pub chunk_word : Chunk → List Bool → List Bool
chunk_word c input = take c.width (drop c.low input)

-- the digit that the bits of a chunk stand for
abbrev pub digit_of : Chunk → List Bool → ℤ
digit_of c bits = number c.signed c.width bits
