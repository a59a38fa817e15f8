-- The first of a list, and the rest.
use Rattle.std.proofs.Common.{suc, List, ◌∷◌, arith}
use Rattle.std.specs.Prelude.{All}
use Rattle.opgen_net.specs.declared.word_bits.WordBit.{WordBit}

pub first_of : (P : WordBit → Type 0) (b : WordBit) (bs : List WordBit) → All P (b ∷ bs) → P b
first_of P b bs h = h 0 b (omega arith)

pub rest_of : (P : WordBit → Type 0) (b : WordBit) (bs : List WordBit) → All P (b ∷ bs) → All P bs
rest_of P b bs h = λ k d l. h (suc k) d (omega (arith, l))

pub first_column : (P : List WordBit → Type 0) (c : List WordBit) (cs : List (List WordBit)) → All P (c ∷ cs) → P c
first_column P c cs h = h 0 c (omega arith)

pub rest_columns : (P : List WordBit → Type 0) (c : List WordBit) (cs : List (List WordBit)) → All P (c ∷ cs) → All P cs
rest_columns P c cs h = λ k d l. h (suc k) d (omega (arith, l))
