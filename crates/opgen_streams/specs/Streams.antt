-- 256 streams of bits side by side: a vector of four words of 64 bits holds one bit of each stream.
use Rattle.std.specs.Prelude.{ℕ, ◌/◌, ◌%◌, Bool, List, [], ◌∷◌, map, take, drop, slice_index, nat_eq}
use Rattle.std.specs.Int.{bit_at}

-- how many streams there are
abbrev pub streams : ℕ
streams = 256

-- the bit of a stream: bit k mod 64 of word k / 64, the lowest word and bit first
abbrev pub bit_in : (vector : List ℕ) (k : ℕ) → Bool
bit_in vector k = nat_eq (bit_at (slice_index vector (k / 64)) (k % 64)) 1

-- the word of a stream: a vector for each bit, the lowest first
abbrev pub word_in : (vectors : List (List ℕ)) (k : ℕ) → List Bool
word_in vectors k = map (λ vector. bit_in vector k) vectors

-- the words of a stream, whose vectors stand one after another
abbrev pub words_in : (widths : List ℕ) (vectors : List (List ℕ)) (k : ℕ) → List (List Bool)
words_in [] vectors k = []
words_in (width ∷ widths) vectors k = word_in (take width vectors) k ∷ words_in widths (drop width vectors) k
