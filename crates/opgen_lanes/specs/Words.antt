-- The words that vectors of bits have in each stream.
use Rattle.std.specs.Prelude.{ℕ, ◌≡◌, ◌<◌, Bool, List}
use Rattle.opgen_streams.specs.Streams.{streams, word_in}

-- some vectors have this word in each stream
abbrev pub HaveWord : (vectors : List (List ℕ)) → (word : (k : ℕ) → List Bool) → Type 0
HaveWord vectors word = (k : ℕ) → k < streams → word_in vectors k ≡ word k
