-- The entries of a table: the multiples of a fraction by the digits of a chunk, each rounded to the nearest whole number
-- (K. D. Chapman's constant multiplier; de Dinechin and Kumm, Application-Specific Arithmetic, "Multiplication by a constant").
use Rattle.std.specs.Prelude.{ℕ, zero, suc, ◌/◌, ◌%◌, ◌^◌, ◌==◌, Bool, List, [], ◌∷◌, ◌++◌, map, max, ℤ, pos, ◌*ℤ◌, slice_index_or, if◌then◌else◌}
use Rattle.std.specs.Int.{int_min}
use Rattle.std.specs.List.{fold, list_all}
use Rattle.opgen_num.specs.declared.format.Ratio.{Ratio}
use Rattle.opgen_num.specs.Formats.{digit_count}
use Rattle.opgen_num.specs.Rounding.{nearest, distance}
use Rattle.opgen_num.specs.Words.{word}
use Rattle.opgen_kcm.specs.declared.chunk.Chunk.{Chunk}
use Rattle.opgen_kcm.specs.declared.table.Shape.{Shape}
use Rattle.opgen_kcm.specs.Chunks.{digit_of}

-- a fraction in units that are 2 ^ guard times smaller
abbrev pub in_guard_units : Ratio → (guard : ℕ) → Ratio
in_guard_units q guard = record { num = q.num *ℤ pos (2 ^ guard); den = q.den }

-- the multiple of a chunk's digit
abbrev pub entry : Ratio → Chunk → (digit : ℤ) → ℤ
entry q c digit = nearest ((digit *ℤ pos (2 ^ c.low)) *ℤ q.num) q.den

-- those of the first n addresses, in their order
abbrev pub entries : Ratio → Chunk → (n : ℕ) → List ℤ
entries q c zero = []
entries q c (suc n) = entries q c n ++ entry q c (digit_of c (word c.width n)) ∷ []

abbrev pub all_entries : Ratio → Chunk → List ℤ
all_entries q c = entries q c (2 ^ c.width)

abbrev pub least_of : List ℤ → ℤ
least_of es = fold int_min (slice_index_or es 0 (pos 0)) es

-- how far each number is above the least of them
abbrev pub offsets : List ℤ → List ℕ
offsets es = map (λ e. distance e (least_of es)) es

abbrev pub greatest_of : List ℕ → ℕ
greatest_of ns = fold max 0 ns

abbrev pub divides_all : (zeros : ℕ) → List ℕ → Bool
divides_all zeros ns = list_all (λ n. n % 2 ^ zeros == 0) ns

-- the greatest number of zeros, up to a most, with which all the numbers end
abbrev pub zeros_within : (most : ℕ) → List ℕ → ℕ
zeros_within zero ns = 0
zeros_within (suc k) ns = if divides_all (suc k) ns then suc k else zeros_within k ns

-- a number that is not 0 ends with fewer zeros than it has digits
abbrev pub zeros_of : List ℕ → ℕ
zeros_of ns = zeros_within (digit_count (greatest_of ns)) ns

-- The zeros with which all the numbers end stand in no row, and the rows have the least width that holds them all.
abbrev pub shape_of : List ℕ → Shape
shape_of ns = record { zeros = zeros_of ns; width = digit_count (greatest_of ns / 2 ^ zeros_of ns) }

abbrev pub rows_in : Shape → List ℕ → List (List Bool)
rows_in s ns = map (λ n. word s.width (n / 2 ^ s.zeros)) ns
