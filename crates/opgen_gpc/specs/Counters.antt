-- Which bits of a heap are counted together (de Dinechin and Kumm, Application-Specific Arithmetic: generalized parallel counters):
-- six of one column, or five with one of the next column, which counts twice.
use Rattle.std.specs.Prelude.{ℕ, ◌+◌, Bool, true, false, Option, Some, None, List, [], ◌∷◌, ◌++◌, length, nat_eq, if◌then◌else◌}
use Rattle.opgen_net.specs.declared.word_bits.WordBit.{WordBit}
use Rattle.opgen_gpc.specs.declared.counter.Counter.{Counter}

abbrev pub Column : Type 0
Column = List WordBit

abbrev pub six : (column : ℕ) → (bits : Column) → Counter
six column bits = record { column = column; twice = false; bits = bits }

-- the first of these bits stands in the next column
abbrev pub five : (column : ℕ) → (bits : Column) → Counter
five column bits = record { column = column; twice = true; bits = bits }

-- a column's bits from the first on, six at a time, while there are six
abbrev pub sixes : (column : ℕ) → Column → List Counter
sixes column (a ∷ b ∷ c ∷ d ∷ e ∷ f ∷ bits) = six column (a ∷ b ∷ c ∷ d ∷ e ∷ f ∷ []) ∷ sixes column bits
sixes column bits = []

-- what they leave
abbrev pub after_sixes : Column → Column
after_sixes (a ∷ b ∷ c ∷ d ∷ e ∷ f ∷ bits) = after_sixes bits
after_sixes bits = bits

-- the first bit of the first of some columns
abbrev pub first_bit : List Column → Option WordBit
first_bit ((b ∷ bits) ∷ columns) = Some b
first_bit columns = None

-- five bits are left, and the next column has a bit
abbrev pub is_five : (left : Column) → (next : Option WordBit) → Bool
is_five left None = false
is_five left (Some b) = nat_eq (length left) 5

-- the bit of the next column and the five
abbrev pub five_of : (column : ℕ) → (left : Column) → (next : Option WordBit) → List Counter
five_of column left None = []
five_of column left (Some b) = if nat_eq (length left) 5 then five column (b ∷ left) ∷ [] else []

-- bits that no counter takes
abbrev pub unless_five : (left : Column) → (next : Option WordBit) → Column
unless_five left next = if is_five left next then [] else left

-- a column but for its first bit, where that was taken with five bits of the column before
abbrev pub untaken : (taken : Bool) → Column → Column
untaken true (b ∷ bits) = bits
untaken taken bits = bits

-- the counters of some columns, in the order in which they are made, and the bits that are left of each column
pub record Apart : Type 0 where
  pub counters : List Counter
  pub left : List Column

-- the columns from the lowest up, of which the first is this one; the first bit of the first may be taken
abbrev pub apart : (column : ℕ) → (taken : Bool) → List Column → Apart
apart column taken [] = record { counters = []; left = [] }
apart column taken (bits ∷ columns) =
    let given = untaken taken bits in
    let left = after_sixes given in
    let next = first_bit columns in
    let rest = apart (column + 1) (is_five left next) columns in
    record {
      counters = sixes column given ++ (five_of column left next ++ rest.counters);
      left = unless_five left next ∷ rest.left;
    }
