-- The keys of a specification: their names, their order, what the value at each has to be, and how those stand that all
-- documents have.
use Rattle.std.specs.Prelude.{ℕ, Bool, true, false, List, [], ◌∷◌, codes, Option, Some, None}
use Rattle.opgen_document.specs.declared.array.Array.{Array}
use Rattle.opgen_document.specs.declared.array.Array.TheVariants as array
use Rattle.opgen_document.specs.declared.key.Key.{Key}
use Rattle.opgen_document.specs.declared.key.Key.TheVariants as key
use Rattle.opgen_document.specs.declared.key.Sort.{Sort}
use Rattle.opgen_document.specs.declared.key.Sort.TheVariants as sort
use Rattle.opgen_document.specs.declared.key.Stand.{Stand}
use Rattle.opgen_document.specs.declared.key.Stand.TheVariants.{Absent, Optional, Needed}
use Rattle.opgen_document.specs.declared.key.Version.{Version}
use Rattle.opgen_document.specs.declared.key.Version.TheVariants.{First, Third, Fourth}

-- what holds of a key in documents of every kind
pub record Row : Type 0 where
  -- the key as a document writes it
  pub name : List ℕ
  -- what its value has to be
  pub sort : Sort
  -- the first version whose documents may have it if they name no kind
  pub since : Version
  -- how it stands in the documents of all kinds, or in the lines of an array; none where each kind says it
  pub stand : Option Stand

abbrev needed : (name : List ℕ) → Sort → Row
needed name kind_of_value = record { name = name; sort = kind_of_value; since = First; stand = Some Needed }

abbrev optional : (name : List ℕ) → Sort → Row
optional name kind_of_value = record { name = name; sort = kind_of_value; since = First; stand = Some Optional }

-- a key that some kinds have
abbrev by_kind : Version → (name : List ℕ) → Sort → Row
by_kind since name kind_of_value = record { name = name; sort = kind_of_value; since = since; stand = None }

-- the keys of a document in the order in which they are judged, and then those of the lines of its arrays
abbrev pub row_of : Key → Row
row_of key.Version = needed (codes "version") sort.Number
row_of key.Name = needed (codes "name") sort.Text
row_of key.Kind = needed (codes "kind") sort.Text
row_of key.Exact = needed (codes "exact") sort.Flag
row_of key.Rounding = by_kind Fourth (codes "rounding") sort.Text
row_of key.Target = needed (codes "target") sort.Text
row_of key.Period = needed (codes "period") sort.Number
row_of key.Signed = by_kind First (codes "signed") sort.Flag
row_of key.Width = by_kind First (codes "width") sort.Number
row_of key.Lsb = by_kind First (codes "lsb") sort.Number
row_of key.WidthA = by_kind First (codes "width_a") sort.Number
row_of key.LsbA = by_kind First (codes "lsb_a") sort.Number
row_of key.WidthB = by_kind First (codes "width_b") sort.Number
row_of key.LsbB = by_kind First (codes "lsb_b") sort.Number
row_of key.OutLsb = by_kind First (codes "out_lsb") sort.Number
row_of key.OutWidth = by_kind Third (codes "out_width") sort.Number
row_of key.OutSigned = by_kind Third (codes "out_signed") sort.Flag
row_of key.Overflow = by_kind Fourth (codes "overflow") sort.Text
row_of key.Coefficients = by_kind First (codes "coefficients") sort.Coefficients
row_of key.Denominator = by_kind First (codes "denominator") sort.Number
row_of key.Constants = by_kind First (codes "constants") sort.Numbers
row_of key.Extra = by_kind First (codes "extra") sort.Number
row_of key.Divisor = by_kind First (codes "divisor") sort.Number
row_of key.Taps = by_kind First (codes "taps") sort.Numbers
row_of key.Compressor = by_kind First (codes "compressor") sort.Text
row_of key.Recurrence = by_kind Fourth (codes "recurrence") sort.Text
row_of key.Lut = by_kind Fourth (codes "lut") sort.Number
row_of key.Offset = by_kind Third (codes "offset") sort.Number
row_of key.Input = by_kind Third (codes "input") sort.Tables
row_of key.Scaled = by_kind Third (codes "scaled") sort.Tables
row_of key.Product = by_kind Third (codes "product") sort.Tables
row_of key.Delay = optional (codes "delay") sort.Tables
row_of key.InputName = needed (codes "name") sort.Text
row_of key.InputSigned = needed (codes "signed") sort.Flag
row_of key.InputWidth = needed (codes "width") sort.Number
row_of key.InputLsb = needed (codes "lsb") sort.Number
row_of key.ScaledInput = needed (codes "input") sort.Text
row_of key.Coefficient = needed (codes "coefficient") sort.Number
row_of key.FactorA = needed (codes "a") sort.Text
row_of key.FactorB = needed (codes "b") sort.Text
row_of key.Negative = optional (codes "negative") sort.Flag
row_of key.Class = needed (codes "class") sort.Text
row_of key.Base = needed (codes "base") sort.Number
row_of key.PerBit = needed (codes "per_bit") sort.Number

abbrev pub key_name : Key → List ℕ
key_name k = (row_of k).name

abbrev pub sort_of : Key → Sort
sort_of k = (row_of k).sort

abbrev pub shared_stand : Key → Option Stand
shared_stand k = (row_of k).stand

-- the keys of a document, in the order in which they are judged
unfoldable pub document_keys : List Key
document_keys =
    key.Version ∷ key.Name ∷ key.Kind ∷ key.Exact ∷ key.Rounding ∷ key.Target ∷ key.Period ∷ key.Signed ∷ key.Width ∷ key.Lsb ∷
    key.WidthA ∷ key.LsbA ∷ key.WidthB ∷ key.LsbB ∷ key.OutLsb ∷ key.OutWidth ∷ key.OutSigned ∷ key.Overflow ∷ key.Coefficients ∷
    key.Denominator ∷ key.Constants ∷ key.Extra ∷ key.Divisor ∷ key.Taps ∷ key.Compressor ∷ key.Recurrence ∷ key.Lut ∷
    key.Offset ∷ key.Input ∷ key.Scaled ∷ key.Product ∷ key.Delay ∷ []

-- the arrays of tables, in the order in which they are judged
unfoldable pub arrays : List Array
arrays = array.Input ∷ array.Scaled ∷ array.Product ∷ array.Delay ∷ []

-- the key of an array in the document
abbrev pub array_key : Array → Key
array_key array.Input = key.Input
array_key array.Scaled = key.Scaled
array_key array.Product = key.Product
array_key array.Delay = key.Delay

-- the keys of each of its tables
unfoldable pub line_keys : Array → List Key
line_keys array.Input = key.InputName ∷ key.InputSigned ∷ key.InputWidth ∷ key.InputLsb ∷ []
line_keys array.Scaled = key.ScaledInput ∷ key.Coefficient ∷ []
line_keys array.Product = key.FactorA ∷ key.FactorB ∷ key.Negative ∷ []
line_keys array.Delay = key.Class ∷ key.Base ∷ key.PerBit ∷ []

abbrev pub may_be : Stand → Bool
may_be Absent = false
may_be Optional = true
may_be Needed = true

abbrev pub has_to_be : Stand → Bool
has_to_be Absent = false
has_to_be Optional = false
has_to_be Needed = true
