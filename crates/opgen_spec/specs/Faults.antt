-- The first error of a document, in the order in which the checks are made.
use Rattle.std.specs.Prelude.{◌≡◌, ℕ, ◌+◌, ◌==◌, ◌&&◌, ◌||◌, ◌-◌, ◌^◌, min, not, Bool, true, false, List, [], ◌∷◌, length, map, ℤ, pos, negsuc, Option, Some, None, is_some, is_none, option_map, option_and_then, find, if◌then◌else◌, nat_lt, Result, Ok, Err}
use Rattle.std.specs.List.{position_from}
use Rattle.std.specs.Option.{option_or, option_map_or}
use Rattle.toml.specs.Data.{Data, table, Items, no_items, item, Members}
use Rattle.opgen_ports.specs.declared.TheConstants.{MAX_TARGET_NAME_LEN}
use Rattle.opgen_num.specs.declared.format.TheConstants.{MAX_INPUT}
use Rattle.opgen_spec.specs.declared.fault.SpecFault.{SpecFault}
use Rattle.opgen_spec.specs.declared.fault.SpecFault.TheVariants as fault
use Rattle.opgen_document.specs.declared.array.Array.{Array}
use Rattle.opgen_document.specs.declared.key.Key.{Key}
use Rattle.opgen_document.specs.declared.key.Key.TheVariants as key
use Rattle.opgen_operator.specs.declared.kind.Kind.{Kind}
use Rattle.opgen_operator.specs.declared.spec.Spec.{Spec}
use Rattle.opgen_ports.specs.Limits.{most_signal}
use Rattle.opgen_operator.specs.Operator.{least_shift, most_shift, shift, inexact, need}
use Rattle.opgen_operator.specs.GivenNames.{is_name_in}
use Rattle.opgen_ports.specs.SpecName.{is_spec_name}
use Rattle.opgen_spec.specs.declared.lines.Check.{Check}
use Rattle.opgen_spec.specs.declared.lines.Check.TheVariants.{Unknown, Missing, WrongType, Range}
use Rattle.opgen_document.specs.Keys.{document_keys, arrays, array_key, line_keys}
use Rattle.opgen_document.specs.Document.{names, value_at, number_at, count_at, text_at, flag_at, items_at, list_of, version_of}
use Rattle.opgen_document.specs.declared.key.Version.{Version}
use Rattle.opgen_document.specs.declared.key.Version.TheVariants.{First, Second, Third, Fourth}
use Rattle.opgen_document.specs.Types.{is_wrong}
use Rattle.opgen_document.specs.Ranges.{outside, length_outside, bits_outside, far_outside, numerator_outside}
use Rattle.opgen_entries.specs.kinds.{kind_of, entry}
use Rattle.opgen_entries.specs.kinds.Sop.{name_outside, factor_outside}
use Rattle.opgen_entries.specs.Stands.{is_known, is_needed}
use Rattle.opgen_spec.specs.Made.{is_made}
use Rattle.opgen_spec.specs.Spec.{class_named, spec_of}

-- the first of some faults
abbrev pub first_of : List (Option SpecFault) → Option SpecFault
first_of [] = None
first_of (fault ∷ rest) = option_or fault (first_of rest)

-- What is asked of a table of a document: of its own, whose line is 0, or of a line of one of its arrays.

-- Unknown: the first key, in byte order, that is none of the keys. Its place among all keys of its table is given.
abbrev pub unknown_among : List Key → (doc : Members) → ℕ → Members → Option SpecFault
unknown_among ks doc line ms =
    option_map (fault.UnknownKey line) (position_from (λ name. not (is_known ks (version_of doc) (kind_of doc) name)) 0 (names ms))

-- Missing: the first of the keys that is needed and not there.
abbrev pub is_missing : (doc : Members) → Members → Key → Bool
is_missing doc ms k = is_needed (version_of doc) (kind_of doc) k && is_none (value_at ms k)

abbrev pub missing_among : List Key → (doc : Members) → ℕ → Members → Option SpecFault
missing_among ks doc line ms = option_map (λ k. fault.MissingKey k line) (find (is_missing doc ms) ks)

-- Wrong type: the first of the keys whose value is not of its type, or does not go with those of others.

-- beside the values of the document, its kind lets nothing stand at the key
abbrev pub kind_clashes : Members → Key → Bool
kind_clashes doc k = option_map_or (λ one. (entry one).clashes doc k) (kind_of doc) false

abbrev pub is_wrong_in : (doc : Members) → Members → Key → Bool
is_wrong_in doc ms k = is_wrong ms k || (is_some (value_at ms k) && kind_clashes doc k)

abbrev pub wrong_among : List Key → (doc : Members) → ℕ → Members → Option SpecFault
wrong_among ks doc line ms = option_map (λ k. fault.WrongType k line) (find (is_wrong_in doc ms) ks)

-- Out of range: the first of the keys with a number, a length or an element outside its bounds, which is what was found.

-- a class that is none of the six, for which the number of its line is found
abbrev pub class_outside : ℕ → List ℕ → Option ℤ
class_outside line name = if is_none (class_named name) then Some (pos line) else None

-- the range that the document's kind sets to one of its keys
abbrev pub kind_outside : Members → Key → Option ℤ
kind_outside ms k = option_and_then (λ one. (entry one).key_outside ms k) (kind_of ms)

-- the keys of all kinds and those of lines, and then the other keys
abbrev pub value_outside : (doc : Members) → ℕ → Members → Key → Option ℤ
value_outside doc line ms key.Target = outside (pos 1) (pos MAX_TARGET_NAME_LEN) (pos (length (text_at ms key.Target)))
value_outside doc line ms key.Period = outside (pos 1) (pos 1000000) (number_at ms key.Period)
value_outside doc line ms key.Delay = length_outside 0 16 (items_at ms key.Delay)
value_outside doc line ms key.InputName = name_outside doc line (text_at ms key.InputName)
value_outside doc line ms key.InputWidth = bits_outside (flag_at ms key.InputSigned) MAX_INPUT (number_at ms key.InputWidth)
value_outside doc line ms key.InputLsb = far_outside ms key.InputLsb
value_outside doc line ms key.ScaledInput = factor_outside doc line ms key.ScaledInput
value_outside doc line ms key.Coefficient = numerator_outside ms key.Coefficient
value_outside doc line ms key.FactorA = factor_outside doc line ms key.FactorA
value_outside doc line ms key.FactorB = factor_outside doc line ms key.FactorB
value_outside doc line ms key.Class = class_outside line (text_at ms key.Class)
value_outside doc line ms key.Base = outside (pos 0) (pos 1000000) (number_at ms key.Base)
value_outside doc line ms key.PerBit = outside (pos 0) (pos 10000) (number_at ms key.PerBit)
value_outside doc line ms k = kind_outside doc k

-- the key that is asked for its range where it is not there too, as a sum of products has to have terms
abbrev pub is_always_asked : Key → Bool
is_always_asked key.Scaled = true
is_always_asked _ = false

abbrev pub found : (doc : Members) → ℕ → Members → Key → Option ℤ
found doc line ms k = if is_some (value_at ms k) || is_always_asked k then value_outside doc line ms k else None

abbrev pub out_of_range : ℕ → Key → Option ℤ → Option SpecFault
out_of_range line k found = option_map (fault.OutOfRange k line) found

abbrev pub outside_among : List Key → (doc : Members) → ℕ → Members → Option SpecFault
outside_among ks doc line ms = first_of (map (λ k. out_of_range line k (found doc line ms k)) ks)

-- what the keys of one table are asked for
abbrev pub among : Check → List Key → (doc : Members) → ℕ → Members → Option SpecFault
among Unknown ks doc line ms = unknown_among ks doc line ms
among Missing ks doc line ms = missing_among ks doc line ms
among WrongType ks doc line ms = wrong_among ks doc line ms
among Range ks doc line ms = outside_among ks doc line ms

abbrev pub among_keys : Check → Members → Option SpecFault
among_keys check doc = among check document_keys doc 0 doc

abbrev pub among_line : Check → List Key → (doc : Members) → ℕ → Data → Option SpecFault
among_line check ks doc line (table ms) = among check ks doc line ms
among_line check ks doc line _ = None

-- the lines of an array, numbered by their places in it
abbrev pub among_lines : Check → List Key → (doc : Members) → ℕ → Items → Option SpecFault
among_lines check ks doc line no_items = None
among_lines check ks doc line (item d rest) = option_or (among_line check ks doc line d) (among_lines check ks doc (line + 1) rest)

abbrev pub among_array : Check → Members → Array → Option SpecFault
among_array check doc array = among_lines check (line_keys array) doc 1 (items_at doc (array_key array))

abbrev pub line_count : Members → Array → ℕ
line_count doc array = length (list_of (items_at doc (array_key array)))

-- A number that counts on. Numbers of lines have 64 bits, which are enough for every document that there is.
abbrev pub count_on : (before : ℕ) → ℕ → ℕ
count_on before n = min (before + n) (2 ^ 64 - 1)

-- an unknown key is in none of the arrays' keys, so that its line counts on over the arrays before it
abbrev pub counted_on : (before : ℕ) → SpecFault → SpecFault
counted_on before (fault.UnknownKey line at) = fault.UnknownKey (count_on before line) at
counted_on before other = other

-- the lines of the arrays, one array after the other
abbrev pub among_arrays : Check → Members → (before : ℕ) → List Array → Option SpecFault
among_arrays check doc before [] = None
among_arrays check doc before (array ∷ rest) =
    option_or (option_map (counted_on before) (among_array check doc array))
    (among_arrays check doc (count_on before (line_count doc array)) rest)

-- the keys of the document, and then those of the lines of its arrays, from 1
abbrev pub check_fault : Check → Members → Option SpecFault
check_fault check doc = option_or (among_keys check doc) (among_arrays check doc 0 arrays)

-- Bad version: none of 1 to 4, or one of which no circuits are made as the document asks for them.
abbrev pub is_version : ℤ → Bool
is_version (pos n) = n == 1 || (n == 2 || (n == 3 || n == 4))
is_version (negsuc n) = false

abbrev pub bad_version : Members → Option SpecFault
bad_version ms =
    if is_version (number_at ms key.Version) && is_made ms then None else Some (fault.BadVersion (number_at ms key.Version))

-- whether a specification of the version may have the name
abbrev pub is_name_of : (version : ℕ) → (name : List ℕ) → Bool
is_name_of version name = is_spec_name name && is_name_in version name

abbrev pub bad_name : Members → Option SpecFault
bad_name ms = if is_name_of (count_at ms key.Version) (text_at ms key.Name) then None else Some fault.BadName

-- whether the version has the kind
abbrev pub has_kind : Version → Kind → Bool
has_kind First one = (entry one).first
has_kind Second one = true
has_kind Third one = true
has_kind Fourth one = true

-- no kind is named, or one that the version does not have
abbrev pub bad_kind : Members → Option SpecFault
bad_kind ms = if option_map_or (has_kind (version_of ms)) (kind_of ms) false then None else Some fault.BadKind

-- Not exact: exact outputs are asked for, and the exact value is not a whole number of units for every input.
abbrev pub not_exact : Spec → Option SpecFault
not_exact spec = if spec.exact then option_map fault.NotExact (inexact spec.op) else None

-- Coarse: the shift is not within the bounds that the version sets to the kind.
abbrev pub coarse : Spec → Option SpecFault
coarse spec = option_map fault.Coarse (outside (least_shift spec.op) (most_shift spec.version spec.op) (shift spec.op))

-- Too wide: the widest signal needs more bits than a signal of the version may have.
abbrev pub over_limit : (most : ℕ) → ℕ → Option SpecFault
over_limit most bits = if nat_lt most bits then Some (fault.TooWide bits) else None

abbrev pub too_wide : Spec → Option SpecFault
too_wide spec = option_and_then (over_limit (most_signal spec.version)) (need spec.op)

-- what a specification whose fields are in range is asked for
abbrev pub limit_fault : Spec → Option SpecFault
limit_fault spec = first_of (not_exact spec ∷ coarse spec ∷ too_wide spec ∷ [])

-- the faults of single keys: which keys there are and their types, and then their values
abbrev pub form_fault : Members → Option SpecFault
form_fault ms = first_of (check_fault Unknown ms ∷ check_fault Missing ms ∷ check_fault WrongType ms ∷ [])

abbrev pub value_fault : Members → Option SpecFault
value_fault ms = first_of (bad_version ms ∷ bad_name ms ∷ bad_kind ms ∷ check_fault Range ms ∷ [])

abbrev pub field_fault : Members → Option SpecFault
field_fault ms = option_or (form_fault ms) (value_fault ms)

-- The first fault of a document, one after the other of the whole tree. The last three are asked of the specification
-- that its keys give.
unfoldable pub fault_of : Members → Option SpecFault
fault_of ms = first_of (
    check_fault Unknown ms ∷
    check_fault Missing ms ∷
    check_fault WrongType ms ∷
    bad_version ms ∷
    bad_name ms ∷
    bad_kind ms ∷
    check_fault Range ms ∷
    not_exact (spec_of ms) ∷
    coarse (spec_of ms) ∷
    too_wide (spec_of ms) ∷ [])

-- What reading the bytes gives: the specification where there is no fault.
abbrev pub spec_or_fault : Members → Option SpecFault → Result Spec SpecFault
spec_or_fault ms None = Ok (spec_of ms)
spec_or_fault ms (Some fault) = Err fault

abbrev pub read : Option Members → Result Spec SpecFault
read None = Err fault.NotToml
read (Some ms) = spec_or_fault ms (fault_of ms)

-- what was returned is what reading gives, unless memory ran out
abbrev pub Gives : Result Spec SpecFault → (answer : Result Spec SpecFault) → Type 0
Gives (Ok spec) answer = answer ≡ Ok spec
Gives (Err fault.Memory) answer = Unit {0}
Gives (Err other) answer = answer ≡ Err other

-- why there is no table: memory ran out, or the bytes have no tree
abbrev pub IsNoTree : Option Members → SpecFault → Type 0
IsNoTree tree fault.Memory = Unit {0}
IsNoTree tree fault.NotToml = tree ≡ None
IsNoTree tree _ = ⊥
