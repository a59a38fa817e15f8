-- The values at the keys of a document, a tree of TOML 1.1.
use Rattle.std.specs.Prelude.{ℕ, ◌==◌, ◌&&◌, ◌^◌, ℤ, pos, negsuc, Bool, true, false, List, [], ◌∷◌, ◌++◌, length, Option, Some, None, option_map, if◌then◌else◌, nat_le, nat_lt, int_lt, int_le, ◌≡◌, ◌⊎◌, codes}
use Rattle.std.specs.Str.Lossy.{utf8_valid_len}
use Rattle.toml.specs.Data.{Data, string, integer, boolean, array, table, Items, no_items, item, Members, no_members, member, get_member}
use Rattle.toml.specs.Parse.{parse_document}
use Rattle.opgen_document.specs.declared.key.Key.{Key}
use Rattle.opgen_document.specs.Keys.{key_name, row_of}
use Rattle.std.specs.Option.{is_some}
use Rattle.std.specs.Str.{bytes_eq}
use Rattle.opgen_num.specs.declared.format.Format.{Format}
use Rattle.opgen_num.specs.declared.mode.Rounding.{Rounding}
use Rattle.opgen_num.specs.declared.mode.Rounding.TheVariants.{Down, Nearest}
use Rattle.opgen_num.specs.declared.mode.Overflow.{Overflow}
use Rattle.opgen_num.specs.declared.mode.Overflow.TheVariants.{Saturate, Wrap}
use Rattle.opgen_document.specs.declared.key.Key.TheVariants as key
use Rattle.opgen_document.specs.declared.key.Stand.{Stand}
use Rattle.opgen_document.specs.declared.key.Stand.TheVariants.{Absent, Optional, Needed}
use Rattle.opgen_document.specs.declared.key.Version.{Version}
use Rattle.opgen_document.specs.declared.key.Version.TheVariants.{First, Second, Third, Fourth}

-- the tree of the bytes: none where they are not UTF-8, or no document
abbrev pub tree : List ℕ → Option Members
tree bytes = if utf8_valid_len bytes == length bytes then parse_document bytes else None

-- the keys of a table, which stand in byte order
abbrev pub names : Members → List (List ℕ)
names no_members = []
names (member name _ ms) = name ∷ names ms

abbrev pub value_at : Members → Key → Option Data
value_at ms k = get_member (key_name k) ms

-- The value at a key: a number, a text, a truth value or the items of an array. Where the key has no such value it is
-- 0, empty, false or no items; a document without a fault has one at each key that its kind needs.
abbrev pub number_in : Option Data → ℤ
number_in (Some (integer n)) = n
number_in _ = pos 0

abbrev pub text_in : Option Data → List ℕ
text_in (Some (string text)) = text
text_in _ = []

abbrev pub flag_in : Option Data → Bool
flag_in (Some (boolean flag)) = flag
flag_in _ = false

abbrev pub items_of : Data → Items
items_of (array items) = items
items_of _ = no_items

abbrev pub items_in : Option Data → Items
items_in (Some d) = items_of d
items_in None = no_items

abbrev pub number_at : Members → Key → ℤ
number_at ms k = number_in (value_at ms k)

abbrev pub text_at : Members → Key → List ℕ
text_at ms k = text_in (value_at ms k)

abbrev pub flag_at : Members → Key → Bool
flag_at ms k = flag_in (value_at ms k)

abbrev pub items_at : Members → Key → Items
items_at ms k = items_in (value_at ms k)

abbrev pub list_of : Items → List Data
list_of no_items = []
list_of (item d ds) = d ∷ list_of ds

abbrev pub is_empty : Items → Bool
is_empty no_items = true
is_empty (item _ _) = false

-- what is read of each item that is a table, in order
abbrev pub in_table : {A : Type 0} → (read : Members → A) → Data → List A
in_table read (table ms) = read ms ∷ []
in_table read _ = []

abbrev pub in_tables : {A : Type 0} → (read : Members → A) → Items → List A
in_tables read no_items = []
in_tables read (item d rest) = in_table read d ++ in_tables read rest

-- a number in 32 bits, without and with a sign; 0 where it does not fit, which no range of a key lets pass
abbrev pub count : ℤ → ℕ
count (pos n) = if nat_lt n (2 ^ 32) then n else 0
count (negsuc n) = 0

abbrev pub small : ℤ → ℤ
small n = if int_le (negsuc 2147483647) n && int_lt n (pos 2147483648) then n else pos 0

abbrev pub count_at : Members → Key → ℕ
count_at ms k = count (number_at ms k)

abbrev pub small_at : Members → Key → ℤ
small_at ms k = small (number_at ms k)

-- the number or the truth value at a key, where the document has the key
abbrev pub optional_count_at : Members → Key → Option ℕ
optional_count_at ms k = option_map (λ _. count_at ms k) (value_at ms k)

abbrev pub optional_flag_at : Members → Key → Option Bool
optional_flag_at ms k = option_map (λ _. flag_at ms k) (value_at ms k)

-- the format of an input, by the keys of its width and its lowest bit
abbrev pub format_at : Members → Key → Key → Format
format_at ms width lsb =
    record { signed = flag_at ms key.Signed; width = count_at ms width; lsb = small_at ms lsb }

-- and of an input that is always unsigned, as those of roots and of quotients by a constant are
abbrev pub unsigned_at : Members → Key → Key → Format
unsigned_at ms width lsb = record { signed = false; width = count_at ms width; lsb = small_at ms lsb }

-- the graph with the fewest adders is searched for where the document says how many adders it may have beyond
abbrev pub is_searched : Members → Bool
is_searched ms = is_some (value_at ms key.Extra)

-- the document asks for larger counters
abbrev pub counters_at : Members → Bool
counters_at ms = bytes_eq (text_at ms key.Compressor) (codes "counters")

-- how outputs are rounded, where the document chooses it
abbrev pub rounding_named : List ℕ → Option Rounding
rounding_named name = if bytes_eq name (codes "down") then Some Down else if bytes_eq name (codes "nearest") then Some Nearest else None

abbrev pub rounding_at : Members → Option Rounding
rounding_at ms = rounding_named (text_at ms key.Rounding)

-- what becomes of a value out of the range of a chosen width
abbrev pub overflow_at : Members → Overflow
overflow_at ms = if bytes_eq (text_at ms key.Overflow) (codes "wrap") then Wrap else Saturate

pub record IsInputAsWritten (ms : Members) (width lsb : Key) (f : Format) : Type 0 where
  pub width_written : value_at ms width ≡ Some (integer (pos f.width))
  pub lsb_written : value_at ms lsb ≡ Some (integer f.lsb)

-- a truth value that may be left out, and is then false
abbrev pub IsFlagAsWritten : (ms : Members) (k : Key) (flag : Bool) → Type 0
IsFlagAsWritten ms k flag = (value_at ms k ≡ Some (boolean flag)) ⊎ ((value_at ms k ≡ None) × (flag ≡ false))

-- the width and the sign of the output, where they are chosen
abbrev pub IsCountIfAny : (ms : Members) (k : Key) (count : Option ℕ) → Type 0
IsCountIfAny ms k count = value_at ms k ≡ option_map (λ n. integer (pos n)) count

abbrev pub IsFlagIfAny : (ms : Members) (k : Key) (flag : Option Bool) → Type 0
IsFlagIfAny ms k flag = value_at ms k ≡ option_map boolean flag

-- a graph of adders is searched for by the number of adders that it may have beyond the fewest, and not without that number
abbrev pub IsSearchAsWritten : (ms : Members) (searched : Bool) (extra : ℕ) → Type 0
IsSearchAsWritten ms true extra = value_at ms key.Extra ≡ Some (integer (pos extra))
IsSearchAsWritten ms false extra = value_at ms key.Extra ≡ None

-- a whole number that may be left out, and is then another
abbrev pub IsNumberAsWritten : (ms : Members) (k : Key) (other n : ℤ) → Type 0
IsNumberAsWritten ms k other n = (value_at ms k ≡ Some (integer n)) ⊎ ((value_at ms k ≡ None) × (n ≡ other))

-- one for each item of an array, in order, which are tables
abbrev pub AreLinesAsWritten : {A : Type 0} → (IsAsWritten : Members → A → Type 0) → Items → List A → Type 0
AreLinesAsWritten IsAsWritten no_items [] = Unit {0}
AreLinesAsWritten IsAsWritten (item (table ms) rest) (x ∷ xs) = IsAsWritten ms x × AreLinesAsWritten IsAsWritten rest xs
AreLinesAsWritten IsAsWritten _ _ = ⊥

-- larger counters are asked for by their word, and left out by no word or the other one
abbrev pub IsCompressorAsWritten : (ms : Members) (counters : Bool) → Type 0
IsCompressorAsWritten ms true = value_at ms key.Compressor ≡ Some (string (codes "counters"))
IsCompressorAsWritten ms false =
    (value_at ms key.Compressor ≡ None) ⊎ (value_at ms key.Compressor ≡ Some (string (codes "dadda")))

-- a rounding is chosen by its word
abbrev pub rounding_name : Rounding → List ℕ
rounding_name Down = codes "down"
rounding_name Nearest = codes "nearest"

abbrev pub IsRoundingAsWritten : (ms : Members) → Option Rounding → Type 0
IsRoundingAsWritten ms rounding = value_at ms key.Rounding ≡ option_map (λ r. string (rounding_name r)) rounding

-- values wrap where the document says so by the word, and saturate by no word or the other one
abbrev pub IsOverflowAsWritten : (ms : Members) → Overflow → Type 0
IsOverflowAsWritten ms Wrap = value_at ms key.Overflow ≡ Some (string (codes "wrap"))
IsOverflowAsWritten ms Saturate = (value_at ms key.Overflow ≡ None) ⊎ (value_at ms key.Overflow ≡ Some (string (codes "saturate")))

-- each number but 1, 2 and 3 counts as 4
abbrev pub version_in : ℤ → Version
version_in (pos n) = if n == 1 then First else (if n == 2 then Second else (if n == 3 then Third else Fourth))
version_in (negsuc n) = Fourth

-- and so does a value that is no number, or none
abbrev pub version_of : Members → Version
version_of ms = version_in (number_at ms key.Version)

abbrev pub version_number : Version → ℕ
version_number First = 1
version_number Second = 2
version_number Third = 3
version_number Fourth = 4

-- whether documents that name no kind may have the key
abbrev pub has_key : Version → Key → Bool
has_key version k = nat_le (version_number (row_of k).since) (version_number version)

-- a key that may be left out, and that only later versions than the first have
abbrev pub since_second : Version → Stand
since_second First = Absent
since_second Second = Optional
since_second Third = Optional
since_second Fourth = Optional

-- a key that may be left out, and that only later versions than the second have
abbrev pub since_third : Version → Stand
since_third First = Absent
since_third Second = Absent
since_third Third = Optional
since_third Fourth = Optional

-- a key that may be left out, and that only the fourth version has
abbrev pub since_fourth : Version → Stand
since_fourth First = Absent
since_fourth Second = Absent
since_fourth Third = Absent
since_fourth Fourth = Optional

-- a key that later versions than the second let be left out
abbrev pub needed_before_third : Version → Stand
needed_before_third First = Needed
needed_before_third Second = Needed
needed_before_third Third = Optional
needed_before_third Fourth = Optional
