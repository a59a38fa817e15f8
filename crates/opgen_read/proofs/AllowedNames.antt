-- An allowed name is UTF-8, since it is ASCII, and in lower case.
use Rattle.std.specs.Str.{IsUtf8}
use Rattle.std.specs.List.{list_all}
use Rattle.std.specs.Char.{is_ascii_lowercase, is_ascii_digit, to_ascii_lowercase}
use Rattle.std.proofs.Common.{◌≡◌, inl, inr, ℕ, zero, suc, ◌<◌, ◌≤◌, ◌&&◌, ◌||◌, true, false, nat_le, List, [], ◌∷◌, length, map, arith}
use Rattle.std.proofs.lemmas.Bool.{and_parts, or_cases, leb-true, eqb-true, false_from_ne_true}
use Rattle.std.proofs.lemmas.Str.{IsUtf8-from_ascii}
use Rattle.std.specs.Prelude.{slice_index}
use Rattle.opgen_names.specs.Names.{is_allowed_name, is_name_byte, is_identifier, starts_with_letter, has_single_underscores, is_underscore}
use Rattle.opgen_names.proofs.LowerCase.{lower-all}

byte-below : (b : ℕ) → is_name_byte b ≡ true → b < 128
byte-below b h = elim (or_cases (is_ascii_lowercase b || is_ascii_digit b) (is_underscore b) h) [
  | inl k ↦ elim (or_cases (is_ascii_lowercase b) (is_ascii_digit b) k) [
    | inl l ↦ let (low, high) = and_parts (nat_le 97 b) (nat_le b 122) l in omega (arith, leb-true b 122 high)
    | inr l ↦ let (low, high) = and_parts (nat_le 48 b) (nat_le b 57) l in omega (arith, leb-true b 57 high)
  ]
  | inr k ↦ omega (arith, eqb-true b 95 k)
]

all-below : (bs : List ℕ) → list_all is_name_byte bs ≡ true → (i : ℕ) → slice_index bs i < 128
all-below [] h i = omega arith
all-below (b ∷ bs) h zero = byte-below b (and_parts (is_name_byte b) (list_all is_name_byte bs) h).0
all-below (b ∷ bs) h (suc i) = all-below bs (and_parts (is_name_byte b) (list_all is_name_byte bs) h).1 i

name-ascii : (bs : List ℕ) → is_allowed_name bs ≡ true → list_all is_name_byte bs ≡ true
name-ascii bs h =
    let (p, q) = and_parts (nat_le (length bs) 64 && is_identifier bs) _ h in
    let (r, s) = and_parts (nat_le (length bs) 64) (is_identifier bs) p in
    let (t, u) = and_parts (starts_with_letter bs && list_all is_name_byte bs) (has_single_underscores bs) s in
    (and_parts (starts_with_letter bs) (list_all is_name_byte bs) t).1

-- a name has at most 64 bytes
pub allowed-short : (bs : List ℕ) → is_allowed_name bs ≡ true → length bs ≤ 64
allowed-short bs h =
    let (p, q) = and_parts (nat_le (length bs) 64 && is_identifier bs) _ h in
    leb-true (length bs) 64 (and_parts (nat_le (length bs) 64) (is_identifier bs) p).0

-- what is no UTF-8 is no name
pub no_name : (bs : List ℕ) → (IsUtf8 bs → ⊥) → is_allowed_name bs ≡ false
no_name bs h = false_from_ne_true (is_allowed_name bs) (λ n. h (IsUtf8-from_ascii bs (all-below bs (name-ascii bs n))))

-- an allowed name is its own lower case
pub allowed-lower : (bs : List ℕ) → is_allowed_name bs ≡ true → map to_ascii_lowercase bs ≡ bs
allowed-lower bs h = lower-all bs (name-ascii bs h)
