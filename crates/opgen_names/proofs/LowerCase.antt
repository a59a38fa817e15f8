-- What has only bytes of names is in lower case.
use Rattle.std.proofs.Common.{◌≡◌, inl, inr, ℕ, ◌||◌, true, nat_le, List, [], ◌∷◌, map, refl, arith}
use Rattle.std.specs.Char.{is_ascii_lowercase, is_ascii_digit, to_ascii_lowercase}
use Rattle.std.specs.List.{list_all}
use Rattle.std.proofs.lemmas.Bool.{and_parts, or_cases, leb-true, eqb-true}
use Rattle.std.proofs.lemmas.Str.Ascii.{lowercase_is}
use Rattle.opgen_names.specs.Names.{is_name_byte, is_underscore}

lower-byte : (b : ℕ) → is_name_byte b ≡ true → to_ascii_lowercase b ≡ b
lower-byte b h = elim (or_cases (is_ascii_lowercase b || is_ascii_digit b) (is_underscore b) h) [
  | inl k ↦ elim (or_cases (is_ascii_lowercase b) (is_ascii_digit b) k) [
    | inl l ↦ let (low, high) = and_parts (nat_le 97 b) (nat_le b 122) l in (lowercase_is b).2 (omega (arith, leb-true 97 b low))
    | inr l ↦ let (low, high) = and_parts (nat_le 48 b) (nat_le b 57) l in (lowercase_is b).1 (omega (arith, leb-true b 57 high))
  ]
  | inr k ↦ (lowercase_is b).2 (omega (arith, eqb-true b 95 k))
]

pub lower-all : (bs : List ℕ) → list_all is_name_byte bs ≡ true → map to_ascii_lowercase bs ≡ bs
lower-all [] h = refl
lower-all (b ∷ bs) h =
    let (here, more) = and_parts (is_name_byte b) (list_all is_name_byte bs) h in
    let first : to_ascii_lowercase b ≡ b = lower-byte b here in
    let others : map to_ascii_lowercase bs ≡ bs = lower-all bs more in
    cc
