-- Bytes that are decimal digits.
use Rattle.std.proofs.Common.{◌≡◌, ℕ, ◌<◌, ◌≤◌, true, List, length, get_or}
use Rattle.std.specs.Prelude.{nat_le}
use Rattle.std.specs.Char.{is_ascii_digit}
use Rattle.std.specs.List.{list_all}
use Rattle.std.proofs.lemmas.Bool.{and_parts, leb-true, true_from_ne_false}
use Rattle.std.proofs.lemmas.List.Folds.{list_all_at}

pub digit_bounds : (b : ℕ) → is_ascii_digit b ≡ true → (48 ≤ b) × (b ≤ 57)
digit_bounds b h =
    let (low, high) = and_parts (nat_le 48 b) (nat_le b 57) h in
    (leb-true 48 b low, leb-true b 57 high)

pub digit_at : (digits : List ℕ) (i : ℕ) → list_all is_ascii_digit digits ≡ true → i < length digits → (48 ≤ get_or digits i 0)
    × (get_or digits i 0 ≤ 57)
digit_at digits i all lt =
    digit_bounds (get_or digits i 0) (true_from_ne_false (is_ascii_digit (get_or digits i 0)) (λ no_digit. let none = list_all_at
    is_ascii_digit digits i 0 lt no_digit in cc))
