-- Coefficients and their denominator, as a document writes them.
use Rattle.std.specs.Prelude.{ℕ, ◌≡◌, ◌+◌, ◌*◌, ◌-◌, ◌^◌, ◌≤◌, ◌⊎◌, Bool, true, false, List, [], ◌∷◌, ◌++◌, length, All, ℤ, pos, neg_ℤ, ◌*ℤ◌, Some, None}
use Rattle.toml.specs.Data.{Data, string, integer, Items, no_items, item, Members}
use Rattle.opgen_document.specs.declared.key.Key.TheVariants as key
use Rattle.opgen_document.specs.Document.{value_at, items_at}

-- a decimal digit: `0` is 48
abbrev pub IsDigit : ℕ → Type 0
IsDigit byte = (48 ≤ byte) × (byte ≤ 57)

-- the number that digits stand for: each is worth ten to the number of digits after it
abbrev pub number : List ℕ → ℕ
number [] = 0
number (digit ∷ rest) = (digit - 48) * 10 ^ length rest + number rest

-- `-` (45), or no sign
abbrev pub sign : (negative : Bool) → List ℕ
sign true = 45 ∷ []
sign false = []

abbrev pub signed : (negative : Bool) → ℕ → ℤ
signed true n = neg_ℤ (pos n)
signed false n = pos n

-- a point (46) and the digits after it, or neither
abbrev pub after_point : List ℕ → List ℕ
after_point [] = []
after_point (digit ∷ rest) = 46 ∷ digit ∷ rest

-- The text is a decimal: a sign, digits, and digits after a point. Its value is n over ten to the places, which are the digits
-- after the point.
pub record IsDecimal (text : List ℕ) (n : ℤ) (places : ℕ) : Type 0 where
  pub negative : Bool
  pub whole : List ℕ
  pub fraction : List ℕ
  pub text_is : text ≡ sign negative ++ (whole ++ after_point fraction)
  pub some : 1 ≤ length whole
  pub digits : All IsDigit whole × All IsDigit fraction
  pub few : length whole + length fraction ≤ 9
  pub value : n ≡ signed negative (number (whole ++ fraction))
  pub places_are : places ≡ length fraction

-- A numerator over ten to a power: a whole number is one over 1, and a decimal is its value times ten to that power.
abbrev pub IsNumerator : (power : ℕ) → Data → ℤ → Type 0
IsNumerator power (integer n) c = (c ≡ n) × (power ≡ 0)
IsNumerator power (string text) c =
    (n : ℤ) × (places : ℕ) × IsDecimal text n places × (places ≤ power) × (c ≡ n *ℤ pos (10 ^ (power - places)))
IsNumerator power _ c = ⊥

-- one for each item, in order
abbrev pub AreNumerators : (power : ℕ) → Items → List ℤ → Type 0
AreNumerators power no_items [] = Unit {0}
AreNumerators power (item d rest) (c ∷ cs) = IsNumerator power d c × AreNumerators power rest cs
AreNumerators power _ _ = ⊥

-- some item has so many digits after its point, or none is asked for
abbrev pub HasPlaces : (power : ℕ) → Items → Type 0
HasPlaces power no_items = power ≡ 0
HasPlaces power (item (string text) rest) = ((n : ℤ) × IsDecimal text n power) ⊎ HasPlaces power rest
HasPlaces power (item _ rest) = HasPlaces power rest

-- the coefficients are decimals
abbrev pub AreDecimals : Items → Type 0
AreDecimals (item (string _) _) = Unit {0}
AreDecimals _ = ⊥

-- The denominator: of decimals ten to their most digits after a point, else the number at its key, or 1 where there is none.
pub record AreCoefficients (ms : Members) (coefs : List ℤ) (den : ℤ) : Type 0 where
  pub power : ℕ
  pub numerators : AreNumerators power (items_at ms key.Coefficients) coefs
  pub greatest : HasPlaces power (items_at ms key.Coefficients)
  pub of_decimals : AreDecimals (items_at ms key.Coefficients) → den ≡ pos (10 ^ power)
  pub of_numbers : ¬ AreDecimals (items_at ms key.Coefficients)
      → (value_at ms key.Denominator ≡ Some (integer den)) ⊎ ((value_at ms key.Denominator ≡ None) × (den ≡ pos 1))
