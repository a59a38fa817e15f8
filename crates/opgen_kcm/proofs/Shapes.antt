-- The rows of a table: the greatest offset, the zeros with which all offsets end, and the width of the rows.
use Rattle.std.proofs.Common.{◌≡◌, ℕ, zero, suc, ◌+◌, ◌-◌, ◌*◌, ◌/◌, ◌%◌, ◌^◌, ◌<◌, ◌≤◌, inl, inr, Bool, true, false, List, [], ◌∷◌, length, get_or, max, refl, sym, ap, ◌∙◌, arith}
use Rattle.std.specs.Prelude.{◌==◌, ◌&&◌, All, slice_index, if◌then◌else◌}
use Rattle.std.specs.List.{fold}
use Rattle.std.proofs.Math.Nat.{mul-le-mul_left}
use Rattle.std.proofs.lemmas.Bool.{cases_lt, and_parts, eqb-true, eq-eqb}
use Rattle.std.proofs.lemmas.Nat.{div-add-mod', div_below, pow_pos, mod_below}
use Rattle.std.proofs.lemmas.List.{get_or-map, get_or_default, length-map}
use Rattle.std.proofs.lemmas.List.Elements.{All-head, All-tail}
use Rattle.opgen_num.specs.declared.format.TheConstants.{MAX_WIDTH}
use Rattle.opgen_num.specs.Formats.{digit_count}
use Rattle.opgen_num.specs.Words.{nat, word}
use Rattle.opgen_num.specs.WordLaws.{length-word, nat-word}
use Rattle.opgen_num.proofs.RangeWidth.{count-holds, count-least, digits-some}
use Rattle.opgen_net.specs.Valid.{FitsTable}
use Rattle.opgen_kcm.specs.Entries.{greatest_of, divides_all, zeros_within, zeros_of, shape_of, rows_in}

-- the greatest of numbers, from a first one on

pub fold-first : (a : ℕ) (ns : List ℕ) → a ≤ fold max a ns
fold-first a [] = omega arith
fold-first a (n ∷ ns) = omega (arith, fold-first (max a n) ns)

pub fold-each : (a : ℕ) (ns : List ℕ) (i : ℕ) → i < length ns → get_or ns i 0 ≤ fold max a ns
fold-each a [] i h = absurd (omega (arith, h))
fold-each a (n ∷ ns) zero h = omega (arith, fold-first (max a n) ns)
fold-each a (n ∷ ns) (suc i) h = fold-each (max a n) ns i (omega (arith, h))

pub fold-below : (a b : ℕ) (ns : List ℕ) → a < b → All (λ n. n < b) ns → fold max a ns < b
fold-below a b [] h l = h
fold-below a b (n ∷ ns) h l =
    let this = All-head (λ k. k < b) n ns l in
    fold-below (max a n) b ns (omega (arith, h, this)) (All-tail (λ k. k < b) n ns l)

-- numbers that end with so many zeros

max-divides : (m a b : ℕ) → a % m ≡ 0 → b % m ≡ 0 → max a b % m ≡ 0
max-divides m a b h k = elim (cases_lt a b) [
  | inl l ↦ let e : max a b ≡ b = omega (arith, l) in ap (λ n. n % m) e ∙ k
  | inr l ↦ let e : max a b ≡ a = omega (arith, l) in ap (λ n. n % m) e ∙ h
]

fold-divides : (z a : ℕ) (ns : List ℕ) → a % 2 ^ z ≡ 0 → divides_all z ns ≡ true → fold max a ns % 2 ^ z ≡ 0
fold-divides z a [] h d = h
fold-divides z a (n ∷ ns) h d =
    let parts = and_parts (n % 2 ^ z == 0) (divides_all z ns) d in
    fold-divides z (max a n) ns (max-divides (2 ^ z) a n h (eqb-true (n % 2 ^ z) 0 parts.0)) parts.1

each-divides : (z : ℕ) (ns : List ℕ) (i : ℕ) → divides_all z ns ≡ true → i < length ns → get_or ns i 0 % 2 ^ z ≡ 0
each-divides z [] i d h = absurd (omega (arith, h))
each-divides z (n ∷ ns) zero d h = eqb-true (n % 2 ^ z) 0 ((and_parts (n % 2 ^ z == 0) (divides_all z ns) d).0)
each-divides z (n ∷ ns) (suc i) d h = each-divides z ns i ((and_parts (n % 2 ^ z == 0) (divides_all z ns) d).1) (omega (arith, h))

no-zeros : (ns : List ℕ) → divides_all 0 ns ≡ true
no-zeros [] = refl
no-zeros (n ∷ ns) = let e : n % 1 ≡ 0 = omega arith in ap (λ b. b && divides_all 0 ns) (eq-eqb (n % 1) 0 e) ∙ no-zeros ns

pub zeros-divide : (most : ℕ) (ns : List ℕ) → divides_all (zeros_within most ns) ns ≡ true
zeros-divide zero ns = no-zeros ns
zeros-divide (suc k) ns = by (zeros-divide k ns) (divides_all (suc k) ns) refl
  where
    by : divides_all (zeros_within k ns) ns ≡ true → (b : Bool) → divides_all (suc k) ns ≡ b
        → divides_all (if b then suc k else zeros_within k ns) ns ≡ true
    by lower true e = e
    by lower false e = lower

pub zeros-within : (most : ℕ) (ns : List ℕ) → zeros_within most ns ≤ most
zeros-within zero ns = omega arith
zeros-within (suc k) ns = by (zeros-within k ns) (divides_all (suc k) ns)
  where
    by : zeros_within k ns ≤ k → (b : Bool) → (if b then suc k else zeros_within k ns) ≤ suc k
    by lower true = omega arith
    by lower false = omega (arith, lower)

quotient-some : (n m : ℕ) → 1 ≤ n → n % m ≡ 0 → 1 ≤ n / m
quotient-some n m h d = by (n / m) (div-add-mod' n m)
  where
    by : (q : ℕ) → q * m + n % m ≡ n → 1 ≤ q
    by zero e = absurd (omega (arith, e, h, d))
    by (suc q) e = omega arith

module _ (ns : List ℕ) where
  -- each row has room in the width of the rows
  pub row-fits : (i : ℕ) → i < length ns → get_or ns i 0 / 2 ^ zeros_of ns < 2 ^ (shape_of ns).width
  row-fits i h =
      let m = 2 ^ zeros_of ns in
      let g = greatest_of ns in
      let w = 2 ^ digit_count (g / m) in
      let whole = div-add-mod' g m in
      let rest = mod_below g m (pow_pos (zeros_of ns)) in
      let more : m * (g / m + 1) ≤ m * w = mul-le-mul_left m (omega (arith, count-holds (g / m))) in
      div_below (get_or ns i 0) m w (pow_pos (zeros_of ns)) (omega (arith, fold-each 0 ns i h, whole, rest, more))

  -- the row of an address, with the zeros below it, is the offset there
  pub row-number : (i : ℕ) → i < length ns → nat (get_or (rows_in (shape_of ns) ns) i []) * 2 ^ zeros_of ns ≡ get_or ns i 0
  row-number i h =
      let m = 2 ^ zeros_of ns in
      let n = get_or ns i 0 in
      let w = (shape_of ns).width in
      let row : get_or (rows_in (shape_of ns) ns) i [] ≡ word w (n / m) = get_or-map (λ k. word w (k / m)) ns i 0 [] h in
      ap (λ r. nat r * m) row
      ∙ ap (λ k. k * m) (nat-word w (n / m) (row-fits i h))
      ∙ omega (arith, div-add-mod' n m, each-divides (zeros_of ns) ns i (zeros-divide (digit_count (greatest_of ns)) ns) h)

  pub length-row : (i : ℕ) → i < length ns → length (get_or (rows_in (shape_of ns) ns) i []) ≡ (shape_of ns).width
  length-row i h =
      let m = 2 ^ zeros_of ns in
      let w = (shape_of ns).width in
      ap length (get_or-map (λ k. word w (k / m)) ns i 0 [] h) ∙ length-word w (get_or ns i 0 / m)

  pub width-some : 1 ≤ greatest_of ns → 1 ≤ (shape_of ns).width
  width-some h =
      let divides = fold-divides (zeros_of ns) 0 ns (omega arith) (zeros-divide (digit_count (greatest_of ns)) ns) in
      digits-some (greatest_of ns / 2 ^ zeros_of ns) (quotient-some (greatest_of ns) (2 ^ zeros_of ns) h divides)

  pub fits_table : (ws : List ℕ) (address k : ℕ) → slice_index ws address ≡ k → 1 ≤ k → k ≤ 6 → length ns ≡ 2 ^ k → 1 ≤ greatest_of ns
      → (shape_of ns).width ≤ MAX_WIDTH
      → FitsTable ws address (rows_in (shape_of ns) ns)
  fits_table ws address k at some few size h narrow =
      let rows = rows_in (shape_of ns) ns in
      let count : length rows ≡ length ns = length-map ns (λ n. word (shape_of ns).width (n / 2 ^ zeros_of ns)) in
      let first = length-row 0 (omega (arith, size, pow_pos k)) in record {
        address_width = (omega (arith, at, some), omega (arith, at, few));
        row_for_each = count ∙ size ∙ ap (λ n. 2 ^ n) (sym at);
        row_width = (omega (arith, first, width-some h), omega (arith, first, narrow));
        same_width = λ i d l. ap length (same i d l) ∙ length-row i (omega (arith, l, count)) ∙ sym first;
      }
    where
      same : (i : ℕ) (d : List Bool) → i < length (rows_in (shape_of ns) ns)
          → get_or (rows_in (shape_of ns) ns) i d ≡ get_or (rows_in (shape_of ns) ns) i []
      same i d l = get_or_default (rows_in (shape_of ns) ns) i d [] l

-- numbers below a power of two have rows of no more bits
pub narrow-rows : (ns : List ℕ) (n : ℕ) → greatest_of ns < 2 ^ n → (shape_of ns).width ≤ n
narrow-rows ns n h =
    let m = 2 ^ zeros_of ns in
    let g = greatest_of ns in
    let some : 1 ≤ m = omega (arith, pow_pos (zeros_of ns)) in
    let less : g / m * 1 ≤ g / m * m = mul-le-mul_left (g / m) some in
    count-least (g / m) n (omega (arith, h, less, div-add-mod' g m))

-- fewer zeros where so many do not divide all
pub zeros-step : (z : ℕ) (ns : List ℕ) → 0 < z → divides_all z ns ≡ false → zeros_within (z - 1) ns ≡ zeros_within z ns
zeros-step zero ns h none = absurd (omega (arith, h))
zeros-step (suc k) ns h none =
    let e : suc k - 1 ≡ k = omega arith in
    ap (λ n. zeros_within n ns) e ∙ ap (λ (b : Bool). if b then suc k else zeros_within k ns) (sym none)

pub some-greatest : (n : ℕ) → (n ≡ 0 → ⊥) → 1 ≤ n
some-greatest zero h = absurd (h refl)
some-greatest (suc n) h = omega arith
