-- Where the number of a word lies, by the bits of the word that are dropped.
use Rattle.std.proofs.Common.{◌≡◌, ℕ, suc, ◌+◌, ◌-◌, ◌*◌, ◌^◌, ◌<◌, ◌≤◌, min, cond, Bool, true, false, List, [], ◌∷◌, length, take, drop, not, ◌&&◌, if◌then◌else◌, refl, sym, ap, ◌∙◌, subst, arith}
use Rattle.std.specs.Prelude.{ℤ, pos, ◌-ℤ◌, ◌<ℤ◌, slice_index_or}
use Rattle.std.proofs.Math.Nat.{two-pow-succ, mul-le-mul_left}
use Rattle.std.proofs.Math.Seq.{take-length}
use Rattle.std.proofs.lemmas.Bool.{leb-false}
use Rattle.std.proofs.lemmas.Int.{ints}
use Rattle.std.proofs.lemmas.List.{length-drop}
use Rattle.std.proofs.lemmas.Nat.{pow-add, pow_pos}
use Rattle.opgen_num.specs.declared.format.Format.{Format}
use Rattle.opgen_num.specs.Formats.{Holds, least, greatest, IsWidthOf}
use Rattle.opgen_num.specs.Words.{highest, int, val, nat}
use Rattle.opgen_num.proofs.BitLength.{power_order, power_cancel}
use Rattle.opgen_num.proofs.Cuts.{nat-parts, take-below}
use Rattle.opgen_num.proofs.Values.{highest_weight}
use Rattle.opgen_num.proofs.Words.{nat-below}
use Rattle.opgen_saturate.specs.Recipe.{is_wider, first_dropped, counting}
use Rattle.opgen_saturate.proofs.Bits.{any_of, all_of, differ, any-number, all-number, part_number}

-- the test, by the bits of a word
abbrev pub is_outside : List Bool → (format to : Format) → Bool
is_outside v format to =
    let low = first_dropped format to in
    differ (format.signed && to.signed) v low (format.width - low)

-- the highest bit, by its place
pub highest-at : (v : List Bool) → 1 ≤ length v → highest v ≡ slice_index_or v (length v - 1) false
highest-at [] h = absurd (omega (arith, h))
highest-at (b ∷ []) h = refl
highest-at (b ∷ c ∷ v) h =
    let e : length (b ∷ c ∷ v) - 1 ≡ suc (length (c ∷ v) - 1) = omega arith in
    highest-at (c ∷ v) (omega arith) ∙ ap (λ n. slice_index_or (b ∷ c ∷ v) n false) (sym e)

-- a product with a greater factor
pub scaled : (a b p : ℕ) → a ≤ b → a * p ≤ b * p
scaled a b p h = omega (arith, mul-le-mul_left p h)

-- a word by its highest bit
pub half : (v : List Bool) → 1 ≤ length v
    → (highest v ≡ true → 2 ^ (length v - 1) ≤ nat v) × (highest v ≡ false → nat v < 2 ^ (length v - 1))
half [] h = absurd (omega (arith, h))
half (b ∷ v) h =
    let e : suc (length v) - 1 ≡ length v = omega arith in
    go (highest (b ∷ v)) (highest_weight b v) (ap (λ n. 2 ^ n) e)
  where
    go : (top : Bool) → (cond top (2 ^ length v) 0 ≤ nat (b ∷ v)) × (nat (b ∷ v) < 2 ^ length v + cond top (2 ^ length v) 0)
        → 2 ^ (suc (length v) - 1) ≡ 2 ^ length v
        → (top ≡ true → 2 ^ (suc (length v) - 1) ≤ nat (b ∷ v)) × (top ≡ false → nat (b ∷ v) < 2 ^ (suc (length v) - 1))
    go true k e = (λ f. omega (arith, k.0, e), λ f. absurd (cc))
    go false k e = (λ f. absurd (cc), λ f. omega (arith, k.1, e))

abbrev pub is_below_zero : List Bool → Format → Bool
is_below_zero v format = format.signed && highest v

-- the number is inside, or outside on the side of its sign
pub record Tells (outside negative signed : Bool) (width : ℕ) (n : ℤ) : Type 0 where
  pub inside : outside ≡ false → Holds signed width n
  pub under : outside ≡ true → negative ≡ true → n <ℤ least signed width
  pub over : outside ≡ true → negative ≡ false → greatest signed width <ℤ n

module _ (v : List Bool) (w low : ℕ) (long : length v ≡ w) (within : low < w) where
  abbrev count : ℕ
  count = w - low

  abbrev dropped : ℕ
  dropped = part_number v low count

  abbrev rest : ℕ
  rest = nat (take low v)

  below : rest < 2 ^ low
  below = take-below low v

  parts : nat v ≡ rest + dropped * 2 ^ low
  parts =
      let d = drop low v in
      let e : count ≡ length d = omega (arith, long, length-drop low v) in
      omega (arith, nat-parts low v, ap (λ n. nat n * 2 ^ low) (ap (λ n. take n d) e ∙ take-length d))

  top : 2 ^ count * 2 ^ low ≡ 2 ^ w
  top = let e : count + low ≡ w = omega (arith, within) in sym (pow-add 2 count low) ∙ ap (λ n. 2 ^ n) e

  most : nat v < 2 ^ w
  most = omega (arith, nat-below v, ap (λ n. 2 ^ n) long)

  fits : low + count ≤ length v
  fits = omega (arith, long, within)

  none_left : any_of v low count ≡ false → nat v < 2 ^ low
  none_left f = omega (arith, parts, below, ap (λ n. n * 2 ^ low) ((any-number v low count fits).1 f))

  some_left : any_of v low count ≡ true → 2 ^ low ≤ nat v
  some_left f = omega (arith, parts, scaled 1 dropped (2 ^ low) ((any-number v low count fits).0 f))

  all_left : all_of v low count ≡ true → 2 ^ w ≤ nat v + 2 ^ low
  all_left f = omega (arith, parts, top, ap (λ n. n * 2 ^ low) ((all-number v low count fits).0 f))

  not_all_left : all_of v low count ≡ false → nat v + 2 ^ low < 2 ^ w
  not_all_left f = omega (arith, parts, below, top, scaled (dropped + 2) (2 ^ count) (2 ^ low) (omega (arith, (all-number v low count fits).1 f)))

  -- an unsigned number
  unsigned_tells : (signed : Bool) (m : ℕ) → low ≡ (if signed then m - 1 else m)
      → Tells (any_of v low count) false signed m (pos (nat v))
  unsigned_tells false m e = record {
    inside = λ f. (omega (arith, ints), omega (arith, ints, none_left f, ap (λ n. 2 ^ n) e));
    under = λ f g. absurd (cc);
    over = λ f g. omega (arith, ints, some_left f, ap (λ n. 2 ^ n) e);
  }
  unsigned_tells true m e = record {
    inside = λ f. (omega (arith, ints), omega (arith, ints, none_left f, ap (λ n. 2 ^ n) e));
    under = λ f g. absurd (cc);
    over = λ f g. omega (arith, ints, some_left f, ap (λ n. 2 ^ n) e);
  }

  halves : 2 ^ w ≡ 2 * 2 ^ (w - 1)
  halves = let e : w ≡ suc (w - 1) = omega (arith, within) in ap (λ n. 2 ^ n) e ∙ two-pow-succ (w - 1) ∙ omega arith

  sides : (highest v ≡ true → 2 ^ (w - 1) ≤ nat v) × (highest v ≡ false → nat v < 2 ^ (w - 1))
  sides = subst (λ n. (highest v ≡ true → 2 ^ (n - 1) ≤ nat v) × (highest v ≡ false → nat v < 2 ^ (n - 1))) long (half v (omega (arith, long, within)))

  abbrev number : Bool → ℤ
  number negative = pos (nat v) -ℤ pos (cond negative (2 ^ w) 0)

  -- a signed number, for an unsigned range
  cut_tells : (m : ℕ) → low ≡ min m (w - 1) → (negative : Bool) → highest v ≡ negative
      → Tells (any_of v low count) negative false m (number negative)
  cut_tells m e true h = record {
    inside = λ f. absurd (omega (arith, none_left f, sides.0 h, power_order low (w - 1) (omega (arith, e))));
    under = λ f g. omega (arith, ints, most);
    over = λ f g. absurd (cc);
  }
  cut_tells m e false h = record {
    inside = λ f. (omega (arith, ints), omega (arith, ints, none_left f, power_order low m (omega (arith, e))));
    under = λ f g. absurd (cc);
    over = λ f g.
        let all : low ≡ m = omega (arith, e, power_cancel low (w - 1) (nat v) (some_left f) (sides.1 h)) in
        omega (arith, ints, some_left f, ap (λ n. 2 ^ n) all);
  }

  -- a signed number, for a signed range
  signed_tells : (m : ℕ) → low ≡ m - 1 → (negative : Bool) → highest v ≡ negative → (any all : Bool)
      → any_of v low count ≡ any → all_of v low count ≡ all → Tells (any && not all) negative true m (number negative)
  signed_tells m e true h false all f g = absurd (omega (arith, none_left f, sides.0 h, power_order low (w - 1) (omega (arith, within))))
  signed_tells m e true h true true f g = record {
    inside = λ i. (omega (arith, ints, all_left g, ap (λ n. 2 ^ n) e), omega (arith, ints, most, pow_pos (m - 1)));
    under = λ i j. absurd (cc);
    over = λ i j. absurd (cc);
  }
  signed_tells m e true h true false f g = record {
    inside = λ i. absurd (cc);
    under = λ i j. omega (arith, ints, not_all_left g, ap (λ n. 2 ^ n) e);
    over = λ i j. absurd (cc);
  }
  signed_tells m e false h false all f g = record {
    inside = λ i. (omega (arith, ints), omega (arith, ints, none_left f, ap (λ n. 2 ^ n) e));
    under = λ i j. absurd (cc);
    over = λ i j. absurd (cc);
  }
  signed_tells m e false h true true f g =
      absurd (omega (arith, all_left g, sides.1 h, halves, power_order low (w - 1) (omega (arith, within))))
  signed_tells m e false h true false f g = record {
    inside = λ i. absurd (cc);
    under = λ i j. absurd (cc);
    over = λ i j. omega (arith, ints, some_left f, ap (λ n. 2 ^ n) e);
  }

module _ (v : List Bool) (w m : ℕ) (l k : ℤ) (long : length v ≡ w) where
  abbrev source : Bool → Format
  source signed = record { signed = signed; width = w; lsb = l }

  abbrev target : Bool → Format
  target signed = record { signed = signed; width = m; lsb = k }

  signed_number : (outside signed : Bool) → Tells outside (highest v) signed m (pos (nat v) -ℤ pos (cond (highest v) (2 ^ w) 0))
      → Tells outside (highest v) signed m (int v)
  signed_number outside signed = subst (λ n. Tells outside (highest v) signed m (pos (nat v) -ℤ pos (cond (highest v) (2 ^ n) 0))) (sym long)

  by_signs : (s t : Bool) → IsWidthOf s w → IsWidthOf t m → is_wider (source s) (target t) ≡ false
      → Tells (is_outside v (source s) (target t)) (s && highest v) t m (val v (source s))
  by_signs false t a b h = unsigned_tells v w (counting (target t)) long (leb-false w (counting (target t)) h) t m refl
  by_signs true false a b h =
      signed_number _ false (cut_tells v w (min m (w - 1)) long (omega (arith, a.0)) m refl (highest v) refl)
  by_signs true true a b h =
      let low = min (m - 1) (w - 1) in
      let less : m < w = leb-false w m h in
      signed_number _ true
      (signed_tells v w low long (omega (arith, a.0)) m (omega (arith, less, b.0)) (highest v) refl
      (any_of v low (w - low)) (all_of v low (w - low)) refl refl)

pub tells : (v : List Bool) (format to : Format) → length v ≡ format.width → IsWidthOf format.signed format.width
    → IsWidthOf to.signed to.width → is_wider format to ≡ false
    → Tells (is_outside v format to) (is_below_zero v format) to.signed to.width (val v format)
tells v format to long = by_signs v format.width to.width format.lsb to.lsb long format.signed to.signed
