-- No table is wider than a range that has room for all multiples of the input.
use Rattle.std.proofs.Common.{◌≡◌, ℕ, zero, suc, ◌+◌, ◌-◌, ◌*◌, ◌^◌, ◌<◌, ◌≤◌, Bool, true, false, cond, List, [], ◌∷◌, length, get_or, min, sym, ap, ◌∙◌, subst, arith}
use Rattle.std.specs.Prelude.{ℤ, pos, negsuc, ◌+ℤ◌, ◌-ℤ◌, ◌*ℤ◌, ◌<ℤ◌, ◌≤ℤ◌, unsigned_abs, int_lt, All, slice_index_or}
use Rattle.std.specs.Int.{int_min}
use Rattle.std.specs.List.{fold}
use Rattle.std.proofs.Math.Nat.{two-pow-succ, mul-le-mul_left}
use Rattle.std.proofs.lemmas.Int.{ints, unsigned_abs-mul}
use Rattle.std.proofs.lemmas.List.{get_or-map}
use Rattle.std.proofs.lemmas.List.Elements.{All-head, All-tail, All-from_get_or}
use Rattle.std.proofs.lemmas.Nat.{pow-add, pow_pos}
use Rattle.opgen_num.specs.declared.format.TheConstants.{MAX_WIDTH}
use Rattle.opgen_num.specs.declared.format.Format.{Format}
use Rattle.opgen_num.specs.declared.format.Ratio.{Ratio}
use Rattle.opgen_num.specs.Formats.{Holds}
use Rattle.opgen_num.specs.Rounding.{nearest, distance}
use Rattle.opgen_num.specs.Words.{word}
use Rattle.opgen_num.specs.WordLaws.{length-word}
use Rattle.opgen_num.proofs.BitLength.{power_order}
use Rattle.opgen_num.proofs.Integers.{product-sum, product_cancel, product-difference, difference-product}
use Rattle.opgen_num.proofs.NearestNumbers.{nearest-floor}
use Rattle.opgen_num.proofs.Values.{val_holds}
use Rattle.opgen_kcm.specs.declared.chunk.Chunk.{Chunk}
use Rattle.opgen_kcm.specs.Chunks.{chunk_count, chunk_at, digit_of}
use Rattle.opgen_kcm.specs.Entries.{entry, all_entries, least_of, offsets, greatest_of}
use Rattle.opgen_kcm.specs.Recipe.{HasNarrowRows}
use Rattle.opgen_kcm.proofs.Entries.{length-entries, get_or-entries, length-offsets}
use Rattle.opgen_kcm.proofs.Shapes.{fold-below, narrow-rows}

-- two numbers of one width are less than 2 to it apart

holds-apart : (signed : Bool) (n : ℕ) (a b : ℤ) → 1 ≤ n → Holds signed n a → Holds signed n b → distance a b < 2 ^ n
holds-apart false n a b some h k = omega (arith, ints, h.0, h.1, k.0, k.1, pow_pos n)
holds-apart true zero a b some h k = absurd (omega (arith, some))
holds-apart true (suc n) a b some h k =
    let e : suc n - 1 ≡ n = omega arith in
    omega (arith, ints, h.0, h.1, k.0, k.1, two-pow-succ n, ap (λ i. 2 ^ i) e, pow_pos n)

digits-apart : (c : Chunk) (a b : List Bool) → 1 ≤ c.width → length a ≡ c.width → length b ≡ c.width
    → distance (digit_of c a) (digit_of c b) < 2 ^ c.width
digits-apart c a b some la lb =
    let f : Format = record { signed = c.signed; width = c.width; lsb = pos 0 } in
    let h = subst (λ n. Holds c.signed n (digit_of c a)) la (val_holds a f (omega (arith, some, la))) in
    let k = subst (λ n. Holds c.signed n (digit_of c b)) lb (val_holds b f (omega (arith, some, lb))) in
    holds-apart c.signed c.width (digit_of c a) (digit_of c b) some h k

-- the entries of one table

-- n and k rounded are no further apart than n / m and k / m, rounded up
nearest-apart : (m bound : ℕ) (n k : ℤ) → 0 < m → (n -ℤ k) ≤ℤ (pos m *ℤ pos bound) → (nearest n (pos m) -ℤ nearest k (pos m)) ≤ℤ pos bound
nearest-apart m bound n k some h =
    let high = (nearest-floor n (pos m) (omega (arith, ints, some))).0 in
    let low = (nearest-floor k (pos m) (omega (arith, ints, some))).1 in
    let e = nearest n (pos m) in
    let f = nearest k (pos m) in
    let apart : (pos m *ℤ (e -ℤ f)) <ℤ (pos m *ℤ (pos bound +ℤ pos 1)) =
    omega (arith, ints, high, low, h, product-difference (pos m) e f, product-sum (pos m) (pos bound) (pos 1)) in
    let below = product_cancel (pos m) (e -ℤ f) (pos bound +ℤ pos 1) (omega (arith, ints)) apart in
    omega (arith, ints, below)

below-abs : (z : ℤ) → z ≤ℤ pos (unsigned_abs z)
below-abs (pos n) = omega (arith, ints)
below-abs (negsuc n) = omega (arith, ints)

module _ (q : Ratio) (c : Chunk) (m bound : ℕ) (some : 0 < m) (den : q.den ≡ pos m) (width : 1 ≤ c.width)
    (room : (2 ^ c.width - 1) * 2 ^ c.low * unsigned_abs q.num ≤ m * bound) where
  entry-apart : (a b : List Bool) → length a ≡ c.width → length b ≡ c.width
      → (entry q c (digit_of c a) -ℤ entry q c (digit_of c b)) ≤ℤ pos bound
  entry-apart a b la lb =
      let x = digit_of c a in
      let y = digit_of c b in
      let p = pos (2 ^ c.low) in
      let apart : ((x *ℤ p) *ℤ q.num) -ℤ ((y *ℤ p) *ℤ q.num) ≡ ((x -ℤ y) *ℤ p) *ℤ q.num =
      difference-product (x *ℤ p) (y *ℤ p) q.num ∙ ap (λ z. z *ℤ q.num) (difference-product x y p) in
      let size : unsigned_abs (((x -ℤ y) *ℤ p) *ℤ q.num) ≡ distance x y * 2 ^ c.low * unsigned_abs q.num =
      unsigned_abs-mul ((x -ℤ y) *ℤ p) q.num ∙ ap (λ n. n * unsigned_abs q.num) (unsigned_abs-mul (x -ℤ y) p) in
      let most : distance x y ≤ 2 ^ c.width - 1 = omega (arith, digits-apart c a b width la lb) in
      let less : (2 ^ c.low * unsigned_abs q.num) * distance x y ≤ (2 ^ c.low * unsigned_abs q.num) * (2 ^ c.width - 1) =
      mul-le-mul_left (2 ^ c.low * unsigned_abs q.num) most in
      let bounded : unsigned_abs (((x -ℤ y) *ℤ p) *ℤ q.num) ≤ m * bound = omega (arith, size, less, room) in
      let limit : (((x *ℤ p) *ℤ q.num) -ℤ ((y *ℤ p) *ℤ q.num)) ≤ℤ (pos m *ℤ pos bound) =
      omega (arith, ints, apart, bounded, below-abs (((x -ℤ y) *ℤ p) *ℤ q.num)) in
      subst (λ d. (nearest ((x *ℤ p) *ℤ q.num) d -ℤ nearest ((y *ℤ p) *ℤ q.num) d) ≤ℤ pos bound) (sym den)
      (nearest-apart m bound ((x *ℤ p) *ℤ q.num) ((y *ℤ p) *ℤ q.num) some limit)

  entries-near : (i j : ℕ) (d : ℤ) → i < 2 ^ c.width → j < 2 ^ c.width
      → distance (get_or (all_entries q c) i d) (get_or (all_entries q c) j d) ≤ bound
  entries-near i j d hi hj =
      let a = word c.width i in
      let b = word c.width j in
      let ab = entry-apart a b (length-word c.width i) (length-word c.width j) in
      let ba = entry-apart b a (length-word c.width j) (length-word c.width i) in
      let near : distance (entry q c (digit_of c a)) (entry q c (digit_of c b)) ≤ bound = omega (arith, ints, ab, ba) in
      rw (get_or-entries q c (2 ^ c.width) i d hi, get_or-entries q c (2 ^ c.width) j d hj) near

  -- the least of numbers has what each of them has
  fold-holds : (P : ℤ → Type 0) (a : ℤ) (es : List ℤ) → P a → All P es → P (fold int_min a es)
  fold-holds P a [] h all = h
  fold-holds P a (e ∷ es) h all = fold-holds P (int_min a e) es (by (int_lt e a)) (All-tail P e es all)
    where
      by : (b : Bool) → P (cond b e a)
      by true = All-head P e es all
      by false = h

  pub offsets-below : greatest_of (offsets (all_entries q c)) ≤ bound
  offsets-below =
      let es = all_entries q c in
      let count = length-entries q c (2 ^ c.width) in
      let P = λ (l : ℤ). (i : ℕ) → i < length es → distance (get_or es i (pos 0)) l ≤ bound in
      let each : All P es =
      All-from_get_or P es (pos 0) (λ j hj i hi. entries-near i j (pos 0) (omega (arith, hi, count)) (omega (arith, hj, count))) in
      let first : P (slice_index_or es 0 (pos 0)) = λ i hi. entries-near i 0 (pos 0) (omega (arith, hi, count)) (pow_pos c.width) in
      let least : P (least_of es) = fold-holds P (slice_index_or es 0 (pos 0)) es first each in
      let all : All (λ n. n < bound + 1) (offsets es) =
      All-from_get_or (λ n. n < bound + 1) (offsets es) 0 (
      λ i hi.
      let within : i < length es = omega (arith, hi, length-offsets es) in
      omega (arith, get_or-map (λ f. distance f (least_of es)) es i (pos 0) 0 within, least i within)
      ) in
      omega (arith, fold-below 0 (bound + 1) (offsets es) (omega arith) all)

-- a chunk lies within the input
chunk-within : (width k : ℕ) → k < chunk_count width → 6 * k + min (width - 6 * k) 6 ≤ width
chunk-within width k h = omega (arith, h)

chunk-some : (width k : ℕ) → k < chunk_count width → 1 ≤ min (width - 6 * k) 6
chunk-some width k h = omega (arith, h)

chunk-span : (low width total : ℕ) → low + width ≤ total → (2 ^ width - 1) * 2 ^ low ≤ 2 ^ total - 1
chunk-span low width total h =
    let more : 2 ^ (low + width) ≤ 2 ^ total = power_order (low + width) total h in
    let whole : (2 ^ width - 1) * 2 ^ low + 2 ^ low ≡ 2 ^ width * 2 ^ low = one_less (2 ^ width) (2 ^ low) (pow_pos width) in
    omega (arith, more, whole, pow-add 2 low width, pow_pos low)
  where
    one_less : (a b : ℕ) → 0 < a → (a - 1) * b + b ≡ a * b
    one_less zero b h = absurd (omega (arith, h))
    one_less (suc a) b h = let e : suc a - 1 ≡ a = omega arith in omega (arith, ap (λ n. n * b) e)

-- where a range of n bits has room for the multiples of all inputs of a width
pub narrow : (q : Ratio) (m bound n width : ℕ) (signed : Bool) → 0 < m → q.den ≡ pos m → (2 ^ width - 1) * unsigned_abs q.num ≤ m * bound
    → bound < 2 ^ n → n ≤ MAX_WIDTH
    → HasNarrowRows q width signed
narrow q m bound n width signed some den room below fits place there =
    let c = chunk_at width signed place in
    let span = chunk-span c.low c.width width (chunk-within width place there) in
    let term = mul-le-mul_left (unsigned_abs q.num) span in
    let here : (2 ^ c.width - 1) * 2 ^ c.low * unsigned_abs q.num ≤ m * bound = omega (arith, term, room) in
    let most = offsets-below q c m bound some den (chunk-some width place there) here in
    omega (arith, narrow-rows (offsets (all_entries q c)) n (omega (arith, most, below)), fits)
