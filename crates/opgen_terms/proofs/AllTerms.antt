-- Sums over the terms of a sum of products: how far they go, and what the loops over the terms have so far.
use Rattle.std.proofs.Common.{ℕ, zero, suc, ◌≡◌, ◌+◌, ◌*◌, ◌^◌, ◌<◌, ◌≤◌, ◌∙◌, Bool, true, false, not, cond, List, [], ◌∷◌, length, get_or, drop, drop-cons, add-one, Option, Some, refl, sym, ap, subst, max, arith}
use Rattle.std.proofs.lemmas.Bool.{and_parts}
use Rattle.std.proofs.lemmas.Int.{ints}
use Rattle.std.specs.List.{find, position_from}
use Rattle.std.specs.Option.{unwrap_or}
use Rattle.std.specs.Prelude.{ℤ, pos, neg_ℤ, ◌≤ℤ◌, ◌*ℤ◌, ◌+ℤ◌, unsigned_abs, map, int_le}
use Rattle.opgen_num.proofs.BitLength.{power_order}
use Rattle.opgen_num.proofs.RangeWidth.{count-holds}
use Rattle.opgen_num.specs.Formats.{digit_count}
use Rattle.opgen_terms.specs.declared.sop.TheConstants.{MAX_TOTAL_BITS}
use Rattle.opgen_terms.specs.declared.sop.Sop.{Sop}
use Rattle.opgen_terms.specs.Sop.{Term, HasSmallShift, offset_term, terms_of, term_at, total, greatest, depth, height, raised, is_small_shift, total_bits}
use Rattle.opgen_ports.specs.Reaches.{places_down, up, down}
use Rattle.opgen_ports.proofs.Bounds.{products, few_up, few_down}
use Rattle.opgen_ports.proofs.Magnitudes.{raised_within, unsigned_abs-product}
use Rattle.opgen_ports.proofs.WeightedSums.{bound_step}

-- one term more
pub total_next : (f : Term → ℤ) (ts : List Term) (i : ℕ) (d : Term) → i < length ts
    → total f (drop i ts) ≡ f (get_or ts i d) +ℤ total f (drop (i + 1) ts)
total_next f ts i d here =
    ap (total f) (drop-cons ts i d here) ∙ ap (λ k. f (get_or ts i d) +ℤ total f (drop k ts)) (sym (add-one i))

pub greatest_next : (f : Term → ℕ) (ts : List Term) (i : ℕ) (d : Term) → i < length ts
    → greatest f (drop i ts) ≡ max (f (get_or ts i d)) (greatest f (drop (i + 1) ts))
greatest_next f ts i d here =
    ap (greatest f) (drop-cons ts i d here) ∙ ap (λ k. max (f (get_or ts i d)) (greatest f (drop k ts))) (sym (add-one i))

pub find_next : (test : ℤ → Bool) (f : Term → ℤ) (ts : List Term) (i : ℕ) (d : Term) → i < length ts
    → find test (map f (drop i ts)) ≡ cond (test (f (get_or ts i d))) (Some (f (get_or ts i d))) (find test (map f (drop (i + 1) ts)))
find_next test f ts i d here =
    ap (λ l. find test (map f l)) (drop-cons ts i d here)
    ∙ ap (λ k. cond (test (f (get_or ts i d))) (Some (f (get_or ts i d))) (find test (map f (drop k ts)))) (sym (add-one i))

pub position_next : (test : Term → Bool) (ts : List Term) (n i : ℕ) (d : Term) → i < length ts
    → position_from test n (drop i ts) ≡ cond (test (get_or ts i d)) (Some n) (position_from test (n + 1) (drop (i + 1) ts))
position_next test ts n i d here =
    ap (position_from test n) (drop-cons ts i d here)
    ∙ ap (λ k. cond (test (get_or ts i d)) (Some n) (position_from test (n + 1) (drop k ts))) (sym (add-one i))

-- none is greater than the greatest
pub greatest_above : (f : Term → ℕ) (ts : List Term) (i : ℕ) (d : Term) → i < length ts → f (get_or ts i d) ≤ greatest f ts
greatest_above f [] i d here = absurd (omega (arith, here))
greatest_above f (t ∷ ts) zero d here = omega arith
greatest_above f (t ∷ ts) (suc i) d here = omega (arith, greatest_above f ts i d (omega (arith, here)))

pub greatest_most : (f : Term → ℕ) (ts : List Term) (d : Term) (most : ℕ) → ((i : ℕ) → i < length ts → f (get_or ts i d) ≤ most)
    → greatest f ts ≤ most
greatest_most f [] d most each = omega arith
greatest_most f (t ∷ ts) d most each =
    omega (arith, each 0 (omega arith), greatest_most f ts d most (λ i here. each (suc i) (omega (arith, here))))

-- a sum of each is from the sum of the one to the sum of the other
pub total_order : (f g : Term → ℤ) (ts : List Term) (d : Term) → ((i : ℕ) → i < length ts → f (get_or ts i d) ≤ℤ g (get_or ts i d))
    → total f ts ≤ℤ total g ts
total_order f g [] d each = omega (arith, ints)
total_order f g (t ∷ ts) d each =
    omega (arith, ints, each 0 (omega arith), total_order f g ts d (λ i here. each (suc i) (omega (arith, here))))

pub total_small : (f : Term → ℤ) (ts : List Term) (d : Term) (most : ℕ) → ((i : ℕ) → i < length ts → unsigned_abs (f (get_or ts i d)) ≤ most)
    → unsigned_abs (total f ts) ≤ length ts * most
total_small f [] d most each = omega arith
total_small f (t ∷ ts) d most each =
    omega (arith, ints, each 0 (omega arith), total_small f ts d most (λ i here. each (suc i) (omega (arith, here))))

-- shifts from -48 to 48
pub small_range : (shift : ℤ) → is_small_shift shift ≡ true → (neg_ℤ (pos 48) ≤ℤ shift) × (shift ≤ℤ pos 48)
small_range shift e =
    let (above, below) = and_parts (int_le (neg_ℤ (pos 48)) shift) (int_le shift (pos 48)) e in
    let least : neg_ℤ (pos 48) ≤ℤ shift = grind (arith, ints) in
    let most : shift ≤ℤ pos 48 = grind (arith, ints) in
    (least, most)

pub range_small : (shift : ℤ) → neg_ℤ (pos 48) ≤ℤ shift → shift ≤ℤ pos 48 → is_small_shift shift ≡ true
range_small shift least most =
    let above : int_le (neg_ℤ (pos 48)) shift ≡ true = grind (arith, ints) in
    let below : int_le shift (pos 48) ≡ true = grind (arith, ints) in
    rw (above, below) refl

abbrev IsFew : ℤ → Type 0
IsFew shift = (neg_ℤ (pos 48) ≤ℤ shift) × (shift ≤ℤ pos 48)

each_small : (ts : List Term) → IsFew (unwrap_or (find (λ shift. not (is_small_shift shift)) (map (λ (t : Term). t.shift) ts)) (pos 0))
    → (i : ℕ) (d : Term) → i < length ts → IsFew (get_or ts i d).shift
each_small [] few i d here = absurd (omega (arith, here))
each_small (t ∷ ts) few i d here = go (λ later k lt. each_small ts later k d lt) (is_small_shift t.shift) refl i here
  where
    rest : Option ℤ
    rest = find (λ shift. not (is_small_shift shift)) (map (λ (u : Term). u.shift) ts)

    go : (IsFew (unwrap_or rest (pos 0)) → (k : ℕ) → k < length ts → IsFew (get_or ts k d).shift) → (b : Bool)
        → is_small_shift t.shift ≡ b → (i : ℕ) → i < suc (length ts) → IsFew (get_or (t ∷ ts) i d).shift
    go each false e i here =
        let first : IsFew t.shift = subst (λ b. IsFew (unwrap_or (cond (not b) (Some t.shift) rest) (pos 0))) e few in
        let no : is_small_shift t.shift ≡ true = range_small t.shift first.0 first.1 in
        let not_both : true ≡ false = sym no ∙ e in
        absurd (cc)
    go each true e zero here = small_range t.shift e
    go each true e (suc i) here =
        let later : IsFew (unwrap_or rest (pos 0)) = subst (λ b. IsFew (unwrap_or (cond (not b) (Some t.shift) rest) (pos 0))) e few in
        each later i (omega (arith, here))

pub small_shift : (s : Sop) (place : ℕ) → HasSmallShift s → place < length (terms_of s)
    → (neg_ℤ (pos 48) ≤ℤ (term_at s place).shift) × ((term_at s place).shift ≤ℤ pos 48)
small_shift s place small here = each_small (terms_of s) small place (offset_term s) here

pub depth_few : (s : Sop) → HasSmallShift s → depth s ≤ 48
depth_few s small = greatest_most (λ (t : Term). places_down t.shift) (terms_of s) (offset_term s) 48
    (λ i here. few_down 47 (term_at s i).shift (small_shift s i small here).0)

pub height_few : (s : Sop) (place : ℕ) → HasSmallShift s → place < length (terms_of s) → height s (term_at s place) ≤ 96
height_few s place small here =
    few_up 96 ((term_at s place).shift +ℤ pos (depth s)) (omega (arith, ints, (small_shift s place small here).1, depth_few s small))

-- how many bits a term has in units of the lowest place, and all of them
abbrev pub bits_of : Sop → Term → ℕ
bits_of s t = digit_count t.size + height s t

abbrev pub most_bits : Sop → ℕ
most_bits s = greatest (bits_of s) (terms_of s)

pub term_small : (s : Sop) (place : ℕ) (n : ℤ) → place < length (terms_of s) → unsigned_abs n ≤ (term_at s place).size
    → unsigned_abs (n *ℤ pos (2 ^ height s (term_at s place))) ≤ 2 ^ most_bits s
term_small s place n here small =
    let t = term_at s place in
    let few : unsigned_abs n ≤ 2 ^ digit_count t.size = omega (arith, small, count-holds t.size) in
    let raised_up = raised_within n (digit_count t.size) (height s t) (height s t) few (omega arith) in
    omega (arith, raised_up, power_order (bits_of s t) (most_bits s) (greatest_above (bits_of s) (terms_of s) place (offset_term s) here))

pub most_few : (s : Sop) → total_bits s ≤ MAX_TOTAL_BITS → 2 ^ most_bits s ≤ 2 ^ MAX_TOTAL_BITS
most_few s few = power_order (most_bits s) MAX_TOTAL_BITS (omega (arith, few))

-- so many terms together
pub together : (s : Sop) (n count : ℕ) → total_bits s ≤ MAX_TOTAL_BITS → count ≤ length (terms_of s) → n ≤ count * 2 ^ most_bits s → n ≤ 2 ^ MAX_TOTAL_BITS
together s n count few there small =
    let terms = length (terms_of s) in
    let all = products count (2 ^ most_bits s) (digit_count terms) (most_bits s) (omega (arith, there, count-holds terms)) (omega arith) in
    omega (arith, small, all, power_order (digit_count terms + most_bits s) MAX_TOTAL_BITS (omega (arith, few)))

pub raised_small : (s : Sop) (f : Term → ℤ) → total_bits s ≤ MAX_TOTAL_BITS
    → ((place : ℕ) → place < length (terms_of s) → unsigned_abs (f (term_at s place)) ≤ (term_at s place).size)
    → unsigned_abs (raised s f) ≤ 2 ^ MAX_TOTAL_BITS
raised_small s f few each =
    together s (unsigned_abs (raised s f)) (length (terms_of s)) few (omega arith)
    (total_small (λ t. f t *ℤ pos (2 ^ height s t)) (terms_of s) (offset_term s) (2 ^ most_bits s)
    (λ i here. term_small s i (f (term_at s i)) here (each i here)))

-- one term more of a sum in units of the lowest place
module _ (s : Sop) (place : ℕ) (few : total_bits s ≤ MAX_TOTAL_BITS) (here : place < length (terms_of s)) where
  pub term_room : (n : ℤ) (h : ℕ) → unsigned_abs n ≤ (term_at s place).size → h ≡ height s (term_at s place)
      → unsigned_abs n * 2 ^ h ≤ 2 ^ 126
  term_room n h small e =
      let bound = term_small s place n here small in
      let same = unsigned_abs-product n (pos (2 ^ height s (term_at s place))) in
      let height : unsigned_abs n * 2 ^ h ≡ unsigned_abs n * 2 ^ height s (term_at s place) = ap (λ k. unsigned_abs n * 2 ^ k) e in
      omega (arith, bound, same, height, most_few s few)

  pub sum_small : (sum n : ℤ) → unsigned_abs sum ≤ place * 2 ^ most_bits s → unsigned_abs n ≤ 2 ^ most_bits s
      → (unsigned_abs (sum +ℤ n) ≤ (place + 1) * 2 ^ most_bits s) × (unsigned_abs (sum +ℤ n) ≤ 2 ^ MAX_TOTAL_BITS)
  sum_small sum n so_far small =
      let next = bound_step sum n place (2 ^ most_bits s) so_far small in
      (next, together s (unsigned_abs (sum +ℤ n)) (place + 1) few (omega (arith, here)) next)

pub sum_more : (s : Sop) (place : ℕ) (f : Term → ℤ) (sum n whole : ℤ) → place < length (terms_of s) → n ≡ f (term_at s place)
    → (sum +ℤ total f (drop place (terms_of s))) ≡ whole → ((sum +ℤ n) +ℤ total f (drop (place + 1) (terms_of s))) ≡ whole
sum_more s place f sum n whole here e so_far =
    omega (arith, ints, total_next f (terms_of s) place (offset_term s) here, e, so_far)

-- a shift down as factors
pub up_of_down : (places : ℕ) → up (neg_ℤ (pos places)) ≡ 1
up_of_down zero = refl
up_of_down (suc places) = refl

pub down_of_down : (places : ℕ) → down (neg_ℤ (pos places)) ≡ 2 ^ places
down_of_down zero = refl
down_of_down (suc places) = ap (λ k. 2 ^ k) (add-one places)
