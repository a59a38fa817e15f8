-- What groups of bits say together of all their bits.
use Rattle.std.proofs.Common.{◌≡◌, ℕ, zero, suc, ◌+◌, ◌-◌, ◌≤◌, ◌<◌, Bool, true, false, List, not, ◌&&◌, ◌||◌, refl, sym, ap, ◌∙◌, arith}
use Rattle.std.specs.Prelude.{slice_index_or}
use Rattle.std.proofs.Math.Bool.{or-false}
use Rattle.opgen_saturate.specs.Recipe.{stride, followed, joins, share}
use Rattle.opgen_saturate.proofs.Bits.{any_at, all_at, any_of, all_of, differ, and_none, or_or, and_and}

module _ (holds : ℕ → Bool) where
  pub any-split : (low a b n : ℕ) → n ≡ a + b → any_at holds low n ≡ any_at holds (low + a) b || any_at holds low a
  any-split low a zero n e = let same : n ≡ a = omega (arith, e) in ap (any_at holds low) same
  any-split low a (suc b) zero e = absurd (omega (arith, e))
  any-split low a (suc b) (suc n) e =
      let at : low + n ≡ (low + a) + b = omega (arith, e) in
      ap (λ p. holds p || any_at holds low n) at
      ∙ ap (λ r. holds ((low + a) + b) || r) (any-split low a b n (omega (arith, e)))
      ∙ sym (or_or (holds ((low + a) + b)) (any_at holds (low + a) b) (any_at holds low a))

  pub all-split : (low a b n : ℕ) → n ≡ a + b → all_at holds low n ≡ all_at holds (low + a) b && all_at holds low a
  all-split low a zero n e = let same : n ≡ a = omega (arith, e) in ap (all_at holds low) same
  all-split low a (suc b) zero e = absurd (omega (arith, e))
  all-split low a (suc b) (suc n) e =
      let at : low + n ≡ (low + a) + b = omega (arith, e) in
      ap (λ p. holds p && all_at holds low n) at
      ∙ ap (λ r. holds ((low + a) + b) && r) (all-split low a b n (omega (arith, e)))
      ∙ sym (and_and (holds ((low + a) + b)) (all_at holds (low + a) b) (all_at holds low a))

  pub any-one : (low : ℕ) → any_at holds low (suc zero) ≡ holds low
  any-one low = let e : low + zero ≡ low = omega arith in or-false (holds (low + zero)) ∙ ap holds e

  all-one : (low : ℕ) → all_at holds low (suc zero) ≡ holds low
  all-one low = let e : low + zero ≡ low = omega arith in and_none (holds (low + zero)) ∙ ap holds e

pub any-same : (f g : ℕ → Bool) (low k : ℕ) → ((p : ℕ) → low ≤ p → p < low + k → f p ≡ g p) → any_at f low k ≡ any_at g low k
any-same f g low zero h = refl
any-same f g low (suc k) h =
    ap (λ b. b || any_at f low k) (h (low + k) (omega arith) (omega arith))
    ∙ ap (λ r. g (low + k) || r) (any-same f g low k (λ p a b. h p a (omega (arith, b))))

pub or_swapped : (a b : Bool) → a || b ≡ b || a
or_swapped true true = refl
or_swapped true false = refl
or_swapped false true = refl
or_swapped false false = refl

-- Two groups that share a bit: one of all bits is 1 and not all are, where this is so of one group. Of the bits of the one group
-- beside the shared bit some or all are 1, and so are those of the other.
shared : (any_high shared_bit all_high any_low all_low : Bool)
    → (any_high || (shared_bit || any_low)) && not (all_high && (shared_bit && all_low))
    ≡ ((any_high || shared_bit) && not (all_high && shared_bit)) || ((shared_bit || any_low) && not (shared_bit && all_low))
shared true true true a l = refl
shared true true false a l = refl
shared true false true a l = refl
shared true false false a l = refl
shared false true true a l = refl
shared false true false a l = refl
shared false false true a l = refl
shared false false false a l = refl

module _ (w : List Bool) (low : ℕ) where
  abbrev bit : ℕ → Bool
  bit p = slice_index_or w p false

  -- the lowest bits up to a place, and those from it on
  both-split : (c d n : ℕ) → n ≡ suc c + d → differ true w low n ≡ differ true w (low + c) (suc d) || differ true w low (suc c)
  both-split c d n e =
      let s = bit (low + c) in
      let next : (low + c) + suc zero ≡ low + suc c = omega arith in
      let one_more : suc d ≡ suc zero + d = omega arith in
      let any_high : any_of w (low + c) (suc d) ≡ any_of w (low + suc c) d || s =
      any-split bit (low + c) (suc zero) d (suc d) one_more
      ∙ ap (λ p. any_of w p d || any_of w (low + c) (suc zero)) next
      ∙ ap (λ b. any_of w (low + suc c) d || b) (any-one bit (low + c)) in
      let all_high : all_of w (low + c) (suc d) ≡ all_of w (low + suc c) d && s =
      all-split bit (low + c) (suc zero) d (suc d) one_more
      ∙ ap (λ p. all_of w p d && all_of w (low + c) (suc zero)) next
      ∙ ap (λ b. all_of w (low + suc c) d && b) (all-one bit (low + c)) in
      ap (λ b. b && not (all_of w low n)) (any-split bit low (suc c) d n e)
      ∙ ap (λ b. (any_of w (low + suc c) d || any_of w low (suc c)) && not b) (all-split bit low (suc c) d n e)
      ∙ shared (any_of w (low + suc c) d) s (all_of w (low + suc c) d) (any_of w low c) (all_of w low c)
      ∙ ap (λ b. (b && not (all_of w (low + suc c) d && s)) || differ true w low (suc c)) (sym any_high)
      ∙ ap (λ b. (any_of w (low + c) (suc d) && not b) || differ true w low (suc c)) (sym all_high)

  -- a group of six, and the bits from the next group on
  pub group-split : (both : Bool) (count : ℕ) → 6 < count
      → differ both w low count ≡ differ both w (low + stride both) (count - stride both) || differ both w low 6
  group-split false count h = any-split bit low 6 (count - 6) count (omega (arith, h))
  group-split true count h =
      let rest : suc (count - 6) ≡ count - 5 = omega (arith, h) in
      both-split 5 (count - 6) count (omega (arith, h))
      ∙ ap (λ k. differ true w (low + 5) k || differ true w low 6) rest

-- groups in numbers

pub last-few : (both : Bool) (count : ℕ) → zero ≡ followed both count → count ≤ 6
last-few true count e = omega (arith, e)
last-few false count e = omega (arith, e)

pub more-many : (both : Bool) (k count : ℕ) → suc k ≡ followed both count → 6 < count
more-many true k count e = omega (arith, e)
more-many false k count e = omega (arith, e)

pub more-next : (both : Bool) (k count : ℕ) → suc k ≡ followed both count → k ≡ followed both (count - stride both)
more-next true k count e = omega (arith, e)
more-next false k count e = omega (arith, e)

pub stride-few : (both : Bool) → (1 ≤ stride both) × (stride both ≤ 6)
stride-few true = (omega arith, omega arith)
stride-few false = (omega arith, omega arith)

-- nodes that are joined, in numbers

pub one-left : (left : ℕ) → 1 ≤ left → zero ≡ joins left → left ≡ 1
one-left left some e = omega (arith, e, some)

pub share-some : (k left : ℕ) → suc k ≡ joins left → (2 ≤ share left) × (share left ≤ 6) × (share left ≤ left)
share-some k left e = (omega (arith, e), omega (arith, e), omega (arith, e))

pub join-next : (k left : ℕ) → suc k ≡ joins left → k ≡ joins (left + 1 - share left)
join-next k left e = omega (arith, e)

pub followed-more : (both : Bool) (count : ℕ) → 6 < count → followed both count ≡ suc (followed both (count - stride both))
followed-more true count h = omega (arith, h)
followed-more false count h = omega (arith, h)

pub joins-more : (left : ℕ) → 2 ≤ left → joins left ≡ suc (joins (left + 1 - share left))
joins-more left h = omega (arith, h)
