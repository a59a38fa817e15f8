-- What each term adds to the heap: near its exact value in units of the guard bits.
use Rattle.std.proofs.Common.{◌≡◌, ℕ, zero, suc, ◌+◌, ◌*◌, ◌/◌, ◌%◌, ◌^◌, ◌<◌, ◌≤◌, Bool, true, false, not, if◌then◌else◌, List, pow-add, refl, sym, ap, ◌∙◌, subst, arith}
use Rattle.std.specs.Prelude.{ℤ, pos, negsuc, neg_ℤ, ◌+ℤ◌, ◌-ℤ◌, ◌*ℤ◌, ◌≤ℤ◌, ◌<ℤ◌, ◌==◌, unsigned_abs}
use Rattle.std.specs.Int.{int_div_euclid}
use Rattle.std.proofs.lemmas.Bool.{eqb-true, not-false}
use Rattle.std.proofs.lemmas.Int.{ints}
use Rattle.std.proofs.lemmas.Nat.{div-add-mod', pow_pos}
use Rattle.opgen_num.specs.declared.format.Ratio.{Ratio}
use Rattle.opgen_num.specs.Floors.{IsFloor}
use Rattle.opgen_num.specs.Rounding.{distance}
use Rattle.opgen_num.proofs.Integers.{product-sum, product-difference, product_assoc, product_cancel, commuted}
use Rattle.opgen_num.proofs.Rounded.{floor_is}
use Rattle.opgen_ports.specs.Reaches.{places_up, places_down, up, down}
use Rattle.opgen_ports.proofs.Reached.{neg-left}
use Rattle.opgen_kcm.specs.Multiple.{IsMultiple}
use Rattle.opgen_partial.specs.declared.pairs.Placing.{Placing}
use Rattle.opgen_partial.specs.declared.pairs.Products.{Products}
use Rattle.opgen_partial.specs.Law.{IsSumWithPlaced, placed_product}
use Rattle.opgen_partial.specs.Recipe.{correction}
use Rattle.opgen_terms.specs.declared.sop.Sop.{Sop}
use Rattle.opgen_terms.specs.Sop.{Term, height, depth}
use Rattle.opgen_sop.specs.Sizes.{finer, is_rounded, floor, lost, rows_cut}
use Rattle.opgen_sop.specs.Small.{units}
use Rattle.opgen_sop.specs.Summed.{IsNear}
use Rattle.opgen_sop.proofs.CutRows.{cut-light}
use Rattle.opgen_sop.proofs.Nearness.{near-times, near-cancel}

-- a fraction that is not rounded is whole

pub record Whole (n : ℤ) (m : ℕ) : Type 0 where
  pub times : ℤ
  pub is : times *ℤ pos m ≡ n

whole-times : (n : ℤ) (m : ℕ) → unsigned_abs n % m ≡ 0 → Whole n m
whole-times (pos a) m h = record { times = pos (a / m); is = omega (arith, ints, div-add-mod' a m, h) }
whole-times (negsuc a) m h =
    let q = suc a / m in
    let whole : q * m ≡ suc a = omega (arith, div-add-mod' (suc a) m, h) in
    let less : negsuc a ≡ neg_ℤ (pos (suc a)) = omega (arith, ints) in
    record { times = neg_ℤ (pos q); is = neg-left q m ∙ ap (λ n. neg_ℤ (pos n)) whole ∙ sym less }

pub is-whole : (n : ℤ) (m : ℕ) → not (unsigned_abs n % m == 0) ≡ false → Whole n m
is-whole n m e = whole-times n m (eqb-true (unsigned_abs n % m) 0 (not-false (unsigned_abs n % m == 0) e))

-- rounded down
pub floor-near : (n : ℤ) (m : ℕ) → 0 < m
    → IsNear m n (int_div_euclid n (pos m)) 0 (if not (unsigned_abs n % m == 0) then 1 else 0)
floor-near n m some = by (not (unsigned_abs n % m == 0)) refl
  where
    K : ℤ
    K = int_div_euclid n (pos m)

    is : IsFloor n (pos m) K
    is = floor_is n (pos m) (omega (arith, ints, some))

    next : pos m *ℤ (K +ℤ pos 1) ≡ (pos m *ℤ K) +ℤ pos m
    next = omega (arith, ints, product-sum (pos m) K (pos 1))

    by : (r : Bool) → not (unsigned_abs n % m == 0) ≡ r → IsNear m n K 0 (if r then 1 else 0)
    by true e = record { low = omega (arith, ints, is.0); high = omega (arith, ints, is.1, next) }
    by false e =
        let w = is-whole n m e in
        let turn : pos m *ℤ w.times ≡ n = commuted (pos m) w.times ∙ w.is in
        let less = product_cancel (pos m) w.times (K +ℤ pos 1) (omega (arith, ints)) (omega (arith, ints, turn, is.1)) in
        let more : K +ℤ pos 1 ≡ (w.times +ℤ pos 1) +ℤ (K -ℤ w.times) = omega (arith, ints) in
        let upper : (pos m *ℤ K) <ℤ (pos m *ℤ (w.times +ℤ pos 1)) = omega (arith, ints, is.0, turn, some, product-sum (pos m) w.times (pos 1)) in
        let below = product_cancel (pos m) K (w.times +ℤ pos 1) (omega (arith, ints)) upper in
        let same : K ≡ w.times = omega (arith, ints, less, below) in
        let whole : pos m *ℤ K ≡ n = ap (λ z. pos m *ℤ z) same ∙ turn in
        record { low = omega (arith, ints, whole); high = omega (arith, ints, whole) }

-- the tables of a constant
pub multiple-near : (q : Ratio) (m : ℕ) (chunks : ℕ) (x e : ℤ) → q.den ≡ pos m → IsMultiple q 0 chunks x e
    → IsNear m (x *ℤ q.num) e (if is_rounded q then chunks else 0) 0
multiple-near q m chunks x e is h = by (is_rounded q) refl
  where
    size : unsigned_abs q.den ≡ m
    size = ap unsigned_abs is

    value : q.den *ℤ e ≡ pos m *ℤ e
    value = ap (λ z. z *ℤ e) is

    by : (r : Bool) → is_rounded q ≡ r → IsNear m (x *ℤ q.num) e (if r then chunks else 0) 0
    by true r =
        let one : (x *ℤ q.num) *ℤ pos (2 ^ 0) ≡ x *ℤ q.num = omega (arith, ints) in
        let most : chunks * unsigned_abs q.den ≡ chunks * m = ap (λ n. chunks * n) size in
        let near : 2 * distance (pos m *ℤ e) (x *ℤ q.num) ≤ chunks * m =
        omega (arith, h.near, most, ap (λ z. distance z ((x *ℤ q.num) *ℤ pos (2 ^ 0))) value, ap (distance (pos m *ℤ e)) one) in
        record { low = omega (arith, ints, near); high = omega (arith, ints, near) }
    by false r =
        let w = is-whole q.num m (ap (λ k. not (unsigned_abs q.num % k == 0)) (sym size) ∙ r) in
        let whole : e ≡ x *ℤ w.times = h.whole refl w.times (ap (λ z. w.times *ℤ z) is ∙ w.is) in
        let term : pos m *ℤ e ≡ x *ℤ q.num =
        ap (λ z. pos m *ℤ z) whole ∙ commuted (pos m) (x *ℤ w.times) ∙ product_assoc x w.times (pos m) ∙ ap (λ z. x *ℤ z) w.is in
        record { low = omega (arith, ints, term); high = omega (arith, ints, term) }

-- the products of bits, and what makes good the turned ones
module _ (p : Products) (f : Placing) (same : f.square ≡ true → p.b.width ≡ p.a.width)
    (left : p.left_out ≡ f.lowered) (one_way : 1 ≤ f.lowered → f.raised ≡ 0) where
  cut-small : (missing : ℕ) → missing ≤ rows_cut p f.square * 2 ^ p.left_out → 2 ^ f.raised * missing ≤ rows_cut p f.square * 2 ^ f.lowered
  cut-small missing h = by f.lowered left one_way
    where
      none : p.left_out ≡ 0 → (s : Bool) → rows_cut p s ≡ 0
      none e true = omega (arith, e)
      none e false = omega (arith, e)

      by : (l : ℕ) → p.left_out ≡ l → (1 ≤ l → f.raised ≡ 0) → 2 ^ f.raised * missing ≤ rows_cut p f.square * 2 ^ l
      by zero e way =
          let nothing : missing ≡ 0 = omega (arith, h, ap (λ r. r * 2 ^ p.left_out) (none e f.square)) in
          omega (arith, ap (λ k. 2 ^ f.raised * k) nothing)
      by (suc l) e way =
          let flat : 2 ^ f.raised * missing ≡ missing = ap (λ k. 2 ^ k * missing) (way (omega arith)) ∙ omega arith in
          omega (arith, h, flat, ap (λ k. rows_cut p f.square * 2 ^ k) e)

  pub placed-near : (x y : List Bool) (width before after : ℕ) → (has : IsSumWithPlaced p f x y width before after)
      → let q : Ratio = record { num = correction p f *ℤ pos (2 ^ f.raised); den = pos (2 ^ f.lowered) } in
      IsNear (2 ^ f.lowered) (placed_product p f x y *ℤ pos (2 ^ f.raised)) (pos has.by +ℤ floor q) 0 (rows_cut p f.square + lost q)
  placed-near x y width before after has =
      let R = pos (2 ^ f.raised) in
      let D = 2 ^ f.lowered in
      let P = placed_product p f x y in
      let C = correction p f in
      let K = int_div_euclid (C *ℤ R) (pos D) in
      let down = floor-near (C *ℤ R) D (pow_pos f.lowered) in
      let rows = rows_cut p f.square in
      let cut = cut-small has.missing (omega (arith, has.light, cut-light p f same)) in
      let natural : pos (D * has.by) ≡ pos D *ℤ pos has.by = omega (arith, ints) in
      let less : R *ℤ pos has.missing ≡ pos (2 ^ f.raised * has.missing) = omega (arith, ints) in
      let parts : R *ℤ ((P -ℤ C) -ℤ pos has.missing) ≡ ((P *ℤ R) -ℤ (C *ℤ R)) -ℤ pos (2 ^ f.raised * has.missing) =
      product-difference R (P -ℤ C) (pos has.missing) ∙ ap (λ z. z -ℤ (R *ℤ pos has.missing)) (product-difference R P C)
      ∙ omega (arith, ints, less, commuted R P, commuted R C) in
      let sum = product-sum (pos D) (pos has.by) K in
      record {
        low = omega (arith, ints, has.placed, natural, parts, sum, down.low);
        high = omega (arith, ints, has.placed, natural, parts, sum, down.high, cut);
      }

-- from units of the guard bits to those of the deepest place
module _ (s : Sop) (t : Term) (guard : ℕ) (deep : places_down t.shift ≤ depth s) where
  abbrev z : ℤ
  z = finer guard t.shift

  places : depth s + places_up z ≡ places_down z + (height s t + guard)
  places = by t.shift (depth s) deep
    where
      parts : (a : ℤ) → pos (places_up a) ≡ a +ℤ pos (places_down a)
      parts (pos n) = omega (arith, ints)
      parts (negsuc n) = omega (arith, ints)

      above : (a : ℤ) (d : ℕ) → places_down a ≤ d → pos (places_up (a +ℤ pos d)) ≡ a +ℤ pos d
      above a d h = by (a +ℤ pos d) (parts a) (omega (arith, ints, parts a, h))
        where
          by : (b : ℤ) → pos (places_up a) ≡ a +ℤ pos (places_down a) → pos 0 ≤ℤ b → pos (places_up b) ≡ b
          by (pos n) e k = omega (arith, ints)
          by (negsuc n) e k = absurd (omega (arith, ints, k))

      by : (a : ℤ) (d : ℕ) → places_down a ≤ d
          → d + places_up (a +ℤ pos guard) ≡ places_down (a +ℤ pos guard) + (places_up (a +ℤ pos d) + guard)
      by a d h = omega (arith, ints, parts (a +ℤ pos guard), above a d h)

  pub powers : 2 ^ depth s * up z ≡ down z * (2 ^ height s t * 2 ^ guard)
  powers =
      let split : 2 ^ (places_down z + (height s t + guard)) ≡ down z * (2 ^ height s t * 2 ^ guard) =
      pow-add 2 (places_down z) (height s t + guard) ∙ ap (λ k. down z * k) (pow-add 2 (height s t) guard) in
      sym (pow-add 2 (depth s) (places_up z)) ∙ ap (λ k. 2 ^ k) places ∙ split

  pub moved-near : (n e : ℤ) (j c : ℕ) → IsNear (unsigned_abs s.den * down z) (n *ℤ pos (up z)) e j c
      → IsNear (units s) ((n *ℤ pos (2 ^ height s t)) *ℤ pos (2 ^ guard)) e j c
  moved-near n e j c h =
      let M = 2 ^ depth s in
      let D = down z in
      let d = unsigned_abs s.den in
      let scaled : IsNear (d * D * M) (pos M *ℤ (n *ℤ pos (up z))) e j c = near-times (d * D) M (n *ℤ pos (up z)) e j c h in
      let den : d * D * M ≡ units s * D = omega arith in
      let H = 2 ^ height s t in
      let G = 2 ^ guard in
      let one : pos (up z) *ℤ pos M ≡ pos (M * up z) = omega (arith, ints) in
      let left : pos M *ℤ (n *ℤ pos (up z)) ≡ n *ℤ pos (M * up z) =
      commuted (pos M) (n *ℤ pos (up z)) ∙ product_assoc n (pos (up z)) (pos M) ∙ ap (λ v. n *ℤ v) one in
      let two : pos (H * G) ≡ pos H *ℤ pos G = omega (arith, ints) in
      let three : pos (D * (H * G)) ≡ pos (H * G) *ℤ pos D = omega (arith, ints) in
      let right : n *ℤ pos (D * (H * G)) ≡ pos D *ℤ ((n *ℤ pos H) *ℤ pos G) =
      ap (λ v. n *ℤ v) three ∙ sym (product_assoc n (pos (H * G)) (pos D)) ∙ commuted (n *ℤ pos (H * G)) (pos D)
      ∙ ap (λ v. pos D *ℤ (n *ℤ v)) two ∙ ap (λ v. pos D *ℤ v) (sym (product_assoc n (pos H) (pos G))) in
      let num : pos M *ℤ (n *ℤ pos (up z)) ≡ pos D *ℤ ((n *ℤ pos H) *ℤ pos G) = left ∙ ap (λ k. n *ℤ pos k) powers ∙ right in
      near-cancel (units s) D ((n *ℤ pos H) *ℤ pos G) e j c (pow_pos (places_down z))
      (subst (λ k. IsNear k (pos D *ℤ ((n *ℤ pos H) *ℤ pos G)) e j c) den
      (subst (λ v. IsNear (d * D * M) v e j c) num scaled))
