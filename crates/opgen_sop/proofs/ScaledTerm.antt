-- A constant times an input: its tables have room, and what they add to the heap.
use Rattle.std.proofs.Common.{◌≡◌, ℕ, zero, suc, ◌+◌, ◌-◌, ◌*◌, ◌^◌, ◌<◌, ◌≤◌, false, pow-add, sym, ap, ◌∙◌, subst, arith}
use Rattle.std.specs.Prelude.{ℤ, pos, negsuc, ◌+ℤ◌, ◌*ℤ◌, ◌≤ℤ◌, ◌==◌, unsigned_abs, All}
use Rattle.std.proofs.Math.Nat.{mul-le-mul_left, le_of_mul-le-mul_left, mul-pos}
use Rattle.std.proofs.lemmas.Int.{ints, unsigned_abs-mul}
use Rattle.std.proofs.lemmas.Nat.{mul-le, pow_pos}
use Rattle.opgen_num.specs.declared.format.Format.{Format}
use Rattle.opgen_num.specs.declared.format.Ratio.{Ratio}
use Rattle.opgen_num.proofs.BitLength.{power_order}
use Rattle.opgen_num.proofs.Integers.{product_assoc, one_more}
use Rattle.opgen_design.specs.Run.{AreWords}
use Rattle.opgen_heap.specs.Adding.{residue}
use Rattle.opgen_heap.specs.Sum.{columns_sum}
use Rattle.opgen_heap.proofs.Residues.{residue-none}
use Rattle.opgen_net.specs.Flow.{Inputs, flow}
use Rattle.opgen_net.specs.Valid.{input_widths}
use Rattle.opgen_net.proofs.Later.{words-grown}
use Rattle.opgen_ports.specs.Reaches.{places_up, places_down, up, down}
use Rattle.opgen_ports.proofs.Bounds.{some_units}
use Rattle.opgen_kcm.specs.Chunks.{chunk_count, number}
use Rattle.opgen_kcm.specs.Entries.{in_guard_units}
use Rattle.opgen_kcm.specs.Multiple.{HasRisen}
use Rattle.opgen_kcm.specs.Recipe.{input_width, HasNarrowRows}
use Rattle.opgen_kcm.proofs.Narrow.{narrow}
use Rattle.opgen_partial.specs.declared.pairs.Work.{Work}
use Rattle.opgen_terms.specs.declared.sop.Sop.{Sop}
use Rattle.opgen_terms.specs.declared.sop.Scaled.{Scaled}
use Rattle.opgen_terms.specs.Sop.{IsSop, format_of, size_of, sop_format, scaled_term, height, depth}
use Rattle.opgen_sop.specs.Recipe.{input_net, heap_width}
use Rattle.opgen_sop.specs.Sizes.{finer, scaled_fraction, tables_of}
use Rattle.opgen_sop.specs.Small.{units, IsSmallScaled, IsSmallGuard}
use Rattle.opgen_sop.specs.Summed.{numbers, share, IsNear, HasScaled, Stands, sum_at}
use Rattle.opgen_sop.proofs.InputNodes.{input-wide, input-flow}
use Rattle.opgen_sop.proofs.Sizes.{down-few, width-size, room}
use Rattle.opgen_sop.proofs.TermSums.{multiple-near, powers, moved-near}
pub use Rattle.opgen_num.proofs.Integers.{zero-is}

pub den-natural : (d : ℤ) (u : ℕ) → pos 1 ≤ℤ d → d *ℤ pos u ≡ pos (unsigned_abs d * u)
den-natural (pos d) u h = omega (arith, ints)
den-natural (negsuc d) u h = absurd (omega (arith, ints, h))

module _ (s : Sop) (guard : ℕ) (t : Scaled) (sop : IsSop s) (fits : IsSmallGuard s guard) (term : IsSmallScaled s t) where
  abbrev q : Ratio
  q = scaled_fraction s guard t

  abbrev z : ℤ
  z = finer guard (scaled_term s t).shift

  abbrev Q : ℕ
  Q = unsigned_abs s.den * down z

  abbrev wide : ℕ
  wide = (format_of s t.input).width

  pub den-is : q.den ≡ pos Q
  den-is = den-natural s.den (down z) sop.numbers.positive

  some-Q : 0 < Q
  some-Q = mul-pos {m = unsigned_abs s.den} {n = down z} (some_units s.den sop.numbers.positive) (pow_pos (places_down z))

  num-size : unsigned_abs q.num ≡ unsigned_abs t.coefficient * up z
  num-size = unsigned_abs-mul t.coefficient (pos (up z))

  pub num-some : (unsigned_abs t.coefficient == 0) ≡ false → q.num ≡ pos 0 → ⊥
  num-some e none = by (unsigned_abs t.coefficient) e (sym num-size ∙ ap unsigned_abs none)
    where
      by : (n : ℕ) → (n == 0) ≡ false → n * up z ≡ 0 → ⊥
      by zero f g = cc
      by (suc n) f g = omega (arith, g, pow_pos (places_up z))

  pub rows-room : 1 ≤ wide → unsigned_abs q.num * 2 ^ (wide + 0 + 1) + unsigned_abs q.den < 2 ^ 126
  rows-room some =
      let C = unsigned_abs t.coefficient in
      let double : 2 ^ (wide + 0 + 1) ≤ 4 * size_of (format_of s t.input) =
      let e : wide + 0 + 1 ≡ suc wide = omega arith in
      omega (arith, ap (λ k. 2 ^ k) e, two-more wide, width-size (format_of s t.input) some) in
      let bound : C * 2 ^ (wide + 0 + 1) ≤ 4 * (scaled_term s t).size = omega (arith, mul-le-mul_left C double) in
      let few = room s (scaled_term s t) guard (C * 2 ^ (wide + 0 + 1)) 4 term.small fits.few bound (omega arith) in
      let num : unsigned_abs q.num * 2 ^ (wide + 0 + 1) ≡ C * 2 ^ (wide + 0 + 1) * up z =
      ap (λ n. n * 2 ^ (wide + 0 + 1)) num-size ∙ omega arith in
      let below : down z ≤ 2 ^ 48 = power_order (places_down z) 48 (down-few z 48 (shift-low (scaled_term s t).shift term.small.shift.0)) in
      let den : Q ≤ 2 ^ 30 * 2 ^ 48 = mul-le (unsigned_abs s.den) (down z) (2 ^ 30) (2 ^ 48) (den-small s.den sop.numbers.positive sop.numbers.small) below in
      omega (arith, num, few, ap unsigned_abs den-is, den)
    where
      two-more : (k : ℕ) → 2 ^ suc k ≡ 2 * 2 ^ k
      two-more k = omega arith

      shift-low : (a : ℤ) → negsuc 47 ≤ℤ a → negsuc 47 ≤ℤ (a +ℤ pos guard)
      shift-low a h = omega (arith, ints, h)

      den-small : (d : ℤ) → pos 1 ≤ℤ d → d ≤ℤ pos (2 ^ 30) → unsigned_abs d ≤ 2 ^ 30
      den-small (pos n) h l = omega (arith, ints, l)
      den-small (negsuc n) h l = absurd (omega (arith, ints, h))

  pub rows-narrow : HasNarrowRows (in_guard_units q 0) wide (format_of s t.input).signed
  rows-narrow =
      let C = unsigned_abs t.coefficient in
      let W = (sop_format s).width in
      let G = 2 ^ guard in
      let M = 2 ^ depth s in
      let H = 2 ^ height s (scaled_term s t) in
      let D = down z in
      let bound = G * (2 ^ W - 1) in
      let size : unsigned_abs (q.num *ℤ pos (2 ^ 0)) ≡ C * up z = unsigned_abs-mul q.num (pos (2 ^ 0)) ∙ ap (λ n. n * 2 ^ 0) num-size ∙ omega arith in
      let all = powers s (scaled_term s t) guard term.small.deep in
      let grown = mul-le-mul_left (D * G) term.narrow in
      let left : M * ((2 ^ wide - 1) * (C * up z)) ≡ D * G * (C * (2 ^ wide - 1) * H) =
      omega (arith, ap (λ k. C * (2 ^ wide - 1) * k) all) in
      let right : M * (unsigned_abs s.den * D * bound) ≡ D * G * (units s * (2 ^ W - 1)) = omega arith in
      let each : (2 ^ wide - 1) * (C * up z) ≤ Q * bound = le_of_mul-le-mul_left {k = M} (omega (arith, grown, left, right)) (pow_pos (depth s)) in
      let most : (2 ^ wide - 1) * unsigned_abs (q.num *ℤ pos (2 ^ 0)) ≤ Q * bound = omega (arith, each, ap (λ n. (2 ^ wide - 1) * n) size) in
      let power : 2 ^ (W + guard) ≡ 2 ^ W * G = pow-add 2 W guard in
      let below : bound < 2 ^ (W + guard) = omega (arith, one_more G (2 ^ W) (pow_pos W), power, pow_pos guard) in
      narrow (in_guard_units q 0) Q bound (W + guard) wide (format_of s t.input).signed some-Q den-is most below fits.narrow

  -- what is added
  module _ (old new : Work) (stands : Stands s guard old) where
    pub scaled-sum : (r : Ratio) (g : Format) → r ≡ q → g ≡ format_of s t.input
        → ((inputs : Inputs) (u : ℤ) → All (AreWords (input_widths old.net)) inputs
        → HasRisen r 0 (chunk_count (input_width old.net t.input))
        (number g.signed (input_width old.net t.input) (flow old.net.nodes inputs t.input u))
        old.heap.width (sum_at old inputs u) (sum_at new inputs u))
        → HasScaled s guard t old new
    scaled-sum r g of_q of_format risen inputs u words =
        let f = format_of s t.input in
        let here =
        subst (λ (g : Format). HasRisen q 0 (chunk_count (input_width old.net t.input))
        (number g.signed (input_width old.net t.input) (flow old.net.nodes inputs t.input u))
        old.heap.width (sum_at old inputs u) (sum_at new inputs u)) of_format
        (subst (λ (r : Ratio). HasRisen r 0 (chunk_count (input_width old.net t.input))
        (number g.signed (input_width old.net t.input) (flow old.net.nodes inputs t.input u))
        old.heap.width (sum_at old inputs u) (sum_at new inputs u)) of_q
        (risen inputs u (words-grown (input_net s) old.net stands.grown inputs words))) in
        let is = input-wide s guard old stands t.input term.ranged.input in
        let at : HasRisen q 0 (chunk_count f.width) (number f.signed f.width (flow old.net.nodes inputs t.input u)) (heap_width s guard)
        (sum_at old inputs u) (sum_at new inputs u) =
        subst (λ k. HasRisen q 0 (chunk_count f.width) (number f.signed f.width (flow old.net.nodes inputs t.input u)) k
        (sum_at old inputs u) (sum_at new inputs u)) stands.width
        (subst (λ k. HasRisen q 0 (chunk_count k) (number f.signed k (flow old.net.nodes inputs t.input u)) old.heap.width
        (sum_at old inputs u) (sum_at new inputs u)) is here) in
        let x = numbers s inputs u t.input in
        let word : number f.signed f.width (flow old.net.nodes inputs t.input u) ≡ x =
        ap (λ w. number f.signed f.width w) (input-flow s guard old stands t.input term.ranged.input inputs u) in
        let near : IsNear Q (x *ℤ q.num) at.by (tables_of s guard t) 0 =
        subst (λ v. IsNear Q (v *ℤ q.num) at.by (tables_of s guard t) 0) word
        (multiple-near q Q (chunk_count f.width) (number f.signed f.width (flow old.net.nodes inputs t.input u)) at.by den-is at.multiple) in
        record {
          by = at.by;
          near = moved-near s (scaled_term s t) guard term.small.deep (x *ℤ t.coefficient) at.by (tables_of s guard t) 0
              (subst (λ v. IsNear Q v at.by (tables_of s guard t) 0) (sym (product_assoc x t.coefficient (pos (up z)))) near);
          sum = at.sum;
        }

  -- the constant 0
  pub none-sum : (w : Work) → Stands s guard w → t.coefficient ≡ pos 0 → HasScaled s guard t w w
  none-sum w stands none inputs u words =
      let x = numbers s inputs u t.input in
      let H = pos (2 ^ height s (scaled_term s t)) in
      let G = pos (2 ^ guard) in
      let first : x *ℤ pos 0 ≡ pos 0 = omega (arith, ints) in
      let last : (pos 0 *ℤ H) *ℤ G ≡ pos 0 = omega (arith, ints) in
      let n : share s guard (numbers s inputs u) (scaled_term s t) ≡ pos 0 =
      ap (λ c. ((x *ℤ c) *ℤ H) *ℤ G) none ∙ ap (λ v. (v *ℤ H) *ℤ G) first ∙ last in
      let total = columns_sum (λ n. flow w.net.nodes inputs n u) w.heap.columns + w.heap.constant in
      record {
        by = pos 0;
        near = record { low = omega (arith, ints, n); high = omega (arith, ints, n) };
        sum = residue-none total (2 ^ w.heap.width) (pow_pos w.heap.width)
            ∙ ap (λ k. residue (pos (sum_at w inputs u) +ℤ pos 0) (2 ^ k)) stands.width;
      }
