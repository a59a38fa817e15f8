-- The widths of sums: each is that of a signal and holds the half unit.
use Rattle.std.proofs.Common.{◌≡◌, ℕ, zero, suc, ◌+◌, ◌-◌, ◌*◌, ◌^◌, ◌<◌, ◌≤◌, Bool, true, false, List, [], ◌∷◌, length, refl, sym, ap, ◌∙◌, ⊎_elim, arith}
use Rattle.std.specs.Int.{div_ceil}
use Rattle.std.specs.Prelude.{ℤ, pos, negsuc, neg_ℤ, ◌+ℤ◌, ◌≤ℤ◌, unsigned_abs, All, nat_eq, if◌then◌else◌}
use Rattle.std.proofs.Math.Nat.{mul-le-mul_left, two-pow-succ}
use Rattle.std.proofs.lemmas.Bool.{cases_lt, eqb-false}
use Rattle.std.proofs.lemmas.Int.{ints}
use Rattle.std.proofs.lemmas.Nat.{pow-add, pow_pos}
use Rattle.opgen_num.specs.declared.format.Format.{Format}
use Rattle.opgen_num.specs.Formats.{Holds}
use Rattle.opgen_num.proofs.BitLength.{power_order}
use Rattle.opgen_design.specs.Value.{IsWidth}
use Rattle.opgen_kinds.specs.declared.taps.Taps.{Taps}
use Rattle.opgen_kinds.specs.Sum.{sum_shift}
use Rattle.opgen_kinds.specs.Taps.{IsAcceptedTaps, direct, taps_format}
use Rattle.opgen_ports.specs.Ranges.{IsInput, IsWithin}
use Rattle.opgen_ports.specs.Reaches.{rises, falls, reach_of, reach_over, in_units, in_places, places_down}
use Rattle.opgen_ports.specs.Ports.{Recent, weighted}
use Rattle.opgen_ports.specs.Spans.{IsOf}
use Rattle.opgen_ports.proofs.Covered.{covered}
use Rattle.opgen_ports.proofs.Reached.{rises-cons, falls-cons, ceiling, held-within, sum_within, abs-parts}
use Rattle.opgen_ports.proofs.Widths.{narrow_reach, width_by, some_width}
use Rattle.opgen_graph.specs.declared.ranks.Graph.{Graph}
use Rattle.opgen_tfir.specs.declared.products.Products.{Products}
use Rattle.opgen_tfir.specs.Recipe.{low_bits, half_unit, own_reach, own_format, sum_width, products_of}
use Rattle.opgen_tfir.specs.Steps.{HasWidths}

-- ---- how far sums of whole taps go

taps_within : (ts : List ℤ) → All (IsWithin 1048575) ts → rises ts + falls ts ≤ length ts * 1048575
taps_within [] few = omega arith
taps_within (t ∷ ts) few =
    let first : unsigned_abs t ≤ 1048575 = few zero t (omega arith) in
    let rest = taps_within ts (λ k d h. few (suc k) d (omega arith)) in
    omega (arith, rises-cons t ts, falls-cons t ts, abs-parts t, first, rest)

weighed : (r f below above : ℕ) → r + f ≤ 268435200 → below ≤ 2 ^ 48 → above ≤ 2 ^ 48 → r * below + f * above < 2 ^ 76
weighed r f below above few low high =
    let first : r * below ≤ r * 2 ^ 48 = mul-le-mul_left r low in
    let second : f * above ≤ f * 2 ^ 48 = mul-le-mul_left f high in
    omega (arith, first, second, few)

pub reach-small : (input : Format) → IsInput input → (ts : List ℤ) → length ts ≤ 256 → All (IsWithin 1048575) ts
    → ((reach_over input ts).below < 2 ^ 76) × ((reach_over input ts).above < 2 ^ 76)
reach-small input is ts few small =
    let total : rises ts + falls ts ≤ 268435200 = omega (arith, few, taps_within ts small) in
    let (below, above) = narrow_reach input.signed input.width is.most in (
      weighed (rises ts) (falls ts) (reach_of input).below (reach_of input).above total below above,
      weighed (rises ts) (falls ts) (reach_of input).above (reach_of input).below total above below,
    )

-- ---- the width of a sum

holds-below : (signed : Bool) (width n : ℕ) → Holds signed width (pos n) → n < 2 ^ width
holds-below true width n h = omega (arith, ints, h.1, power_order (width - 1) width (omega arith))
holds-below false width n h = omega (arith, ints, h.1)

module _ (p : Products) (has : HasWidths p) (ts : List ℤ) (few : length ts ≤ 256) (small : All (IsWithin 1048575) ts) where
  pub own-wide : IsWidth (own_format p ts).width
  own-wide =
      let (below, above) = reach-small p.input has.input ts few small in
      let high : (reach_over p.input ts).above + p.half < 2 ^ 77 = omega (arith, above, has.half) in (
        some_width (own_reach p ts),
        omega (
          arith,
          width_by (reach_over p.input ts).below ((reach_over p.input ts).above + p.half) 77 (omega arith) (omega (arith, below)) high,
        ),
      )

  pub sum-wide : IsWidth (sum_width p ts)
  sum-wide = go p.narrow
    where
      go : (b : Bool) → IsWidth (if b then (own_format p ts).width else p.width)
      go true = own-wide
      go false = has.wide

  pub half-fits : p.half < 2 ^ sum_width p ts
  half-fits = go p.narrow
    where
      own : p.half < 2 ^ (own_format p ts).width
      own =
          holds-below (own_format p ts).signed (own_format p ts).width p.half
          (covered (own_reach p ts) p.input.lsb (pos p.half) (omega (arith, ints), omega (arith, ints)))

      go : (b : Bool) → p.half < 2 ^ (if b then (own_format p ts).width else p.width)
      go true = own
      go false = has.fits

-- the sum of numbers of the input, with half a unit, is a number of the format that its range needs
pub own-holds : (p : Products) (ts : List ℤ) (x : Recent) → ((k : ℕ) → IsOf p.input (x k))
    → IsOf (own_format p ts) (weighted ts x +ℤ pos p.half)
own-holds p ts x of =
    let (low, high) = sum_within (reach_of p.input).below (reach_of p.input).above 0 ts x
    (λ k. held-within p.input.signed p.input.width (x k) (of k)) in
    covered (own_reach p ts) p.input.lsb (weighted ts x +ℤ pos p.half) (omega (arith, ints, low), omega (arith, ints, high))

-- a sum in its width, with the sign of its own range
abbrev pub of_width : Products → List ℤ → Format
of_width p ts = record { signed = (own_format p ts).signed; width = sum_width p ts; lsb = p.input.lsb }

-- a sum whose width is not that of another one, or of the whole, has that of its own range
pub sum-holds : (p : Products) (ts us : List ℤ) (x : Recent) → ((k : ℕ) → IsOf p.input (x k))
    → nat_eq (sum_width p ts) (sum_width p us) ≡ false → IsOf (of_width p ts) (weighted ts x +ℤ pos p.half)
sum-holds p ts us x of differ = go p.narrow differ
  where
    go : (b : Bool)
        → nat_eq (if b then (own_format p ts).width else p.width) (if b then (own_format p us).width else p.width) ≡ false
        → Holds (own_format p ts).signed (if b then (own_format p ts).width else p.width) (weighted ts x +ℤ pos p.half)
    go true e = own-holds p ts x of
    go false e = absurd (eqb-false p.width p.width e refl)

pub whole-holds : (p : Products) (ts : List ℤ) (x : Recent) → ((k : ℕ) → IsOf p.input (x k))
    → nat_eq (sum_width p ts) p.width ≡ false → IsOf (of_width p ts) (weighted ts x +ℤ pos p.half)
whole-holds p ts x of differ = go p.narrow differ
  where
    go : (b : Bool) → nat_eq (if b then (own_format p ts).width else p.width) p.width ≡ false
        → Holds (own_format p ts).signed (if b then (own_format p ts).width else p.width) (weighted ts x +ℤ pos p.half)
    go true e = own-holds p ts x of
    go false e = absurd (eqb-false p.width p.width e refl)

-- ---- the width of the whole sum

cut-reach : (n d k : ℕ) → n < 2 ^ 76 → d ≡ 2 ^ k → k ≤ 48 → div_ceil n d < 2 ^ (77 - k)
cut-reach n d k small e few =
    ⊎_elim (λ (lt : div_ceil n d < 2 ^ (77 - k)). lt)
    (λ (ge : 2 ^ (77 - k) ≤ div_ceil n d).
    let some : 0 < d = omega (arith, e, pow_pos k) in
    let (_, close) = ceiling n d some in
    let least : d * 2 ^ (77 - k) ≤ d * div_ceil n d = mul-le-mul_left d ge in
    let sum : k + (77 - k) ≡ 77 = omega (arith, few) in
    let all : d * 2 ^ (77 - k) ≡ 2 ^ 77 = ap (λ m. m * 2 ^ (77 - k)) e ∙ sym (pow-add 2 k (77 - k)) ∙ ap (λ m. 2 ^ m) sum in
    absurd (omega (arith, least, all, close, small, e, power_order k 48 few)))
    (cases_lt (div_ceil n d) (2 ^ (77 - k)))

units-small : (n : ℕ) (s : ℤ) → n < 2 ^ 76 → neg_ℤ (pos 48) ≤ℤ s → s ≤ℤ pos 0 → in_units n s (pos 1) < 2 ^ (77 - places_down s)
units-small n (pos zero) small low high = cut-reach (n * 1) 1 0 (omega (arith, small)) (omega arith) (omega arith)
units-small n (pos (suc k)) small low high = absurd (omega (arith, ints, high))
units-small n (negsuc k) small low high =
    cut-reach (n * 1) (1 * 2 ^ (k + 1)) (k + 1) (omega (arith, small)) (omega arith) (omega (arith, ints, low))

few-low : (s : ℤ) → neg_ℤ (pos 48) ≤ℤ s → places_down s ≤ 48
few-low (pos n) low = omega arith
few-low (negsuc n) low = omega (arith, ints, low)

pub accepted-low : (f : Taps) → IsAcceptedTaps f → low_bits f ≤ 48
accepted-low f (version, by) = few-low (sum_shift (direct f)) by.fine.0

pub whole-wide : (f : Taps) → IsAcceptedTaps f → IsWidth (low_bits f + (taps_format f).width)
whole-wide f (version, by) =
    let s = sum_shift (direct f) in
    let r = reach_over f.input f.taps in
    let (below, above) = reach-small f.input by.ranges.input f.taps by.ranges.few by.ranges.taps in
    let few = few-low s by.fine.0 in
    let one = some_width (in_places r s (pos 1)) in (
      omega (arith, one),
      omega (
        arith,
        width_by (in_units r.below s (pos 1)) (in_units r.above s (pos 1)) (77 - low_bits f) (omega (arith, few))
            (units-small r.below s below by.fine.0 by.fine.1) (units-small r.above s above by.fine.0 by.fine.1),
        few,
      ),
    )

-- ---- half a unit

pub half-within : (k : ℕ) → half_unit k < 2 ^ k
half-within zero = omega arith
half-within (suc k) = omega (arith, two-pow-succ k, pow_pos k)

half-small : (k : ℕ) → k ≤ 48 → half_unit k ≤ 2 ^ 47
half-small zero few = omega arith
half-small (suc k) few = power_order k 47 (omega (arith, few))

pub half-whole : (k w : ℕ) → half_unit k < 2 ^ (k + w)
half-whole k w = omega (arith, half-within k, power_order k (k + w) (omega arith))

pub widths-are : (f : Taps) → IsInput f.input → IsAcceptedTaps f → (graph : Graph) → HasWidths (products_of f graph)
widths-are f input accepted graph = record {
  input = input;
  wide = whole-wide f accepted;
  half = half-small (low_bits f) (accepted-low f accepted);
  fits = half-whole (low_bits f) (taps_format f).width;
}
