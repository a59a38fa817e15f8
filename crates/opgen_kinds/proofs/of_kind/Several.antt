-- What holds of multiples by several constants: their ports, numbered, and their formats and widths.
use Rattle.std.proofs.Common.{◌≡◌, ℕ, suc, ◌+◌, List, [], ◌∷◌, length, refl, ap, zero, ◌<◌, map, get_or, arith, ◌++◌, drop, add-one, append_assoc, drop-cons, ◌∙◌, sym, ◌^◌, subst, ◌↔◌, Bool, IsTrue, ◌≤◌, Some, ⊎_elim, ◌*◌}
use Rattle.std.proofs.lemmas.Bool.{cases_lt}
use Rattle.std.proofs.lemmas.Int.{ints}
use Rattle.std.proofs.lemmas.List.{length-map}
use Rattle.std.proofs.lemmas.Nat.{pow-add, pow_pos}
use Rattle.std.proofs.lemmas.Option.{get_or_from_slice_get}
use Rattle.std.proofs.Math.Nat.{mul-le-mul_left, mul-le-mul_right}
use Rattle.std.specs.Fmt.{decimal}
use Rattle.std.specs.Prelude.{ℤ, pos, codes, slice_index, slice_get, negsuc, ◌*ℤ◌, unsigned_abs, All}
use Rattle.opgen_num.specs.declared.format.Format.{Format}
use Rattle.opgen_num.specs.declared.mode.Mode.{Mode}
use Rattle.opgen_kinds.specs.declared.several.Several.{Several}
use Rattle.opgen_ports.specs.declared.ports.PortFormat.{PortFormat}
use Rattle.opgen_ports.specs.Ports.{HasWidth, format_at, IsCycle, number_of, output_numbers, port}
use Rattle.opgen_ports.specs.Good.{IsGoodRatio}
use Rattle.opgen_ports.specs.In128.{IsRatioIn128}
use Rattle.opgen_kinds.specs.Several.{numbered, constant_format, multiple_ports, exact_multiple, AreGoodMultiples, IsSeveral, several_meaning, several_acceptance}
use Rattle.opgen_ports.specs.Modes.{IsExactOrFaithful}
use Rattle.opgen_ports.specs.Limits.{most_input, most_signal}
use Rattle.opgen_ports.specs.Ranges.{IsWithin}
use Rattle.opgen_ports.specs.Reaches.{reach_of, reach_over}
use Rattle.opgen_ports.specs.Spans.{IsOf}
use Rattle.opgen_ports.proofs.Covered.{covered}
use Rattle.opgen_ports.proofs.In128.{small_in128}
use Rattle.opgen_ports.proofs.InputPorts.{all_one, only_within, input_bit, HasBit}
use Rattle.opgen_ports.proofs.Lawful.{IsLawful}
use Rattle.opgen_ports.proofs.Magnitudes.{product_within, number_small}
use Rattle.opgen_kinds.proofs.PortWidths.{input_room}
use Rattle.opgen_ports.proofs.Reached.{held-within, sum_within}
use Rattle.opgen_ports.proofs.Widths.{width_by, reach_within, some_width}

pub length-numbered : (n : ℕ) (fs : List Format) → length (numbered n fs) ≡ length fs
length-numbered n [] = refl
length-numbered n (f ∷ fs) = ap suc (length-numbered (n + 1) fs)

format_at-numbered : (n k : ℕ) (g : ℤ → Format) (ts : List ℤ) (d : ℤ) → k < length ts → format_at (numbered n (map g ts)) k
    ≡ g (get_or ts k d)
format_at-numbered n k g [] d h = absurd (omega arith)
format_at-numbered n zero g (t ∷ ts) d h = refl
format_at-numbered n (suc k) g (t ∷ ts) d h = format_at-numbered (n + 1) k g ts d (omega arith)

-- one port more
pub numbered_more : (g : ℤ → Format) (ts : List ℤ) (i n : ℕ) (made : PortFormat) (ports whole : List PortFormat) → i < length ts
    → made ≡ port (codes "y" ++ decimal n) (g (get_or ts i (pos 0))) → ports ++ numbered n (map g (drop i ts)) ≡ whole
    → (ports ++ made ∷ []) ++ numbered (n + 1) (map g (drop (i + 1) ts)) ≡ whole
numbered_more g ts i n made ports whole here is so_far =
    let rest = numbered (n + 1) (map g (drop (i + 1) ts)) in
    let first : PortFormat = port (codes "y" ++ decimal n) (g (get_or ts i (pos 0))) in
    let next : numbered n (map g (drop i ts)) ≡ first ∷ rest =
    ap (λ (us : List ℤ). numbered n (map g us)) (drop-cons ts i (pos 0) here)
    ∙ ap (λ (k : ℕ). first ∷ numbered (n + 1) (map g (drop k ts))) (sym (add-one i)) in
    append_assoc ports (made ∷ []) rest ∙ ap (λ (p : PortFormat). ports ++ p ∷ rest) is
    ∙ ap (λ (ps : List PortFormat). ports ++ ps) (sym next) ∙ so_far

pub multiple-count : (m : Several) (outputs : List ℕ) → IsCycle (multiple_ports m) outputs → length outputs ≡ length m.constants
multiple-count m outputs h = h.whole ∙ length-numbered 0 (map (constant_format m.input) m.constants)
    ∙ length-map m.constants (constant_format m.input)

pub multiple-format : (m : Several) (k : ℕ) (d : ℤ) → k < length m.constants → format_at (multiple_ports m) k
    ≡ constant_format m.input (get_or m.constants k d)
multiple-format m k d h = format_at-numbered 0 k (constant_format m.input) m.constants d h

pub multiple-fits : (m : Several) (outputs : List ℕ) (k : ℕ) (d : ℤ) → IsCycle (multiple_ports m) outputs → k < length m.constants
    → slice_index outputs k < 2 ^ (constant_format m.input (get_or m.constants k d)).width
multiple-fits m outputs k d h below = subst (λ (f : Format). slice_index outputs k < 2 ^ f.width) (multiple-format m k d below)
    (h.fit k (omega (arith, multiple-count m outputs h)))

pub multiple-number : (m : Several) (outputs : List ℕ) (k : ℕ) (d : ℤ) → k < length m.constants
    → output_numbers (multiple_ports m) outputs k ≡ number_of (constant_format m.input (get_or m.constants k d)) (slice_index outputs k)
multiple-number m outputs k d below = ap (λ f. number_of f (slice_index outputs k)) (multiple-format m k d below)

-- what judges the number judges the output
pub multiple-judged : (m : Several) (outputs : List ℕ) (k : ℕ) (d : ℤ) (mode : Mode) (good : Bool) (x : ℤ) → k < length m.constants
    → (IsTrue good ↔ IsGoodRatio mode (exact_multiple (get_or m.constants k d) x)
    (number_of (constant_format m.input (get_or m.constants k d)) (slice_index outputs k)))
    → IsTrue good ↔ IsGoodRatio mode (exact_multiple (get_or m.constants k d) x) (output_numbers (multiple_ports m) outputs k)
multiple-judged m outputs k d mode good x below h =
    subst (λ (y : ℤ). IsTrue good ↔ IsGoodRatio mode (exact_multiple (get_or m.constants k d) x) y)
    (sym (multiple-number m outputs k d below)) h

-- one element more of a list
pub each_more : (P : ℕ → ℤ → Type 0) (ts : List ℤ) (i : ℕ) → ((k : ℕ) (t : ℤ) → k < i → slice_get ts k ≡ Some t → P k t)
    → P i (get_or ts i (pos 0))
    → (k : ℕ) (t : ℤ) → k < i + 1 → slice_get ts k ≡ Some t → P k t
each_more P ts i so_far here k t below got =
    ⊎_elim
    (λ (lt : k < i). so_far k t lt got)
    (λ (ge : i ≤ k).
    let same : i ≡ k = omega arith in
    let value : get_or ts i (pos 0) ≡ t = ap (λ j. get_or ts j (pos 0)) same ∙ get_or_from_slice_get ts k t (pos 0) got in
    subst (λ (j : ℕ). P j t) same (subst (λ (u : ℤ). P i u) value here))
    (cases_lt k i)

multiple_small : (n reach w : ℕ) → n ≤ 1048575 → reach ≤ 2 ^ w → n * reach < 2 ^ (w + 20)
multiple_small n reach w few small =
    let most : n * reach ≤ n * 2 ^ w = mul-le-mul_left n small in
    let all : n * 2 ^ w ≤ 1048575 * 2 ^ w = mul-le-mul_right (2 ^ w) few in
    omega (arith, most, all, pow-add 2 w 20, pow_pos w)

-- an input times a constant
pub multiple_width : (input : Format) (t : ℤ) → IsWithin 1048575 t → (constant_format input t).width ≤ input.width + 21
multiple_width input (pos n) small =
    let w = input.width in
    let (below, above) = reach_within input.signed w in
    omega (
      arith,
      width_by (reach_over input (pos n ∷ [])).below (reach_over input (pos n ∷ [])).above (w + 20) (omega arith)
          (omega (arith, multiple_small n (reach_of input).below w small below))
          (omega (arith, multiple_small n (reach_of input).above w small above)),
    )
multiple_width input (negsuc n) small =
    let w = input.width in
    let (below, above) = reach_within input.signed w in
    omega (
      arith,
      width_by (reach_over input (negsuc n ∷ [])).below (reach_over input (negsuc n ∷ [])).above (w + 20) (omega arith)
          (omega (arith, multiple_small (n + 1) (reach_of input).above w (omega (arith, small)) above))
          (omega (arith, multiple_small (n + 1) (reach_of input).below w (omega (arith, small)) below)),
    )

pub multiples_held : (input : Format) (t x : ℤ) → IsOf input x → IsOf (constant_format input t) (x *ℤ t)
multiples_held input t x of =
    let (low, high) = sum_within (reach_of input).below (reach_of input).above 0 (t ∷ []) (λ k. x)
    (λ k. held-within input.signed input.width x of) in
    covered (reach_over input (t ∷ [])) input.lsb (x *ℤ t) (omega (arith, ints, low), omega (arith, ints, high))

multiple_in128 : (t x : ℤ) → IsWithin 1048575 t → unsigned_abs x ≤ 2 ^ 48 → IsRatioIn128 (exact_multiple t x)
multiple_in128 t x few small =
    let bound : unsigned_abs (x *ℤ t) ≤ 2 ^ 68 = product_within x t 48 20 small (omega (arith, few)) in
    (small_in128 (x *ℤ t) (omega (arith, bound)), small_in128 (pos 1) (omega arith))

all_numbered : (most n : ℕ) (g : ℤ → Format) (ts : List ℤ) → All (λ t. (1 ≤ (g t).width) × ((g t).width ≤ most)) ts
    → All (HasWidth most) (numbered n (map g ts))
all_numbered most n g [] each k d below = absurd (omega arith)
all_numbered most n g (t ∷ ts) each zero d below = each zero t (omega arith)
all_numbered most n g (t ∷ ts) each (suc k) d below =
    all_numbered most (n + 1) g ts (λ j e h. each (suc j) e (omega arith)) k d (omega arith)

multiples_wide : (version : ℕ) (m : Several) → IsSeveral m → m.input.width ≤ most_input version
    → All (HasWidth (most_signal version)) (multiple_ports m)
multiples_wide version m fits few =
    all_numbered (most_signal version) 0 (constant_format m.input) m.constants
    (λ k t below. (
      some_width (reach_over m.input (get_or m.constants k t ∷ [])),
      omega (arith, multiple_width m.input (get_or m.constants k t) (fits.constants k t below), few, input_room version),
    ))

-- what holds of its meaning
pub several_lawful : (m : Several) → IsLawful (several_meaning m) (several_acceptance m)
several_lawful m = record {
  some_input = λ is. omega arith;
  input_bits = λ is. all_one HasBit _ (input_bit m.input is.input);
  wide = λ version is. multiples_wide version m is.ranges (only_within (most_input version) m.input is.inputs);
  limit = λ version h. omega (arith, ints);
  least = λ h. omega (arith, ints);
  room = λ version within high. tt;
  held = multiples_held m.input;
  in128 = λ version is inputs of.
      let x = number_small m.input (inputs 0 0) is.ranges.input (of 0 0 (omega arith)) in
      λ k t below. multiple_in128 (get_or m.constants k t) (inputs 0 0) (is.ranges.constants k t below) x;
  recalls = λ mode inputs others outputs same good.
      subst (λ x. IsExactOrFaithful mode × AreGoodMultiples mode m.constants x outputs) (same 0 0 (omega arith)) good;
}
