use Rattle.std.proofs.Common.{◌≡◌, ◌+◌, ◌*◌, ◌≤◌, ◌^◌, Bool, true, false, get_or, unsigned_abs, refl, sym, ap, ◌∙◌, subst, arith}
use Rattle.std.specs.Prelude.{pos, if◌then◌else◌}
use Rattle.std.specs.Int.{w64}
use Rattle.std.proofs.lemmas.Int.{ints, to_z-of_z, unsigned_abs-mul}
use Rattle.std.proofs.lemmas.List.Elements.{All-get_or}
use Rattle.std.proofs.lemmas.Nat.{pow_pos}
use Rattle.opgen_num.specs.declared.format.Ratio.{Ratio}
use Rattle.opgen_heap.specs.Sum.{columns_sum}
use Rattle.opgen_net.specs.Flow.{flow}
use Rattle.opgen_operator.specs.declared.operator.Operator.TheVariants.{Fir}
use Rattle.opgen_kinds.specs.Sum.{IsEntrySmall, sum_shift, guard_bits}
use Rattle.opgen_ports.specs.Reaches.{up, down}
use Rattle.opgen_operator.proofs.Accepted.{accepted_ranges}
use Rattle.opgen_kcm.specs.Chunks.{chunk_count, number}
use Rattle.opgen_kcm.specs.Entries.{in_guard_units}
use Rattle.opgen_kcm.specs.Multiple.{HasRisen, sum_at}
use Rattle.opgen_kcm.specs.Recipe.{Terms, with_rows, input_width, HasNarrowRows}
use Rattle.opgen_kcm.proofs.Kept.{more-same}
use Rattle.opgen_heap.proofs.Residues.{residue-none}
use Rattle.opgen_fir.specs.Recipe.{is_zero, factor, sum_width}
use Rattle.opgen_fir.specs.Summed.{units}
use Rattle.opgen_fir.proofs.Factors.{den-units, units-some, factor-some}
use Rattle.opgen_fir.proofs.Narrow.{narrow-terms}
use Rattle.opgen_fir.proofs.terms.add_term.Goals as goal

pub returns-then-is_zero-clause-more : goal.returns-then-is_zero-clause-more
returns-then-is_zero-clause-more c = more-same (record { net = c.args.net.now; heap = c.args.heap.now })

pub returns-then-is_zero-clause-term : goal.returns-then-is_zero-clause-term
returns-then-is_zero-clause-term c = λ inputs t words.
    let heap = c.args.heap.now in
    let none : is_zero c.args.coef ≡ true =
    ap is_zero (sym (to_z-of_z w64 c.args.coef c.ranges.coef)) ∙ sym c.is_zero.ensures ∙ c.if-is_zero.true in
    record {
      by = pos 0;
      nothing = λ e. refl;
      multiple = λ e. let clash : true ≡ false = sym none ∙ e in let no : ⊥ = cc in absurd no;
      sum = residue-none (columns_sum (λ n. flow c.args.net.now.nodes inputs n t) heap.columns + heap.constant) (2 ^ heap.width)
          (pow_pos heap.width);
    }

pub rows_of-requires-clause-positive : goal.rows_of-requires-clause-positive
rows_of-requires-clause-positive c =
    let s = c.args.sum.now in
    let ranges = accepted_ranges (Fir s) c.requires.sum in
    let q : c.factor.result ≡ factor s c.args.coef = c.factor.ensures ∙ ap (factor s) (to_z-of_z w64 c.args.coef c.ranges.coef) in
    let d : c.factor.result.den ≡ pos (units s) = ap (λ (r : Ratio). r.den) q ∙ den-units s c.args.coef ranges in
    omega (arith, ints, d, units-some s ranges)

pub rows_of-requires-clause-some : goal.rows_of-requires-clause-some
rows_of-requires-clause-some c = λ none.
    let s = c.args.sum.now in
    let q : c.factor.result ≡ factor s c.args.coef = c.factor.ensures ∙ ap (factor s) (to_z-of_z w64 c.args.coef c.ranges.coef) in
    let some : is_zero c.args.coef ≡ false =
    ap is_zero (sym (to_z-of_z w64 c.args.coef c.ranges.coef)) ∙ sym c.is_zero.ensures ∙ c.if-is_zero.false in
    factor-some c.args.coef (up (sum_shift s)) (pow_pos _) some (sym (ap (λ (r : Ratio). r.num) q) ∙ none)

pub rows_of-requires-clause-room : goal.rows_of-requires-clause-room
rows_of-requires-clause-room c =
    let s = c.args.sum.now in
    let k = c.args.coef in
    let u = up (sum_shift s) in
    let q : c.factor.result ≡ factor s k = c.factor.ensures ∙ ap (factor s) (to_z-of_z w64 c.args.coef c.ranges.coef) in
    let some : is_zero k ≡ false =
    ap is_zero (sym (to_z-of_z w64 c.args.coef c.ranges.coef)) ∙ sym c.is_zero.ensures ∙ c.if-is_zero.false in
    let small : IsEntrySmall s k =
    subst (IsEntrySmall s) c.requires.coef
    (All-get_or (IsEntrySmall s) s.coefs c.args.tap (pos 0) c.requires.tap (c.entries_are_small.ensures s c.requires.sum).1) in
    let wide = input_width c.args.net.now c.args.tap in
    let guard = c.guard_bits-guard.result in
    let num : unsigned_abs c.factor.result.num ≡ unsigned_abs k * u =
    ap (λ (r : Ratio). unsigned_abs r.num) q ∙ unsigned_abs-mul k (pos u) in
    let den : unsigned_abs c.factor.result.den ≡ unsigned_abs s.den * down (sum_shift s) =
    ap (λ (r : Ratio). unsigned_abs r.den) q ∙ unsigned_abs-mul s.den (pos (down (sum_shift s))) in
    let scaled : unsigned_abs c.factor.result.num * 2 ^ (wide + guard + 1) ≡ unsigned_abs k * u * 2 ^ (s.input.width + guard_bits s + 1) =
    ap (λ n. n * 2 ^ (wide + guard + 1)) num
    ∙ ap (λ w. unsigned_abs k * u * 2 ^ (w + guard + 1)) (c.requires.width some)
    ∙ ap (λ g. unsigned_abs k * u * 2 ^ (s.input.width + g + 1)) c.guard_bits-guard.ensures.value in
    omega (arith, scaled, den, small.rounded)

pub rows_of-requires-clause-narrow : goal.rows_of-requires-clause-narrow
rows_of-requires-clause-narrow c =
    let s = c.args.sum.now in
    let k = c.args.coef in
    let signed = s.input.signed in
    let q : c.factor.result ≡ factor s k = c.factor.ensures ∙ ap (factor s) (to_z-of_z w64 c.args.coef c.ranges.coef) in
    let some : is_zero k ≡ false =
    ap is_zero (sym (to_z-of_z w64 c.args.coef c.ranges.coef)) ∙ sym c.is_zero.ensures ∙ c.if-is_zero.false in
    let fits : sum_width s ≤ 96 = omega (arith, c.guard_bits-guard.ensures.width, c.guard_bits-guard.ensures.value) in
    let rows = narrow-terms s (accepted_ranges (Fir s) c.requires.sum) c.args.tap c.requires.tap fits in
    let same : in_guard_units c.factor.result c.guard_bits-guard.result
    ≡ in_guard_units (factor s (get_or s.coefs c.args.tap (pos 0))) (guard_bits s) =
    ap (λ (r : Ratio). in_guard_units r c.guard_bits-guard.result) (q ∙ ap (factor s) (sym c.requires.coef))
    ∙ ap (λ g. in_guard_units (factor s (get_or s.coefs c.args.tap (pos 0))) g) c.guard_bits-guard.ensures.value in
    subst (λ (r : Ratio). HasNarrowRows r (input_width c.args.net.now c.args.tap) signed) (sym same)
    (subst (λ w. HasNarrowRows (in_guard_units (factor s (get_or s.coefs c.args.tap (pos 0))) (guard_bits s)) w signed)
    (sym (c.requires.width some)) rows)

pub returns-clause-net : goal.returns-clause-net
returns-clause-net c =
    let s = c.args.sum.now in
    let k = c.args.coef in
    let old : Terms = record { net = c.args.net.now; heap = c.args.heap.now } in
    let q : c.factor.result ≡ factor s k = c.factor.ensures ∙ ap (factor s) (to_z-of_z w64 c.args.coef c.ranges.coef) in
    let some : is_zero k ≡ false =
    ap is_zero (sym (to_z-of_z w64 c.args.coef c.ranges.coef)) ∙ sym c.is_zero.ensures ∙ c.if-is_zero.false in
    c.in_ok-rows_of.ensures.net
    ∙ ap (λ (r : Ratio). (with_rows r c.guard_bits-guard.result c.args.tap s.input.signed old).net) q
    ∙ ap (λ g. (with_rows (factor s k) g c.args.tap s.input.signed old).net) c.guard_bits-guard.ensures.value
    ∙ ap (λ (b : Bool). (if b then old else with_rows (factor s k) (guard_bits s) c.args.tap s.input.signed old).net) (sym some)

pub returns-clause-heap : goal.returns-clause-heap
returns-clause-heap c =
    let s = c.args.sum.now in
    let k = c.args.coef in
    let old : Terms = record { net = c.args.net.now; heap = c.args.heap.now } in
    let q : c.factor.result ≡ factor s k = c.factor.ensures ∙ ap (factor s) (to_z-of_z w64 c.args.coef c.ranges.coef) in
    let some : is_zero k ≡ false =
    ap is_zero (sym (to_z-of_z w64 c.args.coef c.ranges.coef)) ∙ sym c.is_zero.ensures ∙ c.if-is_zero.false in
    c.in_ok-rows_of.ensures.heap
    ∙ ap (λ (r : Ratio). (with_rows r c.guard_bits-guard.result c.args.tap s.input.signed old).heap) q
    ∙ ap (λ g. (with_rows (factor s k) g c.args.tap s.input.signed old).heap) c.guard_bits-guard.ensures.value
    ∙ ap (λ (b : Bool). (if b then old else with_rows (factor s k) (guard_bits s) c.args.tap s.input.signed old).heap) (sym some)

pub returns-clause-term : goal.returns-clause-term
returns-clause-term c = λ inputs t words.
    let s = c.args.sum.now in
    let k = c.args.coef in
    let signed = s.input.signed in
    let old : Terms = record { net = c.args.net.now; heap = c.args.heap.now } in
    let now : Terms = record { net = c.rows_of.new.net; heap = c.rows_of.new.heap } in
    let x = flow c.args.net.now.nodes inputs c.args.tap t in
    let q : c.factor.result ≡ factor s k = c.factor.ensures ∙ ap (factor s) (to_z-of_z w64 c.args.coef c.ranges.coef) in
    let some : is_zero k ≡ false =
    ap is_zero (sym (to_z-of_z w64 c.args.coef c.ranges.coef)) ∙ sym c.is_zero.ensures ∙ c.if-is_zero.false in
    let w = input_width c.args.net.now c.args.tap in
    let g = c.guard_bits-guard.result in
    let width = c.args.heap.now.width in
    let a = sum_at old inputs t in
    let b = sum_at now inputs t in
    let risen =
    subst (λ v. HasRisen (factor s k) (guard_bits s) (chunk_count v) (number signed v x) width a b) (c.requires.width some)
    (subst (λ h. HasRisen (factor s k) h (chunk_count w) (number signed w x) width a b) c.guard_bits-guard.ensures.value
    (subst (λ (r : Ratio). HasRisen r g (chunk_count w) (number signed w x) width a b) q
    (c.in_ok-rows_of.ensures.risen c.requires.bits inputs t words))) in
    record {
      by = risen.by;
      nothing = λ e. let clash : true ≡ false = sym e ∙ some in let no : ⊥ = cc in absurd no;
      multiple = λ e. risen.multiple;
      sum = risen.sum;
    }
