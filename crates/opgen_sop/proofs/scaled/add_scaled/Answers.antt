use Rattle.std.proofs.Common.{◌≡◌, ◌+◌, ◌*◌, ◌^◌, ◌<◌, ◌≤◌, Bool, false, if◌then◌else◌, to_z, of_z, unsigned_abs, sym, ap, ◌∙◌, subst, arith}
use Rattle.std.specs.Int.{w64}
use Rattle.std.proofs.lemmas.Int.{to_z-of_z, fits_signed_from_abs}
use Rattle.opgen_num.specs.declared.format.Format.{Format}
use Rattle.opgen_num.specs.declared.format.Ratio.{Ratio}
use Rattle.opgen_num.proofs.Integers.{zero-is}
use Rattle.opgen_net.proofs.Grown.{grown-then}
use Rattle.opgen_ports.proofs.InputPorts.{input_bit}
use Rattle.opgen_kcm.specs.Entries.{in_guard_units}
use Rattle.opgen_kcm.specs.Recipe.{with_rows, input_width, HasNarrowRows}
use Rattle.opgen_partial.specs.declared.pairs.Work.{Work}
use Rattle.opgen_terms.specs.declared.sop.Sop.{Sop}
use Rattle.opgen_terms.specs.declared.sop.Scaled.{Scaled}
use Rattle.opgen_terms.specs.Sop.{format_of}
use Rattle.opgen_sop.specs.Recipe.{input_net, is_zero}
use Rattle.opgen_sop.specs.Sizes.{scaled_fraction}
use Rattle.opgen_sop.specs.Small.{IsSmallScaled}
use Rattle.opgen_sop.proofs.InputNodes.{input-there, input-wide}
use Rattle.opgen_sop.proofs.ScaledTerm.{num-some, rows-room, rows-narrow, scaled-sum, none-sum}
use Rattle.opgen_sop.proofs.scaled.add_scaled.Goals as goal

same-coefficient : (s : Sop) (t : Scaled) → IsSmallScaled s t → to_z w64 (of_z w64 t.coefficient) ≡ t.coefficient
same-coefficient s t term =
    to_z-of_z w64 t.coefficient (fits_signed_from_abs w64 t.coefficient (omega (arith, term.ranged.coefficient)))

pub returns-then-is_zero-clause-sum : goal.returns-then-is_zero-clause-sum
returns-then-is_zero-clause-sum c =
    let s = c.args.sop.now in
    let t = c.args.term in
    let same = same-coefficient s t c.requires.term in
    none-sum s c.args.guard t c.requires.sop c.requires.guard c.requires.term c.args.work.now c.requires.stands
    (zero-is t.coefficient (ap is_zero (sym same) ∙ sym c.is_zero.ensures ∙ c.if-is_zero.true))

pub rows_of-requires-clause-some : goal.rows_of-requires-clause-some
rows_of-requires-clause-some c = λ none.
    let s = c.args.sop.now in
    let t = c.args.term in
    let same = same-coefficient s t c.requires.term in
    num-some s c.args.guard t c.requires.sop c.requires.guard c.requires.term
    (ap is_zero (sym same) ∙ sym c.is_zero.ensures ∙ c.if-is_zero.false)
    (sym (ap (λ (r : Ratio). r.num) c.scaled_fraction.ensures.value) ∙ none)

pub rows_of-requires-clause-there : goal.rows_of-requires-clause-there
rows_of-requires-clause-there c =
    input-there c.args.sop.now c.args.guard c.args.work.now c.requires.stands c.args.term.input c.requires.term.ranged.input

pub rows_of-requires-clause-short : goal.rows_of-requires-clause-short
rows_of-requires-clause-short c =
    let wide = input-wide c.args.sop.now c.args.guard c.args.work.now c.requires.stands c.args.term.input c.requires.term.ranged.input in
    omega (arith, wide, ap (λ (f : Format). f.width) c.format_of.ensures.value, c.format_of.ensures.is_input.most)

pub rows_of-requires-clause-room : goal.rows_of-requires-clause-room
rows_of-requires-clause-room c =
    let s = c.args.sop.now in
    let t = c.args.term in
    let net = c.args.work.now.net in
    let f = format_of s t.input in
    let wide = input-wide s c.args.guard c.args.work.now c.requires.stands t.input c.requires.term.ranged.input in
    let some : 1 ≤ f.width = subst (λ (f : Format). 1 ≤ f.width) c.format_of.ensures.value (input_bit c.format_of.result c.format_of.ensures.is_input) in
    subst (λ (r : Ratio). unsigned_abs r.num * 2 ^ (input_width net t.input + 0 + 1) + unsigned_abs r.den < 2 ^ 126)
    (sym c.scaled_fraction.ensures.value)
    (subst (λ k. unsigned_abs (scaled_fraction s c.args.guard t).num * 2 ^ (k + 0 + 1) + unsigned_abs (scaled_fraction s c.args.guard t).den < 2 ^ 126)
    (sym wide) (rows-room s c.args.guard t c.requires.sop c.requires.guard c.requires.term some))

pub rows_of-requires-clause-narrow : goal.rows_of-requires-clause-narrow
rows_of-requires-clause-narrow c =
    let s = c.args.sop.now in
    let t = c.args.term in
    let net = c.args.work.now.net in
    let wide = input-wide s c.args.guard c.args.work.now c.requires.stands t.input c.requires.term.ranged.input in
    subst (λ (r : Ratio). HasNarrowRows (in_guard_units r 0) (input_width net t.input) c.format_of.result.signed)
    (sym c.scaled_fraction.ensures.value)
    (subst (λ (f : Format). HasNarrowRows (in_guard_units (scaled_fraction s c.args.guard t) 0) (input_width net t.input) f.signed)
    (sym c.format_of.ensures.value)
    (subst (λ k. HasNarrowRows (in_guard_units (scaled_fraction s c.args.guard t) 0) k (format_of s t.input).signed)
    (sym wide) (rows-narrow s c.args.guard t c.requires.sop c.requires.guard c.requires.term)))

pub returns-clause-ok : goal.returns-clause-ok
returns-clause-ok c =
    let s = c.args.sop.now in
    let t = c.args.term in
    let w = c.args.work.now in
    let same = same-coefficient s t c.requires.term in
    let some : is_zero t.coefficient ≡ false = ap is_zero (sym same) ∙ sym c.is_zero.ensures ∙ c.if-is_zero.false in
    let after : Ratio → Format → Work =
    λ q f. let r = with_rows q 0 t.input f.signed (record { net = w.net; heap = w.heap }) in record { net = r.net; heap = r.heap } in
    ap (λ n. record { net = n; heap = c.rows_of.new.heap }) c.in_ok-rows_of.ensures.net
    ∙ ap (λ h. record { net = (after c.scaled_fraction.result c.format_of.result).net; heap = h }) c.in_ok-rows_of.ensures.heap
    ∙ ap (λ q. after q c.format_of.result) c.scaled_fraction.ensures.value
    ∙ ap (after (scaled_fraction s c.args.guard t)) c.format_of.ensures.value
    ∙ ap (λ (b : Bool). if b then w else after (scaled_fraction s c.args.guard t) (format_of s t.input)) (sym some)

pub returns-clause-stands : goal.returns-clause-stands
returns-clause-stands c =
    let h = c.requires.stands in
    record {
      valid = c.in_ok-rows_of.ensures.valid;
      grown = grown-then (input_net c.args.sop.now) c.args.work.now.net c.rows_of.new.net h.grown c.in_ok-rows_of.ensures.grown;
      there = c.in_ok-rows_of.ensures.bits h.there;
      width = c.in_ok-rows_of.ensures.width ∙ h.width;
    }

pub returns-clause-sum : goal.returns-clause-sum
returns-clause-sum c =
    let w = c.args.work.now in
    let h = c.requires.stands in
    scaled-sum c.args.sop.now c.args.guard c.args.term c.requires.sop c.requires.guard c.requires.term
    w (record { net = c.rows_of.new.net; heap = c.rows_of.new.heap }) h c.scaled_fraction.result c.format_of.result
    c.scaled_fraction.ensures.value c.format_of.ensures.value (c.in_ok-rows_of.ensures.risen h.there)
