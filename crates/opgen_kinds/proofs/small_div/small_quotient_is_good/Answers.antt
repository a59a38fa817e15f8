use Rattle.std.proofs.Common.{◌≡◌, ◌∙◌, FitsSigned, rules, ap, refl}
use Rattle.std.specs.Prelude.{pos, slice_index, unsigned_abs}
use Rattle.std.specs.Int.{w128}
use Rattle.std.proofs.lemmas.Int.{to_z-of_z}
use Rattle.opgen_num.specs.declared.mode.Mode.TheVariants.{Faithful}
use Rattle.opgen_kinds.specs.SmallDiv.{small_quotient_format, small_rest_format}
use Rattle.opgen_ports.specs.Ports.{number_of}
use Rattle.opgen_ports.proofs.Roundings.{good-along, quotient-along}
use Rattle.opgen_kinds.proofs.small_div.small_quotient_is_good.Goals as goal

pub returns-then-exact : goal.returns-then-exact
returns-then-exact c =
    let small = c.args.small.now in
    let outputs = c.args.outputs.now in
    let fits_x = c.ranges.x in
    let fits_q : FitsSigned w128 c.output-q.result = search rules in
    let fits_r : FitsSigned w128 c.output-r.result = search rules in
    let n = simp to_z-of_z at c.unsigned_abs.ensures.value in
    let main : c.output-q.result ≡ number_of (small_quotient_format small) (slice_index outputs 0) =
    rw c.quotient.ensures at c.output-q.ensures in
    let rest : c.output-r.result ≡ number_of (small_rest_format small) (slice_index outputs 1) =
    rw c.remainder.ensures.value at c.output-r.ensures in
    let q = (simp to_z-of_z at c.unsigned_abs-then-exact.ensures.value) ∙ ap unsigned_abs main in
    let r = (simp to_z-of_z at c.unsigned_abs-then-exact-2.ensures.value) ∙ ap unsigned_abs rest in
    rw c.if-exact.true (quotient-along c.is_quotient.result _ _ _ _ _ _ _ _ n c.into.ensures q r c.is_quotient.ensures)

pub returns-else-exact : goal.returns-else-exact
returns-else-exact c =
    let small = c.args.small.now in
    let outputs = c.args.outputs.now in
    let fits_x = c.ranges.x in
    let fits_into : FitsSigned w128 c.into-else-exact.result = search rules in
    let fits_q : FitsSigned w128 c.output-q.result = search rules in
    let main : c.output-q.result ≡ number_of (small_quotient_format small) (slice_index outputs 0) =
    rw c.quotient.ensures at c.output-q.ensures in
    rw c.if-exact.false (good-along c.good_linear.result Faithful c.args.x c.args.x c.into-else-exact.result (pos small.divisor)
    c.output-q.result (number_of (small_quotient_format small) (slice_index outputs 0)) refl c.into-else-exact.ensures main
    (simp to_z-of_z at c.good_linear.ensures))
