use Rattle.std.proofs.Common.{◌≡◌, ◌+◌, ◌^◌, ◌∙◌, FitsSigned, rules, arith, ap}
use Rattle.std.specs.Prelude.{pos, unsigned_abs}
use Rattle.std.specs.Int.{w32, w128}
use Rattle.std.proofs.lemmas.Int.{to_z-of_z}
use Rattle.opgen_kinds.specs.Single.{square, root_shift}
use Rattle.opgen_ports.specs.Reaches.{places_up}
use Rattle.opgen_ports.proofs.Bounds.{few_up, products}
use Rattle.opgen_ports.proofs.Magnitudes.{unsigned_abs-product}
use Rattle.opgen_kinds.proofs.of_kind.Single.{root_word, square_rest_word, root_input_fits, root_bits}
use Rattle.opgen_ports.proofs.Roundings.{root-along, good_root-along}
use Rattle.opgen_num.proofs.BitLength.{power_order}
use Rattle.opgen_kinds.proofs.single.root_is_good.Goals as goal

pub raised-requires-clause-small : goal.raised-requires-clause-small
raised-requires-clause-small c =
    let r = c.args.single.now in
    let fits_x : FitsSigned w128 c.args.x = root_input_fits r c.args.x c.requires.single c.requires.x in
    let fits_shift : FitsSigned w32 c.root_shift.result = search rules in
    let raised_up : c.places_up.result ≡ places_up (root_shift r) = rw c.root_shift.ensures at simp to_z-of_z at c.places_up.ensures in
    let all = products (unsigned_abs c.args.x) (2 ^ places_up (root_shift r)) r.input.width (places_up (root_shift r)) c.requires.x
    (omega arith) in
    simp to_z-of_z (rw raised_up (omega (
      arith,
      all,
      power_order (r.input.width + places_up (root_shift r)) 126 (omega (
        arith,
        c.requires.single.input.most,
        few_up 48 (root_shift r) c.requires.high,
      )),
    )))

pub bounds-outputs-0 : goal.bounds-outputs-0
bounds-outputs-0 c = (root_word c.args.exact c.args.single.now c.args.outputs.now c.requires.outputs).0

pub output-requires-clause-least : goal.output-requires-clause-least
output-requires-clause-least c = rw c.root_format.ensures (root_bits c.args.single.now c.requires.single c.requires.high).0

pub output-requires-clause-most : goal.output-requires-clause-most
output-requires-clause-most c =
    rw c.root_format.ensures (omega (arith, (root_bits c.args.single.now c.requires.single c.requires.high).1))

pub output-requires-clause-bits : goal.output-requires-clause-bits
output-requires-clause-bits c =
    rw c.root_format.ensures (root_word c.args.exact c.args.single.now c.args.outputs.now c.requires.outputs).1

pub bounds-outputs-1 : goal.bounds-outputs-1
bounds-outputs-1 c = (square_rest_word c.args.exact c.args.single.now c.args.outputs.now c.if-exact.true c.requires.outputs).0

pub output-requires-then-exact-clause-least : goal.output-requires-then-exact-clause-least
output-requires-then-exact-clause-least c = rw c.rest_format.ensures (omega arith)

pub output-requires-then-exact-clause-most : goal.output-requires-then-exact-clause-most
output-requires-then-exact-clause-most c =
    rw c.rest_format.ensures (omega (arith, (root_bits c.args.single.now c.requires.single c.requires.high).1))

pub output-requires-then-exact-clause-bits : goal.output-requires-then-exact-clause-bits
output-requires-then-exact-clause-bits c =
    rw c.rest_format.ensures (square_rest_word c.args.exact c.args.single.now c.args.outputs.now c.if-exact.true c.requires.outputs).1

pub returns-then-exact : goal.returns-then-exact
returns-then-exact c =
    let fits_x : FitsSigned w128 c.args.x = root_input_fits c.args.single.now c.args.x c.requires.single c.requires.x in
    let fits_shift : FitsSigned w32 c.root_shift.result = search rules in
    let fits_raised : FitsSigned w128 c.raised.result = search rules in
    let fits_y : FitsSigned w128 c.output.result = search rules in
    let fits_r : FitsSigned w128 c.output-then-exact.result = search rules in
    let raised_up : c.places_up.result ≡ places_up (root_shift c.args.single.now) = rw c.root_shift.ensures at simp to_z-of_z at
    c.places_up.ensures in
    let raised = rw raised_up at simp to_z-of_z at c.raised.ensures.value in
    let n : c.unsigned_abs-square.result ≡ square c.args.single.now c.args.x = (simp to_z-of_z at c.unsigned_abs-square.ensures.value)
    ∙ ap unsigned_abs raised ∙ unsigned_abs-product c.args.x (pos (2 ^ places_up (root_shift c.args.single.now))) in
    let y = (simp to_z-of_z at c.unsigned_abs-y.ensures.value) ∙ ap unsigned_abs (rw c.root_format.ensures at c.output.ensures) in
    let r = (simp to_z-of_z at c.unsigned_abs-r.ensures.value)
    ∙ ap unsigned_abs (rw c.rest_format.ensures at c.output-then-exact.ensures) in
    rw c.if-exact.true (root-along c.is_root.result _ _ _ _ _ _ n y r c.is_root.ensures)

pub returns-else-exact : goal.returns-else-exact
returns-else-exact c =
    let fits_x : FitsSigned w128 c.args.x = root_input_fits c.args.single.now c.args.x c.requires.single c.requires.x in
    let fits_shift : FitsSigned w32 c.root_shift.result = search rules in
    let fits_raised : FitsSigned w128 c.raised.result = search rules in
    let fits_y : FitsSigned w128 c.output.result = search rules in
    let raised_up : c.places_up.result ≡ places_up (root_shift c.args.single.now) = rw c.root_shift.ensures at simp to_z-of_z at
    c.places_up.ensures in
    let raised = rw raised_up at simp to_z-of_z at c.raised.ensures.value in
    let n : c.unsigned_abs-square.result ≡ square c.args.single.now c.args.x = (simp to_z-of_z at c.unsigned_abs-square.ensures.value)
    ∙ ap unsigned_abs raised ∙ unsigned_abs-product c.args.x (pos (2 ^ places_up (root_shift c.args.single.now))) in
    let y = (simp to_z-of_z at c.unsigned_abs-y.ensures.value) ∙ ap unsigned_abs (rw c.root_format.ensures at c.output.ensures) in
    rw c.if-exact.false (good_root-along c.good_root.result _ _ _ _ n y c.good_root.ensures)
