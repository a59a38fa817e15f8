use Rattle.std.proofs.Common.{◌≡◌, ◌≢◌, ◌+◌, ◌^◌, FitsSigned, of_z, rules, arith, ap}
use Rattle.std.specs.Prelude.{pos, unsigned_abs}
use Rattle.std.specs.Int.{w32, w128}
use Rattle.std.proofs.lemmas.Int.{to_z-of_z}
use Rattle.opgen_kinds.specs.Pair.{dividend, exact_quotient, pair_shift}
use Rattle.opgen_num.specs.declared.format.Ratio.{Ratio}
use Rattle.opgen_num.specs.declared.mode.Mode.TheVariants.{Faithful}
use Rattle.opgen_ports.specs.Reaches.{places_up}
use Rattle.opgen_ports.proofs.Bounds.{products}
use Rattle.opgen_ports.proofs.InputPorts.{input_bit}
use Rattle.opgen_ports.proofs.Magnitudes.{holds_within, number_fits, number_small}
use Rattle.opgen_kinds.proofs.of_kind.Pair.{dividend_small, over_positive, quotient_word, remainder_word}
use Rattle.opgen_ports.proofs.Roundings.{good-along}
use Rattle.opgen_num.proofs.BitLength.{power_order}
use Rattle.opgen_kinds.proofs.pair.quotient_is_good.Goals as goal

pub raised-shifted-requires-clause-small : goal.raised-shifted-requires-clause-small
raised-shifted-requires-clause-small c =
    let p = c.args.pair.now in
    let fits_a : FitsSigned w128 c.args.a = number_fits p.a _ c.requires.pair.a c.requires.a in
    let fits_shift : FitsSigned w32 c.pair_shift.result = search rules in
    let raised_up : c.places_up.result ≡ places_up (pair_shift p) = rw c.pair_shift.ensures at simp to_z-of_z at c.places_up.ensures in
    let all = products (unsigned_abs c.args.a) (2 ^ places_up (pair_shift p)) p.a.width (places_up (pair_shift p))
    (holds_within p.a.signed p.a.width c.args.a c.requires.a) (omega arith) in
    simp to_z-of_z (rw raised_up (omega (
      arith,
      all,
      power_order (p.a.width + places_up (pair_shift p)) 126 (omega (
        arith,
        c.requires.narrow,
      )),
    )))

pub bounds-outputs-0 : goal.bounds-outputs-0
bounds-outputs-0 c = (quotient_word c.args.exact c.args.pair.now c.args.outputs.now c.requires.outputs).0

pub output-q-requires-clause-least : goal.output-q-requires-clause-least
output-q-requires-clause-least c =
    rw c.quotient_format.ensures (omega (arith, input_bit c.args.pair.now.a c.requires.pair.a))

pub output-q-requires-clause-most : goal.output-q-requires-clause-most
output-q-requires-clause-most c = rw c.quotient_format.ensures c.requires.narrow

pub output-q-requires-clause-bits : goal.output-q-requires-clause-bits
output-q-requires-clause-bits c =
    rw c.quotient_format.ensures (quotient_word c.args.exact c.args.pair.now c.args.outputs.now c.requires.outputs).1

pub bounds-outputs-1 : goal.bounds-outputs-1
bounds-outputs-1 c = (remainder_word c.args.exact c.args.pair.now c.args.outputs.now c.if-exact.true c.requires.outputs).0

pub output-r-requires-clause-least : goal.output-r-requires-clause-least
output-r-requires-clause-least c = rw c.remainder_format.ensures (input_bit c.args.pair.now.b c.requires.pair.b)

pub output-r-requires-clause-most : goal.output-r-requires-clause-most
output-r-requires-clause-most c = rw c.remainder_format.ensures (omega (arith, c.requires.pair.b.most))

pub output-r-requires-clause-bits : goal.output-r-requires-clause-bits
output-r-requires-clause-bits c =
    rw c.remainder_format.ensures (remainder_word c.args.exact c.args.pair.now c.args.outputs.now c.if-exact.true c.requires.outputs).1

pub returns-then-exact-clause-out_of_range : goal.returns-then-exact-clause-out_of_range
returns-then-exact-clause-out_of_range c = λ none. absurd (c.if-b-eq0.false (ap (of_z w128) none))

pub is_truncated-requires-clause-n : goal.is_truncated-requires-clause-n
is_truncated-requires-clause-n c =
    let p = c.args.pair.now in
    let fits_a : FitsSigned w128 c.args.a = number_fits p.a _ c.requires.pair.a c.requires.a in
    let fits_shift : FitsSigned w32 c.pair_shift.result = search rules in
    let fits_shifted : FitsSigned w128 c.raised-shifted.result = search rules in
    let raised_up : c.places_up.result ≡ places_up (pair_shift p) = rw c.pair_shift.ensures at simp to_z-of_z at c.places_up.ensures in
    let shifted : c.raised-shifted.result ≡ dividend p c.args.a = rw raised_up at simp to_z-of_z at c.raised-shifted.ensures.value in
    simp to_z-of_z (rw shifted (omega (arith, dividend_small p c.args.a c.requires.pair c.requires.a c.requires.narrow)))

pub over-value-requires-clause-n : goal.over-value-requires-clause-n
over-value-requires-clause-n c =
    let p = c.args.pair.now in
    let fits_a : FitsSigned w128 c.args.a = number_fits p.a _ c.requires.pair.a c.requires.a in
    let fits_shift : FitsSigned w32 c.pair_shift.result = search rules in
    let fits_shifted : FitsSigned w128 c.raised-shifted.result = search rules in
    let raised_up : c.places_up.result ≡ places_up (pair_shift p) = rw c.pair_shift.ensures at simp to_z-of_z at c.places_up.ensures in
    let shifted : c.raised-shifted.result ≡ dividend p c.args.a = rw raised_up at simp to_z-of_z at c.raised-shifted.ensures.value in
    simp to_z-of_z (rw shifted (omega (arith, dividend_small p c.args.a c.requires.pair c.requires.a c.requires.narrow)))

pub over-value-requires-clause-b : goal.over-value-requires-clause-b
over-value-requires-clause-b c =
    let p = c.args.pair.now in
    let fits_b : FitsSigned w128 c.args.b = number_fits p.b _ c.requires.pair.b c.requires.b in
    simp to_z-of_z (omega (arith, number_small p.b c.args.b c.requires.pair.b c.requires.b))

pub good_linear-requires : goal.good_linear-requires
good_linear-requires c =
    let p = c.args.pair.now in
    let fits_b : FitsSigned w128 c.args.b = number_fits p.b _ c.requires.pair.b c.requires.b in
    let fits_den : FitsSigned w128 c.over-value.result.den = search rules in
    let some : c.args.b ≢ pos 0 = λ none. c.if-b-eq0.false (ap (of_z w128) none) in
    simp to_z-of_z (rw c.over-value.ensures (simp to_z-of_z (over_positive _ c.args.b some)))

pub returns-then-exact-clause-in_range : goal.returns-then-exact-clause-in_range
returns-then-exact-clause-in_range c =
    let p = c.args.pair.now in
    let fits_a : FitsSigned w128 c.args.a = number_fits p.a _ c.requires.pair.a c.requires.a in
    let fits_b = c.ranges.b in
    let fits_shift : FitsSigned w32 c.pair_shift.result = search rules in
    let fits_shifted : FitsSigned w128 c.raised-shifted.result = search rules in
    let fits_q : FitsSigned w128 c.output-q.result = search rules in
    let fits_r : FitsSigned w128 c.output-r.result = search rules in
    let raised_up : c.places_up.result ≡ places_up (pair_shift p) = rw c.pair_shift.ensures at simp to_z-of_z at c.places_up.ensures in
    let shifted : c.raised-shifted.result ≡ dividend p c.args.a = rw raised_up at simp to_z-of_z at c.raised-shifted.ensures.value in
    let q = rw c.quotient_format.ensures at c.output-q.ensures in
    let r = rw c.remainder_format.ensures at c.output-r.ensures in
    λ _. rw c.if-exact.true (rw (shifted, q, r) at simp to_z-of_z at c.is_truncated.ensures)

pub returns-else-exact-clause-in_range : goal.returns-else-exact-clause-in_range
returns-else-exact-clause-in_range c =
    let p = c.args.pair.now in
    let fits_a : FitsSigned w128 c.args.a = number_fits p.a _ c.requires.pair.a c.requires.a in
    let fits_b : FitsSigned w128 c.args.b = number_fits p.b _ c.requires.pair.b c.requires.b in
    let fits_shift : FitsSigned w32 c.pair_shift.result = search rules in
    let fits_shifted : FitsSigned w128 c.raised-shifted.result = search rules in
    let fits_q : FitsSigned w128 c.output-q.result = search rules in
    let fits_num : FitsSigned w128 c.over-value.result.num = search rules in
    let fits_den : FitsSigned w128 c.over-value.result.den = search rules in
    let raised_up : c.places_up.result ≡ places_up (pair_shift p) = rw c.pair_shift.ensures at simp to_z-of_z at c.places_up.ensures in
    let shifted : c.raised-shifted.result ≡ dividend p c.args.a = rw raised_up at simp to_z-of_z at c.raised-shifted.ensures.value in
    let value : c.over-value.result ≡ exact_quotient p c.args.a c.args.b = rw shifted at simp to_z-of_z at c.over-value.ensures in
    let q = rw c.quotient_format.ensures at c.output-q.ensures in
    λ _. rw c.if-exact.false (good-along c.good_linear.result Faithful c.over-value.result.num _ c.over-value.result.den _ c.output-q.result _
    (ap (λ (v : Ratio). v.num) value) (ap (λ (v : Ratio). v.den) value) q (simp to_z-of_z at c.good_linear.ensures))
