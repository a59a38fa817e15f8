use Rattle.std.proofs.Common.{◌≡◌, ◌+◌, ◌^◌, FitsSigned, rules, arith}
use Rattle.std.specs.Prelude.{unsigned_abs}
use Rattle.std.specs.Int.{w32, w128}
use Rattle.std.proofs.lemmas.Int.{to_z-of_z}
use Rattle.opgen_kinds.specs.Pair.{dividend, pair_shift}
use Rattle.opgen_ports.specs.Reaches.{places_up}
use Rattle.opgen_ports.proofs.Bounds.{products}
use Rattle.opgen_ports.proofs.Magnitudes.{holds_within, number_fits, number_small}
use Rattle.opgen_kinds.proofs.of_kind.Pair.{dividend_small}
use Rattle.opgen_num.proofs.BitLength.{power_order}
use Rattle.opgen_kinds.proofs.pair.exact_quotient.Goals as goal

pub raised-shifted-requires-clause-small : goal.raised-shifted-requires-clause-small
raised-shifted-requires-clause-small c =
    let p = c.args.pair.now in
    let fits_a : FitsSigned w128 c.args.a = number_fits p.a _ c.requires.pair.a c.requires.a in
    let fits_shift : FitsSigned w32 c.pair_shift.result = search rules in
    let raised_up : c.places_up.result ≡ places_up (pair_shift p) = rw c.pair_shift.ensures at simp to_z-of_z at c.places_up.ensures in
    let all = products (unsigned_abs c.args.a) (2 ^ places_up (pair_shift p)) p.a.width (places_up (pair_shift p))
    (holds_within p.a.signed p.a.width c.args.a c.requires.a) (omega arith) in
    simp to_z-of_z (rw raised_up (omega (
      arith,
      all,
      power_order (p.a.width + places_up (pair_shift p)) 126 (omega (
        arith,
        c.requires.narrow,
      )),
    )))

pub over-requires-clause-n : goal.over-requires-clause-n
over-requires-clause-n c =
    let p = c.args.pair.now in
    let fits_a : FitsSigned w128 c.args.a = number_fits p.a _ c.requires.pair.a c.requires.a in
    let fits_shift : FitsSigned w32 c.pair_shift.result = search rules in
    let fits_shifted : FitsSigned w128 c.raised-shifted.result = search rules in
    let raised_up : c.places_up.result ≡ places_up (pair_shift p) = rw c.pair_shift.ensures at simp to_z-of_z at c.places_up.ensures in
    let shifted : c.raised-shifted.result ≡ dividend p c.args.a = rw raised_up at simp to_z-of_z at c.raised-shifted.ensures.value in
    simp to_z-of_z (rw shifted (omega (arith, dividend_small p c.args.a c.requires.pair c.requires.a c.requires.narrow)))

pub over-requires-clause-b : goal.over-requires-clause-b
over-requires-clause-b c =
    let p = c.args.pair.now in
    let fits_b : FitsSigned w128 c.args.b = number_fits p.b _ c.requires.pair.b c.requires.b in
    simp to_z-of_z (omega (arith, number_small p.b c.args.b c.requires.pair.b c.requires.b))

pub returns : goal.returns
returns c =
    let p = c.args.pair.now in
    let fits_a : FitsSigned w128 c.args.a = number_fits p.a _ c.requires.pair.a c.requires.a in
    let fits_b : FitsSigned w128 c.args.b = number_fits p.b _ c.requires.pair.b c.requires.b in
    let fits_shift : FitsSigned w32 c.pair_shift.result = search rules in
    let fits_shifted : FitsSigned w128 c.raised-shifted.result = search rules in
    let raised_up : c.places_up.result ≡ places_up (pair_shift p) = rw c.pair_shift.ensures at simp to_z-of_z at c.places_up.ensures in
    let shifted : c.raised-shifted.result ≡ dividend p c.args.a = rw raised_up at simp to_z-of_z at c.raised-shifted.ensures.value in
    rw shifted at simp to_z-of_z at c.over.ensures
