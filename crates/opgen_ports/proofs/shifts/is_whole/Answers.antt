use Rattle.std.proofs.Common.{◌≡◌, ◌∙◌, ◌*◌, arith, FitsSigned, rules}
use Rattle.std.specs.Int.{w32, w64, int_max}
use Rattle.std.specs.Prelude.{negsuc, unsigned_abs}
use Rattle.std.proofs.lemmas.Int.{to_z-of_z}
use Rattle.opgen_ports.specs.Reaches.{up, down}
use Rattle.opgen_ports.proofs.Bounds.{shifted}
use Rattle.opgen_ports.proofs.Wholes.{near, near_range, near_whole}
use Rattle.opgen_ports.proofs.shifts.is_whole.Goals as goal

pub scaled-requires-clause-small : goal.scaled-requires-clause-small
scaled-requires-clause-small c =
    let fits_coef : FitsSigned w64 c.args.coef = search rules in
    let fits_shift : FitsSigned w32 c.args.shift = search rules in
    let fits_max : FitsSigned w32 c.max.result = search rules in
    let fits_near : FitsSigned w32 c.min-near.result = search rules in
    let coef : c.into.result ≡ unsigned_abs c.args.coef = c.into.ensures ∙ simp to_z-of_z at c.unsigned_abs.ensures.value in
    let most : c.max.result ≡ int_max c.args.shift (negsuc 30) = simp to_z-of_z at c.max.ensures.value in
    let shift : c.min-near.result ≡ near c.args.shift = rw most at simp to_z-of_z at c.min-near.ensures.value in
    let top = shifted (unsigned_abs c.args.coef) 30 30 (near c.args.shift) c.requires.coef (near_range c.args.shift).1 in
    simp to_z-of_z (rw (coef, shift) (omega (arith, top)))

pub returns : goal.returns
returns c =
    let fits_coef : FitsSigned w64 c.args.coef = search rules in
    let fits_den : FitsSigned w64 c.args.den = search rules in
    let fits_shift : FitsSigned w32 c.args.shift = search rules in
    let fits_max : FitsSigned w32 c.max.result = search rules in
    let fits_near : FitsSigned w32 c.min-near.result = search rules in
    let coef : c.into.result ≡ unsigned_abs c.args.coef = c.into.ensures ∙ simp to_z-of_z at c.unsigned_abs.ensures.value in
    let most : c.max.result ≡ int_max c.args.shift (negsuc 30) = simp to_z-of_z at c.max.ensures.value in
    let shift : c.min-near.result ≡ near c.args.shift = rw most at simp to_z-of_z at c.min-near.ensures.value in
    let numerator : c.scaled.result ≡ unsigned_abs c.args.coef * up (near c.args.shift) =
    rw (coef, shift) at simp to_z-of_z at c.scaled.ensures in
    let denominator : c.units.result ≡ unsigned_abs c.args.den * down (near c.args.shift) =
    rw shift at simp to_z-of_z at c.units.ensures.value in
    rw (numerator, denominator) (near_whole c.args.den c.args.shift c.args.coef c.requires.positive c.requires.small c.requires.coef)
