use Rattle.std.proofs.Common.{◌≡◌, ◌+◌, false, get_or, FitsSigned, arith}
use Rattle.std.specs.Prelude.{pos, unsigned_abs, ◌==◌}
use Rattle.std.specs.Int.{w64}
use Rattle.std.proofs.lemmas.Bool.Decides.{nat_tests}
use Rattle.std.proofs.lemmas.Int.{ints, to_z-of_z}
use Rattle.opgen_tfir.proofs.Zeros.{some-at}
use Rattle.opgen_tfir.proofs.sums.last_tap.Goals as goal

pub returns-else-unsigned_abs-eq0 : goal.returns-else-unsigned_abs-eq0
returns-else-unsigned_abs-eq0 c =
    let taps = c.args.taps.now in
    let last = c.zeros.last in
    let t = get_or taps last (pos 0) in
    let within = c.zeros.invariant.within in
    let few = c.requires.small last (pos 0) within in
    let fits : FitsSigned w64 t = omega (arith, ints, few) in
    let value : c.unsigned_abs.result ≡ unsigned_abs t = simp to_z-of_z at c.unsigned_abs.ensures.value in
    let some = c.if-unsigned_abs-eq0.false in
    let h : (unsigned_abs t == 0) ≡ false = grind (arith, nat_tests, value, some) in
    record { within = within; zeros = c.zeros.invariant.zeros; some = λ k less. some-at taps (k + 1) last (omega (arith, less)) within h }
