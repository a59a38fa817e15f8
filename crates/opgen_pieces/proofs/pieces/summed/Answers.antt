use Rattle.std.proofs.Common.{◌≡◌, ◌-◌, suc, drop, sym, ◌∙◌, subst, arith, true, false}
use Rattle.std.specs.Prelude.{slice_index_or}
use Rattle.opgen_net.specs.declared.word_bits.WordBit.TheVariants.{Zero}
use Rattle.opgen_pieces.specs.Recipe.{is_passed}
use Rattle.opgen_pieces.proofs.Passing.{AllPassed, passed-down, summed-at, summed-none}
use Rattle.opgen_pieces.proofs.pieces.summed.Goals as goal

pub returns-then-not-is_passed : goal.returns-then-not-is_passed
returns-then-not-is_passed c =
    let m = c.args.is_minus in
    let first = c.args.first.now in
    let second = c.args.second.now in
    let j = c.passed.left - 1 in
    let next : suc j ≡ c.passed.left = omega (arith, c.passed-test.true) in
    let no : is_passed m (slice_index_or first j Zero) (slice_index_or second j Zero) ≡ false =
    sym c.is_passed.ensures ∙ c.if-not-is_passed.true in
    sym next
    ∙ sym (summed-at m j first second c.requires (omega (arith, c.passed-test.true, c.passed.invariant.few))
    (subst (λ n. AllPassed m (drop n first) (drop n second)) (sym next) c.passed.invariant.passed) no)

pub passed-preserved : goal.passed-preserved
passed-preserved c =
    let m = c.args.is_minus in
    let first = c.args.first.now in
    let second = c.args.second.now in
    let j = c.passed.left - 1 in
    let next : suc j ≡ c.passed.left = omega (arith, c.passed-test.true) in
    let yes : is_passed m (slice_index_or first j Zero) (slice_index_or second j Zero) ≡ true =
    sym c.is_passed.ensures ∙ c.if-not-is_passed.false in
    record {
      few = omega (arith, c.passed.invariant.few);
      passed =
          passed-down m j first second c.requires (omega (arith, c.passed-test.true, c.passed.invariant.few))
          (subst (λ n. AllPassed m (drop n first) (drop n second)) (sym next) c.passed.invariant.passed) yes;
    }

pub returns : goal.returns
returns c =
    let m = c.args.is_minus in
    let first = c.args.first.now in
    let second = c.args.second.now in
    let none = c.passed.left in
    let zero : none ≡ 0 = omega (arith, c.passed-test.false) in
    sym (summed-none m first second (subst (λ n. AllPassed m (drop n first) (drop n second)) zero c.passed.invariant.passed))
