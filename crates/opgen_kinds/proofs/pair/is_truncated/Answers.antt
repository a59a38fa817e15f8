use Rattle.std.proofs.Common.{◌≡◌, ◌∙◌, sym, ap, FitsSigned, of_z, to_z, arith}
use Rattle.std.specs.Int.{w128}
use Rattle.std.specs.Prelude.{ℤ, int_div, int_rem}
use Rattle.std.proofs.lemmas.Int.{to_z-of_z, quot_is, rem_is}
use borrow.Author.Tests.{eqb-true, eq-eqb}
use Rattle.opgen_ports.proofs.Magnitudes.{fits_small}
use Rattle.opgen_kinds.proofs.of_kind.Pair.{truncated_is, truncated_only, quotient_small}
use Rattle.opgen_kinds.proofs.pair.is_truncated.Goals as goal

-- the bits of the code's quotient and remainder
abbrev read : ℤ → ℤ
read z = to_z w128 (of_z w128 z)

pub returns-then-q-n : goal.returns-then-q-n
returns-then-q-n c =
    let n = c.args.n in
    let b = c.args.b in
    let q = c.args.q in
    let r = c.args.r in
    let fits_quotient : FitsSigned w128 (int_div n b) = fits_small _ (omega (arith, c.requires.n, quotient_small n b)) in
    let quotient : q ≡ int_div n b = sym (to_z-of_z w128 q c.ranges.q) ∙ ap (to_z w128) c.if-q-n.true
    ∙ quot_is w128 n b c.ranges.n c.ranges.b fits_quotient in (
      (λ t.
          let same : of_z w128 r ≡ of_z w128 (int_rem (read n) (read b)) = omega (arith, eqb-true, t) in
          let rest : r ≡ int_rem n b = sym (to_z-of_z w128 r c.ranges.r) ∙ ap (to_z w128) same ∙ rem_is w128 n b c.ranges.n c.ranges.b in
          rw (quotient, rest) (truncated_is n b c.requires.b)),
      (λ t.
          let rest : r ≡ int_rem n b = (truncated_only n b q r (int_div n b) (int_rem n b) t (truncated_is n b c.requires.b)).1 in
          let fits_n = c.ranges.n in
          let fits_b = c.ranges.b in
          let same : of_z w128 r ≡ of_z w128 (int_rem (read n) (read b)) = simp to_z-of_z (ap (of_z w128) rest) in
          omega (arith, eq-eqb, same)),
    )

pub returns-else-q-n : goal.returns-else-q-n
returns-else-q-n c =
    let n = c.args.n in
    let b = c.args.b in
    let q = c.args.q in
    let r = c.args.r in (
      (λ t. absurd (c.if-q-n.false (omega (arith, eqb-true, t)))),
      (λ t.
          let quotient : q ≡ int_div n b = (truncated_only n b q r (int_div n b) (int_rem n b) t (truncated_is n b c.requires.b)).0 in
          let fits_n = c.ranges.n in
          let fits_b = c.ranges.b in
          let same : of_z w128 q ≡ of_z w128 (int_div (read n) (read b)) = simp to_z-of_z (ap (of_z w128) quotient) in
          absurd (c.if-q-n.false same)),
    )
