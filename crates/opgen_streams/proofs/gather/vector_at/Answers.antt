use Rattle.std.proofs.Common.{◌≡◌, ◌+◌, [], get_or, ap, ◌∙◌, arith}
use Rattle.std.specs.Int.{bit_at}
use Rattle.std.proofs.lemmas.Simd.{Each1-get_or}
use Rattle.opgen_streams.proofs.Gathered.{bits_none, bits_more}
use Rattle.opgen_streams.proofs.gather.vector_at.Goals as goal
use mir.Syntax.{w64}
use mir.Val.{Fits}

pub rows-init : goal.rows-init
rows-init c = record { within = omega arith; bits = λ i j lane within. bits_none c.args.words.now c.args.place i j lane }

pub rows-preserved : goal.rows-preserved
rows-preserved c = record {
  within = omega (arith, c.rows.invariant.within);
  bits = bits_more c.args.words.now _ _ _ c.rows.left c.rows-test.true c.with_bits-vector.ensures.lowest c.with_bits-vector.ensures.above
      c.rows.invariant.bits;
}

pub returns-clause-bits : goal.returns-clause-bits
returns-clause-bits c i j lane within =
    let first : c.rows.left + j ≡ j = omega arith in
    c.rows.invariant.bits i j lane within ∙ ap (λ n. bit_at (get_or (get_or c.args.words.now n []) i 0) c.args.place) first

pub returns-clause-small : goal.returns-clause-small
returns-clause-small c i lane =
    (Each1-get_or (Fits w64) c.rows.vector i 0 (omega (arith, lane, c.rows.auto.vector.0)) c.rows.auto.vector.1).fits
