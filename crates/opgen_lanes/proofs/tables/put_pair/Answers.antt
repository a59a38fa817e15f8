use Rattle.std.proofs.Common.{◌≡◌, ◌<◌, ◌+◌, ◌*◌, ◌%◌, ◌||◌, false, [], length, get_or, ap, ◌∙◌, arith}
use Rattle.opgen_num.specs.Words.{digit}
use Rattle.opgen_streams.specs.Streams.{bit_in}
use Rattle.opgen_lanes.proofs.PairWords.{lowest-left, next-left, one-more-bit, still-zeros, way-of}
use Rattle.opgen_lanes.proofs.tables.put_pair.Goals as goal

pub loop-place-preserved : goal.loop-place-preserved
loop-place-preserved c =
    let first = c.args.first in
    let second = c.args.second in
    let place = c.loop-place.place in
    let out = c.loop-place.out in
    let added = c.either.result in
    let old = c.loop-place.invariant in
    let within : place < length out = omega arith in
    let in_first : place < length first = omega (arith, c.requires.first) in
    let in_second : place < length second = omega (arith, c.requires.second) in
    let bit_one = get_or first place false in
    let bit_two = get_or second place false in
    let way : c.loop-place.ones % 2 + 2 * (c.loop-place.twos % 2) ≡ digit bit_one + 2 * digit bit_two = omega
    (arith, lowest-left first place c.loop-place.ones in_first old.ones, lowest-left second place c.loop-place.twos in_second old.twos) in
    record {
      ones = next-left first place c.loop-place.ones in_first old.ones;
      twos = next-left second place c.loop-place.twos in_second old.twos;
      zeros = λ k h e.
          still-zeros (bit_in c.args.here k) (bit_in c.args.low k) first second out place k added within (old.zeros k h) e;
      words = λ k h.
          one-more-bit (bit_in c.args.here k) (bit_in c.args.low k) first second out place k added within (old.zeros k h) in_first in_second
          (c.either.ensures k h
          ∙ ap (λ b. bit_in (get_or out place []) k || b)
          (ap (λ n. bit_in (get_or c.ways-ways.result n []) k) way
          ∙ way-of bit_one bit_two (bit_in c.args.here k) (bit_in c.args.low k) c.ways-ways.result k (c.ways-ways.ensures k h)))
          ∙ old.words k h;
    }
