use Rattle.std.proofs.Common.{arith}
use Rattle.opgen_vec.proofs.Writing.{digit_more}
use Rattle.opgen_vec.proofs.hex.put_word.Goals as goal

pub places-preserved : goal.places-preserved
places-preserved c = record {
  text = digit_more _ _ _ _ _ _ _ c.places.invariant.text c.places-test.true c.push_reserved.ensures.items c.digit_char.ensures
      c.digit_at.ensures;
  room = omega (arith, c.push_reserved.ensures.len, c.push_reserved.ensures.capacity, c.places.invariant.room, c.places-test.true);
}
