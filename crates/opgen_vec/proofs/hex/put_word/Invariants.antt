use Rattle.std.proofs.Common.{◌≡◌, ◌+◌, ◌≤◌, ◌++◌}
use Rattle.std.specs.Prelude.{vec_len, vec_capacity}
use Rattle.opgen_vec.specs.Rows.{word_text, hex_text}
use Rattle.opgen_vec.proofs.hex.put_word.Given as goal

abbrev pub invariant-places : goal.invariant-places
invariant-places l = record {
  text : l.fn.out.items ++ word_text l.fn.width l.fn.cell ≡ l.out.items ++ hex_text l.place l.fn.cell;
  room : vec_len l.out + l.place ≤ vec_capacity l.out;
}

abbrev pub decreases-places : goal.decreases-places
decreases-places l = l.place
