use Rattle.std.proofs.Common.{refl}
use Rattle.opgen_top.proofs.vectors.run_stimulus.Goals as goal

pub returns : goal.returns
returns c = record {
  rows = c.in_ok-text.text.items;
  run = c.in_ok-text.ensures;
  answer = rw (c.in_ok-with_file.ensures, c.in_ok-copy.ensures, c.in_ok-name.ensures, c.as_str.ensures) refl;
}
