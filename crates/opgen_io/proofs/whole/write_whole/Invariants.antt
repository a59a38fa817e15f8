-- The bytes that are done were appended.
use Rattle.std.proofs.Common.{◌≤◌, length, take}
use Rattle.std.specs.Io.KnownBytes.{Appends}
use Rattle.opgen_io.proofs.whole.write_whole.Given as goal

abbrev pub invariant-writes : goal.invariant-writes
invariant-writes g l = record {
  within : l.done ≤ length l.bytes;
  appended : Appends (g.W.Write.contents l.fn.out) (g.W.Write.contents l.out) (take l.done l.bytes);
}
