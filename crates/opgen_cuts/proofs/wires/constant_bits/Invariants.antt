use Rattle.std.proofs.Common.{◌≡◌, ◌-◌, ◌++◌, length, map}
use Rattle.opgen_num.specs.Words.{word}
use Rattle.opgen_cuts.specs.Wires.{constant_bit}
use Rattle.opgen_cuts.proofs.wires.constant_bits.Given as goal

-- the bits that are left come last
abbrev pub invariant-places : goal.invariant-places
invariant-places l = record {
  bits : l.bits.items ++ map constant_bit (word (l.place-end - l.place) l.rest) ≡ map constant_bit l.fn.word;
  end : l.place-end ≡ length l.fn.word;
}
