use Rattle.std.proofs.Common.{◌≡◌, ◌+◌, ◌≤◌, drop}
use Rattle.opgen_ports.specs.OddParts.{odd_part_count}
use Rattle.opgen_ports.proofs.odd_parts.odd_part_count.Given as goal

abbrev pub invariant-numbers : goal.invariant-numbers
invariant-numbers l = record {
  value : l.count + odd_part_count (drop l.number-index l.numbers) ≡ odd_part_count l.numbers;
  bound : l.count ≤ l.number-index;
  place : l.place ≡ l.number-index;
}
