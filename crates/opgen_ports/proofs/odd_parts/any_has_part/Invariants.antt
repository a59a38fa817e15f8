use Rattle.std.proofs.Common.{◌≡◌, drop}
use Rattle.std.specs.List.{list_any}
use Rattle.opgen_ports.specs.OddParts.{has_part}
use Rattle.opgen_ports.proofs.odd_parts.any_has_part.Given as goal

abbrev pub invariant-numbers : goal.invariant-numbers
invariant-numbers l = list_any (has_part l.part) (drop l.number-index l.numbers) ≡ list_any (has_part l.part) l.numbers
