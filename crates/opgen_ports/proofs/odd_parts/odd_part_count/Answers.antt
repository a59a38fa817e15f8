use Rattle.std.proofs.Common.{◌+◌, ◌-◌, length, drop}
use Rattle.std.proofs.lemmas.List.Elements.{All-take, All-drop}
use Rattle.opgen_ports.specs.Ranges.{IsWithin}
use Rattle.opgen_ports.proofs.odd_parts.odd_part_count.Goals as goal

pub has_part_alone-requires-clause-others : goal.has_part_alone-requires-clause-others
has_part_alone-requires-clause-others c =
    let numbers = c.args.numbers.now in
    let past = c.numbers.place + 1 in
    All-take (IsWithin 2047) (length numbers - past) (drop past numbers) (All-drop (IsWithin 2047) past numbers c.requires.small)
