use Rattle.std.proofs.Common.{◌≡◌, ◌++◌, drop, string_bytes}
use Rattle.std.specs.List.{flat_map}
use Rattle.opgen_report.specs.Report.{member_text}
use Rattle.opgen_report.proofs.parts.put_members.Given as goal

abbrev pub invariant-loop-member : goal.invariant-loop-member
invariant-loop-member l =
    string_bytes l.out ++ flat_map member_text (drop l.member-index l.set)
    ≡ string_bytes l.initial.out ++ flat_map member_text l.set
