use Rattle.std.proofs.Common.{◌≡◌, take}
use Rattle.opgen_schedule.proofs.lasts.copied.Given as goal

abbrev pub invariant-items : goal.invariant-items
invariant-items l = l.found.items ≡ take l.item-index l.items
