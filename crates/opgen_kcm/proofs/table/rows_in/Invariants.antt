use Rattle.std.proofs.Common.{◌≡◌, ◌/◌, ◌^◌, map, take}
use Rattle.opgen_num.specs.Words.{word}
use Rattle.opgen_kcm.proofs.table.rows_in.Given as goal

abbrev pub invariant-rows : goal.invariant-rows
invariant-rows l = l.rows.items ≡ map (λ n. word l.shape.width (n / 2 ^ l.shape.zeros)) (take l.offset-index l.offsets)
