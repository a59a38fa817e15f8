use Rattle.std.proofs.Common.{◌≡◌, ◌+◌, suc, [], ◌∷◌, ◌++◌, ap, ◌∙◌, arith, rules}
use Rattle.opgen_num.specs.Words.{word}
use Rattle.opgen_gpc.specs.Recipe.{counted_at, rows_below}
use Rattle.opgen_gpc.proofs.rows.rows.Goals as goal

pub addresses-preserved : goal.addresses-preserved
addresses-preserved c =
    let address = c.addresses.address in
    let next : suc address ≡ address + 1 = omega arith in
    let more : c.push.new.self.items ≡ c.addresses.rows.items ++ word 3 (counted_at c.args.twice address) ∷ [] = search rules in
    more ∙ ap (λ rs. rs ++ word 3 (counted_at c.args.twice address) ∷ []) c.addresses.invariant ∙ ap (rows_below c.args.twice) next
