use Rattle.std.proofs.Common.{◌≡◌, ◌+◌, suc, [], ◌∷◌, ◌++◌, ap, ◌∙◌, arith, rules}
use Rattle.opgen_num.specs.Words.{word}
use Rattle.opgen_constdiv.specs.Rows.{row, rows_below}
use Rattle.opgen_constdiv.proofs.TableRows.{row-below}
use Rattle.opgen_constdiv.proofs.rows.rows.Goals as goal

pub new-requires : goal.new-requires
new-requires c =
    rw (c.row.ensures, c.from.ensures) (omega (arith, row-below c.args.divisor c.requires.small c.addresses.address))

pub addresses-preserved : goal.addresses-preserved
addresses-preserved c =
    let address = c.addresses.address in
    let next : suc address ≡ address + 1 = omega arith in
    let more : c.push.new.self.items ≡ c.addresses.rows.items ++ word 6 (row c.args.divisor address) ∷ [] = search rules in
    more ∙ ap (λ rs. rs ++ word 6 (row c.args.divisor address) ∷ []) c.addresses.invariant ∙ ap (rows_below c.args.divisor) next

pub returns : goal.returns
returns c =
    let end : c.addresses.address ≡ 64 = omega (arith, c.addresses-test.false, c.addresses.auto.address-end) in
    c.addresses.invariant ∙ ap (rows_below c.args.divisor) end
