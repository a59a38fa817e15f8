use Rattle.std.proofs.Common.{sym, ◌∙◌}
use Rattle.opgen_top.proofs.Chosen.{fixed_chosen, none_chosen, table_chosen}
use Rattle.opgen_top.proofs.targets.choose_target.Goals as goal

pub returns-in_default-clause-refused : goal.returns-in_default-clause-refused
returns-in_default-clause-refused g c =
    none_chosen _ _ _ c.args.spec.now c.args.targets.items c.as_str.result.now c.as_str.ensures c.first_of_name.result c.in_default.not-Some c.first_of_name.ensures

pub returns-then-takes_all-clause-table : goal.returns-then-takes_all-clause-table
returns-then-takes_all-clause-table g c =
    table_chosen _ _ _ c.args.spec.now c.args.targets.items c.as_str.result.now c.as_str.ensures c.in-Some.target c.in-Some.ensures c.as_slice.result.now c.as_slice.ensures
    (sym c.if-takes_all.true ∙ c.takes_all.ensures.takes) _ (c.takes_all.ensures.tuned c.if-takes_all.true)

pub returns-else-takes_all-clause-refused : goal.returns-else-takes_all-clause-refused
returns-else-takes_all-clause-refused g c =
    fixed_chosen _ _ _ c.args.spec.now c.args.targets.items c.as_str.result.now c.as_str.ensures c.in-Some.target c.in-Some.ensures c.as_slice.result.now c.as_slice.ensures
    (sym c.if-takes_all.false ∙ c.takes_all.ensures.takes)
