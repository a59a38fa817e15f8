use Rattle.std.proofs.Common.{◌≡◌, ℕ, ◌+◌, ◌^◌, ◌≤◌, Bool, List, length, sym, subst}
use Rattle.std.specs.Prelude.{IfSome}
use Rattle.opgen_design.specs.declared.design.Driver.TheVariants.{Table}
use Rattle.opgen_design.specs.Plain.{plain}
use Rattle.opgen_runs.specs.Tables.{Row}
use Rattle.opgen_machine.specs.Emit.{IsNarrow, Looked, width_over}
use Rattle.opgen_machine.specs.Layout.{spots_of}
use Rattle.opgen_machine.specs.Programs.{Spots}
use Rattle.opgen_machine.specs.Settles.{AgreesTable, Leaves}
use Rattle.opgen_machine.proofs.Driven.{if-ok, plain-left, rows-leave}
use Rattle.opgen_machine.proofs.drivers.row_spot.Goals as goal

pub emit-requires-clause-fits : goal.emit-requires-clause-fits
emit-requires-clause-fits c = subst (λ e. IsNarrow (width_over (spots_of c.args.spots.now) e)) (sym c.expr.ensures) c.requires.on

pub look_up-requires-clause-narrow : goal.look_up-requires-clause-narrow
look_up-requires-clause-narrow c =
    let spots : Spots = spots_of c.args.spots.now in
    let e = plain-left c.args.base spots (plain c.expr.result.now) c.args.on.now c.args.steps.now.items c.emit.new.steps.items
    c.in_ok-on.on c.expr.ensures c.in_ok-on.ensures in
    subst IsNarrow e.width c.requires.on

pub look_up-requires-clause-numbers : goal.look_up-requires-clause-numbers
look_up-requires-clause-numbers c =
    let spots : Spots = spots_of c.args.spots.now in
    let e = plain-left c.args.base spots (plain c.expr.result.now) c.args.on.now c.args.steps.now.items c.emit.new.steps.items
    c.in_ok-on.on c.expr.ensures c.in_ok-on.ensures in
    subst (λ o. IfSome o (λ w. c.args.from + 2 ^ w ≤ c.args.base)) e.width c.requires.room

pub returns : goal.returns
returns c =
    let base = c.args.base in
    let spots : Spots = spots_of c.args.spots.now in
    let from = c.args.from in
    let width = c.args.width in
    let before = c.args.steps.now.items in
    let mid = c.emit.new.steps.items in
    let after = c.look_up.new.steps.items in
    let on = c.in_ok-on.on in
    let t = c.args.on.now in
    let e = plain-left base spots (plain c.expr.result.now) t before mid on c.expr.ensures c.in_ok-on.ensures in
    if-ok c.look_up.result (Looked base on from width mid after)
    (λ s. (low : ℕ) (rows : List Row) (other : List Bool) → 1 ≤ length rows → length other ≡ width → AgreesTable spots t rows other width
    → Leaves low base spots (Table 0 t rows other) from width before after s)
    (λ s h low rows other some long agrees. subst (λ w. Leaves low base spots (Table 0 t rows other) from w before after s) long
    (rows-leave low base spots t rows other from before mid after on s c.requires.spots
    (subst (AgreesTable spots t rows other) (sym long) agrees) some e (subst (λ w. Looked base on from w mid after s) (sym long) h)))
    c.look_up.ensures
