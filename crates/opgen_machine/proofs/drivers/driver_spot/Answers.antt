use Rattle.std.proofs.Common.{◌≡◌, ◌≤◌, ℕ, Bool, List, length, sym, ◌∙◌, subst}
use Rattle.opgen_design.specs.declared.design.Driver.TheVariants.{Table}
use Rattle.opgen_design.specs.declared.design.Target.TheVariants.{Signal as signal}
use Rattle.opgen_design.specs.Sound.{target}
use Rattle.opgen_design.specs.Tree.{bits}
use Rattle.opgen_runs.specs.Tables.{Row}
use Rattle.opgen_machine.specs.Emit.{Emitted}
use Rattle.opgen_machine.specs.Laid.{HasRoom}
use Rattle.opgen_machine.specs.Layout.{spots_of}
use Rattle.opgen_machine.specs.Programs.{Spots}
use Rattle.opgen_machine.specs.Settles.{Agrees, AgreesTable, Leaves, width_at}
use Rattle.opgen_machine.proofs.Driven.{if-ok, none-driver, none-of, not-empty, other-narrow, rows-driver, rows-narrow, rows-room}
use Rattle.opgen_machine.proofs.drivers.driver_spot.Goals as goal

pub constant-requires-clause-fits : goal.constant-requires-clause-fits
constant-requires-clause-fits c =
    let spots : Spots = spots_of c.args.spots.now in
    let a = subst (Agrees spots) c.in-Table.is c.requires.agrees in
    (other-narrow spots c.in-Table.on c.in-Table.rows c.in-Table.other (width_at spots (signal c.in-Table.to)) a).1

pub row_spot-requires-clause-on : goal.row_spot-requires-clause-on
row_spot-requires-clause-on c =
    let spots : Spots = spots_of c.args.spots.now in
    let a = subst (Agrees spots) c.in-Table.is c.requires.agrees in
    rows-narrow spots c.in-Table.on c.in-Table.rows c.in-Table.other (width_at spots (signal c.in-Table.to)) a
    (subst (λ rows. 1 ≤ length rows) c.as_slice.ensures (not-empty (length c.as_slice.result.now) c.if-is_empty.ensures))

pub row_spot-requires-clause-room : goal.row_spot-requires-clause-room
row_spot-requires-clause-room c =
    let spots : Spots = spots_of c.args.spots.now in
    let a = subst (Agrees spots) c.in-Table.is c.requires.agrees in
    rows-room c.args.base spots c.in-Table.to c.in-Table.on c.in-Table.rows c.in-Table.other (width_at spots (signal c.in-Table.to)) c.args.from a
    (subst (λ rows. 1 ≤ length rows) c.as_slice.ensures (not-empty (length c.as_slice.result.now) c.if-is_empty.ensures))
    (subst (λ k. HasRoom c.args.base k c.args.from) c.in-Table.is c.requires.room)

pub returns-then-is_empty : goal.returns-then-is_empty
returns-then-is_empty c =
    let base = c.args.base in
    let spots : Spots = spots_of c.args.spots.now in
    let before = c.args.steps.now.items in
    let after = c.constant.new.steps.items in
    let k = c.args.driver.now in
    let other = c.in-Table.other in
    let none = sym c.as_slice.ensures ∙ none-of c.as_slice.result.now c.if-is_empty.ensures in
    if-ok c.constant.result (Emitted base spots (bits other) before after)
    (λ s. (low : ℕ) → Leaves low base spots k c.args.from (width_at spots (target k)) before after s)
    (λ s h low. none-driver low base spots k c.in-Table.to c.in-Table.on c.in-Table.rows other c.args.from before after s c.in-Table.is
    c.requires.agrees none h)
    c.constant.ensures

pub returns-else-is_empty : goal.returns-else-is_empty
returns-else-is_empty c =
    let base = c.args.base in
    let spots : Spots = spots_of c.args.spots.now in
    let before = c.args.steps.now.items in
    let after = c.row_spot.new.steps.items in
    let k = c.args.driver.now in
    let on = c.in-Table.on in
    let rows = c.in-Table.rows in
    let other = c.in-Table.other in
    let size = c.width.result in
    let some = subst (λ r. 1 ≤ length r) c.as_slice.ensures (not-empty (length c.as_slice.result.now) c.if-is_empty.ensures) in
    if-ok c.row_spot.result
    (λ s. (low : ℕ) (rows : List Row) (other : List Bool) → 1 ≤ length rows → length other ≡ size → AgreesTable spots on rows other size
    → Leaves low base spots (Table 0 on rows other) c.args.from size before after s)
    (λ s. (low : ℕ) → Leaves low base spots k c.args.from (width_at spots (target k)) before after s)
    (λ s h low. rows-driver low base spots k c.in-Table.to on rows other c.args.from size before after s c.in-Table.is c.requires.agrees
    c.width.ensures (h low rows other some))
    c.row_spot.ensures
