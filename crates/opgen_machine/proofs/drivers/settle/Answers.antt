use Rattle.std.proofs.Common.{◌≡◌, ℕ, ◌<◌, ◌≤◌, List, length, take, get_or, Some, sym, ap, ◌∙◌, subst, arith}
use Rattle.std.specs.Prelude.{slice_get}
use Rattle.std.proofs.lemmas.List.{take_all, take_more}
use Rattle.std.proofs.lemmas.Option.{slice_get-get_or}
use Rattle.std.proofs.lemmas.Slice.Zip.{AllZip-long}
use Rattle.opgen_design.specs.declared.design.Driver.{Driver}
use Rattle.opgen_design.specs.Sound.{target}
use Rattle.opgen_machine.specs.Layout.{spots_of}
use Rattle.opgen_machine.specs.Programs.{Spots}
use Rattle.opgen_machine.specs.Laid.{HasRoom}
use Rattle.opgen_machine.specs.Settles.{Agrees, IsThere, Settles}
use Rattle.opgen_machine.proofs.Settling.{agrees-same, settles-more, settles-none, there-same, zip-at}
use Rattle.opgen_machine.proofs.drivers.settle.Goals as goal

in-list : (ks : List Driver) (order : List ℕ) (p : ℕ) → p < length order → ((p i : ℕ) → slice_get order p ≡ Some i → i < length ks)
    → get_or order p 0 < length ks
in-list ks order p l h = h p (get_or order p 0) (slice_get-get_or order p 0 l)

at-place : (ks : List Driver) (order : List ℕ) (p : ℕ) (k : Driver) → p < length order
    → ((p i : ℕ) → slice_get order p ≡ Some i → i < length ks) → k ≡ get_or ks (get_or order p 0) k
    → slice_get ks (get_or order p 0) ≡ Some k
at-place ks order p k l h e = slice_get-get_or ks (get_or order p 0) k (in-list ks order p l h) ∙ ap Some (sym e)

pub bounds-drivers-place : goal.bounds-drivers-place
bounds-drivers-place c = in-list c.args.drivers.now c.args.order.now c.loop-place.place-index c.loop-place-test.true c.requires.places

pub bounds-tables-place : goal.bounds-tables-place
bounds-tables-place c =
    let l = in-list c.args.drivers.now c.args.order.now c.loop-place.place-index c.loop-place-test.true c.requires.places in
    omega (arith, l, AllZip-long (HasRoom c.args.base) c.args.drivers.now c.args.tables.now c.requires.room)

pub loop-place-init : goal.loop-place-init
loop-place-init c = λ low. settles-none low c.args.base c.args.drivers.now c.args.tables.now
    (spots_of c.args.spots.now) c.args.steps.now.items c.requires.first c.requires.spots

pub put-requires-clause-spots : goal.put-requires-clause-spots
put-requires-clause-spots c = (c.loop-place.invariant 0).are

pub put-requires-clause-fine : goal.put-requires-clause-fine
put-requires-clause-fine c = (c.loop-place.invariant 0).fine

pub put-requires-clause-agrees : goal.put-requires-clause-agrees
put-requires-clause-agrees c =
    let first : Spots = spots_of c.args.spots.now in
    let spots : Spots = spots_of c.loop-place.spots in
    let ks = c.args.drivers.now in
    let i = get_or c.args.order.now c.loop-place.place-index 0 in
    let k = c.index-drivers-place.result in
    let h = c.loop-place.invariant 0 in
    let l = in-list ks c.args.order.now c.loop-place.place-index c.loop-place-test.true c.requires.places in
    agrees-same first spots (sym h.signals) (sym h.ports) k (subst (Agrees first) (sym c.index-drivers-place.is) (c.requires.agrees i k l))

pub put-requires-clause-there : goal.put-requires-clause-there
put-requires-clause-there c =
    let first : Spots = spots_of c.args.spots.now in
    let spots : Spots = spots_of c.loop-place.spots in
    let ks = c.args.drivers.now in
    let i = get_or c.args.order.now c.loop-place.place-index 0 in
    let k = c.index-drivers-place.result in
    let h = c.loop-place.invariant 0 in
    let l = in-list ks c.args.order.now c.loop-place.place-index c.loop-place-test.true c.requires.places in
    there-same first spots (sym h.signals) (sym h.ports) (target k)
    (subst (λ x. IsThere first (target x)) (sym c.index-drivers-place.is) (c.requires.there i k l))

pub put-requires-clause-room : goal.put-requires-clause-room
put-requires-clause-room c =
    let ks = c.args.drivers.now in
    let i = get_or c.args.order.now c.loop-place.place-index 0 in
    let k = c.index-drivers-place.result in
    zip-at (HasRoom c.args.base) ks c.args.tables.now i k 0 c.requires.room
    (at-place ks c.args.order.now c.loop-place.place-index k c.loop-place-test.true c.requires.places c.index-drivers-place.is)

pub loop-place-preserved : goal.loop-place-preserved
loop-place-preserved c =
    let first : Spots = spots_of c.args.spots.now in
    let spots : Spots = spots_of c.loop-place.spots in
    let later : Spots = spots_of c.put.new.spots in
    let ks = c.args.drivers.now in
    let order = c.args.order.now in
    let p = c.loop-place.place-index in
    let i = get_or order p 0 in
    let k = c.index-drivers-place.result in
    let l = in-list ks order p c.loop-place-test.true c.requires.places in
    let at = at-place ks order p k c.loop-place-test.true c.requires.places c.index-drivers-place.is in
    λ low.
    let h = c.loop-place.invariant low in
    let agrees = agrees-same first spots (sym h.signals) (sym h.ports) k
    (subst (Agrees first) (sym c.index-drivers-place.is) (c.requires.agrees i k l)) in
    subst (λ o. Settles low c.args.base ks c.args.tables.now o first c.put.new.steps.items later)
    (sym (take_more order p 0 c.loop-place-test.true))
    (settles-more low c.args.base ks c.args.tables.now (take p order) first c.loop-place.steps.items c.put.new.steps.items spots later i k
    h at agrees (c.in_ok-put.ensures low))

pub returns : goal.returns
returns c =
    let first : Spots = spots_of c.args.spots.now in
    let spots : Spots = spots_of c.loop-place.spots in
    let order = c.args.order.now in
    let p = c.loop-place.place-index in
    let l : length order ≤ p = omega (arith, c.loop-place-test.false) in
    λ low. subst (λ o. Settles low c.args.base c.args.drivers.now c.args.tables.now o first c.loop-place.steps.items spots)
    (take_all p order l) (c.loop-place.invariant low)
