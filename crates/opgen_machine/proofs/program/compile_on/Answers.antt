use Rattle.std.proofs.Common.{◌≡◌, ◌+◌, List, length, map, get_or, sym, ap, ◌∙◌, subst, arith}
use Rattle.std.specs.Prelude.{All}
use Rattle.std.proofs.lemmas.List.{length-map}
use Rattle.opgen_design.specs.declared.design.Driver.{Driver}
use Rattle.opgen_design.specs.Run.{at_ports, is_out}
use Rattle.opgen_design.specs.Sound.{signal_widths, target}
use Rattle.opgen_machine.specs.declared.step.Spot.{Spot}
use Rattle.opgen_machine.specs.Programs.{AreSpots, Spots, widths_of}
use Rattle.opgen_machine.specs.declared.program.Program.{Program}
use Rattle.opgen_machine.specs.Layout.{first_spots, rest_of, spots_of}
use Rattle.opgen_machine.specs.Moves.{HandsOn}
use Rattle.opgen_machine.specs.Settles.{Agrees, IsThere, Settles}
use Rattle.opgen_machine.proofs.Compiled.{all-agree, all-there, in-drivers, program-of}
use Rattle.opgen_machine.proofs.First.{are-first, enable-first, first-ports, first-signals, length-from}
use Rattle.opgen_machine.proofs.Settling.{agrees-same, there-same}
use Rattle.opgen_machine.proofs.program.compile_on.Goals as goal

pub settle-requires-clause-spots : goal.settle-requires-clause-spots
settle-requires-clause-spots c =
    let d = c.args.design.now in
    let e = c.requires.spots in
    subst (AreSpots c.args.base) (sym e) (are-first d c.requires.flat c.args.base c.requires.behind)

pub settle-requires-clause-places : goal.settle-requires-clause-places
settle-requires-clause-places c = λ p i e.
    let l = in-drivers c.args.design.now c.requires.sound c.args.order.now c.requires.order p i e in
    omega (arith, l, ap length c.as_slice-drivers.ensures)

pub settle-requires-clause-agrees : goal.settle-requires-clause-agrees
settle-requires-clause-agrees c =
    let d = c.args.design.now in
    let e = c.requires.spots in
    subst (λ ks. All (Agrees (spots_of c.args.spots.now)) ks) (sym c.as_slice-drivers.ensures)
    (subst (λ s. All (Agrees s) d.drivers) (sym e) (all-agree d c.requires.sound c.requires.flat))

pub settle-requires-clause-there : goal.settle-requires-clause-there
settle-requires-clause-there c =
    let d = c.args.design.now in
    let e = c.requires.spots in
    subst (λ ks. All (λ (k : Driver). IsThere (spots_of c.args.spots.now) (target k)) ks)
    (sym c.as_slice-drivers.ensures)
    (subst (λ s. All (λ (k : Driver). IsThere s (target k)) d.drivers) (sym e) (all-there d c.requires.sound c.requires.flat))

length-widths : (a b : List Spot) → widths_of a ≡ widths_of b → length a ≡ length b
length-widths a b e = sym (length-map a (λ (s : Spot). s.width)) ∙ ap length e ∙ length-map b (λ (s : Spot). s.width)

pub moves-requires-clause-spots : goal.moves-requires-clause-spots
moves-requires-clause-spots c = (c.in_ok-settle.ensures 0).are

pub moves-requires-clause-fine : goal.moves-requires-clause-fine
moves-requires-clause-fine c = (c.in_ok-settle.ensures 0).fine

pub moves-requires-clause-first : goal.moves-requires-clause-first
moves-requires-clause-first c =
    let d = c.args.design.now in
    let n = length-widths c.settle.new.spots.signals.items c.args.spots.now.signals.items (c.in_ok-settle.ensures 0).signals in
    omega (arith, n, ap (λ (s : Spots). length s.signals) c.requires.spots, length-from 0 (signal_widths d), length-map d.signals (λ x. x.width), c.requires.behind)

pub moves-requires-clause-agrees : goal.moves-requires-clause-agrees
moves-requires-clause-agrees c =
    let d = c.args.design.now in
    let spots : Spots = spots_of c.settle.new.spots in
    let s = c.in_ok-settle.ensures 0 in
    let e = s.signals ∙ ap (λ (s : Spots). widths_of s.signals) c.requires.spots in
    let f = s.ports ∙ ap (λ (s : Spots). widths_of s.ports) c.requires.spots in
    let all : All (Agrees spots) d.drivers = λ i x l. agrees-same (first_spots d) spots (sym e) (sym f) (get_or d.drivers i x)
    (all-agree d c.requires.sound c.requires.flat i x l) in
    subst (λ ks. All (Agrees spots) ks) (sym c.as_slice-drivers.ensures) all

pub moves-requires-clause-there : goal.moves-requires-clause-there
moves-requires-clause-there c =
    let d = c.args.design.now in
    let spots : Spots = spots_of c.settle.new.spots in
    let s = c.in_ok-settle.ensures 0 in
    let e = s.signals ∙ ap (λ (s : Spots). widths_of s.signals) c.requires.spots in
    let f = s.ports ∙ ap (λ (s : Spots). widths_of s.ports) c.requires.spots in
    let all : All (λ (k : Driver). IsThere spots (target k)) d.drivers = λ i x l. there-same (first_spots d) spots (sym e) (sym f)
    (target (get_or d.drivers i x)) (all-there d c.requires.sound c.requires.flat i x l) in
    subst (λ ks. All (λ (k : Driver). IsThere spots (target k)) ks) (sym c.as_slice-drivers.ensures) all

pub moves-requires-clause-enable : goal.moves-requires-clause-enable
moves-requires-clause-enable c =
    let d = c.args.design.now in
    let spots : Spots = spots_of c.settle.new.spots in
    enable-first d c.requires.flat c.requires.sound spots ((c.in_ok-settle.ensures 0).ports ∙ ap (λ (s : Spots). widths_of s.ports) c.requires.spots ∙ first-ports d)

pub output_places-requires : goal.output_places-requires
output_places-requires c =
    let d = c.args.design.now in
    let f = (c.in_ok-settle.ensures 0).ports ∙ ap (λ (s : Spots). widths_of s.ports) c.requires.spots ∙ first-ports d in
    ap length c.deref.ensures.value ∙ sym (length-map c.settle.new.spots.ports.items (λ (s : Spot). s.width)) ∙ ap length f ∙ length-map d.ports (λ x. x.width)
    ∙ sym (ap length c.as_slice.ensures)

pub returns : goal.returns
returns c =
    let d = c.args.design.now in
    let base = c.args.base in
    let tables = c.args.tables.now in
    let order = c.args.order.now in
    let spots : Spots = spots_of c.settle.new.spots in
    let mid = c.settle.new.steps.items in
    let p : Program = record { steps = c.moves.new.steps; moves = c.in_ok-moves.moves; outputs = c.in_ok-outputs.outputs } in
    let e = c.requires.spots in
    let low = rest_of d + 1 in
    let ks = c.as_slice-drivers.ensures in
    let s = subst (λ k. Settles low base k tables order (first_spots d) mid spots) ks
    (subst (λ f. Settles low base c.as_slice-drivers.result.now tables order f mid spots) e (c.in_ok-settle.ensures low)) in
    let w = s.signals ∙ first-signals d in
    let h = subst (λ k. HandsOn base spots d.enable (signal_widths d) k mid p.steps.items p.moves.items) ks
    (subst (λ x. HandsOn base spots d.enable x c.as_slice-drivers.result.now mid p.steps.items p.moves.items) w c.in_ok-moves.ensures)
    in
    let outputs = c.in_ok-outputs.ensures
    ∙ ap (λ ss. map (λ (x : Spot). x.place) (at_ports is_out c.as_slice.result.now ss)) c.deref.ensures.value
    ∙ ap (λ qs. map (λ (x : Spot). x.place) (at_ports is_out qs c.settle.new.spots.ports.items)) c.as_slice.ensures in
    program-of d c.requires.sound c.requires.flat order c.requires.order base c.requires.behind tables spots mid p s h outputs
