use Rattle.std.proofs.Common.{Some, sym, ap, ◌∙◌, arith}
use Rattle.std.proofs.lemmas.List.{length-map}
use Rattle.opgen_design.specs.Plain.{plain}
use Rattle.opgen_runs.proofs.Plain.{plain-name, plain-part, plain-port}
use Rattle.opgen_lanes.specs.Banks.{widths_of}
use Rattle.opgen_lanes.proofs.Fits.{name-read, part-read, port-read}
use Rattle.opgen_lanes.proofs.evaluate.in_place.Goals as goal

pub word-requires-clause-at : goal.word-requires-clause-at
word-requires-clause-at c =
    let r = name-read (widths_of c.args.signals.now) (widths_of c.args.ports.now) (plain c.args.expr.now) c.in-Name.signal
    (ap plain c.in-Name.is ∙ plain-name c.in-Name.signal) c.requires.fits in
    omega (arith, r.there, length-map c.args.signals.now.places.items (λ p. p.width))

pub returns-in-Name-clause-width : goal.returns-in-Name-clause-width
returns-in-Name-clause-width c =
    let r = name-read (widths_of c.args.signals.now) (widths_of c.args.ports.now) (plain c.args.expr.now) c.in-Name.signal
    (ap plain c.in-Name.is ∙ plain-name c.in-Name.signal) c.requires.fits in
    r.is ∙ ap Some (sym c.word.ensures.width)

pub part-requires-clause-node : goal.part-requires-clause-node
part-requires-clause-node c =
    let s = c.in-Part.slice in
    let r = part-read (widths_of c.args.signals.now) (widths_of c.args.ports.now) (plain c.args.expr.now) s.node s.high s.low
    (ap plain c.in-Part.is ∙ plain-part s) c.requires.fits in
    omega (arith, r.there, length-map c.args.signals.now.places.items (λ p. p.width))

pub part-requires-clause-low : goal.part-requires-clause-low
part-requires-clause-low c =
    let s = c.in-Part.slice in
    (part-read (widths_of c.args.signals.now) (widths_of c.args.ports.now) (plain c.args.expr.now) s.node s.high s.low
    (ap plain c.in-Part.is ∙ plain-part s) c.requires.fits).in_order

pub part-requires-clause-high : goal.part-requires-clause-high
part-requires-clause-high c =
    let s = c.in-Part.slice in
    (part-read (widths_of c.args.signals.now) (widths_of c.args.ports.now) (plain c.args.expr.now) s.node s.high s.low
    (ap plain c.in-Part.is ∙ plain-part s) c.requires.fits).within

pub word-requires-in-Port-clause-at : goal.word-requires-in-Port-clause-at
word-requires-in-Port-clause-at c =
    let r = port-read (widths_of c.args.signals.now) (widths_of c.args.ports.now) (plain c.args.expr.now) c.in-Port.place
    (ap plain c.in-Port.is ∙ plain-port c.in-Port.place) c.requires.fits in
    omega (arith, r.there, length-map c.args.ports.now.places.items (λ p. p.width))

pub returns-in-Port-clause-width : goal.returns-in-Port-clause-width
returns-in-Port-clause-width c =
    let r = port-read (widths_of c.args.signals.now) (widths_of c.args.ports.now) (plain c.args.expr.now) c.in-Port.place
    (ap plain c.in-Port.is ∙ plain-port c.in-Port.place) c.requires.fits in
    r.is ∙ ap Some (sym c.word-in-Port.ensures.width)
