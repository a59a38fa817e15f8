use Rattle.std.proofs.Common.{List, ◌++◌, ap, ◌∙◌}
use Rattle.opgen_design.specs.Plain.{plain}
use Rattle.opgen_net.specs.declared.word_bits.WordBit.{WordBit}
use Rattle.opgen_net.specs.WordRule.{bits_from}
use Rattle.opgen_nonrestoring.proofs.Made.{division, bits-require, correction-requires, rest-requires, rest-made}
use Rattle.opgen_nonrestoring.proofs.remainder.Goals as goal

pub cells-requires-clause-class : goal.cells-requires-clause-class
cells-requires-clause-class c =
    let old = c.args.division.now in
    let d = division c.args.net.now old.known old.before old.last old.sum in
    let r = c.requires in
    (bits-require c.args.divisor d r.net r.divisor r.ready (plain c.in_ok-remainder_bits.field-0) c.in_ok-remainder_bits.ensures).0

pub cells-requires-clause-fits : goal.cells-requires-clause-fits
cells-requires-clause-fits c =
    let old = c.args.division.now in
    let d = division c.args.net.now old.known old.before old.last old.sum in
    let r = c.requires in
    (bits-require c.args.divisor d r.net r.divisor r.ready (plain c.in_ok-remainder_bits.field-0) c.in_ok-remainder_bits.ensures).1

pub cells-requires-2-clause-class : goal.cells-requires-2-clause-class
cells-requires-2-clause-class c =
    let old = c.args.division.now in
    let d = division c.args.net.now old.known old.before old.last old.sum in
    let r = c.requires in
    (correction-requires c.args.divisor d r.net r.divisor r.ready (plain c.in_ok-remainder_bits.field-0) c.in_ok-remainder_bits.ensures
    c.cells.new.self c.in_ok-low.low c.in_ok-low.ensures.ok c.in_ok-low.ensures.place (plain c.in_ok-correction.field-0)
    c.in_ok-correction.ensures).0

pub cells-requires-2-clause-fits : goal.cells-requires-2-clause-fits
cells-requires-2-clause-fits c =
    let old = c.args.division.now in
    let d = division c.args.net.now old.known old.before old.last old.sum in
    let r = c.requires in
    (correction-requires c.args.divisor d r.net r.divisor r.ready (plain c.in_ok-remainder_bits.field-0) c.in_ok-remainder_bits.ensures
    c.cells.new.self c.in_ok-low.low c.in_ok-low.ensures.ok c.in_ok-low.ensures.place (plain c.in_ok-correction.field-0)
    c.in_ok-correction.ensures).1

pub cells-requires-3-clause-class : goal.cells-requires-3-clause-class
cells-requires-3-clause-class c =
    let old = c.args.division.now in
    let d = division c.args.net.now old.known old.before old.last old.sum in
    let r = c.requires in
    (rest-requires c.args.divisor d r.net r.divisor r.ready (plain c.in_ok-remainder_bits.field-0) c.in_ok-remainder_bits.ensures
    c.cells.new.self c.in_ok-low.low c.in_ok-low.ensures.ok c.in_ok-low.ensures.place (plain c.in_ok-correction.field-0)
    c.in_ok-correction.ensures c.cells-2.new.self c.in_ok-added.added c.in_ok-added.ensures.ok c.in_ok-added.ensures.place
    (plain c.in_ok-sum_of.field-0) c.in_ok-sum_of.ensures).0

pub cells-requires-3-clause-fits : goal.cells-requires-3-clause-fits
cells-requires-3-clause-fits c =
    let old = c.args.division.now in
    let d = division c.args.net.now old.known old.before old.last old.sum in
    let r = c.requires in
    (rest-requires c.args.divisor d r.net r.divisor r.ready (plain c.in_ok-remainder_bits.field-0) c.in_ok-remainder_bits.ensures
    c.cells.new.self c.in_ok-low.low c.in_ok-low.ensures.ok c.in_ok-low.ensures.place (plain c.in_ok-correction.field-0)
    c.in_ok-correction.ensures c.cells-2.new.self c.in_ok-added.added c.in_ok-added.ensures.ok c.in_ok-added.ensures.place
    (plain c.in_ok-sum_of.field-0) c.in_ok-sum_of.ensures).1

pub returns-clause-ok : goal.returns-clause-ok
returns-clause-ok c =
    let old = c.args.division.now in
    let d = division c.args.net.now old.known old.before old.last old.sum in
    let r = c.requires in
    rest-made c.args.divisor d r.net r.divisor r.ready (plain c.in_ok-remainder_bits.field-0) c.in_ok-remainder_bits.ensures
    c.cells.new.self c.in_ok-low.low c.in_ok-low.ensures.ok c.in_ok-low.ensures.place (plain c.in_ok-correction.field-0)
    c.in_ok-correction.ensures c.cells-2.new.self c.in_ok-added.added c.in_ok-added.ensures.ok c.in_ok-added.ensures.place
    (plain c.in_ok-sum_of.field-0) c.in_ok-sum_of.ensures c.cells-3.new.self c.in_ok-rest.rest c.push_bits.new.bits c.in_ok-rest.ensures.ok
    c.in_ok-rest.ensures.place
    (c.in_ok-push_bits.ensures ∙ ap (λ (bs : List WordBit). bs ++ bits_from c.in_ok-rest.rest 0 c.args.divisor.width) c.new-bits.ensures)
