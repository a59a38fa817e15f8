use Rattle.std.proofs.Common.{[], sym}
use Rattle.std.proofs.lemmas.List.Elements.{All-cons, All-nil}
use Rattle.opgen_design.specs.Plain.{plain}
use Rattle.opgen_net.specs.Valid.{widths}
use Rattle.opgen_net.specs.WordRule.{IsThere}
use Rattle.opgen_nonrestoring.proofs.Made.{division, negative-requires, turned-requires, sum-requires, digit-requires, step-made}
use Rattle.opgen_nonrestoring.proofs.step.Goals as goal

pub word-requires-clause-there : goal.word-requires-clause-there
word-requires-clause-there c =
    let P = IsThere (widths c.args.net.now.nodes) in All-cons P c.args.bit [] c.requires.bit (All-nil P)

pub cells-requires-clause-class : goal.cells-requires-clause-class
cells-requires-clause-class c =
    let old = c.args.division.now in
    let d = division c.args.net.now old.known old.before old.last old.sum in
    let r = c.requires in
    (negative-requires c.args.divisor d r.net r.divisor r.ready c.args.bit r.bit c.word.new.self c.in_ok-bit.bit c.in_ok-bit.ensures.ok
    c.in_ok-bit.ensures.place (plain c.in_ok-negative.field-0) c.in_ok-negative.ensures).0

pub cells-requires-clause-fits : goal.cells-requires-clause-fits
cells-requires-clause-fits c =
    let old = c.args.division.now in
    let d = division c.args.net.now old.known old.before old.last old.sum in
    let r = c.requires in
    (negative-requires c.args.divisor d r.net r.divisor r.ready c.args.bit r.bit c.word.new.self c.in_ok-bit.bit c.in_ok-bit.ensures.ok
    c.in_ok-bit.ensures.place (plain c.in_ok-negative.field-0) c.in_ok-negative.ensures).1

pub cells-requires-2-clause-class : goal.cells-requires-2-clause-class
cells-requires-2-clause-class c =
    let old = c.args.division.now in
    let d = division c.args.net.now old.known old.before old.last old.sum in
    let r = c.requires in
    (turned-requires c.args.divisor d r.net r.divisor r.ready c.args.bit r.bit c.word.new.self c.in_ok-bit.bit c.in_ok-bit.ensures.ok
    c.in_ok-bit.ensures.place (plain c.in_ok-negative.field-0) c.in_ok-negative.ensures c.cells.new.self c.in_ok-negative-2.negative
    c.in_ok-negative-2.ensures.ok c.in_ok-negative-2.ensures.place (plain c.in_ok-next_bit.field-0) c.in_ok-next_bit.ensures).0

pub cells-requires-2-clause-fits : goal.cells-requires-2-clause-fits
cells-requires-2-clause-fits c =
    let old = c.args.division.now in
    let d = division c.args.net.now old.known old.before old.last old.sum in
    let r = c.requires in
    (turned-requires c.args.divisor d r.net r.divisor r.ready c.args.bit r.bit c.word.new.self c.in_ok-bit.bit c.in_ok-bit.ensures.ok
    c.in_ok-bit.ensures.place (plain c.in_ok-negative.field-0) c.in_ok-negative.ensures c.cells.new.self c.in_ok-negative-2.negative
    c.in_ok-negative-2.ensures.ok c.in_ok-negative-2.ensures.place (plain c.in_ok-next_bit.field-0) c.in_ok-next_bit.ensures).1

pub cells-requires-3-clause-class : goal.cells-requires-3-clause-class
cells-requires-3-clause-class c =
    let old = c.args.division.now in
    let d = division c.args.net.now old.known old.before old.last old.sum in
    let r = c.requires in
    (sum-requires c.args.divisor d r.net r.divisor r.ready c.args.bit r.bit c.word.new.self c.in_ok-bit.bit c.in_ok-bit.ensures.ok
    c.in_ok-bit.ensures.place (plain c.in_ok-negative.field-0) c.in_ok-negative.ensures c.cells.new.self c.in_ok-negative-2.negative
    c.in_ok-negative-2.ensures.ok c.in_ok-negative-2.ensures.place (plain c.in_ok-next_bit.field-0) c.in_ok-next_bit.ensures
    c.cells-2.new.self c.in_ok-turned.turned c.in_ok-turned.ensures.ok c.in_ok-turned.ensures.place (plain c.in_ok-next_sum.field-0)
    c.in_ok-next_sum.ensures).0

pub cells-requires-3-clause-fits : goal.cells-requires-3-clause-fits
cells-requires-3-clause-fits c =
    let old = c.args.division.now in
    let d = division c.args.net.now old.known old.before old.last old.sum in
    let r = c.requires in
    (sum-requires c.args.divisor d r.net r.divisor r.ready c.args.bit r.bit c.word.new.self c.in_ok-bit.bit c.in_ok-bit.ensures.ok
    c.in_ok-bit.ensures.place (plain c.in_ok-negative.field-0) c.in_ok-negative.ensures c.cells.new.self c.in_ok-negative-2.negative
    c.in_ok-negative-2.ensures.ok c.in_ok-negative-2.ensures.place (plain c.in_ok-next_bit.field-0) c.in_ok-next_bit.ensures
    c.cells-2.new.self c.in_ok-turned.turned c.in_ok-turned.ensures.ok c.in_ok-turned.ensures.place (plain c.in_ok-next_sum.field-0)
    c.in_ok-next_sum.ensures).1

pub cells-requires-4-clause-class : goal.cells-requires-4-clause-class
cells-requires-4-clause-class c =
    let old = c.args.division.now in
    let d = division c.args.net.now old.known old.before old.last old.sum in
    let r = c.requires in
    (digit-requires c.args.divisor d r.net r.divisor r.ready c.args.bit r.bit c.word.new.self c.in_ok-bit.bit c.in_ok-bit.ensures.ok
    c.in_ok-bit.ensures.place (plain c.in_ok-negative.field-0) c.in_ok-negative.ensures c.cells.new.self c.in_ok-negative-2.negative
    c.in_ok-negative-2.ensures.ok c.in_ok-negative-2.ensures.place (plain c.in_ok-next_bit.field-0) c.in_ok-next_bit.ensures
    c.cells-2.new.self c.in_ok-turned.turned c.in_ok-turned.ensures.ok c.in_ok-turned.ensures.place (plain c.in_ok-next_sum.field-0)
    c.in_ok-next_sum.ensures c.cells-3.new.self c.in_ok-sum.sum c.in_ok-sum.ensures.ok c.in_ok-sum.ensures.place
    (plain c.in_ok-next_digit.field-0) c.in_ok-next_digit.ensures).0

pub cells-requires-4-clause-fits : goal.cells-requires-4-clause-fits
cells-requires-4-clause-fits c =
    let old = c.args.division.now in
    let d = division c.args.net.now old.known old.before old.last old.sum in
    let r = c.requires in
    (digit-requires c.args.divisor d r.net r.divisor r.ready c.args.bit r.bit c.word.new.self c.in_ok-bit.bit c.in_ok-bit.ensures.ok
    c.in_ok-bit.ensures.place (plain c.in_ok-negative.field-0) c.in_ok-negative.ensures c.cells.new.self c.in_ok-negative-2.negative
    c.in_ok-negative-2.ensures.ok c.in_ok-negative-2.ensures.place (plain c.in_ok-next_bit.field-0) c.in_ok-next_bit.ensures
    c.cells-2.new.self c.in_ok-turned.turned c.in_ok-turned.ensures.ok c.in_ok-turned.ensures.place (plain c.in_ok-next_sum.field-0)
    c.in_ok-next_sum.ensures c.cells-3.new.self c.in_ok-sum.sum c.in_ok-sum.ensures.ok c.in_ok-sum.ensures.place
    (plain c.in_ok-next_digit.field-0) c.in_ok-next_digit.ensures).1

pub returns-clause-ok : goal.returns-clause-ok
returns-clause-ok c =
    let old = c.args.division.now in
    let d = division c.args.net.now old.known old.before old.last old.sum in
    let r = c.requires in
    sym (step-made c.args.divisor d r.net r.divisor r.ready c.args.bit r.bit c.word.new.self c.in_ok-bit.bit c.in_ok-bit.ensures.ok
    c.in_ok-bit.ensures.place (plain c.in_ok-negative.field-0) c.in_ok-negative.ensures c.cells.new.self c.in_ok-negative-2.negative
    c.in_ok-negative-2.ensures.ok c.in_ok-negative-2.ensures.place (plain c.in_ok-next_bit.field-0) c.in_ok-next_bit.ensures
    c.cells-2.new.self c.in_ok-turned.turned c.in_ok-turned.ensures.ok c.in_ok-turned.ensures.place (plain c.in_ok-next_sum.field-0)
    c.in_ok-next_sum.ensures c.cells-3.new.self c.in_ok-sum.sum c.in_ok-sum.ensures.ok c.in_ok-sum.ensures.place
    (plain c.in_ok-next_digit.field-0) c.in_ok-next_digit.ensures c.cells-4.new.self c.in_ok-digit.digit c.push.new.self
    c.in_ok-digit.ensures.ok c.in_ok-digit.ensures.place c.in_ok-push.ensures.ok)
