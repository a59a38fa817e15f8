use Rattle.std.proofs.Common.{FitsSigned, rules}
use Rattle.std.specs.Int.{w128}
use Rattle.std.proofs.lemmas.Int.{to_z-of_z}
use Rattle.opgen_ports.proofs.Cycles.{last_words, last_numbers}
use Rattle.opgen_ports.proofs.history.last_two.Goals as goal

pub input-requires-clause-bits : goal.input-requires-clause-bits
input-requires-clause-bits c = (last_words c.args.a c.args.b c.args.history.now c.requires.history).0

pub input-requires-2-clause-bits : goal.input-requires-2-clause-bits
input-requires-2-clause-bits c = (last_words c.args.a c.args.b c.args.history.now c.requires.history).1

pub returns-clause-first : goal.returns-clause-first
returns-clause-first c =
    let fits : FitsSigned w128 c.input.result = search rules in
    simp to_z-of_z (rw (last_numbers c.args.a c.args.b c.args.history.now c.requires.history).0 c.input.ensures.value)

pub returns-clause-second : goal.returns-clause-second
returns-clause-second c =
    let fits : FitsSigned w128 c.input-2.result = search rules in
    simp to_z-of_z (rw (last_numbers c.args.a c.args.b c.args.history.now c.requires.history).1 c.input-2.ensures.value)

pub returns-clause-first_of : goal.returns-clause-first_of
returns-clause-first_of c =
    let fits : FitsSigned w128 c.input.result = search rules in
    simp to_z-of_z c.input.ensures.of

pub returns-clause-second_of : goal.returns-clause-second_of
returns-clause-second_of c =
    let fits : FitsSigned w128 c.input-2.result = search rules in
    simp to_z-of_z c.input-2.ensures.of

pub returns-clause-unsigned : goal.returns-clause-unsigned
returns-clause-unsigned c =
    let fits : FitsSigned w128 c.input-2.result = search rules in
    simp to_z-of_z c.input-2.ensures.unsigned
