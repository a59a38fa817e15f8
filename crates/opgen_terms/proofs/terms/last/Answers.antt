use Rattle.std.proofs.Common.{◌≡◌, ◌-◌, ◌+◌, ◌∙◌, sym, FitsSigned, rules, arith, length}
use Rattle.std.specs.Int.{w128}
use Rattle.std.specs.Prelude.{slice_index}
use Rattle.std.proofs.lemmas.Int.{to_z-of_z}
use Rattle.opgen_num.proofs.BitLength.{power_order}
use Rattle.opgen_ports.specs.Ports.{number_of}
use Rattle.opgen_ports.proofs.Cycles.{port_word, port_number}
use Rattle.opgen_terms.specs.Sop.{format_of}
use Rattle.opgen_terms.proofs.terms.last.Goals as goal

pub input-requires-clause-bits : goal.input-requires-clause-bits
input-requires-clause-bits c =
    rw (c.len.ensures, c.format_of-format.ensures.value)
    (port_word c.args.sop.now.inputs c.args.history.now c.args.input c.requires.history c.requires.input)

pub returns-clause-value : goal.returns-clause-value
returns-clause-value c =
    let s = c.args.sop.now in
    let history = c.args.history.now in
    let fits : FitsSigned w128 c.input.result = search rules in
    let number : c.input.result ≡ number_of (format_of s c.args.input) (slice_index history (length history - length s.inputs + c.args.input)) =
    rw (c.len.ensures, c.format_of-format.ensures.value) at c.input.ensures.value in
    simp to_z-of_z (number ∙ sym (port_number s.inputs history c.args.input c.requires.history c.requires.input))

pub returns-clause-of : goal.returns-clause-of
returns-clause-of c =
    let fits : FitsSigned w128 c.input.result = search rules in
    simp to_z-of_z (rw c.format_of-format.ensures.value at c.input.ensures.of)

pub returns-clause-bound : goal.returns-clause-bound
returns-clause-bound c =
    let fits : FitsSigned w128 c.input.result = search rules in
    simp to_z-of_z (omega (arith, c.input.ensures.bound, power_order c.format_of-format.result.width 48 c.format_of-format.ensures.input.most))
