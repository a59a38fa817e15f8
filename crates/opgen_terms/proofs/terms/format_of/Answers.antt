use Rattle.opgen_terms.proofs.EachTerm.{format_there, input_fits}
use Rattle.std.proofs.Common.{sym, subst}
use Rattle.opgen_ports.specs.Ranges.{IsInput}
use Rattle.opgen_terms.proofs.terms.format_of.Goals as goal

pub returns-clause-value : goal.returns-clause-value
returns-clause-value c = format_there c.args.sop.now c.args.input c.get.result.now c.get.ensures c.requires.input

pub returns-clause-input : goal.returns-clause-input
returns-clause-input c =
    let s = c.args.sop.now in
    subst IsInput (sym (format_there s c.args.input c.get.result.now c.get.ensures c.requires.input))
    (input_fits s c.args.input c.requires.sop c.requires.input)
