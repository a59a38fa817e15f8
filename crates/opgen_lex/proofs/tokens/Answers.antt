use Rattle.std.proofs.Common.{arith, length-drop}
use Rattle.opgen_vhdl.proofs.CutLemmas.{cut_to-gap, cut_to-token, cut_to_end}
use Rattle.opgen_vhdl.proofs.SpanLemmas.{tokens-in_order, tokens-within}
use Rattle.opgen_lex.proofs.tokens.Goals as goal

pub elements-preserved-in-Some-Gap : goal.elements-preserved-in-Some-Gap
elements-preserved-in-Some-Gap c =
    let (some, within, stands) = rw c.in-Some-Gap.field-0-is at c.in-Some-Gap.ensures in
    record {
      cut = cut_to-gap c.args.bytes.now c.elements.at c.in-Some-Gap.len within c.elements.found.items c.elements.invariant.cut stands;
      within = omega (arith, within, length-drop c.elements.at c.args.bytes.now, c.elements.invariant.within);
    }

pub elements-preserved : goal.elements-preserved
elements-preserved c =
    let (some, within, stands) = rw c.in-Some-Token.field-0-is at c.in-Some-Token.ensures in
    record {
      cut = rw c.in_ok-push-in-Some-Token.ensures.items
          (cut_to-token c.args.bytes.now c.elements.at c.in-Some-Token.len within c.in-Some-Token.kind c.elements.found.items
          c.elements.invariant.cut stands);
      within = omega (arith, within, length-drop c.elements.at c.args.bytes.now, c.elements.invariant.within);
    }

pub returns-clause-in_order : goal.returns-clause-in_order
returns-clause-in_order c = tokens-in_order c.args.bytes.now c.elements.found.items
    (cut_to_end c.args.bytes.now c.elements.at c.elements.found.items c.elements-test.false c.elements.invariant.cut)

pub returns-clause-within : goal.returns-clause-within
returns-clause-within c = tokens-within c.args.bytes.now c.elements.found.items
    (cut_to_end c.args.bytes.now c.elements.at c.elements.found.items c.elements-test.false c.elements.invariant.cut)
