use Rattle.std.proofs.Common.{arith, length-drop}
use Rattle.opgen_lex.proofs.Cuts.{is_cut_to-gap, is_cut_to-token}
use Rattle.opgen_lex.proofs.fault_in.Goals as goal

pub elements-preserved-in-Some-Gap : goal.elements-preserved-in-Some-Gap
elements-preserved-in-Some-Gap c =
    let stands = rw c.in-Some-Gap.field-0-is at c.in-Some-Gap.ensures in
    record {
      cut = is_cut_to-gap c.args.bytes.now c.elements.at c.in-Some-Gap.len c.elements.invariant.cut stands;
      within = omega (arith, stands.1, length-drop c.elements.at c.args.bytes.now, c.elements.invariant.within);
    }

pub elements-preserved : goal.elements-preserved
elements-preserved c =
    let stands = rw c.in-Some-Token.field-0-is at c.in-Some-Token.ensures in
    record {
      cut = is_cut_to-token c.args.bytes.now c.elements.at c.in-Some-Token.len c.in-Some-Token._kind c.elements.invariant.cut stands;
      within = omega (arith, stands.1, length-drop c.elements.at c.args.bytes.now, c.elements.invariant.within);
    }
