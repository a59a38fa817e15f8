use Rattle.std.proofs.Common.{arith}
use Rattle.opgen_lex.proofs.Cuts.{passed-within, passed-fault, passed-whole, fault-within}
use Rattle.opgen_read.proofs.read.fault_behind.Goals as goal

pub overflow_sub-start : goal.overflow_sub-start
overflow_sub-start c = passed-within c.args.bytes.now c.args.rest.now c.requires.passed

pub overflow_add-result : goal.overflow_add-result
overflow_add-result c =
    omega (
      arith,
      c.requires.size,
      passed-within c.args.bytes.now c.args.rest.now c.requires.passed,
      fault-within c.args.rest.now c.in-Some.at c.in-Some.ensures.some,
    )

pub returns-in-Some-clause-some : goal.returns-in-Some-clause-some
returns-in-Some-clause-some c =
    passed-fault c.args.bytes.now c.args.rest.now c.requires.passed c.in-Some.at c.in-Some.ensures.some

pub returns-in_default-clause-none : goal.returns-in_default-clause-none
returns-in_default-clause-none c = passed-whole c.args.bytes.now c.args.rest.now c.requires.passed c.in_default.ensures.none
