use Rattle.std.proofs.Common.{arith}
use Rattle.opgen_vhdl.proofs.SpanLemmas.{length-cut, tokens-in_order, tokens-within, tokens-spelled, tokens-spellings}
use Rattle.opgen_part_laws.proofs.texts.token_spans.Goals as goal

pub returns-clause-in_order : goal.returns-clause-in_order
returns-clause-in_order c = tokens-in_order

pub returns-clause-within : goal.returns-clause-within
returns-clause-within c = tokens-within

pub returns-clause-spelled : goal.returns-clause-spelled
returns-clause-spelled c = tokens-spelled

pub returns-clause-elements : goal.returns-clause-elements
returns-clause-elements c = tokens-spellings

pub returns-clause-before_the_end : goal.returns-clause-before_the_end
returns-clause-before_the_end c = λ bytes n t. omega (arith, length-cut t.elements bytes t.rest t.cut, t.place, t.more)
