use Rattle.opgen_vhdl.proofs.Walks.{one_design, one_list, one_fault, not_both, one_answer}
use Rattle.opgen_part_laws.proofs.texts.one_reading_of_text.Goals as goal

pub returns-clause-design : goal.returns-clause-design
returns-clause-design c = one_design

pub returns-clause-statements : goal.returns-clause-statements
returns-clause-statements c = one_list

pub returns-clause-piece : goal.returns-clause-piece
returns-clause-piece c = one_fault

pub returns-clause-not_both : goal.returns-clause-not_both
returns-clause-not_both c = not_both

pub returns-clause-one_answer : goal.returns-clause-one_answer
returns-clause-one_answer c = one_answer
