use Rattle.opgen_laws.proofs.SomeAnswer.{some_answer}
use Rattle.opgen_laws.proofs.answers.some_answer.Goals as goal

pub returns : goal.returns
returns c = some_answer (record { serve = c.circuits_serve.ensures; rules = c.some_rule_graph.ensures })
