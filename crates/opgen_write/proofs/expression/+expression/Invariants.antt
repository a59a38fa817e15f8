use Rattle.std.proofs.Common.{◌≡◌, ◌++◌, drop, string_bytes}
use Rattle.opgen_design.specs.Plain.{plain_all}
use Rattle.opgen_vhdl.specs.ExpressionText.{further_text}
use Rattle.opgen_write.proofs.expression.+expression.Given as goal

abbrev pub invariant-put_chain-further : goal.invariant-put_chain-further
invariant-put_chain-further l =
    string_bytes l.out ++ further_text l.design l.op (plain_all (drop l.operand-index l.rest))
    ≡ string_bytes l.initial.out ++ further_text l.design l.op (plain_all l.rest)
