use Rattle.std.proofs.Common.{◌∷◌, ap, sym, ◌∙◌}
use Rattle.opgen_vhdl.specs.Symbols.{symbol_of}
use Rattle.opgen_vhdl.proofs.Steps.{name_some}
use Rattle.opgen_lex.specs.Left.{left, symbols_in}
use Rattle.opgen_read.proofs.FirstName.{name_read, name_refused}
use Rattle.opgen_read.proofs.name.name.Goals as goal

pub returns-in-Some-clause-value : goal.returns-in-Some-clause-value
returns-in-Some-clause-value c =
    let first = rw c.in_ok-kind.ensures.ok_part at c.token.ensures.some in
    let kind = c.in_ok-kind.kind in
    let text = c.in_ok-kind.text.now in
    name_read (left c.args.rest) kind text (left c.new.result) c.in-Some.name (first ∙ ap (λ ss. symbol_of (kind, text) ∷ ss) (sym c.new.ensures))
    (sym c.same_kind.ensures ∙ c.if-not-same_kind.false) (sym c.in-Some.is ∙ c.in_ok-name.ensures)

pub returns-in-Some-clause-allowed : goal.returns-in-Some-clause-allowed
returns-in-Some-clause-allowed c = (name_some (left c.args.rest) c.in-Some.name (left c.new.result) (returns-in-Some-clause-value c)).1

pub returns-in-None-clause-value : goal.returns-in-None-clause-value
returns-in-None-clause-value c =
    let first = rw c.in_ok-kind.ensures.ok_part at c.token.ensures.some in
    name_refused (left c.args.rest) c.in_ok-kind.kind c.in_ok-kind.text.now (symbols_in c.in_ok-kind.behind.now) first
    (sym c.same_kind.ensures ∙ c.if-not-same_kind.false) (sym c.in-None.is ∙ c.in_ok-name.ensures)
