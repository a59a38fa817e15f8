use Rattle.std.proofs.Common.{◌∷◌, ap, sym, ◌∙◌, refl}
use Rattle.opgen_vhdl.specs.Symbols.{symbol_of}
use Rattle.opgen_lex.specs.Left.{left}
use Rattle.opgen_read.proofs.FirstName.{name_declared}
use Rattle.opgen_read.proofs.name.as_declared.Goals as goal

pub returns : goal.returns
returns c =
    let kind = c.in_ok-kind.kind in
    let text = c.in_ok-kind.text.now in
    let rest = left c.new.result in (
      text,
      name_declared (left c.args.rest) kind text rest text
          (c.in_ok-kind.ensures.some ∙ ap (λ ss. symbol_of (kind, text) ∷ ss) (sym c.new.ensures))
          (sym c.same_kind.ensures ∙ c.if-not-same_kind.false) refl c.in_ok-place.ensures.allowed,
      c.in_ok-place.ensures.place,
    )
