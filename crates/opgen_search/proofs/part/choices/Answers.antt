use Rattle.std.proofs.Common.{arith, sym, ap, ◌∙◌, subst}
use Rattle.std.specs.Option.{is_some}
use Rattle.opgen_graph.proofs.OddParts.{refuted}
use Rattle.opgen_search.specs.Hunts.{takes}
use Rattle.opgen_search.proofs.Choices.{own_last}
use Rattle.opgen_search.proofs.part.choices.Goals.{then-is_some, else-is_some}
use Rattle.opgen_search.proofs.part.choices.Goals as goal

pub returns-clause-every : goal.returns-clause-every
returns-clause-every c = λ x choice t.
    rw c.as_slice-2.ensures.value
    (own_last c.args.piece.now c.args.least x c.requires
    (λ m e taken. elim c.if-is_some.branch [
      | then-is_some w ↦ refuted (sym c.if-takes_least.false ∙ w.value-is
          ∙ w.takes_least.ensures.1 (subst (takes c.args.piece.now) (sym e) taken))
      | else-is_some w ↦ refuted (sym w.if-is_some.false
          ∙ c.is_some.ensures ∙ ap is_some e)
    ])
    choice (t (omega (arith, c.if-more-gt1.false))))
