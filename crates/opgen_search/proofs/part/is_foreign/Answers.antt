use Rattle.std.proofs.Common.{◌≡◌, arith, sym, ◌∙◌, subst, Some}
use Rattle.opgen_search.specs.Hunts as hunts
use Rattle.opgen_search.specs.Hunts.{takes}
use Rattle.opgen_search.proofs.Choices.{not_both}
use Rattle.opgen_search.proofs.part.is_foreign.Goals as goal

pub returns : goal.returns
returns c = λ f.
    let e : hunts.least_with c.args.least c.args.member ≡ c.args.member = sym c.least_with.ensures ∙ c.if-least_with-member.false in (
      omega (arith, c.if-more-gt1.false),
      λ t. not_both c.takes_least.result f
          (c.takes_least.ensures.1 (subst (λ m. takes c.args.piece.now (Some m)) e t)),
    )
