use Rattle.std.proofs.Common.{rules, ◌≡◌, inl, Some, ap, ◌∙◌}
use Rattle.opgen_search.proofs.Hunting.{not_before_itself}
use Rattle.opgen_search.proofs.piece.try_digits.Goals as goal

pub returns-in_ok-digits-clause-digits : goal.returns-in_ok-digits-clause-digits
returns-in_ok-digits-clause-digits c =
    let same : c.in_ok-digits.digits.items ≡ c.args.piece.now.search.now.digits.items = search rules in
    λ _. inl (not_before_itself c.args.piece.now.search.now.width c.args.piece.now.search.now.digits.items _ (c.take.ensures.best
    ∙ ap Some same))
