use Rattle.std.proofs.Common.{◌≡◌, ◌-◌, length, drop, take, ap, ◌∙◌, subst}
use Rattle.std.specs.Prelude.{Contains}
use Rattle.std.proofs.lemmas.List.{take_rest}
use Rattle.opgen_components.proofs.Marks.{contains-drop}
use Rattle.opgen_components.proofs.walk.Walk.close.Goals as goal

pub mark_all-requires : goal.mark_all-requires
mark_all-requires c = λ n h.
    let path = c.deref.result.now in
    let same : take (length path - c.args.place) (drop c.args.place path)
    ≡ drop c.args.place c.args.self.now.path.items = take_rest path c.args.place ∙ ap (drop c.args.place) c.deref.ensures.value in
    c.requires.nodes n (contains-drop c.args.place c.args.self.now.path.items n (subst (λ x. Contains x n) same h))
