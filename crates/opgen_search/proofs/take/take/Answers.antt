use Rattle.std.proofs.Common.{arith, sym, ap, ◌∙◌, subst, min, Some}
use Rattle.opgen_bound.specs.declared.view.View.{View}
use Rattle.opgen_bound.specs.Passes.{view}
use Rattle.opgen_search.specs.Covered.{best_of}
use Rattle.opgen_search.proofs.Merging.{IsPublished, done_later}
use Rattle.opgen_search.proofs.Hunting.{published_taken, not_later_taken}
use Rattle.opgen_search.proofs.take.take.Goals as goal

pub returns-clause-hunt : goal.returns-clause-hunt
returns-clause-hunt c =
    let v = c.publish-before.ensures.view in
    let price = rw c.as_slice.ensures.value at c.cost-price.ensures in
    record {
      bound = c.publish-before.ensures.bound;
      seen = c.min-hunt.ensures ∙ sym (ap (λ (w : View). w.seen) v);
      member = c.requires.member;
      count = c.requires.count;
      published = subst (IsPublished c.args.piece.now.search.now.width (Some c.args.set.items))
          (sym (ap (λ (w : View). w.published) v ∙ ap (min (view c.args.hunt.now.pass).published) price))
          (published_taken c.args.piece.now.search.now.width (view c.args.hunt.now.pass).published
          (best_of c.args.hunt.now.best) c.args.set.items c.requires.better c.requires.hunt.published);
    }

pub returns-clause-later : goal.returns-clause-later
returns-clause-later c =
    let v = c.publish-before.ensures.view in
    record {
      settled = λ set. done_later c.args.piece.now.search.now.width (Some c.args.set.items)
          (best_of c.args.hunt.now.best) _ c.args.hunt.now.known set
          (not_later_taken c.args.piece.now.search.now.width (best_of c.args.hunt.now.best) c.args.set.items c.requires.better)
          (omega (arith, c.min-hunt.ensures, c.publish-before.ensures.falls, c.requires.hunt.seen));
      share = ap (λ (w : View). w.share) v;
      start = ap (λ (w : View). w.start) v;
    }
