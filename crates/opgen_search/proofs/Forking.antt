-- A search is cut in two, and its parts come together again.
use Rattle.std.proofs.Common.{◌≡◌, inl, inr, ⊎_elim, ℕ, ◌+◌, ◌-◌, ◌/◌, ◌≤◌, ◌<◌, List, Option, ap, ◌∙◌, arith}
use Rattle.std.proofs.lemmas.Bool.{cases_lt}
use Rattle.opgen_bound.specs.declared.view.View.{View}
use Rattle.opgen_bound.specs.declared.bound.Bound.{Bound}
use Rattle.opgen_bound.specs.declared.bound.Pass.{Pass}
use Rattle.opgen_bound.specs.Passes.{view, IsPassOf}
use Rattle.opgen_bound.specs.Steps.{kept, given, joined}
use Rattle.opgen_search.specs.declared.hunt.Search.{Search}
use Rattle.opgen_search.specs.declared.piece.Found.{Found}
use Rattle.opgen_search.specs.Covered.{Covered, IsLesser}
use Rattle.opgen_search.specs.Forks.{IsAnswered, IsFound, IsShort, parts_of}
use Rattle.opgen_search.proofs.Merging.{merged}

pub parts_merged : (search : Search) (low middle high width : ℕ) (one other best : Option (List ℕ)) (v w : View) → low ≤ middle
    → middle ≤ high → Covered (parts_of search low middle) width one v → Covered (parts_of search middle high) width other w
    → IsLesser width one other best → Covered (parts_of search low high) width best (joined v w)
parts_merged search low middle high width one other best v w le ge =
    merged (parts_of search low middle) (parts_of search middle high) (parts_of search low high) width one other best v w
    (λ set p. (p.0, p.1, omega (arith, p.2, ge), p.3)) (λ set p. (p.0, omega (arith, p.1, le), p.2, p.3))
    (λ set p. ⊎_elim (λ (lt : p.0 < middle). inl (p.0, p.1, lt, p.3)) (λ (not : middle ≤ p.0). inr (p.0, not, p.2, p.3))
    (cases_lt p.0 middle))

-- a task of one piece
pub one_piece : (low high : ℕ) → high - low ≡ 1 → high ≡ low + 1
one_piece low high e = omega (arith, e)

-- what the passes of a split found, joined again, is found of all
pub found_both : (bound : Bound) (search : Search) (pass one_pass other_pass : Pass) (low middle high : ℕ) (one other both : Found)
    → middle ≡ low + (high - low) / 2 → low < high → view one_pass ≡ given (view pass) → view other_pass ≡ kept (view pass)
    → IsFound bound search one_pass low middle one → IsFound bound search other_pass middle high other
    → IsPassOf bound both.pass → view both.pass ≡ joined (view one.pass) (view other.pass) → IsShort both
    → (low ≤ middle → middle ≤ high → IsAnswered search low middle one → IsAnswered search middle high other
    → IsAnswered search low high both) → IsFound bound search pass low high both
found_both bound search pass one_pass other_pass low middle high one other both is some g k f s same v count answered = record {
  same = same;
  share = ap (λ (w : View). w.share) v
      ∙ halves (view one.pass).share (view other.pass).share (view pass).share (f.share ∙ ap (λ (w : View). w.share) g)
      (s.share ∙ ap (λ (w : View). w.share) k);
  start = ap (λ (w : View). w.start) v ∙ f.start ∙ ap (λ (w : View). w.start) g;
  count = count;
  answered = answered (omega (arith, is)) (omega (arith, is, some)) f.answered s.answered;
}
  where
    halves : (a b n : ℕ) → a ≡ n / 2 → b ≡ n - n / 2 → a + b ≡ n
    halves a b n e h = omega (arith, e, h)
