-- Two answers become one, and the answer at the end is the least set.
use Rattle.std.proofs.Common.{◌≡◌, ◌⊎◌, inl, inr, ⊎_elim, ℕ, ◌≤◌, ◌<◌, min, List, Option, Some, None, IfSome, IsSomeAnd, Result, Ok, Err, IfOk, OnOk, IsOk, refl, sym, subst, arith}
use Rattle.std.specs.declared.cmp.Ordering.{Ordering}
use Rattle.std.specs.declared.cmp.Ordering.TheVariants.{Less, Equal, Greater}
use Rattle.std.specs.Ordering.{ordering_reverse}
use Rattle.std.proofs.lemmas.Bool.{cases_lt}
use Rattle.opgen_bound.specs.declared.view.View.{View}
use Rattle.opgen_bound.specs.Views.{most}
use Rattle.opgen_bound.specs.Steps.{joined}
use Rattle.opgen_graph.specs.SetCost.{set_cost}
use Rattle.opgen_graph.proofs.OddParts.{refuted}
use Rattle.opgen_search.specs.Least.{order, IsBefore}
use Rattle.opgen_search.specs.Covered.{IsDone, Covered, IsNotLater, IsLesser}
use Rattle.opgen_search.proofs.Order.{order_total, before_trans, before_irrefl, before_cheaper, cost_before, equal_sets}

-- ---- sets that are not before one another
turned : (r s : Ordering) → s ≡ ordering_reverse r → (r ≡ Less → ⊥) → (s ≡ Less) ⊎ (s ≡ Equal)
turned Less s e non = absurd (non refl)
turned Equal s e non = inr e
turned Greater s e non = inl e

-- what is before a set is before each that is not before it
before_other : (width : ℕ) (F G H : List ℕ) → IsBefore width F G → (IsBefore width H G → ⊥) → IsBefore width F H
before_other width F G H b non =
    ⊎_elim (λ (e : IsBefore width G H). before_trans width F G H b e)
    (λ (e : order width G H ≡ Equal). subst (IsBefore width F) (equal_sets width G H e) b)
    (turned (order width H G) (order width G H) ((order_total width).antisymm G H) non)

not_cheaper : (width : ℕ) (F G : List ℕ) → (IsBefore width F G → ⊥) → set_cost width G ≤ set_cost width F
not_cheaper width F G non = ⊎_elim (λ (lt : set_cost width F < set_cost width G). absurd (non (before_cheaper width F G lt)))
    (λ (le : set_cost width G ≤ set_cost width F). le) (cases_lt (set_cost width F) (set_cost width G))

pub not_later_itself : (width : ℕ) (best : Option (List ℕ)) → IsNotLater width best best
not_later_itself width None = tt
not_later_itself width (Some F) = before_irrefl width F

-- what is done stays done where the answer is not later and no more was seen
pub done_later : (width : ℕ) (best one : Option (List ℕ)) (seen was : ℕ) (set : List ℕ) → IsNotLater width best one → seen ≤ was
    → IsDone width one was set → IsDone width best seen set
done_later width best one seen was set later le (inr lt) = inr (omega (arith, le, lt))
done_later width best None seen was set later le (inl non) = absurd non
done_later width None (Some F) seen was set later le (inl non) = absurd later
done_later width (Some H) (Some F) seen was set later le (inl non) = inl (λ b. non (before_other width set H F b later))

-- ---- what was published
abbrev pub IsPublished : (width : ℕ) → Option (List ℕ) → (published : ℕ) → Type 0
IsPublished width best published = (most ≤ published) ⊎ IsSomeAnd best (λ set. set_cost width set ≤ published)

some_cheap : (width low high : ℕ) (best : Option (List ℕ)) → low ≤ high → IsSomeAnd best (λ set. set_cost width set ≤ low)
    → IsSomeAnd best (λ set. set_cost width set ≤ high)
some_cheap width low high None le h = absurd h
some_cheap width low high (Some F) le h = omega (arith, le, h)

cheap_later : (width p : ℕ) (best one : Option (List ℕ)) → IsNotLater width best one → IsSomeAnd one (λ set. set_cost width set ≤ p)
    → IsSomeAnd best (λ set. set_cost width set ≤ p)
cheap_later width p best None later h = absurd h
cheap_later width p None (Some F) later h = absurd later
cheap_later width p (Some H) (Some F) later h = omega (arith, h, not_cheaper width F H later)

pub published_later : (width p : ℕ) (best one : Option (List ℕ)) → IsNotLater width best one → IsPublished width one p
    → IsPublished width best p
published_later width p best one later (inl none) = inl none
published_later width p best one later (inr some) = inr (cheap_later width p best one later some)

-- the lesser of two numbers is one of them
pub published_both : (width p q : ℕ) (best : Option (List ℕ)) → IsPublished width best p → IsPublished width best q
    → IsPublished width best (min p q)
published_both width p q best a b = ⊎_elim (λ (lt : p < q). subst (IsPublished width best) (omega (arith, lt)) a)
    (λ (le : q ≤ p). subst (IsPublished width best) (omega (arith, le)) b) (cases_lt p q)

-- ---- a merge
if_either : (P Q R : List ℕ → Type 0) (one other best : Option (List ℕ)) → ((set : List ℕ) → P set → R set)
    → ((set : List ℕ) → Q set → R set) → (best ≡ one) ⊎ (best ≡ other) → IfSome one P → IfSome other Q → IfSome best R
if_either P Q R one other best to from (inl e) p q = subst (λ (b : Option (List ℕ)). IfSome b R) (sym e) (weaker P R one to p)
  where
    weaker : (P R : List ℕ → Type 0) (b : Option (List ℕ)) → ((set : List ℕ) → P set → R set) → IfSome b P → IfSome b R
    weaker P R None to h = tt
    weaker P R (Some F) to h = to F h
if_either P Q R one other best to from (inr e) p q = subst (λ (b : Option (List ℕ)). IfSome b R) (sym e) (weaker Q R other from q)
  where
    weaker : (P R : List ℕ → Type 0) (b : Option (List ℕ)) → ((set : List ℕ) → P set → R set) → IfSome b P → IfSome b R
    weaker P R None to h = tt
    weaker P R (Some F) to h = to F h

-- the answer covers each part that lies in the two
pub merged : (P Q R : List ℕ → Type 0) (width : ℕ) (one other best : Option (List ℕ)) (v w : View) → ((set : List ℕ) → P set → R set)
    → ((set : List ℕ) → Q set → R set) → ((set : List ℕ) → R set → P set ⊎ Q set) → Covered P width one v → Covered Q width other w
    → IsLesser width one other best → Covered R width best (joined v w)
merged P Q R width one other best v w to from back c d l = record {
  member = if_either P Q R one other best to from l.either c.member d.member;
  all = λ set r. ⊎_elim (λ (p : P set). done_later width best one _ v.seen set l.first (omega arith) (c.all set p))
      (λ (q : Q set). done_later width best other _ w.seen set l.second (omega arith) (d.all set q)) (back set r);
  published = published_both width v.published w.published best (published_later width v.published best one l.first c.published)
      (published_later width w.published best other l.second d.published);
}

-- the same where memory may have run out
pub merged_results : {X E : Type 0} (P Q R : X → Type 0) (L : X → X → X → Type 0) (one other best : Result X E)
    → ((f s b : X) → P f → Q s → L f s b → R b) → IfOk one P → IfOk other Q → IfOk best (λ b. IfOk one (λ f. IfOk other (λ s. L f s b)))
    → OnOk best (IsOk one) → OnOk best (IsOk other) → IfOk best R
merged_results P Q R L one other (Err e) merge p q l is_one is_other = tt
merged_results P Q R L (Err e) other (Ok b) merge p q l is_one is_other = absurd (refuted is_one)
merged_results P Q R L (Ok f) (Err e) (Ok b) merge p q l is_one is_other = absurd (refuted is_other)
merged_results P Q R L (Ok f) (Ok s) (Ok b) merge p q l is_one is_other = merge f s b p q l

-- ---- the lesser of two answers
pub lesser_second : (width : ℕ) (one other best : Option (List ℕ)) (F G : List ℕ) → one ≡ Some F → other ≡ Some G → best ≡ other
    → IsBefore width G F → IsLesser width one other best
lesser_second width one other best F G e f is lt =
    rw (is, e, f) (record {
      either = inr refl;
      first = λ b. before_irrefl width F (before_trans width F G F b lt);
      second = before_irrefl width G;
    })

pub lesser_first : (width : ℕ) (one other best : Option (List ℕ)) (F G : List ℕ) → one ≡ Some F → other ≡ Some G → best ≡ one
    → (IsBefore width G F → ⊥) → IsLesser width one other best
lesser_first width one other best F G e f is non = rw (is, e, f) (record { either = inl refl; first = before_irrefl width F; second = non })

pub lesser_only : (width : ℕ) (one other best : Option (List ℕ)) → other ≡ None → best ≡ one → IsLesser width one other best
lesser_only width one other best f is = rw (is, f) (record { either = inl refl; first = not_later_itself width one; second = tt })

pub lesser_rest : (width : ℕ) (one other best : Option (List ℕ)) → one ≡ None → best ≡ other → IsLesser width one other best
lesser_rest width one other best e is = rw (is, e) (record { either = inr refl; first = tt; second = not_later_itself width other })

-- ---- the end
cheap_start : (width seen : ℕ) (best : Option (List ℕ)) (start : List ℕ) → IsDone width best seen start → set_cost width start ≤ seen
    → IsSomeAnd best (λ set. set_cost width set ≤ set_cost width start)
cheap_start width seen best start (inr lt) le = absurd (omega (arith, lt, le))
cheap_start width seen None start (inl non) le = absurd non
cheap_start width seen (Some F) start (inl non) le = not_cheaper width start F non

none_before : (P : List ℕ → Type 0) (width seen : ℕ) (best : Option (List ℕ)) → IfSome best P
    → ((set : List ℕ) → P set → IsDone width best seen set) → IsSomeAnd best (λ set. set_cost width set ≤ seen)
    → IsSomeAnd best (λ F. P F × ((set : List ℕ) → P set → IsBefore width set F → ⊥))
none_before P width seen None member all h = absurd h
none_before P width seen (Some F) member all h = (
  member,
  λ set p b. ⊎_elim (λ (non : IsBefore width set F → ⊥). non b)
      (λ (lt : seen < set_cost width set). omega (arith, lt, h, cost_before width set F b)) (all set p),
)

-- the word is the cost of a set of the part or the least that was published, and at most what was seen: the answer costs no more, and nothing is before it
pub closed : (P : List ℕ → Type 0) (width : ℕ) (best : Option (List ℕ)) (v : View) (start : List ℕ) (word : ℕ) → Covered P width best v
    → P start → set_cost width start < most → word ≡ min (set_cost width start) v.published → word ≤ v.seen
    → IsSomeAnd best (λ F. P F × ((set : List ℕ) → P set → IsBefore width set F → ⊥))
closed P width best v start word c p small w le =
    none_before P width v.seen best c.member c.all
    (⊎_elim
    (λ (lt : v.published < set_cost width start).
    ⊎_elim (λ (none : most ≤ v.published). absurd (omega (arith, none, lt, small)))
    (λ (h : IsSomeAnd best (λ set. set_cost width set ≤ v.published)). some_cheap width v.published v.seen best
    (omega (arith, w, le, lt)) h) c.published)
    (λ (ge : set_cost width start ≤ v.published).
    some_cheap width (set_cost width start) v.seen best (omega (arith, w, le, ge))
    (cheap_start width v.seen best start (c.all start p) (omega (arith, w, le, ge))))
    (cases_lt v.published (set_cost width start)))
