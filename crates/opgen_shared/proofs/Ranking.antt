-- The order of ranks is total, and equal ranks are those of one adder.
use Rattle.std.proofs.Common.{◌≡◌, ℕ, zero, suc, ◌-◌, ◌<◌, List, [], ◌∷◌, get_or, refl, sym, ap, subst, ◌∙◌, arith}
use Rattle.std.specs.declared.cmp.Ordering.{Ordering}
use Rattle.std.specs.declared.cmp.Ordering.TheVariants.{Less, Equal, Greater}
use Rattle.std.specs.Ordering.{ordering_reverse, nat_cmp}
use Rattle.std.specs.Cmp.Lexicographic.{slice_cmp, nat_list_cmp_total}
use Rattle.std.proofs.lemmas.Bool.Decides.{nat_tests}
use Rattle.std.proofs.lemmas.Map.Lookups.{exact_bytes}
use Rattle.opgen_num.proofs.Orders.{not_before}
use Rattle.opgen_graph.specs.declared.forms.Form.{Form}
use Rattle.opgen_graph.specs.declared.ranks.Adder.{Adder}
use Rattle.opgen_graph.specs.Adders.{place}
use Rattle.opgen_graph.proofs.FirstSteps.{same_form}
use Rattle.opgen_shared.specs.declared.candidates.Candidate.{Candidate}
use Rattle.opgen_shared.specs.Rule.{IsRankedBefore, IsBest, IsBefore, rank, heavier, higher}
use Rattle.opgen_shared.specs.Steps.{IsNotAfter, IsLeastOf}

-- ---- lists of numbers
pub ranked_irrefl : (r : List ℕ) → IsRankedBefore r r → ⊥
ranked_irrefl r h = not_before (slice_cmp nat_cmp r r) (nat_list_cmp_total.antisymm r r) h

not_after : (r s t : List ℕ) → (IsRankedBefore s r → ⊥) → (IsRankedBefore t s → ⊥) → IsRankedBefore t r → ⊥
not_after r s t n m b = from (slice_cmp nat_cmp s t) refl
  where
    from : (o : Ordering) → slice_cmp nat_cmp s t ≡ o → ⊥
    from Less e = n (nat_list_cmp_total.trans s t r e b)
    from Equal e = n (nat_list_cmp_total.congr s t r e ∙ b)
    from Greater e = m (nat_list_cmp_total.antisymm t s ∙ ap ordering_reverse e)

neither : (r s : List ℕ) → (IsRankedBefore r s → ⊥) → (IsRankedBefore s r → ⊥) → r ≡ s
neither r s n m = from (slice_cmp nat_cmp r s) refl
  where
    from : (o : Ordering) → slice_cmp nat_cmp r s ≡ o → r ≡ s
    from Less e = absurd (n e)
    from Equal e = exact_bytes r s e
    from Greater e = absurd (m (nat_list_cmp_total.antisymm s r ∙ ap ordering_reverse e))

-- a first number that is not below 0, and a second one above 1
pub behind : (h w : ℕ) (xs ys : List ℕ) → 1 < w → IsRankedBefore (h ∷ w ∷ xs) (zero ∷ 1 ∷ ys) → ⊥
behind zero zero xs ys some b = absurd (omega (arith, some))
behind zero (suc zero) xs ys some b = absurd (omega (arith, some))
behind zero (suc (suc w)) xs ys some b = grind (arith, nat_tests)
behind (suc h) w xs ys some b = grind (arith, nat_tests)

-- ---- adders
pub not_after_itself : (done : List Adder) (a : Adder) → IsNotAfter done a a
not_after_itself done a = ranked_irrefl (rank done a)

pub not_after_first : (done : List Adder) (a b : Adder) → IsBefore done a b → IsNotAfter done a b
not_after_first done a b before after =
    ranked_irrefl (rank done a) (nat_list_cmp_total.trans (rank done a) (rank done b) (rank done a) before after)

pub not_after_both : (done : List Adder) (a b c : Adder) → IsNotAfter done a b → IsNotAfter done b c → IsNotAfter done a c
not_after_both done a b c n m = not_after (rank done a) (rank done b) (rank done c) n m

-- the least of some steps, if a better one comes in its place
pub still_least : (done : List Adder) (number : ℕ) (Kind : Adder → Type 0) (now before : Candidate) → IsNotAfter done now.adder before.adder
    → IsLeastOf done number Kind before → IsLeastOf done number Kind now
still_least done number Kind now before kept least =
    λ a step is. not_after_both done now.adder before.adder a kept (least a step is)

pub ranked : (done : List Adder) (a : Adder) (weight level form : ℕ) → weight ≡ heavier done a → level ≡ higher done a → form ≡ place a.step.form
    → ◌≡◌ {A = List ℕ} ((level - 2) ∷ weight ∷ level ∷ a.u ∷ a.v ∷ a.step.shift ∷ form ∷ []) (rank done a)
unfolding rank
ranked done a weight level form w l f =
    let make : ℕ → ℕ → ℕ → List ℕ = λ x y z. (y - 2) ∷ x ∷ y ∷ a.u ∷ a.v ∷ a.step.shift ∷ z ∷ [] in
    ap (λ x. make x level form) w ∙ ap (λ y. make (heavier done a) y form) l ∙ ap (λ z. make (heavier done a) (higher done a) z) f

-- the first two numbers of a rank
pub quickest : (done : List Adder) (a b : Adder) → get_or (rank done b) 0 0 ≡ 0 → heavier done b ≡ 1 → 1 < heavier done a → IsNotAfter done b a
unfolding rank
quickest done a b quick light heavy before =
    let tail : Adder → List ℕ = λ c. higher done c ∷ c.u ∷ c.v ∷ c.step.shift ∷ place c.step.form ∷ [] in
    behind (higher done a - 2) (heavier done a) (tail a) (tail b) heavy
    (subst (λ w. IsRankedBefore ((higher done a - 2) ∷ heavier done a ∷ tail a) (0 ∷ w ∷ tail b)) light
    (subst (λ q. IsRankedBefore ((higher done a - 2) ∷ heavier done a ∷ tail a) (q ∷ heavier done b ∷ tail b)) quick before))

-- ---- one best step
pub same_adder : (a b : Adder) → a.value ≡ b.value → a.u ≡ b.u → a.v ≡ b.v → a.step.shift ≡ b.step.shift → a.step.form ≡ b.step.form → a ≡ b
same_adder a b e u v s f =
    let make : ℕ → ℕ → ℕ → ℕ → Form → Adder = λ w x y i g. record { value = w; u = x; v = y; step = record { form = g; shift = i } } in
    ap (λ w. make w a.u a.v a.step.shift a.step.form) e ∙ ap (λ x. make b.value x a.v a.step.shift a.step.form) u
    ∙ ap (λ y. make b.value b.u y a.step.shift a.step.form) v ∙ ap (λ i. make b.value b.u b.v i a.step.form) s
    ∙ ap (λ g. make b.value b.u b.v b.step.shift g) f

same_rank : (done : List Adder) (a b : Adder) → a.value ≡ b.value → rank done a ≡ rank done b → a ≡ b
unfolding rank
same_rank done a b value e =
    same_adder a b value (ap (λ xs. get_or xs 3 0) e) (ap (λ xs. get_or xs 4 0) e) (ap (λ xs. get_or xs 5 0) e)
    (same_form a.step.form b.step.form (ap (λ xs. get_or xs 6 0) e))

pub one_best : (done : List Adder) (number : ℕ) (a b : Adder) → IsBest done number a → IsBest done number b → a ≡ b
one_best done number a b ha hb =
    same_rank done a b (ha.step.value ∙ sym hb.step.value)
    (neither (rank done a) (rank done b) (hb.least a ha.step) (ha.least b hb.step))

-- the order of ranks that are known
pub before_is : (done : List Adder) (a b : Adder) (r s : List ℕ) → r ≡ rank done a → s ≡ rank done b → IsRankedBefore r s → IsBefore done a b
before_is done a b r s e d h = subst (IsRankedBefore (rank done a)) d (subst (λ x. IsRankedBefore x s) e h)

pub ranks_are : (done : List Adder) (a b : Adder) (r s : List ℕ) → r ≡ rank done a → s ≡ rank done b → IsBefore done a b → IsRankedBefore r s
ranks_are done a b r s e d h = subst (IsRankedBefore r) (sym d) (subst (λ x. IsRankedBefore x (rank done b)) (sym e) h)
