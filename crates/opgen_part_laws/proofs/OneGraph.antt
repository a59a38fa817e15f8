-- A set has one graph by ranks.
use Rattle.std.proofs.Common.{◌≡◌, ◌≢◌, ◌⊎◌, inl, inr, ℕ, ◌≤◌, ◌<◌, List, [], ◌∷◌, ◌++◌, refl, sym, ap, subst, ◌∙◌, arith}
use Rattle.opgen_graph.specs.declared.forms.Form.{Form}
use Rattle.opgen_graph.specs.declared.forms.Step.{Step}
use Rattle.opgen_graph.specs.declared.ranks.Adder.{Adder}
use Rattle.opgen_graph.specs.Adders.{Comb, IsNotAfter, IsFirstStep}
use Rattle.opgen_graph.specs.Reach.{Among}
use Rattle.opgen_graph.specs.Graphs.{IsFirstAdder, Round, over, made, stays, Rounds, done, round, IsRanks, values}
use Rattle.opgen_graph.proofs.FirstSteps.{same_form}

-- ---- one first step
same_step : (s t : Step) → s.form ≡ t.form → s.shift ≡ t.shift → s ≡ t
same_step s t e d =
    let make : Form → ℕ → Step = λ f n. record { form = f; shift = n } in
    ap (λ f. make f s.shift) e ∙ ap (λ n. make t.form n) d

one_step : (u v f : ℕ) (s t : Step) → IsFirstStep u v f s → IsFirstStep u v f t → s ≡ t
one_step u v f s t hs ht =
    let below : IsNotAfter s t.form t.shift = hs.first t.form t.shift ht.shifted ht.makes in
    let above : IsNotAfter t s.form s.shift = ht.first s.form s.shift hs.shifted hs.makes in
    same_step s t (same_form s.form t.form (omega arith)) (omega arith)

-- ---- one first adder
same_adder : (a b : Adder) → a.value ≡ b.value → a.u ≡ b.u → a.v ≡ b.v → a.step ≡ b.step → a ≡ b
same_adder a b e u v s =
    let make : ℕ → ℕ → ℕ → Step → Adder = λ w x y z. record { value = w; u = x; v = y; step = z } in
    ap (λ w. make w a.u a.v a.step) e ∙ ap (λ x. make b.value x a.v a.step) u ∙ ap (λ y. make b.value b.u y a.step) v
    ∙ ap (λ z. make b.value b.u b.v z) s

comb_of : (u v f : ℕ) (s : Step) → IsFirstStep u v f s → Comb u v f
comb_of u v f s h = (s.form, s.shift, h.shifted, h.makes)

one_adder : (placed : List ℕ) (a b : Adder) → IsFirstAdder placed a → IsFirstAdder placed b → a.value ≡ b.value → a ≡ b
one_adder placed a b ha hb e =
    let below : (a.u < b.u) ⊎ ((a.u ≡ b.u) × (a.v ≤ b.v)) =
    ha.least b.u b.v hb.u_placed hb.v_placed (subst (Comb b.u b.v) (sym e) (comb_of b.u b.v b.value b.step hb.step)) in
    let above : (b.u < a.u) ⊎ ((b.u ≡ a.u) × (b.v ≤ a.v)) =
    hb.least a.u a.v ha.u_placed ha.v_placed (subst (Comb a.u a.v) e (comb_of a.u a.v a.value a.step ha.step)) in
    let u : a.u ≡ b.u = omega arith in
    let v : a.v ≡ b.v = omega arith in
    let moved : IsFirstStep a.u a.v a.value b.step =
    subst (λ f. IsFirstStep a.u a.v f b.step) (sym e)
    (subst (λ y. IsFirstStep a.u y b.value b.step) (sym v) (subst (λ x. IsFirstStep x b.v b.value b.step) (sym u) hb.step)) in
    same_adder a b e u v (one_step a.u a.v a.value a.step b.step ha.step moved)

-- ---- one round
abbrev IsNext : List ℕ → ℕ → List ℕ → List Adder → List ℕ → Type 0
IsNext placed f fs fresh rest =
    ((a : Adder) × (more : List Adder) × (a.value ≡ f) × (fresh ≡ a ∷ more) × IsFirstAdder placed a × Round placed fs more rest)
    ⊎ ((others : List ℕ) × (rest ≡ f ∷ others) × (Among placed f → ⊥) × Round placed fs fresh others)

next_of : (placed xs : List ℕ) (fresh : List Adder) (rest : List ℕ) → Round placed xs fresh rest → (f : ℕ) (fs : List ℕ) → xs ≡ f ∷ fs
    → IsNext placed f fs fresh rest
next_of placed _ _ _ over f fs e = cc
next_of placed _ _ rest (made a {left = left} {fresh = fresh} first r) f fs e =
    let head : a.value ≡ f = cc in
    let tail : left ≡ fs = cc in
    inl (a, fresh, head, refl, first, subst (λ ys. Round placed ys fresh rest) tail r)
next_of placed _ fresh _ (stays g {left = left} {rest = rest} none r) f fs e =
    let head : g ≡ f = cc in
    let tail : left ≡ fs = cc in
    inr (rest, ap (λ x. x ∷ rest) head, subst (λ x. Among placed x → ⊥) head none, subst (λ ys. Round placed ys fresh rest) tail r)

none_of : (placed xs : List ℕ) (fresh : List Adder) (rest : List ℕ) → Round placed xs fresh rest → xs ≡ [] → (fresh ≡ []) × (rest ≡ [])
none_of placed _ _ _ over e = (refl, refl)
none_of placed _ _ rest (made a first r) e = cc
none_of placed _ fresh _ (stays g none r) e = cc

among_of : (placed : List ℕ) (a : Adder) (f : ℕ) → a.value ≡ f → IsFirstAdder placed a → Among placed f
among_of placed a f e h = subst (Among placed) e (a.u, a.v, h.u_placed, h.v_placed, comb_of a.u a.v a.value a.step h.step)

one_round : (placed left : List ℕ) (fresh others : List Adder) (rest least : List ℕ) → Round placed left fresh rest
    → Round placed left others least → (fresh ≡ others) × (rest ≡ least)
one_round placed [] fresh others rest least r s =
    let a = none_of placed [] fresh rest r refl in
    let b = none_of placed [] others least s refl in
    (a.0 ∙ sym b.0, a.1 ∙ sym b.1)
one_round placed (f ∷ fs) fresh others rest least r s =
    both (next_of placed (f ∷ fs) fresh rest r f fs refl) (next_of placed (f ∷ fs) others least s f fs refl) (one_round placed fs)
  where
    both : IsNext placed f fs fresh rest → IsNext placed f fs others least
        → ((x y : List Adder) (v w : List ℕ) → Round placed fs x v → Round placed fs y w → (x ≡ y) × (v ≡ w))
        → (fresh ≡ others) × (rest ≡ least)
    both (inl (a, more, av, e, ha, ra)) (inl (b, less, bv, d, hb, rb)) ih =
        let tails = ih more less rest least ra rb in
        (e ∙ ap (λ x. x ∷ more) (one_adder placed a b ha hb (av ∙ sym bv)) ∙ ap (λ xs. b ∷ xs) tails.0 ∙ sym d, tails.1)
    both (inl (a, more, av, e, ha, ra)) (inr (left, d, none, rb)) ih = absurd (none (among_of placed a f av ha))
    both (inr (left, d, none, ra)) (inl (b, less, bv, e, hb, rb)) ih = absurd (none (among_of placed b f bv hb))
    both (inr (left, d, none, ra)) (inr (kept, e, none2, rb)) ih =
        let tails = ih fresh others left kept ra rb in
        (tails.0, d ∙ ap (λ xs. f ∷ xs) tails.1 ∙ sym e)

-- ---- one graph
abbrev IsFirstRound : List ℕ → List ℕ → List Adder → Type 0
IsFirstRound placed left adders =
    ((left ≡ []) × (adders ≡ []))
    ⊎ ((fresh : List Adder) × (later : List Adder) × (rest : List ℕ) × (adders ≡ fresh ++ later) × Round placed left fresh rest
    × (fresh ≢ []) × Rounds (placed ++ values fresh) rest later)

first_round : (placed left : List ℕ) (adders : List Adder) → Rounds placed left adders → IsFirstRound placed left adders
first_round placed _ _ done = inl (refl, refl)
first_round placed left _ (round {rest = rest} {fresh = fresh} {later = later} r some next) = inr (fresh, later, rest, refl, r, some, next)

one_rounds : (placed left : List ℕ) (adders others : List Adder) → Rounds placed left adders → Rounds placed left others → adders ≡ others
one_rounds placed _ _ others done s = ended (first_round placed [] others s)
  where
    ended : IsFirstRound placed [] others → [] ≡ others
    ended (inl (_, e)) = sym e
    ended (inr (fresh, later, rest, e, r, some, next)) = absurd (some (none_of placed [] fresh rest r refl).0)
one_rounds placed left _ others (round {rest = rest} {fresh = fresh} {later = later} r some next) s =
    same (first_round placed left others s) (λ x more. one_rounds (placed ++ values fresh) rest later x next more)
  where
    same : IsFirstRound placed left others → ((x : List Adder) → Rounds (placed ++ values fresh) rest x → later ≡ x)
        → fresh ++ later ≡ others
    same (inl (e, d)) ih = absurd (some (none_of placed left fresh rest r e).0)
    same (inr (first, after, kept, e, t, _, more)) ih =
        let one = one_round placed left fresh first rest kept r t in
        let moved : Rounds (placed ++ values fresh) rest after =
        subst (λ xs. Rounds (placed ++ values xs) rest after) (sym one.0)
        (subst (λ ys. Rounds (placed ++ values first) ys after) (sym one.1) more) in
        ap (λ xs. fresh ++ xs) (ih after moved) ∙ ap (λ xs. xs ++ after) one.0 ∙ sym e

pub one_graph : (set : List ℕ) (adders others : List Adder) → IsRanks set adders → IsRanks set others → adders ≡ others
one_graph set adders others h k = one_rounds (1 ∷ []) set adders others h k
