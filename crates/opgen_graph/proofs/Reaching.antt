-- What rounds say of reachable sets.
use Rattle.std.proofs.Common.{◌≡◌, ◌≢◌, ◌⊎◌, inl, inr, ⊎_elim, ℕ, suc, ◌<◌, List, [], ◌∷◌, ◌++◌, length, All, length-append, Contains, IsPermutation, refl, ap, subst, arith, append_assoc}
use Rattle.std.proofs.lemmas.List.{append-nil}
use Rattle.std.proofs.lemmas.List.Elements.{Contains-append_left, Contains-append_right, Contains-append_cases, All-contains, All-append}
use Rattle.std.proofs.lemmas.List.Sorted.{Contains-permutation, IsPermutation-refl, IsPermutation-cons, IsPermutation-middle, IsPermutation-trans, IsPermutation-sym, IsPermutation-append_right, All-permutation, length_permutation}
use Rattle.opgen_graph.specs.declared.ranks.Adder.{Adder}
use Rattle.opgen_graph.specs.Reach.{Among, IsBuiltFrom, Reachable}
use Rattle.opgen_graph.specs.Graphs.{IsFirstAdder, Round, over, made, stays, Rounds, done, round, IsRanks, values}
use Rattle.opgen_graph.specs.GraphLaws.{IsWired, IsGraphOf}
use Rattle.opgen_graph.proofs.Members.{here, there, of_cons, of_nil, of_one, Within, wider, within_more, all_of}

pub more_among : (p q : List ℕ) (f : ℕ) → Within p q → Among p f → Among q f
more_among p q f w (u, v, cu, cv, makes) = (u, v, w u cu, w v cv, makes)

-- nothing that is left can be made, so an order that begins within what is placed never comes to what is left
pub stuck : (placed left p order : List ℕ) → Within p placed → ((x : ℕ) → Contains order x → Contains placed x ⊎ Contains left x)
    → ((x : ℕ) → Contains left x → Among placed x → ⊥) → IsBuiltFrom p order → (x : ℕ) → Contains order x → Contains left x → ⊥
stuck placed left p [] w each none b x c l = of_nil x c
stuck placed left p (f ∷ fs) w each none b x c l =
    let makes = more_among p placed f w b.0 in
    let f_placed : Contains placed f = ⊎_elim (λ (h : Contains placed f). h) (λ (h : Contains left f). absurd (none f h makes))
    (each f (here f fs)) in
    ⊎_elim (λ (e : f ≡ x). none x l (subst (Among placed) e makes))
    (λ (h : Contains fs x). stuck placed left (p ++ f ∷ []) fs (within_more p placed f w f_placed)
    (λ y k. each y (there f y fs k)) none b.1 x h l)
    (of_cons f x fs c)

-- ---- one round
pub none_made : (placed left rest : List ℕ) → Round placed left [] rest → (x : ℕ) → Contains left x → Among placed x → ⊥
none_made placed [] [] over x c = absurd (of_nil x c)
none_made placed _ _ (stays f {left = left} {rest = rest} none r) x c =
    ⊎_elim (λ (same : f ≡ x). subst (λ y. Among placed y → ⊥) same none) (λ (k : Contains left x). none_made placed left rest r x k)
    (of_cons f x left c)

pub parts : (placed left : List ℕ) (fresh : List Adder) (rest : List ℕ) → Round placed left fresh rest
    → IsPermutation left (values fresh ++ rest)
parts placed [] [] [] over = IsPermutation-refl []
parts placed _ _ rest (made a {left = left} {fresh = fresh} first r) = IsPermutation-cons a.value _ _ (parts placed left fresh rest r)
parts placed _ fresh _ (stays f {left = left} {rest = rest} none r) =
    IsPermutation-trans _ _ _ (IsPermutation-cons f _ _ (parts placed left fresh rest r))
    (IsPermutation-sym _ _ (IsPermutation-middle (values fresh) f rest))

pub from_round : (placed left : List ℕ) (fresh : List Adder) (rest : List ℕ) → Round placed left fresh rest → (x : ℕ) → Contains left x
    → Contains (values fresh) x ⊎ Contains rest x
from_round placed left fresh rest s x c =
    Contains-append_cases (values fresh) rest x (Contains-permutation left _ x (parts placed left fresh rest s) c)

pub round_in : (placed left : List ℕ) (fresh : List Adder) (rest : List ℕ) → Round placed left fresh rest
    → Within (values fresh ++ rest) left
round_in placed left fresh rest s x c = Contains-permutation _ left x (IsPermutation-sym left _ (parts placed left fresh rest s)) c

length_values : (xs : List Adder) → length (values xs) ≡ length xs
length_values [] = refl
length_values (x ∷ xs) = ap suc (length_values xs)

pub shorter : (placed left : List ℕ) (fresh : List Adder) (rest : List ℕ) → Round placed left fresh rest → fresh ≢ []
    → length rest < length left
shorter placed left [] rest s ne = absurd (ne refl)
shorter placed left (a ∷ fresh) rest s ne =
    omega (arith, length_permutation _ _ (parts placed left (a ∷ fresh) rest s), length-append (values (a ∷ fresh)) rest)

-- ---- rounds depend on which numbers are placed, not on their order
same_first : (p q : List ℕ) (a : Adder) → Within p q → Within q p → IsFirstAdder p a → IsFirstAdder q a
same_first p q a to from h = record {
  u_placed = to a.u h.u_placed;
  v_placed = to a.v h.v_placed;
  step = h.step;
  least = λ u v cu cv makes. h.least u v (from u cu) (from v cv) makes;
}

same_round : (p q left : List ℕ) (fresh : List Adder) (rest : List ℕ) → Within p q → Within q p → Round p left fresh rest
    → Round q left fresh rest
same_round p q [] [] [] to from over = over
same_round p q _ _ rest to from (made a {left = left} {fresh = fresh} first r) =
    made a (same_first p q a to from first) (same_round p q left fresh rest to from r)
same_round p q _ fresh _ to from (stays f {left = left} {rest = rest} none r) =
    stays f (λ makes. none (more_among q p f from makes)) (same_round p q left fresh rest to from r)

pub same_rounds : (p q left : List ℕ) (adders : List Adder) → Within p q → Within q p → Rounds p left adders → Rounds q left adders
same_rounds p q [] [] to from done = done
same_rounds p q left _ to from (round {rest = rest} {fresh = fresh} {later = later} s some next) =
    round (same_round p q left fresh rest to from s) some
    (same_rounds (p ++ values fresh) (q ++ values fresh) rest later (wider p q (values fresh) to) (wider q p (values fresh) from) next)

-- ---- the loop over rounds
pub record Ranking (set placed left : List ℕ) (adders : List Adder) : Type 0 where
  pub one : Contains placed 1
  pub each : (x : ℕ) → Contains set x → Contains placed x ⊎ Contains left x
  pub part : Within left set
  pub rounds : (later : List Adder) → Rounds placed left later → IsRanks set (adders ++ later)

first_of : (left : List ℕ) → left ≢ [] → (x : ℕ) × Contains left x
first_of [] ne = absurd (ne refl)
first_of (x ∷ xs) ne = (x, here x xs)

pub ranking_none : (set : List ℕ) → Ranking set (1 ∷ []) set []
ranking_none set = record { one = here 1 []; each = λ x c. inr c; part = λ x c. c; rounds = λ later r. r }

pub unreachable : (set placed left : List ℕ) (adders fresh : List Adder) (rest : List ℕ) → Ranking set placed left adders → left ≢ []
    → Round placed left fresh rest → fresh ≡ [] → Reachable set → ⊥
unreachable set placed left adders fresh rest r ne s e (order, perm, built) =
    let none = none_made placed left rest (subst (λ xs. Round placed left xs rest) e s) in
    let x = first_of left ne in
    let in_order = Contains-permutation set order x.0 perm (r.part x.0 x.1) in
    let one : Within (1 ∷ []) placed = λ y c. subst (Contains placed) (of_one 1 y c) r.one in
    stuck placed left (1 ∷ []) order one
    (λ y c. r.each y (Contains-permutation order set y (IsPermutation-sym set order perm) c)) none built x.0 in_order x.1

pub ranking_more : (set placed left : List ℕ) (adders fresh : List Adder) (rest sorted : List ℕ) → Ranking set placed left adders
    → Round placed left fresh rest → fresh ≢ [] → IsPermutation (placed ++ values fresh) sorted → Ranking set sorted rest (adders ++ fresh)
ranking_more set placed left adders fresh rest sorted r s ne perm =
    let to : Within (placed ++ values fresh) sorted = λ x c. Contains-permutation _ sorted x perm c in
    let from : Within sorted (placed ++ values fresh) = λ x c. Contains-permutation sorted _ x (IsPermutation-sym _ sorted perm) c in
    record {
      one = to 1 (Contains-append_left placed (values fresh) 1 r.one);
      each = λ x c. ⊎_elim (λ (k : Contains placed x). inl (to x (Contains-append_left placed (values fresh) x k)))
          (λ (k : Contains left x). ⊎_elim (λ (m : Contains (values fresh) x). inl
          (to x (Contains-append_right placed (values fresh) x m))) (λ (m : Contains rest x). inr m)
          (from_round placed left fresh rest s x k))
          (r.each x c);
      part = λ x c. r.part x (round_in placed left fresh rest s x (Contains-append_right (values fresh) rest x c));
      rounds =
          λ later next. rw append_assoc
          (r.rounds (fresh ++ later) (round s ne (same_rounds sorted (placed ++ values fresh) rest later from to next)));
    }

pub all_sorted : (P : ℕ → Type 0) (placed left : List ℕ) (fresh : List Adder) (rest sorted : List ℕ) → All P placed → All P left
    → Round placed left fresh rest → IsPermutation (placed ++ values fresh) sorted → All P rest × All P sorted
all_sorted P placed left fresh rest sorted ap al s perm =
    let inside = round_in placed left fresh rest s in (
      all_of P rest (λ x c. All-contains P left x al (inside x (Contains-append_right (values fresh) rest x c))),
      All-permutation P _ sorted perm (All-append P placed (values fresh) ap
          (all_of P (values fresh) (λ x c. All-contains P left x al (inside x (Contains-append_left (values fresh) rest x c))))),
    )

-- ---- graphs by ranks
wired_round : (placed p left : List ℕ) (fresh : List Adder) (rest : List ℕ) (later : List Adder) → Within placed p
    → Round placed left fresh rest → IsWired (p ++ values fresh) later → IsWired p (fresh ++ later)
wired_round placed p [] [] [] later w over h = rw append-nil at h
wired_round placed p _ _ rest later w (made a {left = left} {fresh = fresh} first r) h =
    let moved : IsWired ((p ++ a.value ∷ []) ++ values fresh) later = rw append_assoc h in (
      w a.u first.u_placed,
      w a.v first.v_placed,
      first.step.shifted,
      first.step.makes,
      wired_round placed (p ++ a.value ∷ []) left fresh rest later (λ x c. Contains-append_left p (a.value ∷ []) x (w x c)) r moved,
    )
wired_round placed p _ fresh _ later w (stays f {left = left} {rest = rest} none r) h = wired_round placed p left fresh rest later w r h

values_append : (r s : List Adder) → values (r ++ s) ≡ values r ++ values s
values_append [] s = refl
values_append (a ∷ r) s = ap (λ xs. a.value ∷ xs) (values_append r s)

ranked : (placed left : List ℕ) (adders : List Adder) → Rounds placed left adders
    → IsPermutation left (values adders) × IsWired placed adders
ranked placed [] [] done = (IsPermutation-refl [], tt)
ranked placed left _ (round {rest = rest} {fresh = fresh} {later = later} s some next) =
    let tail = ranked (placed ++ values fresh) rest later next in (
      rw (values_append fresh later) (IsPermutation-trans _ _ _ (parts placed left fresh rest s)
          (IsPermutation-append_right (values fresh) rest (values later) tail.0)),
      wired_round placed placed left fresh rest later (λ x c. c) s tail.1,
    )

built : (placed : List ℕ) (adders : List Adder) → IsWired placed adders → IsBuiltFrom placed (values adders)
built placed [] h = tt
built placed (a ∷ adders) h = ((a.u, a.v, h.0, h.1, (a.step.form, a.step.shift, h.2, h.3)), built (placed ++ a.value ∷ []) adders h.4)

pub ranks_are_graphs : (set : List ℕ) (adders : List Adder) → IsRanks set adders → IsGraphOf set adders
ranks_are_graphs set adders h = let all = ranked (1 ∷ []) set adders h in
    record { members = all.0; wired = all.1; reachable = (values adders, all.0, built (1 ∷ []) adders all.1) }
