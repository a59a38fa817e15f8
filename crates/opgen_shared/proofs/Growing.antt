-- A graph with one adder more.
use Rattle.std.proofs.Common.{◌≡◌, ◌≢◌, ◌⊎◌, inl, inr, ◌↔◌, ⊎_elim, ℕ, ◌^◌, ◌+◌, ◌≤◌, ◌<◌, max, min, List, [], ◌∷◌, ◌++◌, length, get_or, All, Contains, append_assoc, sym, ◌∙◌, subst, arith}
use Rattle.std.proofs.lemmas.List.{append-nil, map-append, length-set, length-replicate, get_or-set_same, get_or-set_other, get_or-replicate}
use Rattle.std.proofs.Math.ListN.{set, replicate}
use Rattle.std.proofs.lemmas.List.Elements.{All-append, Contains-append_left, Contains-append_right, Contains-append_cases}
use Rattle.std.proofs.lemmas.Bool.{cases_eq}
use Rattle.opgen_graph.specs.declared.ranks.Adder.{Adder}
use Rattle.opgen_graph.specs.Adders.{Makes}
use Rattle.opgen_graph.specs.Graphs.{values}
use Rattle.opgen_graph.specs.GraphLaws.{IsWired}
use Rattle.opgen_graph.proofs.Members.{here, of_one, of_nil, all_of}
use Rattle.opgen_graph.specs.Reach.{IsWideMember}
use Rattle.opgen_shared.specs.Levels.{level}
use Rattle.opgen_shared.specs.Shared.{AreNew, IsSharedGraph}
use Rattle.opgen_shared.specs.Sums.{AreSums, placed_by}
use Rattle.opgen_shared.proofs.LevelLaws.{known_more, known_first}

pub values_more : (done : List Adder) (a : Adder) → values (done ++ a ∷ []) ≡ values done ++ a.value ∷ []
values_more done a = map-append (λ b. b.value) done (a ∷ [])

moved : (p vs : List ℕ) (b x : ℕ) → Contains (p ++ (b ∷ vs)) x → Contains ((p ++ b ∷ []) ++ vs) x
moved p vs b x c = subst (λ xs. Contains xs x) (sym (append_assoc p (b ∷ []) vs)) c

back : (p vs : List ℕ) (b x : ℕ) → Contains ((p ++ b ∷ []) ++ vs) x → Contains (p ++ (b ∷ vs)) x
back p vs b x c = subst (λ xs. Contains xs x) (append_assoc p (b ∷ []) vs) c

wired_more : (p : List ℕ) (done : List Adder) (a : Adder) → IsWired p done → Contains (p ++ values done) a.u → Contains (p ++ values done) a.v
    → 1 ≤ a.step.shift → Makes a.step.form a.step.shift a.u a.v a.value → IsWired p (done ++ a ∷ [])
wired_more p [] a w u v s m =
    (subst (λ xs. Contains xs a.u) (append-nil p) u, subst (λ xs. Contains xs a.v) (append-nil p) v, s, m, tt)
wired_more p (b ∷ bs) a w u v s m = (
  w.0,
  w.1,
  w.2,
  w.3,
  wired_more (p ++ b.value ∷ []) bs a w.4 (moved p (values bs) b.value a.u u) (moved p (values bs) b.value a.v v) s m,
)

new_more : (p : List ℕ) (done : List Adder) (a : Adder) → AreNew p done → (Contains (p ++ values done) a.value → ⊥) → AreNew p (done ++ a ∷ [])
new_more p [] a w n = (λ c. n (subst (λ xs. Contains xs a.value) (sym (append-nil p)) c), tt)
new_more p (b ∷ bs) a w n =
    (w.0, new_more (p ++ b.value ∷ []) bs a w.1 (λ c. n (back p (values bs) b.value a.value c)))

-- an adder of a new value, of numbers that stand
pub graph_more : (done : List Adder) (a : Adder) → IsSharedGraph done → IsWideMember a.value → (Contains (placed_by done) a.value → ⊥)
    → Contains (placed_by done) a.u → Contains (placed_by done) a.v → 1 ≤ a.step.shift → Makes a.step.form a.step.shift a.u a.v a.value
    → IsSharedGraph (done ++ a ∷ [])
graph_more done a g wide n u v s m = record {
  wired = wired_more (1 ∷ []) done a g.wired u v s m;
  new = new_more (1 ∷ []) done a g.new n;
  members = subst (All IsWideMember) (sym (values_more done a)) (All-append IsWideMember (values done) (a.value ∷ []) g.members (one wide));
}
  where
    one : IsWideMember a.value → All IsWideMember (a.value ∷ [])
    one w = all_of IsWideMember (a.value ∷ []) (λ x c. subst IsWideMember (of_one a.value x c) w)

-- what stands then
pub still : (done : List Adder) (a : Adder) (x : ℕ) → Contains (placed_by done) x → Contains (placed_by (done ++ a ∷ [])) x
still done a x c =
    subst (λ vs. Contains (1 ∷ vs) x) (sym (values_more done a)) (Contains-append_left (placed_by done) (a.value ∷ []) x c)

pub last : (done : List Adder) (a : Adder) → Contains (placed_by (done ++ a ∷ [])) a.value
last done a =
    subst (λ vs. Contains (1 ∷ vs) a.value) (sym (values_more done a))
    (Contains-append_right (placed_by done) (a.value ∷ []) a.value (here a.value []))

pub earlier : (done : List Adder) (a : Adder) (x : ℕ) → Contains (placed_by (done ++ a ∷ [])) x → Contains (placed_by done) x ⊎ (a.value ≡ x)
earlier done a x c =
    let apart : Contains (placed_by done ++ a.value ∷ []) x = subst (λ vs. Contains (1 ∷ vs) x) (values_more done a) c in
    ⊎_elim (λ (k : Contains (placed_by done) x). inl k) (λ (k : Contains (a.value ∷ []) x). inr (of_one a.value x k))
    (Contains-append_cases (placed_by done) (a.value ∷ []) x apart)

abbrev Marks : List Adder → List ℕ → ℕ → Type 0
Marks done known x = (0 < get_or known x 0) ↔ Contains (placed_by done) x

marks_more : (done : List Adder) (a : Adder) (known : List ℕ) (high x : ℕ) → 0 < high → a.value < length known → Marks done known x
    → Marks (done ++ a ∷ []) (set known a.value high) x
marks_more done a known high x some lt before =
    ⊎_elim (λ (e : a.value ≡ x).
    let same : get_or (set known a.value high) x 0 ≡ high =
    subst (λ y. get_or (set known a.value high) y 0 ≡ high) e (get_or-set_same known a.value high 0 lt) in (
      λ (_ : 0 < get_or (set known a.value high) x 0). subst (Contains (placed_by (done ++ a ∷ []))) e (last done a),
      λ (_ : Contains (placed_by (done ++ a ∷ [])) x). subst (λ y. 0 < y) (sym same) some,
    ))
    (λ (ne : a.value ≢ x).
    let other : get_or (set known a.value high) x 0 ≡ get_or known x 0 =
    get_or-set_other known a.value x high 0 (λ e. ne (sym e)) in (
      λ (h : 0 < get_or (set known a.value high) x 0). still done a x (before.0 (subst (λ y. 0 < y) other h)),
      λ (c : Contains (placed_by (done ++ a ∷ [])) x). subst (λ y. 0 < y) (sym other)
          (⊎_elim (λ (k : Contains (placed_by done) x). before.1 k) (λ (e : a.value ≡ x). absurd (ne e)) (earlier done a x c)),
    ))
    (cases_eq a.value x)

pub sums_more : (done new : List Adder) (known marked : List ℕ) (a : Adder) (high : ℕ) → 0 < high
    → high ≡ min 255 (max (level done a.u) (level done a.v) + 1) → AreSums done known → IsWideMember a.value
    → (Contains (placed_by done) a.value → ⊥)
    → Contains (placed_by done) a.u → Contains (placed_by done) a.v → 1 ≤ a.step.shift → Makes a.step.form a.step.shift a.u a.v a.value
    → new ≡ done ++ a ∷ [] → marked ≡ set known a.value high → AreSums new marked
sums_more done new known marked a high some up b wide n u v s m e f =
    subst (λ xs. AreSums xs marked) (sym e) (subst (AreSums (done ++ a ∷ [])) (sym f) grown)
  where
    grown : AreSums (done ++ a ∷ []) (set known a.value high)
    grown = record {
      graph = graph_more done a b.graph wide n u v s m;
      size = length-set known a.value high ∙ b.size;
      marks = λ x lt. marks_more done a known high x some (subst (λ y. a.value < y) (sym b.size) wide.2) (b.marks x lt);
      known = λ x lt. known_more done a known high x up (subst (λ y. a.value < y) (sym b.size) wide.2) (b.known x lt);
    }

-- 1 alone
abbrev zeros : ℕ → List ℕ
zeros n = replicate n 0

first_mark : (n x : ℕ) → 1 < n → x < n → Marks [] (set (zeros n) 1 1) x
first_mark n x some lt =
    ⊎_elim (λ (e : 1 ≡ x).
    let same : ◌≡◌ {A = ℕ} (get_or (set (zeros n) 1 1) x 0) 1 = subst (λ y. ◌≡◌ {A = ℕ} (get_or (set (zeros n) 1 1) y 0) 1) e
    (get_or-set_same (zeros n) 1 1 0 (omega (arith, length-replicate {A = ℕ} n 0, some))) in (
      λ (_ : 0 < get_or (set (zeros n) 1 1) x 0). subst (Contains (1 ∷ [])) e (here 1 []),
      λ (_ : Contains (1 ∷ []) x). subst (λ y. 0 < y) (sym same) (omega arith),
    ))
    (λ (ne : 1 ≢ x).
    let other : ◌≡◌ {A = ℕ} (get_or (set (zeros n) 1 1) x 0) 0 =
    get_or-set_other (zeros n) 1 x 1 0 (λ e. ne (sym e)) ∙ get_or-replicate {A = ℕ} n x 0 0 lt in (
      λ (h : 0 < get_or (set (zeros n) 1 1) x 0). absurd (omega (arith, h, other)),
      λ (c : Contains (1 ∷ []) x). absurd (ne (of_one 1 x c)),
    ))
    (cases_eq 1 x)

pub first_sums : (n : ℕ) (known : List ℕ) → n ≡ 2 ^ 21 → known ≡ set (zeros n) 1 1 → AreSums [] known
first_sums n known size e =
    subst (AreSums []) (sym e) (record {
      graph = record { wired = tt; new = tt; members = none };
      size = length-set (zeros n) 1 1 ∙ length-replicate {A = ℕ} n 0 ∙ size;
      marks = λ x lt. first_mark n x (omega (arith, size)) (subst (λ y. x < y) (sym size) lt);
      known = λ x lt. known_first n x (omega (arith, size)) (subst (λ y. x < y) (sym size) lt);
    })
  where
    none : All IsWideMember []
    none = all_of IsWideMember [] (λ x c. absurd (of_nil x c))
