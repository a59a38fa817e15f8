-- Sets in the making.
use Rattle.std.proofs.Common.{◌≡◌, ◌⊎◌, inl, inr, ⊎_elim, ℕ, ◌≤◌, ◌<◌, false, ◌==◌, List, [], ◌∷◌, ◌++◌, length, drop, get_or, All, Contains, IsPermutation, refl, sym, ap, subst, ◌∙◌, arith, append_assoc}
use Rattle.std.specs.List.{remove}
use Rattle.std.proofs.lemmas.Grind.{get_or_default_zero}
use Rattle.std.proofs.lemmas.List.{append-nil}
use Rattle.std.proofs.lemmas.List.Elements.{All-contains, All-cons, Contains-get_or, Contains-append_left, Contains-append_right, Contains-append_cases}
use Rattle.std.proofs.lemmas.List.Sorted.{IsPermutation-refl, IsPermutation-sym, IsPermutation-trans, IsPermutation-more, IsPermutation-middle, Contains-permutation, All-permutation}
use Rattle.opgen_graph.specs.Adders.{IsTerm, Comb, CombEither}
use Rattle.opgen_graph.specs.Reach.{Among, IsBuiltFrom, Reachable, IsMember}
use Rattle.opgen_graph.proofs.Members.{here, there, of_cons, of_nil, of_one, all_of, is_in, read, within_more}
use Rattle.opgen_graph.proofs.Reaching.{more_among}
use Rattle.opgen_search.specs.Members.{Within}
use Rattle.opgen_search.specs.Nodes.{members, IsNode, IsStuck}
use Rattle.opgen_search.proofs.Sets.{distinct_cons, distinct_moved, distinct_append}

-- ---- what is placed
pub one_placed : (placed : List ℕ) → placed ≡ 1 ∷ drop 1 placed → Contains placed 1
one_placed placed e = subst (λ xs. Contains xs 1) (sym e) (here 1 (drop 1 placed))

pub placed_cases : (placed : List ℕ) (x : ℕ) → placed ≡ 1 ∷ drop 1 placed → Contains placed x → (1 ≡ x) ⊎ Contains (drop 1 placed) x
placed_cases placed x e c = of_cons 1 x (drop 1 placed) (subst (λ xs. Contains xs x) e c)

pub placed_member : (placed : List ℕ) (x : ℕ) → placed ≡ 1 ∷ drop 1 placed → Contains (drop 1 placed) x → Contains placed x
placed_member placed x e c = subst (λ xs. Contains xs x) (sym e) (there 1 x (drop 1 placed) c)

term_of : (x : ℕ) → IsMember x → IsTerm x
term_of x m = (m.0, m.2)

pub placed_terms : (placed left : List ℕ) → IsNode placed left → All IsTerm placed
placed_terms placed left n =
    all_of IsTerm placed (λ x c. ⊎_elim (λ (e : 1 ≡ x). subst IsTerm e (refl, omega arith))
    (λ (k : Contains (drop 1 placed) x). term_of x
    (All-contains IsMember (members placed left) x n.adders (Contains-append_left (drop 1 placed) left x k)))
    (placed_cases placed x n.starts c))

pub left_terms : (placed left : List ℕ) → IsNode placed left → All IsTerm left
left_terms placed left n =
    all_of IsTerm left
    (λ x c. term_of x (All-contains IsMember (members placed left) x n.adders (Contains-append_right (drop 1 placed) left x c)))

after_first : (placed : List ℕ) (x : ℕ) → placed ≡ 1 ∷ drop 1 placed → drop 1 (placed ++ x ∷ []) ≡ drop 1 placed ++ x ∷ []
after_first placed x e = ap (λ xs. drop 1 (xs ++ x ∷ [])) e

starts_more : (placed : List ℕ) (x : ℕ) → placed ≡ 1 ∷ drop 1 placed → placed ++ x ∷ [] ≡ 1 ∷ drop 1 (placed ++ x ∷ [])
starts_more placed x e = ap (λ xs. xs ++ x ∷ []) e ∙ ap (λ xs. 1 ∷ xs) (sym (after_first placed x e))

built_snoc : (p xs : List ℕ) (x : ℕ) → IsBuiltFrom p xs → Among (p ++ xs) x → IsBuiltFrom p (xs ++ x ∷ [])
built_snoc p [] x b a = (subst (λ ys. Among ys x) (append-nil p) a, tt)
built_snoc p (f ∷ fs) x b a = (b.0, built_snoc (p ++ f ∷ []) fs x b.1 (subst (λ ys. Among ys x) (sym (append_assoc p (f ∷ []) fs)) a))

built_more : (placed : List ℕ) (x : ℕ) → placed ≡ 1 ∷ drop 1 placed → IsBuiltFrom (1 ∷ []) (drop 1 placed) → Among placed x
    → IsBuiltFrom (1 ∷ []) (drop 1 (placed ++ x ∷ []))
built_more placed x e b a = subst (IsBuiltFrom (1 ∷ [])) (sym (after_first placed x e))
    (built_snoc (1 ∷ []) (drop 1 placed) x b (subst (λ ys. Among ys x) e a))

-- ---- a member that was left is placed
pub moved_members : (placed left : List ℕ) (i x : ℕ) → placed ≡ 1 ∷ drop 1 placed → i < length left → x ≡ get_or left i x
    → IsPermutation (members placed left) (members (placed ++ x ∷ []) (remove left i))
moved_members placed left i x e lt at = subst (λ xs. IsPermutation (members placed left) (xs ++ remove left i))
    (sym (after_first placed x e)) (IsPermutation-more (members placed left) (drop 1 placed) left i x lt at
    (IsPermutation-refl (members placed left)))

pub moved : (placed left : List ℕ) (i x : ℕ) → IsNode placed left → i < length left → x ≡ get_or left i x → Among placed x
    → IsNode (placed ++ x ∷ []) (remove left i)
moved placed left i x n lt at a =
    let p = moved_members placed left i x n.starts lt at in
    record {
      starts = starts_more placed x n.starts;
      built = built_more placed x n.starts n.built a;
      distinct = distinct_moved _ _ p n.distinct;
      adders = All-permutation IsMember _ _ p n.adders;
    }

made_at : (placed left : List ℕ) (i x : ℕ) → i < length left → x ≡ get_or left i x → Among placed (get_or left i 0) → Among placed x
made_at placed left i x lt at a = subst (Among placed) (sym (get_or_default_zero left i x lt) ∙ sym at) a

pub moved_next : (first placed left : List ℕ) (i x : ℕ) → IsNode placed left → IsPermutation first (members placed left)
    → i < length left → x ≡ get_or left i x → Among placed (get_or left i 0) → IsNode (placed ++ x ∷ []) (remove left i)
    × IsPermutation first (members (placed ++ x ∷ []) (remove left i))
moved_next first placed left i x n p lt at a = (
  moved placed left i x n lt at (made_at placed left i x lt at a),
  IsPermutation-trans _ _ _ p (moved_members placed left i x n.starts lt at),
)

-- ---- a further member is placed
pub added_members : (placed left : List ℕ) (x : ℕ) → placed ≡ 1 ∷ drop 1 placed
    → IsPermutation (x ∷ members placed left) (members (placed ++ x ∷ []) left)
added_members placed left x e =
    let p = IsPermutation-sym _ _ (IsPermutation-middle (drop 1 placed) x left) in
    subst (λ xs. IsPermutation (x ∷ members placed left) (xs ++ left)) (sym (after_first placed x e))
    (subst (IsPermutation (x ∷ members placed left)) (sym (append_assoc (drop 1 placed) (x ∷ []) left)) p)

pub added : (placed left : List ℕ) (x : ℕ) → IsNode placed left → (Contains (members placed left) x → ⊥) → IsMember x → Among placed x
    → IsNode (placed ++ x ∷ []) left
added placed left x n out m a =
    let p = added_members placed left x n.starts in
    record {
      starts = starts_more placed x n.starts;
      built = built_more placed x n.starts n.built a;
      distinct = distinct_moved _ _ p (distinct_cons x (members placed left) out n.distinct);
      adders = All-permutation IsMember _ _ p (All-cons IsMember x (members placed left) m n.adders);
    }

-- ---- the next member of a larger set that can be reached
first_new : (placed p order : List ℕ) → Within p placed → IsBuiltFrom p order → (x : ℕ) → Contains order x → (Contains placed x → ⊥)
    → (f : ℕ) × Contains order f × (Contains placed f → ⊥) × Among placed f
first_new placed p [] w b x c out = absurd (of_nil x c)
first_new placed p (f ∷ fs) w b x c out =
    ⊎_elim
    (λ (k : Contains placed f).
    let later : Contains fs x = ⊎_elim (λ (e : f ≡ x). absurd (out (subst (Contains placed) e k))) (λ (i : Contains fs x). i)
    (of_cons f x fs c) in
    let rest = first_new placed (p ++ f ∷ []) fs (within_more p placed f w k) b.1 x later out in
    (rest.0, there f rest.0 fs rest.1, rest.2, rest.3))
    (λ (no : Contains placed f → ⊥). (f, here f fs, no, more_among p placed f w b.0))
    (is_in placed f)

pub next_member : (placed left other : List ℕ) (x : ℕ) → IsNode placed left → IsStuck placed left → Contains other x
    → (Contains placed x → ⊥) → Reachable other → (f : ℕ) × Contains other f × (Contains (members placed left) f → ⊥) × Among placed f
next_member placed left other x n stuck x_in x_new (order, perm, built) =
    let one : Within (1 ∷ []) placed = λ y c. subst (Contains placed) (of_one 1 y c) (one_placed placed n.starts) in
    let (f, f_in, f_new, f_made) = first_new placed (1 ∷ []) order one built x (Contains-permutation other order x perm x_in) x_new in (
      f,
      Contains-permutation order other f (IsPermutation-sym other order perm) f_in,
      λ c. ⊎_elim (λ (k : Contains (drop 1 placed) f). f_new (placed_member placed f n.starts k))
          (λ (k : Contains left f). stuck f k f_made) (Contains-append_cases (drop 1 placed) left f c),
      f_made,
    )

pub some_left : (left : List ℕ) → false ≡ (length left == 0) → 0 < length left
some_left [] e = cc
some_left (x ∷ xs) e = omega arith

-- what is left is not placed
first_left : (placed left : List ℕ) → IsNode placed left → 0 < length left → (x : ℕ) × Contains (members placed left) x
    × (Contains placed x → ⊥)
first_left placed left n some =
    let x = get_or left 0 0 in
    let x_left : Contains left x = Contains-get_or left 0 0 some in
    let x_member : Contains (members placed left) x = Contains-append_right (drop 1 placed) left x x_left in
    let x_large = (All-contains IsMember (members placed left) x n.adders x_member).1 in (
      x,
      x_member,
      λ c. ⊎_elim (λ (e : 1 ≡ x). omega (arith, e, x_large))
          (λ (k : Contains (drop 1 placed) x). distinct_append (drop 1 placed) left x n.distinct k x_left)
          (placed_cases placed x n.starts c),
    )

-- a node with something left of which nothing can be made is no set that can be reached
pub not_reachable : (placed left other : List ℕ) → IsNode placed left → IsStuck placed left → 0 < length left
    → IsPermutation other (members placed left) → Reachable other → ⊥
not_reachable placed left other n stuck some p r =
    let (x, x_member, x_new) = first_left placed left n some in
    let (f, f_in, f_out, _) =
    next_member placed left other x n stuck (Contains-permutation (members placed left) other x
    (IsPermutation-sym other (members placed left) p) x_member) x_new r in
    f_out (Contains-permutation other (members placed left) f p f_in)

-- ---- a further member helps
pub stuck_more : (placed left : List ℕ) (m : ℕ) → IsStuck placed left
    → ((x : ℕ) → Contains left x → (v : ℕ) → Contains (placed ++ m ∷ []) v → CombEither m v x → ⊥) → IsStuck (placed ++ m ∷ []) left
stuck_more placed left m stuck none x c (u, v, cu, cv, made) =
    ⊎_elim
    (λ (pu : Contains placed u).
    ⊎_elim (λ (pv : Contains placed v). stuck x c (u, v, pu, pv, made))
    (λ (mv : Contains (m ∷ []) v). none x c u cu (inr (subst (λ y. Comb u y x) (sym (of_one m v mv)) made)))
    (Contains-append_cases placed (m ∷ []) v cv))
    (λ (mu : Contains (m ∷ []) u). none x c v cv (inl (subst (λ y. Comb y v x) (sym (of_one m u mu)) made)))
    (Contains-append_cases placed (m ∷ []) u cu)

pub no_help : (placed : List ℕ) (m x : ℕ) → ((v : ℕ) × Contains (m ∷ []) v × CombEither m v x → ⊥)
    → ((v : ℕ) × Contains placed v × CombEither m v x → ⊥) → (v : ℕ) → Contains (placed ++ m ∷ []) v → CombEither m v x → ⊥
no_help placed m x itself others v c e = ⊎_elim (λ (k : Contains placed v). others (v, k, e))
    (λ (k : Contains (m ∷ []) v). itself (v, k, e)) (Contains-append_cases placed (m ∷ []) v c)

pub none_helps : (placed left : List ℕ) (m n : ℕ) → length left ≤ n
    → ((k : ℕ) → k < n → (v : ℕ) → Contains (placed ++ m ∷ []) v → CombEither m v (get_or left k 0) → ⊥) → (x : ℕ) → Contains left x
    → (v : ℕ) → Contains (placed ++ m ∷ []) v → CombEither m v x → ⊥
none_helps placed left m n le h x c v cv e = h c.0 (omega (arith, c.1)) v cv (subst (λ y. CombEither m v y) (sym (read left x c)) e)
