-- The beginning and the end of a walk, and how much of it is left.
use Rattle.std.proofs.Common.{◌≡◌, ◌≢◌, ℕ, zero, suc, ◌+◌, ◌<◌, ◌≤◌, true, List, [], ◌∷◌, length, get_or, set, map, refl, sym, ap, ◌∙◌, subst, inl, inr, arith}
use Rattle.std.specs.Prelude.{Contains, replicate}
use Rattle.std.proofs.lemmas.Bool.{cases_lt, cases_Bool}
use Rattle.std.proofs.lemmas.List.{get_or-replicate, length-replicate, get_or_past, get_or-map, length-map, get_or_default}
use Rattle.opgen_components.specs.declared.Component.{Component}
use Rattle.opgen_components.specs.declared.walk.Mark.{Mark}
use Rattle.opgen_components.specs.declared.walk.Mark.TheVariants.{New, Open, Done}
use Rattle.opgen_components.specs.Graph.{Graph, links_of, IsGraph, Path, link, through, AreComponents, component_of}
use Rattle.opgen_components.specs.Walk.{mark_of, link_at, Reaches, IsDone, IsWalkOf, left, component_at}

new_at : (n s : ℕ) → mark_of (replicate n New) s ≡ New
new_at n s =
    elim (cases_lt s n) [
      | inl l ↦ get_or-replicate n s New New l
      | inr l ↦ get_or_past (replicate n New) s New (omega (arith, l, length-replicate n New))
    ]

zero_at : (n s : ℕ) → ◌≡◌ {A = ℕ} (get_or (replicate n 0) s 0) 0
zero_at n s =
    elim (cases_lt s n) [
      | inl l ↦ get_or-replicate n s 0 0 l
      | inr l ↦ get_or_past (replicate n 0) s 0 (omega (arith, l, length-replicate {A = ℕ} n 0))
    ]

none_done : (n s : ℕ) (c : Component) → IsDone (replicate n New) s c → ⊥
none_done n s c h = let e : New ≡ Done c = sym (new_at n s) ∙ h in absurd (cc)

pub start-walk : (g : Graph) (n : ℕ) → length g ≡ n → IsWalkOf g (replicate n New) (replicate n 0) [] [] [] 0
start-walk g n e = record {
  marks_length = length-replicate n New ∙ sym e;
  next_length = length-replicate {A = ℕ} n 0 ∙ sym e;
  settled = record {
    downwards = λ s k c d l. absurd (none_done n s c d);
    numbers = λ s c d. absurd (none_done n s c d);
    together = λ s r c b d f h. absurd (none_done n s c d);
    alone = λ s r c b d f h. absurd (none_done n s c d);
    straight = λ s k c d f l. absurd (none_done n s c d);
    cyclic = λ s c d f. absurd (none_done n s c d);
  };
  on_path = record {
    marked = λ i l. absurd (omega (arith, l));
    placed = λ s p h. let f : New ≡ Open p = sym (new_at n s) ∙ h in absurd (cc);
    new = λ s h. zero_at n s;
    reaches = λ i j l m. absurd (omega (arith, m));
    begins = λ i l. absurd (omega (arith, l));
    followed = λ i k l m. absurd (omega (arith, l));
    finished = λ i l. absurd (omega (arith, l));
    open_within = λ i c. absurd (omega (arith, c.1));
    open_up = λ i j d l m. absurd (omega (arith, m));
    bounds_up = λ i j d l m. absurd (omega (arith, m));
    bounds_open = λ b c. absurd (omega (arith, c.1));
  };
}

-- with no open node the path is empty
pub path-empty : (g : Graph) (marks : List Mark) (next path bounds places : List ℕ) (count : ℕ)
    → IsWalkOf g marks next path bounds places count → length places ≡ 0 → length path ≡ 0
path-empty g marks next path bounds places count w e =
    elim (cases_lt 0 (length path)) [
      | inl l ↦ let b = w.on_path.begins 0 l in let c = w.on_path.bounds_open b.0 b.1 in absurd (omega (arith, c.1, e))
      | inr l ↦ omega (arith, l)
    ]

-- one link more was followed
pub left-less : (g : Graph) (next : List ℕ) (s k : ℕ) → length next ≡ length g → get_or next s 0 ≡ k → k < length (links_of g s)
    → left g (set next s (k + 1)) + 1 ≡ left g next
left-less [] next s k l e h = absurd (omega (arith, h))
left-less (links ∷ g) [] s k l e h = absurd (omega (arith, l))
left-less (links ∷ g) (n ∷ next) zero k l e h = omega (arith, e, h)
left-less (links ∷ g) (n ∷ next) (suc s) k l e h = omega (arith, left-less g next s k (omega (arith, l)) e h)

module _ (g : Graph) (marks : List Mark) (next path bounds places : List ℕ) (count : ℕ) (w : IsWalkOf g marks next path bounds places count)
    (graph : IsGraph g) (empty : length path ≡ 0) (met : (s : ℕ) → s < length g → mark_of marks s ≢ New) where
  done_by : (s : ℕ) → s < length g → (m : Mark) → mark_of marks s ≡ m → mark_of marks s ≡ Done (component_at m)
  done_by s l New h = absurd (met s l h)
  done_by s l (Open p) h = absurd (omega (arith, (w.on_path.placed s p h).0, empty))
  done_by s l (Done c) h = h

  abbrev found : List Component
  found = map component_at marks

  found_at : (s : ℕ) → s < length g → component_of found s ≡ component_at (mark_of marks s)
  found_at s l = get_or-map component_at marks s New _ (omega (arith, l, w.marks_length))

  is_done : (s : ℕ) → s < length g → IsDone marks s (component_of found s)
  is_done s l = rw (found_at s l) (done_by s l (mark_of marks s) refl)

  within_by : (s r : ℕ) → Contains (links_of g s) r → s < length g
  within_by s r c =
      elim (cases_lt s (length g)) [
        | inl l ↦ l
        | inr l ↦ absurd (omega (arith, c.1, ap length (get_or_past g s [] l)))
      ]

  downwards : (s r : ℕ) → Contains (links_of g s) r → (component_of found r).number ≤ (component_of found s).number
  downwards s r c =
      let l = within_by s r c in
      let e : link_at g s c.0 ≡ r = get_or_default (links_of g s) c.0 0 r c.1 ∙ c.2 in
      let b = w.settled.downwards s c.0 (component_of found s) (is_done s l) c.1 in
      let d : IsDone marks r b.0 = subst (λ x. IsDone marks x b.0) e b.1 in
      let f : Done b.0 ≡ Done (component_of found r) = sym d ∙ is_done r (graph s r c) in
      let same : b.0 ≡ component_of found r = cc in
      omega (arith, b.2, ap (λ x. x.number) same)

  path_within : (s r : ℕ) → Path g s r → (s < length g) × (r < length g)
  path_within s r (link c) = (within_by s r c, graph s r c)
  path_within s r (through p q) = ((path_within s _ p).0, (path_within _ r q).1)

  path_down : (s r : ℕ) → Path g s r → (component_of found r).number ≤ (component_of found s).number
  path_down s r (link c) = downwards s r c
  path_down s r (through p q) = omega (arith, path_down s _ p, path_down _ r q)

  -- a path begins with a link
  first : (s r : ℕ) → Path g s r → (q : ℕ) × Contains (links_of g s) q × Reaches g q r
  first s r (link c) = (r, c, inl refl)
  first s r (through {q = t} p q) =
      let f = first s t p in
      (f.0, f.1, elim f.2 [ inl e ↦ subst (λ x. Reaches g x r) (sym e) (inr q) | inr a ↦ inr (through a q) ])

  reaches_down : (s r : ℕ) → Reaches g s r → (component_of found r).number ≤ (component_of found s).number
  reaches_down s r h = elim h [ inl e ↦ omega (arith, ap (λ x. (component_of found x).number) e) | inr p ↦ path_down s r p ]

  cyclic_from : (s : ℕ) → s < length g → Path g s s → (component_of found s).cyclic ≡ true
  cyclic_from s l p =
      let f = first s s p in
      let c = f.1 in
      let down = downwards s f.0 c in
      let up = reaches_down f.0 s f.2 in
      let same : (component_of found s).number ≡ (component_of found f.0).number = omega (arith, down, up) in
      elim (cases_Bool (component_of found s).cyclic) [
        | inl e ↦ e
        | inr e ↦
            let a = w.settled.alone s f.0 (component_of found s) (component_of found f.0) (is_done s l) e
            (is_done f.0 (graph s f.0 c)) same in
            let b : link_at g s c.0 ≡ f.0 = get_or_default (links_of g s) c.0 0 f.0 c.1 ∙ c.2 in
            absurd (w.settled.straight s c.0 (component_of found s) (is_done s l) e c.1 (b ∙ a))
      ]

  pub are-components : AreComponents g found
  are-components = record {
    one_each = length-map marks component_at ∙ w.marks_length;
    numbers = λ s r l m e. w.settled.together s r (component_of found s) (component_of found r) (is_done s l) (is_done r m) e;
    downwards = downwards;
    cyclic = λ s l. (λ h. w.settled.cyclic s (component_of found s) (is_done s l) h, λ p. cyclic_from s l p);
  }
