-- A walk after each step of the program.
use Rattle.std.proofs.Common.{◌≡◌, ◌≢◌, ℕ, ◌+◌, ◌-◌, ◌*◌, ◌<◌, ◌≤◌, ◌⊎◌, Bool, true, false, List, [], ◌∷◌, ◌++◌, length, get_or, set, take, drop, refl, sym, ap, ◌∙◌, subst, inl, inr, arith}
use Rattle.std.specs.Prelude.{Contains, Vec}
use Rattle.std.proofs.lemmas.Bool.{cases_lt, cases_eq}
use Rattle.std.proofs.lemmas.List.{get_or-set_same, get_or-set_other, get_or_append_left, length_push, length-map, get_or-map, get_or_past, length-take, get_or_default}
use Rattle.opgen_components.specs.declared.Component.{Component}
use Rattle.opgen_components.specs.declared.walk.Mark.{Mark}
use Rattle.opgen_components.specs.declared.walk.Mark.TheVariants.{New, Open, Done}
use Rattle.opgen_components.specs.declared.walk.Walk.{Walk}
use Rattle.opgen_components.specs.Graph.{Graph, graph_of, links_of, IsGraph}
use Rattle.opgen_components.specs.Walk.{IsTop, IsWalk, IsWalkOf, IsFollowed, KeepsMet, Entered, Joined, Follows, Finished, Closed, mark_of, link_at, marked, left, work}
use Rattle.opgen_components.proofs.Stacks.{top-contains, top-within}
use Rattle.opgen_components.proofs.Walks.{link-contains, reaches-trans, reaches-top, entered-walk, joined-walk, joined-followed, advanced-walk, finished-walk, closed-walk}
use Rattle.opgen_components.proofs.Ends.{left-less}
use Rattle.opgen_components.specs.Graph.{link}

walk-same : (g : Graph) (ms ns : List Mark) (next next' path path' bounds bounds' places places' : List ℕ) (count count' : ℕ)
    → ns ≡ ms → next' ≡ next → path' ≡ path → bounds' ≡ bounds → places' ≡ places → count' ≡ count
    → IsWalkOf g ms next path bounds places count → IsWalkOf g ns next' path' bounds' places' count'
walk-same g ms ns next next' path path' bounds bounds' places places' count count' a b c d e f w =
    subst (λ x. IsWalkOf g x next' path' bounds' places' count') (sym a)
    (subst (λ x. IsWalkOf g ms x path' bounds' places' count') (sym b)
    (subst (λ x. IsWalkOf g ms next x bounds' places' count') (sym c)
    (subst (λ x. IsWalkOf g ms next path x places' count') (sym d)
    (subst (λ x. IsWalkOf g ms next path bounds x count') (sym e)
    (subst (λ x. IsWalkOf g ms next path bounds places x) (sym f) w)))))

pub links-of-graph : {Z : Type 0} (vs : List (Vec ℕ Z)) (s : ℕ) (d : Vec ℕ Z) → s < length vs → links_of (graph_of vs) s
    ≡ (get_or vs s d).items
links-of-graph vs s d l = get_or-map (λ v. v.items) vs s d [] l

pub length-graph : {Z : Type 0} (vs : List (Vec ℕ Z)) → length (graph_of vs) ≡ length vs
length-graph vs = length-map vs (λ v. v.items)

-- a node that is marked is there
pub node-there : (g : Graph) (w : Walk) → IsWalk g w → (i : ℕ) → i < length w.path.items → get_or w.path.items i 0 < length g
node-there g w h i l =
    elim (cases_lt (get_or w.path.items i 0) (length w.marks.items)) [
      | inl m ↦ omega (arith, m, h.marks_length)
      | inr m ↦ let a : New ≡ Open i = sym (get_or_past w.marks.items (get_or w.path.items i 0) New m) ∙ h.on_path.marked i l in absurd (cc)
    ]

pub path-nodes : (g : Graph) (w : Walk) → IsWalk g w → (n : ℕ) → Contains w.path.items n → n < length w.marks.items
path-nodes g w h n c =
    let a = node-there g w h c.0 c.1 in
    let e : get_or w.path.items c.0 0 ≡ n = get_or_default w.path.items c.0 0 n c.1 ∙ c.2 in
    omega (arith, a, e, h.marks_length)

pub place-there : (g : Graph) (w : Walk) → IsWalk g w → (o : ℕ) → IsTop w.open_places.items o → o < length w.path.items
place-there g w h o top = h.on_path.open_within o (top-contains w.open_places.items o top)

pub bounds-there : (g : Graph) (w : Walk) → IsWalk g w → (o : ℕ) → IsTop w.open_places.items o → 0 < length w.bounds.items
bounds-there g w h o top = let b = h.on_path.begins o (place-there g w h o top) in omega (arith, b.1.1)

module _ (g : Graph) (old now : Walk) (graph : IsGraph g) (w : IsWalk g old) (o k : ℕ) (top : IsTop old.open_places.items o)
    (at : get_or old.next.items (get_or old.path.items o 0) 0 ≡ k) (more : k < length (links_of g (get_or old.path.items o 0))) where
  abbrev node : ℕ
  node = get_or old.path.items o 0

  abbrev next_node : ℕ
  next_node = link_at g node k

  leads : Contains (links_of g node) next_node
  leads = link-contains g node k more

  there : o < length old.path.items
  there = place-there g old w o top

  abbrev IsAdvanced : Type 0
  IsAdvanced = IsWalkOf g now.marks.items (set now.next.items node (k + 1)) now.path.items now.bounds.items now.open_places.items
      (length now.done.items)

  by_new : mark_of old.marks.items next_node ≡ New → Entered old next_node now → IsAdvanced
  by_new new e =
      let reached = λ (i : ℕ) (l : i < length old.path.items). reaches-trans g (get_or old.path.items i 0) node next_node
      (reaches-top g old.marks.items old.next.items old.path.items old.bounds.items old.open_places.items
      (length old.done.items) w o top i l) (inr (link leads)) in
      let n = length old.path.items in
      let v = entered-walk g old.marks.items old.next.items old.path.items old.bounds.items old.open_places.items
      (length old.done.items) w next_node new (graph node next_node leads) reached in
      let same : get_or (old.path.items ++ next_node ∷ []) o 0 ≡ node = get_or_append_left old.path.items (next_node ∷ []) 0 o there in
      let is : mark_of (set old.marks.items next_node (Open n)) next_node
      ≡ Open n = get_or-set_same old.marks.items next_node (Open n) New (omega (arith, w.marks_length, graph node next_node leads)) in
      let opened : mark_of (set old.marks.items next_node (Open n)) (link_at g (get_or (old.path.items ++ next_node ∷ []) o 0) k) ≡ Open n =
      ap (λ x. mark_of (set old.marks.items next_node (Open n)) (link_at g x k)) same ∙ is in
      let low : IsFollowed (old.bounds.items ++ n ∷ []) (Open n) o = λ b c m. omega (arith, m, there) in
      let u = advanced-walk g (set old.marks.items next_node (Open n)) old.next.items (old.path.items ++ next_node ∷ [])
      (old.bounds.items ++ n ∷ []) (old.open_places.items ++ n ∷ []) (length old.done.items) v o k
      (omega (arith, there, length_push old.path.items next_node)) (ap (λ x. get_or old.next.items x 0) same ∙ at)
      (subst (λ m. IsFollowed (old.bounds.items ++ n ∷ []) m o) (sym opened) low) in
      walk-same g (set old.marks.items next_node (Open n)) now.marks.items
      (set old.next.items (get_or (old.path.items ++ next_node ∷ []) o 0) (k + 1)) (set now.next.items node (k + 1))
      (old.path.items ++ next_node ∷ []) now.path.items (old.bounds.items ++ n ∷ []) now.bounds.items
      (old.open_places.items ++ n ∷ []) now.open_places.items (length old.done.items) (length now.done.items)
      e.marks (ap (λ x. set x node (k + 1)) e.next ∙ ap (λ x. set old.next.items x (k + 1)) (sym same)) e.path e.bounds e.open_places
      (ap length e.done) u

  by_open : (p : ℕ) → mark_of old.marks.items next_node ≡ Open p → Joined old p now → IsAdvanced
  by_open p opened e =
      let v = joined-walk g old.marks.items old.next.items old.path.items old.bounds.items old.open_places.items
      (length old.done.items) w o next_node p top leads opened now.bounds.items e.up e.there e.within e.kept in
      let f = joined-followed g old.marks.items old.next.items old.path.items old.bounds.items old.open_places.items
      (length old.done.items) w o next_node p top leads opened now.bounds.items e.up e.there e.within e.kept in
      let u = advanced-walk g old.marks.items old.next.items old.path.items now.bounds.items old.open_places.items
      (length old.done.items) v o k there at f in
      walk-same g old.marks.items now.marks.items (set old.next.items node (k + 1))
      (set now.next.items node (k + 1)) old.path.items now.path.items now.bounds.items now.bounds.items
      old.open_places.items now.open_places.items (length old.done.items) (length now.done.items)
      e.marks (ap (λ x. set x node (k + 1)) e.next) e.path refl e.open_places (ap length e.done) u

  by_done : (c : Component) → mark_of old.marks.items next_node ≡ Done c → now ≡ old → IsAdvanced
  by_done c done e =
      let f : IsFollowed old.bounds.items (mark_of old.marks.items next_node) o = subst (λ m. IsFollowed old.bounds.items m o)
      (sym done) tt in
      let u = advanced-walk g old.marks.items old.next.items old.path.items old.bounds.items old.open_places.items
      (length old.done.items) w o k there at f in
      walk-same g old.marks.items now.marks.items (set old.next.items node (k + 1))
      (set now.next.items node (k + 1)) old.path.items now.path.items old.bounds.items now.bounds.items
      old.open_places.items now.open_places.items (length old.done.items) (length now.done.items)
      (ap (λ x. x.marks.items) e) (ap (λ x. set x.next.items node (k + 1)) e) (ap (λ x. x.path.items) e) (ap (λ x. x.bounds.items) e)
      (ap (λ x. x.open_places.items) e) (ap (λ x. length x.done.items) e) u

  advanced_by : (m : Mark) → mark_of old.marks.items next_node ≡ m → Follows m old next_node now → IsAdvanced
  advanced_by New h e = by_new h e
  advanced_by (Open p) h e = by_open p h e
  advanced_by (Done c) h e = by_done c h e

  pub advanced : Follows (mark_of old.marks.items next_node) old next_node now → IsAdvanced
  advanced e = advanced_by (mark_of old.marks.items next_node) refl e

  less_by : (m : Mark) → Follows m old next_node now → (now.next.items ≡ old.next.items)
      × (length now.open_places.items ≤ length old.open_places.items + 1)
  less_by New e = (e.next, omega (arith, ap length e.open_places, length_push old.open_places.items (length old.path.items)))
  less_by (Open p) e = (e.next, omega (arith, ap length e.open_places))
  less_by (Done c) e = (ap (λ x. x.next.items) e, omega (arith, ap (λ x. length x.open_places.items) e))

  pub advanced-less : Follows (mark_of old.marks.items next_node) old next_node now
      → 2 * left g (set now.next.items node (k + 1)) + length now.open_places.items < work g old
  advanced-less e =
      let a = less_by (mark_of old.marks.items next_node) e in
      let b = left-less g old.next.items node k w.next_length at more in
      let c = ap (λ x. left g (set x node (k + 1))) a.0 in
      omega (arith, a.1, b, c)

  met_by : (m : Mark) → mark_of old.marks.items next_node ≡ m → Follows m old next_node now → KeepsMet old now
  met_by New h e = λ s d f.
      let n = length old.path.items in
      let other : s ≢ next_node = λ q. d (ap (mark_of old.marks.items) q ∙ h) in
      d (sym (get_or-set_other old.marks.items next_node s (Open n) New other) ∙ ap (λ x. mark_of x s) (sym e.marks) ∙ f)
  met_by (Open p) h e = λ s d f. d (ap (λ x. mark_of x s) (sym e.marks) ∙ f)
  met_by (Done c) h e = λ s d f. d (ap (λ x. mark_of x.marks.items s) (sym e) ∙ f)

  pub advanced-met : Follows (mark_of old.marks.items next_node) old next_node now → KeepsMet old now
  advanced-met e = met_by (mark_of old.marks.items next_node) refl e

module _ (g : Graph) (old now : Walk) (w : IsWalk g old) (o : ℕ) (top : IsTop old.open_places.items o)
    (ended : length (links_of g (get_or old.path.items o 0)) ≤ get_or old.next.items (get_or old.path.items o 0) 0) where
  rest_less : now.open_places.items ≡ take (length old.open_places.items - 1) old.open_places.items → now.next.items ≡ old.next.items
      → work g now < work g old
  rest_less e f =
      let a = ap length e in
      let b = length-take (length old.open_places.items - 1) old.open_places.items in
      let c = top-within old.open_places.items o top in
      let d = ap (left g) f in
      omega (arith, a, b, c, d)

  module _ (b : ℕ) (begin : IsTop old.bounds.items b) (other : b ≢ o) (e : Finished old now) where
    pub finished : IsWalk g now
    finished =
        walk-same g old.marks.items now.marks.items old.next.items now.next.items old.path.items now.path.items old.bounds.items
        now.bounds.items
        (take (length old.open_places.items - 1) old.open_places.items) now.open_places.items (length old.done.items)
        (length now.done.items)
        e.marks e.next e.path e.bounds e.open_places (ap length e.done)
        (finished-walk g old.marks.items old.next.items old.path.items old.bounds.items old.open_places.items
        (length old.done.items) w o top ended b begin other)

    pub finished-less : work g now < work g old
    finished-less = rest_less e.open_places e.next

    pub finished-met : KeepsMet old now
    finished-met = λ s d f. d (ap (λ x. mark_of x s) (sym e.marks) ∙ f)

  module _ (begin : IsTop old.bounds.items o) (is_cyclic : Bool) (e : Closed old o is_cyclic now)
      (turns : is_cyclic ≡ true → (o + 1 < length old.path.items) ⊎ Contains (links_of g (get_or old.path.items o 0)) (get_or old.path.items
      o 0))
      (ends : is_cyclic ≡ false → (length old.path.items ≡ o + 1)
      × (Contains (links_of g (get_or old.path.items o 0)) (get_or old.path.items o 0) → ⊥)) where
    abbrev group : Component
    group = record { number = length old.done.items; cyclic = is_cyclic }

    pub closed : IsWalk g now
    closed =
        walk-same g (marked old.marks.items (drop o old.path.items) (Done group)) now.marks.items old.next.items now.next.items
        (take o old.path.items) now.path.items
        (take (length old.bounds.items - 1) old.bounds.items) now.bounds.items
        (take (length old.open_places.items - 1) old.open_places.items) now.open_places.items
        (length old.done.items + (length old.path.items - o)) (length now.done.items)
        e.marks e.next e.path e.bounds e.open_places e.done
        (closed-walk g old.marks.items old.next.items old.path.items old.bounds.items old.open_places.items
        (length old.done.items) w o top ended begin is_cyclic turns ends)

    pub closed-less : work g now < work g old
    closed-less = rest_less e.open_places e.next

    met_marked : (ms : List Mark) (ns : List ℕ) (s : ℕ) → mark_of ms s ≢ New → mark_of (marked ms ns (Done group)) s ≢ New
    met_marked ms [] s d = d
    met_marked ms (n ∷ ns) s d =
        met_marked (set ms n (Done group)) ns s
        (λ f. elim (cases_eq s n) [
          | inl q ↦ elim (cases_lt n (length ms)) [
            | inl l ↦ let a : Done group ≡ New = sym (get_or-set_same ms n (Done group) New l)
                ∙ ap (mark_of (set ms n (Done group))) (sym q) ∙ f in absurd (cc)
            | inr l ↦ d (get_or_past ms s New (omega (arith, l, q)))
          ]
          | inr q ↦ d (sym (get_or-set_other ms n s (Done group) New q) ∙ f)
        ])

    pub closed-met : KeepsMet old now
    closed-met = λ s d f. met_marked old.marks.items (drop o old.path.items) s d (ap (λ x. mark_of x s) (sym e.marks) ∙ f)

-- a walk begins anew at a node
module _ (g : Graph) (old now : Walk) (w : IsWalk g old) (empty : length old.path.items ≡ 0) (root : ℕ) (there : root < length g)
    (new : mark_of old.marks.items root ≡ New) (e : Entered old root now) where
  pub root-walk : IsWalk g now
  root-walk =
      let n = length old.path.items in
      walk-same g (set old.marks.items root (Open n)) now.marks.items old.next.items now.next.items
      (old.path.items ++ root ∷ []) now.path.items (old.bounds.items ++ n ∷ []) now.bounds.items
      (old.open_places.items ++ n ∷ []) now.open_places.items (length old.done.items) (length now.done.items)
      e.marks e.next e.path e.bounds e.open_places (ap length e.done)
      (entered-walk g old.marks.items old.next.items old.path.items old.bounds.items old.open_places.items
      (length old.done.items) w root new there
      (λ i l. absurd (omega (arith, l, empty))))

  root-mark : mark_of now.marks.items root ≡ Open (length old.path.items)
  root-mark =
      ap (λ x. mark_of x root) e.marks
      ∙ get_or-set_same old.marks.items root (Open (length old.path.items)) New (omega (arith, w.marks_length, there))

  pub root-met : mark_of now.marks.items root ≢ New
  root-met = λ f. let a : Open (length old.path.items) ≡ New = sym root-mark ∙ f in absurd (cc)

  pub root-kept : KeepsMet old now
  root-kept = λ s d f.
      let other : s ≢ root = λ q. d (ap (mark_of old.marks.items) q ∙ new) in
      d (sym (get_or-set_other old.marks.items root s (Open (length old.path.items)) New other) ∙ ap (λ x. mark_of x s) (sym e.marks) ∙ f)
