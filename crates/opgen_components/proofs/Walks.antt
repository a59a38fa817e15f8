-- What holds between the steps of a walk stays so by each of them.
use Rattle.std.proofs.Common.{◌≡◌, ◌≢◌, ℕ, ◌+◌, ◌-◌, ◌<◌, ◌≤◌, ◌⊎◌, Bool, true, false, List, [], ◌∷◌, ◌++◌, length, get_or, set, take, drop, refl, sym, ap, ◌∙◌, subst, inl, inr, arith}
use Rattle.std.specs.Prelude.{Contains}
use Rattle.std.proofs.lemmas.Bool.{cases_lt, cases_eq}
use Rattle.std.proofs.lemmas.List.{get_or-set_same, get_or-set_other, length-set, get_or_append_left, get_or_push, length_push, get_or-take, get_or-drop, length-drop, length-take-le, get_or_default, get_or_past}
use Rattle.std.proofs.lemmas.List.Elements.{Contains-get_or, Contains-push, Contains-push_cases, Contains-append_left}
use Rattle.opgen_components.specs.declared.Component.{Component}
use Rattle.opgen_components.specs.declared.walk.Mark.{Mark}
use Rattle.opgen_components.specs.declared.walk.Mark.TheVariants.{New, Open, Done}
use Rattle.opgen_components.specs.Graph.{Graph, links_of, Path, link, through, AreTogether}
use Rattle.opgen_components.specs.Walk.{IsAscending, IsTop, mark_of, marked, link_at, Reaches, IsDone, AreSettled, IsFollowed, IsWalkOf}
use Rattle.opgen_components.proofs.Stacks.{ascending-push, ascending-front, ascending-below, top-split, top-contains, top-most}
use Rattle.opgen_components.proofs.Marks.{marked-out, marked-in, length-marked}

pub reaches-trans : (g : Graph) (s q r : ℕ) → Reaches g s q → Reaches g q r → Reaches g s r
reaches-trans g s q r h k =
    elim h [
      | inl e ↦ subst (λ x. Reaches g x r) (sym e) k
      | inr p ↦ elim k [ inl e ↦ subst (λ x. Reaches g s x) e (inr p) | inr q ↦ inr (through p q) ]
    ]

pub path-reaches : (g : Graph) (s q r : ℕ) → Path g s q → Reaches g q r → Path g s r
path-reaches g s q r p k = elim k [ inl e ↦ subst (λ x. Path g s x) e p | inr q ↦ through p q ]

pub path-between : (g : Graph) (s r : ℕ) → s ≢ r → Reaches g s r → Path g s r
path-between g s r d k = elim k [ inl e ↦ absurd (d e) | inr p ↦ p ]

together-from : (g : Graph) (s r : ℕ) → Reaches g s r → Reaches g r s → AreTogether g s r
together-from g s r h k =
    elim h [ inl e ↦ inl e | inr p ↦ elim k [ inl e ↦ inl (sym e) | inr q ↦ inr (p, q) ] ]

pub link-contains : (g : Graph) (s k : ℕ) → k < length (links_of g s) → Contains (links_of g s) (link_at g s k)
link-contains g s k l = Contains-get_or (links_of g s) k 0 l

-- the same nodes are done
settled-kept : (g : Graph) (ms ns : List Mark) (count : ℕ)
    → ((t : ℕ) (c : Component) → IsDone ms t c → IsDone ns t c) → ((t : ℕ) (c : Component) → IsDone ns t c → IsDone ms t c)
    → AreSettled g ms count → AreSettled g ns count
settled-kept g ms ns count to from h = record {
  downwards = λ s k c d l. let b = h.downwards s k c (from s c d) l in (b.0, to _ b.0 b.1, b.2);
  numbers = λ s c d. h.numbers s c (from s c d);
  together = λ s r c b d e. h.together s r c b (from s c d) (from r b e);
  alone = λ s r c b d f e. h.alone s r c b (from s c d) f (from r b e);
  straight = λ s k c d. h.straight s k c (from s c d);
  cyclic = λ s c d. h.cyclic s c (from s c d);
}

module _ (g : Graph) (marks : List Mark) (next path bounds places : List ℕ) (count : ℕ)
    (w : IsWalkOf g marks next path bounds places count) where
  abbrev at : ℕ → ℕ
  at i = get_or path i 0

  same_place : (i j : ℕ) → i < length path → j < length path → at i ≡ at j → i ≡ j
  same_place i j l m e =
      let a = w.on_path.marked i l in
      let b = w.on_path.marked j m in
      let c : mark_of marks (at i) ≡ mark_of marks (at j) = ap (mark_of marks) e in
      let d : Open i ≡ Open j = sym a ∙ c ∙ b in
      cc

  -- the last open node is reached from each node of the path
  pub reaches-top : (o : ℕ) → IsTop places o → (i : ℕ) → i < length path → Reaches g (at i) (at o)
  reaches-top o top i l =
      let there = w.on_path.open_within o (top-contains places o top) in
      elim (cases_lt o i) [
        | inl m ↦
            let b = w.on_path.begins i l in
            let low = top-most places o w.on_path.open_up top b.0 (w.on_path.bounds_open b.0 b.1) in
            reaches-trans g (at i) (at b.0) (at o) b.3 (w.on_path.reaches b.0 o low there)
        | inr m ↦ w.on_path.reaches i o m there
      ]

  module _ (s : ℕ) (new : mark_of marks s ≡ New) (there : s < length g) (reached : (i : ℕ) → i < length path → Reaches g (at i) s) where
    abbrev marks-entered : List Mark
    marks-entered = set marks s (Open (length path))

    mark_same : mark_of marks-entered s ≡ Open (length path)
    mark_same = get_or-set_same marks s (Open (length path)) New (omega (arith, w.marks_length, there))

    mark_other : (t : ℕ) → t ≢ s → mark_of marks-entered t ≡ mark_of marks t
    mark_other t d = get_or-set_other marks s t (Open (length path)) New d

    mark_kept : (t : ℕ) (m : Mark) → m ≢ New → mark_of marks t ≡ m → mark_of marks-entered t ≡ m
    mark_kept t m d h =
        let other : t ≢ s = λ e. d (sym h ∙ ap (mark_of marks) e ∙ new) in
        mark_other t other ∙ h

    done_from : (t : ℕ) (c : Component) → IsDone marks-entered t c → IsDone marks t c
    done_from t c h =
        elim (cases_eq t s) [
          | inl e ↦ let f : Open (length path) ≡ Done c = sym mark_same ∙ ap (mark_of marks-entered) (sym e) ∙ h in absurd (cc)
          | inr d ↦ sym (mark_other t d) ∙ h
        ]

    front : (i : ℕ) → i < length path → get_or (path ++ s ∷ []) i 0 ≡ at i
    front i l = get_or_append_left path (s ∷ []) 0 i l

    end : get_or (path ++ s ∷ []) (length path) 0 ≡ s
    end = get_or_push path s 0 (length path) refl

    cases_end : (i : ℕ) → i < length (path ++ s ∷ []) → (i < length path) ⊎ (i ≡ length path)
    cases_end i l =
        elim (cases_lt i (length path)) [ inl m ↦ inl m | inr m ↦ inr (omega (arith, m, l, length_push path s)) ]

    followed_kept : (i : ℕ) (m : Mark) → i < length path → IsFollowed bounds m i → IsFollowed (bounds ++ length path ∷ []) m i
    followed_kept i New l h = h
    followed_kept i (Open p) l h = λ b c m. elim
        (Contains-push_cases bounds (length path) b c) [ inl d ↦ h b d m | inr e ↦ absurd (omega (arith, e, m, l)) ]
    followed_kept i (Done c) l h = tt

    was_met : (i : ℕ) (m : Mark) → IsFollowed bounds m i → m ≢ New
    was_met i New h = absurd h
    was_met i (Open p) h = λ e. absurd (cc)
    was_met i (Done c) h = λ e. absurd (cc)

    pub entered-walk : IsWalkOf g marks-entered next (path ++ s ∷ []) (bounds ++ length path ∷ []) (places ++ length path ∷ []) count
    entered-walk = record {
      marks_length = length-set marks s (Open (length path)) ∙ w.marks_length;
      next_length = w.next_length;
      settled = settled-kept g marks marks-entered count (λ t c h. mark_kept t (Done c) (λ e. absurd (cc)) h) done_from w.settled;
      on_path = record {
        marked = λ i l. elim (cases_end i l) [
          | inl m ↦ ap (mark_of marks-entered) (front i m) ∙ mark_kept (at i) (Open i) (λ e. absurd (cc)) (w.on_path.marked i m)
          | inr e ↦ ap (λ j. mark_of marks-entered (get_or (path ++ s ∷ []) j 0)) e ∙ ap (mark_of marks-entered) end ∙ mark_same
              ∙ ap Open (sym e)
        ];
        placed = λ t p h. elim (cases_eq t s) [
          | inl e ↦
              let f : Open (length path) ≡ Open p = sym mark_same ∙ ap (mark_of marks-entered) (sym e) ∙ h in
              let q : length path ≡ p = cc in
              (omega (arith, q, length_push path s), ap (λ j. get_or (path ++ s ∷ []) j 0) (sym q) ∙ end ∙ sym e)
          | inr d ↦
              let a = w.on_path.placed t p (sym (mark_other t d) ∙ h) in
              (omega (arith, a.0, length_push path s), front p a.0 ∙ a.1)
        ];
        new = λ t h. elim (cases_eq t s) [
          | inl e ↦ let f : Open (length path) ≡ New = sym mark_same ∙ ap (mark_of marks-entered) (sym e) ∙ h in absurd (cc)
          | inr d ↦ w.on_path.new t (sym (mark_other t d) ∙ h)
        ];
        reaches = λ i j l m. elim (cases_end j m) [
          | inl n ↦ let x = front i (omega (arith, l, n)) in let y = front j n in rw (x, y) (w.on_path.reaches i j l n)
          | inr e ↦ elim (cases_end i (omega (arith, l, m))) [
            | inl n ↦ subst (λ x. Reaches g (get_or (path ++ s ∷ []) i 0) (get_or (path ++ s ∷ []) x 0)) (sym e)
                (rw (front i n, end) (reached i n))
            | inr f ↦ inl (ap (λ x. get_or (path ++ s ∷ []) x 0) (f ∙ sym e))
          ]
        ];
        begins = λ i l. elim (cases_end i l) [
          | inl m ↦
              let b = w.on_path.begins i m in
              (b.0, Contains-append_left bounds (length path ∷ []) b.0 b.1, b.2, rw (front i m, front b.0 (omega (arith, b.2, m))) b.3)
          | inr e ↦ (length path, Contains-push bounds (length path), omega (arith, e), inl (ap (λ x. get_or (path ++ s ∷ []) x 0) e))
        ];
        followed = λ i k l m. elim (cases_end i l) [
          | inl n ↦
              let f : k < get_or next (at i) 0 = subst (λ x. k < get_or next x 0) (front i n) m in
              let h = w.on_path.followed i k n f in
              let same = mark_kept (link_at g (at i) k) (mark_of marks (link_at g (at i) k)) (was_met i _ h) refl in
              rw (front i n) (subst (λ x. IsFollowed (bounds ++ length path ∷ []) x i) (sym same) (followed_kept i _ n h))
          | inr e ↦
              let f : k < get_or next s 0 = subst (λ x. k < get_or next x 0) end
              (subst (λ x. k < get_or next (get_or (path ++ s ∷ []) x 0) 0) e m) in
              absurd (omega (arith, f, w.on_path.new s new))
        ];
        finished = λ i l. elim (cases_end i l) [
          | inl m ↦ elim (w.on_path.finished i m) [
            | inl c ↦ inl (Contains-append_left places (length path ∷ []) i c)
            | inr h ↦ inr (rw (front i m) h)
          ]
          | inr e ↦ inl (subst (λ x. Contains (places ++ length path ∷ []) x) (sym e) (Contains-push places (length path)))
        ];
        open_within = λ i c. elim (Contains-push_cases places (length path) i c) [
          | inl d ↦ omega (arith, w.on_path.open_within i d, length_push path s)
          | inr e ↦ omega (arith, e, length_push path s)
        ];
        open_up = ascending-push places (length path) w.on_path.open_up w.on_path.open_within;
        bounds_up = ascending-push bounds (length path) w.on_path.bounds_up (λ b c. w.on_path.open_within b (w.on_path.bounds_open b c));
        bounds_open = λ b c. elim (Contains-push_cases bounds (length path) b c) [
          | inl d ↦ Contains-append_left places (length path ∷ []) b (w.on_path.bounds_open b d)
          | inr e ↦ subst (λ x. Contains (places ++ length path ∷ []) x) e (Contains-push places (length path))
        ];
      };
    }

  -- a link that leads to an open node joins the groups from that node on
  module _ (o r p : ℕ) (top : IsTop places o) (leads : Contains (links_of g (at o)) r) (opened : mark_of marks r ≡ Open p) (cut : List ℕ)
      (up : IsAscending cut) (there : (b : ℕ) → Contains cut b → Contains bounds b) (within : (b : ℕ) → Contains cut b → b ≤ p)
      (kept : (b : ℕ) → Contains bounds b → b ≤ p → Contains cut b) where
    to_place : (i : ℕ) → i < length path → Reaches g (at i) (at p)
    to_place i l =
        let a = w.on_path.placed r p opened in
        reaches-trans g (at i) (at o) (at p) (reaches-top o top i l) (subst (λ x. Reaches g (at o) x) (sym a.1) (inr (link leads)))

    begins_cut : (i : ℕ) → i < length path → (b : ℕ) × Contains cut b × (b ≤ i) × Reaches g (at i) (at b)
    begins_cut i l =
        let b = w.on_path.begins i l in
        elim (cases_lt p b.0) [
          | inl m ↦
              let a = w.on_path.placed r p opened in
              let c = w.on_path.begins p a.0 in
              (c.0, kept c.0 c.1 c.2, omega (arith, c.2, m, b.2), reaches-trans g (at i) (at p) (at c.0) (to_place i l) c.3)
          | inr m ↦ (b.0, kept b.0 b.1 m, b.2, b.3)
        ]

    followed_cut : (i : ℕ) (m : Mark) → IsFollowed bounds m i → IsFollowed cut m i
    followed_cut i New h = h
    followed_cut i (Open q) h = λ b c. h b (there b c)
    followed_cut i (Done c) h = tt

    pub joined-walk : IsWalkOf g marks next path cut places count
    joined-walk = record {
      marks_length = w.marks_length;
      next_length = w.next_length;
      settled = w.settled;
      on_path = record {
        marked = w.on_path.marked;
        placed = w.on_path.placed;
        new = w.on_path.new;
        reaches = w.on_path.reaches;
        begins = begins_cut;
        followed = λ i k l m. followed_cut i _ (w.on_path.followed i k l m);
        finished = w.on_path.finished;
        open_within = w.on_path.open_within;
        open_up = w.on_path.open_up;
        bounds_up = up;
        bounds_open = λ b c. w.on_path.bounds_open b (there b c);
      };
    }

    pub joined-followed : IsFollowed cut (mark_of marks r) o
    joined-followed = subst (λ m. IsFollowed cut m o) (sym opened) (λ b c m. within b c)

  -- one link more was followed
  module _ (o k : ℕ) (there : o < length path) (was : get_or next (at o) 0 ≡ k)
      (here : IsFollowed bounds (mark_of marks (link_at g (at o) k)) o) where
    within_next : at o < length next
    within_next =
        elim (cases_lt (at o) (length marks)) [
          | inl l ↦ omega (arith, l, w.marks_length, w.next_length)
          | inr l ↦ let a : New ≡ Open o = sym (get_or_past marks (at o) New l) ∙ w.on_path.marked o there in absurd (cc)
        ]

    abbrev more : List ℕ
    more = set next (at o) (k + 1)

    more_same : get_or more (at o) 0 ≡ k + 1
    more_same = get_or-set_same next (at o) (k + 1) 0 within_next

    more_other : (t : ℕ) → t ≢ at o → get_or more t 0 ≡ get_or next t 0
    more_other t d = get_or-set_other next (at o) t (k + 1) 0 d

    pub advanced-walk : IsWalkOf g marks more path bounds places count
    advanced-walk = record {
      marks_length = w.marks_length;
      next_length = length-set next (at o) (k + 1) ∙ w.next_length;
      settled = w.settled;
      on_path = record {
        marked = w.on_path.marked;
        placed = w.on_path.placed;
        new = λ t h.
            let other : t ≢ at o = λ e. let a : New ≡ Open o = sym h ∙ ap (mark_of marks) e ∙ w.on_path.marked o there in absurd (cc) in
            more_other t other ∙ w.on_path.new t h;
        reaches = w.on_path.reaches;
        begins = w.on_path.begins;
        followed = λ i j l m. elim (cases_eq (at i) (at o)) [
          | inl e ↦
              let same = same_place i o l there e in
              let n : j < k + 1 = subst (λ x. j < x) (ap (λ x. get_or more x 0) e ∙ more_same) m in
              elim (cases_eq j k) [
                | inl f ↦ subst (λ x. IsFollowed bounds (mark_of marks (link_at g (at x) j)) x) (sym same)
                    (subst (λ x. IsFollowed bounds (mark_of marks (link_at g (at o) x)) o) (sym f) here)
                | inr d ↦
                    let f : j < get_or next (at i) 0 = subst (λ x. j < get_or next x 0) (sym e)
                    (subst (λ x. j < x) (sym was) (omega (arith, n, d))) in
                    w.on_path.followed i j l f
              ]
          | inr d ↦ w.on_path.followed i j l (subst (λ x. j < x) (more_other (at i) d) m)
        ];
        finished = λ i l. elim (w.on_path.finished i l) [
          | inl c ↦ inl c
          | inr h ↦ elim (cases_eq (at i) (at o)) [
            | inl e ↦
                let a = ap (λ x. get_or more x 0) e ∙ more_same in
                let b = ap (λ x. get_or next x 0) e ∙ was in
                inr (omega (arith, h, a, b))
            | inr d ↦ inr (omega (arith, h, more_other (at i) d))
          ]
        ];
        open_within = w.on_path.open_within;
        open_up = w.on_path.open_up;
        bounds_up = w.on_path.bounds_up;
        bounds_open = w.on_path.bounds_open;
      };
    }

  -- the last open node has no link left
  module _ (o : ℕ) (top : IsTop places o) (ended : length (links_of g (at o)) ≤ get_or next (at o) 0) where
    abbrev rest : List ℕ
    rest = take (length places - 1) places

    rest_split : places ≡ rest ++ o ∷ []
    rest_split = top-split places o top

    rest_up : IsAscending (rest ++ o ∷ [])
    rest_up = subst IsAscending rest_split w.on_path.open_up

    in_rest : (b : ℕ) → Contains places b → Contains rest b ⊎ (o ≡ b)
    in_rest b c = Contains-push_cases rest o b (subst (λ x. Contains x b) rest_split c)

    from_rest : (b : ℕ) → Contains rest b → Contains places b
    from_rest b c = subst (λ x. Contains x b) (sym rest_split) (Contains-append_left rest (o ∷ []) b c)

    rest_below : (b : ℕ) → Contains rest b → b < o
    rest_below b c = ascending-below rest o rest_up b c

    there_top : o < length path
    there_top = w.on_path.open_within o (top-contains places o top)

    all_followed : (i : ℕ) → i < length path → o ≤ i → length (links_of g (at i)) ≤ get_or next (at i) 0
    all_followed i l m =
        elim (w.on_path.finished i l) [
          | inl c ↦ elim (in_rest i c) [
            | inl d ↦ absurd (omega (arith, rest_below i d, m))
            | inr e ↦ subst (λ x. length (links_of g (at x)) ≤ get_or next (at x) 0) e ended
          ]
          | inr h ↦ h
        ]

    finished_rest : (i : ℕ) → i < length path → Contains rest i ⊎ (length (links_of g (at i)) ≤ get_or next (at i) 0)
    finished_rest i l =
        elim (w.on_path.finished i l) [
          | inl c ↦ elim (in_rest i c) [
            | inl d ↦ inl d
            | inr e ↦ inr (subst (λ x. length (links_of g (at x)) ≤ get_or next (at x) 0) e ended)
          ]
          | inr h ↦ inr h
        ]

    -- its group goes on
    pub finished-walk : (b : ℕ) → IsTop bounds b → b ≢ o → IsWalkOf g marks next path bounds rest count
    finished-walk t tt' d = record {
      marks_length = w.marks_length;
      next_length = w.next_length;
      settled = w.settled;
      on_path = record {
        marked = w.on_path.marked;
        placed = w.on_path.placed;
        new = w.on_path.new;
        reaches = w.on_path.reaches;
        begins = w.on_path.begins;
        followed = w.on_path.followed;
        finished = finished_rest;
        open_within = λ i c. w.on_path.open_within i (from_rest i c);
        open_up = ascending-front rest o rest_up;
        bounds_up = w.on_path.bounds_up;
        bounds_open = λ b c. elim (in_rest b (w.on_path.bounds_open b c)) [
          | inl e ↦ e
          | inr e ↦
              let low = top-most bounds t w.on_path.bounds_up tt' b c in
              let high = top-most places o w.on_path.open_up top t (w.on_path.bounds_open t (top-contains bounds t tt')) in
              let same : t ≡ o = omega (arith, low, high, e) in
              absurd (d same)
        ];
      };
    }

    -- its group begins with it, and is a component
    module _ (begin : IsTop bounds o) (is_cyclic : Bool)
        (turns : is_cyclic ≡ true → (o + 1 < length path) ⊎ Contains (links_of g (at o)) (at o))
        (ends : is_cyclic ≡ false → (length path ≡ o + 1) × (Contains (links_of g (at o)) (at o) → ⊥)) where
      abbrev group : Component
      group = record { number = count; cyclic = is_cyclic }

      abbrev closed : List Mark
      closed = marked marks (drop o path) (Done group)

      abbrev bounds-rest : List ℕ
      bounds-rest = take (length bounds - 1) bounds

      bounds_split : bounds ≡ bounds-rest ++ o ∷ []
      bounds_split = top-split bounds o begin

      bounds_rest_up : IsAscending (bounds-rest ++ o ∷ [])
      bounds_rest_up = subst IsAscending bounds_split w.on_path.bounds_up

      in_bounds : (b : ℕ) → Contains bounds b → Contains bounds-rest b ⊎ (o ≡ b)
      in_bounds b c = Contains-push_cases bounds-rest o b (subst (λ x. Contains x b) bounds_split c)

      from_bounds : (b : ℕ) → Contains bounds-rest b → Contains bounds b
      from_bounds b c = subst (λ x. Contains x b) (sym bounds_split) (Contains-append_left bounds-rest (o ∷ []) b c)

      node_within : (i : ℕ) → i < length path → at i < length marks
      node_within i l =
          elim (cases_lt (at i) (length marks)) [
            | inl m ↦ m
            | inr m ↦ let a : New ≡ Open i = sym (get_or_past marks (at i) New m) ∙ w.on_path.marked i l in absurd (cc)
          ]

      closed-in : (i : ℕ) → i < length path → o ≤ i → IsDone closed (at i) group
      closed-in i l m =
          let k : o + (i - o) ≡ i = omega (arith, m) in
          let e = get_or-drop o path (i - o) 0 ∙ ap (λ x. get_or path x 0) k in
          let a = node_within i l in
          let h = marked-in marks (drop o path) (Done group) (i - o) (omega (arith, length-drop o path, l, m)) (omega (arith, e, a)) in
          subst (λ x. IsDone closed x group) e h

      closed-out : (t : ℕ) → ((i : ℕ) → i < length path → o ≤ i → at i ≢ t) → mark_of closed t ≡ mark_of marks t
      closed-out t h =
          marked-out marks (drop o path) (Done group) t (λ c.
          let l : o + c.0 < length path = omega (arith, c.1, length-drop o path) in
          let e = get_or-drop o path c.0 0 in
          let f = get_or_default (drop o path) c.0 0 t c.1 in
          h (o + c.0) l (omega arith) (sym e ∙ f ∙ c.2))

      closed-low : (i : ℕ) → i < o → mark_of closed (at i) ≡ Open i
      closed-low i l =
          let m : i < length path = omega (arith, l, there_top) in
          closed-out (at i) (λ j n k e. let f = same_place j i n m e in omega (arith, f, k, l)) ∙ w.on_path.marked i m

      closed-same : (t : ℕ) (m : Mark) → mark_of marks t ≡ m → ((p : ℕ) → m ≢ Open p) → mark_of closed t ≡ m
      closed-same t m h d =
          closed-out t (λ i l n e. d i (sym h ∙ ap (mark_of marks) (sym e) ∙ w.on_path.marked i l)) ∙ h

      -- what a mark was
      data Was (t : ℕ) (m : Mark) : Type 0 where
        new : mark_of marks t ≡ New → m ≡ New → Was t m
        low : (p : ℕ) → mark_of marks t ≡ Open p → p < o → m ≡ Open p → Was t m
        old : (c : Component) → IsDone marks t c → m ≡ Done c → Was t m
        joined : (p : ℕ) → p < length path → o ≤ p → at p ≡ t → m ≡ Done group → Was t m

      was_by : (t : ℕ) (m : Mark) → mark_of marks t ≡ m → Was t (mark_of closed t)
      was_by t New h = new h (closed-same t New h (λ p e. absurd (cc)))
      was_by t (Done c) h = old c h (closed-same t (Done c) h (λ p e. absurd (cc)))
      was_by t (Open p) h =
          let a = w.on_path.placed t p h in
          elim (cases_lt p o) [
            | inl m ↦ low p h m (ap (mark_of closed) (sym a.1) ∙ closed-low p m)
            | inr m ↦ joined p a.0 m a.1 (ap (mark_of closed) (sym a.1) ∙ closed-in p a.0 m)
          ]

      was : (t : ℕ) → Was t (mark_of closed t)
      was t = was_by t (mark_of marks t) refl

      abbrev IsJoined : ℕ → Component → Type 0
      IsJoined t c = (p : ℕ) × (p < length path) × (o ≤ p) × (at p ≡ t) × (c ≡ group)

      done_was : (t : ℕ) (c : Component) → IsDone closed t c → IsDone marks t c ⊎ IsJoined t c
      done_was t c h =
          elim (was t) [
            | new a e ↦ absurd (cc)
            | low p a l e ↦ absurd (cc)
            | old b a e ↦ let same : b ≡ c = cc in inl (subst (λ x. IsDone marks t x) same a)
            | joined p l m a e ↦ let same : c ≡ group = cc in inr (p, l, m, a, same)
          ]

      open_was : (t p : ℕ) → mark_of closed t ≡ Open p → (mark_of marks t ≡ Open p) × (p < o)
      open_was t p h =
          elim (was t) [
            | new a e ↦ absurd (cc)
            | low q a l e ↦ let same : q ≡ p = cc in (a ∙ ap Open same, omega (arith, l, same))
            | old b a e ↦ absurd (cc)
            | joined q l m a e ↦ absurd (cc)
          ]

      new_was : (t : ℕ) → mark_of closed t ≡ New → mark_of marks t ≡ New
      new_was t h =
          elim (was t) [
            | new a e ↦ a
            | low q a l e ↦ absurd (cc)
            | old b a e ↦ absurd (cc)
            | joined q l m a e ↦ absurd (cc)
          ]

      done_stays : (t : ℕ) (c : Component) → IsDone marks t c → IsDone closed t c
      done_stays t c h = closed-same t (Done c) h (λ p e. absurd (cc))

      -- the nodes of the group reach one another
      mutual_reach : (i j : ℕ) → i < length path → j < length path → o ≤ i → o ≤ j → Reaches g (at i) (at j)
      mutual_reach i j l m a b =
          let c = w.on_path.begins i l in
          let low = top-most bounds o w.on_path.bounds_up begin c.0 c.1 in
          reaches-trans g (at i) (at o) (at j)
          (reaches-trans g (at i) (at c.0) (at o) c.3 (w.on_path.reaches c.0 o low there_top))
          (w.on_path.reaches o j b m)

      turns_back : (i j : ℕ) → i < length path → j < length path → o ≤ i → o ≤ j → i ≢ j → Path g (at i) (at i)
      turns_back i j l m a b d =
          path-reaches g (at i) (at j) (at i)
          (path-between g (at i) (at j) (λ e. d (same_place i j l m e)) (mutual_reach i j l m a b))
          (mutual_reach j i m l b a)

      cyclic_group : (i : ℕ) → i < length path → o ≤ i → is_cyclic ≡ true → Path g (at i) (at i)
      cyclic_group i l m e =
          elim (turns e) [
            | inl n ↦ elim (cases_eq i o) [
              | inl f ↦ turns_back i (o + 1) l n m (omega arith) (omega (arith, f))
              | inr d ↦ turns_back i o l there_top m (omega arith) d
            ]
            | inr c ↦
                path-reaches g (at i) (at o) (at i)
                (elim (mutual_reach i o l there_top m (omega arith)) [
                  | inl f ↦ subst (λ x. Path g x (at o)) (sym f) (link c)
                  | inr p ↦ p
                ])
                (mutual_reach o i there_top l (omega arith) m)
          ]

      link_done : (i k : ℕ) → i < length path → o ≤ i → k < length (links_of g (at i)) → (m : Mark) → mark_of marks (link_at g (at i) k) ≡ m
          → IsFollowed bounds m i →
          (b : Component) × IsDone closed (link_at g (at i) k) b × (b.number ≤ count)
      link_done i k l n a New h f = absurd f
      link_done i k l n a (Done b) h f = (b, done_stays _ b h, omega (arith, w.settled.numbers (link_at g (at i) k) b h))
      link_done i k l n a (Open q) h f =
          let p = w.on_path.placed (link_at g (at i) k) q h in
          let m = f o (top-contains bounds o begin) n in
          (group, subst (λ x. IsDone closed x group) p.1 (closed-in q p.0 m), omega arith)

      followed_closed : (i r : ℕ) (m : Mark) → mark_of marks r ≡ m → IsFollowed bounds m i → IsFollowed bounds-rest (mark_of closed r) i
      followed_closed i r New h f = absurd f
      followed_closed i r (Done b) h f = subst (λ x. IsFollowed bounds-rest x i) (sym (done_stays r b h)) tt
      followed_closed i r (Open q) h f =
          let p = w.on_path.placed r q h in
          elim (cases_lt q o) [
            | inl m ↦ subst (λ x. IsFollowed bounds-rest x i) (sym (ap (mark_of closed) (sym p.1) ∙ closed-low q m))
                (λ b c. f b (from_bounds b c))
            | inr m ↦ subst (λ x. IsFollowed bounds-rest x i) (sym (ap (mark_of closed) (sym p.1) ∙ closed-in q p.0 m)) tt
          ]

      links_down : (s k : ℕ) (c : Component) → IsDone closed s c → k < length (links_of g s) → (b : Component)
          × IsDone closed (link_at g s k) b × (b.number ≤ c.number)
      links_down s k c h l =
          elim (done_was s c h) [
            | inl a ↦ let b = w.settled.downwards s k c a l in (b.0, done_stays (link_at g s k) b.0 b.1, b.2)
            | inr j ↦
                let m : k < length (links_of g (at j.0)) = subst (λ x. k < length (links_of g x)) (sym j.3) l in
                let n : k < get_or next (at j.0) 0 = omega (arith, m, all_followed j.0 j.1 j.2) in
                let b = link_done j.0 k j.1 j.2 m _ refl (w.on_path.followed j.0 k j.1 n) in
                (b.0, subst (λ x. IsDone closed (link_at g x k) b.0) j.3 b.1, omega (arith, b.2, ap (λ x. x.number) j.4))
          ]

      settled_closed : AreSettled g closed (count + (length path - o))
      settled_closed = record {
        downwards = links_down;
        numbers = λ s c h. elim (done_was s c h) [
          | inl a ↦ omega (arith, w.settled.numbers s c a)
          | inr j ↦ omega (arith, ap (λ x. x.number) j.4, there_top)
        ];
        together = λ s r c b h k e. elim (done_was s c h) [
          | inl a ↦ elim (done_was r b k) [
            | inl d ↦ w.settled.together s r c b a d e
            | inr j ↦ absurd (omega (arith, w.settled.numbers s c a, ap (λ x. x.number) j.4, e))
          ]
          | inr i ↦ elim (done_was r b k) [
            | inl d ↦ absurd (omega (arith, w.settled.numbers r b d, ap (λ x. x.number) i.4, e))
            | inr j ↦
                subst (λ x. AreTogether g x r) i.3 (subst (λ x. AreTogether g (at i.0) x) j.3
                (together-from g (at i.0) (at j.0) (mutual_reach i.0 j.0 i.1 j.1 i.2 j.2) (mutual_reach j.0 i.0 j.1 i.1 j.2 i.2)))
          ]
        ];
        alone = λ s r c b h f k e. elim (done_was s c h) [
          | inl a ↦ elim (done_was r b k) [
            | inl d ↦ w.settled.alone s r c b a f d e
            | inr j ↦ absurd (omega (arith, w.settled.numbers s c a, ap (λ x. x.number) j.4, e))
          ]
          | inr i ↦ elim (done_was r b k) [
            | inl d ↦ absurd (omega (arith, w.settled.numbers r b d, ap (λ x. x.number) i.4, e))
            | inr j ↦
                let one = (ends (sym (ap (λ x. x.cyclic) i.4) ∙ f)).0 in
                let same : j.0 ≡ i.0 = omega (arith, one, i.1, i.2, j.1, j.2) in
                sym j.3 ∙ ap at same ∙ i.3
          ]
        ];
        straight = λ s k c h f l. elim (done_was s c h) [
          | inl a ↦ w.settled.straight s k c a f l
          | inr i ↦
              let last = ends (sym (ap (λ x. x.cyclic) i.4) ∙ f) in
              let same : i.0 ≡ o = omega (arith, last.0, i.1, i.2) in
              let is : s ≡ at o = sym i.3 ∙ ap at same in
              λ e. last.1 (subst (λ x. Contains (links_of g x) x) is (subst (λ x. Contains (links_of g s) x) e (link-contains g s k l)))
        ];
        cyclic = λ s c h e. elim (done_was s c h) [
          | inl a ↦ w.settled.cyclic s c a e
          | inr i ↦ subst (λ x. Path g x x) i.3 (cyclic_group i.0 i.1 i.2 (sym (ap (λ x. x.cyclic) i.4) ∙ e))
        ];
      }

      path-low : (i : ℕ) → i < o → get_or (take o path) i 0 ≡ at i
      path-low i l = get_or-take o path i 0 l

      path-length : length (take o path) ≡ o
      path-length = length-take-le o path (omega (arith, there_top))

      pub closed-walk : IsWalkOf g closed next (take o path) bounds-rest rest (count + (length path - o))
      closed-walk = record {
        marks_length = length-marked marks (drop o path) (Done group) ∙ w.marks_length;
        next_length = w.next_length;
        settled = settled_closed;
        on_path = record {
          marked = λ i l. let m : i < o = omega (arith, l, path-length) in ap (mark_of closed) (path-low i m) ∙ closed-low i m;
          placed = λ t p h.
              let a = open_was t p h in
              (omega (arith, a.1, path-length), path-low p a.1 ∙ (w.on_path.placed t p a.0).1);
          new = λ t h. w.on_path.new t (new_was t h);
          reaches = λ i j l m.
              let n : j < o = omega (arith, m, path-length) in
              let x = path-low i (omega (arith, l, n)) in
              let y = path-low j n in
              rw (x, y) (w.on_path.reaches i j l (omega (arith, n, there_top)));
          begins = λ i l.
              let n : i < o = omega (arith, l, path-length) in
              let b = w.on_path.begins i (omega (arith, n, there_top)) in
              let x = path-low i n in
              let y = path-low b.0 (omega (arith, b.2, n)) in
              elim (in_bounds b.0 b.1) [
                | inl c ↦ (b.0, c, b.2, rw (x, y) b.3)
                | inr e ↦ absurd (omega (arith, e, b.2, n))
              ];
          followed = λ i k l m.
              let n : i < o = omega (arith, l, path-length) in
              let x = path-low i n in
              let f : k < get_or next (at i) 0 = subst (λ y. k < get_or next y 0) x m in
              subst (λ y. IsFollowed bounds-rest (mark_of closed (link_at g y k)) i) (sym x)
              (followed_closed i (link_at g (at i) k) _ refl (w.on_path.followed i k (omega (arith, n, there_top)) f));
          finished = λ i l.
              let n : i < o = omega (arith, l, path-length) in
              subst (λ y. Contains rest i ⊎ (length (links_of g y) ≤ get_or next y 0)) (sym (path-low i n))
              (finished_rest i (omega (arith, n, there_top)));
          open_within = λ i c. omega (arith, rest_below i c, path-length);
          open_up = ascending-front rest o rest_up;
          bounds_up = ascending-front bounds-rest o bounds_rest_up;
          bounds_open = λ b c. elim (in_rest b (w.on_path.bounds_open b (from_bounds b c))) [
            | inl d ↦ d
            | inr e ↦ absurd (omega (arith, ascending-below bounds-rest o bounds_rest_up b c, e))
          ];
        };
      }
