-- Vectors at the ports, one after another.
use Rattle.std.proofs.Common.{◌≡◌, ℕ, ◌+◌, ◌-◌, ◌<◌, ◌≤◌, Bool, true, false, if◌then◌else◌, List, [], ◌∷◌, ◌++◌, length, map, take, drop, get_or, sum, refl, sym, ap, ◌∙◌, arith}
use Rattle.std.specs.Prelude.{slice_set}
use Rattle.std.proofs.Math.ListN.{drop_of_length-le}
use Rattle.std.proofs.lemmas.List.{append_assoc, append-nil, take_all, drop_more, take_more, take_more_set, take_at, drop_at, drop-drop, take-take, drop-take, length-map, length-take-le, get_or-map}
use Rattle.opgen_num.proofs.Lists.{sum-cons}
use Rattle.opgen_design.specs.declared.design.Dir.{Dir}
use Rattle.opgen_design.specs.declared.design.Port.{Port}
use Rattle.opgen_design.specs.Run.{at_ports}
use Rattle.opgen_streams.specs.Streams.{streams, word_in, words_in}
use Rattle.opgen_lanes.proofs.Places.{put_in, length-put_in}

-- the port at the front of those that are left
pub ports-split : {X : Type 0} (is : Dir → Bool) (ps : List Port) (xs : List X) (i : ℕ) (p : Port) (x : X) → i < length ps
    → p ≡ get_or ps i p → i < length xs
    → at_ports is (drop i ps) (drop i xs) ≡
    (if is p.dir then get_or xs i x ∷ at_ports is (drop (i + 1) ps) (drop (i + 1) xs) else at_ports is (drop (i + 1) ps)
    (drop (i + 1) xs))
ports-split is ps xs i p x m e l =
    let a = drop_more ps i p m ∙ ap (λ q. q ∷ drop (i + 1) ps) (sym e) in
    ap (λ qs. at_ports is qs (drop i xs)) a ∙ ap (at_ports is (p ∷ drop (i + 1) ps)) (drop_more xs i x l)

module _ {X : Type 0} (is : Dir → Bool) where
  cons-push : (b c : Bool) (x y : X) (xs ys : List X) → xs ≡ ys ++ (if c then y ∷ [] else [])
      → (if b then x ∷ xs else xs) ≡ (if b then x ∷ ys else ys) ++ (if c then y ∷ [] else [])
  cons-push true c x y xs ys e = ap (λ zs. x ∷ zs) e
  cons-push false c x y xs ys e = e

  at_ports-push : (ps : List Port) (xs : List X) (p : Port) (y : X) → length ps ≡ length xs
      → at_ports is (ps ++ p ∷ []) (xs ++ y ∷ []) ≡ at_ports is ps xs ++ (if is p.dir then y ∷ [] else [])
  at_ports-push [] [] p y l = refl
  at_ports-push [] (x ∷ xs) p y l = absurd (omega (arith, l))
  at_ports-push (q ∷ ps) [] p y l = absurd (omega (arith, l))
  at_ports-push (q ∷ ps) (x ∷ xs) p y l = cons-push (is q.dir) (is p.dir) x y (at_ports is (ps ++ p ∷ []) (xs ++ y ∷ []))
      (at_ports is ps xs) (at_ports-push ps xs p y (omega (arith, l)))

  -- the ports so far, with one more
  pub ports-more : (ps : List Port) (xs : List X) (i : ℕ) (p : Port) (x : X) → i < length ps → p ≡ get_or ps i p → length ps ≡ length xs
      → at_ports is (take (i + 1) ps) (take (i + 1) xs)
      ≡ at_ports is (take i ps) (take i xs) ++ (if is p.dir then get_or xs i x ∷ [] else [])
  ports-more ps xs i p x m e n =
      let l : i < length xs = omega (arith, m, n) in
      ap (λ qs. at_ports is qs (take (i + 1) xs)) (take_more ps i p m ∙ ap (λ q. take i ps ++ q ∷ []) (sym e))
      ∙ ap (at_ports is (take i ps ++ p ∷ [])) (take_more xs i x l)
      ∙ at_ports-push (take i ps) (take i xs) p (get_or xs i x)
      (length-take-le i ps (omega (arith, m)) ∙ sym (length-take-le i xs (omega (arith, l))))

  front-set : (b : Bool) (xs : List X) (i : ℕ) (y : X) → i < length xs → (x : X)
      × (take (i + 1) (if b then slice_set xs i y else xs) ≡ take i xs ++ x ∷ [])
      × ((if b then x ∷ [] else []) ≡ (if b then y ∷ [] else []))
  front-set true xs i y l = (y, take_more_set xs i y l, refl)
  front-set false xs i y l = (get_or xs i y, take_more xs i y l, refl)

  -- the same, where the one more is written
  pub ports-set : (ps : List Port) (xs : List X) (i : ℕ) (p : Port) (y : X) → i < length ps → p ≡ get_or ps i p → length ps ≡ length xs
      → at_ports is (take (i + 1) ps) (take (i + 1) (if is p.dir then slice_set xs i y else xs))
      ≡ at_ports is (take i ps) (take i xs) ++ (if is p.dir then y ∷ [] else [])
  ports-set ps xs i p y m e n =
      let l : i < length xs = omega (arith, m, n) in
      let x = front-set (is p.dir) xs i y l in
      ap (λ qs. at_ports is qs (take (i + 1) (if is p.dir then slice_set xs i y else xs)))
      (take_more ps i p m ∙ ap (λ q. take i ps ++ q ∷ []) (sym e))
      ∙ ap (at_ports is (take i ps ++ p ∷ [])) x.1
      ∙ at_ports-push (take i ps) (take i xs) p x.0
      (length-take-le i ps (omega (arith, m)) ∙ sym (length-take-le i xs (omega (arith, l))))
      ∙ ap (λ zs. at_ports is (take i ps) (take i xs) ++ zs) x.2

-- the inputs so far, and those that are left
pub record Taken (all : List ℕ) (inputs : List (List ℕ)) (rest : List ℕ) (at : ℕ) (front : (k : ℕ) → List (List Bool)) : Type 0 where
  pub whole : (k : ℕ) → k < streams → front k ++ words_in rest (drop at inputs) k ≡ words_in all inputs k
  pub room : at + sum rest ≡ length inputs

pub taken-room : (b : Bool) (all : List ℕ) (inputs : List (List ℕ)) (w : ℕ) (rest : List ℕ) (at : ℕ) (front : (k : ℕ) → List (List Bool))
    → Taken all inputs (if b then w ∷ rest else rest) at front → b ≡ true → at + w ≤ length inputs
taken-room true all inputs w rest at front h e = omega (arith, h.room, sum-cons w rest)
taken-room false all inputs w rest at front h e = absurd (cc)

pub taken-step : (b : Bool) (all : List ℕ) (inputs : List (List ℕ)) (w : ℕ) (rest : List ℕ) (at : ℕ) (front : (k : ℕ) → List (List Bool))
    → Taken all inputs (if b then w ∷ rest else rest) at front
    → Taken all inputs rest (if b then at + w else at)
    (λ k. front k ++ (if b then word_in (take w (drop at inputs)) k ∷ [] else []))
taken-step true all inputs w rest at front t = record {
  whole = λ k h. append_assoc (front k) (word_in (take w (drop at inputs)) k ∷ []) (words_in rest (drop (at + w) inputs) k)
      ∙ ap (λ vs. front k ++ word_in (take w (drop at inputs)) k ∷ words_in rest vs k) (sym (drop-drop w at inputs))
      ∙ t.whole k h;
  room = omega (arith, t.room, sum-cons w rest);
}
taken-step false all inputs w rest at front t = record {
  whole = λ k h. ap (λ xs. xs ++ words_in rest (drop at inputs) k) (append-nil (front k)) ∙ t.whole k h;
  room = t.room;
}

-- words after those so far
words-push : (ws : List ℕ) (w : ℕ) (vs : List (List ℕ)) (k : ℕ)
    → words_in (ws ++ w ∷ []) vs k ≡ words_in ws vs k ++ word_in (take w (drop (sum ws) vs)) k ∷ []
words-push [] w vs k = refl
words-push (u ∷ ws) w vs k =
    ap (λ xs. word_in (take u vs) k ∷ xs) (words-push ws w (drop u vs) k)
    ∙ ap (λ xs. word_in (take u vs) k ∷ (words_in ws (drop u vs) k ++ word_in (take w xs) k ∷ []))
    (drop-drop (sum ws) u vs ∙ ap (λ n. drop n vs) (sym (sum-cons u ws)))

-- only so many vectors count
words-front : (ws : List ℕ) (vs : List (List ℕ)) (n k : ℕ) → sum ws ≤ n → words_in ws (take n vs) k ≡ words_in ws vs k
words-front [] vs n k l = refl
words-front (w ∷ ws) vs n k l =
    let s = sum-cons w ws in
    let m : n ≡ w + (n - w) = omega (arith, l, s) in
    ap (λ i. word_in (take w (take i vs)) k ∷ words_in ws (drop w (take i vs)) k) m
    ∙ ap (λ xs. word_in xs k ∷ words_in ws (drop w (take (w + (n - w)) vs)) k) (take-take w (w + (n - w)) vs (omega arith))
    ∙ ap (λ xs. word_in (take w vs) k ∷ words_in ws xs k) (drop-take w (n - w) vs)
    ∙ ap (λ xs. word_in (take w vs) k ∷ xs) (words-front ws (drop w vs) (n - w) k (omega (arith, l, s)))

-- the outputs so far, and those that are left
pub record Given (ws rest : List ℕ) (at : ℕ) (outputs : List (List ℕ)) (words : (k : ℕ) → List (List Bool)) : Type 0 where
  pub counted : at ≡ sum ws
  pub room : at + sum rest ≡ length outputs
  pub same : (k : ℕ) → k < streams → words_in ws outputs k ≡ words k

pub given-room : (b : Bool) (ws : List ℕ) (w : ℕ) (rest : List ℕ) (at : ℕ) (outputs : List (List ℕ)) (words : (k : ℕ) → List (List Bool))
    → Given ws (if b then w ∷ rest else rest) at outputs words → b ≡ true → at + w ≤ length outputs
given-room true ws w rest at outputs words h e = omega (arith, h.room, sum-cons w rest)
given-room false ws w rest at outputs words h e = absurd (cc)

sum-push : (ws : List ℕ) (w : ℕ) → sum (ws ++ w ∷ []) ≡ sum ws + w
sum-push [] w = omega (arith, sum-cons w [])
sum-push (u ∷ ws) w = omega (arith, sum-cons u (ws ++ w ∷ []), sum-cons u ws, sum-push ws w)

pub given-step : (b : Bool) (ws : List ℕ) (w : ℕ) (rest : List ℕ) (at : ℕ) (outputs word : List (List ℕ))
    (words : (k : ℕ) → List (List Bool)) → length word ≡ w → Given ws (if b then w ∷ rest else rest) at outputs words
    → Given (ws ++ (if b then w ∷ [] else [])) rest (if b then at + w else at)
    (if b then put_in at w outputs word else outputs) (λ k. words k ++ (if b then word_in word k ∷ [] else []))
given-step true ws w rest at outputs word words n g =
    let r : at + w ≤ length outputs = given-room true ws w rest at outputs words g refl in
    let new = put_in at w outputs word in
    let tail = word ++ drop w (drop at outputs) in
    let long : length (take at outputs) ≡ at = length-take-le at outputs (omega (arith, r)) in
    let front : take at new ≡ take at outputs = take_at (take at outputs) tail at long in
    let back : drop at new ≡ tail = drop_at (take at outputs) tail at long in
    record {
      counted = omega (arith, g.counted, sum-push ws w);
      room = omega (arith, g.room, sum-cons w rest, length-put_in at w outputs word r n);
      same = λ k h.
          let first : words_in ws new k ≡ words k =
          sym (words-front ws new at k (omega (arith, g.counted))) ∙ ap (λ vs. words_in ws vs k) front
          ∙ words-front ws outputs at k (omega (arith, g.counted)) ∙ g.same k h in
          let last : take w (drop (sum ws) new) ≡ word = ap (λ i. take w (drop i new)) (sym g.counted) ∙ ap (take w) back
          ∙ take_at word (drop w (drop at outputs)) w n in
          words-push ws w new k
          ∙ ap (λ xs. xs ++ word_in (take w (drop (sum ws) new)) k ∷ []) first
          ∙ ap (λ xs. words k ++ word_in xs k ∷ []) last;
    }
given-step false ws w rest at outputs word words n g = record {
  counted = g.counted ∙ ap sum (sym (append-nil ws));
  room = g.room;
  same = λ k h. ap (λ us. words_in us outputs k) (append-nil ws) ∙ g.same k h ∙ sym (append-nil (words k));
}

module _ (ps : List Port) (i : ℕ) (p : Port) (m : i < length ps) (e : p ≡ get_or ps i p) where
  pub width-here : get_or (map (λ p. p.width) ps) i 0 ≡ p.width
  width-here = get_or-map (λ p. p.width) ps i p 0 m ∙ ap (λ q. q.width) (sym e)

  pub widths-split : (is : Dir → Bool) → at_ports is (drop i ps) (drop i (map (λ p. p.width) ps)) ≡
      (if is p.dir then p.width ∷ at_ports is (drop (i + 1) ps) (drop (i + 1) (map (λ p. p.width) ps)) else at_ports is (drop (i + 1) ps)
      (drop (i + 1) (map (λ p. p.width) ps)))
  widths-split is =
      let ws = map (λ p. p.width) ps in
      let rest = at_ports is (drop (i + 1) ps) (drop (i + 1) ws) in
      ports-split is ps ws i p 0 m e (omega (arith, m, length-map ps (λ p. p.width)))
      ∙ ap (λ w. if is p.dir then w ∷ rest else rest) width-here

pub all-taken : {X : Type 0} (is : Dir → Bool) (ps : List Port) (xs : List X) (i : ℕ) → length ps ≤ i → length ps ≡ length xs
    → at_ports is (take i ps) (take i xs) ≡ at_ports is ps xs
all-taken is ps xs i l n =
    ap (λ qs. at_ports is qs (take i xs)) (take_all i ps l)
    ∙ ap (at_ports is ps) (take_all i xs (omega (arith, l, n)))

pub taken-all : (is : Dir → Bool) (ps : List Port) (words : List (List Bool)) (i : ℕ) → length ps ≤ i → length ps ≡ length words
    → (left : List ℕ → List (List Bool)) (ws : List ℕ) → left [] ≡ []
    → at_ports is ps words ≡ at_ports is (take i ps) (take i words) ++ left (at_ports is (drop i ps) (drop i ws))
taken-all is ps words i l n left ws none =
    sym (all-taken is ps words i l n)
    ∙ sym (append-nil (at_ports is (take i ps) (take i words)))
    ∙ ap (λ xs. at_ports is (take i ps) (take i words) ++ xs) (sym none)
    ∙ ap (λ qs. at_ports is (take i ps) (take i words) ++ left (at_ports is qs (drop i ws))) (sym (drop_of_length-le ps l))
