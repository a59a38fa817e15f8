-- Registers as steps and moves, one after another.
use Rattle.std.proofs.Common.{◌≡◌, ℕ, zero, suc, ◌+◌, ◌^◌, ◌<◌, ◌≤◌, Bool, List, [], ◌∷◌, ◌++◌, length, get_or, Option, Some, None, refl, sym, ap, ◌∙◌, subst, inl, inr, arith}
use Rattle.std.specs.Prelude.{option_and_then, slice_get, slice_set}
use Rattle.std.proofs.lemmas.Option.{slice_get-get_or}
use Rattle.std.proofs.lemmas.Bool.{cases_eq}
use Rattle.std.proofs.lemmas.List.{length-map, length-set, get_or-set_other}
use Rattle.opgen_num.specs.Words.{word, words_of}
use Rattle.opgen_num.proofs.Words.{word-nat}
use Rattle.opgen_design.specs.declared.design.Driver.{Driver}
use Rattle.opgen_design.specs.declared.design.Driver.TheVariants.{Register}
use Rattle.opgen_design.specs.Run.{Words}
use Rattle.opgen_design.specs.declared.design.Target.TheVariants.{Signal as signal}
use Rattle.opgen_design.specs.Tree.{Tree, name, port}
use Rattle.opgen_design.specs.Value.{as_width}
use Rattle.opgen_design.proofs.WidthLaws.{as_width-of, width-is_width}
use Rattle.opgen_runs.specs.Evaluate.{hand_on, hand_all_on}
use Rattle.opgen_machine.specs.declared.step.Step.{Step}
use Rattle.opgen_machine.specs.declared.step.Spot.{Spot}
use Rattle.opgen_machine.specs.Steps.{AreFine, exec}
use Rattle.opgen_machine.specs.Programs.{AreSpots, Spots, seen, value_over, widths_of}
use Rattle.opgen_machine.specs.Emit.{Chosen, Copied, Emitted, width_over}
use Rattle.opgen_machine.proofs.Gives.{extends-refl, extends-trans, fit-back, kept, longer, seen-along, spots-more}
use Rattle.opgen_machine.specs.declared.registers.Move.{Move}
use Rattle.opgen_machine.specs.Moves.{AreMoves, FitFirst, HandsOn, IsNext, SameFrom, move_all, next_over}
use Rattle.opgen_machine.specs.Settles.{HasNarrow, width_at}
use Rattle.opgen_machine.proofs.Driven.{has-size}
use Rattle.opgen_machine.proofs.Settling.{holds-below}

-- the word that a register holds has the width of its expression
pub held-size : (spots : Spots) (to : ℕ) (e : Tree) → to < length spots.signals → HasNarrow spots e (width_at spots (signal to))
    → width_over spots (name to) ≡ Some (width_at spots (signal to))
held-size spots to e l h =
    let ws = widths_of spots.signals in
    let w = get_or ws to 0 in
    let at : slice_get ws to ≡ Some w = slice_get-get_or ws to 0 (omega (arith, l, length-map spots.signals (λ (x : Spot). x.width))) in
    ap (option_and_then as_width) at ∙ as_width-of w (width-is_width ws (widths_of spots.ports) e w h.0)

-- the next word of a register
pub next-free : (base : ℕ) (spots : Spots) (enable : Option ℕ) (to : ℕ) (e : Tree) (before mid after : List Step) (new s : Spot)
    → enable ≡ None → HasNarrow spots e (width_at spots (signal to)) → Emitted base spots e before mid new
    → Copied base spots new mid after s
    → IsNext base spots enable to e before after s
next-free base spots enable to e before mid after new s none n h k =
    subst (λ o. IsNext base spots o to e before after s) (sym none)
    (record {
      extends = extends-trans before mid after h.extends k.extends;
      fine = k.fine;
      behind = k.behind;
      width = sym k.width ∙ has-size base spots e before mid new (width_at spots (signal to)) h n;
      gives = k.gives (value_over e) h.gives;
    })

pub next-enabled : (base : ℕ) (spots : Spots) (enable : Option ℕ) (p to : ℕ) (e : Tree) (before mid after : List Step)
    (new on held s : Spot) → enable ≡ Some p → HasNarrow spots e (width_at spots (signal to)) → Emitted base spots e before mid new
    → Emitted base spots (port p) mid mid on → Emitted base spots (name to) mid mid held → Chosen base spots on new held mid after s
    → IsNext base spots enable to e before after s
next-enabled base spots enable p to e before mid after new on held s some n h o q k =
    subst (λ x. IsNext base spots x to e before after s) (sym some)
    (record {
      extends = extends-trans before mid after h.extends k.extends;
      fine = k.fine;
      behind = k.behind;
      width = sym k.width ∙ has-size base spots e before mid new (width_at spots (signal to)) h n;
      gives = k.gives (value_over (port p)) (value_over e) (value_over (name to)) o.gives h.gives q.gives;
    })

-- moves
move-append : (xs : List Move) (x : Move) (m : List ℕ)
    → move_all (xs ++ x ∷ []) m ≡ slice_set (move_all xs m) x.to (get_or (move_all xs m) x.from 0)
move-append [] x m = refl
move-append (y ∷ xs) x m = move-append xs x (slice_set m y.to (get_or m y.from 0))

pub length-moved : (xs : List Move) (m : List ℕ) → length (move_all xs m) ≡ length m
length-moved [] m = refl
length-moved (x ∷ xs) m = length-moved xs (slice_set m x.to (get_or m x.from 0)) ∙ length-set m x.to (get_or m x.from 0)

pub moved-kept : (low base end : ℕ) (xs : List Move) (m : List ℕ) (i : ℕ) → AreMoves low base end xs → low ≤ i
    → get_or (move_all xs m) i 0 ≡ get_or m i 0
moved-kept low base end [] m i h l = refl
moved-kept low base end (x ∷ xs) m i h l =
    let a = h 0 x (omega arith) in
    moved-kept low base end xs (slice_set m x.to (get_or m x.from 0)) i (λ j y k. h (suc j) y (omega (arith, k))) l
    ∙ get_or-set_other m x.to i (get_or m x.from 0) 0 (λ e. omega (arith, e, a.0, l))

moves-more : (low base end end' : ℕ) (xs : List Move) (x : Move) → end ≤ end' → AreMoves low base end xs → x.to < low → base ≤ x.from
    → x.from < end' → AreMoves low base end' (xs ++ x ∷ [])
moves-more low base end end' [] x l h a b c zero d k = (a, b, c)
moves-more low base end end' [] x l h a b c (suc i) d k = absurd (omega (arith, k))
moves-more low base end end' (y ∷ xs) x l h a b c zero d k = let q = h 0 y (omega arith) in (q.0, q.1, omega (arith, q.2, l))
moves-more low base end end' (y ∷ xs) x l h a b c (suc i) d k = moves-more low base end end' xs x l
    (λ j z m. h (suc j) z (omega (arith, m))) a b c i d (omega (arith, k))

moves-longer : (low base end end' : ℕ) (xs : List Move) → end ≤ end' → AreMoves low base end xs → AreMoves low base end' xs
moves-longer low base end end' xs l h = λ i d k. let q = h i d k in (q.0, q.1, omega (arith, q.2, l))

-- the words of numbers, one of which is set
words-set : (ws ns : List ℕ) (i x : ℕ) → i < length ws → length ws ≤ length ns
    → words_of ws (slice_set ns i x) ≡ slice_set (words_of ws ns) i (word (get_or ws i 0) x)
words-set [] ns i x l m = absurd (omega (arith, l))
words-set (w ∷ ws) [] i x l m = absurd (omega (arith, m))
words-set (w ∷ ws) (n ∷ ns) zero x l m = refl
words-set (w ∷ ws) (n ∷ ns) (suc i) x l m = ap (λ v. word w n ∷ v) (words-set ws ns i x (omega (arith, l)) (omega (arith, m)))

hand-append : (enable : Option ℕ) (ks : List Driver) (k : Driver) (v : Words) (next : List (List Bool))
    → hand_all_on enable (ks ++ k ∷ []) v next ≡ hand_on enable k v (hand_all_on enable ks v next)
hand-append enable [] k v next = refl
hand-append enable (x ∷ ks) k v next = hand-append enable ks k v (hand_on enable x v next)

pub hands-none : (base : ℕ) (spots : Spots) (enable : Option ℕ) (widths : List ℕ) (steps : List Step) → AreFine base steps
    → HandsOn base spots enable widths [] steps steps []
hands-none base spots enable widths steps fine = record {
  extends = extends-refl steps;
  fine = fine;
  bounded = λ i d l. absurd (omega (arith, l));
  fit = λ m k l q same f. f;
  words = λ m k l q same n. refl;
}

-- a driver that hands nothing on
pub hands-skip : (base : ℕ) (spots : Spots) (enable : Option ℕ) (widths : List ℕ) (ks : List Driver) (k : Driver)
    (before after : List Step) (moves : List Move) → ((v : Words) (next : List (List Bool)) → hand_on enable k v next ≡ next)
    → HandsOn base spots enable widths ks before after moves → HandsOn base spots enable widths (ks ++ k ∷ []) before after moves
hands-skip base spots enable widths ks k before after moves none h = record {
  extends = h.extends;
  fine = h.fine;
  bounded = h.bounded;
  fit = h.fit;
  words = λ m x l q same n.
      let v = seen (exec after m) spots in
      h.words m x l q same n ∙ sym (none v (hand_all_on enable ks v (words_of widths x)))
      ∙ sym (hand-append enable ks k v (words_of widths x));
}

pub hands-more : (base : ℕ) (spots : Spots) (enable : Option ℕ) (widths : List ℕ) (ks : List Driver) (to : ℕ) (e : Tree)
    (before mid after : List Step) (moves : List Move) (s : Spot) → AreSpots (base + length before) spots
    → widths ≡ widths_of spots.signals
    → to < length widths → length widths ≤ base → HandsOn base spots enable widths ks before mid moves
    → IsNext base spots enable to e mid after s
    → HandsOn base spots enable widths (ks ++ Register to e ∷ []) before after (moves ++ record { to = to; from = s.place } ∷ [])
hands-more base spots enable widths ks to e before mid after moves s are is there few h k =
    let x : Move = record { to = to; from = s.place } in
    let are' = spots-more (base + length before) (base + length mid) spots (omega (arith, longer before mid h.extends)) are in
    let n = longer mid after k.extends in
    let size : s.width ≡ get_or widths to 0 = k.width ∙ ap (λ ws. get_or ws to 0) (sym is) in
    let back = λ (m : List ℕ) (y : List ℕ) (l : length m ≡ base) (same : SameFrom base (base + length after) y (exec after m)).
    λ (i : ℕ) (a : base ≤ i) (b : i < base + length mid). same i a (omega (arith, b, n)) ∙ ap (λ q. get_or (exec q m) i 0) k.extends.1
    ∙ kept base mid k.extends.0 m i l b in
    let number = λ (m : List ℕ) (y : List ℕ) (same : SameFrom base (base + length after) y (exec after m)). moved-kept (length widths)
    base (base + length mid) moves y s.place h.bounded (omega (arith, few, k.behind)) ∙ same s.place k.behind k.gives.there in
    record {
      extends = extends-trans before mid after h.extends k.extends;
      fine = k.fine;
      bounded = moves-more (length widths) base (base + length mid) (base + length after) moves x (omega (arith, n)) h.bounded there
          k.behind k.gives.there;
      fit = λ m y l q same f i j.
          let w = next_over enable to e (seen (exec after m) spots) in
          let old = move_all moves y in
          let z = get_or old s.place 0 in
          let below : z < 2 ^ get_or widths to 0 = subst (λ p. z < 2 ^ p) size
          (subst (λ p. p < 2 ^ s.width) (sym (number m y same)) (holds-below (exec after m) s w (k.gives.word m l q))) in
          let earlier = h.fit m y l (fit-back base spots mid after are' k.extends m l q) (back m y l same) f in
          subst (λ p. get_or p i 0 < 2 ^ get_or widths i 0) (sym (move-append moves x y)) (fit-set widths old to z below earlier i j);
      words = λ m y l q same long.
          let v = seen (exec after m) spots in
          let w = next_over enable to e v in
          let old = move_all moves y in
          let z = get_or old s.place 0 in
          let holds = k.gives.word m l q in
          let is-word : word (get_or widths to 0) z ≡ w = ap (λ p. word p z) (sym (holds.width ∙ size))
          ∙ ap (word (length w)) (number m y same ∙ holds.number) ∙ word-nat w in
          let earlier = h.words m y l (fit-back base spots mid after are' k.extends m l q) (back m y l same) long in
          ap (words_of widths) (move-append moves x y)
          ∙ words-set widths old to z there (omega (arith, few, long, length-moved moves y))
          ∙ ap (slice_set (words_of widths old) to) is-word
          ∙ ap (λ ns. slice_set ns to w) (earlier
          ∙ ap (λ u. hand_all_on enable ks u (words_of widths y)) (sym (seen-along base spots mid after are' k.extends m l)))
          ∙ sym (hand-append enable ks (Register to e) v (words_of widths y));
    }
  where
    fit-set : (ws m : List ℕ) (to z : ℕ) → z < 2 ^ get_or ws to 0 → FitFirst ws m → FitFirst ws (slice_set m to z)
    fit-set ws m to z below f i l = elim (cases_eq to i) [
      | inl same ↦ subst (λ j. get_or (slice_set m to z) j 0 < 2 ^ get_or ws j 0) same
          (at-set m to z (2 ^ get_or ws to 0) below (f to (omega (arith, same, l))))
      | inr other ↦ subst (λ x. x < 2 ^ get_or ws i 0) (sym (get_or-set_other m to i z 0 (λ e. other (sym e)))) (f i l)
    ]
      where
        at-set : (m : List ℕ) (i z n : ℕ) → z < n → get_or m i 0 < n → get_or (slice_set m i z) i 0 < n
        at-set [] i z n h k = k
        at-set (x ∷ m) zero z n h k = h
        at-set (x ∷ m) (suc i) z n h k = at-set m i z n h k
