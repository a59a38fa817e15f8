-- What the steps of a driver leave.
use Rattle.std.proofs.Common.{◌≡◌, ℕ, zero, suc, ◌+◌, ◌<◌, ◌≤◌, ◌^◌, Bool, true, false, List, [], ◌∷◌, length, get_or, Some, Result, Ok, Err, refl, sym, ap, ◌∙◌, subst, arith}
use Rattle.std.specs.Prelude.{All, IfOk, IfSome, ◌==◌, nat_eq, unwrap_or}
use Rattle.std.proofs.lemmas.Bool.{eqb-true}
use Rattle.std.proofs.lemmas.Option.{same_Some}
use Rattle.opgen_num.specs.Words.{nat}
use Rattle.opgen_num.proofs.Words.{nat-below}
use Rattle.opgen_design.specs.declared.design.Driver.{Driver}
use Rattle.opgen_design.specs.declared.design.Driver.TheVariants.{Table}
use Rattle.opgen_design.specs.Run.{Words, scope}
use Rattle.opgen_design.specs.declared.design.Target.TheVariants.{Signal as signal}
use Rattle.opgen_design.specs.Sound.{target}
use Rattle.opgen_design.specs.Tree.{Tree, bits}
use Rattle.opgen_design.specs.Value.{IsWidth}
use Rattle.opgen_design.proofs.WidthLaws.{as_width-of}
use Rattle.opgen_runs.specs.Evaluate.{driver_word}
use Rattle.opgen_runs.proofs.Widths.{found-length}
use Rattle.opgen_runs.specs.Tables.{Row, row_word}
use Rattle.opgen_machine.specs.declared.step.Step.{Step}
use Rattle.opgen_machine.specs.declared.step.Spot.{Spot}
use Rattle.opgen_machine.specs.Steps.{exec}
use Rattle.opgen_machine.specs.Programs.{AreSpots, Holds, Spots, seen, value_over}
use Rattle.opgen_machine.specs.Emit.{Chosen, Emitted, IsNarrow, Looked, width_over}
use Rattle.opgen_machine.proofs.Gives.{extends-trans, fit-back, gives-along, seen-along, spots-along}
use Rattle.opgen_machine.specs.Laid.{HasRoom}
use Rattle.opgen_machine.specs.Settles.{Agrees, AgreesTable, HasNarrow, Leaves, Left, chosen_over, width_at}

-- the width of an emitted expression is the one that it was said to have
pub has-size : (base : ℕ) (spots : Spots) (e : Tree) (before after : List Step) (s : Spot) (w : ℕ) → Emitted base spots e before after s
    → HasNarrow spots e w → s.width ≡ w
has-size base spots e before after s w h n = same_Some s.width w (sym h.width ∙ n.0)

pub is-narrow : (spots : Spots) (e : Tree) (w : ℕ) → HasNarrow spots e w → IsNarrow (width_over spots e)
is-narrow spots e w h = subst IsNarrow (sym h.0) h.1

pub left-of : (base : ℕ) (spots : Spots) (e : Tree) (before after : List Step) (s : Spot) (w : ℕ) → HasNarrow spots e w
    → Emitted base spots e before after s → Left base spots (value_over e) w before after s
left-of base spots e before after s w n h = record
    { extends = h.extends; fine = h.fine; width = has-size base spots e before after s w h n; gives = h.gives }

pub leaves-of : (low base : ℕ) (spots : Spots) (k : Driver) (from : ℕ) (f : Words → List Bool) (before after : List Step) (s : Spot)
    (w : ℕ) → ((v : Words) → f v ≡ driver_word (scope v) k) → Left base spots f w before after s
    → Leaves low base spots k from w before after s
leaves-of low base spots k from f before after s w same h = record {
  extends = h.extends;
  fine = h.fine;
  there = h.gives.there;
  width = h.width;
  word = λ m e laid fit. subst (Holds (exec after m) s) (same (seen (exec after m) spots)) (h.gives.word m e fit);
}

-- expressions of one width are emitted with one
pub same-size : (spots : Spots) (a b : Tree) (u v : ℕ) → width_over spots a ≡ Some u → width_over spots b ≡ Some v
    → width_over spots b ≡ width_over spots a → u ≡ v
same-size spots a b u v h k e = same_Some u v (sym h ∙ sym e ∙ k)

-- an expression given as code has the width of its plain data
pub plain-narrow : (spots : Spots) (e t : Tree) → e ≡ t → IsNarrow (width_over spots t) → IsNarrow (width_over spots e)
plain-narrow spots e t is h = subst (λ x. IsNarrow (width_over spots x)) (sym is) h

-- a driver's expression that is already plain data
pub plain-left : (base : ℕ) (spots : Spots) (e t : Tree) (before after : List Step) (s : Spot) → e ≡ t
    → Emitted base spots e before after s → Emitted base spots t before after s
plain-left base spots e t before after s is h = subst (λ x. Emitted base spots x before after s) is h

module _ (base : ℕ) (spots : Spots) (before : List Step) (are : AreSpots (base + length before) spots) where
  pub choice-left : (on one other : Tree) (size : ℕ) (b1 b2 b3 after : List Step) (s1 s2 s3 s : Spot) → HasNarrow spots one size
      → Emitted base spots on before b1 s1 → Emitted base spots one b1 b2 s2 → Emitted base spots other b2 b3 s3
      → (AreSpots (base + length b3) spots → Chosen base spots s1 s2 s3 b3 after s)
      → Left base spots (chosen_over on one other) size before after s
  choice-left on one other size b1 b2 b3 after s1 s2 s3 s n e1 e2 e3 h =
      let x2 = extends-trans before b1 b2 e1.extends e2.extends in
      let x3 = extends-trans b1 b2 b3 e2.extends e3.extends in
      let c = h (spots-along base spots before b3 are (extends-trans before b1 b3 e1.extends x3)) in
      record {
        extends = extends-trans before b1 after e1.extends (extends-trans b1 b3 after x3 c.extends);
        fine = c.fine;
        width = sym c.width ∙ has-size base spots one b1 b2 s2 size e2 n;
        gives = c.gives (value_over on) (value_over one) (value_over other)
            (gives-along base spots b1 b3 s1 (value_over on) (spots-along base spots before b1 are e1.extends) x3 e1.gives)
            (gives-along base spots b2 b3 s2 (value_over one) (spots-along base spots before b2 are x2) e3.extends e2.gives)
            e3.gives;
      }

-- the words of a table have one width
table-long : (rows : List Row) (other : List Bool) (n w : ℕ) → All (λ r. length r.1 ≡ w) rows → length other ≡ w
    → length (unwrap_or (row_word rows n) other) ≡ w
table-long [] other n w h k = k
table-long (r ∷ rows) other n w h k = found-length (nat_eq (nat r.0) n) r.1 other (row_word rows n) w (h 0 r (omega arith))
    (table-long rows other n w (λ i x l. h (suc i) x (omega (arith, l))) k)

pub first-address : (spots : Spots) (on : Tree) (r : Row) (rows : List Row) (other : List Bool) (w : ℕ)
    → AgreesTable spots on (r ∷ rows) other w → HasNarrow spots on (length r.0)
first-address spots on r rows other w h = (h.0 0 r (omega arith)).0

pub no-rows : (low base : ℕ) (spots : Spots) (on : Tree) (other : List Bool) (from : ℕ) (before after : List Step) (s : Spot)
    → Emitted base spots (bits other) before after s → IsWidth (length other)
    → Leaves low base spots (Table 0 on [] other) from (length other) before after s
no-rows low base spots on other from before after s h is = record {
  extends = h.extends;
  fine = h.fine;
  there = h.gives.there;
  width = same_Some s.width (length other) (sym h.width ∙ as_width-of (length other) is);
  word = λ m e laid fit. h.gives.word m e fit;
}

pub some-rows : (low base : ℕ) (spots : Spots) (on : Tree) (r : Row) (rows : List Row) (other : List Bool) (from : ℕ)
    (before mid after : List Step) (at s : Spot) → AreSpots (base + length before) spots
    → AgreesTable spots on (r ∷ rows) other (length other) → Emitted base spots on before mid at
    → Looked base at from (length other) mid after s
    → Leaves low base spots (Table 0 on (r ∷ rows) other) from (length other) before after s
some-rows low base spots on r rows other from before mid after at s are agrees e k =
    let size = has-size base spots on before mid at (length r.0) e (first-address spots on r rows other (length other) agrees) in
    let are' = spots-along base spots before mid are e.extends in
    record {
      extends = extends-trans before mid after e.extends k.extends;
      fine = k.fine;
      there = k.there;
      width = k.width;
      word = λ m l laid fit.
          let h = e.gives.word m l (fit-back base spots mid after are' k.extends m l fit) in
          let v = value_over on (seen (exec mid m) spots) in
          let n = get_or (exec mid m) at.place 0 in
          let below : nat v < 2 ^ length r.0 = subst (λ x. nat v < 2 ^ x) (h.width ∙ size) (nat-below v) in
          let below' : n < 2 ^ at.width = subst (λ x. n < 2 ^ x) (sym size) (subst (λ x. x < 2 ^ length r.0) (sym h.number) below) in
          let word = unwrap_or (row_word (r ∷ rows) (nat v)) other in
          let same : v ≡ value_over on (seen (exec after m) spots) = ap (value_over on)
          (sym (seen-along base spots mid after are' k.extends m l)) in
          let here : Holds (exec after m) s word = record {
            number = k.finds m l below' ∙ ap (λ x. get_or m (from + x) 0) h.number ∙ laid.number (nat v) below;
            width = table-long (r ∷ rows) other (nat v) (length other) (λ i x j. (agrees.0 i x j).1) refl ∙ sym k.width;
          } in
          subst (λ x. Holds (exec after m) s (unwrap_or (row_word (r ∷ rows) (nat x)) other)) same here;
    }

pub not-empty : (n : ℕ) → false ≡ (n == 0) → 1 ≤ n
not-empty zero h = absurd (cc)
not-empty (suc n) h = omega arith

pub none-of : (rows : List Row) → true ≡ (length rows == 0) → rows ≡ []
none-of [] h = refl
none-of (r ∷ rows) h = absurd (omega (arith, eqb-true (length (r ∷ rows)) 0 (sym h)))

-- the same for any rows
pub rows-narrow : (spots : Spots) (on : Tree) (rows : List Row) (other : List Bool) (w : ℕ) → AgreesTable spots on rows other w
    → 1 ≤ length rows → IsNarrow (width_over spots on)
rows-narrow spots on [] other w h l = absurd (omega (arith, l))
rows-narrow spots on (r ∷ rows) other w h l = is-narrow spots on (length r.0) (first-address spots on r rows other w h)

pub rows-room : (base : ℕ) (spots : Spots) (to : ℕ) (on : Tree) (rows : List Row) (other : List Bool) (w from : ℕ)
    → AgreesTable spots on rows other w → 1 ≤ length rows → HasRoom base (Table to on rows other) from
    → IfSome (width_over spots on) (λ x. from + 2 ^ x ≤ base)
rows-room base spots to on [] other w from h l room = absurd (omega (arith, l))
rows-room base spots to on (r ∷ rows) other w from h l room = subst (λ o. IfSome o (λ x. from + 2 ^ x ≤ base))
    (sym (first-address spots on r rows other w h).0) room

pub other-narrow : (spots : Spots) (on : Tree) (rows : List Row) (other : List Bool) (w : ℕ) → AgreesTable spots on rows other w
    → IsWidth (length other) × IsNarrow (width_over spots (bits other))
other-narrow spots on rows other w h =
    let is : IsWidth (length other) = subst IsWidth (sym h.1) h.2 in
    (is, subst IsNarrow (sym (as_width-of (length other) is)) (omega (arith, h.1, h.3)))

pub rows-leave : (low base : ℕ) (spots : Spots) (on : Tree) (rows : List Row) (other : List Bool) (from : ℕ)
    (before mid after : List Step) (at s : Spot) → AreSpots (base + length before) spots → AgreesTable spots on rows other (length other)
    → 1 ≤ length rows → Emitted base spots on before mid at → Looked base at from (length other) mid after s
    → Leaves low base spots (Table 0 on rows other) from (length other) before after s
rows-leave low base spots on [] other from before mid after at s are h l e k = absurd (omega (arith, l))
rows-leave low base spots on (r ∷ rows) other from before mid after at s are h l e k = some-rows low base spots on r rows other from
    before mid after at s are h e k

pub rows-none : (low base : ℕ) (spots : Spots) (on : Tree) (rows : List Row) (other : List Bool) (from : ℕ) (before after : List Step)
    (s : Spot) → rows ≡ [] → Emitted base spots (bits other) before after s → IsWidth (length other)
    → Leaves low base spots (Table 0 on rows other) from (length other) before after s
rows-none low base spots on rows other from before after s none h is =
    subst (λ x. Leaves low base spots (Table 0 on x other) from (length other) before after s) (sym none)
    (no-rows low base spots on other from before after s h is)

any-target : (low base : ℕ) (spots : Spots) (to : ℕ) (on : Tree) (rows : List Row) (other : List Bool) (from w : ℕ)
    (before after : List Step) (s : Spot) → length other ≡ w
    → Leaves low base spots (Table 0 on rows other) from (length other) before after s
    → Leaves low base spots (Table to on rows other) from w before after s
any-target low base spots to on [] other from w before after s e h = record
    { extends = h.extends; fine = h.fine; there = h.there; width = h.width ∙ e; word = h.word }
any-target low base spots to on (r ∷ rows) other from w before after s e h = record
    { extends = h.extends; fine = h.fine; there = h.there; width = h.width ∙ e; word = h.word }

-- a table as a driver
pub table-driver : (low base : ℕ) (spots : Spots) (k : Driver) (to : ℕ) (on : Tree) (rows : List Row) (other : List Bool) (from : ℕ)
    (before after : List Step) (s : Spot) → k ≡ Table to on rows other → Agrees spots k
    → Leaves low base spots (Table 0 on rows other) from (length other) before after s
    → Leaves low base spots k from (width_at spots (target k)) before after s
table-driver low base spots k to on rows other from before after s is agrees h =
    let a = subst (Agrees spots) is agrees in
    subst (λ x. Leaves low base spots x from (width_at spots (target x)) before after s) (sym is)
    (any-target low base spots to on rows other from (width_at spots (signal to)) before after s a.1 h)

-- a table with no rows, and one with rows
pub none-driver : (low base : ℕ) (spots : Spots) (k : Driver) (to : ℕ) (on : Tree) (rows : List Row) (other : List Bool) (from : ℕ)
    (before after : List Step) (s : Spot) → k ≡ Table to on rows other → Agrees spots k → rows ≡ []
    → Emitted base spots (bits other) before after s → Leaves low base spots k from (width_at spots (target k)) before after s
none-driver low base spots k to on rows other from before after s is agrees none h =
    let a = subst (Agrees spots) is agrees in
    table-driver low base spots k to on rows other from before after s is agrees
    (rows-none low base spots on rows other from before after s none h
    (other-narrow spots on rows other (width_at spots (signal to)) a).0)

pub rows-driver : (low base : ℕ) (spots : Spots) (k : Driver) (to : ℕ) (on : Tree) (rows : List Row) (other : List Bool) (from size : ℕ)
    (before after : List Step) (s : Spot) → k ≡ Table to on rows other → Agrees spots k → size ≡ length other
    → (length other ≡ size → AgreesTable spots on rows other size → Leaves low base spots (Table 0 on rows other) from size before after s)
    → Leaves low base spots k from (width_at spots (target k)) before after s
rows-driver low base spots k to on rows other from size before after s is agrees e h =
    let a = subst (Agrees spots) is agrees in
    let b = subst (AgreesTable spots on rows other) (sym a.1 ∙ sym e) a in
    table-driver low base spots k to on rows other from before after s is agrees
    (subst (λ w. Leaves low base spots (Table 0 on rows other) from w before after s) e (h (sym e) b))

-- where memory did not run out
pub if-ok : {A E : Type 0} (r : Result A E) (P Q : A → Type 0) → ((x : A) → P x → Q x) → IfOk r P → IfOk r Q
if-ok (Ok x) P Q f h = f x h
if-ok (Err e) P Q f h = tt
