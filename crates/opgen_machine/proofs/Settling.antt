-- Drivers as steps, one after another.
use Rattle.std.proofs.Common.{◌≡◌, ℕ, zero, suc, ◌+◌, ◌^◌, ◌<◌, ◌≤◌, Bool, List, [], ◌∷◌, ◌++◌, length, map, get_or, Some, refl, sym, ap, ◌∙◌, subst, arith}
use Rattle.std.specs.Prelude.{All, slice_get, slice_set}
use Rattle.std.specs.List.{AllZip}
use Rattle.std.proofs.Math.ListN.{get_or-map}
use Rattle.std.proofs.Math.Seq.{map-set_same}
use Rattle.std.proofs.lemmas.List.{map-set, length-map}
use Rattle.opgen_num.specs.Words.{nat, word}
use Rattle.opgen_num.proofs.Words.{nat-below, word-nat}
use Rattle.opgen_design.specs.declared.design.Driver.{Driver}
use Rattle.opgen_design.specs.declared.design.Driver.TheVariants.{Assign, Choice, Table, Register, Output}
use Rattle.opgen_design.specs.Run.{Words, scope}
use Rattle.opgen_design.specs.declared.design.Target.{Target}
use Rattle.opgen_design.specs.declared.design.Target.TheVariants.{Signal as signal, Port as port_of}
use Rattle.opgen_design.specs.Sound.{target}
use Rattle.opgen_design.specs.Tree.{Tree}
use Rattle.opgen_design.specs.Value.{width}
use Rattle.opgen_runs.specs.Evaluate.{driver_word, put, put_at, put_option, settle}
use Rattle.opgen_machine.specs.declared.step.Step.{Step}
use Rattle.opgen_machine.specs.declared.step.Spot.{Spot}
use Rattle.opgen_machine.specs.Steps.{AreFine, exec}
use Rattle.opgen_machine.specs.Programs.{AllFit, AreSpots, Holds, Spots, seen, widths_of, word_of}
use Rattle.opgen_machine.proofs.Gives.{fit-along, longer, seen-along, seen-eq, spots-more}
use Rattle.opgen_machine.specs.Laid.{AreLaid, IsLaid}
use Rattle.opgen_machine.specs.Settles.{Agrees, HasNarrow, IsPut, IsThere, Settles, put_spot, width_at}

abbrev nowhere : Spot
nowhere = record { place = 0; width = 0 }

all-set : {X : Type 0} (P : X → Type 0) (xs : List X) (i : ℕ) (y : X) → P y → All P xs → All P (slice_set xs i y)
all-set P [] i y p h k d l = absurd (omega (arith, l))
all-set P (x ∷ xs) zero y p h zero d l = p
all-set P (x ∷ xs) zero y p h (suc k) d l = h (suc k) d l
all-set P (x ∷ xs) (suc i) y p h zero d l = h 0 x (omega arith)
all-set P (x ∷ xs) (suc i) y p h (suc k) d l = all-set P xs i y p (λ j e m. h (suc j) e (omega (arith, m))) k d (omega (arith, l))

pub zip-at : {X Y : Type 0} (R : X → Y → Type 0) (xs : List X) (ys : List Y) (i : ℕ) (x : X) (d : Y) → AllZip R xs ys
    → slice_get xs i ≡ Some x → R x (get_or ys i d)
zip-at R [] ys i x d h e = absurd (cc)
zip-at R (z ∷ xs) [] i x d h e = absurd h
zip-at R (z ∷ xs) (y ∷ ys) zero x d h e = let same : z ≡ x = cc in subst (λ q. R q y) same h.0
zip-at R (z ∷ xs) (y ∷ ys) (suc i) x d h e = zip-at R xs ys i x d h.1 e

-- a spot put where a driver drives
module _ (spots : Spots) (s : Spot) where
  seen-put : (t : Target) (m : List ℕ) (w : List Bool) → word_of m s ≡ w → seen m (put_spot t s spots) ≡ put_at t w (seen m spots)
  seen-put (signal i) m w e = seen-eq m (put_spot (signal i) s spots) (put_at (signal i) w (seen m spots))
      (map-set (word_of m) spots.signals i s ∙ ap (slice_set (map (word_of m) spots.signals) i) e) refl
  seen-put (port_of p) m w e = seen-eq m (put_spot (port_of p) s spots) (put_at (port_of p) w (seen m spots)) refl
      (map-set (word_of m) spots.ports p s ∙ ap (slice_set (map (word_of m) spots.ports) p) e)

  are-put : (t : Target) (n : ℕ) → AreSpots n spots → s.place < n → s.width ≤ 64 → AreSpots n (put_spot t s spots)
  are-put (signal i) n h l w = (all-set (λ (x : Spot). (x.place < n) × (x.width ≤ 64)) spots.signals i s (l, w) h.0, h.1)
  are-put (port_of p) n h l w = (h.0, all-set (λ (x : Spot). (x.place < n) × (x.width ≤ 64)) spots.ports p s (l, w) h.1)

  fit-put : (t : Target) (m : List ℕ) → AllFit m spots → get_or m s.place 0 < 2 ^ s.width → AllFit m (put_spot t s spots)
  fit-put (signal i) m h l = (all-set (λ (x : Spot). get_or m x.place 0 < 2 ^ x.width) spots.signals i s l h.0, h.1)
  fit-put (port_of p) m h l = (h.0, all-set (λ (x : Spot). get_or m x.place 0 < 2 ^ x.width) spots.ports p s l h.1)

  widths-put : (t : Target) → s.width ≡ width_at spots t → (widths_of (put_spot t s spots).signals ≡ widths_of spots.signals)
      × (widths_of (put_spot t s spots).ports ≡ widths_of spots.ports)
  widths-put (signal i) e = (
    map-set_same (λ (x : Spot). x.width) spots.signals i s nowhere
        (e ∙ get_or-map (λ (x : Spot). x.width) spots.signals i nowhere),
    refl,
  )
  widths-put (port_of p) e = (
    refl,
    map-set_same (λ (x : Spot). x.width) spots.ports p s nowhere (e ∙ get_or-map (λ (x : Spot). x.width) spots.ports p nowhere),
  )

agrees-narrow : (spots : Spots) (k : Driver) → Agrees spots k → width_at spots (target k) ≤ 64
agrees-narrow spots (Assign to e) h = h.1
agrees-narrow spots (Choice to on one other) h = h.1.1
agrees-narrow spots (Table to on rows other) h = h.3
agrees-narrow spots (Register to e) h = h.1
agrees-narrow spots (Output place e) h = h.1

-- what is said of the widths of spots
module _ (a b : Spots) (e : widths_of a.signals ≡ widths_of b.signals) (f : widths_of a.ports ≡ widths_of b.ports) where
  size-same : (t : Target) → width_at a t ≡ width_at b t
  size-same (signal s) = ap (λ ws. get_or ws s 0) e
  size-same (port_of p) = ap (λ ws. get_or ws p 0) f

  narrow-same : (t : Tree) (v w : ℕ) → v ≡ w → HasNarrow a t v → HasNarrow b t w
  narrow-same t v w same h = (
    ap (λ ns. width ns (widths_of b.ports) t) (sym e) ∙ ap (λ ps. width (widths_of a.signals) ps t) (sym f) ∙ h.0
        ∙ ap Some same,
    omega (arith, same, h.1),
  )

  pub agrees-same : (k : Driver) → Agrees a k → Agrees b k
  agrees-same (Assign to t) h = narrow-same t (width_at a (signal to)) (width_at b (signal to)) (size-same (signal to)) h
  agrees-same (Choice to on one other) h = (
    narrow-same on 1 1 refl h.0,
    narrow-same one (width_at a (signal to)) (width_at b (signal to)) (size-same (signal to)) h.1,
    narrow-same other (width_at a (signal to)) (width_at b (signal to)) (size-same (signal to)) h.2,
  )
  agrees-same (Table to on rows other) h =
      let s = size-same (signal to) in (
        λ i x l. let r = h.0 i x l in (narrow-same on (length (get_or rows i x).0) (length (get_or rows i x).0) refl r.0, r.1 ∙ s),
        h.1 ∙ s,
        (omega (arith, h.2.0, s), omega (arith, h.2.1, s)),
        omega (arith, h.3, s),
      )
  agrees-same (Register to t) h = narrow-same t (width_at a (signal to)) (width_at b (signal to)) (size-same (signal to)) h
  agrees-same (Output place t) h = narrow-same t (width_at a (port_of place)) (width_at b (port_of place)) (size-same (port_of place)) h

  pub there-same : (t : Target) → IsThere a t → IsThere b t
  there-same (signal s) h = omega
      (arith, h, ap length e, length-map a.signals (λ (x : Spot). x.width), length-map b.signals (λ (x : Spot). x.width))
  there-same (port_of p) h = omega
      (arith, h, ap length f, length-map a.ports (λ (x : Spot). x.width), length-map b.ports (λ (x : Spot). x.width))

word-holds : (m : List ℕ) (s : Spot) (v : List Bool) → Holds m s v → word_of m s ≡ v
word-holds m s v h = ap (λ w. word w (get_or m s.place 0)) (sym h.width) ∙ ap (word (length v)) h.number ∙ word-nat v

pub holds-below : (m : List ℕ) (s : Spot) (v : List Bool) → Holds m s v → get_or m s.place 0 < 2 ^ s.width
holds-below m s v h = subst (λ n. n < 2 ^ s.width) (sym h.number) (subst (λ w. nat v < 2 ^ w) h.width (nat-below v))

settle-append : (ks : List Driver) (order : List ℕ) (i : ℕ) (k : Driver) (v : Words) → slice_get ks i ≡ Some k
    → settle ks (order ++ i ∷ []) v ≡ put k (settle ks order v)
settle-append ks [] i k v e = ap (λ o. put_option o v) e
settle-append ks (j ∷ order) i k v e = settle-append ks order i k (put_option (slice_get ks j) v) e

pub settles-none : (low base : ℕ) (ks : List Driver) (tables : List ℕ) (first : Spots) (steps : List Step) → steps ≡ []
    → AreSpots base first → Settles low base ks tables [] first steps first
settles-none low base ks tables first steps e are = record {
  fine = subst (AreFine base) (sym e) tt;
  are = spots-more base (base + length steps) first (omega arith) are;
  signals = refl;
  ports = refl;
  fit = λ m l laid h. subst (λ s. AllFit (exec s m) first) (sym e) h;
  settled = λ m l laid h. ap (λ s. seen (exec s m) first) e;
}

pub settles-more : (low base : ℕ) (ks : List Driver) (tables order : List ℕ) (first : Spots) (before after : List Step)
    (spots later : Spots) (i : ℕ) (k : Driver) → Settles low base ks tables order first before spots
    → slice_get ks i ≡ Some k → Agrees spots k → IsPut low base k (get_or tables i 0) spots before after later
    → Settles low base ks tables (order ++ i ∷ []) first after later
settles-more low base ks tables order first before after spots later i k h at agrees p =
    let s = p.spot in
    let t = target k in
    let e = p.leaves in
    let w = widths-put spots s t e.width in
    let fit-after = λ (m : List ℕ) (l : length m ≡ base) (laid : AreLaid low m ks tables) (q : AllFit m first). fit-along base spots
    before after h.are e.extends m l (h.fit m l laid q) in
    let holds = λ (m : List ℕ) (l : length m ≡ base) (laid : AreLaid low m ks tables) (q : AllFit m first). e.word m l
    (zip-at (IsLaid low m) ks tables i k 0 laid at) (fit-after m l laid q) in
    record {
      fine = e.fine;
      are = subst (AreSpots (base + length after)) (sym p.moved)
          (are-put spots s t (base + length after)
          (spots-more (base + length before) (base + length after) spots (omega (arith, longer before after e.extends)) h.are) e.there
          (omega (arith, e.width, agrees-narrow spots k agrees)));
      signals = ap (λ x. widths_of x.signals) p.moved ∙ w.0 ∙ h.signals;
      ports = ap (λ x. widths_of x.ports) p.moved ∙ w.1 ∙ h.ports;
      fit = λ m l laid q.
          let v = driver_word (scope (seen (exec after m) spots)) k in
          subst (AllFit (exec after m)) (sym p.moved)
          (fit-put spots s t (exec after m) (fit-after m l laid q) (holds-below (exec after m) s v (holds m l laid q)));
      settled = λ m l laid q.
          let v = driver_word (scope (seen (exec after m) spots)) k in
          ap (seen (exec after m)) p.moved
          ∙ seen-put spots s t (exec after m) v (word-holds (exec after m) s v (holds m l laid q))
          ∙ ap (put k) (seen-along base spots before after h.are e.extends m l ∙ h.settled m l laid q)
          ∙ sym (settle-append ks order i k (seen m first) at);
    }
