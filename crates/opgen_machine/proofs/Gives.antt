-- What one more step gives.
use Rattle.std.proofs.Common.{◌≡◌, ℕ, suc, ◌+◌, ◌-◌, ◌*◌, ◌%◌, ◌^◌, ◌<◌, ◌≤◌, Bool, true, false, List, [], ◌∷◌, ◌++◌, length, map, get_or, Some, refl, sym, ap, ◌∙◌, subst, arith, length-append, append_assoc}
use Rattle.std.specs.Prelude.{All, slice_get, if◌then◌else◌, nat_eq, bit_and, bit_or, bit_xor}
use Rattle.std.proofs.Math.Nat.{mod-eq_of_lt}
use Rattle.std.proofs.lemmas.List.{append-nil}
use Rattle.std.proofs.lemmas.Nat.{and_mask, pow_pos}
use Rattle.std.proofs.lemmas.Option.{slice_get_within}
use Rattle.opgen_num.specs.Words.{nat, word}
use Rattle.opgen_design.specs.declared.expr.Op.{Op}
use Rattle.opgen_design.specs.declared.expr.Op.TheVariants.{And, Or, Xor, Cat, Plus, Minus}
use Rattle.opgen_design.specs.Run.{Words}
use Rattle.opgen_design.specs.Value.{chosen, combined, IsWidth, joined}
use Rattle.opgen_design.proofs.WidthLaws.{as_width-some, equal_widths}
use Rattle.opgen_design.proofs.ValueLaws.{length-chosen}
use Rattle.opgen_runs.proofs.Fitting.{pair-value}
use Rattle.opgen_machine.specs.declared.step.Step.{Step}
use Rattle.opgen_machine.specs.declared.step.Step.TheVariants.{Copy, Choose, Look}
use Rattle.opgen_machine.specs.declared.step.Spot.{Spot}
use Rattle.opgen_machine.specs.Steps.{act, Reads, AreFine, exec}
use Rattle.opgen_machine.specs.Programs.{Holds, Gives, Spots, Fit, AllFit, AreBelow, AreSpots, word_of, seen}
use Rattle.opgen_machine.specs.Emit.{Extends, IsNarrow, Chosen, Copied, Looked, Combined, step_of, width_of}
use Rattle.opgen_machine.proofs.Exec.{exec-append, exec-at, exec-length, exec-kept, exec-last, fine-append}
use Rattle.opgen_machine.proofs.Narrow.{narrow-of}
use Rattle.opgen_machine.proofs.Numbers.{nat-and, nat-or, nat-xor, nat-add, nat-subtract, nat-join}

-- the words of spots are those of the numbers there
words-same : (m k : List ℕ) (spots : List Spot) → All (λ s. get_or m s.place 0 ≡ get_or k s.place 0) spots
    → map (word_of m) spots ≡ map (word_of k) spots
words-same m k [] h = refl
words-same m k (s ∷ spots) h =
    let e : get_or m s.place 0 ≡ get_or k s.place 0 = h 0 s (omega arith) in
    ap (λ n. word s.width n ∷ map (word_of m) spots) e
    ∙ ap (λ l. word_of k s ∷ l) (words-same m k spots (λ i x l. h (suc i) x (omega (arith, l))))

pub seen-eq : (m : List ℕ) (spots : Spots) (v : Words) → map (word_of m) spots.signals ≡ v.signals → map (word_of m) spots.ports ≡ v.ports
    → seen m spots ≡ v
seen-eq m spots v e f = ap (λ x. record { signals = x; ports = map (word_of m) spots.ports }) e
    ∙ ap (λ x. record { signals = v.signals; ports = x }) f

pub extends-refl : (a : List Step) → Extends a a
extends-refl a = ([], sym (append-nil a))

pub extends-trans : (a b c : List Step) → Extends a b → Extends b c → Extends a c
extends-trans a b c h k = (h.0 ++ k.0, k.1 ∙ ap (λ l. l ++ k.0) h.1 ∙ append_assoc a h.0 k.0)

pub longer : (before after : List Step) → Extends before after → length before ≤ length after
longer before after e = omega (arith, ap length e.1, length-append before e.0)

below-more : (n k : ℕ) (spots : List Spot) → n ≤ k → AreBelow n spots → AreBelow k spots
below-more n k spots l h = λ i x j. let a = h i x j in (omega (arith, a.0, l), a.1)

pub spots-more : (n k : ℕ) (spots : Spots) → n ≤ k → AreSpots n spots → AreSpots k spots
spots-more n k spots l h = (below-more n k spots.signals l h.0, below-more n k spots.ports l h.1)

pub spots-along : (base : ℕ) (spots : Spots) (before after : List Step) → AreSpots (base + length before) spots → Extends before after
    → AreSpots (base + length after) spots
spots-along base spots before after are e = spots-more (base + length before) (base + length after) spots
    (omega (arith, longer before after e)) are

-- a place of a step is one under more steps
pub there-along : (base place : ℕ) (before after : List Step) → Extends before after → place < base + length before
    → place < base + length after
there-along base place before after e l = omega (arith, longer before after e, l)

-- what stands after steps stays under others
pub kept : (base : ℕ) (steps others : List Step) (m : List ℕ) (place : ℕ) → length m ≡ base → place < base + length steps
    → get_or (exec (steps ++ others) m) place 0 ≡ get_or (exec steps m) place 0
kept base steps others m place e l =
    ap (λ k. get_or k place 0) (exec-append steps others m)
    ∙ exec-kept others (exec steps m) place (omega (arith, exec-length steps m, e, l))

module _ (base : ℕ) (steps others : List Step) (m : List ℕ) (e : length m ≡ base) where
  words-kept : (spots : List Spot) → AreBelow (base + length steps) spots
      → map (word_of (exec (steps ++ others) m)) spots ≡ map (word_of (exec steps m)) spots
  words-kept spots are = words-same (exec (steps ++ others) m) (exec steps m) spots
      (λ i x l. kept base steps others m (get_or spots i x).place e (are i x l).0)

  fit-kept : (spots : List Spot) → AreBelow (base + length steps) spots → Fit (exec (steps ++ others) m) spots → Fit (exec steps m) spots
  fit-kept spots are h = λ i x l. subst (λ n. n < 2 ^ (get_or spots i x).width)
      (kept base steps others m (get_or spots i x).place e (are i x l).0) (h i x l)

  fit-later : (spots : List Spot) → AreBelow (base + length steps) spots → Fit (exec steps m) spots → Fit (exec (steps ++ others) m) spots
  fit-later spots are h = λ i x l. subst (λ n. n < 2 ^ (get_or spots i x).width)
      (sym (kept base steps others m (get_or spots i x).place e (are i x l).0)) (h i x l)

module _ (base : ℕ) (spots : Spots) (steps : List Step) (are : AreSpots (base + length steps) spots) where
  pub seen-kept : (others : List Step) (m : List ℕ) → length m ≡ base → seen (exec (steps ++ others) m) spots ≡ seen (exec steps m) spots
  seen-kept others m e =
      seen-eq (exec (steps ++ others) m) spots (seen (exec steps m) spots) (words-kept base steps others m e spots.signals are.0)
      (words-kept base steps others m e spots.ports are.1)

  pub fit-before : (others : List Step) (m : List ℕ) → length m ≡ base → AllFit (exec (steps ++ others) m) spots
      → AllFit (exec steps m) spots
  fit-before others m e h = (fit-kept base steps others m e spots.signals are.0 h.0, fit-kept base steps others m e spots.ports are.1 h.1)

  pub fit-after : (others : List Step) (m : List ℕ) → length m ≡ base → AllFit (exec steps m) spots
      → AllFit (exec (steps ++ others) m) spots
  fit-after others m e h = (fit-later base steps others m e spots.signals are.0 h.0, fit-later base steps others m e spots.ports are.1 h.1)

  -- what steps give stays under more steps
  pub gives-more : (others : List Step) (spot : Spot) (f : Words → List Bool) → Gives base spots steps spot f
      → Gives base spots (steps ++ others) spot f
  gives-more others spot f h = record {
    there = omega (arith, h.there, length-append steps others);
    word = λ m e fit.
        let k = h.word m e (fit-before others m e fit) in
        let s = ap f (seen-kept others m e) in
        record { number = kept base steps others m spot.place e h.there ∙ k.number ∙ sym (ap nat s); width = ap length s ∙ k.width };
  }

  -- one more step gives what it computes
  pub gives-step : (s : Step) (w : ℕ) (f : Words → List Bool)
      → ((m : List ℕ) → length m ≡ base → AllFit (exec steps m) spots → (act s (exec steps m) ≡ nat (f (seen (exec steps m) spots)))
      × (length (f (seen (exec steps m) spots)) ≡ w))
      → Gives base spots (steps ++ s ∷ []) (record { place = base + length steps; width = w }) f
  gives-step s w f h = record {
    there = omega (arith, length-append steps (s ∷ []));
    word = λ m e fit.
        let k = h m e (fit-before (s ∷ []) m e fit) in
        let q = ap f (seen-kept (s ∷ []) m e) in
        record {
          number = ap (λ n. get_or (exec (steps ++ s ∷ []) m) (n + length steps) 0) (sym e) ∙ exec-last steps s m ∙ k.0 ∙ sym (ap nat q);
          width = ap length q ∙ k.1;
        };
  }

-- so does an equal step that stands there
pub gives-at : (base : ℕ) (spots : Spots) (steps : List Step) → AreFine base steps → (s : Step) (i w : ℕ) (f : Words → List Bool)
    → slice_get steps i ≡ Some s
    → ((m : List ℕ) → length m ≡ base → AllFit (exec steps m) spots → (act s (exec steps m) ≡ nat (f (seen (exec steps m) spots)))
    × (length (f (seen (exec steps m) spots)) ≡ w))
    → Gives base spots steps (record { place = base + i; width = w }) f
gives-at base spots steps fine s i w f at h = record {
  there = omega (arith, slice_get_within steps i s at);
  word = λ m e fit.
      let k = h m e fit in
      record {
        number = ap (λ n. get_or (exec steps m) (n + i) 0) (sym e) ∙ exec-at steps m i s (subst (λ n. AreFine n steps) (sym e) fine) at
            ∙ k.0;
        width = k.1;
      };
}

pub seen-along : (base : ℕ) (spots : Spots) (before after : List Step) → AreSpots (base + length before) spots → Extends before after
    → (m : List ℕ) → length m ≡ base → seen (exec after m) spots ≡ seen (exec before m) spots
seen-along base spots before after are e m l = ap (λ s. seen (exec s m) spots) e.1 ∙ seen-kept base spots before are e.0 m l

pub fit-along : (base : ℕ) (spots : Spots) (before after : List Step) → AreSpots (base + length before) spots → Extends before after
    → (m : List ℕ) → length m ≡ base → AllFit (exec before m) spots → AllFit (exec after m) spots
fit-along base spots before after are e m l h = subst (λ s. AllFit (exec s m) spots) (sym e.1) (fit-after base spots before are e.0 m l h)

pub fit-back : (base : ℕ) (spots : Spots) (before after : List Step) → AreSpots (base + length before) spots → Extends before after
    → (m : List ℕ) → length m ≡ base → AllFit (exec after m) spots → AllFit (exec before m) spots
fit-back base spots before after are e m l h = fit-before base spots before are e.0 m l (subst (λ s. AllFit (exec s m) spots) e.1 h)

pub gives-along : (base : ℕ) (spots : Spots) (before after : List Step) (spot : Spot) (f : Words → List Bool)
    → AreSpots (base + length before) spots → Extends before after → Gives base spots before spot f → Gives base spots after spot f
gives-along base spots before after spot f are e h = subst (λ s. Gives base spots s spot f) (sym e.1)
    (gives-more base spots before are e.0 spot f h)

-- the step of two operands computes them together
module _ (m : List ℕ) (a b : Spot) (v w : List Bool) (h : Holds m a v) (k : Holds m b w) where
  on-numbers : (f : ℕ → ℕ → ℕ) → f (get_or m a.place 0) (get_or m b.place 0) ≡ f (nat v) (nat w)
  on-numbers f = ap (λ x. f x (get_or m b.place 0)) h.number ∙ ap (f (nat v)) k.number

  same : a.width ≡ b.width → length v ≡ length w
  same e = h.width ∙ e ∙ sym k.width

  pub step-combined : (op : Op) (u : ℕ) → joined op a.width b.width ≡ Some u → u ≤ 64 → act (step_of op a b) m ≡ nat (combined op v w)
  step-combined And u j n = on-numbers bit_and ∙ sym (nat-and v w (same (equal_widths a.width b.width u j).0))
  step-combined Or u j n = on-numbers bit_or ∙ sym (nat-or v w (same (equal_widths a.width b.width u j).0))
  step-combined Xor u j n = on-numbers bit_xor ∙ sym (nat-xor v w (same (equal_widths a.width b.width u j).0))
  step-combined Cat u j n =
      let s = as_width-some (a.width + b.width) u j in
      let l : length v + length w ≤ 64 = omega (arith, s.0, n, h.width, k.width) in
      on-numbers (λ x y. bit_or (x * 2 ^ b.width % 2 ^ 64) y) ∙ ap (λ n. bit_or (nat v * 2 ^ n % 2 ^ 64) (nat w)) (sym k.width)
      ∙ sym (nat-join v w l)
  step-combined Plus u j n =
      let s = equal_widths a.width b.width u j in
      on-numbers (λ x y. bit_and ((x + y) % 2 ^ 64) (2 ^ a.width - 1))
      ∙ sym (nat-add v w a.width h.width (k.width ∙ sym s.0) (omega (arith, s.1, n)))
  step-combined Minus u j n =
      let s = equal_widths a.width b.width u j in
      on-numbers (λ x y. bit_and ((x + (2 ^ 64 - y)) % 2 ^ 64) (2 ^ a.width - 1))
      ∙ sym (nat-subtract v w a.width h.width (k.width ∙ sym s.0) (omega (arith, s.1, n)))

-- a choice, in numbers
choice-number : (v a b : List Bool) (x y n : ℕ) → n ≡ nat v → length v ≡ 1 → x ≡ nat a → y ≡ nat b
    → (if nat_eq n 1 then x else y) ≡ nat (chosen v a b)
choice-number [] a b x y n e l p q = absurd (omega (arith, l))
choice-number (true ∷ []) a b x y n e l p q = ap (λ k. if nat_eq k 1 then x else y) e ∙ p
choice-number (false ∷ []) a b x y n e l p q = ap (λ k. if nat_eq k 1 then x else y) e ∙ q
choice-number (c ∷ d ∷ v) a b x y n e l p q = absurd (omega (arith, l))

reads-of : (n : ℕ) (op : Op) (a b : Spot) (u : ℕ) → a.place < n → b.place < n → IsWidth a.width → joined op a.width b.width ≡ Some u
    → u ≤ 64 → Reads n (step_of op a b)
reads-of n And a b u h k w j l = (h, k)
reads-of n Or a b u h k w j l = (h, k)
reads-of n Xor a b u h k w j l = (h, k)
reads-of n Cat a b u h k w j l = let s = as_width-some (a.width + b.width) u j in (h, k, omega (arith, s.0, l, w.0))
reads-of n Plus a b u h k w j l = (h, k)
reads-of n Minus a b u h k w j l = (h, k)

width-joined : (op : Op) (a b u : ℕ) → joined op a b ≡ Some u → width_of op a b ≡ u
width-joined And a b u j = (equal_widths a b u j).1
width-joined Or a b u j = (equal_widths a b u j).1
width-joined Xor a b u j = (equal_widths a b u j).1
width-joined Cat a b u j = (as_width-some (a + b) u j).0
width-joined Plus a b u j = (equal_widths a b u j).1
width-joined Minus a b u j = (equal_widths a b u j).1

long : (op : Op) (x y : List Bool) (a b u : ℕ) → length x ≡ a → length y ≡ b → IsWidth a → IsWidth b → joined op a b ≡ Some u
    → length (combined op x y) ≡ u
long op x y a b u e f h k j =
    pair-value [] [] op x y u (subst IsWidth (sym e) h) (subst IsWidth (sym f) k)
    (ap (λ n. joined op n (length y)) e ∙ ap (joined op a) f ∙ j)

module _ (base : ℕ) (spots : Spots) (steps : List Step) (fine : AreFine base steps) (are : AreSpots (base + length steps) spots) where
  pub combined-of : (op : Op) (a b : Spot) → IsNarrow (joined op a.width b.width) → IsWidth a.width → IsWidth b.width
      → a.place < base + length steps → b.place < base + length steps
      → Combined base spots op a b steps (steps ++ step_of op a b ∷ [])
      (record { place = base + length steps; width = width_of op a.width b.width })
  combined-of op a b narrow is is' h k =
      let u = narrow-of (joined op a.width b.width) narrow in
      let e = width-joined op a.width b.width u.0 u.1 in
      record {
        extends = (step_of op a b ∷ [], refl);
        fine = fine-append base steps (step_of op a b) fine (reads-of (base + length steps) op a b u.0 h k is u.1 u.2);
        width = u.1 ∙ ap Some (sym e);
        gives = λ f g p q.
            gives-step base spots steps are (step_of op a b) (width_of op a.width b.width) (λ v. combined op (f v) (g v))
            (λ m e' fit.
            let x = p.word m e' fit in
            let y = q.word m e' fit in
            let v = seen (exec steps m) spots in (
              step-combined (exec steps m) a b (f v) (g v) x y op u.0 u.1 u.2,
              long op (f v) (g v) a.width b.width u.0 x.width y.width is is' u.1 ∙ sym e,
            ));
      }

  pub chosen-of : (on one other : Spot) → on.width ≡ 1 → one.width ≡ other.width → on.place < base + length steps
      → one.place < base + length steps → other.place < base + length steps
      → Chosen base spots on one other steps (steps ++ Choose on.place one.place other.place ∷ [])
      (record { place = base + length steps; width = one.width })
  chosen-of on one other bit equal i j k = record {
    extends = (Choose on.place one.place other.place ∷ [], refl);
    fine = fine-append base steps (Choose on.place one.place other.place) fine (i, j, k);
    behind = omega arith;
    width = refl;
    gives = λ f g h p q r.
        gives-step base spots steps are (Choose on.place one.place other.place) one.width (λ v. chosen (f v) (g v) (h v))
        (λ m e fit.
        let x = p.word m e fit in
        let y = q.word m e fit in
        let z = r.word m e fit in
        let v = seen (exec steps m) spots in (
          choice-number (f v) (g v) (h v) (get_or (exec steps m) one.place 0) (get_or (exec steps m) other.place 0)
              (get_or (exec steps m) on.place 0) x.number (x.width ∙ bit) y.number z.number,
          length-chosen (f v) (g v) (h v) one.width y.width (z.width ∙ sym equal),
        ));
  }

  pub copied-of : (of : Spot) → of.place < base + length steps
      → Copied base spots of steps (steps ++ Copy of.place ∷ []) (record { place = base + length steps; width = of.width })
  copied-of of i = record {
    extends = (Copy of.place ∷ [], refl);
    fine = fine-append base steps (Copy of.place) fine i;
    behind = omega arith;
    width = refl;
    gives = λ f p.
        gives-step base spots steps are (Copy of.place) of.width f
        (λ m e fit.
        let x = p.word m e fit in (
          x.number,
          x.width,
        ));
  }

-- a number below a power of two is as it was under a mask
under-mask : (n w : ℕ) → n < 2 ^ w → bit_and n (2 ^ w - 1) ≡ n
under-mask n w l = and_mask n w ∙ mod-eq_of_lt l

pub looked-of : (base : ℕ) (steps : List Step) → AreFine base steps → (on : Spot) (from width : ℕ) → on.place < base + length steps
    → from + 2 ^ on.width ≤ base
    → Looked base on from width steps (steps ++ Look from on.place (2 ^ on.width - 1) ∷ [])
    (record { place = base + length steps; width = width })
looked-of base steps fine on from width l h = record {
  extends = (Look from on.place (2 ^ on.width - 1) ∷ [], refl);
  fine = fine-append base steps (Look from on.place (2 ^ on.width - 1)) fine (l, omega (arith, h, pow_pos on.width));
  width = refl;
  there = omega (arith, length-append steps (Look from on.place (2 ^ on.width - 1) ∷ []));
  finds = λ m e below.
      let s = Look from on.place (2 ^ on.width - 1) in
      let n = get_or (exec steps m) on.place 0 in
      ap (λ k. get_or (exec (steps ++ s ∷ []) m) (k + length steps) 0) (sym e)
      ∙ exec-last steps s m
      ∙ ap (λ k. get_or (exec steps m) (from + k) 0) (under-mask n on.width below)
      ∙ exec-kept steps m (from + n) (omega (arith, e, h, below));
}
