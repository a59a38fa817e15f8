-- What the steps of each kind of expression give.
use Rattle.std.proofs.Common.{◌≡◌, ℕ, ◌+◌, ◌-◌, ◌/◌, ◌%◌, ◌^◌, ◌<◌, ◌≤◌, Bool, List, [], ◌∷◌, ◌++◌, length, map, get_or, Some, None, refl, sym, ap, ◌∙◌, subst, arith}
use Rattle.std.specs.Prelude.{IsSome, if◌then◌else◌, nat_le, nat_lt, not, ◌&&◌, slice_get, bit_and, option_and_then}
use Rattle.std.proofs.Math.ListN.{get_or-map}
use Rattle.std.proofs.lemmas.List.{length-map}
use Rattle.std.proofs.lemmas.Nat.{and_mask}
use Rattle.std.proofs.lemmas.Option.{slice_get_within, get_or_from_slice_get}
use Rattle.opgen_num.specs.Words.{nat}
use Rattle.opgen_num.specs.WordLaws.{nat-word, length-word}
use Rattle.opgen_num.proofs.Cuts.{nat-cut}
use Rattle.opgen_design.specs.declared.expr.Op.{Op}
use Rattle.opgen_design.specs.Tree.{Tree, Trees, name, part, bits, port, inverse, chain, none, more}
use Rattle.opgen_design.specs.Value.{word_at, combined, IsWidth, as_width, joined, width_on, chain_width}
use Rattle.opgen_design.proofs.WidthLaws.{as_width-some, some_before, part_fits, PartFits, length-cut, width-is_width, some_width}
use Rattle.opgen_machine.specs.declared.step.Step.{Step}
use Rattle.opgen_machine.specs.declared.step.Step.TheVariants.{Constant, Turn, Part}
use Rattle.opgen_machine.specs.declared.step.Spot.{Spot}
use Rattle.opgen_machine.specs.Steps.{act, Reads, AreFine, exec}
use Rattle.opgen_machine.specs.Programs.{Holds, Spots, Fit, AllFit, AreSpots, value_over, word_of, seen, widths_of}
use Rattle.opgen_machine.specs.Emit.{Emitted, Combined, Chained, width_over}
use Rattle.opgen_machine.proofs.Exec.{fine-append}
use Rattle.opgen_machine.proofs.Gives.{extends-refl, extends-trans, longer, spots-more, gives-at, gives-step, gives-along}
use Rattle.opgen_machine.proofs.Numbers.{nat-turn}

abbrev nowhere : Spot
nowhere = record { place = 0; width = 0 }

-- the word of a place of spots
pub spot-width : (spots : List Spot) (n w : ℕ) → slice_get (widths_of spots) n ≡ Some w
    → (get_or spots n (record { place = 0; width = 0 })).width ≡ w
spot-width spots n w h = sym (get_or-map (λ (s : Spot). s.width) spots n nowhere) ∙ get_or_from_slice_get (widths_of spots) n w 0 h

pub spot-there : (spots : List Spot) (n w : ℕ) → slice_get (widths_of spots) n ≡ Some w → n < length spots
spot-there spots n w h = omega (arith, slice_get_within (widths_of spots) n w h, length-map spots (λ (s : Spot). s.width))

spot-word : (spots : List Spot) (n : ℕ) → n < length spots → (m : List ℕ) → Fit m spots
    → Holds m (get_or spots n (record { place = 0; width = 0 })) (word_at (map (word_of m) spots) n)
spot-word spots n l m fit =
    let s = get_or spots n nowhere in
    let e : word_at (map (word_of m) spots) n ≡ word_of m s = get_or-map (word_of m) spots n nowhere in
    record {
      number = sym (nat-word s.width (get_or m s.place 0) (fit n nowhere l)) ∙ sym (ap nat e);
      width = ap length e ∙ length-word s.width (get_or m s.place 0);
    }

-- a width at a place of spots
pub at-spots : (spots : List Spot) (n : ℕ) → IsSome (option_and_then as_width (slice_get (widths_of spots) n)) → (w : ℕ)
    × (option_and_then as_width (slice_get (widths_of spots) n) ≡ Some w) × (slice_get (widths_of spots) n ≡ Some w)
at-spots spots n some =
    let w = some_width (option_and_then as_width (slice_get (widths_of spots) n)) some in
    let a = some_before (slice_get (widths_of spots) n) as_width w.0 w.1 in
    (w.0, w.1, a.1 ∙ ap Some (as_width-some a.0 w.0 a.2).0)

module _ (base : ℕ) (spots : Spots) (steps : List Step) (fine : AreFine base steps) (are : AreSpots (base + length steps) spots) where
  pub emitted-name : (n : ℕ) → IsSome (width_over spots (name n))
      → Emitted base spots (name n) steps steps (get_or spots.signals n (record { place = 0; width = 0 }))
  emitted-name n some =
      let a = at-spots spots.signals n some in
      let l = spot-there spots.signals n a.0 a.2 in
      record {
        extends = extends-refl steps;
        fine = fine;
        width = a.1 ∙ ap Some (sym (spot-width spots.signals n a.0 a.2));
        gives = record {
          there = (are.0 n nowhere l).0;
          word = λ m e fit. spot-word spots.signals n l (exec steps m) fit.0;
        };
      }

  pub emitted-port : (n : ℕ) → IsSome (width_over spots (port n))
      → Emitted base spots (port n) steps steps (get_or spots.ports n (record { place = 0; width = 0 }))
  emitted-port n some =
      let a = at-spots spots.ports n some in
      let l = spot-there spots.ports n a.0 a.2 in
      record {
        extends = extends-refl steps;
        fine = fine;
        width = a.1 ∙ ap Some (sym (spot-width spots.ports n a.0 a.2));
        gives = record {
          there = (are.1 n nowhere l).0;
          word = λ m e fit. spot-word spots.ports n l (exec steps m) fit.1;
        };
      }

  pub part-lies : (n high low : ℕ) → IsSome (width_over spots (part n high low)) → (x : ℕ) × (v : ℕ)
      × (slice_get (widths_of spots.signals) n ≡ Some x) × PartFits high low x v × (width_over spots (part n high low) ≡ Some v)
  part-lies n high low some =
      let w = some_width (width_over spots (part n high low)) some in
      let a = some_before (slice_get (widths_of spots.signals) n)
      (λ x. if nat_le low high && nat_lt high x then as_width (high + 1 - low) else None) w.0 w.1 in
      (a.0, w.0, a.1, part_fits high low a.0 w.0 a.2, w.1)

  pub part-bounds : (n high low : ℕ) → IsSome (width_over spots (part n high low)) → (n < length spots.signals) × (high < 64)
  part-bounds n high low some =
      let p = part-lies n high low some in
      let l = spot-there spots.signals n p.0 p.2 in
      let a = are.0 n nowhere l in
      (l, omega (arith, a.1, spot-width spots.signals n p.0 p.2, p.3.within))

  -- the step of a part computes it
  module _ (n high low : ℕ) (of : Spot) (is : of ≡ get_or spots.signals n (record { place = 0; width = 0 }))
      (some : IsSome (width_over spots (part n high low))) where
    abbrev lies : (x : ℕ) × (v : ℕ) × (slice_get (widths_of spots.signals) n ≡ Some x) × PartFits high low x v
        × (width_over spots (part n high low) ≡ Some v)
    lies = part-lies n high low some

    there : n < length spots.signals
    there = spot-there spots.signals n lies.0 lies.2

    bounds : (of.place < base + length steps) × (of.width ≤ 64)
    bounds = subst (λ s. (s.place < base + length steps) × (s.width ≤ 64)) (sym is) (are.0 n nowhere there)

    whole : of.width ≡ lies.0
    whole = ap (λ (s : Spot). s.width) is ∙ spot-width spots.signals n lies.0 lies.2

    abbrev step : Step
    step = Part of.place low (2 ^ (high + 1 - low) - 1)

    reads : Reads (base + length steps) step
    reads = (bounds.0, omega (arith, lies.3.in_order, lies.3.within, bounds.1, whole))

    computes : (m : List ℕ) → length m ≡ base → AllFit (exec steps m) spots
        → (act step (exec steps m) ≡ nat (value_over (part n high low) (seen (exec steps m) spots)))
        × (length (value_over (part n high low) (seen (exec steps m) spots)) ≡ high + 1 - low)
    computes m e fit =
        let v = word_at (seen (exec steps m) spots).signals n in
        let k = subst (λ s. Holds (exec steps m) s v) (sym is) (spot-word spots.signals n there (exec steps m) fit.0) in (
          ap (λ y. bit_and (y / 2 ^ low) (2 ^ (high + 1 - low) - 1)) k.number ∙ and_mask (nat v / 2 ^ low) (high + 1 - low)
              ∙ sym (nat-cut high low v),
          length-cut high low v lies.3.in_order (omega (arith, k.width, whole, lies.3.within)),
        )

    pub emitted-part : Emitted base spots (part n high low) steps (steps ++ Part of.place low (2 ^ (high + 1 - low) - 1) ∷ [])
        (record { place = base + length steps; width = high + 1 - low })
    emitted-part = record {
      extends = (step ∷ [], refl);
      fine = fine-append base steps step fine reads;
      width = lies.4 ∙ ap Some (sym lies.3.width);
      gives = gives-step base spots steps are step (high + 1 - low) (value_over (part n high low)) computes;
    }

    pub emitted-again : (i : ℕ) → slice_get steps i ≡ Some (Part of.place low (2 ^ (high + 1 - low) - 1))
        → Emitted base spots (part n high low) steps steps (record { place = base + i; width = high + 1 - low })
    emitted-again i at = record {
      extends = extends-refl steps;
      fine = fine;
      width = lies.4 ∙ ap Some (sym lies.3.width);
      gives = gives-at base spots steps fine step i (high + 1 - low) (value_over (part n high low)) at computes;
    }

  pub emitted-bits : (x : List Bool) → IsSome (width_over spots (bits x))
      → Emitted base spots (bits x) steps (steps ++ Constant (nat x) ∷ []) (record { place = base + length steps; width = length x })
  emitted-bits x some =
      let u = some_width (width_over spots (bits x)) some in
      let s = as_width-some (length x) u.0 u.1 in
      record {
        extends = (Constant (nat x) ∷ [], refl);
        fine = fine-append base steps (Constant (nat x)) fine tt;
        width = u.1 ∙ ap Some (sym s.0);
        gives = gives-step base spots steps are (Constant (nat x)) (length x) (value_over (bits x)) (λ m e fit. (refl, refl));
      }

-- a word turned
pub emitted-not : (base : ℕ) (spots : Spots) (t : Tree) (before after : List Step) (of : Spot) → AreSpots (base + length before) spots
    → Emitted base spots t before after of → of.width ≤ 64
    → Emitted base spots (inverse t) before (after ++ Turn of.place (2 ^ of.width - 1) ∷ [])
    (record { place = base + length after; width = of.width })
emitted-not base spots t before after of are h narrow =
    let are' = spots-more (base + length before) (base + length after) spots (omega (arith, longer before after h.extends)) are in
    let step = Turn of.place (2 ^ of.width - 1) in
    record {
      extends = extends-trans before after (after ++ step ∷ []) h.extends (step ∷ [], refl);
      fine = fine-append base after step h.fine h.gives.there;
      width = h.width;
      gives = gives-step base spots after are' step of.width (value_over (inverse t))
          (λ m e fit.
          let k = h.gives.word m e fit in
          let v = seen (exec after m) spots in (
            ap (λ x. (2 ^ of.width - 1 + (2 ^ 64 - x)) % 2 ^ 64) k.number ∙ sym (nat-turn (value_over t v) of.width k.width narrow),
            length-map (value_over t v) not ∙ k.width,
          ));
    }

-- chains
module _ (base : ℕ) (spots : Spots) (op : Op) (before : List Step) where
  abbrev ns : List ℕ
  ns = widths_of spots.signals

  abbrev ps : List ℕ
  ps = widths_of spots.ports

  pub chained-first : (t : Tree) (ts : Trees) (after : List Step) (spot : Spot) → Emitted base spots t before after spot
      → IsSome (chain_width (widths_of spots.signals) (widths_of spots.ports) op (more t ts))
      → Chained base spots op (more t ts) before after spot ts
  chained-first t none after spot h some = absurd (cc)
  chained-first t (more u ts) after spot h some = record {
    extends = h.extends;
    fine = h.fine;
    is_width = width-is_width ns ps t spot.width h.width;
    width = sym (ap (option_and_then (λ w. width_on ns ps op w (more u ts))) h.width);
    so_far = value_over t;
    gives = h.gives;
    rest = λ v. refl;
  }

  pub chained-more : (all : Trees) (mid mid' after : List Step) (acc spot last : Spot) (t : Tree) (ts : Trees)
      → AreSpots (base + length mid) spots → Chained base spots op all before mid acc (more t ts) → Emitted base spots t mid mid' spot
      → Combined base spots op acc spot mid' after last → IsWidth last.width → Chained base spots op all before after last ts
  chained-more all mid mid' after acc spot last t ts are h e c is = record {
    extends = extends-trans before mid after h.extends (extends-trans mid mid' after e.extends c.extends);
    fine = c.fine;
    is_width = is;
    width =
        sym (ap (option_and_then (λ v. option_and_then (λ u. width_on ns ps op u ts) (joined op acc.width v))) e.width
        ∙ ap (option_and_then (λ u. width_on ns ps op u ts)) c.width)
        ∙ h.width;
    so_far = λ v. combined op (h.so_far v) (value_over t v);
    gives = c.gives h.so_far (value_over t) (gives-along base spots mid mid' acc h.so_far are e.extends h.gives) e.gives;
    rest = h.rest;
  }

  pub chained-last : (all : Trees) (after : List Step) (spot : Spot) → Chained base spots op all before after spot none
      → Emitted base spots (chain op all) before after spot
  chained-last all after spot h = record {
    extends = h.extends;
    fine = h.fine;
    width = sym h.width;
    gives = record {
      there = h.gives.there;
      word = λ m e fit.
          let k = h.gives.word m e fit in
          let r = h.rest (seen (exec after m) spots) in
          record { number = k.number ∙ ap nat r; width = sym (ap length r) ∙ k.width };
    };
  }
