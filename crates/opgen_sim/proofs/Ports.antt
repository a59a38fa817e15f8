-- Numbers at the ports, one after another.
use Rattle.std.proofs.Common.{◌≡◌, ℕ, zero, suc, ◌+◌, ◌^◌, ◌<◌, ◌≤◌, Bool, true, false, if◌then◌else◌, List, [], ◌∷◌, ◌++◌, length, map, take, drop, get_or, refl, sym, ap, ◌∙◌, subst, arith}
use Rattle.std.specs.Prelude.{slice_set}
use Rattle.std.proofs.Math.Seq.{take-length, map-set_same}
use Rattle.std.proofs.lemmas.List.{append_assoc, append-nil, length-set, length-drop, drop_more, take_more_set}
use Rattle.opgen_num.specs.Words.{FitWidths, nat, word, words_of}
use Rattle.opgen_num.specs.WordLaws.{length-word}
use Rattle.opgen_design.specs.declared.design.Port.{Port}
use Rattle.opgen_design.specs.Run.{at_ports, is_in}
use Rattle.opgen_lanes.proofs.PortWords.{width-here, widths-split}

at-map : {X Y : Type 0} (f : X → Y) (xs : List X) (i : ℕ) (x : X) → get_or (map f xs) i (f x) ≡ f (get_or xs i x)
at-map f [] i x = refl
at-map f (y ∷ ys) zero x = refl
at-map f (y ∷ ys) (suc i) x = at-map f ys i x

-- the outputs so far, and those that are left
pub record Given (all : List ℕ) (rest : List (List Bool)) (at : ℕ) (outputs : List ℕ) : Type 0 where
  pub whole : take at outputs ++ map nat rest ≡ all
  pub room : at + length rest ≡ length outputs

given-one : (all : List ℕ) (w : List Bool) (rest : List (List Bool)) (at : ℕ) (outputs : List ℕ) → Given all (w ∷ rest) at outputs
    → Given all rest (at + 1) (slice_set outputs at (nat w))
given-one all w rest at outputs h = record {
  whole = ap (λ xs. xs ++ map nat rest) (take_more_set outputs at (nat w) (omega (arith, h.room)))
      ∙ append_assoc (take at outputs) (nat w ∷ []) (map nat rest) ∙ h.whole;
  room = omega (arith, h.room, length-set outputs at (nat w));
}

pub given-step : (b : Bool) (all : List ℕ) (w : List Bool) (rest : List (List Bool)) (at : ℕ) (outputs : List ℕ)
    → Given all (if b then w ∷ rest else rest) at outputs
    → Given all rest (if b then at + 1 else at) (if b then slice_set outputs at (nat w) else outputs)
given-step true all w rest at outputs h = given-one all w rest at outputs h
given-step false all w rest at outputs h = h

pub given-room : (b : Bool) (all : List ℕ) (w : List Bool) (rest : List (List Bool)) (at : ℕ) (outputs : List ℕ)
    → Given all (if b then w ∷ rest else rest) at outputs → b ≡ true → at < length outputs
given-room true all w rest at outputs h e = omega (arith, h.room)
given-room false all w rest at outputs h e = absurd (cc)

pub given-all : (all : List ℕ) (at : ℕ) (outputs : List ℕ) → Given all [] at outputs → outputs ≡ all
given-all all at outputs h =
    let n : at ≡ length outputs = omega (arith, h.room) in
    sym (take-length outputs) ∙ ap (λ k. take k outputs) (sym n) ∙ sym (append-nil (take at outputs)) ∙ h.whole

-- the inputs so far, and those that are left
pub record Taken (all front : List (List Bool)) (widths inputs : List ℕ) : Type 0 where
  pub whole : front ++ words_of widths inputs ≡ all
  pub fit : FitWidths widths inputs

fit-some : (w : ℕ) (ws ns : List ℕ) → FitWidths (w ∷ ws) ns → 1 ≤ length ns
fit-some w ws [] h = absurd h
fit-some w ws (n ∷ ns) h = omega arith

pub taken-room : (b : Bool) (all front : List (List Bool)) (w : ℕ) (ws : List ℕ) (at : ℕ) (inputs : List ℕ)
    → Taken all front (if b then w ∷ ws else ws) (drop at inputs) → b ≡ true → at < length inputs
taken-room true all front w ws at inputs h e = omega (arith, fit-some w ws (drop at inputs) h.fit, length-drop at inputs)
taken-room false all front w ws at inputs h e = absurd (cc)

pub taken-below : (b : Bool) (all front : List (List Bool)) (w : ℕ) (ws : List ℕ) (at : ℕ) (inputs : List ℕ)
    → Taken all front (if b then w ∷ ws else ws) (drop at inputs) → b ≡ true → get_or inputs at 0 < 2 ^ w
taken-below true all front w ws at inputs h e =
    (subst (FitWidths (w ∷ ws)) (drop_more inputs at 0 (taken-room true all front w ws at inputs h e)) h.fit).0
taken-below false all front w ws at inputs h e = absurd (cc)

pub taken-step : (b : Bool) (all front : List (List Bool)) (w : ℕ) (ws : List ℕ) (at : ℕ) (inputs : List ℕ)
    → Taken all front (if b then w ∷ ws else ws) (drop at inputs)
    → Taken all (front ++ (if b then word w (get_or inputs at 0) ∷ [] else [])) ws (drop (if b then at + 1 else at) inputs)
taken-step true all front w ws at inputs h =
    let s = drop_more inputs at 0 (taken-room true all front w ws at inputs h refl) in
    record {
      whole = append_assoc front (word w (get_or inputs at 0) ∷ []) (words_of ws (drop (at + 1) inputs))
          ∙ sym (ap (λ ns. front ++ words_of (w ∷ ws) ns) s) ∙ h.whole;
      fit = (subst (FitWidths (w ∷ ws)) s h.fit).1;
    }
taken-step false all front w ws at inputs h = record
    { whole = ap (λ xs. xs ++ words_of ws (drop at inputs)) (append-nil front) ∙ h.whole; fit = h.fit }

module _ (ps : List Port) (i : ℕ) (p : Port) (m : i < length ps) (e : p ≡ get_or ps i p) where
  abbrev widths : List ℕ
  widths = map (λ p. p.width) ps

  pub taken-now : (all front : List (List Bool)) (ns : List ℕ) → Taken all front (at_ports is_in (drop i ps) (drop i widths)) ns
      → Taken all front (if is_in p.dir then p.width ∷ at_ports is_in (drop (i + 1) ps) (drop (i + 1) widths) else at_ports is_in
      (drop (i + 1) ps) (drop (i + 1) widths)) ns
  taken-now all front ns t = subst (λ ws. Taken all front ws ns) (widths-split ps i p m e is_in) t

  pub widths-stay : (b : Bool) (ws : List (List Bool)) (n : ℕ) → map length ws ≡ widths
      → map length (if b then slice_set ws i (word p.width n) else ws) ≡ widths
  widths-stay true ws n h = map-set_same length ws i (word p.width n) []
      (length-word p.width n ∙ sym (width-here ps i p m e) ∙ ap (λ xs. get_or xs i 0) (sym h) ∙ at-map length ws i []) ∙ h
  widths-stay false ws n h = h
