-- The registers' next words.
use Rattle.std.proofs.Common.{◌≡◌, ℕ, zero, suc, ◌<◌, Bool, List, [], ◌∷◌, length, map, get_or, Option, Some, None, refl, sym, ap, ◌∙◌, arith}
use Rattle.std.specs.Prelude.{◌≢◌, IfSome, slice_get}
use Rattle.std.proofs.Math.ListN.{get_or-map}
use Rattle.std.proofs.Math.Seq.{map-set_same}
use Rattle.std.proofs.lemmas.List.{length-set, get_or-set_same, get_or-set_other}
use Rattle.opgen_design.specs.declared.design.Design.{Design}
use Rattle.opgen_design.specs.declared.design.Driver.{Driver}
use Rattle.opgen_design.specs.declared.design.Driver.TheVariants.{Assign, Choice, Table, Register, Output}
use Rattle.opgen_design.specs.Run.{Words, scope, moved}
use Rattle.opgen_design.specs.declared.design.Target.TheVariants.{Signal as signal}
use Rattle.opgen_design.specs.Sound.{IsSound, WidthsAgree, target, signal_widths, at_design}
use Rattle.opgen_design.specs.Tree.{Tree}
use Rattle.opgen_design.specs.Value.{value, word_at}
use Rattle.opgen_design.proofs.ValueLaws.{length-chosen}
use Rattle.opgen_runs.specs.Evaluate.{HaveWidths, hand_on, hand_all_on}
use Rattle.opgen_runs.proofs.Widths.{word-length}

module _ (enable : Option ℕ) where
  -- what a register holds next
  abbrev pub held_next : Words → (to : ℕ) → Tree → List Bool
  held_next v to e = moved enable v (value (scope v) e) (word_at v.signals to)

  length-hand_on : (k : Driver) (v : Words) (next : List (List Bool)) → length (hand_on enable k v next) ≡ length next
  length-hand_on (Assign to e) v next = refl
  length-hand_on (Choice to on one other) v next = refl
  length-hand_on (Table to on rows other) v next = refl
  length-hand_on (Register to e) v next = length-set next to (held_next v to e)
  length-hand_on (Output place e) v next = refl

  hand_on-other : (k : Driver) (r : ℕ) (v : Words) (next : List (List Bool)) → target k ≢ signal r → word_at (hand_on enable k v next) r
      ≡ word_at next r
  hand_on-other (Assign to e) r v next n = refl
  hand_on-other (Choice to on one other) r v next n = refl
  hand_on-other (Table to on rows other) r v next n = refl
  hand_on-other (Register to e) r v next n = get_or-set_other next to r (held_next v to e) [] (λ x. n (ap signal (sym x)))
  hand_on-other (Output place e) r v next n = refl

  others : (ks : List Driver) (r : ℕ) (v : Words) (next : List (List Bool))
      → ((j : ℕ) (m : Driver) → slice_get ks j ≡ Some m → target m ≢ signal r) → word_at (hand_all_on enable ks v next) r ≡ word_at next r
  others [] r v next f = refl
  others (k ∷ ks) r v next f = others ks r v (hand_on enable k v next) (λ j m e. f (suc j) m e) ∙ hand_on-other k r v next (f 0 k refl)

  pub handed : (ks : List Driver) (i to : ℕ) (e : Tree) (v : Words) (next : List (List Bool)) → slice_get ks i ≡ Some (Register to e)
      → ((j : ℕ) (m : Driver) → i < j → slice_get ks j ≡ Some m → target m ≢ signal to) → to < length next
      → word_at (hand_all_on enable ks v next) to ≡ held_next v to e
  handed [] i to e v next h f l = absurd (cc)
  handed (k ∷ ks) zero to e v next h f l =
      let same : k ≡ Register to e = cc in
      others ks to v (hand_on enable k v next) (λ j m x. f (suc j) m (omega arith) x)
      ∙ ap (λ x. word_at (hand_on enable x v next) to) same
      ∙ get_or-set_same next to (held_next v to e) [] l
  handed (k ∷ ks) (suc i) to e v next h f l = handed ks i to e v (hand_on enable k v next) h (λ j m y x. f (suc j) m (omega (arith, y)) x)
      (omega (arith, l, length-hand_on k v next))

moved-length : (enable : Option ℕ) (v : Words) (new held : List Bool) (w : ℕ) → length new ≡ w → length held ≡ w
    → length (moved enable v new held) ≡ w
moved-length None v new held w h k = h
moved-length (Some port) v new held w h k = length-chosen (word_at v.ports port) new held w h k

-- the widths stay
module _ (d : Design) (sound : IsSound d) (v : Words) (h : HaveWidths d v) where
  held-length : (to : ℕ) → length (word_at v.signals to) ≡ get_or (signal_widths d) to 0
  held-length to = sym (ap (λ ws. get_or ws to 0) (sym h.signals) ∙ get_or-map length v.signals to [])

  pub hand_on-widths : (k : Driver) (next : List (List Bool)) → WidthsAgree d k → map length next ≡ signal_widths d
      → map length (hand_on d.enable k v next) ≡ signal_widths d
  hand_on-widths (Assign to e) next a n = n
  hand_on-widths (Choice to on one other) next a n = n
  hand_on-widths (Table to on rows other) next a n = n
  hand_on-widths (Register to e) next a n =
      let long = moved-length d.enable v (value (scope v) e) (word_at v.signals to) (get_or (signal_widths d) to 0)
      (word-length d sound v h (Register to e) a) (held-length to) in
      map-set_same length next to (held_next d.enable v to e) [] (long ∙ ap (λ ws. get_or ws to 0) (sym n) ∙ get_or-map length next to [])
      ∙ n
  hand_on-widths (Output place e) next a n = n

-- the enable names a port
pub enable-there : (d : Design) → IsSound d → IfSome d.enable (λ p. p < length d.ports)
enable-there d sound = sound.declared at_design
