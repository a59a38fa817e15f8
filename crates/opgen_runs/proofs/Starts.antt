-- The words before the first cycle.
use Rattle.std.proofs.Common.{◌≡◌, ℕ, zero, suc, Bool, List, [], ◌∷◌, length, map, true, false, if◌then◌else◌, Option, Some, None, refl, ap, ◌∙◌, subst, arith}
use Rattle.std.specs.Prelude.{IsSome, IfSome, slice_get, unwrap_or}
use Rattle.opgen_num.specs.Words.{word}
use Rattle.opgen_num.specs.WordLaws.{length-word}
use Rattle.opgen_design.specs.declared.design.Design.{Design}
use Rattle.opgen_design.specs.declared.design.Dir.{Dir}
use Rattle.opgen_design.specs.declared.design.Driver.TheVariants.{Register}
use Rattle.opgen_design.specs.declared.design.Port.{Port}
use Rattle.opgen_design.specs.declared.design.Signal.{Signal}
use Rattle.opgen_design.specs.Run.{at_ports, initial_words}
use Rattle.opgen_design.specs.declared.sound.Rule.TheVariants.{Width, NoInitial}
use Rattle.opgen_design.specs.Sound.{IsSound, IsSignalWide, SignalPasses, signal_widths, at_signal}
use Rattle.opgen_design.specs.Value.{word_at}
use Rattle.opgen_design.proofs.SoundLaws.{at-contains}
use Rattle.opgen_runs.specs.Registers.{SameRegisters}

abbrev pub start : Signal → List Bool
start s = unwrap_or s.initial (word s.width 0)

pub start-length : (o : Option (List Bool)) (w : ℕ) → IfSome o (λ x. length x ≡ w) → length (unwrap_or o (word w 0)) ≡ w
start-length None w h = length-word w 0
start-length (Some x) w h = h

starts : (ss : List Signal) → ((i : ℕ) (s : Signal) → slice_get ss i ≡ Some s → IsSignalWide s) → map length (map start ss)
    ≡ map (λ s. s.width) ss
starts [] h = refl
starts (s ∷ ss) h =
    ap (λ n. n ∷ map length (map start ss)) (start-length s.initial s.width (h 0 s refl).1)
    ∙ ap (λ ns. s.width ∷ ns) (starts ss (λ i q e. h (suc i) q e))

pub zeros-widths : (ps : List Port) → map length (map (λ p. word p.width 0) ps) ≡ map (λ p. p.width) ps
zeros-widths [] = refl
zeros-widths (p ∷ ps) = ap (λ n. n ∷ map length (map (λ p. word p.width 0) ps)) (length-word p.width 0)
    ∙ ap (λ ns. p.width ∷ ns) (zeros-widths ps)

same-unwrap : (o : Option (List Bool)) (a b : List Bool) → IsSome o → unwrap_or o a ≡ unwrap_or o b
same-unwrap None a b h = absurd (cc)
same-unwrap (Some x) a b h = refl

same-start : (ss : List Signal) (i : ℕ) → ((s : Signal) → slice_get ss i ≡ Some s → IsSome s.initial) → word_at (map start ss) i
    ≡ word_at (map (λ s. unwrap_or s.initial []) ss) i
same-start [] i h = refl
same-start (s ∷ ss) zero h = same-unwrap s.initial (word s.width 0) [] (h s refl)
same-start (s ∷ ss) (suc i) h = same-start ss i h

module _ (d : Design) (sound : IsSound d) where
  pub wide-at : (i : ℕ) (s : Signal) → slice_get d.signals i ≡ Some s → IsSignalWide s
  wide-at i s e = subst (λ o. IfSome o (SignalPasses d Width i)) e (sound.widths (at_signal i))

  pub starts-widths : map length (map start d.signals) ≡ signal_widths d
  starts-widths = starts d.signals wide-at

  pub starts-registers : SameRegisters d (map start d.signals) (initial_words d.signals)
  starts-registers i to e g = same-start d.signals to
      (λ s h. (subst (λ o. IfSome o (SignalPasses d NoInitial to)) h (sound.initials (at_signal to))) (Register to e)
      (at-contains d.drivers i (Register to e) g) refl)

same-count : (b : Bool) {X Y : Type 0} (x : X) (y : Y) (xs : List X) (ys : List Y) → length xs ≡ length ys
    → length (if b then x ∷ xs else xs) ≡ length (if b then y ∷ ys else ys)
same-count true x y xs ys e = omega (arith, e)
same-count false x y xs ys e = e

pub at_ports-length : {X Y : Type 0} (is : Dir → Bool) (ps : List Port) (xs : List X) (ys : List Y) → length xs ≡ length ys
    → length (at_ports is ps xs) ≡ length (at_ports is ps ys)
at_ports-length is [] xs ys l = refl
at_ports-length is (p ∷ ps) [] [] l = refl
at_ports-length is (p ∷ ps) [] (y ∷ ys) l = absurd (omega (arith, l))
at_ports-length is (p ∷ ps) (x ∷ xs) [] l = absurd (omega (arith, l))
at_ports-length is (p ∷ ps) (x ∷ xs) (y ∷ ys) l = same-count (is p.dir) x y (at_ports is ps xs) (at_ports is ps ys)
    (at_ports-length is ps xs ys (omega (arith, l)))
