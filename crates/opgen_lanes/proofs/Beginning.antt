-- The words before the first cycle.
use Rattle.std.proofs.Common.{◌≡◌, ℕ, zero, suc, ◌+◌, ◌<◌, ◌≤◌, Bool, List, [], ◌∷◌, ◌++◌, length, map, take, get_or, All, Some, refl, sym, ap, ◌∙◌, subst, arith}
use Rattle.std.specs.Prelude.{IfSome, slice_get, slice_set}
use Rattle.std.proofs.lemmas.List.{map-append, take_all, take_more, take_more_set}
use Rattle.std.proofs.lemmas.Option.{slice_get-get_or}
use Rattle.opgen_runs.proofs.Starts.{start-length}
use Rattle.opgen_num.specs.declared.format.TheConstants.{MAX_WIDTH}
use Rattle.opgen_design.specs.declared.design.Design.{Design}
use Rattle.opgen_design.specs.declared.design.Port.{Port}
use Rattle.opgen_design.specs.declared.design.Signal.{Signal}
use Rattle.opgen_design.specs.declared.sound.Rule.TheVariants.{Width}
use Rattle.opgen_design.specs.Sound.{IsSound, IsSignalWide, PortPasses, at_port}
use Rattle.opgen_design.specs.Value.{IsWidth}
use Rattle.opgen_runs.proofs.Starts.{start, wide-at}

-- one more of a list, each by a function
pub listed : {X Y : Type 0} (f : X → Y) (xs : List X) (i : ℕ) (x : X) → i < length xs → x ≡ get_or xs i x
    → map f (take i xs) ++ f x ∷ [] ≡ map f (take (i + 1) xs)
listed f xs i x l e = ap (λ y. map f (take i xs) ++ f y ∷ []) e
    ∙ sym (ap (map f) (take_more xs i x l) ∙ map-append f (take i xs) (get_or xs i x ∷ []))

narrow-at : (w : ℕ) (ws : List ℕ) → w ≤ MAX_WIDTH → All (λ w. w ≤ MAX_WIDTH) ws → (k d : ℕ) → k < suc (length ws)
    → get_or (w ∷ ws) k d ≤ MAX_WIDTH
narrow-at w ws l h zero d m = l
narrow-at w ws l h (suc k) d m = h k d (omega (arith, m))

narrow-more : (w : ℕ) (ws : List ℕ) → w ≤ MAX_WIDTH → All (λ w. w ≤ MAX_WIDTH) ws → All (λ w. w ≤ MAX_WIDTH) (w ∷ ws)
narrow-more w ws l h = λ k d m. narrow-at w ws l h k d m

pub narrow-signals : (ss : List Signal) → All IsSignalWide ss → All (λ w. w ≤ MAX_WIDTH) (map (λ s. s.width) ss)
narrow-signals [] h = λ k d l. absurd (omega (arith, l))
narrow-signals (s ∷ ss) h = narrow-more s.width (map (λ s. s.width) ss) (h 0 s (omega arith)).0.1
    (narrow-signals ss (λ i x m. h (suc i) x (omega (arith, m))))

-- an initial word is as wide as its signal
pub record IsNarrow (w : List Bool) (width : ℕ) : Type 0 where
  pub same : length w ≡ width
  pub narrow : width ≤ MAX_WIDTH

pub initial-narrow : (s : Signal) → IsSignalWide s → (w : List Bool) → w ≡ start s → IsNarrow w s.width
initial-narrow s wide w f = record { same = ap length f ∙ start-length s.initial s.width wide.1; narrow = wide.0.1 }

pub one-more : (ss : List Signal) (ws : List (List Bool)) (i : ℕ) (s : Signal) → i < length ss → s ≡ get_or ss i s
    → i < length ws → take i ws ≡ map start (take i ss)
    → take (i + 1) (slice_set ws i (start s)) ≡ map start (take (i + 1) ss)
one-more ss ws i s m e l h =
    take_more_set ws i (start s) l
    ∙ ap (λ xs. xs ++ start s ∷ []) h
    ∙ listed start ss i s m e

pub all-begun : (ss : List Signal) (ws : List (List Bool)) (i : ℕ) → length ss ≤ i → length ws ≡ length ss
    → take i ws ≡ map start (take i ss) → ws ≡ map start ss
all-begun ss ws i l n h = sym (take_all i ws (omega (arith, l, n))) ∙ h ∙ ap (map start) (take_all i ss l)

pub signals-wide : (d : Design) → IsSound d → All IsSignalWide d.signals
signals-wide d sound = λ i s l. wide-at d sound i (get_or d.signals i s) (slice_get-get_or d.signals i s l)

ports-narrow-from : (ps : List Port) → ((i : ℕ) (p : Port) → slice_get ps i ≡ Some p → IsWidth p.width)
    → All (λ w. w ≤ MAX_WIDTH) (map (λ p. p.width) ps)
ports-narrow-from [] h = λ k d l. absurd (omega (arith, l))
ports-narrow-from (p ∷ ps) h = narrow-more p.width (map (λ p. p.width) ps) (h 0 p refl).1
    (ports-narrow-from ps (λ i q e. h (suc i) q e))

pub ports-narrow : (d : Design) → IsSound d → All (λ w. w ≤ MAX_WIDTH) (map (λ p. p.width) d.ports)
ports-narrow d sound = ports-narrow-from d.ports (λ i p e. subst (λ o. IfSome o (PortPasses d Width i)) e (sound.widths (at_port i)))
