-- A sound design has one run over each list of inputs.
use Rattle.std.proofs.Common.{◌≡◌, ℕ, Bool, zero, suc, ◌<◌, List, [], ◌∷◌, refl, sym, ap, ◌∙◌, arith}
use Rattle.opgen_design.specs.declared.design.Design.{Design}
use Rattle.opgen_design.specs.declared.design.Driver.TheVariants.{Register}
use Rattle.opgen_design.specs.Run.{Words, scope, moved, Cycle, RunsOn, initial_words}
use Rattle.opgen_design.specs.Sound.{IsSound}
use Rattle.opgen_design.specs.Value.{value, word_at}
use Rattle.opgen_runs.specs.Registers.{SameRegisters}
use Rattle.opgen_runs.specs.OneRun.{HasOneRun}
use Rattle.opgen_runs.proofs.HasRun.{a-run}
use Rattle.opgen_runs.proofs.TwoCycles.{signal-one, words-one, meets}

module _ (d : Design) (sound : IsSound d) (now others given : List (List Bool)) (registers : SameRegisters d now others) (v u : Words)
    (next after : List (List Bool)) (h : Cycle d now given v next) (k : Cycle d others given u after) where
  abbrev Below : ℕ → ℕ → Type 0
  Below n r = sound.ordered.0 r < n

  signals-below : (n r : ℕ) → Below n r → word_at v.signals r ≡ word_at u.signals r
  signals-below zero r l = absurd (omega (arith, l))
  signals-below (suc n) r l =
      signal-one d sound now others given v u next after h k (Below n) (signals-below n) r
      (λ x c t q z. omega (arith, l, sound.ordered.1 r q x c t z)) (λ i e g. registers i r e g)

  signals-one : (r : ℕ) → word_at v.signals r ≡ word_at u.signals r
  signals-one r = signals-below (suc (sound.ordered.0 r)) r (omega arith)

  pub words-same : v ≡ u
  words-same = words-one d sound now others given v u next after h k signals-one

  pub next-one : SameRegisters d next after
  next-one i to e g =
      (meets h i (Register to e) g).1
      ∙ ap (λ y. moved d.enable y (value (scope y) e) (word_at now to)) words-same
      ∙ ap (moved d.enable u (value (scope u) e)) (registers i to e g)
      ∙ sym (meets k i (Register to e) g).1

pub runs-one : (d : Design) → IsSound d → (inputs : List (List (List Bool))) (now others : List (List Bool)) → SameRegisters d now others
    → (vs us : List Words) → RunsOn d now inputs vs → RunsOn d others inputs us → vs ≡ us
runs-one d sound [] now others same [] [] h k = refl
runs-one d sound [] now others same [] (u ∷ us) h k = absurd k
runs-one d sound [] now others same (v ∷ vs) us h k = absurd h
runs-one d sound (g ∷ gs) now others same [] us h k = absurd h
runs-one d sound (g ∷ gs) now others same (v ∷ vs) [] h k = absurd k
runs-one d sound (g ∷ gs) now others same (v ∷ vs) (u ∷ us) h k =
    ap (λ x. x ∷ vs) (words-same d sound now others g same v u h.0 k.0 h.1 k.1)
    ∙ ap (λ xs. u ∷ xs) (runs-one d sound gs h.0 k.0 (next-one d sound now others g same v u h.0 k.0 h.1 k.1) vs us h.2 k.2)

pub one-run : HasOneRun
one-run d sound inputs words =
    let r = a-run d sound inputs words in
    let start = initial_words d.signals in
    (r.0, record { run = r.1; no_other = λ us h. runs-one d sound inputs start start (λ i to e g. refl) us r.0 h r.1 })
