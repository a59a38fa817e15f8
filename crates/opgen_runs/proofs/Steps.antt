-- Steps that are cycles of a design are, one after another, its run.
use Rattle.std.proofs.Common.{◌≡◌, Bool, List, [], ◌∷◌, map, refl, ap, ◌∙◌}
use Rattle.opgen_design.specs.declared.design.Design.{Design}
use Rattle.opgen_design.specs.Run.{Words, Cycle, RunsOn}
use Rattle.opgen_runs.specs.Registers.{SameRegisters}
use Rattle.opgen_runs.specs.Steps.{StepsOn}
use Rattle.opgen_runs.proofs.Kept.{cycle-kept}

-- by the registers' words in what a step is from, the words given to it, and what its cycle and its outputs show
module _ {S I O X : Type 0} (d : Design) (step : S → I → S → O → Type 0) (registers : S → List (List Bool)) (given : I → List (List Bool))
    (seen : Words → X) (shown : O → X)
    (cycle : (now : S) (i : I) (next : S) (o : O) → step now i next o
    → (v : Words) × Cycle d (registers now) (given i) v (registers next) × (seen v ≡ shown o)) where
  pub steps-run : (now : S) (others : List (List Bool)) (inputs : List I) (outputs : List O) → SameRegisters d (registers now) others
      → StepsOn step now inputs outputs
      → (vs : List Words) × RunsOn d others (map given inputs) vs × (map seen vs ≡ map shown outputs)
  steps-run now others [] [] same h = ([], tt, refl)
  steps-run now others [] (o ∷ os) same h = absurd h
  steps-run now others (i ∷ is) [] same h = absurd h
  steps-run now others (i ∷ is) (o ∷ os) same h =
      let here = cycle now i h.0 o h.1 in
      let more = steps-run h.0 (registers h.0) is os (λ i to e g. refl) h.2 in (
        here.0 ∷ more.0,
        (registers h.0, cycle-kept d (registers now) others same (given i) here.0 (registers h.0) here.1, more.1),
        ap (λ x. x ∷ map seen more.0) here.2 ∙ ap (λ xs. shown o ∷ xs) more.2,
      )
