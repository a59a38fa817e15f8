-- What holds after one more step was put, where memory did not run out.
use Rattle.std.proofs.Common.{◌≡◌, ℕ, List, [], ◌∷◌, ◌++◌, Result, Ok, Err, sym, ap, ◌∙◌, subst}
use Rattle.std.specs.Prelude.{IfOk, OnOk}
use Rattle.opgen_machine.specs.declared.step.Step.{Step}
use Rattle.opgen_machine.specs.declared.step.Spot.{Spot}

pub put-gives : {E : Type 0} (r : Result Spot E) (P : List Step → Spot → Type 0) (old new : List Step) (step step' : Step)
    (place w w' : ℕ) → OnOk r (new ≡ old ++ step ∷ []) → IfOk r (λ s. s ≡ record { place = place; width = w })
    → step ≡ step' → w ≡ w' → P (old ++ step' ∷ []) (record { place = place; width = w' }) → IfOk r (λ s. P new s)
put-gives (Ok s) P old new step step' place w w' h k e f p =
    let list : new ≡ old ++ step' ∷ [] = h ∙ ap (λ x. old ++ x ∷ []) e in
    let spot : s ≡ record { place = place; width = w' } = k ∙ ap (λ x. record { place = place; width = x }) f in
    subst (λ l. P l s) (sym list) (subst (P (old ++ step' ∷ [])) (sym spot) p)
put-gives (Err e') P old new step step' place w w' h k e f p = tt
