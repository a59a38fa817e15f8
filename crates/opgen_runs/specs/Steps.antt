-- Steps one after another.
use Rattle.std.specs.Prelude.{List, [], ◌∷◌}

-- steps in order, each from what the step before left
abbrev pub StepsOn : {S I O : Type 0} → (step : S → I → S → O → Type 0) → (now : S) → (inputs : List I) (outputs : List O) → Type 0
StepsOn step now [] [] = Unit {0}
StepsOn {S} step now (given ∷ inputs) (got ∷ outputs) = (next : S) × step now given next got × StepsOn step next inputs outputs
StepsOn step now _ _ = ⊥
