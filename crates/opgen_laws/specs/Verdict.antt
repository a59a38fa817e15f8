-- The verdict on a design: it is sound, or it has a first rule that fails.
use Rattle.std.specs.Prelude.{ℕ, ◌⊎◌}
use Rattle.opgen_design.specs.declared.design.Design.{Design}
use Rattle.opgen_design.specs.declared.sound.Rule.{Rule}
use Rattle.opgen_design.specs.Sound.{IsSound, IsFirstUnsound}

-- it is sound, or a rule is the first that fails, with the number of the first place at which it does
abbrev pub IsSoundOrFails : Design → Type 0
IsSoundOrFails d = IsSound d ⊎ ((rule : Rule) × (number : ℕ) × IsFirstUnsound d rule number)

-- that neither holds of a design is impossible
abbrev pub EachIsSoundOrFails : Type 0
EachIsSoundOrFails = (d : Design) → (IsSoundOrFails d → ⊥) → ⊥
