-- The limits that each version of specifications sets to inputs and signals.
use Rattle.std.specs.Prelude.{ℕ, ◌≡◌, ◌⊎◌, ◌==◌, if◌then◌else◌}
use Rattle.opgen_num.specs.declared.format.TheConstants.{MAX_INPUT, MAX_WIDTH}

-- there are four versions
abbrev pub IsVersion : ℕ → Type 0
IsVersion version = (version ≡ 1) ⊎ ((version ≡ 2) ⊎ ((version ≡ 3) ⊎ (version ≡ 4)))

-- Where a number is no version the limits are those of versions 2 to 4. No answer hangs on them: such a version is a fault that
-- comes before all that have limits.

-- the most bits of an input
abbrev pub most_input : (version : ℕ) → ℕ
most_input version = if version == 1 then 32 else MAX_INPUT

-- the most bits of a signal, guard bits and shift included
abbrev pub most_signal : (version : ℕ) → ℕ
most_signal version = if version == 1 then 64 else MAX_WIDTH
