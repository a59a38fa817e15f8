-- The statuses of the program.
use Rattle.std.specs.Prelude.{ℕ, ◌≡◌, ◌⊎◌}
use Rattle.opgen_io.specs.Counts.{Rose}

-- a status of a refusal: the specification, the words, the read, the VHDL, the vectors, a row or the length
abbrev pub Refuses : ℕ → Type 0
Refuses status = (status ≡ 1) ⊎ ((status ≡ 2) ⊎ ((status ≡ 3) ⊎ ((status ≡ 6) ⊎ ((status ≡ 7) ⊎ ((status ≡ 8) ⊎ (status ≡ 9))))))

-- a status that comes with a line
abbrev pub ComesWithLine : ℕ → Type 0
ComesWithLine status = (status ≡ 0) ⊎ Refuses status

-- the status of a write fault, or of running out of memory
abbrev pub IsSilent : ℕ → Type 0
IsSilent status = (status ≡ 4) ⊎ (status ≡ 5)

-- one of the statuses that the program has
abbrev pub IsStatus : ℕ → Type 0
IsStatus status = ComesWithLine status ⊎ IsSilent status

-- a status other than 3, 4 and 5: what is due, whatever the folder counted
abbrev pub IsDueStatus : ℕ → Type 0
IsDueStatus status = (status ≡ 0) ⊎ ((status ≡ 1) ⊎ ((status ≡ 2) ⊎ ((status ≡ 6) ⊎ ((status ≡ 7) ⊎ ((status ≡ 8) ⊎ (status ≡ 9))))))

-- the status whose line was put; or 4, where the sink counted a fault; or 5
abbrev pub TellsOr : (status before now result : ℕ) → Type 0
TellsOr status before now result = (result ≡ status) ⊎ (((result ≡ 4) × Rose before now) ⊎ (result ≡ 5))
