-- How many puts a run makes.
use Rattle.std.proofs.Common.{◌≡◌, inl, inr, ℕ, refl, arith}
use Rattle.opgen_io.specs.Counts.{next_count, Rose, Stood}
use Rattle.opgen_top.specs.Printed.{IsOnePut}
use Rattle.opgen_top.specs.Statuses.{IsSilent}
use Rattle.opgen_top.proofs.Parts.{not_silent}

-- a count that rose did not stand
pub rose_stood : (before now : ℕ) → Rose before now → Stood before now → ⊥
rose_stood before now rose stood = omega (arith, rose, stood)

-- no put was made: the status is 4 after a store that failed, or 5
pub no_put : (status : ℕ) (stored no_fault : Type 0) (puts : ℕ) → IsSilent status → (status ≡ 4 → stored → ⊥)
    → IsOnePut status stored no_fault puts puts
no_put status stored no_fault puts silent failed = record {
  at_most = inl refl;
  line = λ has. absurd (not_silent status has silent);
  refused = λ four all. absurd (failed four all);
  unstored = λ four none. refl;
}

-- the line was put: the status is 4 only where the sink counted a fault
pub line_put : (status : ℕ) (stored no_fault : Type 0) (before now : ℕ) → now ≡ next_count before → (no_fault → status ≡ 4 → ⊥)
    → IsOnePut status stored no_fault before now
line_put status stored no_fault before now more silent = record {
  at_most = inr more;
  line = λ has. more;
  refused = λ four all. more;
  unstored = λ four none. absurd (silent none four);
}
