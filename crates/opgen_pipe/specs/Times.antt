-- Whole numbers as times, counted back from a cycle.
use Rattle.std.specs.Prelude.{ℕ, zero, suc, ℤ, pos}
use Rattle.opgen_net.specs.Flow.{before}

-- the time so many cycles before a cycle
abbrev pub ago : (cycle back : ℕ) → ℤ
ago u zero = pos u
ago u (suc k) = before (ago u k)
