-- How many cycles of a workload are good.
use Rattle.std.specs.Prelude.{ℕ, ◌≡◌, ◌≤◌, ◌-◌}
use Rattle.opgen_target.specs.Delays.{Delays}
use Rattle.opgen_top.specs.Answer.{Answer}
use Rattle.opgen_top.specs.Workload.{IsWorked, cycles}

-- all cycles from the latency on are good
abbrev pub WorkloadsAreGood : Type 0
WorkloadsAreGood = (n : ℕ) → 1 ≤ n → n ≤ 32 → (table : Delays) (a : Answer) (w : IsWorked n table a) → w.good ≡ cycles - w.planned.latency
