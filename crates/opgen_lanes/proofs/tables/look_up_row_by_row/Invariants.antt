use Rattle.std.proofs.Common.{ℕ, ◌≡◌, ◌<◌, ◌-◌, drop, length}
use Rattle.opgen_runs.specs.Evaluate.{table_word}
use Rattle.opgen_streams.specs.Streams.{streams, word_in}
use Rattle.opgen_lanes.proofs.tables.look_up_row_by_row.Given as goal

abbrev pub invariant-loop-past : goal.invariant-loop-past
invariant-loop-past l = (k : ℕ) → k < streams → word_in l.out k ≡ table_word (drop (length l.rows - l.past) l.rows) l.fn.other (word_in l.address k)
