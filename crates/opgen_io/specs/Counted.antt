-- Which counts a call raises, by its answer: each failure that a count shows raises it by one, and nothing else does.
use Rattle.std.specs.Prelude.{◌≡◌, ◌⊎◌, ℕ, Result, Ok, Err}
use Rattle.opgen_io.specs.Counts.{next_count}
use Rattle.opgen_io.specs.declared.folder.FetchFault.{FetchFault}
use Rattle.opgen_io.specs.declared.folder.FetchFault.TheVariants as fetch
use Rattle.opgen_io.specs.declared.folder.StoreFault.{StoreFault}
use Rattle.opgen_io.specs.declared.folder.StoreFault.TheVariants as store
use Rattle.opgen_io.specs.declared.sink.PutFault.{PutFault}
use Rattle.opgen_io.specs.declared.sink.PutFault.TheVariants as put

-- the counts of a folder that a fetch may raise
pub record FetchCounts : Type 0 where
  pub read_faults : ℕ
  pub lacks : ℕ
  pub longs : ℕ

-- the counts of a sink
pub record SinkCounts : Type 0 where
  pub puts : ℕ
  pub faults : ℕ

-- The counts before and after a fetch of this answer. A file that was not read counts once: as a read fault, or as a name that
-- is not there.
abbrev pub CountsFetch : {X : Type 0} → Result X FetchFault → FetchCounts → FetchCounts → Type 0
CountsFetch (Ok _) old new = new ≡ old
CountsFetch (Err fetch.Failed) old new = (new ≡ record old { read_faults = next_count old.read_faults })
    ⊎ (new ≡ record old { lacks = next_count old.lacks })
CountsFetch (Err fetch.TooLong) old new = new ≡ record old { longs = next_count old.longs }
CountsFetch (Err fetch.Memory) old new = new ≡ old

-- the write faults after a store of this answer
abbrev pub store_faults : {X : Type 0} → Result X StoreFault → ℕ → ℕ
store_faults (Ok _) n = n
store_faults (Err store.Failed) n = next_count n
store_faults (Err store.Memory) n = n

-- the faults of a sink after a put of this answer
abbrev pub put_faults : {X : Type 0} → Result X PutFault → ℕ → ℕ
put_faults (Ok _) n = n
put_faults (Err put.Failed) n = next_count n
put_faults (Err put.Memory) n = n
