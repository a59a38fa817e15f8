-- The error counts of the folder on disk.
use Rattle.std.specs.Prelude.{ℕ}
use Rattle.opgen_io.specs.Counts.{next_count}
use Rattle.opgen_io.specs.declared.folder.FetchFault.{FetchFault}
use Rattle.opgen_io.specs.declared.folder.FetchFault.TheVariants.{Failed, TooLong, Memory}

-- how many reads have failed, how many files were too long, and how many writes have failed
pub record DiskCounts : Type 0 where
  pub read_faults : ℕ
  pub longs : ℕ
  pub write_faults : ℕ

-- the counts after a fetch that failed so
abbrev pub after_fault : FetchFault → DiskCounts → DiskCounts
after_fault Failed s = record s { read_faults = next_count s.read_faults }
after_fault TooLong s = record s { longs = next_count s.longs }
after_fault Memory s = s
