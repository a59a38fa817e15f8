-- A folder and a sink in memory as contracts see them.
use Rattle.std.specs.Prelude.{ℕ, Bool, List, [], ◌∷◌, ◌++◌, None, Result, Ok, Err, String, Vec, string_bytes, map}
use Rattle.std.specs.Str.{bytes_eq}
use Rattle.std.specs.declared.alloc.Global.{Global}
use Rattle.opgen_io.specs.declared.folder.FetchFault.{FetchFault}
use Rattle.opgen_io.specs.declared.folder.FetchFault.TheVariants.{Failed, TooLong, Memory}
use Rattle.opgen_io.specs.Counted.{FetchCounts}
use Rattle.opgen_io.specs.Counts.{next_count, is_listed}
use Rattle.opgen_io.specs.Files.{Files, stored}

-- a file: its name and its bytes
abbrev pub File : Type 0
File = List ℕ × List ℕ

-- a folder: its files as listed, the numbers of the calls that fail, the number of the next call, and the counts
pub record FolderState : Type 0 where
  pub files : List File
  pub failing : List ℕ
  pub calls : ℕ
  pub read_faults : ℕ
  pub lacks : ℕ
  pub longs : ℕ
  pub write_faults : ℕ

-- a folder before any call
abbrev pub new_folder : List File → (failing : List ℕ) → FolderState
new_folder files failing =
    record { files = files; failing = failing; calls = 0; read_faults = 0; lacks = 0; longs = 0; write_faults = 0 }

-- a sink: the bytes taken, the numbers of the calls that fail, the number of the next call, and the count
pub record SinkState : Type 0 where
  pub bytes : List ℕ
  pub failing : List ℕ
  pub calls : ℕ
  pub faults : ℕ

-- the counts of the folder that a fetch may raise
abbrev pub fetch_counts : FolderState → FetchCounts
fetch_counts s = record { read_faults = s.read_faults; lacks = s.lacks; longs = s.longs }

-- whether the next call of the folder is one that fails
abbrev pub folder_fails : FolderState → Bool
folder_fails s = is_listed s.calls s.failing

-- whether the next call of the sink is one that fails
abbrev pub sink_fails : SinkState → Bool
sink_fails s = is_listed s.calls s.failing

-- the folder after a call that changed no file and no other count
abbrev pub called : FolderState → FolderState
called s = record s { calls = next_count s.calls }

-- the folder after a fetch that was made to fail
abbrev pub read_failed : FolderState → FolderState
read_failed s = record s { calls = next_count s.calls; read_faults = next_count s.read_faults }

-- the folder after a store that was made to fail
abbrev pub write_failed : FolderState → FolderState
write_failed s = record s { calls = next_count s.calls; write_faults = next_count s.write_faults }

-- the folder after a fetch of this answer
abbrev pub after_fetch : Result (List ℕ) FetchFault → FolderState → FolderState
after_fetch (Ok bytes) s = called s
after_fetch (Err Failed) s = record s { calls = next_count s.calls; lacks = next_count s.lacks }
after_fetch (Err TooLong) s = record s { calls = next_count s.calls; longs = next_count s.longs }
after_fetch (Err Memory) s = called s

-- the folder after a store that left these files
abbrev pub after_store : List File → FolderState → FolderState
after_store files s = record s { files = files; calls = next_count s.calls }

-- the sink after a put that took these bytes
abbrev pub after_put : List ℕ → SinkState → SinkState
after_put bytes s = record s { bytes = s.bytes ++ bytes; calls = next_count s.calls }

-- the sink after a put that was made to fail
abbrev pub put_failed : SinkState → SinkState
put_failed s = record s { calls = next_count s.calls; faults = next_count s.faults }

-- the listed files by name: each counts before those listed after it
abbrev pub found : List File → Files
found [] = λ _. None
found (file ∷ files) = stored file.0 file.1 (found files)

-- a file as the program holds it
abbrev pub Pair : Type 0
Pair = String Global × Vec ℕ Global

-- the name and the bytes of a pair
abbrev pub file_of : Pair → File
file_of pair = (string_bytes pair.0, pair.1.items)

abbrev pub files_of : List Pair → List File
files_of = map file_of

-- whether the pair is of that name
abbrev pub is_named : List ℕ → Pair → Bool
is_named name pair = bytes_eq name (string_bytes pair.0)
