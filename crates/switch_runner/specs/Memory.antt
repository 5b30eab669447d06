-- Files and output in memory.
use Rattle.std.specs.Prelude.{◌+◌, ◌-◌, ◌^◌, ◌==◌, ℕ, min, List, [], ◌++◌, length, take, Bool, Result, Ok, Err, Some, None, is_some, if◌then◌else◌, slice_index_or}
use Rattle.std.specs.List.{position, position_or_len, list_any}
use Rattle.std.specs.Str.{bytes_eq}
use Rattle.switch_runner.specs.Outside.{StoreView, SinkView}
use Rattle.switch_runner.specs.declared.outside.StoreFault.{StoreFault}
use Rattle.switch_runner.specs.declared.outside.StoreFault.TheVariants.{Failed}

-- a named list of bytes, and how often a read of it has failed
pub record NamedFile : Type 0 where
  pub name : List ℕ
  pub bytes : List ℕ
  pub faults : ℕ

-- the file has this name
abbrev pub named : List ℕ → NamedFile → Bool
named name file = bytes_eq file.name name

-- a file that isn't listed: it is empty
abbrev pub absent : NamedFile
absent = record { name = []; bytes = []; faults = 0 }

-- the first file of a name
abbrev pub file_of : List NamedFile → List ℕ → NamedFile
file_of files name = slice_index_or files (position_or_len (named name) files) absent

-- how many reads of a name have failed
abbrev pub faults_of : List NamedFile → List ℕ → ℕ
faults_of files name = (file_of files name).faults

-- what is seen of files in memory
abbrev pub files_seen : List NamedFile → StoreView
files_seen files = record { told = λ name. Some (file_of files name).bytes; faults = faults_of files }

-- what is seen of files in memory whose reads never fail
abbrev pub sure_seen : List NamedFile → StoreView
sure_seen files = record { told = λ name. Some (file_of files name).bytes; faults = λ name. 0 }

-- what is seen of files of which the counts alone are kept
abbrev pub counts_seen : List NamedFile → StoreView
counts_seen files = record { told = λ name. None; faults = faults_of files }

-- what is seen of a sink that tells nothing of what it took
abbrev pub untold_seen : ℕ → SinkView
untold_seen faults = record { taken = None; faults = faults }

-- what a store of files in memory holds: the files, the most bytes that one read gives, the numbers of the
-- reads that fail, and how many reads of listed names there were
pub record Shelf : Type 0 where
  pub files : List NamedFile
  pub most : ℕ
  pub fails : List ℕ
  pub reads : ℕ

-- what a sink in memory holds: the bytes taken, the most bytes that one write takes, the numbers of the writes
-- that fail, how many writes there were, and how many of them failed
pub record Basin : Type 0 where
  pub bytes : List ℕ
  pub most : ℕ
  pub fails : List ℕ
  pub writes : ℕ
  pub faults : ℕ

-- what is seen of a sink in memory
abbrev pub basin_seen : Basin → SinkView
basin_seen basin = record { taken = Some basin.bytes; faults = basin.faults }

-- the number of the next read or write; it stands still at its type's end
abbrev pub next : ℕ → ℕ
next count = min (count + 1) (2 ^ 64 - 1)

-- what a read answers: the name's next bytes, as many as it may give, or that it fails
abbrev pub answer_of : Shelf → List ℕ → ℕ → ℕ → Result ℕ StoreFault
answer_of shelf name at room =
    if is_some (position (named name) shelf.files) then (if list_any (λ n. n == next shelf.reads) shelf.fails then Err Failed else Ok (min (min room shelf.most) (length (file_of shelf.files name).bytes - at))) else Ok 0

-- how many reads of listed names there were after a read of this name
abbrev pub reads_after : Shelf → List ℕ → ℕ
reads_after shelf name = if is_some (position (named name) shelf.files) then next shelf.reads else shelf.reads

-- what a sink holds after a write that failed
abbrev pub refused : Basin → Basin
refused basin = record basin { writes = next basin.writes; faults = next basin.faults }

-- what a sink holds after a write of a piece, and how much of it was taken
abbrev pub poured : Basin → List ℕ → Basin
poured basin piece =
    record basin { writes = next basin.writes; bytes = basin.bytes ++ take (min (length piece) basin.most) piece }
