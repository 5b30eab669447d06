-- What the name of a capture stands for: the bytes that a store tells of a file, or a capture that is made.
use Rattle.std.specs.Prelude.{◌≡◌, ◌+◌, ℕ, ℤ, List, take, Option, Some}
use Rattle.std.specs.Option.{option_map}
use Rattle.capture_io.specs.declared.fault.CaptureFault.{CaptureFault}
use Rattle.capture_io.specs.ClassicCapture.{Record, IsCapture}
use Rattle.capture_io.specs.Header.{headers}
use Rattle.capture_io.specs.Refusal.{Refuses}
use Rattle.load_maker.specs.Made.{made_headers}
use Rattle.command_line.specs.CommandLine.{Origin, File, Made}
use Rattle.switch_runner.specs.declared.limits.TheConstants.{MAX_CAPTURE}
use Rattle.switch_runner.specs.Outside.{StoreView, Rose, ChangesOnly}

-- a capture before it is read or made: bytes, or how many packets are made, and from which seed
pub data Load : Type 0 where
  Bytes : List ℕ → Load
  Generated : ℕ → ℕ → Load

-- what a capture's name stands for; nothing where the store doesn't tell the file's bytes
abbrev pub load_of : Origin → StoreView → Option Load
load_of (File name) store = option_map Bytes (store.told name)
load_of (Made count seed) store = Some (Generated count seed)

-- the bytes are a capture of some records
abbrev pub IsSomeCapture : List ℕ → Type 0
IsSomeCapture bytes = (records : List Record) × IsCapture bytes records

-- the bytes are refused as a capture for this, and for nothing before it; they are read to at most one
-- byte past the limit of 134217728, so that longer ones are too long with 134217729 bytes
abbrev pub IsNoCapture : CaptureFault → List ℕ → Type 0
IsNoCapture f bytes = Refuses (take (MAX_CAPTURE + 1) bytes) f

-- there are headers of it: the bytes are a capture; one that is made always is
abbrev pub IsSomeLoad : Load → Type 0
IsSomeLoad (Bytes bytes) = IsSomeCapture bytes
IsSomeLoad (Generated count seed) = Unit {0}

-- it is refused for this; one that is made never is
abbrev pub IsNoLoad : CaptureFault → Load → Type 0
IsNoLoad f (Bytes bytes) = IsNoCapture f bytes
IsNoLoad f (Generated count seed) = ⊥

-- these are its headers, in fields of these names
abbrev pub AreHeadersOf : Load → List (List ℕ) → List (List ℤ) → Type 0
AreHeadersOf (Bytes bytes) names hs = (records : List Record) × IsCapture bytes records × (hs ≡ headers names records)
AreHeadersOf (Generated count seed) names hs = hs ≡ made_headers count seed names

-- ---- the file, where it is one

-- it is the file of this name
abbrev pub IsFile : Origin → List ℕ → Type 0
IsFile (File file) name = name ≡ file
IsFile (Made count seed) name = ⊥

-- the count of its name rose; a capture that is made has none
abbrev pub RoseIn : Origin → StoreView → StoreView → Type 0
RoseIn (File name) old new = Rose (old.faults name) (new.faults name)
RoseIn (Made count seed) old new = ⊥

-- a store is as it was but for the count of its name; nothing is read where it is made
abbrev pub ChangesAt : Origin → StoreView → StoreView → Type 0
ChangesAt (File name) old new = ChangesOnly name old new
ChangesAt (Made count seed) old new = new ≡ old
