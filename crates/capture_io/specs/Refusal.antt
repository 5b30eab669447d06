-- The first refusal of bytes that are no capture.
use Rattle.std.specs.Prelude.{◌≡◌, ◌≢◌, ◌<◌, ◌≤◌, ◌⊎◌, ℕ, ◌+◌, ◌%◌, List, ◌++◌, length, drop, Result, Ok, Err}
use Rattle.byteorder.specs.Endian.{big_number}
use Rattle.capture_io.specs.declared.limits.TheConstants.{FILE_HEADER_LEN, MAX_CAPTURE, MAX_FRAME, MAX_RECORDS, RECORD_HEADER_LEN}
use Rattle.capture_io.specs.declared.encoding.Order.{Order}
use Rattle.capture_io.specs.declared.encoding.Resolution.{Resolution}
use Rattle.capture_io.specs.declared.encoding.Encoding.{Encoding}
use Rattle.capture_io.specs.declared.fault.CaptureFault.{CaptureFault}
use Rattle.capture_io.specs.declared.fault.CaptureFault.TheVariants.{TooLong, ShortHeader, PcapNg, BadMagic, Version, LinkType, LongRecord, Truncated, TooMany, NoMemory}
use Rattle.capture_io.specs.Encoding.{number_of, magic}
use Rattle.capture_io.specs.ClassicCapture.{Record, IsFileHeader, AreRecords}

-- the four bytes that begin a pcapng file, as a number
abbrev pub pcapng : ℕ
pcapng = 0x0a0d0d0a

-- no classic capture begins with this word
pub record IsBadMagic (word : ℕ) : Type 0 where
  pub not_pcapng : word ≢ pcapng
  pub no_magic : (order : Order) (resolution : Resolution) → word ≢ magic order resolution

-- the 24 bytes have one of the magics, and this version
pub record HasVersion (head : List ℕ) (e : Encoding) (a b : ℕ) : Type 0 where
  pub magic : big_number 4 head ≡ magic e.order e.resolution
  pub major : number_of e.order 2 (drop 4 head) ≡ a
  pub minor : number_of e.order 2 (drop 6 head) ≡ b

-- the 24 bytes are refused as a file header for this
abbrev pub RefusesHeader : List ℕ → CaptureFault → Type 0
RefusesHeader head PcapNg = big_number 4 head ≡ pcapng
RefusesHeader head (BadMagic word) = (big_number 4 head ≡ word) × IsBadMagic word
RefusesHeader head (Version a b) = (e : Encoding) × HasVersion head e a b × ((a ≢ 2) ⊎ (b ≢ 4))
RefusesHeader head (LinkType n) = (e : Encoding) × HasVersion head e 2 4 × (number_of e.order 4 (drop 20 head) ≡ n) × (n % 65536 ≢ 1)
RefusesHeader head f = ⊥

-- the bytes are few enough and begin with 24 that are refused as a file header for this
pub record StopsAtHeader (bytes : List ℕ) (f : CaptureFault) : Type 0 where
  pub limit : length bytes ≤ MAX_CAPTURE
  pub head : List ℕ
  pub rest : List ℕ
  pub size : length head ≡ FILE_HEADER_LEN
  pub whole : bytes ≡ head ++ rest
  pub refused : RefusesHeader head f

-- the bytes are a file header, then these whole records one after another, which end at byte `at`, and
-- then the rest
pub record IsReadTo (bytes : List ℕ) (e : Encoding) (records : List Record) (at : ℕ) (rest : List ℕ) : Type 0 where
  pub limit : length bytes ≤ MAX_CAPTURE
  pub head : List ℕ
  pub file : IsFileHeader e head
  pub read : List ℕ
  pub each : AreRecords e read records
  pub whole : bytes ≡ head ++ (read ++ rest)
  pub place : at ≡ FILE_HEADER_LEN + length read

-- a record header begins the bytes, it gives this captured length, and this body comes after it
pub record HasRecordHeader (e : Encoding) (bytes body : List ℕ) (n : ℕ) : Type 0 where
  pub head : List ℕ
  pub size : length head ≡ RECORD_HEADER_LEN
  pub whole : bytes ≡ head ++ body
  pub captured : number_of e.order 4 (drop 8 head) ≡ n

-- the record that begins the bytes has this captured length, which is more than a record may have
pub record IsLong (e : Encoding) (bytes : List ℕ) (n : ℕ) : Type 0 where
  pub body : List ℕ
  pub header : HasRecordHeader e bytes body n
  pub long : MAX_FRAME < n

-- the record that begins the bytes has its header, but not all of the captured bytes
pub record IsCutInBody (e : Encoding) (bytes : List ℕ) : Type 0 where
  pub body : List ℕ
  pub captured : ℕ
  pub header : HasRecordHeader e bytes body captured
  pub limit : captured ≤ MAX_FRAME
  pub cut : length body < captured

-- a record begins the bytes, but doesn't end within them: its header is cut, or its captured bytes are
abbrev pub IsCut : Encoding → List ℕ → Type 0
IsCut e bytes = ((0 < length bytes) × (length bytes < RECORD_HEADER_LEN)) ⊎ IsCutInBody e bytes

-- so many records are read, and the rest, which begins at byte `at`, is refused for this
abbrev pub Stops : Encoding → ℕ → ℕ → List ℕ → CaptureFault → Type 0
Stops e count at rest (LongRecord place n) = (count < MAX_RECORDS) × (place ≡ at) × IsLong e rest n
Stops e count at rest (Truncated place) = (count < MAX_RECORDS) × (place ≡ at) × IsCut e rest
Stops e count at rest (TooMany n) = (count ≡ MAX_RECORDS) × (0 < length rest) × (n ≡ MAX_RECORDS + 1)
Stops e count at rest f = ⊥

-- the bytes are a file header and whole records, and what comes after these is refused for this
pub record StopsBehind (bytes : List ℕ) (f : CaptureFault) : Type 0 where
  pub encoding : Encoding
  pub records : List Record
  pub at : ℕ
  pub rest : List ℕ
  pub read : IsReadTo bytes encoding records at rest
  pub stops : Stops encoding (length records) at rest f

-- the bytes are refused for this, and for nothing before it; want of memory is no refusal of bytes
abbrev pub Refuses : List ℕ → CaptureFault → Type 0
Refuses bytes (TooLong n) = (n ≡ length bytes) × (MAX_CAPTURE < n)
Refuses bytes (ShortHeader n) = (n ≡ length bytes) × (n < FILE_HEADER_LEN)
Refuses bytes PcapNg = StopsAtHeader bytes PcapNg
Refuses bytes (BadMagic word) = StopsAtHeader bytes (BadMagic word)
Refuses bytes (Version a b) = StopsAtHeader bytes (Version a b)
Refuses bytes (LinkType n) = StopsAtHeader bytes (LinkType n)
Refuses bytes (LongRecord at n) = StopsBehind bytes (LongRecord at n)
Refuses bytes (Truncated at) = StopsBehind bytes (Truncated at)
Refuses bytes (TooMany n) = StopsBehind bytes (TooMany n)
Refuses bytes NoMemory = ⊥

-- the answer is this refusal, or memory ran out
abbrev pub IsRefusedFor : {X : Type 0} → Result X CaptureFault → CaptureFault → Type 0
IsRefusedFor (Ok x) f = ⊥
IsRefusedFor (Err e) f = e ≢ NoMemory → e ≡ f
