-- The classic capture file: a file header, and records one after another. The format is that of pcap
-- savefiles, in either byte order, with timestamps in microseconds or nanoseconds.
use Rattle.std.specs.Prelude.{◌≡◌, ◌≤◌, ℕ, ◌%◌, List, [], ◌∷◌, ◌++◌, length, drop}
use Rattle.byteorder.specs.Endian.{big_number}
use Rattle.capture_io.specs.declared.limits.TheConstants.{FILE_HEADER_LEN, MAX_CAPTURE, MAX_FRAME, MAX_RECORDS, RECORD_HEADER_LEN}
use Rattle.capture_io.specs.declared.encoding.Encoding.{Encoding}
use Rattle.capture_io.specs.Encoding.{number_of, magic, timestamp}

-- a record: its timestamp in microseconds, the frame's original length, and its captured bytes
pub record Record : Type 0 where
  pub timestamp : ℕ
  pub original : ℕ
  pub frame : List ℕ

-- 24 bytes: magic, version 2.4, zone, sigfigs, snaplen (which aren't looked at), and the link word, whose
-- low 16 bits are the link type, 1 for Ethernet
pub record IsFileHeader (e : Encoding) (head : List ℕ) : Type 0 where
  pub size : length head ≡ FILE_HEADER_LEN
  pub magic : big_number 4 head ≡ magic e.order e.resolution
  pub major : number_of e.order 2 (drop 4 head) ≡ 2
  pub minor : number_of e.order 2 (drop 6 head) ≡ 4
  pub link : number_of e.order 4 (drop 20 head) % 65536 ≡ 1

-- 16 bytes: seconds, fraction, captured length and original length, four bytes each
pub record IsRecordHeader (e : Encoding) (head : List ℕ) (r : Record) : Type 0 where
  pub size : length head ≡ RECORD_HEADER_LEN
  pub timestamp : timestamp e.resolution (number_of e.order 4 head) (number_of e.order 4 (drop 4 head)) ≡ r.timestamp
  pub captured : number_of e.order 4 (drop 8 head) ≡ length r.frame
  pub original : number_of e.order 4 (drop 12 head) ≡ r.original
  pub limit : length r.frame ≤ MAX_FRAME

-- the bytes are these records one after another, and nothing after them
abbrev pub AreRecords : Encoding → List ℕ → List Record → Type 0
AreRecords e bytes [] = bytes ≡ []
AreRecords e bytes (r ∷ rs) = (head rest : List ℕ) × IsRecordHeader e head r × (bytes ≡ head ++ (r.frame ++ rest)) × AreRecords e rest rs

-- the bytes are a capture of these records
pub record IsCapture (bytes : List ℕ) (records : List Record) : Type 0 where
  pub size : length bytes ≤ MAX_CAPTURE
  pub count : length records ≤ MAX_RECORDS
  pub encoding : Encoding
  pub head : List ℕ
  pub rest : List ℕ
  pub file : IsFileHeader encoding head
  pub whole : bytes ≡ head ++ rest
  pub each : AreRecords encoding rest records
