-- Reading a capture from its first byte on: what stands at the front, and the bytes after it, or the first
-- refusal.
use Rattle.std.specs.Prelude.{◌≡◌, ◌==◌, ◌&&◌, ℕ, zero, suc, ◌+◌, ◌%◌, nat_lt, if◌then◌else◌, List, [], ◌∷◌, length, take, drop, Result, Ok, Err}
use Rattle.byteorder.specs.Endian.{big_number}
use Rattle.capture_io.specs.declared.limits.TheConstants.{FILE_HEADER_LEN, MAX_CAPTURE, MAX_FRAME, MAX_RECORDS, RECORD_HEADER_LEN}
use Rattle.capture_io.specs.declared.encoding.Order.TheVariants.{Little, Big}
use Rattle.capture_io.specs.declared.encoding.Resolution.TheVariants.{Micro, Nano}
use Rattle.capture_io.specs.declared.encoding.Encoding.{Encoding}
use Rattle.capture_io.specs.declared.fault.CaptureFault.{CaptureFault}
use Rattle.capture_io.specs.declared.fault.CaptureFault.TheVariants.{TooLong, ShortHeader, PcapNg, BadMagic, Version, LinkType, LongRecord, Truncated, TooMany, NoMemory}
use Rattle.capture_io.specs.Encoding.{number_of, timestamp}
use Rattle.capture_io.specs.ClassicCapture.{Record}

infixl 10 ◌>>=◌
abbrev pub ◌>>=◌ : {A B : Type 0} → Result A CaptureFault → (A → Result B CaptureFault) → Result B CaptureFault
(Ok x) >>= f = f x
(Err e) >>= f = Err e

abbrev pub map_ok : {A B : Type 0} → (A → B) → Result A CaptureFault → Result B CaptureFault
map_ok f r = r >>= λ x. Ok (f x)

-- the refusal is that of reading, unless memory ran out
abbrev pub Fails : {Y : Type 0} → CaptureFault → Result Y CaptureFault → Type 0
Fails NoMemory read = Unit {0}
Fails f read = read ≡ Err f

-- What a function returned, seen by view, is what reading gives, unless memory ran out.
abbrev pub Gives : {X Y : Type 0} → (X → Y) → Result X CaptureFault → Result Y CaptureFault → Type 0
Gives view (Ok x) read = read ≡ Ok (view x)
Gives view (Err e) read = Fails e read

-- the encoding of a file that begins with this word
abbrev pub encoding_of : ℕ → Result Encoding CaptureFault
encoding_of word =
    if word == 0xa1b2c3d4 then Ok (record { order = Big; resolution = Micro }) else (
    if word == 0xa1b23c4d then Ok (record { order = Big; resolution = Nano }) else (
    if word == 0xd4c3b2a1 then Ok (record { order = Little; resolution = Micro }) else (
    if word == 0x4d3cb2a1 then Ok (record { order = Little; resolution = Nano }) else (
    if word == 0x0a0d0d0a then Err PcapNg else Err (BadMagic word)))))

-- the encoding, where the version is 2.4 and the link is Ethernet
abbrev pub checked : Encoding → ℕ → ℕ → ℕ → Result Encoding CaptureFault
checked e major minor link =
    if major == 2 && minor == 4 then (if link % 65536 == 1 then Ok e else Err (LinkType link)) else Err (Version major minor)

-- the encoding of a file with these 24 bytes as its header
unfoldable pub file_header_of : List ℕ → Result Encoding CaptureFault
file_header_of head = encoding_of (big_number 4 head) >>= λ e.
    checked e (number_of e.order 2 (drop 4 head)) (number_of e.order 2 (drop 6 head)) (number_of e.order 4 (drop 20 head))

-- the encoding of the file, and the bytes after the file header
unfoldable pub after_file_header : List ℕ → Result (Encoding × List ℕ) CaptureFault
after_file_header bytes =
    if nat_lt MAX_CAPTURE (length bytes) then Err (TooLong (length bytes)) else (
    if nat_lt (length bytes) FILE_HEADER_LEN then Err (ShortHeader (length bytes)) else (
    map_ok (λ e. (e, drop FILE_HEADER_LEN bytes)) (file_header_of (take FILE_HEADER_LEN bytes))))

-- the timestamp in a record header
abbrev pub timestamp_in : Encoding → List ℕ → ℕ
timestamp_in e head = timestamp e.resolution (number_of e.order 4 head) (number_of e.order 4 (drop 4 head))

-- the record of this header that has so many bytes of the body, and the bytes after it
abbrev pub record_from : Encoding → ℕ → List ℕ → List ℕ → ℕ → Result (Record × List ℕ) CaptureFault
record_from e at head body captured =
    if nat_lt MAX_FRAME captured then Err (LongRecord at captured) else (
    if nat_lt (length body) captured then Err (Truncated at) else Ok (
      record {
        timestamp = timestamp_in e head;
        original = number_of e.order 4 (drop 12 head);
        frame = take captured body;
      },
      drop captured body,
    ))

-- the record at the front, which is at this place of the file, and the bytes after it
unfoldable pub record_at : Encoding → ℕ → List ℕ → Result (Record × List ℕ) CaptureFault
record_at e at bytes =
    if nat_lt (length bytes) RECORD_HEADER_LEN then Err (Truncated at) else
    record_from e at (take RECORD_HEADER_LEN bytes) (drop RECORD_HEADER_LEN bytes) (number_of e.order 4 (drop 8 (take RECORD_HEADER_LEN bytes)))

-- where the record that begins at this place ends
abbrev pub end_of : ℕ → Record → ℕ
end_of at r = at + (RECORD_HEADER_LEN + length r.frame)

-- the records that all of the bytes are, which begin at this place, if there are at most n
unfoldable pub records_of : Encoding → ℕ → ℕ → List ℕ → Result (List Record) CaptureFault
records_of e n at [] = Ok []
records_of e zero at (b ∷ bytes) = Err (TooMany (MAX_RECORDS + 1))
records_of e (suc n) at (b ∷ bytes) =
    record_at e at (b ∷ bytes) >>= λ first. map_ok (λ others. first.0 ∷ others) (records_of e n (end_of at first.0) first.1)

-- the timestamp in the record header that begins the bytes, if one does
abbrev pub first_timestamp : Encoding → List ℕ → ℕ
first_timestamp e bytes = if nat_lt (length bytes) RECORD_HEADER_LEN then 0 else timestamp_in e (take RECORD_HEADER_LEN bytes)

-- the records of a capture
unfoldable pub capture_of : List ℕ → Result (List Record) CaptureFault
capture_of bytes = after_file_header bytes >>= λ x. records_of x.0 MAX_RECORDS FILE_HEADER_LEN x.1
