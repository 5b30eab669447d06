-- The records that are read are those that the bytes are, and the refusal is the first.
use Rattle.std.proofs.Common.{◌≡◌, ℕ, zero, suc, ◌+◌, ◌-◌, ◌<◌, ◌≤◌, inl, inr, true, false, ltb, List, [], ◌∷◌, ◌++◌, length, take, drop, Result, Ok, Err, refl, sym, ap, subst, ◌∙◌, append_assoc, arith}
use Rattle.std.proofs.lemmas.Bool.{ltb-false, ltb-true, le-ltb, lt-ltb, cases_Bool, cond-true, cond-false}
use Rattle.std.proofs.lemmas.List.{take_at, drop_at, take-append-drop, length-append, length-take, append-nil}
use Rattle.capture_io.specs.declared.encoding.Encoding.{Encoding}
use Rattle.capture_io.specs.declared.fault.CaptureFault.{CaptureFault}
use Rattle.capture_io.specs.declared.fault.CaptureFault.TheVariants.{TooLong, ShortHeader, PcapNg, BadMagic, Version, LinkType, LongRecord, Truncated, TooMany, NoMemory}
use Rattle.capture_io.specs.ClassicCapture.{Record, IsFileHeader, IsRecordHeader, AreRecords, IsCapture}
use Rattle.capture_io.specs.Refusal.{StopsAtHeader, HasRecordHeader, IsCut, Stops, IsReadTo, StopsBehind, Refuses}
use Rattle.capture_io.specs.Reading.{◌>>=◌, map_ok, file_header_of, after_file_header, record_at, end_of, records_of, capture_of}
use Rattle.capture_io.proofs.Options.{past_refusal, of_then, refused_then, map_refused, map-same, map-map, ok_is, err_is}
use Rattle.capture_io.proofs.HeaderLaws.{header_found, header_again, header_refused, header_refused_again}
use Rattle.capture_io.proofs.RecordLaws.{record_found, record_again, record_refused, long_again, cut_again}

-- ---- the records

-- the records behind the first, and the first before them
abbrev pub others_of : Encoding → ℕ → ℕ → Record × List ℕ → Result (List Record) CaptureFault
others_of e n at first = map_ok (λ others. first.0 ∷ others) (records_of e n (end_of at first.0) first.1)

-- where bytes are left, a record is read first
pub records_step : (e : Encoding) (n at : ℕ) (bytes : List ℕ) → 0 < length bytes → records_of e (suc n) at bytes ≡ (record_at e at bytes >>= others_of e n at)
unfolding records_of
records_step e n at [] some = absurd (omega arith)
records_step e n at (b ∷ bytes) some = refl

pub records_end : (e : Encoding) (n at : ℕ) → records_of e n at [] ≡ Ok []
unfolding records_of
records_end e n at = refl

pub records_full : (e : Encoding) (at : ℕ) (bytes : List ℕ) → 0 < length bytes → records_of e 0 at bytes ≡ Err (TooMany 262145)
unfolding records_of
records_full e at [] some = absurd (omega arith)
records_full e at (b ∷ bytes) some = refl

pub records_found : (e : Encoding) (n at : ℕ) (bytes : List ℕ) (rs : List Record) → records_of e n at bytes ≡ Ok rs → AreRecords e bytes rs × (length rs ≤ n)
unfolding records_of
records_found e n at [] rs h = subst (λ (x : List Record). AreRecords e [] x × (length x ≤ n)) (ok_is [] rs h) (refl, omega arith)
records_found e zero at (b ∷ bytes) rs h = absurd cc
records_found e (suc n) at (b ∷ bytes) rs h =
    let a = of_then (record_at e at (b ∷ bytes)) (others_of e n at) rs h in
    let m = of_then (records_of e n (end_of at a.0.0) a.0.1) (λ (others : List Record). Ok (a.0.0 ∷ others)) rs a.2 in
    let first = record_found e at (b ∷ bytes) a.0 a.1 in
    let others = records_found e n (end_of at a.0.0) a.0.1 m.0 m.1 in
    subst (λ (x : List Record). AreRecords e (b ∷ bytes) x × (length x ≤ suc n)) (ok_is (a.0.0 ∷ m.0) rs m.2) ((first.0, a.0.1, first.1, first.2, others.0), omega (arith, others.1))

-- so many records are read, and then the rest is
pub records_ahead : (e : Encoding) (n at : ℕ) (read rest : List ℕ) (rs : List Record) → AreRecords e read rs → length rs ≤ n
    → records_of e n at (read ++ rest) ≡ map_ok (λ others. rs ++ others) (records_of e (n - length rs) (at + length read) rest)
records_ahead e n at read rest [] h few =
    let none : at + 0 ≡ at = omega arith in
    let all : n - 0 ≡ n = omega arith in
    rw (h, none, all) (sym (map-same (records_of e n at rest)))
records_ahead e zero at read rest (r ∷ rs) h few = absurd (omega arith)
records_ahead e (suc n) at read rest (r ∷ rs) h few =
    let head = h.0 in
    let more = h.1 in
    let behind : List ℕ = more ++ rest in
    let whole : read ++ rest ≡ head ++ (r.frame ++ behind) = ap (λ (x : List ℕ). x ++ rest) h.3 ∙ (append_assoc head (r.frame ++ more) rest ∙ ap (λ (x : List ℕ). head ++ x) (append_assoc r.frame more rest)) in
    let some : 0 < length (head ++ (r.frame ++ behind)) = omega (arith, length-append head (r.frame ++ behind), h.2.size) in
    let len : length read ≡ 16 + length r.frame + length more = omega (arith, ap length h.3, length-append head (r.frame ++ more), length-append r.frame more, h.2.size) in
    let place : end_of at r + length more ≡ at + length read = omega arith in
    let left : n - length rs ≡ suc n - suc (length rs) = omega arith in
    let later : records_of e n (end_of at r) behind ≡ map_ok (λ others. rs ++ others) (records_of e (suc n - suc (length rs)) (at + length read) rest) = rw (← place, ← left) (records_ahead e n (end_of at r) more rest rs h.4 (omega arith)) in
    ap (records_of e (suc n) at) whole ∙ (records_step e n at (head ++ (r.frame ++ behind)) some
    ∙ (ap (λ (x : Result (Record × List ℕ) CaptureFault). x >>= others_of e n at) (record_again e at head r behind h.2)
    ∙ (ap (map_ok (λ (others : List Record). r ∷ others)) later ∙ map-map (λ (others : List Record). r ∷ others) (λ (others : List Record). rs ++ others) _)))

pub records_again : (e : Encoding) (n at : ℕ) (bytes : List ℕ) (rs : List Record) → AreRecords e bytes rs → length rs ≤ n → records_of e n at bytes ≡ Ok rs
records_again e n at bytes rs h few =
    ap (records_of e n at) (sym (append-nil bytes)) ∙ (records_ahead e n at bytes [] rs h few
    ∙ (ap (map_ok (λ (others : List Record). rs ++ others)) (records_end e (n - length rs) (at + length bytes)) ∙ ap (λ (x : List Record). Ok x) (append-nil rs)))

-- whole records, and the refusal of what comes after them
record StopsIn (e : Encoding) (count at : ℕ) (bytes : List ℕ) (f : CaptureFault) : Type 0 where
  records : List Record
  read : List ℕ
  rest : List ℕ
  each : AreRecords e read records
  whole : bytes ≡ read ++ rest
  stops : Stops e (count + length records) (at + length read) rest f

stops_here : (e : Encoding) (count at : ℕ) (bytes : List ℕ) (f : CaptureFault) → Stops e count at bytes f → StopsIn e count at bytes f
stops_here e count at bytes f h =
    let none : count + 0 ≡ count = omega arith in
    let here : at + 0 ≡ at = omega arith in
    record { records = []; read = []; rest = bytes; each = refl; whole = refl; stops = rw (none, here) h }

stops_later : (e : Encoding) (count at : ℕ) (bytes head : List ℕ) (r : Record) (after : List ℕ) (f : CaptureFault) → IsRecordHeader e head r → bytes ≡ head ++ (r.frame ++ after)
    → StopsIn e (count + 1) (end_of at r) after f → StopsIn e count at bytes f
stops_later e count at bytes head r after f h whole later =
    let read : List ℕ = head ++ (r.frame ++ later.read) in
    let len : length read ≡ 16 + length r.frame + length later.read = omega (arith, length-append head (r.frame ++ later.read), length-append r.frame later.read, h.size) in
    let place : end_of at r + length later.read ≡ at + length read = omega arith in
    let many : count + 1 + length later.records ≡ count + suc (length later.records) = omega arith in
    record {
      records = r ∷ later.records;
      read = read;
      rest = later.rest;
      each = (head, later.read, h, refl, later.each);
      whole = whole ∙ (ap (λ (x : List ℕ). head ++ (r.frame ++ x)) later.whole ∙ sym (append_assoc head (r.frame ++ later.read) later.rest ∙ ap (λ (x : List ℕ). head ++ x) (append_assoc r.frame later.read later.rest)));
      stops = rw (← place, ← many) later.stops;
    }

records_refused : (e : Encoding) (n count at : ℕ) (bytes : List ℕ) (f : CaptureFault) → count + n ≡ 262144 → records_of e n at bytes ≡ Err f → StopsIn e count at bytes f
unfolding records_of
records_refused e n count at [] f sum h = absurd cc
records_refused e zero count at (b ∷ bytes) f sum h =
    let full : count ≡ 262144 = omega arith in
    let some : 0 < suc (length bytes) = omega arith in
    stops_here e count at (b ∷ bytes) f (subst (λ (x : CaptureFault). Stops e count at (b ∷ bytes) x) (err_is {A = List Record} (TooMany 262145) f h) (full, some, refl))
records_refused e (suc n) count at (b ∷ bytes) f sum h =
    let some : 0 < suc (length bytes) = omega arith in
    let room : count < 262144 = omega arith in
    elim (refused_then (record_at e at (b ∷ bytes)) (others_of e n at) f h) [
      | inl here ↦ stops_here e count at (b ∷ bytes) f (record_refused e count at (b ∷ bytes) f room some here)
      | inr a ↦
          let first = record_found e at (b ∷ bytes) a.0 a.1 in
          let later = map_refused (λ (others : List Record). a.0.0 ∷ others) (records_of e n (end_of at a.0.0) a.0.1) f a.2 in
          stops_later e count at (b ∷ bytes) first.0 a.0.0 a.0.1 f first.1 first.2 (records_refused e n (count + 1) (end_of at a.0.0) a.0.1 f (omega arith) later)
    ]

-- the record that comes next is refused
stops_at_record : (e : Encoding) (n at : ℕ) (rest : List ℕ) (f : CaptureFault) → 0 < n → 0 < length rest → record_at e at rest ≡ Err f → records_of e n at rest ≡ Err f
stops_at_record e zero at rest f room some h = absurd (omega arith)
stops_at_record e (suc n) at rest f room some h = records_step e n at rest some ∙ ap (λ (x : Result (Record × List ℕ) CaptureFault). x >>= others_of e n at) h

some_in_header : (e : Encoding) (bytes body : List ℕ) (n : ℕ) → HasRecordHeader e bytes body n → 0 < length bytes
some_in_header e bytes body n h = omega (arith, ap length h.whole, length-append h.head body, h.size)

some_in_cut : (e : Encoding) (bytes : List ℕ) → IsCut e bytes → 0 < length bytes
some_in_cut e bytes (inl short) = short.0
some_in_cut e bytes (inr cut) = some_in_header e bytes cut.body cut.captured cut.header

pub stops_again : (e : Encoding) (count at : ℕ) (rest : List ℕ) (f : CaptureFault) → Stops e count at rest f → records_of e (262144 - count) at rest ≡ Err f
stops_again e count at rest (LongRecord place n) h =
    rw h.1 (stops_at_record e (262144 - count) at rest (LongRecord at n) (omega arith) (some_in_header e rest h.2.body n h.2.header) (long_again e at rest h.2.body n h.2.header h.2.long))
stops_again e count at rest (Truncated place) h =
    rw h.1 (stops_at_record e (262144 - count) at rest (Truncated at) (omega arith) (some_in_cut e rest h.2) (cut_again e at rest h.2))
stops_again e count at rest (TooMany n) h =
    let full : 262144 - count ≡ 0 = omega (arith, h.0) in
    rw (full, h.2) (records_full e at rest h.1)
stops_again e count at rest f h = absurd h

-- ---- the file header

-- a file header begins the bytes, and this comes after it
record HasFileHeader (bytes : List ℕ) (e : Encoding) (rest : List ℕ) : Type 0 where
  limit : length bytes ≤ 134217728
  head : List ℕ
  file : IsFileHeader e head
  whole : bytes ≡ head ++ rest

abbrev paired : Encoding → List ℕ → Result (Encoding × List ℕ) CaptureFault
paired e rest = Ok (e, rest)

after_found : (bytes : List ℕ) (x : Encoding × List ℕ) → after_file_header bytes ≡ Ok x → HasFileHeader bytes x.0 x.1
unfolding after_file_header
after_found bytes x h =
    let a = past_refusal (ltb 134217728 (length bytes)) (TooLong (length bytes)) _ x h in
    let b = past_refusal (ltb (length bytes) 24) (ShortHeader (length bytes)) _ x a.1 in
    let m = of_then (file_header_of (take 24 bytes)) (λ (e : Encoding). paired e (drop 24 bytes)) x b.1 in
    let enough : 24 ≤ length bytes = ltb-false _ _ b.0 in
    let size : length (take 24 bytes) ≡ 24 = omega (arith, length-take 24 bytes) in
    let file = header_found (take 24 bytes) m.0 size m.1 in
    subst (λ (y : Encoding × List ℕ). HasFileHeader bytes y.0 y.1) (ok_is {A = Encoding × List ℕ} (m.0, drop 24 bytes) x m.2)
    (record { limit = ltb-false _ _ a.0; head = take 24 bytes; file = file; whole = sym (take-append-drop 24 bytes) })

-- few enough bytes that begin with 24 are read as those 24 are
behind_limits : (bytes head rest : List ℕ) → length bytes ≤ 134217728 → length head ≡ 24 → bytes ≡ head ++ rest → after_file_header bytes ≡ map_ok {B = Encoding × List ℕ} (λ e. (e, rest)) (file_header_of head)
unfolding after_file_header
behind_limits bytes head rest limit size whole =
    let few : ltb 134217728 (length bytes) ≡ false = le-ltb _ _ limit in
    let enough : ltb (length bytes) 24 ≡ false = le-ltb _ _ (omega (arith, ap length whole, length-append head rest)) in
    let front : take 24 bytes ≡ head = ap (take 24) whole ∙ take_at head rest 24 size in
    let back : drop 24 bytes ≡ rest = ap (drop 24) whole ∙ drop_at head rest 24 size in
    rw (few, enough, front, back) refl

after_again : (bytes : List ℕ) (e : Encoding) (rest : List ℕ) → HasFileHeader bytes e rest → after_file_header bytes ≡ Ok (e, rest)
after_again bytes e rest h =
    behind_limits bytes h.head rest h.limit h.file.size h.whole ∙ ap (map_ok {B = Encoding × List ℕ} (λ (d : Encoding). (d, rest))) (header_again h.head e h.file)

refused_by_header : (bytes : List ℕ) (f : CaptureFault) → StopsAtHeader bytes f → Refuses bytes f
refused_by_header bytes PcapNg h = h
refused_by_header bytes (BadMagic word) h = h
refused_by_header bytes (Version a b) h = h
refused_by_header bytes (LinkType n) h = h
refused_by_header bytes f h = absurd h.refused

after_refused : (bytes : List ℕ) (f : CaptureFault) → after_file_header bytes ≡ Err f → Refuses bytes f
unfolding after_file_header
after_refused bytes f h =
    let P : CaptureFault → Type 0 = λ x. Refuses bytes x in
    elim (cases_Bool (ltb 134217728 (length bytes))) [
      | inl long ↦ subst P (err_is {A = Encoding × List ℕ} (TooLong (length bytes)) f (sym (cond-true (ltb 134217728 (length bytes)) _ _ long) ∙ h)) (refl, ltb-true _ _ long)
      | inr few ↦
          let h1 = sym (cond-false (ltb 134217728 (length bytes)) _ _ few) ∙ h in
          elim (cases_Bool (ltb (length bytes) 24)) [
            | inl short ↦ subst P (err_is {A = Encoding × List ℕ} (ShortHeader (length bytes)) f (sym (cond-true (ltb (length bytes) 24) _ _ short) ∙ h1)) (refl, ltb-true _ _ short)
            | inr enough ↦
                let h2 = sym (cond-false (ltb (length bytes) 24) _ _ enough) ∙ h1 in
                let at_least : 24 ≤ length bytes = ltb-false _ _ enough in
                let size : length (take 24 bytes) ≡ 24 = omega (arith, length-take 24 bytes) in
                let bad = header_refused (take 24 bytes) f (map_refused {B = Encoding × List ℕ} (λ (e : Encoding). (e, drop 24 bytes)) (file_header_of (take 24 bytes)) f h2) in
                refused_by_header bytes f (record { limit = ltb-false _ _ few; head = take 24 bytes; rest = drop 24 bytes; size = size; whole = sym (take-append-drop 24 bytes); refused = bad })
          ]
    ]

after_refused_again : (bytes : List ℕ) (f : CaptureFault) → StopsAtHeader bytes f → after_file_header bytes ≡ Err f
after_refused_again bytes f h =
    behind_limits bytes h.head h.rest h.limit h.size h.whole ∙ ap (map_ok {B = Encoding × List ℕ} (λ (d : Encoding). (d, h.rest))) (header_refused_again h.head f h.refused)

-- ---- the whole capture

pub capture_found : (bytes : List ℕ) (rs : List Record) → capture_of bytes ≡ Ok rs → IsCapture bytes rs
unfolding capture_of
capture_found bytes rs h =
    let a = of_then (after_file_header bytes) (λ (x : Encoding × List ℕ). records_of x.0 262144 24 x.1) rs h in
    let file = after_found bytes a.0 a.1 in
    let each = records_found a.0.0 262144 24 a.0.1 rs a.2 in
    record { size = file.limit; count = each.1; encoding = a.0.0; head = file.head; rest = a.0.1; file = file.file; whole = file.whole; each = each.0 }

pub capture_again : (bytes : List ℕ) (rs : List Record) → IsCapture bytes rs → capture_of bytes ≡ Ok rs
unfolding capture_of
capture_again bytes rs h =
    let file = after_again bytes h.encoding h.rest (record { limit = h.size; head = h.head; file = h.file; whole = h.whole }) in
    ap (λ (x : Result (Encoding × List ℕ) CaptureFault). x >>= λ y. records_of y.0 262144 24 y.1) file ∙ records_again h.encoding 262144 24 h.rest rs h.each h.count

refused_behind : (bytes : List ℕ) (f : CaptureFault) → StopsBehind bytes f → Refuses bytes f
refused_behind bytes (LongRecord at n) h = h
refused_behind bytes (Truncated at) h = h
refused_behind bytes (TooMany n) h = h
refused_behind bytes f h = absurd h.stops

behind_file : (bytes : List ℕ) (e : Encoding) (rest : List ℕ) (f : CaptureFault) → HasFileHeader bytes e rest → StopsIn e 0 24 rest f → StopsBehind bytes f
behind_file bytes e rest f file h =
    let none : 0 + length h.records ≡ length h.records = omega arith in
    let read : IsReadTo bytes e h.records (24 + length h.read) h.rest = record { limit = file.limit; head = file.head; file = file.file; read = h.read; each = h.each; whole = file.whole ∙ ap (λ (x : List ℕ). file.head ++ x) h.whole; place = refl } in
    record { encoding = e; records = h.records; at = 24 + length h.read; rest = h.rest; read = read; stops = subst (λ (k : ℕ). Stops e k (24 + length h.read) h.rest f) none h.stops }

pub capture_refused : (bytes : List ℕ) (f : CaptureFault) → capture_of bytes ≡ Err f → Refuses bytes f
unfolding capture_of
capture_refused bytes f h =
    elim (refused_then (after_file_header bytes) (λ (x : Encoding × List ℕ). records_of x.0 262144 24 x.1) f h) [
      | inl front ↦ after_refused bytes f front
      | inr a ↦ refused_behind bytes f (behind_file bytes a.0.0 a.0.1 f (after_found bytes a.0 a.1) (records_refused a.0.0 262144 0 24 a.0.1 f (omega arith) a.2))
    ]

header_stops : (bytes : List ℕ) (f : CaptureFault) → StopsAtHeader bytes f → capture_of bytes ≡ Err f
unfolding capture_of
header_stops bytes f h = ap (λ (x : Result (Encoding × List ℕ) CaptureFault). x >>= λ y. records_of y.0 262144 24 y.1) (after_refused_again bytes f h)

few_read : (e : Encoding) (count at : ℕ) (rest : List ℕ) (f : CaptureFault) → Stops e count at rest f → count ≤ 262144
few_read e count at rest (LongRecord place n) h = omega (arith, h.0)
few_read e count at rest (Truncated place) h = omega (arith, h.0)
few_read e count at rest (TooMany n) h = omega (arith, h.0)
few_read e count at rest f h = absurd h

behind_stops : (bytes : List ℕ) (f : CaptureFault) → StopsBehind bytes f → capture_of bytes ≡ Err f
unfolding capture_of
behind_stops bytes f h =
    let e = h.encoding in
    let read = h.read.read in
    let count = length h.records in
    let file = after_again bytes e (read ++ h.rest) (record { limit = h.read.limit; head = h.read.head; file = h.read.file; whole = h.read.whole }) in
    let stops : records_of e (262144 - count) (24 + length read) h.rest ≡ Err f = rw (← h.read.place) (stops_again e count h.at h.rest f h.stops) in
    ap (λ (x : Result (Encoding × List ℕ) CaptureFault). x >>= λ y. records_of y.0 262144 24 y.1) file
    ∙ (records_ahead e 262144 24 read h.rest h.records h.read.each (few_read e count h.at h.rest f h.stops) ∙ ap (map_ok (λ (others : List Record). h.records ++ others)) stops)

pub refused_again : (bytes : List ℕ) (f : CaptureFault) → Refuses bytes f → capture_of bytes ≡ Err f
unfolding capture_of after_file_header
refused_again bytes (TooLong n) h =
    let many : 134217728 < length bytes = omega (arith, h.0, h.1) in
    let long : ltb 134217728 (length bytes) ≡ true = lt-ltb _ _ many in
    rw (long, h.0) refl
refused_again bytes (ShortHeader n) h =
    let few : ltb 134217728 (length bytes) ≡ false = le-ltb _ _ (omega (arith, h.0, h.1)) in
    let short : ltb (length bytes) 24 ≡ true = lt-ltb _ _ (omega (arith, h.0, h.1)) in
    rw (few, short, h.0) refl
refused_again bytes PcapNg h = header_stops bytes PcapNg h
refused_again bytes (BadMagic word) h = header_stops bytes (BadMagic word) h
refused_again bytes (Version a b) h = header_stops bytes (Version a b) h
refused_again bytes (LinkType n) h = header_stops bytes (LinkType n) h
refused_again bytes (LongRecord at n) h = behind_stops bytes (LongRecord at n) h
refused_again bytes (Truncated at) h = behind_stops bytes (Truncated at) h
refused_again bytes (TooMany n) h = behind_stops bytes (TooMany n) h
refused_again bytes NoMemory h = absurd h
