-- From the words of the records to the capture, and to the records that the bytes are.
use Rattle.std.proofs.Common.{◌≡◌, ◌≢◌, ◌⊎◌, inl, inr, ℕ, zero, suc, ◌*◌, ◌≤◌, ℤ, ltb, List, [], ◌∷◌, length, map, take, drop, Result, Ok, Err, refl, sym, ap, subst, ◌∙◌}
use Rattle.std.specs.Prelude.{IfOk, IfErr, IsOkUnless}
use Rattle.std.proofs.lemmas.Bool.{cond-false}
use Rattle.capture_io.specs.declared.encoding.Encoding.{Encoding}
use Rattle.capture_io.specs.declared.fault.CaptureFault.{CaptureFault}
use Rattle.capture_io.specs.declared.fault.CaptureFault.TheVariants.{Truncated, LongRecord, NoMemory}
use Rattle.capture_io.specs.declared.source.Source.{Source}
use Rattle.capture_io.specs.ClassicCapture.{Record, IsCapture}
use Rattle.capture_io.specs.Refusal.{Refuses, IsRefusedFor}
use Rattle.capture_io.specs.Header.{start_of, headers}
use Rattle.capture_io.specs.Fields.{words}
use Rattle.capture_io.specs.Header.{source}
use Rattle.capture_io.specs.Rows.{rows}
use Rattle.capture_io.specs.Reading.{◌>>=◌, map_ok, Fails, Gives, after_file_header, timestamp_in, record_from, record_at, end_of, first_timestamp, records_of, capture_of}
use Rattle.capture_io.proofs.Options.{past_refusal, of_then, map_refused, ok_is, err_is}
use Rattle.capture_io.proofs.RecordLaws.{captured_in, made}
use Rattle.capture_io.proofs.CaptureLaws.{others_of, records_found, capture_found, capture_again, capture_refused, refused_again}
use Rattle.capture_io.proofs.PacketRows.{length-words, rows_are_headers}
use Rattle.capture_io.proofs.Walk.{counted}

-- ---- the start of a capture is the timestamp of its first record

first_is : (e : Encoding) (at : ℕ) (bytes : List ℕ) (x : Record × List ℕ) → record_at e at bytes ≡ Ok x → first_timestamp e bytes ≡ x.0.timestamp
unfolding record_at
first_is e at bytes x h =
    let captured : ℕ = captured_in e bytes in
    let body : List ℕ = drop 16 bytes in
    let a = past_refusal (ltb (length bytes) 16) (Truncated at) (record_from e at (take 16 bytes) body captured) x h in
    let b = past_refusal (ltb 262144 captured) (LongRecord at captured) _ x a.1 in
    let d = past_refusal (ltb (length body) captured) (Truncated at) (Ok (made e (take 16 bytes) body captured)) x b.1 in
    cond-false (ltb (length bytes) 16) 0 (timestamp_in e (take 16 bytes)) a.0 ∙ ap (λ (y : Record × List ℕ). y.0.timestamp) (ok_is (made e (take 16 bytes) body captured) x d.1)

words-start : (e : Encoding) (n at : ℕ) (bytes : List ℕ) (rs : List Record) (sources : List Source) → records_of e n at bytes ≡ Ok rs → words sources (first_timestamp e bytes) rs ≡ words sources (start_of rs) rs
unfolding records_of
words-start e n at [] rs sources h = subst (λ (x : List Record). words sources (first_timestamp e []) x ≡ words sources (start_of x) x) (ok_is [] rs h) refl
words-start e zero at (b ∷ bytes) rs sources h = absurd cc
words-start e (suc n) at (b ∷ bytes) rs sources h =
    let a = of_then (record_at e at (b ∷ bytes)) (others_of e n at) rs h in
    let m = of_then (records_of e n (end_of at a.0.0) a.0.1) (λ (others : List Record). Ok (a.0.0 ∷ others)) rs a.2 in
    let start = first_is e at (b ∷ bytes) a.0 a.1 in
    subst (λ (x : List Record). words sources (first_timestamp e (b ∷ bytes)) x ≡ words sources (start_of x) x) (ok_is (a.0.0 ∷ m.0) rs m.2)
    (ap (λ (s : ℕ). words sources s (a.0.0 ∷ m.0)) start)

-- ---- the rows

abbrev listed : List Source → ℕ → List Record → List ℤ × ℕ
listed sources start rs = (words sources start rs, length rs)

-- the words that were read are whole rows, and few enough
pub rows_fit : (names : List (List ℕ)) (e : Encoding) (start : ℕ) (rest : List ℕ) (ws : List ℤ) (n : ℕ) → counted (map source names) start (records_of e 262144 24 rest) ≡ Ok (ws, n)
    → (length ws ≡ n * length (map source names)) × (n ≤ 262144)
rows_fit names e start rest ws n h =
    let sources = map source names in
    let m = of_then (records_of e 262144 24 rest) (λ (rs : List Record). Ok (listed sources start rs)) (ws, n) h in
    let few = (records_found e 262144 24 rest m.0 m.1).1 in
    subst (λ (p : List ℤ × ℕ). (length p.0 ≡ p.1 * length sources) × (p.1 ≤ 262144)) (ok_is (listed sources start m.0) (ws, n) m.2) (length-words sources start m.0, few)

-- the words that were read, cut into rows, are the fields of the capture's records
pub rows_read : (names : List (List ℕ)) (bytes : List ℕ) (e : Encoding) (rest : List ℕ) (ws : List ℤ) (n : ℕ) → after_file_header bytes ≡ Ok (e, rest)
    → counted (map source names) (first_timestamp e rest) (records_of e 262144 24 rest) ≡ Ok (ws, n) → map_ok (headers names) (capture_of bytes) ≡ Ok (rows n (length names) ws)
unfolding capture_of
rows_read names bytes e rest ws n file h =
    let sources = map source names in
    let m = of_then (records_of e 262144 24 rest) (λ (rs : List Record). Ok (listed sources (first_timestamp e rest) rs)) (ws, n) h in
    let found : capture_of bytes ≡ Ok m.0 = ap (λ (x : Result (Encoding × List ℕ) CaptureFault). x >>= λ y. records_of y.0 262144 24 y.1) file ∙ m.1 in
    let start = words-start e 262144 24 rest m.0 sources m.1 in
    let is : listed sources (start_of m.0) m.0 ≡ (ws, n) = ap (λ (w : List ℤ). let p : List ℤ × ℕ = (w, length m.0) in p) (sym start) ∙ ok_is (listed sources (first_timestamp e rest) m.0) (ws, n) m.2 in
    ap (map_ok (headers names)) found ∙ ap (λ (x : List (List ℤ)). Ok x) (sym (rows_are_headers names m.0) ∙ ap (λ (p : List ℤ × ℕ). rows p.1 (length names) p.0) is)

-- ---- what was answered

-- what the answer says of the bytes
abbrev pub Answers : Result (List (List ℤ)) CaptureFault → List (List ℕ) → List ℕ → Type 0
Answers r names bytes = Gives (λ capture. capture) r (map_ok (headers names) (capture_of bytes))

-- the refusal of reading, where memory didn't run out
failed : {A : Type 0} (f : CaptureFault) (read : Result A CaptureFault) → Fails f read → f ≢ NoMemory → read ≡ Err f
failed NoMemory read h other = absurd (other refl)
failed f read h other = h

-- where something is read, only memory fails
only_memory : {A : Type 0} (f : CaptureFault) (read : Result A CaptureFault) (x : A) → Fails f read → read ≡ Ok x → f ≡ NoMemory
only_memory NoMemory read x h is = refl
only_memory f read x h is = absurd cc

pub is_read : (r : Result (List (List ℤ)) CaptureFault) (names : List (List ℕ)) (bytes : List ℕ) → Answers r names bytes → IfOk r (λ capture. (records : List Record) × IsCapture bytes records × (capture ≡ headers names records))
is_read (Ok x) names bytes given =
    let m = of_then (capture_of bytes) (λ (rs : List Record). Ok (headers names rs)) x given in
    (m.0, capture_found bytes m.0 m.1, sym (ok_is (headers names m.0) x m.2))
is_read (Err f) names bytes given = tt

pub is_refused : (r : Result (List (List ℤ)) CaptureFault) (names : List (List ℕ)) (bytes : List ℕ) → Answers r names bytes → IfErr r (λ fault. fault ≢ NoMemory → Refuses bytes fault)
is_refused (Ok x) names bytes given = tt
is_refused (Err f) names bytes given = λ other. capture_refused bytes f (map_refused (headers names) (capture_of bytes) f (failed f (map_ok (headers names) (capture_of bytes)) given other))

pub accepts : (r : Result (List (List ℤ)) CaptureFault) (names : List (List ℕ)) (bytes : List ℕ) → Answers r names bytes → (records : List Record) → IsCapture bytes records → IsOkUnless r NoMemory
accepts (Ok x) names bytes given records h = tt
accepts (Err f) names bytes given records h = only_memory f (map_ok (headers names) (capture_of bytes)) (headers names records) given (ap (map_ok (headers names)) (capture_again bytes records h))

pub refuses : (r : Result (List (List ℤ)) CaptureFault) (names : List (List ℕ)) (bytes : List ℕ) → Answers r names bytes → (fault : CaptureFault) → Refuses bytes fault → IsRefusedFor r fault
refuses (Ok x) names bytes given fault h =
    let read : map_ok (headers names) (capture_of bytes) ≡ Err fault = ap (map_ok (headers names)) (refused_again bytes fault h) in
    absurd cc
refuses (Err f) names bytes given fault h = λ other.
    let read : map_ok (headers names) (capture_of bytes) ≡ Err fault = ap (map_ok (headers names)) (refused_again bytes fault h) in
    err_is {A = List (List ℤ)} f fault (sym (failed f (map_ok (headers names) (capture_of bytes)) given other) ∙ read)

-- ---- a capture or refused

decided : (all : List ℕ) (r : Result (List Record) CaptureFault) → capture_of all ≡ r → ((records : List Record) × IsCapture all records) ⊎ ((fault : CaptureFault) × Refuses all fault)
decided all (Ok rs) h = inl (rs, capture_found all rs h)
decided all (Err f) h = inr (f, capture_refused all f h)

pub decides : (all : List ℕ) → ((records : List Record) × IsCapture all records) ⊎ ((fault : CaptureFault) × Refuses all fault)
decides all = decided all (capture_of all) refl

pub one_answer : (all : List ℕ) (records : List Record) (fault : CaptureFault) → IsCapture all records → Refuses all fault → ⊥
one_answer all records fault h k =
    let bad : ◌≡◌ {A = Result (List Record) CaptureFault} (Ok records) (Err fault) = sym (capture_again all records h) ∙ refused_again all fault k in
    absurd cc

pub one_capture : (all : List ℕ) (a b : List Record) → IsCapture all a → IsCapture all b → a ≡ b
one_capture all a b h k = ok_is a b (sym (capture_again all a h) ∙ capture_again all b k)

pub one_refusal : (all : List ℕ) (a b : CaptureFault) → Refuses all a → Refuses all b → a ≡ b
one_refusal all a b h k = err_is {A = List Record} a b (sym (refused_again all a h) ∙ refused_again all b k)
