-- Reading one record after another, as a loop does.
use Rattle.std.proofs.Common.{◌≡◌, ℕ, zero, suc, ◌+◌, ◌-◌, ◌<◌, ℤ, List, [], ◌∷◌, ◌++◌, length, Result, Ok, Err, refl, sym, ap, ◌∙◌, append_assoc, arith}
use Rattle.std.proofs.lemmas.List.{append-nil}
use Rattle.capture_io.specs.declared.encoding.Encoding.{Encoding}
use Rattle.capture_io.specs.declared.fault.CaptureFault.{CaptureFault}
use Rattle.capture_io.specs.declared.fault.CaptureFault.TheVariants.{TooMany, NoMemory}
use Rattle.capture_io.specs.declared.source.Source.{Source}
use Rattle.capture_io.specs.ClassicCapture.{Record}
use Rattle.capture_io.specs.Fields.{fields, words}
use Rattle.capture_io.specs.Reading.{map_ok, Fails, record_at, end_of, records_of}
use Rattle.capture_io.proofs.CaptureLaws.{records_step, records_end, records_full}

-- the words of the records, and how many there are
abbrev pub counted : List Source → ℕ → Result (List Record) CaptureFault → Result (List ℤ × ℕ) CaptureFault
counted sources start read = map_ok (λ rs. (words sources start rs, length rs)) read

-- what was read before, and what is still read
abbrev pub with_front : List ℤ → ℕ → Result (List ℤ × ℕ) CaptureFault → Result (List ℤ × ℕ) CaptureFault
with_front ws n read = map_ok (λ x. (ws ++ x.0, n + x.1)) read

-- what is read in all, where so much is read already
abbrev pub Total : Encoding → ℕ → ℕ → List Source → ℕ → List ℤ → ℕ → List ℕ → Result (List ℤ × ℕ) CaptureFault → Type 0
Total e limit n sources start ws at bytes total = with_front ws n (counted sources start (records_of e (limit - n) at bytes)) ≡ total

regroup : (sources : List Source) (start : ℕ) (ws : List ℤ) (n : ℕ) (r : Record) (read : Result (List Record) CaptureFault)
    → with_front ws n (counted sources start (map_ok (λ others. r ∷ others) read)) ≡ with_front (ws ++ fields sources start r) (n + 1) (counted sources start read)
regroup sources start ws n r (Err f) = refl
regroup sources start ws n r (Ok rs) =
    let count : n + suc (length rs) ≡ n + 1 + length rs = omega arith in
    rw (count, append_assoc ws (fields sources start r) (words sources start rs)) refl

pub goes_on : (e : Encoding) (limit n : ℕ) (sources : List Source) (start : ℕ) (ws : List ℤ) (at : ℕ) (bytes : List ℕ) (r : Record) (after : List ℕ) (total : Result (List ℤ × ℕ) CaptureFault)
    → n < limit → 0 < length bytes → record_at e at bytes ≡ Ok (r, after)
    → Total e limit n sources start ws at bytes total → Total e limit (n + 1) sources start (ws ++ fields sources start r) (end_of at r) after total
goes_on e limit n sources start ws at bytes r after total room some h so_far =
    let k : limit - n ≡ suc (limit - (n + 1)) = omega arith in
    let step : records_of e (limit - n) at bytes ≡ map_ok (λ others. r ∷ others) (records_of e (limit - (n + 1)) (end_of at r) after) = rw (k, records_step e (limit - (n + 1)) at bytes some, h) refl in
    sym (ap (λ (o : Result (List Record) CaptureFault). with_front ws n (counted sources start o)) step ∙ regroup sources start ws n r (records_of e (limit - (n + 1)) (end_of at r) after)) ∙ so_far

-- the refusal of a part is that of the whole
fails_along : {A B : Type 0} (f : CaptureFault) (part : Result A CaptureFault) (total : Result B CaptureFault) → ((g : CaptureFault) → part ≡ Err g → total ≡ Err g) → Fails f part → Fails f total
fails_along NoMemory part total along h = tt
fails_along f part total along h = along f h

record_err : (e : Encoding) (n at : ℕ) (bytes : List ℕ) (f : CaptureFault) → 0 < n → 0 < length bytes → record_at e at bytes ≡ Err f → records_of e n at bytes ≡ Err f
record_err e zero at bytes f room some h = absurd (omega arith)
record_err e (suc n) at bytes f room some h = rw (records_step e n at bytes some, h) refl

-- no record is there
pub no_record : (e : Encoding) (limit n : ℕ) (sources : List Source) (start : ℕ) (ws : List ℤ) (at : ℕ) (bytes : List ℕ) (total : Result (List ℤ × ℕ) CaptureFault) (f : CaptureFault)
    → n < limit → 0 < length bytes → Fails f (record_at e at bytes) → Total e limit n sources start ws at bytes total → Fails f total
no_record e limit n sources start ws at bytes total f room some h so_far =
    let left : 0 < limit - n = omega arith in
    fails_along f (record_at e at bytes) total
    (λ g is. sym so_far ∙ ap (λ (o : Result (List Record) CaptureFault). with_front ws n (counted sources start o)) (record_err e (limit - n) at bytes g left some is)) h

-- bytes are left where the limit is met
pub too_many : (e : Encoding) (limit n : ℕ) (sources : List Source) (start : ℕ) (ws : List ℤ) (at : ℕ) (bytes : List ℕ) (total : Result (List ℤ × ℕ) CaptureFault)
    → n ≡ limit → 0 < length bytes → Total e limit n sources start ws at bytes total → total ≡ Err (TooMany 262145)
too_many e limit n sources start ws at bytes total met some so_far =
    let k : limit - n ≡ 0 = omega arith in
    let full : records_of e (limit - n) at bytes ≡ Err (TooMany 262145) = rw k (records_full e at bytes some) in
    sym so_far ∙ ap (λ (o : Result (List Record) CaptureFault). with_front ws n (counted sources start o)) full

none_left : (e : Encoding) (n at : ℕ) (bytes : List ℕ) → length bytes ≡ 0 → records_of e n at bytes ≡ Ok []
none_left e n at [] none = records_end e n at
none_left e n at (b ∷ bytes) none = absurd (omega arith)

-- all bytes are read
pub is_done : (e : Encoding) (limit n : ℕ) (sources : List Source) (start : ℕ) (ws : List ℤ) (at : ℕ) (bytes : List ℕ) (total : Result (List ℤ × ℕ) CaptureFault)
    → length bytes ≡ 0 → Total e limit n sources start ws at bytes total → total ≡ Ok (ws, n)
is_done e limit n sources start ws at bytes total none so_far =
    let count : n + 0 ≡ n = omega arith in
    let last : with_front ws n (counted sources start (Ok [])) ≡ Ok (ws, n) = rw (append-nil ws, count) refl in
    sym so_far ∙ (ap (λ (o : Result (List Record) CaptureFault). with_front ws n (counted sources start o)) (none_left e (limit - n) at bytes none) ∙ last)
