-- What a record is read as, and the first refusal of what is none.
use Rattle.std.proofs.Common.{◌≡◌, ℕ, ◌<◌, ◌≤◌, inl, inr, false, ltb, List, ◌++◌, length, take, drop, Result, Ok, Err, refl, sym, ap, subst, ◌∙◌, arith}
use Rattle.std.proofs.lemmas.Bool.{ltb-false, ltb-true, le-ltb, lt-ltb, cases_Bool, cond-true, cond-false}
use Rattle.std.proofs.lemmas.List.{take_at, drop_at, take-append-drop, length-append, length-take}
use Rattle.capture_io.specs.declared.encoding.Encoding.{Encoding}
use Rattle.capture_io.specs.declared.fault.CaptureFault.{CaptureFault}
use Rattle.capture_io.specs.declared.fault.CaptureFault.TheVariants.{LongRecord, Truncated}
use Rattle.capture_io.specs.Encoding.{number_of}
use Rattle.capture_io.specs.ClassicCapture.{Record, IsRecordHeader}
use Rattle.capture_io.specs.Refusal.{HasRecordHeader, IsCut, Stops}
use Rattle.capture_io.specs.Reading.{timestamp_in, record_from, record_at}
use Rattle.capture_io.proofs.Options.{past_refusal, ok_is, err_is}

-- the captured length of the record at the front
abbrev pub captured_in : Encoding → List ℕ → ℕ
captured_in e bytes = number_of e.order 4 (drop 8 (take 16 bytes))

-- the record of this header and this body, and the bytes after it
abbrev pub made : Encoding → List ℕ → List ℕ → ℕ → Record × List ℕ
made e head body captured =
    (record { timestamp = timestamp_in e head; original = number_of e.order 4 (drop 12 head); frame = take captured body }, drop captured body)

pub record_found : (e : Encoding) (at : ℕ) (bytes : List ℕ) (x : Record × List ℕ) → record_at e at bytes ≡ Ok x → (head : List ℕ) × IsRecordHeader e head x.0 × (bytes ≡ head ++ (x.0.frame ++ x.1))
unfolding record_at
record_found e at bytes x h =
    let head : List ℕ = take 16 bytes in
    let body : List ℕ = drop 16 bytes in
    let captured : ℕ = captured_in e bytes in
    let a = past_refusal (ltb (length bytes) 16) (Truncated at) (record_from e at head body captured) x h in
    let b = past_refusal (ltb 262144 captured) (LongRecord at captured) _ x a.1 in
    let d = past_refusal (ltb (length body) captured) (Truncated at) (Ok (made e head body captured)) x b.1 in
    let long : 16 ≤ length bytes = ltb-false _ _ a.0 in
    let small : captured ≤ 262144 = ltb-false _ _ b.0 in
    let whole : captured ≤ length body = ltb-false _ _ d.0 in
    let len : length (take captured body) ≡ captured = omega (arith, length-take captured body) in
    let spelled : bytes ≡ head ++ (take captured body ++ drop captured body) = sym (take-append-drop 16 bytes) ∙ ap (λ (y : List ℕ). head ++ y) (sym (take-append-drop captured body)) in
    let same : made e head body captured ≡ x = ok_is (made e head body captured) x d.1 in
    subst (λ (y : Record × List ℕ). (h : List ℕ) × IsRecordHeader e h y.0 × (bytes ≡ h ++ (y.0.frame ++ y.1))) same
    (head, record { size = omega (arith, length-take 16 bytes); timestamp = refl; captured = sym len; original = refl; limit = omega arith }, spelled)

pub record_again : (e : Encoding) (at : ℕ) (head : List ℕ) (r : Record) (rest : List ℕ) → IsRecordHeader e head r → record_at e at (head ++ (r.frame ++ rest)) ≡ Ok (r, rest)
unfolding record_at
record_again e at head r rest h =
    let long : ltb (length (head ++ (r.frame ++ rest))) 16 ≡ false = le-ltb _ _ (omega (arith, length-append head (r.frame ++ rest), h.size)) in
    let front : take 16 (head ++ (r.frame ++ rest)) ≡ head = take_at head (r.frame ++ rest) 16 h.size in
    let back : drop 16 (head ++ (r.frame ++ rest)) ≡ r.frame ++ rest = drop_at head (r.frame ++ rest) 16 h.size in
    let small : ltb 262144 (length r.frame) ≡ false = le-ltb _ _ h.limit in
    let whole : ltb (length (r.frame ++ rest)) (length r.frame) ≡ false = le-ltb _ _ (omega (arith, length-append r.frame rest)) in
    let frame : take (length r.frame) (r.frame ++ rest) ≡ r.frame = take_at r.frame rest (length r.frame) refl in
    let after : drop (length r.frame) (r.frame ++ rest) ≡ rest = drop_at r.frame rest (length r.frame) refl in
    rw (long, front, back) (rw (h.captured, small, whole, frame, after, h.timestamp, h.original) refl)

-- the refusal of a record is the first
pub record_refused : (e : Encoding) (count at : ℕ) (bytes : List ℕ) (f : CaptureFault) → count < 262144 → 0 < length bytes → record_at e at bytes ≡ Err f → Stops e count at bytes f
unfolding record_at
record_refused e count at bytes f room some h =
    let head : List ℕ = take 16 bytes in
    let body : List ℕ = drop 16 bytes in
    let captured : ℕ = captured_in e bytes in
    let P : CaptureFault → Type 0 = λ x. Stops e count at bytes x in
    elim (cases_Bool (ltb (length bytes) 16)) [
      | inl short ↦
          subst P (err_is {A = Record × List ℕ} (Truncated at) f (sym (cond-true _ _ _ short) ∙ h)) (room, refl, inl (some, ltb-true _ _ short))
      | inr long ↦
          let enough : 16 ≤ length bytes = ltb-false _ _ long in
          let size : length head ≡ 16 = omega (arith, length-take 16 bytes) in
          let header : HasRecordHeader e bytes body captured = record { head = head; size = size; whole = sym (take-append-drop 16 bytes); captured = refl } in
          let h1 = sym (cond-false (ltb (length bytes) 16) _ _ long) ∙ h in
          elim (cases_Bool (ltb 262144 captured)) [
            | inl big ↦ subst P (err_is {A = Record × List ℕ} (LongRecord at captured) f (sym (cond-true (ltb 262144 captured) _ _ big) ∙ h1)) (room, refl, record { body = body; header = header; long = ltb-true _ _ big })
            | inr small ↦
                let h2 = sym (cond-false (ltb 262144 captured) _ _ small) ∙ h1 in
                elim (cases_Bool (ltb (length body) captured)) [
                  | inl cut ↦ subst P (err_is {A = Record × List ℕ} (Truncated at) f (sym (cond-true (ltb (length body) captured) _ _ cut) ∙ h2)) (room, refl, inr (record { body = body; captured = captured; header = header; limit = ltb-false _ _ small; cut = ltb-true _ _ cut }))
                  | inr whole ↦ absurd (let bad : ◌≡◌ {A = Result (Record × List ℕ) CaptureFault} (Ok (made e head body captured)) (Err f) = sym (cond-false (ltb (length body) captured) _ _ whole) ∙ h2 in cc)
                ]
          ]
    ]

-- behind a whole header the captured length is looked at
behind_header : (e : Encoding) (at : ℕ) (bytes body : List ℕ) (n : ℕ) → HasRecordHeader e bytes body n → (head : List ℕ) × (record_at e at bytes ≡ record_from e at head body n)
unfolding record_at
behind_header e at bytes body n h =
    let long : ltb (length (h.head ++ body)) 16 ≡ false = le-ltb _ _ (omega (arith, length-append h.head body, h.size)) in
    let front : take 16 (h.head ++ body) ≡ h.head = take_at h.head body 16 h.size in
    let back : drop 16 (h.head ++ body) ≡ body = drop_at h.head body 16 h.size in
    (h.head, rw (h.whole, long, front, back, h.captured) refl)

-- what is refused so is refused when it is read
pub long_again : (e : Encoding) (at : ℕ) (bytes body : List ℕ) (n : ℕ) → HasRecordHeader e bytes body n → 262144 < n → record_at e at bytes ≡ Err (LongRecord at n)
long_again e at bytes body n h long =
    let b = behind_header e at bytes body n h in
    b.1 ∙ cond-true (ltb 262144 n) _ _ (lt-ltb _ _ long)

pub cut_again : (e : Encoding) (at : ℕ) (bytes : List ℕ) → IsCut e bytes → record_at e at bytes ≡ Err (Truncated at)
unfolding record_at
cut_again e at bytes (inl short) = cond-true (ltb (length bytes) 16) _ _ (lt-ltb _ _ short.1)
cut_again e at bytes (inr cut) =
    let b = behind_header e at bytes cut.body cut.captured cut.header in
    b.1 ∙ (cond-false (ltb 262144 cut.captured) _ _ (le-ltb _ _ cut.limit) ∙ cond-true (ltb (length cut.body) cut.captured) _ _ (lt-ltb _ _ cut.cut))
