-- What a file header is read as, and the first refusal of what is none.
use Rattle.std.proofs.Common.{◌≡◌, ◌≢◌, ◌⊎◌, inl, inr, ℕ, ◌%◌, Bool, true, false, cond, eqb, ◌&&◌, List, length, drop, Result, Ok, Err, refl, sym, ap, subst, ◌∙◌}
use Rattle.std.proofs.lemmas.Bool.{eqb-true, eqb-false, eq-eqb, ne_eqb, and_parts, and_from, and_cases, and_left, and_right, cases_Bool, cond-true, cond-false}
use Rattle.byteorder.specs.Endian.{big_number}
use Rattle.capture_io.specs.declared.encoding.Order.{Order}
use Rattle.capture_io.specs.declared.encoding.Order.TheVariants.{Little, Big}
use Rattle.capture_io.specs.declared.encoding.Resolution.{Resolution}
use Rattle.capture_io.specs.declared.encoding.Resolution.TheVariants.{Micro, Nano}
use Rattle.capture_io.specs.declared.encoding.Encoding.{Encoding}
use Rattle.capture_io.specs.declared.fault.CaptureFault.{CaptureFault}
use Rattle.capture_io.specs.declared.fault.CaptureFault.TheVariants.{PcapNg, BadMagic, Version, LinkType}
use Rattle.capture_io.specs.Encoding.{number_of, magic}
use Rattle.capture_io.specs.ClassicCapture.{IsFileHeader}
use Rattle.capture_io.specs.Refusal.{pcapng, IsBadMagic, HasVersion, RefusesHeader}
use Rattle.capture_io.specs.Reading.{encoding_of, checked, file_header_of}
use Rattle.capture_io.proofs.Options.{of_then, refused_then, ok_is, err_is}

-- ---- the magic

abbrev encoded : Order → Resolution → Encoding
encoded order resolution = record { order = order; resolution = resolution }

-- the test held, or what comes after it gave the answer
choice : (b : Bool) (x e : Encoding) (r : Result Encoding CaptureFault) → cond b (Ok x) r ≡ Ok e → ((b ≡ true) × (x ≡ e)) ⊎ ((b ≡ false) × (r ≡ Ok e))
choice true x e r h = inl (refl, ok_is x e h)
choice false x e r h = inr (refl, h)

passed : (b : Bool) (x : Encoding) (r : Result Encoding CaptureFault) (f : CaptureFault) → cond b (Ok x) r ≡ Err f → (b ≡ false) × (r ≡ Err f)
passed true x r f h = absurd cc
passed false x r f h = (refl, h)

neither : (b : Bool) (d g : CaptureFault) (e : Encoding) → ◌≡◌ {A = Result Encoding CaptureFault} (cond b (Err d) (Err g)) (Ok e) → ⊥
neither true d g e h = absurd cc
neither false d g e h = absurd cc

of_magic : (word : ℕ) (order : Order) (resolution : Resolution) (e : Encoding) → eqb word (magic order resolution) ≡ true → encoded order resolution ≡ e → word ≡ magic e.order e.resolution
of_magic word order resolution e test same = eqb-true _ _ test ∙ ap (λ (x : Encoding). magic x.order x.resolution) same

encoding_found : (word : ℕ) (e : Encoding) → encoding_of word ≡ Ok e → word ≡ magic e.order e.resolution
encoding_found word e h =
    elim (choice (eqb word (magic Big Micro)) (encoded Big Micro) e _ h) [
      | inl a ↦ of_magic word Big Micro e a.0 a.1
      | inr h1 ↦ elim (choice (eqb word (magic Big Nano)) (encoded Big Nano) e _ h1.1) [
        | inl a ↦ of_magic word Big Nano e a.0 a.1
        | inr h2 ↦ elim (choice (eqb word (magic Little Micro)) (encoded Little Micro) e _ h2.1) [
          | inl a ↦ of_magic word Little Micro e a.0 a.1
          | inr h3 ↦ elim (choice (eqb word (magic Little Nano)) (encoded Little Nano) e _ h3.1) [
            | inl a ↦ of_magic word Little Nano e a.0 a.1
            | inr h4 ↦ absurd (neither (eqb word pcapng) PcapNg (BadMagic word) e h4.1)
          ]
        ]
      ]
    ]

encoding_again : (order : Order) (resolution : Resolution) → encoding_of (magic order resolution) ≡ Ok (encoded order resolution)
encoding_again Big Micro = refl
encoding_again Big Nano = refl
encoding_again Little Micro = refl
encoding_again Little Nano = refl

-- why a word is refused
abbrev RefusesWord : ℕ → CaptureFault → Type 0
RefusesWord word f = ((word ≡ pcapng) × (PcapNg ≡ f)) ⊎ (IsBadMagic word × (BadMagic word ≡ f))

no_magic_from : (word : ℕ) → eqb word (magic Big Micro) ≡ false → eqb word (magic Big Nano) ≡ false → eqb word (magic Little Micro) ≡ false → eqb word (magic Little Nano) ≡ false
    → (order : Order) (resolution : Resolution) → word ≢ magic order resolution
no_magic_from word a b c d Big Micro = eqb-false _ _ a
no_magic_from word a b c d Big Nano = eqb-false _ _ b
no_magic_from word a b c d Little Micro = eqb-false _ _ c
no_magic_from word a b c d Little Nano = eqb-false _ _ d

word_refused : (word : ℕ) (f : CaptureFault) → encoding_of word ≡ Err f → RefusesWord word f
word_refused word f h =
    let a = passed (eqb word (magic Big Micro)) (encoded Big Micro) _ f h in
    let b = passed (eqb word (magic Big Nano)) (encoded Big Nano) _ f a.1 in
    let c = passed (eqb word (magic Little Micro)) (encoded Little Micro) _ f b.1 in
    let d = passed (eqb word (magic Little Nano)) (encoded Little Nano) _ f c.1 in
    elim (cases_Bool (eqb word pcapng)) [
      | inl ng ↦ inl (eqb-true _ _ ng, err_is {A = Encoding} _ _ (sym (cond-true (eqb word pcapng) (Err PcapNg) (Err (BadMagic word)) ng) ∙ d.1))
      | inr other ↦ inr (
        record { not_pcapng = eqb-false _ _ other; no_magic = no_magic_from word a.0 b.0 c.0 d.0 },
        err_is {A = Encoding} _ _ (sym (cond-false (eqb word pcapng) (Err PcapNg) (Err (BadMagic word)) other) ∙ d.1),
      )
    ]

bad_again : (word : ℕ) → IsBadMagic word → encoding_of word ≡ Err (BadMagic word)
bad_again word h =
    rw (ne_eqb _ _ (h.no_magic Big Micro), ne_eqb _ _ (h.no_magic Big Nano), ne_eqb _ _ (h.no_magic Little Micro), ne_eqb _ _ (h.no_magic Little Nano), ne_eqb _ _ h.not_pcapng) refl

-- ---- version and link

-- the version is that of the profile
abbrev is_version : ℕ → ℕ → Bool
is_version a b = eqb a 2 && eqb b 4

checked_found : (e d : Encoding) (a b link : ℕ) → checked e a b link ≡ Ok d → (a ≡ 2) × (b ≡ 4) × (link % 65536 ≡ 1) × (e ≡ d)
checked_found e d a b link h =
    elim (cases_Bool (is_version a b)) [
      | inl v ↦
          let parts = and_parts (eqb a 2) (eqb b 4) v in
          let then : ◌≡◌ {A = Result Encoding CaptureFault} (cond (eqb (link % 65536) 1) (Ok e) (Err (LinkType link))) (Ok d) = sym (cond-true (is_version a b) _ (Err (Version a b)) v) ∙ h in
          elim (choice (eqb (link % 65536) 1) e d (Err (LinkType link)) then) [
            | inl k ↦ (eqb-true _ _ parts.0, eqb-true _ _ parts.1, eqb-true _ _ k.0, k.1)
            | inr k ↦ absurd (let bad = k.1 in cc)
          ]
      | inr v ↦ absurd (let bad : ◌≡◌ {A = Result Encoding CaptureFault} (Err (Version a b)) (Ok d) = sym (cond-false (is_version a b) _ (Err (Version a b)) v) ∙ h in cc)
    ]

-- why the version or the link is refused
abbrev RefusesChecked : ℕ → ℕ → ℕ → CaptureFault → Type 0
RefusesChecked a b link f =
    (((a ≢ 2) ⊎ (b ≢ 4)) × (Version a b ≡ f)) ⊎ ((a ≡ 2) × (b ≡ 4) × (link % 65536 ≢ 1) × (LinkType link ≡ f))

wrong_version : (a b : ℕ) → is_version a b ≡ false → (a ≢ 2) ⊎ (b ≢ 4)
wrong_version a b v = elim (and_cases (eqb a 2) (eqb b 4) v) [ inl x ↦ inl (eqb-false _ _ x) | inr x ↦ inr (eqb-false _ _ x) ]

checked_refused : (e : Encoding) (a b link : ℕ) (f : CaptureFault) → checked e a b link ≡ Err f → RefusesChecked a b link f
checked_refused e a b link f h =
    elim (cases_Bool (is_version a b)) [
      | inl v ↦
          let parts = and_parts (eqb a 2) (eqb b 4) v in
          let then : ◌≡◌ {A = Result Encoding CaptureFault} (cond (eqb (link % 65536) 1) (Ok e) (Err (LinkType link))) (Err f) = sym (cond-true (is_version a b) _ (Err (Version a b)) v) ∙ h in
          let k = passed (eqb (link % 65536) 1) e (Err (LinkType link)) f then in
          inr (eqb-true _ _ parts.0, eqb-true _ _ parts.1, eqb-false _ _ k.0, err_is {A = Encoding} _ _ k.1)
      | inr v ↦ inl (wrong_version a b v, err_is {A = Encoding} _ _ (sym (cond-false (is_version a b) (cond (eqb (link % 65536) 1) (Ok e) (Err (LinkType link))) (Err (Version a b)) v) ∙ h))
    ]

checked_again : (e : Encoding) (a b link : ℕ) → a ≡ 2 → b ≡ 4 → link % 65536 ≡ 1 → checked e a b link ≡ Ok e
checked_again e a b link p q r =
    cond-true (is_version a b) _ _ (and_from _ _ (eq-eqb _ _ p) (eq-eqb _ _ q)) ∙ cond-true (eqb (link % 65536) 1) _ _ (eq-eqb _ _ r)

version_again : (e : Encoding) (a b link : ℕ) → (a ≢ 2) ⊎ (b ≢ 4) → checked e a b link ≡ Err (Version a b)
version_again e a b link (inl p) = cond-false (is_version a b) _ _ (and_left _ _ (ne_eqb _ _ p))
version_again e a b link (inr p) = cond-false (is_version a b) _ _ (and_right _ _ (ne_eqb _ _ p))

link_again : (e : Encoding) (a b link : ℕ) → a ≡ 2 → b ≡ 4 → link % 65536 ≢ 1 → checked e a b link ≡ Err (LinkType link)
link_again e a b link p q r =
    cond-true (is_version a b) _ _ (and_from _ _ (eq-eqb _ _ p) (eq-eqb _ _ q)) ∙ cond-false (eqb (link % 65536) 1) _ _ (ne_eqb _ _ r)

-- ---- the whole header

abbrev check : List ℕ → Encoding → Result Encoding CaptureFault
check head e = checked e (number_of e.order 2 (drop 4 head)) (number_of e.order 2 (drop 6 head)) (number_of e.order 4 (drop 20 head))

pub header_found : (head : List ℕ) (e : Encoding) → length head ≡ 24 → file_header_of head ≡ Ok e → IsFileHeader e head
unfolding file_header_of
header_found head e size h =
    let a = of_then (encoding_of (big_number 4 head)) (check head) e h in
    let d = a.0 in
    let b = checked_found d e (number_of d.order 2 (drop 4 head)) (number_of d.order 2 (drop 6 head)) (number_of d.order 4 (drop 20 head)) a.2 in
    subst (λ (x : Encoding). IsFileHeader x head) b.3 (record { size = size; magic = encoding_found (big_number 4 head) d a.1; major = b.0; minor = b.1; link = b.2 })

-- with this magic the rest of the header is looked at
behind_magic : (head : List ℕ) (e : Encoding) → big_number 4 head ≡ magic e.order e.resolution → file_header_of head ≡ check head e
unfolding file_header_of
behind_magic head e h =
    let known : encoding_of (big_number 4 head) ≡ Ok e = ap encoding_of h ∙ encoding_again e.order e.resolution in
    rw known refl

pub header_again : (head : List ℕ) (e : Encoding) → IsFileHeader e head → file_header_of head ≡ Ok e
header_again head e h = behind_magic head e h.magic ∙ checked_again e _ _ _ h.major h.minor h.link

refused_word : (head : List ℕ) (f : CaptureFault) → RefusesWord (big_number 4 head) f → RefusesHeader head f
refused_word head f (inl ng) = subst (λ (x : CaptureFault). RefusesHeader head x) ng.1 ng.0
refused_word head f (inr bad) = subst (λ (x : CaptureFault). RefusesHeader head x) bad.1 (refl, bad.0)

refused_check : (head : List ℕ) (e : Encoding) (f : CaptureFault) → big_number 4 head ≡ magic e.order e.resolution
    → RefusesChecked (number_of e.order 2 (drop 4 head)) (number_of e.order 2 (drop 6 head)) (number_of e.order 4 (drop 20 head)) f → RefusesHeader head f
refused_check head e f magic (inl v) = subst (λ (x : CaptureFault). RefusesHeader head x) v.1 (e, record { magic = magic; major = refl; minor = refl }, v.0)
refused_check head e f magic (inr k) = subst (λ (x : CaptureFault). RefusesHeader head x) k.3 (e, record { magic = magic; major = k.0; minor = k.1 }, refl, k.2)

pub header_refused : (head : List ℕ) (f : CaptureFault) → file_header_of head ≡ Err f → RefusesHeader head f
unfolding file_header_of
header_refused head f h =
    elim (refused_then (encoding_of (big_number 4 head)) (check head) f h) [
      | inl word ↦ refused_word head f (word_refused (big_number 4 head) f word)
      | inr a ↦ refused_check head a.0 f (encoding_found (big_number 4 head) a.0 a.1) (checked_refused a.0 _ _ _ f a.2)
    ]

version_is : (head : List ℕ) (e : Encoding) (a b : ℕ) → HasVersion head e a b → (a ≢ 2) ⊎ (b ≢ 4) → check head e ≡ Err (Version a b)
version_is head e a b h wrong =
    let link : ℕ = number_of e.order 4 (drop 20 head) in
    ap (λ (x : ℕ). checked e x (number_of e.order 2 (drop 6 head)) link) h.major ∙ (ap (λ (x : ℕ). checked e a x link) h.minor ∙ version_again e a b link wrong)

link_is : (head : List ℕ) (e : Encoding) (n : ℕ) → HasVersion head e 2 4 → number_of e.order 4 (drop 20 head) ≡ n → n % 65536 ≢ 1 → check head e ≡ Err (LinkType n)
link_is head e n h same wrong =
    let a : ℕ = number_of e.order 2 (drop 4 head) in
    let b : ℕ = number_of e.order 2 (drop 6 head) in
    ap (λ (x : ℕ). checked e a b x) same ∙ link_again e a b n h.major h.minor wrong

pub header_refused_again : (head : List ℕ) (f : CaptureFault) → RefusesHeader head f → file_header_of head ≡ Err f
unfolding file_header_of
header_refused_again head PcapNg h = rw h refl
header_refused_again head (BadMagic word) h = rw (h.0, bad_again word h.1) refl
header_refused_again head (Version a b) h = behind_magic head h.0 h.1.magic ∙ version_is head h.0 a b h.1 h.2
header_refused_again head (LinkType n) h = behind_magic head h.0 h.1.magic ∙ link_is head h.0 n h.1 h.2 h.3
header_refused_again head f h = absurd h
