-- What a store in memory holds after a read that failed.
use Rattle.std.specs.Str.{bytes_eq}
use Rattle.std.specs.Bool.{Decides}
use Rattle.std.proofs.Common.{◌⊎◌, inl, inr, ◌≡◌, ◌≢◌, ◌<◌, ◌≤◌, ◌+◌, ◌-◌, ◌^◌, ℕ, min, eqb, List, [], ◌∷◌, ◌++◌, length, get_or, Bool, true, false, cond, not, Some, None, Err, refl, ap, sym, subst, ◌∙◌, arith, add-zero, length-append, get_or-set_same, get_or-set_other}
use Rattle.std.proofs.Math.ListN.{set}
use Rattle.std.proofs.lemmas.Bool.{lt-ltb, ltb-false}
use Rattle.std.proofs.lemmas.List.{get_or_read}
use Rattle.std.proofs.lemmas.List.Folds.{position_or_len-set, position_or_len_push}
use Rattle.std.proofs.lemmas.List.Sums.{prefix_len-le-length}
use Rattle.std.proofs.lemmas.List.Quantifiers.{position-Some}
use Rattle.std.proofs.lemmas.Slice.Eq.{bytes_eq-Decides}
use Rattle.std.specs.List.{position, position_or_len}
use Rattle.switch_runner.specs.Memory.{NamedFile, named, file_of, faults_of, files_seen, absent, next}
use Rattle.switch_runner.specs.Faults.{Reads}
use Rattle.switch_runner.specs.declared.outside.StoreFault.TheVariants.{Failed}

some_of_cond : (b : Bool) (n i : ℕ) → cond b (Some n) None ≡ Some i → n ≡ i
some_of_cond true n i e = cc
some_of_cond false n i e = cc

pub same_or_not : (xs ys : List ℕ) → (xs ≡ ys) ⊎ (xs ≢ ys)
same_or_not xs ys = either (bytes_eq xs ys) (xs ≡ ys) (bytes_eq-Decides xs ys)
  where
    either : (b : Bool) (P : Type 0) → Decides b P → P ⊎ (¬ P)
    either true P d = inl (d.0 refl)
    either false P d = inr (λ p. let e : ◌≡◌ {A = Bool} false true = d.1 p in cc)

-- the file of the name stands at i, and the same file with a risen count takes its place
pub record Counts (files : List NamedFile) (name : List ℕ) (i : ℕ) (old new : NamedFile) : Type 0 where
  pub found : position (named name) files ≡ Some i
  pub was : old ≡ get_or files i old
  pub now : new ≡ record old { faults = min (old.faults + 1) (2 ^ 64 - 1) }
  pub more : old.faults ≤ new.faults

file_of_old : (files : List NamedFile) (name : List ℕ) (i : ℕ) (old new : NamedFile) → Counts files name i old new → file_of files name ≡ old
file_of_old files name i old new r =
    let at : position_or_len (named name) files ≡ i = some_of_cond _ _ _ r.found in
    let inside = position-Some (named name) files i old r.found in
    ap (λ k. get_or files k absent) at ∙ sym (get_or_read files i old inside.0 r.was absent)

place-set : (files : List NamedFile) (name other : List ℕ) (i : ℕ) (old new : NamedFile) → Counts files name i old new → position_or_len (named other) (set files i new) ≡ position_or_len (named other) files
place-set files name other i old new r =
    position_or_len-set (named other) files i new old (ap (named other) r.now ∙ ap (named other) r.was)

file_of-set : (files : List NamedFile) (name : List ℕ) (i : ℕ) (old new : NamedFile) → Counts files name i old new → file_of (set files i new) name ≡ new
file_of-set files name i old new r =
    let at : position_or_len (named name) files ≡ i = some_of_cond _ _ _ r.found in
    let inside = position-Some (named name) files i old r.found in
    ap (λ k. get_or (set files i new) k absent) (place-set files name name i old new r ∙ at) ∙ get_or-set_same _ _ _ _ inside.0

some_here : (b : Bool) (n i : ℕ) → b ≡ true → n ≡ i → cond b (Some n) None ≡ Some i
some_here true n i t e = ap Some e
some_here false n i t e = cc

-- the file at the place of another name isn't the file of this one
place_other : (files : List NamedFile) (name other : List ℕ) (i : ℕ) → position (named name) files ≡ Some i → position_or_len (named other) files ≡ i → other ≡ name
place_other files name other i found at =
    let here = position-Some (named name) files i absent found in
    let there = position-Some (named other) files i absent (some_here _ _ _ (lt-ltb _ _ (subst (λ (k : ℕ). k < length files) (sym at) here.0)) at) in
    sym ((bytes_eq-Decides _ other).0 there.1) ∙ (bytes_eq-Decides _ name).0 here.1

file_of-set_other : (files : List NamedFile) (name other : List ℕ) (i : ℕ) (old new : NamedFile) → Counts files name i old new → other ≢ name → file_of (set files i new) other ≡ file_of files other
file_of-set_other files name other i old new r ne =
    ap (λ k. get_or (set files i new) k absent) (place-set files name other i old new r) ∙ get_or-set_other files i _ new absent (λ at. ne (place_other files name other i r.found at))

-- the count of the name rises by one
pub counted : (held files : List NamedFile) (name : List ℕ) (i : ℕ) (old new : NamedFile) → files ≡ held → Counts files name i old new → faults_of (set files i new) name ≡ next (faults_of held name)
counted held files name i old new same r =
    ap (λ f. f.faults) (file_of-set files name i old new r)
    ∙ ap (λ f. f.faults) r.now
    ∙ ap next (sym (ap (λ f. f.faults) (file_of_old files name i old new r)) ∙ ap (λ fs. faults_of fs name) same)

-- the count of the name doesn't fall
pub not_fewer : (held files : List NamedFile) (name : List ℕ) (i : ℕ) (old new : NamedFile) → files ≡ held → Counts files name i old new → faults_of held name ≤ faults_of (set files i new) name
not_fewer held files name i old new same r =
    let was : faults_of held name ≡ old.faults = ap (λ fs. faults_of fs name) (sym same) ∙ ap (λ f. f.faults) (file_of_old files name i old new r) in
    let is : faults_of (set files i new) name ≡ new.faults = ap (λ f. f.faults) (file_of-set files name i old new r) in
    omega (arith, was, is, r.more)

-- the counts of other names stay
pub stays : (held files : List NamedFile) (name : List ℕ) (i : ℕ) (old new : NamedFile) → files ≡ held → Counts files name i old new → (other : List ℕ) → other ≢ name → faults_of (set files i new) other ≡ faults_of held other
stays held files name i old new same r other ne =
    ap (λ f. f.faults) (file_of-set_other files name other i old new r ne) ∙ ap (λ fs. faults_of fs other) same

-- the bytes of every name stay
bytes_stay : (files : List NamedFile) (name : List ℕ) (i : ℕ) (old new : NamedFile) → Counts files name i old new → (other : List ℕ) → (file_of (set files i new) other).bytes ≡ (file_of files other).bytes
bytes_stay files name i old new r other = elim (same_or_not other name) [
  | inl e ↦ ap (λ n. (file_of (set files i new) n).bytes) e ∙ ap (λ f. f.bytes) (file_of-set files name i old new r) ∙ ap (λ f. f.bytes) r.now ∙ sym (ap (λ f. f.bytes) (file_of_old files name i old new r)) ∙ ap (λ n. (file_of files n).bytes) (sym e)
  | inr d ↦ ap (λ f. f.bytes) (file_of-set_other files name other i old new r d)
]

-- a read that failed counts once more, and changes nothing else
pub failed_read : (held files : List NamedFile) (name : List ℕ) (i : ℕ) (old new : NamedFile) → files ≡ held → Counts files name i old new → Reads {T = ℕ} name (files_seen held) (files_seen (set files i new)) (Err Failed)
failed_read held files name i old new same r =
    let now : faults_of (set files i new) name ≡ min (faults_of held name + 1) (2 ^ 64 - 1) = counted held files name i old new same r in
    record {
      only = record {
        told = λ other. ap Some (bytes_stay files name i old new r other ∙ ap (λ fs. (file_of fs other).bytes) same);
        later = not_fewer held files name i old new same r;
        others = stays held files name i old new same r;
      };
      failed = λ _. omega arith;
    }

none_of_cond : (b : Bool) (n : ℕ) → cond b (Some n) None ≡ None → b ≡ false
none_of_cond true n e = cc
none_of_cond false n e = refl

cond_both : (b : Bool) (x y z : ℕ) → x ≡ z → y ≡ z → cond b x y ≡ z
cond_both true x y z e f = e
cond_both false x y z e f = f

-- a name that isn't listed stands last once it is added
pub listed_last : (files : List NamedFile) (name : List ℕ) (new : NamedFile) → position (named name) files ≡ None → new.name ≡ name → position (named name) (files ++ new ∷ []) ≡ Some (length files)
listed_last files name new none same =
    let most : position_or_len (named name) files ≤ length files = prefix_len-le-length (λ f. not (named name f)) files in
    let least : length files ≤ position_or_len (named name) files = ltb-false _ _ (none_of_cond _ _ none) in
    let passes : named name new ≡ true = (bytes_eq-Decides new.name name).1 same in
    let last : position_or_len (named name) (files ++ new ∷ []) ≡ length files = position_or_len_push (named name) files new ∙ cond_both (eqb (position_or_len (named name) files) (length files)) _ _ _ (ap (λ b. length files + cond b 0 1) passes ∙ add-zero (length files)) (omega arith) in
    let longer = length-append files (new ∷ []) in
    some_here _ _ _ (lt-ltb _ _ (omega arith)) last
