-- From words in one list back to packets, and from what was read to what is told.
use Rattle.std.proofs.Common.{◌≡◌, ◌∙◌, ◌≤◌, ◌+◌, ◌*◌, ℕ, suc, ℤ, pos, List, [], ◌∷◌, ◌++◌, length, map, take, drop, refl, sym, ap, subst, arith, length-append}
use Rattle.std.specs.List.{flat_map, range_with_len}
use Rattle.std.specs.Prelude.{All, Option, None, Some, IfSome}
use Rattle.std.proofs.lemmas.List.{take_all, length-take, length-map}
use Rattle.std.proofs.Math.Seq.{take-append_seam, drop-append_seam}
use Rattle.std.proofs.lemmas.List.Elements.{All-cons, All-nil}
use Rattle.capture_io.specs.ClassicCapture.{Record, IsCapture}
use Rattle.capture_io.specs.Header.{field, header, source, start_of, headers}
use Rattle.capture_io.specs.Rows.{rows}
use Rattle.load_maker.specs.Made.{made_headers, packet, value}
use Rattle.load_maker.specs.Made.{header as made_header}
use Rattle.domino_tree.specs.declared.program.Program.{Program}
use Rattle.domino_compile.specs.Accepted.{IsAccepted}
use Rattle.domino_syntax.specs.ProgramText.{IsProgramText}
use Rattle.switch_runner.specs.Top.{AreWide}

wide_from : (names : List (List ℕ)) (start : ℕ) (records : List Record) → AreWide (length names) (map (header names start) records)
wide_from names start [] = tt
wide_from names start (r ∷ rs) = (length-map names (field start r), wide_from names start rs)

pub wide_headers : (names : List (List ℕ)) (records : List Record) → AreWide (length names) (headers names records)
wide_headers names records = wide_from names (start_of records) records

wide_packets : (names : List (List ℕ)) (seed : ℕ) (ts : List ℕ) → AreWide (length names) (map (made_header seed names) ts)
wide_packets names seed [] = tt
wide_packets names seed (t ∷ ts) = (length-map names (λ name. pos (value (packet seed t) (source name))), wide_packets names seed ts)

pub wide_made : (names : List (List ℕ)) (count seed : ℕ) → AreWide (length names) (made_headers count seed names)
wide_made names count seed = wide_packets names seed (range_with_len 0 count)

pub all_wide : (width : ℕ) (hs : List (List ℤ)) → AreWide width hs → All (λ header. length header ≡ width) hs
all_wide width [] w = All-nil (λ header. length header ≡ width)
all_wide width (h ∷ hs) w = All-cons (λ header. length header ≡ width) h hs w.0 (all_wide width hs w.1)

-- one row and the rest
rows_step : (p rest : List ℤ) (n : ℕ) → rows (suc n) (length p) (p ++ rest) ≡ p ∷ rows n (length p) rest
rows_step p rest n = ap (λ l. l ∷ rows n (length p) (drop (length p) (p ++ rest))) (take-append_seam p rest) ∙ ap (λ l. p ∷ rows n (length p) l) (drop-append_seam p rest)

pub rows_back : (width : ℕ) (ps : List (List ℤ)) → AreWide width ps → rows (length ps) width (flat_map (λ p. p) ps) ≡ ps
rows_back width [] w = refl
rows_back width (p ∷ ps) w =
    let rest : List ℤ = flat_map (λ p. p) ps in
    let back : rows (length ps) (length p) rest ≡ ps = subst (λ (k : ℕ). rows (length ps) k rest ≡ ps) (sym w.0) (rows_back width ps w.1) in
    subst (λ (k : ℕ). rows (suc (length ps)) k (p ++ rest) ≡ p ∷ ps) w.0 (rows_step p rest (length ps) ∙ ap (λ l. p ∷ l) back)

pub flat_length : (width : ℕ) (ps : List (List ℤ)) → AreWide width ps → length (flat_map (λ p. p) ps) ≡ length ps * width
flat_length width [] w = omega arith
flat_length width (p ∷ ps) w = omega (arith, length-append p (flat_map (λ p. p) ps), w.0, flat_length width ps w.1)

-- what was read to one byte past a limit, and is within it, is all that is told
whole : (limit : ℕ) (bytes : List ℕ) → length (take (limit + 1) bytes) ≤ limit → take (limit + 1) bytes ≡ bytes
whole limit bytes h = take_all (limit + 1) bytes (omega (arith, length-take (limit + 1) bytes))

-- a text within the limit is read whole
all_read : (limit : ℕ) (bytes : List ℕ) → length bytes ≤ limit → take (limit + 1) bytes ≡ bytes
all_read limit bytes h = take_all (limit + 1) bytes (omega arith)

read_told : (read told : List ℕ) (p : Program) → read ≡ take 65537 told → IsProgramText read p → IsProgramText told p
read_told read told p e a = subst (λ (l : List ℕ). IsProgramText l p) (e ∙ whole 65536 told (subst (λ (l : List ℕ). length l ≤ 65536) e a.cuts.short)) a

told_read : (read told : List ℕ) (p : Program) → read ≡ take 65537 told → IsProgramText told p → IsProgramText read p
told_read read told p e a = subst (λ (l : List ℕ). IsProgramText l p) (sym (e ∙ all_read 65536 told a.cuts.short)) a

pub accepted_told : (read told : List ℕ) (p : Program) → read ≡ take 65537 told → IsAccepted read p → IsAccepted told p
accepted_told read told p e a = record { read = read_told read told p e a.read; passes = a.passes; small = a.small }

pub accepted_read : (read told : List ℕ) (p : Program) → read ≡ take 65537 told → IsAccepted told p → IsAccepted read p
accepted_read read told p e a = record { read = told_read read told p e a.read; passes = a.passes; small = a.small }

pub capture_told : (read told : List ℕ) (records : List Record) → read ≡ take 134217729 told → IsCapture read records → IsCapture told records
capture_told read told records e a = subst (λ (l : List ℕ). IsCapture l records) (e ∙ whole 134217728 told (subst (λ (l : List ℕ). length l ≤ 134217728) e a.size)) a

pub capture_read : (read told : List ℕ) (records : List Record) → read ≡ take 134217729 told → IsCapture told records → IsCapture read records
capture_read read told records e a = subst (λ (l : List ℕ). IsCapture l records) (sym (e ∙ all_read 134217728 told a.size)) a

-- what follows of all that may be told
pub if_told : {A : Type 0} (told : Option A) (P Q : A → Type 0) → ((x : A) → P x → Q x) → IfSome told P → IfSome told Q
if_told None P Q f h = tt
if_told (Some x) P Q f h = f x h
