-- The lines of a text, from one of them on; and that a capture's headers are the code's.
use Rattle.std.proofs.Common.{◌≡◌, ◌∙◌, ◌≤◌, ◌+◌, ℕ, zero, suc, ℤ, List, [], ◌∷◌, ◌++◌, length, drop, sym, ap, subst}
use Rattle.std.specs.List.{flat_map}
use Rattle.std.proofs.lemmas.List.{drop_more, drop_all}
use Rattle.domino_compile.specs.Compiled.{IsCompiled, Translation}
use Rattle.report_text.specs.PlanReading.{AreHeaders, BelongTogether, IsLine, IsBehind}
use Rattle.switch_runner.specs.Top.{AreWide}

lines_from : (lines : List (List ℕ)) (k : ℕ) (line : List ℕ) → IsLine lines k line → flat_map (λ l. l) (drop k lines) ≡ line ++ flat_map (λ l. l) (drop (k + 1) lines)
lines_from lines k line is =
    ap (flat_map (λ (l : List ℕ). l)) (drop_more lines k [] is.there)
    ∙ ap (λ l. l ++ flat_map (λ (l : List ℕ). l) (drop (k + 1) lines)) (sym is.same)

-- the bytes of a line that was read, and the lines after it
pub line_and_rest : (now lines : List (List ℕ)) (k : ℕ) (line bytes : List ℕ) → now ≡ lines → IsLine now k line → bytes ≡ line
    → flat_map (λ l. l) (drop k lines) ≡ bytes ++ flat_map (λ l. l) (drop (k + 1) lines)
line_and_rest now lines k line bytes same is e =
    lines_from lines k bytes (subst (λ (l : List ℕ). IsLine lines k l) (sym e) (subst (λ (t : List (List ℕ)). IsLine t k line) same is))

-- no line is left behind the last
pub no_lines : (now lines : List (List ℕ)) (k : ℕ) (line : List ℕ) → now ≡ lines → IsBehind now k line → flat_map (λ l. l) (drop k lines) ≡ []
no_lines now lines k line same is =
    ap (flat_map (λ (l : List ℕ). l)) (drop_all k lines (subst (λ (t : List (List ℕ)). length t ≤ k) same is.past))

-- each header is as wide as all are
are_headers : (width : ℕ) (headers : List (List ℤ)) → AreWide width headers → AreHeaders width headers
are_headers width [] wide t h there = absurd (let no = there in cc)
are_headers width (x ∷ headers) wide zero h there = (let same : x ≡ h = cc in ap (λ (l : List ℤ). length l) (sym same)) ∙ wide.0
are_headers width (x ∷ headers) wide (suc t) h there = are_headers width headers wide.1 t h there

-- compiled code belongs to its program, and to headers as wide as the program's fields
pub belong : (t : Translation) (headers : List (List ℤ)) → IsCompiled t.program t.code → AreWide (length t.program.packet.fields) headers → BelongTogether t.program t.code headers
belong t headers compiled wide = record {
  fields = compiled.fields;
  arrays = compiled.lengths;
  wide = are_headers t.code.fields headers (subst (λ (n : ℕ). AreWide n headers) (sym compiled.fields) wide);
}
