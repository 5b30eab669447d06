-- The words of a capture, cut into the rows of its packets.
use Rattle.std.proofs.Common.{◌≡◌, ℕ, zero, suc, ◌+◌, ◌*◌, ◌<◌, ◌≤◌, false, bytes_eq, get_or, ℤ, List, [], ◌∷◌, ◌++◌, length, take, drop, map, Some, refl, sym, ap, ◌∙◌, arith}
use Rattle.std.specs.Prelude.{slice_get}
use Rattle.std.proofs.Common.{ap₂, mul-le-mul_right}
use Rattle.std.proofs.lemmas.Bool.{cond-false}
use Rattle.std.specs.List.{flat_map}
use Rattle.std.proofs.lemmas.List.{drop_more, take_at, drop_at, drop-drop, length-append, length-drop, length-map, nil_from_length, take-append-drop}
use Rattle.capture_io.specs.declared.source.Source.{Source}
use Rattle.capture_io.specs.ClassicCapture.{Record}
use Rattle.capture_io.specs.Header.{field, header, name_of, source, source_in, value, start_of, headers}
use Rattle.capture_io.specs.Fields.{fields, words}
use Rattle.capture_io.specs.Rows.{rows}

pub length-rows : (n width : ℕ) (ws : List ℤ) → length (rows n width ws) ≡ n
length-rows zero width ws = refl
length-rows (suc n) width ws = ap suc (length-rows n width (drop width ws))

-- rows one after another are the words that were cut into them
pub flat-rows : (n width : ℕ) (ws : List ℤ) → length ws ≡ n * width → flat_map (λ (row : List ℤ). row) (rows n width ws) ≡ ws
flat-rows zero width ws e = sym (nil_from_length ws (omega (arith, e)))
flat-rows (suc n) width ws e =
    let rest : length (drop width ws) ≡ n * width = omega (arith, e, length-drop width ws) in
    ap (λ (l : List ℤ). take width ws ++ l) (flat-rows n width (drop width ws) rest) ∙ take-append-drop width ws

-- row t begins behind the t rows before it
pub slice_get-rows : (n width : ℕ) (ws : List ℤ) (t : ℕ) → t < n → slice_get (rows n width ws) t ≡ Some (take width (drop (t * width) ws))
slice_get-rows zero width ws t h = absurd (omega arith)
slice_get-rows (suc n) width ws zero h =
    let none : 0 * width ≡ 0 = omega arith in
    rw none refl
slice_get-rows (suc n) width ws (suc t) h =
    let behind : width + t * width ≡ suc t * width = omega arith in
    slice_get-rows n width (drop width ws) t (omega arith) ∙ ap (λ (l : List ℤ). Some (take width l)) (drop-drop (t * width) width ws ∙ ap (λ (k : ℕ). drop k ws) behind)

pub length-words : (sources : List Source) (start : ℕ) (rs : List Record) → length (words sources start rs) ≡ length rs * length sources
length-words sources start [] = omega arith
length-words sources start (r ∷ rs) =
    omega (arith, length-words sources start rs, length-append (fields sources start r) (words sources start rs), length-map sources (value start r))

pub rows-words : (sources : List Source) (start : ℕ) (rs : List Record) → rows (length rs) (length sources) (words sources start rs) ≡ map (fields sources start) rs
rows-words sources start [] = refl
rows-words sources start (r ∷ rs) =
    let width = length-map sources (value start r) in
    let first : take (length sources) (fields sources start r ++ words sources start rs) ≡ fields sources start r = take_at (fields sources start r) (words sources start rs) (length sources) width in
    let after : drop (length sources) (fields sources start r ++ words sources start rs) ≡ words sources start rs = drop_at (fields sources start r) (words sources start rs) (length sources) width in
    ap₂ ◌∷◌ first (ap (rows (length rs) (length sources)) after ∙ rows-words sources start rs)

-- a place of another name is passed
pub passed_source : (places : List Source) (i : ℕ) (d : Source) (name : List ℕ) → i < length places → bytes_eq name (name_of (get_or places i d)) ≡ false → source_in (drop i places) name ≡ source_in (drop (i + 1) places) name
passed_source places i d name h other =
    ap (λ (l : List Source). source_in l name) (drop_more places i d h)
    ∙ cond-false (bytes_eq name (name_of (get_or places i d))) (get_or places i d) (source_in (drop (i + 1) places) name) other

fields-names : (names : List (List ℕ)) (start : ℕ) (r : Record) → fields (map source names) start r ≡ header names start r
fields-names [] start r = refl
fields-names (name ∷ names) start r = ap (λ l. field start r name ∷ l) (fields-names names start r)

each-names : (names : List (List ℕ)) (start : ℕ) (rs : List Record) → map (fields (map source names) start) rs ≡ map (header names start) rs
each-names names start [] = refl
each-names names start (r ∷ rs) = ap₂ ◌∷◌ (fields-names names start r) (each-names names start rs)

-- the rows of a capture are the fields of its records
pub rows_are_headers : (names : List (List ℕ)) (rs : List Record) → rows (length rs) (length names) (words (map source names) (start_of rs) rs) ≡ headers names rs
rows_are_headers names rs =
    ap (λ (k : ℕ). rows (length rs) k (words (map source names) (start_of rs) rs)) (sym (length-map names source)) ∙ (rows-words (map source names) (start_of rs) rs ∙ each-names names (start_of rs) rs)

-- a row is within the rows
pub row_within : (t n width : ℕ) → t < n → t * width + width ≤ n * width
row_within t n width h =
    let next : suc t * width ≤ n * width = mul-le-mul_right width h in
    omega arith
