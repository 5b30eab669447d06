-- The lines of the sums: how many there are, and which is that of a field or an array.
use Rattle.std.proofs.Common.{◌≡◌, ◌∙◌, ◌<◌, ◌≤◌, ◌+◌, ◌%◌, ◌^◌, take, drop, arith, ℕ, zero, suc, ℤ, pos, List, [], ◌∷◌, length, get_or, codes, FitsSigned, to_z, of_z, w32, refl, sym, ap, subst}
use Rattle.std.proofs.lemmas.List.{length-map, get_or-map, drop-drop}
use Rattle.std.proofs.lemmas.List.Sums.{sum_by-cons}
use Rattle.std.proofs.lemmas.Grind.{common_steps}
use Rattle.mp5_words.specs.Cells.{word_at, cells_at}
use Rattle.capture_io.specs.Rows.{rows}
use Rattle.domino_names.specs.declared.infos.ArrayInfo.{ArrayInfo}
use Rattle.switch_net.specs.Marks.{word_sum}
use Rattle.report_text.specs.Room.{fields_room}
use Rattle.report_text.specs.Report.{column, sum_line, field_lines, array_lines, cell_count, cells_in}
use Rattle.report_text.specs.PlanReading.{IsLine}
use Rattle.report_text.specs.AnswerLines.{packet_at}
use Rattle.report_text.proofs.ReportLemmas.{rows-long, row-at}
use Rattle.switch_net.proofs.MarkLemmas.{next_word}

-- ---- how many there are

pub fields-long : (names : List (List ℕ)) (field : ℕ) (packets : List (List ℤ)) → length (field_lines names field packets) ≡ length names
fields-long [] field packets = refl
fields-long (n ∷ names) field packets = ap suc (fields-long names (field + 1) packets)

pub arrays-few : (infos : List ArrayInfo) (cells : List (List ℤ)) → length (array_lines infos cells) ≤ length infos
arrays-few [] cells = omega arith
arrays-few (i ∷ infos) [] = omega arith
arrays-few (i ∷ infos) (c ∷ cells) = let rest = arrays-few infos cells in omega (arith, rest)

pub arrays-long : (infos : List ArrayInfo) (words : List ℤ) → length (array_lines infos (cells_in infos words)) ≡ length infos
arrays-long [] words = refl
arrays-long (i ∷ infos) words = ap suc (arrays-long infos (drop i.length words))

-- ---- the line of a number

pub field-found : (names : List (List ℕ)) (from k field : ℕ) (name : List ℕ) (packets : List (List ℤ)) (text : List ℕ) → field ≡ from + k → k < length names → name ≡ get_or names k name
    → text ≡ sum_line (codes "field ") name (word_sum (column field packets)) → IsLine (field_lines names from packets) k text
field-found [] from k field name packets text at less this is = absurd (omega (arith, less))
field-found (n ∷ names) from zero field name packets text at less this is =
    let same : field ≡ from = omega (arith, at) in
    record { there = omega arith; same = is ∙ (λ i. sum_line (codes "field ") (this i) (word_sum (column (same i) packets))) }
field-found (n ∷ names) from (suc k) field name packets text at less this is =
    let rest = field-found names (from + 1) k field name packets text (omega (arith, at)) (omega (arith, less)) this is in
    let there : k < length (field_lines names (from + 1) packets) = rest.there in
    record { there = omega (arith, there); same = rest.same }

pub array-found : (infos : List ArrayInfo) (k : ℕ) (info : ArrayInfo) (words : List ℤ) (text : List ℕ) → k < length infos → info ≡ get_or infos k info
    → text ≡ sum_line (codes "array ") info.name (word_sum (cells_at (cells_in infos words) k)) → IsLine (array_lines infos (cells_in infos words)) k text
array-found [] k info words text less this is = absurd (omega (arith, less))
array-found (i ∷ infos) zero info words text less this is =
    record { there = omega arith; same = is ∙ ap (λ (x : ArrayInfo). sum_line (codes "array ") x.name (word_sum (take i.length words))) this }
array-found (i ∷ infos) (suc k) info words text less this is =
    let rest = array-found infos k info (drop i.length words) text (omega (arith, less)) this is in
    let there : k < length (array_lines infos (cells_in infos (drop i.length words))) = rest.there in
    record { there = omega (arith, there); same = rest.same }

-- ---- the words of a field

pub column-long : (field n width : ℕ) (words : List ℤ) → length (column field (rows n width words)) ≡ n
column-long field n width words = length-map (rows n width words) (λ (packet : List ℤ). word_at packet field) ∙ rows-long n width words

-- that of a packet
column-at : (field n width : ℕ) (words : List ℤ) (t : ℕ) → t < n → word_at (column field (rows n width words)) t ≡ word_at (packet_at width words t) field
column-at field n width words t less =
    get_or-map (λ (packet : List ℤ). word_at packet field) (rows n width words) t [] (pos 0) (let all = rows-long n width words in omega (arith, less, all))
    ∙ ap (λ packet. word_at packet field) (row-at n width words t less)

-- the sum of the first packets' words and the next one is that of one packet more
pub column-next : (field n width : ℕ) (words packet : List ℤ) (t bits : ℕ) → t < n → packet ≡ packet_at width words t → bits < 2 ^ 32 → FitsSigned w32 (word_at packet field)
    → to_z w32 bits ≡ word_sum (take t (column field (rows n width words)))
    → to_z w32 ((bits + of_z w32 (word_at packet field)) % 2 ^ 32) ≡ word_sum (take (t + 1) (column field (rows n width words)))
column-next field n width words packet t bits less this few fits is =
    let same : word_at packet field ≡ word_at (column field (rows n width words)) t = ap (λ l. word_at l field) this ∙ sym (column-at field n width words t less) in
    ap (λ z. to_z w32 ((bits + of_z w32 z) % 2 ^ 32)) same
    ∙ next_word (column field (rows n width words)) t bits (let all = column-long field n width words in omega (arith, less, all)) few (subst (FitsSigned w32) same fits) is

-- ---- the cells of an array

-- they stand behind those of the arrays before it
pub cells-here : (infos : List ArrayInfo) (words : List ℤ) (array : ℕ) (info : ArrayInfo) → array < length infos → info ≡ get_or infos array info
    → cells_at (cells_in infos words) array ≡ take info.length (drop (cell_count (take array infos)) words)
cells-here [] words array info less this = absurd (omega (arith, less))
cells-here (i ∷ infos) words zero info less this = ap (λ (x : ArrayInfo). take x.length words) (sym this)
cells-here (i ∷ infos) words (suc array) info less this =
    let all : cell_count (take (suc array) (i ∷ infos)) ≡ i.length + cell_count (take array infos) = sum_by-cons (λ (x : ArrayInfo). x.length) i (take array infos) in
    cells-here infos (drop i.length words) array info (omega (arith, less)) this
    ∙ ap (take info.length) (drop-drop (cell_count (take array infos)) i.length words)
    ∙ ap (λ n. take info.length (drop n words)) (sym all)

-- and within all of them
pub cells-within : (infos : List ArrayInfo) (array : ℕ) (info : ArrayInfo) → array < length infos → info ≡ get_or infos array info
    → cell_count (take array infos) + info.length ≤ cell_count infos
cells-within [] array info less this = absurd (omega (arith, less))
cells-within (i ∷ infos) zero info less this =
    let all : cell_count (i ∷ infos) ≡ i.length + cell_count infos = sum_by-cons (λ (x : ArrayInfo). x.length) i infos in
    let same : info.length ≡ i.length = ap (λ (x : ArrayInfo). x.length) this in
    let none : cell_count (take 0 (i ∷ infos)) ≡ 0 = refl in
    omega (arith, all, same, none)
cells-within (i ∷ infos) (suc array) info less this =
    let all : cell_count (i ∷ infos) ≡ i.length + cell_count infos = sum_by-cons (λ (x : ArrayInfo). x.length) i infos in
    let front : cell_count (take (suc array) (i ∷ infos)) ≡ i.length + cell_count (take array infos) = sum_by-cons (λ (x : ArrayInfo). x.length) i (take array infos) in
    let rest = cells-within infos array info (omega (arith, less)) this in
    omega (arith, all, front, rest)

-- ---- room

-- no field's name is longer than there is room for all
pub field-short : (names : List (List ℕ)) (k : ℕ) (d : List ℕ) → k < length names → length (get_or names k d) + 13 ≤ fields_room names
field-short [] k d less = absurd (omega (arith, less))
field-short (n ∷ names) zero d less =
    let all : fields_room (n ∷ names) ≡ (length n + 13) + fields_room names = grind (arith, common_steps) in
    let within : length n + 13 ≤ fields_room (n ∷ names) = omega (arith, all) in
    within
field-short (n ∷ names) (suc k) d less =
    let all : fields_room (n ∷ names) ≡ (length n + 13) + fields_room names = grind (arith, common_steps) in
    let rest : length (get_or names k d) + 13 ≤ fields_room names = field-short names k d (omega (arith, less)) in
    let within : length (get_or names k d) + 13 ≤ fields_room (n ∷ names) = omega (arith, all, rest) in
    within
