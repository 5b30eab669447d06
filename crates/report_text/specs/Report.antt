-- The report of a run: what it ends with, line by line, and the whole text.
use Rattle.std.specs.Prelude.{ℕ, ◌+◌, ℤ, Bool, if◌then◌else◌, List, [], ◌∷◌, ◌++◌, map, length, take, drop, codes, decimal}
use Rattle.std.specs.Fmt.{signed_decimal}
use Rattle.std.specs.List.{flat_map, sum_by}
use Rattle.std.specs.Ordering.{int_eq}
use Rattle.mp5_words.specs.Cells.{word_at}
use Rattle.domino_tree.specs.declared.program.Program.{Program}
use Rattle.domino_tree.specs.Sequential.{one}
use Rattle.domino_names.specs.declared.infos.ArrayInfo.{ArrayInfo}
use Rattle.domino_names.specs.Infos.{infos_of}
use Rattle.switch_net.specs.Marks.{word_sum}

-- ---- packets

-- what stands before a field's value: a space, the field's name and `=`
abbrev pub label : List ℕ → List ℕ
label name = 32 ∷ (name ++ (61 ∷ []))

-- the fields in order of declaration, each behind its label
abbrev pub fields_text : List (List ℕ) → List ℤ → List ℕ
fields_text [] values = []
fields_text (l ∷ ls) [] = []
fields_text (l ∷ ls) (z ∷ zs) = (l ++ signed_decimal z) ++ fields_text ls zs

-- `pkt T`, and the fields
abbrev pub packet_line : List (List ℕ) → ℕ → List ℤ → List ℕ
packet_line labels t packet = codes "pkt " ++ (decimal t ++ (fields_text labels packet ++ (10 ∷ [])))

-- the lines of the packets from arrival t on
abbrev pub packet_lines : List (List ℕ) → ℕ → List (List ℤ) → List (List ℕ)
packet_lines labels t [] = []
packet_lines labels t (p ∷ ps) = packet_line labels t p ∷ packet_lines labels (t + 1) ps

-- ---- registers

-- `A`, where the array is declared without a length, and else `A[I]`
abbrev pub cell_name : ArrayInfo → ℕ → List ℕ
cell_name info i = if info.scalar then info.name else info.name ++ (91 ∷ (decimal i ++ (93 ∷ [])))

-- `reg A=V` or `reg A[I]=V`
abbrev pub register_line : List ℕ → ℤ → List ℕ
register_line name z = codes "reg " ++ (name ++ (61 ∷ (signed_decimal z ++ (10 ∷ []))))

-- the line of a cell that differs from its start value, and no line of another
abbrev pub cell_line : ArrayInfo → ℕ → ℤ → List (List ℕ)
cell_line info i z = if int_eq z info.start then [] else register_line (cell_name info i) z ∷ []

-- the lines of the cells from cell i on
abbrev pub cell_lines : ArrayInfo → ℕ → List ℤ → List (List ℕ)
cell_lines info i [] = []
cell_lines info i (z ∷ zs) = cell_line info i z ++ cell_lines info (i + 1) zs

-- the lines of the arrays in order of declaration
abbrev pub register_lines : List ArrayInfo → List (List ℤ) → List (List ℕ)
register_lines [] cells = []
register_lines (i ∷ infos) [] = []
register_lines (i ∷ infos) (c ∷ cells) = cell_lines i 0 c ++ register_lines infos cells

-- how many cells the arrays have in all
abbrev pub cell_count : List ArrayInfo → ℕ
cell_count = sum_by (λ (i : ArrayInfo). i.length)

-- the cells of each array, where they stand one array after another in one list of words
abbrev pub cells_in : List ArrayInfo → List ℤ → List (List ℤ)
cells_in [] words = []
cells_in (i ∷ infos) words = take i.length words ∷ cells_in infos (drop i.length words)

-- ---- sums

-- the word of a field in each packet
abbrev pub column : ℕ → List (List ℤ) → List ℤ
column field packets = map (λ (packet : List ℤ). word_at packet field) packets

-- a kind, a name, `=` and a word
abbrev pub sum_line : List ℕ → List ℕ → ℤ → List ℕ
sum_line kind name z = kind ++ (name ++ (61 ∷ (signed_decimal z ++ (10 ∷ []))))

-- `field F=V`, with the sum over all packets, for each field from a number on
abbrev pub field_lines : List (List ℕ) → ℕ → List (List ℤ) → List (List ℕ)
field_lines [] field packets = []
field_lines (name ∷ names) field packets = sum_line (codes "field ") name (word_sum (column field packets)) ∷ field_lines names (field + 1) packets

-- `array A=V`, with the sum over all its cells, for each array
abbrev pub array_lines : List ArrayInfo → List (List ℤ) → List (List ℕ)
array_lines [] cells = []
array_lines (i ∷ infos) [] = []
array_lines (i ∷ infos) (c ∷ cells) = sum_line (codes "array ") i.name (word_sum c) ∷ array_lines infos cells

-- ---- the whole

-- `done N`
abbrev pub done_line : ℕ → List ℕ
done_line n = codes "done " ++ (decimal n ++ (10 ∷ []))

-- what a run ends with: in brief the sums, else the packets and the registers
abbrev pub end_lines : List (List ℕ) → List ArrayInfo → List (List ℤ) → List (List ℤ) → Bool → List (List ℕ)
end_lines names infos packets cells brief =
    if brief then field_lines names 0 packets ++ array_lines infos cells else packet_lines (map label names) 0 packets ++ register_lines infos cells

-- the same of the sequential run over these headers
abbrev pub body_lines : Program → List (List ℤ) → Bool → List (List ℕ)
body_lines p headers brief = end_lines p.packet.fields (infos_of p) (one p headers).packets (one p headers).cells brief

-- lines one after another
abbrev pub text_of : List (List ℕ) → List ℕ
text_of = flat_map (λ line. line)

-- the report of the sequential run over these headers, in brief or not, with the lines of a trace
abbrev pub report : Program → List (List ℤ) → Bool → List (List ℕ) → List ℕ
report p headers brief trace = text_of (body_lines p headers brief ++ (trace ++ (done_line (length headers) ∷ [])))
