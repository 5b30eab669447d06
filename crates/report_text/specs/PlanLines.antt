-- The lines of the text that tells of a program's code: its canonical text, its groups, and the places of each header.
use Rattle.std.specs.Prelude.{ℕ, zero, suc, ◌+◌, ◌^◌, ◌/◌, ◌%◌, ◌==◌, ℤ, Bool, if◌then◌else◌, List, [], ◌∷◌, ◌++◌, length, codes, decimal, Option, Some, None}
use Rattle.std.specs.List.{flat_map}
use Rattle.domino_tree.specs.declared.program.Program.{Program}
use Rattle.domino_tree.specs.Text.{text_of}
use Rattle.domino_names.specs.declared.infos.ArrayInfo.{ArrayInfo}
use Rattle.domino_names.specs.Infos.{infos_of}
use Rattle.code_forms.specs.Staged.{Staged, group_at, unit_count}
use Rattle.code_forms.specs.StagedMeaning.{place, array_set}
use Rattle.report_text.specs.Report.{done_line}

-- ---- the canonical text

-- a byte before the lines of a text: the first of them begins with it
abbrev pub before : ℕ → List (List ℕ) → List (List ℕ)
before b [] = (b ∷ []) ∷ []
before b (l ∷ ls) = (b ∷ l) ∷ ls

-- the lines of a text, each with the newline that ends it
abbrev pub lines_of : List ℕ → List (List ℕ)
lines_of [] = []
lines_of (b ∷ bs) = if b == 10 then (b ∷ []) ∷ lines_of bs else before b (lines_of bs)

-- ---- the code

-- a space and a number
abbrev pub spaced_number : ℕ → List ℕ
spaced_number n = 32 ∷ decimal n

-- `code I S G`: the numbers of instructions, stages and groups
abbrev pub code_line : Staged → List ℕ
code_line c = codes "code" ++ (spaced_number (length c.instrs) ++ (spaced_number c.stages ++ (spaced_number (length c.groups) ++ (10 ∷ []))))

-- whether an array is in a set
abbrev pub in_set : ℕ → ℕ → Bool
in_set set a = set / 2 ^ a % 2 == 1

-- a space and the name, for each array of a set, where the first of these is array a
abbrev pub names_in : ℕ → ℕ → List ArrayInfo → List ℕ
names_in set a [] = []
names_in set a (i ∷ infos) = (if in_set set a then 32 ∷ i.name else []) ++ names_in set (a + 1) infos

-- `group G depth D units N :`, and the names of its arrays in order of declaration
abbrev pub group_line : List ArrayInfo → Staged → ℕ → List ℕ
group_line infos c g =
    codes "group" ++ (spaced_number g ++ (codes " depth" ++ (spaced_number (group_at c g).depth ++ (codes " units" ++ (spaced_number (unit_count c (group_at c g))
    ++ (codes " :" ++ (names_in (array_set (group_at c g).arrays) 0 infos ++ (10 ∷ []))))))))

-- the lines of the first n groups
abbrev pub group_lines : List ArrayInfo → Staged → ℕ → List (List ℕ)
group_lines infos c zero = []
group_lines infos c (suc n) = group_lines infos c n ++ (group_line infos c n ∷ [])

-- ---- the places

-- `place T G U`: arrival, group and unit
abbrev pub place_line : ℕ → ℕ → ℕ → List ℕ
place_line t g u = codes "place" ++ (spaced_number t ++ (spaced_number g ++ (spaced_number u ++ (10 ∷ []))))

-- the line of a place, if there is one
abbrev pub place_lines : ℕ → ℕ → Option ℕ → List (List ℕ)
place_lines t g None = []
place_lines t g (Some u) = place_line t g u ∷ []

-- the lines of a header's places at the first n groups
abbrev pub header_lines : Staged → ℕ → List ℤ → ℕ → List (List ℕ)
header_lines c t header zero = []
header_lines c t header (suc n) = header_lines c t header n ++ place_lines t n (place c header n)

-- the lines of the places of these headers, the first of which is that of arrival t
abbrev pub arrival_lines : Staged → ℕ → List (List ℤ) → List (List ℕ)
arrival_lines c t [] = []
arrival_lines c t (h ∷ hs) = header_lines c t h (length c.groups) ++ arrival_lines c (t + 1) hs

-- ---- the whole

-- the lines that stand before those of the places
abbrev pub head_lines : Program → Staged → List (List ℕ)
head_lines p c = lines_of (text_of p) ++ (code_line c ∷ group_lines (infos_of p) c (length c.groups))

-- the lines of the whole text
abbrev pub plan_lines : Program → Staged → List (List ℤ) → List (List ℕ)
plan_lines p c headers = head_lines p c ++ (arrival_lines c 0 headers ++ (done_line (length headers) ∷ []))

-- the lines one after another
abbrev pub plan_text : Program → Staged → List (List ℤ) → List ℕ
plan_text p c headers = flat_map (λ line. line) (plan_lines p c headers)
