-- The lines of the report of an answer: those of its packets and its cells, or of their sums, with the trace those of its
-- plans and of its accesses, and the last one.
use Rattle.std.specs.Prelude.{ℕ, zero, suc, ◌+◌, ◌*◌, ◌/◌, ◌%◌, ◌==◌, ℤ, Bool, if◌then◌else◌, List, [], ◌∷◌, ◌++◌, flat_map, length, take, drop, slice_index, codes}
use Rattle.capture_io.specs.Rows.{rows}
use Rattle.domino_tree.specs.declared.program.Program.{Program}
use Rattle.domino_names.specs.Infos.{infos_of}
use Rattle.domino_check.specs.NumberedMeaning.{indexing, place}
use Rattle.code_forms.specs.Staged.{Staged, group_at, first_array, unit_count}
use Rattle.shard_rounds.specs.declared.plan.Move.{Move}
use Rattle.switch_net.specs.declared.answer.Answer.{Answer}
use Rattle.switch_net.specs.Answer.{moves_of}
use Rattle.report_text.specs.declared.report.Style.{Style}
use Rattle.report_text.specs.PlanLines.{spaced_number}
use Rattle.report_text.specs.Report.{cells_in, end_lines, done_line}

-- the lines that a function gives for each number below a limit, in order
abbrev pub lines_below : (ℕ → List (List ℕ)) → ℕ → List (List ℕ)
lines_below f zero = []
lines_below f (suc n) = lines_below f n ++ f n

-- ---- plans

-- ` G U P Q`: group, unit, giver and taker of a move
abbrev pub move_text : Move → List ℕ
move_text m = spaced_number m.group ++ (spaced_number m.unit ++ (spaced_number m.giver ++ spaced_number m.taker))

-- `plan E :`, and the moves in order
abbrev pub moves_line : ℕ → List Move → List ℕ
moves_line e moves = codes "plan" ++ (spaced_number e ++ (codes " :" ++ (flat_map move_text moves ++ (10 ∷ []))))

-- the lines of the plans, the first of which is that before round e
abbrev pub moves_lines : ℕ → List (List Move) → List (List ℕ)
moves_lines e [] = []
moves_lines e (moves ∷ plans) = moves_line e moves ∷ moves_lines (e + 1) plans

-- ---- accesses

-- `serve T G U P B`: arrival, group and unit, the pipe that served it, and the set of the arrays that were touched
abbrev pub serve_line : ℕ → ℕ → ℕ → ℕ → ℕ → List ℕ
serve_line t g u p b = codes "serve" ++ (spaced_number t ++ (spaced_number g ++ (spaced_number u ++ (spaced_number p ++ (spaced_number b ++ (10 ∷ []))))))

-- the words of a packet, where all stand one packet after another
abbrev pub packet_at : ℕ → List ℤ → ℕ → List ℤ
packet_at width words t = take width (drop (t * width) words)

-- the unit of a group that these fields name: of more than one, the cell that the index of its first array names
abbrev pub named_unit : Program → Staged → ℕ → List ℤ → ℕ
named_unit p c g fields = if unit_count c (group_at c g) == 1 then 0 else place (indexing p) (first_array (group_at c g)) fields

-- the line of an access by a pipe, and none where the number is that of no pipe
abbrev pub access_lines : ℕ → ℕ → ℕ → ℕ → ℕ → List (List ℕ)
access_lines t g u by touched = if by == 255 then [] else serve_line t g u by touched ∷ []

-- the line of an entry of an answer, of which there is one for each arrival and group, by arrival and then by group
abbrev pub entry_lines : Program → Staged → Answer → ℕ → List (List ℕ)
entry_lines p c a e =
    let groups : ℕ = length c.groups in
    let fields : List ℤ = packet_at (length p.packet.fields) a.packets.items (e / groups) in
    access_lines (e / groups) (e % groups) (named_unit p c (e % groups) fields) (slice_index a.by.items e) (slice_index a.touched.items e)

-- ---- the whole

-- the lines of the plans and the accesses
abbrev pub answer_trace : Program → Staged → Answer → List (List ℕ)
answer_trace p c a = moves_lines 1 (moves_of a.plans.items) ++ lines_below (entry_lines p c a) (length a.by.items)

-- where they are wanted
abbrev pub wanted : Bool → List (List ℕ) → List (List ℕ)
wanted trace lines = if trace then lines else []

-- what the run ends with: the sums, or the packets and the registers
abbrev pub answer_body : Program → Answer → Bool → List (List ℕ)
answer_body p a brief = end_lines p.packet.fields (infos_of p) (rows a.arrivals (length p.packet.fields) a.packets.items) (cells_in (infos_of p) a.cells.items) brief

-- the lines of the report
unfoldable pub answer_lines : Program → Staged → Answer → Style → List (List ℕ)
answer_lines p c a style = answer_body p a style.brief ++ (wanted style.trace (answer_trace p c a) ++ (done_line a.arrivals ∷ []))
