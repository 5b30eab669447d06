-- The trace of a run, told from the source: which plans there were, and who served which access.
use Rattle.std.specs.Prelude.{ℕ, ℤ, List, [], ◌∷◌, ◌++◌, length, Option, Some, None}
use Rattle.mp5_words.specs.declared.settings.Settings.{Settings}
use Rattle.domino_tree.specs.declared.program.Program.{Program}
use Rattle.code_forms.specs.Staged.{Staged}
use Rattle.shard_rounds.specs.declared.plan.Move.{Move}
use Rattle.shard_rounds.specs.Rounds.{owner}
use Rattle.run_laws.specs.Run.{run_of, round_of, place_of}
use Rattle.compiled_run.specs.SourceRun.{source_touched}
use Rattle.report_text.specs.AnswerLines.{lines_below, moves_lines, serve_line}

-- the line of an arrival's access at a group where it has a place: by these plans the unit's owner in the arrival's round
-- served it, and the source touches these arrays of the group; no line without a place
abbrev pub place_serves : Program → Staged → List (List ℤ) → Settings → List (List Move) → ℕ → ℕ → Option ℕ → List (List ℕ)
place_serves p c headers settings plans t g None = []
place_serves p c headers settings plans t g (Some u) =
    serve_line t g u (owner settings.pipelines plans (round_of (run_of c headers settings) t) g u) (source_touched p c headers t g) ∷ []

-- the line of an arrival at a group
abbrev pub group_serves : Program → Staged → List (List ℤ) → Settings → List (List Move) → ℕ → ℕ → List (List ℕ)
group_serves p c headers settings plans t g = place_serves p c headers settings plans t g (place_of (run_of c headers settings) t g)

-- those of an arrival at all groups, in order
abbrev pub arrival_serves : Program → Staged → List (List ℤ) → Settings → List (List Move) → ℕ → List (List ℕ)
arrival_serves p c headers settings plans t = lines_below (group_serves p c headers settings plans t) (length c.groups)

-- the plans, and then the accesses of all arrivals, in order
abbrev pub trace_lines : Program → Staged → List (List ℤ) → Settings → List (List Move) → List (List ℕ)
trace_lines p c headers settings plans = moves_lines 1 plans ++ lines_below (arrival_serves p c headers settings plans) (length headers)
