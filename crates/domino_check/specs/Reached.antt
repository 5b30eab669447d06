-- The sites that an execution reaches: the assignments that it executes and the conditions that it evaluates. A
-- condition of a chain is evaluated where none before it holds at the words at the time, and its block is
-- executed where it holds.
use Rattle.std.specs.Prelude.{◌≡◌, ℕ, ◌<◌, ◌||◌, false, if◌then◌else◌, List, [], ◌∷◌, ◌++◌, length, map, Option, Some, None}
use Rattle.std.specs.List.{slice_index_or, Contains}
use Rattle.std.specs.Option.{option_map}
use Rattle.mp5_words.specs.Words.{truth}
use Rattle.domino_tree.specs.declared.program.Program.{Program}
use Rattle.domino_tree.specs.Execution.{State, Does, Choice, touch, in_turn, chosen}
use Rattle.domino_check.specs.declared.numbered.CheckedExpr.{CheckedExpr}
use Rattle.domino_check.specs.declared.numbered.CheckedStmt.{CheckedStmt, fold-CheckedStmt}
use Rattle.domino_check.specs.declared.numbered.CheckedStmt.TheOpen as open_form
use Rattle.domino_check.specs.declared.numbered.CheckedArm.{CheckedArm, fold-CheckedArm}
use Rattle.domino_check.specs.Numbering.{numbered_body}
use Rattle.domino_check.specs.NumberedMeaning.{Indexing, indexing, numbered_value, numbered_arrays, set_field, set_cell, executed_from}
use Rattle.domino_check.specs.Sites.{Site, field_site, cell_site, condition_site, program_sites, is_touched}

-- the sites that are reached from a state, from the conditions that decide about them
abbrev pub Reaches : Type 0
Reaches = List CheckedExpr → State → List Site

-- a statement: what it does, and the sites that it reaches
pub record Walk : Type 0 where
  pub does : Does
  pub reaches : Reaches

-- an arm: its condition, what it does, and the sites that its block reaches
pub record WalkArm : Type 0 where
  pub cond : CheckedExpr
  pub choice : Choice
  pub reaches : Reaches

-- statements in text order, each from the state that those before leave
abbrev pub block_reaches : List Walk → Reaches
block_reaches [] context s = []
block_reaches (w ∷ ws) context s = w.reaches context s ++ block_reaches ws context (w.does s)

-- the last block of a chain, where there is one
abbrev pub last_reaches : Option (List Walk) → Reaches
last_reaches None context s = []
last_reaches (Some ws) context s = block_reaches ws context s

-- a condition, and then its block where it holds, and else what is behind
abbrev pub chain_reaches : List WalkArm → Option (List Walk) → Reaches
chain_reaches [] last context s = last_reaches last context s
chain_reaches (a ∷ arms) last context s =
    condition_site a.cond context
    ∷ (if a.choice.holds s.store then a.reaches (context ++ a.cond ∷ []) (touch a.choice.arrays s) else chain_reaches arms last (context ++ a.cond ∷ []) (touch a.choice.arrays s))

-- what statements do, one after another
abbrev pub all_do : List Walk → List Does
all_do ws = map (λ (w : Walk). w.does) ws

-- a statement, from its arms and blocks
abbrev pub stmt_walking : Indexing → open_form.CheckedStmt-F Walk WalkArm → Walk
stmt_walking indexing (open_form.CheckedStmt-F.SetField f e) = record { does = set_field indexing f e; reaches = λ context s. field_site f e context ∷ [] }
stmt_walking indexing (open_form.CheckedStmt-F.SetCell a e) = record { does = set_cell indexing a e; reaches = λ context s. cell_site a e context ∷ [] }
stmt_walking indexing (open_form.CheckedStmt-F.If arms last) = record {
  does = chosen (map (λ (a : WalkArm). a.choice) arms) (option_map all_do last);
  reaches = chain_reaches arms last;
}

-- an arm, from its statements
abbrev pub arm_walking : Indexing → open_form.CheckedArm-F Walk WalkArm → WalkArm
arm_walking indexing arm = record {
  cond = arm.cond;
  choice = record { holds = λ s. truth (numbered_value indexing arm.cond s); arrays = numbered_arrays arm.cond; block = in_turn (all_do arm.body) };
  reaches = block_reaches arm.body;
}

-- one statement
abbrev pub walk : Indexing → CheckedStmt → Walk
walk indexing = fold-CheckedStmt Walk WalkArm (stmt_walking indexing) (arm_walking indexing)

-- one arm
abbrev pub walk_arm : Indexing → CheckedArm → WalkArm
walk_arm indexing = fold-CheckedArm Walk WalkArm (stmt_walking indexing) (arm_walking indexing)

-- the sites that an execution of a program reaches from a state
abbrev pub reached_sites : Program → State → List Site
reached_sites p start = block_reaches (map (walk (indexing p)) (numbered_body p)) [] start

-- an execution touches an array exactly where a site that it reaches touches it, and each such site is one of
-- the program
pub record TouchesReached (p : Program) (start : State) : Type 0 where
  pub exactly : (array : ℕ) → array < length start.touched
      → slice_index_or (executed_from p start).touched array false ≡ (slice_index_or start.touched array false || is_touched (reached_sites p start) array)
  pub among : (site : Site) → Contains (reached_sites p start) site → Contains (program_sites p) site
