-- The arrays that the sites of a body touch, in text order.
use Rattle.std.specs.Prelude.{ℕ, List, [], ◌∷◌, ◌++◌, flat_map, map, Option, Some, None}
use Rattle.domino_check.specs.declared.numbered.CheckedStmt.{CheckedStmt, fold-CheckedStmt}
use Rattle.domino_check.specs.declared.numbered.CheckedStmt.TheOpen as open_form
use Rattle.domino_check.specs.declared.numbered.CheckedArm.{CheckedArm, fold-CheckedArm}
use Rattle.domino_check.specs.NumberedMeaning.{numbered_arrays}

-- these, one list after another
abbrev pub joined : List (List ℕ) → List ℕ
joined lists = flat_map (λ (l : List ℕ). l) lists

-- those of the last block of a chain, where there is one
abbrev pub last_touched : Option (List (List ℕ)) → List ℕ
last_touched None = []
last_touched (Some body) = joined body

-- those of a statement, from its arms and blocks; the target stands before the right side
abbrev pub stmt_touching : open_form.CheckedStmt-F (List ℕ) (List ℕ) → List ℕ
stmt_touching (open_form.CheckedStmt-F.SetField f e) = numbered_arrays e
stmt_touching (open_form.CheckedStmt-F.SetCell a e) = a ∷ numbered_arrays e
stmt_touching (open_form.CheckedStmt-F.If arms last) = joined arms ++ last_touched last

-- those of an arm: of its condition, and of its statements
abbrev pub arm_touching : open_form.CheckedArm-F (List ℕ) (List ℕ) → List ℕ
arm_touching arm = numbered_arrays arm.cond ++ joined arm.body

abbrev pub stmt_touched : CheckedStmt → List ℕ
stmt_touched = fold-CheckedStmt (List ℕ) (List ℕ) stmt_touching arm_touching

abbrev pub arm_touched : CheckedArm → List ℕ
arm_touched = fold-CheckedArm (List ℕ) (List ℕ) stmt_touching arm_touching

-- those of a body
abbrev pub body_touched : List CheckedStmt → List ℕ
body_touched body = joined (map stmt_touched body)

-- those of the arms of a chain
abbrev pub arms_touched : List CheckedArm → List ℕ
arms_touched arms = joined (map arm_touched arms)
