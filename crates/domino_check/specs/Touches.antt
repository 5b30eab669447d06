-- What the check of moving indexes keeps of each site: the arrays that it touches, and the field that it assigns.
use Rattle.std.specs.Prelude.{◌≡◌, ℕ, ◌<◌, Bool, true, false, ◌&&◌, List, [], ◌∷◌, ◌++◌, length, flat_map, map, Option, Some, None}
use Rattle.std.specs.List.{slice_index_or}
use Rattle.domino_check.specs.declared.numbered.CheckedExpr.{CheckedExpr}
use Rattle.domino_check.specs.declared.numbered.CheckedStmt.{CheckedStmt, fold-CheckedStmt}
use Rattle.domino_check.specs.declared.numbered.CheckedStmt.TheOpen as open_form
use Rattle.domino_check.specs.declared.numbered.CheckedArm.{CheckedArm, fold-CheckedArm}
use Rattle.domino_check.specs.declared.sites.Touch.{Touch}
use Rattle.domino_check.specs.NumberedMeaning.{numbered_arrays}
use Rattle.domino_check.specs.Sites.{Assigned, to_field, to_cell, nothing, Site, stands_in}

-- the field that a site assigns, where it does
abbrev pub field_of : Assigned → Option ℕ
field_of (to_field f) = Some f
field_of (to_cell a) = None
field_of nothing = None

-- what is kept of a site
abbrev pub touch_of : Site → Touch
touch_of site = record { arrays = site.touches; field = field_of site.assigns }

-- these, one list after another
abbrev pub joined_touches : List (List Touch) → List Touch
joined_touches lists = flat_map (λ (l : List Touch). l) lists

-- those in the last block of a chain, where there is one
abbrev pub last_touches : Option (List (List Touch)) → List Touch
last_touches None = []
last_touches (Some body) = joined_touches body

-- what is kept of a statement, from its arms and blocks
abbrev pub stmt_touching : open_form.CheckedStmt-F (List Touch) (List Touch) → List Touch
stmt_touching (open_form.CheckedStmt-F.SetField f e) = record { arrays = numbered_arrays e; field = Some f } ∷ []
stmt_touching (open_form.CheckedStmt-F.SetCell a e) = record { arrays = a ∷ numbered_arrays e; field = None } ∷ []
stmt_touching (open_form.CheckedStmt-F.If arms last) = joined_touches arms ++ last_touches last

-- what is kept of an arm: its condition, and its statements
abbrev pub arm_touching : open_form.CheckedArm-F (List Touch) (List Touch) → List Touch
arm_touching arm = record { arrays = numbered_arrays arm.cond; field = None } ∷ joined_touches arm.body

abbrev pub stmt_touches : CheckedStmt → List Touch
stmt_touches = fold-CheckedStmt (List Touch) (List Touch) stmt_touching arm_touching

abbrev pub arm_touches : CheckedArm → List Touch
arm_touches = fold-CheckedArm (List Touch) (List Touch) stmt_touching arm_touching

-- what is kept of a body, in text order
abbrev pub touches_of : List CheckedStmt → List Touch
touches_of body = joined_touches (map stmt_touches body)

-- ---- marks

-- whether an array is marked, and the field stands in its index
abbrev pub is_moved : List Bool → List (Option CheckedExpr) → ℕ → ℕ → Bool
is_moved marks indexes f array = slice_index_or marks array false && stands_in indexes f array

-- the first array for which that is so
abbrev pub IsFirstMoved : List Bool → List (Option CheckedExpr) → ℕ → ℕ → Type 0
IsFirstMoved marks indexes f array = (array < length indexes) × (is_moved marks indexes f array ≡ true) × ((b : ℕ) → b < array → is_moved marks indexes f b ≡ false)

-- it is so for none
abbrev pub NoneMoved : List Bool → List (Option CheckedExpr) → ℕ → Type 0
NoneMoved marks indexes f = (b : ℕ) → b < length indexes → is_moved marks indexes f b ≡ false

-- for which array it is so first, where a field is assigned
abbrev pub MovedBy : List Bool → List (Option CheckedExpr) → Option ℕ → Option ℕ → Type 0
MovedBy marks indexes None None = Unit {0}
MovedBy marks indexes None (Some array) = ⊥
MovedBy marks indexes (Some f) None = NoneMoved marks indexes f
MovedBy marks indexes (Some f) (Some array) = IsFirstMoved marks indexes f array
