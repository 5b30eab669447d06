-- How many instructions the loads make that are left.
use Rattle.std.proofs.Common.{◌≡◌, ℕ, zero, suc, ◌+◌, ◌*◌, ◌<◌, ◌≤◌, List, [], ◌∷◌, length, map, sum, replicate, slice_set, get_or, Option, None, Some, refl, sym, ap, arith}
use Rattle.std.proofs.lemmas.List.Sums.{sum_by-cons}
use Rattle.code_forms.specs.declared.guard.GuardExpr.{GuardExpr}
use Rattle.code_forms.specs.declared.guard.ArrayShape.{ArrayShape}
use Rattle.code_forms.specs.declared.flat.Operand.{Operand}
use Rattle.code_forms.specs.GuardMeaning.{index_at}
use Rattle.code_forms.specs.GuardValid.{index_count, shape_count}
use Rattle.ssa_flatten.specs.Counting.{index_operators, unloaded}

-- one array is loaded
pub one_loaded : (shapes : List ArrayShape) (copies : List (Option Operand)) (a : ℕ) (x : Operand) → length copies ≡ length shapes → a < length shapes → get_or copies a None ≡ None
    → unloaded shapes copies ≡ (2 + index_operators (index_at shapes a)) + unloaded shapes (slice_set copies a (Some x))
one_loaded [] copies a x long there new = absurd (omega arith)
one_loaded (s ∷ shapes) [] a x long there new = absurd (omega arith)
one_loaded (s ∷ shapes) (None ∷ copies) zero x long there new = refl
one_loaded (s ∷ shapes) (Some y ∷ copies) zero x long there new = absurd cc
one_loaded (s ∷ shapes) (Some y ∷ copies) (suc a) x long there new = one_loaded shapes copies a x (omega (arith, long)) (omega (arith, there)) new
one_loaded (s ∷ shapes) (None ∷ copies) (suc a) x long there new =
    let rest : unloaded shapes copies ≡ (2 + index_operators (index_at shapes a)) + unloaded shapes (slice_set copies a (Some x)) = one_loaded shapes copies a x (omega (arith, long)) (omega (arith, there)) new in
    omega (arith, rest)

index_short : (index : Option GuardExpr) → index_operators index ≤ index_count index
index_short None = omega arith
index_short (Some index) = omega arith

-- at first they are those of all arrays
pub unloaded_first : (shapes : List ArrayShape) → unloaded shapes (replicate (length shapes) None) ≤ sum (map shape_count shapes) + 2 * length shapes
unloaded_first [] = omega arith
unloaded_first (s ∷ shapes) =
    let rest : unloaded shapes (replicate (length shapes) None) ≤ sum (map shape_count shapes) + 2 * length shapes = unloaded_first shapes in
    let here : index_operators s.index ≤ index_count s.index = index_short s.index in
    let total : sum (shape_count s ∷ map shape_count shapes) ≡ shape_count s + sum (map shape_count shapes) = sum_by-cons (λ (n : ℕ). n) (shape_count s) (map shape_count shapes) in
    omega (arith, rest, here, total)

-- an item that is there, whatever stands for one that isn't
pub any_default : {X : Type 0} (xs : List X) (k : ℕ) (d e : X) → k < length xs → get_or xs k d ≡ get_or xs k e
any_default [] k d e there = absurd (omega arith)
any_default (x ∷ xs) zero d e there = refl
any_default (x ∷ xs) (suc k) d e there = any_default xs k d e (omega (arith, there))

-- the index of a shape that is there
pub index_of : (shapes : List ArrayShape) (k : ℕ) (s : ArrayShape) → k < length shapes → s ≡ get_or shapes k s → index_at shapes k ≡ s.index
index_of [] k s there is = absurd (omega arith)
index_of (x ∷ shapes) zero s there is = ap (λ (y : ArrayShape). y.index) (sym is)
index_of (x ∷ shapes) (suc k) s there is = index_of shapes k s (omega (arith, there)) is
