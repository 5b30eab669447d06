-- What valid guarded code keeps, as facts.
use Rattle.std.proofs.Common.{◌≡◌, ℕ, zero, suc, Bool, true, false, ◌&&◌, List, [], ◌∷◌, ◌++◌, get_or, slice_set, Option, None, Some, refl, sym, ap, ◌∙◌}
use Rattle.code_forms.specs.declared.guard.GuardExpr.{GuardExpr}
use Rattle.code_forms.specs.declared.guard.GuardLine.{GuardLine}
use Rattle.code_forms.specs.declared.guard.ArrayShape.{ArrayShape}
use Rattle.code_forms.specs.GuardValid.{index_mentions, moves_marked, guards_after, guard_fits, guards_fit}
use Rattle.mp5_words.specs.Domain.{Ops}
use Rattle.code_forms.specs.GuardMeaning.{index_at, index_value}
use Rattle.code_forms.proofs.ValueLemmas.{or_front, or_back, unmoved}

pub and_front : (a b : Bool) → (a && b) ≡ true → a ≡ true
and_front true b e = refl
and_front false b e = e

pub and_back : (a b : Bool) → (a && b) ≡ true → b ≡ true
and_back true b e = e
and_back false b e = absurd cc

pub and_both : (a b : Bool) → a ≡ true → b ≡ true → (a && b) ≡ true
and_both a b one two = λ i. one i && two i

-- the field stands in no index of a marked array
not_mentioned : (f : ℕ) (marks : List Bool) (shapes : List ArrayShape) (a : ℕ) → moves_marked f marks shapes ≡ false → get_or marks a false ≡ true → index_mentions f (index_at shapes a) ≡ false
not_mentioned f [] shapes a still marked = absurd cc
not_mentioned f (m ∷ marks) [] a still marked = refl
not_mentioned f (m ∷ marks) (s ∷ shapes) zero still marked = ap (λ b. b && index_mentions f s.index) (sym marked) ∙ or_front (m && index_mentions f s.index) (moves_marked f marks shapes) still
not_mentioned f (m ∷ marks) (s ∷ shapes) (suc a) still marked = not_mentioned f marks shapes a (or_back (m && index_mentions f s.index) (moves_marked f marks shapes) still) marked

pub index_unmoved : (V : Type 0) (o : Ops V) (f : ℕ) (index : Option GuardExpr) (fields : List V) (z : V) → index_mentions f index ≡ false → index_value V o index (slice_set fields f z) ≡ index_value V o index fields
index_unmoved V o f None fields z e = refl
index_unmoved V o f (Some index) fields z e = unmoved V o f fields z index e

-- a field that moves no marked array leaves the index word of each
pub word_stays : (V : Type 0) (o : Ops V) (f : ℕ) (marks : List Bool) (shapes : List ArrayShape) (a : ℕ) (fields : List V) (z : V) → moves_marked f marks shapes ≡ false → get_or marks a false ≡ true → index_value V o (index_at shapes a) (slice_set fields f z) ≡ index_value V o (index_at shapes a) fields
word_stays V o f marks shapes a fields z still marked = index_unmoved V o f (index_at shapes a) fields z (not_mentioned f marks shapes a still marked)

-- how many guards there are after lines
abbrev pub guards_behind : List GuardLine → ℕ → ℕ
guards_behind [] next = next
guards_behind (l ∷ lines) next = guards_behind lines (guards_after l next)

-- guards of lines one after another
pub guards_join : (xs ys : List GuardLine) (n : ℕ) → guards_fit n xs ≡ true → guards_fit (guards_behind xs n) ys ≡ true → guards_fit n (xs ++ ys) ≡ true
guards_join [] ys n one two = two
guards_join (x ∷ xs) ys n one two = and_both (guard_fits n x) (guards_fit (guards_after x n) (xs ++ ys)) (and_front (guard_fits n x) _ one) (guards_join xs ys (guards_after x n) (and_back (guard_fits n x) _ one) two)

pub behind_join : (xs ys : List GuardLine) (n : ℕ) → guards_behind (xs ++ ys) n ≡ guards_behind ys (guards_behind xs n)
behind_join [] ys n = refl
behind_join (x ∷ xs) ys n = behind_join xs ys (guards_after x n)
