-- A value is clean by tests, by what is behind it, and by its mark alike.
use Rattle.std.proofs.Common.{◌≡◌, ℕ, zero, suc, ℤ, Bool, true, ◌&&◌, List, [], ◌∷◌, ◌++◌, length, map, replicate, refl, sym, ◌∙◌, arith}
use Rattle.std.specs.List.{AllZip}
use Rattle.mp5_words.specs.Domain.{Mark, marks, mark, sources, Loads, words}
use Rattle.mp5_words.specs.Copies.{at}
use Rattle.code_forms.specs.declared.flat.FlatArray.{FlatArray}
use Rattle.code_forms.specs.declared.flat.Instr.{Instr}
use Rattle.code_forms.specs.FlatMeaning.{index_slot, steps_of, flat_length, flat_values}
use Rattle.index_resolve.specs.Clean.{is_none, cleans, clean_slots, code_sources}
use Rattle.index_resolve.specs.HeaderRun.{code_marks, mark_at}
use Rattle.index_resolve.specs.HeaderSteps.{clean_at}
use Rattle.index_resolve.proofs.Related.{Related, related_at, related_runs, Tells, marks_tell}

none_both : (a b : List ℕ) → is_none (a ++ b) ≡ (is_none a && is_none b)
none_both [] b = refl
none_both (x ∷ a) b = refl

none_of : (a b : List ℕ) (s t : Bool) → s ≡ is_none a → t ≡ is_none b → (s && t) ≡ is_none (a ++ b)
none_of a b s t e f = (λ i. e i && f i) ∙ sym (none_both a b)

pub is_empty : (a : List ℕ) → is_none a ≡ true → a ≡ []
is_empty [] e = refl
is_empty (x ∷ a) e = absurd cc

abbrev pub SameClean : Bool → Mark → Type 0
SameClean b m = b ≡ is_none m.arrays

cleans_marks : (lengths : ℕ → ℕ) → Related Bool Mark cleans (marks lengths) SameClean
cleans_marks lengths = record {
  number = λ n. refl;
  one = λ op a x h. h;
  two = λ op a b x y h k. none_of x.arrays y.arrays a b h k;
  pick = λ c a b z x y h k l. none_of z.arrays (x.arrays ++ y.arrays) c (a && b) h (none_of x.arrays y.arrays a b k l);
  hash = λ kind a b c x y z h k l. none_of x.arrays (y.arrays ++ z.arrays) a (b && c) h (none_of y.arrays z.arrays b c k l);
  yes = λ g c x y h k. none_of x.arrays y.arrays g c h k;
  no = λ g c x y h k. none_of x.arrays y.arrays g c h k;
  index = λ n a x h. h;
  load = λ n a x h. refl;
  cover = λ n a x h. refl;
}

abbrev pub SameArrays : List ℕ → Mark → Type 0
SameArrays s m = s ≡ m.arrays

sources_marks : (lengths : ℕ → ℕ) → Related (List ℕ) Mark sources (marks lengths) SameArrays
sources_marks lengths = record {
  number = λ n. refl;
  one = λ op a x h. h;
  two = λ op a b x y h k i. h i ++ k i;
  pick = λ c a b z x y h k l i. h i ++ (k i ++ l i);
  hash = λ kind a b c x y z h k l i. h i ++ (k i ++ l i);
  yes = λ g c x y h k i. h i ++ k i;
  no = λ g c x y h k i. h i ++ k i;
  index = λ n a x h. h;
  load = λ n a x h. refl;
  cover = λ n a x h. refl;
}

-- the header's own slots
each_header : (V W : Type 0) (R : V → W → Type 0) (v : V) (made : ℤ → W) → ((z : ℤ) → R v (made z)) → (n : ℕ) (header : List ℤ) → length header ≡ n → AllZip R (replicate n v) (map made header)
each_header V W R v made h zero [] long = tt
each_header V W R v made h zero (z ∷ header) long = absurd (omega (arith, long))
each_header V W R v made h (suc n) [] long = absurd (omega (arith, long))
each_header V W R v made h (suc n) (z ∷ header) long = (h z, each_header V W R v made h n header (omega (arith, long)))

header_words : (header : List ℤ) → AllZip Tells (map (mark []) header) header
header_words [] = tt
header_words (z ∷ header) = (record { clean = λ e. refl; closed = λ e. absurd cc }, header_words header)

module _ (fields : ℕ) (arrays : List FlatArray) (instrs : List Instr) (header : List ℤ) (long : length header ≡ fields) where
  -- the test tells whether the mark of a slot is clean
  pub clean_is : (j : ℕ) → clean_at (clean_slots fields arrays instrs) j ≡ is_none (mark_at (code_marks fields arrays instrs header) j).arrays
  clean_is j = related_at Bool Mark cleans (marks (flat_length arrays)) SameClean (cleans_marks (flat_length arrays)) _ _ j
      (related_runs Bool Mark cleans (marks (flat_length arrays)) SameClean (cleans_marks (flat_length arrays)) (index_slot instrs fields) (steps_of arrays instrs) _ _
      (each_header Bool Mark SameClean true (mark []) (λ z. refl) fields header long))

  -- the arrays behind a value are those of its mark
  pub sources_are : (j : ℕ) → at (List ℕ) sources.ops (code_sources fields arrays instrs) j ≡ (mark_at (code_marks fields arrays instrs header) j).arrays
  sources_are j = related_at (List ℕ) Mark sources (marks (flat_length arrays)) SameArrays (sources_marks (flat_length arrays)) _ _ j
      (related_runs (List ℕ) Mark sources (marks (flat_length arrays)) SameArrays (sources_marks (flat_length arrays)) (index_slot instrs fields) (steps_of arrays instrs) _ _
      (each_header (List ℕ) Mark SameArrays [] (mark []) (λ z. refl) fields header long))

  -- marks tell of words, whatever is loaded
  pub tell_words : (loads : Loads) → AllZip Tells (code_marks fields arrays instrs header) (flat_values ℤ (words (flat_length arrays) loads) fields arrays instrs header)
  tell_words loads = related_runs Mark ℤ (marks (flat_length arrays)) (words (flat_length arrays) loads) Tells (marks_tell (flat_length arrays) loads) (index_slot instrs fields) (steps_of arrays instrs) _ _ (header_words header)
