-- The arrays of flat code, one after another.
use Rattle.std.proofs.Common.{◌≡◌, ◌≢◌, ℕ, zero, suc, ◌+◌, ◌<◌, pos, List, [], ◌∷◌, ◌++◌, length, map, get_or, None, refl, sym, ap, subst, ◌∙◌, inl, inr, length-append, arith}
use Rattle.std.proofs.lemmas.List.{length-map, get_or_append_left}
use Rattle.std.proofs.Math.Seq.{get_or-append_seam}
use Rattle.std.proofs.lemmas.Bool.Decides.{eqb_tells}
use Rattle.code_forms.specs.declared.guard.ArrayShape.{ArrayShape}
use Rattle.code_forms.specs.declared.flat.FlatArray.{FlatArray}
use Rattle.code_forms.specs.GuardMeaning.{index_at}
use Rattle.ssa_flatten.specs.Flattened.{IsLeast}
use Rattle.ssa_flatten.specs.Views.{no_array, with_shape, AreArrays}
use Rattle.ssa_flatten.specs.declared.sofar.Touches.{Touches}

-- lists with the same items are the same
same_items : {X : Type 0} (d : X) (xs ys : List X) → length xs ≡ length ys → ((k : ℕ) → k < length xs → get_or xs k d ≡ get_or ys k d) → xs ≡ ys
same_items d [] [] long all = refl
same_items d [] (y ∷ ys) long all = absurd (omega (arith, long))
same_items d (x ∷ xs) [] long all = absurd (omega (arith, long))
same_items d (x ∷ xs) (y ∷ ys) long all = λ i. all 0 (omega arith) i ∷ same_items d xs ys (omega (arith, long)) (λ k less. all (suc k) (omega (arith, less))) i

abbrev pub no_shape : ArrayShape
no_shape = record { length = 0; start = pos 0; index = None }

abbrev pub no_flat : FlatArray
no_flat = record { length = 0; start = pos 0; same = 0; touched = []; copies = [] }

-- the array at a place has its shape, what is known of it, and the array that stands for it
pub record IsArray (shapes : List ArrayShape) (touches : List Touches) (k : ℕ) (f : FlatArray) : Type 0 where
  pub is : f ≡ with_shape (get_or shapes k no_shape) f.same (get_or touches k no_array)
  pub least : IsLeast shapes k f.same (index_at shapes k)

-- the first arrays are made
pub record AreMade (shapes : List ArrayShape) (touches : List Touches) (n : ℕ) (arrays : List FlatArray) : Type 0 where
  pub long : length arrays ≡ n
  pub each : (k : ℕ) → k < n → IsArray shapes touches k (get_or arrays k no_flat)

pub made_none : (shapes : List ArrayShape) (touches : List Touches) → AreMade shapes touches 0 []
made_none shapes touches = record { long = refl; each = λ k less. absurd (omega (arith, less)) }

pub made_more : (shapes : List ArrayShape) (touches : List Touches) (n : ℕ) (arrays new : List FlatArray) (f : FlatArray) → AreMade shapes touches n arrays → new ≡ arrays ++ f ∷ []
    → IsArray shapes touches n f → AreMade shapes touches (n + 1) new
made_more shapes touches n arrays new f made is one = subst (AreMade shapes touches (n + 1)) (sym is) (record {
  long = length-append arrays (f ∷ []) ∙ ap (λ m. m + 1) made.long;
  each = λ k less. elim (eqb_tells k n) [
    | inl same ↦ subst (λ m. IsArray shapes touches m (get_or (arrays ++ f ∷ []) m no_flat)) (sym same.1) (subst (IsArray shapes touches n) (sym last) one)
    | inr apart ↦ (let other : k ≢ n = apart.1 in let below : k < n = omega (arith, less, other) in
        subst (IsArray shapes touches k) (sym (get_or_append_left arrays (f ∷ []) no_flat k (omega (arith, below, made.long)))) (made.each k below))
  ];
}) where
  last : get_or (arrays ++ f ∷ []) n no_flat ≡ f
  last = subst (λ m. get_or (arrays ++ f ∷ []) m no_flat ≡ f) made.long (get_or-append_seam arrays f [] no_flat)

any_of : {X Y : Type 0} (g : X → Y) (xs : List X) (k : ℕ) (d : X) (e : Y) → k < length xs → get_or (map g xs) k e ≡ g (get_or xs k d)
any_of g [] k d e there = absurd (omega arith)
any_of g (x ∷ xs) zero d e there = refl
any_of g (x ∷ xs) (suc k) d e there = any_of g xs k d e (omega (arith, there))

-- all arrays are made
pub all_made : (shapes : List ArrayShape) (touches : List Touches) (arrays : List FlatArray) → length touches ≡ length shapes → AreMade shapes touches (length shapes) arrays → AreArrays shapes touches arrays
all_made shapes touches arrays same made = record {
  lengths = of_shape (λ f. f.length) (λ s. s.length) 0 (λ k less. ap (λ (f : FlatArray). f.length) (made.each k less).is);
  starts = of_shape (λ f. f.start) (λ s. s.start) (pos 0) (λ k less. ap (λ (f : FlatArray). f.start) (made.each k less).is);
  touched = of_touches (λ f. f.touched) (λ t. t.touched) [] (λ k less. ap (λ (f : FlatArray). f.touched) (made.each k less).is);
  copies = of_touches (λ f. f.copies) (λ t. t.copies) [] (λ k less. ap (λ (f : FlatArray). f.copies) (made.each k less).is);
  sames = λ a less. subst (λ n. IsLeast shapes a n (index_at shapes a)) (sym (any_of (λ (f : FlatArray). f.same) arrays a no_flat a (omega (arith, less, made.long)))) (made.each a less).least;
} where
  of_shape : {Y : Type 0} (g : FlatArray → Y) (h : ArrayShape → Y) (e : Y) → ((k : ℕ) → k < length shapes → g (get_or arrays k no_flat) ≡ h (get_or shapes k no_shape)) → map g arrays ≡ map h shapes
  of_shape g h e all = same_items e (map g arrays) (map h shapes) (length-map arrays g ∙ made.long ∙ sym (length-map shapes h))
      (λ k less. let there : k < length arrays = omega (arith, less, length-map arrays g) in
      let inside : k < length shapes = omega (arith, there, made.long) in
      any_of g arrays k no_flat e there ∙ all k inside ∙ sym (any_of h shapes k no_shape e inside))

  of_touches : {Y : Type 0} (g : FlatArray → Y) (h : Touches → Y) (e : Y) → ((k : ℕ) → k < length shapes → g (get_or arrays k no_flat) ≡ h (get_or touches k no_array)) → map g arrays ≡ map h touches
  of_touches g h e all = same_items e (map g arrays) (map h touches) (length-map arrays g ∙ made.long ∙ sym same ∙ sym (length-map touches h))
      (λ k less. let there : k < length arrays = omega (arith, less, length-map arrays g) in
      let inside : k < length shapes = omega (arith, there, made.long) in
      any_of g arrays k no_flat e there ∙ all k inside ∙ sym (any_of h touches k no_array e (omega (arith, inside, same))))
