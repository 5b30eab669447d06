-- One instruction or array before those that are done.
use Rattle.std.proofs.Common.{◌≡◌, ℕ, suc, ◌-◌, ◌<◌, ◌≤◌, ◌==◌, if◌then◌else◌, List, ◌∷◌, [], length, drop, get_or, Option, Some, None, sym, ap, ◌∙◌, subst, arith, take, ◌++◌, drop-cons}
use Rattle.std.proofs.Math.Seq.{take-append_seam}
use Rattle.std.specs.List.{list_any}
use Rattle.std.proofs.lemmas.List.{get_or-map}
use Rattle.code_forms.specs.declared.flat.FlatArray.{FlatArray}
use Rattle.code_forms.specs.declared.flat.Instr.{Instr}
use Rattle.code_forms.specs.FlatMeaning.{copy_in}
use Rattle.flat_graph.specs.Orders.{ArePlaces, AreCopies, copies_in}

-- what is left begins with the item before
pub one_before : {X : Type 0} (l : List X) (n : ℕ) (d : X) → 0 < n → n ≤ length l → drop (n - 1) l ≡ get_or l (n - 1) d ∷ drop n l
one_before l n d some there = drop-cons l (n - 1) d (omega (arith, some, there)) ∙ (let e : suc (n - 1) ≡ n = omega (arith, some) in ap (λ k. get_or l (n - 1) d ∷ drop k l) e)

-- an instruction before those whose places are noted
pub place_before : (instrs : List Instr) (d : Instr) (n : ℕ) (old new : List ℕ) → 0 < n → n ≤ length instrs
    → ((later : List Instr) → ArePlaces (suc (n - 1)) later old → ArePlaces (n - 1) (get_or instrs (n - 1) d ∷ later) new)
    → ArePlaces n (drop n instrs) old → ArePlaces (n - 1) (drop (n - 1) instrs) new
place_before instrs d n old new some there places done =
    subst (λ l. ArePlaces (n - 1) l new) (sym (one_before instrs n d some there))
    (places (drop n instrs) (subst (λ k. ArePlaces k (drop n instrs) old) (omega (arith, some)) done))

-- an array before those whose copies are noted
pub copies_before : (count n : ℕ) (arrays : List FlatArray) (d : FlatArray) (numbers : List ℕ) (old new : List (Option ℕ)) → 0 < n → n ≤ length arrays → numbers ≡ (get_or arrays (n - 1) d).copies
    → ((k : ℕ) → k < count → get_or new k None ≡ (if list_any (λ j. k == j) numbers then Some (n - 1) else get_or old k None))
    → AreCopies count n (drop n (copies_in arrays)) old → AreCopies count (n - 1) (drop (n - 1) (copies_in arrays)) new
copies_before count n arrays d numbers old new some there is marked done =
    subst (λ l. AreCopies count (n - 1) l new) (sym (one_before (copies_in arrays) n [] some (subst (λ k. n ≤ k) (sym (long arrays)) there) ∙ ap (λ x. x ∷ drop n (copies_in arrays)) (copies ∙ sym is)))
    (λ k less. marked k less ∙ ap (λ rest. if list_any (λ j. k == j) numbers then Some (n - 1) else rest) (done k less ∙ (let e : n ≡ suc (n - 1) = omega (arith, some) in ap (λ m. copy_in (drop n (copies_in arrays)) m k) e))) where
      long : (arrays : List FlatArray) → length (copies_in arrays) ≡ length arrays
      long [] = omega arith
      long (x ∷ xs) = ap suc (long xs)

      copies : get_or (copies_in arrays) (n - 1) [] ≡ (get_or arrays (n - 1) d).copies
      copies = get_or-map (λ (g : FlatArray). g.copies) arrays (n - 1) d [] (omega (arith, some, there))

-- a list in front of another
pub taken : {X : Type 0} (n : ℕ) (xs ys : List X) → n ≡ length xs → take n (xs ++ ys) ≡ xs
taken n xs ys e = ap (λ k. take k (xs ++ ys)) e ∙ take-append_seam xs ys
