-- The first place at which something is amiss, as a walk over the places finds it.
use Rattle.std.proofs.Common.{◌≡◌, Bool, true, false, not, Option, Some, None, is_some, is_none, ℕ, suc, ◌+◌, ◌<◌, ◌≤◌, List, [], ◌∷◌, ◌++◌, length, get_or, take, drop, refl, sym, ap, subst, ◌∙◌, ◌⊎◌, inl, inr, drop-cons, append_assoc}
use Rattle.std.proofs.lemmas.List.{take_more, take_all, take-append-drop}
use Rattle.domino_names.specs.declared.fault.CheckFault.{CheckFault}
use Rattle.domino_names.specs.First.{FirstFault, NoFault}

-- ---- lists

module _ {A : Type 0} where
  abbrev IsNil : List A → Type 0
  IsNil [] = Unit {0}
  IsNil (x ∷ xs) = ⊥

  nil_or_cons : (x : A) (xs : List A) → [] ≡ x ∷ xs → ⊥
  nil_or_cons x xs e = subst IsNil e tt

  abbrev head_or : A → List A → A
  head_or d [] = d
  head_or d (x ∷ xs) = x

  abbrev tail_of : List A → List A
  tail_of [] = []
  tail_of (x ∷ xs) = xs

  same_head : (x y : A) (xs ys : List A) → x ∷ xs ≡ y ∷ ys → x ≡ y
  same_head x y xs ys e = ap (head_or x) e

  same_tail : (x y : A) (xs ys : List A) → x ∷ xs ≡ y ∷ ys → xs ≡ ys
  same_tail x y xs ys e = ap tail_of e

  pub nil_or_more : (x : A) (before after : List A) → [] ≡ before ++ x ∷ after → ⊥
  nil_or_more x [] after e = nil_or_cons x after e
  nil_or_more x (y ∷ before) after e = nil_or_cons y (before ++ x ∷ after) e

  -- an item of a list with one more is the last one, or stands before it
  abbrev pub Where : (xs before : List A) (x y : A) → Type 0
  Where xs before x y = ((before ≡ xs) × (y ≡ x)) ⊎ ((rest : List A) × (xs ≡ before ++ y ∷ rest))

  pub where_of : (xs before after : List A) (x y : A) → xs ++ x ∷ [] ≡ before ++ y ∷ after → Where xs before x y
  where_of [] [] after x y e = inl (refl, sym (same_head x y [] after e))
  where_of [] (b ∷ before) after x y e = absurd (nil_or_more y before after (same_tail x b [] (before ++ y ∷ after) e))
  where_of (z ∷ xs) [] after x y e = inr (xs, ap (λ t. t ∷ xs) (same_head z y (xs ++ x ∷ []) after e))
  where_of (z ∷ xs) (b ∷ before) after x y e =
      elim (where_of xs before after x y (same_tail z b (xs ++ x ∷ []) (before ++ y ∷ after) e)) [
        | inl h ↦ inl ((λ i. sym (same_head z b (xs ++ x ∷ []) (before ++ y ∷ after) e) i ∷ h.0 i), h.1)
        | inr h ↦ inr (h.0, (λ i. same_head z b (xs ++ x ∷ []) (before ++ y ∷ after) e i ∷ h.1 i))
      ]

  -- an item of two lists, one after another, is in the first or in the second
  either_of : (xs ys before after : List A) (x : A) → xs ++ ys ≡ before ++ x ∷ after
      → ((rest : List A) × (xs ≡ before ++ x ∷ rest)) ⊎ ((front : List A) × (ys ≡ front ++ x ∷ after))
  either_of [] ys before after x e = inr (before, e)
  either_of (z ∷ xs) ys [] after x e = inl (xs, ap (λ t. t ∷ xs) (same_head z x (xs ++ ys) after e))
  either_of (z ∷ xs) ys (b ∷ before) after x e =
      elim (either_of xs ys before after x (same_tail z b (xs ++ ys) (before ++ x ∷ after) e)) [
        | inl h ↦ inl (h.0, (λ i. same_head z b (xs ++ ys) (before ++ x ∷ after) e i ∷ h.1 i))
        | inr h ↦ inr h
      ]

  -- two places of one list: one stands before the other, or they are the same
  compare_places : (xs ys cs bs : List A) (x y : A) → xs ++ x ∷ cs ≡ ys ++ y ∷ bs
      → ((rest : List A) × (xs ≡ ys ++ y ∷ rest)) ⊎ (((rest : List A) × (ys ≡ xs ++ x ∷ rest)) ⊎ ((xs ≡ ys) × (x ≡ y)))
  compare_places [] [] cs bs x y e = inr (inr (refl, same_head x y cs bs e))
  compare_places [] (z ∷ ys) cs bs x y e = inr (inl (ys, ap (λ (t : A). t ∷ ys) (sym (same_head x z cs (ys ++ y ∷ bs) e))))
  compare_places (z ∷ xs) [] cs bs x y e = inl (xs, ap (λ (t : A). t ∷ xs) (same_head z y (xs ++ x ∷ cs) bs e))
  compare_places (z ∷ xs) (w ∷ ys) cs bs x y e =
      let head : z ≡ w = same_head z w (xs ++ x ∷ cs) (ys ++ y ∷ bs) e in
      elim (compare_places xs ys cs bs x y (same_tail z w (xs ++ x ∷ cs) (ys ++ y ∷ bs) e)) [
        | inl h ↦ inl (h.0, (λ i. head i ∷ h.1 i))
        | inr h ↦ elim h [
          | inl k ↦ inr (inl (k.0, (λ i. sym head i ∷ k.1 i)))
          | inr k ↦ inr (inr ((λ i. head i ∷ k.0 i), k.1))
        ]
      ]

-- ---- walks

module _ {A : Type 0} (Amiss : List A → A → CheckFault → Type 0) where
  -- nothing is amiss where there is no place
  pub none_at_start : NoFault Amiss []
  none_at_start before x after g e = absurd (nil_or_more x before after e)

  -- nothing is amiss at one more place
  pub none_with : (front : List A) (x : A) → NoFault Amiss front → ((g : CheckFault) → Amiss front x g → ⊥) → NoFault Amiss (front ++ x ∷ [])
  none_with front x fine here before y after g e a =
      elim (where_of front before after x y e) [
        | inl h ↦ here g (subst (λ (b : List A). Amiss b x g) h.0 (subst (λ (z : A). Amiss before z g) h.1 a))
        | inr h ↦ fine before y h.0 g h.1 a
      ]

  -- nothing is amiss at place i
  pub none_more : (places : List A) (i : ℕ) (x : A) → i < length places → x ≡ get_or places i x → NoFault Amiss (take i places)
      → ((g : CheckFault) → Amiss (take i places) x g → ⊥) → NoFault Amiss (take (i + 1) places)
  none_more places i x within here fine now =
      subst (NoFault Amiss) (ap (λ (y : A). take i places ++ y ∷ []) here ∙ sym (take_more places i x within)) (none_with (take i places) x fine now)

  -- nothing is amiss at any of the places that were walked
  pub none_at_end : (places : List A) (i : ℕ) → length places ≤ i → NoFault Amiss (take i places) → NoFault Amiss places
  none_at_end places i past fine = subst (NoFault Amiss) (take_all i places past) fine

  -- something is amiss behind places at which nothing is
  pub first_with : (front : List A) (x : A) (back : List A) (f : CheckFault) → NoFault Amiss front → Amiss front x f → FirstFault Amiss (front ++ x ∷ back) f
  first_with front x back f fine now = record { front = front; at = x; back = back; is = refl; amiss = now; fine = fine }

  -- something is amiss at place i, and at no place before it
  pub first_at : (places : List A) (i : ℕ) (x : A) (f : CheckFault) → i < length places → x ≡ get_or places i x → NoFault Amiss (take i places)
      → Amiss (take i places) x f → FirstFault Amiss places f
  first_at places i x f within here fine now = record {
    front = take i places;
    at = x;
    back = drop (suc i) places;
    is = sym (take-append-drop i places) ∙ ap (λ (l : List A). take i places ++ l) (drop-cons places i x within ∙ ap (λ (y : A). y ∷ drop (suc i) places) (sym here));
    amiss = now;
    fine = fine;
  }

-- something is amiss at a place, or at none
pub not_both : {A : Type 0} (Amiss : List A → A → CheckFault → Type 0) (places : List A) (f : CheckFault) → FirstFault Amiss places f → NoFault Amiss places → ⊥
not_both Amiss places f h none = none h.front h.at h.back f h.is h.amiss

-- the first place is one, and so is its fault where a place has one
pub one_first : {A : Type 0} (Amiss : List A → A → CheckFault → Type 0) (one : (before : List A) (x : A) (f g : CheckFault) → Amiss before x f → Amiss before x g → f ≡ g)
    (places : List A) (f g : CheckFault) → FirstFault Amiss places f → FirstFault Amiss places g → f ≡ g
one_first {A} Amiss one places f g h k =
    elim (compare_places h.front k.front h.back k.back h.at k.at (sym h.is ∙ k.is)) [
      | inl sooner ↦ absurd (h.fine k.front k.at sooner.0 g sooner.1 k.amiss)
      | inr rest ↦ elim rest [
        | inl later ↦ absurd (k.fine h.front h.at later.0 f later.1 h.amiss)
        | inr same ↦ one k.front k.at f g (subst (λ (x : A). Amiss k.front x f) same.1 (subst (λ (b : List A). Amiss b h.at f) same.0 h.amiss)) k.amiss
      ]
    ]

-- something is amiss in the first of two lists
pub first_left : {A : Type 0} (Amiss : List A → A → CheckFault → Type 0) (xs ys : List A) (f : CheckFault) → FirstFault Amiss xs f → FirstFault Amiss (xs ++ ys) f
first_left {A} Amiss xs ys f h = record {
  front = h.front;
  at = h.at;
  back = h.back ++ ys;
  is = ap (λ (l : List A). l ++ ys) h.is ∙ append_assoc h.front (h.at ∷ h.back) ys;
  amiss = h.amiss;
  fine = h.fine;
}

-- where it doesn't matter what stands before a place
module _ {A : Type 0} (Amiss : List A → A → CheckFault → Type 0) (steady : (before other : List A) (x : A) (f : CheckFault) → Amiss before x f → Amiss other x f) where
  pub none_both : (xs ys : List A) → NoFault Amiss xs → NoFault Amiss ys → NoFault Amiss (xs ++ ys)
  none_both xs ys first second before x after g e a =
      elim (either_of xs ys before after x e) [
        | inl h ↦ first before x h.0 g h.1 a
        | inr h ↦ second h.0 x after g h.1 (steady before h.0 x g a)
      ]

  pub first_right : (xs ys : List A) (f : CheckFault) → NoFault Amiss xs → FirstFault Amiss ys f → FirstFault Amiss (xs ++ ys) f
  first_right xs ys f none h = record {
    front = xs ++ h.front;
    at = h.at;
    back = h.back;
    is = ap (λ (l : List A). xs ++ l) h.is ∙ sym (append_assoc xs h.front (h.at ∷ h.back));
    amiss = steady h.front (xs ++ h.front) h.at f h.amiss;
    fine = none_both xs h.front none h.fine;
  }

-- what `is_none` says
pub tests_none : {X : Type 0} (o : Option X) (none : Bool) → is_some o ≡ not none → is_none o ≡ none
tests_none None true e = refl
tests_none None false e = sym e
tests_none (Some x) true e = sym e
tests_none (Some x) false e = refl
