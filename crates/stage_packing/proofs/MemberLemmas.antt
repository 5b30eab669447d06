-- One instruction more is noted for its array.
use Rattle.std.proofs.Common.{◌≡◌, ℕ, ◌+◌, sym, ap, ◌∙◌, subst, arith, inl, inr, ◌⊎◌, List, Option, Some, None}
use Rattle.std.proofs.lemmas.Bool.Decides.{eqb_tells}
use Rattle.dependence.specs.Uses.{Node, node_at}
use Rattle.stage_packing.specs.Members.{IsMember}

-- whether there is this number
is_there : (o : Option ℕ) (a : ℕ) → (o ≡ Some a) ⊎ (o ≡ Some a → ⊥)
is_there None a = inr (λ e. let f : None ≡ Some a = e in cc)
is_there (Some b) a = elim (eqb_tells b a) [ inl s ↦ inl (ap Some s.1) | inr s ↦ inr (λ e. s.1 (let f : Some b ≡ Some a = e in cc)) ]

pub member_next : (nodes : List Node) (k a : ℕ) (old new array : Option ℕ) → (node_at nodes k).array ≡ array → IsMember nodes k a old
    → (array ≡ Some a → new ≡ Some k) → ((array ≡ Some a → ⊥) → new ≡ old) → IsMember nodes (k + 1) a new
member_next nodes k a old new array e h given left = elim (is_there array a) [
  | inl s ↦ subst (IsMember nodes (k + 1) a) (sym (given s)) (omega arith, e ∙ s)
  | inr s ↦ subst (IsMember nodes (k + 1) a) (sym (left s)) (kept old h s)
] where
  kept : (o : Option ℕ) → IsMember nodes k a o → (array ≡ Some a → ⊥) → IsMember nodes (k + 1) a o
  kept None h out = λ i w f. elim (eqb_tells i k) [
    | inl s ↦ out (sym e ∙ ap (λ j. (node_at nodes j).array) (sym s.1) ∙ f)
    | inr s ↦ let ne : i ≡ k → ⊥ = s.1 in h i (omega (arith, w)) f
  ]
  kept (Some m) h out = (omega (arith, h.0), h.1)
