-- The labels of the fields so far.
use Rattle.std.proofs.Common.{◌≡◌, ◌∙◌, ◌<◌, ◌+◌, take, ℕ, List, [], ◌∷◌, ◌++◌, length, map, Some, sym, ap}
use Rattle.std.specs.List.{slice_get}
use Rattle.std.proofs.lemmas.Option.{get_or_from_slice_get}
use Rattle.std.proofs.lemmas.List.{map-append, take_more}
use Rattle.report_text.specs.Report.{label}

both : {A B C : Type 0} (f : A → B → C) (a a' : A) (b b' : B) → a ≡ a' → b ≡ b' → f a b ≡ f a' b'
both f a a' b b' p q = ap (λ x. f x b) p ∙ ap (f a') q

-- the label of the next field stands behind those so far
pub label_next : (names : List (List ℕ)) (i : ℕ) (name text : List ℕ) (labels new : List (List ℕ)) → i < length names → slice_get names i ≡ Some name → text ≡ label name → labels ≡ map label (take i names)
    → new ≡ labels ++ (text ∷ []) → new ≡ map label (take (i + 1) names)
label_next names i name text labels new h e t so_far is =
    is
    ∙ both (λ x y. x ++ (y ∷ [])) labels (map label (take i names)) text (label name) so_far t
    ∙ sym (ap (map label) (take_more names i name h ∙ ap (λ y. take i names ++ (y ∷ [])) (get_or_from_slice_get names i name name e)) ∙ map-append label (take i names) (name ∷ []))
