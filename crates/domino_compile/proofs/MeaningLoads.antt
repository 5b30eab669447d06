-- The values of code depend on what is loaded from each array at its own Index alone.
use Rattle.std.proofs.Common.{◌≡◌, ℕ, suc, ℤ, pos, List, [], ◌∷◌, ◌++◌, length, Option, None, Some, refl, sym, ap, subst, ◌∙◌, append_assoc, length-append, arith}
use Rattle.std.proofs.lemmas.List.{get_or_append_left}
use Rattle.mp5_words.specs.Domain.{Loads, words}
use Rattle.mp5_words.specs.Cells.{word_at, natural}
use Rattle.code_forms.specs.declared.flat.Instr.{Instr}
use Rattle.code_forms.specs.declared.flat.Instr.TheVariants as instr
use Rattle.code_forms.specs.FlatMeaning.{Step, Slots, instr_value, covered, step_value, run_from}
use Rattle.code_forms.proofs.FlatLemmas.{UsesBelow, InOrder, prefix}

module _ (lengths : ℕ → ℕ) (l k : Loads) (slots : Slots) where
  -- with both loads the word of each array at its Index is one, on these values of all slots
  abbrev pub AgreeAt : List ℤ → Type 0
  AgreeAt vals = (a : ℕ) → l a (natural (word_at vals (slots a))) ≡ k a (natural (word_at vals (slots a)))

  same_covered : (o : Option ℕ) (v w : ℤ) → v ≡ w → covered ℤ (words lengths l) o v ≡ covered ℤ (words lengths k) o w
  same_covered None v w e = e
  same_covered (Some a) v w e = e

  same_value : (env more : List ℤ) (i : Instr) → AgreeAt (env ++ more) → UsesBelow slots (length env) i → instr_value ℤ (words lengths l) slots env i ≡ instr_value ℤ (words lengths k) slots env i
  same_value env more (instr.One op a) agree uses = refl
  same_value env more (instr.Two op a b) agree uses = refl
  same_value env more (instr.Pick c a b) agree uses = refl
  same_value env more (instr.Hash kind a b c) agree uses = refl
  same_value env more (instr.Move a) agree uses = refl
  same_value env more (instr.Yes guard c) agree uses = refl
  same_value env more (instr.No guard c) agree uses = refl
  same_value env more (instr.Index array a) agree uses = refl
  same_value env more (instr.Load array) agree uses =
      let last : word_at (env ++ more) (slots array) ≡ word_at env (slots array) = get_or_append_left env more (pos 0) (slots array) uses in
      subst (λ z. l array (natural z) ≡ k array (natural z)) last (agree array)
  same_value env more (instr.Store array a) agree uses = refl

  pub same_run : (steps : List Step) (env : List ℤ) (n : ℕ) → length env ≡ n → InOrder slots n steps → AgreeAt (run_from ℤ (words lengths l) slots steps env)
      → run_from ℤ (words lengths l) slots steps env ≡ run_from ℤ (words lengths k) slots steps env
  same_run [] env n long order agree = refl
  same_run (s ∷ steps) env n long order agree =
      let v : ℤ = step_value ℤ (words lengths l) slots env s in
      let next : List ℤ = env ++ v ∷ [] in
      let rest = prefix ℤ (words lengths l) slots steps next in
      let whole : run_from ℤ (words lengths l) slots steps next ≡ env ++ (v ∷ rest.0) = rest.1 ∙ append_assoc env (v ∷ []) rest.0 in
      let same : v ≡ step_value ℤ (words lengths k) slots env s =
      same_covered s.copy (instr_value ℤ (words lengths l) slots env s.instr) (instr_value ℤ (words lengths k) slots env s.instr)
      (same_value env (v ∷ rest.0) s.instr (subst AgreeAt whole agree) (subst (λ m. UsesBelow slots m s.instr) (sym long) order.0)) in
      same_run steps next (suc n) (omega (arith, long, length-append env (v ∷ []))) order.2 agree
      ∙ ap (λ z. run_from ℤ (words lengths k) slots steps (env ++ z ∷ [])) same
