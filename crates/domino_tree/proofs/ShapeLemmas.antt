-- An execution keeps the number of fields, and the number of cells of each array.
use Rattle.std.proofs.Common.{◌≡◌, ℕ, zero, suc, ℤ, Bool, true, false, if◌then◌else◌, List, [], ◌∷◌, length, map, Option, Some, None, replicate, refl, sym, ap, subst, ◌∙◌}
use Rattle.std.proofs.lemmas.List.{length-set, length-replicate}
use Rattle.domino_tree.specs.declared.expr.Expr.{Expr}
use Rattle.domino_tree.specs.declared.program.Target.{Target}
use Rattle.domino_tree.specs.declared.program.Target.TheVariants as target
use Rattle.domino_tree.specs.declared.program.Stmt.{Stmt}
use Rattle.domino_tree.specs.declared.program.Arm.{Arm}
use Rattle.mp5_words.specs.Cells.{cell_set}
use Rattle.domino_tree.specs.Value.{Names, Array, Store, HasCells, value, array_number, field_number, index_place}
use Rattle.domino_tree.specs.Execution.{State, Does, Choice, set_target, in_turn, at_last, touch, chosen, step, choice, exec}
use Rattle.domino_tree.specs.Sequential.{start_cells}
use Rattle.domino_tree.proofs.ExecutionLemmas as executed
use Rattle.domino_tree.proofs.ExprLemmas.{Each}
use Rattle.domino_tree.proofs.StmtLemmas as statements

-- how many cells each array has
abbrev pub lengths : List (List ℤ) → List ℕ
lengths cells = map (λ (c : List ℤ). length c) cells

-- as many fields, and as many cells of each array
abbrev pub Same : Store → Store → Type 0
Same r s = (length r.fields ≡ length s.fields) × (lengths r.cells ≡ lengths s.cells)

same_then : (q r s : Store) → Same q r → Same r s → Same q s
same_then q r s a b = (a.0 ∙ b.0, a.1 ∙ b.1)

abbrev pub Keeps : Does → Type 0
Keeps does = (s : State) → Same (does s).store s.store

cell-length : (cells : List (List ℤ)) (array place : ℕ) (z : ℤ) → lengths (cell_set cells array place z) ≡ lengths cells
cell-length [] array place z = refl
cell-length (c ∷ cells) zero place z = ap (λ n. n ∷ lengths cells) (length-set c place z)
cell-length (c ∷ cells) (suc array) place z = ap (λ l. length c ∷ l) (cell-length cells array place z)

picks : (b : Bool) (x y : State) (s : Store) → Same x.store s → Same y.store s → Same (if b then x else y).store s
picks true x y s a b = a
picks false x y s a b = b

module _ (names : Names) where
  abbrev KeepsStep : Stmt → Type 0
  KeepsStep x = Keeps (step names x)

  abbrev KeepsBlock : Arm → Type 0
  KeepsBlock arm = Keeps (choice names arm).block

  set_keeps : (t : Target) (x : Expr) → Keeps (set_target names t x)
  set_keeps (target.Word w) x s = (refl, cell-length s.store.cells (array_number names w) 0 (value names x s.store))
  set_keeps (target.Field p f) x s = (length-set s.store.fields (field_number names f) (value names x s.store), refl)
  set_keeps (target.Cell a i) x s = (refl, cell-length s.store.cells (array_number names a) (index_place names a (value names i s.store)) (value names x s.store))

  block_keeps : (body : List Stmt) → Each KeepsStep body → Keeps (in_turn (map (step names) body))
  block_keeps [] held s = (refl, refl)
  block_keeps (x ∷ body) held s = same_then _ _ s.store (block_keeps body held.1 (step names x s)) (held.0 s)

  chain_keeps : (arms : List Arm) → Each KeepsBlock arms → (last : Option (List Does)) → Keeps (at_last last) → Keeps (chosen (map (choice names) arms) last)
  chain_keeps [] held last keeps s = keeps s
  chain_keeps (a ∷ arms) held last keeps s =
      let c : Choice = choice names a in
      picks (c.holds s.store) (c.block (touch c.arrays s)) (chosen (map (choice names) arms) last (touch c.arrays s)) s.store
      (held.0 (touch c.arrays s)) (chain_keeps arms held.1 last keeps (touch c.arrays s))

  step_keeps : (x : Stmt) → KeepsStep x
  step_keeps = statements.induct KeepsStep KeepsBlock
      (λ t x s. subst (λ (r : State). Same r.store s.store) (sym (executed.step-Set names t x s)) (set_keeps t x s))
      (λ arms held s. subst (λ (r : State). Same r.store s.store) (sym (executed.step-If names arms s)) (chain_keeps arms held None (λ r. (refl, refl)) s))
      (λ arms body held inside s.
      subst (λ (r : State). Same r.store s.store) (sym (executed.step-Else names arms body s))
      (chain_keeps arms held (Some (map (step names) body)) (block_keeps body inside) s))
      (λ cond body inside s. subst (λ (c : Choice). Same (c.block s).store s.store) (sym (executed.choice-Arm names cond body)) (block_keeps body inside s))

  all_keep : (body : List Stmt) → Each KeepsStep body
  all_keep [] = tt
  all_keep (x ∷ body) = (step_keeps x, all_keep body)

  -- the transaction keeps the number of fields, and the number of cells of each array
  pub exec_keeps : (body : List Stmt) → Keeps (exec names body)
  exec_keeps body = block_keeps body (all_keep body)

-- the cells of each array start as many as it is declared with
pub start_has_cells : (names : Names) → HasCells names (start_cells names)
start_has_cells names = by_array names.arrays
  where
    by_array : (arrays : List Array) → lengths (map (λ (d : Array). replicate d.length d.start) arrays) ≡ map (λ (d : Array). d.length) arrays
    by_array [] = refl
    by_array (d ∷ arrays) =
        ap (λ n. n ∷ lengths (map (λ (d : Array). replicate d.length d.start) arrays)) (length-replicate d.length d.start)
        ∙ ap (λ l. d.length ∷ l) (by_array arrays)

-- they stay as many
pub exec_has_cells : (names : Names) (body : List Stmt) (s : State) → HasCells names s.store.cells → HasCells names (exec names body s).store.cells
exec_has_cells names body s h = (exec_keeps names body s).1 ∙ h
