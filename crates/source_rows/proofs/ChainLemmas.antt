-- The walk at each form of a chain.
use Rattle.std.proofs.Common.{◌≡◌, ℕ, ◌+◌, ◌<◌, ◌≤◌, List, ◌∷◌, length, map, drop, get_or, replicate, Option, None, Some, sym, ap, ◌∙◌}
use Rattle.std.proofs.lemmas.List.{drop_more, drop_all}
use Rattle.mp5_words.specs.Domain.{Domain}
use Rattle.domino_tree.specs.declared.program.Program.{Program}
use Rattle.domino_check.specs.declared.numbered.CheckedStmt.{CheckedStmt, fold-roll-CheckedStmt}
use Rattle.domino_check.specs.declared.numbered.CheckedStmt.TheOpen as O
use Rattle.domino_check.specs.declared.numbered.CheckedStmt.TheVariants as s
use Rattle.domino_check.specs.declared.numbered.CheckedExpr.{CheckedExpr}
use Rattle.domino_check.specs.declared.numbered.CheckedArm.{CheckedArm, fold-roll-CheckedArm}
use Rattle.domino_tree.specs.Value.{names_of}
use Rattle.domino_names.specs.Infos.{infos_of}
use Rattle.domino_check.specs.Numbering.{numbered_body}
use Rattle.domino_check.specs.SourceWalk.{walked_program}
use Rattle.domino_names.proofs.InfoLemmas.{length-infos}
use Rattle.domino_check.specs.Walk.{Core, Branch, Walks, chain, walking, branching}
use Rattle.source_rows.specs.Walking.{Copies, core, indexes_in, stmt_walk, block_walk, arm_branch, chain_walk, last_in, guard_in, arm_touched, arm_cond, field_walk, cell_walk}

pub drop_next : {A : Type 0} (xs : List A) (i : ℕ) (x : A) → i < length xs → x ≡ get_or xs i x → drop i xs ≡ x ∷ drop (i + 1) xs
drop_next xs i x within here = drop_more xs i x within ∙ ap (λ y. y ∷ drop (i + 1) xs) (sym here)

module _ (V : Type 0) (d : Domain V) (p : Program) where
  pub walk-If : (arms : List CheckedArm) → stmt_walk V d p (s.If arms None) ≡ chain_walk V d p arms None
  walk-If arms = ap (stmt_walk V d p) (sym (s.rolls-If arms None)) ∙ fold-roll-CheckedStmt (Walks V) (Branch V) (walking V d (indexes_in V d p)) (branching V d (indexes_in V d p)) (O.CheckedStmt-F.If arms None)

  pub walk-Else : (arms : List CheckedArm) (body : List CheckedStmt) → stmt_walk V d p (s.If arms (Some body)) ≡ chain_walk V d p arms (Some (map (stmt_walk V d p) body))
  walk-Else arms body = ap (stmt_walk V d p) (sym (s.rolls-If arms (Some body))) ∙ fold-roll-CheckedStmt (Walks V) (Branch V) (walking V d (indexes_in V d p)) (branching V d (indexes_in V d p)) (O.CheckedStmt-F.If arms (Some body))

  -- an assignment to a field
  pub field_stmt : (stmt : CheckedStmt) (f : ℕ) (e expr : CheckedExpr) (context : Option V) (t : Core V) → stmt ≡ s.SetField f e → expr ≡ e → field_walk V d p f expr context t ≡ stmt_walk V d p stmt context t
  field_stmt stmt f e expr context t is read =
      ap (λ x. field_walk V d p f x context t) read
      ∙ sym (ap (λ (w : Walks V). w context t) (ap (stmt_walk V d p) (is ∙ sym (s.rolls-SetField f e)) ∙ fold-roll-CheckedStmt (Walks V) (Branch V) (walking V d (indexes_in V d p)) (branching V d (indexes_in V d p)) (O.CheckedStmt-F.SetField f e)))

  -- an assignment to a cell
  pub cell_stmt : (stmt : CheckedStmt) (a : ℕ) (e expr : CheckedExpr) (context : Option V) (t : Core V) → stmt ≡ s.SetCell a e → expr ≡ e → cell_walk V d p a expr context t ≡ stmt_walk V d p stmt context t
  cell_stmt stmt a e expr context t is read =
      ap (λ x. cell_walk V d p a x context t) read
      ∙ sym (ap (λ (w : Walks V). w context t) (ap (stmt_walk V d p) (is ∙ sym (s.rolls-SetCell a e)) ∙ fold-roll-CheckedStmt (Walks V) (Branch V) (walking V d (indexes_in V d p)) (branching V d (indexes_in V d p)) (O.CheckedStmt-F.SetCell a e)))

  -- an arm, and the arms behind it
  pub chain_next : (arm : CheckedArm) (arms : List CheckedArm) (last : Option (List (Walks V))) (context : Option V) (t : Core V)
      → chain_walk V d p (arm ∷ arms) last context t
      ≡ chain_walk V d p arms last (Some (d.no (guard_in V d p context) (arm_cond V d p arm context t))) (block_walk V d p arm.body (Some (d.yes (guard_in V d p context) (arm_cond V d p arm context t))) (arm_touched V d p arm context t))
  chain_next arm arms last context t =
      ap (λ (b : Branch V). chain V d (indexes_in V d p) (b ∷ map (arm_branch V d p) arms) last context t)
      (fold-roll-CheckedArm (Walks V) (Branch V) (walking V d (indexes_in V d p)) (branching V d (indexes_in V d p)) (record { cond = arm.cond; body = arm.body }))

  -- one arm more
  pub arms_more : (arms : List CheckedArm) (i : ℕ) (arm : CheckedArm) (last : Option (List (Walks V))) (context : Option V) (holds fails : V) (t next whole : Core V)
      → i < length arms → arm ≡ get_or arms i arm
      → holds ≡ d.yes (guard_in V d p context) (arm_cond V d p arm context t)
      → fails ≡ d.no (guard_in V d p context) (arm_cond V d p arm context t)
      → next ≡ block_walk V d p arm.body (Some holds) (arm_touched V d p arm context t)
      → chain_walk V d p (drop i arms) last context t ≡ whole
      → chain_walk V d p (drop (i + 1) arms) last (Some fails) next ≡ whole
  arms_more arms i arm last context holds fails t next whole within here held failed walked so_far =
      let rest : List CheckedArm = drop (i + 1) arms in
      ap (λ (s : Core V). chain_walk V d p rest last (Some fails) s) walked
      ∙ (λ k. chain_walk V d p rest last (Some (failed k)) (block_walk V d p arm.body (Some (held k)) (arm_touched V d p arm context t)))
      ∙ sym (chain_next arm rest last context t)
      ∙ sym (ap (λ (l : List CheckedArm). chain_walk V d p l last context t) (drop_next arms i arm within here))
      ∙ so_far

  -- all arms are walked
  pub arms_all : (arms : List CheckedArm) (i : ℕ) (last : Option (List (Walks V))) (context : Option V) (t whole : Core V)
      → length arms ≤ i → chain_walk V d p (drop i arms) last context t ≡ whole → whole ≡ last_in V d p last context t
  arms_all arms i last context t whole past so_far = sym so_far ∙ ap (λ (l : List CheckedArm). chain_walk V d p l last context t) (drop_all i arms past)

  -- a chain with a last block, and one without
  pub else_is : (stmt : CheckedStmt) (arms arms_read : List CheckedArm) (last : Option (List CheckedStmt)) (body body_read : List CheckedStmt) (context otherwise : Option V) (t next : Core V)
      → stmt ≡ s.If arms last → last ≡ Some body → arms_read ≡ arms → body_read ≡ body
      → ((last : Option (List (Walks V))) → chain_walk V d p arms_read last context t ≡ last_in V d p last otherwise next)
      → block_walk V d p body_read otherwise next ≡ stmt_walk V d p stmt context t
  else_is stmt arms arms_read last body body_read context otherwise t next is has read read_body walked =
      ap (λ (b : List CheckedStmt). block_walk V d p b otherwise next) read_body
      ∙ sym (walked (Some (map (stmt_walk V d p) body)))
      ∙ ap (λ (l : List CheckedArm). chain_walk V d p l (Some (map (stmt_walk V d p) body)) context t) read
      ∙ sym (ap (λ (w : Walks V). w context t) (ap (stmt_walk V d p) (is ∙ ap (s.If arms) has) ∙ walk-Else arms body))

  pub if_is : (stmt : CheckedStmt) (arms arms_read : List CheckedArm) (last : Option (List CheckedStmt)) (context otherwise : Option V) (t next : Core V)
      → stmt ≡ s.If arms last → last ≡ None → arms_read ≡ arms
      → ((last : Option (List (Walks V))) → chain_walk V d p arms_read last context t ≡ last_in V d p last otherwise next)
      → next ≡ stmt_walk V d p stmt context t
  if_is stmt arms arms_read last context otherwise t next is has read walked =
      sym (walked None)
      ∙ ap (λ (l : List CheckedArm). chain_walk V d p l None context t) read
      ∙ sym (ap (λ (w : Walks V). w context t) (ap (stmt_walk V d p) (is ∙ ap (s.If arms) has) ∙ walk-If arms))

  -- the walk over the body, from the start
  pub walk_is : (body : List CheckedStmt) (fields header : List V) (copies : Copies V) → body ≡ numbered_body p → fields ≡ header → copies ≡ replicate (length (infos_of p)) None
      → block_walk V d p body None (core V fields copies) ≡ walked_program V d p header
  walk_is body fields header copies is_body is_fields is_copies =
      let all : copies ≡ replicate (length (names_of p).arrays) None = is_copies ∙ ap (λ n. replicate n None) (length-infos p) in
      λ i. block_walk V d p (is_body i) None (core V (is_fields i) (all i))
