-- An execution touches exactly what the sites that it reaches touch.
use Rattle.std.proofs.Common.{◌≡◌, ℕ, Bool, true, false, if◌then◌else◌, List, [], ◌∷◌, ◌++◌, map, get_or, None, Some, Option, Contains, inl, inr, refl, sym, ap, subst, ◌∙◌}
use Rattle.std.proofs.lemmas.List.Elements.{Contains-append_left, Contains-append_right, Contains-append_cases}
use Rattle.std.specs.Option.{option_map}
use Rattle.mp5_words.specs.Words.{truth}
use Rattle.mp5_words.specs.Cells.{touching}
use Rattle.domino_tree.specs.declared.program.Program.{Program}
use Rattle.domino_tree.specs.Execution.{State, Choice, touch, in_turn, at_last, chosen}
use Rattle.domino_tree.proofs.ExprLemmas.{Each}
use Rattle.domino_check.specs.declared.numbered.CheckedExpr.{CheckedExpr}
use Rattle.domino_check.specs.declared.numbered.CheckedStmt.{CheckedStmt, fold-roll-CheckedStmt}
use Rattle.domino_check.specs.declared.numbered.CheckedStmt.TheOpen as O
use Rattle.domino_check.specs.declared.numbered.CheckedStmt.TheVariants as s
use Rattle.domino_check.specs.declared.numbered.CheckedArm.{CheckedArm, fold-roll-CheckedArm}
use Rattle.domino_check.specs.Numbering.{numbered_body}
use Rattle.domino_check.specs.NumberedMeaning.{Indexing, indexing, numbered_arrays, numbered_value, set_field, set_cell, numbered_step, numbered_choice, numbered_exec}
use Rattle.domino_check.specs.Sites.{Site, Sited, SitedArm, field_site, cell_site, condition_site, in_block, in_last_block, in_chain, stmt_sites, arm_sites, sites_of}
use Rattle.domino_check.specs.Indexes.{HasIndexes}
use Rattle.domino_names.specs.NamesRefused.{PassesNames}
use Rattle.domino_check.specs.Reached.{Walk, WalkArm, block_reaches, last_reaches, chain_reaches, all_do, stmt_walking, arm_walking, walk, walk_arm, reached_sites, TouchesReached}
use Rattle.domino_check.proofs.Agreement.{agreement}
use Rattle.domino_check.proofs.MeaningLemmas as meaning
use Rattle.domino_check.proofs.SiteLemmas.{marked, marked_at}
use Rattle.domino_check.proofs.SiteForms.{sites-SetField, sites-SetCell, sites-If, sites-Else, sites-Arm}
use Rattle.domino_check.proofs.TreeLemmas.{stmt_induct}

module _ (ix : Indexing) where
  -- ---- each form

  walk-SetField : (f : ℕ) (x : CheckedExpr) → walk ix (s.SetField f x) ≡ record { does = set_field ix f x; reaches = λ context st. field_site f x context ∷ [] }
  walk-SetField f x = ap (walk ix) (sym (s.rolls-SetField f x)) ∙ fold-roll-CheckedStmt Walk WalkArm (stmt_walking ix) (arm_walking ix) (O.CheckedStmt-F.SetField f x)

  walk-SetCell : (a : ℕ) (x : CheckedExpr) → walk ix (s.SetCell a x) ≡ record { does = set_cell ix a x; reaches = λ context st. cell_site a x context ∷ [] }
  walk-SetCell a x = ap (walk ix) (sym (s.rolls-SetCell a x)) ∙ fold-roll-CheckedStmt Walk WalkArm (stmt_walking ix) (arm_walking ix) (O.CheckedStmt-F.SetCell a x)

  abbrev choices : List WalkArm → List Choice
  choices arms = map (λ (a : WalkArm). a.choice) arms

  walk-If : (arms : List CheckedArm) → walk ix (s.If arms None) ≡ record { does = chosen (choices (map (walk_arm ix) arms)) None; reaches = chain_reaches (map (walk_arm ix) arms) None }
  walk-If arms = ap (walk ix) (sym (s.rolls-If arms None)) ∙ fold-roll-CheckedStmt Walk WalkArm (stmt_walking ix) (arm_walking ix) (O.CheckedStmt-F.If arms None)

  walk-Else : (arms : List CheckedArm) (body : List CheckedStmt) → walk ix (s.If arms (Some body))
      ≡ record { does = chosen (choices (map (walk_arm ix) arms)) (Some (all_do (map (walk ix) body))); reaches = chain_reaches (map (walk_arm ix) arms) (Some (map (walk ix) body)) }
  walk-Else arms body = ap (walk ix) (sym (s.rolls-If arms (Some body))) ∙ fold-roll-CheckedStmt Walk WalkArm (stmt_walking ix) (arm_walking ix) (O.CheckedStmt-F.If arms (Some body))

  abbrev arm_walk : CheckedExpr → List Walk → WalkArm
  arm_walk cond body = record {
    cond = cond;
    choice = record { holds = λ st. truth (numbered_value ix cond st); arrays = numbered_arrays cond; block = in_turn (all_do body) };
    reaches = block_reaches body;
  }

  walk-Arm : (cond : CheckedExpr) (body : List CheckedStmt) → walk_arm ix (record { cond = cond; body = body }) ≡ arm_walk cond (map (walk ix) body)
  walk-Arm cond body = fold-roll-CheckedArm Walk WalkArm (stmt_walking ix) (arm_walking ix) (record { cond = cond; body = body })

  -- ---- a walk does what the execution does

  abbrev Steps : CheckedStmt → Type 0
  Steps x = (walk ix x).does ≡ numbered_step ix x

  abbrev Chooses : CheckedArm → Type 0
  Chooses x = (walk_arm ix x).choice ≡ numbered_choice ix x

  steps_all : (body : List CheckedStmt) → Each Steps body → all_do (map (walk ix) body) ≡ map (numbered_step ix) body
  steps_all [] each = refl
  steps_all (x ∷ body) each = λ i. each.0 i ∷ steps_all body each.1 i

  chooses_all : (arms : List CheckedArm) → Each Chooses arms → choices (map (walk_arm ix) arms) ≡ map (numbered_choice ix) arms
  chooses_all [] each = refl
  chooses_all (x ∷ arms) each = λ i. each.0 i ∷ chooses_all arms each.1 i

  steps : (x : CheckedStmt) → Steps x
  steps = stmt_induct Steps Chooses
      (λ f x. ap (λ (w : Walk). w.does) (walk-SetField f x) ∙ (λ i st. sym (meaning.step-SetField ix f x st) i))
      (λ a x. ap (λ (w : Walk). w.does) (walk-SetCell a x) ∙ (λ i st. sym (meaning.step-SetCell ix a x st) i))
      (λ arms each. ap (λ (w : Walk). w.does) (walk-If arms) ∙ (λ i. chosen (chooses_all arms each i) None) ∙ (λ i st. sym (meaning.step-If ix arms st) i))
      (λ arms body each inside. ap (λ (w : Walk). w.does) (walk-Else arms body) ∙ (λ i. chosen (chooses_all arms each i) (Some (steps_all body inside i))) ∙ (λ i st. sym (meaning.step-Else ix arms body st) i))
      (λ cond body inside. ap (λ (w : WalkArm). w.choice) (walk-Arm cond body)
      ∙ (λ i. record { holds = λ st. truth (numbered_value ix cond st); arrays = numbered_arrays cond; block = in_turn (steps_all body inside i) })
      ∙ sym (meaning.choice-Arm ix cond body))

  each_steps : (body : List CheckedStmt) → Each Steps body
  each_steps [] = tt
  each_steps (x ∷ body) = (steps x, each_steps body)

  -- ---- what is touched

  marked_both : (xs ys : List Site) (marks : List Bool) → marked (xs ++ ys) marks ≡ marked ys (marked xs marks)
  marked_both [] ys marks = refl
  marked_both (x ∷ xs) ys marks = marked_both xs ys (touching x.touches marks)

  -- a walk touches what the sites that it reaches touch
  abbrev Marks : Walk → Type 0
  Marks w = (context : List CheckedExpr) (st : State) → (w.does st).touched ≡ marked (w.reaches context st) st.touched

  record MarksArm (a : WalkArm) : Type 0 where
    arrays : a.choice.arrays ≡ numbered_arrays a.cond
    block : (context : List CheckedExpr) (st : State) → (a.choice.block st).touched ≡ marked (a.reaches context st) st.touched

  abbrev MarksStmt : CheckedStmt → Type 0
  MarksStmt x = Marks (walk ix x)

  abbrev MarksIn : CheckedArm → Type 0
  MarksIn x = MarksArm (walk_arm ix x)

  marks_block : (body : List CheckedStmt) → Each MarksStmt body → (context : List CheckedExpr) (st : State)
      → (in_turn (all_do (map (walk ix) body)) st).touched ≡ marked (block_reaches (map (walk ix) body) context st) st.touched
  marks_block [] each context st = refl
  marks_block (x ∷ body) each context st =
      let w = walk ix x in
      marks_block body each.1 context (w.does st)
      ∙ ap (marked (block_reaches (map (walk ix) body) context (w.does st))) (each.0 context st)
      ∙ sym (marked_both (w.reaches context st) (block_reaches (map (walk ix) body) context (w.does st)) st.touched)

  marks_chain : (arms : List CheckedArm) → Each MarksIn arms → (last : Option (List Walk))
      → ((context : List CheckedExpr) (st : State) → (at_last (option_map all_do last) st).touched ≡ marked (last_reaches last context st) st.touched)
      → (context : List CheckedExpr) (st : State)
      → (chosen (choices (map (walk_arm ix) arms)) (option_map all_do last) st).touched ≡ marked (chain_reaches (map (walk_arm ix) arms) last context st) st.touched
  marks_chain [] each last ends context st = ends context st
  marks_chain (x ∷ arms) each last ends context st =
      let a = walk_arm ix x in
      let inner : List CheckedExpr = context ++ a.cond ∷ [] in
      let middle = touch a.choice.arrays st in
      let behind = marks_chain arms each.1 last ends inner middle in
      let by : (h : Bool) → (if h then a.choice.block middle else chosen (choices (map (walk_arm ix) arms)) (option_map all_do last) middle).touched
      ≡ marked (if h then a.reaches inner middle else chain_reaches (map (walk_arm ix) arms) last inner middle) middle.touched = λ h.
      elim h as (λ h. (if h then a.choice.block middle else chosen (choices (map (walk_arm ix) arms)) (option_map all_do last) middle).touched
      ≡ marked (if h then a.reaches inner middle else chain_reaches (map (walk_arm ix) arms) last inner middle) middle.touched) [
        | true ↦ each.0.block inner middle
        | false ↦ behind
      ] in
      by (a.choice.holds st.store)
      ∙ ap (λ l. marked (if a.choice.holds st.store then a.reaches inner middle else chain_reaches (map (walk_arm ix) arms) last inner middle) (touching l st.touched)) each.0.arrays

  marks_stmt : (x : CheckedStmt) → MarksStmt x
  marks_stmt = stmt_induct MarksStmt MarksIn
      (λ f x. subst Marks (sym (walk-SetField f x)) (λ context st. refl))
      (λ a x. subst Marks (sym (walk-SetCell a x)) (λ context st. refl))
      (λ arms each. subst Marks (sym (walk-If arms)) (marks_chain arms each None (λ context st. refl)))
      (λ arms body each inside. subst Marks (sym (walk-Else arms body)) (marks_chain arms each (Some (map (walk ix) body)) (marks_block body inside)))
      (λ cond body inside. subst MarksArm (sym (walk-Arm cond body)) (record { arrays = refl; block = marks_block body inside }))

  each_marks : (body : List CheckedStmt) → Each MarksStmt body
  each_marks [] = tt
  each_marks (x ∷ body) = (marks_stmt x, each_marks body)

  pub reached_body : (body : List CheckedStmt) (start : State) → (numbered_exec ix body start).touched ≡ marked (block_reaches (map (walk ix) body) [] start) start.touched
  reached_body body start = (λ i. (in_turn (sym (steps_all body (each_steps body)) i) start).touched) ∙ marks_block body (each_marks body) [] start

  -- ---- which sites are reached

  -- each site that a statement reaches is one of its sites
  abbrev Finds : CheckedStmt → Type 0
  Finds x = (context : List CheckedExpr) (st : State) (site : Site) → Contains ((walk ix x).reaches context st) site → Contains (stmt_sites x context) site

  record FindsIn (x : CheckedArm) : Type 0 where
    cond : (walk_arm ix x).cond ≡ (arm_sites x).cond
    block : (context : List CheckedExpr) (st : State) (site : Site) → Contains ((walk_arm ix x).reaches context st) site → Contains ((arm_sites x).block context) site

  both_find : (xs ys us vs : List Site) (site : Site) → (Contains xs site → Contains us site) → (Contains ys site → Contains vs site) → Contains (xs ++ ys) site → Contains (us ++ vs) site
  both_find xs ys us vs site f g h = elim (Contains-append_cases xs ys site h) [ inl k ↦ Contains-append_left us vs site (f k) | inr k ↦ Contains-append_right us vs site (g k) ]

  finds_block : (body : List CheckedStmt) → Each Finds body → (context : List CheckedExpr) (st : State) (site : Site)
      → Contains (block_reaches (map (walk ix) body) context st) site → Contains (in_block (map stmt_sites body) context) site
  finds_block [] each context st site h = h
  finds_block (x ∷ body) each context st site h =
      let next = (walk ix x).does st in
      both_find ((walk ix x).reaches context st) (block_reaches (map (walk ix) body) context next) (stmt_sites x context) (in_block (map stmt_sites body) context) site
      (each.0 context st site) (finds_block body each.1 context next site) h

  finds_chain : (arms : List CheckedArm) → Each FindsIn arms → (last : Option (List Walk)) (end : Option (List Sited))
      → ((context : List CheckedExpr) (st : State) (site : Site) → Contains (last_reaches last context st) site → Contains (in_last_block end context) site)
      → (context : List CheckedExpr) (st : State) (site : Site) → Contains (chain_reaches (map (walk_arm ix) arms) last context st) site → Contains (in_chain (map arm_sites arms) end context) site
  finds_chain [] each last end ends context st site h = ends context st site h
  finds_chain (x ∷ arms) each last end ends context st site h =
      let a = walk_arm ix x in
      let middle = touch a.choice.arrays st in
      let inner : List CheckedExpr = context ++ a.cond ∷ [] in
      let mine = (arm_sites x).block inner in
      let others = in_chain (map arm_sites arms) end inner in
      let by : (b : Bool) → Contains (if b then a.reaches inner middle else chain_reaches (map (walk_arm ix) arms) last inner middle) site → Contains (mine ++ others) site = λ b.
      elim b as (λ b. Contains (if b then a.reaches inner middle else chain_reaches (map (walk_arm ix) arms) last inner middle) site → Contains (mine ++ others) site) [
        | true ↦ λ k. Contains-append_left mine others site (each.0.block inner middle site k)
        | false ↦ λ k. Contains-append_right mine others site (finds_chain arms each.1 last end ends inner middle site k)
      ] in
      let rest = if a.choice.holds st.store then a.reaches inner middle else chain_reaches (map (walk_arm ix) arms) last inner middle in
      subst (λ (cond : CheckedExpr). Contains (condition_site cond context ∷ ((arm_sites x).block (context ++ cond ∷ []) ++ in_chain (map arm_sites arms) end (context ++ cond ∷ []))) site) each.0.cond
      (both_find (condition_site a.cond context ∷ []) rest (condition_site a.cond context ∷ []) (mine ++ others) site (λ k. k) (by (a.choice.holds st.store)) h)

  -- a walk and the sites of a statement are these
  found_by : (x : CheckedStmt) (w : Walk) (context : List CheckedExpr) (sites : List Site) → walk ix x ≡ w → stmt_sites x context ≡ sites → (st : State) (site : Site)
      → (Contains (w.reaches context st) site → Contains sites site) → Contains ((walk ix x).reaches context st) site → Contains (stmt_sites x context) site
  found_by x w context sites is are st site f h =
      subst (λ (l : List Site). Contains l site) (sym are) (f (subst (λ (v : Walk). Contains (v.reaches context st) site) is h))

  finds_stmt : (x : CheckedStmt) → Finds x
  finds_stmt = stmt_induct Finds FindsIn
      (λ f x context st site. found_by _ _ context _ (walk-SetField f x) (sites-SetField f x context) st site (λ h. h))
      (λ a x context st site. found_by _ _ context _ (walk-SetCell a x) (sites-SetCell a x context) st site (λ h. h))
      (λ arms each context st site. found_by _ _ context _ (walk-If arms) (sites-If arms context) st site (finds_chain arms each None None (λ context st site h. h) context st site))
      (λ arms body each inside context st site. found_by _ _ context _ (walk-Else arms body) (sites-Else arms body context) st site
      (finds_chain arms each (Some (map (walk ix) body)) (Some (map stmt_sites body)) (finds_block body inside) context st site))
      (λ cond body inside. record {
        cond = ap (λ (w : WalkArm). w.cond) (walk-Arm cond body) ∙ sym (ap (λ (y : SitedArm). y.cond) (sites-Arm cond body));
        block = λ context st site h.
            subst (λ (y : SitedArm). Contains (y.block context) site) (sym (sites-Arm cond body)) (finds_block body inside context st site (subst (λ (w : WalkArm). Contains (w.reaches context st) site) (walk-Arm cond body) h));
      })

  each_finds : (body : List CheckedStmt) → Each Finds body
  each_finds [] = tt
  each_finds (x ∷ body) = (finds_stmt x, each_finds body)

  pub found_body : (body : List CheckedStmt) (start : State) (site : Site) → Contains (block_reaches (map (walk ix) body) [] start) site → Contains (sites_of body) site
  found_body body start site h = finds_block body (each_finds body) [] start site h

-- an execution touches exactly what the sites that it reaches touch
pub touches_reached : (p : Program) (start : State) → PassesNames p → HasIndexes p → TouchesReached p start
touches_reached p start passes kept = record {
  exactly = λ a within.
      ap (λ (s : State). get_or s.touched a false) (sym (agreement p passes kept start))
      ∙ ap (λ (l : List Bool). get_or l a false) (reached_body (indexing p) (numbered_body p) start)
      ∙ marked_at a (reached_sites p start) start.touched within;
  among = found_body (indexing p) (numbered_body p) start;
}
