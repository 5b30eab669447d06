-- What an execution touches is what its sites touch.
use Rattle.std.proofs.Common.{◌≡◌, ℕ, ◌<◌, ◌==◌, Bool, true, false, ◌||◌, ◌&&◌, if◌then◌else◌, List, [], ◌∷◌, ◌++◌, length, map, get_or, None, Some, Option, refl, sym, ap, subst, ◌∙◌, true≢false}
use Rattle.std.specs.List.{list_any}
use Rattle.mp5_words.specs.Cells.{touching}
use Rattle.domino_tree.specs.Execution.{State, Does, Choice, touch, in_turn, at_last, chosen}
use Rattle.domino_tree.proofs.ExprLemmas.{Each}
use Rattle.domino_check.specs.declared.numbered.CheckedExpr.{CheckedExpr}
use Rattle.domino_check.specs.declared.numbered.CheckedStmt.{CheckedStmt}
use Rattle.domino_check.specs.declared.numbered.CheckedArm.{CheckedArm}
use Rattle.domino_check.specs.NumberedMeaning.{Indexing, indexing, numbered_arrays, numbered_step, numbered_choice, numbered_exec}
use Rattle.domino_check.specs.Sites.{Site, Sited, SitedArm, field_site, cell_site, condition_site, in_block, in_last_block, in_chain, stmt_sites, arm_sites, sites_of, touches, is_touched, no_condition, is_open, is_always_touched}
use Rattle.domino_tree.specs.declared.program.Program.{Program}
use Rattle.domino_check.specs.Numbering.{numbered_body}
use Rattle.domino_check.specs.Indexes.{HasIndexes}
use Rattle.domino_names.specs.NamesRefused.{PassesNames}
use Rattle.domino_check.specs.Touched.{TouchesBySites}
use Rattle.domino_check.proofs.Agreement.{agreement}
use Rattle.domino_check.proofs.MeaningLemmas as meaning
use Rattle.domino_check.proofs.SiteLemmas.{any_append, or_false, length-touching, touching_mark}
use Rattle.domino_check.proofs.SiteForms.{sites-SetField, sites-SetCell, sites-If, sites-Else, sites-Arm}
use Rattle.domino_check.proofs.TreeLemmas.{stmt_induct}

-- ---- a mark before and after

-- the array is marked after only where it was before or is touched, and is where it was before or is always touched
pub record Tells (before after touched always : Bool) : Type 0 where
  pub within : after ≡ true → (before || touched) ≡ true
  pub stays : before ≡ true → after ≡ true
  pub sure : always ≡ true → after ≡ true

either : (a b c : Bool) → (a || b) ≡ true → (a ≡ true → c ≡ true) → (b ≡ true → c ≡ true) → c ≡ true
either true b c h f g = f refl
either false b c h f g = g h

or_left : (a b : Bool) → a ≡ true → (a || b) ≡ true
or_left a b h = λ i. h i || b

or_right : (a b : Bool) → b ≡ true → (a || b) ≡ true
or_right true b h = refl
or_right false b h = h

or_middle : (a b c : Bool) → (a || b) ≡ true → (a || (b || c)) ≡ true
or_middle a b c h = either a b (a || (b || c)) h (or_left a (b || c)) (λ k. or_right a (b || c) (or_left b c k))

or_last : (a b c : Bool) → (a || c) ≡ true → (a || (b || c)) ≡ true
or_last a b c h = either a c (a || (b || c)) h (or_left a (b || c)) (λ k. or_right a (b || c) (or_right b c k))

then_tells : {b m a t u v w : Bool} → Tells b m t v → Tells m a u w → Tells b a (t || u) (v || w)
then_tells {b} {m} {a} {t} {u} {v} {w} first second = record {
  within = λ h. either m u (b || (t || u)) (second.within h) (λ k. or_middle b t u (first.within k)) (λ k. or_right b (t || u) (or_right t u k));
  stays = λ h. second.stays (first.stays h);
  sure = λ h. either v w a h (λ k. second.stays (first.sure k)) second.sure;
}

also_right : {b a t v : Bool} → Tells b a t v → (u w : Bool) → w ≡ false → Tells b a (t || u) (v || w)
also_right {b} {a} {t} {v} h u w never = record {
  within = λ k. or_middle b t u (h.within k);
  stays = h.stays;
  sure = λ k. either v w a k h.sure (λ z. absurd (true≢false (sym z ∙ never)));
}

also_left : {b a t v : Bool} → Tells b a t v → (u w : Bool) → w ≡ false → Tells b a (u || t) (w || v)
also_left {b} {a} {t} {v} h u w never = record {
  within = λ k. or_last b u t (h.within k);
  stays = h.stays;
  sure = λ k. either w v a k (λ z. absurd (true≢false (sym z ∙ never))) h.sure;
}

and_right : (a b : Bool) → (a && b) ≡ true → b ≡ true
and_right true b h = h
and_right false b h = absurd (true≢false (sym h))

touch_tells : (b m t sure : Bool) → m ≡ (b || t) → Tells b m t (sure && t)
touch_tells b m t first is = record {
  within = λ h. sym is ∙ h;
  stays = λ h. is ∙ or_left b t h;
  sure = λ h. is ∙ or_right b t (and_right first t h);
}

-- nothing is done
still : (b : Bool) → Tells b b false false
still true = record { within = λ h. refl; stays = λ h. h; sure = λ h. refl }
still false = record { within = λ h. h; stays = λ h. h; sure = λ h. h }

-- ---- sites that a condition decides about

-- behind a condition a list isn't empty
decided : (context : List CheckedExpr) (c : CheckedExpr) → no_condition (context ++ c ∷ []) ≡ false
decided [] c = refl
decided (x ∷ context) c = refl

module _ (a : ℕ) where
  -- no site with a condition is always executed
  abbrev Inside : CheckedStmt → Type 0
  Inside x = (context : List CheckedExpr) (c : CheckedExpr) → is_always_touched (stmt_sites x (context ++ c ∷ [])) a ≡ false

  abbrev InsideArm : CheckedArm → Type 0
  InsideArm x = (context : List CheckedExpr) (c : CheckedExpr) → is_always_touched ((arm_sites x).block (context ++ c ∷ [])) a ≡ false

  never : (xs ys : List Site) → is_always_touched xs a ≡ false → is_always_touched ys a ≡ false → is_always_touched (xs ++ ys) a ≡ false
  never xs ys h k = any_append (λ (site : Site). is_open site && touches a site) xs ys ∙ (λ i. h i || k i)

  inside_block : (body : List CheckedStmt) → Each Inside body → (context : List CheckedExpr) (c : CheckedExpr) → is_always_touched (in_block (map stmt_sites body) (context ++ c ∷ [])) a ≡ false
  inside_block [] each context c = refl
  inside_block (x ∷ body) each context c = never (stmt_sites x (context ++ c ∷ [])) (in_block (map stmt_sites body) (context ++ c ∷ [])) (each.0 context c) (inside_block body each.1 context c)

  inside_chain : (arms : List CheckedArm) → Each InsideArm arms → (last : Option (List Sited)) → ((context : List CheckedExpr) (c : CheckedExpr) → is_always_touched (in_last_block last (context ++ c ∷ [])) a ≡ false)
      → (context : List CheckedExpr) (c : CheckedExpr) → is_always_touched (in_chain (map arm_sites arms) last (context ++ c ∷ [])) a ≡ false
  inside_chain [] each last ends context c = ends context c
  inside_chain (x ∷ arms) each last ends context c =
      let outer : List CheckedExpr = context ++ c ∷ [] in
      let cond = (arm_sites x).cond in
      let rest = never ((arm_sites x).block (outer ++ cond ∷ [])) (in_chain (map arm_sites arms) last (outer ++ cond ∷ [])) (each.0 outer cond) (inside_chain arms each.1 last ends outer cond) in
      (λ i. (decided context c i && touches a (condition_site cond outer)) || rest i)

  inside_stmt : (x : CheckedStmt) → Inside x
  inside_stmt = stmt_induct Inside InsideArm
      (λ f x context c. ap (λ l. is_always_touched l a) (sites-SetField f x (context ++ c ∷ [])) ∙ (λ i. (decided context c i && list_any (λ (b : ℕ). b == a) (numbered_arrays x)) || false))
      (λ b x context c. ap (λ l. is_always_touched l a) (sites-SetCell b x (context ++ c ∷ [])) ∙ (λ i. (decided context c i && list_any (λ (d : ℕ). d == a) (b ∷ numbered_arrays x)) || false))
      (λ arms each context c. ap (λ l. is_always_touched l a) (sites-If arms (context ++ c ∷ [])) ∙ inside_chain arms each None (λ context c. refl) context c)
      (λ arms body each inside context c. ap (λ l. is_always_touched l a) (sites-Else arms body (context ++ c ∷ [])) ∙ inside_chain arms each (Some (map stmt_sites body)) (inside_block body inside) context c)
      (λ cond body inside context c. ap (λ (arm : SitedArm). is_always_touched (arm.block (context ++ c ∷ [])) a) (sites-Arm cond body) ∙ inside_block body inside context c)

  each_inside : (body : List CheckedStmt) → Each Inside body
  each_inside [] = tt
  each_inside (x ∷ body) = (inside_stmt x, each_inside body)

-- ---- executions

module _ (ix : Indexing) (a : ℕ) where
  -- how an execution and these sites go together
  pub record Told (before after : List Bool) (sites : List Site) : Type 0 where
    pub tells : Tells (get_or before a false) (get_or after a false) (is_touched sites a) (is_always_touched sites a)
    pub long : length after ≡ length before

  both_told : (before middle after : List Bool) (xs ys : List Site) → Told before middle xs → Told middle after ys → Told before after (xs ++ ys)
  both_told before middle after xs ys h k = record {
    tells = subst (λ (t : Bool). Tells (get_or before a false) (get_or after a false) t (is_always_touched (xs ++ ys) a)) (sym (any_append (touches a) xs ys))
        (subst (λ (t : Bool). Tells (get_or before a false) (get_or after a false) (is_touched xs a || is_touched ys a) t) (sym (any_append (λ (site : Site). is_open site && touches a site) xs ys)) (then_tells h.tells k.tells));
    long = k.long ∙ h.long;
  }

  -- one of two lists of sites, of which no other is always executed
  left_told : (before after : List Bool) (xs ys : List Site) → is_always_touched ys a ≡ false → Told before after xs → Told before after (xs ++ ys)
  left_told before after xs ys none h = record {
    tells = subst (λ (t : Bool). Tells (get_or before a false) (get_or after a false) t (is_always_touched (xs ++ ys) a)) (sym (any_append (touches a) xs ys))
        (subst (λ (t : Bool). Tells (get_or before a false) (get_or after a false) (is_touched xs a || is_touched ys a) t) (sym (any_append (λ (site : Site). is_open site && touches a site) xs ys)) (also_right h.tells (is_touched ys a) (is_always_touched ys a) none));
    long = h.long;
  }

  right_told : (before after : List Bool) (xs ys : List Site) → is_always_touched xs a ≡ false → Told before after ys → Told before after (xs ++ ys)
  right_told before after xs ys none h = record {
    tells = subst (λ (t : Bool). Tells (get_or before a false) (get_or after a false) t (is_always_touched (xs ++ ys) a)) (sym (any_append (touches a) xs ys))
        (subst (λ (t : Bool). Tells (get_or before a false) (get_or after a false) (is_touched xs a || is_touched ys a) t) (sym (any_append (λ (site : Site). is_open site && touches a site) xs ys)) (also_left h.tells (is_touched xs a) (is_always_touched xs a) none));
    long = h.long;
  }

  none_told : (marks : List Bool) → Told marks marks []
  none_told marks = record { tells = still (get_or marks a false); long = refl }

  -- one site
  site_told : (marks : List Bool) (x : Site) → a < length marks → Told marks (touching x.touches marks) (x ∷ [])
  site_told marks x within = record {
    tells = subst (λ (t : Bool). Tells (get_or marks a false) (get_or (touching x.touches marks) a false) t ((is_open x && touches a x) || false)) (or_false (touches a x))
        (subst (λ (t : Bool). Tells (get_or marks a false) (get_or (touching x.touches marks) a false) (touches a x) t) (or_false (is_open x && touches a x))
        (touch_tells (get_or marks a false) (get_or (touching x.touches marks) a false) (touches a x) (is_open x) (touching_mark a x.touches marks within)));
    long = length-touching x.touches marks;
  }

  abbrev ToldStmt : CheckedStmt → Type 0
  ToldStmt x = (context : List CheckedExpr) (s : State) → a < length s.touched → Told s.touched (numbered_step ix x s).touched (stmt_sites x context)

  record ToldArm (x : CheckedArm) : Type 0 where
    arrays : (numbered_choice ix x).arrays ≡ numbered_arrays (arm_sites x).cond
    block : (context : List CheckedExpr) (s : State) → a < length s.touched → Told s.touched ((numbered_choice ix x).block s).touched ((arm_sites x).block context)
    inside : InsideArm a x

  longer : (n m : ℕ) → m ≡ n → a < n → a < m
  longer n m is h = subst (λ k. a < k) (sym is) h

  told_block : (body : List CheckedStmt) → Each ToldStmt body → (context : List CheckedExpr) (s : State) → a < length s.touched → Told s.touched (in_turn (map (numbered_step ix) body) s).touched (in_block (map stmt_sites body) context)
  told_block [] each context s within = none_told s.touched
  told_block (x ∷ body) each context s within =
      let here = each.0 context s within in
      let next = numbered_step ix x s in
      both_told s.touched next.touched (in_turn (map (numbered_step ix) body) next).touched (stmt_sites x context) (in_block (map stmt_sites body) context) here
      (told_block body each.1 context next (longer (length s.touched) (length next.touched) here.long within))

  told_chain : (arms : List CheckedArm) → Each ToldArm arms → (last : Option (List Does)) (end : Option (List Sited))
      → ((context : List CheckedExpr) (s : State) → a < length s.touched → Told s.touched (at_last last s).touched (in_last_block end context))
      → ((context : List CheckedExpr) (c : CheckedExpr) → is_always_touched (in_last_block end (context ++ c ∷ [])) a ≡ false)
      → (context : List CheckedExpr) (s : State) → a < length s.touched → Told s.touched (chosen (map (numbered_choice ix) arms) last s).touched (in_chain (map arm_sites arms) end context)
  told_chain [] each last end ends none context s within = ends context s within
  told_chain (x ∷ arms) each last end ends none context s within =
      let choice = numbered_choice ix x in
      let arm = arm_sites x in
      let inner : List CheckedExpr = context ++ arm.cond ∷ [] in
      let here : Told s.touched (touching choice.arrays s.touched) (condition_site arm.cond context ∷ []) =
      subst (λ (l : List ℕ). Told s.touched (touching l s.touched) (condition_site arm.cond context ∷ [])) (sym each.0.arrays) (site_told s.touched (condition_site arm.cond context) within) in
      let middle = touch choice.arrays s in
      let reaches = longer (length s.touched) (length middle.touched) here.long within in
      let block = each.0.block inner middle reaches in
      let rest = told_chain arms each.1 last end ends none inner middle reaches in
      let others = inside_chain a arms (insides arms each.1) end none context arm.cond in
      let by : (h : Bool) → Told middle.touched (if h then choice.block middle else chosen (map (numbered_choice ix) arms) last middle).touched (arm.block inner ++ in_chain (map arm_sites arms) end inner) = λ h.
      elim h as (λ h. Told middle.touched (if h then choice.block middle else chosen (map (numbered_choice ix) arms) last middle).touched (arm.block inner ++ in_chain (map arm_sites arms) end inner)) [
        | true ↦ left_told middle.touched (choice.block middle).touched (arm.block inner) (in_chain (map arm_sites arms) end inner) others block
        | false ↦ right_told middle.touched (chosen (map (numbered_choice ix) arms) last middle).touched (arm.block inner) (in_chain (map arm_sites arms) end inner) (each.0.inside context arm.cond) rest
      ] in
      both_told s.touched middle.touched (if choice.holds s.store then choice.block middle else chosen (map (numbered_choice ix) arms) last middle).touched
      (condition_site arm.cond context ∷ []) (arm.block inner ++ in_chain (map arm_sites arms) end inner) here (by (choice.holds s.store))
    where
      insides : (arms : List CheckedArm) → Each ToldArm arms → Each (InsideArm a) arms
      insides [] each = tt
      insides (x ∷ arms) each = (each.0.inside, insides arms each.1)

  -- the marks and the sites are these
  told_by : (before after marks : List Bool) (xs ys : List Site) → after ≡ marks → xs ≡ ys → Told before marks ys → Told before after xs
  told_by before after marks xs ys m x h = subst (λ (l : List Bool). Told before l xs) (sym m) (subst (Told before marks) (sym x) h)

  told_stmt : (x : CheckedStmt) → ToldStmt x
  told_stmt = stmt_induct ToldStmt ToldArm
      (λ f x context st within. told_by st.touched _ _ _ _ (ap (λ (t : State). t.touched) (meaning.step-SetField ix f x st)) (sites-SetField f x context) (site_told st.touched (field_site f x context) within))
      (λ b x context st within. told_by st.touched _ _ _ _ (ap (λ (t : State). t.touched) (meaning.step-SetCell ix b x st)) (sites-SetCell b x context) (site_told st.touched (cell_site b x context) within))
      (λ arms each context st within. told_by st.touched _ _ _ _ (ap (λ (t : State). t.touched) (meaning.step-If ix arms st)) (sites-If arms context)
      (told_chain arms each None None (λ context s within. none_told s.touched) (λ context c. refl) context st within))
      (λ arms body each inside context st within. told_by st.touched _ _ _ _ (ap (λ (t : State). t.touched) (meaning.step-Else ix arms body st)) (sites-Else arms body context)
      (told_chain arms each (Some (map (numbered_step ix) body)) (Some (map stmt_sites body)) (told_block body inside) (inside_block a body (each_inside a body)) context st within))
      (λ cond body inside.
      let choice = meaning.choice-Arm ix cond body in
      let arm = sites-Arm cond body in
      record {
        arrays = ap (λ (c : Choice). c.arrays) choice ∙ sym (ap (λ (y : SitedArm). numbered_arrays y.cond) arm);
        block = λ context st within. told_by st.touched _ _ _ _ (ap (λ (c : Choice). (c.block st).touched) choice) (ap (λ (y : SitedArm). y.block context) arm) (told_block body inside context st within);
        inside = λ context c. ap (λ (y : SitedArm). is_always_touched (y.block (context ++ c ∷ [])) a) arm ∙ inside_block a body (each_inside a body) context c;
      })

  told_each : (body : List CheckedStmt) → Each ToldStmt body
  told_each [] = tt
  told_each (x ∷ body) = (told_stmt x, told_each body)

  -- an execution touches what its sites touch
  pub told_body : (body : List CheckedStmt) (start : State) → a < length start.touched → Told start.touched (numbered_exec ix body start).touched (sites_of body)
  told_body body start within = told_block body (told_each body) [] start within

-- an execution of a program touches what its sites touch
pub touches_by_sites : (p : Program) (start : State) (a : ℕ) → PassesNames p → HasIndexes p → a < length start.touched → TouchesBySites p start a
touches_by_sites p start a passes kept within =
    let told = (told_body (indexing p) a (numbered_body p) start within).tells in
    let same = ap (λ (s : State). get_or s.touched a false) (agreement p passes kept start) in
    record {
      within = λ h. told.within (same ∙ h);
      stays = λ h. sym same ∙ told.stays h;
      always = λ h. sym same ∙ told.sure h;
    }
