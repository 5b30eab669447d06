-- An execution that touches none of some arrays doesn't look at their cells, and leaves them as they are.
use Rattle.std.proofs.Common.{◌≡◌, ℕ, zero, suc, ℤ, ◌<◌, Bool, true, false, if◌then◌else◌, List, [], ◌∷◌, ◌++◌, length, map, flat_map, get_or, slice_set, Option, Some, None, refl, sym, ap, ◌∙◌, subst, arith}
use Rattle.std.specs.List.{slice_index_or}
use Rattle.std.proofs.lemmas.List.{get_or-set_same, get_or-set_other, length-set}
use Rattle.mp5_words.specs.Words.{op1, op2, truth}
use Rattle.mp5_words.specs.Cells.{word_at, cells_at, picked, hash_all, touching}
use Rattle.domino_tree.specs.Value.{Store}
use Rattle.domino_tree.specs.Execution.{State, Does, Choice, touch, at_last, chosen, in_turn}
use Rattle.domino_tree.proofs.ExprLemmas.{Each}
use Rattle.domino_check.specs.declared.numbered.CheckedExpr.{CheckedExpr}
use Rattle.domino_check.specs.declared.numbered.CheckedStmt.{CheckedStmt}
use Rattle.domino_check.specs.declared.numbered.CheckedStmt.TheVariants as stmt
use Rattle.domino_check.specs.declared.numbered.CheckedArm.{CheckedArm}
use Rattle.domino_check.specs.NumberedMeaning.{Indexing, place, numbered_value, numbered_arrays, set_field, set_cell, numbered_step, numbered_choice, numbered_exec}
use Rattle.domino_check.proofs.MeaningLemmas.{value-Number, value-Field, value-Cell, value-One, value-Two, value-Pick, value-Hash, arrays-Cell, arrays-One, arrays-Two, arrays-Pick, arrays-Hash, step-SetField, step-SetCell, step-If, step-Else, choice-Arm}
use Rattle.domino_check.proofs.TreeLemmas.{expr_induct, stmt_induct}

module _ (T : ℕ → Bool) where
  -- no array of the list is of the set
  abbrev pub Free : List ℕ → Type 0
  Free [] = Unit {0}
  Free (a ∷ arrays) = (T a ≡ false) × Free arrays

  -- the same but for the cells of the set
  pub record Same (s s' : Store) : Type 0 where
    pub fields : s.fields ≡ s'.fields
    pub long : length s.cells ≡ length s'.cells
    pub cells : (a : ℕ) → T a ≡ false → cells_at s.cells a ≡ cells_at s'.cells a

  -- no array of the set is marked
  abbrev pub Clear : List Bool → Type 0
  Clear marks = (a : ℕ) → T a ≡ true → slice_index_or marks a false ≡ false

  abbrev pub Within : List Bool → Type 0
  Within marks = (a : ℕ) → T a ≡ true → a < length marks

  apart : (a b : ℕ) → T a ≡ false → T b ≡ true → b ≡ a → ⊥
  apart a b f t e = let p : true ≡ false = sym t ∙ ap T e ∙ f in cc

  touching_long : (arrays : List ℕ) (marks : List Bool) → length (touching arrays marks) ≡ length marks
  touching_long [] marks = refl
  touching_long (a ∷ arrays) marks = touching_long arrays (slice_set marks a true) ∙ length-set marks a true

  within_along : (m n : List Bool) → length m ≡ length n → Within n → Within m
  within_along m n e w a t = let h = w a t in omega (arith, h, e)

  -- what is touched is not of a set that is clear afterwards
  free : (arrays : List ℕ) (marks : List Bool) → Within marks → Clear (touching arrays marks) → Free arrays × Clear marks
  free [] marks w c = (tt, c)
  free (a ∷ arrays) marks w c =
      let r = free arrays (slice_set marks a true) (within_along (slice_set marks a true) marks (length-set marks a true) w) c in
      let out : T a ≡ false = not_of (T a) refl r.1 in
      ((out, r.0), λ b t. sym (get_or-set_other marks a b true false (apart a b out t)) ∙ r.1 b t) where
        not_of : (b : Bool) → T a ≡ b → Clear (slice_set marks a true) → T a ≡ false
        not_of false e k = e
        not_of true e k = let p : true ≡ false = sym (get_or-set_same marks a true false (w a e)) ∙ k a e in cc

  -- ---- what an execution does

  pub record After (f : Does) (st st' : State) : Type 0 where
    pub store : Same (f st).store (f st').store
    pub touched : (f st).touched ≡ (f st').touched
    pub kept : (a : ℕ) → T a ≡ true → cells_at (f st).store.cells a ≡ cells_at st.store.cells a

  pub record Frames (f : Does) : Type 0 where
    pub long : (st : State) → length (f st).touched ≡ length st.touched
    pub before : (st : State) → Within st.touched → Clear (f st).touched → Clear st.touched
    pub after : (st st' : State) → Same st.store st'.store → st.touched ≡ st'.touched → Within st.touched → Clear (f st).touched → After f st st'

  pub record FramesChoice (c : Choice) : Type 0 where
    pub holds : (s s' : Store) → Same s s' → Free c.arrays → c.holds s ≡ c.holds s'
    pub block : Frames c.block

  nothing : Frames (λ s. s)
  nothing = record { long = λ st. refl; before = λ st w c. c; after = λ st st' s t w c. record { store = s; touched = t; kept = λ a e. refl } }

  both : (f g : Does) → Frames f → Frames g → Frames (λ s. g (f s))
  both f g hf hg = record {
    long = λ st. hg.long (f st) ∙ hf.long st;
    before = λ st w c. hf.before st w (hg.before (f st) (within_along (f st).touched st.touched (hf.long st) w) c);
    after = λ st st' s t w c.
        let w' : Within (f st).touched = within_along (f st).touched st.touched (hf.long st) w in
        let x : After f st st' = hf.after st st' s t w (hg.before (f st) w' c) in
        let y : After g (f st) (f st') = hg.after (f st) (f st') x.store x.touched w' c in
        record { store = y.store; touched = y.touched; kept = λ a e. y.kept a e ∙ x.kept a e };
  }

  touches : (arrays : List ℕ) → Frames (touch arrays)
  touches arrays = record {
    long = λ st. touching_long arrays st.touched;
    before = λ st w c. (free arrays st.touched w c).1;
    after = λ st st' s t w c. record { store = s; touched = ap (touching arrays) t; kept = λ a e. refl };
  }

  abbrev EachFrames : List Does → Type 0
  EachFrames [] = Unit {0}
  EachFrames (f ∷ fs) = Frames f × EachFrames fs

  turn : (fs : List Does) → EachFrames fs → Frames (in_turn fs)
  turn [] h = nothing
  turn (f ∷ fs) h = both f (in_turn fs) h.0 (turn fs h.1)

  abbrev LastFrames : Option (List Does) → Type 0
  LastFrames None = Unit {0}
  LastFrames (Some fs) = EachFrames fs

  last : (l : Option (List Does)) → LastFrames l → Frames (at_last l)
  last None h = nothing
  last (Some fs) h = turn fs h

  abbrev EachChoice : List Choice → Type 0
  EachChoice [] = Unit {0}
  EachChoice (c ∷ cs) = FramesChoice c × EachChoice cs

  -- one way or the other
  abbrev either : Bool → Does → Does → Does
  either b f g s = if b then f s else g s

  picks : (b : Bool) (f g : Does) → Frames f → Frames g → Frames (either b f g)
  picks true f g hf hg = hf
  picks false f g hf hg = hg

  -- an arm, and what comes where its condition fails
  module _ (c : Choice) (rest : Does) (hc : FramesChoice c) (hr : Frames rest) where
    both_ways : Bool → Does
    both_ways b s = either b c.block rest (touch c.arrays s)

    way : (b : Bool) → Frames (both_ways b)
    unfolding both_ways
    way b = both (touch c.arrays) (either b c.block rest) (touches c.arrays) (picks b c.block rest hc.block hr)

    arm : Frames (λ s. both_ways (c.holds s.store) s)
    unfolding both_ways
    arm = record {
      long = λ st. (way (c.holds st.store)).long st;
      before = λ st w e. (way (c.holds st.store)).before st w e;
      after = λ st st' s t w e.
          let x : After (both_ways (c.holds st.store)) st st' = (way (c.holds st.store)).after st st' s t w e in
          let w' : Within (touch c.arrays st).touched = within_along (touch c.arrays st).touched st.touched (touching_long c.arrays st.touched) w in
          let fr : Free c.arrays = (free c.arrays st.touched w ((picks (c.holds st.store) c.block rest hc.block hr).before (touch c.arrays st) w' e)).0 in
          let same : c.holds st.store ≡ c.holds st'.store = hc.holds st.store st'.store s fr in
          record {
            store = subst (λ b. Same (both_ways (c.holds st.store) st).store (both_ways b st').store) same x.store;
            touched = subst (λ b. (both_ways (c.holds st.store) st).touched ≡ (both_ways b st').touched) same x.touched;
            kept = x.kept;
          };
    }

  chain : (cs : List Choice) (l : Option (List Does)) → EachChoice cs → LastFrames l → Frames (chosen cs l)
  unfolding both_ways
  chain [] l h k = last l k
  chain (c ∷ cs) l h k = arm c (chosen cs l) h.0 (chain cs l h.1 k)

  -- ---- values and assignments

  free_append : (xs ys : List ℕ) → Free (xs ++ ys) → Free xs × Free ys
  free_append [] ys h = (tt, h)
  free_append (x ∷ xs) ys h = let r = free_append xs ys h.1 in ((h.0, r.0), r.1)

  module _ (ix : Indexing) where
    -- the value of an expression that shows none of the set
    abbrev pub ValueFrames : CheckedExpr → Type 0
    ValueFrames e = (s s' : Store) → Same s s' → Free (numbered_arrays e) → numbered_value ix e s ≡ numbered_value ix e s'

    place_same : (a : ℕ) (s s' : Store) → Same s s' → place ix a s.fields ≡ place ix a s'.fields
    place_same a s s' h = ap (place ix a) h.fields

    set_field_frames : (f : ℕ) (e : CheckedExpr) → ValueFrames e → Frames (set_field ix f e)
    set_field_frames f e v = record {
      long = λ st. touching_long (numbered_arrays e) st.touched;
      before = λ st w c. (free (numbered_arrays e) st.touched w c).1;
      after = λ st st' s t w c.
          let same : numbered_value ix e st.store ≡ numbered_value ix e st'.store = v st.store st'.store s (free (numbered_arrays e) st.touched w c).0 in
          record {
            store = record { fields = (λ i. slice_set (s.fields i) f (same i)); long = s.long; cells = s.cells };
            touched = ap (touching (numbered_arrays e)) t;
            kept = λ a k. refl;
          };
    }

    set_cell_frames : (a : ℕ) (e : CheckedExpr) → ValueFrames e → Frames (set_cell ix a e)
    set_cell_frames a e v = record {
      long = λ st. touching_long (a ∷ numbered_arrays e) st.touched;
      before = λ st w c. (free (a ∷ numbered_arrays e) st.touched w c).1;
      after = λ st st' s t w c.
          let fr : Free (a ∷ numbered_arrays e) = (free (a ∷ numbered_arrays e) st.touched w c).0 in
          let same : numbered_value ix e st.store ≡ numbered_value ix e st'.store = v st.store st'.store s fr.1 in
          let row : slice_set (cells_at st.store.cells a) (place ix a st.store.fields) (numbered_value ix e st.store) ≡ slice_set (cells_at st'.store.cells a) (place ix a st'.store.fields) (numbered_value ix e st'.store) =
          (λ i. slice_set (s.cells a fr.0 i) (place ix a (s.fields i)) (same i)) in
          record {
            store = record {
              fields = s.fields;
              long = length-set st.store.cells a _ ∙ s.long ∙ sym (length-set st'.store.cells a _);
              cells = λ b f. set_both st.store.cells st'.store.cells a b _ _ s.long (s.cells b f) row;
            };
            touched = ap (touching (a ∷ numbered_arrays e)) t;
            kept = λ b k. get_or-set_other st.store.cells a b _ [] (apart a b fr.0 k);
          };
    } where
      set_both : (xs ys : List (List ℤ)) (a b : ℕ) (x y : List ℤ) → length xs ≡ length ys → get_or xs b [] ≡ get_or ys b [] → x ≡ y → get_or (slice_set xs a x) b [] ≡ get_or (slice_set ys a y) b []
      set_both [] [] a b x y l e r = refl
      set_both [] (y' ∷ ys) a b x y l e r = cc
      set_both (x' ∷ xs) [] a b x y l e r = cc
      set_both (x' ∷ xs) (y' ∷ ys) zero zero x y l e r = r
      set_both (x' ∷ xs) (y' ∷ ys) zero (suc b) x y l e r = e
      set_both (x' ∷ xs) (y' ∷ ys) (suc a) zero x y l e r = e
      set_both (x' ∷ xs) (y' ∷ ys) (suc a) (suc b) x y l e r = set_both xs ys a b x y (omega arith) e r

    -- ---- the value of each expression

    args_same : (args : List CheckedExpr) → Each ValueFrames args → (s s' : Store) → Same s s' → Free (flat_map (λ (a : List ℕ). a) (map numbered_arrays args))
        → map (λ (a : Store → ℤ). a s) (map (numbered_value ix) args) ≡ map (λ (a : Store → ℤ). a s') (map (numbered_value ix) args)
    args_same [] h s s' k f = refl
    args_same (x ∷ args) h s s' k f =
        let r : Free (numbered_arrays x) × Free (flat_map (λ (a : List ℕ). a) (map numbered_arrays args)) = free_append (numbered_arrays x) (flat_map (λ (a : List ℕ). a) (map numbered_arrays args)) f in
        (λ i. h.0 s s' k r.0 i ∷ args_same args h.1 s s' k r.1 i)

    value_frames : (x : CheckedExpr) → ValueFrames x
    value_frames = expr_induct ValueFrames
        (λ n s s' k f. value-Number ix n s ∙ sym (value-Number ix n s'))
        (λ g s s' k f. value-Field ix g s ∙ ap (λ l. word_at l g) k.fields ∙ sym (value-Field ix g s'))
        (λ a s s' k f.
        let fr : Free (a ∷ []) = subst Free (arrays-Cell a) f in
        value-Cell ix a s ∙ (λ i. word_at (k.cells a fr.0 i) (place ix a (k.fields i))) ∙ sym (value-Cell ix a s'))
        (λ op a h s s' k f. value-One ix op a s ∙ ap (op1 op) (h s s' k (subst Free (arrays-One op a) f)) ∙ sym (value-One ix op a s'))
        (λ op a b h g s s' k f.
        let fr : Free (numbered_arrays a) × Free (numbered_arrays b) = free_append (numbered_arrays a) (numbered_arrays b) (subst Free (arrays-Two op a b) f) in
        value-Two ix op a b s ∙ (λ i. op2 op (h s s' k fr.0 i) (g s s' k fr.1 i)) ∙ sym (value-Two ix op a b s'))
        (λ c a b h g l s s' k f.
        let fr : Free (numbered_arrays c) × Free (numbered_arrays a ++ numbered_arrays b) = free_append (numbered_arrays c) (numbered_arrays a ++ numbered_arrays b) (subst Free (arrays-Pick c a b) f) in
        let rest : Free (numbered_arrays a) × Free (numbered_arrays b) = free_append (numbered_arrays a) (numbered_arrays b) fr.1 in
        value-Pick ix c a b s ∙ (λ i. picked (h s s' k fr.0 i) (g s s' k rest.0 i) (l s s' k rest.1 i)) ∙ sym (value-Pick ix c a b s'))
        (λ kind args h s s' k f.
        value-Hash ix kind args s ∙ ap (hash_all kind) (args_same args h s s' k (subst Free (arrays-Hash kind args) f)) ∙ sym (value-Hash ix kind args s'))

    -- ---- the execution of statements

    -- what does the same
    along : (f g : Does) → ((st : State) → f st ≡ g st) → Frames g → Frames f
    along f g h k = subst Frames (sym (λ i st. h st i)) k

    each_frames : (body : List CheckedStmt) → Each (λ x. Frames (numbered_step ix x)) body → EachFrames (map (numbered_step ix) body)
    each_frames [] h = tt
    each_frames (x ∷ body) h = (h.0, each_frames body h.1)

    each_choice : (arms : List CheckedArm) → Each (λ x. FramesChoice (numbered_choice ix x)) arms → EachChoice (map (numbered_choice ix) arms)
    each_choice [] h = tt
    each_choice (x ∷ arms) h = (h.0, each_choice arms h.1)

    step_frames : (x : CheckedStmt) → Frames (numbered_step ix x)
    step_frames = stmt_induct (λ x. Frames (numbered_step ix x)) (λ x. FramesChoice (numbered_choice ix x))
        (λ f x. along (numbered_step ix (stmt.SetField f x)) (set_field ix f x) (step-SetField ix f x) (set_field_frames f x (value_frames x)))
        (λ a x. along (numbered_step ix (stmt.SetCell a x)) (set_cell ix a x) (step-SetCell ix a x) (set_cell_frames a x (value_frames x)))
        (λ arms h. along (numbered_step ix (stmt.If arms None)) (chosen (map (numbered_choice ix) arms) None) (step-If ix arms) (chain (map (numbered_choice ix) arms) None (each_choice arms h) tt))
        (λ arms body h g. along (numbered_step ix (stmt.If arms (Some body))) (chosen (map (numbered_choice ix) arms) (Some (map (numbered_step ix) body))) (step-Else ix arms body) (chain (map (numbered_choice ix) arms) (Some (map (numbered_step ix) body)) (each_choice arms h) (each_frames body g)))
        (λ cond body h. subst FramesChoice (sym (choice-Arm ix cond body)) (record {
          holds = λ s s' k f. ap truth (value_frames cond s s' k f);
          block = turn (map (numbered_step ix) body) (each_frames body h);
        }))

    each_step : (body : List CheckedStmt) → EachFrames (map (numbered_step ix) body)
    each_step [] = tt
    each_step (x ∷ body) = (step_frames x, each_step body)

    -- the execution of a body frames
    pub exec_frames : (body : List CheckedStmt) → Frames (numbered_exec ix body)
    exec_frames body = turn (map (numbered_step ix) body) (each_step body)
