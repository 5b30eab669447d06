-- The instructions of an expression use slots that hold words, touch no array, and are as many as its count.
use Rattle.std.proofs.Common.{◌≡◌, ℕ, zero, suc, ◌+◌, ◌==◌, Bool, true, ◌&&◌, List, [], ◌∷◌, ◌++◌, length, map, sum, get_or, None, refl, sym, ap, subst, ◌∙◌, length-append, arith}
use Rattle.std.specs.List.{list_all}
use Rattle.std.proofs.lemmas.List.{length-map}
use Rattle.std.proofs.lemmas.List.Sums.{sum_by-cons}
use Rattle.std.proofs.lemmas.Bool.Decides.{Decides-eqb}
use Rattle.mp5_words.specs.declared.op.Op1.{Op1}
use Rattle.mp5_words.specs.declared.op.Op2.{Op2}
use Rattle.mp5_words.specs.declared.hashing.HashKind.{HashKind}
use Rattle.mp5_words.specs.declared.hashing.HashKind.TheVariants as kind
use Rattle.mp5_words.specs.Words.{arity}
use Rattle.code_forms.specs.declared.guard.GuardExpr.{GuardExpr}
use Rattle.code_forms.specs.declared.guard.GuardExpr.TheOpen as G
use Rattle.code_forms.specs.declared.flat.Operand.{Operand}
use Rattle.code_forms.specs.declared.flat.Operand.TheVariants as operand
use Rattle.code_forms.specs.declared.flat.Instr.{Instr}
use Rattle.code_forms.specs.declared.flat.Instr.TheVariants as instr
use Rattle.code_forms.specs.GuardValid.{fits, operators_in}
use Rattle.code_forms.specs.FlatValid.{Written, is_written, is_zero, third_fits, instr_fits, writes, after_all, instrs_fit, event_of, events}
use Rattle.code_forms.proofs.EachLemmas.{Each}
use Rattle.code_forms.proofs.ValidLemmas.{and_front, and_back, and_both}
use Rattle.code_forms.proofs.GuardTrees.{fits-One, fits-Two, fits-Pick, fits-Hash, operators-Number, operators-Field, operators-Cell, operators-One, operators-Two, operators-Pick, operators-Hash}
use Rattle.code_forms.proofs.GuardTrees as guarded
use Rattle.code_forms.proofs.FitLemmas.{fit_join, after_join, events_join, kept, new_slot}
use Rattle.ssa_flatten.specs.Flattening.{Latest, Code, Codes, Emits, in_turn, closing, operand_at, copy_operand, flattening, flat}
use Rattle.ssa_flatten.proofs.FlatExprs.{flat-Number, flat-Field, flat-Cell, flat-One, flat-Two, flat-Pick, flat-Hash}

-- the latest operands are numbers or slots that hold words
pub record LatestFit (w : Written) (latest : Latest) : Type 0 where
  pub fields : (k : ℕ) → is_written w (operand_at latest.fields k) ≡ true
  pub copies : (a : ℕ) → is_written w (copy_operand (get_or latest.copies a None)) ≡ true

-- they stay so behind instructions
still_fit : (w : Written) (xs : List Instr) (latest : Latest) → LatestFit w latest → LatestFit (after_all w xs) latest
still_fit w xs latest fit = record { fields = λ k. kept w xs (operand_at latest.fields k) (fit.fields k); copies = λ a. kept w xs (copy_operand (get_or latest.copies a None)) (fit.copies a) }

-- ---- expressions over so many fields and arrays, and instructions over so many arrays

module _ (fields inner arrays : ℕ) where
  -- the code uses slots that hold words, its result is one, it touches no array, and it has so many instructions
  pub record Fits (w : Written) (count : ℕ) (code : Code) : Type 0 where
    pub fit : instrs_fit arrays w code.instrs ≡ true
    pub written : is_written (after_all w code.instrs) code.result ≡ true
    pub next : length (after_all w code.instrs).words ≡ code.next
    pub quiet : (a : ℕ) → events a code.instrs ≡ []
    pub many : length code.instrs ≡ count

  abbrev pub AllFit : ℕ → Emits → Type 0
  AllFit count emits = (w : Written) (latest : Latest) (at : ℕ) → length w.words ≡ at → LatestFit w latest → Fits w count (emits latest at)

  -- one more instruction, which writes its slot and touches no array
  closed : (w : Written) (xs : List Instr) (at count : ℕ) (i : Instr) → instrs_fit arrays w xs ≡ true → length (after_all w xs).words ≡ at
      → ((a : ℕ) → events a xs ≡ []) → length xs ≡ count
      → instr_fits arrays (after_all w xs) i ≡ true → writes i ≡ true → ((a : ℕ) → event_of a i ≡ []) → Fits w (1 + count) (closing xs at i)
  closed w xs at count i fit long quiet many fits does silent = record {
    fit = fit_join arrays w xs (i ∷ []) fit (and_both (instr_fits arrays (after_all w xs) i) true fits refl);
    written = ap (λ v. is_written v (operand.Slot at)) (after_join w xs (i ∷ [])) ∙ new_slot (after_all w xs) i at long does;
    next = ap (λ v. length v.words) (after_join w xs (i ∷ [])) ∙ omega (arith, long, length-append (after_all w xs).words (writes i ∷ []));
    quiet = λ a. events_join a xs (i ∷ []) ∙ (λ j. quiet a j ++ (silent a j ++ []));
    many = omega (arith, many, length-append xs (i ∷ []));
  }

  one_fits : (op : Op1) (a : Emits) (m : ℕ) → AllFit m a → AllFit (1 + m) (flattening (G.GuardExpr-F.One op a))
  one_fits op a m held w latest at long fine =
      let part = held w latest at long fine in
      closed w (a latest at).instrs (a latest at).next m (instr.One op (a latest at).result) part.fit part.next part.quiet part.many part.written refl (λ b. refl)

  -- two codes, one after another
  record Both (w : Written) (m n : ℕ) (left right : Code) : Type 0 where
    fit : instrs_fit arrays w (left.instrs ++ right.instrs) ≡ true
    first : is_written (after_all w (left.instrs ++ right.instrs)) left.result ≡ true
    second : is_written (after_all w (left.instrs ++ right.instrs)) right.result ≡ true
    next : length (after_all w (left.instrs ++ right.instrs)).words ≡ right.next
    quiet : (a : ℕ) → events a (left.instrs ++ right.instrs) ≡ []
    many : length (left.instrs ++ right.instrs) ≡ m + n

  both : (w : Written) (m n : ℕ) (left right : Code) → Fits w m left → Fits (after_all w left.instrs) n right → Both w m n left right
  both w m n left right one two =
      let joined : after_all w (left.instrs ++ right.instrs) ≡ after_all (after_all w left.instrs) right.instrs = after_join w left.instrs right.instrs in
      record {
        fit = fit_join arrays w left.instrs right.instrs one.fit two.fit;
        first = ap (λ v. is_written v left.result) joined ∙ kept (after_all w left.instrs) right.instrs left.result one.written;
        second = ap (λ v. is_written v right.result) joined ∙ two.written;
        next = ap (λ v. length v.words) joined ∙ two.next;
        quiet = λ a. events_join a left.instrs right.instrs ∙ (λ j. one.quiet a j ++ two.quiet a j);
        many = omega (arith, one.many, two.many, length-append left.instrs right.instrs);
      }

  two_fits : (op : Op2) (a b : Emits) (m n : ℕ) → AllFit m a → AllFit n b → AllFit (1 + (m + n)) (flattening (G.GuardExpr-F.Two op a b))
  two_fits op a b m n first second w latest at long fine =
      let left : Code = a latest at in
      let right : Code = b latest left.next in
      let one = first w latest at long fine in
      let all = both w m n left right one (second (after_all w left.instrs) latest left.next one.next (still_fit w left.instrs latest fine)) in
      closed w (left.instrs ++ right.instrs) right.next (m + n) (instr.Two op left.result right.result) all.fit all.next all.quiet all.many
      (and_both (is_written (after_all w (left.instrs ++ right.instrs)) left.result) _ all.first all.second) refl (λ c. refl)

  pick_fits : (c a b : Emits) (l m n : ℕ) → AllFit l c → AllFit m a → AllFit n b → AllFit (1 + (l + (m + n))) (flattening (G.GuardExpr-F.Pick c a b))
  pick_fits c a b l m n zeroth first second w latest at long fine =
      let cond : Code = c latest at in
      let left : Code = a latest cond.next in
      let right : Code = b latest left.next in
      let none = zeroth w latest at long fine in
      let v : Written = after_all w cond.instrs in
      let fine_v = still_fit w cond.instrs latest fine in
      let one = first v latest cond.next none.next fine_v in
      let all = both v m n left right one (second (after_all v left.instrs) latest left.next one.next (still_fit v left.instrs latest fine_v)) in
      let xs : List Instr = left.instrs ++ right.instrs in
      let joined : after_all w (cond.instrs ++ xs) ≡ after_all v xs = after_join w cond.instrs xs in
      closed w (cond.instrs ++ xs) right.next (l + (m + n)) (instr.Pick cond.result left.result right.result)
      (fit_join arrays w cond.instrs xs none.fit all.fit)
      (ap (λ u. length u.words) joined ∙ all.next)
      (λ d. events_join d cond.instrs xs ∙ (λ j. none.quiet d j ++ all.quiet d j))
      (omega (arith, none.many, all.many, length-append cond.instrs xs))
      (subst (λ u. instr_fits arrays u (instr.Pick cond.result left.result right.result) ≡ true) (sym joined)
      (and_both (is_written (after_all v xs) cond.result) _ (kept v xs cond.result none.written)
      (and_both (is_written (after_all v xs) left.result) _ all.first all.second)))
      refl (λ d. refl)

  -- ---- arguments

  record FitsAll (w : Written) (count : ℕ) (codes : Codes) : Type 0 where
    fit : instrs_fit arrays w codes.instrs ≡ true
    written : (k : ℕ) → is_written (after_all w codes.instrs) (operand_at codes.results k) ≡ true
    next : length (after_all w codes.instrs).words ≡ codes.next
    quiet : (a : ℕ) → events a codes.instrs ≡ []
    many : length codes.instrs ≡ count

  abbrev Held : GuardExpr → Type 0
  Held x = fits fields inner x ≡ true → AllFit (operators_in x) (flat x)

  args_fit : (xs : List GuardExpr) → Each Held xs → list_all (λ (a : Bool). a) (map (fits fields inner) xs) ≡ true
      → (w : Written) (latest : Latest) (at : ℕ) → length w.words ≡ at → LatestFit w latest → FitsAll w (sum (map operators_in xs)) (in_turn (map flat xs) latest at)
  args_fit [] held e w latest at long fine = record { fit = refl; written = λ k. refl; next = long; quiet = λ a. refl; many = refl }
  args_fit (x ∷ xs) held e w latest at long fine =
      let code : Code = flat x latest at in
      let codes : Codes = in_turn (map flat xs) latest code.next in
      let one = held.0 (and_front (fits fields inner x) _ e) w latest at long fine in
      let rest = args_fit xs held.1 (and_back (fits fields inner x) _ e) (after_all w code.instrs) latest code.next one.next (still_fit w code.instrs latest fine) in
      let joined : after_all w (code.instrs ++ codes.instrs) ≡ after_all (after_all w code.instrs) codes.instrs = after_join w code.instrs codes.instrs in
      record {
        fit = fit_join arrays w code.instrs codes.instrs one.fit rest.fit;
        written = λ k. ap (λ v. is_written v (operand_at (code.result ∷ codes.results) k)) joined ∙ by_place (after_all w code.instrs) codes code.result (λ j. rest.written j) (kept (after_all w code.instrs) codes.instrs code.result one.written) k;
        next = ap (λ v. length v.words) joined ∙ rest.next;
        quiet = λ a. events_join a code.instrs codes.instrs ∙ (λ j. one.quiet a j ++ rest.quiet a j);
        many = length-append code.instrs codes.instrs ∙ (λ j. one.many j + rest.many j) ∙ sym (sum_by-cons (λ (n : ℕ). n) (operators_in x) (map operators_in xs));
      } where
        by_place : (v : Written) (codes : Codes) (x : Operand) → ((j : ℕ) → is_written (after_all v codes.instrs) (operand_at codes.results j) ≡ true) → is_written (after_all v codes.instrs) x ≡ true → (k : ℕ) → is_written (after_all v codes.instrs) (operand_at (x ∷ codes.results) k) ≡ true
        by_place v codes x rest here zero = here
        by_place v codes x rest here (suc k) = rest k

  -- as many results as arguments
  results : (xs : List Emits) (latest : Latest) (at : ℕ) → length (in_turn xs latest at).results ≡ length xs
  results [] latest at = refl
  results (x ∷ xs) latest at = ap suc (results xs latest (x latest at).next)

  -- of two results there is no third
  of_two : (xs : List Operand) → length xs ≡ 2 → is_zero (operand_at xs 2) ≡ true
  of_two [] long = refl
  of_two (x ∷ []) long = refl
  of_two (x ∷ y ∷ []) long = refl
  of_two (x ∷ y ∷ z ∷ xs) long = absurd (omega (arith, long))

  third : (k : HashKind) (xs : List Operand) → length xs ≡ arity k → third_fits k (operand_at xs 2) ≡ true
  third kind.Three xs long = refl
  third kind.Two xs long = of_two xs long
  third kind.TwoA xs long = of_two xs long
  third kind.TwoB xs long = of_two xs long

  hash_fits : (k : HashKind) (args : List GuardExpr) → Each Held args → (length args ≡ arity k) → list_all (λ (a : Bool). a) (map (fits fields inner) args) ≡ true
      → AllFit (1 + sum (map operators_in args)) (flattening (G.GuardExpr-F.Hash k (map flat args)))
  hash_fits k args held many e w latest at long fine =
      let all : Codes = in_turn (map flat args) latest at in
      let parts = args_fit args held e w latest at long fine in
      let v : Written = after_all w all.instrs in
      closed w all.instrs all.next (sum (map operators_in args)) (instr.Hash k (operand_at all.results 0) (operand_at all.results 1) (operand_at all.results 2)) parts.fit parts.next parts.quiet parts.many
      (and_both (third_fits k (operand_at all.results 2)) _ (third k all.results (results (map flat args) latest at ∙ length-map args flat ∙ many))
      (and_both (is_written v (operand_at all.results 0)) (is_written v (operand_at all.results 1) && is_written v (operand_at all.results 2)) (parts.written 0)
      (and_both (is_written v (operand_at all.results 1)) (is_written v (operand_at all.results 2)) (parts.written 1) (parts.written 2))))
      refl (λ a. refl)

  -- the same of other emits and counts
  fit_as : (a b : Emits) (m n : ℕ) → a ≡ b → m ≡ n → AllFit n b → AllFit m a
  fit_as a b m n same counts held = subst (λ (em : Emits). AllFit m em) (sym same) (subst (λ c. AllFit c b) (sym counts) held)

  pub plainly : (x : Operand) (w : Written) (at : ℕ) → length w.words ≡ at → is_written w x ≡ true → Fits w 0 (record { instrs = []; result = x; next = at })
  plainly x w at long is = record { fit = refl; written = is; next = long; quiet = λ a. refl; many = refl }

  -- the instructions of an expression that fits
  pub expr_fits : (x : GuardExpr) → Held x
  expr_fits = guarded.guard_induct Held
      (λ n e. fit_as _ _ _ 0 (flat-Number n) (operators-Number n) (λ w latest at long fine. plainly (operand.Number n) w at long refl))
      (λ f e. fit_as _ _ _ 0 (flat-Field f) (operators-Field f) (λ w latest at long fine. plainly (operand_at latest.fields f) w at long (fine.fields f)))
      (λ a e. fit_as _ _ _ 0 (flat-Cell a) (operators-Cell a) (λ w latest at long fine. plainly (copy_operand (get_or latest.copies a None)) w at long (fine.copies a)))
      (λ op a held e. fit_as _ _ _ _ (flat-One op a) (operators-One op a) (one_fits op (flat a) (operators_in a) (held (sym (fits-One fields inner op a) ∙ e))))
      (λ op a b first second e.
      let all = sym (fits-Two fields inner op a b) ∙ e in
      fit_as _ _ _ _ (flat-Two op a b) (operators-Two op a b) (two_fits op (flat a) (flat b) (operators_in a) (operators_in b) (first (and_front (fits fields inner a) _ all)) (second (and_back (fits fields inner a) _ all))))
      (λ c a b zeroth first second e.
      let all = sym (fits-Pick fields inner c a b) ∙ e in
      let rest = and_back (fits fields inner c) _ all in
      fit_as _ _ _ _ (flat-Pick c a b) (operators-Pick c a b) (pick_fits (flat c) (flat a) (flat b) (operators_in c) (operators_in a) (operators_in b) (zeroth (and_front (fits fields inner c) _ all)) (first (and_front (fits fields inner a) _ rest)) (second (and_back (fits fields inner a) _ rest))))
      (λ k args held e.
      let all = sym (fits-Hash fields inner k args) ∙ e in
      let many : length args ≡ arity k = sym (length-map args (fits fields inner)) ∙ (Decides-eqb (length (map (fits fields inner) args)) (arity k)).0 (and_front (length (map (fits fields inner) args) == arity k) _ all) in
      fit_as _ _ _ _ (flat-Hash k args) (operators-Hash k args) (hash_fits k args held many (and_back (length (map (fits fields inner) args) == arity k) _ all)))
