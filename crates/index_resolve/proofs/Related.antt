-- Two kinds of values whose operations keep a relation keep it over every run of flat code; and marks tell of words.
use Rattle.std.proofs.Common.{◌≡◌, ℕ, zero, suc, ℤ, pos, Bool, true, false, not, ◌&&◌, List, [], ◌∷◌, ◌++◌, Option, None, Some, refl, sym, ap, ◌∙◌}
use Rattle.std.specs.List.{AllZip}
use Rattle.mp5_words.specs.declared.op.Op1.{Op1}
use Rattle.mp5_words.specs.declared.op.Op2.{Op2}
use Rattle.mp5_words.specs.declared.hashing.HashKind.{HashKind}
use Rattle.mp5_words.specs.Words.{op1, op2, truth, flag, hash, cell}
use Rattle.mp5_words.specs.Cells.{picked}
use Rattle.code_forms.specs.declared.flat.Operand.{Operand}
use Rattle.code_forms.specs.declared.flat.Operand.TheVariants as operand
use Rattle.code_forms.specs.declared.flat.Instr.{Instr}
use Rattle.code_forms.specs.declared.flat.Instr.TheVariants as instr
use Rattle.mp5_words.specs.Domain.{Domain, Loads, words, Mark, marks, may}
use Rattle.mp5_words.specs.Copies.{at}
use Rattle.code_forms.specs.FlatMeaning.{Step, Slots, operand_value, instr_value, covered, run_from}

-- each operation keeps R
pub record Related (V W : Type 0) (d : Domain V) (e : Domain W) (R : V → W → Type 0) : Type 0 where
  pub number : (n : ℤ) → R (d.ops.number n) (e.ops.number n)
  pub one : (op : Op1) (a : V) (x : W) → R a x → R (d.ops.one op a) (e.ops.one op x)
  pub two : (op : Op2) (a b : V) (x y : W) → R a x → R b y → R (d.ops.two op a b) (e.ops.two op x y)
  pub pick : (c a b : V) (z x y : W) → R c z → R a x → R b y → R (d.ops.pick c a b) (e.ops.pick z x y)
  pub hash : (kind : HashKind) (a b c : V) (x y z : W) → R a x → R b y → R c z → R (d.ops.hash kind a b c) (e.ops.hash kind x y z)
  pub yes : (a b : V) (x y : W) → R a x → R b y → R (d.yes a b) (e.yes x y)
  pub no : (a b : V) (x y : W) → R a x → R b y → R (d.no a b) (e.no x y)
  pub index : (n : ℕ) (a : V) (x : W) → R a x → R (d.index n a) (e.index n x)
  pub load : (n : ℕ) (a : V) (x : W) → R a x → R (d.load n a) (e.load n x)
  pub cover : (n : ℕ) (a : V) (x : W) → R a x → R (d.cover n a) (e.cover n x)

module _ (V W : Type 0) (d : Domain V) (e : Domain W) (R : V → W → Type 0) (h : Related V W d e R) where
  pub related_at : (vs : List V) (ws : List W) (k : ℕ) → AllZip R vs ws → R (at V d.ops vs k) (at W e.ops ws k)
  related_at [] [] k all = h.number (pos 0)
  related_at [] (w ∷ ws) k all = elim all [ ]
  related_at (v ∷ vs) [] k all = elim all [ ]
  related_at (v ∷ vs) (w ∷ ws) zero all = all.0
  related_at (v ∷ vs) (w ∷ ws) (suc k) all = related_at vs ws k all.1

  pub related_operand : (vs : List V) (ws : List W) (x : Operand) → AllZip R vs ws → R (operand_value V d vs x) (operand_value W e ws x)
  related_operand vs ws (operand.Slot k) all = related_at vs ws k all
  related_operand vs ws (operand.Number n) all = h.number n

  related_instr : (slots : Slots) (vs : List V) (ws : List W) (i : Instr) → AllZip R vs ws → R (instr_value V d slots vs i) (instr_value W e slots ws i)
  related_instr slots vs ws (instr.One op a) all = h.one op _ _ (related_operand vs ws a all)
  related_instr slots vs ws (instr.Two op a b) all = h.two op _ _ _ _ (related_operand vs ws a all) (related_operand vs ws b all)
  related_instr slots vs ws (instr.Pick c a b) all = h.pick _ _ _ _ _ _ (related_operand vs ws c all) (related_operand vs ws a all) (related_operand vs ws b all)
  related_instr slots vs ws (instr.Hash kind a b c) all = h.hash kind _ _ _ _ _ _ (related_operand vs ws a all) (related_operand vs ws b all) (related_operand vs ws c all)
  related_instr slots vs ws (instr.Move a) all = related_operand vs ws a all
  related_instr slots vs ws (instr.Yes guard c) all = h.yes _ _ _ _ (related_operand vs ws guard all) (related_operand vs ws c all)
  related_instr slots vs ws (instr.No guard c) all = h.no _ _ _ _ (related_operand vs ws guard all) (related_operand vs ws c all)
  related_instr slots vs ws (instr.Index a x) all = h.index a _ _ (related_operand vs ws x all)
  related_instr slots vs ws (instr.Load a) all = h.load a _ _ (related_at vs ws (slots a) all)
  related_instr slots vs ws (instr.Store a x) all = h.cover a _ _ (related_operand vs ws x all)

  related_step : (slots : Slots) (vs : List V) (ws : List W) (copy : Option ℕ) (i : Instr) → AllZip R vs ws → R (covered V d copy (instr_value V d slots vs i)) (covered W e copy (instr_value W e slots ws i))
  related_step slots vs ws None i all = related_instr slots vs ws i all
  related_step slots vs ws (Some a) i all = h.cover a _ _ (related_instr slots vs ws i all)

  related_push : (vs : List V) (ws : List W) (v : V) (w : W) → AllZip R vs ws → R v w → AllZip R (vs ++ v ∷ []) (ws ++ w ∷ [])
  related_push [] [] v w all r = (r, tt)
  related_push [] (y ∷ ws) v w all r = elim all [ ]
  related_push (x ∷ vs) [] v w all r = elim all [ ]
  related_push (x ∷ vs) (y ∷ ws) v w all r = (all.0, related_push vs ws v w all.1 r)

  -- over every run
  pub related_runs : (slots : Slots) (steps : List Step) (vs : List V) (ws : List W) → AllZip R vs ws → AllZip R (run_from V d slots steps vs) (run_from W e slots steps ws)
  related_runs slots [] vs ws all = all
  related_runs slots (s ∷ steps) vs ws all = related_runs slots steps _ _ (related_push vs ws _ _ all (related_step slots vs ws s.copy s.instr all))

-- ---- marks and words

-- where no array is behind a value, its mark has its word; a guard that isn't open is 0
pub record Tells (m : Mark) (w : ℤ) : Type 0 where
  pub clean : m.arrays ≡ [] → m.word ≡ w
  pub closed : m.is_open ≡ false → w ≡ pos 0

pub left_nil : (xs ys : List ℕ) → xs ++ ys ≡ [] → xs ≡ []
left_nil [] ys e = refl
left_nil (x ∷ xs) ys e = absurd cc

pub right_nil : (xs ys : List ℕ) → xs ++ ys ≡ [] → ys ≡ []
right_nil [] ys e = e
right_nil (x ∷ xs) ys e = absurd cc

pub both_clean : (a b : List ℕ) (f : ℤ → ℤ → ℤ) (m n x y : ℤ) → (a ≡ [] → m ≡ x) → (b ≡ [] → n ≡ y) → a ++ b ≡ [] → f m n ≡ f x y
both_clean a b f m n x y h k e = λ i. f (h (left_nil a b e) i) (k (right_nil a b e) i)

pub three_clean : (a b c : List ℕ) (f : ℤ → ℤ → ℤ → ℤ) (m n l x y z : ℤ) → (a ≡ [] → m ≡ x) → (b ≡ [] → n ≡ y) → (c ≡ [] → l ≡ z) → a ++ (b ++ c) ≡ [] → f m n l ≡ f x y z
three_clean a b c f m n l x y z h k g e = λ i. f (h (left_nil a (b ++ c) e) i) (k (left_nil b c (right_nil a (b ++ c) e)) i) (g (right_nil b c (right_nil a (b ++ c) e)) i)

-- a guard that isn't open is 0: the one before it isn't, or a clean condition goes the other way
shut : (before : Bool) (arrays : List ℕ) (m w z : ℤ) (f : Bool → Bool) → (before ≡ false → w ≡ pos 0) → (arrays ≡ [] → m ≡ z) → (before && may arrays (f (truth m))) ≡ false → flag (truth w && f (truth z)) ≡ pos 0
shut false arrays m w z f closed clean e = ap (λ k. flag (truth k && f (truth z))) (closed refl)
shut true (a ∷ arrays) m w z f closed clean e = absurd cc
shut true [] m w z f closed clean e = ap (λ k. flag (truth w && f (truth k))) (sym (clean refl)) ∙ ap (λ b. flag (truth w && b)) e ∙ none (truth w) where
  none : (b : Bool) → flag (b && false) ≡ pos 0
  none true = refl
  none false = refl

open_not : {A : Type 0} → true ≡ false → A
open_not e = absurd cc

some_not : {A : Type 0} (a : ℕ) → (a ∷ []) ≡ [] → A
some_not a e = absurd cc

pub marks_tell : (lengths : ℕ → ℕ) (loads : Loads) → Related Mark ℤ (marks lengths) (words lengths loads) Tells
marks_tell lengths loads = record {
  number = λ n. record { clean = λ e. refl; closed = λ e. open_not e };
  one = λ op a x h. record { clean = λ e. ap (op1 op) (h.clean e); closed = λ e. open_not e };
  two = λ op a b x y h k. record { clean = both_clean a.arrays b.arrays (op2 op) a.word b.word x y h.clean k.clean; closed = λ e. open_not e };
  pick = λ c a b z x y h k l. record { clean = three_clean c.arrays a.arrays b.arrays picked c.word a.word b.word z x y h.clean k.clean l.clean; closed = λ e. open_not e };
  hash = λ kind a b c x y z h k l. record { clean = three_clean a.arrays b.arrays c.arrays (hash kind) a.word b.word c.word x y z h.clean k.clean l.clean; closed = λ e. open_not e };
  yes = λ g c x y h k. record { clean = both_clean g.arrays c.arrays (λ m n. flag (truth m && truth n)) g.word c.word x y h.clean k.clean; closed = shut g.is_open c.arrays c.word x y (λ b. b) h.closed k.clean };
  no = λ g c x y h k. record { clean = both_clean g.arrays c.arrays (λ m n. flag (truth m && not (truth n))) g.word c.word x y h.clean k.clean; closed = shut g.is_open c.arrays c.word x y not h.closed k.clean };
  index = λ n a x h. record { clean = λ e. ap (λ z. pos (cell z (lengths n))) (h.clean e); closed = λ e. open_not e };
  load = λ n a x h. record { clean = λ e. some_not n e; closed = λ e. open_not e };
  cover = λ n a x h. record { clean = λ e. some_not n e; closed = λ e. open_not e };
}
