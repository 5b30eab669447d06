-- What each step of flat code takes, with the Stores.
use Rattle.std.proofs.Common.{◌≡◌, ℕ, suc, ◌+◌, ◌<◌, true, List, [], ◌∷◌, length, get_or, Option, None, Some, refl, sym, subst, ◌∙◌, arith}
use Rattle.std.specs.List.{list_all}
use Rattle.mp5_words.specs.Copies.{Copy}
use Rattle.domino_tree.specs.declared.program.Program.{Program}
use Rattle.code_forms.specs.declared.guard.GuardCode.{GuardCode}
use Rattle.code_forms.specs.declared.guard.GuardLine.{GuardLine}
use Rattle.code_forms.specs.declared.flat.FlatCode.{FlatCode}
use Rattle.code_forms.specs.declared.flat.Operand.{Operand}
use Rattle.code_forms.specs.declared.flat.Instr.{Instr}
use Rattle.code_forms.specs.declared.flat.Instr.TheVariants as instr
use Rattle.code_forms.specs.FlatMeaning.{Step, plain_step}
use Rattle.code_forms.specs.GuardValid.{line_arrays, line_fits}
use Rattle.code_forms.proofs.BelowLemmas.{line_below}
use Rattle.code_forms.proofs.EachLemmas.{Each}
use Rattle.code_forms.proofs.ValidLemmas.{and_front, and_back}
use Rattle.ssa_flatten.specs.Flattening.{flat_start, stores_from}
use Rattle.ssa_flatten.proofs.IndexStays.{all_none}
use Rattle.ssa_flatten.proofs.Outcome.{length_replicate}
use Rattle.ssa_flatten.proofs.Whole as whole
use Rattle.domino_compile.specs.GroupsCode.{IsCodeOf}
use Rattle.domino_compile.proofs.GroupsStand.{done, known}
use Rattle.domino_compile.proofs.GroupsSteps.{steps}
use Rattle.domino_compile.proofs.NeedsSteps.{no_step, CopyFine, PlainFine, StepFine, KnownBy, Owned, at_both, fine_more, known_more, lines_owned}

-- a Store writes the latest copy
abbrev pub EndPlain : List (Option (Copy Operand)) → Instr → Type 0
EndPlain cs (instr.Load a) = (c : Copy Operand) × (get_or cs a None ≡ Some c)
EndPlain cs (instr.Store a x) = (c : Copy Operand) × (get_or cs a None ≡ Some c) × (x ≡ c.latest)
EndPlain cs (instr.Move v) = Unit {0}
EndPlain cs (instr.Pick g v old) = Unit {0}
EndPlain cs (instr.One op y) = Unit {0}
EndPlain cs (instr.Two op y z) = Unit {0}
EndPlain cs (instr.Hash kind y z w) = Unit {0}
EndPlain cs (instr.Yes g y) = Unit {0}
EndPlain cs (instr.No g y) = Unit {0}
EndPlain cs (instr.Index b y) = Unit {0}

-- what a step takes
abbrev pub EndFine : ℕ → List Step → List (Option (Copy Operand)) → Option ℕ → Instr → Type 0
EndFine fields all cs None i = EndPlain cs i
EndFine fields all cs (Some a) i = (c : Copy Operand) × (get_or cs a None ≡ Some c) × CopyFine fields all c a i

module _ (fields : ℕ) where
  plain_ends : (cs : List (Option (Copy Operand))) (i : Instr) → PlainFine fields cs i → EndPlain cs i
  plain_ends cs (instr.Load a) h = h
  plain_ends cs (instr.Store a x) h = elim h [ ]
  plain_ends cs (instr.Move v) h = tt
  plain_ends cs (instr.Pick g v old) h = tt
  plain_ends cs (instr.One op y) h = tt
  plain_ends cs (instr.Two op y z) h = tt
  plain_ends cs (instr.Hash kind y z w) h = tt
  plain_ends cs (instr.Yes g y) h = tt
  plain_ends cs (instr.No g y) h = tt
  plain_ends cs (instr.Index b y) h = tt

  step_ends : (steps : List Step) (cs : List (Option (Copy Operand))) (o : Option ℕ) (i : Instr) → StepFine fields steps cs o i → EndFine fields steps cs o i
  step_ends all cs None i h = plain_ends cs i h
  step_ends all cs (Some a) i h = h

-- each Store is that of an array that is known
stores_each : (P : Step → Type 0) (a : ℕ) (cs : List (Option (Copy Operand))) → ((j : ℕ) (c : Copy Operand) → get_or cs j None ≡ Some c → P (plain_step (instr.Store (a + j) c.latest))) → Each P (stores_from a cs)
stores_each P a [] all = tt
stores_each P a (None ∷ cs) all = stores_each P (suc a) cs (λ j c e. let same : a + suc j ≡ suc a + j = omega arith in subst (λ n. P (plain_step (instr.Store n c.latest))) same (all (suc j) c e))
stores_each P a (Some d ∷ cs) all = (
  let same : a + 0 ≡ a = omega arith in subst (λ n. P (plain_step (instr.Store n d.latest))) same (all 0 d refl),
  stores_each P (suc a) cs (λ j c e. let same : a + suc j ≡ suc a + j = omega arith in subst (λ n. P (plain_step (instr.Store n c.latest))) same (all (suc j) c e)),
)

lines_below : (fields arrays : ℕ) (lines : List GuardLine) → list_all (line_fits fields arrays) lines ≡ true → Each (λ l. Each (λ a. a < arrays) (line_arrays l)) lines
lines_below fields arrays [] fit = tt
lines_below fields arrays (l ∷ lines) fit = (line_below fields arrays l (and_front (line_fits fields arrays l) _ fit), lines_below fields arrays lines (and_back (line_fits fields arrays l) _ fit))

module _ (p : Program) (g : GuardCode) (f : FlatCode) (is : IsCodeOf p g f) where
  starts : Owned g.fields (length g.arrays) (flat_start g.fields g.arrays)
  starts = record {
    next = omega arith;
    many = length_replicate (length g.arrays) None;
    steps = λ i less. absurd (omega (arith, less));
    known = λ a c e. absurd (no_way c (sym (all_none (length g.arrays) a) ∙ e));
  } where
    no_way : (c : Copy Operand) → None ≡ Some c → ⊥
    no_way c e = cc

  owned : Owned g.fields (length g.arrays) (done p g f is)
  owned = lines_owned g.fields g.arrays (length g.arrays) g.lines (flat_start g.fields g.arrays) (lines_below g.fields (length g.arrays) g.lines (whole.lines_fit g.fields g.arrays g.lines g.valid)) starts

  abbrev all : List Step
  all = steps p g f is

  abbrev copies : List (Option (Copy Operand))
  copies = (done p g f is).copies

  -- what each step takes
  pub end_fine : (i : ℕ) → i < length all → EndFine g.fields all copies (get_or all i no_step).copy (get_or all i no_step).instr
  end_fine =
      at_both (λ (t : Step). EndFine g.fields all copies t.copy t.instr) no_step (done p g f is).steps (stores_from 0 copies)
      (λ i less. step_ends g.fields all copies _ _ (fine_more g.fields (done p g f is).steps (stores_from 0 copies) copies copies _ _ (λ a c e. (c, e, record { under = λ x m. m; stored = λ x m. m })) (owned.steps i less)))
      (stores_each (λ (t : Step). EndFine g.fields all copies t.copy t.instr) 0 copies (λ j c e. let same : j ≡ 0 + j = omega arith in subst (λ n. EndPlain copies (instr.Store n c.latest)) same (c, e, refl)))

  -- what is known of a touched array comes from its steps
  pub end_known : (a : ℕ) (c : Copy Operand) → known p g f is a ≡ Some c → KnownBy g.fields all a c
  end_known a c e = known_more g.fields (done p g f is).steps (stores_from 0 copies) a c (owned.known a c e)
