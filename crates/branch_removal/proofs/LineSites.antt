-- The lines of a body are its sites in text order: what each touches, what it assigns, and its expression.
use Rattle.std.proofs.Common.{◌≡◌, ℕ, suc, List, [], ◌∷◌, ◌++◌, map, Option, None, Some, refl, sym, ap, ◌∙◌}
use Rattle.std.proofs.lemmas.List.{map-append}
use Rattle.domino_tree.proofs.ExprLemmas.{Each}
use Rattle.domino_check.specs.declared.numbered.CheckedExpr.{CheckedExpr}
use Rattle.domino_check.specs.declared.numbered.CheckedStmt.{CheckedStmt}
use Rattle.domino_check.specs.declared.numbered.CheckedArm.{CheckedArm}
use Rattle.domino_check.specs.Sites.{Assigned, to_field, to_cell, nothing, Site, Sited, SitedArm, condition_site, in_block, in_last_block, in_chain, stmt_sites, arm_sites, sites_of}
use Rattle.domino_check.proofs.SiteForms.{sites-SetField, sites-SetCell, sites-If, sites-Else, sites-Arm}
use Rattle.domino_check.proofs.TreeLemmas.{stmt_induct}
use Rattle.code_forms.specs.declared.guard.GuardExpr.{GuardExpr}
use Rattle.code_forms.specs.declared.guard.GuardLine.{GuardLine}
use Rattle.code_forms.specs.declared.guard.GuardLine.TheVariants as line
use Rattle.code_forms.specs.GuardValid.{arrays_in}
use Rattle.branch_removal.specs.GuardedLines.{guarded, Made, Emits, block_lines, last_lines, chain_lines, stmt_lines, arm_lines, body_lines}
use Rattle.branch_removal.proofs.GuardedLemmas.{arrays_same}
use Rattle.branch_removal.proofs.Trees

-- an assignment or a condition, whatever decides about it
pub record Part : Type 0 where
  pub touches : List ℕ
  pub assigns : Assigned
  pub value : GuardExpr

abbrev pub of_line : GuardLine → Part
of_line (line.Test cond under holds fails) = record { touches = arrays_in cond; assigns = nothing; value = cond }
of_line (line.SetField f guard value) = record { touches = arrays_in value; assigns = to_field f; value = value }
of_line (line.SetCell a guard value) = record { touches = a ∷ arrays_in value; assigns = to_cell a; value = value }

abbrev pub of_site : Site → Part
of_site s = record { touches = s.touches; assigns = s.assigns; value = guarded s.value }

abbrev Same : CheckedStmt → Type 0
Same x = (u n : ℕ) (context : List CheckedExpr) → map of_line (stmt_lines x u n).lines ≡ map of_site (stmt_sites x context)

-- an arm's condition, and then its block
abbrev SameArm : CheckedArm → Type 0
SameArm x = (u n : ℕ) (context inner : List CheckedExpr) → map of_line (arm_lines x u n).lines ≡ of_site (condition_site (arm_sites x).cond context) ∷ map of_site ((arm_sites x).block inner)

same_block : (body : List CheckedStmt) → Each Same body → (u n : ℕ) (context : List CheckedExpr) → map of_line (block_lines (map stmt_lines body) u n).lines ≡ map of_site (in_block (map stmt_sites body) context)
same_block [] each u n context = refl
same_block (x ∷ body) each u n context =
    let one : Made = stmt_lines x u n in
    map-append of_line one.lines (block_lines (map stmt_lines body) u one.next).lines
    ∙ (λ i. each.0 u n context i ++ same_block body each.1 u one.next context i)
    ∙ sym (map-append of_site (stmt_sites x context) (in_block (map stmt_sites body) context))

same_chain : (arms : List CheckedArm) → Each SameArm arms → (last : Option (List Emits)) (end : Option (List Sited)) → ((u n : ℕ) (context : List CheckedExpr) → map of_line (last_lines last u n).lines ≡ map of_site (in_last_block end context)) → (u n : ℕ) (context : List CheckedExpr)
    → map of_line (chain_lines (map arm_lines arms) last u n).lines ≡ map of_site (in_chain (map arm_sites arms) end context)
same_chain [] each last end ends u n context = ends u n context
same_chain (x ∷ arms) each last end ends u n context =
    let arm : SitedArm = arm_sites x in
    let inner : List CheckedExpr = context ++ arm.cond ∷ [] in
    let one : Made = arm_lines x u n in
    map-append of_line one.lines (chain_lines (map arm_lines arms) last (suc n) one.next).lines
    ∙ (λ i. each.0 u n context inner i ++ same_chain arms each.1 last end ends (suc n) one.next inner i)
    ∙ ap (λ l. of_site (condition_site arm.cond context) ∷ l) (sym (map-append of_site (arm.block inner) (in_chain (map arm_sites arms) end inner)))

same_stmt : (x : CheckedStmt) → Same x
same_stmt = stmt_induct Same SameArm
    (λ f x u n context.
    ap (λ (m : Made). map of_line m.lines) (Trees.lines-SetField f x u n)
    ∙ (λ i. record { touches = arrays_same x i; assigns = to_field f; value = guarded x } ∷ [])
    ∙ sym (ap (map of_site) (sites-SetField f x context)))
    (λ a x u n context.
    ap (λ (m : Made). map of_line m.lines) (Trees.lines-SetCell a x u n)
    ∙ (λ i. record { touches = a ∷ arrays_same x i; assigns = to_cell a; value = guarded x } ∷ [])
    ∙ sym (ap (map of_site) (sites-SetCell a x context)))
    (λ arms each u n context.
    ap (λ (m : Made). map of_line m.lines) (Trees.lines-If arms u n)
    ∙ same_chain arms each None None (λ u n c. refl) u n context
    ∙ sym (ap (map of_site) (sites-If arms context)))
    (λ arms body each inside u n context.
    ap (λ (m : Made). map of_line m.lines) (Trees.lines-Else arms body u n)
    ∙ same_chain arms each (Some (map stmt_lines body)) (Some (map stmt_sites body)) (same_block body inside) u n context
    ∙ sym (ap (map of_site) (sites-Else arms body context)))
    (λ cond body inside u n context inner.
    ap (λ (m : Made). map of_line m.lines) (Trees.lines-Arm cond body u n)
    ∙ (λ i. record { touches = arrays_same cond i; assigns = nothing; value = guarded cond } ∷ same_block body inside n (suc (suc n)) inner i)
    ∙ sym (ap (λ (arm : SitedArm). of_site (condition_site arm.cond context) ∷ map of_site (arm.block inner)) (sites-Arm cond body)))

each_same : (body : List CheckedStmt) → Each Same body
each_same [] = tt
each_same (x ∷ body) = (same_stmt x, each_same body)

pub parts_same : (body : List CheckedStmt) → map of_line (body_lines body) ≡ map of_site (sites_of body)
parts_same body = same_block body (each_same body) 0 1 []
