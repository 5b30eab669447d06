-- The arrays that the sites of a body touch, in text order.
use Rattle.std.proofs.Common.{◌≡◌, ◌∷◌, ◌++◌, [], List, map, Option, None, Some, refl, sym, ap, ◌∙◌, append_assoc}
use Rattle.std.specs.List.{flat_map}
use Rattle.std.proofs.lemmas.Grind.{flat_map-append}
use Rattle.std.proofs.lemmas.List.{append-nil}
use Rattle.std.specs.Prelude.{ℕ}
use Rattle.domino_tree.specs.declared.program.Program.{Program}
use Rattle.domino_tree.proofs.ExprLemmas.{Each}
use Rattle.domino_check.specs.declared.numbered.CheckedExpr.{CheckedExpr}
use Rattle.domino_check.specs.declared.numbered.CheckedStmt.{CheckedStmt, fold-roll-CheckedStmt}
use Rattle.domino_check.specs.declared.numbered.CheckedStmt.TheOpen as O
use Rattle.domino_check.specs.declared.numbered.CheckedStmt.TheVariants as s
use Rattle.domino_check.specs.declared.numbered.CheckedArm.{CheckedArm, fold-roll-CheckedArm}
use Rattle.domino_check.specs.Numbering.{numbered_body}
use Rattle.domino_check.specs.NumberedMeaning.{numbered_arrays}
use Rattle.domino_check.specs.Place.{text_order}
use Rattle.domino_check.specs.Sites.{Site, Sited, SitedArm, in_block, in_last_block, in_chain, stmt_sites, arm_sites}
use Rattle.domino_check.proofs.SiteForms.{sites-SetField, sites-SetCell, sites-If, sites-Else, sites-Arm}
use Rattle.domino_check.proofs.TreeLemmas.{stmt_induct}
use Rattle.source_rows.specs.Order.{stmt_touching, arm_touching, stmt_touched, arm_touched, body_touched, arms_touched}

-- those of these sites
abbrev arrays_of : List Site → List ℕ
arrays_of sites = flat_map (λ (site : Site). site.touches) sites

-- ---- each form

touched-SetField : (f : ℕ) (x : CheckedExpr) → stmt_touched (s.SetField f x) ≡ numbered_arrays x
touched-SetField f x = ap stmt_touched (sym (s.rolls-SetField f x)) ∙ fold-roll-CheckedStmt (List ℕ) (List ℕ) stmt_touching arm_touching (O.CheckedStmt-F.SetField f x)

touched-SetCell : (a : ℕ) (x : CheckedExpr) → stmt_touched (s.SetCell a x) ≡ a ∷ numbered_arrays x
touched-SetCell a x = ap stmt_touched (sym (s.rolls-SetCell a x)) ∙ fold-roll-CheckedStmt (List ℕ) (List ℕ) stmt_touching arm_touching (O.CheckedStmt-F.SetCell a x)

touched-If : (arms : List CheckedArm) → stmt_touched (s.If arms None) ≡ arms_touched arms ++ []
touched-If arms = ap stmt_touched (sym (s.rolls-If arms None)) ∙ fold-roll-CheckedStmt (List ℕ) (List ℕ) stmt_touching arm_touching (O.CheckedStmt-F.If arms None)

touched-Else : (arms : List CheckedArm) (body : List CheckedStmt) → stmt_touched (s.If arms (Some body)) ≡ arms_touched arms ++ body_touched body
touched-Else arms body = ap stmt_touched (sym (s.rolls-If arms (Some body))) ∙ fold-roll-CheckedStmt (List ℕ) (List ℕ) stmt_touching arm_touching (O.CheckedStmt-F.If arms (Some body))

touched-Arm : (cond : CheckedExpr) (body : List CheckedStmt) → arm_touched (record { cond = cond; body = body }) ≡ numbered_arrays cond ++ body_touched body
touched-Arm cond body = fold-roll-CheckedArm (List ℕ) (List ℕ) stmt_touching arm_touching (record { cond = cond; body = body })

-- ---- of the sites, whatever decides about them

abbrev Touches : CheckedStmt → Type 0
Touches x = (context : List CheckedExpr) → arrays_of (stmt_sites x context) ≡ stmt_touched x

abbrev TouchesArm : CheckedArm → Type 0
TouchesArm x = (context : List CheckedExpr) → numbered_arrays (arm_sites x).cond ++ arrays_of ((arm_sites x).block context) ≡ arm_touched x

touches_block : (body : List CheckedStmt) → Each Touches body → (context : List CheckedExpr) → arrays_of (in_block (map stmt_sites body) context) ≡ body_touched body
touches_block [] each context = refl
touches_block (x ∷ body) each context =
    flat_map-append (λ (site : Site). site.touches) (stmt_sites x context) (in_block (map stmt_sites body) context)
    ∙ (λ i. each.0 context i ++ touches_block body each.1 context i)

touches_chain : (arms : List CheckedArm) → Each TouchesArm arms → (last : Option (List Sited)) (end : List ℕ) → ((context : List CheckedExpr) → arrays_of (in_last_block last context) ≡ end) → (context : List CheckedExpr)
    → arrays_of (in_chain (map arm_sites arms) last context) ≡ arms_touched arms ++ end
touches_chain [] each last end ends context = ends context
touches_chain (x ∷ arms) each last end ends context =
    let arm = arm_sites x in
    let inner : List CheckedExpr = context ++ arm.cond ∷ [] in
    let rest : List ℕ = arms_touched arms ++ end in
    ap (λ l. numbered_arrays arm.cond ++ l)
    (flat_map-append (λ (site : Site). site.touches) (arm.block inner) (in_chain (map arm_sites arms) last inner) ∙ ap (λ l. arrays_of (arm.block inner) ++ l) (touches_chain arms each.1 last end ends inner))
    ∙ sym (append_assoc (numbered_arrays arm.cond) (arrays_of (arm.block inner)) rest)
    ∙ ap (λ l. l ++ rest) (each.0 inner)
    ∙ sym (append_assoc (arm_touched x) (arms_touched arms) end)

touches_stmt : (x : CheckedStmt) → Touches x
touches_stmt = stmt_induct Touches TouchesArm
    (λ f x context. ap arrays_of (sites-SetField f x context) ∙ append-nil (numbered_arrays x) ∙ sym (touched-SetField f x))
    (λ a x context. ap arrays_of (sites-SetCell a x context) ∙ append-nil (a ∷ numbered_arrays x) ∙ sym (touched-SetCell a x))
    (λ arms each context. ap arrays_of (sites-If arms context) ∙ touches_chain arms each None [] (λ c. refl) context ∙ sym (touched-If arms))
    (λ arms body each inside context. ap arrays_of (sites-Else arms body context) ∙ touches_chain arms each (Some (map stmt_sites body)) (body_touched body) (touches_block body inside) context ∙ sym (touched-Else arms body))
    (λ cond body inside context.
    ap (λ (arm : SitedArm). numbered_arrays arm.cond ++ arrays_of (arm.block context)) (sites-Arm cond body)
    ∙ ap (λ l. numbered_arrays cond ++ l) (touches_block body inside context)
    ∙ sym (touched-Arm cond body))

touches_each : (body : List CheckedStmt) → Each Touches body
touches_each [] = tt
touches_each (x ∷ body) = (touches_stmt x, touches_each body)

-- the arrays that the sites of a program touch are those of its body
pub order_is : (p : Program) → text_order p ≡ body_touched (numbered_body p)
order_is p = touches_block (numbered_body p) (touches_each (numbered_body p)) []
