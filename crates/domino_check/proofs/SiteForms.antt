-- The sites at each form of a statement, and what the check of moving indexes keeps of them.
use Rattle.std.proofs.Common.{◌≡◌, ℕ, List, [], ◌∷◌, ◌++◌, map, None, Some, Option, refl, sym, ap, ◌∙◌, append_assoc}
use Rattle.std.proofs.lemmas.List.{map-append}
use Rattle.domino_tree.proofs.ExprLemmas.{Each}
use Rattle.domino_check.specs.declared.numbered.CheckedExpr.{CheckedExpr}
use Rattle.domino_check.specs.declared.numbered.CheckedStmt.{CheckedStmt, fold-roll-CheckedStmt}
use Rattle.domino_check.specs.declared.numbered.CheckedStmt.TheOpen as O
use Rattle.domino_check.specs.declared.numbered.CheckedStmt.TheVariants as s
use Rattle.domino_check.specs.declared.numbered.CheckedArm.{CheckedArm, fold-roll-CheckedArm}
use Rattle.domino_check.specs.declared.sites.Touch.{Touch}
use Rattle.domino_check.specs.NumberedMeaning.{numbered_arrays}
use Rattle.domino_check.specs.Sites.{Sited, SitedArm, field_site, cell_site, condition_site, in_block, in_last_block, in_chain, stmt_siting, arm_siting, stmt_sites, arm_sites, sites_of}
use Rattle.domino_check.specs.Touches.{touch_of, joined_touches, stmt_touching, arm_touching, stmt_touches, arm_touches, touches_of}
use Rattle.domino_check.proofs.TreeLemmas.{stmt_induct}

-- ---- each form

pub sites-SetField : (f : ℕ) (x : CheckedExpr) (context : List CheckedExpr) → stmt_sites (s.SetField f x) context ≡ field_site f x context ∷ []
sites-SetField f x context = ap (λ y. stmt_sites y context) (sym (s.rolls-SetField f x)) ∙ ap (λ (g : Sited). g context) (fold-roll-CheckedStmt Sited SitedArm stmt_siting arm_siting (O.CheckedStmt-F.SetField f x))

pub sites-SetCell : (a : ℕ) (x : CheckedExpr) (context : List CheckedExpr) → stmt_sites (s.SetCell a x) context ≡ cell_site a x context ∷ []
sites-SetCell a x context = ap (λ y. stmt_sites y context) (sym (s.rolls-SetCell a x)) ∙ ap (λ (g : Sited). g context) (fold-roll-CheckedStmt Sited SitedArm stmt_siting arm_siting (O.CheckedStmt-F.SetCell a x))

pub sites-If : (arms : List CheckedArm) (context : List CheckedExpr) → stmt_sites (s.If arms None) context ≡ in_chain (map arm_sites arms) None context
sites-If arms context = ap (λ y. stmt_sites y context) (sym (s.rolls-If arms None)) ∙ ap (λ (g : Sited). g context) (fold-roll-CheckedStmt Sited SitedArm stmt_siting arm_siting (O.CheckedStmt-F.If arms None))

pub sites-Else : (arms : List CheckedArm) (body : List CheckedStmt) (context : List CheckedExpr) → stmt_sites (s.If arms (Some body)) context ≡ in_chain (map arm_sites arms) (Some (map stmt_sites body)) context
sites-Else arms body context = ap (λ y. stmt_sites y context) (sym (s.rolls-If arms (Some body))) ∙ ap (λ (g : Sited). g context) (fold-roll-CheckedStmt Sited SitedArm stmt_siting arm_siting (O.CheckedStmt-F.If arms (Some body)))

pub sites-Arm : (cond : CheckedExpr) (body : List CheckedStmt) → arm_sites (record { cond = cond; body = body }) ≡ record { cond = cond; block = in_block (map stmt_sites body) }
sites-Arm cond body = fold-roll-CheckedArm Sited SitedArm stmt_siting arm_siting (record { cond = cond; body = body })

pub touches-SetField : (f : ℕ) (x : CheckedExpr) → stmt_touches (s.SetField f x) ≡ record { arrays = numbered_arrays x; field = Some f } ∷ []
touches-SetField f x = ap stmt_touches (sym (s.rolls-SetField f x)) ∙ fold-roll-CheckedStmt (List Touch) (List Touch) stmt_touching arm_touching (O.CheckedStmt-F.SetField f x)

pub touches-SetCell : (a : ℕ) (x : CheckedExpr) → stmt_touches (s.SetCell a x) ≡ record { arrays = a ∷ numbered_arrays x; field = None } ∷ []
touches-SetCell a x = ap stmt_touches (sym (s.rolls-SetCell a x)) ∙ fold-roll-CheckedStmt (List Touch) (List Touch) stmt_touching arm_touching (O.CheckedStmt-F.SetCell a x)

pub touches-If : (arms : List CheckedArm) → stmt_touches (s.If arms None) ≡ joined_touches (map arm_touches arms) ++ []
touches-If arms = ap stmt_touches (sym (s.rolls-If arms None)) ∙ fold-roll-CheckedStmt (List Touch) (List Touch) stmt_touching arm_touching (O.CheckedStmt-F.If arms None)

pub touches-Else : (arms : List CheckedArm) (body : List CheckedStmt) → stmt_touches (s.If arms (Some body)) ≡ joined_touches (map arm_touches arms) ++ joined_touches (map stmt_touches body)
touches-Else arms body = ap stmt_touches (sym (s.rolls-If arms (Some body))) ∙ fold-roll-CheckedStmt (List Touch) (List Touch) stmt_touching arm_touching (O.CheckedStmt-F.If arms (Some body))

pub touches-Arm : (cond : CheckedExpr) (body : List CheckedStmt) → arm_touches (record { cond = cond; body = body }) ≡ record { arrays = numbered_arrays cond; field = None } ∷ joined_touches (map stmt_touches body)
touches-Arm cond body = fold-roll-CheckedArm (List Touch) (List Touch) stmt_touching arm_touching (record { cond = cond; body = body })

-- ---- what is kept of the sites

abbrev Kept : CheckedStmt → Type 0
Kept x = (context : List CheckedExpr) → map touch_of (stmt_sites x context) ≡ stmt_touches x

-- of an arm: its condition, and the sites in its block
abbrev KeptArm : CheckedArm → Type 0
KeptArm x = (context : List CheckedExpr) → touch_of (condition_site (arm_sites x).cond context) ∷ map touch_of ((arm_sites x).block context) ≡ arm_touches x

kept_block : (body : List CheckedStmt) → Each Kept body → (context : List CheckedExpr) → map touch_of (in_block (map stmt_sites body) context) ≡ joined_touches (map stmt_touches body)
kept_block [] each context = refl
kept_block (x ∷ body) each context =
    map-append touch_of (stmt_sites x context) (in_block (map stmt_sites body) context)
    ∙ (λ i. each.0 context i ++ kept_block body each.1 context i)

-- the condition alone doesn't tell where it is
kept_chain : (arms : List CheckedArm) → Each KeptArm arms → (last : Option (List Sited)) (end : List Touch) → ((context : List CheckedExpr) → map touch_of (in_last_block last context) ≡ end) → (context : List CheckedExpr)
    → map touch_of (in_chain (map arm_sites arms) last context) ≡ joined_touches (map arm_touches arms) ++ end
kept_chain [] each last end ends context = ends context
kept_chain (x ∷ arms) each last end ends context =
    let arm = arm_sites x in
    let inner : List CheckedExpr = context ++ arm.cond ∷ [] in
    ap (λ l. touch_of (condition_site arm.cond context) ∷ l) (map-append touch_of (arm.block inner) (in_chain (map arm_sites arms) last inner) ∙ ap (λ l. map touch_of (arm.block inner) ++ l) (kept_chain arms each.1 last end ends inner))
    ∙ ap (λ l. l ++ (joined_touches (map arm_touches arms) ++ end)) (each.0 inner)
    ∙ sym (append_assoc (arm_touches x) (joined_touches (map arm_touches arms)) end)

kept_stmt : (x : CheckedStmt) → Kept x
kept_stmt = stmt_induct Kept KeptArm
    (λ f x context. ap (map touch_of) (sites-SetField f x context) ∙ sym (touches-SetField f x))
    (λ a x context. ap (map touch_of) (sites-SetCell a x context) ∙ sym (touches-SetCell a x))
    (λ arms each context. ap (map touch_of) (sites-If arms context) ∙ kept_chain arms each None [] (λ c. refl) context ∙ sym (touches-If arms))
    (λ arms body each inside context. ap (map touch_of) (sites-Else arms body context) ∙ kept_chain arms each (Some (map stmt_sites body)) (joined_touches (map stmt_touches body)) (kept_block body inside) context ∙ sym (touches-Else arms body))
    (λ cond body inside context.
    ap (λ (arm : SitedArm). touch_of (condition_site arm.cond context) ∷ map touch_of (arm.block context)) (sites-Arm cond body)
    ∙ ap (λ l. record { arrays = numbered_arrays cond; field = None } ∷ l) (kept_block body inside context)
    ∙ sym (touches-Arm cond body))

kept_each : (body : List CheckedStmt) → Each Kept body
kept_each [] = tt
kept_each (x ∷ body) = (kept_stmt x, kept_each body)

pub sites_kept : (body : List CheckedStmt) → map touch_of (sites_of body) ≡ touches_of body
sites_kept body = kept_block body (kept_each body) []
