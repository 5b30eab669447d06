-- There is one lawful list of plans: two lists are the same as far as both reach, and so are the owners by them.
use Rattle.std.proofs.Common.{◌≡◌, ℕ, zero, suc, ◌+◌, ◌*◌, ◌<◌, ◌≤◌, List, [], ◌∷◌, ◌++◌, length, take, slice_index_or, refl, sym, ap, subst, ◌∙◌, arith}
use Rattle.std.proofs.Math.Seq.{take-suc}
use Rattle.shard_rounds.specs.declared.plan.Move.{Move}
use Rattle.shard_rounds.specs.Rounds.{joined, after_moves, first_owner, owner}
use Rattle.shard_rounds.specs.Choice.{IsChoice}
use Rattle.shard_rounds.proofs.Choosing.{choice_once}
use Rattle.run_laws.specs.Run.{Run}
use Rattle.run_laws.specs.LawfulPlans.{AreLawful, Owns, loads_below, owners_after}

-- two lawful lists have the same first plans
pub plans_once : (run : Run) (xs ys : List (List Move)) → AreLawful run xs → AreLawful run ys → (e : ℕ) → e ≤ length xs → e ≤ length ys → take e xs ≡ take e ys
plans_once run xs ys hx hy zero lx ly = refl
plans_once run xs ys hx hy (suc e) lx ly =
    let before : take e xs ≡ take e ys = plans_once run xs ys hx hy e (omega (arith, lx)) (omega (arith, ly)) in
    let loads : List (List ℕ) = loads_below run (e * run.settings.round) in
    let second : IsChoice loads (owners_after run (take e xs)) (slice_index_or ys e []) =
    subst (λ plans. IsChoice loads (owners_after run plans) (slice_index_or ys e [])) (sym before) (hy.chosen e ly) in
    let same : slice_index_or xs e [] ≡ slice_index_or ys e [] =
    choice_once loads (owners_after run (take e xs)) (length loads) (slice_index_or xs e []) (slice_index_or ys e []) (hx.chosen e lx) second in
    take-suc xs e [] lx ∙ (λ i. before i ++ same i ∷ []) ∙ sym (take-suc ys e [] ly)

-- the owner in a round is the same by both
pub owner_once : (run : Run) (xs ys : List (List Move)) → AreLawful run xs → AreLawful run ys → (e g u : ℕ) → e ≤ length xs → e ≤ length ys
    → owner run.settings.pipelines xs e g u ≡ owner run.settings.pipelines ys e g u
owner_once run xs ys hx hy e g u lx ly =
    ap (λ plans. after_moves g u (first_owner run.settings.pipelines g u) (joined plans)) (plans_once run xs ys hx hy e lx ly)

-- so no two pipes own a unit in a round
pub owns_once : (run : Run) (e g u p q : ℕ) → Owns run e g u p → Owns run e g u q → p ≡ q
owns_once run e g u p q (xs, hx, lx, op) (ys, hy, ly, oq) = sym op ∙ owner_once run xs ys hx hy e g u lx ly ∙ oq

-- a lawful list that reaches so far tells the owner
pub owns_by : (run : Run) (plans : List (List Move)) (e g u : ℕ) → AreLawful run plans → e ≤ length plans → Owns run e g u (owner run.settings.pipelines plans e g u)
owns_by run plans e g u lawful reach = (plans, lawful, reach, refl)

-- and who isn't told doesn't own it
pub owner_is : (run : Run) (plans : List (List Move)) (e g u p : ℕ) → AreLawful run plans → e ≤ length plans → Owns run e g u p → owner run.settings.pipelines plans e g u ≡ p
owner_is run plans e g u p lawful reach owns = owns_once run e g u _ p (owns_by run plans e g u lawful reach) owns
