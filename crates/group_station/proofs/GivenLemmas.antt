-- A place that isn't given here, as the owners tell.
use Rattle.std.proofs.Common.{◌≡◌, ◌≢◌, ℕ, ◌≤◌, length, Option, Some, None, sym, ap, subst, ◌∙◌}
use Rattle.shard_rounds.specs.Rounds.{OwnerTable, owner}
use Rattle.run_laws.specs.Run.{round_of, place_of}
use Rattle.group_station.specs.Station.{Station, site, OwnsAt}
use Rattle.group_station.specs.Steps.{AreOwnersFor, IsGivenUnit}
use Rattle.group_station.proofs.MoveLemmas.{owner_at}

-- a place in a unit that another pipe owns isn't given
pub other_place : (s now : Station) (o : OwnerTable) (t u n : ℕ) → s ≡ now → AreOwnersFor now o → Some u ≡ place_of now.run t now.group → round_of now.run t ≤ length o.plans
    → n ≡ owner o.pipelines o.plans (round_of s.run t) s.group u → n ≢ s.pipe → IsGivenUnit now t None
other_place s now o t u n e owners place known is other v given =
    let both : ◌≡◌ {A = Option ℕ} (Some u) (Some v) = place ∙ given.place in
    let same : v ≡ u = cc in
    let owns : OwnsAt (site now) (round_of now.run t) u = subst (λ w. OwnsAt (site now) (round_of now.run t) w) same given.owned in
    let told : owner now.run.settings.pipelines o.plans (round_of now.run t) now.group u ≡ now.pipe = owner_at (site now) o.plans (round_of now.run t) u owners.lawful known owns in
    other (is ∙ ap (λ (r : Station). owner o.pipelines o.plans (round_of r.run t) r.group u) e ∙ ap (λ k. owner k o.plans (round_of now.run t) now.group u) owners.pipelines ∙ told ∙ ap (λ (r : Station). r.pipe) (sym e))
