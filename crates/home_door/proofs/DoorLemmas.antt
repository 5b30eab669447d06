-- What each call leaves is again a door.
use Rattle.std.proofs.Common.{◌≡◌, ℕ, ◌+◌, ◌/◌, ◌%◌, ◌<◌, true, List, [], ◌∷◌, ◌++◌, length, length-append, slice_set, ℤ, Some, refl, ap, ◌∙◌, sym, subst, arith}
use Rattle.std.proofs.Math.ListN.{length-set}
use Rattle.std.proofs.lemmas.List.Elements.{All-pop, All-push}
use Rattle.egress_order.specs.OwnPackets.{OwnPackets, IsAway, own_arrival, left_count, came_home}
use Rattle.egress_order.proofs.Exits.{own_of, enter_lawful, home_lawful}
use Rattle.pipe_parts.specs.declared.entries.Entry.{Entry}
use Rattle.pipe_parts.specs.FreeEnvs.{FreeEnvs, with_free, IsFree}
use Rattle.home_door.specs.Door.{Door, IsDoor, KeepsDoor}
use Rattle.home_door.proofs.Flags.{leading_few, set_count_more, set_count_fewer}

-- an own arrival that there is has an entry
pub own_within : (d now : Door) (pipes count t : ℕ) → d ≡ now → KeepsDoor d pipes count → t < now.exit.arrivals → t % now.exit.pipelines ≡ now.exit.pipe → t / pipes < length d.entries
own_within d now pipes count t same h early own =
    let here : t < d.exit.arrivals = subst (λ (e : Door). t < e.exit.arrivals) (sym same) early in
    let mine : t % d.exit.pipelines ≡ d.exit.pipe = subst (λ (e : Door). t % e.exit.pipelines ≡ e.exit.pipe) (sym same) own in
    let at = own_of t d.exit.pipe d.exit.pipelines mine in
    let within = h.laws.exit.all (t / d.exit.pipelines) (omega arith) in
    let entries = h.laws.entries in
    rw h.pipelines (omega arith)

-- where an arrival can enter an environment is free
pub one_free : (d : Door) → IsDoor d → d.exit.entered < left_count d.exit + d.exit.window → 0 < length d.free.envs
one_free d h open' =
    let balance = h.balance in
    let more = leading_few d.exit.home in
    omega arith

-- fewer environments are free than there are where an arrival is out
pub one_out : (d : Door) (t : ℕ) → IsDoor d → IsAway d.exit t → length d.free.envs < d.free.room
one_out d t h away =
    let balance = h.balance in
    let room = h.room in
    let now = away.entered in
    let most = h.exit.entered in
    let fewer = set_count_fewer d.exit.home d.exit.entered (t / d.exit.pipelines) h.exit.away now (omega arith) away.away in
    omega arith

-- the environments but one that goes out
taken_free : (free : FreeEnvs) (env : List ℤ) → IsFree (with_free free env) → IsFree free
taken_free free env h = record {
  few = let few = h.few in let long = length-append free.envs (env ∷ []) in omega arith;
  sized = (All-pop (λ (e : List ℤ). length e ≡ free.slots) (free.envs ++ env ∷ []) free.envs (Some env) refl h.sized).0;
}

-- the environments with one that comes back
given_free : (free : FreeEnvs) (env : List ℤ) → IsFree free → length free.envs < free.room → length env ≡ free.slots → IsFree (with_free free env)
given_free free env h room long = record {
  few = let more = length-append free.envs (env ∷ []) in omega arith;
  sized = All-push (λ (e : List ℤ). length e ≡ free.slots) free.envs env h.sized long;
}

-- an arrival enters
pub entered_keeps : (d : Door) (pipes count t : ℕ) (next : OwnPackets) (free : FreeEnvs) (env : List ℤ) → KeepsDoor d pipes count
    → t ≡ own_arrival d.exit d.exit.entered → t < d.exit.arrivals → d.exit.entered < left_count d.exit + d.exit.window
    → next ≡ record d.exit { entered = d.exit.entered + 1 } → d.free ≡ with_free free env
    → KeepsDoor record { exit = next; free = free; entries = d.entries } pipes count
entered_keeps d pipes count t next free env h at early open' grown out = rw grown record {
  laws = record {
    exit = enter_lawful d.exit h.laws.exit (omega arith) (omega arith);
    free = taken_free free env (subst IsFree out h.laws.free);
    entries = h.laws.entries;
    room = sym (ap (λ (f : FreeEnvs). f.room) out) ∙ h.laws.room;
    balance = (
        let balance = h.laws.balance in
        let one : length d.free.envs ≡ length (free.envs ++ env ∷ []) = ap (λ (f : FreeEnvs). length f.envs) out in
        let long = length-append free.envs (env ∷ []) in
        omega arith);
  };
  pipelines = h.pipelines;
  own = h.own;
}

-- an arrival comes home
pub home_keeps : (d : Door) (pipes count t k : ℕ) (fields env : List ℤ) (entry : Entry) → KeepsDoor d pipes count
    → IsAway d.exit t → length fields ≡ d.exit.fields → length env ≡ d.free.slots
    → KeepsDoor record { exit = came_home d.exit t fields; free = with_free d.free env; entries = slice_set d.entries k entry } pipes count
home_keeps d pipes count t k fields env entry h away words slots = record {
  laws = record {
    exit = home_lawful d.exit t fields h.laws.exit away words;
    free = given_free d.free env h.laws.free (one_out d t h.laws away) slots;
    entries = length-set d.entries k entry ∙ h.laws.entries ∙ sym kept;
    room = h.laws.room;
    balance = (
        let balance = h.laws.balance in
        let now = away.entered in
        let most = h.laws.exit.entered in
        let more = set_count_more d.exit.home (t / d.exit.pipelines) (omega arith) away.away in
        let long = length-append d.free.envs (env ∷ []) in
        omega arith);
  };
  pipelines = h.pipelines;
  own = h.own ∙ sym kept;
}
  where
    kept : length (slice_set d.exit.home (t / d.exit.pipelines) true) ≡ length d.exit.home
    kept = length-set d.exit.home (t / d.exit.pipelines) true

-- the same of the door that contracts see
pub room_for_one : (d now : Door) (pipes count t : ℕ) → d ≡ now → KeepsDoor d pipes count → IsAway now.exit t → length d.free.envs < d.free.room
room_for_one d now pipes count t same h away = one_out d t h.laws (subst (λ (e : Door). IsAway e.exit t) (sym same) away)

pub home_again : (d now : Door) (pipes count t k : ℕ) (fields env : List ℤ) (entry : Entry) (exit : OwnPackets) (free : FreeEnvs) (entries : List Entry) → d ≡ now → KeepsDoor d pipes count
    → IsAway now.exit t → length fields ≡ now.exit.fields → length env ≡ now.free.slots
    → exit ≡ came_home d.exit t fields → free ≡ with_free d.free env → entries ≡ slice_set d.entries k entry
    → KeepsDoor record { exit = exit; free = free; entries = entries } pipes count
home_again d now pipes count t k fields env entry exit free entries same h away words slots came back set =
    rw (came, back, set)
    (home_keeps d pipes count t k fields env entry h
    (subst (λ (e : Door). IsAway e.exit t) (sym same) away)
    (subst (λ (e : Door). length fields ≡ e.exit.fields) (sym same) words)
    (subst (λ (e : Door). length env ≡ e.free.slots) (sym same) slots))
