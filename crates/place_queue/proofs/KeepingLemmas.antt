-- What each call leaves of the counts and the least floor.
use Rattle.std.proofs.Common.{◌≡◌, ◌≢◌, ℕ, ◌+◌, ◌-◌, ◌*◌, ◌<◌, ◌≤◌, ◌==◌, Bool, true, false, cond, min, List, [], ◌∷◌, length, slice_index, slice_set, refl, sym, ap, subst, ◌∙◌, arith, get_or-set_same, get_or-set_other, slice_index_or, replicate, Some, None}
use Rattle.std.specs.List.{All}
use Rattle.std.proofs.Math.ListN.{length-set}
use Rattle.std.proofs.lemmas.List.{length-replicate}
use Rattle.std.proofs.lemmas.Bool.{lt-ltb}
use Rattle.std.proofs.lemmas.Grind.{get_or_default_zero, common_steps}
use Rattle.std.proofs.lemmas.List.Elements.{All-head, All-weaker}
use Rattle.place_queue.specs.declared.place.Place.{Place}
use Rattle.place_queue.specs.PlaceList.{PlaceList, IsAnnounced, IsLeast, IsNext, first_floors, announced, first_known, next_place, with_place, count_of}
use Rattle.place_queue.specs.Keeping.{Keeps}
use Rattle.place_queue.proofs.Announcing.{raise_lawful, add_lawful, serve_lawful, new_lawful}
use Rattle.place_queue.proofs.Counting.{count_with, count_cons, room_left}
use Rattle.place_queue.proofs.Floors.{least_stays, all_above, first_least}

-- a raised floor, which was not the least
pub raise_keeps : (q : PlaceList) (waiting : List ℕ) (lowest capacity source t : ℕ) → Keeps q waiting lowest capacity
    → source < q.sources → t ≡ slice_index q.floors source → t < q.arrivals → t ≢ lowest → Keeps (announced q source t None) waiting lowest capacity
raise_keeps q waiting lowest capacity source t h within turn early ne =
    let each = h.laws.each in
    record {
      laws = raise_lawful q h.laws source t within turn early;
      sized = h.sized;
      counts = h.counts;
      least = least_stays q.floors lowest source (min (t + q.sources) q.arrivals) h.least (omega arith) (λ e. ne (turn ∙ e)) (omega arith);
      room = h.room;
    }

-- a raised floor, where the least was looked for
pub raise_finds : (q : PlaceList) (waiting : List ℕ) (lowest capacity source t found : ℕ) → Keeps q waiting lowest capacity
    → source < q.sources → t ≡ slice_index q.floors source → t < q.arrivals → IsLeast (announced q source t None).floors found → Keeps (announced q source t None) waiting found capacity
raise_finds q waiting lowest capacity source t found h within turn early least = record {
  laws = raise_lawful q h.laws source t within turn early;
  sized = h.sized;
  counts = h.counts;
  least = least;
  room = h.room;
}

-- what was read of a source's count
pub count_read : (q : PlaceList) (waiting : List ℕ) (lowest capacity a n : ℕ) → Keeps q waiting lowest capacity → a < q.sources → n ≡ slice_index_or waiting a n → n ≡ count_of q.unserved a
count_read q waiting lowest capacity a n h lt e = let sized = h.sized in e ∙ get_or_default_zero waiting a n (omega arith) ∙ h.counts a lt

-- one more place, which is counted
pub add_keeps : (q : PlaceList) (waiting : List ℕ) (lowest capacity capacity' n : ℕ) (p : Place) → Keeps q waiting lowest capacity → n ≡ slice_index_or waiting p.source n
    → IsAnnounced q.sources q.floors p → All (λ r. r.t ≢ p.t) q.unserved → count_of q.unserved p.source < q.window → capacity ≤ capacity'
    → Keeps record q { unserved = with_place p q.unserved } (slice_set waiting p.source (n + 1)) lowest capacity'
add_keeps q waiting lowest capacity capacity' n p h read known new few le =
    let room = h.room in
    record {
      laws = add_lawful q p h.laws known new few;
      sized = length-set waiting p.source (n + 1) ∙ h.sized;
      counts = λ s lt. by s lt (p.source == s) refl;
      least = h.least;
      room = omega arith;
    }
  where
    by : (s : ℕ) → s < q.sources → (b : Bool) → (p.source == s) ≡ b
        → slice_index (slice_set waiting p.source (n + 1)) s ≡ count_of (with_place p q.unserved) s
    by s lt true e =
        let same : p.source ≡ s = grind arith in
        let sized = h.sized in
        let in' : s < length waiting = omega arith in
        let now : count_of (with_place p q.unserved) s ≡ 1 + count_of q.unserved s = count_with p q.unserved s ∙ ap (λ b. cond b 1 0 + count_of q.unserved s) e in
        let is : n ≡ count_of q.unserved s = count_read q waiting lowest capacity p.source n h known.source read ∙ ap (λ a. count_of q.unserved a) same in
        let up : n + 1 ≡ count_of (with_place p q.unserved) s = omega arith in
        subst (λ (a : ℕ). slice_index (slice_set waiting a (n + 1)) s ≡ count_of (with_place p q.unserved) s) (sym same) (get_or-set_same waiting s (n + 1) 0 in' ∙ up)
    by s lt false e =
        let other : s ≢ p.source = grind arith in
        let now : count_of (with_place p q.unserved) s ≡ 0 + count_of q.unserved s = count_with p q.unserved s ∙ ap (λ b. cond b 1 0 + count_of q.unserved s) e in
        rw get_or-set_other (let was = h.counts s lt in omega arith)

-- there is room for one more place
pub has_room : (q : PlaceList) (waiting : List ℕ) (lowest capacity a : ℕ) → Keeps q waiting lowest capacity → a < q.sources → count_of q.unserved a < q.window → length q.unserved < capacity
has_room q waiting lowest capacity a h lt few =
    let room = h.room in
    let left = room_left q.sources q.window q.unserved a lt few (All-weaker (IsAnnounced q.sources q.floors) (λ p. p.source < q.sources) (λ p k. k.source) q.unserved h.laws.places) h.laws.limit in
    omega arith

-- the first place has a source
pub first_source : (q : PlaceList) (waiting : List ℕ) (lowest capacity : ℕ) (p : Place) (ps : List Place) → q.unserved ≡ p ∷ ps → Keeps q waiting lowest capacity → p.source < q.sources
first_source q waiting lowest capacity p ps e h =
    (All-head (IsAnnounced q.sources q.floors) p ps (subst (λ (xs : List Place). All (IsAnnounced q.sources q.floors) xs) e h.laws.places)).source

-- which counts it
pub first_counts : (q : PlaceList) (waiting : List ℕ) (lowest capacity n : ℕ) (p : Place) (ps : List Place) → q.unserved ≡ p ∷ ps → Keeps q waiting lowest capacity
    → n ≡ slice_index_or waiting p.source n → 1 ≤ n
first_counts q waiting lowest capacity n p ps e h read =
    let known : p.source < q.sources = first_source q waiting lowest capacity p ps e h in
    let was = count_read q waiting lowest capacity p.source n h known read in
    let itself : (p.source == p.source) ≡ true = grind arith in
    let all : count_of q.unserved p.source ≡ 1 + count_of ps p.source =
    ap (λ (xs : List Place). count_of xs p.source) e ∙ count_cons p ps p.source ∙ ap (λ b. cond b 1 0 + count_of ps p.source) itself in
    omega arith

-- without its first place, which is not counted any more
pub serve_keeps : (q : PlaceList) (waiting : List ℕ) (lowest capacity n : ℕ) (p : Place) (ps : List Place) → q.unserved ≡ p ∷ ps → Keeps q waiting lowest capacity → n ≡ slice_index_or waiting p.source n
    → Keeps record q { unserved = ps } (slice_set waiting p.source (n - 1)) lowest capacity
serve_keeps q waiting lowest capacity n p ps e h read = record {
  laws = serve_lawful q p ps e h.laws;
  sized = length-set waiting p.source (n - 1) ∙ h.sized;
  counts = λ s lt. by s lt (p.source == s) refl;
  least = h.least;
  room = h.room;
}
  where
    all : (s : ℕ) → count_of q.unserved s ≡ cond (p.source == s) 1 0 + count_of ps s
    all s = ap (λ (xs : List Place). count_of xs s) e ∙ count_cons p ps s

    by : (s : ℕ) → s < q.sources → (b : Bool) → (p.source == s) ≡ b
        → slice_index (slice_set waiting p.source (n - 1)) s ≡ count_of ps s
    by s lt true f =
        let same : p.source ≡ s = grind arith in
        let sized = h.sized in
        let in' : s < length waiting = omega arith in
        let now : count_of q.unserved s ≡ 1 + count_of ps s = all s ∙ ap (λ b. cond b 1 0 + count_of ps s) f in
        let is : n ≡ count_of q.unserved s = count_read q waiting lowest capacity p.source n h (subst (λ a. a < q.sources) (sym same) lt) read ∙ ap (λ a. count_of q.unserved a) same in
        let down : n - 1 ≡ count_of ps s = omega arith in
        subst (λ (a : ℕ). slice_index (slice_set waiting a (n - 1)) s ≡ count_of ps s) (sym same) (get_or-set_same waiting s (n - 1) 0 in' ∙ down)
    by s lt false f =
        let other : s ≢ p.source = grind arith in
        let now : count_of q.unserved s ≡ 0 + count_of ps s = all s ∙ ap (λ b. cond b 1 0 + count_of ps s) f in
        rw get_or-set_other (let was = h.counts s lt in omega arith)

-- the first place comes next where the least floor is above it
pub comes_next : (q : PlaceList) (lowest : ℕ) (p : Place) (ps : List Place) → q.unserved ≡ p ∷ ps → IsLeast q.floors lowest → p.t < lowest → next_place q ≡ Some p
comes_next q lowest p ps e least lt =
    ap (λ (xs : List Place). first_known q.floors xs) e ∙ rw (all_above q.floors lowest p.t least, lt-ltb p.t lowest lt)

-- and then every floor is above it
pub is_next : (q : PlaceList) (lowest : ℕ) (p : Place) (ps : List Place) → q.unserved ≡ p ∷ ps → IsLeast q.floors lowest → p.t < lowest → IsNext q p
is_next q lowest p ps e least lt = record { later = ps; least = e; known = λ s in'. let low = least.below s in' in omega arith }

-- what is asked of a queue is asked of the same queue, however it is written
pub raised_at : (q now : PlaceList) (source t : ℕ) {P : Type 0} → q ≡ now → (source < now.sources) × (t ≡ slice_index now.floors source) × (t < now.arrivals)
    → (source < q.sources → t ≡ slice_index q.floors source → t < q.arrivals → P) → P
raised_at q now source t e h k =
    let at : (source < q.sources) × (t ≡ slice_index q.floors source) × (t < q.arrivals) =
    subst (λ (r : PlaceList). (source < r.sources) × (t ≡ slice_index r.floors source) × (t < r.arrivals)) (sym e) h in
    k at.0 at.1 at.2

pub placed_at : (q now : PlaceList) (p : Place) {P : Type 0} → q ≡ now → IsAnnounced now.sources now.floors p × All (λ r. r.t ≢ p.t) now.unserved × (count_of now.unserved p.source < now.window)
    → (IsAnnounced q.sources q.floors p → All (λ r. r.t ≢ p.t) q.unserved → count_of q.unserved p.source < q.window → P) → P
placed_at q now p e h k =
    let at : IsAnnounced q.sources q.floors p × All (λ r. r.t ≢ p.t) q.unserved × (count_of q.unserved p.source < q.window) =
    subst (λ (r : PlaceList). IsAnnounced r.sources r.floors p × All (λ x. x.t ≢ p.t) r.unserved × (count_of r.unserved p.source < r.window)) (sym e) h in
    k at.0 at.1 at.2

-- the first place of a list
pub first_of : (qs : List Place) (p : Place) → 0 < length qs → p ≡ slice_index_or qs 0 p → (ps : List Place) × (qs ≡ p ∷ ps)
first_of [] p lt e = absurd (omega arith)
first_of (q ∷ ps) p lt e = (ps, ap (λ (r : Place). r ∷ ps) (sym e))

-- a source whose count is not the window has fewer places
pub spare_room : (q now : PlaceList) (waiting : List ℕ) (lowest capacity a n : ℕ) → q ≡ now → Keeps q waiting lowest capacity → a < now.sources → n ≡ slice_index_or waiting a n → n ≢ q.window
    → count_of now.unserved a < now.window
spare_room q now waiting lowest capacity a n same h within e ne =
    let lt : a < q.sources = subst (λ (r : PlaceList). a < r.sources) (sym same) within in
    let read = count_read q waiting lowest capacity a n h lt e in
    let limit = h.laws.limit a lt in
    let few : count_of q.unserved a < q.window = omega arith in
    subst (λ (r : PlaceList). count_of r.unserved a < r.window) same few

-- a new queue
pub new_keeps : (sources window arrivals capacity : ℕ) (floors waiting : List ℕ) → 1 ≤ sources → sources ≤ 16 → window ≤ 1024 → arrivals ≤ 262144
    → floors ≡ first_floors sources arrivals → waiting ≡ replicate sources 0 → sources * window ≤ capacity
    → Keeps record { sources = sources; window = window; arrivals = arrivals; floors = floors; unserved = [] } waiting 0 capacity
new_keeps sources window arrivals capacity floors waiting some few small a fresh none room = rw (fresh, none) record {
  laws = new_lawful sources window arrivals some few small a;
  sized = length-replicate sources 0;
  counts = λ s lt. grind (arith, common_steps);
  least = first_least sources arrivals some;
  room = room;
}
