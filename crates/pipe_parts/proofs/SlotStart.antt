-- The slots of a new pool.
use Rattle.std.proofs.Common.{◌≡◌, ℕ, zero, suc, ◌<◌, ◌≤◌, Bool, true, false, nat_lt, List, ◌∷◌, length, replicate, slice_index_or, refl, ap, ◌∙◌, sym, arith, Option, None, is_some, cond, count_by}
use Rattle.std.proofs.lemmas.Bool.{ltb-true, ltb-false}
use Rattle.std.proofs.lemmas.List.{get_or_past, get_or-replicate, length-replicate}
use Rattle.std.proofs.lemmas.List.Folds.{sum_by-replicate}
use Rattle.pipe_parts.specs.declared.packet.Packet.{Packet}
use Rattle.pipe_parts.specs.Packets.{no_packets}
use Rattle.pipe_parts.specs.Slots.{in_slots, place_of, empty_slot, KeepsSlots}

-- a number that stands everywhere is what is read, past the list too
all_alike : (n t d : ℕ) → slice_index_or (replicate n d) t d ≡ d
all_alike n t d = by (nat_lt t n) refl
  where
    by : (b : Bool) → nat_lt t n ≡ b → slice_index_or (replicate n d) t d ≡ d
    by true e = get_or-replicate n t d d (ltb-true t n e)
    by false e =
        let long = length-replicate n d in
        let past = ltb-false t n e in
        get_or_past (replicate n d) t d (omega arith)

-- no arrival has a place
no_places : (n t : ℕ) → place_of (replicate n 0) t ≡ 0
no_places n t = all_alike n t 0

none_there : (slots : List (Option Packet)) (n : ℕ) → in_slots slots (replicate n 0) ≡ replicate n None
none_there slots zero = refl
none_there slots (suc n) = ap (λ os. None ∷ os) (none_there slots n)

module _ (arrivals room capacity : ℕ) (slots : List (Option Packet)) (places free : List ℕ) (empty : slots ≡ replicate room None) (none : places ≡ replicate arrivals 0) where
  many : length slots ≡ room
  many = ap length empty ∙ length-replicate room None

  pub new_seen : record { room = length slots; packets = in_slots slots places } ≡ no_packets arrivals room
  new_seen = rw (many, none, none_there slots arrivals) refl

  seen_none : in_slots slots places ≡ replicate arrivals None
  seen_none = rw none (none_there slots arrivals)

  nothing : count_by is_some (in_slots slots places) ≡ 0
  nothing = ap (count_by is_some) seen_none ∙ sum_by-replicate (λ (o : Option Packet). cond (is_some o) 1 0) arrivals None ∙ omega arith

  pub new_keeps : length free ≡ room → ((i : ℕ) → i < room → slice_index_or free i 0 ≡ i) → arrivals ≤ 262144 → room ≤ 8192 → room ≤ capacity → KeepsSlots slots places free capacity
  new_keeps all each few small fits =
      let long = many in
      let placed : length places ≡ arrivals = ap length none ∙ length-replicate arrivals 0 in
      let count = nothing in
      record {
        few = omega arith;
        arrivals = omega arith;
        held = λ t slot at. (let no : place_of places t ≡ 0 = ap (λ ps. place_of ps t) none ∙ no_places arrivals t in absurd (omega arith));
        empty = λ i lt. (let same : empty_slot free i ≡ i = each i (omega arith) in record {
          within = omega arith;
          empty = rw (same, empty) (get_or-replicate room i None None (omega arith));
        });
        apart = λ i j less more same. (let a = each i (omega arith) in let b = each j (omega arith) in sym a ∙ same ∙ b);
        counted = omega arith;
        room = omega arith;
      }
