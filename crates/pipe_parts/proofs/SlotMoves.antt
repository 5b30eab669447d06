-- A packet that comes into an empty slot, and one that leaves its slot.
use Rattle.std.proofs.Common.{◌≡◌, ◌≢◌, ℕ, zero, suc, ◌+◌, ◌-◌, ◌<◌, ◌≤◌, Bool, true, false, nat_lt, ◌==◌, List, [], ◌∷◌, ◌++◌, length, set, slice_index_or, refl, ap, ◌∙◌, sym, subst, subst₂, arith, Option, Some, None, is_some, IsSome, cond, count_by, length-append, add-one}
use Rattle.std.proofs.Math.ListN.{length-set, get_or-append}
use Rattle.std.proofs.lemmas.Bool.{ltb-true, ltb-false}
use Rattle.std.proofs.lemmas.List.{length-map, get_or-set_same, get_or-set_other, get_or_push}
use Rattle.std.proofs.lemmas.List.Sums.{sum_by-set, get_or-le-sum_by}
use Rattle.pipe_parts.specs.declared.packet.Packet.{Packet}
use Rattle.pipe_parts.specs.Packets.{Packets, packet_of, with_packet}
use Rattle.pipe_parts.specs.Slots.{at_place, in_slots, place_of, empty_slot, HasPacket, IsEmpty, KeepsSlots}
use Rattle.pipe_parts.proofs.SlotLemmas.{place_seen, slot_within, seen_set, one_of, no_place, packet_at, place_slot, place_read, slot_there, slot_read, some_within, some_place}

-- the counts before and after
abbrev one : Option Packet → ℕ
one o = cond (is_some o) 1 0

module _ (slots : List (Option Packet)) (places rest : List ℕ) (k t capacity : ℕ) (packet : Packet) (keeps : KeepsSlots slots places (rest ++ k ∷ []) capacity) (lt : t < length places)
    (own : packet.t ≡ t) (away : place_of places t ≡ 0) where
  long : length (rest ++ k ∷ []) ≡ length rest + 1
  long = length-append rest (k ∷ [])

  at_left : (i : ℕ) → i < length rest → empty_slot (rest ++ k ∷ []) i ≡ empty_slot rest i
  at_left i less = get_or-append rest (k ∷ []) 0 i less

  at_last : empty_slot (rest ++ k ∷ []) (length rest) ≡ k
  at_last = get_or_push rest k 0 (length rest) refl

  k_empty : IsEmpty slots k
  k_empty = subst (IsEmpty slots) at_last (keeps.empty (length rest) (let l = long in omega arith))

  -- a packet that is here is in another slot
  apart_k : (u slot : ℕ) → HasPacket slots slot u → slot ≢ k
  apart_k u slot h same =
      let here = h.here in
      let none = k_empty.empty in
      let there : slice_index_or slots k None ≡ Some h.packet = subst (λ s. slice_index_or slots s None ≡ Some h.packet) same here in
      absurd cc

  others_stay : (u : ℕ) → at_place (set slots k (Some packet)) (place_of places u) ≡ at_place slots (place_of places u)
  others_stay u = by (place_of places u) refl
    where
      by : (n : ℕ) → place_of places u ≡ n → at_place (set slots k (Some packet)) n ≡ at_place slots n
      by zero e = refl
      by (suc slot) e = get_or-set_other slots k slot (Some packet) None (apart_k u slot (keeps.held u slot e))

  pub put_seen : in_slots (set slots k (Some packet)) (set places t (k + 1)) ≡ set (in_slots slots places) t (Some packet)
  put_seen = seen_set slots (set slots k (Some packet)) places t (k + 1) (Some packet) (ap (at_place (set slots k (Some packet))) (add-one k) ∙ get_or-set_same slots k (Some packet) None k_empty.within) lt (λ u ne. others_stay u)

  put_counted : count_by is_some (in_slots (set slots k (Some packet)) (set places t (k + 1))) + length rest ≡ length slots
  put_counted =
      let counted = keeps.counted in
      let seen = length-map places (at_place slots) in
      let none : slice_index_or (in_slots slots places) t None ≡ None = place_seen slots places t ∙ ap (at_place slots) away in
      let more : count_by is_some (set (in_slots slots places) t (Some packet)) + one (slice_index_or (in_slots slots places) t None) ≡ count_by is_some (in_slots slots places) + 1 =
      sum_by-set one (in_slots slots places) t (Some packet) None (omega arith) in
      let zero_before : one (slice_index_or (in_slots slots places) t None) ≡ 0 = ap one none in
      let now : count_by is_some (in_slots (set slots k (Some packet)) (set places t (k + 1))) ≡ count_by is_some (set (in_slots slots places) t (Some packet)) = ap (count_by is_some) put_seen in
      let l = long in
      omega arith

  put_held : (u slot : ℕ) → place_of (set places t (k + 1)) u ≡ suc slot → HasPacket (set slots k (Some packet)) slot u
  put_held u slot e = by (u == t) refl
    where
      by : (b : Bool) → (u == t) ≡ b → HasPacket (set slots k (Some packet)) slot u
      by true same =
          let u_t : u ≡ t = grind arith in
          let at : place_of (set places t (k + 1)) u ≡ k + 1 = ap (place_of (set places t (k + 1))) u_t ∙ get_or-set_same places t (k + 1) 0 lt in
          let slot_k : slot ≡ k = omega arith in
          record { packet = packet; here = rw slot_k (get_or-set_same slots k (Some packet) None k_empty.within); own = own ∙ sym u_t }
      by false apart =
          let u_t : u ≢ t = grind arith in
          let h = keeps.held u slot (sym (get_or-set_other places t u (k + 1) 0 u_t) ∙ e) in
          record { packet = h.packet; here = get_or-set_other slots k slot (Some packet) None (apart_k u slot h) ∙ h.here; own = h.own }

  put_empty : (i : ℕ) → i < length rest → IsEmpty (set slots k (Some packet)) (empty_slot rest i)
  put_empty i less =
      let l = long in
      let h : IsEmpty slots (empty_slot rest i) = subst (IsEmpty slots) (at_left i less) (keeps.empty i (omega arith)) in
      let other : empty_slot rest i ≢ k = λ same. (let equal = keeps.apart i (length rest) (omega arith) (omega arith) (at_left i less ∙ same ∙ sym at_last) in absurd (omega arith)) in
      record { within = rw (length-set slots k (Some packet)) h.within; empty = get_or-set_other slots k (empty_slot rest i) (Some packet) None other ∙ h.empty }

  put_apart : (i j : ℕ) → i < length rest → j < length rest → empty_slot rest i ≡ empty_slot rest j → i ≡ j
  put_apart i j less more same = let l = long in keeps.apart i j (omega arith) (omega arith) (at_left i less ∙ same ∙ sym (at_left j more))

  pub put_keeps : KeepsSlots (set slots k (Some packet)) (set places t (k + 1)) rest capacity
  put_keeps =
      let slot_count = length-set slots k (Some packet) in
      let place_count = length-set places t (k + 1) in
      let few = keeps.few in
      let arrivals = keeps.arrivals in
      let room = keeps.room in
      record {
        few = omega arith;
        arrivals = omega arith;
        held = put_held;
        empty = put_empty;
        apart = put_apart;
        counted = put_counted ∙ sym slot_count;
        room = omega arith;
      }

module _ (slots : List (Option Packet)) (places free : List ℕ) (k t capacity : ℕ) (packet : Packet) (keeps : KeepsSlots slots places free capacity) (lt : t < length places)
    (here : slice_index_or slots k None ≡ Some packet) (own : packet.t ≡ t) (at : place_of places t ≡ suc k) where
  k_within : k < length slots
  k_within = slot_within slots k packet here

  -- a packet of another arrival is in another slot
  other_slot : (u slot : ℕ) → u ≢ t → HasPacket slots slot u → slot ≢ k
  other_slot u slot ne h same =
      let there : slice_index_or slots k None ≡ Some h.packet = subst (λ s. slice_index_or slots s None ≡ Some h.packet) same h.here in
      let both : Some packet ≡ Some h.packet = sym here ∙ there in
      let one : packet ≡ h.packet = cc in
      ne (sym (sym own ∙ ap (λ p. p.t) one ∙ h.own))

  others_left : (u : ℕ) → u ≢ t → at_place (set slots k None) (place_of places u) ≡ at_place slots (place_of places u)
  others_left u ne = by (place_of places u) refl
    where
      by : (n : ℕ) → place_of places u ≡ n → at_place (set slots k None) n ≡ at_place slots n
      by zero e = refl
      by (suc slot) e = get_or-set_other slots k slot None None (other_slot u slot ne (keeps.held u slot e))

  pub take_seen : in_slots (set slots k None) (set places t 0) ≡ set (in_slots slots places) t None
  take_seen = seen_set slots (set slots k None) places t 0 None refl lt others_left

  longer : length (free ++ k ∷ []) ≡ length free + 1
  longer = length-append free (k ∷ [])

  seen_here : slice_index_or (in_slots slots places) t None ≡ Some packet
  seen_here = place_seen slots places t ∙ ap (at_place slots) at ∙ here

  take_counted : count_by is_some (in_slots (set slots k None) (set places t 0)) + length (free ++ k ∷ []) ≡ length slots
  take_counted =
      let counted = keeps.counted in
      let seen = length-map places (at_place slots) in
      let less : count_by is_some (set (in_slots slots places) t None) + one (slice_index_or (in_slots slots places) t None) ≡ count_by is_some (in_slots slots places) + 0 =
      sum_by-set one (in_slots slots places) t None None (omega arith) in
      let one_before : one (slice_index_or (in_slots slots places) t None) ≡ 1 = ap one seen_here in
      let now : count_by is_some (in_slots (set slots k None) (set places t 0)) ≡ count_by is_some (set (in_slots slots places) t None) = ap (count_by is_some) take_seen in
      let l = longer in
      omega arith

  -- there is room for one more empty slot
  pub room_for_one : length free < capacity
  room_for_one =
      let counted = keeps.counted in
      let room = keeps.room in
      let seen = length-map places (at_place slots) in
      let some : one (slice_index_or (in_slots slots places) t None) ≤ count_by is_some (in_slots slots places) = get_or-le-sum_by one (in_slots slots places) t None (omega arith) in
      let one_here : one (slice_index_or (in_slots slots places) t None) ≡ 1 = ap one seen_here in
      omega arith

  take_held : (u slot : ℕ) → place_of (set places t 0) u ≡ suc slot → HasPacket (set slots k None) slot u
  take_held u slot e = by (u == t) refl
    where
      by : (b : Bool) → (u == t) ≡ b → HasPacket (set slots k None) slot u
      by true same =
          let u_t : u ≡ t = grind arith in
          let none : place_of (set places t 0) u ≡ 0 = ap (place_of (set places t 0)) u_t ∙ get_or-set_same places t 0 0 lt in
          absurd (omega arith)
      by false apart =
          let u_t : u ≢ t = grind arith in
          let h = keeps.held u slot (sym (get_or-set_other places t u 0 0 u_t) ∙ e) in
          record { packet = h.packet; here = get_or-set_other slots k slot None None (other_slot u slot u_t h) ∙ h.here; own = h.own }

  -- an empty slot isn't the packet's
  not_k : (slot : ℕ) → IsEmpty slots slot → slot ≢ k
  not_k slot h same =
      let none : slice_index_or slots k None ≡ None = subst (λ s. slice_index_or slots s None ≡ None) same h.empty in
      let some = here in
      absurd cc

  in_front : (i : ℕ) → i < length free → empty_slot (free ++ k ∷ []) i ≡ empty_slot free i
  in_front i less = get_or-append free (k ∷ []) 0 i less

  at_end : (i : ℕ) → length free ≡ i → empty_slot (free ++ k ∷ []) i ≡ k
  at_end i e = get_or_push free k 0 i e

  take_empty : (i : ℕ) → i < length (free ++ k ∷ []) → IsEmpty (set slots k None) (empty_slot (free ++ k ∷ []) i)
  take_empty i less = by (nat_lt i (length free)) refl
    where
      by : (b : Bool) → nat_lt i (length free) ≡ b → IsEmpty (set slots k None) (empty_slot (free ++ k ∷ []) i)
      by true e =
          let before : i < length free = ltb-true i (length free) e in
          let h = keeps.empty i before in
          subst (IsEmpty (set slots k None)) (sym (in_front i before))
          record { within = rw (length-set slots k None) h.within; empty = get_or-set_other slots k (empty_slot free i) None None (not_k (empty_slot free i) h) ∙ h.empty }
      by false e =
          let last : length free ≤ i = ltb-false i (length free) e in
          let l = longer in
          subst (IsEmpty (set slots k None)) (sym (at_end i (omega arith)))
          record { within = rw (length-set slots k None) k_within; empty = get_or-set_same slots k None None k_within }

  take_apart : (i j : ℕ) → i < length (free ++ k ∷ []) → j < length (free ++ k ∷ []) → empty_slot (free ++ k ∷ []) i ≡ empty_slot (free ++ k ∷ []) j → i ≡ j
  take_apart i j less more same = by (nat_lt i (length free)) (nat_lt j (length free)) refl refl
    where
      by : (a b : Bool) → nat_lt i (length free) ≡ a → nat_lt j (length free) ≡ b → i ≡ j
      by true true e f =
          let x = ltb-true i (length free) e in
          let y = ltb-true j (length free) f in
          keeps.apart i j x y (sym (in_front i x) ∙ same ∙ in_front j y)
      by true false e f =
          let x = ltb-true i (length free) e in
          let y = ltb-false j (length free) f in
          let l = longer in
          absurd (not_k (empty_slot free i) (keeps.empty i x) (sym (in_front i x) ∙ same ∙ at_end j (omega arith)))
      by false true e f =
          let x = ltb-false i (length free) e in
          let y = ltb-true j (length free) f in
          let l = longer in
          absurd (not_k (empty_slot free j) (keeps.empty j y) (sym (in_front j y) ∙ sym same ∙ at_end i (omega arith)))
      by false false e f =
          let x = ltb-false i (length free) e in
          let y = ltb-false j (length free) f in
          let l = longer in
          omega arith

  pub take_keeps : KeepsSlots (set slots k None) (set places t 0) (free ++ k ∷ []) capacity
  take_keeps =
      let slot_count = length-set slots k None in
      let place_count = length-set places t 0 in
      let few = keeps.few in
      let arrivals = keeps.arrivals in
      let room = keeps.room in
      record {
        few = omega arith;
        arrivals = omega arith;
        held = take_held;
        empty = take_empty;
        apart = take_apart;
        counted = take_counted ∙ sym slot_count;
        room = omega arith;
      }

-- the packet that comes is seen, and the slots stay in order
module _ (slots : List (Option Packet)) (places free rest : List ℕ) (k capacity more : ℕ) (packet : Packet) (keeps : KeepsSlots slots places free capacity) (cut : free ≡ rest ++ k ∷ []) (same : more ≡ capacity)
    (p : Packets) (e : record { room = length slots; packets = in_slots slots places } ≡ p) (lt : packet.t < length p.packets) (away : packet_of p packet.t ≡ None) where
  kept : KeepsSlots slots places (rest ++ k ∷ []) more
  kept = subst₂ (KeepsSlots slots places) cut (sym same) keeps

  placed : packet.t < length places
  placed = one_of slots places free capacity keeps p e packet.t lt

  nowhere : place_of places packet.t ≡ 0
  nowhere = no_place slots places free capacity keeps packet.t (sym (packet_at slots places free capacity keeps p e packet.t) ∙ away)

  pub comes_kept : KeepsSlots (set slots k (Some packet)) (set places packet.t (k + 1)) rest more
  comes_kept = put_keeps slots places rest k packet.t more packet kept placed refl nowhere

  pub comes_seen : record { room = length (set slots k (Some packet)); packets = in_slots (set slots k (Some packet)) (set places packet.t (k + 1)) } ≡ with_packet p packet.t (Some packet)
  comes_seen = subst (λ q. record { room = length (set slots k (Some packet)); packets = in_slots (set slots k (Some packet)) (set places packet.t (k + 1)) } ≡ with_packet q packet.t (Some packet)) e
      (rw (length-set slots k (Some packet), put_seen slots places rest k packet.t more packet kept placed refl nowhere) refl)

-- the packet that goes was seen, and the slots stay in order
module _ (slots : List (Option Packet)) (places free : List ℕ) (capacity n t : ℕ) (keeps : KeepsSlots slots places free capacity)
    (p : Packets) (e : record { room = length slots; packets = in_slots slots places } ≡ p) (some : IsSome (packet_of p t)) (at : n ≡ slice_index_or places t n) where
  lies : t < length p.packets
  lies = some_within slots places free capacity keeps p t some

  read : n ≡ place_of places t
  read = place_read slots places free capacity keeps p e t n lies at

  pub goes_positive : 0 < n
  goes_positive = let positive = some_place slots places free capacity keeps p e t some in let same = read in omega arith

  pub goes_there : n - 1 < length slots
  goes_there = slot_there slots places free capacity keeps p e t n lies at goes_positive

  pub goes_out : (o : Option Packet) → o ≡ slice_index_or slots (n - 1) o → packet_of p t ≡ o
  goes_out o is = sym (slot_read slots places free capacity keeps p e t n o lies at goes_positive is)

  whose : HasPacket slots (n - 1) t
  whose = rw read (place_slot slots places free capacity keeps t (some_place slots places free capacity keeps p e t some))

  follows : place_of places t ≡ suc (n - 1)
  follows = let positive = goes_positive in let same = read in omega arith

  is_one : t < length places
  is_one = one_of slots places free capacity keeps p e t lies

  pub goes_room : length free < capacity
  goes_room = room_for_one slots places free (n - 1) t capacity whose.packet keeps is_one whose.here whose.own follows

  pub goes_kept : (o : Option Packet) (more : List ℕ) (room : ℕ) → o ≡ None → more ≡ free ++ (n - 1) ∷ [] → room ≡ capacity → KeepsSlots (set slots (n - 1) o) (set places t 0) more room
  goes_kept o more room gone all same = rw (gone, all, same) (take_keeps slots places free (n - 1) t capacity whose.packet keeps is_one whose.here whose.own follows)

  pub goes_seen : (o : Option Packet) → o ≡ None → record { room = length (set slots (n - 1) o); packets = in_slots (set slots (n - 1) o) (set places t 0) } ≡ with_packet p t None
  goes_seen o gone = subst (λ q. record { room = length (set slots (n - 1) o); packets = in_slots (set slots (n - 1) o) (set places t 0) } ≡ with_packet q t None) e
      (rw (length-set slots (n - 1) o, gone, take_seen slots places free (n - 1) t capacity whose.packet keeps is_one whose.here whose.own follows) refl)
