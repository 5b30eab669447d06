-- What a pool's slots hold, and what contracts see of them.
use Rattle.std.proofs.Common.{◌≡◌, ◌≢◌, ℕ, zero, suc, ◌-◌, ◌<◌, ◌↔◌, Bool, true, false, not, nat_eq, nat_lt, ◌==◌, List, length, set, slice_index_or, refl, ap, ◌∙◌, sym, subst, arith, Option, Some, None, is_some, IfSome, IsSome, IsTrue}
use Rattle.std.proofs.Math.ListN.{get_or-map, length-set}
use Rattle.std.proofs.lemmas.Bool.{ltb-true, ltb-false}
use Rattle.std.proofs.lemmas.List.{ext_get_or, length-map, get_or-set_same, get_or-set_other, get_or_past, get_or_default}
use Rattle.pipe_parts.specs.declared.packet.Packet.{Packet}
use Rattle.pipe_parts.specs.Packets.{Packets, packet_of, ArePackets}
use Rattle.pipe_parts.specs.Slots.{at_place, in_slots, place_of, HasPacket, KeepsSlots}

-- what is seen of an arrival is at its place
pub place_seen : (slots : List (Option Packet)) (places : List ℕ) (t : ℕ) → slice_index_or (in_slots slots places) t None ≡ at_place slots (place_of places t)
place_seen slots places t = get_or-map (at_place slots) places t 0

-- a slot with a packet is there
pub slot_within : (slots : List (Option Packet)) (slot : ℕ) (p : Packet) → slice_index_or slots slot None ≡ Some p → slot < length slots
slot_within slots slot p here = by (nat_lt slot (length slots)) refl
  where
    by : (b : Bool) → nat_lt slot (length slots) ≡ b → slot < length slots
    by true e = ltb-true slot (length slots) e
    by false e = let none = get_or_past slots slot None (ltb-false slot (length slots) e) in absurd cc

-- one place of the list changed, and what is at the others stayed
pub seen_set : (slots after : List (Option Packet)) (places : List ℕ) (t n : ℕ) (o : Option Packet) → at_place after n ≡ o → t < length places
    → ((u : ℕ) → u ≢ t → at_place after (place_of places u) ≡ at_place slots (place_of places u))
    → in_slots after (set places t n) ≡ set (in_slots slots places) t o
seen_set slots after places t n o new lt others = ext_get_or None _ _ long (λ u within. by u (u == t) refl)
  where
    long : length (in_slots after (set places t n)) ≡ length (set (in_slots slots places) t o)
    long = length-map (set places t n) (at_place after) ∙ length-set places t n ∙ sym (length-set (in_slots slots places) t o ∙ length-map places (at_place slots))

    by : (u : ℕ) (b : Bool) → (u == t) ≡ b → slice_index_or (in_slots after (set places t n)) u None ≡ slice_index_or (set (in_slots slots places) t o) u None
    by u true e =
        let same : u ≡ t = grind arith in
        let count = length-map places (at_place slots) in
        rw same
        (place_seen after (set places t n) t ∙ ap (at_place after) (get_or-set_same places t n 0 lt) ∙ new
        ∙ sym (get_or-set_same (in_slots slots places) t o None (omega arith)))
    by u false e =
        let other : u ≢ t = grind arith in
        place_seen after (set places t n) u ∙ ap (at_place after) (get_or-set_other places t u n 0 other) ∙ others u other
        ∙ sym (get_or-set_other (in_slots slots places) t u o None other ∙ place_seen slots places u)

module _ (slots : List (Option Packet)) (places free : List ℕ) (capacity : ℕ) (keeps : KeepsSlots slots places free capacity) where
  -- a packet is of the arrival at whose place it is
  pub own_packet : (t : ℕ) → IfSome (at_place slots (place_of places t)) (λ p. p.t ≡ t)
  own_packet t = by (place_of places t) refl
    where
      by : (n : ℕ) → place_of places t ≡ n → IfSome (at_place slots n) (λ p. p.t ≡ t)
      by zero e = _
      by (suc slot) e = let h = keeps.held t slot e in subst (λ o. IfSome o (λ p. p.t ≡ t)) (sym h.here) h.own

  -- where no packet is seen there is no place
  pub no_place : (t : ℕ) → at_place slots (place_of places t) ≡ None → place_of places t ≡ 0
  no_place t = by (place_of places t) refl
    where
      by : (n : ℕ) → place_of places t ≡ n → at_place slots n ≡ None → n ≡ 0
      by zero e none = refl
      by (suc slot) e none = let h = keeps.held t slot e in let here = h.here in absurd cc

  -- where one is seen there is
  pub has_place : (t : ℕ) → IsSome (at_place slots (place_of places t)) → 0 < place_of places t
  has_place t = by (place_of places t)
    where
      by : (n : ℕ) → IsSome (at_place slots n) → 0 < n
      by zero some = absurd cc
      by (suc slot) some = omega arith

  -- the slot of a place
  pub place_slot : (t : ℕ) → 0 < place_of places t → HasPacket slots (place_of places t - 1) t
  place_slot t some = keeps.held t (place_of places t - 1) (omega arith)

  -- at a place is what is in its slot
  pub place_item : (t : ℕ) → 0 < place_of places t → at_place slots (place_of places t) ≡ slice_index_or slots (place_of places t - 1) None
  place_item t = by (place_of places t)
    where
      by : (n : ℕ) → 0 < n → at_place slots n ≡ slice_index_or slots (n - 1) None
      by zero some = absurd (omega arith)
      by (suc slot) some = let less : suc slot - 1 ≡ slot = omega arith in ap (λ k. slice_index_or slots k None) (sym less)

  pub are_packets : (p : Packets) → record { room = length slots; packets = in_slots slots places } ≡ p → ArePackets p
  are_packets p e = subst ArePackets e record {
    own = λ t. subst (λ o. IfSome o (λ q. q.t ≡ t)) (sym (place_seen slots places t)) (own_packet t);
    few = let counted = keeps.counted in omega arith;
  }

  -- the packet that is seen of an arrival
  pub packet_at : (p : Packets) → record { room = length slots; packets = in_slots slots places } ≡ p → (t : ℕ) → packet_of p t ≡ at_place slots (place_of places t)
  packet_at p e t = subst (λ q. packet_of q t ≡ at_place slots (place_of places t)) e (place_seen slots places t)

  -- whether there is one is told by the place
  pub here_told : (p : Packets) → record { room = length slots; packets = in_slots slots places } ≡ p → (t : ℕ) → IsTrue (not (nat_eq (place_of places t) 0)) ↔ IsSome (packet_of p t)
  here_told p e t = rw (packet_at p e t) (by (place_of places t) refl)
    where
      by : (n : ℕ) → place_of places t ≡ n → IsTrue (not (nat_eq n 0)) ↔ IsSome (at_place slots n)
      by zero at = ((λ h. absurd cc), (λ h. absurd cc))
      by (suc slot) at = let h = keeps.held t slot at in ((λ _. ap is_some h.here), (λ _. grind arith))

  -- the arrival is one of the pool's
  pub one_of : (p : Packets) → record { room = length slots; packets = in_slots slots places } ≡ p → (t : ℕ) → t < length p.packets → t < length places
  one_of p e t lt =
      let count = length-map places (at_place slots) in
      let seen : length (in_slots slots places) ≡ length p.packets = ap (λ q. length q.packets) e in
      omega arith

  -- a place that was read
  pub place_read : (p : Packets) → record { room = length slots; packets = in_slots slots places } ≡ p → (t n : ℕ) → t < length p.packets → n ≡ slice_index_or places t n → n ≡ place_of places t
  place_read p e t n lt at = at ∙ get_or_default places t n 0 (one_of p e t lt)

  -- whether a packet is here is told by the place that was read
  pub here_read : (p : Packets) → record { room = length slots; packets = in_slots slots places } ≡ p → (t n : ℕ) → t < length p.packets → n ≡ slice_index_or places t n → IsTrue (not (nat_eq n 0)) ↔ IsSome (packet_of p t)
  here_read p e t n lt at = rw (place_read p e t n lt at) (here_told p e t)

  -- the slot of a place that was read is there
  pub slot_there : (p : Packets) → record { room = length slots; packets = in_slots slots places } ≡ p → (t n : ℕ) → t < length p.packets → n ≡ slice_index_or places t n → 0 < n → n - 1 < length slots
  slot_there p e t n lt at some =
      let same = place_read p e t n lt at in
      let h = place_slot t (subst (λ m. 0 < m) same some) in
      rw same (slot_within slots (place_of places t - 1) h.packet h.here)

  -- what was read there is what is seen of the arrival
  pub slot_read : (p : Packets) → record { room = length slots; packets = in_slots slots places } ≡ p → (t n : ℕ) (o : Option Packet) → t < length p.packets → n ≡ slice_index_or places t n → 0 < n → o ≡ slice_index_or slots (n - 1) o → o ≡ packet_of p t
  slot_read p e t n o lt at some there =
      let same = place_read p e t n lt at in
      there ∙ get_or_default slots (n - 1) o None (slot_there p e t n lt at some) ∙ ap (λ m. slice_index_or slots (m - 1) None) same
      ∙ sym (packet_at p e t ∙ place_item t (subst (λ m. 0 < m) same some))

  -- a packet that is seen is of one of the pool's arrivals
  pub some_within : (p : Packets) (t : ℕ) → IsSome (packet_of p t) → t < length p.packets
  some_within p t some = by (nat_lt t (length p.packets)) refl
    where
      by : (b : Bool) → nat_lt t (length p.packets) ≡ b → t < length p.packets
      by true e = ltb-true t (length p.packets) e
      by false e =
          let none : packet_of p t ≡ None = get_or_past p.packets t None (ltb-false t (length p.packets) e) in
          let no : is_some (packet_of p t) ≡ false = ap is_some none in
          absurd cc

  -- and has a place
  pub some_place : (p : Packets) → record { room = length slots; packets = in_slots slots places } ≡ p → (t : ℕ) → IsSome (packet_of p t) → 0 < place_of places t
  some_place p e t some = has_place t (subst IsSome (packet_at p e t) some)
