-- How a pool keeps its packets: in slots, with the slot of each arrival and the list of empty slots.
use Rattle.std.specs.Prelude.{◌≡◌, ℕ, zero, suc, ◌+◌, ◌<◌, ◌≤◌, List, length, map, Option, Some, None, is_some, slice_index_or, count_by}
use Rattle.pipe_parts.specs.declared.packet.Packet.{Packet}

-- what is at a place: 0 is none, the others are the slots from 1 on
abbrev pub at_place : List (Option Packet) → ℕ → Option Packet
at_place slots zero = None
at_place slots (suc slot) = slice_index_or slots slot None

-- what is at the place of each arrival
abbrev pub in_slots : List (Option Packet) → List ℕ → List (Option Packet)
in_slots slots places = map (at_place slots) places

-- the place of an arrival
abbrev pub place_of : List ℕ → ℕ → ℕ
place_of places t = slice_index_or places t 0

-- an empty slot
abbrev pub empty_slot : List ℕ → ℕ → ℕ
empty_slot free i = slice_index_or free i 0

-- the packet of the arrival is in the slot
pub record HasPacket (slots : List (Option Packet)) (slot t : ℕ) : Type 0 where
  pub packet : Packet
  pub here : slice_index_or slots slot None ≡ Some packet
  pub own : packet.t ≡ t

-- the slot is there, and nothing is in it
pub record IsEmpty (slots : List (Option Packet)) (slot : ℕ) : Type 0 where
  pub within : slot < length slots
  pub empty : slice_index_or slots slot None ≡ None

-- each packet is where its arrival says, and each slot with none is known as empty, once
pub record KeepsSlots (slots : List (Option Packet)) (places free : List ℕ) (capacity : ℕ) : Type 0 where
  pub few : length slots ≤ 8192
  pub arrivals : length places ≤ 262144
  pub held : (t slot : ℕ) → place_of places t ≡ suc slot → HasPacket slots slot t
  pub empty : (i : ℕ) → i < length free → IsEmpty slots (empty_slot free i)
  pub apart : (i j : ℕ) → i < length free → j < length free → empty_slot free i ≡ empty_slot free j → i ≡ j
  pub counted : count_by is_some (in_slots slots places) + length free ≡ length slots
  pub room : length slots ≤ capacity
