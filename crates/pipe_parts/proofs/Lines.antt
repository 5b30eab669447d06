-- The queues of an outbox, and what contracts see of them.
use Rattle.std.proofs.Common.{◌≡◌, ℕ, ◌<◌, ◌≤◌, List, [], ◌∷◌, ◌++◌, map, length, drop, set, slice_index_or, refl, ap, ◌∙◌, sym, subst, arith, Option, Some, None, IfSome, option_to_list, deque_items}
use Rattle.std.specs.declared.collections.VecDeque.{VecDeque}
use Rattle.std.proofs.lemmas.List.{map-set, get_or-map, length-map, get_or-set_same}
use Rattle.std.proofs.lemmas.List.Elements.{All-map}
use Rattle.pipe_parts.specs.Waiting.{Waiting, waits_for, with_waiting, IsOutbox}
use Rattle.pipe_parts.specs.Room.{HaveRoom}

module _ {T A : Type 0} (room : ℕ) (qs : List (VecDeque T A)) where
  -- what contracts see
  abbrev seen : Waiting T
  seen = record { room = room; lines = map deque_items qs }

  -- no more wait than there is room for
  pub few_wait : (w : Waiting T) → seen ≡ w → HaveRoom room qs → IsOutbox w
  few_wait w e h = subst IsOutbox e (All-map (λ items. length items ≤ room) deque_items qs (λ k q lt. (h.each k q lt).few))

  -- what waits for a pipe is in its queue
  line_at : (w : Waiting T) → seen ≡ w → (to : ℕ) (q : VecDeque T A) → q ≡ slice_index_or qs to q → to < length w.lines → waits_for w to ≡ q.items
  line_at w e to q at lt =
      let long = length-map qs deque_items in
      let count : length (map deque_items qs) ≡ length w.lines = ap (λ v. length v.lines) e in
      ap (λ v. waits_for v to) (sym e) ∙ get_or-map deque_items qs to q [] (omega arith) ∙ ap deque_items (sym at)

  -- one queue is another now
  line_set : (w : Waiting T) → seen ≡ w → (to : ℕ) (q : VecDeque T A) (items : List T) → q.items ≡ items
      → record { room = room; lines = map deque_items (set qs to q) } ≡ with_waiting w to items
  line_set w e to q items same = subst (λ v. record { room = room; lines = map deque_items (set qs to q) } ≡ with_waiting v to items) e (rw (map-set deque_items qs to q, same) refl)

  -- few wait for a pipe
  pub short : (w : Waiting T) → seen ≡ w → (to : ℕ) (q : VecDeque T A) → q ≡ slice_index_or qs to q → to < length w.lines → HaveRoom room qs → q.len ≤ 4294967295
  short w e to q at lt h =
      let long = length-map qs deque_items in
      let count : length (map deque_items qs) ≡ length w.lines = ap (λ v. length v.lines) e in
      let few : length q.items ≤ room = subst (λ (r : VecDeque T A). length r.items ≤ room) (sym at) (h.each to q (omega arith)).few in
      let small = h.small in
      let laid : q.len ≡ length q.items = q.ok.0 in
      omega arith

  -- an item more waits
  pub line_pushed : (w : Waiting T) → seen ≡ w → (to : ℕ) (q r : VecDeque T A) → q ≡ slice_index_or qs to q → to < length w.lines → (item : T) → r.items ≡ q.items ++ item ∷ []
      → record { room = room; lines = map deque_items (set qs to r) } ≡ with_waiting w to (waits_for w to ++ item ∷ [])
  line_pushed w e to q r at lt item more = line_set w e to r _ (more ∙ ap (λ items. items ++ item ∷ []) (sym (line_at w e to q at lt)))

  -- the first goes out
  pub line_popped : (w : Waiting T) → seen ≡ w → (to : ℕ) (q r : VecDeque T A) → q ≡ slice_index_or qs to q → to < length w.lines → r.items ≡ drop 1 q.items
      → record { room = room; lines = map deque_items (set qs to r) } ≡ with_waiting w to (drop 1 (waits_for w to))
  line_popped w e to q r at lt less = line_set w e to r _ (less ∙ ap (drop 1) (sym (line_at w e to q at lt)))

  -- the first item that waits goes out
  pub first_out : (w : Waiting T) → seen ≡ w → (to : ℕ) (q r : VecDeque T A) → q ≡ slice_index_or qs to q → to < length w.lines → (out : Option T) → q.items ≡ option_to_list out ++ r.items
      → IfSome out (λ item. waits_for w to ≡ item ∷ waits_for record { room = room; lines = map deque_items (set qs to r) } to)
  first_out w e to q r at lt None cut = _
  first_out w e to q r at lt (Some item) cut =
      let long = length-map qs deque_items in
      let count : length (map deque_items qs) ≡ length w.lines = ap (λ v. length v.lines) e in
      let now : slice_index_or (map deque_items (set qs to r)) to [] ≡ r.items = ap (λ ls. slice_index_or ls to []) (map-set deque_items qs to r) ∙ get_or-set_same (map deque_items qs) to r.items [] (omega arith) in
      line_at w e to q at lt ∙ cut ∙ ap (λ items. item ∷ items) (sym now)
