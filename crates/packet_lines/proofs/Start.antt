-- Lines in which nobody stands.
use Rattle.std.proofs.Common.{◌≡◌, ℕ, ◌*◌, ◌<◌, ◌≤◌, Bool, true, false, nat_lt, List, [], length, replicate, slice_index_or, refl, ◌∙◌, sym, subst, arith, Option, None, IfSome}
use Rattle.std.proofs.lemmas.Bool.{ltb-true, ltb-false}
use Rattle.std.proofs.lemmas.List.{get_or_past, get_or-replicate, length-replicate}
use Rattle.std.proofs.lemmas.List.Folds.{sum_by-replicate}
use Rattle.pipe_parts.specs.declared.packet.Packet.{Packet}
use Rattle.pipe_parts.specs.Packets.{Packets, no_packets}
use Rattle.pipe_parts.specs.Waiting.{Waiting, none_waits}
use Rattle.packet_lines.specs.Lined.{no_lines, is_of_home, home_count, StandsAt, AreLined}
use Rattle.packet_lines.specs.Keeping.{KeepsLines}
use Rattle.packet_lines.proofs.Counts.{tick}

-- what stands everywhere is what is read, past the list too
all_alike : {A : Type 0} (n i : ℕ) (d : A) → slice_index_or (replicate n d) i d ≡ d
all_alike n i d = by (nat_lt i n) refl
  where
    by : (b : Bool) → nat_lt i n ≡ b → slice_index_or (replicate n d) i d ≡ d
    by true e = get_or-replicate n i d d (ltb-true i n e)
    by false e =
        let long = length-replicate n d in
        let past = ltb-false i n e in
        get_or_past (replicate n d) i d (omega arith)

module _ (arrivals pipes window : ℕ) where
  -- nobody stands anywhere
  nowhere : (line before t : ℕ) → StandsAt (no_lines arrivals pipes window) line before t → ⊥
  nowhere line before t s =
      let none : slice_index_or (replicate pipes []) line [] ≡ [] = all_alike {A = List ℕ} pipes line [] in
      let short : before < length {A = ℕ} [] = subst (λ xs. before < length xs) none s.within in
      absurd (omega arith)

  nobody : (home : ℕ) → home_count (no_lines arrivals pipes window) home ≡ 0
  nobody home = sum_by-replicate (λ (o : Option Packet). tick (is_of_home pipes home o)) arrivals None ∙ omega arith

  no_lines_lawful : 1 ≤ pipes → pipes ≤ 8 → window ≤ 1024 → AreLined (no_lines arrivals pipes window)
  no_lines_lawful some few small = record {
    some = some;
    pipes = few;
    limit = small;
    lines = length-replicate pipes [];
    own = λ t. subst (λ o. IfSome o (λ packet. packet.t ≡ t)) (sym (all_alike {A = Option Packet} arrivals t None)) _;
    here = λ line before t s. absurd (nowhere line before t s);
    once = λ line before other behind t s r. absurd (nowhere line before t s);
    few = λ home lt. (let none = nobody home in omega arith);
  }

  pub new_kept : 1 ≤ pipes → pipes ≤ 8 → window ≤ 1024 → (room : ℕ) → room ≡ pipes * window → (pool : Packets) (lines : Waiting ℕ) (homes : List ℕ)
      → pool ≡ no_packets arrivals room → lines ≡ none_waits pipes room → homes ≡ replicate pipes 0 → KeepsLines pipes window pool lines homes
  new_kept some few small room product pool lines homes none nothing zeros = rw (none, nothing, zeros) record {
    laws = no_lines_lawful some few small;
    each = length-replicate pipes 0;
    counted = λ home lt. get_or-replicate pipes home 0 0 lt ∙ sym (nobody home);
    pool_room = product;
    line_room = product;
  }
