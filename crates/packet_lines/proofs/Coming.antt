-- A packet that comes, and the line behind which its arrival stands.
use Rattle.std.proofs.Common.{◌≡◌, ◌≢◌, ℕ, ◌+◌, ◌%◌, ◌<◌, ◌≤◌, ◌==◌, Bool, true, false, nat_lt, List, [], ◌∷◌, ◌++◌, length, length-append, slice_index, slice_index_or, slice_set, refl, ap, ◌∙◌, sym, subst, arith, Option, Some, None, is_some, IsSome, IfSome, cond}
use Rattle.std.proofs.Math.ListN.{get_or-append}
use Rattle.std.proofs.lemmas.Bool.{ltb-true, ltb-false}
use Rattle.std.proofs.lemmas.List.{get_or-set_same, get_or-set_other, get_or_push, length-set}
use Rattle.pipe_parts.specs.declared.packet.Packet.{Packet}
use Rattle.packet_lines.specs.Lined.{Lined, lined_packet, line_of, is_of_home, home_count, with_lined, StandsAt, IsOnePlace, AreLined}
use Rattle.packet_lines.proofs.Counts.{tick, count_set}

-- a place in the lines after an arrival came: one that was there, or that of the arrival, behind a line's others
data CameTo (p : Lined) (t line place other i u : ℕ) : Type 0 where
  before : StandsAt p other i u → CameTo p t line place other i u
  behind : other ≡ line → i ≡ place → u ≡ t → CameTo p t line place other i u

-- the packets that are here after one came, and the lines
abbrev come_to : Lined → Packet → List (List ℕ) → Lined
come_to p packet ls = record { pipes = p.pipes; window = p.window; packets = slice_set p.packets packet.t (Some packet); lines = ls }

module _ (p : Lined) (packet : Packet) (ls : List (List ℕ)) (laws : AreLined p) (lt : packet.t < length p.packets) (absent : lined_packet p packet.t ≡ None) where
  -- one more is here of its home, and of the others as many as before
  pub home_more : (home : ℕ) → home_count (come_to p packet ls) home ≡ home_count p home + cond (packet.t % p.pipes == home) 1 0
  home_more home =
      let more : home_count (come_to p packet ls) home + tick (is_of_home p.pipes home (lined_packet p packet.t)) ≡ home_count p home + tick (packet.t % p.pipes == home) = count_set (is_of_home p.pipes home) p.packets packet.t (Some packet) None lt in
      let none : tick (is_of_home p.pipes home (lined_packet p packet.t)) ≡ tick false = ap (λ o. tick (is_of_home p.pipes home o)) absent in
      omega arith

  new_here : lined_packet (come_to p packet ls) packet.t ≡ Some packet
  new_here = get_or-set_same p.packets packet.t (Some packet) None lt

  new_own : (u : ℕ) → IfSome (lined_packet (come_to p packet ls) u) (λ q. q.t ≡ u)
  new_own u = by (u == packet.t) refl
    where
      by : (b : Bool) → (u == packet.t) ≡ b → IfSome (lined_packet (come_to p packet ls) u) (λ q. q.t ≡ u)
      by true e =
          let same : u ≡ packet.t = grind arith in
          let now : lined_packet (come_to p packet ls) u ≡ Some packet = ap (lined_packet (come_to p packet ls)) same ∙ new_here in
          subst (λ o. IfSome o (λ q. q.t ≡ u)) (sym now) (sym same)
      by false e =
          let other : u ≢ packet.t = grind arith in
          subst (λ o. IfSome o (λ q. q.t ≡ u)) (sym (get_or-set_other p.packets packet.t u (Some packet) None other)) (laws.own u)

  -- an arrival that stood in a line is another one
  apart : (line i : ℕ) → StandsAt p line i packet.t → ⊥
  apart line i s =
      let some = laws.here line i packet.t s in
      let none : is_some (lined_packet p packet.t) ≡ false = ap is_some absent in
      absurd cc

  new_few : home_count p (packet.t % p.pipes) < p.window → (home : ℕ) → home < p.pipes → home_count (come_to p packet ls) home ≤ p.window
  new_few room home less = by (packet.t % p.pipes == home) refl
    where
      by : (b : Bool) → (packet.t % p.pipes == home) ≡ b → home_count (come_to p packet ls) home ≤ p.window
      by true e =
          let more = home_more home in
          let one : tick (packet.t % p.pipes == home) ≡ tick true = ap tick e in
          let same : packet.t % p.pipes ≡ home = grind arith in
          let few : home_count p home < p.window = subst (λ h. home_count p h < p.window) same room in
          omega arith
      by false e =
          let more = home_more home in
          let one : tick (packet.t % p.pipes == home) ≡ tick false = ap tick e in
          let few = laws.few home less in
          omega arith

  module _ (line place : ℕ) (from : (other i u : ℕ) → StandsAt (come_to p packet ls) other i u → CameTo p packet.t line place other i u) where
    came_here : (other i u : ℕ) → CameTo p packet.t line place other i u → IsSome (lined_packet (come_to p packet ls) u)
    came_here other i u (before s) =
        let ne : u ≢ packet.t = λ same. apart other i (subst (StandsAt p other i) same s) in
        subst IsSome (sym (get_or-set_other p.packets packet.t u (Some packet) None ne)) (laws.here other i u s)
    came_here other i u (behind e f same) = ap is_some (ap (lined_packet (come_to p packet ls)) same ∙ new_here)

    came_once : (other i further j u : ℕ) → CameTo p packet.t line place other i u → CameTo p packet.t line place further j u → IsOnePlace other i further j
    came_once other i further j u (before s) (before r) = laws.once other i further j u s r
    came_once other i further j u (before s) (behind e f same) = absurd (apart other i (subst (StandsAt p other i) same s))
    came_once other i further j u (behind e f same) (before r) = absurd (apart further j (subst (StandsAt p further j) same r))
    came_once other i further j u (behind e f same) (behind g h equal) = record { one_line = e ∙ sym g; one_place = f ∙ sym h }

    -- where each place in the lines now is one that was there or the new one, the laws hold
    comes_lawful : length ls ≡ length p.lines → home_count p (packet.t % p.pipes) < p.window → AreLined (come_to p packet ls)
    comes_lawful long room = record {
      some = laws.some;
      pipes = laws.pipes;
      limit = laws.limit;
      lines = long ∙ laws.lines;
      own = new_own;
      here = λ other i u s. came_here other i u (from other i u s);
      once = λ other i further j u s r. came_once other i further j u (from other i u s) (from further j u r);
      few = new_few room;
    }

-- the arrival stands behind the others of a line
module _ (p : Lined) (packet : Packet) (line : ℕ) (within : line < length p.lines) where
  in_line : (i u : ℕ) → i < length (line_of p line ++ packet.t ∷ []) → slice_index (line_of p line ++ packet.t ∷ []) i ≡ u → CameTo p packet.t line (length (line_of p line)) line i u
  in_line i u less at = by (nat_lt i (length (line_of p line))) refl
    where
      by : (b : Bool) → nat_lt i (length (line_of p line)) ≡ b → CameTo p packet.t line (length (line_of p line)) line i u
      by true e =
          let old = ltb-true i (length (line_of p line)) e in
          before (record { within = old; number = sym (get_or-append (line_of p line) (packet.t ∷ []) 0 i old) ∙ at })
      by false e =
          let past = ltb-false i (length (line_of p line)) e in
          let long = length-append (line_of p line) (packet.t ∷ []) in
          let last : i ≡ length (line_of p line) = omega arith in
          behind refl last (sym at ∙ get_or_push (line_of p line) packet.t 0 i (sym last))

  behind_others : (other i u : ℕ) → StandsAt (come_to p packet (slice_set p.lines line (line_of p line ++ packet.t ∷ []))) other i u → CameTo p packet.t line (length (line_of p line)) other i u
  behind_others other i u s = by (other == line) refl
    where
      by : (b : Bool) → (other == line) ≡ b → CameTo p packet.t line (length (line_of p line)) other i u
      by true e =
          let same : other ≡ line = grind arith in
          let now : slice_index_or (slice_set p.lines line (line_of p line ++ packet.t ∷ [])) other [] ≡ line_of p line ++ packet.t ∷ [] =
          ap (λ l. slice_index_or (slice_set p.lines line (line_of p line ++ packet.t ∷ [])) l []) same ∙ get_or-set_same p.lines line (line_of p line ++ packet.t ∷ []) [] within in
          subst (λ l. CameTo p packet.t line (length (line_of p line)) l i u) (sym same) (in_line i u (subst (λ xs. i < length xs) now s.within) (ap (λ xs. slice_index xs i) (sym now) ∙ s.number))
      by false e =
          let ne : other ≢ line = grind arith in
          let now : slice_index_or (slice_set p.lines line (line_of p line ++ packet.t ∷ [])) other [] ≡ line_of p other = get_or-set_other p.lines line other (line_of p line ++ packet.t ∷ []) [] ne in
          before (record { within = subst (λ xs. i < length xs) now s.within; number = ap (λ xs. slice_index xs i) (sym now) ∙ s.number })

-- the laws hold after a packet came
pub lined_lawful : (p : Lined) (packet : Packet) (line : Option ℕ) → AreLined p → packet.t < length p.packets → lined_packet p packet.t ≡ None
    → home_count p (packet.t % p.pipes) < p.window → IfSome line (λ l. l < p.pipes) → AreLined (with_lined p packet line)
lined_lawful p packet None laws lt absent room there =
    comes_lawful p packet p.lines laws lt absent 0 0 (λ other i u s. before (record { within = s.within; number = s.number })) refl room
lined_lawful p packet (Some line) laws lt absent room there =
    let within : line < length p.lines = (let count = laws.lines in omega arith) in
    comes_lawful p packet (slice_set p.lines line (line_of p line ++ packet.t ∷ [])) laws lt absent line (length (line_of p line)) (behind_others p packet line within)
    (length-set p.lines line (line_of p line ++ packet.t ∷ [])) room
