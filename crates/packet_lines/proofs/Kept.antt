-- What lines keep as packets come and go.
use Rattle.std.proofs.Common.{◌≡◌, ◌≢◌, ℕ, ◌+◌, ◌-◌, ◌*◌, ◌%◌, ◌<◌, ◌≤◌, ◌==◌, Bool, true, false, List, ◌∷◌, ◌++◌, take, drop, length, slice_index, slice_set, refl, ap, ◌∙◌, sym, subst, arith, Option, Some, None, is_some, IsSome, IfSome, cond, eq-eqb}
use Rattle.std.proofs.lemmas.List.{get_or-set_same, get_or-set_other, length-set}
use Rattle.pipe_parts.specs.declared.packet.Packet.{Packet}
use Rattle.pipe_parts.specs.Packets.{Packets, packet_of, with_packet, how_many}
use Rattle.pipe_parts.specs.Waiting.{Waiting, waits_for, with_waiting}
use Rattle.packet_lines.specs.Lined.{Lined, lined_packet, line_of, first_of, home_count, with_lined, gone_from, StandsNowhere, AreLined}
use Rattle.packet_lines.specs.Keeping.{seen, KeepsLines, one_more, one_less, stood}
use Rattle.packet_lines.proofs.Counts.{tick, few_in_all, count_set, line_short}
use Rattle.packet_lines.proofs.Leaving.{refilled, some_within, home_less, first_here, first_lawful, waiting_lawful}
use Rattle.packet_lines.proofs.Coming.{home_more, lined_lawful}

module _ (pipes window : ℕ) (pool : Packets) (lines : Waiting ℕ) (homes : List ℕ) (k : KeepsLines pipes window pool lines homes) (p : Lined) (e : seen pipes window pool lines ≡ p) where
  -- an arrival has a home
  home_there : (t : ℕ) → t % pipes < length homes
  home_there t =
      let each = k.each in
      let some : 1 ≤ pipes = k.laws.some in
      omega arith

  -- what is counted of a home, where one count changed
  changed : (home t n : ℕ) → slice_index (slice_set homes (t % pipes) n) home ≡ cond (t % pipes == home) n (slice_index homes home)
  changed home t n = by (t % pipes == home) refl
    where
      by : (b : Bool) → (t % pipes == home) ≡ b → slice_index (slice_set homes (t % pipes) n) home ≡ cond b n (slice_index homes home)
      by true f =
          let same : t % pipes ≡ home = grind arith in
          ap (slice_index (slice_set homes (t % pipes) n)) (sym same) ∙ get_or-set_same homes (t % pipes) n 0 (home_there t)
      by false f =
          let other : home ≢ t % pipes = grind arith in
          get_or-set_other homes (t % pipes) home n 0 other

  -- the packet of an arrival leaves, and the lines are lawful without it
  module _ (t : ℕ) (rest : Waiting ℕ) (some : IsSome (packet_of pool t)) (lawful : AreLined (gone_from (seen pipes window pool lines) t rest.lines)) (room : rest.room ≡ lines.room) where
    pub goes_counted : 0 < slice_index homes (t % pipes)
    goes_counted =
        let pipe : 1 ≤ pipes = k.laws.some in
        let count = k.counted (t % pipes) (omega arith) in
        let less = home_less (seen pipes window pool lines) t rest.lines k.laws some (t % pipes) in
        let one : tick (t % pipes == t % pipes) ≡ tick true = ap tick (eq-eqb (t % pipes) (t % pipes) refl) in
        omega arith

    goes_kept : KeepsLines pipes window (with_packet pool t None) rest (one_less homes (t % pipes))
    goes_kept = record {
      laws = lawful;
      each = length-set homes (t % pipes) (slice_index homes (t % pipes) - 1) ∙ k.each;
      counted = λ home lt. by home lt (t % pipes == home) refl;
      pool_room = k.pool_room;
      line_room = room ∙ k.line_room;
    }
      where
        by : (home : ℕ) → home < pipes → (b : Bool) → (t % pipes == home) ≡ b → slice_index (one_less homes (t % pipes)) home ≡ home_count (seen pipes window (with_packet pool t None) rest) home
        by home lt true f =
            let same : t % pipes ≡ home = grind arith in
            let less = home_less (seen pipes window pool lines) t rest.lines k.laws some home in
            let one : tick (t % pipes == home) ≡ tick true = ap tick f in
            let count = k.counted home lt in
            let at = changed home t (slice_index homes (t % pipes) - 1) in
            let here : cond (t % pipes == home) (slice_index homes (t % pipes) - 1) (slice_index homes home) ≡ slice_index homes (t % pipes) - 1 = ap (λ b. cond b (slice_index homes (t % pipes) - 1) (slice_index homes home)) f in
            let old : slice_index homes (t % pipes) ≡ slice_index homes home = ap (slice_index homes) same in
            omega arith
        by home lt false f =
            let less = home_less (seen pipes window pool lines) t rest.lines k.laws some home in
            let one : tick (t % pipes == home) ≡ tick false = ap tick f in
            let count = k.counted home lt in
            let at = changed home t (slice_index homes (t % pipes) - 1) in
            let here : cond (t % pipes == home) (slice_index homes (t % pipes) - 1) (slice_index homes home) ≡ slice_index homes home = ap (λ b. cond b (slice_index homes (t % pipes) - 1) (slice_index homes home)) f in
            omega arith

    -- the counts were lent and written
    pub gone_kept : (n : ℕ) (lent counts : List ℕ) (less : Packets) → n ≡ length homes → lent ≡ homes → counts ≡ one_less lent (t % pipes) → less ≡ with_packet pool t None
        → KeepsLines pipes window less rest (take n (counts ++ drop (length counts) homes))
    gone_kept n lent counts less long same written gone =
        let is : counts ≡ one_less homes (t % pipes) = written ∙ ap (λ h. one_less h (t % pipes)) same in
        let size : length counts ≡ n = ap length is ∙ length-set homes (t % pipes) (slice_index homes (t % pipes) - 1) ∙ sym long in
        rw (refilled n counts homes size, is, gone) goes_kept

  -- the first of a line leaves
  module _ (line t : ℕ) (later : List ℕ) (some : 0 < length (line_of p line)) (cut : waits_for lines line ≡ t ∷ later) where
    here : 0 < length (line_of (seen pipes window pool lines) line)
    here = subst (λ q. 0 < length (line_of q line)) (sym e) some

    is_first : first_of (seen pipes window pool lines) line ≡ t
    is_first = ap (λ xs. slice_index xs 0) cut

    pub first_is_here : IsSome (packet_of pool t)
    first_is_here = subst (λ u. IsSome (packet_of pool u)) is_first (first_here (seen pipes window pool lines) line k.laws here)

    pub first_gone : AreLined (gone_from (seen pipes window pool lines) t (slice_set lines.lines line (drop 1 (waits_for lines line))))
    first_gone = subst (λ u. AreLined (gone_from (seen pipes window pool lines) u (slice_set lines.lines line (drop 1 (waits_for lines line))))) is_first
        (first_lawful (seen pipes window pool lines) line k.laws here)

    pub first_counted : (lent : List ℕ) → lent ≡ homes → 0 < slice_index lent (t % pipes)
    first_counted lent same = rw same (goes_counted t (with_waiting lines line (drop 1 (waits_for lines line))) first_is_here first_gone refl)

    pub first_kept : (n : ℕ) (lent counts : List ℕ) (less : Packets) (rest : Waiting ℕ) → n ≡ length homes → lent ≡ homes → counts ≡ one_less lent (t % pipes) → less ≡ with_packet pool t None
        → rest ≡ with_waiting lines line (drop 1 (waits_for lines line)) → KeepsLines pipes window less rest (take n (counts ++ drop (length counts) homes))
    first_kept n lent counts less rest long same written gone out =
        rw out (gone_kept t (with_waiting lines line (drop 1 (waits_for lines line))) first_is_here first_gone refl n lent counts less long same written gone)

  -- one that stands nowhere leaves
  module _ (t : ℕ) (some : IsSome (lined_packet p t)) (nowhere : StandsNowhere p t) where
    pub waiting_kept : (n : ℕ) (lent counts : List ℕ) (less : Packets) → n ≡ length homes → lent ≡ homes → counts ≡ one_less lent (t % pipes) → less ≡ with_packet pool t None
        → KeepsLines pipes window less lines (take n (counts ++ drop (length counts) homes))
    waiting_kept =
        let there : IsSome (packet_of pool t) = subst (λ q. IsSome (lined_packet q t)) (sym e) some in
        let out : StandsNowhere (seen pipes window pool lines) t = subst (λ q. StandsNowhere q t) (sym e) nowhere in
        gone_kept t lines there (waiting_lawful (seen pipes window pool lines) t k.laws there out) refl

  -- a packet comes
  module _ (packet : Packet) (line : Option ℕ) (lt : packet.t < length p.packets) (absent : lined_packet p packet.t ≡ None) (few : home_count p (packet.t % p.pipes) < p.window) (there : IfSome line (λ l. l < p.pipes)) where
    known : packet.t < length pool.packets
    known = subst (λ q. packet.t < length q.packets) (sym e) lt

    away : packet_of pool packet.t ≡ None
    away = subst (λ q. lined_packet q packet.t ≡ None) (sym e) absent

    rare : home_count (seen pipes window pool lines) (packet.t % pipes) < window
    rare = subst (λ q. home_count q (packet.t % q.pipes) < q.window) (sym e) few

    among : IfSome line (λ l. l < pipes)
    among = subst (λ q. IfSome line (λ l. l < q.pipes)) (sym e) there

    lawful : AreLined (with_lined (seen pipes window pool lines) packet line)
    lawful = lined_lawful (seen pipes window pool lines) packet line k.laws known away rare among

    -- the packets are fewer than the window of each home gives room for
    fewer : how_many pool < pipes * window
    fewer =
        let all = few_in_all pipes window (slice_set pool.packets packet.t (Some packet)) lawful.few k.laws.some in
        let more : how_many (with_packet pool packet.t (Some packet)) + tick (is_some (packet_of pool packet.t)) ≡ how_many pool + 1 = count_set is_some pool.packets packet.t (Some packet) None known in
        let none : tick (is_some (packet_of pool packet.t)) ≡ tick false = ap (λ o. tick (is_some o)) away in
        omega arith

    pub pool_open : how_many pool < pool.room
    pool_open = let room = k.pool_room in let less = fewer in omega arith

    short : (l : ℕ) → length (waits_for lines l) ≤ how_many pool
    short l = line_short (waits_for lines l) pool.packets
        (λ i lt. (let some = k.laws.here l i (slice_index (waits_for lines l) i) (record { within = lt; number = refl }) in (some_within pool.packets (slice_index (waits_for lines l) i) some, some)))
        (λ i j lt less same. (k.laws.once l i l j (slice_index (waits_for lines l) j) (record { within = lt; number = same }) (record { within = less; number = refl })).one_place)

    pub line_open : IfSome line (λ l. length (waits_for lines l) < lines.room)
    line_open = by line
      where
        by : (o : Option ℕ) → IfSome o (λ l. length (waits_for lines l) < lines.room)
        by None = _
        by (Some l) =
            let room = k.line_room in
            let less = fewer in
            let few = short l in
            omega arith

    came_counted : (home : ℕ) → home < pipes → slice_index (one_more homes (packet.t % pipes)) home ≡ home_count (with_lined (seen pipes window pool lines) packet None) home
    came_counted home less = by (packet.t % pipes == home) refl
      where
        by : (b : Bool) → (packet.t % pipes == home) ≡ b → slice_index (one_more homes (packet.t % pipes)) home ≡ home_count (with_lined (seen pipes window pool lines) packet None) home
        by true f =
            let same : packet.t % pipes ≡ home = grind arith in
            let more = home_more (seen pipes window pool lines) packet lines.lines k.laws known away home in
            let one : tick (packet.t % pipes == home) ≡ tick true = ap tick f in
            let count = k.counted home less in
            let at = changed home packet.t (slice_index homes (packet.t % pipes) + 1) in
            let here : cond (packet.t % pipes == home) (slice_index homes (packet.t % pipes) + 1) (slice_index homes home) ≡ slice_index homes (packet.t % pipes) + 1 = ap (λ b. cond b (slice_index homes (packet.t % pipes) + 1) (slice_index homes home)) f in
            let old : slice_index homes (packet.t % pipes) ≡ slice_index homes home = ap (slice_index homes) same in
            omega arith
        by false f =
            let more = home_more (seen pipes window pool lines) packet lines.lines k.laws known away home in
            let one : tick (packet.t % pipes == home) ≡ tick false = ap tick f in
            let count = k.counted home less in
            let at = changed home packet.t (slice_index homes (packet.t % pipes) + 1) in
            let here : cond (packet.t % pipes == home) (slice_index homes (packet.t % pipes) + 1) (slice_index homes home) ≡ slice_index homes home = ap (λ b. cond b (slice_index homes (packet.t % pipes) + 1) (slice_index homes home)) f in
            omega arith

    comes_kept : (o : Option ℕ) → AreLined (with_lined (seen pipes window pool lines) packet o) → KeepsLines pipes window (with_packet pool packet.t (Some packet)) (stood lines packet.t o) (one_more homes (packet.t % pipes))
    comes_kept None laws = record {
      laws = laws;
      each = length-set homes (packet.t % pipes) (slice_index homes (packet.t % pipes) + 1) ∙ k.each;
      counted = came_counted;
      pool_room = k.pool_room;
      line_room = k.line_room;
    }
    comes_kept (Some l) laws = record {
      laws = laws;
      each = length-set homes (packet.t % pipes) (slice_index homes (packet.t % pipes) + 1) ∙ k.each;
      counted = came_counted;
      pool_room = k.pool_room;
      line_room = k.line_room;
    }

    pub put_kept : (n : ℕ) (lent counts : List ℕ) (more : Packets) (waits : Waiting ℕ) → n ≡ length homes → lent ≡ homes → counts ≡ one_more lent (packet.t % pipes) → more ≡ with_packet pool packet.t (Some packet)
        → waits ≡ stood lines packet.t line → KeepsLines pipes window more waits (take n (counts ++ drop (length counts) homes))
    put_kept n lent counts more waits long same written came behind =
        let is : counts ≡ one_more homes (packet.t % pipes) = written ∙ ap (λ h. one_more h (packet.t % pipes)) same in
        let size : length counts ≡ n = ap length is ∙ length-set homes (packet.t % pipes) (slice_index homes (packet.t % pipes) + 1) ∙ sym long in
        rw (refilled n counts homes size, is, came, behind) (comes_kept line lawful)
