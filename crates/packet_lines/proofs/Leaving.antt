-- A packet that leaves, and the lines behind it.
use Rattle.std.proofs.Common.{◌≡◌, ◌≢◌, ℕ, suc, ◌+◌, ◌%◌, ◌<◌, ◌≤◌, ◌==◌, Bool, true, false, nat_lt, List, [], ◌++◌, take, drop, length, length-drop, eq-eqb, slice_index, slice_index_or, slice_set, refl, ap, ◌∙◌, sym, subst, arith, Option, Some, None, is_some, IsSome, IfSome, cond}
use Rattle.std.proofs.lemmas.Bool.{ltb-true, ltb-false}
use Rattle.std.proofs.lemmas.List.{get_or-set_same, get_or-set_other, get_or_past, get_or-drop, length-set, take-append-le, take_all}
use Rattle.pipe_parts.specs.declared.packet.Packet.{Packet}
use Rattle.packet_lines.specs.Lined.{Lined, lined_packet, line_of, first_of, is_of_home, home_count, gone_from, StandsAt, AreLined}
use Rattle.packet_lines.proofs.Counts.{tick, count_set}

-- counts that were lent are as they were written
pub refilled : (n : ℕ) (now old : List ℕ) → length now ≡ n → take n (now ++ drop (length now) old) ≡ now
refilled n now old long = let le : n ≤ length now = omega arith in rw take-append-le (take_all n now (omega arith))

-- a packet that is here is of one of the arrivals
pub some_within : (packets : List (Option Packet)) (t : ℕ) → IsSome (slice_index_or packets t None) → t < length packets
some_within packets t some = by (nat_lt t (length packets)) refl
  where
    by : (b : Bool) → nat_lt t (length packets) ≡ b → t < length packets
    by true e = ltb-true t (length packets) e
    by false e =
        let none : slice_index_or packets t None ≡ None = get_or_past packets t None (ltb-false t (length packets) e) in
        let no : is_some (slice_index_or packets t None) ≡ false = ap is_some none in
        absurd cc

-- the home of a packet that is here
pub home_here : (p : Lined) → AreLined p → (home t : ℕ) → IsSome (lined_packet p t) → is_of_home p.pipes home (lined_packet p t) ≡ (t % p.pipes == home)
home_here p laws home t some = by (lined_packet p t) (laws.own t) some
  where
    by : (o : Option Packet) → IfSome o (λ packet. packet.t ≡ t) → IsSome o → is_of_home p.pipes home o ≡ (t % p.pipes == home)
    by None own is = absurd cc
    by (Some packet) own is = ap (λ u. u % p.pipes == home) own

module _ (p : Lined) (t : ℕ) (ls : List (List ℕ)) (laws : AreLined p) (some : IsSome (lined_packet p t)) where
  -- one less is here of its home, and of the others as many as before
  pub home_less : (home : ℕ) → home_count (gone_from p t ls) home + cond (t % p.pipes == home) 1 0 ≡ home_count p home
  home_less home =
      let less : home_count (gone_from p t ls) home + cond (is_of_home p.pipes home (lined_packet p t)) 1 0 ≡ home_count p home + cond false 1 0 = count_set (is_of_home p.pipes home) p.packets t None None (some_within p.packets t some) in
      let one : tick (is_of_home p.pipes home (lined_packet p t)) ≡ tick (t % p.pipes == home) = ap tick (home_here p laws home t some) in
      omega arith

  own_stays : (u : ℕ) → IfSome (lined_packet (gone_from p t ls) u) (λ packet. packet.t ≡ u)
  own_stays u = by (u == t) refl
    where
      by : (b : Bool) → (u == t) ≡ b → IfSome (lined_packet (gone_from p t ls) u) (λ packet. packet.t ≡ u)
      by true e =
          let same : u ≡ t = grind arith in
          let none : lined_packet (gone_from p t ls) u ≡ None = ap (λ v. slice_index_or (slice_set p.packets t None) v None) same ∙ get_or-set_same p.packets t None None (some_within p.packets t some) in
          subst (λ o. IfSome o (λ packet. packet.t ≡ u)) (sym none) _
      by false e =
          let other : u ≢ t = grind arith in
          subst (λ o. IfSome o (λ packet. packet.t ≡ u)) (sym (get_or-set_other p.packets t u None None other)) (laws.own u)

  -- where each place in the lines now was one before, and none of them is the packet's, the laws hold
  pub leaves_lawful : (was : ℕ → ℕ → ℕ) → ((line before u : ℕ) → StandsAt (gone_from p t ls) line before u → StandsAt p line (was line before) u)
      → ((line before u : ℕ) → StandsAt (gone_from p t ls) line before u → u ≢ t)
      → ((line i j : ℕ) → was line i ≡ was line j → i ≡ j) → length ls ≡ length p.lines → AreLined (gone_from p t ls)
  leaves_lawful was from apart one long = record {
    some = laws.some;
    pipes = laws.pipes;
    limit = laws.limit;
    lines = long ∙ laws.lines;
    own = own_stays;
    here = λ line before u s. subst IsSome (sym (get_or-set_other p.packets t u None None (apart line before u s))) (laws.here line (was line before) u (from line before u s));
    once = λ line before other behind u s r. (let same = laws.once line (was line before) other (was other behind) u (from line before u s) (from other behind u r) in record {
      one_line = same.one_line;
      one_place = one line before behind (same.one_place ∙ ap (λ l. was l behind) (sym same.one_line));
    });
    few = λ home lt. (let less = home_less home in let few = laws.few home lt in omega arith);
  }

-- the first of a line leaves
module _ (p : Lined) (line : ℕ) (laws : AreLined p) (some : 0 < length (line_of p line)) where
  ls : List (List ℕ)
  ls = slice_set p.lines line (drop 1 (line_of p line))

  -- the place that a place was before
  was : ℕ → ℕ → ℕ
  was other i = cond (other == line) (suc i) i

  pub line_within : line < length p.lines
  line_within = by (nat_lt line (length p.lines)) refl
    where
      by : (b : Bool) → nat_lt line (length p.lines) ≡ b → line < length p.lines
      by true e = ltb-true line (length p.lines) e
      by false e =
          let none : line_of p line ≡ [] = get_or_past p.lines line [] (ltb-false line (length p.lines) e) in
          let no : length (line_of p line) ≡ 0 = ap length none in
          absurd (omega arith)

  first_stands : StandsAt p line 0 (first_of p line)
  first_stands = record { within = some; number = refl }

  pub first_here : IsSome (lined_packet p (first_of p line))
  first_here = laws.here line 0 (first_of p line) first_stands

  shifted : (i u : ℕ) → i < length (drop 1 (line_of p line)) → slice_index (drop 1 (line_of p line)) i ≡ u → StandsAt p line (suc i) u
  shifted i u lt at =
      let fewer = length-drop 1 (line_of p line) in
      let next : 1 + i ≡ suc i = omega arith in
      record { within = omega arith; number = ap (slice_index (line_of p line)) (sym next) ∙ sym (get_or-drop 1 (line_of p line) i 0) ∙ at }

  from : (other i u : ℕ) → StandsAt (gone_from p (first_of p line) ls) other i u → StandsAt p other (was other i) u
  unfolding ls was
  from other i u s = by (other == line) refl
    where
      by : (b : Bool) → (other == line) ≡ b → StandsAt p other (cond b (suc i) i) u
      by true e =
          let same : other ≡ line = grind arith in
          let now : line_of (gone_from p (first_of p line) ls) other ≡ drop 1 (line_of p line) = ap (λ l. slice_index_or ls l []) same ∙ get_or-set_same p.lines line (drop 1 (line_of p line)) [] line_within in
          subst (λ l. StandsAt p l (suc i) u) (sym same) (shifted i u (subst (λ xs. i < length xs) now s.within) (ap (λ xs. slice_index xs i) (sym now) ∙ s.number))
      by false e =
          let apart : other ≢ line = grind arith in
          let now : line_of (gone_from p (first_of p line) ls) other ≡ line_of p other = get_or-set_other p.lines line other (drop 1 (line_of p line)) [] apart in
          record { within = subst (λ xs. i < length xs) now s.within; number = ap (λ xs. slice_index xs i) (sym now) ∙ s.number }

  apart_first : (other i u : ℕ) → StandsAt (gone_from p (first_of p line) ls) other i u → u ≢ first_of p line
  unfolding was
  apart_first other i u s same =
      let one = laws.once line 0 other (was other i) (first_of p line) first_stands (subst (StandsAt p other (was other i)) same (from other i u s)) in
      let here : other == line ≡ true = eq-eqb other line (sym one.one_line) in
      let next : was other i ≡ suc i = ap (λ b. cond b (suc i) i) here in
      let none = one.one_place in
      absurd (omega arith)

  was_one : (other i j : ℕ) → was other i ≡ was other j → i ≡ j
  unfolding was
  was_one other i j = by (other == line)
    where
      by : (b : Bool) → cond b (suc i) i ≡ cond b (suc j) j → i ≡ j
      by true e = omega arith
      by false e = e

  pub first_lawful : AreLined (gone_from p (first_of p line) (slice_set p.lines line (drop 1 (line_of p line))))
  unfolding ls
  first_lawful = leaves_lawful p (first_of p line) ls laws first_here was from apart_first was_one (length-set p.lines line (drop 1 (line_of p line)))

-- one that stands nowhere leaves
pub waiting_lawful : (p : Lined) (t : ℕ) → AreLined p → IsSome (lined_packet p t) → ((line before : ℕ) → StandsAt p line before t → ⊥) → AreLined (gone_from p t p.lines)
waiting_lawful p t laws some nowhere = leaves_lawful p t p.lines laws some (λ line i. i) (λ line i u s. record { within = s.within; number = s.number })
    (λ line i u s same. nowhere line i (subst (StandsAt p line i) same (record { within = s.within; number = s.number })))
    (λ line i j e. e) refl
