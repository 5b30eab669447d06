-- A text is read to one program, or refused for one thing.
use Rattle.std.proofs.Common.{◌≡◌, ◌≢◌, ◌⊎◌, inl, inr, ◌≤◌, ◌<◌, ℕ, zero, suc, ◌+◌, nat_le, ◌^◌, ◌&&◌, Bool, true, false, List, [], ◌∷◌, ◌++◌, length, take, drop, Result, Ok, Err, IfOk, IfErr, refl, sym, ap, subst, ◌∙◌, append_assoc, length-append, arith}
use Rattle.std.proofs.lemmas.Bool.{leb-true, leb-false, and_parts, and_from, cases_lt, cases_order}
use Rattle.std.proofs.lemmas.List.{take-take, take-append-drop, length-take}
use Rattle.std.specs.List.{fold}
use Rattle.domino_tree.specs.declared.token.Token.{Token}
use Rattle.domino_tree.specs.declared.program.Program.{Program}
use Rattle.domino_tree.specs.Derives.{Parts, Derives, Begins}
use Rattle.domino_tree.specs.Grammar.{packet_tokens, function_tokens}
use Rattle.domino_tree.specs.Text.{canonical_tokens, text_of}
use Rattle.domino_tree.specs.Count.{count_of}
use Rattle.domino_tree.specs.Weight.{after_token, load, stays_light, is_light, weight}
use Rattle.domino_tree.proofs.Canonical.{canonical}
use Rattle.domino_tree.proofs.CountLemmas.{count_within}
use Rattle.domino_syntax.specs.declared.fault.TextFault.{TextFault}
use Rattle.domino_syntax.specs.declared.fault.TextFault.TheVariants as fault
use Rattle.domino_syntax.specs.Pieces.{ArePieces, IsBadAt}
use Rattle.domino_syntax.specs.Weighing.{IsHeavyAt}
use Rattle.domino_syntax.specs.Stuck.{IsStuckAt, Sticks}
use Rattle.domino_syntax.specs.ProgramText.{HasTokens, IsProgramText, Refuses, IsReadAs, IsRefusedFor}
use Rattle.domino_syntax.proofs.Deciding as deciding
use Rattle.domino_syntax.proofs.PieceLemmas as pieces
use Rattle.domino_syntax.proofs.PrintedText.{printed_pieces}

-- ---- tokens

-- a text has one list of tokens
one_list : (text : List ℕ) (ts us : List Token) → HasTokens text ts → HasTokens text us → ts ≡ us
one_list text ts us a b = pieces.one_list text ts us a.pieces b.pieces

-- ---- weights

-- after each of light tokens the weight is at most 64
light_front : (ns : List ℕ) (ts : List Token) (k : ℕ) → k < length ts → stays_light ns ts ≡ true → load (fold after_token ns (take (suc k) ts)) ≤ 64
light_front ns [] k within light = absurd (omega (arith, within))
light_front ns (t ∷ ts) zero within light = leb-true (load (after_token ns t)) 64 (and_parts (nat_le (load (after_token ns t)) 64) (stays_light (after_token ns t) ts) light).0
light_front ns (t ∷ ts) (suc k) within light =
    light_front (after_token ns t) ts k (omega (arith, within)) (and_parts (nat_le (load (after_token ns t)) 64) (stays_light (after_token ns t) ts) light).1

-- light tokens aren't heavy anywhere
light_or_heavy : (ts : List Token) (n : ℕ) → is_light ts ≡ true → IsHeavyAt ts n → ⊥
light_or_heavy ts n light h =
    let next : n + 1 ≡ suc n = omega arith in
    omega (arith, h.heavy, ap (λ k. weight (take k ts)) next, light_front [] ts n h.within light)

heavy_later : (ts : List Token) (n m : ℕ) → n < m → IsHeavyAt ts n → IsHeavyAt ts m → ⊥
heavy_later ts n m below a b =
    let next : n + 1 ≡ suc n = omega arith in
    let long : n < length (take m ts) = omega (arith, length-take m ts, below, a.within) in
    let front : take (suc n) (take m ts) ≡ take (suc n) ts = take-take (suc n) m ts (omega (arith, below)) in
    omega (arith, a.heavy, ap (λ k. weight (take k ts)) next, ap weight front, light_front [] (take m ts) n long b.light)

one_heavy : (ts : List Token) (n m : ℕ) → IsHeavyAt ts n → IsHeavyAt ts m → n ≡ m
one_heavy ts n m a b = at (cases_order n m)
  where
    at : (n ≡ m) ⊎ ((n < m) ⊎ (m < n)) → n ≡ m
    at (inl e) = e
    at (inr (inl h)) = absurd (heavy_later ts n m h a b)
    at (inr (inr h)) = absurd (heavy_later ts m n h b a)

-- ---- places

-- what derived tokens begin with begins derived tokens
front_begins : (ts : List Token) (n m : ℕ) → n ≤ m → Begins (take m ts) → Begins (take n ts)
front_begins ts n m below b =
    let front : List Token = take m ts in
    let parts : take n ts ++ (drop n front ++ b.more) ≡ front ++ b.more =
    ap (λ xs. xs ++ (drop n front ++ b.more)) (sym (take-take n m ts below)) ∙ sym (append_assoc (take n front) (drop n front) b.more) ∙ ap (λ xs. xs ++ b.more) (take-append-drop n front) in
    record {
      more = drop n front ++ b.more;
      before = b.before;
      packet = b.packet;
      after = b.after;
      function = b.function;
      derived = subst (λ xs. Parts xs b.before b.packet b.after b.function) (sym parts) b.derived;
    }

stuck_later : (ts : List Token) (n m : ℕ) → n < m → IsStuckAt ts n → IsStuckAt ts m → ⊥
stuck_later ts n m below a b = a.stuck (omega (arith, below, b.within)) (front_begins ts (n + 1) m (omega (arith, below)) b.begins)

one_stuck : (ts : List Token) (n m : ℕ) → IsStuckAt ts n → IsStuckAt ts m → n ≡ m
one_stuck ts n m a b = at (cases_order n m)
  where
    at : (n ≡ m) ⊎ ((n < m) ⊎ (m < n)) → n ≡ m
    at (inl e) = e
    at (inr (inl h)) = absurd (stuck_later ts n m h a b)
    at (inr (inr h)) = absurd (stuck_later ts m n h b a)

-- derived tokens are stuck nowhere
derived_and_stuck : (ts : List Token) (n : ℕ) (p : Program) → Derives ts p → IsStuckAt ts n → ⊥
derived_and_stuck ts n p d s = at (cases_order n (length ts))
  where
    begins : Begins (take (n + 1) ts)
    begins = record {
      more = drop (n + 1) ts;
      before = p.before;
      packet = p.packet;
      after = p.after;
      function = p.function;
      derived = subst (λ xs. Parts xs p.before p.packet p.after p.function) (sym (take-append-drop (n + 1) ts)) d;
    }

    at : (n ≡ length ts) ⊎ ((n < length ts) ⊎ (length ts < n)) → ⊥
    at (inl e) = s.unfinished e p.before p.packet p.after p.function d
    at (inr (inl h)) = s.stuck h begins
    at (inr (inr h)) = omega (arith, h, s.within)

-- ---- answers

-- a program's text is refused for nothing
pub read_or_refused : (text : List ℕ) (p : Program) (f : TextFault) → IsProgramText text p → Refuses text f → ⊥
read_or_refused text p (fault.TooLong n) r h = omega (arith, r.cuts.short, h.0, h.1)
read_or_refused text p (fault.BadToken at) r h = pieces.pieces_or_bad text r.tokens at r.cuts.pieces h.1
read_or_refused text p (fault.TooDeep n) r h = light_or_heavy h.tokens n (ap is_light (one_list text h.tokens r.tokens h.cuts r.cuts) ∙ r.light) h.heavy
read_or_refused text p (fault.Syntax n) r h = derived_and_stuck h.tokens n p (subst (λ ts. Derives ts p) (one_list text r.tokens h.tokens r.cuts h.cuts) r.derived) h.stuck
read_or_refused text p fault.NoMemory r h = absurd h

short_of : (text : List ℕ) (n : ℕ) → 65536 < n → n ≡ length text → length text ≤ 65536 → ⊥
short_of text n long e short = omega (arith, long, e, short)

-- cut into tokens or not
cut_or_bad : (text : List ℕ) (ts : List Token) (at : ℕ) → HasTokens text ts → IsBadAt text at → ⊥
cut_or_bad text ts at h b = pieces.pieces_or_bad text ts at h.pieces b

-- a text is refused for one thing
pub one_refusal : (text : List ℕ) (a b : TextFault) → Refuses text a → Refuses text b → a ≡ b
one_refusal text (fault.TooLong n) (fault.TooLong m) h k = ap fault.TooLong (h.0 ∙ sym k.0)
one_refusal text (fault.TooLong n) (fault.BadToken at) h k = absurd (short_of text n h.1 h.0 k.0)
one_refusal text (fault.TooLong n) (fault.TooDeep m) h k = absurd (short_of text n h.1 h.0 k.cuts.short)
one_refusal text (fault.TooLong n) (fault.Syntax m) h k = absurd (short_of text n h.1 h.0 k.cuts.short)
one_refusal text (fault.BadToken at) (fault.TooLong m) h k = absurd (short_of text m k.1 k.0 h.0)
one_refusal text (fault.BadToken at) (fault.BadToken place) h k = ap fault.BadToken (pieces.one_bad text at place h.1 k.1)
one_refusal text (fault.BadToken at) (fault.TooDeep m) h k = absurd (cut_or_bad text k.tokens at k.cuts h.1)
one_refusal text (fault.BadToken at) (fault.Syntax m) h k = absurd (cut_or_bad text k.tokens at k.cuts h.1)
one_refusal text (fault.TooDeep n) (fault.TooLong m) h k = absurd (short_of text m k.1 k.0 h.cuts.short)
one_refusal text (fault.TooDeep n) (fault.BadToken at) h k = absurd (cut_or_bad text h.tokens at h.cuts k.1)
one_refusal text (fault.TooDeep n) (fault.TooDeep m) h k = ap fault.TooDeep (one_heavy k.tokens n m (subst (λ ts. IsHeavyAt ts n) (one_list text h.tokens k.tokens h.cuts k.cuts) h.heavy) k.heavy)
one_refusal text (fault.TooDeep n) (fault.Syntax m) h k = absurd (light_or_heavy h.tokens n (ap is_light (one_list text h.tokens k.tokens h.cuts k.cuts) ∙ k.light) h.heavy)
one_refusal text (fault.Syntax n) (fault.TooLong m) h k = absurd (short_of text m k.1 k.0 h.cuts.short)
one_refusal text (fault.Syntax n) (fault.BadToken at) h k = absurd (cut_or_bad text h.tokens at h.cuts k.1)
one_refusal text (fault.Syntax n) (fault.TooDeep m) h k = absurd (light_or_heavy k.tokens m (ap is_light (one_list text k.tokens h.tokens k.cuts h.cuts) ∙ h.light) k.heavy)
one_refusal text (fault.Syntax n) (fault.Syntax m) h k = ap fault.Syntax (one_stuck k.tokens n m (subst (λ ts. IsStuckAt ts n) (one_list text h.tokens k.tokens h.cuts k.cuts) h.stuck) k.stuck)
one_refusal text fault.NoMemory b h k = absurd h
one_refusal text a fault.NoMemory h k = absurd k

-- ---- what follows from a true answer

-- the answer is a program of the text, or what the text is refused for, or memory ran out
abbrev IsTrueOf : List ℕ → Result Program TextFault → Type 0
IsTrueOf text result = IfOk result (λ p. IsProgramText text p) × IfErr result (λ f. f ≢ fault.NoMemory → Refuses text f)

only_memory : (text : List ℕ) (e : TextFault) (p : Program) → (e ≢ fault.NoMemory → Refuses text e) → IsProgramText text p → e ≡ fault.NoMemory
only_memory text (fault.TooLong n) p refused h = absurd (read_or_refused text p (fault.TooLong n) h (refused (λ no. cc)))
only_memory text (fault.BadToken at) p refused h = absurd (read_or_refused text p (fault.BadToken at) h (refused (λ no. cc)))
only_memory text (fault.TooDeep n) p refused h = absurd (read_or_refused text p (fault.TooDeep n) h (refused (λ no. cc)))
only_memory text (fault.Syntax n) p refused h = absurd (read_or_refused text p (fault.Syntax n) h (refused (λ no. cc)))
only_memory text fault.NoMemory p refused h = refl

pub accepts : (text : List ℕ) (result : Result Program TextFault) → IsTrueOf text result → (p : Program) → IsProgramText text p → IsReadAs result p
accepts text (Ok q) true_of p h = deciding.one_program h.tokens q p (subst (λ ts. Derives ts q) (one_list text true_of.0.tokens h.tokens true_of.0.cuts h.cuts) true_of.0.derived) h.derived
accepts text (Err e) true_of p h = only_memory text e p true_of.1 h

pub refuses : (text : List ℕ) (result : Result Program TextFault) → IsTrueOf text result → (f : TextFault) → Refuses text f → IsRefusedFor result f
refuses text (Ok q) true_of f h = read_or_refused text q f true_of.0 h
refuses text (Err e) true_of f h = λ other. one_refusal text e f (true_of.1 other) h

-- the canonical text of a program is its text, where it isn't too long
pub prints : (text : List ℕ) (result : Result Program TextFault) → IsTrueOf text result → (p : Program) → text ≡ text_of p → length text ≤ 65536 → IsReadAs result p
prints text result true_of p e short = accepts text result true_of p (record {
  tokens = canonical_tokens p;
  cuts = record { short = short; pieces = subst (λ z. ArePieces z (canonical_tokens p)) (sym e) (printed_pieces p) };
  light = p.light;
  derived = canonical p;
})

-- ---- each text has an answer

-- from these counters on, so many tokens are light, and the next is too heavy
abbrev HeavyFrom : List ℕ → List Token → Type 0
HeavyFrom ns ts = (n : ℕ) × (n < length ts) × (stays_light ns (take n ts) ≡ true) × (64 < load (fold after_token ns (take (suc n) ts)))

light_or : (ns : List ℕ) (ts : List Token) → stays_light ns ts ≡ false → HeavyFrom ns ts
light_or ns [] e = absurd (let no = e in cc)
light_or ns (t ∷ ts) e = by_first (light_or (after_token ns t) ts) (nat_le (load (after_token ns t)) 64) refl
  where
    by_first : (stays_light (after_token ns t) ts ≡ false → HeavyFrom (after_token ns t) ts) → (b : Bool) → nat_le (load (after_token ns t)) 64 ≡ b → HeavyFrom ns (t ∷ ts)
    by_first later false heavy = (zero, omega arith, refl, leb-false (load (after_token ns t)) 64 heavy)
    by_first later true here =
        let h = later (ap (λ b. b && stays_light (after_token ns t) ts) (sym here) ∙ e) in
        (suc h.0, omega (arith, h.1), and_from (nat_le (load (after_token ns t)) 64) (stays_light (after_token ns t) (take h.0 ts)) here h.2, h.3)

heavy_somewhere : (ts : List Token) → is_light ts ≡ false → (n : ℕ) × IsHeavyAt ts n
heavy_somewhere ts e =
    let h = light_or [] ts e in
    let next : suc h.0 ≡ h.0 + 1 = omega arith in
    (h.0, record { within = h.1; light = h.2; heavy = subst (λ k. 64 < weight (take k ts)) next h.3 })

abbrev Answered : List ℕ → Type 0
Answered text = ((p : Program) × IsProgramText text p) ⊎ ((f : TextFault) × Refuses text f)

pub decides : (text : List ℕ) → Answered text
decides text = by_length (cases_lt 65536 (length text))
  where
    by_grammar : (ts : List Token) → HasTokens text ts → is_light ts ≡ true → ((p : Program) × Derives ts p) ⊎ ((n : ℕ) × IsStuckAt ts n) → Answered text
    by_grammar ts cuts light (inl d) = inl (d.0, record { tokens = ts; cuts = cuts; light = light; derived = d.1 })
    by_grammar ts cuts light (inr s) = inr (fault.Syntax s.0, record { tokens = ts; cuts = cuts; light = light; stuck = s.1 })

    by_weight : (ts : List Token) → HasTokens text ts → (b : Bool) → is_light ts ≡ b → Answered text
    by_weight ts cuts true light = by_grammar ts cuts light (deciding.derived_or_stuck ts (pieces.tokens_are_names text [] ts cuts.pieces) light (pieces.tokens_are_words text [] ts cuts.pieces))
    by_weight ts cuts false heavy = let h = heavy_somewhere ts heavy in inr (fault.TooDeep h.0, record { tokens = ts; cuts = cuts; heavy = h.1 })

    by_cut : length text ≤ 65536 → ((ts : List Token) × ArePieces text ts) ⊎ ((at : ℕ) × IsBadAt text at) → Answered text
    by_cut short (inl c) = let cuts : HasTokens text c.0 = record { short = short; pieces = c.1 } in by_weight c.0 cuts (is_light c.0) refl
    by_cut short (inr b) = inr (fault.BadToken b.0, (short, b.1))

    by_length : (65536 < length text) ⊎ (length text ≤ 65536) → Answered text
    by_length (inl long) = inr (fault.TooLong (length text), (refl, long))
    by_length (inr short) = by_cut short (pieces.cut_or_bad text)

-- a text is one program's
pub one_program : (text : List ℕ) (p q : Program) → IsProgramText text p → IsProgramText text q → p ≡ q
one_program text p q a b = deciding.one_program b.tokens p q (subst (λ ts. Derives ts p) (one_list text a.tokens b.tokens a.cuts b.cuts) a.derived) b.derived

-- ---- the answers of a text that isn't too long

pub has_tokens : (text : List ℕ) (ts us : List Token) → length text ≤ 65536 → ArePieces text us → ts ≡ us → HasTokens text ts
has_tokens text ts us short cuts same = record { short = short; pieces = subst (ArePieces text) (sym same) cuts }

-- a place in the tokens is a number of 32 bits
pub place_fits : (text : List ℕ) (ts : List Token) → HasTokens text ts → length ts ≤ 65536
place_fits text ts h = omega (arith, h.short, pieces.tokens_short text [] ts h.pieces)

-- a program's count fits 32 bits
pub count_fits : (text : List ℕ) (p : Program) → IsProgramText text p → count_of p < 2 ^ 32
count_fits text p h =
    let P : List Token = packet_tokens p.packet in
    let F : List Token = function_tokens p.function in
    omega (arith, count_within p, place_fits text h.tokens h.cuts, ap length h.derived.spells, length-append h.derived.front (P ++ (h.derived.middle ++ F)), length-append P (h.derived.middle ++ F), length-append h.derived.middle F)

pub counted : (text : List ℕ) (result : Result Program TextFault) → IfOk result (λ p. IsProgramText text p) → IfOk result (λ p. count_of p < 2 ^ 32)
counted text (Ok p) h = count_fits text p h
counted text (Err e) h = tt

pub read_text : (text : List ℕ) (ts : List Token) (result : Result Program TextFault) → HasTokens text ts → is_light ts ≡ true → IfOk result (λ p. Derives ts p) → IfOk result (λ p. IsProgramText text p)
read_text text ts (Ok p) cuts light derived = record { tokens = ts; cuts = cuts; light = light; derived = derived }
read_text text ts (Err e) cuts light derived = tt

stuck_text : (text : List ℕ) (ts : List Token) (e : TextFault) → HasTokens text ts → is_light ts ≡ true → Sticks ts e → e ≢ fault.NoMemory → Refuses text e
stuck_text text ts (fault.TooLong n) cuts light h other = absurd h
stuck_text text ts (fault.BadToken at) cuts light h other = absurd h
stuck_text text ts (fault.TooDeep n) cuts light h other = absurd h
stuck_text text ts (fault.Syntax n) cuts light h other = record { tokens = ts; cuts = cuts; light = light; stuck = h }
stuck_text text ts fault.NoMemory cuts light h other = absurd (other refl)

pub refused_text : (text : List ℕ) (ts : List Token) (result : Result Program TextFault) → HasTokens text ts → is_light ts ≡ true → IfErr result (Sticks ts) → IfErr result (λ f. f ≢ fault.NoMemory → Refuses text f)
refused_text text ts (Ok p) cuts light sticks = tt
refused_text text ts (Err e) cuts light sticks = stuck_text text ts e cuts light sticks
