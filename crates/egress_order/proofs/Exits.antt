-- What each call leaves is again an exit, and how packets are merged.
use Rattle.std.proofs.Common.{◌≡◌, ◌≢◌, ℕ, zero, suc, ◌+◌, ◌-◌, ◌*◌, ◌/◌, ◌%◌, ◌<◌, ◌≤◌, ◌==◌, Bool, true, false, cond, ◌&&◌, nat_lt, List, length, take, drop, ℤ, pos, slice_index_or, slice_set, replicate, refl, sym, ap, subst, ◌∙◌, arith, get_or-set_other, length-take, length-drop, eq-eqb, zero-add}
use Rattle.std.proofs.Math.ListN.{length-set}
use Rattle.std.proofs.Math.Nat.{mod-add-div', mul-le-mul_left, mul-le-mul_right, add-mul-mod_self_right, add-mul-div_right, mod-eq_of_lt, div-eq_of_lt}
use Rattle.std.proofs.lemmas.Bool.{ltb-true, ltb-false, lt-ltb, le-ltb, eqb-true}
use Rattle.std.proofs.lemmas.List.{length-replicate, get_or-take, get_or-drop}
use Rattle.std.proofs.lemmas.Grind.{common_steps}
use Rattle.egress_order.specs.OwnPackets.{OwnPackets, IsExit, IsAway, IsMerged, Counts, own_arrival, own_count, unentered, left_count, written, came_home, word_of}
use Rattle.egress_order.proofs.Leading.{leading_stop, leading_set, leading_none}
use Rattle.egress_order.proofs.Pieces.{length_written, row_written}

-- an arrival is the own one of its number
pub own_of : (t pipe pipelines : ℕ) → t % pipelines ≡ pipe → t ≡ pipe + t / pipelines * pipelines
own_of t pipe pipelines e = let whole = mod-add-div' t pipelines in omega arith

-- what is written of the own packets below a number
pub record MergedBelow (e : OwnPackets) (k : ℕ) (before after : List ℤ) : Type 0 where
  pub size : length after ≡ length before
  pub packets : (t field : ℕ) → t < e.arrivals → field < e.fields
      → slice_index_or after (t * e.fields + field) (pos 0) ≡ cond (t % e.pipelines == e.pipe && nat_lt (t / e.pipelines) k) (word_of e t field) (slice_index_or before (t * e.fields + field) (pos 0))

-- rows of so many words below a row
row_within : (k n fields : ℕ) → k < n → k * fields + fields ≤ n * fields
row_within k n fields lt = let rows : suc k * fields ≤ n * fields = mul-le-mul_right fields (omega arith) in omega arith

-- there are at most as many own arrivals as arrivals
pub few_home : (e : OwnPackets) → IsExit e → length e.home ≤ e.arrivals
few_home e h = by (length e.home) refl
  where
    by : (n : ℕ) → length e.home ≡ n → length e.home ≤ e.arrivals
    by zero long = omega arith
    by (suc n) long =
        let last = h.owns n (omega arith) in
        let some = h.pipe in
        let each : n * 1 ≤ n * e.pipelines = mul-le-mul_left n (omega arith) in
        omega arith

-- the piece of an own arrival fits into the words
pub row_fits : (e : OwnPackets) (k : ℕ) → IsExit e → k < length e.home → k * e.fields + e.fields ≤ length e.words
row_fits e k h lt = let words = h.words in let row = row_within k (length e.home) e.fields lt in omega arith

-- an own arrival with its fields that comes home
pub home_lawful : (e : OwnPackets) (t : ℕ) (fields : List ℤ) → IsExit e → IsAway e t → length fields ≡ e.fields → IsExit (came_home e t fields)
home_lawful e t fields h away long = record {
  pipe = h.pipe;
  pipelines = h.pipelines;
  arrivals = h.arrivals;
  limit = h.limit;
  few = h.few;
  owns = λ k lt. h.owns k (subst (λ n. k < n) kept lt);
  all = λ k lt. subst (λ n. k < n) (sym kept) (h.all k lt);
  words = length_written e.words (t / e.pipelines * e.fields) fields fits ∙ h.words ∙ ap (λ n. n * e.fields) (sym kept);
  entered = subst (λ n. e.entered ≤ n) (sym kept) h.entered;
  away = still;
  left = leading_stop (slice_set e.home (t / e.pipelines) true) e.entered (still e.entered (omega arith));
  window = let more = leading_set e.home (t / e.pipelines) in let open' = h.window in omega arith;
}
  where
    kept : length (slice_set e.home (t / e.pipelines) true) ≡ length e.home
    kept = length-set e.home (t / e.pipelines) true

    in' : t / e.pipelines < length e.home
    in' = let now = away.entered in let most = h.entered in omega arith

    fits : t / e.pipelines * e.fields + length fields ≤ length e.words
    fits = let row = row_fits e (t / e.pipelines) h in' in omega arith

    still : (k : ℕ) → e.entered ≤ k → slice_index_or (slice_set e.home (t / e.pipelines) true) k false ≡ false
    still k le =
        let now = away.entered in
        let other : k ≢ t / e.pipelines = omega arith in
        rw get_or-set_other (h.away k le)

-- its fields fit into the words
pub home_fits : (e now : OwnPackets) (left t : ℕ) (fields : List ℤ) → e ≡ now → Counts e left → IsAway now t → length fields ≡ now.fields → t / e.pipelines * e.fields + length fields ≤ length e.words
home_fits e now left t fields same h away long =
    let here : IsAway e t = subst (λ (r : OwnPackets). IsAway r t) (sym same) away in
    let wide : length fields ≡ e.fields = subst (λ (r : OwnPackets). length fields ≡ r.fields) (sym same) long in
    let most = h.laws.entered in
    let now = here.entered in
    let row = row_fits e (t / e.pipelines) h.laws (omega arith) in
    omega arith

-- the same, with the count of those that left
pub home_counts : (e now : OwnPackets) (left found t : ℕ) (fields : List ℤ) → e ≡ now → Counts e left → IsAway now t → length fields ≡ now.fields → found ≡ left_count (came_home e t fields) → Counts (came_home e t fields) found
home_counts e now left found t fields same h away long is = record {
  laws = home_lawful e t fields h.laws (subst (λ (r : OwnPackets). IsAway r t) (sym same) away) (subst (λ (r : OwnPackets). length fields ≡ r.fields) (sym same) long);
  count = is;
}

-- the next own arrival that enters
pub enter_lawful : (e : OwnPackets) → IsExit e → e.entered ≢ left_count e + e.window → own_arrival e e.entered < e.arrivals → IsExit record e { entered = e.entered + 1 }
enter_lawful e h ne early = record {
  pipe = h.pipe;
  pipelines = h.pipelines;
  arrivals = h.arrivals;
  limit = h.limit;
  few = h.few;
  owns = h.owns;
  all = h.all;
  words = h.words;
  entered = let in' = h.all e.entered early in omega arith;
  away = λ k le. h.away k (omega arith);
  left = let left = h.left in omega arith;
  window = let open' = h.window in omega arith;
}

-- the next own arrival is a small number
pub small_next : (e : OwnPackets) → IsExit e → e.entered * e.pipelines ≤ 4194304
small_next e h =
    let few = few_home e h in
    let most = h.entered in
    let limit = h.arrivals in
    let pipes = h.pipelines in
    let wide : e.entered * e.pipelines ≤ 262144 * e.pipelines = mul-le-mul_right e.pipelines (omega arith) in
    omega arith

module _ (pipe pipelines arrivals : ℕ) (own : pipe < pipelines) where
  private_whole : own_count pipe pipelines arrivals * pipelines + (arrivals + (pipelines - 1 - pipe)) % pipelines ≡ arrivals + (pipelines - 1 - pipe)
  private_whole = let whole = mod-add-div' (arrivals + (pipelines - 1 - pipe)) pipelines in omega arith

  own_below : (k : ℕ) → k < own_count pipe pipelines arrivals → pipe + k * pipelines < arrivals
  own_below k lt =
      let whole = private_whole in
      let rows = row_within k (own_count pipe pipelines arrivals) pipelines lt in
      omega arith

  below_own : (k : ℕ) → pipe + k * pipelines < arrivals → k < own_count pipe pipelines arrivals
  below_own k lt = by (nat_lt k (own_count pipe pipelines arrivals)) refl
    where
      by : (b : Bool) → nat_lt k (own_count pipe pipelines arrivals) ≡ b → k < own_count pipe pipelines arrivals
      by true e = ltb-true k (own_count pipe pipelines arrivals) e
      by false e =
          let past : own_count pipe pipelines arrivals ≤ k = ltb-false k (own_count pipe pipelines arrivals) e in
          let rows : own_count pipe pipelines arrivals * pipelines ≤ k * pipelines = mul-le-mul_right pipelines past in
          let whole = private_whole in
          let rest : (arrivals + (pipelines - 1 - pipe)) % pipelines < pipelines = omega arith in
          absurd (omega arith)

-- an exit before the first arrival enters
pub new_lawful : (pipe pipelines arrivals window fields : ℕ) → pipe < pipelines → pipelines ≤ 16 → arrivals ≤ 262144 → window ≤ 1024 → fields ≤ 32 → IsExit (unentered pipe pipelines arrivals window fields)
new_lawful pipe pipelines arrivals window fields own p a w f = record {
  pipe = own;
  pipelines = p;
  arrivals = a;
  limit = w;
  few = f;
  owns = λ k lt. own_below pipe pipelines arrivals own k (subst (λ n. k < n) long lt);
  all = λ k lt. subst (λ n. k < n) (sym long) (below_own pipe pipelines arrivals own k lt);
  words = length-replicate (own_count pipe pipelines arrivals * fields) (pos 0) ∙ ap (λ n. n * fields) (sym long);
  entered = omega arith;
  away = λ k le. grind (arith, common_steps);
  left = let none = leading_none (own_count pipe pipelines arrivals) in omega arith;
  window = omega arith;
}
  where
    long : length (replicate (own_count pipe pipelines arrivals) false) ≡ own_count pipe pipelines arrivals
    long = length-replicate (own_count pipe pipelines arrivals) false

-- nothing is written of the own packets below 0
pub merged_none : (e : OwnPackets) (words : List ℤ) → MergedBelow e 0 words words
merged_none e words = record { size = refl; packets = λ t field lt less. none t field (t % e.pipelines == e.pipe) }
  where
    none : (t field : ℕ) (b : Bool) → slice_index_or words (t * e.fields + field) (pos 0) ≡ cond (b && nat_lt (t / e.pipelines) 0) (word_of e t field) (slice_index_or words (t * e.fields + field) (pos 0))
    none t field true = rw (le-ltb (t / e.pipelines) 0 (omega arith)) refl
    none t field false = refl

-- the number of an own arrival
own_number : (pipe pipelines k : ℕ) → pipe < pipelines → (pipe + k * pipelines) / pipelines ≡ k
own_number pipe pipelines k lt = add-mul-div_right pipe k (omega arith) ∙ ap (λ n. n + k) (div-eq_of_lt lt) ∙ zero-add k

-- a number that is not k is below k where it is below k + 1
more_below : (n k : ℕ) → n ≢ k → nat_lt n k ≡ nat_lt n (k + 1)
more_below n k ne = by (nat_lt n k) refl
  where
    by : (b : Bool) → nat_lt n k ≡ b → nat_lt n k ≡ nat_lt n (k + 1)
    by true e = let lt : n < k = ltb-true n k e in e ∙ sym (lt-ltb n (k + 1) (omega arith))
    by false e = let le : k ≤ n = ltb-false n k e in e ∙ sym (le-ltb n (k + 1) (omega arith))

-- one more packet
pub merged_more : (e : OwnPackets) (k : ℕ) (before after packet : List ℤ) → IsExit e → k < length e.home → length before ≡ e.arrivals * e.fields
    → packet ≡ take e.fields (drop (k * e.fields) e.words) → MergedBelow e k before after → MergedBelow e (k + 1) before (written after (own_arrival e k * e.fields) packet)
merged_more e k before after packet h lt size is m = record {
  size = length_written after (u * e.fields) packet (let wide = long in let open' = room in omega arith) ∙ m.size;
  packets = λ t field early less. row_written after u packet e.fields t field long room less ∙ same t field early less (t == u) refl;
}
  where
    u : ℕ
    u = own_arrival e k

    long : length packet ≡ e.fields
    long = ap length is ∙ (let fits = row_fits e k h lt in simp (length-take, length-drop) (omega arith))

    room : u * e.fields + e.fields ≤ length after
    room = let row = row_within u e.arrivals e.fields (h.owns k lt) in let kept = m.size in omega arith

    number : u / e.pipelines ≡ k
    number = own_number e.pipe e.pipelines k h.pipe

    own : u % e.pipelines ≡ e.pipe
    own = add-mul-mod_self_right e.pipe k e.pipelines ∙ mod-eq_of_lt h.pipe

    read : (field : ℕ) → field < e.fields → slice_index_or packet field (pos 0) ≡ slice_index_or e.words (k * e.fields + field) (pos 0)
    read field less = ap (λ (xs : List ℤ). slice_index_or xs field (pos 0)) is ∙ get_or-take e.fields (drop (k * e.fields) e.words) field (pos 0) less ∙ get_or-drop (k * e.fields) e.words field (pos 0)

    old : ℕ → ℕ → ℤ
    old t field = slice_index_or before (t * e.fields + field) (pos 0)

    same : (t field : ℕ) → t < e.arrivals → field < e.fields → (b : Bool) → (t == u) ≡ b
        → cond b (slice_index_or packet field (pos 0)) (slice_index_or after (t * e.fields + field) (pos 0)) ≡ cond (t % e.pipelines == e.pipe && nat_lt (t / e.pipelines) (k + 1)) (word_of e t field) (old t field)
    same t field early less true f =
        let at : t ≡ u = grind arith in
        let mine : (t % e.pipelines == e.pipe) ≡ true = eq-eqb (t % e.pipelines) e.pipe (ap (λ n. n % e.pipelines) at ∙ own) in
        let here : t / e.pipelines ≡ k = ap (λ n. n / e.pipelines) at ∙ number in
        rw (mine, lt-ltb (t / e.pipelines) (k + 1) (omega arith)) (read field less ∙ ap (λ n. slice_index_or e.words (n * e.fields + field) (pos 0)) (sym here))
    same t field early less false f =
        let other : t ≢ u = grind arith in
        m.packets t field early less ∙ ap (λ b. cond b (word_of e t field) (old t field)) (agree (t % e.pipelines == e.pipe) refl other)
      where
        agree : (b : Bool) → (t % e.pipelines == e.pipe) ≡ b → t ≢ u → (b && nat_lt (t / e.pipelines) k) ≡ (b && nat_lt (t / e.pipelines) (k + 1))
        agree false g ne = refl
        agree true g ne =
            let mine : t % e.pipelines ≡ e.pipe = eqb-true (t % e.pipelines) e.pipe g in
            let at = own_of t e.pipe e.pipelines mine in
            let off : t / e.pipelines ≢ k = λ here. ne (at ∙ ap (λ n. e.pipe + n * e.pipelines) here) in
            more_below (t / e.pipelines) k off

-- all of them
pub merged_all : (e : OwnPackets) (before after : List ℤ) → IsExit e → MergedBelow e (length e.home) before after → IsMerged e before after
merged_all e before after h m = record { size = m.size; packets = λ t field lt less. m.packets t field lt less ∙ all t field lt (t % e.pipelines == e.pipe) refl }
  where
    all : (t field : ℕ) → t < e.arrivals → (b : Bool) → (t % e.pipelines == e.pipe) ≡ b
        → cond (b && nat_lt (t / e.pipelines) (length e.home)) (word_of e t field) (slice_index_or before (t * e.fields + field) (pos 0)) ≡ cond b (word_of e t field) (slice_index_or before (t * e.fields + field) (pos 0))
    all t field lt true f =
        let own : t % e.pipelines ≡ e.pipe = grind arith in
        let at = own_of t e.pipe e.pipelines own in
        rw (lt-ltb (t / e.pipelines) (length e.home) (h.all (t / e.pipelines) (omega arith))) refl
    all t field lt false f = refl

-- one more packet, of the exit as it is written
pub merged_step : (e now : OwnPackets) (k : ℕ) (before after packet new : List ℤ) → e ≡ now → IsExit e → k < length e.home → length before ≡ now.arrivals * now.fields
    → packet ≡ take e.fields (drop (k * e.fields) e.words) → MergedBelow now k before after → new ≡ written after (own_arrival e k * e.fields) packet → MergedBelow now (k + 1) before new
merged_step e now k before after packet new same h lt size is m step =
    let here : MergedBelow e k before after = subst (λ (r : OwnPackets). MergedBelow r k before after) (sym same) m in
    let long : length before ≡ e.arrivals * e.fields = subst (λ (r : OwnPackets). length before ≡ r.arrivals * r.fields) (sym same) size in
    let more = merged_more e k before after packet h lt long is here in
    subst (λ (r : OwnPackets). MergedBelow r (k + 1) before new) same (subst (λ (xs : List ℤ). MergedBelow e (k + 1) before xs) (sym step) more)

-- and all packets
pub merged_end : (e now : OwnPackets) (k : ℕ) (before after : List ℤ) → e ≡ now → IsExit e → k ≡ length e.home → MergedBelow now k before after → IsMerged now before after
merged_end e now k before after same h is m =
    let here : MergedBelow e k before after = subst (λ (r : OwnPackets). MergedBelow r k before after) (sym same) m in
    subst (λ (r : OwnPackets). IsMerged r before after) same (merged_all e before after h (subst (λ n. MergedBelow e n before after) is here))
