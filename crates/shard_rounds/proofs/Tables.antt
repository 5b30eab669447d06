-- What the table keeps when it starts and when a plan is applied, and what is read of it.
use Rattle.std.proofs.Common.{◌≡◌, ℕ, zero, suc, ◌+◌, ◌-◌, ◌*◌, ◌<◌, ◌≤◌, ◌==◌, cond, nat_lt, List, [], ◌∷◌, ◌++◌, length, take, drop, slice_index, slice_index_or, refl, sym, ap, subst, ◌∙◌, arith, length-append, length-drop, drop-drop, count_by, sum, find, option_map, unwrap_or, Option}
use Rattle.std.specs.List.{All}
use Rattle.std.proofs.Math.Nat.{mod-lt, mul-le-mul_right}
use Rattle.std.proofs.Math.Seq.{take-append-add}
use Rattle.std.proofs.lemmas.Bool.{lt-ltb, le-ltb}
use Rattle.std.proofs.lemmas.List.{take-append-drop, take_all}
use Rattle.std.proofs.lemmas.List.{get_or_default}
use Rattle.std.proofs.lemmas.List.Elements.{All-nil, All-head, All-tail, All-append, All-weaker, All-take}
use Rattle.std.proofs.lemmas.List.Sums.{sum_by-cons, sum_by-append}
use Rattle.shard_rounds.specs.declared.plan.Move.{Move}
use Rattle.shard_rounds.specs.Rounds.{OwnerTable, IsTable, IsPlan, IsUnit, CanMove, AreUnits, unmoved, joined, after_moves, first_owner, owner, owner_now}
use Rattle.shard_rounds.specs.Holding.{Holds, RowsAre, AreGiven, HasUnit, cut, concerns, row_at, first_row, moved_rows}
use Rattle.shard_rounds.proofs.Moves.{after_append, owner_below, joined_append, joined_cut, joined_take, cut_more, given_front, given_more, owner_back, plan_given, count_cons}
use Rattle.shard_rounds.proofs.Rows.{rows_moved, rows_first}

-- ---- no plan has more moves than there are groups

one_step : (a n : ℕ) → cond (nat_lt a (suc n)) 1 0 ≡ cond (a == n) 1 0 + cond (nat_lt a n) 1 0
one_step a n = grind arith

below_cons : (n : ℕ) (m : Move) (ms : List Move) → count_by (λ x. nat_lt x.group n) (m ∷ ms) ≡ cond (nat_lt m.group n) 1 0 + count_by (λ x. nat_lt x.group n) ms
below_cons n m ms = sum_by-cons (λ x. cond (nat_lt x.group n) 1 0) m ms

below_step : (n : ℕ) (ms : List Move) → count_by (λ x. nat_lt x.group (suc n)) ms ≡ count_by (λ x. x.group == n) ms + count_by (λ x. nat_lt x.group n) ms
below_step n [] = refl
below_step n (m ∷ ms) =
    let one = one_step m.group n in
    let rest = below_step n ms in
    let a = below_cons (suc n) m ms in
    let b = below_cons n m ms in
    let c = count_cons n m ms in
    omega arith

below_none : (ms : List Move) → count_by (λ x. nat_lt x.group 0) ms ≡ 0
below_none [] = refl
below_none (m ∷ ms) =
    let all : count_by (λ x. nat_lt x.group 0) (m ∷ ms) ≡ 0 + count_by (λ x. nat_lt x.group 0) ms = below_cons 0 m ms ∙ ap (λ b. cond b 1 0 + count_by (λ x. nat_lt x.group 0) ms) (le-ltb m.group 0 (omega arith)) in
    let rest = below_none ms in
    omega arith

below_few : (n : ℕ) (ms : List Move) → ((g : ℕ) → count_by (λ x. x.group == g) ms ≤ 1) → count_by (λ x. nat_lt x.group n) ms ≤ n
below_few zero ms h = let none = below_none ms in omega arith
below_few (suc n) ms h = let step = below_step n ms in let last = h n in let rest = below_few n ms h in omega arith

below_all : (n : ℕ) (ms : List Move) → All (λ m. m.group < n) ms → count_by (λ x. nat_lt x.group n) ms ≡ length ms
below_all n [] h = refl
below_all n (m ∷ ms) h =
    let all : count_by (λ x. nat_lt x.group n) (m ∷ ms) ≡ 1 + count_by (λ x. nat_lt x.group n) ms =
    below_cons n m ms ∙ ap (λ b. cond b 1 0 + count_by (λ x. nat_lt x.group n) ms) (lt-ltb m.group n (All-head (λ x. x.group < n) m ms h)) in
    let rest = below_all n ms (All-tail (λ x. x.group < n) m ms h) in
    omega arith

pub few_moves : (o : OwnerTable) (ms : List Move) → IsPlan o ms → length ms ≤ length o.units
few_moves o ms plan =
    let all = below_all (length o.units) ms (All-weaker (CanMove o) (λ m. m.group < length o.units) (λ m can. can.unit.group) ms plan.each) in
    let few = below_few (length o.units) ms plan.single in
    omega arith

-- ---- the table

-- there is room for the moves of one more plan
pub log_room : (o now : OwnerTable) (rows : List (List ℕ)) (log : List Move) (sizes : List ℕ) (a b : ℕ) (ms : List Move) → o ≡ now → Holds o rows log sizes a b → length now.plans < now.room → IsPlan now ms
    → length log + length ms ≤ a
log_room o now rows log sizes a b ms same h room plan =
    let few = few_moves o ms (subst (λ (r : OwnerTable). IsPlan r ms) (sym same) plan) in
    let early : length o.plans < o.room = subst (λ (r : OwnerTable). length r.plans < r.room) (sym same) room in
    let done = h.few in
    let space = h.logs in
    let more : suc (length o.plans) * length o.units ≤ o.room * length o.units = mul-le-mul_right (length o.units) (omega arith) in
    omega arith

-- one more plan
pub applied : (o now : OwnerTable) (rows : List (List ℕ)) (log : List Move) (sizes : List ℕ) (a b a' : ℕ) (ms : List Move) → o ≡ now → Holds o rows log sizes a b → length now.plans < now.room → IsPlan now ms → a ≤ a'
    → o.plans ≡ cut sizes log
    → Holds record { units = o.units; pipelines = o.pipelines; room = o.room; plans = cut (sizes ++ length ms ∷ []) (log ++ ms) } (moved_rows rows ms) (log ++ ms) (sizes ++ length ms ∷ []) a' b
applied o now rows log sizes a b a' ms same h room plan wide is = rw (cut_more sizes log ms h.whole, ← is) record {
  table = record {
    units = h.table.units;
    some = h.table.some;
    pipelines = h.table.pipelines;
    room = h.table.room;
    plans = let long = length-append o.plans (ms ∷ []) in let room' = early in omega arith;
    takers = subst (λ (all : List Move). All (λ m. m.taker < o.pipelines) all) (sym more) (All-append (λ m. m.taker < o.pipelines) (joined o.plans) ms h.table.takers takers);
  };
  rows_are = record {
    groups = moved.groups;
    widths = moved.widths;
    numbers = λ g u lt less. moved.numbers g u lt less ∙ sym (after_append g u (first_owner o.pipelines g u) (joined o.plans) ms) ∙ ap (λ (all : List Move). after_moves g u (first_owner o.pipelines g u) all) (sym more);
  };
  whole = sum_by-append (λ k. k) sizes (length ms ∷ []) ∙ (let whole = h.whole in let both = length-append log ms in let last = sum_by-cons (λ k. k) (length ms) [] in omega arith);
  counted = let a' = length-append sizes (length ms ∷ []) in let b' = length-append o.plans (ms ∷ []) in let c' = h.counted in omega arith;
  given = given_more o.pipelines [] log ms h.given (subst (λ (before : List Move). AreGiven o.pipelines before ms) whole_log (plan_given o.pipelines (joined o.plans) ms givers here.single));
  few = let few = few_moves o ms here in let both = length-append log ms in let long = length-append o.plans (ms ∷ []) in let old = h.few in small (length (o.plans ++ ms ∷ [])) (omega arith) (omega arith);
  logs = let wide' = h.logs in omega arith;
  plans_fit = h.plans_fit;
}
  where
    here : IsPlan o ms
    here = subst (λ (r : OwnerTable). IsPlan r ms) (sym same) plan

    early : length o.plans < o.room
    early = subst (λ (r : OwnerTable). length r.plans < r.room) (sym same) room

    more : joined (o.plans ++ ms ∷ []) ≡ joined o.plans ++ ms
    more = joined_append o.plans ms

    whole_log : joined o.plans ≡ log
    whole_log = ap (λ (xss : List (List Move)). joined xss) is ∙ joined_cut sizes log h.whole

    takers : All (λ m. m.taker < o.pipelines) ms
    takers = All-weaker (CanMove o) (λ m. m.taker < o.pipelines) (λ m can. can.taker) ms here.each

    givers : All (λ m. m.giver ≡ after_moves m.group m.unit (first_owner o.pipelines m.group m.unit) (joined o.plans)) ms
    givers = All-weaker (CanMove o) (λ m. m.giver ≡ after_moves m.group m.unit (first_owner o.pipelines m.group m.unit) (joined o.plans)) (λ m can. can.giver) ms here.each

    moved : RowsAre o.units (moved_rows rows ms) (λ g u. after_moves g u (owner_now o g u) ms)
    moved = rows_moved o.units rows (owner_now o) ms h.rows_are (All-weaker (CanMove o) (λ m. (m.group < length o.units) × (m.unit < slice_index o.units m.group)) (λ m can. (can.unit.group, can.unit.unit)) ms here.each)

    small : (n : ℕ) → n ≡ length o.plans + 1 → length (log ++ ms) ≤ length o.plans * length o.units + length o.units → length (log ++ ms) ≤ n * length o.units
    small n e le = rw e (omega arith)

-- before any plan
pub started : (units : List ℕ) (rows : List (List ℕ)) (pipelines room a b : ℕ) → AreUnits units → 1 ≤ pipelines → pipelines ≤ 8 → room < 262144 → RowsAre units rows (λ g u. first_owner pipelines g u)
    → room * length units ≤ a → room ≤ b → Holds (unmoved units pipelines room) rows [] [] a b
started units rows pipelines room a b u some few plans are wide long = record {
  table = record { units = u; some = some; pipelines = few; room = plans; plans = omega arith; takers = All-nil (λ m. m.taker < pipelines) };
  rows_are = are;
  whole = refl;
  counted = refl;
  given = tt;
  few = omega arith;
  logs = wide;
  plans_fit = long;
}

-- the moves of the first plans come first
joined_prefix : (e : ℕ) (xss : List (List Move)) → joined (take e xss) ≡ take (length (joined (take e xss))) (joined xss)
joined_prefix zero xss = refl
joined_prefix (suc e) [] = refl
joined_prefix (suc e) (xs ∷ xss) =
    ap (λ (rest : List Move). xs ++ rest) (joined_prefix e xss)
    ∙ sym (take-append-add xs (joined xss) (length (joined (take e xss))))
    ∙ ap (λ n. take n (xs ++ joined xss)) (sym (length-append xs (joined (take e xss))))

-- an owner is a pipe
pub owner_is_pipe : (o : OwnerTable) (e g u : ℕ) → IsTable o → owner o.pipelines o.plans e g u < o.pipelines
owner_is_pipe o e g u h = owner_below o.pipelines g u (first_owner o.pipelines g u) (joined (take e o.plans)) (mod-lt (u + g) (let some = h.some in omega arith))
    (subst (λ (ms : List Move). All (λ m. m.taker < o.pipelines) ms) (sym (joined_prefix e o.plans)) (All-take (λ m. m.taker < o.pipelines) (length (joined (take e o.plans))) (joined o.plans) h.takers))

pub now_is_pipe : (o : OwnerTable) (g u : ℕ) → IsTable o → owner_now o g u < o.pipelines
now_is_pipe o g u h = owner_below o.pipelines g u (first_owner o.pipelines g u) (joined o.plans) (mod-lt (u + g) (let some = h.some in omega arith)) h.takers

-- a row that was read
pub row_is : (rows : List (List ℕ)) (g : ℕ) (row : List ℕ) → g < length rows → row ≡ slice_index_or rows g row → row ≡ row_at rows g
row_is rows g row lt e = e ∙ get_or_default rows g row [] lt

-- there is a row for each group
pub groups_of : (o now : OwnerTable) (rows : List (List ℕ)) (log : List Move) (sizes : List ℕ) (a b g : ℕ) → o ≡ now → Holds o rows log sizes a b → g < length now.units → g < length rows
groups_of o now rows log sizes a b g same h lt =
    let here : g < length o.units = subst (λ (r : OwnerTable). g < length r.units) (sym same) lt in
    let all = h.rows_are.groups in
    omega arith

-- the laws, of the table as it is written
pub table_of : (o now : OwnerTable) → o ≡ now → IsTable o → IsTable now
table_of o now same h = subst (λ (r : OwnerTable). IsTable r) same h

-- the moves of the last plans
pub last_moves : (sizes : List ℕ) (log : List Move) (e : ℕ) → sum sizes ≡ length log → sum (drop e sizes) + sum (take e sizes) ≡ length log
last_moves sizes log e whole =
    let parts = sum_by-append (λ k. k) (take e sizes) (drop e sizes) in
    let all : sum (take e sizes ++ drop e sizes) ≡ sum sizes = ap (λ (ns : List ℕ). sum ns) (take-append-drop e sizes) in
    omega arith

-- there are few moves
pub few_logged : (o : OwnerTable) (rows : List (List ℕ)) (log : List Move) (sizes : List ℕ) (a b : ℕ) → Holds o rows log sizes a b → length log < 4294967296
few_logged o rows log sizes a b h =
    let few = h.few in
    let groups = h.table.units.groups in
    let plans = h.table.plans in
    let room = h.table.room in
    let wide : length o.plans * length o.units ≤ 262144 * length o.units = mul-le-mul_right (length o.units) (omega arith) in
    omega arith

-- the rows have the units of a plan's moves
pub plan_units : (o now : OwnerTable) (rows : List (List ℕ)) (log : List Move) (sizes : List ℕ) (a b : ℕ) (ms : List Move) → o ≡ now → Holds o rows log sizes a b → IsPlan now ms → All (HasUnit rows) ms
plan_units o now rows log sizes a b ms same h plan =
    All-weaker (CanMove o) (HasUnit rows)
    (λ m can. record {
      group = let all = h.rows_are.groups in let in' = can.unit.group in omega arith;
      unit = subst (λ n. m.unit < n) (sym (h.rows_are.widths m.group can.unit.group)) can.unit.unit;
    })
    ms (subst (λ (r : OwnerTable). IsPlan r ms) (sym same) plan).each

-- what stands in a row is the owner now
pub row_read : (o now : OwnerTable) (rows : List (List ℕ)) (log : List Move) (sizes : List ℕ) (a b g u : ℕ) → o ≡ now → Holds o rows log sizes a b → IsUnit now.units g u → slice_index (row_at rows g) u ≡ owner_now now g u
row_read o now rows log sizes a b g u same h unit =
    let here : IsUnit o.units g u = subst (λ (r : OwnerTable). IsUnit r.units g u) (sym same) unit in
    h.rows_are.numbers g u here.group here.unit ∙ ap (λ (r : OwnerTable). owner_now r g u) same

-- the owner after the first plans is the giver of the first later move of the unit, or, where there is none, the owner now
pub owner_found : (o now : OwnerTable) (rows : List (List ℕ)) (log : List Move) (sizes : List ℕ) (a b e g u : ℕ) → o ≡ now → Holds o rows log sizes a b → o.plans ≡ cut sizes log → IsUnit now.units g u
    → unwrap_or (option_map (λ (m : Move). m.giver) (find (concerns g u) (drop (sum (take e sizes)) log))) (slice_index (row_at rows g) u) ≡ owner now.pipelines now.plans e g u
owner_found o now rows log sizes a b e g u same h is unit =
    sym (ap (λ (ms : List Move). after_moves g u (first_owner o.pipelines g u) ms) front ∙ back) ∙ ap (λ (r : OwnerTable). owner r.pipelines r.plans e g u) same
  where
    start : ℕ
    start = sum (take e sizes)

    front : joined (take e o.plans) ≡ take (sum (take e sizes)) log
    front = ap (λ (xss : List (List Move)). joined (take e xss)) is ∙ joined_take e sizes log

    both : take (sum (take e sizes)) log ++ drop (sum (take e sizes)) log ≡ log
    both = take-append-drop (sum (take e sizes)) log

    later : AreGiven o.pipelines (take (sum (take e sizes)) log) (drop (sum (take e sizes)) log)
    later = given_front o.pipelines [] (take (sum (take e sizes)) log) (drop (sum (take e sizes)) log) (subst (λ (ms : List Move). AreGiven o.pipelines [] ms) (sym both) h.given)

    all : joined o.plans ≡ log
    all = ap (λ (xss : List (List Move)). joined xss) is ∙ joined_cut sizes log h.whole

    here : IsUnit o.units g u
    here = subst (λ (r : OwnerTable). IsUnit r.units g u) (sym same) unit

    last : after_moves g u (first_owner o.pipelines g u) (take (sum (take e sizes)) log ++ drop (sum (take e sizes)) log) ≡ slice_index (row_at rows g) u
    last = ap (λ (ms : List Move). after_moves g u (first_owner o.pipelines g u) ms) (both ∙ sym all) ∙ sym (h.rows_are.numbers g u here.group here.unit)

    back : after_moves g u (first_owner o.pipelines g u) (take (sum (take e sizes)) log) ≡ unwrap_or (option_map (λ (m : Move). m.giver) (find (concerns g u) (drop (sum (take e sizes)) log))) (slice_index (row_at rows g) u)
    back = owner_back o.pipelines g u (slice_index (row_at rows g) u) (take (sum (take e sizes)) log) (drop (sum (take e sizes)) log) later last

-- a list from a place on
pub tail_is : {X : Type 0} (n : ℕ) (xs : List X) → take (length xs - n) (drop n xs) ≡ drop n xs
tail_is n xs = take_all (length xs - n) (drop n xs) (let long = length-drop n xs in omega arith)

-- the same, from the giver that was found and the place where the later moves begin
pub owner_at : (o now : OwnerTable) (rows : List (List ℕ)) (log : List Move) (sizes : List ℕ) (a b e g u start row : ℕ) (found : Option ℕ) → o ≡ now → Holds o rows log sizes a b → o.plans ≡ cut sizes log → IsUnit now.units g u
    → start + sum (drop e sizes) ≡ length log → found ≡ option_map (λ (m : Move). m.giver) (find (concerns g u) (drop start log)) → row ≡ slice_index (row_at rows g) u
    → unwrap_or found row ≡ owner now.pipelines now.plans e g u
owner_at o now rows log sizes a b e g u start row found same h is unit begins finds reads =
    let parts = last_moves sizes log e h.whole in
    let first : start ≡ sum (take e sizes) = omega arith in
    rw (finds, first, reads) (owner_found o now rows log sizes a b e g u same h is unit)

-- a plan is what stands at its place among all moves
cut_at : (sizes : List ℕ) (log : List Move) (e : ℕ) → e < length sizes → slice_index_or (cut sizes log) e [] ≡ take (slice_index sizes e) (drop (sum (take e sizes)) log)
cut_at [] log e lt = absurd (omega arith)
cut_at (n ∷ ns) log zero lt = refl
cut_at (n ∷ ns) log (suc e) lt =
    cut_at ns (drop n log) e (omega arith)
    ∙ ap (take (slice_index ns e)) (drop-drop (sum (take e ns)) n log ∙ ap (λ k. drop k log) (sym (sum_by-cons (λ k. k) n (take e ns))))

pub plan_at : (o now : OwnerTable) (log : List Move) (sizes : List ℕ) (e start count : ℕ) → o ≡ now → o.plans ≡ cut sizes log → sum sizes ≡ length log → e < length sizes
    → start + sum (drop e sizes) ≡ length log → count ≡ slice_index sizes e → take count (drop start log) ≡ slice_index_or now.plans e []
plan_at o now log sizes e start count same is whole lt begins sized =
    let parts = last_moves sizes log e whole in
    let first : start ≡ sum (take e sizes) = omega arith in
    (λ i. take (sized i) (drop (first i) log)) ∙ sym (cut_at sizes log e lt) ∙ ap (λ (plans : List (List Move)). slice_index_or plans e []) (sym is ∙ ap (λ (r : OwnerTable). r.plans) same)

-- the same as `applied`, of what the fields hold
pub applied_at : (o now : OwnerTable) (rows rows' : List (List ℕ)) (log log' : List Move) (sizes sizes' : List ℕ) (a b a' b' : ℕ) (ms : List Move) → o ≡ now → Holds o rows log sizes a b → length now.plans < now.room → IsPlan now ms → a ≤ a' → b' ≡ b
    → o.plans ≡ cut sizes log → rows' ≡ moved_rows rows ms → log' ≡ log ++ ms → sizes' ≡ sizes ++ length ms ∷ []
    → Holds record { units = o.units; pipelines = o.pipelines; room = o.room; plans = cut sizes' log' } rows' log' sizes' a' b'
applied_at o now rows rows' log log' sizes sizes' a b a' b' ms same h room plan wide long is moved logged sized =
    rw (moved, logged, sized, long) (applied o now rows log sizes a b a' ms same h room plan wide is)

-- the table then
pub applied_is : (o now : OwnerTable) (log log' ms : List Move) (sizes sizes' : List ℕ) → o ≡ now → o.plans ≡ cut sizes log → sum sizes ≡ length log → log' ≡ log ++ ms → sizes' ≡ sizes ++ length ms ∷ []
    → ◌≡◌ {A = OwnerTable} record { units = o.units; pipelines = o.pipelines; room = o.room; plans = cut sizes' log' } record { units = now.units; pipelines = now.pipelines; room = now.room; plans = now.plans ++ ms ∷ [] }
applied_is o now log log' ms sizes sizes' same is whole logged sized =
    let plans : cut sizes' log' ≡ now.plans ++ ms ∷ [] =
    rw (logged, sized) (cut_more sizes log ms whole) ∙ ap (λ (xss : List (List Move)). xss ++ ms ∷ []) (sym is ∙ ap (λ (r : OwnerTable). r.plans) same) in
    (λ i. record { units = (same i).units; pipelines = (same i).pipelines; room = (same i).room; plans = plans i })

-- the same as `started`, of what the fields hold
pub started_at : (units units' : List ℕ) (rows : List (List ℕ)) (log : List Move) (sizes : List ℕ) (pipelines room a b : ℕ) → AreUnits units → 1 ≤ pipelines → pipelines ≤ 8 → room < 262144
    → units' ≡ units → log ≡ [] → sizes ≡ [] → length rows ≡ length units → ((g : ℕ) → g < length units → row_at rows g ≡ first_row pipelines g (slice_index units g)) → a ≡ room * length units → b ≡ room
    → Holds record { units = units'; pipelines = pipelines; room = room; plans = cut sizes log } rows log sizes a b
started_at units units' rows log sizes pipelines room a b u some few plans same none unsized long are wide deep =
    rw (same, none, unsized) (started units rows pipelines room a b u some few plans (rows_first units rows pipelines long are) (omega arith) (omega arith))
