-- The lines of the packets and of the plans, and the plans' room.
use Rattle.std.proofs.Common.{◌≡◌, ◌∙◌, ◌<◌, ◌≤◌, ◌+◌, ◌*◌, ◌==◌, nat_lt, take, drop, arith, ℕ, zero, suc, ℤ, Bool, if◌then◌else◌, List, [], ◌∷◌, length, get_or, refl, sym, ap}
use Rattle.std.specs.Prelude.{All, count_by}
use Rattle.std.proofs.lemmas.Bool.Decides.{nat_tests}
use Rattle.std.proofs.lemmas.List.Sums.{sum_by-cons}
use Rattle.std.proofs.lemmas.Grind.{common_steps}
use Rattle.domino_names.specs.declared.infos.ArrayInfo.{ArrayInfo}
use Rattle.report_text.specs.Room.{arrays_room}
use Rattle.report_text.specs.Told.{AreFewMoves}
use Rattle.std.proofs.lemmas.List.{length-map, drop-drop}
use Rattle.capture_io.specs.Rows.{rows}
use Rattle.shard_rounds.specs.declared.plan.Plan.{Plan}
use Rattle.shard_rounds.specs.declared.plan.Move.{Move}
use Rattle.switch_net.specs.Answer.{moves_of}
use Rattle.report_text.specs.Report.{packet_line, packet_lines}
use Rattle.report_text.specs.PlanReading.{IsLine}
use Rattle.report_text.specs.AnswerLines.{moves_line, moves_lines, packet_at}

-- ---- packets

pub packets-long : (labels : List (List ℕ)) (s : ℕ) (ps : List (List ℤ)) → length (packet_lines labels s ps) ≡ length ps
packets-long labels s [] = refl
packets-long labels s (p ∷ ps) = ap suc (packets-long labels (s + 1) ps)

pub rows-long : (n width : ℕ) (words : List ℤ) → length (rows n width words) ≡ n
rows-long zero width words = refl
rows-long (suc n) width words = ap suc (rows-long n width (drop width words))

-- so there is a line for each row
pub packet-count : (labels : List (List ℕ)) (n width : ℕ) (words : List ℤ) → length (packet_lines labels 0 (rows n width words)) ≡ n
packet-count labels n width words = packets-long labels 0 (rows n width words) ∙ rows-long n width words

-- the line of a packet
packet-found : (labels : List (List ℕ)) (s k t : ℕ) (ps : List (List ℤ)) (text : List ℕ) → t ≡ s + k → k < length ps → text ≡ packet_line labels t (get_or ps k []) → IsLine (packet_lines labels s ps) k text
packet-found labels s k t [] text e less is = absurd (omega (arith, less))
packet-found labels s zero t (p ∷ ps) text e less is =
    let same : t ≡ s = omega (arith, e) in
    record { there = omega arith; same = is ∙ ap (λ n. packet_line labels n p) same }
packet-found labels s (suc k) t (p ∷ ps) text e less is =
    let rest = packet-found labels (s + 1) k t ps text (omega (arith, e)) (omega (arith, less)) is in
    let there : k < length (packet_lines labels (s + 1) ps) = rest.there in
    record { there = omega (arith, there); same = rest.same }

pub row-at : (n width : ℕ) (words : List ℤ) (t : ℕ) → t < n → get_or (rows n width words) t [] ≡ packet_at width words t
row-at zero width words t less = absurd (omega (arith, less))
row-at (suc n) width words zero less =
    let none : 0 ≡ 0 * width = omega arith in
    ap (λ k. take width (drop k words)) none
row-at (suc n) width words (suc t) less =
    let all : width + t * width ≡ suc t * width = omega arith in
    row-at n width (drop width words) t (omega (arith, less)) ∙ ap (take width) (drop-drop (t * width) width words) ∙ ap (λ k. take width (drop k words)) all

pub row-found : (labels : List (List ℕ)) (n width : ℕ) (words : List ℤ) (t : ℕ) (text : List ℕ) → t < n → text ≡ packet_line labels t (packet_at width words t) → IsLine (packet_lines labels 0 (rows n width words)) t text
row-found labels n width words t text less is =
    packet-found labels 0 t t (rows n width words) text (omega arith) (let all : length (rows n width words) ≡ n = rows-long n width words in omega (arith, less, all))
    (is ∙ ap (packet_line labels t) (sym (row-at n width words t less)))

-- ---- plans

moves-long : (e : ℕ) (plans : List (List Move)) → length (moves_lines e plans) ≡ length plans
moves-long e [] = refl
moves-long e (moves ∷ plans) = ap suc (moves-long (e + 1) plans)

-- there is a line for each plan
pub plan-count : (plans : List Plan) → length (moves_lines 1 (moves_of plans)) ≡ length plans
plan-count plans = moves-long 1 (moves_of plans) ∙ length-map plans (λ (p : Plan). p.moves.items)

-- the line of a plan
pub plan-found : (e k n : ℕ) (plans : List Plan) (plan : Plan) (text : List ℕ) → n ≡ e + k → k < length plans → plan ≡ get_or plans k plan → text ≡ moves_line n plan.moves.items → IsLine (moves_lines e (moves_of plans)) k text
plan-found e k n [] plan text at less this is = absurd (omega (arith, less))
plan-found e zero n (p ∷ plans) plan text at less this is =
    let same : n ≡ e = omega (arith, at) in
    record { there = omega arith; same = is ∙ ap (λ m. moves_line m plan.moves.items) same ∙ ap (λ (q : Plan). moves_line e q.moves.items) this }
plan-found e (suc k) n (p ∷ plans) plan text at less this is =
    let rest = plan-found (e + 1) k n plans plan text (omega (arith, at)) (omega (arith, less)) this is in
    let there : k < length (moves_lines (e + 1) (moves_of plans)) = rest.there in
    record { there = omega (arith, there); same = rest.same }

-- ---- moves

-- so many of some moves count
counts : (p : Move → Bool) (m : Move) (moves : List Move) → count_by p (m ∷ moves) ≡ (if p m then 1 else 0) + count_by p moves
counts p m moves = sum_by-cons (λ x. if p x then 1 else 0) m moves

-- the moves of a group up to n are those of a group below n, and those of group n
one-more : (n g : ℕ) → (if nat_lt g (suc n) then 1 else 0) ≡ (if nat_lt g n then 1 else 0) + (if g == n then 1 else 0)
one-more n g = grind (arith, nat_tests)

moves-split : (n : ℕ) (moves : List Move) → count_by (λ (m : Move). nat_lt m.group (suc n)) moves ≡ count_by (λ (m : Move). nat_lt m.group n) moves + count_by (λ (m : Move). m.group == n) moves
moves-split n [] = omega arith
moves-split n (m ∷ moves) =
    let all = counts (λ (x : Move). nat_lt x.group (suc n)) m moves in
    let low = counts (λ (x : Move). nat_lt x.group n) m moves in
    let here = counts (λ (x : Move). x.group == n) m moves in
    let rest = moves-split n moves in
    let one = one-more n m.group in
    omega (arith, all, low, here, one, rest)

none-low : (moves : List Move) → count_by (λ (m : Move). nat_lt m.group 0) moves ≡ 0
none-low [] = refl
none-low (m ∷ moves) =
    let all = counts (λ (x : Move). nat_lt x.group 0) m moves in
    let one : ◌≡◌ {A = ℕ} (if nat_lt m.group 0 then 1 else 0) 0 = grind (arith, nat_tests) in
    let rest = none-low moves in
    omega (arith, all, one, rest)

moves-below : (n : ℕ) (moves : List Move) → ((g : ℕ) → count_by (λ (m : Move). m.group == g) moves ≤ 1) → count_by (λ (m : Move). nat_lt m.group n) moves ≤ n
moves-below zero moves once = let none = none-low moves in omega (arith, none)
moves-below (suc n) moves once =
    let split = moves-split n moves in
    let rest = moves-below n moves once in
    let one = once n in
    omega (arith, split, rest, one)

all-below : (n : ℕ) (moves : List Move) → All (λ (m : Move). m.group + 1 ≤ n) moves → count_by (λ (m : Move). nat_lt m.group n) moves ≡ length moves
all-below n [] low = refl
all-below n (m ∷ moves) low =
    let all = counts (λ (x : Move). nat_lt x.group n) m moves in
    let first : m.group + 1 ≤ n = low 0 m (omega arith) in
    let one : ◌≡◌ {A = ℕ} (if nat_lt m.group n then 1 else 0) 1 = grind (arith, nat_tests, first) in
    let rest = all-below n moves (λ k d less. low (suc k) d (omega (arith, less))) in
    omega (arith, all, one, rest)

-- there are no more moves than groups
pub few-moves : (n : ℕ) (moves : List Move) → AreFewMoves n moves → length moves ≤ n
few-moves n moves are =
    let few = moves-below n moves are.once in
    let all = all-below n moves are.below in
    omega (arith, few, all)

-- ---- room

-- no name is longer than there is room for all
pub name-short : (infos : List ArrayInfo) (k : ℕ) (d : ArrayInfo) → k < length infos → length (get_or infos k d).name + 1 ≤ arrays_room infos
name-short [] k d less = absurd (omega (arith, less))
name-short (i ∷ infos) zero d less =
    let all : arrays_room (i ∷ infos) ≡ (length i.name + 1) + arrays_room infos = grind (arith, common_steps) in
    let within : length i.name + 1 ≤ arrays_room (i ∷ infos) = omega (arith, all) in
    within
name-short (i ∷ infos) (suc k) d less =
    let all : arrays_room (i ∷ infos) ≡ (length i.name + 1) + arrays_room infos = grind (arith, common_steps) in
    let rest : length (get_or infos k d).name + 1 ≤ arrays_room infos = name-short infos k d (omega (arith, less)) in
    let within : length (get_or infos k d).name + 1 ≤ arrays_room (i ∷ infos) = omega (arith, all, rest) in
    within
