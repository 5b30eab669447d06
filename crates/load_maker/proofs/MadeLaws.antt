-- The words of a made capture, packet by packet.
use Rattle.std.proofs.Common.{◌≡◌, ℕ, zero, suc, ◌+◌, ◌*◌, ◌==◌, ◌%◌, ℤ, pos, List, [], ◌∷◌, ◌++◌, length, take, drop, map, refl, sym, ap, ap₂, ◌∙◌, arith, append_assoc, add-one, append-nil, length-append, if◌then◌else◌}
use Rattle.std.specs.List.{flat_map, range_with_len}
use Rattle.std.proofs.lemmas.List.{take_at, drop_at, length-map}
use Rattle.rand_pcg.specs.Lcg.{advance, started, increment_of, state_after, next_state}
use Rattle.rand_pcg.specs.Pcg.{multiplier_64}
use Rattle.capture_io.specs.declared.source.Source.{Source}
use Rattle.capture_io.specs.Header.{source}
use Rattle.capture_io.specs.Rows.{rows}
use Rattle.load_maker.specs.Made.{before, drawn, arrival, fields, header, made_headers, value, packet}

-- steps after steps are the steps together
pub state_after-state_after : (w m p n k s : ℕ) → state_after w m p k (state_after w m p n s) ≡ state_after w m p (n + k) s
unfolding state_after
state_after-state_after w m p zero k s = let none : 0 + k ≡ k = omega arith in ap (λ (j : ℕ). state_after w m p j s) (sym none)
state_after-state_after w m p (suc n) k s =
    let more : suc n + k ≡ suc (n + k) = omega arith in
    state_after-state_after w m p n k (next_state w m p s) ∙ ap (λ (j : ℕ). state_after w m p j s) (sym more)

-- a packet's four words lead to the generator before the next packet
pub before_next : (seed t : ℕ) → advance 64 multiplier_64 4 (before seed t) ≡ before seed (t + 1)
unfolding before
before_next seed t =
    let first = started 64 multiplier_64 seed (increment_of 64 54) in
    let four : 4 * t + 4 ≡ 4 * (t + 1) = omega arith in
    ap (λ (s : ℕ). record first { state = s }) (state_after-state_after 64 multiplier_64 first.increment (4 * t) 4 first.state)
    ∙ ap (λ (k : ℕ). advance 64 multiplier_64 k first) four

-- when the packet before packet t came; 0 where there is none
abbrev pub reached : ℕ → ℕ → ℕ
reached seed zero = 0
reached seed (suc t) = arrival seed t

pub reached_next : (seed t : ℕ) → reached seed t + (if t == 0 then 0 else (drawn seed t).wait % 16) ≡ arrival seed t
reached_next seed zero = refl
reached_next seed (suc t) = grind arith

pub reached-arrival : (seed t : ℕ) → reached seed (t + 1) ≡ arrival seed t
reached-arrival seed t = rw add-one refl

range_with_len_more : (a n : ℕ) → range_with_len a (n + 1) ≡ range_with_len a n ++ (a + n) ∷ []
range_with_len_more a zero = let none : a + 0 ≡ a = omega arith in rw none refl
range_with_len_more a (suc n) =
    let on : suc n + 1 ≡ suc (n + 1) = omega arith in
    let last : a + 1 + n ≡ a + suc n = omega arith in
    ap (range_with_len a) on ∙ ap (λ (l : List ℕ). a ∷ l) (range_with_len_more (a + 1) n ∙ ap (λ (k : ℕ). range_with_len (a + 1) n ++ k ∷ []) last)

flat_map_push : (f : ℕ → List ℤ) (ks : List ℕ) (k : ℕ) → flat_map f (ks ++ k ∷ []) ≡ flat_map f ks ++ f k
flat_map_push f [] k = append-nil (f k)
flat_map_push f (j ∷ ks) k = ap (λ (l : List ℤ). f j ++ l) (flat_map_push f ks k) ∙ sym (append_assoc (f j) (flat_map f ks) (f k))

-- one number more
pub flat_map_more : (f : ℕ → List ℤ) (n : ℕ) → flat_map f (range_with_len 0 (n + 1)) ≡ flat_map f (range_with_len 0 n) ++ f n
flat_map_more f n =
    let last : 0 + n ≡ n = omega arith in
    ap (flat_map f) (range_with_len_more 0 n) ∙ (flat_map_push f (range_with_len 0 n) (0 + n) ∙ ap (λ (k : ℕ). flat_map f (range_with_len 0 n) ++ f k) last)

pub length-flat_map : (f : ℕ → List ℤ) (width a n : ℕ) → ((t : ℕ) → length (f t) ≡ width) → length (flat_map f (range_with_len a n)) ≡ n * width
length-flat_map f width a zero same = omega arith
length-flat_map f width a (suc n) same =
    omega (arith, same a, length-append (f a) (flat_map f (range_with_len (a + 1) n)), length-flat_map f width (a + 1) n same)

-- lists of one length, one after another, are the rows that they are cut into
pub rows-flat_map : (f : ℕ → List ℤ) (width a n : ℕ) → ((t : ℕ) → length (f t) ≡ width) → rows n width (flat_map f (range_with_len a n)) ≡ map f (range_with_len a n)
rows-flat_map f width a zero same = refl
rows-flat_map f width a (suc n) same =
    let rest = flat_map f (range_with_len (a + 1) n) in
    let first : take width (f a ++ rest) ≡ f a = take_at (f a) rest width (same a) in
    let after : drop width (f a ++ rest) ≡ rest = drop_at (f a) rest width (same a) in
    ap₂ ◌∷◌ first (ap (rows n width) after ∙ rows-flat_map f width (a + 1) n same)

pub header_is : (seed : ℕ) (names : List (List ℕ)) (t : ℕ) → fields seed (map source names) t ≡ header seed names t
header_is seed [] t = refl
header_is seed (name ∷ names) t = ap (λ (l : List ℤ). pos (value (packet seed t) (source name)) ∷ l) (header_is seed names t)

each_header : (seed : ℕ) (names : List (List ℕ)) (ts : List ℕ) → map (fields seed (map source names)) ts ≡ map (header seed names) ts
each_header seed names [] = refl
each_header seed names (t ∷ ts) = ap₂ ◌∷◌ (header_is seed names t) (each_header seed names ts)

pub length-fields : (seed : ℕ) (sources : List Source) (t : ℕ) → length (fields seed sources t) ≡ length sources
length-fields seed sources t = length-map sources (λ (s : Source). pos (value (packet seed t) s))

-- the words, cut into rows, are the headers
pub rows_are_made : (n seed : ℕ) (names : List (List ℕ)) → rows n (length names) (flat_map (fields seed (map source names)) (range_with_len 0 n)) ≡ made_headers n seed names
rows_are_made n seed names =
    let width : (t : ℕ) → length (fields seed (map source names) t) ≡ length names = λ t. length-fields seed (map source names) t ∙ length-map names source in
    rows-flat_map (fields seed (map source names)) (length names) 0 n width ∙ each_header seed names (range_with_len 0 n)
