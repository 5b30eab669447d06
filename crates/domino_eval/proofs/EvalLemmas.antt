-- Words of a list of expressions, and the places of cells.
use Rattle.std.proofs.Common.{◌≡◌, ℕ, zero, suc, ℤ, pos, negsuc, ◌+◌, ◌-◌, ◌^◌, ◌<◌, ◌≤◌, lit<, lit≤, Bool, true, false, if◌then◌else◌, List, [], ◌∷◌, ◌++◌, length, map, flat_map, take, drop, replicate, get_or, slice_set, slice_index, None, Some, Option, refl, sym, ap, ◌∙◌, arith}
use Rattle.std.proofs.lemmas.List.{append-nil, map-append, length-map, length-drop, get_or-map, get_or_past, take_more, drop_more, drop_all, take_all}
use Rattle.std.proofs.lemmas.List.Sums.{fold-append}
use Rattle.std.proofs.lemmas.Grind.{flat_map-append}
use Rattle.std.proofs.Math.Nat.{pow-suc, pow-le-pow_right}
use Rattle.std.specs.Int.{from_bool}
use Rattle.mp5_words.specs.Words.{cell, hash}
use Rattle.mp5_words.specs.declared.hashing.HashKind.{HashKind}
use Rattle.domino_tree.specs.declared.program.Program.{Program}
use Rattle.domino_tree.specs.Value.{Names, Array, names_of, cell_counts, HasCells}
use Rattle.mp5_words.specs.Cells.{word_at, cells_at, touching, hash_all, bits}
use Rattle.domino_tree.specs.Execution.{State, Does, Choice, touch, at_last, chosen}
use Rattle.domino_tree.specs.Sequential.{start_cells, untouched}
use Rattle.domino_check.specs.declared.numbered.CheckedStmt.{CheckedStmt}
use Rattle.domino_check.specs.declared.numbered.CheckedStmt.TheVariants as s
use Rattle.domino_check.specs.declared.numbered.CheckedArm.{CheckedArm}
use Rattle.domino_names.specs.declared.infos.ArrayInfo.{ArrayInfo}
use Rattle.domino_check.specs.declared.numbered.CheckedExpr.{CheckedExpr}
use Rattle.domino_names.specs.Infos.{infos_of, array_of}
use Rattle.domino_check.specs.Numbering.{accesses}
use Rattle.domino_check.specs.Indexes.{index_of}
use Rattle.domino_check.specs.Accepted.{AreSized}
use Rattle.domino_check.specs.NumberedMeaning.{Indexing, indexing, numbered_arrays, plain_value, named_place, place, numbered_step, numbered_choice, numbered_exec, executed_from}
use Rattle.domino_check.proofs.MeaningLemmas.{step-If, step-Else}
use Rattle.domino_eval.specs.Parts.{first_words, state, entered, last_does, Held, executed}
use Rattle.domino_names.proofs.InfoLemmas.{infos_are, length-infos}

next_word : (words : List ℤ) (i : ℕ) (z : ℤ) → i < length words → z ≡ word_at words i → slice_set (first_words (take i words)) i z ≡ first_words (take (i + 1) words)
next_word [] i z within is = absurd (omega arith)
next_word (a ∷ words) zero z within is = ap (λ y. y ∷ pos 0 ∷ pos 0 ∷ []) is
next_word (a ∷ []) (suc i) z within is = absurd (omega arith)
next_word (a ∷ b ∷ words) (suc zero) z within is = ap (λ y. a ∷ y ∷ pos 0 ∷ []) is
next_word (a ∷ b ∷ []) (suc (suc i)) z within is = absurd (omega arith)
next_word (a ∷ b ∷ c ∷ words) (suc (suc zero)) z within is = ap (λ y. a ∷ b ∷ y ∷ []) is
next_word (a ∷ b ∷ c ∷ words) (suc (suc (suc i))) z within is = let e : suc (suc (suc i)) + 1 ≡ suc (suc (suc (suc i))) = omega arith in rw e refl

-- the next word stands behind the first ones
pub first_words_next : (words : List ℤ) (i : ℕ) (z : ℤ) (firsts new : List ℤ) → i < length words → new ≡ slice_set firsts i z → firsts ≡ first_words (take i words) → z ≡ word_at words i → new ≡ first_words (take (i + 1) words)
first_words_next words i z firsts new within set are is = set ∙ ap (λ l. slice_set l i z) are ∙ next_word words i z within is

-- the hash of all of them
pub hash_firsts : (kind : HashKind) (words : List ℤ) (i : ℕ) (firsts : List ℤ) → firsts ≡ first_words (take i words) → length words ≤ i
    → hash kind (get_or firsts 0 (pos 0)) (get_or firsts 1 (pos 0)) (get_or firsts 2 (pos 0)) ≡ hash_all kind words
hash_firsts kind words i firsts are past =
    ap (λ l. hash kind (get_or l 0 (pos 0)) (get_or l 1 (pos 0)) (get_or l 2 (pos 0))) (are ∙ ap first_words (take_all i words past))

-- the arrays in the next argument are touched behind those so far
pub touch_next : (args : List CheckedExpr) (i : ℕ) (x : CheckedExpr) (old : List Bool) → i < length args → x ≡ get_or args i x
    → touching (numbered_arrays x) (touching (flat_map (λ (a : List ℕ). a) (map numbered_arrays (take i args))) old)
    ≡ touching (flat_map (λ (a : List ℕ). a) (map numbered_arrays (take (i + 1) args))) old
touch_next args i x old within here =
    let so_far : List ℕ = flat_map (λ (a : List ℕ). a) (map numbered_arrays (take i args)) in
    sym (ap (λ l. touching (flat_map (λ (a : List ℕ). a) (map numbered_arrays l)) old) (take_more args i x within ∙ ap (λ y. take i args ++ y ∷ []) (sym here))
    ∙ ap (λ l. touching (flat_map (λ (a : List ℕ). a) l) old) (map-append numbered_arrays (take i args) (x ∷ []))
    ∙ ap (λ l. touching l old) (flat_map-append (λ (a : List ℕ). a) (map numbered_arrays (take i args)) (numbered_arrays x ∷ []))
    ∙ ap (λ l. touching (so_far ++ l) old) (append-nil (numbered_arrays x))
    ∙ fold-append (λ (marks : List Bool) (array : ℕ). slice_set marks array true) old so_far (numbered_arrays x))

-- the word of the expression at a place
pub word_map : {A : Type 0} (f : CheckedExpr → A → ℤ) (args : List CheckedExpr) (place : ℕ) (x : CheckedExpr) (a : A) → place < length args → x ≡ get_or args place x
    → f x a ≡ word_at (map (λ (g : A → ℤ). g a) (map f args)) place
word_map f [] place x a within here = absurd (omega arith)
word_map f (y ∷ ys) zero x a within here = ap (λ z. f z a) here
word_map f (y ∷ ys) (suc place) x a within here = word_map f ys place x a (omega arith) here

-- ---- the place of a cell

-- the lengths, kept with and without whether each array is a register
lengths_kept : (infos : List ArrayInfo) → map (λ (i : ArrayInfo). i.length) infos ≡ map (λ (d : Array). d.length) (map array_of infos)
lengths_kept [] = refl
lengths_kept (i ∷ infos) = ap (λ rest. i.length ∷ rest) (lengths_kept infos)

cell_one : (z : ℤ) → cell z 1 ≡ 0
cell_one (pos a) = omega arith
cell_one (negsuc a) = omega arith

one_cell : (index : Option CheckedExpr) (length : ℕ) (fields : List ℤ) → length ≡ 1 → named_place index length fields ≡ 0
one_cell None length fields is = refl
one_cell (Some i) length fields is = ap (λ n. cell (plain_value i fields) n) is ∙ cell_one (plain_value i fields)

-- past all arrays it is the first
pub place_past : (p : Program) (infos : List ArrayInfo) (a : ℕ) (fields : List ℤ) → infos ≡ infos_of p → length infos ≤ a → 0 ≡ place (indexing p) a fields
place_past p infos a fields are past =
    let counted : length (map (λ (d : Array). d.length) (names_of p).arrays) ≡ length (names_of p).arrays = length-map (names_of p).arrays (λ (d : Array). d.length) in
    let all = length-infos p in
    sym (one_cell (index_of (accesses p) a) _ fields (get_or_past (map (λ (d : Array). d.length) (names_of p).arrays) a 1 (omega (arith, counted, all, ap length are))))

-- the length of an array
length_at : (p : Program) (infos : List ArrayInfo) (a : ℕ) (x : ArrayInfo) → infos ≡ infos_of p → a < length infos → (get_or infos a x).length ≡ (indexing p).length a
length_at p infos a x are within =
    sym (get_or-map (λ (i : ArrayInfo). i.length) infos a x 1 within)
    ∙ ap (λ lengths. get_or lengths a 1) (lengths_kept infos ∙ ap (λ l. map (λ (d : Array). d.length) (map array_of l)) are ∙ ap (map (λ (d : Array). d.length)) (infos_are p))

-- each array has from 1 to 65,536 cells
pub sized_at : (infos : List ArrayInfo) (a : ℕ) (x : ArrayInfo) → AreSized infos → a < length infos → (1 ≤ (get_or infos a x).length) × ((get_or infos a x).length ≤ 65536)
sized_at [] a x sized within = absurd (omega arith)
sized_at (i ∷ infos) zero x sized within = sized.0
sized_at (i ∷ infos) (suc a) x sized within = sized_at infos a x sized.1 (omega arith)

-- the cell that the index names
pub place_at : (p : Program) (infos : List ArrayInfo) (a : ℕ) (x : ArrayInfo) (index : CheckedExpr) (z : ℤ) (fields : List ℤ) (n : ℕ) → infos ≡ infos_of p → a < length infos
    → index_of (accesses p) a ≡ Some index → z ≡ plain_value index fields → n ≡ cell z (get_or infos a x).length → n ≡ place (indexing p) a fields
place_at p infos a x index z fields n are within found valued is =
    is
    ∙ (λ i. cell (valued i) (length_at p infos a x are within i))
    ∙ ap (λ o. named_place o ((indexing p).length a) fields) (sym found)

-- ---- chains

chain_more : (choice : CheckedArm → Choice) (arms : List CheckedArm) (i : ℕ) (x : CheckedArm) (last : Option (List Does)) (s : State) → i < length arms → x ≡ get_or arms i x
    → chosen (map choice (drop i arms)) last s ≡ (if (choice x).holds s.store then (choice x).block (touch (choice x).arrays s) else chosen (map choice (drop (i + 1) arms)) last (touch (choice x).arrays s))
chain_more choice arms i x last s within here =
    ap (λ l. chosen (map choice l) last s) (drop_more arms i x within ∙ ap (λ y. y ∷ drop (i + 1) arms) (sym here))

-- the condition of the arm holds
pub chain_held : (choice : CheckedArm → Choice) (arms : List CheckedArm) (i : ℕ) (x : CheckedArm) (last : Option (List Does)) (s new : State) → i < length arms → x ≡ get_or arms i x
    → true ≡ (choice x).holds s.store → new ≡ entered true (choice x) s → chosen (map choice (drop i arms)) last s ≡ new
chain_held choice arms i x last s new within here held is =
    chain_more choice arms i x last s within here
    ∙ (λ j. if sym held j then (choice x).block (touch (choice x).arrays s) else chosen (map choice (drop (i + 1) arms)) last (touch (choice x).arrays s))
    ∙ sym is

-- it does not
pub chain_failed : (choice : CheckedArm → Choice) (arms : List CheckedArm) (i : ℕ) (x : CheckedArm) (last : Option (List Does)) (s new : State) → i < length arms → x ≡ get_or arms i x
    → false ≡ (choice x).holds s.store → new ≡ entered false (choice x) s → chosen (map choice (drop (i + 1) arms)) last new ≡ chosen (map choice (drop i arms)) last s
chain_failed choice arms i x last s new within here held is =
    ap (chosen (map choice (drop (i + 1) arms)) last) is
    ∙ sym (chain_more choice arms i x last s within here
    ∙ (λ j. if sym held j then (choice x).block (touch (choice x).arrays s) else chosen (map choice (drop (i + 1) arms)) last (touch (choice x).arrays s)))

-- no arm is left
pub chain_ended : (choice : CheckedArm → Choice) (arms : List CheckedArm) (i : ℕ) (last : Option (List Does)) (s : State) → length arms ≤ i → chosen (map choice (drop i arms)) last s ≡ at_last last s
chain_ended choice arms i last s past = ap (λ l. chosen (map choice l) last s) (drop_all i arms past)

-- a chain, with or without a last block
pub step-Chain : (ix : Indexing) (arms : List CheckedArm) (last : Option (List CheckedStmt)) (st : State) → numbered_step ix (s.If arms last) st ≡ chosen (map (numbered_choice ix) arms) (last_does ix last) st
step-Chain ix arms None st = step-If ix arms st
step-Chain ix arms (Some body) st = step-Else ix arms body st

-- ---- the bench

cells_kept : (infos : List ArrayInfo) → map (λ (i : ArrayInfo). replicate i.length i.start) infos ≡ map (λ (d : Array). replicate d.length d.start) (map array_of infos)
cells_kept [] = refl
cells_kept (i ∷ infos) = ap (λ rest. replicate i.length i.start ∷ rest) (cells_kept infos)

-- each cell starts at its array's start value
pub cells_started : (p : Program) (infos : List ArrayInfo) (i : ℕ) → infos ≡ infos_of p → length infos ≤ i → map (λ (x : ArrayInfo). replicate x.length x.start) (take i infos) ≡ start_cells (names_of p)
cells_started p infos i are all =
    ap (map (λ (x : ArrayInfo). replicate x.length x.start)) (take_all i infos all ∙ are)
    ∙ cells_kept (infos_of p)
    ∙ ap (map (λ (d : Array). replicate d.length d.start)) (infos_are p)

-- ---- marks as a number

-- so many marks give no more than so many bits
pub bits_lt : (marks : List Bool) → bits marks < 2 ^ length marks
bits_lt [] = lit< tt
bits_lt (true ∷ marks) = rw pow-suc (omega (arith, bits_lt marks))
bits_lt (false ∷ marks) = rw pow-suc (omega (arith, bits_lt marks))

-- fewer than 16 marks give fewer than 15 bits
pub bits_fit : (marks : List Bool) (k set : ℕ) → length marks ≤ 16 → k < length marks → set ≡ bits (drop (length marks - k) marks) → set < 32768
bits_fit marks k set few within is =
    let rest : List Bool = drop (length marks - k) marks in
    let counted : length rest ≡ length marks - (length marks - k) = length-drop (length marks - k) marks in
    let small : length rest ≤ 15 = omega (arith, counted) in
    let most : 2 ^ length rest ≤ 32768 = pow-le-pow_right (lit< tt) small in
    omega (arith, is, bits_lt rest, most)

pub bit_le : (mark : Bool) → from_bool mark ≤ 1
bit_le true = lit≤ tt
bit_le false = lit≤ tt

-- ---- one packet

none_marked : (arrays : List Array) → replicate (length arrays) false ≡ map (λ (d : Array). false) arrays
none_marked [] = refl
none_marked (d ∷ arrays) = ap (λ marks. false ∷ marks) (none_marked arrays)

-- so many marks, none of them set
pub untouched_is : (p : Program) (infos : List ArrayInfo) → infos ≡ infos_of p → replicate (length infos) false ≡ untouched (names_of p)
untouched_is p infos are = ap (λ n. replicate n false) (ap length are ∙ length-infos p) ∙ none_marked (names_of p).arrays

-- executing the body in numbers is executing the transaction
pub executed_is : (p : Program) (bench : Held) (body : List CheckedStmt) (fields : List ℤ) (cells held_cells : List (List ℤ)) (touched : List Bool) (after : State)
    → record { program = p; cells = held_cells } ≡ bench → ((start : State) → numbered_exec (indexing p) body start ≡ executed_from p start) → cells ≡ held_cells → touched ≡ untouched (names_of p)
    → after ≡ numbered_exec (indexing p) body (state fields cells touched) → after ≡ executed bench fields
executed_is p bench body fields cells held_cells touched after view meaning cells_are marks is =
    is
    ∙ (λ i. numbered_exec (indexing p) body (state fields (cells_are i) (marks i)))
    ∙ meaning (state fields held_cells (untouched (names_of p)))
    ∙ ap (λ (b : Held). executed b fields) view

-- ---- the shape of the cells

-- as many arrays have cells as are declared
pub rows_there : (names : Names) (cells : List (List ℤ)) (array : ℕ) → HasCells names cells → array < length names.arrays → array < length cells
rows_there names cells array has there = omega (arith, there, ap (λ l. length l) has, length-map cells (λ (c : List ℤ). length c), length-map names.arrays (λ (d : Array). d.length))

-- and each as many as it is declared with
pub cell_there : (names : Names) (cells : List (List ℤ)) (array i : ℕ) → HasCells names cells → array < length names.arrays → i < slice_index (cell_counts names) array → i < length (cells_at cells array)
cell_there names cells array i has there within =
    omega (arith, within, ap (λ l. slice_index l array) has, get_or-map (λ (c : List ℤ). length c) cells array [] 0 (rows_there names cells array has there))

-- the cells of an array that is there
pub row_is : (cells : List (List ℤ)) (array : ℕ) (row : List ℤ) → array < length cells → row ≡ get_or cells array row → row ≡ cells_at cells array
row_is [] array row there is = absurd (omega (arith, there))
row_is (c ∷ cells) zero row there is = is
row_is (c ∷ cells) (suc array) row there is = row_is cells array row (omega (arith, there)) is
