use Rattle.std.proofs.Common.{◌≡◌, ◌<◌, ◌++◌, ◌∷◌, [], length, map, None, get_or, refl, sym, ap, subst, ◌∙◌, rules, arith}
use Rattle.std.proofs.lemmas.List.{map-id}
use Rattle.std.proofs.lemmas.Iterator.Consumers.{YieldsList-turn, YieldsList-so_far, YieldsList-end}
use Rattle.std.proofs.lemmas.Iterator.Adapters.{YieldsList-from_vec}
use Rattle.std.proofs.lemmas.Bool.{false≢true}
use Rattle.domino_names.specs.Infos.{array_of}
use Rattle.domino_names.specs.First.{NoFault}
use Rattle.domino_check.specs.Numbering.{Access}
use Rattle.domino_check.specs.Indexes.{IndexDiffersAt, AreIndexes, AllKeep, index_of, indexes_of}
use Rattle.domino_check.proofs.IndexLemmas.{below_at, plain_from_fine, indexes_more, fine_more, keep_more, indexes_are, is_other, differs_first}
use Rattle.domino_check.proofs.indexes.index_table.Goals as goal

pub note_index-requires : goal.note_index-requires
note_index-requires c =
    let turn = YieldsList-turn (YieldsList-from_vec {s = c.into_iter-access-iterator.result} c.args.accesses.items (search rules) (search rules))
    c.loop-access.yielded c.loop-access.access-iterator c.loop-access.yielded_by c.next.result c.next.new.self c.in-Some.access c.in-Some.is c.next.ensures.steps in
    let x : Access = record { array = c.into_parts-array.result.0; index = c.into_parts-array.result.1 } in
    let same : x ≡ c.in-Some.access = λ i. record { array = (c.into_parts-array.ensures i).0; index = (c.into_parts-array.ensures i).1 } in
    let taken = subst (λ (y : Access). (length c.loop-access.yielded < length c.args.accesses.items) × (y ≡ get_or c.args.accesses.items (length c.loop-access.yielded) y)) (sym same) turn in
    omega (arith, below_at (length c.args.arrays.now) c.args.accesses.items (length c.loop-access.yielded) x c.requires taken.0 taken.1, c.loop-access.invariant.table.0)

pub differs-requires : goal.differs-requires
differs-requires c =
    let turn = YieldsList-turn (YieldsList-from_vec {s = c.into_iter-access-iterator.result} c.args.accesses.items (search rules) (search rules))
    c.loop-access.yielded c.loop-access.access-iterator c.loop-access.yielded_by c.next.result c.next.new.self c.in-Some.access c.in-Some.is c.next.ensures.steps in
    let x : Access = record { array = c.into_parts-array.result.0; index = c.into_parts-array.result.1 } in
    let same : x ≡ c.in-Some.access = λ i. record { array = (c.into_parts-array.ensures i).0; index = (c.into_parts-array.ensures i).1 } in
    let taken = subst (λ (y : Access). (length c.loop-access.yielded < length c.args.accesses.items) × (y ≡ get_or c.args.accesses.items (length c.loop-access.yielded) y)) (sym same) turn in
    below_at (length c.args.arrays.now) c.args.accesses.items (length c.loop-access.yielded) x c.requires taken.0 taken.1

pub returns-then-not-note_index-clause-refuses : goal.returns-then-not-note_index-clause-refuses
returns-then-not-note_index-clause-refuses c =
    let list = YieldsList-from_vec {s = c.into_iter-access-iterator.result} c.args.accesses.items (search rules) (search rules) in
    let turn = YieldsList-turn (YieldsList-from_vec {s = c.into_iter-access-iterator.result} c.args.accesses.items (search rules) (search rules))
    c.loop-access.yielded c.loop-access.access-iterator c.loop-access.yielded_by c.next.result c.next.new.self c.in-Some.access c.in-Some.is c.next.ensures.steps in
    let x : Access = record { array = c.into_parts-array.result.0; index = c.into_parts-array.result.1 } in
    let same : x ≡ c.in-Some.access = λ i. record { array = (c.into_parts-array.ensures i).0; index = (c.into_parts-array.ensures i).1 } in
    let taken = subst (λ (y : Access). (length c.loop-access.yielded < length c.args.accesses.items) × (y ≡ get_or c.args.accesses.items (length c.loop-access.yielded) y)) (sym same) turn in
    let so_far = YieldsList-so_far list c.loop-access.yielded c.loop-access.access-iterator c.loop-access.yielded_by in
    let within = below_at (length c.args.arrays.now) c.args.accesses.items (length c.loop-access.yielded) x c.requires taken.0 taken.1 in
    λ real.
    differs_first (map array_of c.args.arrays.now) (length c.args.arrays.now) c.args.accesses.items c.loop-access.yielded x c.loop-access.table c.differs.result within c.loop-access.invariant.table
    (sym (map-id c.loop-access.yielded) ∙ so_far) taken c.loop-access.invariant.fine
    (is_other (get_or c.loop-access.table x.array None) x.index (λ n. false≢true (c.if-not-note_index.ensures.same.1 n))) (c.differs.ensures real)

pub loop-access-preserved : goal.loop-access-preserved
loop-access-preserved c =
    let turn = YieldsList-turn (YieldsList-from_vec {s = c.into_iter-access-iterator.result} c.args.accesses.items (search rules) (search rules))
    c.loop-access.yielded c.loop-access.access-iterator c.loop-access.yielded_by c.next.result c.next.new.self c.in-Some.access c.in-Some.is c.next.ensures.steps in
    let x : Access = record { array = c.into_parts-array.result.0; index = c.into_parts-array.result.1 } in
    let same : x ≡ c.in-Some.access = λ i. record { array = (c.into_parts-array.ensures i).0; index = (c.into_parts-array.ensures i).1 } in
    let taken = subst (λ (y : Access). (length c.loop-access.yielded < length c.args.accesses.items) × (y ≡ get_or c.args.accesses.items (length c.loop-access.yielded) y)) (sym same) turn in
    let arrays = map array_of c.args.arrays.now in
    let count = length c.args.arrays.now in
    let within = below_at count c.args.accesses.items (length c.loop-access.yielded) x c.requires taken.0 taken.1 in
    let plain = plain_from_fine arrays c.loop-access.yielded c.loop-access.invariant.fine in
    record {
      fine = subst (λ (y : Access). NoFault (IndexDiffersAt arrays) (c.loop-access.yielded ++ y ∷ [])) same
          (fine_more arrays count c.loop-access.yielded x c.loop-access.table within c.loop-access.invariant.table c.loop-access.invariant.fine (c.if-not-note_index.ensures.same.0 refl));
      kept = subst (λ (y : Access). AllKeep (index_of (c.loop-access.yielded ++ y ∷ [])) (c.loop-access.yielded ++ y ∷ [])) same
          (keep_more count c.loop-access.yielded x c.loop-access.table plain within c.loop-access.invariant.table c.loop-access.invariant.kept (c.if-not-note_index.ensures.agrees refl));
      table = subst (λ (y : Access). AreIndexes (c.loop-access.yielded ++ y ∷ []) count c.note_index.new.table) same
          (indexes_more count c.loop-access.yielded x c.loop-access.table c.note_index.new.table plain within c.loop-access.invariant.table (c.if-not-note_index.ensures.kept refl));
    }

pub returns-clause-table : goal.returns-clause-table
returns-clause-table c =
    let end = YieldsList-end (YieldsList-from_vec {s = c.into_iter-access-iterator.result} c.args.accesses.items (search rules) (search rules))
    c.loop-access.yielded c.loop-access.access-iterator c.loop-access.yielded_by c.next.result c.next.new.self c.in-None.is c.next.ensures.steps in
    indexes_are c.loop-access.yielded (length c.args.arrays.now) c.loop-access.table c.loop-access.invariant.table
    ∙ ap (λ xs. indexes_of xs (length c.args.arrays.now)) (sym (map-id c.loop-access.yielded) ∙ end.0)
