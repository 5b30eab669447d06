use Rattle.std.proofs.Common.{◌≡◌, ◌∙◌, ◌+◌, ◌<◌, ◌≤◌, length, ap, sym, arith}
use Rattle.std.specs.List.{flat_map}
use Rattle.std.proofs.lemmas.List.{take_all}
use Rattle.domino_tree.specs.Value.{names_of}
use Rattle.domino_names.proofs.InfoLemmas.{length-infos}
use Rattle.switch_runner.proofs.RunLemmas.{arrays_there, declared_at, cells_of_array, arrays_more, count_within, count_more}
use Rattle.switch_runner.proofs.run.push_arrays.Goals as goal

pub push_array-requires-clause-array : goal.push_array-requires-clause-array
push_array-requires-clause-array c =
    let count : length c.args.infos.now ≡ length (names_of c.args.bench.now.program).arrays = ap length c.requires.infos ∙ length-infos c.args.bench.now.program in
    omega (arith, count, c.loop-array-test.true)

pub push_array-requires-clause-declared : goal.push_array-requires-clause-declared
push_array-requires-clause-declared c = declared_at c.args.bench.now.program c.args.infos.now c.loop-array.array c.index-infos-array.result c.requires.infos c.loop-array-test.true c.index-infos-array.is

pub push_array-requires-clause-held : goal.push_array-requires-clause-held
push_array-requires-clause-held c =
    cells_of_array c.args.bench.now.program c.args.infos.now c.args.bench.now.cells c.loop-array.array c.index-infos-array.result c.requires.infos c.requires.held c.loop-array-test.true c.index-infos-array.is

pub push_array-requires-clause-room : goal.push_array-requires-clause-room
push_array-requires-clause-room c =
    let within = count_within c.args.infos.now c.loop-array.array c.index-infos-array.result c.loop-array-test.true c.index-infos-array.is in
    omega (arith, within, c.loop-array.invariant.len, c.loop-array.invariant.capacity, c.requires.room)

pub loop-array-preserved : goal.loop-array-preserved
loop-array-preserved c =
    let there : c.loop-array.array < length c.args.bench.now.cells = omega (arith, arrays_there c.args.bench.now.program c.args.infos.now c.args.bench.now.cells c.requires.infos c.requires.held, c.loop-array-test.true) in
    record {
      items = arrays_more c.args.bench.now.cells c.loop-array.array _ _ there c.loop-array.invariant.items c.push_array.ensures.items;
      len = c.push_array.ensures.len ∙ ap (λ n. n + c.index-infos-array.result.length) c.loop-array.invariant.len ∙ sym (count_more c.args.infos.now c.loop-array.array c.index-infos-array.result c.loop-array-test.true c.index-infos-array.is);
      capacity = c.push_array.ensures.capacity ∙ c.loop-array.invariant.capacity;
    }

pub returns : goal.returns
returns c =
    let all : length c.args.bench.now.cells ≤ c.loop-array.array = omega (arith, arrays_there c.args.bench.now.program c.args.infos.now c.args.bench.now.cells c.requires.infos c.requires.held, c.loop-array-test.false) in
    c.loop-array.invariant.items ∙ ap (λ l. flat_map (λ c. c) l) (take_all c.loop-array.array c.args.bench.now.cells all)
