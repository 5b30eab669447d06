-- the code that the passes make is compiled code of the program
use Rattle.std.proofs.Common.{◌≤◌, subst}
use Rattle.std.proofs.lemmas.Result.{err_from_is_err_and}
use Rattle.domino_compile.specs.GroupsCode.{IsCodeOf}
use Rattle.domino_compile.proofs.CountLemmas.{lines_counted}
use Rattle.domino_compile.proofs.CompiledLemmas.{is_packed, is_compiled, is_too_large}
use Rattle.domino_compile.proofs.passes.staged_code.Goals as goal

pub resolve-requires : goal.resolve-requires
resolve-requires c =
    is_packed c.in_ok-flat.flat c.in_ok-layout.layout c.in_ok-codelets.codelets.of c.in_ok-codelets.ensures c.in_ok-layout.ensures.layout c.in_ok-layout.ensures.ordered

pub returns-in_err-flat-clause-refused : goal.returns-in_err-flat-clause-refused
returns-in_err-flat-clause-refused c =
    let p = c.args.source.now in
    let lines = c.in_ok-guarded in
    let checked = c.program-program.ensures in
    let e = err_from_is_err_and c.from_residual-in_err-flat.result c.from_residual-in_err-flat.ensures.1 in
    rw e.1 (is_too_large p lines.guarded _ e.0 (lines_counted p lines.guarded lines.ensures.arrays lines.ensures.lines checked.passes.names checked.keeps.indexed) e.2 c.in_err-flat.ensures.refused)

pub returns-clause-few : goal.returns-clause-few
returns-clause-few c =
    let p = c.args.source.now in
    let lines = c.in_ok-guarded in
    let checked = c.program-program.ensures in
    subst (λ n. n ≤ 1024) (lines_counted p lines.guarded lines.ensures.arrays lines.ensures.lines checked.passes.names checked.keeps.indexed) c.in_ok-flat.ensures.few

pub returns-clause-compiled : goal.returns-clause-compiled
returns-clause-compiled c =
    let p = c.args.source.now in
    let lines = c.in_ok-guarded in
    let code = c.in_ok-flat in
    let resolved = c.in_ok-resolve.ensures in
    let packed = is_packed code.flat c.in_ok-layout.layout c.in_ok-codelets.codelets.of c.in_ok-codelets.ensures c.in_ok-layout.ensures.layout c.in_ok-layout.ensures.ordered in
    let is : IsCodeOf p lines.guarded code.flat = record {
      passes = c.program-program.ensures.passes;
      keeps = c.program-program.ensures.keeps;
      fields = lines.ensures.fields;
      arrays = lines.ensures.arrays;
      lines = lines.ensures.lines;
      width = code.ensures.fields;
      instrs = code.ensures.instrs;
      last = code.ensures.last;
      flat_arrays = code.ensures.arrays;
    } in
    is_compiled p lines.guarded code.flat c.in_ok-layout.layout c.in_ok-resolve.field-0 is lines.ensures.keeps code.ensures.words packed resolved.parts (record {
      staged = resolved.staged;
      places = resolved.places;
      indexes = resolved.indexes;
      untouched = resolved.untouched;
    })
