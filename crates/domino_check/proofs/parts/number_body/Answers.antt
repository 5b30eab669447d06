use Rattle.std.proofs.Common.{◌≡◌, List, ◌++◌, map, IfOk, OnOk, subst, ◌∙◌}
use Rattle.domino_tree.specs.declared.program.Stmt.{Stmt}
use Rattle.domino_tree.specs.Value.{Names, names_of}
use Rattle.domino_check.specs.Numbering.{numbered_stmt, block_accesses}
use Rattle.domino_check.proofs.PartsLemmas.{scope_of, scope_is}
use Rattle.domino_check.proofs.parts.number_body.Goals as goal

pub new-scope-requires : goal.new-scope-requires
new-scope-requires c = scope_of c.args.program.now c.args.symbols.now c.as_slice.result.now c.args.arrays.now c.requires.symbols c.as_slice.ensures c.requires.arrays c.requires.once c.requires.few_fields c.requires.few_arrays

pub returns-clause-body : goal.returns-clause-body
returns-clause-body c =
    let p = c.args.program.now in
    let scope : c.new-scope.result ≡ names_of p = c.new-scope.ensures ∙ scope_is p c.args.symbols.now c.as_slice.result.now c.args.arrays.now c.requires.symbols c.as_slice.ensures c.requires.arrays in
    subst (λ (b : List Stmt). IfOk c.number_block.result (λ t. t ≡ map (numbered_stmt (names_of p)) b)) c.as_slice-2.ensures
    (subst (λ (n : Names). IfOk c.number_block.result (λ t. t ≡ map (numbered_stmt n) c.as_slice-2.result.now)) scope c.number_block.ensures.trees)

pub returns-clause-accesses : goal.returns-clause-accesses
returns-clause-accesses c =
    let p = c.args.program.now in
    let scope : c.new-scope.result ≡ names_of p = c.new-scope.ensures ∙ scope_is p c.args.symbols.now c.as_slice.result.now c.args.arrays.now c.requires.symbols c.as_slice.ensures c.requires.arrays in
    subst (λ (b : List Stmt). OnOk c.number_block.result (c.number_block.new.accesses.items ≡ c.args.out.now.items ++ block_accesses (names_of p) b)) c.as_slice-2.ensures
    (subst (λ (n : Names). OnOk c.number_block.result (c.number_block.new.accesses.items ≡ c.args.out.now.items ++ block_accesses n c.as_slice-2.result.now)) scope c.number_block.ensures.accesses)
