use Rattle.std.proofs.Common.{◌++◌, ◌≤◌, length, inl, inr, sym, ap, subst, ◌∙◌}
use Rattle.std.proofs.lemmas.Result.{err_from_is_err_and}
use Rattle.domino_names.specs.First.{FirstFault, NoFault}
use Rattle.domino_check.specs.Numbering.{accesses}
use Rattle.domino_check.specs.Indexes.{IndexDiffersAt, FirstIndexDiffers}
use Rattle.domino_check.specs.Numbering.{numbered_body}
use Rattle.domino_check.specs.Sites.{IndexMovesAt, FirstIndexMoves, NoneMoves, program_sites}
use Rattle.domino_check.specs.Touches.{touches_of}
use Rattle.domino_check.proofs.SiteForms.{sites_kept}
use Rattle.domino_check.proofs.PartsLemmas.{few_fields_of, few_arrays_of, below_of, accesses_of, table_of, same_length, sites_at, keeps_of, numbers_of}
use Rattle.domino_check.proofs.parts.parts_of.Goals as goal

pub infos_of-requires : goal.infos_of-requires
infos_of-requires c = numbers_of c.args.program.now c.args.symbols.now c.requires.symbols c.requires.names.once

pub number_body-requires-clause-few_fields : goal.number_body-requires-clause-few_fields
number_body-requires-clause-few_fields c = few_fields_of c.args.program.now c.requires.sizes.few

pub number_body-requires-clause-few_arrays : goal.number_body-requires-clause-few_arrays
number_body-requires-clause-few_arrays c =
    subst (λ n. n ≤ 16) (sym (ap length (c.as_slice.ensures ∙ c.in_ok-arrays.ensures))) (few_arrays_of c.args.program.now c.requires.sizes.few)

pub index_table-requires : goal.index_table-requires
index_table-requires c =
    let p = c.args.program.now in
    let found = c.in_ok-body.ensures.accesses ∙ ap (λ l. l ++ accesses p) c.new-accesses.ensures.items in
    below_of p c.as_slice-2.result.now (c.as_slice-2.ensures ∙ c.in_ok-arrays.ensures) c.number_body.new.out.items found c.requires.names

pub returns-in_err-indexes-clause-refuses : goal.returns-in_err-indexes-clause-refuses
returns-in_err-indexes-clause-refuses c =
    let p = c.args.program.now in
    let found = c.in_ok-body.ensures.accesses ∙ ap (λ l. l ++ accesses p) c.new-accesses.ensures.items in
    let e = err_from_is_err_and c.from_residual-in_err-indexes.result c.from_residual-in_err-indexes.ensures.1 in
    rw e.1 (λ n. inl (subst (FirstIndexDiffers p) (sym e.2)
    (accesses_of p c.as_slice-2.result.now (c.as_slice-2.ensures ∙ c.in_ok-arrays.ensures) (λ arrays xs. FirstFault (IndexDiffersAt arrays) xs c.in_err-indexes.field-0.0) c.number_body.new.out.items found
    (c.in_err-indexes.ensures.refuses (λ m. n (e.2 ∙ m))))))

pub check_sites-requires : goal.check_sites-requires
check_sites-requires c =
    let p = c.args.program.now in
    let found = c.in_ok-body.ensures.accesses ∙ ap (λ l. l ++ accesses p) c.new-accesses.ensures.items in
    let table = table_of p c.as_slice-2.result.now (c.as_slice-2.ensures ∙ c.in_ok-arrays.ensures) c.number_body.new.out.items c.in_ok-indexes.indexes found c.in_ok-indexes.ensures.table in
    same_length p c.as_slice-4.result.now (c.as_slice-4.ensures ∙ c.in_ok-arrays.ensures) c.as_slice-5.result.now (c.as_slice-5.ensures ∙ table)

pub returns-in_err-check_sites-clause-refuses : goal.returns-in_err-check_sites-clause-refuses
returns-in_err-check_sites-clause-refuses c =
    let p = c.args.program.now in
    let arrays = c.as_slice-2.ensures ∙ c.in_ok-arrays.ensures in
    let found = c.in_ok-body.ensures.accesses ∙ ap (λ l. l ++ accesses p) c.new-accesses.ensures.items in
    let same = accesses_of p c.as_slice-2.result.now arrays (λ arrays xs. NoFault (IndexDiffersAt arrays) xs) c.number_body.new.out.items found c.in_ok-indexes.ensures.passes in
    let table = table_of p c.as_slice-2.result.now arrays c.number_body.new.out.items c.in_ok-indexes.indexes found c.in_ok-indexes.ensures.table in
    let sites = c.deref.ensures.value ∙ c.in_ok-push_block.ensures ∙ ap (λ l. l ++ touches_of c.as_slice-3.result.now) c.new-sites.ensures.items ∙ ap touches_of (c.as_slice-3.ensures ∙ c.in_ok-body.ensures.body) in
    let kept = sites_kept (numbered_body p) ∙ sym sites in
    let e = err_from_is_err_and c.from_residual-in_err-check_sites.result c.from_residual-in_err-check_sites.ensures.1 in
    rw e.1 (λ n. inr (
      same,
      subst (FirstIndexMoves p) (sym e.2)
          (sites_at p c.as_slice-4.result.now (c.as_slice-4.ensures ∙ c.in_ok-arrays.ensures) (λ arrays indexes. FirstFault (IndexMovesAt arrays indexes) (program_sites p) c.in_err-check_sites.field-0.0) c.as_slice-5.result.now
          (c.as_slice-5.ensures ∙ table) (c.in_err-check_sites.ensures.refuses (λ m. n (e.2 ∙ m)) (program_sites p) kept)),
    ))

pub new-requires : goal.new-requires
new-requires c = subst (λ n. n ≤ 32) (sym (ap length (c.in_ok-fields.ensures ∙ c.as_slice-6.ensures))) (few_fields_of c.args.program.now c.requires.sizes.few)

pub returns-clause-passes : goal.returns-clause-passes
returns-clause-passes c =
    let p = c.args.program.now in
    let arrays = c.as_slice-2.ensures ∙ c.in_ok-arrays.ensures in
    let found = c.in_ok-body.ensures.accesses ∙ ap (λ l. l ++ accesses p) c.new-accesses.ensures.items in
    let table = table_of p c.as_slice-2.result.now arrays c.number_body.new.out.items c.in_ok-indexes.indexes found c.in_ok-indexes.ensures.table in
    let sites = c.deref.ensures.value ∙ c.in_ok-push_block.ensures ∙ ap (λ l. l ++ touches_of c.as_slice-3.result.now) c.new-sites.ensures.items ∙ ap touches_of (c.as_slice-3.ensures ∙ c.in_ok-body.ensures.body) in
    let kept = sites_kept (numbered_body p) ∙ sym sites in
    record {
      same = accesses_of p c.as_slice-2.result.now arrays (λ arrays xs. NoFault (IndexDiffersAt arrays) xs) c.number_body.new.out.items found c.in_ok-indexes.ensures.passes;
      still = sites_at p c.as_slice-4.result.now (c.as_slice-4.ensures ∙ c.in_ok-arrays.ensures) (λ arrays indexes. NoneMoves indexes (program_sites p)) c.as_slice-5.result.now (c.as_slice-5.ensures ∙ table)
          (c.in_ok-check_sites.ensures.passes (program_sites p) kept);
    }

pub returns-clause-parts : goal.returns-clause-parts
returns-clause-parts c =
    let p = c.args.program.now in
    let arrays = c.as_slice-2.ensures ∙ c.in_ok-arrays.ensures in
    let found = c.in_ok-body.ensures.accesses ∙ ap (λ l. l ++ accesses p) c.new-accesses.ensures.items in
    let table = table_of p c.as_slice-2.result.now arrays c.number_body.new.out.items c.in_ok-indexes.indexes found c.in_ok-indexes.ensures.table in
    let sites = c.deref.ensures.value ∙ c.in_ok-push_block.ensures ∙ ap (λ l. l ++ touches_of c.as_slice-3.result.now) c.new-sites.ensures.items ∙ ap touches_of (c.as_slice-3.ensures ∙ c.in_ok-body.ensures.body) in
    let kept = sites_kept (numbered_body p) ∙ sym sites in
    record {
      fields_are = c.new.ensures ∙ c.in_ok-fields.ensures ∙ c.as_slice-6.ensures;
      arrays_are = c.in_ok-arrays.ensures;
      body_is = c.in_ok-body.ensures.body;
      indexes_are = table;
      keeps = keeps_of p c.number_body.new.out.items found c.requires.sizes c.in_ok-indexes.ensures.kept;
      passes = record {
        names = c.requires.names;
        sizes = c.requires.sizes;
        indexes = record {
          same = accesses_of p c.as_slice-2.result.now arrays (λ arrays xs. NoFault (IndexDiffersAt arrays) xs) c.number_body.new.out.items found c.in_ok-indexes.ensures.passes;
          still = sites_at p c.as_slice-4.result.now (c.as_slice-4.ensures ∙ c.in_ok-arrays.ensures) (λ arrays indexes. NoneMoves indexes (program_sites p)) c.as_slice-5.result.now (c.as_slice-5.ensures ∙ table)
              (c.in_ok-check_sites.ensures.passes (program_sites p) kept);
        };
      };
    }
