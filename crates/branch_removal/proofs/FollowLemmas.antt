-- The guarded lines of a program do what the walk over it does, over values of any kind.
use Rattle.std.proofs.Common.{◌≡◌, List, length, None, Some, Option, refl, ap, ◌∙◌}
use Rattle.mp5_words.specs.Copies.{on_fields}
use Rattle.mp5_words.specs.Domain.{Ops, Domain}
use Rattle.domino_tree.specs.declared.program.Program.{Program}
use Rattle.domino_tree.specs.Value.{names_of}
use Rattle.domino_check.specs.declared.numbered.CheckedExpr.{CheckedExpr}
use Rattle.domino_check.specs.Indexes.{index_of}
use Rattle.domino_check.specs.Numbering.{numbered_body, accesses}
use Rattle.domino_names.specs.NamesRefused.{PassesNames}
use Rattle.domino_check.specs.SourceWalk.{source_indexes}
use Rattle.domino_check.specs.Walk.{walk_index, walked}
use Rattle.domino_names.proofs.InfoLemmas.{length-infos}
use Rattle.code_forms.specs.GuardMeaning.{Guarded, index_value, indexes_of}
use Rattle.branch_removal.specs.Followed.{Follows}
use Rattle.branch_removal.specs.GuardedLines.{guarded_index, body_lines}
use Rattle.branch_removal.specs.Shapes.{shapes_of}
use Rattle.branch_removal.proofs.ShapeLemmas.{shapes_long, index_same}
use Rattle.branch_removal.proofs.WalkLemmas.{same_walk, body_follows}

index_walks : (V : Type 0) (o : Ops V) (index : Option CheckedExpr) (fields : List V) → index_value V o (guarded_index index) fields ≡ walk_index V o index fields
index_walks V o None fields = refl
index_walks V o (Some x) fields = (same_walk V o x).0 (on_fields V o fields)

module _ (p : Program) (passes : PassesNames p) (V : Type 0) (d : Domain V) where
  indexes_walk : indexes_of V d.ops (shapes_of p) ≡ source_indexes V d.ops p
  indexes_walk = λ i a fields. (ap (λ x. index_value V d.ops x fields) (index_same p passes a) ∙ index_walks V d.ops (index_of (accesses p) a) fields) i

  pub lines_follow : Follows V d p (shapes_of p) (body_lines (numbered_body p))
  lines_follow header =
      let long : length (shapes_of p) ≡ length (names_of p).arrays = shapes_long p ∙ length-infos p in
      let ends = (body_follows V d (indexes_of V d.ops (shapes_of p)) (numbered_body p) (length (shapes_of p)) header).1 in
      record {
        fields = ap (λ (g : Guarded V). g.fields) ends ∙ (λ i. (walked V d (indexes_walk i) (numbered_body p) (long i) header).fields);
        copies = ap (λ (g : Guarded V). g.copies) ends ∙ (λ i. (walked V d (indexes_walk i) (numbered_body p) (long i) header).copies);
      }
