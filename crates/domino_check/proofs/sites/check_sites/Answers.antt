use Rattle.std.proofs.Common.{rules, arith, ◌≡◌, Some, None, replicate, false, List, ◌++◌, ◌∷◌, [], length, map, take, drop, suc, sym, ap, subst, ◌∙◌}
use Rattle.std.proofs.lemmas.List.{take_all, length-map}
use Rattle.mp5_words.specs.Cells.{touching}
use Rattle.domino_names.specs.First.{FirstFault}
use Rattle.domino_names.specs.Infos.{array_of}
use Rattle.domino_check.specs.Sites.{Site, IndexMovesAt, NoneMoves}
use Rattle.domino_check.specs.Touches.{touch_of, MovedBy}
use Rattle.domino_check.proofs.SiteLemmas.{touched_by, site_at, marks_more, marks_are, first_moved, none_moved, none_push, none_at_start, moves_first}
use Rattle.domino_check.proofs.sites.check_sites.Goals as goal

pub loop-site-init : goal.loop-site-init
loop-site-init c = λ all are.
    let start : c.as_mut_slice-touched.result.now ≡ replicate (length c.args.indexes.now) false = search rules in
    (start, none_at_start c.args.indexes.now)

pub returns-in-Some-clause-refuses : goal.returns-in-Some-clause-refuses
returns-in-Some-clause-refuses c = λ real all are.
    let indexes = c.args.indexes.now in
    let i = c.loop-site.site-index in
    let at = site_at all c.args.sites.now i c.site-item.result are c.loop-site-test.true c.site-item.is in
    let so_far = c.loop-site.invariant all are in
    let now = c.mark_all.ensures ∙ ap (λ arrays. touching arrays c.loop-site.touched) c.as_slice.ensures in
    let marks = marks_more (length indexes) (take i all) at.site c.site-item.result c.loop-site.touched c.mark_all.new.touched at.kept so_far.0 now in
    let front : List Site = take i all ++ at.site ∷ [] in
    let moved = first_moved indexes c.mark_all.new.touched front (marks_are (length indexes) front c.mark_all.new.touched marks) at.site.assigns c.in-Some.array
    (subst (λ t. MovedBy c.mark_all.new.touched indexes t (Some c.in-Some.array)) (ap (λ t. t.field) at.kept) c.in-Some.ensures) in
    subst (λ l. FirstFault (IndexMovesAt (map array_of c.args.arrays.now) indexes) l c.moves.result) (sym at.rest)
    (moves_first (map array_of c.args.arrays.now) indexes (take i all) (drop (suc i) all) at.site c.in-Some.array c.moves.result so_far.1 moved (c.moves.ensures real))

pub loop-site-preserved : goal.loop-site-preserved
loop-site-preserved c = λ all are.
    let indexes = c.args.indexes.now in
    let i = c.loop-site.site-index in
    let at = site_at all c.args.sites.now i c.site-item.result are c.loop-site-test.true c.site-item.is in
    let so_far = c.loop-site.invariant all are in
    let now = c.mark_all.ensures ∙ ap (λ arrays. touching arrays c.loop-site.touched) c.as_slice.ensures in
    let marks = marks_more (length indexes) (take i all) at.site c.site-item.result c.loop-site.touched c.mark_all.new.touched at.kept so_far.0 now in
    let front : List Site = take i all ++ at.site ∷ [] in
    let none = none_moved indexes c.mark_all.new.touched front (marks_are (length indexes) front c.mark_all.new.touched marks) at.site.assigns
    (subst (λ t. MovedBy c.mark_all.new.touched indexes t None) (ap (λ t. t.field) at.kept) c.in_default.ensures) in
    (marks ∙ ap (touched_by (length indexes)) (sym at.more), subst (NoneMoves indexes) (sym at.more) (none_push indexes (take i all) at.site so_far.1 none))

pub returns-clause-passes : goal.returns-clause-passes
returns-clause-passes c = λ all are.
    let long : length all ≡ length c.args.sites.now = sym (length-map all touch_of) ∙ ap length are in
    subst (NoneMoves c.args.indexes.now) (take_all c.loop-site.site-index all (omega (arith, long, c.loop-site-test.false))) (c.loop-site.invariant all are).1
