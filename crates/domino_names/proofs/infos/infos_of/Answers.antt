use Rattle.std.proofs.Common.{◌≡◌, ◌++◌, List, flat_map, ap, sym, ◌∙◌}
use Rattle.std.proofs.lemmas.Grind.{flat_map-append}
use Rattle.domino_tree.specs.Value.{Defined, names_of}
use Rattle.domino_names.specs.Infos.{item_info}
use Rattle.domino_names.specs.Symbols.{infos_in}
use Rattle.domino_names.proofs.infos.infos_of.Goals as goal

pub returns : goal.returns
returns c =
    let p = c.args.program.now in
    let ds = c.args.symbols.now in
    let first : c.push_infos.new.out ≡ infos_in ds p.before = c.in_ok-push_infos.ensures ∙ ap (λ out. out ++ infos_in ds c.as_slice.result.now) c.new-out.ensures ∙ ap (infos_in ds) c.as_slice.ensures in
    c.in_ok-push_infos-2.ensures
    ∙ (λ i. first i ++ infos_in ds (c.as_slice-2.ensures i))
    ∙ ap (λ (defines : List Defined). flat_map (item_info defines) p.before ++ flat_map (item_info defines) p.after) c.requires.defines
    ∙ sym (flat_map-append (item_info (names_of p).defines) p.before p.after)
