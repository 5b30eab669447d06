use Rattle.std.proofs.Common.{◌≡◌, ◌++◌, ◌∷◌, [], None, ap, sym, ◌∙◌}
use Rattle.indexmap.proofs.CallerLemmas.{insert_entry-new}
use Rattle.domino_names.specs.Declarations.{class_of}
use Rattle.domino_names.specs.Symbols.{Entry, symbol_in, named_at, named_in}
use Rattle.domino_names.proofs.TableLemmas.{found, classed_more, named_more, none_of}
use Rattle.domino_names.proofs.symbol_table.Symbols.declare.Goals as goal

pub invariant_of-self-2 : goal.invariant_of-self-2
invariant_of-self-2 c =
    let old = c.self.inside.table in
    let class = c.class-class.result in
    let name = c.args.name.now in
    let entry : Entry = ((class, c.args.name), c.args.symbol) in
    let absent : symbol_in class name (named_in old.entries) ≡ None = ap (symbol_in class name) c.self.view_is ∙ sym c.get.ensures ∙ none_of c.get.result (sym c.is_some.ensures ∙ c.if-is_some.false) in
    let last = c.in_ok-insert.ensures.entries ∙ insert_entry-new _ old (class, c.args.name) c.args.symbol (found old.entries c.self.invariant class name ∙ absent) in
    rw last (classed_more old.entries entry c.self.invariant (c.class-class.ensures ∙ ap class_of c.kind.ensures))

pub returns-clause-held : goal.returns-clause-held
returns-clause-held c =
    let old = c.self.inside.table in
    let class = c.class-class.result in
    let name = c.args.name.now in
    let entry : Entry = ((class, c.args.name), c.args.symbol) in
    let absent : symbol_in class name (named_in old.entries) ≡ None = ap (symbol_in class name) c.self.view_is ∙ sym c.get.ensures ∙ none_of c.get.result (sym c.is_some.ensures ∙ c.if-is_some.false) in
    let last = c.in_ok-insert.ensures.entries ∙ insert_entry-new _ old (class, c.args.name) c.args.symbol (found old.entries c.self.invariant class name ∙ absent) in
    ap named_in last ∙ named_more old.entries entry ∙ ap (λ l. l ++ named_at entry ∷ []) c.self.view_is
