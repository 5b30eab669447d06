use Rattle.std.proofs.Common.{◌∙◌, ap}
use Rattle.domino_names.specs.Symbols.{symbol_in}
use Rattle.domino_names.proofs.TableLemmas.{found}
use Rattle.domino_names.proofs.symbol_table.Symbols.get.Goals as goal

pub returns : goal.returns
returns c = c.copied.ensures ∙ c.get.ensures.value ∙ found c.self.inside.table.entries c.self.invariant c.args.class c.args.name.now ∙ ap (symbol_in c.args.class c.args.name.now) c.self.view_is
