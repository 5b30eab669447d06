use Rattle.std.proofs.Common.{rules, length, ap, ◌∙◌}
use Rattle.std.specs.Option.{unwrap_or}
use Rattle.domino_names.proofs.ScopeLemmas.{array_within}
use Rattle.domino_names.proofs.scope.Scope.array_number.Goals as goal

pub overflow_cast-result : goal.overflow_cast-result
overflow_cast-result c =
    let s = c.self.inside in
    let few = array_within s.symbols.now s.fields.now s.arrays.now c.self.invariant c.args.name.now c.unwrap_or.result (c.unwrap_or.ensures ∙ ap (λ o. unwrap_or o (length s.arrays.now)) c.array.ensures) in
    search rules
