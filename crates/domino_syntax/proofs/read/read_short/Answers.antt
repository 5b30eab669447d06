use Rattle.std.proofs.Common.{◌≤◌, [], length, ap, ◌∙◌, sym, arith}
use Rattle.std.specs.List.{list_all}
use Rattle.domino_tree.specs.Weight.{is_light}
use Rattle.domino_syntax.specs.Tokens.{is_token}
use Rattle.domino_tree.specs.Grammar.{are_words}
use Rattle.domino_syntax.proofs.PieceLemmas.{tokens_are_names, tokens_are_words}
use Rattle.domino_syntax.proofs.Texts.{has_tokens, place_fits, read_text, refused_text}
use Rattle.domino_syntax.proofs.read.read_short.Goals as goal

pub overflow_cast-result : goal.overflow_cast-result
overflow_cast-result c =
    let heavy = c.in-Some.ensures in
    let tokens = c.deref.result.now in
    let few : length tokens ≤ 65536 = place_fits c.args.text.now tokens (has_tokens c.args.text.now tokens c.in_ok-tokens.tokens.items c.requires c.in_ok-tokens.ensures c.deref.ensures.value) in
    omega (arith, heavy.within, few)

pub returns-in-Some-clause-refused : goal.returns-in-Some-clause-refused
returns-in-Some-clause-refused c = λ other. record {
  tokens = c.deref.result.now;
  cuts = has_tokens c.args.text.now c.deref.result.now c.in_ok-tokens.tokens.items c.requires c.in_ok-tokens.ensures c.deref.ensures.value;
  heavy = c.in-Some.ensures;
}

pub program-requires-clause-named : goal.program-requires-clause-named
program-requires-clause-named c = ap (list_all is_token) c.deref-2.ensures.value ∙ tokens_are_names c.args.text.now [] c.in_ok-tokens.tokens.items c.in_ok-tokens.ensures

pub program-requires-clause-words : goal.program-requires-clause-words
program-requires-clause-words c = ap are_words c.deref-2.ensures.value ∙ tokens_are_words c.args.text.now [] c.in_ok-tokens.tokens.items c.in_ok-tokens.ensures

pub program-requires-clause-short : goal.program-requires-clause-short
program-requires-clause-short c =
    let tokens = c.deref-2.result.now in
    let few : length tokens ≤ 65536 = place_fits c.args.text.now tokens (has_tokens c.args.text.now tokens c.in_ok-tokens.tokens.items c.requires c.in_ok-tokens.ensures c.deref-2.ensures.value) in
    omega (arith, few)

pub returns-clause-read : goal.returns-clause-read
returns-clause-read c =
    read_text c.args.text.now c.deref-2.result.now c.program.result
    (has_tokens c.args.text.now c.deref-2.result.now c.in_ok-tokens.tokens.items c.requires c.in_ok-tokens.ensures c.deref-2.ensures.value)
    (ap is_light (c.deref-2.ensures.value ∙ sym c.deref.ensures.value) ∙ c.in_default.ensures)
    c.program.ensures.read

pub returns-clause-refused : goal.returns-clause-refused
returns-clause-refused c =
    refused_text c.args.text.now c.deref-2.result.now c.program.result
    (has_tokens c.args.text.now c.deref-2.result.now c.in_ok-tokens.tokens.items c.requires c.in_ok-tokens.ensures c.deref-2.ensures.value)
    (ap is_light (c.deref-2.ensures.value ∙ sym c.deref.ensures.value) ∙ c.in_default.ensures)
    c.program.ensures.refused
