-- one line more is done
use Rattle.std.proofs.Common.{◌<◌, ◌+◌, ◌∙◌, length, drop, get_or, ap, subst}
use Rattle.ssa_flatten.specs.Flattening.{flat_start, flat_line}
use Rattle.ssa_flatten.specs.Views.{held, view}
use Rattle.ssa_flatten.proofs.Going.{Going, drop_next, begins, goes, arrays_there, behind, room}
use Rattle.ssa_flatten.proofs.pass.code_of.Goals as goal

pub loop-line-init : goal.loop-line-init
loop-line-init c =
    let g = c.args.code.now in
    begins g.fields g.arrays g.lines g.valid (held c.in_ok-sofar.sofar) (c.in_ok-sofar.ensures ∙ ap (λ a. view (flat_start g.fields a)) c.as_slice-shapes.ensures)

pub line-requires-clause-there : goal.line-requires-clause-there
line-requires-clause-there c =
    let g = c.args.code.now in
    let i = c.loop-line.line-index in
    let inside : i < length g.lines = subst (λ l. i < length l) c.as_slice-line-items.ensures c.loop-line-test.true in
    let next = drop_next g.lines i c.line-item.result inside (c.line-item.is ∙ ap (λ l. get_or l i c.line-item.result) c.as_slice-line-items.ensures) in
    rw c.as_slice-shapes.ensures (arrays_there g.fields g.arrays g.lines g.valid (held c.loop-line.sofar) c.line-item.result (drop (i + 1) g.lines)
    (subst (Going g.fields g.arrays g.lines g.valid (held c.loop-line.sofar)) next c.loop-line.invariant))

pub line-requires-clause-behind : goal.line-requires-clause-behind
line-requires-clause-behind c =
    let g = c.args.code.now in
    behind g.fields g.arrays g.lines g.valid (held c.loop-line.sofar) (drop c.loop-line.line-index g.lines) c.loop-line.invariant

pub line-requires-clause-room : goal.line-requires-clause-room
line-requires-clause-room c =
    let g = c.args.code.now in
    let i = c.loop-line.line-index in
    let inside : i < length g.lines = subst (λ l. i < length l) c.as_slice-line-items.ensures c.loop-line-test.true in
    let next = drop_next g.lines i c.line-item.result inside (c.line-item.is ∙ ap (λ l. get_or l i c.line-item.result) c.as_slice-line-items.ensures) in
    rw c.as_slice-shapes.ensures (room g.fields g.arrays g.lines g.valid c.requires (held c.loop-line.sofar) c.line-item.result (drop (i + 1) g.lines)
    (subst (Going g.fields g.arrays g.lines g.valid (held c.loop-line.sofar)) next c.loop-line.invariant))

pub loop-line-preserved : goal.loop-line-preserved
loop-line-preserved c =
    let g = c.args.code.now in
    let i = c.loop-line.line-index in
    let inside : i < length g.lines = subst (λ l. i < length l) c.as_slice-line-items.ensures c.loop-line-test.true in
    let next = drop_next g.lines i c.line-item.result inside (c.line-item.is ∙ ap (λ l. get_or l i c.line-item.result) c.as_slice-line-items.ensures) in
    goes g.fields g.arrays g.lines g.valid (held c.loop-line.sofar) (held c.line.new.self) c.line-item.result (drop (i + 1) g.lines)
    (subst (Going g.fields g.arrays g.lines g.valid (held c.loop-line.sofar)) next c.loop-line.invariant)
    (λ s is. c.in_ok-line.ensures s is ∙ ap (λ a. view (flat_line g.fields a s c.line-item.result)) c.as_slice-shapes.ensures)
