-- a loaded array is touched as it stands, another once it is loaded
use Rattle.std.proofs.Common.{◌≡◌, ◌∙◌, ◌<◌, sym, ap, slice_set, get_or, length, length-set, None, Some, arith}
use Rattle.std.proofs.lemmas.List.{with_items_is}
use Rattle.ssa_flatten.specs.Views.{View, held, touched_view, no_array, with_guard}
use Rattle.ssa_flatten.proofs.TouchViews.{touch_some, touch_none, guard_added}
use Rattle.ssa_flatten.proofs.Unloaded.{any_default}
use Rattle.ssa_flatten.proofs.sofar.Sofar.touch.Goals as goal

pub returns-in-Some-clause-line : goal.returns-in-Some-clause-line
returns-in-Some-clause-line c s is =
    let h : View = held c.args.self.now in
    let there : c.args.array < length c.args.self.now.copies.items = omega (arith, c.requires.there, c.requires.copies) in
    let some : get_or h.copies c.args.array None ≡ Some c.in-Some._word =
    any_default c.args.self.now.copies.items c.args.array None c.index.result.now there ∙ sym c.index.ensures ∙ c.in-Some.is in
    let lists = c.in_ok-add_guard.ensures ∙ (λ i. slice_set (c.deref_mut.ensures.value i) c.args.array (with_guard (get_or (c.deref_mut.ensures.value i) c.args.array no_array) c.args.on)) in
    let both = guard_added c.args.self.now.arrays.items _ c.args.array c.args.on (with_items_is c.args.self.now.arrays c.add_guard.new.arrays (ap length c.in_ok-add_guard.ensures ∙ length-set c.deref_mut.result.now c.args.array _ ∙ c.deref_mut.ensures.len) ∙ lists) in
    (λ i. record { instrs = h.instrs; next = h.next; fields = h.fields; copies = h.copies; guards = h.guards; touched = both.0 i; later = both.1 i })
    ∙ touch_some c.args.shapes.now c.args.on c.in-Some._word c.args.array s h is some

pub returns-clause-line : goal.returns-clause-line
returns-clause-line c s is =
    let h : View = held c.args.self.now in
    let there : c.args.array < length c.args.self.now.copies.items = omega (arith, c.requires.there, c.requires.copies) in
    let none : get_or h.copies c.args.array None ≡ None =
    any_default c.args.self.now.copies.items c.args.array None c.index.result.now there ∙ sym c.index.ensures ∙ c.in_default.is in
    let g : View = held c.load.new.self in
    let lists = c.in_ok-add_guard-2.ensures ∙ (λ i. slice_set (c.deref_mut-2.ensures.value i) c.args.array (with_guard (get_or (c.deref_mut-2.ensures.value i) c.args.array no_array) c.args.on)) in
    let both = guard_added c.load.new.self.arrays.items _ c.args.array c.args.on (with_items_is c.load.new.self.arrays c.add_guard-2.new.arrays (ap length c.in_ok-add_guard-2.ensures ∙ length-set c.deref_mut-2.result.now c.args.array _ ∙ c.deref_mut-2.ensures.len) ∙ lists) in
    (λ i. record { instrs = g.instrs; next = g.next; fields = g.fields; copies = g.copies; guards = g.guards; touched = both.0 i; later = both.1 i })
    ∙ ap (touched_view c.args.on c.args.array) c.in_ok-load.ensures.line
    ∙ touch_none c.args.shapes.now c.args.on c.args.array s h is none
