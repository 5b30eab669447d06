use Rattle.std.proofs.Common.{sym, subst, arith}
use Rattle.domino_names.specs.Infos.{infos_of}
use Rattle.report_text.specs.declared.cells.CellPlace.{CellPlace}
use Rattle.report_text.specs.declared.accesses.EntryPlace.{EntryPlace}
use Rattle.report_text.specs.Told.{IsReport}
use Rattle.report_text.proofs.CellLemmas.{at-start}
use Rattle.report_text.proofs.report.Report.new.Goals as goal

pub invariant_of-result : goal.invariant_of-result
invariant_of-result c =
    subst (λ (cells : CellPlace). IsReport c.args.checked.now c.args.code.now c.args.answer.now c.args.style cells c.start-2.result) (sym c.start.ensures)
    (subst (λ (accesses : EntryPlace). IsReport c.args.checked.now c.args.code.now c.args.answer.now c.args.style (record { array = 0; cell = 0; at = 0; before = 0 }) accesses) (sym c.start-2.ensures) (record {
      program = c.requires.program;
      trace = c.requires.trace;
      at_cell = at-start (infos_of c.args.checked.now) c.args.answer.now.cells.items c.requires.program.cells;
      at_entry = record { inside = omega arith; counted = omega arith };
    }))
