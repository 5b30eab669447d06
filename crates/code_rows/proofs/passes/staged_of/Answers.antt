-- the layout is that of the code
use Rattle.code_rows.proofs.passes.staged_of.Goals as goal

pub resolve-requires : goal.resolve-requires
resolve-requires c = record {
  classes = c.in_ok-codelets.codelets.of;
  codelets = c.in_ok-codelets.ensures;
  layout = c.in_ok-layout.ensures.layout;
  ordered = c.in_ok-layout.ensures.ordered;
}
