use Rattle.std.proofs.Common.{rules, ◌≡◌, ◌∙◌, ◌*◌, List, ℤ, length, sym, ap}
use Rattle.std.specs.List.{flat_map}
use Rattle.capture_io.proofs.PacketRows.{flat-rows}
use Rattle.capture_io.proofs.capture.Capture.into_words.Goals as goal

pub returns : goal.returns
returns c =
    let inside = c.self.inside in
    let long : length inside.words.items ≡ inside.packets * inside.width = search rules in
    sym (flat-rows inside.packets inside.width inside.words.items long) ∙ ap (λ (rows : List (List ℤ)). flat_map (λ (row : List ℤ). row) rows) c.self.view_is
