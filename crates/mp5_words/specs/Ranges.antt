-- The ranges of the numbers that a switch is run with.
use Rattle.std.specs.Prelude.{ℕ, ◌≤◌}
use Rattle.mp5_words.specs.declared.settings.TheConstants.{MAX_PIPELINES, MAX_WINDOW, MAX_ROUND}

-- pipelines, window and round are each within their range
pub record AreSettings (pipelines window round : ℕ) : Type 0 where
  pub some_pipeline : 1 ≤ pipelines
  pub most_pipelines : pipelines ≤ MAX_PIPELINES
  pub some_window : 1 ≤ window
  pub most_window : window ≤ MAX_WINDOW
  pub some_round : 1 ≤ round
  pub most_round : round ≤ MAX_ROUND
