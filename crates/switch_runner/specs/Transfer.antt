-- One turn of reading a file from its front.
use Rattle.std.specs.Prelude.{◌≡◌, ◌≤◌, ◌<◌, ℕ, List, ◌++◌, length, take, drop}

-- n bytes that follow a text were added to it; none, where there was room, means that the text is whole
pub record ReadsOn (bytes text : List ℕ) (n room : ℕ) (longer : List ℕ) : Type 0 where
  pub read : longer ≡ text ++ take n (drop (length text) bytes)
  pub end : n ≡ 0 → 0 < room → length bytes ≤ length text
