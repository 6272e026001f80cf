-- Which bytes are a URL.
use Rattle.std.specs.Prelude.{◌≢◌, ℕ, ◌<◌, ◌≤◌, List, [], length, slice_index}

-- printable ASCII without the space
abbrev pub IsUrlByte : ℕ → Type 0
IsUrlByte b = (33 ≤ b) × (b ≤ 126)

-- the first byte of a text that no URL has
pub record IsFirstBadByte (text : List ℕ) (at : ℕ) : Type 0 where
  pub within : at < length text
  pub bad : ¬ IsUrlByte (slice_index text at)
  pub first : (k : ℕ) → k < at → IsUrlByte (slice_index text k)

-- 1 to 2,048 bytes, each one that a URL may have
pub record IsUrl (text : List ℕ) : Type 0 where
  pub some : text ≢ []
  pub short : length text ≤ 2048
  pub bytes : (k : ℕ) → k < length text → IsUrlByte (slice_index text k)
