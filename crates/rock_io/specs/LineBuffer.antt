-- Lines that are gathered before a sink takes them.
use Rattle.std.specs.Prelude.{◌≡◌, ℕ, ◌+◌, ◌≤◌, List, ◌++◌, length}
use Rattle.rock_io.specs.Sink.{TakesPrefix}
use Rattle.rock_io.specs.declared.line_buffer.LineBuffer.{LineBuffer}

-- the bytes that a buffer holds
abbrev pub held_of : LineBuffer → List ℕ
held_of buffer = buffer.bytes.items

-- how many it has room for, those that it holds among them
abbrev pub size_of : LineBuffer → ℕ
size_of buffer = buffer.size

-- there is room for this text
abbrev pub HasRoom : LineBuffer → List ℕ → Type 0
HasRoom buffer text = length (held_of buffer) + length text ≤ size_of buffer

-- the text was added, and the size stays
pub record Adds (before after : LineBuffer) (text : List ℕ) : Type 0 where
  pub held : held_of after ≡ held_of before ++ text
  pub count : length (held_of after) ≡ length (held_of before) + length text
  pub size : size_of after ≡ size_of before

-- The text was printed: it stands behind what the sink had taken and the buffer held.
pub record Puts (text taken held taken_after held_after : List ℕ) : Type 0 where
  pub all : taken_after ++ held_after ≡ (taken ++ held) ++ text
  pub grows : length taken ≤ length taken_after

-- A first part of the text behind what the buffer held was taken.
abbrev pub Stops : (text taken held taken_after : List ℕ) → Type 0
Stops text taken held taken_after = TakesPrefix taken taken_after (held ++ text)
