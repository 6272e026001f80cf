-- The anchor of a key.
use Rattle.std.specs.Prelude.{ℕ, ◌+◌, ◌%◌, ◌^◌, List, take, drop}
use Rattle.std.specs.Int.{w64, from_le_bytes}

-- the first eight bytes and the last eight, each as a little-endian number
abbrev pub front_half : List ℕ → ℕ
front_half key = from_le_bytes w64 (take 8 key)

abbrev pub back_half : List ℕ → ℕ
back_half key = from_le_bytes w64 (drop 8 key)

-- their sum, wrapping at 64 bits, modulo the anchors
abbrev pub anchor_of : List ℕ → ℕ → ℕ
anchor_of key anchors = ((front_half key + back_half key) % 2 ^ 64) % anchors
