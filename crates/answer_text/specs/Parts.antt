-- The parts of an answer, as text.
use Rattle.std.specs.Prelude.{ℕ, List, [], ◌∷◌, ◌++◌, Bool, true, false, codes, decimal}
use Rattle.hex.specs.Hex.{encode_lower}
use Rattle.lock_word.specs.Words.{stage_number}
use Rattle.lock_word.specs.declared.epoch.Epoch.{Epoch}
use Rattle.lock_word.specs.declared.word.Word.{Word}

-- `d` where an entry is doomed
abbrev pub doom_text : Bool → List ℕ
doom_text true = codes "d"
doom_text false = []

-- version and stage with a dot between them, and `d` behind them where the entry is doomed
abbrev pub epoch_text : Epoch → List ℕ
epoch_text e = decimal e.version ++ codes "." ++ decimal (stage_number e.stage) ++ doom_text e.doom

-- an epoch, `/` and the readers
abbrev pub word_text : Word → List ℕ
word_text w = epoch_text w.epoch ++ codes "/" ++ decimal w.readers

-- a key: two digits of hexadecimal for each byte, with lower case letters
abbrev pub key_text : List ℕ → List ℕ
key_text key = encode_lower key

-- bytes in the same way, or `-` for none
abbrev pub bytes_text : List ℕ → List ℕ
bytes_text [] = codes "-"
bytes_text (b ∷ bytes) = encode_lower (b ∷ bytes)
