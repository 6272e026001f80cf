-- What an epoch or a word allows.
use Rattle.std.specs.Prelude.{◌≡◌, ◌⊎◌, true, false}
use Rattle.lock_word.specs.declared.stage.Stage.TheVariants.{Empty, Taken, Appending, Closed, Halted, Freeing, Gone}
use Rattle.lock_word.specs.declared.epoch.Epoch.{Epoch}
use Rattle.lock_word.specs.declared.word.Word.{Word}

-- there is no entry
abbrev pub IsAbsent : Epoch → Type 0
IsAbsent e = (e.stage ≡ Empty) ⊎ (e.stage ≡ Gone)

-- the entry is doomed, was given up or is being freed
abbrev pub IsLeaving : Epoch → Type 0
IsLeaving e = (((e.stage ≡ Appending) ⊎ (e.stage ≡ Closed)) × (e.doom ≡ true)) ⊎ ((e.stage ≡ Halted) ⊎ (e.stage ≡ Freeing))

-- the entry may be read
abbrev pub IsReadable : Epoch → Type 0
IsReadable e = ((e.stage ≡ Appending) ⊎ (e.stage ≡ Closed)) × (e.doom ≡ false)

-- a writer has the anchor
abbrev pub IsWritten : Epoch → Type 0
IsWritten e = (e.stage ≡ Taken) ⊎ (e.stage ≡ Appending)

-- the entry is whole and nobody uses it: it may be replaced or evicted
abbrev pub IsIdle : Word → Type 0
IsIdle w = (w.epoch.stage ≡ Closed) × (w.epoch.doom ≡ false) × (w.readers ≡ 0)

-- there is no entry and nobody looks: the anchor may be taken
abbrev pub IsVacant : Word → Type 0
IsVacant w = IsAbsent w.epoch × (w.readers ≡ 0)

-- an entry that nobody may read any more, and nobody uses: its last user frees it
abbrev pub IsLeftOver : Word → Type 0
IsLeftOver w = ((w.epoch.stage ≡ Halted) ⊎ ((w.epoch.stage ≡ Closed) × (w.epoch.doom ≡ true))) × (w.readers ≡ 0)
