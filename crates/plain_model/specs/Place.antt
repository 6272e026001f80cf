-- What an anchor has, and what becomes of it.
use Rattle.std.specs.Prelude.{ℕ, Option, Some, None, true, false}
use Rattle.plain_model.specs.declared.entry.Life.{Life}
use Rattle.plain_model.specs.declared.entry.Entry.{Entry}
use Rattle.plain_model.specs.declared.entry.Place.{Place}

-- an anchor that never had an entry
abbrev pub nothing : Place
nothing = record { version = 0; doom = false; entry = None }

-- the entry is gone, and its version and its doom stay
abbrev pub vacated : Place → Place
vacated place = record place { entry = None }

abbrev pub doomed : Place → Place
doomed place = record place { doom = true }

-- what this makes of the entry, if there is one
abbrev pub changed : (Entry → Entry) → Option Entry → Option Entry
changed f None = None
changed f (Some entry) = Some (f entry)

-- `content` bytes of the entry's content are there
abbrev pub resized : ℕ → Place → Place
resized content place = record place { entry = changed (λ e. record e { content = content }) place.entry }

-- the entry does not grow any more
abbrev pub ended : Life → Place → Place
ended life place = record place { entry = changed (λ e. record e { life = life }) place.entry }
