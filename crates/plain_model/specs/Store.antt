-- What can be read off a store.
use Rattle.std.specs.Prelude.{ℕ, ◌+◌, ◌-◌, ◌*◌, ◌/◌, ◌==◌, ◌&&◌, ◌||◌, List, length, take, slice_index_or, slice_set, count_by, if◌then◌else◌, Bool, true, false, Option, Some, None, not, is_none}
use Rattle.lock_word.specs.declared.stage.Stage.{Stage}
use Rattle.lock_word.specs.declared.stage.Stage.TheVariants as stage
use Rattle.lock_word.specs.declared.epoch.Epoch.{Epoch}
use Rattle.lock_word.specs.declared.word.Word.{Word}
use Rattle.plain_model.specs.declared.entry.Life.{Life}
use Rattle.plain_model.specs.declared.entry.Life.TheVariants.{Growing, Whole, GivenUp}
use Rattle.plain_model.specs.declared.entry.Entry.{Entry}
use Rattle.plain_model.specs.declared.entry.Place.{Place}
use Rattle.plain_model.specs.declared.store.Setting.{Setting}
use Rattle.plain_model.specs.declared.store.Tab.{Tab}
use Rattle.plain_model.specs.declared.store.Tab.TheVariants.{Free, Writing, Reading}
use Rattle.plain_model.specs.declared.store.Plain.{Plain}
use Rattle.plain_model.specs.Place.{nothing}

abbrev pub place_at : Plain → ℕ → Place
place_at p anchor = slice_index_or p.places anchor nothing

abbrev pub entry_at : Plain → ℕ → Option Entry
entry_at p anchor = (place_at p anchor).entry

abbrev pub tab_at : Plain → ℕ → Tab
tab_at p tab = slice_index_or p.tabs tab Free

abbrev pub with_tab : Plain → ℕ → Tab → Plain
with_tab p tab state = record p { tabs = slice_set p.tabs tab state }

-- how many bytes of metadata stand in front of the body of an entry that is written
abbrev pub meta_size : List ℕ → ℕ
meta_size url = 32 + length url

-- how many slots are full and have bytes behind them: so many are published
abbrev pub published : (room content : ℕ) → ℕ
published room content = (content - 1) / room

-- the stage of an entry: one that grows may be read once a slot is published
abbrev pub stage_of_entry : ℕ → Life → ℕ → Stage
stage_of_entry room Growing content = (if published room content == 0 then stage.Taken else stage.Appending)
stage_of_entry room Whole content = stage.Closed
stage_of_entry room GivenUp content = stage.Halted

-- the stage of an anchor: with no entry it is Gone, or Empty where there never was one
abbrev pub stage_of : ℕ → ℕ → Option Entry → Stage
stage_of room version None = (if version == 0 then stage.Empty else stage.Gone)
stage_of room version (Some e) = stage_of_entry room e.life e.content

abbrev pub epoch_of : ℕ → Place → Epoch
epoch_of room place = record { version = place.version; doom = place.doom; stage = stage_of room place.version place.entry }

-- the tab reads at this anchor
abbrev pub reads_at : ℕ → Tab → Bool
reads_at anchor Free = false
reads_at anchor (Writing at) = false
reads_at anchor (Reading at given is_other) = at == anchor

abbrev pub readers : Plain → ℕ → ℕ
readers p anchor = count_by (reads_at anchor) p.tabs

abbrev pub word_at : Setting → Plain → ℕ → Word
word_at s p anchor = record { epoch = epoch_of s.room (place_at p anchor); readers = readers p anchor }

abbrev pub has_life : Life → Option Entry → Bool
has_life life None = false
has_life life (Some e) = same life e.life
  where
    same : Life → Life → Bool
    same Growing Growing = true
    same Whole Whole = true
    same GivenUp GivenUp = true
    same other another = false

-- the anchor has no entry
abbrev pub is_vacant_at : Plain → ℕ → Bool
is_vacant_at p anchor = is_none (entry_at p anchor) && (readers p anchor == 0)

-- its entry is whole and not doomed, and nobody reads it: it may give way
abbrev pub is_idle_at : Plain → ℕ → Bool
is_idle_at p anchor = has_life Whole (entry_at p anchor) && not (place_at p anchor).doom && (readers p anchor == 0)

-- its entry can't be opened any more, and nobody reads it
abbrev pub is_left_over_at : Plain → ℕ → Bool
is_left_over_at p anchor = (has_life GivenUp (entry_at p anchor) || (has_life Whole (entry_at p anchor) && (place_at p anchor).doom)) && (readers p anchor == 0)

-- the bytes of the body that a reader may be given: those in published slots, and all of a whole entry
abbrev pub available : ℕ → Entry → List ℕ
available room e = of_life e.life
  where
    of_life : Life → List ℕ
    of_life Whole = e.body
    of_life Growing = take (published room e.content * room - meta_size e.url) e.body
    of_life GivenUp = take (published room e.content * room - meta_size e.url) e.body
