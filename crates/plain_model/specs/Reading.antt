-- Reading and purging an entry.
use Rattle.std.specs.Prelude.{ℕ, List, length, drop, slice_set, Bool, true, false, Option, Some, None, not}
use Rattle.std.specs.Str.{bytes_eq}
use Rattle.script_text.specs.declared.answer.Answer.{Answer}
use Rattle.script_text.specs.declared.answer.Answer.TheVariants as answer
use Rattle.lock_word.specs.declared.epoch.Epoch.{Epoch}
use Rattle.lock_word.specs.declared.cause.Cause.{Cause}
use Rattle.lock_word.specs.declared.cause.Cause.TheVariants.{Absent}
use Rattle.lock_word.specs.Cause.{cause_of}
use Rattle.store_key.specs.Key.{key_of}
use Rattle.store_key.specs.Anchor.{anchor_of}
use Rattle.plain_model.specs.declared.entry.Life.{Life}
use Rattle.plain_model.specs.declared.entry.Life.TheVariants.{Growing, Whole, GivenUp}
use Rattle.plain_model.specs.declared.entry.Entry.{Entry}
use Rattle.plain_model.specs.declared.store.Setting.{Setting}
use Rattle.plain_model.specs.declared.store.Tab.{Tab}
use Rattle.plain_model.specs.declared.store.Tab.TheVariants.{Free, Writing, Reading}
use Rattle.plain_model.specs.declared.store.Plain.{Plain}
use Rattle.plain_model.specs.Place.{doomed}
use Rattle.plain_model.specs.Store.{place_at, entry_at, tab_at, with_tab, epoch_of, is_left_over_at, available}
use Rattle.plain_model.specs.Writing.{Step, step, settle}

-- why the entry at an anchor is none to read for this key; None is a hit
abbrev pub judge : Setting → Plain → ℕ → List ℕ → Option Cause
judge s p anchor wanted = on (entry_at p anchor)
  where
    on : Option Entry → Option Cause
    on None = Some (Absent (epoch_of s.room (place_at p anchor)))
    on (Some e) = cause_of (epoch_of s.room (place_at p anchor)) e.key wanted

abbrev pub has_url : List ℕ → Option Entry → Bool
has_url url None = false
has_url url (Some e) = bytes_eq e.url url

abbrev pub open_at : Setting → (tab anchor : ℕ) → List ℕ → Plain → Step
open_at s tab anchor url p = on (judge s p anchor (key_of url))
  where
    on : Option Cause → Step
    on (Some cause) = step (answer.Miss cause) p
    on None = step (answer.Opened (place_at p anchor).version) (with_tab p tab (Reading anchor 0 (not (has_url url (entry_at p anchor)))))

abbrev pub open_tab : Setting → ℕ → List ℕ → Plain → Step
open_tab s tab url p = on (tab_at p tab)
  where
    on : Tab → Step
    on (Writing at) = step answer.Tab p
    on (Reading at given is_other) = step answer.Tab p
    on Free = open_at s tab (anchor_of (key_of url) s.anchors) url p

-- the bytes that a reader gets, said by what becomes of the entry
abbrev pub told : Life → Epoch → List ℕ → Answer
told Growing epoch bytes = answer.Part epoch bytes
told Whole epoch bytes = answer.End bytes
told GivenUp epoch bytes = answer.Halted bytes

abbrev pub more : Setting → ℕ → Plain → Step
more s tab p = on (tab_at p tab)
  where
    to : ℕ → ℕ → Option Entry → Step
    to anchor given None = step answer.Tab p
    to anchor given (Some e) = step (told e.life (epoch_of s.room (place_at p anchor)) (drop given (available s.room e))) (with_tab p tab (Reading anchor (length (available s.room e)) false))

    on : Tab → Step
    on Free = step answer.Tab p
    on (Writing at) = step answer.Tab p
    on (Reading anchor given true) = step answer.OtherUrl p
    on (Reading anchor given false) = to anchor given (entry_at p anchor)

abbrev pub close : ℕ → Plain → Step
close tab p = on (tab_at p tab)
  where
    on : Tab → Step
    on Free = step answer.Tab p
    on (Writing at) = step answer.Tab p
    on (Reading anchor given is_other) = step answer.Closed (settle anchor (with_tab p tab Free))

abbrev pub doom_at : ℕ → Plain → Plain
doom_at anchor p = record p { places = slice_set p.places anchor (doomed (place_at p anchor)) }

abbrev pub purge_at : Setting → ℕ → List ℕ → Plain → Step
purge_at s anchor wanted p = on (judge s p anchor wanted)
  where
    on : Option Cause → Step
    on (Some cause) = step (answer.NoEntry cause) p
    on None = step (answer.Purged (epoch_of s.room (place_at (doom_at anchor p) anchor))) (settle anchor (doom_at anchor p))

abbrev pub purge : Setting → List ℕ → Plain → Step
purge s url p = purge_at s (anchor_of (key_of url) s.anchors) (key_of url) p

-- what a wipe is answered where a purge is answered this: an entry that goes as soon as it is doomed is erased on the disk
abbrev pub wiped_by : (goes : Bool) → Answer → Answer
wiped_by true (answer.Purged epoch) = answer.Wiped epoch
wiped_by false (answer.Purged epoch) = answer.Later epoch
wiped_by goes other = other

-- the entry at an anchor goes as soon as it is doomed
abbrev pub goes_doomed : ℕ → Plain → Bool
goes_doomed anchor p = is_left_over_at (doom_at anchor p) anchor

-- a wipe leaves what a purge leaves
abbrev pub wipe : Setting → List ℕ → Plain → Step
wipe s url p = step (wiped_by (goes_doomed (anchor_of (key_of url) s.anchors) p) (purge s url p).answer) (purge s url p).after
