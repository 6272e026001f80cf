-- The entry of a URL is asked for: it is opened, or one is begun, or neither can be done yet.
use Rattle.std.specs.Prelude.{Bool, List, [], false, length, ◌<◌, ◌∷◌, ◌≡◌, ◌≢◌, ◌⊎◌, ℕ}
use Rattle.lock_word.specs.declared.cause.Cause.{Cause}
use Rattle.lock_word.specs.declared.cause.Cause.TheVariants.{Absent, Writing}
use Rattle.lock_word.specs.declared.epoch.Epoch.{Epoch}
use Rattle.lock_word.specs.declared.word.Word.{Word}
use Rattle.rock_disk.specs.Cell.{CellState}
use Rattle.store_rule.specs.declared.store.Pass.{Pass}
use Rattle.store_rule.specs.declared.store.Store.{Store}
use Rattle.store_rule.specs.Ground.{Offers, anchor_for}
use Rattle.store_rule.specs.Passes.{basis, view}
use Rattle.rock_reader.specs.Opening.{OpenedEntry, Refused}
use Rattle.rock_reader.specs.Reading.{ReadsAs, newly}
use Rattle.rock_writer.specs.declared.fault.BeginFault.{BeginFault}
use Rattle.rock_writer.specs.declared.fault.BeginFault.TheVariants.{Busy}
use Rattle.rock_writer.specs.Beginning.{Began, NotTaken}
use Rattle.collapse.specs.declared.asking.Asked.{Asked}
use Rattle.collapse.specs.declared.asking.Asked.TheVariants.{Begun, InVain, NotBegun, Open}

-- a fact for where the tab neither reads nor writes
abbrev pub IfIdle : Asked → Type 0 → Type 0
IfIdle (Open version) P = Unit {0}
IfIdle (Begun version) P = Unit {0}
IfIdle (NotBegun fault) P = P
IfIdle InVain P = P

module _ {C O : Type 0} (tells : Bool) (state : C → CellState) (offers : O → Offers) (s : Store C O) (t offer : ℕ) (url : List ℕ) where
  -- An entry is being written, and can't be read yet.
  pub record FoundWriting (p q : Pass C) : Type 0 where
    pub epoch : Epoch
    pub refused : Refused (basis tells state offers s) t url (view p) (Writing epoch) (view q)

  -- There was no entry, and the anchor was busy when one was to be begun.
  pub record FoundBusy (p q : Pass C) : Type 0 where
    pub epoch : Epoch
    pub middle : Pass C
    pub refused : Refused (basis tells state offers s) t url (view p) (Absent epoch) (view middle)
    pub looked : Word
    pub found : Word
    pub busy : NotTaken (basis tells state offers s) t (anchor_for (basis tells state offers s) url) (view middle) (Busy looked found) (view q)

  -- The entry was asked for in vain: another worker is at it.
  abbrev pub IsInVain : Pass C → Pass C → Type 0
  IsInVain p q = FoundWriting p q ⊎ FoundBusy p q

  -- It was, so often, one time behind the other. These are the passes that were left, the newest first.
  abbrev pub AsksInVain : Pass C → List (Pass C) → Pass C → Type 0
  AsksInVain p [] q = q ≡ p
  AsksInVain p (u ∷ earlier) q = (before : Pass C) × AsksInVain p earlier before × IsInVain before u × (q ≡ u)

  -- The entry was opened, and the tab reads it.
  pub record OpensNow (p q : Pass C) (version : ℕ) : Type 0 where
    pub opens : OpenedEntry (basis tells state offers s) t url (view p) version (view q)
    pub offer_of : ℕ
    pub reads : ReadsAs tells state offers s q t (newly (anchor_for (basis tells state offers s) url) version offer_of url)

  -- There was none to read, but not since one is being written, and one was begun.
  pub record BeginsNow (p q : Pass C) (version : ℕ) : Type 0 where
    pub cause : Cause
    pub middle : Pass C
    pub refused : Refused (basis tells state offers s) t url (view p) cause (view middle)
    pub not_writing : (epoch : Epoch) → cause ≢ Writing epoch
    pub began : Began tells state offers s t offer url false middle q version

  -- Or it was not begun, for this cause. Where the anchor was busy, there was an entry of another key or one that leaves.
  pub record RefusedNow (p q : Pass C) (fault : BeginFault) : Type 0 where
    pub cause : Cause
    pub middle : Pass C
    pub refused : Refused (basis tells state offers s) t url (view p) cause (view middle)
    pub not_writing : (epoch : Epoch) → cause ≢ Writing epoch
    pub not_taken : NotTaken (basis tells state offers s) t (anchor_for (basis tells state offers s) url) (view middle) fault (view q)
    pub lasting : (looked found : Word) → fault ≡ Busy looked found → (epoch : Epoch) → cause ≢ Absent epoch

  -- what asking once came to
  abbrev pub AskedNow : Pass C → Pass C → Asked → Type 0
  AskedNow p q (Open version) = OpensNow p q version
  AskedNow p q (Begun version) = BeginsNow p q version
  AskedNow p q (NotBegun fault) = RefusedNow p q fault
  AskedNow p q InVain = IsInVain p q

  -- what it came to behind those times that were in vain, so many
  pub record AskedAfter (p : Pass C) (looks : ℕ) (q : Pass C) (asked : Asked) : Type 0 where
    pub rounds : List (Pass C)
    pub middle : Pass C
    pub in_vain : AsksInVain p rounds middle
    pub many : length rounds ≡ looks
    pub last : AskedNow middle q asked

  -- it was in vain each time
  pub record AskedOnly (p : Pass C) (looks : ℕ) (q : Pass C) : Type 0 where
    pub rounds : List (Pass C)
    pub in_vain : AsksInVain p rounds q
    pub many : length rounds ≡ looks

  -- what asking came to, at most so many times
  abbrev pub AskedIn : (most : ℕ) → Pass C → (looks : ℕ) → Pass C → Asked → Type 0
  AskedIn most p looks q (Open version) = AskedAfter p looks q (Open version) × (looks < most)
  AskedIn most p looks q (Begun version) = AskedAfter p looks q (Begun version) × (looks < most)
  AskedIn most p looks q (NotBegun fault) = AskedAfter p looks q (NotBegun fault) × (looks < most)
  AskedIn most p looks q InVain = AskedOnly p looks q × (looks ≡ most)
