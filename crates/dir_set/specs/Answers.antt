-- What the calls of one file answered, with all that each of them says.
use Rattle.std.specs.Prelude.{Bool, List, MatchOption, None, Option, Some, ◌<◌, ◌≡◌, ℕ}
use Rattle.lock_word.specs.declared.cause.Cause.{Cause}
use Rattle.lock_word.specs.declared.epoch.Epoch.{Epoch}
use Rattle.rock_disk.specs.Cell.{CellState}
use Rattle.core_model.specs.Tabs.{inner}
use Rattle.purge_entry.specs.Purging.{Purged}
use Rattle.rock_reader.specs.Opening.{OpenedEntry, Refused}
use Rattle.rock_reader.specs.Reading.{ReadsAs, newly}
use Rattle.rock_reader.specs.Wanted.{FollowsReader}
use Rattle.slice_chain.specs.Freeing.{FollowsTab}
use Rattle.store_rule.specs.declared.store.Pass.{Pass}
use Rattle.store_rule.specs.declared.store.Store.{Store}
use Rattle.store_rule.specs.Ground.{Offers, anchor_for}
use Rattle.store_rule.specs.Passes.{basis, view}
use Rattle.store_rule.specs.Quiet.{DoomsNothing}
use Rattle.dir_set.specs.declared.dirs.DirPass.{DirPass}
use Rattle.dir_set.specs.declared.dirs.Dirs.{Dirs}
use Rattle.dir_set.specs.Dirs.{EachDir, answer_at}

module _ {C O : Type 0} (tells : Bool) (state : C → CellState) (offers : O → Offers) where
  module _ (t : ℕ) (url : List ℕ) (s : Store C O) (p q : Pass C) where
    -- No entry could be read, for this cause, and the tab left again.
    pub record RefusedBy (cause : Cause) : Type 0 where
      pub refused : Refused (basis tells state offers s) t url (view p) cause (view q)
      pub free : (view q).tabs ≡ (view p).tabs
      pub follows : FollowsTab tells state offers s t p q
      pub quiet : DoomsNothing (view p) (view q)

    -- the entry was opened
    pub record OpenedBy (version : ℕ) : Type 0 where
      pub opened : OpenedEntry (basis tells state offers s) t url (view p) version (view q)
      pub reads : (offer : ℕ) × ReadsAs tells state offers s q t (newly (anchor_for (basis tells state offers s) url) version offer url)
      pub follows : FollowsReader tells state offers s t p q
      pub quiet : DoomsNothing (view p) (view q)

  module _ (url : List ℕ) (s : Store C O) (p q : Pass C) where
    -- the entry was purged
    pub record PurgedBy (left : Epoch) : Type 0 where
      pub purged : Purged (basis tells state offers s) inner url (view p) left (view q)
      pub free : (view q).tabs ≡ (view p).tabs
      pub follows : FollowsTab tells state offers s inner p q

    -- what the purge of one file answered: the epoch that it left, or the cause
    abbrev pub PurgeSays : Option Epoch → Option Cause → Type 0
    PurgeSays (Some left) None = PurgedBy left
    PurgeSays None (Some cause) = RefusedBy inner url s p q cause
    PurgeSays _ _ = ⊥

    abbrev pub RefusedPurge : Type 0
    RefusedPurge = (cause : Cause) × RefusedBy inner url s p q cause

    -- the entry was purged, or there was none, for some cause
    abbrev pub PurgesIfThere : Option Epoch → Type 0
    PurgesIfThere left = MatchOption left RefusedPurge PurgedBy

  module _ (t : ℕ) (url : List ℕ) (dir version : ℕ) (d : ℕ) (s : Store C O) (p q : Pass C) where
    -- The files before this one refused, it was opened there, and those behind it were not asked.
    pub record OpensAt : Type 0 where
      pub before : d < dir → (cause : Cause) × RefusedBy t url s p q cause
      pub here : d ≡ dir → OpenedBy t url s p q version
      pub behind : dir < d → q ≡ p

  -- Each file was asked, and refused for the cause that stands at its place.
  abbrev pub EachMissed : Dirs C O → (a b : DirPass C) → ℕ → List ℕ → List (Option Cause) → Type 0
  EachMissed dirs a b t url causes = EachDir dirs a b (λ d s p q. (cause : Cause) × (answer_at causes d ≡ Some cause) × RefusedBy t url s p q cause)
