-- An entry is begun in one file, in turn, after the URL was purged in every file.
use Rattle.std.specs.Prelude.{Bool, List, Option, Some, cond, ◌+◌, ◌<◌, ◌==◌, ◌≡◌, ◌≢◌, ◌≤◌, ◌⊎◌, ℕ}
use Rattle.lock_word.specs.declared.epoch.Epoch.{Epoch}
use Rattle.rock_disk.specs.Cell.{CellState}
use Rattle.rock_writer.specs.Beginning.{Began, MayBegin, NotTaken, begun}
use Rattle.rock_writer.specs.Durable.{LoggedSoFar}
use Rattle.rock_writer.specs.Passes.{FollowsWriting}
use Rattle.rock_writer.specs.declared.fault.BeginFault.{BeginFault}
use Rattle.rock_writer.specs.declared.fault.BeginFault.TheVariants.{LongUrl}
use Rattle.store_rule.specs.declared.store.Pass.{Pass}
use Rattle.store_rule.specs.declared.store.Store.{Store}
use Rattle.store_rule.specs.Ground.{Offers, anchor_for}
use Rattle.store_rule.specs.Passes.{basis, view}
use Rattle.store_rule.specs.Quiet.{Quiet}
use Rattle.dir_set.specs.declared.dirs.DirPass.{DirPass}
use Rattle.dir_set.specs.declared.dirs.Dirs.{Dirs}
use Rattle.dir_set.specs.declared.fault.DirBeginFault.{DirBeginFault}
use Rattle.dir_set.specs.declared.fault.DirBeginFault.TheVariants as refusing
use Rattle.dir_set.specs.Answers.{PurgesIfThere}
use Rattle.dir_set.specs.Dirs.{EachDir, NoneBehind, answer_at, dir_count}

-- Of the files from the hand on, and then those from the first one up to it, this file comes before that one.
abbrev pub ComesBefore : (hand d dir : ℕ) → Type 0
ComesBefore hand d dir = ((hand ≤ d) × ((d < dir) ⊎ (dir < hand))) ⊎ ((d < hand) × (d < dir) × (dir < hand))

-- the file behind this one, of so many
abbrev pub next_dir : (n dir : ℕ) → ℕ
next_dir n dir = cond (dir + 1 == n) 0 (dir + 1)

module _ {C O : Type 0} (tells : Bool) (state : C → CellState) (offers : O → Offers) where
  -- the offer of a line, in the store of one file
  abbrev pub offer_in : Store C O → ℕ → ℕ
  offer_in s line = (basis tells state offers s).setting.slots + line

  abbrev pub MayBeginIn : (t line : ℕ) (url : List ℕ) → ℕ → Store C O → Pass C → Type 0
  MayBeginIn t line url d s p = MayBegin tells state offers s p t (offer_in s line) url

  module _ (t line : ℕ) (url : List ℕ) (is_durable : Bool) (s : Store C O) (p q : Pass C) where
    -- an entry was begun
    pub record BegunBy (version : ℕ) : Type 0 where
      pub began : Began tells state offers s t (offer_in s line) url is_durable p q version
      pub logged : LoggedSoFar (basis tells state offers s) (begun tells state offers s t (offer_in s line) url is_durable p q version) (view q)
      pub hand : q.hand ≡ p.hand
      pub follows : FollowsWriting tells state offers s t p q
      pub quiet : Quiet (view p) (view q)

    -- none was, for this fault
    pub record RefusedBegin (fault : BeginFault) : Type 0 where
      pub short : fault ≢ LongUrl
      pub not_taken : NotTaken (basis tells state offers s) t (anchor_for (basis tells state offers s) url) (view p) fault (view q)
      pub free : (view q).tabs ≡ (view p).tabs
      pub desks : q.desks ≡ p.desks
      pub hand : q.hand ≡ p.hand
      pub follows : FollowsWriting tells state offers s t p q
      pub quiet : Quiet (view p) (view q)

  -- The URL was purged first, and then it went so.
  pub record PurgesFirst (url : List ℕ) (Then : (p q : Pass C) → Type 0) (s : Store C O) (p q : Pass C) : Type 0 where
    pub middle : Pass C
    pub left : Option Epoch
    pub purged : PurgesIfThere tells state offers url s p middle left
    pub later : Then middle q

  module _ (t line : ℕ) (url : List ℕ) (is_durable : Bool) where
    -- Of one file: the files in turn before this one refused, an entry was begun in this one, and those behind it were not asked.
    pub record BeginsAt (hand dir version d : ℕ) (s : Store C O) (p q : Pass C) : Type 0 where
      pub before : ComesBefore hand d dir → (fault : BeginFault) × RefusedBegin t line url is_durable s p q fault
      pub here : d ≡ dir → BegunBy t line url is_durable s p q version
      pub behind : ComesBefore hand dir d → q ≡ p

    -- Of one file, where the files from one number on are asked in order: those before this one refused, an entry was begun in this one, and the
    -- pass of any other file is as it was.
    pub record BeginsAmong (from dir version d : ℕ) (s : Store C O) (p q : Pass C) : Type 0 where
      pub before : from ≤ d → d < dir → (fault : BeginFault) × RefusedBegin t line url is_durable s p q fault
      pub here : d ≡ dir → BegunBy t line url is_durable s p q version
      pub else : (d < from) ⊎ (dir < d) → q ≡ p

    -- each file was asked, and refused for the fault that stands at its place
    abbrev pub RefusesBegin : List (Option BeginFault) → ℕ → Store C O → (p q : Pass C) → Type 0
    RefusesBegin faults d s p q = (fault : BeginFault) × (answer_at faults d ≡ Some fault) × RefusedBegin t line url is_durable s p q fault

    pub record RefusesAmong (from to : ℕ) (faults : List (Option BeginFault)) (d : ℕ) (s : Store C O) (p q : Pass C) : Type 0 where
      pub here : from ≤ d → d < to → RefusesBegin faults d s p q
      pub else : (d < from) ⊎ (to ≤ d) → q ≡ p

    -- what a refusal says of each file
    abbrev pub RefusesAll : Dirs C O → (a b : DirPass C) → DirBeginFault → Type 0
    RefusesAll dirs a b refusing.LongUrl = b ≡ a
    RefusesAll dirs a b (refusing.AllRefused faults) = EachDir dirs a b (λ d s p q. PurgesFirst url (RefusesBegin faults d s) s p q) × NoneBehind (dir_count dirs) faults
