-- The entry of a URL is opened, read as far as it goes, and closed.
use Rattle.std.specs.Prelude.{Bool, List, [], ◌≡◌, ℕ}
use Rattle.rock_disk.specs.Cell.{CellState}
use Rattle.store_rule.specs.declared.store.Pass.{Pass}
use Rattle.store_rule.specs.declared.store.Store.{Store}
use Rattle.store_rule.specs.Ground.{Offers, anchor_for}
use Rattle.store_rule.specs.Passes.{basis, view}
use Rattle.rock_reader.specs.declared.answer.More.{More}
use Rattle.rock_reader.specs.Closing.{Parted}
use Rattle.rock_reader.specs.Opening.{OpenedEntry, Refused}
use Rattle.rock_reader.specs.Reading.{ReadsAs, newly}
use Rattle.store_serve.specs.declared.getting.Got.{Got}
use Rattle.store_serve.specs.declared.getting.Got.TheVariants.{Found, Missing}
use Rattle.store_serve.specs.Following.{GaveSome, WentOn}

-- there was an entry, and reading it ended so
abbrev pub EndedWith : Got → More → Type 0
EndedWith (Missing cause) answer = ⊥
EndedWith (Found version ended) answer = ended ≡ answer

module _ {C O : Type 0} (tells : Bool) (state : C → CellState) (offers : O → Offers) (s : Store C O) (t : ℕ) (url : List ℕ) (p q : Pass C) (bytes : List ℕ) where
  -- The entry was opened, these bytes were given until there was no more to give for this cause, and the tab left it.
  pub record GotEntry (version : ℕ) (ended : More) : Type 0 where
    pub opened : Pass C
    pub opens : OpenedEntry (basis tells state offers s) t url (view p) version (view opened)
    pub offer : ℕ
    pub reads : ReadsAs tells state offers s opened t (newly (anchor_for (basis tells state offers s) url) version offer url)
    pub read : Pass C
    pub went : WentOn tells state offers s t (newly (anchor_for (basis tells state offers s) url) version offer url) opened read bytes ended
    pub parted : Parted (basis tells state offers s) t (view read) (view q)

  -- Memory was wanting: the entry was opened, these bytes were given, and the tab left it.
  pub record StoppedGetting : Type 0 where
    pub version : ℕ
    pub opened : Pass C
    pub opens : OpenedEntry (basis tells state offers s) t url (view p) version (view opened)
    pub offer : ℕ
    pub reads : ReadsAs tells state offers s opened t (newly (anchor_for (basis tells state offers s) url) version offer url)
    pub read : Pass C
    pub some : GaveSome tells state offers s t (newly (anchor_for (basis tells state offers s) url) version offer url) opened read bytes
    pub parted : Parted (basis tells state offers s) t (view read) (view q)

  -- it was so, or there was none to read, for this cause
  abbrev pub GotAs : Got → Type 0
  GotAs (Missing cause) = (bytes ≡ []) × Refused (basis tells state offers s) t url (view p) cause (view q)
  GotAs (Found version ended) = GotEntry version ended
