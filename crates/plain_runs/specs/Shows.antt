-- The plain store that a pass shows between two lines, with its tabs and its hand.
use Rattle.std.specs.Prelude.{Bool, List, Some, false, length, not, true, ◌<◌, ◌≡◌, ℕ}
use Rattle.std.specs.Str.{bytes_eq}
use Rattle.rock_disk.specs.Cell.{CellState}
use Rattle.store_key.specs.Key.{key_of}
use Rattle.core_model.specs.Tabs.{InnerIsFree, anchor_of, is_free, tab_at as core_tab_at}
use Rattle.plain_model.specs.declared.entry.Entry.{Entry}
use Rattle.plain_model.specs.declared.entry.Life.TheVariants.{Growing}
use Rattle.plain_model.specs.declared.store.Plain.{Plain}
use Rattle.plain_model.specs.declared.store.Tab.{Tab}
use Rattle.plain_model.specs.declared.store.Tab.TheVariants.{Free, Reading, Writing}
use Rattle.plain_model.specs.Store.{entry_at, place_at, tab_at}
use Rattle.store_rule.specs.declared.store.Pass.{Pass}
use Rattle.store_rule.specs.declared.store.Store.{Store}
use Rattle.store_rule.specs.Ground.{Offers}
use Rattle.store_rule.specs.Passes.{IsOf, basis, view}
use Rattle.slice_chain.specs.Victims.{hand_in}
use Rattle.rock_reader.specs.Reading.{ReadsAs, Standing}
use Rattle.rock_reader.specs.Responses.{body_below}
use Rattle.rock_writer.specs.Entries.{Entry as Writing_, WritesAs, size_of}
use Rattle.store_serve.specs.Tabs.{IsFree}
use Rattle.plain_runs.specs.Words.{KnowsLot, Lot, no_guests, whole_lot}

-- the tab is at no anchor outside the lot
abbrev pub IsWithin : Lot → Tab → Type 0
IsWithin lot Free = Unit {0}
IsWithin lot (Writing a) = lot.anchors a ≡ true
IsWithin lot (Reading a given is_other) = lot.anchors a ≡ true

module _ {C O : Type 0} (tells : Bool) (state : C → CellState) (offers : O → Offers) (s : Store C O) (rename : ℕ → ℕ) (pass : Pass C) (p : Plain) where
  -- the tab writes the entry that grows at the anchor
  pub record ShowsWriting (t a : ℕ) : Type 0 where
    pub inside : a < (basis tells state offers s).setting.anchors
    pub entry : Entry
    pub there : entry_at p a ≡ Some entry
    pub grows : entry.life ≡ Growing
    pub written : Writing_
    pub writes : WritesAs tells state offers s pass t written
    pub anchor_is : written.anchor ≡ a
    pub version_is : written.version ≡ rename (place_at p a).version
    pub offer_is : written.offer ≡ entry.offer
    pub size : size_of (basis tells state offers s) written ≡ entry.content

  -- It reads the entry at the anchor, by its key, and was given so many bytes of its body. Where the entry has another URL than the one that
  -- the tab wants, it was given none; whether the tab has found that out does not matter.
  pub record ShowsReading (t a given : ℕ) (is_other : Bool) : Type 0 where
    pub inside : a < (basis tells state offers s).setting.anchors
    pub entry : Entry
    pub there : entry_at p a ≡ Some entry
    pub standing : Standing
    pub reads : ReadsAs tells state offers s pass t standing
    pub anchor_is : standing.anchor ≡ a
    pub version_is : standing.version ≡ rename (place_at p a).version
    pub offer_is : standing.offer ≡ entry.offer
    pub key_is : entry.key ≡ key_of standing.url
    pub other_is : is_other ≡ not (bytes_eq entry.url standing.url)
    pub turned : standing.is_other ≡ true → is_other ≡ true
    pub unread : is_other ≡ true → standing.is_other ≡ false → standing.place ≡ 0
    pub given_is : is_other ≡ false → given ≡ length (body_below (basis tells state offers s) a entry.offer standing.place)

  abbrev pub ShowsTab : ℕ → Tab → Type 0
  ShowsTab t Free = IsFree pass t
  ShowsTab t (Writing a) = ShowsWriting t a
  ShowsTab t (Reading a given is_other) = ShowsReading t a given is_other

  -- the tab is at no anchor of the lot
  abbrev pub IsElsewhere : Lot → ℕ → Type 0
  IsElsewhere lot t = (is_free (core_tab_at (view pass) t) ≡ false) → lot.anchors (anchor_of (core_tab_at (view pass) t)) ≡ false

  -- Of its lot the pass shows the plain store p: by the words that it knows, its tabs, which are at anchors of the lot, and its hand. In p no
  -- other tab has an entry, and none of the pass is at an anchor of the lot.
  pub record ShowsLot (lot : Lot) : Type 0 where
    pub own : IsOf tells state offers s pass
    pub inner_free : InnerIsFree (view pass)
    pub knows : KnowsLot (basis tells state offers s) rename lot (view pass) p no_guests
    pub hand : hand_in (basis tells state offers s).setting.anchors pass.hand ≡ p.hand
    pub eight : length p.tabs ≡ 8
    pub tabs : (t : ℕ) → t < 8 → lot.tabs t ≡ true → ShowsTab t (tab_at p t)
    pub within : (t : ℕ) → t < 8 → lot.tabs t ≡ true → IsWithin lot (tab_at p t)
    pub away : (t : ℕ) → t < 8 → lot.tabs t ≡ false → (tab_at p t ≡ Free) × IsElsewhere lot t

  -- The pass shows the plain store p of the whole store.
  abbrev pub Shows : Type 0
  Shows = ShowsLot whole_lot
