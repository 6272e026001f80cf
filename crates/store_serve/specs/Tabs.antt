-- What is kept of the script's tabs, and what a request leaves of the pass.
use Rattle.std.specs.Prelude.{Bool, List, length, ◌≡◌, ◌≢◌, ◌≤◌, ◌-◌, ◌⊎◌, ℕ}
use Rattle.rock_disk.specs.Cell.{CellState}
use Rattle.script_text.specs.declared.answer.Answer.{Answer}
use Rattle.script_text.specs.declared.answer.Answer.TheVariants as answer
use Rattle.script_text.specs.declared.body.Body.{Body}
use Rattle.store_key.specs.Url.{IsUrl}
use Rattle.plain_model.specs.Serving.{bytes_of}
use Rattle.core_model.specs.Tabs.{InnerIsFree, inner, tab_at}
use Rattle.core_model.specs.declared.tab.Tab.TheVariants as tab
use Rattle.store_serve.specs.Growing.{GrowsTo}
use Rattle.store_rule.specs.declared.store.Pass.{Pass}
use Rattle.store_rule.specs.declared.store.Store.{Store}
use Rattle.entry_cut.specs.Content.{LeavesRoom}
use Rattle.store_rule.specs.Ground.{IsNeeded, MayName, Offers, anchor_for, url_of}
use Rattle.store_rule.specs.Passes.{IsOf, basis, hand, view}
use Rattle.store_rule.specs.Calls.{Others}
pub use Rattle.rock_reader.specs.Reading.{ReadsAs, Standing}
use Rattle.rock_reader.specs.Wanted.{SameDesk}
pub use Rattle.rock_writer.specs.Entries.{Entry, WritesAs}
use Rattle.rock_writer.specs.Entries.{body_in}
use Rattle.store_serve.specs.declared.tabs.ScriptTab.{ScriptTab}
use Rattle.store_serve.specs.declared.tabs.ScriptTab.TheVariants.{Free, Reading, Writing}

-- the tab is free
abbrev pub IsFree : {C : Type 0} → Pass C → ℕ → Type 0
IsFree p t = tab_at (view p) t ≡ tab.Free

-- The tab was not as the request needs it, and nothing was done.
pub record IsTurnedAway {C : Type 0} (p : Pass C) (a : Answer) (q : Pass C) : Type 0 where
  pub answered : a ≡ answer.Tab
  pub still : q ≡ p

-- The tab was as the request needs it and the request was served so, or it was not.
pub record IsMet {C : Type 0} (Fits Serves : Type 0) (p : Pass C) (a : Answer) (q : Pass C) : Type 0 where
  pub met : (Fits × Serves) ⊎ ((Fits → ⊥) × IsTurnedAway p a q)

module _ {C O : Type 0} (tells : Bool) (state : C → CellState) (offers : O → Offers) (s : Store C O) where
  -- the tab writes some entry, or reads one
  abbrev pub IsWriting : Pass C → ℕ → Type 0
  IsWriting p t = (e : Entry) × WritesAs tells state offers s p t e

  abbrev pub IsReading : Pass C → ℕ → Type 0
  IsReading p t = (e : Standing) × ReadsAs tells state offers s p t e

  -- it writes an entry of this body, of which so many bytes were taken
  pub record WritesBody (p : Pass C) (t : ℕ) (body : List ℕ) (taken : ℕ) : Type 0 where
    pub entry : Entry
    pub writes : WritesAs tells state offers s p t entry
    pub body_is : body_in (basis tells state offers s) entry ≡ body
    pub taken_is : entry.taken ≡ taken
    pub inside : taken ≤ length body

  -- what is kept of a tab is so with its pass
  abbrev pub Holds : Pass C → ℕ → ScriptTab → Type 0
  Holds p t Free = IsFree p t
  Holds p t (Writing body taken) = WritesBody p t (bytes_of body) taken
  Holds p t Reading = IsReading p t

  -- the pass is of the store, and its inner tab is free
  pub record IsReady (p : Pass C) : Type 0 where
    pub own : IsOf tells state offers s p
    pub inner_free : InnerIsFree (view p)

  -- The offer is that of a line, with this URL and this body. Where the URL leaves room in a slot, a store that fits has as many slots for it at the
  -- anchor as are needed.
  pub record IsOffered (offer : ℕ) (url : List ℕ) (body : Body) : Type 0 where
    pub from : (basis tells state offers s).setting.slots ≤ offer
    pub url_is : url_of (basis tells state offers s) offer ≡ url
    pub body_is : (basis tells state offers s).offers.body (offer - (basis tells state offers s).setting.slots) ≡ bytes_of body
    pub good : IsUrl url
    pub needed : LeavesRoom (basis tells state offers s).slot url → IsNeeded (basis tells state offers s) offer (anchor_for (basis tells state offers s) url)

  -- the pass may name the anchor of the URL
  abbrev pub MayGo : Pass C → List ℕ → Type 0
  MayGo p url = MayName (basis tells state offers s) (view p) (anchor_for (basis tells state offers s) url)

  -- What a request on this tab leaves: every other tab but the inner one as it was with what it works on, the inner one free, and the
  -- places and cells that the pass has out. The pass has lost nothing that it knew.
  pub record Leaves (t : ℕ) (p q : Pass C) : Type 0 where
    pub own : IsOf tells state offers s q
    pub inner_free : InnerIsFree (view q)
    pub others : Others t (view p) (view q)
    pub desks : (j : ℕ) → j ≢ t → j ≢ inner → SameDesk p.desks q.desks j
    pub keeps : GrowsTo (view p) (view q)
    pub places : hand q ≡ hand p
    pub cells : q.cells ≡ p.cells
