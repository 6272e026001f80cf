-- What the lines that a worker served say of the script's tabs, and what its pass has of them.
use Rattle.std.specs.Prelude.{Bool, Contains, IsTrue, List, None, Some, [], false, min, true, ◌*◌, ◌+◌, ◌<◌, ◌≡◌, ◌≢◌, ◌≤◌, ◌⊎◌, ℕ}
use Rattle.lock_word.specs.Words.{version_of}
use Rattle.rock_disk.specs.Cell.{CellState}
use Rattle.store_key.specs.Key.{key_of}
use Rattle.store_key.specs.Url.{IsUrl}
use Rattle.entry_cut.specs.Content.{room_of}
use Rattle.core_model.specs.Anchors.{opening_counter}
use Rattle.core_model.specs.declared.view.Sight.TheVariants.{Published}
use Rattle.core_model.specs.Tabs.{OfReader, tab_at}
use Rattle.line_account.specs.Answers.{IsEntryAt, Run}
use Rattle.line_account.specs.Stopping.{answered_more, is_end, is_halted, is_other_url}
use Rattle.script_text.specs.Requests.{url_in}
use Rattle.line_account.specs.Lines.{Served, added, bytes_given, reading, writing}
use Rattle.store_rule.specs.declared.store.Pass.{Pass}
use Rattle.store_rule.specs.declared.store.Store.{Store}
use Rattle.store_rule.specs.Ground.{Ground, Offers, anchor_for, url_of}
use Rattle.store_rule.specs.Passes.{basis, view}
use Rattle.rock_reader.specs.Reading.{ReadsAs, Standing}
use Rattle.rock_reader.specs.Responses.{body_below}
use Rattle.rock_writer.specs.Entries.{Entry, WritesAs, size_of}
use Rattle.store_serve.specs.Showing.{HasShown}
use Rattle.store_serve.specs.Tabs.{IsFree, IsReady}
use Rattle.store_serve.specs.Whole.{whole_tab}
use Rattle.crew_accounts.specs.Runs.{Past, run_of}

-- the offer that a tab reads has another URL than it wants, with the same key
pub record IsOtherUrl (r : Run (List ℕ)) (e : Standing) : Type 0 where
  pub good : IsUrl (r.url e.offer)
  pub same_key : key_of (r.url e.offer) ≡ key_of e.url
  pub differs : r.url e.offer ≢ e.url

-- a tab was given all of its entry, and has no slot at its place
pub record HasEnded {C : Type 0} (p : Pass C) (t : ℕ) (e : Standing) : Type 0 where
  pub was : e.is_other ≡ false
  pub some : 0 < e.place
  pub none : OfReader (λ r. r.slot ≡ None) (tab_at (view p) t)

-- where there is a slot, the content so far needs no more slots than an entry may have
abbrev pub StaysSmall : {X : Type 0} → Ground X → Entry → Type 0
StaysSmall g e = 0 < g.setting.slots → size_of g e ≤ min 4096 g.setting.slots * room_of g.slot

module _ {C O : Type 0} (tells : Bool) (state : C → CellState) (offers : O → Offers) (s : Store C O) (told : Bool) (past : Past)
    (served : List Served) (p : Pass C) where
  module _ (t : ℕ) where
    -- by the lines the tab neither writes nor reads, and it is free
    pub record IsIdle : Type 0 where
      pub writes : writing t served ≡ None
      pub reads : reading t served ≡ None
      pub free : IsFree p t

    -- By the lines it writes, and it does: the offer, the URL and the version are those of the line that began it, of the body were taken
    -- the bytes that lines added, and the pass has seen what is published.
    pub record IsWriter : Type 0 where
      pub reads : reading t served ≡ None
      pub first : Served
      pub writes : writing t served ≡ Some first
      pub url : List ℕ
      pub named : url_in first.asked.request ≡ Some url
      pub entry : Entry
      pub is : WritesAs tells state offers s p t entry
      pub offer : entry.offer ≡ (basis tells state offers s).setting.slots + first.asked.number
      pub url_is : url_of (basis tells state offers s) entry.offer ≡ url
      pub anchor : entry.anchor ≡ anchor_for (basis tells state offers s) url
      pub drew : first.drew ≡ Some entry.version
      pub taken : entry.taken ≡ added t served
      pub shown : HasShown (basis tells state offers s) entry (view p).seen
      pub small : StaysSmall (basis tells state offers s) entry

    -- By the lines it reads, and it does: the URL and the epoch are those of the line that opened it, and the bytes that lines gave are
    -- those of the slots that it was given. Where it turned from its entry these are none, and the offer has another URL. The pass has seen
    -- how many slots it was given. Behind END it has no slot at its place, behind OTHERURL it has turned, and behind HALTED it
    -- was found that its writer gave up.
    pub record IsReader : Type 0 where
      pub writes : writing t served ≡ None
      pub first : Served
      pub reads : reading t served ≡ Some first
      pub standing : Standing
      pub is : ReadsAs tells state offers s p t standing
      pub named : url_in first.asked.request ≡ Some standing.url
      pub anchor : standing.anchor ≡ anchor_for (basis tells state offers s) standing.url
      pub version : version_of first.opened ≡ standing.version
      pub entry : IsEntryAt (run_of (basis tells state offers s) told past) (view p) standing.anchor first.opened standing.url
      pub offer : entry.offer ≡ standing.offer
      pub new : opening_counter (basis tells state offers s).setting < standing.version
          → (basis tells state offers s).setting.slots ≤ standing.offer
      pub given : IsTrue told → standing.is_other ≡ false
          → bytes_given t served ≡ body_below (basis tells state offers s) standing.anchor standing.offer standing.place
      pub none : IsTrue told → standing.is_other ≡ true → bytes_given t served ≡ []
      pub other : IsTrue told → standing.is_other ≡ true → IsOtherUrl (run_of (basis tells state offers s) told past) standing
      pub shown : 0 < standing.place → Contains (view p).seen (Published standing.anchor standing.version standing.place)
      pub ended : answered_more is_end t served ≡ true → HasEnded p t standing
      pub turned : answered_more is_other_url t served ≡ true → standing.is_other ≡ true
      pub halted : answered_more is_halted t served ≡ true → standing.is_halted ≡ true

    abbrev pub IsTracked : Type 0
    IsTracked = IsIdle ⊎ IsWriter ⊎ IsReader

  -- The pass is ready for the next line, the tab of whole requests is free, and each tab of the script is as the lines say. On no other tab
  -- did a line begin to write.
  pub record Tracks : Type 0 where
    pub ready : IsReady tells state offers s p
    pub whole : IsFree p whole_tab
    pub each : (t : ℕ) → t < whole_tab → IsTracked t
    pub beyond : (t : ℕ) → whole_tab ≤ t → writing t served ≡ None
