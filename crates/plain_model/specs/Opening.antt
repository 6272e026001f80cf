-- The store as it is opened on a file.
use Rattle.std.specs.Prelude.{◌≡◌, ℕ, ◌==◌, List, length, map, find, replicate, Option, Some, None, false}
use Rattle.std.specs.List.{range_with_len}
use Rattle.store_key.specs.Anchor.{anchor_of}
use Rattle.rebuild_model.specs.Entry.{content_of, Entry as FileEntry}
use Rattle.rebuild_model.specs.declared.rebuilt.Rebuilt.{Rebuilt}
use Rattle.rebuild_model.specs.Rebuilt.{IsRebuilt}
use Rattle.plain_model.specs.declared.entry.Life.TheVariants.{Whole}
use Rattle.plain_model.specs.declared.entry.Entry.{Entry}
use Rattle.plain_model.specs.declared.entry.Place.{Place}
use Rattle.plain_model.specs.declared.store.Tab.TheVariants.{Free}
use Rattle.plain_model.specs.declared.store.Plain.{Plain}
use Rattle.plain_model.specs.declared.kept.Kept.{Kept}
use Rattle.plain_model.specs.Place.{nothing}

-- what the store takes of an entry of the file: the offer of such an entry is its first slot
abbrev pub kept_of : List (List ℕ) → FileEntry → Kept
kept_of images e = record { version = e.version; url = e.url; key = e.key; body = e.body; first = e.first; content = length (content_of images e.chain) }

-- a whole entry stands for it
abbrev pub entry_kept : Kept → Entry
entry_kept k = record { url = k.url; key = k.key; body = k.body; offer = k.first; content = k.content; life = Whole }

abbrev pub place_kept : Option Kept → Place
place_kept None = nothing
place_kept (Some k) = record { version = k.version; doom = false; entry = Some (entry_kept k) }

-- the entry that is kept at an anchor
abbrev pub kept_at : ℕ → List Kept → ℕ → Option Kept
kept_at anchors kept anchor = find (λ k. anchor_of k.key anchors == anchor) kept

-- the counter is the greatest version of the file, and all tabs are free
abbrev pub opened : ℕ → List Kept → ℕ → Plain
opened anchors kept greatest = record {
  counter = greatest;
  hand = 0;
  places = map (λ anchor. place_kept (kept_at anchors kept anchor)) (range_with_len 0 anchors);
  tabs = replicate 8 Free;
}

-- this is the store that is opened on the file with these slots
pub record IsOpened (slot : ℕ) (images : List (List ℕ)) (anchors : ℕ) (p : Plain) : Type 0 where
  pub rebuilt : Rebuilt
  pub is : IsRebuilt slot images anchors rebuilt
  pub store : p ≡ opened anchors (map (kept_of images) is.entries) rebuilt.greatest
