-- What the words that a pass knows tell of the plain store. The pass is the only one of its store, so what it knows is what the words are.
use Rattle.std.specs.Prelude.{Bool, List, Option, None, Some, length, true, ◌+◌, ◌-◌, ◌<◌, ◌≡◌, ◌≢◌, ◌≤◌, ℕ, sum_by}
use Rattle.link_word.specs.declared.link.Link.{Link}
use Rattle.link_word.specs.declared.link.Link.TheVariants.{Last}
use Rattle.lock_word.specs.Words.{word_number}
use Rattle.store_key.specs.Anchor.{back_half, front_half}
use Rattle.store_key.specs.Key.{key_of}
use Rattle.entry_cut.specs.Content.{room_of}
use Rattle.core_model.specs.Chains.{IsSpelled, slots_of_link}
use Rattle.core_model.specs.Slots.{told}
use Rattle.core_model.specs.declared.moves.Side.TheVariants.{Key0, Key1, Offer, Start}
use Rattle.core_model.specs.declared.tab.Tab.{Tab}
use Rattle.core_model.specs.declared.tab.Tab.TheVariants as tab
use Rattle.core_model.specs.declared.view.Place.TheVariants as place
use Rattle.core_model.specs.declared.view.View.{View}
use Rattle.plain_model.specs.declared.entry.Entry.{Entry}
use Rattle.plain_model.specs.declared.entry.Life.{Life}
use Rattle.plain_model.specs.declared.entry.Life.TheVariants.{GivenUp, Growing, Whole}
use Rattle.plain_model.specs.declared.store.Plain.{Plain}
use Rattle.plain_model.specs.declared.store.Setting.{Setting}
use Rattle.plain_model.specs.Store.{entry_at, meta_size, place_at, published, word_at}
use Rattle.plain_laws.specs.Renaming.{renamed_word}
use Rattle.store_rule.specs.Ground.{Ground, anchor_for}
use Rattle.store_rule.specs.Words.{has}
use Rattle.rock_reader.specs.Responses.{IsResponse, pieces_of}

-- what does not change while the store is open, for the plain store
abbrev pub setting_of : {X : Type 0} → Ground X → Setting
setting_of g = record { slots = g.setting.slots; room = room_of g.slot; anchors = g.setting.anchors }

-- What of a store is one pass's own: anchors, tabs that open URLs of these anchors alone, and whether the counter of versions is too.
pub record Lot : Type 0 where
  pub anchors : ℕ → Bool
  pub tabs : ℕ → Bool
  pub counter : Bool

-- the whole store, of its only pass
abbrev pub whole_lot : Lot
whole_lot = record { anchors = λ a. true; tabs = λ t. true; counter = true }

-- the store has one pass
abbrev pub IsLone : {X : Type 0} → Ground X → Type 0
IsLone g = g.setting.passes ≡ 1

-- the link of a slot, as the pass knows it, and 0 for a slot that the table does not have
abbrev pub link_known : {X : Type 0} → Ground X → View X → ℕ → ℕ
link_known g v slot = told g.setting.slots slot (has g v (place.Link slot))

-- how many slots of an entry are published: of a whole one the last too
abbrev pub slots_published : ℕ → Life → ℕ → ℕ
slots_published room Whole content = published room content + 1
slots_published room Growing content = published room content
slots_published room GivenUp content = published room content

-- a whole entry ends with its last slot, any other before that
abbrev pub EndsSo : Life → Link → Type 0
EndsSo Whole end = end ≡ Last
EndsSo Growing end = end ≢ Last
EndsSo GivenUp end = end ≢ Last

-- No reader is counted beside those of the plain store.
abbrev pub no_guests : ℕ → ℕ
no_guests a = 0

-- How many slots a writing tab has reserved beside the one that its last published slot names, and how many all tabs have.
abbrev pub spare_of : {X : Type 0} → Tab X → ℕ
spare_of (tab.Writing w) = length w.reserved - length (slots_of_link w.end)
spare_of _ = 0

abbrev pub spare : {X : Type 0} → View X → ℕ
spare v = sum_by spare_of v.tabs

module _ (g : Ground (List ℕ)) where
  -- the words beside the anchor are the key and the offer of the entry
  pub record HasNames (v : View (List ℕ)) (a : ℕ) (e : Entry) : Type 0 where
    pub key0 : has g v (place.Beside Key0 a) ≡ front_half e.key
    pub key1 : has g v (place.Beside Key1 a) ≡ back_half e.key
    pub offer : has g v (place.Beside Offer a) ≡ e.offer

  -- the words spell as many slots as the entry has published
  pub record HasChain (v : View (List ℕ)) (a : ℕ) (e : Entry) : Type 0 where
    pub slots : List ℕ
    pub end : Link
    pub spelled : IsSpelled (has g v (place.Beside Start a)) (link_known g v) slots end
    pub many : length slots ≡ slots_published (room_of g.slot) e.life e.content
    pub ends : EndsSo e.life end

  -- The entry is of its offer: this has its URL, its key and its body, and its content is no longer than that of the offer. One of the
  -- file is whole.
  pub record IsOfOffer (a : ℕ) (e : Entry) : Type 0 where
    pub response : IsResponse g a e.offer e.url e.body
    pub key : e.key ≡ key_of e.url
    pub at : anchor_for g e.url ≡ a
    pub old : e.offer < g.setting.slots → e.life ≡ Whole
    pub more : g.setting.slots ≤ e.offer → meta_size e.url ≤ e.content
    pub most : g.setting.slots ≤ e.offer → e.content ≤ meta_size e.url + length e.body
    pub whole : e.life ≡ Whole → pieces_of g a e.offer ≡ published (room_of g.slot) e.content + 1
    pub all : g.setting.slots ≤ e.offer → e.life ≡ Whole → e.content ≡ meta_size e.url + length e.body

  pub record ShowsEntry (v : View (List ℕ)) (a version : ℕ) (e : Entry) : Type 0 where
    pub names : HasNames v a e
    pub chain : HasChain v a e
    pub offer : IsOfOffer a e
    pub drawn : 0 < version  -- an entry has a version

  abbrev pub ShowsEntryIf : View (List ℕ) → (a version : ℕ) → Option Entry → Type 0
  ShowsEntryIf v a version None = Unit {0}
  ShowsEntryIf v a version (Some e) = ShowsEntry v a version e

  module _ (rename : ℕ → ℕ) where
    -- The anchor has the word of the plain store, with so many readers more, and the entry. Versions of the plain store stand for those of
    -- the store.
    pub record ShowsAt (v : View (List ℕ)) (p : Plain) (guests a : ℕ) : Type 0 where
      pub word : has g v (place.Anchor a) ≡ word_number (renamed_word rename (word_at (setting_of g) p a)) + guests
      pub entry : ShowsEntryIf v a (place_at p a).version (entry_at p a)

    -- What the pass knows of its lot is the plain store p: at each anchor of the lot, where so many readers more are counted, and of the counter.
    pub record KnowsLot (lot : Lot) (v : View (List ℕ)) (p : Plain) (guests : ℕ → ℕ) : Type 0 where
      pub counter : lot.counter ≡ true → has g v place.Counter ≡ p.counter
      pub many : length p.places ≡ g.setting.anchors
      pub each : (a : ℕ) → a < g.setting.anchors → lot.anchors a ≡ true → ShowsAt v p (guests a) a

    -- What it knows of the whole store is p.
    abbrev pub Knows : View (List ℕ) → Plain → (guests : ℕ → ℕ) → Type 0
    Knows v p guests = KnowsLot whole_lot v p guests
