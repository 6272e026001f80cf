-- What the file holds that a store gives back: the responses of its closed entries.
use Rattle.std.specs.Prelude.{Bool, List, None, Some, false, length, slice_index_or, true, ◌-◌, ◌<◌, ◌≡◌, ◌≤◌, ℕ}
use Rattle.store_key.specs.Anchor.{anchor_of}
use Rattle.lock_word.specs.Words.{doom_of, epoch_of, stage_of, version_of}
use Rattle.rebuild_model.specs.Entry.{Entry, IsComplete}
use Rattle.rebuild_model.specs.Image.{image_at}
use Rattle.core_model.specs.Anchors.{opening_epoch}
use Rattle.core_model.specs.State.{State, chain_of, side_word, word}
use Rattle.core_model.specs.declared.moves.Side.TheVariants.{Offer}
use Rattle.core_model.specs.declared.tab.Cell.{Cell}
use Rattle.core_model.specs.declared.tab.Piece.{Piece}
use Rattle.entry_cut.specs.Content.{image}
use Rattle.plain_model.specs.declared.entry.Entry.{Entry as PlainEntry}
use Rattle.plain_model.specs.declared.entry.Life.TheVariants.{Whole}
use Rattle.plain_model.specs.declared.store.Plain.{Plain}
use Rattle.plain_model.specs.Store.{entry_at, place_at}
use Rattle.store_rule.specs.Ground.{Ground, cut_of, url_of}
use Rattle.store_rule.specs.Setting.{next_number}

-- A piece is its image in bytes: so it is where cells tell what they hold.
abbrev pub TellsPieces : Ground (List ℕ) → Type 0
TellsPieces g = (p : Piece) → g.setting.image p ≡ image (cut_of g p.offer p.version p.first) p.place (next_number p.next)

-- The entry of the file that an anchor had at the opening has the version that the anchor had.
abbrev pub HasVersions : Ground (List ℕ) → Type 0
HasVersions g = (a : ℕ) (e : Entry) → a < g.setting.anchors → IsComplete g.slot g.setting.contents e → e.chain ≡ g.chain a → e.version ≡ version_of (opening_epoch g.setting a)

-- each slot's cell is in its place, and a read of it gives its image
pub record IsHomeAs (g : Ground (List ℕ)) (s : State (List ℕ)) (images : List (List ℕ)) : Type 0 where
  pub many : length images ≡ g.setting.slots
  pub cells : (slot : ℕ) → slot < g.setting.slots → (c : Cell (List ℕ)) × (slice_index_or s.places slot None ≡ Some c) × (image_at images slot ≡ c.now)

-- in these images the chain of the anchor is a complete entry with this URL and this body, and with the version that stands there
pub record SpellsResponse (g : Ground (List ℕ)) (s : State (List ℕ)) (images : List (List ℕ)) (a : ℕ) (url body : List ℕ) : Type 0 where
  pub entry : Entry
  pub complete : IsComplete g.slot images entry
  pub chain : entry.chain ≡ (chain_of s a).slots
  pub version : entry.version ≡ version_of (epoch_of (word s a))
  pub url_is : entry.url ≡ url
  pub body_is : entry.body ≡ body

-- the chain of the anchor is that of a complete entry of the opening's file, with this URL and this body
pub record SpellsOpened (g : Ground (List ℕ)) (s : State (List ℕ)) (a : ℕ) (url body : List ℕ) : Type 0 where
  pub entry : Entry
  pub complete : IsComplete g.slot g.setting.contents entry
  pub chain : entry.chain ≡ (chain_of s a).slots
  pub url_is : entry.url ≡ url
  pub body_is : entry.body ≡ body

-- These images have a complete entry with this version, at this anchor, under the URL of the plain store's entry and with its body.
pub record HoldsEntry (slot anchors : ℕ) (images : List (List ℕ)) (a version : ℕ) (e : PlainEntry) : Type 0 where
  pub entry : Entry
  pub complete : IsComplete slot images entry
  pub at : anchor_of entry.key anchors ≡ a
  pub version_is : entry.version ≡ version
  pub url_is : entry.url ≡ e.url
  pub body_is : entry.body ≡ e.body

-- Where the plain store has this whole entry at the anchor, the state has it closed there, with its version and its doom, and with its offer: an
-- entry of the opening's file with the slots that stand there, or a response of the origin, with this URL and this body.
pub record StandsClosed (g : Ground (List ℕ)) (s : State (List ℕ)) (p : Plain) (a : ℕ) (e : PlainEntry) : Type 0 where
  pub stage : stage_of (epoch_of (word s a)) ≡ 3
  pub doom : (place_at p a).doom ≡ false → doom_of (epoch_of (word s a)) ≡ 0
  pub version : version_of (epoch_of (word s a)) ≡ (place_at p a).version
  pub offer : side_word g.setting s Offer a ≡ e.offer
  pub old : e.offer < g.setting.slots → SpellsOpened g s a e.url e.body
  pub new : g.setting.slots ≤ e.offer → (url_of g e.offer ≡ e.url) × (g.offers.body (e.offer - g.setting.slots) ≡ e.body)

-- They have each entry of the plain store that is whole.
abbrev pub HoldsWhole : (slot anchors : ℕ) → List (List ℕ) → Plain → Type 0
HoldsWhole slot anchors images p = (a : ℕ) (e : PlainEntry) → a < anchors → entry_at p a ≡ Some e → e.life ≡ Whole → HoldsEntry slot anchors images a (place_at p a).version e

-- They have each entry of the plain store that is whole and at one of these anchors, with the version that stands for its own.
abbrev pub HoldsWholeAt : (slot anchors : ℕ) → List (List ℕ) → (here : ℕ → Bool) → (rename : ℕ → ℕ) → Plain → Type 0
HoldsWholeAt slot anchors images here rename p = (a : ℕ) (e : PlainEntry) → a < anchors → here a ≡ true → entry_at p a ≡ Some e → e.life ≡ Whole
    → HoldsEntry slot anchors images a (rename (place_at p a).version) e
