-- The entries of a core that keeps to its offers: each is the opening's, or one of an offer of which pieces were published in order.
use Rattle.std.proofs.Common.{◌≡◌, ◌⊎◌, ℕ, ◌+◌, ◌<◌, ◌≤◌, length, take, drop}
use Rattle.std.specs.Prelude.{◌↔◌}
use Rattle.std.specs.Int.{w64, from_le_bytes}
use Rattle.lock_word.specs.Words.{epoch_of, version_of, version_limit}
use Rattle.link_word.specs.declared.link.Link.TheVariants.{Last}
use Rattle.store_key.specs.Anchor.{anchor_of}
use Rattle.store_key.specs.Key.{key_of}
use Rattle.store_key.specs.Url.{IsUrl}
use Rattle.rebuild_model.specs.declared.image.FileImage.{FileImage}
use Rattle.rebuild_model.specs.Entry.{Entry, IsComplete}
use Rattle.entry_cut.specs.Content.{Cut, count}
use Rattle.core_model.specs.declared.moves.Side.TheVariants.{Key0, Key1, Offer}
use Rattle.core_model.specs.Layout.{Setting}
use Rattle.core_model.specs.Chains.{link_at}
use Rattle.core_model.specs.State.{State, word, chain_of, side_word}
use Rattle.core_table.specs.declared.content.Content.{Content}
use Rattle.core_runs.specs.Responses.{Offers, cut_of, key0_of, key1_of}

-- The entry of the opening that stands at this anchor, as the state has it.
pub record IsOld (file : FileImage) (k : Setting Content) (s : State Content) (a : ℕ) : Type 0 where
  pub entry : Entry
  pub complete : IsComplete file.slot file.slots entry
  pub inside : entry.first < k.slots
  pub slots : (chain_of s a).slots ≡ entry.chain
  pub anchor : anchor_of entry.key k.anchors ≡ a
  pub version : version_of (epoch_of (word s a)) ≡ entry.version
  pub offer : side_word k s Offer a ≡ entry.first
  pub key0 : side_word k s Key0 a ≡ from_le_bytes w64 (take 8 entry.key)
  pub key1 : side_word k s Key1 a ≡ from_le_bytes w64 (drop 8 entry.key)

-- The offer that stands beside an anchor, cut for the version there; where its first piece is makes no difference.
abbrev pub cut_at : FileImage → Offers → (k : Setting Content) (s : State Content) (a : ℕ) → Cut
cut_at file o k s a = cut_of file.slot o (side_word k s Offer a) (version_of (epoch_of (word s a))) 0

-- A new entry of an offer, of which so many pieces are published: the link of each says whether it is the last piece.
pub record IsNew (file : FileImage) (o : Offers) (k : Setting Content) (s : State Content) (a : ℕ) : Type 0 where
  pub high : k.slots ≤ side_word k s Offer a
  pub url : IsUrl (o.url (side_word k s Offer a))
  pub short : length (o.url (side_word k s Offer a)) + 72 ≤ file.slot
  pub anchor : anchor_of (key_of (o.url (side_word k s Offer a))) k.anchors ≡ a
  pub key0 : side_word k s Key0 a ≡ key0_of (o.url (side_word k s Offer a))
  pub key1 : side_word k s Key1 a ≡ key1_of (o.url (side_word k s Offer a))
  pub from : 0 < version_of (epoch_of (word s a))
  pub to : version_of (epoch_of (word s a)) ≤ version_limit
  pub last : (p : ℕ) → p < length (chain_of s a).slots → (link_at (chain_of s a) p ≡ Last) ↔ (p + 1 ≡ count (cut_at file o k s a))

-- what stands at an anchor
abbrev pub Standing : FileImage → Offers → (k : Setting Content) (s : State Content) (a : ℕ) → Type 0
Standing file o k s a = (length (chain_of s a).slots ≡ 0) ⊎ (IsOld file k s a ⊎ IsNew file o k s a)
