-- The responses that are offered, as the model has them.
use Rattle.std.specs.Prelude.{◌≡◌, ℕ}
use Rattle.store_key.specs.Anchor.{anchor_of}
use Rattle.store_key.specs.Key.{key_of}
use Rattle.store_key.specs.Url.{IsUrl}
use Rattle.rebuild_model.specs.declared.image.FileImage.{FileImage}
use Rattle.entry_cut.specs.Content.{LeavesRoom, count}
use Rattle.core_model.specs.State.{chain_of}
use Rattle.core_model.specs.Offers.{Offering, OffersStand}
use Rattle.core_table.specs.Machine.{Machine, setting_of, state_of}
use Rattle.core_runs.specs.Responses.{Offers, cut_of, key0_of, key1_of}

-- an offer with a good URL that leaves room in a slot, for this anchor and key
pub record IsOfferFor (file : FileImage) (o : Offers) (anchors n a x y : ℕ) : Type 0 where
  pub url : IsUrl (o.url n)
  pub short : LeavesRoom file.slot (o.url n)
  pub anchor : anchor_of (key_of (o.url n)) anchors ≡ a
  pub key0 : x ≡ key0_of (o.url n)
  pub key1 : y ≡ key1_of (o.url n)

-- what is offered to the stores that begin with this core
abbrev pub offering_of : FileImage → Offers → Machine → Offering
offering_of file o from = record {
  chain = λ a. (chain_of (state_of from) a).slots;
  pieces = λ n. count (cut_of file.slot o n 0 0);
  Fits = λ n a x y. IsOfferFor file o from.anchors n a x y;
}

-- each entry of a core of such a store is the opening's or one of its offer, and each tab that chose a piece keeps to its offer
abbrev pub AllOffered : FileImage → Offers → (from m : Machine) → Type 0
AllOffered file o from m = OffersStand (offering_of file o from) (setting_of m) (state_of m)
