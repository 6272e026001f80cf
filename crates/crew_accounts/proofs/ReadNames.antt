-- What stands beside the anchor of an entry that a tab reads: what its pass has seen of the key and the offer.
use Rattle.std.proofs.Common.{Contains, ap, arith, length, subst, sym, ◌<◌, ◌∙◌, ◌≡◌, ◌≤◌, ℕ}
use Rattle.std.specs.Prelude.{◌≢◌}
use mathlib.Core.Option.{some}
use lib.ListN.{get_elem?}
use Rattle.lock_word.specs.Words.{version_of}
use Rattle.core_model.specs.Anchors.{IsReadAt, opening_counter}
use Rattle.core_model.specs.Layout.{word_in}
use Rattle.core_model.specs.Offers.{IsNewEntry, IsOldEntry}
use Rattle.core_model.specs.State.{chain_of, side_word}
use Rattle.core_model.specs.Tabs.{IsPass, inner, tab_at}
use Rattle.core_model.specs.Trails.{seen_at}
use Rattle.core_model.specs.declared.moves.Side.{Side}
use Rattle.core_model.specs.declared.moves.Side.TheVariants.{Key0, Key1, Offer, Start}
use Rattle.core_model.specs.declared.tab.Reader.{Reader}
use Rattle.core_model.specs.declared.tab.Tab.TheVariants.{Reading}
use Rattle.core_model.specs.declared.view.Place.TheVariants.{Beside}
use Rattle.core_model.specs.declared.view.Sight.TheVariants.{Named}
use Rattle.core_model.specs.declared.view.View.{View}
use Rattle.core_model.proofs.OffersKept.{fits_as}
use Rattle.core_model.proofs.Tabs.{tab_there}
use Rattle.store_rule.specs.Ground.{Ground, IsOfferFor, offering_of}
use Rattle.store_rule.specs.Told.{Stands}

module _ {X : Type 0} (g : Ground X) (t : ℕ) (v : View X) (stands : Stands g v) (pass : IsPass v) (below : t < inner) (r : Reader X) (is : tab_at v t ≡ Reading r) where
  there : get_elem? v.tabs t ≡ some (Reading r)
  there = tab_there v t (Reading r) (let p = pass in let b = below in omega arith) is

  at_anchor : (r.anchor < g.setting.anchors) × IsReadAt stands.state r.anchor r.version × (r.version ≤ version_of (seen_at r.anchor v.seen))
  at_anchor = stands.rule.sound.anchors.tabs stands.index v stands.at t (Reading r) there

  some_slot : 0 < length (chain_of stands.state r.anchor).slots
  some_slot = (stands.rule.sound.slots.tabs stands.index v stands.at t (Reading r) there).some_slot

  pub inside : r.anchor < g.setting.anchors
  inside = at_anchor.0

  name_is : (side : Side) (n : ℕ) → Contains v.seen (Named r.anchor r.version side n) → side_word g.setting stands.state side r.anchor ≡ n
  name_is side n seen = (stands.rule.sound.anchors.seen.named stands.index v stands.at r.anchor r.version side n seen at_anchor.1.version_is).0

  -- Of a version of the opening they are those of then, and so are the slots.
  pub old_name : (side : Side) (n : ℕ) → side ≢ Start → Contains v.seen (Named r.anchor r.version side n) → r.version ≤ opening_counter g.setting → word_in g.setting g.setting.words (Beside side r.anchor) ≡ n
  old_name side n ne seen low = sym (stands.rule.sound.cells.names.old r.anchor side at_anchor.0 ne at_anchor.1.to some_slot (let e = at_anchor.1.version_is in omega arith)) ∙ name_is side n seen

  old_entry : r.version ≤ opening_counter g.setting → IsOldEntry (offering_of g) g.setting stands.state r.anchor
  old_entry low = stands.rule.offered.old r.anchor at_anchor.0 some_slot (let e = at_anchor.1.version_is in omega arith)

  pub old_slots : r.version ≤ opening_counter g.setting → 0 < length (g.chain r.anchor)
  old_slots low = let e = ap length (old_entry low).slots in let s = some_slot in omega arith

  pub old_offer : (offer : ℕ) → Contains v.seen (Named r.anchor r.version Offer offer) → r.version ≤ opening_counter g.setting → offer < g.setting.slots
  old_offer offer seen low = subst (λ (n : ℕ). n < g.setting.slots) (name_is Offer offer seen) (old_entry low).inside

  -- Of a new one they are those of the offer, which is the origin's.
  pub new_offer : (offer : ℕ) → Contains v.seen (Named r.anchor r.version Offer offer) → opening_counter g.setting < r.version → g.setting.slots ≤ offer
  new_offer offer seen high = subst (λ (n : ℕ). g.setting.slots ≤ n) (name_is Offer offer seen) (stands.rule.sound.cells.names.offers r.anchor at_anchor.0 some_slot (let e = at_anchor.1.version_is in omega arith))

  pub offered_for : (offer front back : ℕ) → Contains v.seen (Named r.anchor r.version Offer offer) → Contains v.seen (Named r.anchor r.version Key0 front) → Contains v.seen (Named r.anchor r.version Key1 back)
      → opening_counter g.setting < r.version → IsOfferFor g offer r.anchor front back
  offered_for offer front back seen key0 key1 high = fits_as (offering_of g) r.anchor (side_word g.setting stands.state Offer r.anchor) offer (side_word g.setting stands.state Key0 r.anchor) front (side_word g.setting stands.state Key1 r.anchor) back
      (sym (name_is Offer offer seen)) (sym (name_is Key0 front key0)) (sym (name_is Key1 back key1)) new.fits
    where
      new : IsNewEntry (offering_of g) g.setting stands.state r.anchor
      new = stands.rule.offered.new r.anchor at_anchor.0 some_slot (let e = at_anchor.1.version_is in omega arith)
