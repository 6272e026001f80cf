-- A whole entry of the plain store of which a pass shows a lot, at an anchor of it that is the pass's own, stands closed in the state.
use Rattle.std.proofs.Common.{Bool, List, ap, arith, length, refl, subst, sym, true, ◌-◌, ◌<◌, ◌∙◌, ◌≡◌, ◌≤◌, ℕ}
use Rattle.std.specs.Prelude.{Option, Some}
use mathlib.Core.Option.{some}
use mathlib.Core.Logic.{dite}
use native.Mathlib.Decide.{ℕ_discrete}
use lib.ListN.{get_elem?}
use Rattle.lock_word.specs.Words.{doom_number, doom_of, epoch_of, stage_number, stage_of, version_of}
use Rattle.rock_disk.specs.Cell.{CellState}
use Rattle.entry_cut.specs.Content.{room_of}
use Rattle.core_model.specs.declared.moves.Side.TheVariants.{Offer}
use Rattle.core_model.specs.declared.view.Place.TheVariants.{Anchor, Beside}
use Rattle.core_model.specs.declared.view.View.{View}
use Rattle.core_model.specs.Anchors.{opening_counter}
use Rattle.core_model.specs.Slots.{ChainStands, slot_words}
use Rattle.core_model.specs.State.{State, chain_of, side_word, word}
use Rattle.core_model.specs.Tabs.{IsPass}
use Rattle.core_model.proofs.Spelling.{last_is_written, some_fits}
use Rattle.core_model.proofs.Telling.{stage_told}
use Rattle.plain_model.specs.declared.entry.Entry.{Entry}
use Rattle.plain_model.specs.declared.entry.Life.{Life}
use Rattle.plain_model.specs.declared.entry.Life.TheVariants.{Whole}
use Rattle.plain_model.specs.declared.store.Plain.{Plain}
use Rattle.plain_model.specs.Store.{entry_at, place_at, stage_of as stage_of_place, stage_of_entry}
use Rattle.store_rule.specs.Words.{has}
use Rattle.store_rule.specs.declared.store.Pass.{Pass}
use Rattle.store_rule.specs.declared.store.Store.{Store}
use Rattle.store_rule.specs.Closing.{Closed}
use Rattle.store_rule.specs.Ground.{Ground, Offers, Rule}
use Rattle.store_rule.specs.Passes.{basis, view}
use Rattle.store_rule.specs.Told.{Stands}
use Rattle.store_rule.proofs.Passing.{pass_of}
use Rattle.plain_runs.specs.Ends.{SpellsOpened, StandsClosed}
use Rattle.plain_runs.specs.Runs.{ShowsPlain}
use Rattle.plain_runs.specs.Words.{IsLone, Knows, KnowsLot, Lot, ShowsEntry, ShowsEntryIf, no_guests, setting_of, whole_lot}
use Rattle.plain_runs.proofs.OwnAnchors.{OwnsAnchor, owns_lone}
use Rattle.plain_runs.proofs.PlainWords.{doom_there, readers_fit, stage_there, version_there}

module _ (g : Ground (List ℕ)) (rename : ℕ → ℕ) (lot : Lot) (v : View (List ℕ)) (st : Stands g v) (pass : IsPass v)
    (p : Plain) (knows : KnowsLot g rename lot v p no_guests) (eight : length p.tabs ≡ 8) (a : ℕ) (own : OwnsAnchor g v.pass a) (e : Entry) (lt : a < g.setting.anchors) (ours : lot.anchors a ≡ true) (there : entry_at p a ≡ Some e) (whole : e.life ≡ Whole) where
  abbrev s : State (List ℕ)
  s = st.state

  abbrev rule : Rule g s
  rule = st.rule

  word_there : word s a ≡ has g v (Anchor a)
  word_there = own.stands v st (Anchor a) refl pass refl lt

  pub stage_is : stage_of (epoch_of (word s a)) ≡ 3
  stage_is = ap (λ (n : ℕ). stage_of (epoch_of n)) word_there
      ∙ stage_there rename (setting_of g) p 0 a (has g v (Anchor a)) (knows.each a lt ours).word (readers_fit p a 0 eight (omega arith))
      ∙ ap (λ (o : Option Entry). stage_number (stage_of_place (room_of g.slot) (place_at p a).version o)) there
      ∙ ap (λ (life : Life). stage_number (stage_of_entry (room_of g.slot) life e.content)) whole

  pub version_stands : version_of (epoch_of (word s a)) ≡ rename (place_at p a).version
  version_stands = ap (λ (n : ℕ). version_of (epoch_of n)) word_there
      ∙ version_there rename (setting_of g) p 0 a (has g v (Anchor a)) (knows.each a lt ours).word (readers_fit p a 0 eight (omega arith))

  doom_stands : doom_of (epoch_of (word s a)) ≡ doom_number (place_at p a).doom
  doom_stands = ap (λ (n : ℕ). doom_of (epoch_of n)) word_there
      ∙ doom_there rename (setting_of g) p 0 a (has g v (Anchor a)) (knows.each a lt ours).word (readers_fit p a 0 eight (omega arith))

  pub entry_shown : ShowsEntry g v a (place_at p a).version e
  entry_shown = subst (ShowsEntryIf g v a (place_at p a).version) there (knows.each a lt ours).entry

  pub offer_stands : side_word g.setting s Offer a ≡ e.offer
  offer_stands = own.stands v st (Beside Offer a) refl pass refl lt ∙ entry_shown.names.offer

  stands : ChainStands 3 ((slot_words g.setting s.words).start a) (slot_words g.setting s.words).link (chain_of s a)
  stands = subst (λ (z : ℕ). ChainStands z ((slot_words g.setting s.words).start a) (slot_words g.setting s.words).link (chain_of s a)) (stage_told g.setting s.words a lt ∙ stage_is) (rule.sound.slots.stand a lt)

  some_slot : 0 < length (chain_of s a).slots
  some_slot = some_fits (chain_of s a).slots (chain_of s a).end stands.fits (λ z. last_is_written (sym (stands.closed refl) ∙ z))

  -- an offer below the slots is that of an entry of the opening
  old_version : e.offer < g.setting.slots → version_of (epoch_of (word s a)) ≤ opening_counter g.setting
  old_version low = dite (ℕ_discrete (version_of (epoch_of (word s a)) - opening_counter g.setting) 0)
      (λ z. omega arith)
      (λ ne. absurd (let high = rule.sound.cells.names.offers a lt some_slot (omega arith) in let is = offer_stands in omega arith))

  spelled : e.offer < g.setting.slots → SpellsOpened g s a e.url e.body
  spelled low = let o = entry_shown.offer.response.old low in record {
    entry = o.entry;
    complete = o.complete;
    chain = o.chain_is ∙ sym (rule.offered.old a lt some_slot (old_version low)).slots;
    url_is = o.url_is;
    body_is = o.body_is;
  }

-- Where the pass shows the whole store and each version stands for itself, the entry stands closed with its own.
stands_closed : (g : Ground (List ℕ)) (v : View (List ℕ)) (st : Stands g v) (pass : IsPass v) (p : Plain) (knows : Knows g (λ v. v) v p no_guests) → length p.tabs ≡ 8 → (a : ℕ) → OwnsAnchor g v.pass a → (e : Entry) → a < g.setting.anchors
    → entry_at p a ≡ Some e → e.life ≡ Whole → StandsClosed g st.state p a e
stands_closed g v st pass p knows eight a own e lt there whole = record {
  stage = stage_is g (λ v. v) whole_lot v st pass p knows eight a own e lt refl there whole;
  doom = λ none. doom_stands g (λ v. v) whole_lot v st pass p knows eight a own e lt refl there whole ∙ ap doom_number none;
  version = version_stands g (λ v. v) whole_lot v st pass p knows eight a own e lt refl there whole;
  offer = offer_stands g (λ v. v) whole_lot v st pass p knows eight a own e lt refl there whole;
  old = spelled g (λ v. v) whole_lot v st pass p knows eight a own e lt refl there whole;
  new = λ high. let o = (entry_shown g (λ v. v) whole_lot v st pass p knows eight a own e lt refl there whole).offer.response.new high in (o.url_is, o.body_is);
}

-- So it does when a store with one pass was closed.
module _ {C O : Type 0} (tells : Bool) (state : C → CellState) (offers : O → Offers) (s : Store C O) (p : Pass C) (plain : Plain) (views : List (View (List ℕ))) (left : List C)
    (closed : Closed tells state (basis tells state offers s) views left) (a : ℕ) (e : Entry) (lone : IsLone (basis tells state offers s)) (first : get_elem? views 0 ≡ some (view p))
    (shows : ShowsPlain tells state offers s p plain) (lt : a < (basis tells state offers s).setting.anchors) (there : entry_at plain a ≡ Some e) (whole : e.life ≡ Whole) where
  pub whole_stands : StandsClosed (basis tells state offers s) closed.gathered.state plain a e
  whole_stands = let gathered = closed.gathered in
      stands_closed (basis tells state offers s) (view p) record { state = gathered.state; index = gathered.index 0; rule = gathered.rule; at = gathered.at 0 (view p) first } (pass_of p) plain shows.knows shows.eight a
      (owns_lone (basis tells state offers s) lone (view p).pass a) e lt there whole
