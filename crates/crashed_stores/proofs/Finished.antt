-- An entry that was finished as durable, in a state in which its version still stands.
use Rattle.std.proofs.Common.{◌≡◌, ◌-◌, ◌<◌, ◌≤◌, ◌^◌, ℕ, List, Bool, IsTrue, inr, length, sym, ap, subst, ◌∙◌, arith}
use mathlib.Core.Logic.{dite}
use native.Mathlib.Decide.{ℕ_discrete}
use Rattle.std.specs.Global.{Vec}
use Rattle.lock_word.specs.Words.{epoch_of, stage_of, version_of}
use Rattle.rock_disk.specs.Cell.{CellState}
use Rattle.core_model.specs.declared.chain.Chain.{Chain}
use Rattle.core_model.specs.declared.moves.Side.TheVariants.{Offer}
use Rattle.core_model.specs.declared.view.Sight.TheVariants.{Logged, Named, Published}
use Rattle.core_model.specs.declared.view.View.{View}
use Rattle.core_model.specs.Anchors.{opening_counter}
use Rattle.core_model.specs.Offers.{IsNewEntry}
use Rattle.core_model.specs.Slots.{ChainStands, slot_words}
use Rattle.core_model.specs.State.{State, chain_of, side_word, word}
use Rattle.core_model.proofs.Telling.{stage_told}
use Rattle.core_log.specs.Logged.{IsDurable}
use Rattle.core_log.specs.Seen.{IsSeen}
use Rattle.crash_entries.proofs.Telling.{Tools}
use Rattle.crash_laws.specs.Left.{entry_at}
use Rattle.store_rule.specs.declared.store.Pass.{Pass}
use Rattle.store_rule.specs.declared.store.Store.{Store}
use Rattle.store_rule.specs.Ground.{Ground, Offers, Rule, offering_of}
use Rattle.store_rule.specs.Passes.{basis}
use Rattle.rock_open.specs.Opening.{IsStoreOver}
use Rattle.rock_writer.specs.Durable.{LoggedAt, LoggedWhole, pieces_in}
use Rattle.rock_writer.specs.Entries.{Entry as Written}
use Rattle.crashed_stores.specs.Finished.{AreSeen, IsFoundIn}
use Rattle.crashed_stores.specs.Left.{IsDurableEntry, IsLeftOf, offers_in}
use Rattle.crashed_stores.proofs.Durable.{durable_kept}

module _ (g : Ground (List ℕ)) (e : Written) (v : View (List ℕ)) (s : State (List ℕ)) (rule : Rule g s) (known : LoggedWhole g e v) (seen : AreSeen s v)
    (version_is : version_of (epoch_of (word s e.anchor)) ≡ e.version) (some_slot : 0 < length (chain_of s e.anchor).slots) where
  offer_seen : IsSeen s.views (Named e.anchor e.version Offer e.offer)
  offer_seen = seen (Named e.anchor e.version Offer e.offer) known.offer

  lt : e.anchor < g.setting.anchors
  lt = rule.sound.anchors.seen.inside offer_seen.i offer_seen.view offer_seen.at (Named e.anchor e.version Offer e.offer) offer_seen.seen

  stands : ChainStands (stage_of (epoch_of (word s e.anchor))) ((slot_words g.setting s.words).start e.anchor) (slot_words g.setting s.words).link (chain_of s e.anchor)
  stands = subst (λ (n : ℕ). ChainStands n ((slot_words g.setting s.words).start e.anchor) (slot_words g.setting s.words).link (chain_of s e.anchor)) (stage_told g.setting s.words e.anchor lt) (rule.sound.slots.stand e.anchor lt)

  -- it was not given back
  low : stage_of (epoch_of (word s e.anchor)) ≤ 4
  low = dite (ℕ_discrete (stage_of (epoch_of (word s e.anchor)) - 4) 0)
      (λ z. omega arith)
      (λ ne. absurd (let none = ap (λ (c : Chain). length c.slots) (stands.gone (inr (omega arith))) in let some = some_slot in omega arith))

  offer_is : side_word g.setting s Offer e.anchor ≡ e.offer
  offer_is = (rule.sound.anchors.seen.named offer_seen.i offer_seen.view offer_seen.at e.anchor e.version Offer e.offer offer_seen.seen version_is).0

  all_published : pieces_in g e ≤ length (chain_of s e.anchor).slots
  all_published = let p = seen (Published e.anchor e.version (pieces_in g e)) known.published in
      rule.sound.anchors.seen.published p.i p.view p.at e.anchor e.version (pieces_in g e) p.seen version_is low

  first : LoggedAt v e.anchor e.version 0
  first = known.logged 0 known.some

  new : opening_counter g.setting < version_of (epoch_of (word s e.anchor))
  new = let n = rule.logged.stands.links.new first.link (rule.logged.stands.of.all first.link (seen (Logged first.link) first.seen)) in let z = first.version_is in let w = version_is in omega arith

  entry : IsNewEntry (offering_of g) g.setting s e.anchor
  entry = rule.offered.new e.anchor lt some_slot new

  pieces_are : (offering_of g).pieces (side_word g.setting s Offer e.anchor) ≡ pieces_in g e
  pieces_are = ap (offering_of g).pieces offer_is

  durable_at : (place : ℕ) → place < pieces_in g e → IsDurable s rule.logged.log e.anchor place
  durable_at place under = let h = known.logged place under in record {
    link = h.link;
    among = rule.logged.stands.of.all h.link (seen (Logged h.link) h.seen);
    durable = h.durable;
    anchor_is = h.anchor_is;
    version_is = h.version_is ∙ sym version_is;
    place_is = h.place_is;
  }

  pub finished_durable : IsDurableEntry g s rule.logged.log e.anchor
  finished_durable = record {
    new = new;
    some_slot = some_slot;
    closed = entry.last.1 (let i = entry.inside in let z = pieces_are in let a = all_published in omega arith);
    durable = λ place under. durable_at place (let i = entry.inside in let z = pieces_are in omega arith);
  }

module _ {C O : Type 0} (tells : Bool) (told : IsTrue tells) (cell : C → CellState) (offers : O → Offers) (slot anchors many : ℕ) (origin : O) (cells : List C) (store : Store C O) (passes : Vec (Pass C))
    (over : IsStoreOver tells cell offers slot anchors many origin cells store passes) (s : State (List ℕ)) (rule : Rule (basis tells cell offers store) s) (e : Written) (v : View (List ℕ)) where
  abbrev g : Ground (List ℕ)
  g = basis tells cell offers store

  pub finished_kept : (t : Tools) → slot < 2 ^ 32 → length cells ≤ 1048576 → (images : List (List ℕ)) → IsLeftOf g s rule.logged.log images → LoggedWhole g e v → AreSeen s v
      → version_of (epoch_of (word s e.anchor)) ≡ e.version → 0 < length (chain_of s e.anchor).slots → IsFoundIn slot anchors g e images
  finished_kept t sized few images left known seen version_is some_slot = record {
    found = entry_at slot (offers_in g) g.setting s e.anchor;
    won = durable_kept tells told cell offers slot anchors many origin cells store passes over s rule t sized few images left e.anchor (let z = over.anchors_are in let l = lt g e v s rule known seen version_is some_slot in omega arith)
        (finished_durable g e v s rule known seen version_is some_slot);
    version_is = version_is;
    url_is = ap (offers_in g).url (offer_is g e v s rule known seen version_is some_slot);
    body_is = ap (offers_in g).body (offer_is g e v s rule known seen version_is some_slot);
  }
