-- What a pass knows of an entry that it opened.
use Rattle.std.proofs.Common.{Bool, Contains, List, arith, refl, subst, sym, ◌<◌, ◌∙◌, ◌≡◌, ◌≤◌, ℕ}
use Rattle.lock_word.specs.Words.{epoch_number, version_of}
use Rattle.lock_word.proofs.Parts.{version_of-epoch_number}
use Rattle.store_key.specs.Anchor.{back_half, front_half}
use Rattle.store_key.specs.Key.{key_of}
use Rattle.core_model.specs.Anchors.{opening_counter}
use Rattle.core_model.specs.Tabs.{tab_at}
use Rattle.core_model.specs.declared.moves.Side.TheVariants.{Key0, Key1, Offer}
use Rattle.core_model.specs.declared.tab.Tab.TheVariants.{Reading}
use Rattle.core_model.specs.declared.view.Sight.TheVariants.{Named}
use Rattle.core_model.specs.declared.view.View.{View}
use Rattle.line_account.specs.Answers.{IsEntryAt}
use Rattle.store_rule.specs.Ground.{Ground, anchor_for}
use Rattle.store_rule.specs.Told.{Stands}
use Rattle.rock_reader.specs.Opening.{OpenedEntry, opened}
use Rattle.rock_reader.proofs.Coming.{readable_is, step_sees}
use Rattle.crew_accounts.specs.Runs.{Past, run_of}
use Rattle.crew_accounts.proofs.Coming.{came_reads}
use Rattle.crew_accounts.proofs.Loading.{back_loaded, front_loaded, keyed_reads, offer_start, side_loaded}

module _ {X : Type 0} (g : Ground X) (w : View X) (stands : Stands g w) where
  -- a name of a version is one
  pub one_offer : (a version x y : ℕ) → Contains w.seen (Named a version Offer x) → Contains w.seen (Named a version Offer y) → x ≡ y
  one_offer a version x y h k = stands.rule.sound.anchors.seen.agree stands.index stands.index w w stands.at stands.at a version Offer x y h k

module _ (g : Ground (List ℕ)) (told : Bool) (past : Past) (t : ℕ) (url : List ℕ) (v w : View (List ℕ)) (version : ℕ) (h : OpenedEntry g t url v version w) where
  abbrev anchor : ℕ
  anchor = anchor_for g url

  pub version_is : version_of (epoch_number h.epoch) ≡ version
  version_is = version_of-epoch_number h.epoch ∙ sym h.accepted.version_is

  pub reads : tab_at h.entered t ≡ Reading (opened anchor h.epoch.version)
  reads = came_reads g v h.entered t anchor h.came.found h.epoch h.came.enter h.came.epoch_is h.readable

  abbrev pub opened_entry : IsEntryAt (run_of g told past) w anchor (epoch_number h.epoch) url
  opened_entry =
      let front = front_loaded g h.entered h.accepted.keyed t (opened anchor h.epoch.version) reads (key_of url) h.accepted.key in
      let back = back_loaded g h.entered h.accepted.keyed t (opened anchor h.epoch.version) reads (key_of url) h.accepted.key in
      let keyed = keyed_reads g h.entered h.accepted.keyed t (opened anchor h.epoch.version) reads (key_of url) h.accepted.key in
      let offer = side_loaded g h.accepted.keyed w t (opened anchor h.epoch.version) keyed Offer h.accepted.offer offer_start h.accepted.loaded in
      let same = version_of-epoch_number h.epoch in
      record {
        readable = readable_is h.epoch h.readable;
        seen = h.came.fresh.seen;
        front = subst (λ (n : ℕ). Contains w.seen (Named anchor n Key0 (front_half (key_of url)))) (sym same) (step_sees g h.accepted.keyed w _ _ _ h.accepted.loaded front.named);
        back = subst (λ (n : ℕ). Contains w.seen (Named anchor n Key1 (back_half (key_of url)))) (sym same) (step_sees g h.accepted.keyed w _ _ _ h.accepted.loaded back.named);
        offer = h.accepted.offer;
        offered = subst (λ (n : ℕ). Contains w.seen (Named anchor n Offer h.accepted.offer)) (sym same) offer.named;
        old = λ low. offer.old (omega arith);
        old_front = λ low. front.old (omega arith);
        old_back = λ low. back.old (omega arith);
      }

  pub opened_new : opening_counter g.setting < version → g.setting.slots ≤ h.accepted.offer
  opened_new high =
      let keyed = keyed_reads g h.entered h.accepted.keyed t (opened anchor h.epoch.version) reads (key_of url) h.accepted.key in
      let offer = side_loaded g h.accepted.keyed w t (opened anchor h.epoch.version) keyed Offer h.accepted.offer offer_start h.accepted.loaded in
      let same = h.accepted.version_is in
      offer.new refl (omega arith)
