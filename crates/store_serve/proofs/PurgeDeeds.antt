-- What a purge draws and does.
use Rattle.std.proofs.Common.{List, None, ap, false, inl, inr, refl, sym, ◌≡◌, ℕ}
use Rattle.lock_word.specs.declared.epoch.Epoch.{Epoch}
use Rattle.lock_word.specs.Words.{doomed, epoch_number, epoch_of}
use Rattle.lock_word.proofs.Dooming.{doom_of-doomed}
use Rattle.core_model.specs.AnchorMoves.{deed_of}
use Rattle.core_model.specs.Tabs.{anchor_of, tab_at}
use Rattle.core_model.specs.declared.moves.Move.TheVariants.{Doom}
use Rattle.core_model.specs.declared.tab.Tab.TheVariants.{Reading}
use Rattle.core_model.specs.declared.view.Kind.TheVariants.{Doomed}
use Rattle.core_model.specs.declared.view.View.{View}
use Rattle.store_rule.specs.Ground.{Ground, anchor_for}
use Rattle.store_rule.specs.Told.{Steps}
use Rattle.slice_chain.specs.Names.{KeyLoaded}
use Rattle.rock_reader.specs.Opening.{opened}
use Rattle.purge_entry.specs.Purging.{DoomedEntry, Purged}
use Rattle.store_serve.specs.Acting.{Acted}
use Rattle.store_serve.specs.Deeds.{OfLeaving, OfPurging}
use Rattle.store_serve.proofs.AddingUp.{deed_step, on, wider}
use Rattle.store_serve.proofs.ReaderDeeds.{entered, parted}
use Rattle.store_serve.proofs.SlotDeeds.{key_loaded}

module _ {X : Type 0} (g : Ground X) (t : ℕ) where
  pub doomed_so : {anchor version word : ℕ} {wanted : List ℕ} (left : Epoch) {v keyed after w : View X} → KeyLoaded g t v wanted keyed → tab_at keyed t ≡ Reading (opened anchor version)
      → Steps g keyed (Doom t) word after → epoch_number left ≡ epoch_of (doomed word) → Acted None OfLeaving after w → Acted None (OfPurging anchor (epoch_number left)) v w
  doomed_so {word = word} left {keyed = keyed} key reads doom left_is leaves = on (on (key_loaded key)
      (deed_step (deed_of keyed Doomed (anchor_of (tab_at keyed t)) (doomed word) false) doom refl refl refl
      (inl (record { kind = refl; anchor = ap anchor_of reads; epoch_is = sym left_is; doomed = doom_of-doomed word }))))
      (wider (λ d x. inr (inr x)) leaves)

  doomed_entry : {anchor : ℕ} {wanted : List ℕ} {epoch left : Epoch} {v w : View X} → DoomedEntry g t anchor wanted epoch v left w → Acted None (OfPurging anchor (epoch_number left)) v w
  doomed_entry {left = left} {w = w} h = doomed_so left h.key h.reads h.doom h.left_is (parted g t h.after w h.parted)

  pub purged : {url : List ℕ} {left : Epoch} {v w : View X} → Purged g t url v left w → Acted None (OfPurging (anchor_for g url) (epoch_number left)) v w
  purged h = on (wider (λ d x. inr (inl x)) (entered h.came.enter)) (doomed_entry h.entry)
