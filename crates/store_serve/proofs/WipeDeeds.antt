-- What a purge on the disk draws and does.
use Rattle.std.proofs.Common.{Bool, List, None, inl, inr, ℕ}
use Rattle.lock_word.specs.Words.{epoch_number}
use Rattle.lock_word.specs.declared.epoch.Epoch.{Epoch}
use Rattle.core_model.specs.declared.view.View.{View}
use Rattle.rw_anchor.specs.declared.Left.{Left}
use Rattle.store_rule.specs.Ground.{Ground, anchor_for}
use Rattle.purge_entry.specs.Wiping.{LeftToOthers, WipedAsLast, WipedEntry}
use Rattle.store_serve.specs.Acting.{Acted}
use Rattle.store_serve.specs.Deeds.{OfLeaving, OfPurging}
use Rattle.store_serve.proofs.AddingUp.{on, wider}
use Rattle.store_serve.proofs.AnchorDeeds.{leaves}
use Rattle.store_serve.proofs.PurgeDeeds as purges
use Rattle.store_serve.proofs.ReaderDeeds.{entered}
use Rattle.store_serve.proofs.SlotDeeds.{freed, wiped_first}

module _ {X : Type 0} (g : Ground X) (t : ℕ) where
  left_wiped : {anchor : ℕ} {wanted : List ℕ} {epoch left : Epoch} {done : Bool} {v w : View X} → (h : WipedEntry g t anchor wanted epoch done v left w) → Acted None OfLeaving h.after w
  left_wiped h = on (wider (λ d x. inl x) (leaves h.after h.last t Left.MustFree h.leaves)) (on (wiped_first g h.ends.wiped) (wider (λ d x. inr x) (freed h.ends.freed)))

  pub last : {url : List ℕ} {done : Bool} {left : Epoch} {v w : View X} → WipedAsLast g t url done v left w → Acted None (OfPurging (anchor_for g url) (epoch_number left)) v w
  last {left = left} h = on (wider (λ d x. inr (inl x)) (entered h.came.enter)) (purges.doomed_so g t left h.entry.key h.entry.reads h.entry.doom h.entry.left_is (left_wiped h.entry))

  pub later : {url : List ℕ} {left : Epoch} {v w : View X} → LeftToOthers g t url v left w → Acted None (OfPurging (anchor_for g url) (epoch_number left)) v w
  later h = purges.purged g t h.purged
