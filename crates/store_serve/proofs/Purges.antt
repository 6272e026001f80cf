-- A purge.
use Rattle.std.proofs.Common.{List, ℕ}
use Rattle.lock_word.specs.declared.epoch.Epoch.{Epoch}
use Rattle.core_model.specs.declared.view.View.{View}
use Rattle.store_rule.specs.Ground.{Ground}
use Rattle.purge_entry.specs.Purging.{DoomedEntry, Purged}
use Rattle.store_serve.specs.Growing.{GrowsTo}
use Rattle.store_serve.proofs.Grown.{by_step, on}
use Rattle.store_serve.proofs.Readers.{parted}
use Rattle.store_serve.proofs.Slots.{key_loaded}

module _ {X : Type 0} (g : Ground X) (t : ℕ) where
  doomed : {anchor : ℕ} {wanted : List ℕ} {epoch left : Epoch} {v w : View X} → DoomedEntry g t anchor wanted epoch v left w → GrowsTo v w
  doomed {anchor} {wanted} {epoch} {left} {v} {w} h = on (key_loaded h.key) (on (by_step h.doom) (parted g t h.after w h.parted))

  pub purged : {url : List ℕ} {left : Epoch} {v w : View X} → Purged g t url v left w → GrowsTo v w
  purged h = on (by_step h.came.enter) (doomed h.entry)
