-- A purge on the disk.
use Rattle.std.proofs.Common.{Bool, Err, List, Ok, Result, ap, subst, ◌≡◌, ℕ}
use Rattle.std.specs.Prelude.{IfErr, IfOk}
use Rattle.lock_word.specs.declared.epoch.Epoch.{Epoch}
use Rattle.store_serve.specs.Growing.{GrowsTo}
use Rattle.core_model.specs.Tabs.{inner}
use Rattle.core_model.specs.declared.view.View.{View}
use Rattle.rw_anchor.specs.declared.Left.{Left}
use Rattle.store_rule.specs.Ground.{Ground}
use Rattle.purge_entry.specs.Wiping.{FaultTells, LeftToOthers, WipedAndFreed, WipedAsLast, WipedEntry, WipedTells}
use Rattle.purge_entry.specs.declared.wiping.Wiped.{Wiped}
use Rattle.purge_entry.specs.declared.wiping.Wiped.TheVariants.{Gone, Later}
use Rattle.purge_entry.specs.declared.wiping.WipeFault.{WipeFault}
use Rattle.purge_entry.specs.declared.wiping.WipeFault.TheVariants.{Fault, NoEntry}
use Rattle.store_serve.proofs.Anchors.{leaves}
use Rattle.store_serve.proofs.Grown.{by_step, on}
use Rattle.store_serve.proofs.Purges as purges
use Rattle.store_serve.proofs.Readers as readers
use Rattle.store_serve.proofs.Slots.{freed, key_loaded, wiped_first}

module _ {X : Type 0} (g : Ground X) (t : ℕ) where
  wiped_and_freed : {done : Bool} {v w : View X} → WipedAndFreed g done v w → GrowsTo v w
  wiped_and_freed h = on (wiped_first g h.wiped) (freed h.freed)

  -- what was known once the entry was doomed is known at the end
  pub last_leaves : {anchor : ℕ} {wanted : List ℕ} {epoch left : Epoch} {done : Bool} {v w : View X} → (h : WipedEntry g t anchor wanted epoch done v left w) → GrowsTo h.after w
  last_leaves h = on (leaves h.after h.last t Left.MustFree h.leaves) (wiped_and_freed h.ends)

  pub last : {url : List ℕ} {done : Bool} {left : Epoch} {v w : View X} → WipedAsLast g t url done v left w → GrowsTo v w
  last h = on (by_step h.came.enter) (on (key_loaded h.entry.key) (on (by_step h.entry.doom) (last_leaves h.entry)))

  pub later : {url : List ℕ} {left : Epoch} {v w : View X} → LeftToOthers g t url v left w → GrowsTo v w
  later h = purges.purged g t h.purged

module _ {X : Type 0} (g : Ground X) (url : List ℕ) (v w : View X) where
  -- whatever is answered
  pub known : (r : Result Wiped WipeFault) → IfOk r (WipedTells g url v w) → IfErr r (FaultTells g url v w) → GrowsTo v w
  known (Ok (Gone epoch)) ok err = last g inner ok
  known (Ok (Later epoch)) ok err = later g inner ok
  known (Err (NoEntry cause)) ok err = readers.refused g inner url v cause w err
  known (Err Fault) ok err = last g inner err.1
