-- Calls of the reader.
use Rattle.std.proofs.Common.{Bool, List, ap, inl, inr, ℕ}
use Rattle.lock_word.specs.declared.cause.Cause.{Cause}
use Rattle.lock_word.specs.declared.epoch.Epoch.{Epoch}
use Rattle.link_word.specs.declared.link.Link.{Link}
use Rattle.rock_disk.specs.Cell.{CellState}
use Rattle.core_model.specs.declared.view.View.{View}
use Rattle.store_rule.specs.declared.store.Pass.{Pass}
use Rattle.store_rule.specs.declared.store.Store.{Store}
use Rattle.store_rule.specs.Ground.{Ground, Offers}
use Rattle.store_rule.specs.Passes.{basis, view}
use Rattle.rw_anchor.specs.declared.Left.{Left}
use Rattle.rock_reader.specs.Closing.{LeftFreed, Parted}
use Rattle.rock_reader.specs.Opening.{Accepted, Declined, FoundOther, OpenedEntry, Refused, TurnedAway}
use Rattle.rock_reader.specs.Reading.{Gave, HasTried, LookedAt, Standing, Waits}
use Rattle.rock_reader.specs.declared.answer.More.{More}
use Rattle.rock_reader.specs.declared.answer.More.TheVariants.{End, Fault, Halted, NotYet, OtherUrl, Piece}
use Rattle.store_serve.specs.Growing.{GrowsTo}
use Rattle.store_serve.proofs.Grown.{by_step, on, same}
use Rattle.store_serve.proofs.Anchors.{leaves}
use Rattle.store_serve.proofs.Slots.{freed, key_loaded, linked, read_slot}

module _ {X : Type 0} (g : Ground X) (t : ℕ) where
  left_freed : {v w : View X} → LeftFreed g t v w → GrowsTo v w
  left_freed {v} {w} h = on (leaves v h.middle t Left.MustFree h.leaves) (freed h.freed)

  pub parted : (v w : View X) → Parted g t v w → GrowsTo v w
  parted v w (inl h) = leaves v w t Left.Done h.leaves
  parted v w (inr h) = left_freed h

  accepted : {wanted : List ℕ} {epoch : Epoch} {v : View X} {version : ℕ} {w : View X} → Accepted g t wanted epoch v version w → GrowsTo v w
  accepted h = on (key_loaded h.key) (by_step h.loaded)

  declined : {wanted : List ℕ} {epoch : Epoch} {v : View X} {cause : Cause} {w : View X} → Declined g t wanted epoch v cause w → GrowsTo v w
  declined {wanted} {epoch} {v} {cause} {w} h = on (key_loaded h.loaded) (parted h.keyed w h.parted)

  pub opened : {url : List ℕ} {v : View X} {version : ℕ} {w : View X} → OpenedEntry g t url v version w → GrowsTo v w
  opened h = on (by_step h.came.enter) (accepted h.accepted)

  turned_away : {url : List ℕ} {v : View X} {cause : Cause} {w : View X} → TurnedAway g t url v cause w → GrowsTo v w
  turned_away {url} {v} {cause} {w} h = on (by_step h.came.enter) (parted h.entered w h.parted)

  found_other : {url : List ℕ} {v : View X} {cause : Cause} {w : View X} → FoundOther g t url v cause w → GrowsTo v w
  found_other h = on (by_step h.came.enter) (declined h.declined)

  pub refused : (url : List ℕ) (v : View X) (cause : Cause) (w : View X) → Refused g t url v cause w → GrowsTo v w
  refused url v cause w (inl h) = turned_away h
  refused url v cause w (inr h) = found_other h

  looked_at : {epoch : Epoch} {link : Link} {v w : View X} → LookedAt g t epoch link v w → GrowsTo v w
  looked_at h = on (by_step h.look) (linked g t h.linked)

module _ {C O : Type 0} (tells : Bool) (state : C → CellState) (offers : O → Offers) (s : Store C O) (t : ℕ) (e : Standing) where
  waits : {p q : Pass C} {before after : List ℕ} {epoch : Epoch} → Waits tells state offers s t p e before after q epoch → GrowsTo (view p) (view q)
  waits h = looked_at (basis tells state offers s) t h.found

  has_tried : {p q : Pass C} {before after : List ℕ} {done : Bool} → HasTried tells state offers s t p e before after q done → GrowsTo (view p) (view q)
  has_tried h = on (looked_at (basis tells state offers s) t h.found) (read_slot (basis tells state offers s) t h.read)

  pub gave : (p : Pass C) (before after : List ℕ) (q : Pass C) (answer : More) → Gave tells state offers s t p e before after q answer → GrowsTo (view p) (view q)
  gave p before after q (Piece count) h = has_tried h.tried
  gave p before after q (NotYet epoch) h = waits h.waits
  gave p before after q End h = same (ap view h.still)
  gave p before after q Halted h = waits h.waits
  gave p before after q OtherUrl (inl h) = same (ap view h.still)
  gave p before after q OtherUrl (inr h) = has_tried h.tried
  gave p before after q Fault h = has_tried h.tried
