-- What calls of the reader draw and do.
use Rattle.std.proofs.Common.{Bool, List, None, ap, false, inl, inr, refl, ℕ}
use Rattle.lock_word.specs.declared.cause.Cause.{Cause}
use Rattle.lock_word.specs.declared.epoch.Epoch.{Epoch}
use Rattle.link_word.specs.declared.link.Link.{Link}
use Rattle.rock_disk.specs.Cell.{CellState}
use Rattle.core_model.specs.AnchorMoves.{deed_of}
use Rattle.core_model.specs.Table.{left_by}
use Rattle.core_model.specs.declared.moves.Move.TheVariants.{Enter}
use Rattle.core_model.specs.declared.view.Deed.{Deed}
use Rattle.core_model.specs.declared.view.Kind.TheVariants.{Entered}
use Rattle.core_model.specs.declared.view.View.{View}
use Rattle.store_rule.specs.declared.store.Pass.{Pass}
use Rattle.store_rule.specs.declared.store.Store.{Store}
use Rattle.store_rule.specs.Ground.{Ground, Offers, anchor_for}
use Rattle.store_rule.specs.Passes.{basis, view}
use Rattle.store_rule.specs.Told.{Steps}
use Rattle.rw_anchor.specs.declared.Left.{Left}
use Rattle.rock_reader.specs.Closing.{LeftFreed, Parted}
use Rattle.rock_reader.specs.Opening.{Accepted, Declined, FoundOther, OpenedEntry, Refused, TurnedAway}
use Rattle.rock_reader.specs.Reading.{Gave, HasTried, LookedAt, Standing, Waits}
use Rattle.rock_reader.specs.declared.answer.More.{More}
use Rattle.rock_reader.specs.declared.answer.More.TheVariants.{End, Fault, Halted, NotYet, OtherUrl, Piece}
use Rattle.store_serve.specs.Acting.{Acted}
use Rattle.store_serve.specs.Deeds.{Enters, OfLeaving, OfVisiting}
use Rattle.store_serve.proofs.AddingUp.{deed_step, on, quiet_step, same, wider}
use Rattle.store_serve.proofs.AnchorDeeds.{leaves}
use Rattle.store_serve.proofs.SlotDeeds.{freed, key_loaded, linked, read_slot}

pub entered : {X : Type 0} {g : Ground X} {v w : View X} {t a n : ℕ} → Steps g v (Enter t a) n w → Acted None (Enters a) v w
entered {X} {g} {v} {w} {t} {a} {n} st = deed_step (deed_of v Entered a (left_by v (Enter t a) n) false) st refl refl refl (record { kind = refl; anchor = refl })

module _ {X : Type 0} (g : Ground X) (t : ℕ) where
  left_freed : {v w : View X} → LeftFreed g t v w → Acted None OfLeaving v w
  left_freed {v} {w} h = on (wider (λ d x. inl x) (leaves v h.middle t Left.MustFree h.leaves)) (wider (λ d x. inr x) (freed h.freed))

  pub parted : (v w : View X) → Parted g t v w → Acted None OfLeaving v w
  parted v w (inl h) = wider (λ d x. inl x) (leaves v w t Left.Done h.leaves)
  parted v w (inr h) = left_freed h

  accepted : {P : Deed → Type 0} {wanted : List ℕ} {epoch : Epoch} {v : View X} {version : ℕ} {w : View X} → Accepted g t wanted epoch v version w → Acted None P v w
  accepted h = on (key_loaded h.key) (quiet_step h.loaded refl refl)

  declined : {wanted : List ℕ} {epoch : Epoch} {v : View X} {cause : Cause} {w : View X} → Declined g t wanted epoch v cause w → Acted None OfLeaving v w
  declined {wanted} {epoch} {v} {cause} {w} h = on (key_loaded h.loaded) (parted h.keyed w h.parted)

  pub opened : {url : List ℕ} {v : View X} {version : ℕ} {w : View X} → OpenedEntry g t url v version w → Acted None (Enters (anchor_for g url)) v w
  opened h = on (entered h.came.enter) (accepted h.accepted)

  turned_away : {url : List ℕ} {v : View X} {cause : Cause} {w : View X} → TurnedAway g t url v cause w → Acted None (OfVisiting (anchor_for g url)) v w
  turned_away {url} {v} {cause} {w} h = on (wider (λ d x. inl x) (entered h.came.enter)) (wider (λ d x. inr x) (parted h.entered w h.parted))

  found_other : {url : List ℕ} {v : View X} {cause : Cause} {w : View X} → FoundOther g t url v cause w → Acted None (OfVisiting (anchor_for g url)) v w
  found_other h = on (wider (λ d x. inl x) (entered h.came.enter)) (wider (λ d x. inr x) (declined h.declined))

  pub refused : (url : List ℕ) (v : View X) (cause : Cause) (w : View X) → Refused g t url v cause w → Acted None (OfVisiting (anchor_for g url)) v w
  refused url v cause w (inl h) = turned_away h
  refused url v cause w (inr h) = found_other h

  looked_at : {P : Deed → Type 0} {epoch : Epoch} {link : Link} {v w : View X} → LookedAt g t epoch link v w → Acted None P v w
  looked_at h = on (quiet_step h.look refl refl) (linked g t h.linked)

module _ {C O : Type 0} (tells : Bool) (state : C → CellState) (offers : O → Offers) (s : Store C O) (t : ℕ) (e : Standing) {P : Deed → Type 0} where
  waits : {p q : Pass C} {before after : List ℕ} {epoch : Epoch} → Waits tells state offers s t p e before after q epoch → Acted None P (view p) (view q)
  waits h = looked_at (basis tells state offers s) t h.found

  has_tried : {p q : Pass C} {before after : List ℕ} {done : Bool} → HasTried tells state offers s t p e before after q done → Acted None P (view p) (view q)
  has_tried h = on (looked_at (basis tells state offers s) t h.found) (read_slot (basis tells state offers s) t h.read)

  pub gave : (p : Pass C) (before after : List ℕ) (q : Pass C) (answer : More) → Gave tells state offers s t p e before after q answer → Acted None P (view p) (view q)
  gave p before after q (Piece count) h = has_tried h.tried
  gave p before after q (NotYet epoch) h = waits h.waits
  gave p before after q End h = same (ap view h.still)
  gave p before after q Halted h = waits h.waits
  gave p before after q OtherUrl (inl h) = same (ap view h.still)
  gave p before after q OtherUrl (inr h) = has_tried h.tried
  gave p before after q Fault h = has_tried h.tried
