-- What calls of the reader and purges leave of a lot, by a tab that is at no anchor of it.
use Rattle.std.proofs.Common.{Bool, List, ap, false, inl, inr, length, ◌≡◌, ℕ}
use Rattle.lock_word.specs.declared.cause.Cause.{Cause}
use Rattle.lock_word.specs.declared.epoch.Epoch.{Epoch}
use Rattle.link_word.specs.declared.link.Link.{Link}
use Rattle.rock_disk.specs.Cell.{CellState}
use Rattle.core_model.specs.declared.moves.Move.{Move}
use Rattle.core_model.specs.declared.view.View.{View}
use Rattle.plain_model.specs.declared.store.Plain.{Plain}
use Rattle.store_rule.specs.declared.store.Pass.{Pass}
use Rattle.store_rule.specs.declared.store.Store.{Store}
use Rattle.store_rule.specs.Ground.{Ground, Offers, anchor_for}
use Rattle.store_rule.specs.Passes.{basis, view}
use Rattle.store_rule.specs.Told.{Steps}
use Rattle.rw_anchor.specs.declared.Left.{Left}
use Rattle.rock_reader.specs.Closing.{LeftFreed, Parted}
use Rattle.rock_reader.specs.Opening.{Accepted, Declined, FoundOther, OpenedEntry, Refused, TurnedAway}
use Rattle.rock_reader.specs.Reading.{Gave, HasTried, LookedAt, Standing, Waits}
use Rattle.rock_reader.specs.declared.answer.More.{More}
use Rattle.rock_reader.specs.declared.answer.More.TheVariants.{End, Fault, Halted, NotYet, OtherUrl, Piece}
use Rattle.purge_entry.specs.Purging.{DoomedEntry, Purged}
use Rattle.purge_entry.specs.Wiping.{LeftToOthers, WipedAndFreed, WipedAsLast, WipedEntry}
use Rattle.plain_runs.specs.Elsewhere.{IsOutside}
use Rattle.plain_runs.specs.Words.{Lot}
use Rattle.plain_runs.proofs.AwayCalls.{Passes, freed, key_loaded, leaves, linked, own_tab, read_slot, wiped_first}
use Rattle.plain_runs.proofs.AwaySteps.{by_step, same}
use Rattle.plain_runs.proofs.AwayTabs.{Suits}

module _ (g : Ground (List ℕ)) (rename : ℕ → ℕ) (lot : Lot) (t : ℕ) (p : Plain) (eight : length p.tabs ≡ 8)
    (apart : lot.counter ≡ false) where
  abbrev Reads : View (List ℕ) → View (List ℕ) → Type 0
  Reads v w = Passes g rename lot t p eight apart v w

  step : {v w : View (List ℕ)} {m : Move} {n : ℕ} → Suits (IsOutside lot) t m → Steps g v m n w → Reads v w
  step h st = by_step g rename lot t p eight apart h st

  left_freed : {v w : View (List ℕ)} → LeftFreed g t v w → Reads v w
  left_freed {v} {w} h k = freed g rename lot t p eight apart h.freed
      (leaves g rename lot t p eight apart v h.middle Left.MustFree h.leaves k)

  pub parted : (v w : View (List ℕ)) → Parted g t v w → Reads v w
  parted v w (inl h) = leaves g rename lot t p eight apart v w Left.Done h.leaves
  parted v w (inr h) = left_freed h

  accepted : {wanted : List ℕ} {epoch : Epoch} {v : View (List ℕ)} {version : ℕ} {w : View (List ℕ)} → Accepted g t wanted epoch v version w
      → Reads v w
  accepted h k = step (own_tab g rename lot t p eight apart) h.loaded (key_loaded g rename lot t p eight apart h.key k)

  declined : {wanted : List ℕ} {epoch : Epoch} {v : View (List ℕ)} {cause : Cause} {w : View (List ℕ)} → Declined g t wanted epoch v cause w
      → Reads v w
  declined {wanted} {epoch} {v} {cause} {w} h k = parted h.keyed w h.parted (key_loaded g rename lot t p eight apart h.loaded k)

  looked_at : {epoch : Epoch} {link : Link} {v w : View (List ℕ)} → LookedAt g t epoch link v w → Reads v w
  looked_at h k = linked g rename lot t p eight apart h.linked (step tt h.look k)

  -- At an anchor outside.
  module _ (url : List ℕ) (out : IsOutside lot (anchor_for g url)) where
    pub opened : {v : View (List ℕ)} {version : ℕ} {w : View (List ℕ)} → OpenedEntry g t url v version w → Reads v w
    opened h k = accepted h.accepted (step (own_tab g rename lot t p eight apart, out) h.came.enter k)

    turned_away : {v : View (List ℕ)} {cause : Cause} {w : View (List ℕ)} → TurnedAway g t url v cause w → Reads v w
    turned_away {v} {cause} {w} h k = parted h.entered w h.parted (step (own_tab g rename lot t p eight apart, out) h.came.enter k)

    found_other : {v : View (List ℕ)} {cause : Cause} {w : View (List ℕ)} → FoundOther g t url v cause w → Reads v w
    found_other {v} {cause} {w} h k = declined h.declined (step (own_tab g rename lot t p eight apart, out) h.came.enter k)

    pub refused : (v : View (List ℕ)) (cause : Cause) (w : View (List ℕ)) → Refused g t url v cause w → Reads v w
    refused v cause w (inl h) = turned_away h
    refused v cause w (inr h) = found_other h

    doomed : {anchor : ℕ} {wanted : List ℕ} {epoch left : Epoch} {v w : View (List ℕ)} → DoomedEntry g t anchor wanted epoch v left w
        → Reads v w
    doomed {anchor} {wanted} {epoch} {left} {v} {w} h k =
        parted h.after w h.parted (step (own_tab g rename lot t p eight apart) h.doom (key_loaded g rename lot t p eight apart h.key k))

    pub purged : {left : Epoch} {v w : View (List ℕ)} → Purged g t url v left w → Reads v w
    purged h k = doomed h.entry (step (own_tab g rename lot t p eight apart, out) h.came.enter k)

    wiped_and_freed : {done : Bool} {v w : View (List ℕ)} → WipedAndFreed g done v w → Reads v w
    wiped_and_freed h k = freed g rename lot t p eight apart h.freed (wiped_first g rename lot t p eight apart h.wiped k)

    last_entry : {anchor : ℕ} {wanted : List ℕ} {epoch left : Epoch} {done : Bool} {v w : View (List ℕ)}
        → WipedEntry g t anchor wanted epoch done v left w → Reads v w
    last_entry {anchor} {wanted} {epoch} {left} {done} {v} {w} h k = wiped_and_freed h.ends
        (leaves g rename lot t p eight apart h.after h.last Left.MustFree h.leaves
        (step (own_tab g rename lot t p eight apart) h.doom (key_loaded g rename lot t p eight apart h.key k)))

    pub last : {done : Bool} {left : Epoch} {v w : View (List ℕ)} → WipedAsLast g t url done v left w → Reads v w
    last h k = last_entry h.entry (step (own_tab g rename lot t p eight apart, out) h.came.enter k)

    pub later : {left : Epoch} {v w : View (List ℕ)} → LeftToOthers g t url v left w → Reads v w
    later h = purged h.purged

module _ {C O : Type 0} (tells : Bool) (state : C → CellState) (offers : O → Offers) (s : Store C O) (rename : ℕ → ℕ) (lot : Lot) (t : ℕ)
    (p : Plain)
    (eight : length p.tabs ≡ 8) (apart : lot.counter ≡ false) (e : Standing) where
  abbrev g : Ground (List ℕ)
  g = basis tells state offers s

  waits : {from to : Pass C} {before after : List ℕ} {epoch : Epoch} → Waits tells state offers s t from e before after to epoch
      → Passes g rename lot t p eight apart (view from) (view to)
  waits h = looked_at g rename lot t p eight apart h.found

  has_tried : {from to : Pass C} {before after : List ℕ} {done : Bool} → HasTried tells state offers s t from e before after to done
      → Passes g rename lot t p eight apart (view from) (view to)
  has_tried h k = read_slot g rename lot t p eight apart h.read (looked_at g rename lot t p eight apart h.found k)

  pub gave : (from : Pass C) (before after : List ℕ) (to : Pass C) (answer : More)
      → Gave tells state offers s t from e before after to answer
      → Passes (basis tells state offers s) rename lot t p eight apart (view from) (view to)
  gave from before after to (Piece count) h = has_tried h.tried
  gave from before after to (NotYet epoch) h = waits h.waits
  gave from before after to End h = same g rename lot t p eight apart (ap view h.still)
  gave from before after to Halted h = waits h.waits
  gave from before after to OtherUrl (inl h) = same g rename lot t p eight apart (ap view h.still)
  gave from before after to OtherUrl (inr h) = has_tried h.tried
  gave from before after to Fault h = has_tried h.tried
