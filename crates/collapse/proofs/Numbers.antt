-- A call on a pass leaves the number of the pass.
use Rattle.std.proofs.Common.{inl, inr, ap, ◌≡◌, ◌∙◌, List, ℕ}
use Rattle.lock_word.specs.declared.cause.Cause.{Cause}
use Rattle.lock_word.specs.declared.word.Word.{Word}
use Rattle.core_model.specs.declared.moves.Move.{Move}
use Rattle.core_model.specs.declared.view.View.{View}
use Rattle.store_rule.specs.Ground.{Ground}
use Rattle.store_rule.specs.Told.{Steps}
use Rattle.rw_anchor.specs.Calls.{Drew, GivenUp, Gone, LeftLast, Leaves}
use Rattle.rw_anchor.specs.declared.Left.{Left}
use Rattle.slice_chain.specs.Names.{KeyLoaded}
use Rattle.rock_reader.specs.Closing.{LeftFreed, Parted}
use Rattle.rock_reader.specs.Opening.{FoundOther, Refused, TurnedAway}
use Rattle.rock_writer.specs.Beginning.{NotTaken, Overtaken}
use Rattle.rock_writer.specs.declared.fault.BeginFault.TheVariants.{Busy}

-- the number of the pass is as it was
abbrev SameNumber : {X : Type 0} → View X → View X → Type 0
SameNumber v w = w.pass ≡ v.pass

module _ {X : Type 0} {g : Ground X} where
  stepped : {v w : View X} {m : Move} {n : ℕ} → Steps g v m n w → SameNumber v w
  stepped st = ap View.pass st.leaves

  drew : {v w : View X} {version : ℕ} → Drew g v version w → SameNumber v w
  drew h = stepped h.draw ∙ stepped h.look

  given_up : {v w : View X} {t : ℕ} {left : Left} → GivenUp g v t left w → SameNumber v w
  given_up h = stepped h.evict

  gone : {v w : View X} {t : ℕ} {left : Left} → Gone g v t left w → SameNumber v w
  gone h = stepped h.leave

  left_last : {v w : View X} {t : ℕ} {left : Left} → LeftLast g v t left w → SameNumber v w
  left_last h = given_up h.gives_up ∙ stepped h.leave

  leaves : (v w : View X) (t : ℕ) (left : Left) → Leaves g v t left w → SameNumber v w
  leaves v w t left (inl h) = given_up h.1
  leaves v w t left (inr (_, inl h)) = gone h
  leaves v w t left (inr (_, inr h)) = left_last h

  key_loaded : {t : ℕ} {key : List ℕ} {v w : View X} → KeyLoaded g t v key w → SameNumber v w
  key_loaded h = stepped h.back ∙ stepped h.front

module _ {X : Type 0} (g : Ground X) (t : ℕ) where
  left_freed : {v w : View X} → LeftFreed g t v w → SameNumber v w
  left_freed {v} {w} h = h.freed.went.pass ∙ leaves v h.middle t Left.MustFree h.leaves

  parted : (v w : View X) → Parted g t v w → SameNumber v w
  parted v w (inl h) = leaves v w t Left.Done h.leaves
  parted v w (inr h) = left_freed h

  turned_away : {url : List ℕ} {v : View X} {cause : Cause} {w : View X} → TurnedAway g t url v cause w → SameNumber v w
  turned_away {url} {v} {cause} {w} h = parted h.entered w h.parted ∙ stepped h.came.enter

  found_other : {url : List ℕ} {v : View X} {cause : Cause} {w : View X} → FoundOther g t url v cause w → SameNumber v w
  found_other {url} {v} {cause} {w} h = parted h.declined.keyed w h.declined.parted ∙ key_loaded h.declined.loaded ∙ stepped h.came.enter

  pub refused : (url : List ℕ) (v : View X) (cause : Cause) (w : View X) → Refused g t url v cause w → SameNumber v w
  refused url v cause w (inl h) = turned_away h
  refused url v cause w (inr h) = found_other h

  module _ (a : ℕ) where
    overtaken : {v w : View X} {looked found : Word} → Overtaken g t a v looked found w → SameNumber v w
    overtaken h = stepped h.misses ∙ drew h.drew ∙ stepped h.looks

    pub busy : (v w : View X) (looked found : Word) → NotTaken g t a v (Busy looked found) w → SameNumber v w
    busy v w looked found (inl h, _) = stepped h.looks
    busy v w looked found (inr h, _) = overtaken h
