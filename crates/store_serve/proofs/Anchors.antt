-- Calls on anchors.
use Rattle.std.proofs.Common.{inl, inr, ℕ}
use Rattle.core_model.specs.declared.view.View.{View}
use Rattle.store_rule.specs.Ground.{Ground}
use Rattle.rw_anchor.specs.Calls.{Drew, GivenUp, Gone, LeftLast, Leaves, SpentAtDraw, SpentAtLook}
use Rattle.rw_anchor.specs.declared.Left.{Left}
use Rattle.store_serve.specs.Growing.{GrowsTo}
use Rattle.store_serve.proofs.Grown.{by_step, on}

module _ {X : Type 0} {g : Ground X} where
  pub drew : {v w : View X} {version : ℕ} → Drew g v version w → GrowsTo v w
  drew h = on (by_step h.look) (by_step h.draw)

  pub spent_at_look : {v w : View X} {versions : ℕ} → SpentAtLook g v versions w → GrowsTo v w
  spent_at_look h = by_step h.look

  pub spent_at_draw : {v w : View X} {versions : ℕ} → SpentAtDraw g v versions w → GrowsTo v w
  spent_at_draw h = on (by_step h.look) (by_step h.draw)

  pub given_up : {v w : View X} {t : ℕ} {left : Left} → GivenUp g v t left w → GrowsTo v w
  given_up h = by_step h.evict

  gone : {v w : View X} {t : ℕ} {left : Left} → Gone g v t left w → GrowsTo v w
  gone h = by_step h.leave

  left_last : {v w : View X} {t : ℕ} {left : Left} → LeftLast g v t left w → GrowsTo v w
  left_last h = on (by_step h.leave) (given_up h.gives_up)

  pub leaves : (v w : View X) (t : ℕ) (left : Left) → Leaves g v t left w → GrowsTo v w
  leaves v w t left (inl h) = given_up h.1
  leaves v w t left (inr (_, inl h)) = gone h
  leaves v w t left (inr (_, inr h)) = left_last h
