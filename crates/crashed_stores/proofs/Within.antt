-- What a crash leaves while calls that write slots are under way is what it leaves of the state.
use Rattle.std.proofs.Common.{⊎_elim, inl, inr, ℕ, List}
use Rattle.rebuild_model.specs.Image.{image_at}
use Rattle.core_model.specs.State.{State}
use Rattle.core_log.specs.Within.{IsPossible, IsWriting}
use Rattle.store_rule.specs.Ground.{Ground, Rule}
use Rattle.crashed_stores.specs.Left.{IsLeftOf}
use Rattle.crashed_stores.specs.Within.{IsLeftWithin, IsUnderWay}

module _ (g : Ground (List ℕ)) (s : State (List ℕ)) (images : List (List ℕ)) (rule : Rule g s) (h : IsLeftWithin g s images) where
  pub within_left : IsLeftOf g s rule.logged.log images
  within_left = record {
    many = h.many;
    each = λ slot c lt is. ⊎_elim
        (λ (p : IsPossible (λ x. x) c (image_at images slot)). inl p)
        (λ (q : IsUnderWay g s slot (image_at images slot)). ⊎_elim
        (λ (p : IsPossible (λ x. x) c (image_at images slot)). inl p)
        (λ (w : IsWriting g.setting (λ x. x) s rule.logged.log slot (image_at images slot)). inr (inl w))
        (q.during.left s q.i rule q.at q.now q.may (image_at images slot) q.among c is))
        (h.each slot c lt is);
  }
