-- What a tab that writes keeps beside its buffer, as it changes.
use Rattle.std.specs.Prelude.{◌≡◌, ℕ}
use Rattle.store_rule.specs.declared.store.Pass.{Pass}
use Rattle.tab_states.specs.declared.desks.Draft.{Draft}
use Rattle.tab_states.specs.Desks.{with_draft_at}

-- the draft of a tab is this one, and all else of the pass is as it was
pub record DraftMoves {C : Type 0} (t : ℕ) (draft : Draft) (p q : Pass C) : Type 0 where
  pub seat : q.seat ≡ p.seat
  pub tabs : q.tabs ≡ p.tabs
  pub left : q.left ≡ p.left
  pub desks : q.desks ≡ with_draft_at p.desks t draft
  pub hand : q.hand ≡ p.hand
  pub cells : q.cells ≡ p.cells
