use Rattle.std.proofs.Common.{◌≡◌, ◌⊎◌, ℕ, ◌<◌, ◌≤◌, arith}
use Rattle.rebuild_model.proofs.laws.one_winner_at_an_anchor.Goals as goal

same_place : (v w s t : ℕ) → (w < v) ⊎ ((w ≡ v) × (s ≤ t)) → (v < w) ⊎ ((v ≡ w) × (t ≤ s)) → s ≡ t
same_place v w s t p q = grind arith

pub returns : goal.returns
returns c = record {
  complete = λ slot images anchors anchor e w. w.complete;
  one = λ slot images anchors anchor e f p q.
      c.one_entry_at_a_slot.ensures slot images e f p.complete q.complete
      (same_place e.version f.version e.first f.first (p.best f q.complete q.at) (q.best e p.complete p.at));
}
