use Rattle.std.proofs.Common.{◌≡◌, ◌++◌, length}
use Rattle.std.specs.Prelude.{All}
use Rattle.plain_model.specs.Serving.{answers, after, lines_for}
use Rattle.plain_store.specs.Servable.{IsServable}
use Rattle.plain_store.proofs.serving.serve_all.Given as goal

abbrev pub invariant-lines : goal.invariant-lines
invariant-lines l = record {
  servable : All (λ line. IsServable line.request) l.left;
  answers : answers l.setting l.script (lines_for l.worker l.script) l.fn.store ≡ l.given ++ answers l.setting l.script (lines_for l.worker l.left) l.store;
  after : after l.setting l.script (lines_for l.worker l.script) l.fn.store ≡ after l.setting l.script (lines_for l.worker l.left) l.store;
}

abbrev pub decreases-lines : goal.decreases-lines
decreases-lines l = length l.left
