use Rattle.std.proofs.Common.{List, subst, ◌≡◌, ℕ}
use Rattle.plain_model.specs.Reading.{wipe}
use Rattle.plain_model.specs.Writing.{step}
use Rattle.plain_store.proofs.serving.serve.Goals as goal

-- src/serving.rt:116:1
pub returns-in-Wipe : goal.returns-in-Wipe
returns-in-Wipe c = rw c.in-Wipe.is (subst (λ (url : List ℕ). wipe c.args.setting.now url c.args.store.now ≡ step c.wipe.result c.wipe.new.store) c.as_slice-in-Wipe.ensures c.wipe.ensures)
