use Rattle.std.proofs.Common.{ℕ, length, sym, subst, ◌∙◌, arith}
use Rattle.core_openings.specs.KeptSo.{IsKeptSo}
use Rattle.core_state.specs.Opened.{IsOpenedWith}
use Rattle.core_table.specs.Machine.{Machine}
use Rattle.core_lives.specs.Lived.{HasOrderedLog}
use Rattle.core_lives.proofs.Living.{opened_log}
use Rattle.core_lives.proofs.Seeking.{if_ok}
use Rattle.core_lives.proofs.life.reopened.Goals as goal

pub returns-clause-logs : goal.returns-clause-logs
returns-clause-logs c = if_ok (IsOpenedWith c.in_ok-rebuilt.rebuilt c.anchors-2.result (length c.args.left.now) c.passes.result) HasOrderedLog c.opened.result
    (λ (m : Machine) o. opened_log c.in_ok-rebuilt.rebuilt c.anchors-2.result (length c.args.left.now) c.passes.result m o
    (subst (λ (n : ℕ). IsKeptSo n (length c.args.left.now) c.in_ok-rebuilt.rebuilt) (c.anchors.ensures ∙ sym c.anchors-2.ensures)
    (subst (λ (n : ℕ). IsKeptSo c.anchors.result n c.in_ok-rebuilt.rebuilt) (c.requires.slots ∙ sym c.requires.left.many) c.in_ok-rebuilt.ensures.kept))
    (let few = c.requires.file.few in let s = c.requires.slots in let m = c.requires.left.many in omega arith))
    c.opened.ensures.opened
