use Rattle.std.proofs.Common.{arith, subst, ◌≡◌, ◌∙◌}
use Rattle.std.specs.Mem.Slots.{slots_filled}
use mathlib.Core.Option.{some}
use lib.ListN.{get_elem?}
use mathlib.Core.Logic.{dite}
use native.Mathlib.Decide.{ℕ_discrete}
use Rattle.cell_places.proofs.CellLists.{emptied, not_emptied, some_there, takes_next}
use Rattle.cell_places.proofs.cells.take_cells.Goals as goal

pub unreachable-requires : goal.unreachable-requires
unreachable-requires g c = let i = c.loop-at.invariant in let each = c.requires.each in
    let one = some_there each.0 _ c.loop-at.at c.take.result (i.same ∙ each.1) c.take.ensures.value in c.in_default.not-Some one.0 one.1

pub loop-at-preserved : goal.loop-at-preserved
loop-at-preserved g c = let i = c.loop-at.invariant in let at = c.loop-at.at in let test = c.loop-at-test.true in let others = c.take.ensures.others in
    let was = slots_filled c.loop-at.closed.slots in let now = slots_filled c.take.new.self.slots in let items = c.take.ensures.value in let pushed = c.in-Ok.ensures in record {
      to = omega arith;
      long = others.2 ∙ i.long;
      same = others.0 ∙ i.same;
      left = λ k low high. not_emptied was now at k others.1 (omega arith) ∙ i.left k (omega arith) high;
      gone = λ k lt. dite (ℕ_discrete k at)
          (λ same. emptied was now at k others.1 same)
          (λ other. not_emptied was now at k others.1 other ∙ i.gone k (omega arith));
      moved = takes_next c.loop-at.cells.items _ _ at c.take.result c.in-Some.cell i.moved (subst (λ z. get_elem? z at ≡ some c.take.result) i.same items) c.in-Some.is pushed.items;
      as_many = let many = i.as_many in let one = pushed.len in omega arith;
      room = let room = i.room in let one = pushed.capacity in omega arith;
    }
