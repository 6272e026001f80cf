use Rattle.std.proofs.Common.{length, ap, arith}
use Rattle.std.specs.Prelude.{slice_index_or}
use Rattle.core_table.specs.declared.content.Content.TheVariants.{Opened}
use Rattle.core_lives.proofs.Leaving.{no_pick, picked_at}
use Rattle.core_lives.proofs.left.left_of.Goals as goal

pub returns-then-number-possible : goal.returns-then-number-possible
returns-then-number-possible c = no_pick c.args.core.now c.is_always_sound.ensures c.args.slot c.args.number c.cell_of_slot.result.now c.cell_of_slot.ensures
    (let e = ap length c.as_slice-possible.ensures in let z = c.if-number-possible.true in omega arith)

pub shown-requires-clause-picked : goal.shown-requires-clause-picked
shown-requires-clause-picked c = (
  c.args.number,
  picked_at c.args.core.now c.args.slot c.args.number c.cell_of_slot.result.now c.as_slice-possible.result.now (Opened 0) c.cell_of_slot.ensures c.as_slice-possible.ensures (let z = c.if-number-possible.false in omega arith),
)

pub returns : goal.returns
returns c = record {
  content = slice_index_or c.as_slice-possible.result.now c.args.number (Opened 0);
  picked = picked_at c.args.core.now c.args.slot c.args.number c.cell_of_slot.result.now c.as_slice-possible.result.now (Opened 0) c.cell_of_slot.ensures c.as_slice-possible.ensures (let z = c.if-number-possible.false in omega arith);
  shown = c.shown.ensures;
}
