use Rattle.std.proofs.Common.{ap, sym, ◌∙◌, arith}
use Rattle.core_model.specs.Tabs.{counts}
use Rattle.core_change.proofs.Facts.{in_table, is_used, counts_there, own_some}
use Rattle.core_anchors.proofs.ReaderSteps.{some_reader, leave_planned}
use Rattle.core_anchors.proofs.readers.leave.Goals as goal

pub word_at-word-requires-clause-anchor : goal.word_at-word-requires-clause-anchor
word_at-word-requires-clause-anchor c =
    let known = c.in-Some-counted_anchor.ensures in
    let within = in_table c.args.opening.now c.args.table.now c.args.view.now c.requires c.args.tab _ c.in-Some.ensures (is_used _ known.0) in
    let same = known.2 in omega arith

pub overflow_sub-word : goal.overflow_sub-word
overflow_sub-word c =
    let known = c.in-Some-counted_anchor.ensures in
    let some = some_reader _ _ _ c.requires _ _ c.in-Some.ensures known.0 known.1 _ known.2 _ c.word_at-word.ensures.number c.word_at-word.ensures.in_range in
    omega (arith, some)

pub overflow_sub-others : goal.overflow_sub-others
overflow_sub-others c =
    let known = c.in-Some-counted_anchor.ensures in
    let one = ap (λ a. counts a c.in-Some.now.now) (sym known.2) ∙ counts_there _ known.0 in
    let own = own_some _ c.args.view.now.tabs _ _ c.in-Some.ensures one in omega (arith, own, c.readers_here-others.ensures)

pub returns-clause-planned : goal.returns-clause-planned
returns-clause-planned c =
    let known = c.in-Some-counted_anchor.ensures in
    leave_planned _ _ _ c.requires _ _ c.in-Some.ensures known.0 known.1 _ known.2 _ c.word_at-word.ensures.number c.word_at-word.ensures.in_range _ _ _ _ _ _ _
    c.pack-left.ensures.number c.readers_here-others.ensures c.left_tab.ensures c.met.ensures c.epoch_bits.ensures c.anchor_addition.ensures c.index_of.ensures
