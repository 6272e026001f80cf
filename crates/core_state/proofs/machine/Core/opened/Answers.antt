use Rattle.std.proofs.Common.{sym, subst, arith}
use Rattle.core_model.specs.Opening.{IsOpened}
use Rattle.core_model.specs.Sound.{Sound}
use Rattle.core_model.specs.State.{State}
use Rattle.core_table.specs.declared.content.Content.{Content}
use Rattle.core_table.specs.Inside.{setting}
use Rattle.core_openings.proofs.Opened.{words_there, opened_so, sound_so}
use Rattle.core_openings.proofs.Winners.{all_within}
use Rattle.core_state.proofs.machine.Core.opened.Goals as goal

pub opening_of-requires : goal.opening_of-requires
opening_of-requires c = record {
  some = c.requires.some_anchor;
  within = all_within c.args.anchors c.args.slots c.args.rebuilt.now c.requires.kept;
  owners = c.requires.kept.one_a_slot;
}

pub opened_table-requires : goal.opened_table-requires
opened_table-requires c = record {
  some = let same = c.in_ok-opening.ensures.anchors_are in let some = c.requires.some_anchor in omega arith;
  words = words_there _ _ _ _ _ c.in_ok-opening.ensures c.requires.kept c.requires.some_anchor c.requires.few_passes;
}

pub invariant_of-result : goal.invariant_of-result
invariant_of-result c = subst (Sound (setting c.in_ok-opening.opening)) (sym c.in_ok-table.ensures)
    (sound_so _ _ _ _ _ c.in_ok-opening.ensures c.requires.kept c.requires.some_anchor c.requires.few_passes)

pub returns-clause-sound : goal.returns-clause-sound
returns-clause-sound c = subst (Sound (setting c.in_ok-opening.opening)) (sym c.in_ok-table.ensures)
    (sound_so _ _ _ _ _ c.in_ok-opening.ensures c.requires.kept c.requires.some_anchor c.requires.few_passes)

pub returns-clause-opened : goal.returns-clause-opened
returns-clause-opened c = record {
  anchors_are = c.in_ok-opening.ensures.anchors_are;
  slots_are = c.in_ok-opening.ensures.slots_are;
  passes_are = c.in_ok-opening.ensures.passes_are;
  opened =
      subst (λ (s : State Content). IsOpened (setting c.in_ok-opening.opening) c.args.rebuilt.now s) (sym c.in_ok-table.ensures)
      (opened_so _ _ _ _ _ c.in_ok-opening.ensures c.requires.kept c.requires.some_anchor c.requires.few_passes);
}
