use Rattle.std.proofs.Common.{◌+◌, refl, ap, sym, subst, ◌∙◌, reverse, List}
use Rattle.std.proofs.lemmas.Bool.{false≢true}
use Rattle.core_model.specs.declared.view.Sight.{Sight}
use Rattle.core_model.specs.declared.view.View.{View}
use Rattle.core_model.specs.CellMoves.{IsNote}
use Rattle.core_table.specs.declared.content.Content.{Content}
use Rattle.core_table.proofs.Lists.{slice_at}
use Rattle.core_slots.proofs.NoteSteps.{learn_planned, not_there}
use Rattle.core_slots.proofs.notes.learn.Goals as goal

pub returns-in_default-clause-refused : goal.returns-in_default-clause-refused
returns-in_default-clause-refused c e (u, at, is) = not_there c.args.opening.now c.args.table.now c.args.view.now c.args.note c.in_default.ensures u at

pub returns-then-not-is_note-clause-refused : goal.returns-then-not-is_note-clause-refused
returns-then-not-is_note-clause-refused c e (u, at, is) =
    let same = slice_at c.args.table.now.views.items (c.args.opening.now.passes + c.args.note) c.in-Some.learned.now u c.in-Some.ensures at in
    absurd (false≢true (c.if-not-is_note.ensures.1 (subst (λ (w : View Content). IsNote w) (sym same) is)))

pub returns-clause-planned : goal.returns-clause-planned
returns-clause-planned c =
    learn_planned c.args.opening.now c.args.table.now c.args.view.now c.args.note _ c.in-Some.ensures (c.if-not-is_note.ensures.0 refl) _ _ _ _ c.in_ok-seen.ensures
    (c.from_vec.ensures ∙ ap (λ (l : List Sight). reverse l) c.new.ensures.items) c.bare_addition.ensures c.note_with-spent.ensures
