use Rattle.std.proofs.Common.{List, None, inr, sym, subst}
use Rattle.core_model.specs.declared.tab.Cell.{Cell}
use Rattle.core_model.specs.declared.view.View.{View}
use Rattle.core_table.specs.declared.content.Content.{Content}
use Rattle.core_lives.specs.Crash.{IsHeldIn}
use Rattle.core_lives.proofs.OneCell.{held_cell, many_places, not_lost}
use Rattle.core_lives.proofs.Seeking.{none_of, place_is, some_of}
use Rattle.core_lives.proofs.cells.cell_of_slot.Goals as goal

pub unreachable-requires : goal.unreachable-requires
unreachable-requires c = not_lost c.args.core.now c.is_always_sound.ensures c.args.slot c.requires
    (place_is c.places.result.now c.args.core.now.places c.args.slot c.index-places-slot.result None None c.index-places-slot.is c.in-None.is c.places.ensures (many_places c.args.core.now c.is_always_sound.ensures c.args.slot c.requires))
    (λ cell h. none_of ((cell : Cell Content) → IsHeldIn c.views.result.now c.args.slot cell → ⊥) (λ cell. IsHeldIn c.views.result.now c.args.slot cell.now) c.in-None-cell_of_views.is c.cell_of_views.ensures cell
    (subst (λ (vs : List (View Content)). IsHeldIn vs c.args.slot cell) (sym c.views.ensures) h))

pub returns-in-Some-cell_of_views : goal.returns-in-Some-cell_of_views
returns-in-Some-cell_of_views c = inr (held_cell c.args.core.now c.args.slot c.in-Some-cell_of_views.cell.now (subst (λ (vs : List (View Content)). IsHeldIn vs c.args.slot c.in-Some-cell_of_views.cell.now) c.views.ensures
    (some_of ((cell : Cell Content) → IsHeldIn c.views.result.now c.args.slot cell → ⊥) (λ cell. IsHeldIn c.views.result.now c.args.slot cell.now) c.in-Some-cell_of_views.is c.cell_of_views.ensures)))
