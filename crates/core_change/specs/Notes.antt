-- What a change makes of notes.
use Rattle.std.specs.Prelude.{List}
use Rattle.core_model.specs.declared.view.View.{View}
use Rattle.core_model.specs.CellMoves.{put}
use Rattle.core_table.specs.declared.content.Content.{Content}
use Rattle.core_change.specs.declared.change.NotesChange.{NotesChange}
use Rattle.core_change.specs.declared.change.NotesChange.TheVariants.{Same, Put}

abbrev pub notes_changed : List (View Content) → NotesChange → List (View Content)
notes_changed views Same = views
notes_changed views (Put at note) = put views at note
