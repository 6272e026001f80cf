-- What a pass has seen of every file.
use Rattle.std.specs.Prelude.{Bool, List, Option, Some, [], ◌∷◌, ◌≡◌}
use Rattle.rock_disk.specs.Cell.{CellState}
use Rattle.store_rule.specs.declared.store.Note.{Note}
use Rattle.store_rule.specs.declared.store.Pass.{Pass}
use Rattle.store_rule.specs.declared.store.Store.{Store}
use Rattle.store_rule.specs.Ground.{Offers}
use Rattle.store_rule.specs.Notes.{learning, noting}
use Rattle.store_rule.specs.Passes.{IsNoteOf, Keeps, note_seen, view}
use Rattle.dir_set.specs.declared.dirs.Dirs.{Dirs}
use Rattle.dir_set.specs.declared.notes.DirNote.{DirNote}
use Rattle.dir_set.specs.Dirs.{EachStore, answer_at}

-- the notes of the files, in order
abbrev pub notes_of : {C : Type 0} → DirNote C → List (Option (Note C))
notes_of n = n.first ∷ n.second ∷ n.third ∷ n.fourth ∷ n.fifth ∷ n.sixth ∷ n.seventh ∷ n.eighth ∷ []

-- there is a note of each file
abbrev pub IsDirNoteOf : {C O : Type 0} → Dirs C O → DirNote C → Type 0
IsDirNoteOf {C} dirs n = EachStore dirs (λ d s. (note : Note C) × (answer_at (notes_of n) d ≡ Some note) × IsNoteOf s note)

module _ {C O : Type 0} (tells : Bool) (state : C → CellState) (offers : O → Offers) (s : Store C O) (p q : Pass C) where
  -- what the pass had seen was copied
  pub record NotedIn (note : Option (Note C)) : Type 0 where
    pub copy : Note C
    pub copy_is : note ≡ Some copy
    pub keeps : Keeps tells state offers s p q
    pub view_is : view q ≡ noting (view p)
    pub own : IsNoteOf s copy
    pub seen : note_seen copy ≡ (view p).seen

  -- what a note has seen was added
  pub record LearnedIn (note : Note C) : Type 0 where
    pub keeps : Keeps tells state offers s p q
    pub view_is : view q ≡ learning (view p) (note_seen note)
