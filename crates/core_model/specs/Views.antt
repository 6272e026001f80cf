-- The one constructor of views. All others are made of a view that is there, and name the fields that change: so a field that no step
-- changes is named here alone.
use Rattle.std.specs.Prelude.{List, [], ℕ}
use Rattle.core_model.specs.declared.tab.Tab.{Tab}
use Rattle.core_model.specs.declared.view.Sight.{Sight}
use Rattle.core_model.specs.declared.view.View.{View}

-- the view of a pass that has these tabs, knows this, and has made no step
abbrev pub view_of : {X : Type 0} → ℕ → List (Tab X) → List Sight → View X
view_of pass tabs seen = record { pass = pass; tabs = tabs; held = []; seen = seen; trail = []; mirror = []; deeds = []; met = [] }

-- a note of this: it knows, and is and has nothing else
abbrev pub note_with : {X : Type 0} → List Sight → View X
note_with seen = view_of 0 [] seen
