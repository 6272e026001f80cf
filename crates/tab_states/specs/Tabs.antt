-- What a pass has at hand of its tabs while it runs.
use Rattle.std.specs.Prelude.{◌+◌, ◌-◌, ◌<◌, ◌≤◌, ◌==◌, ◌&&◌, Bool, List, None, Option, Some, [], ◌∷◌, cond, false, length, map, not, slice_index_or, slice_set, true, ℕ}
use Rattle.link_word.specs.declared.link.Link.{Link}
use Rattle.link_word.specs.declared.link.Link.TheVariants.{Next, NotWritten}
use Rattle.core_model.specs.Chains.{link_to, rest_of}
use Rattle.core_model.specs.CellMoves.{next_slot}
use Rattle.core_model.specs.declared.moves.Side.{Side}
use Rattle.core_model.specs.declared.moves.Side.TheVariants.{Start}
use Rattle.core_model.specs.declared.tab.Reader.{Reader}
use Rattle.core_model.specs.declared.tab.Writer.{Writer}
use Rattle.lock_word.specs.declared.stage.Stage.{Stage}
use Rattle.lock_word.specs.declared.stage.Stage.TheVariants.{Appending}
use Rattle.lock_word.specs.Words.{is_readable, is_left_over, version_of}
use Rattle.core_model.specs.declared.tab.Freer.{Freer}
use Rattle.core_model.specs.declared.tab.Tab.{Tab}
use Rattle.core_model.specs.declared.tab.Tab.TheVariants.{Free, Retreating, Reading, Writing, Last, Freeing}
use Rattle.core_model.specs.declared.view.View.{View}
use Rattle.core_model.specs.declared.moves.Then.{Then}
use Rattle.core_model.specs.declared.moves.Then.TheVariants.{GoesOn}
use Rattle.tab_states.specs.declared.tabs.At.{At}
use Rattle.tab_states.specs.declared.tabs.FreeingAt.{FreeingAt}
use Rattle.tab_states.specs.declared.tabs.ReadingAt.{ReadingAt}
use Rattle.tab_states.specs.declared.tabs.WritingAt.{WritingAt}

-- the chain is known to have no slot left: not before a slot has left it
abbrev pub is_spent : {X : Type 0} → Freer X → Bool
is_spent f = not (f.is_whole && (length f.loose == 0)) && (length f.rest == 0)

-- the first of a list, if there is one
abbrev pub head_of : List ℕ → Option ℕ
head_of [] = None
head_of (x ∷ xs) = Some x

abbrev pub reading_at : {X : Type 0} → Reader X → ReadingAt
reading_at r = record { anchor = r.anchor; version = r.version; place = r.place; slot = r.slot; found = r.found }

abbrev pub writing_at : {X : Type 0} → Writer X → WritingAt
writing_at w = record {
  anchor = w.anchor;
  version = w.version;
  is_appending = w.is_appending;
  published = length w.published;
  start = head_of w.published;
  first = head_of w.reserved;
  second = head_of (rest_of w.reserved);
}

-- the link of the first slot of the chain, once it was looked at
abbrev pub link_seen : {X : Type 0} → Freer X → Link
link_seen f = cond f.is_looked (link_to (rest_of f.rest) f.behind) NotWritten

abbrev pub freeing_at : {X : Type 0} → Freer X → FreeingAt
freeing_at f = record { anchor = f.anchor; is_freeing = f.is_freeing; is_whole = f.is_whole; is_spent = is_spent f; loose = length f.loose; found = link_seen f }

abbrev pub at_of : {X : Type 0} → Tab X → At
at_of Free = At.Free
at_of (Retreating a) = At.Retreating a
at_of (Reading r) = At.Reading (reading_at r)
at_of (Writing w) = At.Writing (writing_at w)
at_of (Last a) = At.Last a
at_of (Freeing f) = At.Freeing (freeing_at f)

abbrev pub is_last : {X : Type 0} → Tab X → Bool
is_last (Last a) = true
is_last _ = false

-- what a pass tells of a tab that reads, and of one that writes
abbrev pub reading_of : {X : Type 0} → Tab X → Option ReadingAt
reading_of (Reading r) = Some (reading_at r)
reading_of _ = None

abbrev pub writing_of : {X : Type 0} → Tab X → Option WritingAt
writing_of (Writing w) = Some (writing_at w)
writing_of _ = None

-- and of the inner one that gives slots back
abbrev pub freeing_of : {X : Type 0} → Tab X → Option FreeingAt
freeing_of (Freeing f) = Some (freeing_at f)
freeing_of _ = None

abbrev pub tabs_at : {X : Type 0} → View X → List At
tabs_at v = map at_of v.tabs

abbrev pub anchor_here : At → ℕ
anchor_here At.Free = 0
anchor_here (At.Retreating a) = a
anchor_here (At.Reading r) = r.anchor
anchor_here (At.Writing w) = w.anchor
anchor_here (At.Last a) = a
anchor_here (At.Freeing f) = f.anchor

abbrev pub stage_here : At → ℕ
stage_here (At.Writing w) = cond w.is_appending 2 1
stage_here (At.Freeing f) = 5
stage_here _ = 0

abbrev pub entered_here : ℕ → ℕ → At
entered_here a epoch = cond (is_readable epoch)
    (At.Reading record { anchor = a; version = version_of epoch; place = 0; slot = None; found = NotWritten })
    (At.Retreating a)

abbrev pub left_here : ℕ → ℕ → At
left_here a n = cond (is_left_over n) (At.Last a) At.Free

-- the inner tab with the slots of an entry, of which none has left
abbrev pub whole_here : ℕ → Bool → At
whole_here a is_freeing = At.Freeing record { anchor = a; is_freeing = is_freeing; is_whole = true; is_spent = false; loose = 0; found = NotWritten }

-- a tab gave a slot back: the inner tab one that left its chain, a writing tab one that it reserved
abbrev pub freed_here : FreeingAt → At
freed_here f = cond (f.is_spent && (f.loose - 1 == 0) && not f.is_freeing) At.Free
    (At.Freeing (record f { is_spent = not (f.is_whole && (f.loose - 1 == 0)) && f.is_spent; loose = f.loose - 1 }))

abbrev pub is_slot : Option ℕ → ℕ → Bool
is_slot None slot = false
is_slot (Some x) slot = x == slot

abbrev pub given_back_here : At → ℕ → At
given_back_here (At.Writing w) slot = At.Writing (cond (is_slot w.first slot) (record w { first = w.second; second = None }) (record w { second = None }))
given_back_here (At.Freeing f) slot = freed_here f
given_back_here at slot = at

-- an inner tab that gives a slot back has one
abbrev pub HasLoose : At → Type 0
HasLoose (At.Freeing f) = 0 < f.loose
HasLoose at = Unit {0}

-- a tab that reads loaded a word beside its anchor
abbrev pub loaded_here : At → Side → ℕ → At
loaded_here (At.Reading r) Start n = At.Reading (record r { slot = cond (r.place == 0) (cond (n == 0) None (Some (n - 1))) r.slot })
loaded_here at side n = at

-- a start that it loads is 0 or names a slot
abbrev pub HasNumber : At → Side → ℕ → Type 0
HasNumber (At.Reading r) Start n = n ≤ 4294967296
HasNumber at side n = Unit {0}

-- a tab that writes reserved a slot
abbrev pub reserved_by : Option ℕ → WritingAt → ℕ → WritingAt
reserved_by None w slot = record w { first = Some slot }
reserved_by (Some x) w slot = record w { second = Some slot }

abbrev pub reserved_here : At → ℕ → At
reserved_here (At.Writing w) slot = At.Writing (reserved_by w.first w slot)
reserved_here at slot = at

-- it published the first of them
abbrev pub or_slot : Option ℕ → ℕ → Option ℕ
or_slot None slot = Some slot
or_slot (Some x) slot = Some x

abbrev pub published_here : At → ℕ → At
published_here (At.Writing w) slot = At.Writing (record w { published = w.published + 1; start = or_slot w.start slot; first = w.second; second = None })
published_here at slot = at

-- a tab looked at the link of its slot
abbrev pub followed_here : At → Link → At
followed_here (At.Reading r) found = At.Reading (record r { found = found })
followed_here (At.Freeing f) found = At.Freeing (record f { found = found })
followed_here at found = at

-- The first slot has left the chain that the inner tab frees. It is loose, or a writing tab has reserved it.
abbrev pub is_next : Link → Bool
is_next (Next slot) = true
is_next _ = false

abbrev pub loosened_here : At → Bool → At
loosened_here (At.Freeing f) is_loose = At.Freeing (record f { is_whole = false; is_spent = not (is_next f.found); loose = f.loose + cond is_loose 1 0; found = NotWritten })
loosened_here at is_loose = at

abbrev pub HasLooseRoom : At → Type 0
HasLooseRoom (At.Freeing f) = f.loose < 4294967295
HasLooseRoom at = Unit {0}

abbrev pub loosened_tabs : List At → ℕ → ℕ → List At
loosened_tabs tabs t slot = let left = slice_set tabs 8 (loosened_here (slice_index_or tabs 8 At.Free) (t == 8)) in
    cond (t == 8) left (slice_set left t (reserved_here (slice_index_or left t At.Free) slot))

-- a tab that reads gave its turn back
abbrev pub ended_here : At → Then → At
ended_here (At.Reading r) GoesOn = At.Reading (record r { place = r.place + 1; slot = next_slot r.found; found = NotWritten })
ended_here at then = at

-- there is a place behind the one from which a tab that reads goes on, and behind what a tab that writes has published
abbrev pub HasNext : At → Then → Type 0
HasNext (At.Reading r) GoesOn = r.place < 4294967295
HasNext at then = Unit {0}

abbrev pub HasPlace : At → Type 0
HasPlace (At.Writing w) = w.published < 4294967295
HasPlace at = Unit {0}

-- a tab took the anchor; where the entry there was idle, the inner tab has its slots
abbrev pub new_writing : (anchor version : ℕ) → WritingAt
new_writing anchor version = record { anchor = anchor; version = version; is_appending = false; published = 0; start = None; first = None; second = None }

abbrev pub taken_here : List At → ℕ → ℕ → ℕ → Bool → List At
taken_here tabs t a version is_idle = slice_set (cond is_idle (slice_set tabs 8 (whole_here a false)) tabs) t (At.Writing (new_writing a version))

-- a tab had an entry freed, whose slots the inner tab has
abbrev pub evicted_here : List At → ℕ → ℕ → List At
evicted_here tabs t a = slice_set (slice_set tabs t At.Free) 8 (whole_here a true)

-- a tab raised its anchor to this stage, and left this word
abbrev pub raised_here : At → Stage → ℕ → At
raised_here (At.Writing w) Appending n = At.Writing (record w { is_appending = true })
raised_here tab to n = left_here (anchor_here tab) n
