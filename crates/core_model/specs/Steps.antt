-- One step of a pass: what it finds, what becomes of the view of the pass, and the state after it.
use Rattle.std.specs.Prelude.{◌++◌, ◌+◌, ◌==◌, ◌∷◌, ◌≡◌, List, None, Option, Some, [], cond, drop, slice_get, slice_index_or, slice_set, ℕ}
use mathlib.Core.Option.{some}
use lib.ListN.{get_elem?}
use Rattle.lock_word.specs.declared.stage.Stage.TheVariants.{Halted}
use Rattle.link_word.specs.declared.link.Link.{Link}
use Rattle.core_model.specs.declared.moves.Move.{Move}
use Rattle.core_model.specs.declared.moves.Move.TheVariants.{EndTurn, Evict, Learn, Note, Publish, Raise, Sync, Take, TryTurn, Write}
use Rattle.core_model.specs.declared.tab.Cell.{Cell}
use Rattle.core_model.specs.declared.view.Place.{Place}
use Rattle.core_model.specs.declared.view.Sight.{Sight}
use Rattle.core_model.specs.declared.view.Trace.{Trace}
use Rattle.core_model.specs.declared.view.View.{View}
use Rattle.core_model.specs.declared.chain.Chain.{Chain}
use Rattle.core_model.specs.Layout.{Setting, index, word_in}
use Rattle.core_model.specs.Chains.{no_chain, slots_of_link}
use Rattle.core_model.specs.State.{Finding, State, chain_of, turn_word}
use Rattle.core_model.specs.Trails.{last_find}
use Rattle.core_model.specs.Tabs.{anchor_of, tab_at, turn_of}
use Rattle.core_model.specs.CellMoves.{all_seen, cell_held, chosen_content, free_note, news_of, note_of, put, seen_in, spent, synced, wrote}
use Rattle.core_model.specs.Table.{MayStep, answer, deeds_of, held_after, item_of, left_by, met_of, place, sights_of, tabs_after}

-- What a step finds.

abbrev pub word_found : {X : Type 0} → Setting X → State X → Option Place → ℕ
word_found k s (Some p) = word_in k s.words p
word_found k s None = 0

abbrev pub number_found : {X : Type 0} → Setting X → State X → View X → Move → ℕ
number_found k s v Note = free_note (drop k.passes s.views)
number_found k s v m = word_found k s (place v m)

abbrev pub cell_found : {X : Type 0} → Setting X → State X → View X → Move → Option (Cell X)
cell_found k s v (TryTurn t slot) = slice_index_or s.places slot None
cell_found k s v (Write t slot outcome) = wrote (cell_held (turn_of (tab_at v t))) outcome (chosen_content k (tab_at v t))
cell_found k s v (Sync t slot kept) = synced (cell_held (turn_of (tab_at v t))) kept
cell_found k s v m = None

abbrev pub chain_found : {X : Type 0} → State X → Move → Chain
chain_found s (Take t a version) = chain_of s a
chain_found s (Evict t a) = chain_of s a
chain_found s m = no_chain

-- of a note all that it has seen; of a turn that is free, each piece that a pass or a note knows to be logged for the slot, and the pass does not
abbrev pub sights_found : {X : Type 0} → Setting X → State X → View X → Move → List Sight
sights_found k s v (Learn note) = seen_in (slice_get s.views (k.passes + note))
sights_found k s v (TryTurn t slot) = cond (turn_word k s slot == 0) (news_of slot v.seen (all_seen s.views)) []
sights_found k s v m = []

abbrev pub finding : {X : Type 0} → Setting X → State X → View X → Move → Finding X
finding k s v m = record {
  word = number_found k s v m;
  cell = cell_found k s v m;
  chain = chain_found s m;
  sights = sights_found k s v m;
}

-- What becomes of the view.

-- what its last steps left of words
abbrev pub traces_of : Option Place → ℕ → List Trace
traces_of (Some p) left = record { place = p; word = left } ∷ []
traces_of None left = []

abbrev pub view_after : {X : Type 0} → View X → Move → Finding X → View X
view_after v m x = record v {
  tabs = tabs_after v m x;
  held = held_after v m x.word;
  seen = sights_of v m x ++ v.seen;
  trail = item_of v m x.word ∷ v.trail;
  mirror = traces_of (place v m) (left_by v m x.word) ++ v.mirror;
  deeds = deeds_of v m x.word ++ v.deeds;
  met = met_of v m x ++ v.met;
}

-- What becomes of the state.

abbrev pub words_after : {X : Type 0} → Setting X → List ℕ → Option Place → ℕ → List ℕ
words_after k words (Some p) left = slice_set words (index k p) left
words_after k words None left = words

abbrev pub places_after : {X : Type 0} → List (Option (Cell X)) → View X → Move → ℕ → List (Option (Cell X))
places_after places v (TryTurn t slot) n = cond (n == 0) (slice_set places slot None) places
places_after places v (EndTurn t slot then) n = slice_set places slot (cell_held (turn_of (tab_at v t)))
places_after places v m n = places

abbrev pub views_after : {X : Type 0} → Setting X → List (View X) → ℕ → View X → Move → Finding X → List (View X)
views_after k views i v Note x = put (slice_set views i (view_after v Note x)) (k.passes + x.word) (note_of v)
views_after k views i v (Learn note) x = slice_set (slice_set views i (view_after v (Learn note) x)) (k.passes + note) spent
views_after k views i v m x = slice_set views i (view_after v m x)

abbrev pub halted : Chain → Chain
halted c = record { slots = c.slots; end = c.end; tail = slots_of_link c.end }

abbrev pub longer : Chain → ℕ → Link → Chain
longer c slot link = record { slots = c.slots ++ slot ∷ []; end = link; tail = [] }

abbrev pub chains_after : {X : Type 0} → List Chain → View X → Move → ℕ → List Chain
chains_after chains v (Take t a version) n = cond (n == last_find a v.trail) (slice_set chains a no_chain) chains
chains_after chains v (Evict t a) n = cond (n == last_find a v.trail) (slice_set chains a no_chain) chains
chains_after chains v (Raise t Halted) n = slice_set chains (anchor_of (tab_at v t)) (halted (slice_index_or chains (anchor_of (tab_at v t)) no_chain))
chains_after chains v (Publish t slot link) n = slice_set chains (anchor_of (tab_at v t)) (longer (slice_index_or chains (anchor_of (tab_at v t)) no_chain) slot link)
chains_after chains v m n = chains

-- the state after the step m of the pass i, whose view is v
abbrev pub after : {X : Type 0} → Setting X → State X → ℕ → View X → Move → State X
after k s i v m = let x = finding k s v m in record {
  words = words_after k s.words (place v m) (left_by v m x.word);
  places = places_after s.places v m x.word;
  views = views_after k s.views i v m x;
  chains = chains_after s.chains v m x.word;
}

-- The pass i makes the step m, which answers n and leaves the state t.
pub record IsStep {X : Type 0} (k : Setting X) (s : State X) (i : ℕ) (m : Move) (n : ℕ) (t : State X) : Type 0 where
  pub view : View X
  pub at : get_elem? s.views i ≡ some view
  pub may : MayStep k s view m
  pub answers : n ≡ answer view m (number_found k s view m)
  pub leaves : t ≡ after k s i view m

-- It may make it.
abbrev pub MayMove : {X : Type 0} → Setting X → State X → ℕ → Move → Type 0
MayMove {X} k s i m = (v : View X) × (get_elem? s.views i ≡ some v) × MayStep k s v m
