-- Where views are renewed and words and chains stay, there is still room: where notes are made and learned, and where a held cell is
-- another one.
use Rattle.std.proofs.Common.{List, [], ap, arith, false, refl, set, sum_by, true, ◌≡◌, ◌≤◌, ℕ}
use mathlib.Core.Option.{some}
use lib.ListN.{get_elem?}
use Rattle.core_model.specs.declared.tab.Freer.{Freer}
use Rattle.core_model.specs.declared.tab.Hold.{Hold}
use Rattle.core_model.specs.declared.tab.Tab.{Tab}
use Rattle.core_model.specs.declared.tab.Tab.TheVariants.{Freeing, Writing}
use Rattle.core_model.specs.declared.tab.Turn.TheVariants.{Has}
use Rattle.core_model.specs.declared.tab.Writer.{Writer}
use Rattle.core_model.specs.declared.view.Item.{Item}
use Rattle.core_model.specs.declared.view.View.{View}
use Rattle.core_model.specs.Layout.{Setting}
use Rattle.core_model.specs.State.{State}
use Rattle.core_model.specs.CellMoves.{spent}
use Rattle.core_model.specs.Tabs.{count}
use Rattle.core_model.specs.TableForms.{learned_from, learns, noted_at, noted_behind, renewed, with_held, with_hold, with_wiped, with_wiper}
use Rattle.core_model.proofs.Lists.{sum_at}
use Rattle.core_model.proofs.NotesFrame.{Renews}
use Rattle.core_room.specs.Room.{Room, holds_at, past_in, taken_at}
use Rattle.core_room.proofs.Searching.{fewer}
use Rattle.core_room.proofs.Views.{noted, set_none, view_set}

module _ {X : Type 0} (k : Setting X) (capacity : ℕ → ℕ) (s : State X) (room : Room k capacity s) where
  -- no search has come further, and no tab has more slots
  renewed_room : (views : List (View X)) → ((slot : ℕ) → sum_by (count (past_in slot)) views ≤ sum_by (count (past_in slot)) s.views)
      → ((a : ℕ) → sum_by (count (holds_at a)) views ≤ sum_by (count (holds_at a)) s.views) → Room k capacity (renewed s views)
  renewed_room views past held = record {
    places = fewer k.slots (taken_at k s) (taken_at k (renewed s views)) (λ slot. sum_by (count (past_in slot)) s.views)
        (λ slot. sum_by (count (past_in slot)) views) (λ j lt. omega arith) past room.places;
    anchors = λ a lt. let r = room.anchors a lt in let h = held a in omega arith;
  }

  -- Any change of views that tells nothing new of words is so.
  pub room_renewed : (views : List (View X)) → Renews k s views → Room k capacity (renewed s views)
  room_renewed views r = renewed_room views (λ slot. let e = same (past_in slot) in omega arith)
      (λ a. let e = same (holds_at a) in omega arith)
    where
      same : (f : Tab X → ℕ) → sum_by (count f) views ≡ sum_by (count f) s.views
      same f = r.sums (count f) (λ u w g. ap (sum_by f) g.tabs) (λ n. refl)

  module _ (i : ℕ) (v : View X) (at : get_elem? s.views i ≡ some v) where
    pub room_noted_behind : (item : Item) → Room k capacity (noted_behind s i v item)
    room_noted_behind item = renewed_room (noted_behind s i v item).views
        (λ slot. let e = noted (past_in slot) k s i v at (learns v [] item) false 0 in omega arith)
        (λ a. let e = noted (holds_at a) k s i v at (learns v [] item) false 0 in omega arith)

    pub room_noted_at : (item : Item) (n : ℕ) → Room k capacity (noted_at s i v item n)
    room_noted_at item n = renewed_room (noted_at s i v item n).views
        (λ slot. let e = noted (past_in slot) k s i v at (learns v [] item) true n in omega arith)
        (λ a. let e = noted (holds_at a) k s i v at (learns v [] item) true n in omega arith)

    pub room_learned : (item : Item) (n : ℕ) (u : View X) → Room k capacity (learned_from s i v item n u)
    room_learned item n u = renewed_room (learned_from s i v item n u).views (λ slot. less (past_in slot)) (λ a. less (holds_at a))
      where
        less : (f : Tab X → ℕ) → sum_by (count f) (learned_from s i v item n u).views ≤ sum_by (count f) s.views
        less f = let e = view_set f k s i v at (learns v u.seen item) in
            let z = set_none (count f) (set s.views i (learns v u.seen item)) n spent refl in omega arith

    pub room_rewritten : (t : ℕ) (w : Writer X) (h : Hold X) → get_elem? v.tabs t ≡ some (Writing w)
        → Room k capacity (with_held s i v t w h)
    room_rewritten t w h is = renewed_room (with_held s i v t w h).views (λ slot. less (past_in slot) refl) (λ a. less (holds_at a) refl)
      where
        less : (f : Tab X → ℕ) → f (Writing record w { turn = Has h }) ≡ f (Writing w) → sum_by (count f) (with_held s i v t w h).views
            ≤ sum_by (count f) s.views
        less f same = let e = view_set f k s i v at (with_hold v t w h) in
            let z = sum_at f v.tabs t (Writing w) (Writing record w { turn = Has h }) is in omega arith

    pub room_wiped : (t : ℕ) (f : Freer X) (h : Hold X) → get_elem? v.tabs t ≡ some (Freeing f) → Room k capacity (with_wiped s i v t f h)
    room_wiped t f h is = renewed_room (with_wiped s i v t f h).views (λ slot. less (past_in slot) refl) (λ a. less (holds_at a) refl)
      where
        less : (g : Tab X → ℕ) → g (Freeing record f { turn = Has h }) ≡ g (Freeing f) → sum_by (count g) (with_wiped s i v t f h).views
            ≤ sum_by (count g) s.views
        less g same = let e = view_set g k s i v at (with_wiper v t f h) in
            let z = sum_at g v.tabs t (Freeing f) (Freeing record f { turn = Has h }) is in omega arith
