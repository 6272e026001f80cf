-- What steps make of sums over the views: a step changes the view of its pass, and a note has no tabs.
use Rattle.std.proofs.Common.{Bool, List, [], arith, cond, drop, false, length, ltb, refl, set, suc, sum_by, true, zero, ◌++◌, ◌+◌, ◌∷◌, ◌≡◌, ◌≤◌, ℕ}
use Rattle.std.proofs.lemmas.List.Sums.{sum_by-cons, sum_by_push}
use mathlib.Core.Option.{some}
use lib.ListN.{get_elem?}
use Rattle.core_model.specs.declared.moves.Move.{Move}
use Rattle.core_model.specs.declared.moves.Move.TheVariants.{CellIn, CellOut, Count, Disown, Doom, Draw, EndTurn, Enter, Evict, GetLink, Learn, Leave, LoadSide, LogPiece, Look, LookMap, Loosen, Note, Own, Publish, Raise, StoreSide, Sync, Take, TryTurn, Write}
use Rattle.core_model.specs.declared.tab.Tab.{Tab}
use Rattle.core_model.specs.declared.view.View.{View}
use Rattle.core_model.specs.Layout.{Setting}
use Rattle.core_model.specs.State.{State}
use Rattle.core_model.specs.CellMoves.{free_note, note_of, spent}
use Rattle.core_model.specs.Tabs.{count}
use Rattle.core_model.specs.Steps.{after, finding, view_after}
use Rattle.core_model.specs.Table.{tabs_after}
use Rattle.core_model.proofs.Lists.{sum_at}

module _ {A : Type 0} (g : A → ℕ) where
  -- one of a list becomes one that counts nothing
  pub set_none : (xs : List A) (p : ℕ) (y : A) → g y ≡ 0 → sum_by g (set xs p y) ≤ sum_by g xs
  set_none [] p y none = omega arith
  set_none (x ∷ xs) zero y none = let a = sum_by-cons g x xs in let b = sum_by-cons g y xs in omega arith
  set_none (x ∷ xs) (suc p) y none = let a = sum_by-cons g x xs in let b = sum_by-cons g x (set xs p y) in let r = set_none xs p y none in
      omega arith

  -- or one such comes behind it
  pub push_none : (xs : List A) (y : A) → g y ≡ 0 → sum_by g (xs ++ y ∷ []) ≤ sum_by g xs
  push_none xs y none = let a = sum_by_push g xs y in omega arith

module _ {X : Type 0} (f : Tab X → ℕ) (k : Setting X) (s : State X) (i : ℕ) (v : View X) (at : get_elem? s.views i ≡ some v) where
  pub view_set : (w : View X) → sum_by (count f) (set s.views i w) + count f v ≤ sum_by (count f) s.views + count f w
  view_set w = let e = sum_at (count f) s.views i v w at in omega arith

  pub noted : (w : View X) (b : Bool) (p : ℕ)
      → sum_by (count f) (cond b (set (set s.views i w) p (note_of v)) (set s.views i w ++ note_of v ∷ [])) + count f v
      ≤ sum_by (count f) s.views + count f w
  noted w true p = let e = view_set w in let n = set_none (count f) (set s.views i w) p (note_of v) refl in omega arith
  noted w false p = let e = view_set w in let n = push_none (count f) (set s.views i w) (note_of v) refl in omega arith

  abbrev mine : Move → View X
  mine m = view_after v m (finding k s v m)

  pub views_few : (m : Move) → sum_by (count f) (after k s i v m).views + count f v
      ≤ sum_by (count f) s.views + sum_by f (tabs_after v m (finding k s v m))
  views_few (Look a) = view_set (mine (Look a))
  views_few (Enter t a) = view_set (mine (Enter t a))
  views_few (Leave t) = view_set (mine (Leave t))
  views_few Count = view_set (mine Count)
  views_few Draw = view_set (mine Draw)
  views_few (Take t a u) = view_set (mine (Take t a u))
  views_few (Evict t a) = view_set (mine (Evict t a))
  views_few (Raise t to) = view_set (mine (Raise t to))
  views_few (Doom t) = view_set (mine (Doom t))
  views_few (LoadSide t side) = view_set (mine (LoadSide t side))
  views_few (StoreSide t side value) = view_set (mine (StoreSide t side value))
  views_few (LookMap t word) = view_set (mine (LookMap t word))
  views_few (Own t slot) = view_set (mine (Own t slot))
  views_few (Disown t slot) = view_set (mine (Disown t slot))
  views_few (LogPiece t slot durable) = view_set (mine (LogPiece t slot durable))
  views_few (Publish t slot link) = view_set (mine (Publish t slot link))
  views_few (Loosen t slot) = view_set (mine (Loosen t slot))
  views_few (GetLink t slot) = view_set (mine (GetLink t slot))
  views_few (TryTurn t slot) = view_set (mine (TryTurn t slot))
  views_few (EndTurn t slot then) = view_set (mine (EndTurn t slot then))
  views_few (CellOut t slot) = view_set (mine (CellOut t slot))
  views_few (CellIn t slot) = view_set (mine (CellIn t slot))
  views_few Note =
      noted (mine Note) (ltb (k.passes + free_note (drop k.passes s.views)) (length (set s.views i (mine Note))))
      (k.passes + free_note (drop k.passes s.views))
  views_few (Learn note) = let e = view_set (mine (Learn note)) in
      let n = set_none (count f) (set s.views i (mine (Learn note))) (k.passes + note) spent refl in omega arith
  views_few (Write t slot outcome) = view_set (mine (Write t slot outcome))
  views_few (Sync t slot kept) = view_set (mine (Sync t slot kept))
