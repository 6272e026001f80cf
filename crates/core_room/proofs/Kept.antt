-- In a store that fits each step that meets the conditions of one keeps room.
use Rattle.std.proofs.Common.{List, arith, sum_by, true, ◌+◌, ◌<◌, ◌≡◌, ◌≤◌, ℕ}
use mathlib.Core.Option.{some}
use lib.ListN.{get_elem?}
use Rattle.core_model.specs.declared.moves.Move.{Move}
use Rattle.core_model.specs.declared.moves.Move.TheVariants.{CellIn, CellOut, Count, Disown, Doom, Draw, EndTurn, Enter, Evict, GetLink, Learn, Leave, LoadSide, LogPiece, Look, LookMap, Loosen, Note, Own, Publish, Raise, StoreSide, Sync, Take, TryTurn, Write}
use Rattle.core_model.specs.declared.view.View.{View}
use Rattle.core_model.specs.Layout.{Setting}
use Rattle.core_model.specs.State.{State, chain_of}
use Rattle.core_model.specs.Spots.{slots_chained}
use Rattle.core_model.specs.Sound.{Sound}
use Rattle.core_model.specs.Steps.{after}
use Rattle.core_model.specs.Tabs.{count}
use Rattle.core_model.specs.Table.{MayStep, place}
use Rattle.core_room.specs.Fitting.{capacity, fits}
use Rattle.core_room.specs.Room.{Room, holds_at, past_in, taken_at}
use Rattle.core_room.specs.Conditions.{KeepsRoom}
use Rattle.core_room.proofs.Searching.{fewer}
use Rattle.core_room.proofs.Anchors.{IsNoLook, held_after}
use Rattle.core_room.proofs.Quiet.{IsNoSearch, past_after}
use Rattle.core_room.proofs.Words.{IsFar, LessTaken, back_less, far_less}
use Rattle.core_room.proofs.Views.{views_few}
use Rattle.core_room.proofs.Searched.{look_keeps, try_keeps}

module _ {X : Type 0} (k : Setting X) (s : State X) (need : ℕ → ℕ) (chain : ℕ → List ℕ) (i : ℕ) (v : View X)
    (fit : fits k.anchors k.slots need chain ≡ true)
    (so : Sound k s) (room : Room k (capacity k.slots need chain) s) (at : get_elem? s.views i ≡ some v) where
  -- each anchor has at most its capacity,
  anchors_kept : (m : Move) → IsNoLook m → MayStep k s v m → KeepsRoom k need v m → (a : ℕ) → a < k.anchors
      → slots_chained (chain_of (after k s i v m) a) + sum_by (count (holds_at a)) (after k s i v m).views ≤ capacity k.slots need chain a
  anchors_kept m off may keeps a lt = let r = room.anchors a lt in
      let h = held_after k s i v so at may.pass need m off may.allowed keeps a in let e = views_few (holds_at a) k s i v at m in omega arith

  -- and where no search comes further and no slot is taken, all are in their places
  quiet : (m : Move) → IsNoLook m → IsNoSearch m → (may : MayStep k s v m) → KeepsRoom k need v m → LessTaken k s i v so at may.pass m
      → Room k (capacity k.slots need chain) (after k s i v m)
  quiet m off calm may keeps less = record {
    places = fewer k.slots (taken_at k s) (taken_at k (after k s i v m)) (λ slot. sum_by (count (past_in slot)) s.views)
        (λ slot. sum_by (count (past_in slot)) (after k s i v m).views) less
        (λ slot. let p = past_after k s v m calm slot in let e = views_few (past_in slot) k s i v at m in omega arith) room.places;
    anchors = anchors_kept m off may keeps;
  }

  far : (m : Move) → IsNoLook m → IsNoSearch m → IsFar (place v m) → MayStep k s v m → KeepsRoom k need v m
      → Room k (capacity k.slots need chain) (after k s i v m)
  far m off calm there may keeps = quiet m off calm may keeps (far_less k s i v so at may.pass m may.allowed there)

  pub keeps_room : (m : Move) → MayStep k s v m → KeepsRoom k need v m → Room k (capacity k.slots need chain) (after k s i v m)
  keeps_room (Look a) may keeps = far (Look a) tt tt tt may keeps
  keeps_room (Enter t a) may keeps = far (Enter t a) tt tt tt may keeps
  keeps_room (Leave t) may keeps = far (Leave t) tt tt tt may keeps
  keeps_room Count may keeps = far Count tt tt tt may keeps
  keeps_room Draw may keeps = far Draw tt tt tt may keeps
  keeps_room (Take t a u) may keeps = far (Take t a u) tt tt tt may keeps
  keeps_room (Evict t a) may keeps = far (Evict t a) tt tt tt may keeps
  keeps_room (Raise t to) may keeps = far (Raise t to) tt tt tt may keeps
  keeps_room (Doom t) may keeps = far (Doom t) tt tt tt may keeps
  keeps_room (LoadSide t side) may keeps = far (LoadSide t side) tt tt tt may keeps
  keeps_room (StoreSide t side value) may keeps = far (StoreSide t side value) tt tt tt may keeps
  keeps_room (LookMap t word) may keeps = look_keeps k s need chain i v fit so room at may.pass t word may keeps
  keeps_room (Own t slot) may keeps = record {
    places = try_keeps k s need chain i v fit so room at may.pass t slot may keeps;
    anchors = anchors_kept (Own t slot) tt may keeps;
  }
  keeps_room (Disown t slot) may keeps = quiet (Disown t slot) tt tt may keeps (back_less k s i v so at may.pass t slot may.allowed)
  keeps_room (LogPiece t slot durable) may keeps = far (LogPiece t slot durable) tt tt tt may keeps
  keeps_room (Publish t slot link) may keeps = far (Publish t slot link) tt tt tt may keeps
  keeps_room (Loosen t slot) may keeps = far (Loosen t slot) tt tt tt may keeps
  keeps_room (GetLink t slot) may keeps = far (GetLink t slot) tt tt tt may keeps
  keeps_room (TryTurn t slot) may keeps = far (TryTurn t slot) tt tt tt may keeps
  keeps_room (EndTurn t slot then) may keeps = far (EndTurn t slot then) tt tt tt may keeps
  keeps_room (CellOut t slot) may keeps = far (CellOut t slot) tt tt tt may keeps
  keeps_room (CellIn t slot) may keeps = far (CellIn t slot) tt tt tt may keeps
  keeps_room Note may keeps = far Note tt tt tt may keeps
  keeps_room (Learn note) may keeps = far (Learn note) tt tt tt may keeps
  keeps_room (Write t slot outcome) may keeps = far (Write t slot outcome) tt tt tt may keeps
  keeps_room (Sync t slot kept) may keeps = far (Sync t slot kept) tt tt tt may keeps
