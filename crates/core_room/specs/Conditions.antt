-- What a step of a pass asks in a store that fits, by the view of the pass alone.
use Rattle.std.specs.Prelude.{◌*◌, ◌+◌, ◌<◌, ◌≡◌, ◌≤◌, ◌⊎◌, Some, length, ℕ}
use Rattle.core_model.specs.declared.moves.Move.{Move}
use Rattle.core_model.specs.declared.moves.Move.TheVariants.{Evict, LookMap, Loosen, Own}
use Rattle.core_model.specs.declared.tab.Tab.TheVariants.{Last}
use Rattle.core_model.specs.declared.tab.Writer.{Writer}
use Rattle.core_model.specs.declared.view.View.{View}
use Rattle.core_model.specs.Layout.{Setting}
use Rattle.core_model.specs.Tabs.{InnerIsFree, OfWriter, inner, tab_at}
use Rattle.core_model.specs.SlotMoves.{MayReserve}
use Rattle.core_room.specs.Fitting.{most_written}

-- a tab may begin to search where it may reserve a slot, and where its entry comes with one slot more to at most `most_written`
pub record MayBegin {X : Type 0} (k : Setting X) (need : ℕ → ℕ) (w : Writer X) : Type 0 where
  pub reserves : MayReserve w
  pub within : length w.published + length w.reserved + 1 ≤ most_written k.slots need w.anchor

-- its search has come to this slot
abbrev pub HasCome : {X : Type 0} → ℕ → Writer X → Type 0
HasCome slot w = w.claim ≡ Some slot

-- A look at the first word of the map begins a search, while the inner tab has nothing to give back. A search goes on at its place: it
-- looks at the word of which this is the first slot, and it tries for that slot. An entry is evicted only by the tab that was last there,
-- and a slot that is given back goes to no writing tab. Any other step is free.
abbrev pub KeepsRoom : {X : Type 0} → Setting X → (need : ℕ → ℕ) → View X → Move → Type 0
KeepsRoom k need v (LookMap t word) =
    ((word ≡ 0) × (t < inner) × InnerIsFree v × OfWriter (MayBegin k need) (tab_at v t)) ⊎ OfWriter (HasCome (64 * word)) (tab_at v t)
KeepsRoom k need v (Own t slot) = OfWriter (HasCome slot) (tab_at v t)
KeepsRoom k need v (Evict t a) = tab_at v t ≡ Last a
KeepsRoom k need v (Loosen t slot) = t ≡ inner
KeepsRoom k need v m = Unit {0}
