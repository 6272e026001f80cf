-- A store that was closed: all its cells are at home, and no tab holds one.
use Rattle.std.proofs.Common.{◌≡◌, ◌⊎◌, inl, inr, ◌<◌, ◌≤◌, ◌^◌, ℕ, List, [], ◌∷◌, Option, Some, None, Bool, true, false, IsTrue, Contains, arith, get_or, length, map, refl, subst, ◌∙◌, zero, suc}
use Rattle.std.specs.Prelude.{slice_index_or}
use Rattle.std.proofs.lemmas.List.{length-map}
use Rattle.std.specs.Global.{Vec}
use Rattle.rock_disk.specs.Cell.{CellState}
use Rattle.rock_disk.specs.Crash.{IsCrashImage}
use Rattle.rebuild_model.specs.Entry.{Entry, IsComplete}
use Rattle.rebuild_model.specs.Image.{image_at}
use Rattle.core_model.specs.declared.tab.Cell.{Cell}
use Rattle.core_model.specs.declared.tab.Tab.{Tab}
use Rattle.core_model.specs.declared.tab.Tab.TheVariants.{Free}
use Rattle.core_model.specs.declared.tab.Turn.TheVariants.{Has}
use Rattle.core_model.specs.declared.view.View.{View}
use Rattle.core_model.specs.Cells.{IsCell, IsHeldCell}
use Rattle.core_model.specs.State.{State}
use Rattle.core_model.specs.Tabs.{turn_of}
use Rattle.core_log.specs.Within.{IsPossible}
use Rattle.crash_entries.proofs.Telling.{Tools}
use Rattle.store_rule.specs.declared.store.Pass.{Pass}
use Rattle.store_rule.specs.declared.store.Store.{Store}
use Rattle.store_rule.specs.Closing.{Closed}
use Rattle.store_rule.specs.Ground.{Ground, Offers}
use Rattle.store_rule.specs.Passes.{basis}
use Rattle.store_rule.specs.Setting.{shown}
use Rattle.rock_open.specs.Opening.{IsStoreOver}
use Rattle.wiped_entries.specs.Now.{IsLeftNow}
use Rattle.crashed_stores.specs.Left.{IsLeftOf, IsOfOrigin, bytes_now}
use Rattle.crashed_stores.proofs.Over.{left_responses}

-- what may stay of a told cell in a list is what is shown of it
shown_at : {C : Type 0} → (cell : C → CellState) (cells : List C) (j : ℕ) (c : Cell (List ℕ)) → slice_index_or (map (λ d. Some (shown true cell d)) cells) j None ≡ Some c
    → (j < length (map cell cells)) × (get_or (map (λ (d : CellState). d.possible) (map cell cells)) j [] ≡ c.possible)
shown_at cell [] j c e = absurd (none_at j e)
  where
    none_at : (j : ℕ) → slice_index_or [] j None ≡ Some c → ⊥
    none_at zero e = cc
    none_at (suc j) e = cc
shown_at cell (d ∷ cells) zero c e = (omega arith, the (shown true cell d) e)
  where
    the : (x : Cell (List ℕ)) → Some x ≡ Some c → x.possible ≡ c.possible
    the x q = cc
shown_at cell (d ∷ cells) (suc j) c e = let h = shown_at cell cells j c e in ((let z = h.0 in omega arith), h.1)

module _ {C : Type 0} (cell : C → CellState) (g : Ground (List ℕ)) (views : List (View (List ℕ))) (cells : List C) (h : Closed true cell g views cells) where
  abbrev s : State (List ℕ)
  s = h.gathered.state

  -- no tab holds a cell
  pub none_held : (slot : ℕ) (c : Cell (List ℕ)) → IsHeldCell s slot c → ⊥
  none_held slot c q = not_free q.tab (h.free q.i q.view q.at q.t q.tab q.there) q.turn
    where
      not_free : (x : Tab (List ℕ)) → x ≡ Free → turn_of x ≡ Has q.hold → ⊥
      not_free x e t = cc

  -- of each slot a crash leaves what it may leave of the cell that has come home
  module _ (images : List (List ℕ)) (left : IsCrashImage (map cell cells) images) where
    closed_possible : (slot : ℕ) (c : Cell (List ℕ)) → IsCell s slot c → IsPossible (λ x. x) c (image_at images slot)
    closed_possible slot c (inl home) = let d = shown_at cell cells slot c (subst (λ (z : List (Option (Cell (List ℕ)))). slice_index_or z slot None ≡ Some c) h.home home) in
        (image_at images slot, subst (λ (z : List (List ℕ)). Contains z (image_at images slot)) d.1 (left.each slot d.0), refl)
    closed_possible slot c (inr held) = absurd (none_held slot c held)

    closed_many : length images ≡ g.setting.slots
    closed_many = left.count ∙ length-map cells cell ∙ h.many

    pub closed_left : IsLeftOf g s h.gathered.rule.logged.log images
    closed_left = record { many = closed_many; each = λ slot c lt q. inl (closed_possible slot c q) }

    pub closed_now : IsLeftNow g.setting (λ x. x) s images
    closed_now = record { many = closed_many; each = λ slot c lt q. inl (closed_possible slot c q) }

pub told_left : {C : Type 0} → (tells : Bool) → IsTrue tells → (cell : C → CellState) (g : Ground (List ℕ)) (views : List (View (List ℕ))) (cells : List C) (h : Closed tells cell g views cells) (images : List (List ℕ)) → IsCrashImage (map cell cells) images → IsLeftOf g h.gathered.state h.gathered.rule.logged.log images
told_left true t cell g views cells h images left = closed_left cell g views cells h images left
told_left false t cell g views cells h images left = cc

pub told_now : {C : Type 0} → (tells : Bool) → IsTrue tells → (cell : C → CellState) (g : Ground (List ℕ)) (views : List (View (List ℕ))) (cells : List C) (h : Closed tells cell g views cells) (images : List (List ℕ)) → IsCrashImage (map cell cells) images → IsLeftNow g.setting (λ x. x) h.gathered.state images
told_now true t cell g views cells h images left = closed_now cell g views cells h images left
told_now false t cell g views cells h images left = cc

module _ {C O : Type 0} (tells : Bool) (told : IsTrue tells) (cell : C → CellState) (offers : O → Offers) (slot anchors many : ℕ) (origin : O) (cells : List C) (store : Store C O) (passes : Vec (Pass C))
    (over : IsStoreOver tells cell offers slot anchors many origin cells store passes) (views : List (View (List ℕ))) (closed : List C) (h : Closed tells cell (basis tells cell offers store) views closed) where
  pub closed_responses : (t : Tools) → slot < 2 ^ 32 → length cells ≤ 1048576 → (images : List (List ℕ)) → IsCrashImage (map cell closed) images → (e : Entry) → IsComplete slot images e → IsComplete slot (bytes_now cell cells) e ⊎ IsOfOrigin (offers origin) e
  closed_responses t sized few images left e c = left_responses tells told cell offers slot anchors many origin cells store passes over h.gathered.state h.gathered.rule t sized few images (told_left tells told cell (basis tells cell offers store) views closed h images left) e c
