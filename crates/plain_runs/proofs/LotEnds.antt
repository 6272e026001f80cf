-- How a pass ends that shows a lot: its tabs are left as by the plain store, and what that has then stands in the store that was closed.
use Rattle.std.proofs.Common.{Bool, IsTrue, List, [], ap, arith, false, inl, inr, length, map, refl, subst, suc, sym, true, zero, ◌<◌, ◌∙◌, ◌∷◌, ◌≡◌, ◌≤◌, ◌⊎◌, ℕ}
use Rattle.std.specs.Global.{Vec}
use Rattle.std.specs.List.{range_with_len}
use Rattle.std.proofs.lemmas.List.{length-map}
use mathlib.Core.Option.{some}
use lib.ListN.{get_elem?}
use Rattle.rock_disk.specs.Cell.{CellState}
use Rattle.rock_disk.specs.Opened.{AreSlots}
use Rattle.core_model.specs.State.{word}
use Rattle.script_text.specs.declared.answer.Answer.TheVariants as answer
use Rattle.core_model.specs.declared.view.View.{View}
use Rattle.plain_model.specs.declared.store.Plain.{Plain}
use Rattle.plain_model.specs.declared.store.Tab.{Tab}
use Rattle.plain_model.specs.declared.store.Tab.TheVariants.{Free, Reading, Writing}
use Rattle.plain_model.specs.Serving.{leave, leave_all}
use Rattle.plain_model.specs.Store.{tab_at}
use Rattle.store_rule.specs.declared.store.Pass.{Pass}
use Rattle.store_rule.specs.declared.store.Store.{Store}
use Rattle.store_rule.specs.Closing.{Closed}
use Rattle.store_rule.specs.Ground.{Ground, Offers, fits}
use Rattle.store_rule.specs.Passes.{basis, view}
use Rattle.store_rule.proofs.Passing.{pass_of}
use Rattle.rock_open.specs.Opening.{IsStoreOver}
use Rattle.store_serve.specs.Tabs.{IsFree}
use Rattle.store_serve.specs.Whole.{whole_tab}
use Rattle.worker_pool.specs.Courses.{At}
use Rattle.worker_shelf.proofs.Holding.{Stays}
use Rattle.worker_shelf.specs.Shelves.{LeavesFree, LeavesReader, LeavesWriter, LeftBelow, LeftTab}
use Rattle.plain_runs.specs.Ends.{HoldsWholeAt}
use Rattle.plain_runs.specs.PrivateRuns.{EndedAs}
use Rattle.plain_runs.specs.Shows.{ShowsLot, ShowsTab}
use Rattle.plain_runs.specs.Words.{Lot, setting_of}
use Rattle.plain_runs.proofs.AtAnchors.{OneKept}
use Rattle.plain_runs.proofs.Ends.{PlacedPieces, holds_lot, home_as, lot_word}
use Rattle.plain_runs.proofs.Leaving.{all_left, leave_free, left_below}
use Rattle.plain_runs.proofs.LeavingLots.{leaves_lot}
use Rattle.plain_runs.proofs.Opened.{as_many, has_versions, tells_pieces}
use Rattle.plain_runs.proofs.OtherLines.{close_left, drop_left}
use Rattle.plain_runs.proofs.OwnAnchors.{OwnsLot, lot_stays}
use Rattle.plain_runs.proofs.ShowingOthers.{OneBegins}
use Rattle.plain_runs.proofs.ShownTabs.{reads_not_free, writes_not_free}

-- what stands at a place of a list has its image at the same place of the list of images
pub image_at : {X Y : Type 0} (f : X → Y) (xs : List X) (k : ℕ) (x : X) → At xs k x → get_elem? (map f xs) k ≡ some (f x)
image_at f [] k x h = absurd (let z = h.0 in omega arith)
image_at f (y ∷ xs) zero x h = ap (λ z. some (f z)) h.1
image_at f (y ∷ xs) (suc k) x h = image_at f xs k x ((let z = h.0 in omega arith), h.1)

-- A tab of a store that fits that is none of the lot leaves the lot as it is.
pub other_left : {C O : Type 0} (tells : Bool) (state : C → CellState) (offers : O → Offers) (s : Store C O) (begins : OneBegins) (stays : Stays tells state offers s) (rename : ℕ → ℕ) (lot : Lot)
    (t : ℕ) (p q : Pass C) (plain : Plain) → t < whole_tab → lot.tabs t ≡ false → LeftTab tells state offers s t p q → OwnsLot (basis tells state offers s) lot (view p).pass
    → ShowsLot tells state offers s rename p plain lot → lot.counter ≡ false → fits (basis tells state offers s) ≡ true → ShowsLot tells state offers s rename q plain lot
other_left {C} tells state offers s begins stays rename lot t p q plain below away left owns shows apart fits_is = by_how left.how
  where
    by_how : LeavesFree tells state offers s t p q ⊎ LeavesReader tells state offers s t p q ⊎ LeavesWriter tells state offers s t p q → ShowsLot tells state offers s rename q plain lot
    by_how (inl free) = subst (λ (x : Pass C). ShowsLot tells state offers s rename x plain lot) (sym free.1) shows
    by_how (inr (inl reads)) = close_left tells state offers s begins stays rename lot p q plain owns shows apart fits_is t below away left.leaves answer.Closed
        record { answer_is = refl; parted = reads.1; free = left.free; stays = left.stays }
    by_how (inr (inr writes)) = drop_left tells state offers s begins stays rename lot p q plain owns shows apart fits_is t below away left.leaves answer.Dropped
        record { answer_is = refl; halts = writes.1; stays = left.stays }

-- A tab that is none of the lot is to leave the lot as it is (`elsewhere`).
module _ {C O : Type 0} (tells : Bool) (state : C → CellState) (offers : O → Offers) (s : Store C O) (begins : OneBegins) (stays : Stays tells state offers s) (rename : ℕ → ℕ) (lot : Lot)
    (elsewhere : (t : ℕ) (p q : Pass C) (plain : Plain) → t < whole_tab → lot.tabs t ≡ false → LeftTab tells state offers s t p q → OwnsLot (basis tells state offers s) lot (view p).pass
    → ShowsLot tells state offers s rename p plain lot → ShowsLot tells state offers s rename q plain lot) where
  abbrev g : Ground (List ℕ)
  g = basis tells state offers s

  -- So far has a pass come that leaves its tabs.
  record LeftSo (q : Pass C) (plain : Plain) : Type 0 where
    pub shows : ShowsLot tells state offers s rename q plain lot
    pub owns : OwnsLot g lot (view q).pass
    pub whole : IsFree q whole_tab

  -- a tab of the lot that is free is free in the plain store
  free_shown : (q : Pass C) (plain : Plain) (t : ℕ) → t < 8 → lot.tabs t ≡ true → ShowsLot tells state offers s rename q plain lot → IsFree q t → tab_at plain t ≡ Free
  free_shown q plain t lt mine shows free = of_tab (tab_at plain t) refl
    where
      shown : {x : Tab} → tab_at plain t ≡ x → ShowsTab tells state offers s rename q plain t x
      shown is = subst (ShowsTab tells state offers s rename q plain t) is (shows.tabs t lt mine)

      of_tab : (x : Tab) → tab_at plain t ≡ x → tab_at plain t ≡ Free
      of_tab Free is = is
      of_tab (Writing a) is = absurd (writes_not_free tells state offers s rename q plain t a (shown is) free)
      of_tab (Reading a given is_other) is = absurd (reads_not_free tells state offers s rename q plain t a given is_other (shown is) free)

  tab_left : (t : ℕ) (p q : Pass C) (plain : Plain) → t < whole_tab → LeftTab tells state offers s t p q → LeftSo p plain → ShowsLot tells state offers s rename q (leave t plain) lot
  tab_left t p q plain below left h = by_lot (lot.tabs t) refl
    where
      by_lot : (b : Bool) → lot.tabs t ≡ b → ShowsLot tells state offers s rename q (leave t plain) lot
      by_lot true mine = leaves_lot tells state offers s begins stays rename lot t p q plain below h.owns mine left h.shows
      by_lot false away = subst (λ (x : Plain). ShowsLot tells state offers s rename q x lot)
          (sym (leave_free t plain (h.shows.away t (let b = below in omega arith) away).0))
          (elsewhere t p q plain below away left h.owns h.shows)

  below : (n : ℕ) (p q : Pass C) (plain : Plain) → n ≤ whole_tab → LeftBelow tells state offers s n p q → LeftSo p plain → LeftSo q (left_below n plain)
  below zero p q plain le left h = subst (λ (z : Pass C). LeftSo z plain) (sym left) h
  below (suc n) p q plain le left h =
      let so = below n p left.0 plain (omega arith) left.1 h in record {
        shows = tab_left n left.0 q (left_below n plain) (omega arith) left.2 so;
        owns = lot_stays g lot (view left.0) (view q) left.2.leaves.keeps.pass so.owns;
        whole = left.2.leaves.others whole_tab (λ e. let z = e in omega arith) (λ e. let z = e in omega arith) ∙ so.whole;
      }

  -- What a pass shows of its lot once it has left all tabs, and that the lot is its own still.
  pub record LotLeft (q : Pass C) (plain : Plain) : Type 0 where
    pub shows : ShowsLot tells state offers s rename q (leave_all (range_with_len 0 8) plain) lot
    pub owns : OwnsLot g lot (view q).pass

  -- the last tab is one of the lot, and was free
  pub lot_left_all : (p q : Pass C) (plain : Plain) → lot.tabs whole_tab ≡ true → LeftBelow tells state offers s whole_tab p q → OwnsLot g lot (view p).pass → ShowsLot tells state offers s rename p plain lot → IsFree p whole_tab
      → LotLeft q plain
  lot_left_all p q plain mine left owns shows whole =
      let so = below whole_tab p q plain (omega arith) left record { shows = shows; owns = owns; whole = whole } in
      let free = free_shown q (left_below whole_tab plain) whole_tab (omega arith) mine so.shows so.whole in
      record {
        shows = subst (λ (x : Plain). ShowsLot tells state offers s rename q x lot) (sym (all_left plain ∙ leave_free whole_tab (left_below whole_tab plain) free)) so.shows;
        owns = so.owns;
      }

-- What it shows of its lot then stands in the store that was closed.
module _ {C O : Type 0} (tells : Bool) (state : C → CellState) (offers : O → Offers) (slot anchors passes : ℕ) (origin : O) (cells : List C) (s : Store C O) (ps : Vec (Pass C))
    (over : IsStoreOver tells state offers slot anchors passes origin cells s ps) (told : IsTrue tells) (as_wide : (c : C) → IsTrue tells → length (state c).now ≡ (state c).width)
    (slots : AreSlots slot (map state cells)) (one : OneKept) (placed : PlacedPieces) (rename : ℕ → ℕ) (lot : Lot) (w : ℕ) (p : Pass C) (plain : Plain) (views : List (View (List ℕ))) (left : List C)
    (closed : Closed tells state (basis tells state offers s) views left) (there : get_elem? views w ≡ some (view p)) (owns : OwnsLot (basis tells state offers s) lot (view p).pass)
    (shows : ShowsLot tells state offers s rename p plain lot) where
  abbrev ground : Ground (List ℕ)
  ground = basis tells state offers s

  pub entries_there : HoldsWholeAt ground.slot ground.setting.anchors (map (λ c. (state c).now) left) lot.anchors rename plain
  entries_there = let gathered = closed.gathered in
      holds_lot ground rename lot gathered.state (gathered.index w) (view p) owns gathered.rule (gathered.at w (view p) there) (pass_of p)
      (tells_pieces tells state offers slot anchors passes origin cells s ps over told)
      (has_versions tells state offers slot anchors passes origin cells s ps over told as_wide slots one)
      (map (λ c. (state c).now) left)
      (home_as tells state told ground gathered.state left closed.many closed.home)
      (as_many tells state offers slot anchors passes origin cells s ps over told)
      (let z = slots.size.to in let e = over.slot_is in omega arith)
      (let z = slots.few in let e = over.slots_are in let n = length-map cells state in omega arith)
      placed plain shows.knows shows.eight

  pub words_there : EndedAs (setting_of ground) lot.anchors rename plain (word closed.gathered.state)
  words_there a lt ours = lot_word tells state offers s rename lot w p plain views left closed a owns there shows lt ours
