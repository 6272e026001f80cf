-- A tab of a lot that is left at the end of a script is left as by the plain store.
use Rattle.std.proofs.Common.{Bool, List, arith, inl, inr, refl, subst, sym, true, ◌<◌, ◌∙◌, ◌≡◌, ◌⊎◌, ℕ}
use Rattle.rock_disk.specs.Cell.{CellState}
use Rattle.script_text.specs.declared.answer.Answer.{Answer}
use Rattle.script_text.specs.declared.answer.Answer.TheVariants as answer
use Rattle.plain_model.specs.declared.store.Plain.{Plain}
use Rattle.plain_model.specs.declared.store.Tab.{Tab}
use Rattle.plain_model.specs.declared.store.Tab.TheVariants.{Free, Reading, Writing}
use Rattle.plain_model.specs.Reading.{close}
use Rattle.plain_model.specs.Serving.{leave, serve}
use Rattle.plain_model.specs.Store.{tab_at, with_tab}
use Rattle.plain_model.specs.declared.entry.Life.TheVariants.{GivenUp}
use Rattle.plain_model.specs.Writing.{close_writer, give_up, settle}
use Rattle.store_rule.specs.declared.store.Pass.{Pass}
use Rattle.store_rule.specs.declared.store.Store.{Store}
use Rattle.store_rule.specs.Ground.{Offers}
use Rattle.store_rule.specs.Passes.{basis, view}
use Rattle.rock_reader.specs.Closing.{Parted}
use Rattle.rock_writer.specs.Halting.{Halts}
use Rattle.store_serve.specs.Whole.{whole_tab}
use Rattle.worker_shelf.proofs.Holding.{Stays}
use Rattle.worker_shelf.specs.Shelves.{LeavesFree, LeavesReader, LeavesWriter, LeftTab}
use Rattle.plain_runs.proofs.ShownTabs.{free_not_reading, free_not_writing, reads_not_free, reads_not_writing, writes_not_free, writes_not_reading}
use Rattle.plain_runs.proofs.OtherTabs.{IsOwn, close_else, give_up_keeps}
use Rattle.plain_runs.proofs.ShowingOthers.{OneBegins, shows_after}
use Rattle.plain_runs.specs.Shows.{ShowsLot, ShowsTab}
use Rattle.plain_runs.specs.Words.{Lot, setting_of}
use Rattle.plain_runs.proofs.Giving.{drops_right}
use Rattle.plain_runs.proofs.Opening.{closes_right}
use Rattle.plain_runs.proofs.OwnAnchors.{OwnsLot}

-- A tab of a lot that is left is left as by the plain store.
module _ {C O : Type 0} (tells : Bool) (state : C → CellState) (offers : O → Offers) (s : Store C O) (begins : OneBegins) (stays : Stays tells state offers s) (rename : ℕ → ℕ) (lot : Lot) (t : ℕ) (p q : Pass C) (plain : Plain) (below : t < whole_tab)
    (owns : OwnsLot (basis tells state offers s) lot (view p).pass) (mine : lot.tabs t ≡ true) (left : LeftTab tells state offers s t p q) (h : ShowsLot tells state offers s rename p plain lot) where
  eighth : t < 8
  eighth = omega (arith, below)

  closed : (anchor given : ℕ) (is_other : Bool) → tab_at plain t ≡ Reading anchor given is_other → Parted (basis tells state offers s) t (view p) (view q) → ShowsLot tells state offers s rename q (leave t plain) lot
  closed anchor given is_other is parted = subst (λ (x : Plain). ShowsLot tells state offers s rename q x lot) (sym leaves_so)
      (shows_after tells state offers s rename begins stays lot p q plain (close t plain).after t owns h left.leaves (close_else t (IsOwn t plain) (setting_of (basis tells state offers s)) plain)
      (closes_right tells state offers s rename lot t anchor given is_other p q answer.Closed plain eighth owns h mine is left.stays record { answer_is = refl; parted = parted; free = left.free; stays = left.stays }).shows eighth mine)
    where
      closes_so : (close t plain).after ≡ settle anchor (with_tab plain t Free)
      closes_so = rw is refl

      leave_so : leave t plain ≡ settle anchor (with_tab plain t Free)
      leave_so = rw is closes_so

      leaves_so : leave t plain ≡ (close t plain).after
      leaves_so = leave_so ∙ sym closes_so

  dropped : (anchor : ℕ) → tab_at plain t ≡ Writing anchor → Halts (basis tells state offers s) t (view p) (view q) → ShowsLot tells state offers s rename q (leave t plain) lot
  dropped anchor is halts = subst (λ (x : Plain). ShowsLot tells state offers s rename q x lot) (sym leaves_so)
      (shows_after tells state offers s rename begins stays lot p q plain (give_up t plain).after t owns h left.leaves (give_up_keeps t (setting_of (basis tells state offers s)) plain)
      (drops_right tells state offers s lot rename t eighth p q plain answer.Dropped owns h mine anchor is left.stays record { answer_is = refl; halts = halts; stays = left.stays }).shows eighth mine)
    where
      gives_up_so : (give_up t plain).after ≡ close_writer GivenUp t anchor plain
      gives_up_so = rw is refl

      leave_so : leave t plain ≡ close_writer GivenUp t anchor plain
      leave_so = rw is gives_up_so

      leaves_so : leave t plain ≡ (give_up t plain).after
      leaves_so = leave_so ∙ sym gives_up_so

  stayed : tab_at plain t ≡ Free → q ≡ p → ShowsLot tells state offers s rename q (leave t plain) lot
  stayed is same = subst (λ (x : Plain). ShowsLot tells state offers s rename q x lot) (sym leaves_so) (subst (λ (x : Pass C). ShowsLot tells state offers s rename x plain lot) (sym same) h)
    where
      leaves_so : leave t plain ≡ plain
      leaves_so = rw is refl

  pub leaves_lot : ShowsLot tells state offers s rename q (leave t plain) lot
  leaves_lot = of_tab (tab_at plain t) refl left.how
    where
      shown : {x : Tab} → tab_at plain t ≡ x → ShowsTab tells state offers s rename p plain t x
      shown is = subst (ShowsTab tells state offers s rename p plain t) is (h.tabs t eighth mine)

      of_tab : (x : Tab) → tab_at plain t ≡ x → LeavesFree tells state offers s t p q ⊎ LeavesReader tells state offers s t p q ⊎ LeavesWriter tells state offers s t p q → ShowsLot tells state offers s rename q (leave t plain) lot
      of_tab Free is (inl free) = stayed is free.1
      of_tab Free is (inr (inl reads)) = absurd (free_not_reading tells state offers s rename p plain t (shown is) reads.0)
      of_tab Free is (inr (inr writes)) = absurd (free_not_writing tells state offers s rename p plain t (shown is) writes.0)
      of_tab (Writing anchor) is (inl free) = absurd (writes_not_free tells state offers s rename p plain t anchor (shown is) free.0)
      of_tab (Writing anchor) is (inr (inl reads)) = absurd (writes_not_reading tells state offers s rename p plain t anchor (shown is) reads.0)
      of_tab (Writing anchor) is (inr (inr writes)) = dropped anchor is writes.1
      of_tab (Reading anchor given is_other) is (inl free) = absurd (reads_not_free tells state offers s rename p plain t anchor given is_other (shown is) free.0)
      of_tab (Reading anchor given is_other) is (inr (inl reads)) = closed anchor given is_other is reads.1
      of_tab (Reading anchor given is_other) is (inr (inr writes)) = absurd (reads_not_writing tells state offers s rename p plain t anchor given is_other (shown is) writes.0)
