-- A worker leaves its tabs as the plain store leaves its own.
use Rattle.std.proofs.Common.{Bool, arith, refl, subst, suc, sym, zero, ◌∙◌, ◌≡◌, ◌≤◌, ℕ}
use Rattle.std.specs.List.{range_with_len}
use Rattle.rock_disk.specs.Cell.{CellState}
use Rattle.plain_model.specs.declared.store.Plain.{Plain}
use Rattle.plain_model.specs.declared.store.Tab.TheVariants.{Free}
use Rattle.plain_model.specs.Serving.{leave, leave_all}
use Rattle.plain_model.specs.Store.{tab_at}
use Rattle.store_rule.specs.declared.store.Pass.{Pass}
use Rattle.store_rule.specs.declared.store.Store.{Store}
use Rattle.store_rule.specs.Ground.{Offers}
use Rattle.store_serve.specs.Tabs.{IsFree}
use Rattle.store_serve.specs.Whole.{whole_tab}
use Rattle.worker_shelf.specs.Shelves.{LeftBelow}
use Rattle.plain_runs.specs.Runs.{ShowsPlain}
use Rattle.plain_runs.proofs.Courses.{plain_free}
use Rattle.plain_runs.proofs.Lines.{LinesRight}

-- the first tabs are left, so many of them
abbrev pub left_below : ℕ → Plain → Plain
left_below zero p = p
left_below (suc t) p = leave t (left_below t p)

-- all eight
pub all_left : (p : Plain) → leave_all (range_with_len 0 8) p ≡ left_below 8 p
all_left p = refl

-- a tab that is free stays so
pub leave_free : (t : ℕ) (p : Plain) → tab_at p t ≡ Free → leave t p ≡ p
leave_free t p free = rw free refl

module _ {C O : Type 0} (tells : Bool) (state : C → CellState) (offers : O → Offers) (s : Store C O) (lines : LinesRight tells state offers s) where
  pub record LeftSo (q : Pass C) (plain : Plain) : Type 0 where
    pub shows : ShowsPlain tells state offers s q plain
    pub whole : IsFree q whole_tab

  below : (n : ℕ) (p q : Pass C) (plain : Plain) → n ≤ whole_tab → LeftBelow tells state offers s n p q → LeftSo p plain → LeftSo q (left_below n plain)
  below zero p q plain le left h = subst (λ (z : Pass C). LeftSo z plain) (sym left) h
  below (suc n) p q plain le left h =
      let so = below n p left.0 plain (omega arith) left.1 h in record {
        shows = lines.leaves n left.0 q (left_below n plain) (omega arith) left.2 so.shows;
        whole = left.2.leaves.others whole_tab (λ e. let z = e in omega arith) (λ e. let z = e in omega arith) ∙ so.whole;
      }

  -- the last tab was free
  pub leaves_all : (p q : Pass C) (plain : Plain) → LeftBelow tells state offers s whole_tab p q → ShowsPlain tells state offers s p plain → IsFree p whole_tab
      → ShowsPlain tells state offers s q (leave_all (range_with_len 0 8) plain)
  leaves_all p q plain left shows whole =
      let so = below whole_tab p q plain (omega arith) left record { shows = shows; whole = whole } in
      let free = plain_free tells state offers s q (left_below whole_tab plain) whole_tab (omega arith) so.shows so.whole in
      subst (ShowsPlain tells state offers s q) (sym (all_left plain ∙ leave_free whole_tab (left_below whole_tab plain) free)) so.shows
