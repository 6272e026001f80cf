-- A worker that leaves all its tabs: what that adds to its account.
use Rattle.std.proofs.Common.{Bool, Contains, List, None, Option, Some, ⊎_elim, ap, arith, false, inl, inr, subst, suc, sym, zero, ◌<◌, ◌∙◌, ◌≡◌, ◌≤◌, ◌⊎◌, ℕ}
use Rattle.std.specs.Prelude.{◌≢◌}
use Rattle.std.proofs.Math.Decide.{dec_le}
use mathlib.Core.Logic.{dite}
use native.Mathlib.Decide.{ℕ_discrete}
use Rattle.lock_word.specs.Words.{stage_of, version_of}
use Rattle.rock_disk.specs.Cell.{CellState}
use Rattle.core_model.specs.Layout.{Setting}
use Rattle.core_model.specs.Tabs.{inner, tab_at}
use Rattle.core_model.specs.declared.view.Sight.TheVariants.{Stood}
use Rattle.core_model.specs.declared.view.Deed.{Deed}
use Rattle.core_model.specs.declared.view.Kind.TheVariants.{Changed, Doomed, Entered, Raised}
use Rattle.line_account.specs.Courses.{Leaves as LeavesAccount}
use Rattle.line_account.specs.Deeds.{IsDeedOfEnd, IsWriting as WritesSome}
use Rattle.line_account.specs.Accounts.{HasHalted}
use Rattle.script_text.specs.Requests.{url_in}
use Rattle.line_account.specs.Lines.{IsWritingOf, Served, writing}
use Rattle.store_rule.specs.declared.store.Pass.{Pass}
use Rattle.store_rule.specs.declared.store.Store.{Store}
use Rattle.store_rule.specs.Ground.{Offers, anchor_for}
use Rattle.store_rule.specs.Passes.{basis, view}
use Rattle.store_serve.specs.Acting.{Acted}
use Rattle.store_serve.specs.Deeds.{OfHalting, OfLeaving, name_of}
use Rattle.store_serve.proofs.AddingUp.{on, same, wider}
use Rattle.store_serve.proofs.Grown.{knows_all}
use Rattle.store_serve.proofs.ReaderDeeds.{parted}
use Rattle.store_serve.proofs.WriterDeeds.{entry_of, halts}
use Rattle.store_serve.specs.Whole.{whole_tab}
use Rattle.worker_shelf.specs.Shelves.{LeavesFree, LeavesReader, LeavesWriter, LeftBelow}
use Rattle.crew_accounts.specs.Runs.{Past, run_of}
use Rattle.crew_accounts.specs.Tracks.{IsTracked, Tracks}
use Rattle.crew_accounts.proofs.Fitting.{free_writes, writer_of, writes_reads}
use Rattle.crew_accounts.proofs.Halting.{halts_seen}
use Rattle.crew_accounts.proofs.Tracking.{pass_on}

same_first : (s t : Served) → Some s ≡ Some t → s ≡ t
same_first s t e = cc

same_number : (m n : ℕ) → Some m ≡ Some n → m ≡ n
same_number m n e = cc

same_url : (u v : List ℕ) → Some u ≡ Some v → u ≡ v
same_url u v e = cc

-- Deeds of the end.

module _ {X : Type 0} (k : Setting X) (served : List Served) (d : Deed) where
  changed_at_end : d.kind ≡ Changed → stage_of d.epoch ≡ 5 → d.was_idle ≡ false → IsDeedOfEnd k d served
  changed_at_end e five busy = record {
    entered = λ z. absurd (let y : Changed ≡ Entered = sym e ∙ z in cc);
    changed = λ z. (five, busy);
    raised = λ z. absurd (let y : Changed ≡ Raised = sym e ∙ z in cc);
    halted = λ z st. absurd (let y : Changed ≡ Raised = sym e ∙ z in cc);
    doomed = λ z. absurd (let y : Changed ≡ Doomed = sym e ∙ z in cc);
  }

  raised_at_end : d.kind ≡ Raised → (stage_of d.epoch ≡ 4) ⊎ (stage_of d.epoch ≡ 6) → (stage_of d.epoch ≡ 4 → WritesSome k.anchors served d.anchor (version_of d.epoch)) → IsDeedOfEnd k d served
  raised_at_end e stage so = record {
    entered = λ z. absurd (let y : Raised ≡ Entered = sym e ∙ z in cc);
    changed = λ z. absurd (let y : Raised ≡ Changed = sym e ∙ z in cc);
    raised = λ z. stage;
    halted = λ z st. so st;
    doomed = λ z. absurd (let y : Raised ≡ Doomed = sym e ∙ z in cc);
  }

  leaving_at_end : OfLeaving d → IsDeedOfEnd k d served
  leaving_at_end (inl h) = changed_at_end h.kind h.stage h.was_idle
  leaving_at_end (inr h) = raised_at_end h.kind (inr h.stage) (λ st. absurd (let y = h.stage in omega arith))

  halting_at_end : (a version : ℕ) → WritesSome k.anchors served a version → OfHalting a version d → IsDeedOfEnd k d served
  halting_at_end a version some (inl h) = raised_at_end h.kind (inl h.stage_is) (λ st. subst (λ b. WritesSome k.anchors served b (version_of d.epoch)) (sym h.anchor) (subst (WritesSome k.anchors served a) (sym h.version_is) some))
  halting_at_end a version some (inr h) = leaving_at_end h

module _ {C O : Type 0} (tells : Bool) (state : C → CellState) (offers : O → Offers) (s : Store C O) (told : Bool) (past : Past) (served : List Served) where
  abbrev k : Setting (List ℕ)
  k = (basis tells state offers s).setting

  -- the tabs from this one on are as the lines say, and those below it were left
  record LeftSoFar (t : ℕ) (p q : Pass C) : Type 0 where
    acted : Acted None (λ d. IsDeedOfEnd (basis tells state offers s).setting d served) (view p) (view q)
    halts : (a x j : ℕ) → j < t → IsWritingOf (basis tells state offers s).setting.anchors (writing j served) a x → HasHalted (view q) a x
    rest : (j : ℕ) → t ≤ j → j < whole_tab → IsTracked tells state offers s told past served q j

  one_left : (t : ℕ) (p q : Pass C) → IsTracked tells state offers s told past served p t → LeavesFree tells state offers s t p q ⊎ LeavesReader tells state offers s t p q ⊎ LeavesWriter tells state offers s t p q
      → Acted None (λ d. IsDeedOfEnd (basis tells state offers s).setting d served) (view p) (view q)
  one_left t p q tracked (inl h) = same (ap view h.1)
  one_left t p q tracked (inr (inl h)) = wider (λ d z. leaving_at_end k served d z) (parted (basis tells state offers s) t (view p) (view q) h.1)
  one_left t p q tracked (inr (inr h)) =
      let w = writer_of tells state offers s told past served p t tracked h.0 in
      let some : WritesSome k.anchors served w.entry.anchor w.entry.version = record { tab = t; writes = record { first = w.first; begun_is = w.writes; drew = w.drew; anchor = record { url = w.url; named_is = w.named; anchor = w.anchor } } } in
      wider (λ d z. halting_at_end k served d w.entry.anchor w.entry.version some z)
      (halts (basis tells state offers s) t (name_of (basis tells state offers s) w.entry) (entry_of tells state offers s t w.entry w.is) h.1)

  no_first : {X : Type 0} (w : Option X) (x : X) → w ≡ None → w ≡ Some x → ⊥
  no_first w x none some = let z : None ≡ Some x = sym none ∙ some in cc

  -- the version that a tab wrote was halted
  one_halted : (t : ℕ) (p q : Pass C) → LeavesFree tells state offers s t p q ⊎ LeavesReader tells state offers s t p q ⊎ LeavesWriter tells state offers s t p q → IsTracked tells state offers s told past served p t
      → (a x : ℕ) → IsWritingOf k.anchors (writing t served) a x → HasHalted (view q) a x
  one_halted t p q how (inl h) a x w = absurd (no_first (writing t served) w.first h.writes w.begun_is)
  one_halted t p q how (inr (inr h)) a x w = absurd (no_first (writing t served) w.first h.writes w.begun_is)
  one_halted t p q (inl free) (inr (inl h)) a x w = absurd (free_writes (tab_at (view p) t) _ free.0 h.is.rests.is)
  one_halted t p q (inr (inl reads)) (inr (inl h)) a x w = absurd (writes_reads (tab_at (view p) t) _ reads.0.1.reader h.is.rests.is reads.0.1.is)
  one_halted t p q (inr (inr halts)) (inr (inl h)) a x w =
      let seen = halts_seen (basis tells state offers s) t (name_of (basis tells state offers s) h.entry) (view p) (view q) (entry_of tells state offers s t h.entry h.is) halts.1 in
      let first : w.first ≡ h.first = same_first w.first h.first (sym w.begun_is ∙ h.writes) in
      let version : x ≡ h.entry.version = same_number x h.entry.version (sym w.drew ∙ ap Served.drew first ∙ h.drew) in
      let url : w.anchor.url ≡ h.url = same_url w.anchor.url h.url (sym w.anchor.named_is ∙ ap (λ (z : Served). url_in z.asked.request) first ∙ h.named) in
      let at : a ≡ h.entry.anchor = w.anchor.anchor ∙ ap (λ (u : List ℕ). anchor_for (basis tells state offers s) u) url ∙ sym h.anchor in
      record { epoch = seen.epoch; version_is = seen.version_is ∙ sym version; halted = seen.halted; seen = subst (λ (b : ℕ). Contains (view q).seen (Stood b seen.epoch)) (sym at) seen.seen }

  far : (j : ℕ) → j < whole_tab → j ≢ inner
  far j lt e = absurd (omega arith)

  below_or_not : (t : ℕ) → (t < whole_tab) ⊎ (whole_tab ≤ t)
  below_or_not t = dite (dec_le whole_tab t) (λ le. inr le) (λ n. inl (omega arith))

  left_below : (t : ℕ) (p q : Pass C) → t ≤ whole_tab → Tracks tells state offers s told past served p → LeftBelow tells state offers s t p q → LeftSoFar t p q
  left_below zero p q le tracks h = record {
    acted = same (ap view h);
    halts = λ a x j lt. absurd (omega arith);
    rest = λ j from lt. subst (λ (z : Pass C). IsTracked tells state offers s told past served z j) (sym h) (tracks.each j lt);
  }
  left_below (suc t) p q le tracks h =
      let so = left_below t p h.0 (omega arith) tracks h.1 in
      record {
        acted = on so.acted (one_left t h.0 q (so.rest t (omega arith) (omega arith)) h.2.how);
        halts = λ a x j lt w. dite (ℕ_discrete j t)
            (λ (is : j ≡ t). one_halted t h.0 q h.2.how (so.rest t (omega arith) (omega arith)) a x (subst (λ (n : ℕ). IsWritingOf k.anchors (writing n served) a x) is w))
            (λ (ne : j ≢ t). let seen = so.halts a x j (omega arith) w in record { epoch = seen.epoch; version_is = seen.version_is; halted = seen.halted; seen = h.2.leaves.keeps.seen _ seen.seen });
        rest = λ j from lt. let ne : j ≢ t = λ e. absurd (omega arith) in pass_on tells state offers s told past served h.0 q t j h.2.leaves ne (far j lt) (so.rest j (omega arith) lt);
      }

  pub all_left : (p q : Pass C) → Tracks tells state offers s told past served p → LeftBelow tells state offers s whole_tab p q → LeavesAccount (run_of (basis tells state offers s) told past) (view p) served (view q)
  all_left p q tracks h = let so = left_below whole_tab p q (omega arith) tracks h in record {
    keeps = knows_all so.acted.keeps;
    drawn = λ x. so.acted.drawn x ∙ (omega arith);
    draws = so.acted.draws ∙ (omega arith);
    deeds = so.acted.deeds;
    halts = λ a x w. ⊎_elim
        (λ (lt : w.tab < whole_tab). so.halts a x w.tab lt w.writes)
        (λ (le : whole_tab ≤ w.tab). absurd (no_first (writing w.tab served) w.writes.first (tracks.beyond w.tab le) w.writes.begun_is))
        (below_or_not w.tab);
  }
