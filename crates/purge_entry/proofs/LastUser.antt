-- The inner tab was the last user of an entry that it doomed: its first slot is wiped, and then the chain is given back. Or it was not.
use Rattle.std.proofs.Common.{Bool, Contains, List, ap, arith, inl, set, subst, sym, true, ◌≡◌, ◌⊎◌, ◌∙◌, ℕ}
use Rattle.std.proofs.lemmas.List.Elements.{Contains-append_right}
use Rattle.lock_word.specs.Words.{doomed, epoch_number, epoch_of}
use Rattle.lock_word.specs.declared.epoch.Epoch.{Epoch}
use Rattle.rock_disk.specs.Cell.{CellState}
use Rattle.store_key.specs.Key.{key_of}
use Rattle.core_model.specs.Tabs.{anchor_of, inner, tab_at, with_tab}
use Rattle.core_model.specs.declared.moves.Move.TheVariants.{Doom, Leave}
use Rattle.core_model.specs.declared.tab.Tab.{Tab}
use Rattle.core_model.specs.declared.tab.Tab.TheVariants.{Freeing}
use Rattle.core_model.specs.declared.view.Sight.{Sight}
use Rattle.core_model.specs.declared.view.Sight.TheVariants.{Wiped as WipedSight}
use Rattle.core_model.specs.declared.view.View.{View}
use Rattle.store_rule.specs.declared.store.Pass.{Pass}
use Rattle.store_rule.specs.declared.store.Store.{Store}
use Rattle.store_rule.specs.Ground.{Ground, Offers, anchor_for}
use Rattle.store_rule.specs.Passes.{IsOf, Made, May, basis, view}
use Rattle.store_rule.specs.Told.{Steps}
use Rattle.rw_anchor.specs.Calls.{Leaves}
use Rattle.rw_anchor.specs.declared.Left.{Left}
use Rattle.slice_chain.specs.Names.{KeyLoaded}
use Rattle.slice_chain.specs.Wiping.{MayWipeFirst}
use Rattle.slice_chain.proofs.Writing.{set_again}
use Rattle.rock_reader.specs.Closing.{MayPart}
use Rattle.rock_reader.specs.Opening.{CameTo, opened}
use Rattle.rock_reader.proofs.Coming.{fresh_on, step_sees}
use Rattle.purge_entry.specs.Purging.{MayPurge}
use Rattle.purge_entry.specs.Wiping.{LeftInUse, LeftToOthers, WasOvertaken, WipedAndFreed, WipedAsLast, WipedEntry}
use Rattle.purge_entry.proofs.Answering.{purged, purged_after, reads}
use Rattle.purge_entry.proofs.Doomed.{TakesAll, dooms, freer_there, left_fresh, takes_all, version_is, why}
use Rattle.purge_entry.proofs.Growing.{Grows, fresh_grows, grows_freed, grows_key, grows_leaves, grows_on, grows_step, grows_wiped}

-- the version of the entry that a tab frees
abbrev version_in : {X : Type 0} → Tab X → ℕ
version_in (Freeing f) = f.version
version_in x = 0

module _ {X : Type 0} (v w : View X) where
  grows_sees : (x : Sight) → Grows v w → Contains v.seen x → Contains w.seen x
  grows_sees x h c = subst (λ (xs : List Sight). Contains xs x) (sym h.1) (Contains-append_right h.0 v.seen x c)

-- a tab that is counted may leave its anchor
pub may_leave : {C O : Type 0} → (tells : Bool) (state : C → CellState) (offers : O → Offers) (s : Store C O) (p : Pass C) (t : ℕ) → MayPart tells state offers s p t → May tells state offers s p (Leave t)
may_leave tells state offers s p t may = record { own = may.own; can = record { allowed = (let b = may.below in omega arith, may.counted, may.idle); asks = tt } }

-- An entry was doomed, and left by its last user, who wiped it and gave it back.
module _ {X : Type 0} (g : Ground X) (anchor : ℕ) (wanted : List ℕ) (e : Epoch) (v keyed : View X) (reads : tab_at keyed inner ≡ Tab.Reading (opened anchor e.version)) (word : ℕ) (after : View X)
    (doom : Steps g keyed (Doom inner) word after) (left : Epoch) (left_is : epoch_number left ≡ epoch_of (doomed word)) (last : View X) (leaves : Leaves g after inner Left.MustFree last)
    (done : Bool) (w : View X) (ends : WipedAndFreed g done last w) where
  abbrev takes : TakesAll g anchor e keyed reads word after doom last
  takes = takes_all g anchor e keyed reads word after doom last leaves

  same_tab : ◌≡◌ {A = Tab X} (Freeing ends.wiped.wiped.freer) (Freeing takes.freer)
  same_tab = sym ends.wiped.was ∙ freer_there g anchor e keyed reads word after doom last takes

  anchor_same : ends.wiped.wiped.freer.anchor ≡ anchor
  anchor_same = ap (λ (x : Tab X). anchor_of x) same_tab ∙ takes.anchor_is

  version_same : ends.wiped.wiped.freer.version ≡ e.version
  version_same = ap (λ (x : Tab X). version_in x) same_tab ∙ takes.version_is

  -- what the pass has seen at the end of the wiping it has seen afterwards
  marked : done ≡ true → Contains w.seen (WipedSight anchor e.version ends.wiped.slot)
  marked d = subst (λ (n : ℕ). Contains w.seen (WipedSight n e.version ends.wiped.slot)) anchor_same
      (subst (λ (n : ℕ). Contains w.seen (WipedSight ends.wiped.wiped.freer.anchor n ends.wiped.slot)) version_same
      (grows_sees ends.blanked w _ (grows_freed g ends.blanked w ends.freed) (ends.wiped.wiped.seen d)))

  grows_ends : Grows last w
  grows_ends = grows_on last ends.blanked w (grows_wiped g last ends.blanked done ends.wiped) (grows_freed g ends.blanked w ends.freed)

  pub grows_after : Grows after w
  grows_after = grows_on after last w (grows_leaves g after last inner Left.MustFree leaves) grows_ends

  pub wiped_entry : KeyLoaded g inner v wanted keyed → WipedEntry g inner anchor wanted e done v left w
  wiped_entry key = record {
    keyed = keyed;
    key = key;
    reads = reads;
    word = word;
    after = after;
    doom = doom;
    left_is = left_is;
    last = last;
    leaves = leaves;
    ends = ends;
    anchor_is = anchor_same;
    version_is = version_same;
    seen = marked;
  }

module _ {C O : Type 0} (tells : Bool) (state : C → CellState) (offers : O → Offers) (s : Store C O) (p : Pass C) (url : List ℕ) (may : MayPurge tells state offers s p url) where
  abbrev g : Ground (List ℕ)
  g = basis tells state offers s

  module _ (e : Epoch) (q : Pass C) (own : IsOf tells state offers s q) (came : CameTo g inner url (view p) e (view q)) (u : Pass C) (told : ℕ) (made : Made tells state offers s q (Doom inner) told u) (m : Pass C) where
    abbrev a : ℕ
    a = anchor_for g url

    there : tab_at (view q) inner ≡ Tab.Reading (opened a e.version)
    there = reads tells state offers s p url may e q own came

    module _ (leaves : Leaves g (view u) inner Left.MustFree (view m)) where
      abbrev all : TakesAll g a e (view q) there made.found (view u) made.step (view m)
      all = takes_all g a e (view q) there made.found (view u) made.step (view m) leaves

      pub may_wipe : IsOf tells state offers s m → MayWipeFirst tells state offers s m
      may_wipe own2 = record {
        chain = record {
          own = own2;
          freer = all.freer;
          is = freer_there g a e (view q) there made.found (view u) made.step (view m) all;
          whole = all.whole;
          none = all.none;
          unheld = all.unheld;
        };
        freeing = all.freeing;
        doomed = all.doomed;
      }

      module _ (done : Bool) (w : View (List ℕ)) (ends : WipedAndFreed g done (view m) w) where
        pub free_last : w.tabs ≡ with_tab (view u) inner Tab.Free
        free_last = ends.tabs ∙ ap (λ (xs : List (Tab (List ℕ))). set xs inner Tab.Free) all.tabs
            ∙ set_again (with_tab (view u) inner Tab.Free) inner (Freeing all.freer) Tab.Free ∙ set_again (view u).tabs inner Tab.Free Tab.Free

        module _ (left : Epoch) (is : epoch_number left ≡ epoch_of told) where
          left_is : epoch_number left ≡ epoch_of (doomed made.found)
          left_is = is ∙ ap epoch_of made.answers

          abbrev since : Grows (view u) w
          since = grows_after g a (key_of url) e came.entered (view q) there made.found (view u) made.step left left_is (view m) leaves done w ends

          pub as_last : WipedAsLast g inner url done (view p) left w
          as_last = record {
            epoch = e;
            entered = came.entered;
            came = record {
              found = came.came.found;
              enter = came.came.enter;
              epoch_is = came.came.epoch_is;
              fresh = fresh_on a (epoch_number e) (view p) (view q) w came.came.fresh (λ x c. grows_sees (view u) w x since (step_sees g (view q) (view u) _ _ x made.step c));
            };
            readable = came.readable;
            entry = wiped_entry g a (key_of url) e came.entered (view q) there made.found (view u) made.step left left_is (view m) leaves done w ends came.key;
            dooms = dooms g a e (view q) there made.found (view u) made.step left left_is;
            version_is = version_is g a e (view q) there made.found (view u) made.step left left_is;
            fresh = fresh_grows a (epoch_number left) (view p) (view q) (view u) w
                (grows_on (view p) came.entered (view q) (grows_step g (view p) came.entered _ _ came.came.enter) (grows_key g came.entered (view q) inner (key_of url) came.key))
                (left_fresh g a e (view q) there made.found (view u) made.step left left_is) since;
          }

    module _ (leaves : Leaves g (view u) inner Left.Done (view m)) (left : Epoch) (is : epoch_number left ≡ epoch_of told) where
      pub to_others : LeftToOthers g inner url (view p) left (view m)
      to_others = record {
        purged = purged tells state offers s p url may e q own came u told made left is (view m) (inl record { leaves = leaves });
        why = subst (λ (z : View (List ℕ)). LeftInUse g inner z (view m) ⊎ WasOvertaken g inner z (view m))
            (sym (purged_after tells state offers s p url may e q own came u told made left is (view m) (inl record { leaves = leaves })))
            (why g a e (view q) there made.found (view u) made.step (view m) leaves);
      }
