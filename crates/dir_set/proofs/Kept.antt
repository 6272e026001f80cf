-- A purge leaves a pass its number, so that it may begin afterwards what it might before.
use Rattle.std.proofs.Common.{Bool, List, None, Option, Some, ap, arith, get_or, inl, inr, length, refl, sym, ◌<◌, ◌≡◌, ◌≤◌, ◌⊎◌, ◌∙◌, ℕ}
use Rattle.std.proofs.lemmas.Bool.{cases_lt}
use Rattle.std.proofs.lemmas.Option.{slice_get_within}
use Rattle.core_model.specs.Tabs.{inner, is_free}
use Rattle.core_model.specs.declared.moves.Move.{Move}
use Rattle.core_model.specs.declared.tab.Tab.{Tab}
use Rattle.core_model.specs.declared.view.View.{View}
use Rattle.lock_word.specs.declared.cause.Cause.{Cause}
use Rattle.lock_word.specs.declared.epoch.Epoch.{Epoch}
use Rattle.rock_disk.specs.Cell.{CellState}
use Rattle.store_rule.specs.declared.store.Pass.{Pass}
use Rattle.store_rule.specs.declared.store.Store.{Store}
use Rattle.store_rule.specs.Ground.{Ground, Offers}
use Rattle.store_rule.specs.Passes.{basis, view}
use Rattle.store_rule.specs.Told.{Steps}
use Rattle.rw_anchor.specs.Calls.{Leaves}
use Rattle.rw_anchor.specs.declared.Left.{Left}
use Rattle.slice_chain.specs.Names.{KeyLoaded}
use Rattle.rock_reader.specs.Closing.{Parted}
use Rattle.rock_reader.specs.Opening.{Refused}
use Rattle.purge_entry.specs.Purging.{MayPurge, Purged}
use Rattle.dir_set.specs.Answers.{PurgeSays, PurgesIfThere, RefusedBy}
use Rattle.dir_set.specs.declared.dirs.DirPass.{DirPass}
use Rattle.dir_set.specs.declared.dirs.Dirs.{Dirs}
use Rattle.dir_set.specs.Beginning.{MayBeginIn, PurgesFirst}
use Rattle.dir_set.specs.Dirs.{AtDir, AtPass, NoneBehind, answer_at, dir_count}
use Rattle.dir_set.proofs.OneFile.{there_is}

module _ {X : Type 0} (g : Ground X) where
  same_step : (v w : View X) (m : Move) (n : ℕ) → Steps g v m n w → w.pass ≡ v.pass
  same_step v w m n st = ap View.pass st.leaves

  same_key : (v w : View X) (t : ℕ) (key : List ℕ) → KeyLoaded g t v key w → w.pass ≡ v.pass
  same_key v w t key h = same_step h.middle w _ _ h.back ∙ same_step v h.middle _ _ h.front

  same_leaves : (v w : View X) (t : ℕ) (left : Left) → Leaves g v t left w → w.pass ≡ v.pass
  same_leaves v w t left (inl h) = same_step v w _ _ h.1.evict
  same_leaves v w t left (inr (off, inl h)) = same_step v w _ _ h.leave
  same_leaves v w t left (inr (off, inr h)) = same_step h.middle w _ _ h.gives_up.evict ∙ same_step v h.middle _ _ h.leave

  same_parted : (v w : View X) (t : ℕ) → Parted g t v w → w.pass ≡ v.pass
  same_parted v w t (inl h) = same_leaves v w t Left.Done h.leaves
  same_parted v w t (inr h) = h.freed.went.pass ∙ same_leaves v h.middle t Left.MustFree h.leaves

  same_refused : (v w : View X) (t : ℕ) (url : List ℕ) (cause : Cause) → Refused g t url v cause w → w.pass ≡ v.pass
  same_refused v w t url cause (inl h) = same_parted h.entered w t h.parted ∙ same_step v h.entered _ _ h.came.enter
  same_refused v w t url cause (inr h) = same_parted h.declined.keyed w t h.declined.parted ∙ same_key h.entered h.declined.keyed t h.declined.key h.declined.loaded
      ∙ same_step v h.entered _ _ h.came.enter

  same_purged : (v w : View X) (t : ℕ) (url : List ℕ) (left : Epoch) → Purged g t url v left w → w.pass ≡ v.pass
  same_purged v w t url left h = same_parted h.entry.after w t h.entry.parted ∙ same_step h.entry.keyed h.entry.after _ _ h.entry.doom
      ∙ same_key h.entered h.entry.keyed t _ h.entry.key ∙ same_step v h.entered _ _ h.came.enter

no_some : {T : Type 0} {x : T} → Some x ≡ None → ⊥
no_some e = cc

-- an answer stands at one of the files, if none stands behind them
pub some_inside : (left : List (Option Epoch)) (n : ℕ) → (d : ℕ) × ((epoch : Epoch) × (answer_at left d ≡ Some epoch)) → NoneBehind n left → (d : ℕ) × (d < n) × ((epoch : Epoch) × (answer_at left d ≡ Some epoch))
some_inside left n (d, (epoch, is)) none = (d, pick (cases_lt d n), (epoch, is))
  where
    pick : (d < n) ⊎ (n ≤ d) → d < n
    pick (inl lt) = lt
    pick (inr le) = absurd (no_some (sym is ∙ none d le))

module _ {C O : Type 0} (tells : Bool) (state : C → CellState) (offers : O → Offers) where
  -- what the purge answered by an epoch or a cause
  pub purges_if : (url : List ℕ) (s : Store C O) (p q : Pass C) (left : Option Epoch) (cause : Option Cause) → PurgeSays tells state offers url s p q left cause → PurgesIfThere tells state offers url s p q left
  purges_if url s p q (Some left) None h = h
  purges_if url s p q (Some left) (Some cause) h = absurd h
  purges_if url s p q None (Some cause) h = (cause, h)
  purges_if url s p q None None h = absurd h

  -- where no epoch stands, the cause does
  pub missed_each : (url : List ℕ) (s : Store C O) (p q : Pass C) (left : Option Epoch) (causes : Option Cause) → left ≡ None → PurgeSays tells state offers url s p q left causes
      → (cause : Cause) × (causes ≡ Some cause) × RefusedBy tells state offers inner url s p q cause
  missed_each url s p q (Some left) causes none h = let e : Some left ≡ None = none in absurd (no_some e)
  missed_each url s p q None (Some cause) none h = (cause, refl, h)
  missed_each url s p q None None none h = absurd h

  pub may_purge : (t line : ℕ) (url : List ℕ) (d : ℕ) (s : Store C O) (p : Pass C) → MayBeginIn tells state offers t line url d s p → MayPurge tells state offers s p url
  may_purge t line url d s p may = record { own = may.own; inner_free = may.inner_free; names = may.name }

  pub may_begin_still : (t line : ℕ) (url : List ℕ) (d : ℕ) (s : Store C O) (p q : Pass C) (left : Option Epoch) → PurgesIfThere tells state offers url s p q left → MayBeginIn tells state offers t line url d s p → MayBeginIn tells state offers t line url d s q
  may_begin_still t line url d s p q (Some left) h may = record {
    own = h.follows.own;
    below = may.below;
    free = ap (λ (xs : List (Tab (List ℕ))). get_or xs t Tab.Free) h.free ∙ may.free;
    inner_free = ap (λ (xs : List (Tab (List ℕ))). is_free (get_or xs inner Tab.Free)) h.free ∙ may.inner_free;
    from = may.from;
    url_is = may.url_is;
    good = may.good;
    needed = may.needed;
    name = λ pass alone. may.name pass alone ∙ sym (same_purged (basis tells state offers s) (view p) (view q) inner url left h.purged);
  }
  may_begin_still t line url d s p q None (cause, h) may = record {
    own = h.follows.own;
    below = may.below;
    free = ap (λ (xs : List (Tab (List ℕ))). get_or xs t Tab.Free) h.free ∙ may.free;
    inner_free = ap (λ (xs : List (Tab (List ℕ))). is_free (get_or xs inner Tab.Free)) h.free ∙ may.inner_free;
    from = may.from;
    url_is = may.url_is;
    good = may.good;
    needed = may.needed;
    name = λ pass alone. may.name pass alone ∙ sym (same_refused (basis tells state offers s) (view p) (view q) inner url cause h.refused);
  }

  -- each file was purged, and then it went so
  module _ (url : List ℕ) (dirs : Dirs C O) (a b c : DirPass C) (left : List (Option Epoch)) (causes : List (Option Cause)) (many : length b.passes.items ≡ dir_count dirs)
      (says : (d : ℕ) → AtDir dirs a b d (λ s p q. PurgeSays tells state offers url s p q (answer_at left d) (answer_at causes d))) where
    pub purged_first : (Then : ℕ → Store C O → (p q : Pass C) → Type 0) → ((d : ℕ) → AtDir dirs b c d (Then d)) → (d : ℕ) → AtDir dirs a c d (λ s p q. PurgesFirst tells state offers url (Then d s) s p q)
    purged_first Then h d s p q es ep eq =
        let lt = slice_get_within dirs.stores.items d s es in
        let m = there_is b.passes.items d (omega arith) in record {
          middle = m.0;
          left = answer_at left d;
          purged = purges_if url s p m.0 (answer_at left d) (answer_at causes d) (says d s p m.0 es ep m.1);
          later = h d s m.0 q es m.1 eq;
        }

    pub may_begin_then : (t line : ℕ) → length a.passes.items ≡ dir_count dirs → ((d : ℕ) → AtPass dirs a d (MayBeginIn tells state offers t line url d)) → (d : ℕ) → AtPass dirs b d (MayBeginIn tells state offers t line url d)
    may_begin_then t line had may d s q es eq =
        let lt = slice_get_within dirs.stores.items d s es in
        let p = there_is a.passes.items d (omega arith) in
        may_begin_still t line url d s p.0 q (answer_at left d) (purges_if url s p.0 q (answer_at left d) (answer_at causes d) (says d s p.0 q es p.1 eq)) (may d s p.0 es p.1)
