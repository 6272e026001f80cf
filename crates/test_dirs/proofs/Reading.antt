-- The entry that a tab reads, in these tests, and what a purge leaves.
use Rattle.std.proofs.Common.{Bool, List, Option, Some, ap, arith, get_or, inl, inr, subst, sym, ◌<◌, ◌≡◌, ◌≢◌, ◌≤◌, ◌⊎◌, ◌∙◌, ℕ}
use Rattle.std.proofs.lemmas.Bool.{cases_lt}
use Rattle.std.proofs.lemmas.List.{get_or-set_other, get_or-set_same}
use Rattle.std.proofs.lemmas.Option.{slice_get_within}
use Rattle.std.specs.Prelude.{slice_get}
use Rattle.core_model.specs.Tabs.{InnerIsFree, inner, is_free, tab_at, with_tab}
use Rattle.core_model.specs.declared.tab.Tab.{Tab}
use Rattle.core_model.specs.declared.view.View.{View}
use Rattle.lock_word.specs.declared.cause.Cause.{Cause}
use Rattle.lock_word.specs.declared.epoch.Epoch.{Epoch}
use Rattle.rock_disk.specs.Cell.{CellState}
use Rattle.purge_entry.specs.Purging.{MayPurge}
use Rattle.rock_reader.specs.Opening.{MayOpen}
use Rattle.rock_reader.specs.Reading.{Gave, ReadsAs, Standing, halting, onward, turned}
use Rattle.rock_reader.specs.declared.answer.More.{More}
use Rattle.rock_reader.specs.declared.answer.More.TheVariants.{End, Fault, Halted, NotYet, OtherUrl, Piece}
use Rattle.store_rule.specs.declared.store.Pass.{Pass}
use Rattle.store_rule.specs.declared.store.Store.{Store}
use Rattle.store_rule.specs.Ground.{Offers}
use Rattle.store_rule.specs.Passes.{view}
use Rattle.store_rule.proofs.Passing.{pass_of}
use Rattle.dir_set.specs.declared.dirs.DirPass.{DirPass}
use Rattle.dir_set.specs.declared.dirs.Dirs.{Dirs}
use Rattle.store_rule.specs.declared.store.Note.{Note}
use Rattle.dir_set.specs.declared.notes.DirNote.{DirNote}
use Rattle.dir_set.specs.Notes.{IsDirNoteOf, LearnedIn, NotedIn, notes_of}
use Rattle.dir_set.specs.Answers.{EachMissed, OpensAt, PurgesIfThere}
use Rattle.dir_set.specs.Dirs.{AtDir, IsDirPass, OnlyDir, answer_at, dir_of}
use Rattle.dir_set.proofs.OneFile.{there_is}
use Rattle.test_dirs.specs.Offered.{IsIdle, IsReading, IsReady, Reads, offers_in}
use Rattle.test_dirs.proofs.Ready.{at_on, at_ready, idle_on, not_alone, purge_tabs}

module _ {X : Type 0} (v w : View X) (t : ℕ) (x : Tab X) (apart : inner ≢ t) where
  pub inner_kept : w.tabs ≡ with_tab v t x → InnerIsFree v → InnerIsFree w
  inner_kept is free = ap (λ (xs : List (Tab X)). is_free (get_or xs inner Tab.Free)) is ∙ ap (λ (y : Tab X). is_free y) (get_or-set_other v.tabs t inner x Tab.Free apart) ∙ free

module _ {C O : Type 0} (tells : Bool) (state : C → CellState) (offers : O → Offers) (t : ℕ) (offered : Offers) where
  pub missed_ready : (u : ℕ) (url : List ℕ) (causes : List (Option Cause)) (dirs : Dirs C O) (a b : DirPass C) → IsReady tells state offers t offered dirs a → IsDirPass tells state offers dirs b → EachMissed tells state offers dirs a b u url causes → IsReady tells state offers t offered dirs b
  missed_ready u url causes dirs a b ready own h = record {
    own = own;
    sizes = ready.sizes;
    idle = λ d s q es eq.
        let lt = slice_get_within dirs.stores.items d s es in
        let m = ready.own.many in
        let p = there_is a.passes.items d (omega arith) in
        idle_on tells state offers t offered s p.0 q (h d s p.0 q es p.1 eq).2.free (ready.idle d s p.0 es p.1);
  }

  pub purged_ready : (url : List ℕ) (left : List (Option Epoch)) (dirs : Dirs C O) (a b : DirPass C) → IsReady tells state offers t offered dirs a → IsDirPass tells state offers dirs b → ((d : ℕ) → AtDir dirs a b d (λ s p q. PurgesIfThere tells state offers url s p q (answer_at left d))) → IsReady tells state offers t offered dirs b
  purged_ready url left dirs a b ready own h = record {
    own = own;
    sizes = ready.sizes;
    idle = λ d s q es eq.
        let lt = slice_get_within dirs.stores.items d s es in
        let m = ready.own.many in
        let p = there_is a.passes.items d (omega arith) in
        idle_on tells state offers t offered s p.0 q (purge_tabs tells state offers t offered url s p.0 q (answer_at left d) (h d s p.0 q es p.1 eq)) (ready.idle d s p.0 es p.1);
  }

  -- what was seen was copied, or added
  pub noted_ready : (left : ℕ → Option (Note C)) (dirs : Dirs C O) (a b : DirPass C) → IsReady tells state offers t offered dirs a → IsDirPass tells state offers dirs b → ((d : ℕ) → AtDir dirs a b d (λ s p q. NotedIn tells state offers s p q (left d))) → IsReady tells state offers t offered dirs b
  noted_ready left dirs a b ready own h = record {
    own = own;
    sizes = ready.sizes;
    idle = λ d s q es eq.
        let lt = slice_get_within dirs.stores.items d s es in
        let m = ready.own.many in
        let p = there_is a.passes.items d (omega arith) in
        idle_on tells state offers t offered s p.0 q (ap (λ (v : View (List ℕ)). v.tabs) (h d s p.0 q es p.1 eq).view_is) (ready.idle d s p.0 es p.1);
  }

  pub learned_ready : (note : DirNote C) (dirs : Dirs C O) (a b : DirPass C) → IsDirNoteOf dirs note → IsReady tells state offers t offered dirs a → IsDirPass tells state offers dirs b
      → ((d : ℕ) → AtDir dirs a b d (λ s p q. (copy : Note C) → answer_at (notes_of note) d ≡ Some copy → LearnedIn tells state offers s p q copy)) → IsReady tells state offers t offered dirs b
  learned_ready note dirs a b of ready own h = record {
    own = own;
    sizes = ready.sizes;
    idle = λ d s q es eq.
        let lt = slice_get_within dirs.stores.items d s es in
        let m = ready.own.many in
        let p = there_is a.passes.items d (omega arith) in
        let n = of d s es in
        idle_on tells state offers t offered s p.0 q (ap (λ (v : View (List ℕ)). v.tabs) (h d s p.0 q es p.1 eq n.0 n.1).view_is) (ready.idle d s p.0 es p.1);
  }

  pub opened_reading : (url : List ℕ) (dir version : ℕ) (dirs : Dirs C O) (a b : DirPass C) → inner ≢ t → IsReady tells state offers t offered dirs a → IsDirPass tells state offers dirs b → dir_of b t ≡ dir
      → ((d : ℕ) → AtDir dirs a b d (OpensAt tells state offers t url dir version d)) → IsReading tells state offers t offered dirs b
  opened_reading url dir version dirs a b apart ready own at h = record {
    own = own;
    sizes = ready.sizes;
    idle = λ d s q es eq ne.
        let lt = slice_get_within dirs.stores.items d s es in
        let m = ready.own.many in
        let p = there_is a.passes.items d (omega arith) in
        beside d s p.0 q (h d s p.0 q es p.1 eq) (ready.idle d s p.0 es p.1) (λ e. ne (e ∙ sym at)) (cases_lt d dir) (cases_lt dir d);
    at = λ s q es eq.
        let lt = slice_get_within dirs.stores.items (dir_of b t) s es in
        let m = ready.own.many in
        let p = there_is a.passes.items (dir_of b t) (omega arith) in
        let x = (h (dir_of b t) s p.0 q es p.1 eq).here at in
        let i = ready.idle (dir_of b t) s p.0 es p.1 in record {
          standing = _;
          reads = x.reads.1;
          inner_free = inner_kept (view p.0) (view q) t _ apart x.opened.tabs i.inner_free;
          offers_are = i.offers_are;
        };
  }
    where
      beside : (d : ℕ) (s : Store C O) (p q : Pass C) → OpensAt tells state offers t url dir version d s p q → IsIdle tells state offers t offered s p → d ≢ dir → (d < dir) ⊎ (dir ≤ d) → (dir < d) ⊎ (d ≤ dir) → IsIdle tells state offers t offered s q
      beside d s p q x i ne (inl lt) y = idle_on tells state offers t offered s p q (x.before lt).1.free i
      beside d s p q x i ne (inr le) (inl lt) = subst (λ (z : Pass C). IsIdle tells state offers t offered s z) (sym (x.behind lt)) i
      beside d s p q x i ne (inr le) (inr ge) = absurd (ne (omega arith))

  -- after each answer the tab reads on
  gave_reads : (s : Store C O) (p q : Pass C) (e : Standing) (before after : List ℕ) (more : More) → ReadsAs tells state offers s p t e → Gave tells state offers s t p e before after q more → (f : Standing) × ReadsAs tells state offers s q t f
  gave_reads s p q e before after (Piece count) reads g = (onward e, g.reads)
  gave_reads s p q e before after (NotYet epoch) reads g = (e, g.stays)
  gave_reads s p q e before after End reads g = (e, subst (λ (z : Pass C). ReadsAs tells state offers s z t e) (sym g.still) reads)
  gave_reads s p q e before after Halted reads g = (halting e, g.stays)
  gave_reads s p q e before after OtherUrl reads (inl g) = (e, subst (λ (z : Pass C). ReadsAs tells state offers s z t e) (sym g.still) reads)
  gave_reads s p q e before after OtherUrl reads (inr g) = (turned e, g.reads)
  gave_reads s p q e before after Fault reads g = (e, g.stays)

  module _ (dirs : Dirs C O) (a b : DirPass C) (had : IsReading tells state offers t offered dirs a) (own : IsDirPass tells state offers dirs b) (only : OnlyDir (dir_of a t) a b) where
    pub more_reading : (before after : List ℕ) (more : More) → AtDir dirs a b (dir_of a t) (λ s p q. (e : Standing) → ReadsAs tells state offers s p t e → Gave tells state offers s t p e before after q more)
        → AtDir dirs a b (dir_of a t) (λ s p q. tab_at (view q) inner ≡ tab_at (view p) inner) → IsReading tells state offers t offered dirs b
    more_reading before after more gave same = at_on tells state offers t offered (Reads tells state offers t offered) dirs a b had own only (Reads tells state offers t offered)
        (λ s p q es ep eq h. let x = gave_reads s p q h.standing before after more h.reads (gave s p q es ep eq h.standing h.reads) in record {
          standing = x.0;
          reads = x.1;
          inner_free = ap (λ (y : Tab (List ℕ)). is_free y) (same s p q es ep eq) ∙ h.inner_free;
          offers_are = h.offers_are;
        })

    pub close_ready : inner ≢ t → t < 9 → AtDir dirs a b (dir_of a t) (λ s p q. (view q).tabs ≡ with_tab (view p) t Tab.Free) → IsReady tells state offers t offered dirs b
    close_ready apart below at = at_ready tells state offers t offered (Reads tells state offers t offered) dirs a b had own only
        (λ s p q es ep eq h. let x = at s p q es ep eq in record {
          free = ap (λ (xs : List (Tab (List ℕ))). get_or xs t Tab.Free) x ∙ get_or-set_same (view p).tabs t Tab.Free Tab.Free (let n = pass_of p in omega arith);
          inner_free = inner_kept (view p) (view q) t Tab.Free apart x h.inner_free;
          offers_are = h.offers_are;
        })

  -- a file that is offered so may be asked
  module _ (first second body url : List ℕ) where
    pub may_open_in : t < 8 → offered ≡ offers_in first second body → (dirs : Dirs C O) (a : DirPass C) → IsReady tells state offers t offered dirs a → (d : ℕ) (s : Store C O) (p : Pass C) → slice_get dirs.stores.items d ≡ Some s → slice_get a.passes.items d ≡ Some p → MayOpen tells state offers s p t url
    may_open_in below is dirs a ready d s p es ep = let i = ready.idle d s p es ep in record {
      own = ready.own.own d s p es ep;
      below = below;
      free = i.free;
      inner_free = i.inner_free;
      names = λ pass alone. not_alone _ first second body (i.offers_are ∙ is) _ _ pass _ alone;
    }

    pub may_purge_in : offered ≡ offers_in first second body → (dirs : Dirs C O) (a : DirPass C) → IsReady tells state offers t offered dirs a → (d : ℕ) (s : Store C O) (p : Pass C) → slice_get dirs.stores.items d ≡ Some s → slice_get a.passes.items d ≡ Some p → MayPurge tells state offers s p url
    may_purge_in is dirs a ready d s p es ep = let i = ready.idle d s p es ep in record {
      own = ready.own.own d s p es ep;
      inner_free = i.inner_free;
      names = λ pass alone. not_alone _ first second body (i.offers_are ∙ is) _ _ pass _ alone;
    }
