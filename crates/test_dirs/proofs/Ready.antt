-- How the passes of a worker stand before and after the calls of these tests.
use Rattle.std.proofs.Common.{Bool, List, None, Option, Some, ap, arith, cond, get_or, inl, inr, length, refl, subst, sym, ◌+◌, ◌-◌, ◌<◌, ◌==◌, ◌≡◌, ◌≢◌, ◌≤◌, ◌⊎◌, ◌∙◌, ℕ}
use Rattle.std.proofs.lemmas.Bool.{cases_lt}
use Rattle.std.proofs.lemmas.Option.{slice_get_within}
use Rattle.std.specs.Prelude.{slice_get}
use Rattle.core_model.specs.Tabs.{inner, is_free}
use Rattle.core_model.specs.declared.tab.Tab.{Tab}
use Rattle.lock_word.specs.declared.epoch.Epoch.{Epoch}
use Rattle.rock_disk.specs.Cell.{CellState}
use Rattle.store_key.specs.Url.{IsUrl}
use Rattle.store_rule.specs.declared.store.Pass.{Pass}
use Rattle.store_rule.specs.declared.store.Store.{Store}
use Rattle.store_rule.specs.Ground.{Offers, anchor_for, need_of}
use Rattle.store_rule.specs.Passes.{basis, view}
use Rattle.dir_set.specs.declared.dirs.DirPass.{DirPass}
use Rattle.dir_set.specs.declared.dirs.Dirs.{Dirs}
use Rattle.dir_set.specs.Answers.{PurgesIfThere}
use Rattle.dir_set.specs.declared.fault.DirBeginFault.{DirBeginFault}
use Rattle.dir_set.specs.declared.fault.DirBeginFault.TheVariants as refusing
use Rattle.dir_set.specs.Beginning.{BeginsAt, ComesBefore, MayBeginIn, PurgesFirst, RefusesAll}
use Rattle.dir_set.specs.Dirs.{AreOfOneSize, AtDir, IsDirPass, OnlyDir, dir_count, dir_of}
use Rattle.dir_set.proofs.OneFile.{is_or_not, there_is}
use Rattle.test_dirs.specs.Offered.{IsAt, IsIdle, IsReady, IsWriting, offers_in}

pub url_at : (o : Offers) (first second body url : List ℕ) (slots k : ℕ) → o ≡ offers_in first second body → cond (k == 0) first second ≡ url → o.url ((slots + k) - slots) ≡ url
url_at o first second body url slots k is picks = let e : (slots + k) - slots ≡ k = omega arith in
    ap (λ (z : Offers). z.url ((slots + k) - slots)) is ∙ ap (λ (j : ℕ). cond (j == 0) first second) e ∙ picks

pub not_alone : (o : Offers) (first second body : List ℕ) → o ≡ offers_in first second body → (anchors a pass mine : ℕ) → o.alone anchors a ≡ Some pass → pass ≡ mine
not_alone o first second body is anchors a pass mine h = let e : None ≡ Some pass = sym (ap (λ (z : Offers). z.alone anchors a) is) ∙ h in cc

-- of two files one comes before the other
pub one_first : (hand d dir : ℕ) → d ≢ dir → ComesBefore hand d dir ⊎ ComesBefore hand dir d
one_first hand d dir ne = pick (cases_lt d dir) (cases_lt d hand) (cases_lt dir hand)
  where
    pick : (d < dir) ⊎ (dir ≤ d) → (d < hand) ⊎ (hand ≤ d) → (dir < hand) ⊎ (hand ≤ dir) → ComesBefore hand d dir ⊎ ComesBefore hand dir d
    pick (inl a) (inl b) (inl e) = inl (inr (b, a, e))
    pick (inl a) (inl b) (inr e) = inr (inl (e, inr b))
    pick (inl a) (inr b) e = inl (inl (b, inl a))
    pick (inr a) b (inr e) = inr (inl (e, inl (omega arith)))
    pick (inr a) (inl b) (inl e) = inr (inr (e, omega arith, b))
    pick (inr a) (inr b) (inl e) = inl (inl (b, inr e))

module _ {C O : Type 0} (tells : Bool) (state : C → CellState) (offers : O → Offers) (t : ℕ) (offered : Offers) where
  pub idle_on : (s : Store C O) (p q : Pass C) → (view q).tabs ≡ (view p).tabs → IsIdle tells state offers t offered s p → IsIdle tells state offers t offered s q
  idle_on s p q same h = record {
    free = ap (λ (xs : List (Tab (List ℕ))). get_or xs t Tab.Free) same ∙ h.free;
    inner_free = ap (λ (xs : List (Tab (List ℕ))). is_free (get_or xs inner Tab.Free)) same ∙ h.inner_free;
    offers_are = h.offers_are;
  }

  pub purge_tabs : (url : List ℕ) (s : Store C O) (p q : Pass C) (left : Option Epoch) → PurgesIfThere tells state offers url s p q left → (view q).tabs ≡ (view p).tabs
  purge_tabs url s p q None h = h.1.free
  purge_tabs url s p q (Some left) h = h.free

  module _ (first second body url : List ℕ) (line : ℕ) (below : t < 8) (is : offered ≡ offers_in first second body) (picks : cond (line == 0) first second ≡ url) (good : IsUrl url) where
    pub may_begin_in : (dirs : Dirs C O) (a : DirPass C) → IsReady tells state offers t offered dirs a → (d : ℕ) (s : Store C O) (p : Pass C) → slice_get dirs.stores.items d ≡ Some s → slice_get a.passes.items d ≡ Some p → MayBeginIn tells state offers t line url d s p
    may_begin_in dirs a ready d s p es ep = let i = ready.idle d s p es ep in record {
      own = ready.own.own d s p es ep;
      below = below;
      free = i.free;
      inner_free = i.inner_free;
      from = omega arith;
      url_is = url_at _ first second body url (basis tells state offers s).setting.slots line (i.offers_are ∙ is) picks;
      good = good;
      needed = λ short fitting. let g = basis tells state offers s in
          let n : need_of g (anchor_for g url) ≡ 4096 = ap (λ (z : Offers). z.need g.setting.anchors g.slot (anchor_for g url)) (i.offers_are ∙ is) in omega arith;
      name = λ pass alone. not_alone _ first second body (i.offers_are ∙ is) _ _ pass _ alone;
    }

  -- no file took an entry
  pub refused_ready : (url : List ℕ) (line : ℕ) (durable : Bool) (dirs : Dirs C O) (a b : DirPass C) (fault : DirBeginFault) → IsReady tells state offers t offered dirs a → IsDirPass tells state offers dirs b → length a.passes.items ≡ dir_count dirs
      → RefusesAll tells state offers t line url durable dirs a b fault → IsReady tells state offers t offered dirs b
  refused_ready url line durable dirs a b refusing.LongUrl ready own had h = subst (λ (z : DirPass C). IsReady tells state offers t offered dirs z) (sym h) ready
  refused_ready url line durable dirs a b (refusing.AllRefused faults) ready own had h = record {
    own = own;
    sizes = ready.sizes;
    idle = λ d s q es eq.
        let lt = slice_get_within dirs.stores.items d s es in
        let p = there_is a.passes.items d (omega arith) in
        let x = h.0 d s p.0 q es p.1 eq in
        idle_on s p.0 q (x.later.2.free ∙ purge_tabs url s p.0 x.middle x.left x.purged) (ready.idle d s p.0 es p.1);
  }

  -- one did
  module _ (first second body url : List ℕ) (line : ℕ) (durable : Bool) (is : offered ≡ offers_in first second body) (dirs : Dirs C O) (a b : DirPass C) (hand dir version : ℕ) (ready : IsReady tells state offers t offered dirs a) (own : IsDirPass tells state offers dirs b)
      (at : dir_of b t ≡ dir) (begins : (d : ℕ) → AtDir dirs a b d (λ s p q. PurgesFirst tells state offers url (BeginsAt tells state offers t line url durable hand dir version d s) s p q)) where
    begun_tabs : (d : ℕ) (s : Store C O) (p q : Pass C) → d ≢ dir → PurgesFirst tells state offers url (BeginsAt tells state offers t line url durable hand dir version d s) s p q → (view q).tabs ≡ (view p).tabs
    begun_tabs d s p q ne x = pick (one_first hand d dir ne) ∙ purge_tabs url s p x.middle x.left x.purged
      where
        pick : ComesBefore hand d dir ⊎ ComesBefore hand dir d → (view q).tabs ≡ (view x.middle).tabs
        pick (inl before) = (x.later.before before).1.free
        pick (inr behind) = ap (λ (z : Pass C). (view z).tabs) (x.later.behind behind)

    pub begun_writing : IsWriting tells state offers t offered body 0 dirs b
    begun_writing = record {
      own = own;
      sizes = ready.sizes;
      idle = λ d s q es eq ne.
          let lt = slice_get_within dirs.stores.items d s es in
          let m = ready.own.many in
          let p = there_is a.passes.items d (omega arith) in
          idle_on s p.0 q (begun_tabs d s p.0 q (λ e. ne (e ∙ sym at)) (begins d s p.0 q es p.1 eq)) (ready.idle d s p.0 es p.1);
      at = λ s q es eq.
          let lt = slice_get_within dirs.stores.items (dir_of b t) s es in
          let m = ready.own.many in
          let p = there_is a.passes.items (dir_of b t) (omega arith) in
          let x = begins (dir_of b t) s p.0 q es p.1 eq in
          let o = (ready.idle (dir_of b t) s p.0 es p.1).offers_are in record {
            entry = _;
            writes = (x.later.here at).began.writes;
            count_is = refl;
            body_is = ap (λ (z : Offers). z.body ((basis tells state offers s).setting.slots + line - (basis tells state offers s).setting.slots)) (o ∙ is);
            offers_are = o;
          };
    }

  -- a call at the file of the tab
  module _ (P : Store C O → Pass C → Type 0) (dirs : Dirs C O) (a b : DirPass C) (had : IsAt tells state offers t offered P dirs a) (own : IsDirPass tells state offers dirs b) (only : OnlyDir (dir_of a t) a b) where
    others_idle : (d : ℕ) (s : Store C O) (q : Pass C) → slice_get dirs.stores.items d ≡ Some s → slice_get b.passes.items d ≡ Some q → d ≢ dir_of a t → IsIdle tells state offers t offered s q
    others_idle d s q es eq ne = had.idle d s q es (sym (only.others d ne) ∙ eq) ne

    same_dir : dir_of b t ≡ dir_of a t
    same_dir = ap (λ (xs : List ℕ). get_or xs t 0) only.moves.tabs

    pub at_on : (Q : Store C O → Pass C → Type 0) → AtDir dirs a b (dir_of a t) (λ s p q. P s p → Q s q) → IsAt tells state offers t offered Q dirs b
    at_on Q at = record {
      own = own;
      sizes = had.sizes;
      idle = λ d s q es eq ne. others_idle d s q es eq (λ e. ne (e ∙ sym same_dir));
      at = λ s q es eq.
          let es2 = ap (λ (n : ℕ). slice_get dirs.stores.items n) (sym same_dir) ∙ es in
          let lt = slice_get_within dirs.stores.items (dir_of a t) s es2 in
          let m = had.own.many in
          let p = there_is a.passes.items (dir_of a t) (omega arith) in
          at s p.0 q es2 p.1 (ap (λ (n : ℕ). slice_get b.passes.items n) (sym same_dir) ∙ eq) (had.at s p.0 es2 p.1);
    }

    pub at_ready : AtDir dirs a b (dir_of a t) (λ s p q. P s p → IsIdle tells state offers t offered s q) → IsReady tells state offers t offered dirs b
    at_ready at = record {
      own = own;
      sizes = had.sizes;
      idle = λ d s q es eq. each d s q es eq (is_or_not d (dir_of a t));
    }
      where
        each : (d : ℕ) (s : Store C O) (q : Pass C) → slice_get dirs.stores.items d ≡ Some s → slice_get b.passes.items d ≡ Some q → ((d ≡ dir_of a t) ⊎ (d ≢ dir_of a t)) → IsIdle tells state offers t offered s q
        each d s q es eq (inr ne) = others_idle d s q es eq ne
        each d s q es eq (inl e) =
            let es2 = ap (λ (n : ℕ). slice_get dirs.stores.items n) (sym e) ∙ es in
            let lt = slice_get_within dirs.stores.items (dir_of a t) s es2 in
            let m = had.own.many in
            let p = there_is a.passes.items (dir_of a t) (omega arith) in
            at s p.0 q es2 p.1 (ap (λ (n : ℕ). slice_get b.passes.items n) (sym e) ∙ eq) (had.at s p.0 es2 p.1)

  pub of_one_size : (dirs : Dirs C O) (a : DirPass C) → IsReady tells state offers t offered dirs a → AreOfOneSize tells state offers dirs
  of_one_size dirs a ready = record { slot = 512; same = ready.sizes }
