-- What a request of the plain store leaves of other tabs than its own: these, and the entries that grow.
use Rattle.std.proofs.Common.{[], ◌∷◌, ◌≡◌, ◌≢◌, ◌⊎◌, inl, inr, ◌∙◌, ℕ, zero, suc, ◌+◌, ◌-◌, ◌*◌, List, get_or, set, length, refl, sym, ap, subst, arith, Bool, true, false, cond, find, get_or-set_other, length-set}
use Rattle.std.specs.Prelude.{Option, Some, None, not, ◌==◌, ◌||◌, ◌&&◌, nat_lt, nat_le, is_some, min, slice_set}
use mathlib.Core.Logic.{dite}
use native.Mathlib.Decide.{ℕ_discrete}
use Rattle.script_text.specs.declared.answer.Answer.{Answer}
use Rattle.script_text.specs.declared.answer.Answer.TheVariants as answer
use Rattle.store_key.specs.Key.{key_of}
use Rattle.store_key.specs.Anchor.{anchor_of}
use Rattle.lock_word.specs.declared.cause.Cause.{Cause}
use Rattle.plain_model.specs.declared.entry.Life.{Life}
use Rattle.plain_model.specs.declared.entry.Life.TheVariants.{Growing, Whole, GivenUp}
use Rattle.plain_model.specs.declared.entry.Entry.{Entry}
use Rattle.plain_model.specs.declared.entry.Place.{Place}
use Rattle.plain_model.specs.declared.store.Setting.{Setting}
use Rattle.plain_model.specs.declared.store.Tab.{Tab}
use Rattle.plain_model.specs.declared.store.Tab.TheVariants.{Free, Writing, Reading}
use Rattle.plain_model.specs.declared.store.Plain.{Plain}
use Rattle.plain_model.specs.declared.store.Refusal.{Refusal}
use Rattle.plain_model.specs.declared.store.Refusal.TheVariants.{Full}
use Rattle.plain_model.specs.Place.{nothing, vacated, doomed, ended, resized}
use Rattle.plain_model.specs.Store.{place_at, entry_at, tab_at, with_tab, published, has_life, readers, is_left_over_at, is_idle_at, is_vacant_at, available}
use Rattle.plain_model.specs.Slots.{Claimed, Grown, claim, claim_of, claim_two, evicted, free, from_hand, grow, limit, publish, resize, victim}
use Rattle.plain_model.specs.Writing.{Step, add, append, begin, close_writer, end, entry_of, finish, give_up, lacking, last_slot, settle, step, taken_by, unless_refused}
use Rattle.plain_model.specs.Reading.{close, doom_at, has_url, judge, more, open_at, open_tab, purge, purge_at}
use Rattle.plain_model.specs.Serving.{get, put}
use Rattle.plain_laws.specs.Holding.{IsGrowing}
use Rattle.plain_laws.proofs.Choosing.{either}
use Rattle.plain_laws.proofs.Beginning.{BeginsAs, begins, set_there}
use Rattle.plain_laws.proofs.Evicting.{idle_whole}
use Rattle.plain_laws.proofs.Held.{able_not}
use Rattle.plain_laws.proofs.Looking.{Opens, opens}

-- Every tab but t is as it was. An entry that grows is as it was, with its version, but at the tab's own anchor.
pub record KeepsElse (t : ℕ) (Own : ℕ → Type 0) (p q : Plain) : Type 0 where
  pub tabs : (j : ℕ) → j ≢ t → tab_at q j ≡ tab_at p j
  pub eight : length q.tabs ≡ length p.tabs
  pub entries : (b : ℕ) → IsGrowing (entry_at p b) → (Own b → ⊥) → entry_at q b ≡ entry_at p b
  pub versions : (b : ℕ) → IsGrowing (entry_at p b) → (Own b → ⊥) → (place_at q b).version ≡ (place_at p b).version

module _ (t : ℕ) (Own : ℕ → Type 0) where
  pub else_refl : (p : Plain) → KeepsElse t Own p p
  else_refl p = record { tabs = λ j ne. refl; eight = refl; entries = λ b g o. refl; versions = λ b g o. refl }

  pub else_trans : (p q r : Plain) → KeepsElse t Own p q → KeepsElse t Own q r → KeepsElse t Own p r
  else_trans p q r h k = record {
    tabs = λ j ne. k.tabs j ne ∙ h.tabs j ne;
    eight = k.eight ∙ h.eight;
    entries = λ b g o. k.entries b (still b g o) o ∙ h.entries b g o;
    versions = λ b g o. k.versions b (still b g o) o ∙ h.versions b g o;
  }
    where
      still : (b : ℕ) → IsGrowing (entry_at p b) → (Own b → ⊥) → IsGrowing (entry_at q b)
      still b g o = subst IsGrowing (sym (h.entries b g o)) g

  -- a place is changed, which is the tab's own or has no entry that grows
  else_set : (p q : Plain) (a : ℕ) (x : Place) → q.tabs ≡ p.tabs → q.places ≡ set p.places a x → (IsGrowing (entry_at p a) → Own a) → KeepsElse t Own p q
  else_set p q a x tabs places own = record {
    tabs = λ j ne. ap (λ (ts : List Tab). get_or ts j Free) tabs;
    eight = ap length tabs;
    entries = λ b g o. ap (λ (y : Place). y.entry) (there b g o);
    versions = λ b g o. ap (λ (y : Place). y.version) (there b g o);
  }
    where
      there : (b : ℕ) → IsGrowing (entry_at p b) → (Own b → ⊥) → place_at q b ≡ place_at p b
      there b g o = ap (λ (ps : List Place). get_or ps b nothing) places
          ∙ get_or-set_other p.places a b x nothing (λ e. o (subst Own (sym e) (own (subst (λ (z : ℕ). IsGrowing (entry_at p z)) e g))))

  else_tab : (p : Plain) (x : Tab) → KeepsElse t Own p (with_tab p t x)
  else_tab p x = record { tabs = λ j ne. get_or-set_other p.tabs t j x Free ne; eight = length-set p.tabs t x; entries = λ b g o. refl; versions = λ b g o. refl }

  left_over_not : (o : Option Entry) (d r : Bool) → ((has_life GivenUp o || (has_life Whole o && d)) && r) ≡ true → IsGrowing o → ⊥
  left_over_not None d r h g = g
  left_over_not (Some e) d r h g = let k : false ≡ true = rw g at h in cc

  pub else_settle : (a : ℕ) (p : Plain) → KeepsElse t Own p (settle a p)
  else_settle a p = either (KeepsElse t Own p) (is_left_over_at p a) _ _
      (λ h. else_set p (record p { places = set p.places a (vacated (place_at p a)) }) a (vacated (place_at p a)) refl refl (λ g. absurd (left_over_not (entry_at p a) (place_at p a).doom (readers p a == 0) h g)))
      (λ h. else_refl p)

  not_whole : (o : Option Entry) (e : Entry) → o ≡ Some e → e.life ≡ Whole → IsGrowing o → ⊥
  not_whole None e is w g = g
  not_whole (Some d) e is w g = let same : d ≡ e = cc in let k : Growing ≡ Whole = sym g ∙ (ap (λ (x : Entry). x.life) same ∙ w) in cc

  found : (f : ℕ → Bool) (xs : List ℕ) (y : ℕ) → find f xs ≡ Some y → f y ≡ true
  found f [] y e = let k : None ≡ Some y = e in cc
  found f (x ∷ xs) y e = by_test (f x) refl (found f xs y)
    where
      by_test : (b : Bool) → f x ≡ b → (find f xs ≡ Some y → f y ≡ true) → f y ≡ true
      by_test true t later = let k : Some x ≡ Some y = rw t at e in let same : x ≡ y = cc in ap f (sym same) ∙ t
      by_test false t later = later (rw t at e)

  claim_else : (s : Setting) (claimed : ℕ) (p : Plain) → KeepsElse t Own p (claim s claimed p).store
  claim_else s claimed p = either (λ (r : Claimed). KeepsElse t Own p r.store) (nat_lt claimed (free s p)) _ _ (λ h. else_refl p) (λ h. of_victim (victim s p) refl)
    where
      of_victim : (o : Option ℕ) → victim s p ≡ o → KeepsElse t Own p (claim_of s p o).store
      of_victim None e = else_refl p
      of_victim (Some a) e = let w = idle_whole p a (found (λ b. is_idle_at p b) (from_hand s p) a e) in
          else_set p (evicted s a p) a (vacated (place_at p a)) refl refl (λ g. absurd (not_whole (entry_at p a) w.0 w.1 w.2 g))

  two_else : (s : Setting) (p : Plain) → KeepsElse t Own p (claim_two s p).store
  two_else s p = either (λ (r : Claimed). KeepsElse t Own p r.store) (claim s 0 p).done _ _
      (λ h. else_trans p (claim s 0 p).store (claim s 1 (claim s 0 p).store).store (claim_else s 0 p) (claim_else s 1 (claim s 0 p).store))
      (λ h. claim_else s 0 p)

  module _ (a : ℕ) (own : Own a) where
    resize_else : (content : ℕ) (p : Plain) → KeepsElse t Own p (resize a content p)
    resize_else content p = else_set p (resize a content p) a (resized content (place_at p a)) refl refl (λ g. own)

    publish_else : (s : Setting) (filled : ℕ) (p : Plain) → KeepsElse t Own p (publish s a filled p).store
    publish_else s filled p = let full = resize a (filled * s.room) p in either (λ (r : Grown). KeepsElse t Own p r.store) (nat_le (limit s) filled) _ _
        (λ h. resize_else (filled * s.room) p)
        (λ h. either (λ (c : Claimed). KeepsElse t Own p c.store) (filled == 1) (claim_two s full) (claim s 0 full)
        (λ u. else_trans p full (claim_two s full).store (resize_else (filled * s.room) p) (two_else s full))
        (λ u. else_trans p full (claim s 0 full).store (resize_else (filled * s.room) p) (claim_else s 0 full)))

    grow_else : (s : Setting) (content n filled : ℕ) (p : Plain) → KeepsElse t Own p (grow s a content n filled p).store
    grow_else s content zero filled p = resize_else content p
    grow_else s content (suc n) filled p = either (λ (r : Grown). KeepsElse t Own p r.store) (is_some (publish s a filled p).refusal) _ _
        (λ h. publish_else s filled p)
        (λ h. else_trans p (publish s a filled p).store (grow s a content n (filled + 1) (publish s a filled p).store).store (publish_else s filled p) (grow_else s content n (filled + 1) (publish s a filled p).store))

    close_writer_else : (life : Life) (p : Plain) → KeepsElse t Own p (close_writer life t a p)
    close_writer_else life p = let gone = record p { tabs = slice_set p.tabs t Free; places = slice_set p.places a (ended life (place_at p a)) } in
        else_trans p (with_tab p t Free) (settle a gone) (else_tab p Free)
        (else_trans (with_tab p t Free) gone (settle a gone) (else_set (with_tab p t Free) gone a (ended life (place_at p a)) refl refl (λ g. own)) (else_settle a gone))

    unless_else : (p : Plain) (next : Plain → Step) (g : Grown) → KeepsElse t Own p g.store → KeepsElse t Own p (next g.store).after → KeepsElse t Own p (unless_refused t a next g).after
    unless_else p next g h k = of_refusal g.refusal refl
      where
        of_refusal : (o : Option Refusal) → g.refusal ≡ o → KeepsElse t Own p (unless_refused t a next g).after
        of_refusal None e = rw e k
        of_refusal (Some r) e = rw e (else_trans p g.store (close_writer GivenUp t a g.store) h (close_writer_else GivenUp g.store))

    add_to : (s : Setting) (count : ℕ) (p : Plain) (o : Option Entry) → entry_at p a ≡ o → tab_at p t ≡ Writing a → KeepsElse t Own p (add s t count p).after
    add_to s count p None e w = rw (w, e) (else_refl p)
    add_to s count p (Some x) e w = let g = append s a (min count (lacking x)) x.content p in let h = grow_else s _ _ _ p in rw (w, e) (unless_else p (step (answer.Added (min count (lacking x)))) g h h)

    last_else : (s : Setting) (content : ℕ) (p : Plain) → KeepsElse t Own p (last_slot s content p).store
    last_else s content p = either (λ (g : Grown). KeepsElse t Own p g.store) (published s.room content == 0) _ _ (λ h. claim_else s 0 p) (λ h. else_refl p)

    end_to : (s : Setting) (p : Plain) (o : Option Entry) → entry_at p a ≡ o → tab_at p t ≡ Writing a → KeepsElse t Own p (end s t p).after
    end_to s p None e w = rw (w, e) (else_refl p)
    end_to s p (Some x) e w = let g = append s a (lacking x) x.content p in let last = last_slot s (x.content + lacking x) g.store in let h = grow_else s _ _ _ p in
        let k = else_trans p g.store last.store h (last_else s (x.content + lacking x) g.store) in
        rw (w, e) (unless_else p (λ q. unless_refused t a (finish t a) (last_slot s (x.content + lacking x) q)) g h
        (unless_else p (finish t a) last k (else_trans p last.store (close_writer Whole t a last.store) k (close_writer_else Whole last.store))))

-- What each request leaves, by what the tab does: the anchor of one that writes is its own.
abbrev pub IsOwn : ℕ → Plain → ℕ → Type 0
IsOwn t p b = tab_at p t ≡ Writing b

module _ (t : ℕ) (s : Setting) (p : Plain) where
  own_refl : KeepsElse t (IsOwn t p) p p
  own_refl = else_refl t (IsOwn t p) p

  pub add_keeps : (count : ℕ) → KeepsElse t (IsOwn t p) p (add s t count p).after
  add_keeps count = on (tab_at p t) refl
    where
      on : (x : Tab) → tab_at p t ≡ x → KeepsElse t (IsOwn t p) p (add s t count p).after
      on Free w = rw w own_refl
      on (Reading a given is_other) w = rw w own_refl
      on (Writing a) w = add_to t (IsOwn t p) a w s count p (entry_at p a) refl w

  pub end_keeps : KeepsElse t (IsOwn t p) p (end s t p).after
  end_keeps = on (tab_at p t) refl
    where
      on : (x : Tab) → tab_at p t ≡ x → KeepsElse t (IsOwn t p) p (end s t p).after
      on Free w = rw w own_refl
      on (Reading a given is_other) w = rw w own_refl
      on (Writing a) w = end_to t (IsOwn t p) a w s p (entry_at p a) refl w

  pub give_up_keeps : KeepsElse t (IsOwn t p) p (give_up t p).after
  give_up_keeps = on (tab_at p t) refl
    where
      on : (x : Tab) → tab_at p t ≡ x → KeepsElse t (IsOwn t p) p (give_up t p).after
      on Free w = rw w own_refl
      on (Reading a given is_other) w = rw w own_refl
      on (Writing a) w = rw w (close_writer_else t (IsOwn t p) a w GivenUp p)

-- Of these the tab owns nothing.
module _ (t : ℕ) (Own : ℕ → Type 0) (s : Setting) (p : Plain) where
  pub close_else : KeepsElse t Own p (close t p).after
  close_else = on (tab_at p t) refl
    where
      on : (x : Tab) → tab_at p t ≡ x → KeepsElse t Own p (close t p).after
      on Free w = rw w (else_refl t Own p)
      on (Writing a) w = rw w (else_refl t Own p)
      on (Reading a given is_other) w = rw w (else_trans t Own p (with_tab p t Free) (settle a (with_tab p t Free)) (else_tab t Own p Free) (else_settle t Own a (with_tab p t Free)))

  pub more_else : KeepsElse t Own p (more s t p).after
  more_else = on (tab_at p t) refl
    where
      to : (a given : ℕ) (o : Option Entry) → entry_at p a ≡ o → tab_at p t ≡ Reading a given false → KeepsElse t Own p (more s t p).after
      to a given None e w = rw (w, e) (else_refl t Own p)
      to a given (Some x) e w = rw (w, e) (else_tab t Own p (Reading a (length (available s.room x)) false))

      on : (x : Tab) → tab_at p t ≡ x → KeepsElse t Own p (more s t p).after
      on Free w = rw w (else_refl t Own p)
      on (Writing a) w = rw w (else_refl t Own p)
      on (Reading a given true) w = rw w (else_refl t Own p)
      on (Reading a given false) w = to a given (entry_at p a) refl w

  pub open_else : (url : List ℕ) → KeepsElse t Own p (open_tab s t url p).after
  open_else url = on (tab_at p t) refl
    where
      a : ℕ
      a = anchor_of (key_of url) s.anchors

      judged : (o : Option Cause) → judge s p (anchor_of (key_of url) s.anchors) (key_of url) ≡ o → tab_at p t ≡ Free → KeepsElse t Own p (open_tab s t url p).after
      judged None e w = rw (w, e) (else_tab t Own p (Reading (anchor_of (key_of url) s.anchors) 0 (not (has_url url (entry_at p (anchor_of (key_of url) s.anchors))))))
      judged (Some cause) e w = rw (w, e) (else_refl t Own p)

      on : (x : Tab) → tab_at p t ≡ x → KeepsElse t Own p (open_tab s t url p).after
      on (Writing b) w = rw w (else_refl t Own p)
      on (Reading b given is_other) w = rw w (else_refl t Own p)
      on Free w = judged (judge s p (anchor_of (key_of url) s.anchors) (key_of url)) refl w

  pub purge_else : (url : List ℕ) → KeepsElse t Own p (purge s url p).after
  purge_else url = judged (anchor_of (key_of url) s.anchors) (judge s p (anchor_of (key_of url) s.anchors) (key_of url)) refl
    where
      dooms : (x : ℕ) → KeepsElse t Own p (doom_at x p)
      dooms x = record { tabs = λ j ne. refl; eight = refl; entries = λ b g o. of_place (λ y. y.entry) b refl; versions = λ b g o. of_place (λ y. y.version) b refl }
        where
          of_place : {A : Type 0} (f : Place → A) (b : ℕ) → f (doomed (place_at p x)) ≡ f (place_at p x) → f (place_at (doom_at x p) b) ≡ f (place_at p b)
          of_place f b same = elim (set_there p.places x b (doomed (place_at p x)) nothing) [
            | inl h ↦ ap f h.1 ∙ same ∙ ap (λ (z : ℕ). f (place_at p z)) (sym h.0)
            | inr h ↦ ap f h
          ]

      judged : (x : ℕ) (o : Option Cause) → judge s p x (key_of url) ≡ o → KeepsElse t Own p (purge_at s x (key_of url) p).after
      judged x None e = rw e (else_trans t Own p (doom_at x p) (settle x (doom_at x p)) (dooms x) (else_settle t Own x (doom_at x p)))
      judged x (Some cause) e = rw e (else_refl t Own p)

-- beginning an entry, and a response that is stored or got whole
module _ (s : Setting) (p : Plain) where
  begin_keeps_as : (t : ℕ) (url body : List ℕ) (offer : ℕ) → BeginsAs s t url body offer p → KeepsElse t (IsOwn t p) p (begin s t url body offer p).after
  begin_keeps_as t url body offer (BeginsAs.in_use e) = rw e (own_refl t s p)
  begin_keeps_as t url body offer (BeginsAs.long e) = rw e (own_refl t s p)
  begin_keeps_as t url body offer (BeginsAs.busy w e) = rw e (own_refl t s p)
  begin_keeps_as t url body offer (BeginsAs.spent h e) = rw e (own_refl t s p)
  begin_keeps_as t url body offer (BeginsAs.begun free fits able e) = rw e (let a = anchor_of (key_of url) s.anchors in let x = entry_of url body offer in
      else_trans t (IsOwn t p) p (with_tab p t (Writing a)) (taken_by t a x p) (else_tab t (IsOwn t p) p (Writing a))
      (else_set t (IsOwn t p) (with_tab p t (Writing a)) (taken_by t a x p) a (record { version = p.counter + 1; doom = false; entry = Some x }) refl refl (λ g. absurd (able_not p a able g))))

  pub begin_keeps : (t : ℕ) (url body : List ℕ) (offer : ℕ) → KeepsElse t (IsOwn t p) p (begin s t url body offer p).after
  begin_keeps t url body offer = begin_keeps_as t url body offer (begins s t url body offer p (tab_at p t) refl)

  -- of two requests on one tab, where the second may change what the first began
  then_else : (t : ℕ) (q r : Plain) → ((b : ℕ) → IsGrowing (entry_at p b) → IsOwn t q b → IsOwn t p b) → KeepsElse t (IsOwn t p) p q → KeepsElse t (IsOwn t q) q r → KeepsElse t (IsOwn t p) p r
  then_else t q r own h k = record {
    tabs = λ j ne. k.tabs j ne ∙ h.tabs j ne;
    eight = k.eight ∙ h.eight;
    entries = λ b g o. k.entries b (still b g o) (λ w. o (own b g w)) ∙ h.entries b g o;
    versions = λ b g o. k.versions b (still b g o) (λ w. o (own b g w)) ∙ h.versions b g o;
  }
    where
      still : (b : ℕ) → IsGrowing (entry_at p b) → (IsOwn t p b → ⊥) → IsGrowing (entry_at q b)
      still b g o = subst IsGrowing (sym (h.entries b g o)) g

  taken_own : (t a : ℕ) (x : Entry) → (IsGrowing (entry_at p a) → ⊥) → tab_at p t ≡ Free → (b : ℕ) → IsGrowing (entry_at p b) → IsOwn t (taken_by t a x p) b → IsOwn t p b
  taken_own t a x never free b g w = elim (set_there p.tabs t t (Writing a) Free) [
    | inl h ↦ (let same : Writing a ≡ Writing b = sym h.1 ∙ w in absurd (never (subst (λ (z : ℕ). IsGrowing (entry_at p z)) (sym (anchor_is same)) g)))
    | inr h ↦ sym h ∙ w
  ]
    where
      anchor_is : Writing a ≡ Writing b → a ≡ b
      anchor_is e = cc

  put_keeps_as : (url body : List ℕ) (offer : ℕ) → BeginsAs s 7 url body offer p → KeepsElse 7 (IsOwn 7 p) p (put s url body offer p).after
  put_keeps_as url body offer (BeginsAs.in_use e) = rw e (own_refl 7 s p)
  put_keeps_as url body offer (BeginsAs.long e) = rw e (own_refl 7 s p)
  put_keeps_as url body offer (BeginsAs.busy w e) = rw e (own_refl 7 s p)
  put_keeps_as url body offer (BeginsAs.spent h e) = rw e (own_refl 7 s p)
  put_keeps_as url body offer (BeginsAs.begun free fits able e) = let a = anchor_of (key_of url) s.anchors in let x = entry_of url body offer in let q = taken_by 7 a x p in
      let first : KeepsElse 7 (IsOwn 7 p) p (begin s 7 url body offer p).after = begin_keeps_as 7 url body offer (BeginsAs.begun free fits able e) in
      let same : KeepsElse 7 (IsOwn 7 p) p q = subst (λ (z : Step). KeepsElse 7 (IsOwn 7 p) p z.after) e first in
      rw e (then_else 7 q (end s 7 q).after (taken_own 7 a x (able_not p a able) free) same (end_keeps 7 s q))

  pub put_keeps : (url body : List ℕ) (offer : ℕ) → KeepsElse 7 (IsOwn 7 p) p (put s url body offer p).after
  put_keeps url body offer = put_keeps_as url body offer (begins s 7 url body offer p (tab_at p 7) refl)

  get_as : (Own : ℕ → Type 0) (url : List ℕ) → Opens s url p → KeepsElse 7 Own p (get s url p).after
  get_as Own url (Opens.missed cause e) = rw e (else_refl 7 Own p)
  get_as Own url (Opens.in_use e) = rw e (else_refl 7 Own p)
  get_as Own url (Opens.opened j t e) = rw e (let q = with_tab p 7 (Reading (anchor_of (key_of url) s.anchors) 0 (not (has_url url (entry_at p (anchor_of (key_of url) s.anchors))))) in let r = (more s 7 q).after in
      else_trans 7 Own p q (close 7 r).after (else_tab 7 Own p _) (else_trans 7 Own q r (close 7 r).after (more_else 7 Own s q) (close_else 7 Own s r)))

  pub get_else : (Own : ℕ → Type 0) (url : List ℕ) → KeepsElse 7 Own p (get s url p).after
  get_else Own url = get_as Own url (opens s url p (tab_at p 7) refl)
