-- Whole requests leave the last tab free, as they found it.
use Rattle.std.proofs.Common.{◌≡◌, ◌⊎◌, inl, inr, ◌∙◌, ℕ, ◌+◌, ◌<◌, ◌≤◌, List, length, get_or, set, refl, sym, ap, subst, arith, true, false, get_or-set_same}
use Rattle.std.specs.Prelude.{Option, Some, None, not}
use Rattle.store_key.specs.Key.{key_of}
use Rattle.store_key.specs.Anchor.{anchor_of}
use Rattle.script_text.specs.Tabs.{IsOnTab}
use Rattle.script_text.specs.declared.line.Line.{Line}
use Rattle.script_text.specs.declared.request.Request.{Request}
use Rattle.script_text.specs.declared.request.Request.TheVariants.{Put, Save, Get, Purge, Wipe, Begin, Add, End, DropTab, OpenTab, More, CloseTab, Mark, Await}
use Rattle.lock_word.specs.declared.cause.Cause.{Cause}
use Rattle.plain_model.specs.declared.entry.Life.{Life}
use Rattle.plain_model.specs.declared.entry.Life.TheVariants.{Whole, GivenUp}
use Rattle.plain_model.specs.declared.entry.Entry.{Entry}
use Rattle.plain_model.specs.declared.entry.Place.{Place}
use Rattle.plain_model.specs.declared.store.Setting.{Setting}
use Rattle.plain_model.specs.declared.store.Tab.{Tab}
use Rattle.plain_model.specs.declared.store.Tab.TheVariants.{Free, Writing, Reading}
use Rattle.plain_model.specs.declared.store.Plain.{Plain}
use Rattle.plain_model.specs.declared.store.Refusal.{Refusal}
use Rattle.plain_model.specs.Place.{nothing, ended}
use Rattle.plain_model.specs.Store.{place_at, entry_at, tab_at, with_tab, is_left_over_at, available}
use Rattle.plain_model.specs.Slots.{Grown}
use Rattle.plain_model.specs.Writing.{Step, settle, close_writer, lacking, append, taken_by, entry_of, unless_refused, last_slot, finish, end}
use Rattle.plain_model.specs.Reading.{judge, has_url, more, close, doom_at, purge_at}
use Rattle.plain_model.specs.Serving.{bytes_of, put, get, serve}
use Rattle.plain_laws.proofs.Choosing.{either}
use Rattle.plain_laws.proofs.Looking.{Opens, opens}
use Rattle.plain_laws.proofs.Beginning.{BeginsAs, begins, set_here}
use Rattle.plain_laws.proofs.Held.{anchor_inside}
use Rattle.plain_laws.proofs.Roomed.{Outcome, InRoom, end_is}
use Rattle.plain_laws.proofs.ReadingRoomed.{more_is, close_is}
use Rattle.plain_laws.proofs.Running.{tab_of, Because}

settled_tabs : (a : ℕ) (p : Plain) → (settle a p).tabs ≡ p.tabs
settled_tabs a p = either (λ (q : Plain). q.tabs ≡ p.tabs) (is_left_over_at p a) _ _ (λ t. refl) (λ t. refl)

set_free : (ts : List Tab) (tab : ℕ) → get_or (set ts tab Free) tab Free ≡ Free
set_free ts tab = elim (set_here ts tab Free Free) [ inl e ↦ e | inr e ↦ e ]

closed_frees : (life : Life) (tab a : ℕ) (p : Plain) → tab_at (close_writer life tab a p) tab ≡ Free
closed_frees life tab a p =
    ap (λ (ts : List Tab). get_or ts tab Free) (settled_tabs a (record p { tabs = set p.tabs tab Free; places = set p.places a (ended life (place_at p a)) }))
    ∙ set_free p.tabs tab

unless_frees : (tab a : ℕ) (next : Plain → Step) (g : Grown) → ((q : Plain) → tab_at (next q).after tab ≡ Free) → (o : Option Refusal) → g.refusal ≡ o → tab_at (unless_refused tab a next g).after tab ≡ Free
unless_frees tab a next g h None e = rw e (h g.store)
unless_frees tab a next g h (Some r) e = rw e (closed_frees GivenUp tab a g.store)

end_frees : (s : Setting) (tab a : ℕ) (p : Plain) (x : Entry) → tab_at p tab ≡ Writing a → entry_at p a ≡ Some x → tab_at (end s tab p).after tab ≡ Free
end_frees s tab a p x t e =
    subst (λ (r : Step). tab_at r.after tab ≡ Free) (sym (end_is s tab a p x t e))
    (unless_frees tab a (λ q. unless_refused tab a (finish tab a) (last_slot s (x.content + lacking x) q)) (append s a (lacking x) x.content p)
    (λ q. unless_frees tab a (finish tab a) (last_slot s (x.content + lacking x) q) (λ r. closed_frees Whole tab a r) (last_slot s (x.content + lacking x) q).refusal refl)
    (append s a (lacking x) x.content p).refusal refl)

-- an end on a tab that is free
end_free : (s : Setting) (tab : ℕ) (p : Plain) → tab_at p tab ≡ Free → tab_at (end s tab p).after tab ≡ Free
end_free s tab p t = rw t t

end_taken : (s : Setting) (a : ℕ) (e : Entry) (p : Plain) → a < length p.places → (tab_at (taken_by 7 a e p) 7 ≡ Writing a) ⊎ (tab_at (taken_by 7 a e p) 7 ≡ Free) → tab_at (end s 7 (taken_by 7 a e p)).after 7 ≡ Free
end_taken s a e p inside (inl t) = end_frees s 7 a (taken_by 7 a e p) e t (ap (λ (x : Place). x.entry) (get_or-set_same p.places a (record { version = p.counter + 1; doom = false; entry = Some e }) nothing inside))
end_taken s a e p inside (inr t) = end_free s 7 (taken_by 7 a e p) t

put_frees : (s : Setting) (url body : List ℕ) (offer : ℕ) (p : Plain) → tab_at p 7 ≡ Free → anchor_of (key_of url) s.anchors < length p.places → BeginsAs s 7 url body offer p → tab_at (put s url body offer p).after 7 ≡ Free
put_frees s url body offer p free inside (BeginsAs.in_use e) = rw e free
put_frees s url body offer p free inside (BeginsAs.long e) = rw e free
put_frees s url body offer p free inside (BeginsAs.busy w e) = rw e free
put_frees s url body offer p free inside (BeginsAs.spent out e) = rw e free
put_frees s url body offer p free inside (BeginsAs.begun t fits able e) = rw e
    (end_taken s (anchor_of (key_of url) s.anchors) (entry_of url body offer) p inside (set_here p.tabs 7 (Writing (anchor_of (key_of url) s.anchors)) Free))

-- the tab does not write
abbrev WritesNot : ℕ → Plain → Type 0
WritesNot tab p = (b : ℕ) → tab_at p tab ≡ Writing b → ⊥

more_to_not : (s : Setting) (tab a given : ℕ) (p : Plain) → WritesNot tab p → (o : Option Entry) → entry_at p a ≡ o → tab_at p tab ≡ Reading a given false → WritesNot tab (more s tab p).after
more_to_not s tab a given p h None e t = subst (λ (q : Plain). WritesNot tab q) (sym same) h
  where
    same : (more s tab p).after ≡ p
    same = rw (t, e) refl
more_to_not s tab a given p h (Some x) e t = subst (λ (r : Step). WritesNot tab r.after) (sym (more_is s tab a given p x e t))
    (λ b w. elim (set_here p.tabs tab (Reading a (length (available s.room x)) false) Free) [
      | inl k ↦ (let no : Reading a (length (available s.room x)) false ≡ Writing b = sym k ∙ w in cc)
      | inr k ↦ (let no : Free ≡ Writing b = sym k ∙ w in cc)
    ])

more_not : (s : Setting) (tab : ℕ) (p : Plain) → WritesNot tab p → (t : Tab) → tab_at p tab ≡ t → WritesNot tab (more s tab p).after
more_not s tab p h Free t = subst (λ (q : Plain). WritesNot tab q) (sym same) h
  where
    same : (more s tab p).after ≡ p
    same = rw t refl
more_not s tab p h (Writing a) t = absurd (h a t)
more_not s tab p h (Reading a given true) t = subst (λ (q : Plain). WritesNot tab q) (sym same) h
  where
    same : (more s tab p).after ≡ p
    same = rw t refl
more_not s tab p h (Reading a given false) t = more_to_not s tab a given p h (entry_at p a) refl t

close_frees : (tab : ℕ) (p : Plain) → WritesNot tab p → (t : Tab) → tab_at p tab ≡ t → tab_at (close tab p).after tab ≡ Free
close_frees tab p h Free t = rw t t
close_frees tab p h (Writing a) t = absurd (h a t)
close_frees tab p h (Reading a g o) t = subst (λ (r : Step). tab_at r.after tab ≡ Free) (sym (close_is tab a g o p t))
    (ap (λ (ts : List Tab). get_or ts tab Free) (settled_tabs a (with_tab p tab Free)) ∙ set_free p.tabs tab)

get_frees : (s : Setting) (url : List ℕ) (p : Plain) → tab_at p 7 ≡ Free → Opens s url p → tab_at (get s url p).after 7 ≡ Free
get_frees s url p free (Opens.missed cause e) = rw e free
get_frees s url p free (Opens.in_use e) = rw e free
get_frees s url p free (Opens.opened j t e) = rw e (close_frees 7 (more s 7 q).after (more_not s 7 q not_yet (tab_at q 7) refl) (tab_at (more s 7 q).after 7) refl)
  where
    anchor : ℕ
    anchor = anchor_of (key_of url) s.anchors

    reading : Tab
    reading = Reading anchor 0 (not (has_url url (entry_at p anchor)))

    q : Plain
    q = with_tab p 7 reading

    not_yet : WritesNot 7 q
    not_yet b w = elim (set_here p.tabs 7 reading Free) [
      | inl k ↦ (let no : Reading anchor 0 (not (has_url url (entry_at p anchor))) ≡ Writing b = sym k ∙ w in cc)
      | inr k ↦ (let no : Free ≡ Writing b = sym k ∙ w in cc)
    ]

purge_tabs : (s : Setting) (a : ℕ) (wanted : List ℕ) (p : Plain) (o : Option Cause) → judge s p a wanted ≡ o → (purge_at s a wanted p).after.tabs ≡ p.tabs
purge_tabs s a wanted p None e = rw e (settled_tabs a (doom_at a p))
purge_tabs s a wanted p (Some cause) e = rw e refl

-- a request on a tab of a script leaves the last one as it is
other_tab : (s : Setting) (cap : ℕ → ℕ) (tab : ℕ) (p : Plain) (Why : ℕ → Type 0) (r : Step) → tab ≤ 6 → Outcome s cap tab p Why r → tab_at r.after 7 ≡ tab_at p 7
other_tab s cap tab p Why r low (Outcome.still e fine) = ap (λ (q : Plain). tab_at q 7) e
other_tab s cap tab p Why r low (Outcome.moved a why stays place fine) = stays.others 7 (λ e. absurd (omega arith))

pub last_free : (s : Setting) (cap : ℕ → ℕ) (script : List Line) (worker number : ℕ) (request : Request) (p : Plain) → InRoom s cap p → tab_at p 7 ≡ Free → IsOnTab request
    → Outcome s cap (tab_of request) p (Because s p request) (serve s script (record { worker = worker; number = number; request = request }) p)
    → tab_at (serve s script (record { worker = worker; number = number; request = request }) p).after 7 ≡ Free
last_free s cap script w n (Put url made) p h free on out =
    put_frees s url (bytes_of made) (s.slots + n) p free (anchor_inside s url p h.some h.are) (begins s 7 url (bytes_of made) (s.slots + n) p (tab_at p 7) refl)
last_free s cap script w n (Save url made) p h free on out =
    put_frees s url (bytes_of made) (s.slots + n) p free (anchor_inside s url p h.some h.are) (begins s 7 url (bytes_of made) (s.slots + n) p (tab_at p 7) refl)
last_free s cap script w n (Get url) p h free on out = get_frees s url p free (opens s url p (tab_at p 7) refl)
last_free s cap script w n (Purge url) p h free on out =
    ap (λ (ts : List Tab). get_or ts 7 Free) (purge_tabs s (anchor_of (key_of url) s.anchors) (key_of url) p (judge s p (anchor_of (key_of url) s.anchors) (key_of url)) refl) ∙ free
last_free s cap script w n (Wipe url) p h free on out =
    ap (λ (ts : List Tab). get_or ts 7 Free) (purge_tabs s (anchor_of (key_of url) s.anchors) (key_of url) p (judge s p (anchor_of (key_of url) s.anchors) (key_of url)) refl) ∙ free
last_free s cap script w n (Begin tab url made) p h free on out = other_tab s cap tab p (Because s p (Begin tab url made)) (serve s script (record { worker = w; number = n; request = Begin tab url made }) p) on out ∙ free
last_free s cap script w n (Add tab count) p h free on out = other_tab s cap tab p (Because s p (Add tab count)) (serve s script (record { worker = w; number = n; request = Add tab count }) p) on out ∙ free
last_free s cap script w n (End tab) p h free on out = other_tab s cap tab p (Because s p (End tab)) (serve s script (record { worker = w; number = n; request = End tab }) p) on out ∙ free
last_free s cap script w n (DropTab tab) p h free on out = other_tab s cap tab p (Because s p (DropTab tab)) (serve s script (record { worker = w; number = n; request = DropTab tab }) p) on out ∙ free
last_free s cap script w n (OpenTab tab url) p h free on out = other_tab s cap tab p (Because s p (OpenTab tab url)) (serve s script (record { worker = w; number = n; request = OpenTab tab url }) p) on out ∙ free
last_free s cap script w n (More tab) p h free on out = other_tab s cap tab p (Because s p (More tab)) (serve s script (record { worker = w; number = n; request = More tab }) p) on out ∙ free
last_free s cap script w n (CloseTab tab) p h free on out = other_tab s cap tab p (Because s p (CloseTab tab)) (serve s script (record { worker = w; number = n; request = CloseTab tab }) p) on out ∙ free
last_free s cap script w n (Mark mark) p h free on out = free
last_free s cap script w n (Await mark) p h free on out = free
