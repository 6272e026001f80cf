-- Reading and purging keep entries and versions.
use Rattle.std.proofs.Common.{◌≡◌, ℕ, List, length, refl, true, false}
use Rattle.std.specs.Prelude.{Option, Some, None, not}
use Rattle.script_text.specs.declared.answer.Answer.TheVariants as answer
use Rattle.lock_word.specs.declared.cause.Cause.{Cause}
use Rattle.store_key.specs.Key.{key_of}
use Rattle.store_key.specs.Anchor.{anchor_of}
use Rattle.plain_model.specs.declared.entry.Entry.{Entry}
use Rattle.plain_model.specs.declared.store.Setting.{Setting}
use Rattle.plain_model.specs.declared.store.Tab.{Tab}
use Rattle.plain_model.specs.declared.store.Tab.TheVariants.{Free, Writing, Reading}
use Rattle.plain_model.specs.declared.store.Plain.{Plain}
use Rattle.plain_model.specs.Place.{doomed}
use Rattle.plain_model.specs.Store.{place_at, entry_at, tab_at, with_tab, available}
use Rattle.plain_model.specs.Writing.{step, settle}
use Rattle.plain_model.specs.Reading.{judge, has_url, open_at, open_tab, more, close, doom_at, purge_at, purge, wipe}
use Rattle.plain_model.specs.Serving.{get}
use Rattle.plain_laws.specs.Kept.{Keeps}
use Rattle.plain_laws.proofs.Keeping.{keeps_refl, keeps_trans, keeps_tab, keeps_set, as_doomed, keeps_settle}

keeps_open_at : (s : Setting) (tab a : ℕ) (url : List ℕ) (p : Plain) (o : Option Cause) → judge s p a (key_of url) ≡ o → Keeps p (open_at s tab a url p).after
keeps_open_at s tab a url p None e = rw e (keeps_tab tab (Reading a 0 (not (has_url url (entry_at p a)))) p)
keeps_open_at s tab a url p (Some cause) e = rw e (keeps_refl p)

pub keeps_open : (s : Setting) (tab : ℕ) (url : List ℕ) (p : Plain) (t : Tab) → tab_at p tab ≡ t → Keeps p (open_tab s tab url p).after
keeps_open s tab url p Free t = rw t (keeps_open_at s tab (anchor_of (key_of url) s.anchors) url p (judge s p (anchor_of (key_of url) s.anchors) (key_of url)) refl)
keeps_open s tab url p (Writing a) t = rw t (keeps_refl p)
keeps_open s tab url p (Reading a g o) t = rw t (keeps_refl p)

keeps_more_to : (s : Setting) (tab a given : ℕ) (p : Plain) (o : Option Entry) → entry_at p a ≡ o → tab_at p tab ≡ Reading a given false → Keeps p (more s tab p).after
keeps_more_to s tab a given p None e t = rw (t, e) (keeps_refl p)
keeps_more_to s tab a given p (Some x) e t = rw (t, e) (keeps_tab tab (Reading a (length (available s.room x)) false) p)

pub keeps_more : (s : Setting) (tab : ℕ) (p : Plain) (t : Tab) → tab_at p tab ≡ t → Keeps p (more s tab p).after
keeps_more s tab p Free t = rw t (keeps_refl p)
keeps_more s tab p (Writing a) t = rw t (keeps_refl p)
keeps_more s tab p (Reading a given true) t = rw t (keeps_refl p)
keeps_more s tab p (Reading a given false) t = keeps_more_to s tab a given p (entry_at p a) refl t

pub keeps_close : (tab : ℕ) (p : Plain) (t : Tab) → tab_at p tab ≡ t → Keeps p (close tab p).after
keeps_close tab p Free t = rw t (keeps_refl p)
keeps_close tab p (Writing a) t = rw t (keeps_refl p)
keeps_close tab p (Reading a g o) t = rw t (keeps_trans p (with_tab p tab Free) (settle a (with_tab p tab Free)) (keeps_tab tab Free p) (keeps_settle a (with_tab p tab Free)))

keeps_doom : (a : ℕ) (p : Plain) → Keeps p (doom_at a p)
keeps_doom a p = keeps_set doomed as_doomed a p

pub keeps_purge_at : (s : Setting) (a : ℕ) (wanted : List ℕ) (p : Plain) (o : Option Cause) → judge s p a wanted ≡ o → Keeps p (purge_at s a wanted p).after
keeps_purge_at s a wanted p None e = rw e (keeps_trans p (doom_at a p) (settle a (doom_at a p)) (keeps_doom a p) (keeps_settle a (doom_at a p)))
keeps_purge_at s a wanted p (Some cause) e = rw e (keeps_refl p)

pub keeps_purge : (s : Setting) (url : List ℕ) (p : Plain) → Keeps p (purge s url p).after
keeps_purge s url p = keeps_purge_at s (anchor_of (key_of url) s.anchors) (key_of url) p (judge s p (anchor_of (key_of url) s.anchors) (key_of url)) refl

pub keeps_wipe : (s : Setting) (url : List ℕ) (p : Plain) → Keeps p (wipe s url p).after
keeps_wipe s url p = keeps_purge s url p

-- what opening on tab 7 comes to
pub data Opens (s : Setting) (url : List ℕ) (p : Plain) : Type 0 where
  missed : (cause : Cause) → open_tab s 7 url p ≡ step (answer.Miss cause) p → Opens s url p
  in_use : open_tab s 7 url p ≡ step answer.Tab p → Opens s url p
  opened : judge s p (anchor_of (key_of url) s.anchors) (key_of url) ≡ None → tab_at p 7 ≡ Free
      → open_tab s 7 url p ≡ step (answer.Opened (place_at p (anchor_of (key_of url) s.anchors)).version) (with_tab p 7 (Reading (anchor_of (key_of url) s.anchors) 0 (not (has_url url (entry_at p (anchor_of (key_of url) s.anchors)))))) → Opens s url p

opens_free : (s : Setting) (url : List ℕ) (p : Plain) (o : Option Cause) → judge s p (anchor_of (key_of url) s.anchors) (key_of url) ≡ o → tab_at p 7 ≡ Free → Opens s url p
opens_free s url p None e t = Opens.opened e t (rw (t, e) refl)
opens_free s url p (Some cause) e t = Opens.missed cause (rw (t, e) refl)

pub opens : (s : Setting) (url : List ℕ) (p : Plain) (t : Tab) → tab_at p 7 ≡ t → Opens s url p
opens s url p Free t = opens_free s url p (judge s p (anchor_of (key_of url) s.anchors) (key_of url)) refl t
opens s url p (Writing a) t = Opens.in_use (rw t refl)
opens s url p (Reading a g o) t = Opens.in_use (rw t refl)

keeps_read : (s : Setting) (q : Plain) → Keeps q (close 7 (more s 7 q).after).after
keeps_read s q = keeps_trans q (more s 7 q).after (close 7 (more s 7 q).after).after (keeps_more s 7 q (tab_at q 7) refl)
    (keeps_close 7 (more s 7 q).after (tab_at (more s 7 q).after 7) refl)

keeps_got : (s : Setting) (url : List ℕ) (p : Plain) → Opens s url p → Keeps p (get s url p).after
keeps_got s url p (Opens.missed cause e) = rw e (keeps_refl p)
keeps_got s url p (Opens.in_use e) = rw e (keeps_refl p)
keeps_got s url p (Opens.opened j t e) = rw e
    (keeps_trans p (with_tab p 7 reading) (close 7 (more s 7 (with_tab p 7 reading)).after).after (keeps_tab 7 reading p) (keeps_read s (with_tab p 7 reading)))
  where
    reading : Tab
    reading = Reading (anchor_of (key_of url) s.anchors) 0 (not (has_url url (entry_at p (anchor_of (key_of url) s.anchors))))

pub keeps_get : (s : Setting) (url : List ℕ) (p : Plain) → Keeps p (get s url p).after
keeps_get s url p = keeps_got s url p (opens s url p (tab_at p 7) refl)
