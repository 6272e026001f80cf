-- Requests that read are answered alike by stores that agree.
use Rattle.std.proofs.Common.{◌≡◌, ◌∙◌, ℕ, List, length, refl, sym, ap, subst, Bool, true, false, cond}
use Rattle.std.specs.Prelude.{Option, Some, None, not, drop}
use Rattle.std.specs.Str.{bytes_eq}
use Rattle.store_key.specs.Key.{key_of}
use Rattle.store_key.specs.Anchor.{anchor_of}
use Rattle.lock_word.specs.declared.stage.Stage.{Stage}
use Rattle.lock_word.specs.declared.stage.Stage.TheVariants as stage
use Rattle.lock_word.specs.declared.epoch.Epoch.{Epoch}
use Rattle.lock_word.specs.declared.cause.Cause.{Cause}
use Rattle.lock_word.specs.declared.cause.Cause.TheVariants.{Absent, OtherKey}
use Rattle.lock_word.specs.Cause.{cause_of}
use Rattle.script_text.specs.declared.answer.Answer.{Answer}
use Rattle.script_text.specs.declared.answer.Answer.TheVariants as answer
use Rattle.plain_model.specs.declared.entry.Life.{Life}
use Rattle.plain_model.specs.declared.entry.Life.TheVariants.{Growing, Whole, GivenUp}
use Rattle.plain_model.specs.declared.entry.Entry.{Entry}
use Rattle.plain_model.specs.declared.entry.Place.{Place}
use Rattle.plain_model.specs.declared.store.Setting.{Setting}
use Rattle.plain_model.specs.declared.store.Tab.{Tab}
use Rattle.plain_model.specs.declared.store.Tab.TheVariants.{Free, Writing, Reading}
use Rattle.plain_model.specs.declared.store.Plain.{Plain}
use Rattle.plain_model.specs.Place.{doomed}
use Rattle.plain_model.specs.Store.{place_at, entry_at, tab_at, with_tab, epoch_of, available}
use Rattle.plain_model.specs.Writing.{Step, step, settle}
use Rattle.plain_model.specs.Reading.{judge, has_url, open_at, open_tab, told, more, close, doom_at, purge_at, purge, goes_doomed, wiped_by, wipe}
use Rattle.plain_model.specs.Serving.{hit_by, get}
use Rattle.plain_laws.specs.Renaming.{renamed, renamed_epoch, renamed_cause}
use Rattle.plain_laws.proofs.Roomed.{IsAt}
use Rattle.plain_laws.proofs.ReadingRoomed.{more_is, close_is}
use Rattle.plain_laws.proofs.Agreeing.{KeepsNone, Agree, Alike, epoch_alike, entry_alike, agree_tab, agree_free, agree_place, left_over_alike, settle_agree, not_idle}

abbrev pub renamed_verdict : (ℕ → ℕ) → Option Cause → Option Cause
renamed_verdict rename None = None
renamed_verdict rename (Some cause) = Some (renamed_cause rename cause)

-- a look-up finds the same cause
other_key : (rename : ℕ → ℕ) (e : Epoch) (key : List ℕ) (b : Bool) → cond b None (Some (OtherKey (renamed_epoch rename e) key)) ≡ renamed_verdict rename (cond b None (Some (OtherKey e key)))
other_key rename e key true = refl
other_key rename e key false = refl

cause_at : (rename : ℕ → ℕ) (v : ℕ) (doom : Bool) (s : Stage) (key wanted : List ℕ)
    → cause_of (record { version = rename v; doom = doom; stage = s }) key wanted ≡ renamed_verdict rename (cause_of (record { version = v; doom = doom; stage = s }) key wanted)
cause_at rename v doom stage.Empty key wanted = refl
cause_at rename v doom stage.Gone key wanted = refl
cause_at rename v doom stage.Taken key wanted = refl
cause_at rename v true stage.Appending key wanted = refl
cause_at rename v true stage.Closed key wanted = refl
cause_at rename v true stage.Halted key wanted = refl
cause_at rename v true stage.Freeing key wanted = refl
cause_at rename v false stage.Halted key wanted = refl
cause_at rename v false stage.Freeing key wanted = refl
cause_at rename v false stage.Appending key wanted = other_key rename (record { version = v; doom = false; stage = stage.Appending }) key (bytes_eq key wanted)
cause_at rename v false stage.Closed key wanted = other_key rename (record { version = v; doom = false; stage = stage.Closed }) key (bytes_eq key wanted)

-- what is judged by an epoch and an entry
abbrev judged : Epoch → Option Entry → List ℕ → Option Cause
judged epoch None wanted = Some (Absent epoch)
judged epoch (Some e) wanted = cause_of epoch e.key wanted

judged_alike : (rename : ℕ → ℕ) (epoch : Epoch) (o : Option Entry) (wanted : List ℕ) → judged (renamed_epoch rename epoch) o wanted ≡ renamed_verdict rename (judged epoch o wanted)
judged_alike rename epoch None wanted = refl
judged_alike rename epoch (Some e) wanted = cause_at rename epoch.version epoch.doom epoch.stage e.key wanted

judge_when : (s : Setting) (p : Plain) (a : ℕ) (wanted : List ℕ) (epoch : Epoch) (o : Option Entry) → epoch_of s.room (place_at p a) ≡ epoch → entry_at p a ≡ o → judge s p a wanted ≡ judged epoch o wanted
judge_when s p a wanted epoch None h e = rw e (ap (λ (x : Epoch). Some (Absent x)) h)
judge_when s p a wanted epoch (Some x) h e = rw e (ap (λ (y : Epoch). cause_of y x.key wanted) h)

judge_is : (s : Setting) (p : Plain) (a : ℕ) (wanted : List ℕ) → judge s p a wanted ≡ judged (epoch_of s.room (place_at p a)) (entry_at p a) wanted
judge_is s p a wanted = judge_when s p a wanted (epoch_of s.room (place_at p a)) (entry_at p a) refl refl

pub judge_alike : (rename : ℕ → ℕ) (own mine : ℕ → Bool) (s : Setting) (a : ℕ) (wanted : List ℕ) (p q : Plain) → KeepsNone rename → Agree rename own mine p q → own a ≡ true
    → judge s p a wanted ≡ renamed_verdict rename (judge s q a wanted)
judge_alike rename own mine s a wanted p q k h o =
    judge_is s p a wanted
    ∙ ap (λ (e : Epoch). judged e (entry_at p a) wanted) (epoch_alike rename own mine s a p q k h o)
    ∙ ap (λ (x : Option Entry). judged (renamed_epoch rename (epoch_of s.room (place_at q a))) x wanted) (entry_alike rename own mine a p q h o)
    ∙ judged_alike rename (epoch_of s.room (place_at q a)) (entry_at q a) wanted
    ∙ ap (renamed_verdict rename) (sym (judge_is s q a wanted))

-- opening
reading_at : (a n : ℕ) (other : Bool) (own : ℕ → Bool) (b : Bool) → own a ≡ b → (c : ℕ) → IsAt c (Reading a n other) → own c ≡ b
reading_at a n other own b o c at = ap own (sym at) ∙ o

abbrev pub opened_tab : Plain → ℕ → List ℕ → Tab
opened_tab p a url = Reading a 0 (not (has_url url (entry_at p a)))

pub opened_agree : (rename : ℕ → ℕ) (own mine : ℕ → Bool) (tab a : ℕ) (url : List ℕ) (p q : Plain) → Agree rename own mine p q → own a ≡ true → mine tab ≡ true
    → Agree rename own mine (with_tab p tab (opened_tab p a url)) (with_tab q tab (opened_tab q a url))
opened_agree rename own mine tab a url p q h o m =
    subst (λ (x : Tab). Agree rename own mine (with_tab p tab x) (with_tab q tab (opened_tab q a url))) (sym same)
    (agree_tab rename own mine tab (opened_tab q a url) p q h (reading_at a 0 (not (has_url url (entry_at q a))) own (mine tab) (o ∙ sym m)) (not_idle mine tab (opened_tab q a url) m))
  where
    same : opened_tab p a url ≡ opened_tab q a url
    same = ap (λ (e : Option Entry). Reading a 0 (not (has_url url e))) (entry_alike rename own mine a p q h o)

open_at_alike : (rename : ℕ → ℕ) (own mine : ℕ → Bool) (s : Setting) (tab a : ℕ) (url : List ℕ) (p q : Plain) → Agree rename own mine p q → own a ≡ true → mine tab ≡ true
    → (v : Option Cause) → judge s q a (key_of url) ≡ v → judge s p a (key_of url) ≡ renamed_verdict rename v → Alike rename own mine (open_at s tab a url p) (open_at s tab a url q)
open_at_alike rename own mine s tab a url p q h o m None j i =
    rw (j, i) (record { answer = ap (λ (x : Place). answer.Opened x.version) (h.places a o); agree = opened_agree rename own mine tab a url p q h o m })
open_at_alike rename own mine s tab a url p q h o m (Some cause) j i = rw (j, i) (record { answer = refl; agree = h })

pub open_alike : (rename : ℕ → ℕ) (own mine : ℕ → Bool) (s : Setting) (tab : ℕ) (url : List ℕ) (p q : Plain) → KeepsNone rename → Agree rename own mine p q → own (anchor_of (key_of url) s.anchors) ≡ true → mine tab ≡ true
    → (t : Tab) → tab_at q tab ≡ t → tab_at p tab ≡ t → Alike rename own mine (open_tab s tab url p) (open_tab s tab url q)
open_alike rename own mine s tab url p q k h o m (Writing a) t u = rw (t, u) (record { answer = refl; agree = h })
open_alike rename own mine s tab url p q k h o m (Reading a g other) t u = rw (t, u) (record { answer = refl; agree = h })
open_alike rename own mine s tab url p q k h o m Free t u = rw (t, u)
    (open_at_alike rename own mine s tab (anchor_of (key_of url) s.anchors) url p q h o m (judge s q (anchor_of (key_of url) s.anchors) (key_of url)) refl
    (judge_alike rename own mine s (anchor_of (key_of url) s.anchors) (key_of url) p q k h o))

-- reading on
told_alike : (rename : ℕ → ℕ) (life : Life) (epoch : Epoch) (bytes : List ℕ) → told life (renamed_epoch rename epoch) bytes ≡ renamed rename (told life epoch bytes)
told_alike rename Growing epoch bytes = refl
told_alike rename Whole epoch bytes = refl
told_alike rename GivenUp epoch bytes = refl

read_alike : (rename : ℕ → ℕ) (own mine : ℕ → Bool) (s : Setting) (tab a given : ℕ) (x : Entry) (p q : Plain) → KeepsNone rename → Agree rename own mine p q → own a ≡ true → mine tab ≡ true
    → Alike rename own mine (step (told x.life (epoch_of s.room (place_at p a)) (drop given (available s.room x))) (with_tab p tab (Reading a (length (available s.room x)) false)))
    (step (told x.life (epoch_of s.room (place_at q a)) (drop given (available s.room x))) (with_tab q tab (Reading a (length (available s.room x)) false)))
read_alike rename own mine s tab a given x p q k h o m = record {
  answer = ap (λ (e : Epoch). told x.life e (drop given (available s.room x))) (epoch_alike rename own mine s a p q k h o) ∙ told_alike rename x.life (epoch_of s.room (place_at q a)) (drop given (available s.room x));
  agree = agree_tab rename own mine tab (Reading a (length (available s.room x)) false) p q h (reading_at a (length (available s.room x)) false own (mine tab) (o ∙ sym m))
      (not_idle mine tab (Reading a (length (available s.room x)) false) m);
}

more_nothing : (s : Setting) (tab a given : ℕ) (p : Plain) → entry_at p a ≡ None → tab_at p tab ≡ Reading a given false → more s tab p ≡ step answer.Tab p
more_nothing s tab a given p e t = rw (t, e) refl

more_to : (rename : ℕ → ℕ) (own mine : ℕ → Bool) (s : Setting) (tab a given : ℕ) (p q : Plain) → KeepsNone rename → Agree rename own mine p q → own a ≡ true → mine tab ≡ true
    → (e : Option Entry) → entry_at q a ≡ e → entry_at p a ≡ e → tab_at q tab ≡ Reading a given false → tab_at p tab ≡ Reading a given false → Alike rename own mine (more s tab p) (more s tab q)
more_to rename own mine s tab a given p q k h o m None e d t u =
    subst (λ (r : Step). Alike rename own mine r (more s tab q)) (sym (more_nothing s tab a given p d u))
    (subst (λ (r : Step). Alike rename own mine (step answer.Tab p) r) (sym (more_nothing s tab a given q e t)) (record { answer = refl; agree = h }))
more_to rename own mine s tab a given p q k h o m (Some x) e d t u =
    subst (λ (r : Step). Alike rename own mine r (more s tab q)) (sym (more_is s tab a given p x d u))
    (subst (λ (r : Step). Alike rename own mine (step (told x.life (epoch_of s.room (place_at p a)) (drop given (available s.room x))) (with_tab p tab (Reading a (length (available s.room x)) false))) r) (sym (more_is s tab a given q x e t))
    (read_alike rename own mine s tab a given x p q k h o m))

-- the tab is at an own anchor
at_own : (rename : ℕ → ℕ) (own mine : ℕ → Bool) (tab a : ℕ) (p q : Plain) (t : Tab) → Agree rename own mine p q → mine tab ≡ true → tab_at q tab ≡ t → IsAt a t → own a ≡ true
at_own rename own mine tab a p q t h m e at = h.right tab a (subst (λ (x : Tab). IsAt a x) (sym e) at) ∙ m

pub more_alike : (rename : ℕ → ℕ) (own mine : ℕ → Bool) (s : Setting) (tab : ℕ) (p q : Plain) → KeepsNone rename → Agree rename own mine p q → mine tab ≡ true → (t : Tab) → tab_at q tab ≡ t → tab_at p tab ≡ t
    → Alike rename own mine (more s tab p) (more s tab q)
more_alike rename own mine s tab p q k h m Free t u = rw (t, u) (record { answer = refl; agree = h })
more_alike rename own mine s tab p q k h m (Writing a) t u = rw (t, u) (record { answer = refl; agree = h })
more_alike rename own mine s tab p q k h m (Reading a given true) t u = rw (t, u) (record { answer = refl; agree = h })
more_alike rename own mine s tab p q k h m (Reading a given false) t u =
    let o : own a ≡ true = at_own rename own mine tab a p q (Reading a given false) h m t refl in
    more_to rename own mine s tab a given p q k h o m (entry_at q a) refl (entry_alike rename own mine a p q h o) t u

-- closing
pub close_alike : (rename : ℕ → ℕ) (own mine : ℕ → Bool) (tab : ℕ) (p q : Plain) → Agree rename own mine p q → mine tab ≡ true → (t : Tab) → tab_at q tab ≡ t → tab_at p tab ≡ t
    → Alike rename own mine (close tab p) (close tab q)
close_alike rename own mine tab p q h m Free t u = rw (t, u) (record { answer = refl; agree = h })
close_alike rename own mine tab p q h m (Writing a) t u = rw (t, u) (record { answer = refl; agree = h })
close_alike rename own mine tab p q h m (Reading a given other) t u =
    subst (λ (r : Step). Alike rename own mine r (close tab q)) (sym (close_is tab a given other p u))
    (subst (λ (r : Step). Alike rename own mine (step answer.Closed (settle a (with_tab p tab Free))) r) (sym (close_is tab a given other q t))
    (record {
      answer = refl;
      agree = settle_agree rename own mine a (with_tab p tab Free) (with_tab q tab Free) (agree_free rename own mine tab p q h) (at_own rename own mine tab a p q (Reading a given other) h m t refl);
    }))

-- purging
doom_agree : (rename : ℕ → ℕ) (own mine : ℕ → Bool) (a : ℕ) (p q : Plain) → Agree rename own mine p q → own a ≡ true → Agree rename own mine (doom_at a p) (doom_at a q)
doom_agree rename own mine a p q h o = agree_place rename own mine a (doomed (place_at p a)) (doomed (place_at q a)) p q h (ap doomed (h.places a o))

purge_at_alike : (rename : ℕ → ℕ) (own mine : ℕ → Bool) (s : Setting) (a : ℕ) (wanted : List ℕ) (p q : Plain) → KeepsNone rename → Agree rename own mine p q → own a ≡ true
    → (v : Option Cause) → judge s q a wanted ≡ v → judge s p a wanted ≡ renamed_verdict rename v → Alike rename own mine (purge_at s a wanted p) (purge_at s a wanted q)
purge_at_alike rename own mine s a wanted p q k h o None j i =
    let d : Agree rename own mine (doom_at a p) (doom_at a q) = doom_agree rename own mine a p q h o in
    rw (j, i) (record {
      answer = ap answer.Purged (epoch_alike rename own mine s a (doom_at a p) (doom_at a q) k d o);
      agree = settle_agree rename own mine a (doom_at a p) (doom_at a q) d o;
    })
purge_at_alike rename own mine s a wanted p q k h o (Some cause) j i = rw (j, i) (record { answer = refl; agree = h })

pub purge_alike : (rename : ℕ → ℕ) (own mine : ℕ → Bool) (s : Setting) (url : List ℕ) (p q : Plain) → KeepsNone rename → Agree rename own mine p q → own (anchor_of (key_of url) s.anchors) ≡ true
    → Alike rename own mine (purge s url p) (purge s url q)
purge_alike rename own mine s url p q k h o = purge_at_alike rename own mine s (anchor_of (key_of url) s.anchors) (key_of url) p q k h o (judge s q (anchor_of (key_of url) s.anchors) (key_of url)) refl
    (judge_alike rename own mine s (anchor_of (key_of url) s.anchors) (key_of url) p q k h o)

-- wiping
wiped_renamed : (rename : ℕ → ℕ) (goes : Bool) (epoch : Epoch) → wiped_by goes (answer.Purged (renamed_epoch rename epoch)) ≡ renamed rename (wiped_by goes (answer.Purged epoch))
wiped_renamed rename true epoch = refl
wiped_renamed rename false epoch = refl

none_renamed : (rename : ℕ → ℕ) (left right : Bool) (cause : Cause) → wiped_by left (answer.NoEntry (renamed_cause rename cause)) ≡ renamed rename (wiped_by right (answer.NoEntry cause))
none_renamed rename true true cause = refl
none_renamed rename true false cause = refl
none_renamed rename false true cause = refl
none_renamed rename false false cause = refl

wipe_at_alike : (rename : ℕ → ℕ) (own mine : ℕ → Bool) (s : Setting) (a : ℕ) (wanted : List ℕ) (left right : Bool) (p q : Plain) → KeepsNone rename → Agree rename own mine p q → own a ≡ true
    → left ≡ right → (v : Option Cause) → judge s q a wanted ≡ v → judge s p a wanted ≡ renamed_verdict rename v
    → Alike rename own mine (step (wiped_by left (purge_at s a wanted p).answer) (purge_at s a wanted p).after) (step (wiped_by right (purge_at s a wanted q).answer) (purge_at s a wanted q).after)
wipe_at_alike rename own mine s a wanted left right p q k h o same None j i =
    let d : Agree rename own mine (doom_at a p) (doom_at a q) = doom_agree rename own mine a p q h o in
    rw (j, i) (record {
      answer = ap (λ (e : Epoch). wiped_by left (answer.Purged e)) (epoch_alike rename own mine s a (doom_at a p) (doom_at a q) k d o)
          ∙ ap (λ (b : Bool). wiped_by b (answer.Purged (renamed_epoch rename (epoch_of s.room (place_at (doom_at a q) a))))) same
          ∙ wiped_renamed rename right (epoch_of s.room (place_at (doom_at a q) a));
      agree = settle_agree rename own mine a (doom_at a p) (doom_at a q) d o;
    })
wipe_at_alike rename own mine s a wanted left right p q k h o same (Some cause) j i = rw (j, i) (record { answer = none_renamed rename left right cause; agree = h })

pub wipe_alike : (rename : ℕ → ℕ) (own mine : ℕ → Bool) (s : Setting) (url : List ℕ) (p q : Plain) → KeepsNone rename → Agree rename own mine p q → own (anchor_of (key_of url) s.anchors) ≡ true
    → Alike rename own mine (wipe s url p) (wipe s url q)
wipe_alike rename own mine s url p q k h o = wipe_at_alike rename own mine s a (key_of url) (goes_doomed a p) (goes_doomed a q) p q k h o
    (left_over_alike rename own mine a (doom_at a p) (doom_at a q) (doom_agree rename own mine a p q h o) o) (judge s q a (key_of url)) refl (judge_alike rename own mine s a (key_of url) p q k h o)
  where
    a : ℕ
    a = anchor_of (key_of url) s.anchors

-- reading at once
abbrev got : Setting → ℕ → List ℕ → Plain → Step
got s a url p = step (hit_by (place_at p a).version (more s 7 (with_tab p 7 (opened_tab p a url))).answer) (close 7 (more s 7 (with_tab p 7 (opened_tab p a url))).after).after

get_hits : (s : Setting) (url : List ℕ) (p : Plain) → tab_at p 7 ≡ Free → judge s p (anchor_of (key_of url) s.anchors) (key_of url) ≡ None → get s url p ≡ got s (anchor_of (key_of url) s.anchors) url p
get_hits s url p t j = rw (t, j) refl

get_misses : (s : Setting) (url : List ℕ) (p : Plain) (cause : Cause) → tab_at p 7 ≡ Free → judge s p (anchor_of (key_of url) s.anchors) (key_of url) ≡ Some cause → get s url p ≡ step (answer.Miss cause) p
get_misses s url p cause t j = rw (t, j) refl

hit_alike : (rename : ℕ → ℕ) (version : ℕ) (a : Answer) → hit_by (rename version) (renamed rename a) ≡ renamed rename (hit_by version a)
hit_alike rename version (answer.End bytes) = refl
hit_alike rename version a = refl

got_alike : (rename : ℕ → ℕ) (own mine : ℕ → Bool) (s : Setting) (a : ℕ) (url : List ℕ) (p q : Plain) → KeepsNone rename → Agree rename own mine p q → own a ≡ true → mine 7 ≡ true
    → Alike rename own mine (got s a url p) (got s a url q)
got_alike rename own mine s a url p q k h o m = record {
  answer = ap (λ (x : Place). hit_by x.version (more s 7 p1).answer) (h.places a o)
      ∙ (ap (hit_by (rename (place_at q a).version)) read.answer ∙ hit_alike rename (place_at q a).version (more s 7 q1).answer);
  agree = closed.agree;
}
  where
    p1 : Plain
    p1 = with_tab p 7 (opened_tab p a url)

    q1 : Plain
    q1 = with_tab q 7 (opened_tab q a url)

    opened : Agree rename own mine p1 q1
    opened = opened_agree rename own mine 7 a url p q h o m

    read : Alike rename own mine (more s 7 p1) (more s 7 q1)
    read = more_alike rename own mine s 7 p1 q1 k opened m (tab_at q1 7) refl (opened.tabs 7 m)

    closed : Alike rename own mine (close 7 (more s 7 p1).after) (close 7 (more s 7 q1).after)
    closed = close_alike rename own mine 7 (more s 7 p1).after (more s 7 q1).after read.agree m (tab_at (more s 7 q1).after 7) refl (read.agree.tabs 7 m)

get_by : (rename : ℕ → ℕ) (own mine : ℕ → Bool) (s : Setting) (url : List ℕ) (p q : Plain) → KeepsNone rename → Agree rename own mine p q → own (anchor_of (key_of url) s.anchors) ≡ true → mine 7 ≡ true
    → tab_at p 7 ≡ Free → tab_at q 7 ≡ Free
    → (v : Option Cause) → judge s q (anchor_of (key_of url) s.anchors) (key_of url) ≡ v → judge s p (anchor_of (key_of url) s.anchors) (key_of url) ≡ renamed_verdict rename v → Alike rename own mine (get s url p) (get s url q)
get_by rename own mine s url p q k h o m t u None j i =
    subst (λ (r : Step). Alike rename own mine r (get s url q)) (sym (get_hits s url p t i))
    (subst (λ (r : Step). Alike rename own mine (got s (anchor_of (key_of url) s.anchors) url p) r) (sym (get_hits s url q u j)) (got_alike rename own mine s (anchor_of (key_of url) s.anchors) url p q k h o m))
get_by rename own mine s url p q k h o m t u (Some cause) j i =
    subst (λ (r : Step). Alike rename own mine r (get s url q)) (sym (get_misses s url p (renamed_cause rename cause) t i))
    (subst (λ (r : Step). Alike rename own mine (step (answer.Miss (renamed_cause rename cause)) p) r) (sym (get_misses s url q cause u j)) (record { answer = refl; agree = h }))

pub get_alike : (rename : ℕ → ℕ) (own mine : ℕ → Bool) (s : Setting) (url : List ℕ) (p q : Plain) → KeepsNone rename → Agree rename own mine p q → own (anchor_of (key_of url) s.anchors) ≡ true → mine 7 ≡ true
    → tab_at p 7 ≡ Free → tab_at q 7 ≡ Free → Alike rename own mine (get s url p) (get s url q)
get_alike rename own mine s url p q k h o m t u = get_by rename own mine s url p q k h o m t u (judge s q (anchor_of (key_of url) s.anchors) (key_of url)) refl
    (judge_alike rename own mine s (anchor_of (key_of url) s.anchors) (key_of url) p q k h o)
