-- Requests that read, where there is room.
use Rattle.std.proofs.Common.{◌≡◌, ◌⊎◌, inl, inr, ◌∙◌, ℕ, List, length, drop, refl, sym, ap, subst, arith, Bool, true, false}
use Rattle.std.specs.Prelude.{Option, Some, None, not, ◌==◌}
use Rattle.std.proofs.lemmas.Bool.Decides.{nat_tests}
use Rattle.plain_model.specs.declared.entry.Life.{Life}
use Rattle.plain_model.specs.declared.entry.Life.TheVariants.{Growing, Whole, GivenUp}
use Rattle.plain_model.specs.declared.entry.Entry.{Entry}
use Rattle.plain_model.specs.declared.entry.Place.{Place}
use Rattle.plain_model.specs.declared.store.Setting.{Setting}
use Rattle.plain_model.specs.declared.store.Tab.{Tab}
use Rattle.plain_model.specs.declared.store.Tab.TheVariants.{Free, Writing, Reading}
use Rattle.plain_model.specs.declared.store.Plain.{Plain}
use Rattle.plain_model.specs.Place.{doomed}
use Rattle.plain_model.specs.Store.{place_at, entry_at, tab_at, with_tab}
use Rattle.store_key.specs.Key.{key_of}
use Rattle.store_key.specs.Anchor.{anchor_of}
use Rattle.lock_word.specs.declared.cause.Cause.{Cause}
use Rattle.lock_word.specs.declared.epoch.Epoch.{Epoch}
use Rattle.script_text.specs.declared.answer.Answer.{Answer}
use Rattle.script_text.specs.declared.answer.Answer.TheVariants as answer
use Rattle.plain_model.specs.Store.{available, epoch_of, stage_of}
use Rattle.plain_model.specs.Writing.{Step, step, settle}
use Rattle.plain_model.specs.Reading.{judge, has_url, open_at, open_tab, told, more, close, doom_at, purge_at, purge, goes_doomed, wiped_by, wipe}
use Rattle.plain_model.specs.Serving.{hit_by, get}
use Rattle.plain_laws.specs.Fitting.{HadRoom}
use Rattle.plain_laws.proofs.Staying.{IsOn, Stays, stays_refl, stays_trans, stays_set, stays_tab, stays_settle}
use Rattle.plain_laws.proofs.Fitted.{PlaceFits, fits_doomed}
use Rattle.plain_laws.proofs.Roomed.{Outcome, IsAt, fits_changed, fits_settled}
use Rattle.plain_laws.proofs.Beginning.{set_here}
use Rattle.plain_laws.proofs.Looking.{Opens}

abbrev pub AllFit : Setting → (ℕ → ℕ) → Plain → Type 0
AllFit s cap p = (a : ℕ) → PlaceFits s (cap a) (place_at p a)

abbrev pub IsUrlAt : Setting → List ℕ → ℕ → Type 0
IsUrlAt s url a = anchor_of (key_of url) s.anchors ≡ a

open_at_room : (s : Setting) (cap : ℕ → ℕ) (tab : ℕ) (url : List ℕ) (p : Plain) → AllFit s cap p → (o : Option Cause) → judge s p (anchor_of (key_of url) s.anchors) (key_of url) ≡ o
    → Outcome s cap tab p (IsUrlAt s url) (open_at s tab (anchor_of (key_of url) s.anchors) url p)
open_at_room s cap tab url p h None e = rw e (Outcome.moved (anchor_of (key_of url) s.anchors) refl
    (stays_tab (anchor_of (key_of url) s.anchors) tab (Reading (anchor_of (key_of url) s.anchors) 0 (not (has_url url (entry_at p (anchor_of (key_of url) s.anchors))))) p refl) (h (anchor_of (key_of url) s.anchors)) tt)
open_at_room s cap tab url p h (Some cause) e = rw e (Outcome.still refl tt)

pub open_room : (s : Setting) (cap : ℕ → ℕ) (tab : ℕ) (url : List ℕ) (p : Plain) → AllFit s cap p → (t : Tab) → tab_at p tab ≡ t → Outcome s cap tab p (IsUrlAt s url) (open_tab s tab url p)
open_room s cap tab url p h Free t = rw t (open_at_room s cap tab url p h (judge s p (anchor_of (key_of url) s.anchors) (key_of url)) refl)
open_room s cap tab url p h (Writing a) t = rw t (Outcome.still refl tt)
open_room s cap tab url p h (Reading a g o) t = rw t (Outcome.still refl tt)

told_fine : (life : Life) (epoch : Epoch) (bytes : List ℕ) → HadRoom (told life epoch bytes)
told_fine Growing epoch bytes = tt
told_fine Whole epoch bytes = tt
told_fine GivenUp epoch bytes = tt

pub more_is : (s : Setting) (tab a given : ℕ) (p : Plain) (x : Entry) → entry_at p a ≡ Some x → tab_at p tab ≡ Reading a given false
    → more s tab p ≡ step (told x.life (epoch_of s.room (place_at p a)) (drop given (available s.room x))) (with_tab p tab (Reading a (length (available s.room x)) false))
more_is s tab a given p x e t =
    rw (t, e) (ap (λ (o : Option Entry). step (told x.life (record { version = (place_at p a).version; doom = (place_at p a).doom; stage = stage_of s.room (place_at p a).version o }) (drop given (available s.room x))) (with_tab p tab (Reading a (length (available s.room x)) false))) e)

more_to : (s : Setting) (cap : ℕ → ℕ) (tab a given : ℕ) (p : Plain) → AllFit s cap p → (o : Option Entry) → entry_at p a ≡ o → tab_at p tab ≡ Reading a given false → Outcome s cap tab p (λ b. IsAt b (Reading a given false)) (more s tab p)
more_to s cap tab a given p h None e t = Outcome.still (rw (t, e) refl) (rw (t, e) tt)
more_to s cap tab a given p h (Some x) e t = subst (λ (r : Step). Outcome s cap tab p (λ b. IsAt b (Reading a given false)) r) (sym (more_is s tab a given p x e t))
    (Outcome.moved a refl (stays_tab a tab (Reading a (length (available s.room x)) false) p refl) (h a) (told_fine x.life (epoch_of s.room (place_at p a)) (drop given (available s.room x))))

pub more_room : (s : Setting) (cap : ℕ → ℕ) (tab : ℕ) (p : Plain) → AllFit s cap p → (t : Tab) → tab_at p tab ≡ t → Outcome s cap tab p (λ b. IsAt b t) (more s tab p)
more_room s cap tab p h Free t = Outcome.still (rw t refl) (rw t tt)
more_room s cap tab p h (Writing a) t = Outcome.still (rw t refl) (rw t tt)
more_room s cap tab p h (Reading a given true) t = Outcome.still (rw t refl) (rw t tt)
more_room s cap tab p h (Reading a given false) t = more_to s cap tab a given p h (entry_at p a) refl t

pub close_is : (tab a given : ℕ) (other : Bool) (p : Plain) → tab_at p tab ≡ Reading a given other → close tab p ≡ step answer.Closed (settle a (with_tab p tab Free))
close_is tab a given other p t = rw t refl

pub close_room : (s : Setting) (cap : ℕ → ℕ) (tab : ℕ) (p : Plain) → AllFit s cap p → (t : Tab) → tab_at p tab ≡ t → Outcome s cap tab p (λ b. IsAt b t) (close tab p)
close_room s cap tab p h Free t = Outcome.still (rw t refl) (rw t tt)
close_room s cap tab p h (Writing a) t = Outcome.still (rw t refl) (rw t tt)
close_room s cap tab p h (Reading a g o) t = subst (λ (r : Step). Outcome s cap tab p (λ b. IsAt b (Reading a g o)) r) (sym (close_is tab a g o p t))
    (Outcome.moved a refl (stays_trans tab a p (with_tab p tab Free) (settle a (with_tab p tab Free)) (stays_tab a tab Free p tt) (stays_settle tab a (with_tab p tab Free)))
    (fits_settled s (cap a) a (with_tab p tab Free) (h a)) tt)

doom_room : (s : Setting) (cap : ℕ → ℕ) (a : ℕ) (p : Plain) (given : Answer) → AllFit s cap p → HadRoom given → Outcome s cap 7 p (λ b. a ≡ b) (step given (settle a (doom_at a p)))
doom_room s cap a p given h fine = Outcome.moved a refl (stays_trans 7 a p (doom_at a p) (settle a (doom_at a p)) (stays_set doomed 7 a p) (stays_settle 7 a (doom_at a p)))
    (fits_settled s (cap a) a (doom_at a p) (fits_changed s (cap a) p.places a (doomed (place_at p a)) (fits_doomed s (cap a) (place_at p a) (h a)))) fine

purge_at_room : (s : Setting) (cap : ℕ → ℕ) (a : ℕ) (wanted : List ℕ) (p : Plain) → AllFit s cap p → (o : Option Cause) → judge s p a wanted ≡ o → Outcome s cap 7 p (λ b. a ≡ b) (purge_at s a wanted p)
purge_at_room s cap a wanted p h None e = rw e (doom_room s cap a p (answer.Purged (epoch_of s.room (place_at (doom_at a p) a))) h tt)
purge_at_room s cap a wanted p h (Some cause) e = rw e (Outcome.still refl tt)

pub purge_room : (s : Setting) (cap : ℕ → ℕ) (url : List ℕ) (p : Plain) → AllFit s cap p → Outcome s cap 7 p (IsUrlAt s url) (purge s url p)
purge_room s cap url p h = purge_at_room s cap (anchor_of (key_of url) s.anchors) (key_of url) p h (judge s p (anchor_of (key_of url) s.anchors) (key_of url)) refl

-- wiping
wiped_fine : (goes : Bool) (epoch : Epoch) → HadRoom (wiped_by goes (answer.Purged epoch))
wiped_fine true epoch = tt
wiped_fine false epoch = tt

none_fine : (goes : Bool) (cause : Cause) → HadRoom (wiped_by goes (answer.NoEntry cause))
none_fine true cause = tt
none_fine false cause = tt

wipe_at_room : (s : Setting) (cap : ℕ → ℕ) (a : ℕ) (wanted : List ℕ) (goes : Bool) (p : Plain) → AllFit s cap p → (o : Option Cause) → judge s p a wanted ≡ o
    → Outcome s cap 7 p (λ b. a ≡ b) (step (wiped_by goes (purge_at s a wanted p).answer) (purge_at s a wanted p).after)
wipe_at_room s cap a wanted goes p h None e =
    rw e (doom_room s cap a p (wiped_by goes (answer.Purged (epoch_of s.room (place_at (doom_at a p) a)))) h (wiped_fine goes (epoch_of s.room (place_at (doom_at a p) a))))
wipe_at_room s cap a wanted goes p h (Some cause) e = rw e (Outcome.still refl (none_fine goes cause))

pub wipe_room : (s : Setting) (cap : ℕ → ℕ) (url : List ℕ) (p : Plain) → AllFit s cap p → Outcome s cap 7 p (IsUrlAt s url) (wipe s url p)
wipe_room s cap url p h =
    wipe_at_room s cap (anchor_of (key_of url) s.anchors) (key_of url) (goes_doomed (anchor_of (key_of url) s.anchors) p) p h (judge s p (anchor_of (key_of url) s.anchors) (key_of url)) refl

-- all still fit behind a request
other_anchor : (a b : ℕ) → (b ≡ a) ⊎ (b ≡ a → ⊥)
other_anchor a b = by_test (b == a) refl
  where
    by_test : (t : Bool) → (b == a) ≡ t → (b ≡ a) ⊎ (b ≡ a → ⊥)
    by_test true t = inl (grind (arith, nat_tests))
    by_test false t = inr (λ e. let k : (b == a) ≡ true = grind (arith, nat_tests) in let j : true ≡ false = sym k ∙ t in cc)

pub fit_after : (s : Setting) (cap : ℕ → ℕ) (tab : ℕ) (p : Plain) (Why : ℕ → Type 0) (r : Step) → AllFit s cap p → Outcome s cap tab p Why r → AllFit s cap r.after
fit_after s cap tab p Why r h (Outcome.still e fine) b = subst (λ (q : Plain). PlaceFits s (cap b) (place_at q b)) (sym e) (h b)
fit_after s cap tab p Why r h (Outcome.moved a why stays place fine) b =
    elim (other_anchor a b) [
      | inl e ↦ subst (λ (n : ℕ). PlaceFits s (cap n) (place_at r.after n)) (sym e) place
      | inr n ↦ subst (λ (x : Place). PlaceFits s (cap b) x) (sym (stays.places b n)) (h b)
    ]

pub on_at : (a b : ℕ) (t : Tab) → IsOn a t → IsAt b t → b ≡ a
on_at a b Free on at = absurd at
on_at a b (Writing c) on at = sym at ∙ on
on_at a b (Reading c g o) on at = sym at ∙ on

-- a request that follows at the same anchor
pub record Follows (s : Setting) (cap : ℕ → ℕ) (tab a : ℕ) (p : Plain) (r : Step) : Type 0 where
  pub stays : Stays tab a p r.after
  pub place : PlaceFits s (cap a) (place_at r.after a)
  pub fine : HadRoom r.answer

pub follow : (s : Setting) (cap : ℕ → ℕ) (a tab : ℕ) (p q : Plain) (r : Step) → Stays tab a p q → IsOn a (tab_at q tab) → PlaceFits s (cap a) (place_at q a) → Outcome s cap tab q (λ b. IsAt b (tab_at q tab)) r → Follows s cap tab a p r
follow s cap a tab p q r stays on place (Outcome.still e fine) = record {
  stays = subst (λ (x : Plain). Stays tab a p x) (sym e) stays;
  place = subst (λ (x : Plain). PlaceFits s (cap a) (place_at x a)) (sym e) place;
  fine = fine;
}
follow s cap a tab p q r stays on place (Outcome.moved b why more there fine) =
    let same : b ≡ a = on_at a b (tab_at q tab) on why in
    record {
      stays = stays_trans tab a p q r.after stays (subst (λ (n : ℕ). Stays tab n q r.after) same more);
      place = subst (λ (n : ℕ). PlaceFits s (cap n) (place_at r.after n)) same there;
      fine = fine;
    }

hit_fine : (version : ℕ) (x : Answer) → HadRoom x → HadRoom (hit_by version x)
hit_fine version (answer.End bytes) h = tt
hit_fine version x h = h

pub get_room : (s : Setting) (cap : ℕ → ℕ) (url : List ℕ) (p : Plain) → AllFit s cap p → Opens s url p → Outcome s cap 7 p (IsUrlAt s url) (get s url p)
get_room s cap url p h (Opens.missed cause e) = rw e (Outcome.still refl tt)
get_room s cap url p h (Opens.in_use e) = rw e (Outcome.still refl tt)
get_room s cap url p h (Opens.opened j t e) =
    rw e (Outcome.moved anchor refl second.stays second.place (hit_fine (place_at p anchor).version (more s 7 q).answer first.fine))
  where
    anchor : ℕ
    anchor = anchor_of (key_of url) s.anchors

    reading : Tab
    reading = Reading anchor 0 (not (has_url url (entry_at p anchor)))

    q : Plain
    q = with_tab p 7 reading

    on : IsOn anchor (tab_at q 7)
    on = elim (set_here p.tabs 7 reading Free) [ inl k ↦ subst (λ (x : Tab). IsOn anchor x) (sym k) refl | inr k ↦ subst (λ (x : Tab). IsOn anchor x) (sym k) tt ]

    first : Follows s cap 7 anchor p (more s 7 q)
    first = follow s cap anchor 7 p q (more s 7 q) (stays_tab anchor 7 reading p refl) on (h anchor) (more_room s cap 7 q h (tab_at q 7) refl)

    on_then : IsOn anchor (tab_at (more s 7 q).after 7)
    on_then = elim ((follow s cap anchor 7 q q (more s 7 q) (stays_refl 7 anchor q) on (h anchor) (more_room s cap 7 q h (tab_at q 7) refl)).stays.tabs 7) [ inl k ↦ subst (λ (x : Tab). IsOn anchor x) (sym k) on | inr k ↦ k ]

    second : Follows s cap 7 anchor p (close 7 (more s 7 q).after)
    second = follow s cap anchor 7 p (more s 7 q).after (close 7 (more s 7 q).after) first.stays on_then first.place
        (close_room s cap 7 (more s 7 q).after (fit_after s cap 7 q (λ b. IsAt b (tab_at q 7)) (more s 7 q) h (more_room s cap 7 q h (tab_at q 7) refl)) (tab_at (more s 7 q).after 7) refl)
