-- Along all lines the slots that are held are there.
use Rattle.std.proofs.Common.{◌≡◌, ◌⊎◌, inl, inr, ◌∙◌, ℕ, ◌+◌, ◌-◌, ◌<◌, ◌≤◌, List, [], ◌∷◌, length, refl, sym, ap, subst, arith, Bool, true, false, get_or-set_same}
use Rattle.std.specs.Prelude.{Option, Some, None, not, ◌==◌, ◌||◌, ◌&&◌, nat_lt, is_none, ◌%◌, ◌^◌}
use Rattle.std.proofs.lemmas.Bool.Decides.{nat_tests}
use Rattle.plain_model.specs.declared.entry.Life.TheVariants.{Growing, Whole, GivenUp}
use Rattle.plain_model.specs.declared.entry.Entry.{Entry}
use Rattle.plain_model.specs.declared.entry.Place.{Place}
use Rattle.plain_model.specs.declared.store.Setting.{Setting}
use Rattle.plain_model.specs.declared.store.Tab.{Tab}
use Rattle.plain_model.specs.declared.store.Tab.TheVariants.{Free, Writing, Reading}
use Rattle.plain_model.specs.declared.store.Plain.{Plain}
use Rattle.plain_model.specs.Place.{nothing, doomed}
use Rattle.plain_model.specs.Store.{place_at, entry_at, tab_at, with_tab, published, readers, is_vacant_at, is_idle_at}
use Rattle.plain_model.specs.Slots.{held_by, free}
use Rattle.plain_laws.specs.Holding.{IsGrowing, slots_held}
use Rattle.std.specs.List.{range_with_len}
use Rattle.std.proofs.Math.Nat.{div-eq_of_lt, mod-lt}
use Rattle.store_key.specs.Key.{key_of}
use Rattle.store_key.specs.Anchor.{anchor_of, front_half, back_half}
use Rattle.lock_word.specs.declared.cause.Cause.{Cause}
use Rattle.script_text.specs.declared.line.Line.{Line}
use Rattle.script_text.specs.declared.request.Request.{Request}
use Rattle.script_text.specs.declared.request.Request.TheVariants.{Put, Save, Get, Purge, Wipe, Begin, Add, End, DropTab, OpenTab, More, CloseTab, Mark, Await}
use Rattle.plain_model.specs.Store.{meta_size, available}
use Rattle.plain_model.specs.Writing.{settle, close_writer, taken_by, entry_of, begin, give_up}
use Rattle.plain_model.specs.Reading.{judge, has_url, open_at, open_tab, more, close, doom_at, purge_at}
use Rattle.plain_model.specs.Serving.{bytes_of, put, get, serve, after, lines_for, leave, leave_all, left_by}
use Rattle.plain_laws.specs.Holding.{HoldsItsSlots}
use Rattle.plain_laws.proofs.Sums.{hold, held_unfinished, inside, sum_le}
use Rattle.plain_laws.proofs.Beginning.{BeginsAs, begins, set_there}
use Rattle.plain_laws.proofs.Evicting.{idle_whole}
use Rattle.plain_laws.proofs.Filling.{grows_set}
use Rattle.plain_laws.proofs.Writers.{either_or, writes_stay, tab_writes, free_writes_not, settle_holds}
use Rattle.plain_laws.proofs.Closing.{add_holds, end_holds, give_up_holds}
use Rattle.plain_laws.proofs.Looking.{Opens, opens}
use Rattle.plain_laws.proofs.Serving.{effect, anchors_stay}

reading_writes_not : (a given : ℕ) (other : Bool) (b : ℕ) → Reading a given other ≡ Writing b → ⊥
reading_writes_not a given other b e = cc

tab_holds : (s : Setting) (tab : ℕ) (x : Tab) (p : Plain) → ((b : ℕ) → x ≡ Writing b → ⊥) → HoldsItsSlots s p → HoldsItsSlots s (with_tab p tab x)
tab_holds s tab x p never h = record { within = h.within; writes = tab_writes tab x p never h.writes }

open_at_holds : (s : Setting) (tab a : ℕ) (url : List ℕ) (p : Plain) → HoldsItsSlots s p → (o : Option Cause) → judge s p a (key_of url) ≡ o → HoldsItsSlots s (open_at s tab a url p).after
open_at_holds s tab a url p h None e = rw e (tab_holds s tab (Reading a 0 (not (has_url url (entry_at p a)))) p (reading_writes_not a 0 (not (has_url url (entry_at p a)))) h)
open_at_holds s tab a url p h (Some cause) e = rw e h

open_holds : (s : Setting) (tab : ℕ) (url : List ℕ) (p : Plain) → HoldsItsSlots s p → (t : Tab) → tab_at p tab ≡ t → HoldsItsSlots s (open_tab s tab url p).after
open_holds s tab url p h Free t = rw t (open_at_holds s tab (anchor_of (key_of url) s.anchors) url p h (judge s p (anchor_of (key_of url) s.anchors) (key_of url)) refl)
open_holds s tab url p h (Writing a) t = rw t h
open_holds s tab url p h (Reading a g o) t = rw t h

more_to : (s : Setting) (tab a given : ℕ) (p : Plain) → HoldsItsSlots s p → (o : Option Entry) → entry_at p a ≡ o → tab_at p tab ≡ Reading a given false → HoldsItsSlots s (more s tab p).after
more_to s tab a given p h None e t = rw (t, e) h
more_to s tab a given p h (Some x) e t = rw (t, e) (tab_holds s tab (Reading a (length (available s.room x)) false) p (reading_writes_not a (length (available s.room x)) false) h)

more_holds : (s : Setting) (tab : ℕ) (p : Plain) → HoldsItsSlots s p → (t : Tab) → tab_at p tab ≡ t → HoldsItsSlots s (more s tab p).after
more_holds s tab p h Free t = rw t h
more_holds s tab p h (Writing a) t = rw t h
more_holds s tab p h (Reading a given true) t = rw t h
more_holds s tab p h (Reading a given false) t = more_to s tab a given p h (entry_at p a) refl t

pub close_holds : (s : Setting) (tab : ℕ) (p : Plain) → HoldsItsSlots s p → (t : Tab) → tab_at p tab ≡ t → HoldsItsSlots s (close tab p).after
close_holds s tab p h Free t = rw t h
close_holds s tab p h (Writing a) t = rw t h
close_holds s tab p h (Reading a g o) t = rw t (settle_holds s a (with_tab p tab Free) (tab_holds s tab Free p free_writes_not h))

doom_holds : (s : Setting) (a : ℕ) (p : Plain) → HoldsItsSlots s p → HoldsItsSlots s (doom_at a p)
doom_holds s a p h = record {
  within = (let w = h.within in let l : slots_held s (doom_at a p) ≤ slots_held s p = sum_le s.room p.places a (doomed (place_at p a)) (omega arith) in omega arith);
  writes = writes_stay p (doom_at a p) h.writes (record { tabs = refl; grows = λ b g. grows_set doomed (λ x k. k) p.places a b g });
}

purge_at_holds : (s : Setting) (a : ℕ) (wanted : List ℕ) (p : Plain) → HoldsItsSlots s p → (o : Option Cause) → judge s p a wanted ≡ o → HoldsItsSlots s (purge_at s a wanted p).after
purge_at_holds s a wanted p h None e = rw e (settle_holds s a (doom_at a p) (doom_holds s a p h))
purge_at_holds s a wanted p h (Some cause) e = rw e h

-- a vacant anchor and an idle one have no entry that grows
vacant_not : (o : Option Entry) (b : Bool) → (is_none o && b) ≡ true → IsGrowing o → ⊥
vacant_not None b t g = g
vacant_not (Some e) b t g = let k : false ≡ true = t in cc

idle_not : (o : Option Entry) (e : Entry) → o ≡ Some e → e.life ≡ Whole → IsGrowing o → ⊥
idle_not None e is w g = g
idle_not (Some d) e is w g = let same : d ≡ e = cc in let k : Growing ≡ Whole = sym g ∙ (ap (λ (x : Entry). x.life) same ∙ w) in cc

pub able_not : (p : Plain) (a : ℕ) → (is_vacant_at p a || is_idle_at p a) ≡ true → IsGrowing (entry_at p a) → ⊥
able_not p a t g = elim (either_or (is_vacant_at p a) (is_idle_at p a) t) [
  | inl h ↦ vacant_not (entry_at p a) (readers p a == 0) h g
  | inr h ↦ (let w = idle_whole p a h in idle_not (entry_at p a) w.0 w.1 w.2 g)
]

-- a new entry holds nothing
pub new_holds_none : (room : ℕ) (url body : List ℕ) (offer : ℕ) → nat_lt room (meta_size url) ≡ false → held_by room (Some (entry_of url body offer)) ≡ 0
new_holds_none room url body offer fits =
    let small : meta_size url - 1 < room = (let k : meta_size url ≤ room = grind (arith, nat_tests) in omega arith) in
    let zero_is : published room (meta_size url) ≡ 0 = div-eq_of_lt small in
    held_unfinished room (entry_of url body offer) Growing refl (inl refl) ∙ ap hold zero_is

new_place : Plain → Entry → Place
new_place p e = record { version = p.counter + 1; doom = false; entry = Some e }

-- an entry is begun where none grows
pub taken_holds : (s : Setting) (tab a : ℕ) (p : Plain) (e : Entry) → HoldsItsSlots s p → tab_at p tab ≡ Free → (IsGrowing (entry_at p a) → ⊥) → e.life ≡ Growing → held_by s.room (Some e) ≡ 0 → a < length p.places
    → HoldsItsSlots s (taken_by tab a e p)
unfolding new_place
taken_holds s tab a p e h free never grows none inside = record {
  within = (let w = h.within in let l : slots_held s (taken_by tab a e p) ≤ slots_held s p = sum_le s.room p.places a (new_place p e) (let z : held_by s.room (Some e) ≤ 0 = omega arith in omega arith) in omega arith);
  writes = record {
    grows = λ t b w. elim (set_there p.tabs tab t (Writing a) Free) [ inl k ↦ here t b w k.0 k.1 | inr k ↦ there b (h.writes.grows t b (sym k ∙ w)) ];
    apart = λ t u b w v. one t u b w v (set_there p.tabs tab t (Writing a) Free) (set_there p.tabs tab u (Writing a) Free);
  };
}
  where
    q : Plain
    q = taken_by tab a e p

    same_anchor : (t b : ℕ) → tab_at q t ≡ Writing b → tab_at q t ≡ Writing a → a ≡ b
    same_anchor t b w k = let r : Writing a ≡ Writing b = sym k ∙ w in cc

    there : (b : ℕ) → IsGrowing (entry_at p b) → IsGrowing (entry_at q b)
    there b g = elim (set_there p.places a b (new_place p e) nothing) [
      | inl k ↦ subst (λ (x : Place). IsGrowing x.entry) (sym k.1) grows
      | inr k ↦ subst (λ (x : Place). IsGrowing x.entry) (sym k) g
    ]

    here : (t b : ℕ) → tab_at q t ≡ Writing b → t ≡ tab → tab_at q t ≡ Writing a → IsGrowing (entry_at q b)
    here t b w i k = subst (λ (x : ℕ). IsGrowing (entry_at q x)) (same_anchor t b w k)
        (subst (λ (x : Place). IsGrowing x.entry) (sym (get_or-set_same p.places a (new_place p e) nothing inside)) grows)

    one : (t u b : ℕ) → tab_at q t ≡ Writing b → tab_at q u ≡ Writing b
        → ((t ≡ tab) × (tab_at q t ≡ Writing a)) ⊎ (tab_at q t ≡ tab_at p t) → ((u ≡ tab) × (tab_at q u ≡ Writing a)) ⊎ (tab_at q u ≡ tab_at p u) → t ≡ u
    one t u b w v (inl k) (inl m) = k.0 ∙ sym m.0
    one t u b w v (inr k) (inr m) = h.writes.apart t u b (sym k ∙ w) (sym m ∙ v)
    one t u b w v (inl k) (inr m) = absurd (never (subst (λ (x : ℕ). IsGrowing (entry_at p x)) (sym (same_anchor t b w k.1)) (h.writes.grows u b (sym m ∙ v))))
    one t u b w v (inr k) (inl m) = absurd (never (subst (λ (x : ℕ). IsGrowing (entry_at p x)) (sym (same_anchor u b v m.1)) (h.writes.grows t b (sym k ∙ w))))

begin_holds : (s : Setting) (tab : ℕ) (url body : List ℕ) (offer : ℕ) (p : Plain) → HoldsItsSlots s p → anchor_of (key_of url) s.anchors < length p.places → BeginsAs s tab url body offer p
    → HoldsItsSlots s (begin s tab url body offer p).after
begin_holds s tab url body offer p h inside (BeginsAs.in_use e) = rw e h
begin_holds s tab url body offer p h inside (BeginsAs.long e) = rw e h
begin_holds s tab url body offer p h inside (BeginsAs.busy w e) = rw e h
begin_holds s tab url body offer p h inside (BeginsAs.spent out e) = rw e h
begin_holds s tab url body offer p h inside (BeginsAs.begun t fits able e) = rw e
    (taken_holds s tab (anchor_of (key_of url) s.anchors) p (entry_of url body offer) h t (able_not p (anchor_of (key_of url) s.anchors) able) refl (new_holds_none s.room url body offer fits) inside)

put_holds : (s : Setting) (url body : List ℕ) (offer : ℕ) (p : Plain) → 0 < s.room → HoldsItsSlots s p → anchor_of (key_of url) s.anchors < length p.places → BeginsAs s 7 url body offer p
    → HoldsItsSlots s (put s url body offer p).after
put_holds s url body offer p room h inside (BeginsAs.in_use e) = rw e h
put_holds s url body offer p room h inside (BeginsAs.long e) = rw e h
put_holds s url body offer p room h inside (BeginsAs.busy w e) = rw e h
put_holds s url body offer p room h inside (BeginsAs.spent out e) = rw e h
put_holds s url body offer p room h inside (BeginsAs.begun t fits able e) = rw e (end_holds s 7 q room
    (taken_holds s 7 (anchor_of (key_of url) s.anchors) p (entry_of url body offer) h t (able_not p (anchor_of (key_of url) s.anchors) able) refl (new_holds_none s.room url body offer fits) inside)
    (tab_at q 7) refl)
  where
    q : Plain
    q = taken_by 7 (anchor_of (key_of url) s.anchors) (entry_of url body offer) p

get_holds : (s : Setting) (url : List ℕ) (p : Plain) → HoldsItsSlots s p → Opens s url p → HoldsItsSlots s (get s url p).after
get_holds s url p h (Opens.missed cause e) = rw e h
get_holds s url p h (Opens.in_use e) = rw e h
get_holds s url p h (Opens.opened j t e) = rw e
    (close_holds s 7 (more s 7 q).after (more_holds s 7 q (tab_holds s 7 reading p (reading_writes_not anchor 0 (not (has_url url (entry_at p anchor)))) h) (tab_at q 7) refl) (tab_at (more s 7 q).after 7) refl)
  where
    anchor : ℕ
    anchor = anchor_of (key_of url) s.anchors

    reading : Tab
    reading = Reading anchor 0 (not (has_url url (entry_at p anchor)))

    q : Plain
    q = with_tab p 7 reading

-- there is an anchor for each URL
pub anchor_inside : (s : Setting) (url : List ℕ) (p : Plain) → 0 < s.anchors → length p.places ≡ s.anchors → anchor_of (key_of url) s.anchors < length p.places
anchor_inside s url p some are = let lt : anchor_of (key_of url) s.anchors < s.anchors = mod-lt ((front_half (key_of url) + back_half (key_of url)) % 2 ^ 64) some in subst (λ (n : ℕ). anchor_of (key_of url) s.anchors < n) (sym are) lt

pub serve_holds : (s : Setting) (script : List Line) (worker number : ℕ) (request : Request) (p : Plain) → 0 < s.room → 0 < s.anchors → length p.places ≡ s.anchors → HoldsItsSlots s p
    → HoldsItsSlots s (serve s script (record { worker = worker; number = number; request = request }) p).after
serve_holds s script w n (Put url made) p room some are h = put_holds s url (bytes_of made) (s.slots + n) p room h (anchor_inside s url p some are) (begins s 7 url (bytes_of made) (s.slots + n) p (tab_at p 7) refl)
serve_holds s script w n (Save url made) p room some are h = put_holds s url (bytes_of made) (s.slots + n) p room h (anchor_inside s url p some are) (begins s 7 url (bytes_of made) (s.slots + n) p (tab_at p 7) refl)
serve_holds s script w n (Get url) p room some are h = get_holds s url p h (opens s url p (tab_at p 7) refl)
serve_holds s script w n (Purge url) p room some are h = purge_at_holds s (anchor_of (key_of url) s.anchors) (key_of url) p h (judge s p (anchor_of (key_of url) s.anchors) (key_of url)) refl
serve_holds s script w n (Wipe url) p room some are h = purge_at_holds s (anchor_of (key_of url) s.anchors) (key_of url) p h (judge s p (anchor_of (key_of url) s.anchors) (key_of url)) refl
serve_holds s script w n (Begin tab url made) p room some are h =
    begin_holds s tab url (bytes_of made) (s.slots + n) p h (anchor_inside s url p some are) (begins s tab url (bytes_of made) (s.slots + n) p (tab_at p tab) refl)
serve_holds s script w n (Add tab count) p room some are h = add_holds s tab count p room h (tab_at p tab) refl
serve_holds s script w n (End tab) p room some are h = end_holds s tab p room h (tab_at p tab) refl
serve_holds s script w n (DropTab tab) p room some are h = give_up_holds s tab p h (tab_at p tab) refl
serve_holds s script w n (OpenTab tab url) p room some are h = open_holds s tab url p h (tab_at p tab) refl
serve_holds s script w n (More tab) p room some are h = more_holds s tab p h (tab_at p tab) refl
serve_holds s script w n (CloseTab tab) p room some are h = close_holds s tab p h (tab_at p tab) refl
serve_holds s script w n (Mark mark) p room some are h = h
serve_holds s script w n (Await mark) p room some are h = h

pub held_along : (s : Setting) (script lines : List Line) (p : Plain) → 0 < s.room → 0 < s.anchors → length p.places ≡ s.anchors → HoldsItsSlots s p → HoldsItsSlots s (after s script lines p)
held_along s script [] p room some are h = h
held_along s script (line ∷ lines) p room some are h =
    held_along s script lines (serve s script line p).after room some (anchors_stay s line p (serve s script line p) (effect s script line p) ∙ are)
    (serve_holds s script line.worker line.number line.request p room some are h)

-- leaving a tab
leave_holds : (s : Setting) (tab : ℕ) (p : Plain) → HoldsItsSlots s p → (t : Tab) → tab_at p tab ≡ t → HoldsItsSlots s (leave tab p)
leave_holds s tab p h Free t = rw t h
leave_holds s tab p h (Writing a) t = subst (λ (q : Plain). HoldsItsSlots s q) (left_writing a t) (give_up_holds s tab p h (Writing a) t)
  where
    left_writing : (a : ℕ) → tab_at p tab ≡ Writing a → (give_up tab p).after ≡ leave tab p
    left_writing a t = let g : (give_up tab p).after ≡ close_writer GivenUp tab a p = rw t refl in rw t (sym g)
leave_holds s tab p h (Reading a g o) t = subst (λ (q : Plain). HoldsItsSlots s q) (left_reading a g o t) (close_holds s tab p h (Reading a g o) t)
  where
    left_reading : (a g : ℕ) (o : Bool) → tab_at p tab ≡ Reading a g o → (close tab p).after ≡ leave tab p
    left_reading a g o t = let c : (close tab p).after ≡ settle a (with_tab p tab Free) = rw t refl in rw t (sym c)

leave_all_holds : (s : Setting) (tabs : List ℕ) (p : Plain) → HoldsItsSlots s p → HoldsItsSlots s (leave_all tabs p)
leave_all_holds s [] p h = h
leave_all_holds s (tab ∷ tabs) p h = leave_all_holds s tabs (leave tab p) (leave_holds s tab p h (tab_at p tab) refl)

pub held_at_the_end : (s : Setting) (script : List Line) (worker : ℕ) (p : Plain) → 0 < s.room → 0 < s.anchors → length p.places ≡ s.anchors → HoldsItsSlots s p → HoldsItsSlots s (left_by s script worker p)
held_at_the_end s script worker p room some are h = leave_all_holds s (range_with_len 0 8) (after s script (lines_for worker script) p) (held_along s script (lines_for worker script) p room some are h)
