-- Tabs are left, and stores still agree.
use Rattle.std.proofs.Common.{◌≡◌, inl, ◌∙◌, ℕ, List, [], ◌∷◌, refl, sym, subst, Bool, true, false}
use Rattle.plain_model.specs.declared.entry.Life.TheVariants.{GivenUp}
use Rattle.plain_model.specs.declared.store.Setting.{Setting}
use Rattle.plain_model.specs.declared.store.Tab.{Tab}
use Rattle.plain_model.specs.declared.store.Tab.TheVariants.{Free, Writing, Reading}
use Rattle.plain_model.specs.declared.store.Plain.{Plain}
use Rattle.plain_model.specs.Store.{tab_at, with_tab}
use Rattle.plain_model.specs.Writing.{Step, settle, close_writer, give_up}
use Rattle.plain_model.specs.Reading.{close}
use Rattle.plain_model.specs.Serving.{leave, leave_all}
use Rattle.plain_laws.specs.Holding.{WritesApart}
use Rattle.plain_laws.specs.Kept.{Keeps}
use Rattle.plain_laws.proofs.Keeping.{keeps_give_up}
use Rattle.plain_laws.proofs.Looking.{keeps_close}
use Rattle.plain_laws.proofs.Closing.{give_up_holds}
use Rattle.plain_laws.proofs.Held.{close_holds}
use Rattle.plain_laws.proofs.Roomed.{Outcome, IsAt, InRoom, give_up_room}
use Rattle.plain_laws.proofs.ReadingRoomed.{close_room, fit_after}
use Rattle.plain_laws.proofs.Running.{holds_of}
use Rattle.plain_laws.proofs.Agreeing.{Agree}
use Rattle.plain_laws.proofs.ReadingAlike.{close_alike}
use Rattle.plain_laws.proofs.WritingAlike.{give_up_alike}
use Rattle.plain_laws.proofs.OtherLines.{other_agrees}

pub leave_free : (tab : ℕ) (p : Plain) → tab_at p tab ≡ Free → p ≡ leave tab p
leave_free tab p t = rw t refl

pub leave_writing : (tab a : ℕ) (p : Plain) → tab_at p tab ≡ Writing a → (give_up tab p).after ≡ leave tab p
leave_writing tab a p t = let g : (give_up tab p).after ≡ close_writer GivenUp tab a p = rw t refl in rw t (sym g)

pub leave_reading : (tab a g : ℕ) (o : Bool) (p : Plain) → tab_at p tab ≡ Reading a g o → (close tab p).after ≡ leave tab p
leave_reading tab a g o p t = let c : (close tab p).after ≡ settle a (with_tab p tab Free) = rw t refl in rw t (sym c)

-- there is room still
room_by : (s : Setting) (cap : ℕ → ℕ) (tab : ℕ) (p : Plain) (Why : ℕ → Type 0) (r : Step) → InRoom s cap p → Outcome s cap tab p Why r → Keeps p r.after → WritesApart r.after → InRoom s cap r.after
room_by s cap tab p Why r h out keeps writes = record {
  room = h.room;
  slots = h.slots;
  some = h.some;
  are = keeps.anchors ∙ h.are;
  total = h.total;
  fits = fit_after s cap tab p Why r h.fits out;
  writes = writes;
}

leave_room : (s : Setting) (cap : ℕ → ℕ) (tab : ℕ) (p : Plain) → InRoom s cap p → (t : Tab) → tab_at p tab ≡ t → InRoom s cap (leave tab p)
leave_room s cap tab p h Free t = subst (λ (q : Plain). InRoom s cap q) (leave_free tab p t) h
leave_room s cap tab p h (Writing a) t = subst (λ (q : Plain). InRoom s cap q) (leave_writing tab a p t)
    (room_by s cap tab p (λ b. IsAt b (Writing a)) (give_up tab p) h (give_up_room s cap tab p h (Writing a) t) (keeps_give_up tab p (Writing a) t) (give_up_holds s tab p (holds_of s cap p h) (Writing a) t).writes)
leave_room s cap tab p h (Reading a g o) t = subst (λ (q : Plain). InRoom s cap q) (leave_reading tab a g o p t)
    (room_by s cap tab p (λ b. IsAt b (Reading a g o)) (close tab p) h (close_room s cap tab p h.fits (Reading a g o) t) (keeps_close tab p (Reading a g o) t) (close_holds s tab p (holds_of s cap p h) (Reading a g o) t).writes)

-- an own tab
leave_own : (rename : ℕ → ℕ) (own mine : ℕ → Bool) (tab : ℕ) (p q : Plain) → Agree rename own mine p q → mine tab ≡ true → (t : Tab) → tab_at q tab ≡ t → tab_at p tab ≡ t → Agree rename own mine (leave tab p) (leave tab q)
leave_own rename own mine tab p q h m Free t u = subst (λ (x : Plain). Agree rename own mine x (leave tab q)) (leave_free tab p u) (subst (λ (x : Plain). Agree rename own mine p x) (leave_free tab q t) h)
leave_own rename own mine tab p q h m (Writing a) t u =
    subst (λ (x : Plain). Agree rename own mine x (leave tab q)) (leave_writing tab a p u)
    (subst (λ (x : Plain). Agree rename own mine (give_up tab p).after x) (leave_writing tab a q t) (give_up_alike rename own mine tab p q h m (Writing a) t u).agree)
leave_own rename own mine tab p q h m (Reading a g o) t u =
    subst (λ (x : Plain). Agree rename own mine x (leave tab q)) (leave_reading tab a g o p u)
    (subst (λ (x : Plain). Agree rename own mine (close tab p).after x) (leave_reading tab a g o q t) (close_alike rename own mine tab p q h m (Reading a g o) t u).agree)

-- another's tab
elsewhere : (rename : ℕ → ℕ) (own mine : ℕ → Bool) (tab b : ℕ) (p q : Plain) (t : Tab) → Agree rename own mine p q → mine tab ≡ false → tab_at p tab ≡ t → IsAt b t → own b ≡ false
elsewhere rename own mine tab b p q t h off e at = h.left tab b (subst (λ (x : Tab). IsAt b x) (sym e) at) ∙ off

leave_other : (rename : ℕ → ℕ) (own mine : ℕ → Bool) (s : Setting) (cap : ℕ → ℕ) (tab : ℕ) (p q : Plain) → Agree rename own mine p q → InRoom s cap p → mine tab ≡ false → (t : Tab) → tab_at p tab ≡ t → Agree rename own mine (leave tab p) q
leave_other rename own mine s cap tab p q h room off Free t = subst (λ (x : Plain). Agree rename own mine x q) (leave_free tab p t) h
leave_other rename own mine s cap tab p q h room off (Writing a) t = subst (λ (x : Plain). Agree rename own mine x q) (leave_writing tab a p t)
    (other_agrees rename own mine s cap tab p q (λ b. IsAt b (Writing a)) (give_up tab p) h (λ b at. elsewhere rename own mine tab b p q (Writing a) h off t at) (inl off)
    (keeps_give_up tab p (Writing a) t).anchors (give_up_room s cap tab p room (Writing a) t))
leave_other rename own mine s cap tab p q h room off (Reading a g o) t = subst (λ (x : Plain). Agree rename own mine x q) (leave_reading tab a g o p t)
    (other_agrees rename own mine s cap tab p q (λ b. IsAt b (Reading a g o)) (close tab p) h (λ b at. elsewhere rename own mine tab b p q (Reading a g o) h off t at) (inl off)
    (keeps_close tab p (Reading a g o) t).anchors (close_room s cap tab p room.fits (Reading a g o) t))

leave_both : (rename : ℕ → ℕ) (own mine : ℕ → Bool) (s : Setting) (cap : ℕ → ℕ) (tab : ℕ) (p q : Plain) → Agree rename own mine p q → InRoom s cap p → (b : Bool) → mine tab ≡ b → Agree rename own mine (leave tab p) (leave tab q)
leave_both rename own mine s cap tab p q h room true m = leave_own rename own mine tab p q h m (tab_at q tab) refl (h.tabs tab m)
leave_both rename own mine s cap tab p q h room false off =
    subst (λ (x : Plain). Agree rename own mine (leave tab p) x) (leave_free tab q (h.idle tab off)) (leave_other rename own mine s cap tab p q h room off (tab_at p tab) refl)

pub tabs_left : (rename : ℕ → ℕ) (own mine : ℕ → Bool) (s : Setting) (cap : ℕ → ℕ) (tabs : List ℕ) (p q : Plain) → Agree rename own mine p q → InRoom s cap p → Agree rename own mine (leave_all tabs p) (leave_all tabs q)
tabs_left rename own mine s cap [] p q h room = h
tabs_left rename own mine s cap (tab ∷ tabs) p q h room =
    tabs_left rename own mine s cap tabs (leave tab p) (leave tab q) (leave_both rename own mine s cap tab p q h room (mine tab) refl) (leave_room s cap tab p room (tab_at p tab) refl)
