-- What requests that write leave.
use Rattle.std.proofs.Common.{◌≡◌, inl, ◌∙◌, ℕ, ◌+◌, ◌-◌, ◌<◌, ◌≤◌, List, get_or, refl, sym, ap, subst, arith, Bool, true, false, cond}
use Rattle.std.specs.Prelude.{Option, Some, None, ◌==◌, min}
use Rattle.std.proofs.lemmas.Bool.Decides.{nat_tests}
use Rattle.plain_model.specs.declared.entry.Life.TheVariants.{Growing, GivenUp}
use Rattle.plain_model.specs.declared.entry.Entry.{Entry}
use Rattle.plain_model.specs.declared.entry.Place.{Place}
use Rattle.plain_model.specs.declared.store.Setting.{Setting}
use Rattle.plain_model.specs.declared.store.Tab.{Tab}
use Rattle.plain_model.specs.declared.store.Tab.TheVariants.{Free, Writing, Reading}
use Rattle.plain_model.specs.declared.store.Plain.{Plain}
use Rattle.plain_model.specs.declared.store.Refusal.{Refusal}
use Rattle.plain_model.specs.declared.store.Refusal.TheVariants.{Full}
use Rattle.plain_model.specs.Store.{place_at, entry_at, tab_at, published}
use Rattle.plain_model.specs.Slots.{held_by, held, claim, Claimed, Grown}
use Rattle.plain_laws.specs.Holding.{IsGrowing, slots_held}
use Rattle.plain_laws.proofs.Choosing.{either}
use Rattle.script_text.specs.declared.answer.Answer.{Answer}
use Rattle.plain_model.specs.Writing.{Step, step, close_writer, lacking, append, unless_refused, add, last_slot, finish, end, give_up}
use Rattle.plain_laws.specs.Holding.{HoldsItsSlots}
use Rattle.plain_laws.proofs.Sums.{hold, held_unfinished}
use Rattle.plain_laws.proofs.Evicting.{Untouched, untouched_refl, ClaimLeaves, claim_leaves}
use Rattle.plain_laws.proofs.Filling.{StaysGrowing, untouched_grows, GrowLeaves, grow_leaves}
use Rattle.plain_laws.proofs.Writers.{writes_stay, given_up_holds, whole_holds}

-- a writing tab and its entry
pub record Writes (s : Setting) (tab a : ℕ) (p : Plain) : Type 0 where
  pub at : tab_at p tab ≡ Writing a
  pub entry : Entry
  pub there : entry_at p a ≡ Some entry
  pub grows : entry.life ≡ Growing
  pub holds : HoldsItsSlots s p

growing_is : (o : Option Entry) → IsGrowing o → (e : Entry) × (o ≡ Some e) × (e.life ≡ Growing)
growing_is None g = absurd g
growing_is (Some e) g = (e, refl, g)

pub writes_after : (s : Setting) (tab a : ℕ) (p q : Plain) → Writes s tab a p → StaysGrowing p q → slots_held s q ≤ s.slots → Writes s tab a q
writes_after s tab a p q h stays within =
    let x = growing_is (entry_at q a) (stays.grows a (subst (λ (o : Option Entry). IsGrowing o) (sym h.there) h.grows)) in
    record {
      at = ap (λ (ts : List Tab). get_or ts tab Free) stays.tabs ∙ h.at;
      entry = x.0;
      there = x.1;
      grows = x.2;
      holds = record { within = within; writes = writes_stay p q h.holds.writes stays };
    }

append_leaves : (s : Setting) (tab a count content : ℕ) (p : Plain) → 0 < s.room → (h : Writes s tab a p) → content ≡ h.entry.content → GrowLeaves s a (content + count) p (append s a count content p)
append_leaves s tab a count content p room h is =
    let had : held s.room (place_at p a) ≡ hold (published s.room content) =
    ap (held_by s.room) h.there ∙ (held_unfinished s.room h.entry Growing h.grows (inl refl) ∙ ap (λ (n : ℕ). hold (published s.room n)) (sym is)) in
    let w = h.holds.within in
    grow_leaves s a (content + count) (published s.room (content + count) - published s.room content) (published s.room content + 1) (published s.room content) p room refl (omega arith)
    (record { entry = h.entry; there = h.there; grows = h.grows; within = w; may_hold = omega arith })

-- where nothing was refused the next step is taken, and otherwise the entry was given up
unless_holds : (s : Setting) (tab a : ℕ) (next : Plain → Step) (g : Grown) → Writes s tab a g.store → (g.refusal ≡ None → HoldsItsSlots s (next g.store).after)
    → (o : Option Refusal) → g.refusal ≡ o → HoldsItsSlots s (unless_refused tab a next g).after
unless_holds s tab a next g h k None e = rw e (k e)
unless_holds s tab a next g h k (Some r) e = rw e (given_up_holds s tab a g.store h.entry h.at h.there h.grows h.holds)

add_to : (s : Setting) (tab count a : ℕ) (p : Plain) → 0 < s.room → HoldsItsSlots s p → (o : Option Entry) → entry_at p a ≡ o → tab_at p tab ≡ Writing a → HoldsItsSlots s (add s tab count p).after
add_to s tab count a p room h None e t = rw (t, e) h
add_to s tab count a p room h (Some x) e t =
    let w : Writes s tab a p = record { at = t; entry = x; there = e; grows = subst (λ (o : Option Entry). IsGrowing o) e (h.writes.grows tab a t); holds = h } in
    let leaves = append_leaves s tab a (min count (lacking x)) x.content p room w refl in
    let after = writes_after s tab a p (append s a (min count (lacking x)) x.content p).store w leaves.grows leaves.within in
    rw (t, e) (unless_holds s tab a (step (Answer.Added (min count (lacking x)))) (append s a (min count (lacking x)) x.content p) after (λ r. after.holds) (append s a (min count (lacking x)) x.content p).refusal refl)

pub add_holds : (s : Setting) (tab count : ℕ) (p : Plain) → 0 < s.room → HoldsItsSlots s p → (t : Tab) → tab_at p tab ≡ t → HoldsItsSlots s (add s tab count p).after
add_holds s tab count p room h Free t = rw t h
add_holds s tab count p room h (Reading a g o) t = rw t h
add_holds s tab count p room h (Writing a) t = add_to s tab count a p room h (entry_at p a) refl t

-- the last slot
last_leaves : (s : Setting) (content : ℕ) (p : Plain) → slots_held s p ≤ s.slots
    → Untouched p (last_slot s content p).store × (slots_held s (last_slot s content p).store ≤ s.slots) × ((last_slot s content p).refusal ≡ None → published s.room content ≡ 0 → slots_held s (last_slot s content p).store < s.slots)
last_leaves s content p within =
    let one = claim_leaves s 0 p (omega arith) in
    let less = one.less in
    either (λ (g : Grown). Untouched p g.store × (slots_held s g.store ≤ s.slots) × (g.refusal ≡ None → published s.room content ≡ 0 → slots_held s g.store < s.slots)) (published s.room content == 0) _ _
    (λ t. (one.untouched, omega arith, λ r z. by_done (claim s 0 p) one (claim s 0 p).done refl r))
    (λ t. (untouched_refl p, within, λ r z. let no : (published s.room content == 0) ≡ true = grind (arith, nat_tests) in let k : true ≡ false = sym no ∙ t in cc))
  where
    by_done : (c : Claimed) → ClaimLeaves s 0 p c → (b : Bool) → c.done ≡ b → cond c.done None (Some Full) ≡ None → slots_held s c.store < s.slots
    by_done c leaves true d r = let left = leaves.left d in omega arith
    by_done c leaves false d r = let k : Some Full ≡ None = rw d at r in cc

end_rest : (s : Setting) (tab a content : ℕ) (q : Plain) → (h : Writes s tab a q) → h.entry.content ≡ content → HoldsItsSlots s (unless_refused tab a (finish tab a) (last_slot s content q)).after
end_rest s tab a content q h is =
    let last = last_leaves s content q h.holds.within in
    let same : place_at (last_slot s content q).store a ≡ place_at q a = last.0.places a (subst (λ (o : Option Entry). IsGrowing o) (sym h.there) h.grows) in
    let w : Writes s tab a (last_slot s content q).store = record {
      at = ap (λ (ts : List Tab). get_or ts tab Free) last.0.tabs ∙ h.at;
      entry = h.entry;
      there = ap (λ (x : Place). x.entry) same ∙ h.there;
      grows = h.grows;
      holds = record { within = last.1; writes = writes_stay q (last_slot s content q).store h.holds.writes (untouched_grows q (last_slot s content q).store last.0) };
    } in
    unless_holds s tab a (finish tab a) (last_slot s content q) w
    (λ r. whole_holds s tab a (last_slot s content q).store h.entry w.at w.there w.grows w.holds (λ z. last.2 r (ap (published s.room) (sym is) ∙ z)))
    (last_slot s content q).refusal refl

end_to : (s : Setting) (tab a : ℕ) (p : Plain) → 0 < s.room → HoldsItsSlots s p → (o : Option Entry) → entry_at p a ≡ o → tab_at p tab ≡ Writing a → HoldsItsSlots s (end s tab p).after
end_to s tab a p room h None e t = rw (t, e) h
end_to s tab a p room h (Some x) e t =
    let w : Writes s tab a p = record { at = t; entry = x; there = e; grows = subst (λ (o : Option Entry). IsGrowing o) e (h.writes.grows tab a t); holds = h } in
    let leaves = append_leaves s tab a (lacking x) x.content p room w refl in
    let after = writes_after s tab a p (append s a (lacking x) x.content p).store w leaves.grows leaves.within in
    rw (t, e) (unless_holds s tab a (λ q. unless_refused tab a (finish tab a) (last_slot s (x.content + lacking x) q)) (append s a (lacking x) x.content p) after
    (λ r. let g = leaves.grown r in
    end_rest s tab a (x.content + lacking x) (append s a (lacking x) x.content p).store
    (record { at = after.at; entry = g.0; there = g.1; grows = g.2; holds = after.holds }) g.3)
    (append s a (lacking x) x.content p).refusal refl)

pub end_holds : (s : Setting) (tab : ℕ) (p : Plain) → 0 < s.room → HoldsItsSlots s p → (t : Tab) → tab_at p tab ≡ t → HoldsItsSlots s (end s tab p).after
end_holds s tab p room h Free t = rw t h
end_holds s tab p room h (Reading a g o) t = rw t h
end_holds s tab p room h (Writing a) t = end_to s tab a p room h (entry_at p a) refl t

give_up_to : (s : Setting) (tab a : ℕ) (p : Plain) → HoldsItsSlots s p → (x : (e : Entry) × (entry_at p a ≡ Some e) × (e.life ≡ Growing)) → tab_at p tab ≡ Writing a → HoldsItsSlots s (close_writer GivenUp tab a p)
give_up_to s tab a p h x t = given_up_holds s tab a p x.0 t x.1 x.2 h

pub give_up_holds : (s : Setting) (tab : ℕ) (p : Plain) → HoldsItsSlots s p → (t : Tab) → tab_at p tab ≡ t → HoldsItsSlots s (give_up tab p).after
give_up_holds s tab p h Free t = rw t h
give_up_holds s tab p h (Reading a g o) t = rw t h
give_up_holds s tab p h (Writing a) t = rw t (give_up_to s tab a p h (growing_is (entry_at p a) (h.writes.grows tab a t)) t)
