-- Tabs that write keep entries of their own.
use Rattle.std.proofs.Common.{◌≡◌, ◌⊎◌, inl, inr, ◌∙◌, ℕ, zero, suc, ◌+◌, ◌<◌, ◌≤◌, List, get_or, set, refl, sym, ap, subst, arith, Bool, true, false, get_or-set_other}
use Rattle.std.specs.Prelude.{Option, Some, None, ◌==◌, ◌||◌, ◌&&◌}
use Rattle.plain_model.specs.declared.entry.Life.{Life}
use Rattle.plain_model.specs.declared.entry.Life.TheVariants.{Growing, Whole, GivenUp}
use Rattle.plain_model.specs.declared.entry.Entry.{Entry}
use Rattle.plain_model.specs.declared.entry.Place.{Place}
use Rattle.plain_model.specs.declared.store.Setting.{Setting}
use Rattle.plain_model.specs.declared.store.Tab.{Tab}
use Rattle.plain_model.specs.declared.store.Tab.TheVariants.{Free, Writing}
use Rattle.plain_model.specs.declared.store.Plain.{Plain}
use Rattle.plain_model.specs.Place.{nothing, vacated, changed, ended}
use Rattle.plain_model.specs.Store.{place_at, entry_at, tab_at, with_tab, published, has_life, readers, is_left_over_at}
use Rattle.plain_model.specs.Slots.{held_by, held}
use Rattle.plain_laws.specs.Holding.{IsGrowing, slots_held}
use Rattle.plain_laws.proofs.Choosing.{either}
use Rattle.plain_model.specs.Writing.{settle, close_writer}
use Rattle.plain_laws.specs.Holding.{WritesApart, HoldsItsSlots}
use Rattle.plain_laws.proofs.Sums.{hold, held_unfinished, held_whole, sum_set, sum_le}
use Rattle.plain_laws.proofs.Beginning.{set_here, set_there}
use Rattle.plain_laws.proofs.Evicting.{both}
use Rattle.plain_laws.proofs.Filling.{StaysGrowing, growing_refl}

pub writes_stay : (p q : Plain) → WritesApart p → StaysGrowing p q → WritesApart q
writes_stay p q h k = record {
  grows = λ t a w. k.grows a (h.grows t a (same t a w));
  apart = λ t u a w v. h.apart t u a (same t a w) (same u a v);
}
  where
    same : (t a : ℕ) → tab_at q t ≡ Writing a → tab_at p t ≡ Writing a
    same t a w = ap (λ (ts : List Tab). get_or ts t Free) (sym k.tabs) ∙ w

-- a tab that is put to something else than writing writes no more
pub not_written : (ts : List Tab) (tab t a : ℕ) (x : Tab) → ((b : ℕ) → x ≡ Writing b → ⊥) → get_or (set ts tab x) t Free ≡ Writing a → get_or ts t Free ≡ Writing a
not_written ts tab t a x never w =
    elim (set_there ts tab t x Free) [
      | inl h ↦ absurd (never a (sym h.1 ∙ w))
      | inr h ↦ sym h ∙ w
    ]

pub tab_writes : (tab : ℕ) (x : Tab) (p : Plain) → ((b : ℕ) → x ≡ Writing b → ⊥) → WritesApart p → WritesApart (with_tab p tab x)
tab_writes tab x p never h = record {
  grows = λ t a w. h.grows t a (not_written p.tabs tab t a x never w);
  apart = λ t u a w v. h.apart t u a (not_written p.tabs tab t a x never w) (not_written p.tabs tab u a x never v);
}

pub free_writes_not : (b : ℕ) → Free ≡ Writing b → ⊥
free_writes_not b e = cc

-- the tab that is set free writes no more
freed_tab : (ts : List Tab) (tab a : ℕ) → get_or (set ts tab Free) tab Free ≡ Writing a → ⊥
freed_tab ts tab a w = elim (set_here ts tab Free Free) [ inl h ↦ (let k : Free ≡ Writing a = sym h ∙ w in cc) | inr h ↦ (let k : Free ≡ Writing a = sym h ∙ w in cc) ]

given_up_of : (o : Option Entry) → has_life GivenUp o ≡ true → IsGrowing o → ⊥
given_up_of None t g = g
given_up_of (Some e) t g = let k : false ≡ true = rw g at t in cc

pub either_or : (a b : Bool) → (a || b) ≡ true → (a ≡ true) ⊎ (b ≡ true)
either_or true b e = inl refl
either_or false b e = inr e

whole_not : (o : Option Entry) → has_life Whole o ≡ true → IsGrowing o → ⊥
whole_not None t g = g
whole_not (Some e) t g = let k : false ≡ true = rw g at t in cc

left_over_not : (p : Plain) (a : ℕ) → is_left_over_at p a ≡ true → IsGrowing (entry_at p a) → ⊥
left_over_not p a t g =
    elim (either_or (has_life GivenUp (entry_at p a)) (has_life Whole (entry_at p a) && (place_at p a).doom) (both (has_life GivenUp (entry_at p a) || (has_life Whole (entry_at p a) && (place_at p a).doom)) (readers p a == 0) t)) [
      | inl h ↦ given_up_of (entry_at p a) h g
      | inr h ↦ whole_not (entry_at p a) (both (has_life Whole (entry_at p a)) (place_at p a).doom h) g
    ]

-- what goes was not growing
vacated_grows : (a : ℕ) (p : Plain) → (IsGrowing (entry_at p a) → ⊥) → StaysGrowing p (record p { places = set p.places a (vacated (place_at p a)) })
vacated_grows a p never = record {
  tabs = refl;
  grows = λ b g. subst (λ (x : Place). IsGrowing x.entry) (sym (get_or-set_other p.places a b (vacated (place_at p a)) nothing (λ same. never (subst (λ (x : ℕ). IsGrowing (entry_at p x)) same g)))) g;
}

pub settle_grows : (a : ℕ) (p : Plain) → StaysGrowing p (settle a p)
settle_grows a p = either (λ (q : Plain). StaysGrowing p q) (is_left_over_at p a) _ _ (λ t. vacated_grows a p (left_over_not p a t)) (λ t. growing_refl p)

pub settle_less : (s : Setting) (a : ℕ) (p : Plain) → slots_held s (settle a p) ≤ slots_held s p
settle_less s a p = either (λ (q : Plain). slots_held s q ≤ slots_held s p) (is_left_over_at p a) _ _
    (λ t. sum_le s.room p.places a (vacated (place_at p a)) (omega arith)) (λ t. omega arith)

pub settle_holds : (s : Setting) (a : ℕ) (p : Plain) → HoldsItsSlots s p → HoldsItsSlots s (settle a p)
settle_holds s a p h = record {
  within = (let w = h.within in omega (arith, settle_less s a p));
  writes = writes_stay p (settle a p) h.writes (settle_grows a p);
}

ending : Life → (tab a : ℕ) → Plain → Plain
ending life tab a p = record p { tabs = set p.tabs tab Free; places = set p.places a (ended life (place_at p a)) }

ending_writes : (life : Life) (tab a : ℕ) (p : Plain) → tab_at p tab ≡ Writing a → WritesApart p → WritesApart (ending life tab a p)
unfolding ending
ending_writes life tab a p at h = record {
  grows = λ t b w. subst (λ (x : Place). IsGrowing x.entry) (sym (get_or-set_other p.places a b (ended life (place_at p a)) nothing (λ same. elsewhere t b w same)))
      (h.grows t b (not_written p.tabs tab t b Free free_writes_not w));
  apart = λ t u b w v. h.apart t u b (not_written p.tabs tab t b Free free_writes_not w) (not_written p.tabs tab u b Free free_writes_not v);
}
  where
    elsewhere : (t b : ℕ) → get_or (set p.tabs tab Free) t Free ≡ Writing b → b ≡ a → ⊥
    elsewhere t b w same =
        let one : t ≡ tab = h.apart t tab a (not_written p.tabs tab t b Free free_writes_not w ∙ ap Writing same) at in
        freed_tab p.tabs tab b (ap (λ (u : ℕ). get_or (set p.tabs tab Free) u Free) (sym one) ∙ w)

-- a writer closes its entry
pub close_writer_holds : (s : Setting) (life : Life) (tab a : ℕ) (p : Plain) (e : Entry) → tab_at p tab ≡ Writing a → entry_at p a ≡ Some e → HoldsItsSlots s p
    → slots_held s p + held s.room (ended life (place_at p a)) ≤ s.slots + held s.room (place_at p a) → HoldsItsSlots s (close_writer life tab a p)
unfolding ending
close_writer_holds s life tab a p e at is h enough =
    let sums : slots_held s (ending life tab a p) + held s.room (place_at p a) ≡ slots_held s p + held s.room (ended life (place_at p a)) = sum_set s.room p.places a (ended life (place_at p a)) e is in
    settle_holds s a (ending life tab a p) (record { within = omega arith; writes = ending_writes life tab a p at h.writes })

-- an entry that is given up holds what it held
pub given_up_holds : (s : Setting) (tab a : ℕ) (p : Plain) (e : Entry) → tab_at p tab ≡ Writing a → entry_at p a ≡ Some e → e.life ≡ Growing → HoldsItsSlots s p → HoldsItsSlots s (close_writer GivenUp tab a p)
given_up_holds s tab a p e at is g h =
    let old : held s.room (place_at p a) ≡ hold (published s.room e.content) = ap (held_by s.room) is ∙ held_unfinished s.room e Growing g (inl refl) in
    let new : held s.room (ended GivenUp (place_at p a)) ≡ hold (published s.room e.content) =
    ap (held_by s.room) (ap (changed (λ d. record d { life = GivenUp })) is) ∙ held_unfinished s.room (record e { life = GivenUp }) GivenUp refl (inr refl) in
    let w = h.within in
    close_writer_holds s GivenUp tab a p e at is h (omega arith)

-- a whole one holds one slot more where nothing was published
pub whole_holds : (s : Setting) (tab a : ℕ) (p : Plain) (e : Entry) → tab_at p tab ≡ Writing a → entry_at p a ≡ Some e → e.life ≡ Growing → HoldsItsSlots s p
    → (published s.room e.content ≡ 0 → slots_held s p < s.slots) → HoldsItsSlots s (close_writer Whole tab a p)
whole_holds s tab a p e at is g h left =
    let old : held s.room (place_at p a) ≡ hold (published s.room e.content) = ap (held_by s.room) is ∙ held_unfinished s.room e Growing g (inl refl) in
    let new : held s.room (ended Whole (place_at p a)) ≡ published s.room e.content + 1 =
    ap (held_by s.room) (ap (changed (λ d. record d { life = Whole })) is) ∙ held_whole s.room (record e { life = Whole }) refl in
    let w = h.within in
    close_writer_holds s Whole tab a p e at is h (by_published (published s.room e.content) (held s.room (place_at p a)) (held s.room (ended Whole (place_at p a))) old new left w)
  where
    by_published : (n old new : ℕ) → old ≡ hold n → new ≡ n + 1 → (n ≡ 0 → slots_held s p < s.slots) → slots_held s p ≤ s.slots → slots_held s p + new ≤ s.slots + old
    by_published zero old new o m l w = let k = l refl in omega arith
    by_published (suc n) old new o m l w = omega arith
