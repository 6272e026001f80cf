-- A claim leaves as many slots as it says, and touches no entry that grows.
use Rattle.std.proofs.Common.{◌≡◌, ◌∙◌, ℕ, ◌+◌, ◌-◌, ◌<◌, ◌≤◌, List, [], ◌∷◌, refl, sym, ap, subst, arith, Bool, true, false, get_or-set_other}
use Rattle.std.specs.Prelude.{Option, Some, None, not, ◌==◌, ◌&&◌, nat_lt, find}
use Rattle.std.proofs.lemmas.Bool.Decides.{nat_tests}
use Rattle.plain_model.specs.declared.entry.Life.{Life}
use Rattle.plain_model.specs.declared.entry.Life.TheVariants.{Growing, Whole, GivenUp}
use Rattle.plain_model.specs.declared.entry.Entry.{Entry}
use Rattle.plain_model.specs.declared.entry.Place.{Place}
use Rattle.plain_model.specs.declared.store.Setting.{Setting}
use Rattle.plain_model.specs.declared.store.Plain.{Plain}
use Rattle.plain_model.specs.Place.{nothing, vacated}
use Rattle.plain_model.specs.Store.{place_at, entry_at, published, has_life, readers, is_idle_at}
use Rattle.plain_model.specs.Slots.{held_by, held, free, from_hand, victim, evicted, claim, claim_of, claim_two, Claimed}
use Rattle.plain_laws.specs.Holding.{IsGrowing, slots_held}
use Rattle.plain_laws.proofs.Choosing.{either}
use Rattle.plain_laws.proofs.Sums.{held_whole, sum_set}

-- tabs and the entries that grow are as they were
pub record Untouched (p q : Plain) : Type 0 where
  pub tabs : q.tabs ≡ p.tabs
  pub places : (a : ℕ) → IsGrowing (entry_at p a) → place_at q a ≡ place_at p a

pub untouched_refl : (p : Plain) → Untouched p p
untouched_refl p = record { tabs = refl; places = λ a g. refl }

pub untouched_trans : (p q r : Plain) → Untouched p q → Untouched q r → Untouched p r
untouched_trans p q r h k = record {
  tabs = k.tabs ∙ h.tabs;
  places = λ a g. k.places a (subst (λ (x : Place). IsGrowing x.entry) (sym (h.places a g)) g) ∙ h.places a g;
}

found : (f : ℕ → Bool) (xs : List ℕ) (y : ℕ) → find f xs ≡ Some y → f y ≡ true
found f [] y e = let k : None ≡ Some y = e in cc
found f (x ∷ xs) y e = by_test (f x) refl (found f xs y)
  where
    by_test : (b : Bool) → f x ≡ b → (find f xs ≡ Some y → f y ≡ true) → f y ≡ true
    by_test true t later = let k : Some x ≡ Some y = rw t at e in let same : x ≡ y = cc in ap f (sym same) ∙ t
    by_test false t later = later (rw t at e)

pub both : (a b : Bool) → (a && b) ≡ true → a ≡ true
both true b e = refl
both false b e = e

pub whole_of : (o : Option Entry) → has_life Whole o ≡ true → (e : Entry) × (o ≡ Some e) × (e.life ≡ Whole)
whole_of None h = let k : false ≡ true = h in cc
whole_of (Some e) h = (e, refl, by_life e.life refl)
  where
    by_life : (l : Life) → e.life ≡ l → e.life ≡ Whole
    by_life Whole t = t
    by_life Growing t = let k : false ≡ true = rw t at h in cc
    by_life GivenUp t = let k : false ≡ true = rw t at h in cc

pub idle_whole : (p : Plain) (a : ℕ) → is_idle_at p a ≡ true → (e : Entry) × (entry_at p a ≡ Some e) × (e.life ≡ Whole)
idle_whole p a h = whole_of (entry_at p a) (both (has_life Whole (entry_at p a)) (not (place_at p a).doom) (both (has_life Whole (entry_at p a) && not (place_at p a).doom) (readers p a == 0) h))

not_growing : (o : Option Entry) (e : Entry) → o ≡ Some e → e.life ≡ Whole → IsGrowing o → ⊥
not_growing None e is w g = g
not_growing (Some d) e is w g = let same : d ≡ e = cc in let k : Growing ≡ Whole = sym g ∙ (ap (λ (x : Entry). x.life) same ∙ w) in cc

evicted_untouched : (s : Setting) (a : ℕ) (p : Plain) (e : Entry) → entry_at p a ≡ Some e → e.life ≡ Whole → Untouched p (evicted s a p)
evicted_untouched s a p e is w = record {
  tabs = refl;
  places = λ b g. get_or-set_other p.places a b (vacated (place_at p a)) nothing (λ same. not_growing (entry_at p a) e is w (subst (λ (x : ℕ). IsGrowing (entry_at p x)) same g));
}

-- what a claim leaves, beside so many slots
pub record ClaimLeaves (s : Setting) (claimed : ℕ) (p : Plain) (r : Claimed) : Type 0 where
  pub less : slots_held s r.store ≤ slots_held s p
  pub left : r.done ≡ true → slots_held s r.store + claimed < s.slots
  pub untouched : Untouched p r.store

claim_victim : (s : Setting) (claimed : ℕ) (p : Plain) (o : Option ℕ) → victim s p ≡ o → slots_held s p + claimed ≤ s.slots → ClaimLeaves s claimed p (claim_of s p o)
claim_victim s claimed p None e h = record { less = omega arith; left = λ t. let k : false ≡ true = t in cc; untouched = untouched_refl p }
claim_victim s claimed p (Some a) e h =
    let w = idle_whole p a (found (λ b. is_idle_at p b) (from_hand s p) a e) in
    let had : held s.room (place_at p a) ≡ published s.room w.0.content + 1 = ap (held_by s.room) w.1 ∙ held_whole s.room w.0 w.2 in
    let sums : slots_held s (evicted s a p) + held s.room (place_at p a) ≡ slots_held s p + 0 = sum_set s.room p.places a (vacated (place_at p a)) w.0 w.1 in
    record { less = omega arith; left = λ t. omega arith; untouched = evicted_untouched s a p w.0 w.1 w.2 }

pub claim_leaves : (s : Setting) (claimed : ℕ) (p : Plain) → slots_held s p + claimed ≤ s.slots → ClaimLeaves s claimed p (claim s claimed p)
claim_leaves s claimed p h = either (λ (r : Claimed). ClaimLeaves s claimed p r) (nat_lt claimed (free s p)) _ _
    (λ t. let lt : claimed < s.slots - slots_held s p = grind (arith, nat_tests) in record { less = omega arith; left = λ d. omega arith; untouched = untouched_refl p })
    (λ t. claim_victim s claimed p (victim s p) refl h)

pub two_leave : (s : Setting) (p : Plain) → slots_held s p ≤ s.slots → ClaimLeaves s 1 p (claim_two s p)
two_leave s p h =
    let one = claim_leaves s 0 p (omega arith) in
    either (λ (r : Claimed). ClaimLeaves s 1 p r) (claim s 0 p).done _ _
    (λ t. let room = one.left t in
    let two = claim_leaves s 1 (claim s 0 p).store (omega arith) in
    let less : slots_held s (claim s 1 (claim s 0 p).store).store ≤ slots_held s (claim s 0 p).store = two.less in
    let first : slots_held s (claim s 0 p).store ≤ slots_held s p = one.less in
    record { less = omega arith; left = two.left; untouched = untouched_trans p (claim s 0 p).store (claim s 1 (claim s 0 p).store).store one.untouched two.untouched })
    (λ t. record { less = one.less; left = λ d. let k : false ≡ true = sym t ∙ d in cc; untouched = one.untouched })
