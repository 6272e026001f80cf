-- An entry that grows has its slots.
use Rattle.std.proofs.Common.{◌≡◌, inl, ◌∙◌, ℕ, zero, suc, ◌+◌, ◌*◌, ◌<◌, ◌≤◌, List, [], ◌∷◌, get_or, set, refl, sym, ap, subst, arith, Bool, true, false, cond, get_or-set_same}
use Rattle.std.specs.Prelude.{Option, Some, None, ◌==◌, nat_le, is_some}
use Rattle.std.proofs.lemmas.Bool.Decides.{nat_tests}
use Rattle.plain_model.specs.declared.entry.Life.TheVariants.{Growing}
use Rattle.plain_model.specs.declared.entry.Entry.{Entry}
use Rattle.plain_model.specs.declared.entry.Place.{Place}
use Rattle.plain_model.specs.declared.store.Setting.{Setting}
use Rattle.plain_model.specs.declared.store.Plain.{Plain}
use Rattle.plain_model.specs.declared.store.Refusal.{Refusal}
use Rattle.plain_model.specs.declared.store.Refusal.TheVariants.{Full, Large}
use Rattle.plain_model.specs.Place.{nothing, changed, resized}
use Rattle.plain_model.specs.Store.{place_at, entry_at, published}
use Rattle.plain_model.specs.Slots.{held_by, held, claim, claim_two, Claimed, Grown, resize, publish, grow, limit}
use Rattle.plain_laws.specs.Holding.{IsGrowing, slots_held}
use Rattle.plain_laws.proofs.Choosing.{either}
use Rattle.plain_laws.proofs.Sums.{hold, held_unfinished, hold_le, full_slots, inside, sum_set}
use Rattle.plain_laws.proofs.Evicting.{Untouched, ClaimLeaves, claim_leaves, two_leave}

-- the entry at this anchor grows, and may hold what it holds with so many published slots
pub record Fills (s : Setting) (a k : ℕ) (p : Plain) : Type 0 where
  pub entry : Entry
  pub there : entry_at p a ≡ Some entry
  pub grows : entry.life ≡ Growing
  pub within : slots_held s p ≤ s.slots
  pub may_hold : slots_held s p + hold k ≤ s.slots + held s.room (place_at p a)

-- tabs are as they were, and entries that grow go on
pub record StaysGrowing (p q : Plain) : Type 0 where
  pub tabs : q.tabs ≡ p.tabs
  pub grows : (b : ℕ) → IsGrowing (entry_at p b) → IsGrowing (entry_at q b)

pub growing_refl : (p : Plain) → StaysGrowing p p
growing_refl p = record { tabs = refl; grows = λ b g. g }

pub growing_trans : (p q r : Plain) → StaysGrowing p q → StaysGrowing q r → StaysGrowing p r
growing_trans p q r h k = record { tabs = k.tabs ∙ h.tabs; grows = λ b g. k.grows b (h.grows b g) }

pub untouched_grows : (p q : Plain) → Untouched p q → StaysGrowing p q
untouched_grows p q h = record { tabs = h.tabs; grows = λ b g. subst (λ (x : Place). IsGrowing x.entry) (sym (h.places b g)) g }

-- a place is changed, and grows if it did
pub grows_set : (f : Place → Place) → ((x : Place) → IsGrowing x.entry → IsGrowing (f x).entry) → (ps : List Place) (a b : ℕ)
    → IsGrowing (get_or ps b nothing).entry → IsGrowing (get_or (set ps a (f (get_or ps a nothing))) b nothing).entry
grows_set f keeps [] a b g = g
grows_set f keeps (x ∷ ps) zero zero g = keeps x g
grows_set f keeps (x ∷ ps) zero (suc b) g = g
grows_set f keeps (x ∷ ps) (suc a) zero g = g
grows_set f keeps (x ∷ ps) (suc a) (suc b) g = grows_set f keeps ps a b g

resized_grows : (content : ℕ) (o : Option Entry) → IsGrowing o → IsGrowing (changed (λ e. record e { content = content }) o)
resized_grows content None g = g
resized_grows content (Some e) g = g

pub resize_grows : (a content : ℕ) (p : Plain) → StaysGrowing p (resize a content p)
resize_grows a content p = record { tabs = refl; grows = λ b g. grows_set (resized content) (λ x h. resized_grows content x.entry h) p.places a b g }

-- the entry at a, with another size
pub resized_there : (a content : ℕ) (p : Plain) (e : Entry) → entry_at p a ≡ Some e → entry_at (resize a content p) a ≡ Some (record e { content = content })
resized_there a content p e is =
    ap (λ (x : Place). x.entry) (get_or-set_same p.places a (resized content (place_at p a)) nothing (inside p.places a e is))
    ∙ ap (changed (λ d. record d { content = content })) is

pub resize_fills : (s : Setting) (a k j content : ℕ) (p : Plain) → Fills s a k p → published s.room content ≡ j → j ≤ k → Fills s a k (resize a content p)
resize_fills s a k j content p h is le =
    let there = resized_there a content p h.entry h.there in
    let now : held s.room (place_at (resize a content p) a) ≡ hold j = ap (held_by s.room) there ∙ (held_unfinished s.room (record h.entry { content = content }) Growing h.grows (inl refl) ∙ ap hold is) in
    let new : held s.room (resized content (place_at p a)) ≡ hold j = ap (held_by s.room) (ap (changed (λ d. record d { content = content })) h.there) ∙ (held_unfinished s.room (record h.entry { content = content }) Growing h.grows (inl refl) ∙ ap hold is) in
    let sums : slots_held s (resize a content p) + held s.room (place_at p a) ≡ slots_held s p + held s.room (resized content (place_at p a)) = sum_set s.room p.places a (resized content (place_at p a)) h.entry h.there in
    let may : slots_held s p + hold k ≤ s.slots + held s.room (place_at p a) = h.may_hold in
    let less : hold j ≤ hold k = hold_le j k le in
    record { entry = record h.entry { content = content }; there = there; grows = h.grows; within = omega arith; may_hold = omega arith }

-- after a claim the entry may hold as much as slots are left for
after_claim : (s : Setting) (a k m : ℕ) (p q : Plain) → Fills s a k p → held s.room (place_at p a) ≡ hold k → Untouched p q → slots_held s q + hold m ≤ s.slots + hold k → slots_held s q ≤ s.slots
    → Fills s a m q
after_claim s a k m p q h had touched left within =
    let same : place_at q a ≡ place_at p a = touched.places a (subst (λ (o : Option Entry). IsGrowing o) (sym h.there) h.grows) in
    let now : held s.room (place_at q a) ≡ hold k = ap (held s.room) same ∙ had in
    record { entry = h.entry; there = ap (λ (x : Place). x.entry) same ∙ h.there; grows = h.grows; within = within; may_hold = omega arith }

-- what a publishing leaves
pub record PublishLeaves (s : Setting) (a k : ℕ) (p : Plain) (g : Grown) : Type 0 where
  pub refused : (x : Refusal) → g.refusal ≡ Some x → Fills s a k g.store
  pub went_on : g.refusal ≡ None → Fills s a (suc k) g.store
  pub grows : StaysGrowing p g.store

grown_by : (s : Setting) (a k m : ℕ) (p full : Plain) (c : Claimed) → StaysGrowing p full → Fills s a k full → held s.room (place_at full a) ≡ hold k → hold (suc k) ≤ hold k + m + 1 → ClaimLeaves s m full c
    → (b : Bool) → c.done ≡ b → PublishLeaves s a k p (record { store = c.store; refusal = cond c.done None (Some Full) })
grown_by s a k m p full c stays h had enough leaves true d = rw d (record {
  refused = λ x e. let no : None ≡ Some x = e in cc;
  went_on = λ e. after_claim s a k (suc k) full c.store h had leaves.untouched
      (let left = leaves.left d in omega arith)
      (let left = leaves.left d in omega arith);
  grows = growing_trans p full c.store stays (untouched_grows full c.store leaves.untouched);
})
grown_by s a k m p full c stays h had enough leaves false d = rw d (record {
  refused = λ x e. after_claim s a k k full c.store h had leaves.untouched
      (let less = leaves.less in let w = h.within in omega arith)
      (let less = leaves.less in let w = h.within in omega arith);
  went_on = λ e. let no : Some Full ≡ None = e in cc;
  grows = growing_trans p full c.store stays (untouched_grows full c.store leaves.untouched);
})

one_more : (k : ℕ) → hold (suc k) ≤ hold k + 1 + 1
one_more zero = omega arith
one_more (suc k) = omega arith

later_one : (filled k : ℕ) → filled ≡ k + 1 → (filled == 1) ≡ false → hold (suc k) ≤ hold k + 0 + 1
later_one filled zero e t = let one : filled ≡ 1 = omega arith in let no : (filled == 1) ≡ true = grind (arith, nat_tests) in let k : true ≡ false = sym no ∙ t in cc
later_one filled (suc k) e t = omega arith

pub publish_leaves : (s : Setting) (a k filled : ℕ) (p : Plain) → 0 < s.room → filled ≡ k + 1 → Fills s a k p → PublishLeaves s a k p (publish s a filled p)
publish_leaves s a k filled p room is h =
    let at : published s.room (filled * s.room) ≡ k = full_slots s.room filled k room is in
    let fills = resize_fills s a k k (filled * s.room) p h at (omega arith) in
    let stays = resize_grows a (filled * s.room) p in
    let had : held s.room (place_at (resize a (filled * s.room) p) a) ≡ hold k =
    ap (held_by s.room) (resized_there a (filled * s.room) p h.entry h.there) ∙ (held_unfinished s.room (record h.entry { content = filled * s.room }) Growing h.grows (inl refl) ∙ ap hold at) in
    let enough = fills.within in
    either (λ (g : Grown). PublishLeaves s a k p g) (nat_le (limit s) filled) _ _
    (λ t. record { refused = λ x e. fills; went_on = λ e. let no : Some Large ≡ None = e in cc; grows = stays })
    (λ t. either (λ (c : Claimed). PublishLeaves s a k p (record { store = c.store; refusal = cond c.done None (Some Full) })) (filled == 1) (claim_two s (resize a (filled * s.room) p)) (claim s 0 (resize a (filled * s.room) p))
    (λ u. grown_by s a k 1 p (resize a (filled * s.room) p) (claim_two s (resize a (filled * s.room) p)) stays fills had (one_more k) (two_leave s (resize a (filled * s.room) p) enough) (claim_two s (resize a (filled * s.room) p)).done refl)
    (λ u. grown_by s a k 0 p (resize a (filled * s.room) p) (claim s 0 (resize a (filled * s.room) p)) stays fills had (later_one filled k is u) (claim_leaves s 0 (resize a (filled * s.room) p) (omega arith)) (claim s 0 (resize a (filled * s.room) p)).done refl))

-- what growing leaves
pub record GrowLeaves (s : Setting) (a content : ℕ) (p : Plain) (g : Grown) : Type 0 where
  pub grows : StaysGrowing p g.store
  pub within : slots_held s g.store ≤ s.slots
  pub grown : g.refusal ≡ None → (e : Entry) × (entry_at g.store a ≡ Some e) × (e.life ≡ Growing) × (e.content ≡ content)

some_of : (o : Option Refusal) → is_some o ≡ true → (x : Refusal) × (o ≡ Some x)
some_of None t = let k : false ≡ true = t in cc
some_of (Some x) t = (x, refl)

none_of : (o : Option Refusal) → is_some o ≡ false → o ≡ None
none_of None t = refl
none_of (Some x) t = let k : true ≡ false = t in cc

pub grow_leaves : (s : Setting) (a content n filled k : ℕ) (p : Plain) → 0 < s.room → filled ≡ k + 1 → published s.room content ≤ k + n → Fills s a k p → GrowLeaves s a content p (grow s a content n filled p)
grow_leaves s a content zero filled k p room is enough h =
    let fills = resize_fills s a k (published s.room content) content p h refl (omega arith) in
    record { grows = resize_grows a content p; within = fills.within; grown = λ e. (record h.entry { content = content }, resized_there a content p h.entry h.there, h.grows, refl) }
grow_leaves s a content (suc n) filled k p room is enough h =
    let leaves = publish_leaves s a k filled p room is h in
    either (λ (g : Grown). GrowLeaves s a content p g) (is_some (publish s a filled p).refusal) _ _
    (λ t. let x = some_of (publish s a filled p).refusal t in
    let fills = leaves.refused x.0 x.1 in
    record { grows = leaves.grows; within = fills.within; grown = λ e. let no : Some x.0 ≡ None = sym x.1 ∙ e in cc })
    (λ t. let fills = leaves.went_on (none_of (publish s a filled p).refusal t) in
    let next = grow_leaves s a content n (filled + 1) (suc k) (publish s a filled p).store room (omega arith) (omega arith) fills in
    record { grows = growing_trans p (publish s a filled p).store (grow s a content n (filled + 1) (publish s a filled p).store).store leaves.grows next.grows; within = next.within; grown = next.grown })
