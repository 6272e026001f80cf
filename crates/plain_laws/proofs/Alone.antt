-- Where there are slots enough nothing is evicted, and an entry grows by itself.
use Rattle.std.proofs.Common.{◌≡◌, inl, ◌∙◌, ℕ, zero, suc, ◌+◌, ◌-◌, ◌*◌, ◌<◌, ◌≤◌, List, [], ◌∷◌, length, get_or, set, sum_by, refl, sym, ap, arith, Bool, true, false, cond, get_or-set_same}
use Rattle.std.specs.Prelude.{Option, Some, None, ◌==◌, nat_lt, nat_le, min, is_some}
use Rattle.std.proofs.lemmas.Bool.Decides.{nat_tests}
use Rattle.plain_model.specs.declared.entry.Life.TheVariants.{Growing}
use Rattle.plain_model.specs.declared.entry.Entry.{Entry}
use Rattle.plain_model.specs.declared.entry.Place.{Place}
use Rattle.plain_model.specs.declared.store.Setting.{Setting}
use Rattle.plain_model.specs.declared.store.Plain.{Plain}
use Rattle.plain_model.specs.declared.store.Refusal.{Refusal}
use Rattle.plain_model.specs.declared.store.Refusal.TheVariants.{Full, Large}
use Rattle.plain_model.specs.Place.{nothing, changed, resized}
use Rattle.plain_model.specs.Store.{place_at, entry_at, published}
use Rattle.plain_model.specs.Slots.{held_by, held, free, victim, claim, claim_of, claim_two, Claimed, Grown, resize, publish, grow, limit}
use Rattle.plain_laws.specs.Holding.{slots_held}
use Rattle.std.specs.Prelude.{◌/◌}
use Rattle.std.specs.List.{range_with_len}
use Rattle.std.proofs.lemmas.List.Sums.{sum_by-cons}
use Rattle.std.proofs.lemmas.Nat.{le-div}
use Rattle.std.proofs.Math.Nat.{div-mul-le_self}
use Rattle.plain_model.specs.Slots.{claimed_as, grown_as}
use Rattle.plain_model.specs.Writing.{append, last_slot}
use Rattle.plain_laws.proofs.Sums.{hold, held_unfinished, full_slots, inside, sum_set}
use Rattle.plain_laws.proofs.Filling.{resized_there}

-- the entry at this anchor grows, and there are slots for so many of its own
pub record Roomy (s : Setting) (a c : ℕ) (p : Plain) : Type 0 where
  pub entry : Entry
  pub there : entry_at p a ≡ Some entry
  pub grows : entry.life ≡ Growing
  pub may_hold : slots_held s p + c ≤ s.slots + held s.room (place_at p a)

pub published_le : (room m n : ℕ) → 0 < room → m ≤ n → published room m ≤ published room n
published_le room m n some le =
    let k : (m - 1) / room * room ≤ m - 1 = div-mul-le_self (m - 1) room in
    let j : (m - 1) / room * room ≤ n - 1 = omega arith in
    le-div ((m - 1) / room) (n - 1) room some j

pub claim_free : (s : Setting) (claimed : ℕ) (p : Plain) → claimed + slots_held s p < s.slots → claim s claimed p ≡ claimed_as p true
claim_free s claimed p h =
    let k : claimed < s.slots - slots_held s p = omega arith in
    let t : nat_lt claimed (free s p) ≡ true = grind (arith, nat_tests) in
    ap (λ b. cond b (claimed_as p true) (claim_of s p (victim s p))) t

two_free : (s : Setting) (p : Plain) → 1 + slots_held s p < s.slots → claim_two s p ≡ claimed_as p true
two_free s p h =
    let one : claim s 0 p ≡ claimed_as p true = claim_free s 0 p (omega arith) in
    ap (λ (r : Claimed). cond r.done (claim s 1 r.store) r) one ∙ claim_free s 1 p h

pub resize_sums : (s : Setting) (a content c : ℕ) (p : Plain) → Roomy s a c p → Roomy s a c (resize a content p)
resize_sums s a content c p h =
    let here : place_at (resize a content p) a ≡ resized content (place_at p a) = get_or-set_same p.places a (resized content (place_at p a)) nothing (inside p.places a h.entry h.there) in
    let now : held s.room (place_at (resize a content p) a) ≡ held s.room (resized content (place_at p a)) = ap (held s.room) here in
    let sums : slots_held s (resize a content p) + held s.room (place_at p a) ≡ slots_held s p + held s.room (resized content (place_at p a)) = sum_set s.room p.places a (resized content (place_at p a)) h.entry h.there in
    let may = h.may_hold in
    record { entry = record h.entry { content = content }; there = resized_there a content p h.entry h.there; grows = h.grows; may_hold = omega arith }

-- a publishing claims nothing but free slots
publish_free : (s : Setting) (a k filled c : ℕ) (p : Plain) → 0 < s.room → filled ≡ k + 1 → Roomy s a c p → filled + 1 ≤ c → nat_le (limit s) filled ≡ false
    → publish s a filled p ≡ grown_as (resize a (filled * s.room) p) None
publish_free s a k filled c p room is h enough small =
    let roomy = resize_sums s a (filled * s.room) c p h in
    let at : published s.room (filled * s.room) ≡ k = full_slots s.room filled k room is in
    let had : held s.room (place_at (resize a (filled * s.room) p) a) ≡ hold k =
    ap (held_by s.room) (resized_there a (filled * s.room) p h.entry h.there) ∙ (held_unfinished s.room (record h.entry { content = filled * s.room }) Growing h.grows (inl refl) ∙ ap hold at) in
    let may = roomy.may_hold in
    by_first k refl had may
  where
    full : Plain
    full = resize a (filled * s.room) p

    of_claim : Claimed → Grown
    of_claim c = grown_as c.store (cond c.done None (Some Full))

    by_first : (j : ℕ) → j ≡ k → held s.room (place_at full a) ≡ hold k → slots_held s full + c ≤ s.slots + held s.room (place_at full a) → publish s a filled p ≡ grown_as full None
    by_first zero j had may =
        let none : held s.room (place_at full a) ≡ 0 = had ∙ ap hold (sym j) in
        let first : (filled == 1) ≡ true = (let one : filled ≡ 1 = omega arith in grind (arith, nat_tests)) in
        let two : claim_two s full ≡ claimed_as full true = two_free s full (omega arith) in
        ap (λ b. cond b (grown_as full (Some Large)) (of_claim (cond (filled == 1) (claim_two s full) (claim s 0 full)))) small
        ∙ ap (λ b. of_claim (cond b (claim_two s full) (claim s 0 full))) first
        ∙ ap of_claim two
    by_first (suc i) j had may =
        let some : held s.room (place_at full a) ≡ suc (suc i) = had ∙ ap hold (sym j) in
        let later : (filled == 1) ≡ false = (let two : 1 < filled = omega arith in grind (arith, nat_tests)) in
        let one : claim s 0 full ≡ claimed_as full true = claim_free s 0 full (omega arith) in
        ap (λ b. cond b (grown_as full (Some Large)) (of_claim (cond (filled == 1) (claim_two s full) (claim s 0 full)))) small
        ∙ ap (λ b. of_claim (cond b (claim_two s full) (claim s 0 full))) later
        ∙ ap of_claim one

publish_large : (s : Setting) (a filled : ℕ) (p : Plain) → nat_le (limit s) filled ≡ true → publish s a filled p ≡ grown_as (resize a (filled * s.room) p) (Some Large)
publish_large s a filled p large = rw large refl

-- how far an entry grows by itself, and whether it is refused
abbrev pub size_at : Setting → (content n filled : ℕ) → ℕ
size_at s content zero filled = content
size_at s content (suc n) filled = cond (nat_le (limit s) filled) (filled * s.room) (size_at s content n (filled + 1))

abbrev pub refusal_at : Setting → (n filled : ℕ) → Option Refusal
refusal_at s zero filled = None
refusal_at s (suc n) filled = cond (nat_le (limit s) filled) (Some Large) (refusal_at s n (filled + 1))

changed_twice : (c d : ℕ) (o : Option Entry) → changed (λ e. record e { content = c }) (changed (λ e. record e { content = d }) o) ≡ changed (λ e. record e { content = c }) o
changed_twice c d None = refl
changed_twice c d (Some e) = refl

set_twice : (c d : ℕ) (ps : List Place) (a : ℕ) → set (set ps a (resized d (get_or ps a nothing))) a (resized c (get_or (set ps a (resized d (get_or ps a nothing))) a nothing)) ≡ set ps a (resized c (get_or ps a nothing))
set_twice c d [] a = refl
set_twice c d (x ∷ ps) zero = ap (λ (o : Option Entry). record { version = x.version; doom = x.doom; entry = o } ∷ ps) (changed_twice c d x.entry)
set_twice c d (x ∷ ps) (suc a) = ap (λ (qs : List Place). x ∷ qs) (set_twice c d ps a)

resize_twice : (a c d : ℕ) (p : Plain) → resize a c (resize a d p) ≡ resize a c p
resize_twice a c d p = ap (λ (ps : List Place). record p { places = ps }) (set_twice c d p.places a)

-- growing claims nothing but free slots
pub grow_free : (s : Setting) (a content n filled k c : ℕ) (p : Plain) → 0 < s.room → filled ≡ k + 1 → n ≡ published s.room content - k → min (limit s) (published s.room content + 1) ≤ c → Roomy s a c p
    → grow s a content n filled p ≡ grown_as (resize a (size_at s content n filled) p) (refusal_at s n filled)
grow_free s a content zero filled k c p room is left enough h = refl
grow_free s a content (suc n) filled k c p room is left enough h =
    by_limit (nat_le (limit s) filled) refl (grow_free s a content n (filled + 1) (suc k) c (resize a (filled * s.room) p) room (omega arith) (omega arith) enough (resize_sums s a (filled * s.room) c p h))
  where
    by_limit : (b : Bool) → nat_le (limit s) filled ≡ b
        → grow s a content n (filled + 1) (resize a (filled * s.room) p) ≡ grown_as (resize a (size_at s content n (filled + 1)) (resize a (filled * s.room) p)) (refusal_at s n (filled + 1))
        → grow s a content (suc n) filled p ≡ grown_as (resize a (size_at s content (suc n) filled) p) (refusal_at s (suc n) filled)
    by_limit true t next =
        ap (λ (g : Grown). cond (is_some g.refusal) g (grow s a content n (filled + 1) g.store)) (publish_large s a filled p t)
        ∙ sym (ap (λ (b : Bool). grown_as (resize a (cond b (filled * s.room) (size_at s content n (filled + 1))) p) (cond b (Some Large) (refusal_at s n (filled + 1)))) t)
    by_limit false t next =
        let below : filled < limit s = grind (arith, nat_tests) in
        let fits : filled + 1 ≤ c = omega arith in
        ap (λ (g : Grown). cond (is_some g.refusal) g (grow s a content n (filled + 1) g.store)) (publish_free s a k filled c p room is h fits t)
        ∙ next
        ∙ ap (λ (q : Plain). grown_as q (refusal_at s n (filled + 1))) (resize_twice a (size_at s content n (filled + 1)) (filled * s.room) p)
        ∙ sym (ap (λ (b : Bool). grown_as (resize a (cond b (filled * s.room) (size_at s content n (filled + 1))) p) (cond b (Some Large) (refusal_at s n (filled + 1)))) t)

-- what an entry comes to by so many bytes more
abbrev pub added_size : Setting → (count content : ℕ) → ℕ
added_size s count content = size_at s (content + count) (published s.room (content + count) - published s.room content) (published s.room content + 1)

abbrev pub added_refusal : Setting → (count content : ℕ) → Option Refusal
added_refusal s count content = refusal_at s (published s.room (content + count) - published s.room content) (published s.room content + 1)

pub append_free : (s : Setting) (a count content c : ℕ) (p : Plain) → 0 < s.room → min (limit s) (published s.room (content + count) + 1) ≤ c → Roomy s a c p
    → append s a count content p ≡ grown_as (resize a (added_size s count content) p) (added_refusal s count content)
append_free s a count content c p room enough h =
    grow_free s a (content + count) (published s.room (content + count) - published s.room content) (published s.room content + 1) (published s.room content) c p room refl refl enough h

-- the last slot is free
pub last_free : (s : Setting) (a content c : ℕ) (p : Plain) (e : Entry) → 1 ≤ c → entry_at p a ≡ Some e → e.life ≡ Growing → e.content ≡ content → slots_held s p + c ≤ s.slots + held s.room (place_at p a)
    → last_slot s content p ≡ grown_as p None
last_free s a content c p e some there grows is may = by_test (published s.room content == 0) refl
  where
    by_test : (b : Bool) → (published s.room content == 0) ≡ b → last_slot s content p ≡ grown_as p None
    by_test false t = ap (λ (b : Bool). cond b (grown_as (claim s 0 p).store (cond (claim s 0 p).done None (Some Full))) (grown_as p None)) t
    by_test true t =
        let none : published s.room content ≡ 0 = grind (arith, nat_tests) in
        let had : held s.room (place_at p a) ≡ 0 = ap (held_by s.room) there ∙ (held_unfinished s.room e Growing grows (inl refl) ∙ ap hold (ap (published s.room) is ∙ none)) in
        ap (λ (b : Bool). cond b (grown_as (claim s 0 p).store (cond (claim s 0 p).done None (Some Full))) (grown_as p None)) t
        ∙ ap (λ (r : Claimed). grown_as r.store (cond r.done None (Some Full))) (claim_free s 0 p (omega arith))

-- the most that all anchors hold is the room of one of them and what the others hold
pub all_caps : (h : Place → ℕ) (cap : ℕ → ℕ) (ps : List Place) (i : ℕ) → ((b : ℕ) → h (get_or ps b nothing) ≤ cap (i + b)) → sum_by h ps ≤ sum_by cap (range_with_len i (length ps))
all_caps h cap [] i le = omega arith
all_caps h cap (x ∷ ps) i le =
    let first : h x ≤ cap (i + 0) = le 0 in
    let same : cap (i + 0) ≡ cap i = ap cap (omega arith) in
    let rest = all_caps h cap ps (i + 1) (λ b. let k : h (get_or ps b nothing) ≤ cap (i + suc b) = le (suc b) in let e : cap (i + suc b) ≡ cap (i + 1 + b) = ap cap (omega arith) in omega arith) in
    omega (arith, sum_by-cons h x ps, sum_by-cons cap i (range_with_len (i + 1) (length ps)))

pub one_cap : (h : Place → ℕ) (cap : ℕ → ℕ) (ps : List Place) (i a : ℕ) → a < length ps → ((b : ℕ) → h (get_or ps b nothing) ≤ cap (i + b))
    → sum_by h ps + cap (i + a) ≤ sum_by cap (range_with_len i (length ps)) + h (get_or ps a nothing)
one_cap h cap [] i a lt le = absurd (omega arith)
one_cap h cap (x ∷ ps) i zero lt le =
    let same : cap (i + 0) ≡ cap i = ap cap (omega arith) in
    let rest = all_caps h cap ps (i + 1) (λ b. let k : h (get_or ps b nothing) ≤ cap (i + suc b) = le (suc b) in let e : cap (i + suc b) ≡ cap (i + 1 + b) = ap cap (omega arith) in omega arith) in
    omega (arith, sum_by-cons h x ps, sum_by-cons cap i (range_with_len (i + 1) (length ps)))
one_cap h cap (x ∷ ps) i (suc a) lt le =
    let first : h x ≤ cap (i + 0) = le 0 in
    let same : cap (i + 0) ≡ cap i = ap cap (omega arith) in
    let at : cap (i + suc a) ≡ cap (i + 1 + a) = ap cap (omega arith) in
    let rest = one_cap h cap ps (i + 1) a (omega arith) (λ b. let k : h (get_or ps b nothing) ≤ cap (i + suc b) = le (suc b) in let e : cap (i + suc b) ≡ cap (i + 1 + b) = ap cap (omega arith) in omega arith) in
    omega (arith, sum_by-cons h x ps, sum_by-cons cap i (range_with_len (i + 1) (length ps)))
