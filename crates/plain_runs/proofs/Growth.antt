-- What the plain store makes of an entry that grows, over calls that each add some bytes.
use Rattle.std.proofs.Common.{Bool, List, [], ap, arith, cond, eq-eqb, false, get_or, ne_eqb, refl, set, suc, sym, true, zero, ◌*◌, ◌+◌, ◌-◌, ◌<◌, ◌∙◌, ◌≡◌, ◌≢◌, ◌≤◌, ◌∷◌, ℕ}
use Rattle.std.specs.Prelude.{None, Option, Some, is_some, nat_le, ◌/◌, ◌==◌}
use Rattle.std.proofs.lemmas.Bool.Decides.{nat_tests}
use Rattle.std.proofs.lemmas.Nat.{div-mul-add}
use Rattle.plain_model.specs.declared.entry.Entry.{Entry}
use Rattle.plain_model.specs.declared.entry.Place.{Place}
use Rattle.plain_model.specs.declared.store.Plain.{Plain}
use Rattle.plain_model.specs.declared.store.Refusal.{Refusal}
use Rattle.plain_model.specs.declared.store.Refusal.TheVariants.{Full, Large}
use Rattle.plain_model.specs.declared.store.Setting.{Setting}
use Rattle.plain_model.specs.Place.{changed, nothing, resized}
use Rattle.plain_model.specs.Slots.{Claimed, Grown, claim, claim_two, grow, grown_as, limit, publish, resize}
use Rattle.plain_model.specs.Store.{entry_at, place_at, published}
use Rattle.plain_model.specs.Writing.{append}

-- how many slots are published of so many bytes
pub published_is : (room k x : ℕ) → k * room < x → x ≤ k * room + room → published room x ≡ k
published_is room k x above within =
    ap (λ (n : ℕ). n / room) split ∙ div-mul-add k room (x - k * room - 1) (omega arith)
  where
    split : x - 1 ≡ k * room + (x - k * room - 1)
    split = omega arith

-- A place of which the same is changed twice is as it is after the second time.
set_twice : (f h : Place → Place) → ((x : Place) → h (f x) ≡ h x) → (ps : List Place) (a : ℕ)
    → set (set ps a (f (get_or ps a nothing))) a (h (get_or (set ps a (f (get_or ps a nothing))) a nothing)) ≡ set ps a (h (get_or ps a nothing))
set_twice f h e [] a = refl
set_twice f h e (x ∷ ps) zero = ap (λ (y : Place). y ∷ ps) (e x)
set_twice f h e (x ∷ ps) (suc a) = ap (λ (ys : List Place). x ∷ ys) (set_twice f h e ps a)

resized_twice : (c d : ℕ) (x : Place) → resized d (resized c x) ≡ resized d x
resized_twice c d x = by_entry x.entry
  where
    by_entry : (o : Option Entry) → record x { entry = changed (λ e. record e { content = d }) (changed (λ e. record e { content = c }) o) } ≡ record x { entry = changed (λ e. record e { content = d }) o }
    by_entry None = refl
    by_entry (Some e) = refl

pub resize_twice : (a c d : ℕ) (p : Plain) → resize a d (resize a c p) ≡ resize a d p
resize_twice a c d p = ap (λ (ps : List Place). record p { places = ps }) (set_twice (resized c) (resized d) (resized_twice c d) p.places a)

-- An entry of this size may be given it again.
set_same : (f : Place → Place) (ps : List Place) (a : ℕ) → f (get_or ps a nothing) ≡ get_or ps a nothing → set ps a (f (get_or ps a nothing)) ≡ ps
set_same f [] a e = refl
set_same f (x ∷ ps) zero e = ap (λ (y : Place). y ∷ ps) e
set_same f (x ∷ ps) (suc a) e = ap (λ (ys : List Place). x ∷ ys) (set_same f ps a e)

pub resize_same : (a c : ℕ) (p : Plain) (e : Entry) → entry_at p a ≡ Some e → e.content ≡ c → resize a c p ≡ p
resize_same a c p e there is = ap (λ (ps : List Place). record p { places = ps }) (set_same (resized c) p.places a same)
  where
    by_content : (n : ℕ) → e.content ≡ n → changed (λ d. record d { content = n }) (Some e) ≡ Some e
    by_content n h = ap (λ (m : ℕ). Some (record e { content = m })) (sym h)

    same : resized c (place_at p a) ≡ place_at p a
    same = ap (λ (o : Option Entry). record (place_at p a) { entry = o }) (ap (changed (λ d. record d { content = c })) there ∙ (by_content c is ∙ sym there))

-- A publishing begins with what the entry has then, whatever it had before.
published_as : Setting → ℕ → Plain → Grown
published_as s filled full = cond (nat_le (limit s) filled) (record { store = full; refusal = Some Large }) (grown (cond (filled == 1) (claim_two s full) (claim s 0 full)))
  where
    grown : Claimed → Grown
    grown c = record { store = c.store; refusal = cond c.done None (Some Full) }

publish_is : (s : Setting) (a filled : ℕ) (p : Plain) → publish s a filled p ≡ published_as s filled (resize a (filled * s.room) p)
unfolding published_as
publish_is s a filled p = refl

pub publish_resized : (s : Setting) (a filled c : ℕ) (p : Plain) → publish s a filled (resize a c p) ≡ publish s a filled p
publish_resized s a filled c p = publish_is s a filled (resize a c p) ∙ (ap (published_as s filled) (resize_twice a c (filled * s.room) p) ∙ sym (publish_is s a filled p))

-- what a claim makes of a store that needs it
abbrev pub grown_of : Claimed → Grown
grown_of c = record { store = c.store; refusal = cond c.done None (Some Full) }

pub grown_done : (c : Claimed) → c.done ≡ true → grown_of c ≡ grown_as c.store None
grown_done c e = ap (λ (b : Bool). grown_as c.store (cond b None (Some Full))) e

pub grown_not : (c : Claimed) → c.done ≡ false → grown_of c ≡ grown_as c.store (Some Full)
grown_not c e = ap (λ (b : Bool). grown_as c.store (cond b None (Some Full))) e

pub two_done : (s : Setting) (p : Plain) → (claim s 0 p).done ≡ true → claim_two s p ≡ claim s 1 (claim s 0 p).store
two_done s p e = ap (λ (b : Bool). cond b (claim s 1 (claim s 0 p).store) (claim s 0 p)) e

pub two_not : (s : Setting) (p : Plain) → (claim s 0 p).done ≡ false → claim_two s p ≡ claim s 0 p
two_not s p e = ap (λ (b : Bool). cond b (claim s 1 (claim s 0 p).store) (claim s 0 p)) e

-- Of an entry whose slots are full, so many of them, the last is published: it is too large, or needs slots.
module _ (s : Setting) (a filled : ℕ) (p : Plain) (e : Entry) (there : entry_at p a ≡ Some e) (full : e.content ≡ filled * s.room) where
  publish_full : publish s a filled p ≡ published_as s filled p
  publish_full = publish_is s a filled p ∙ ap (published_as s filled) (resize_same a (filled * s.room) p e there full)

  pub publish_large : limit s ≤ filled → publish s a filled p ≡ grown_as p (Some Large)
  unfolding published_as
  publish_large le = let t : nat_le (limit s) filled ≡ true = grind (arith, nat_tests) in
      publish_full ∙ ap (λ (b : Bool). cond b (grown_as p (Some Large)) (grown_of (cond (filled == 1) (claim_two s p) (claim s 0 p)))) t

  publish_small : filled < limit s → publish s a filled p ≡ grown_of (cond (filled == 1) (claim_two s p) (claim s 0 p))
  unfolding published_as
  publish_small lt = let t : nat_le (limit s) filled ≡ false = grind (arith, nat_tests) in
      publish_full ∙ ap (λ (b : Bool). cond b (grown_as p (Some Large)) (grown_of (cond (filled == 1) (claim_two s p) (claim s 0 p)))) t

  pub publish_first : filled < limit s → filled ≡ 1 → publish s a filled p ≡ grown_of (claim_two s p)
  publish_first lt is = publish_small lt ∙ ap (λ (b : Bool). grown_of (cond b (claim_two s p) (claim s 0 p))) (eq-eqb filled 1 is)

  pub publish_later : filled < limit s → filled ≢ 1 → publish s a filled p ≡ grown_of (claim s 0 p)
  publish_later lt ne = publish_small lt ∙ ap (λ (b : Bool). grown_of (cond b (claim_two s p) (claim s 0 p))) (ne_eqb filled 1 ne)

after_publish : (s : Setting) (a d m filled : ℕ) → Grown → Grown
after_publish s a d m filled g = cond (is_some g.refusal) g (grow s a d m (filled + 1) g.store)

after_is : (s : Setting) (a d m filled : ℕ) (g : Grown) (b : Bool) → is_some g.refusal ≡ b → after_publish s a d m filled g ≡ cond b g (grow s a d m (filled + 1) g.store)
unfolding after_publish
after_is s a d m filled g b e = ap (λ (x : Bool). cond x g (grow s a d m (filled + 1) g.store)) e

grow_resized : (s : Setting) (a c d m filled : ℕ) (p : Plain) → grow s a d m filled (resize a c p) ≡ grow s a d m filled p
unfolding after_publish
grow_resized s a c d zero filled p = ap (λ (q : Plain). record { store = q; refusal = None }) (resize_twice a c d p)
grow_resized s a c d (suc m) filled p = ap (after_publish s a d m filled) (publish_resized s a filled c p)

refused_none : (o : Option Refusal) → is_some o ≡ true → o ≡ None → ⊥
refused_none None t h = cc
refused_none (Some x) t h = cc

-- Growing by some publishings and then by more is growing by all of them.
pub grow_on : (s : Setting) (a c d n m filled : ℕ) (p : Plain) → (grow s a c n filled p).refusal ≡ None → grow s a d m (filled + n) (grow s a c n filled p).store ≡ grow s a d (n + m) filled p
unfolding after_publish
grow_on s a c d zero m filled p none =
    ap (λ (k : ℕ). grow s a d m k (resize a c p)) (let e : filled + zero ≡ filled = omega arith in e)
    ∙ (grow_resized s a c d m filled p ∙ ap (λ (k : ℕ). grow s a d k filled p) (let e : m ≡ zero + m = omega arith in e))
grow_on s a c d (suc n) m filled p none = one (publish s a filled p) (λ q. grow_on s a c d n m (filled + 1) q) none ∙ ap (λ (k : ℕ). grow s a d k filled p) (let e : suc (n + m) ≡ suc n + m = omega arith in e)
  where
    one : (g : Grown) → ((q : Plain) → (grow s a c n (filled + 1) q).refusal ≡ None → grow s a d m (filled + 1 + n) (grow s a c n (filled + 1) q).store ≡ grow s a d (n + m) (filled + 1) q)
        → (after_publish s a c n filled g).refusal ≡ None → grow s a d m (filled + suc n) (after_publish s a c n filled g).store ≡ after_publish s a d (n + m) filled g
    one g again none = by_test (is_some g.refusal) refl
      where
        by_test : (b : Bool) → is_some g.refusal ≡ b → grow s a d m (filled + suc n) (after_publish s a c n filled g).store ≡ after_publish s a d (n + m) filled g
        by_test true e = absurd (refused_none g.refusal e (ap Grown.refusal (sym (after_is s a c n filled g true e)) ∙ none))
        by_test false e =
            ap (λ (h : Grown). grow s a d m (filled + suc n) h.store) (after_is s a c n filled g false e)
            ∙ (ap (λ (k : ℕ). grow s a d m k (grow s a c n (filled + 1) g.store).store) (let k : filled + suc n ≡ filled + 1 + n = omega arith in k)
            ∙ (again g.store (ap Grown.refusal (sym (after_is s a c n filled g false e)) ∙ none) ∙ sym (after_is s a d (n + m) filled g false e)))

-- Where bytes are added, by what is published of them.

-- none: they find room
pub append_here : (s : Setting) (a count x : ℕ) (p : Plain) → published s.room (x + count) ≡ published s.room x → append s a count x p ≡ grown_as (resize a (x + count) p) None
append_here s a count x p same = ap (λ (n : ℕ). grow s a (x + count) n (published s.room x + 1) p) (let e : published s.room (x + count) - published s.room x ≡ 0 = omega arith in e)

-- one slot, and what is refused there
pub append_behind : (s : Setting) (a count x k : ℕ) (p : Plain) → published s.room x ≡ k → published s.room (x + count) ≡ k + 1 → (publish s a (k + 1) p).refusal ≡ None
    → append s a count x p ≡ grown_as (resize a (x + count) (publish s a (k + 1) p).store) None
unfolding after_publish
append_behind s a count x k p here then none =
    ap (λ (n : ℕ). grow s a (x + count) n (published s.room x + 1) p) (let e : published s.room (x + count) - published s.room x ≡ suc zero = omega arith in e)
    ∙ (ap (λ (n : ℕ). grow s a (x + count) (suc zero) (n + 1) p) here ∙ after_is s a (x + count) zero (k + 1) (publish s a (k + 1) p) false (ap is_some none))

-- Wherever the bytes would end, a first publishing that is refused is all that comes of them.
pub append_stops : (s : Setting) (a count x k : ℕ) (p : Plain) (r : Refusal) → published s.room x ≡ k → k < published s.room (x + count) → (publish s a (k + 1) p).refusal ≡ Some r
    → append s a count x p ≡ publish s a (k + 1) p
unfolding after_publish
append_stops s a count x k p r here more refused =
    ap (λ (n : ℕ). grow s a (x + count) n (published s.room x + 1) p) (let e : published s.room (x + count) - published s.room x ≡ suc (published s.room (x + count) - k - 1) = omega arith in e)
    ∙ (ap (λ (n : ℕ). grow s a (x + count) (suc (published s.room (x + count) - k - 1)) (n + 1) p) here
    ∙ after_is s a (x + count) (published s.room (x + count) - k - 1) (k + 1) (publish s a (k + 1) p) true (ap is_some refused))

-- Bytes that are added in two goes.
pub append_on : (s : Setting) (a c d x : ℕ) (p : Plain) → published s.room x ≤ published s.room (x + c) → published s.room (x + c) ≤ published s.room (x + c + d) → (append s a c x p).refusal ≡ None
    → append s a d (x + c) (append s a c x p).store ≡ append s a (c + d) x p
append_on s a c d x p first second none =
    ap (λ (n : ℕ). grow s a (x + c + d) (published s.room (x + c + d) - published s.room (x + c)) n (append s a c x p).store)
    (let e : published s.room (x + c) + 1 ≡ published s.room x + 1 + (published s.room (x + c) - published s.room x) = omega arith in e)
    ∙ (grow_on s a (x + c) (x + c + d) (published s.room (x + c) - published s.room x) (published s.room (x + c + d) - published s.room (x + c)) (published s.room x + 1) p none
    ∙ (ap (λ (n : ℕ). grow s a (x + c + d) n (published s.room x + 1) p)
    (let e : published s.room (x + c) - published s.room x + (published s.room (x + c + d) - published s.room (x + c)) ≡ published s.room (x + c + d) - published s.room x = omega arith in e)
    ∙ ap (λ (n : ℕ). grow s a n (published s.room n - published s.room x) (published s.room x + 1) p) (let e : x + c + d ≡ x + (c + d) = omega arith in e)))
