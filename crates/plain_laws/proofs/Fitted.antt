-- What stands at an anchor keeps to what the anchor may hold.
use Rattle.std.proofs.Common.{◌≡◌, inl, ◌∙◌, ℕ, zero, suc, ◌+◌, ◌-◌, ◌*◌, ◌<◌, ◌≤◌, length, refl, sym, ap, subst, arith, Bool, true, false, cond}
use Rattle.std.specs.Prelude.{Some, None, nat_le, min}
use Rattle.std.proofs.lemmas.Bool.Decides.{nat_tests}
use Rattle.plain_model.specs.declared.entry.Life.{Life}
use Rattle.plain_model.specs.declared.entry.Life.TheVariants.{Growing}
use Rattle.plain_model.specs.declared.entry.Entry.{Entry}
use Rattle.plain_model.specs.declared.entry.Place.{Place}
use Rattle.plain_model.specs.declared.store.Setting.{Setting}
use Rattle.plain_model.specs.declared.store.Refusal.{Refusal}
use Rattle.plain_model.specs.declared.store.Refusal.TheVariants.{Large}
use Rattle.plain_model.specs.Place.{nothing, vacated, doomed, changed, resized, ended}
use Rattle.plain_model.specs.Store.{published}
use Rattle.plain_model.specs.Slots.{held_by, held, limit}
use Rattle.plain_laws.proofs.Choosing.{either}
use Rattle.plain_model.specs.Store.{meta_size}
use Rattle.plain_laws.proofs.Sums.{hold, held_unfinished, hold_le, full_slots}
use Rattle.plain_laws.proofs.Alone.{size_at, refusal_at}

-- a writing that may take so many slots
pub record Sized (s : Setting) (c : ℕ) (e : Entry) : Type 0 where
  pub front : meta_size e.url ≤ e.content
  pub back : e.content ≤ meta_size e.url + length e.body
  pub need : min (limit s) (published s.room (meta_size e.url + length e.body) + 1) ≤ c

-- what stands here may hold so many slots
pub record PlaceFits (s : Setting) (c : ℕ) (x : Place) : Type 0 where
  pub holds : held s.room x ≤ c
  pub writing : (e : Entry) → x.entry ≡ Some e → e.life ≡ Growing → Sized s c e

pub fits_vacated : (s : Setting) (c : ℕ) (x : Place) → PlaceFits s c (vacated x)
fits_vacated s c x = record { holds = omega arith; writing = λ e is g. let k : None ≡ Some e = is in cc }

pub fits_doomed : (s : Setting) (c : ℕ) (x : Place) → PlaceFits s c x → PlaceFits s c (doomed x)
fits_doomed s c x h = record { holds = h.holds; writing = h.writing }

pub fits_nothing : (s : Setting) (c : ℕ) → PlaceFits s c nothing
fits_nothing s c = record { holds = omega arith; writing = λ e is g. let k : None ≡ Some e = is in cc }

-- an entry that does not grow any more
pub fits_ended : (s : Setting) (c : ℕ) (x : Place) (e : Entry) (life : Life) → x.entry ≡ Some e → (life ≡ Growing → ⊥) → held_by s.room (Some (record e { life = life })) ≤ c → PlaceFits s c (ended life x)
fits_ended s c x e life is never le = record {
  holds = (let k : held s.room (ended life x) ≡ held_by s.room (Some (record e { life = life })) = ap (held_by s.room) (ap (changed (λ d. record d { life = life })) is) in omega arith);
  writing = λ d at g.
      let k : Some (record e { life = life }) ≡ Some d = sym (ap (changed (λ d. record d { life = life })) is) ∙ at in
      let same : record e { life = life } ≡ d = cc in
      absurd (never (ap (λ (y : Entry). y.life) same ∙ g));
}

pub fits_resized : (s : Setting) (c content : ℕ) (x : Place) (e : Entry) → x.entry ≡ Some e → e.life ≡ Growing → hold (published s.room content) ≤ c → Sized s c (record e { content = content }) → PlaceFits s c (resized content x)
fits_resized s c content x e is grows le sized = record {
  holds = (let k : held s.room (resized content x) ≡ hold (published s.room content) =
      ap (held_by s.room) (ap (changed (λ d. record d { content = content })) is) ∙ held_unfinished s.room (record e { content = content }) Growing grows (inl refl) in omega arith);
  writing = λ d at g.
      let k : Some (record e { content = content }) ≡ Some d = sym (ap (changed (λ d. record d { content = content })) is) ∙ at in
      let same : record e { content = content } ≡ d = cc in
      subst (λ (y : Entry). Sized s c y) same sized;
}

-- whatever an entry grows to by itself, it holds no more than it may
pub size_holds : (s : Setting) (content n filled k c : ℕ) → 0 < s.room → filled ≡ k + 1 → n ≡ published s.room content - k → min (limit s) (published s.room content + 1) ≤ c → hold k ≤ c
    → hold (published s.room (size_at s content n filled)) ≤ c
size_holds s content zero filled k c room is left enough h = let le : hold (published s.room content) ≤ hold k = hold_le (published s.room content) k (omega arith) in omega arith
size_holds s content (suc n) filled k c room is left enough h = either (λ (m : ℕ). hold (published s.room m) ≤ c) (nat_le (limit s) filled) (filled * s.room) (size_at s content n (filled + 1))
    (λ t. let at : hold (published s.room (filled * s.room)) ≡ hold k = ap hold (full_slots s.room filled k room is) in omega arith)
    (λ t. let below : filled < limit s = grind (arith, nat_tests) in
    let more : hold (suc k) ≤ c = (let e : hold (suc k) ≡ suc (suc k) = refl in omega arith) in
    size_holds s content n (filled + 1) (suc k) c room (omega arith) (omega arith) enough more)

pub size_success : (s : Setting) (content n filled : ℕ) → refusal_at s n filled ≡ None → size_at s content n filled ≡ content
size_success s content zero filled r = refl
size_success s content (suc n) filled r = by_limit (nat_le (limit s) filled) refl (size_success s content n (filled + 1))
  where
    by_limit : (b : Bool) → nat_le (limit s) filled ≡ b → (refusal_at s n (filled + 1) ≡ None → size_at s content n (filled + 1) ≡ content) → size_at s content (suc n) filled ≡ content
    by_limit true t next = let k : Some Large ≡ None = sym (ap (λ (b : Bool). cond b (Some Large) (refusal_at s n (filled + 1))) t) ∙ r in cc
    by_limit false t next = ap (λ (b : Bool). cond b (filled * s.room) (size_at s content n (filled + 1))) t ∙ next (sym (ap (λ (b : Bool). cond b (Some Large) (refusal_at s n (filled + 1))) t) ∙ r)

pub never_full : (s : Setting) (n filled : ℕ) (x : Refusal) → refusal_at s n filled ≡ Some x → x ≡ Large
never_full s zero filled x r = let k : None ≡ Some x = r in cc
never_full s (suc n) filled x r = by_limit (nat_le (limit s) filled) refl (never_full s n (filled + 1) x)
  where
    by_limit : (b : Bool) → nat_le (limit s) filled ≡ b → (refusal_at s n (filled + 1) ≡ Some x → x ≡ Large) → x ≡ Large
    by_limit true t next = let k : Some Large ≡ Some x = sym (ap (λ (b : Bool). cond b (Some Large) (refusal_at s n (filled + 1))) t) ∙ r in cc
    by_limit false t next = next (sym (ap (λ (b : Bool). cond b (Some Large) (refusal_at s n (filled + 1))) t) ∙ r)
