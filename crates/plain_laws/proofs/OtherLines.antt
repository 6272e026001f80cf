-- Other lines change nothing at own anchors and on own tabs.
use Rattle.std.proofs.Common.{◌≡◌, ◌⊎◌, inl, inr, ◌∙◌, ℕ, length, refl, sym, ap, subst, arith, Bool, true, false}
use Rattle.std.specs.Prelude.{◌==◌}
use Rattle.std.proofs.lemmas.Bool.Decides.{nat_tests}
use Rattle.script_text.specs.declared.request.Request.{Request}
use Rattle.script_text.specs.declared.request.Request.TheVariants.{Put, Save, Get, Purge, Wipe, Begin, Add, End, DropTab, OpenTab, More, CloseTab}
use Rattle.plain_model.specs.declared.store.Setting.{Setting}
use Rattle.plain_model.specs.declared.store.Tab.{Tab}
use Rattle.plain_model.specs.declared.store.Tab.TheVariants.{Free}
use Rattle.plain_model.specs.declared.store.Plain.{Plain}
use Rattle.plain_model.specs.Store.{tab_at}
use Rattle.plain_model.specs.Writing.{Step}
use Rattle.plain_laws.specs.Fitting.{Names}
use Rattle.plain_laws.specs.Private.{is_of}
use Rattle.plain_laws.proofs.Staying.{Stays}
use Rattle.plain_laws.proofs.Roomed.{Outcome, IsAt}
use Rattle.plain_laws.proofs.ReadingRoomed.{on_at}
use Rattle.plain_laws.proofs.Running.{tab_of, Because}
use Rattle.plain_laws.proofs.Agreeing.{Agree}
use Rattle.plain_laws.proofs.OwnLines.{Sorts}

same_tab : (t tab : ℕ) → (t ≡ tab) ⊎ (t ≡ tab → ⊥)
same_tab t tab = by_test (t == tab) refl
  where
    by_test : (b : Bool) → (t == tab) ≡ b → (t ≡ tab) ⊎ (t ≡ tab → ⊥)
    by_test true e = inl (grind (arith, nat_tests))
    by_test false e = inr (λ h. let k : (t == tab) ≡ true = grind (arith, nat_tests) in let j : true ≡ false = sym k ∙ e in cc)

-- the tab of the request is another's, or it is as it was
abbrev pub Spares : (ℕ → Bool) → ℕ → Plain → Step → Type 0
Spares mine tab p r = (mine tab ≡ false) ⊎ (tab_at r.after tab ≡ tab_at p tab)

tab_kept : (mine : ℕ → Bool) (tab a t : ℕ) (p : Plain) (r : Step) → Spares mine tab p r → Stays tab a p r.after → mine t ≡ true → (t ≡ tab) ⊎ (t ≡ tab → ⊥) → tab_at r.after t ≡ tab_at p t
tab_kept mine tab a t p r (inl off) stays m (inl e) = absurd (let k : true ≡ false = sym m ∙ (ap mine e ∙ off) in cc)
tab_kept mine tab a t p r (inr same) stays m (inl e) = ap (λ (x : ℕ). tab_at r.after x) e ∙ (same ∙ ap (λ (x : ℕ). tab_at p x) (sym e))
tab_kept mine tab a t p r spares stays m (inr n) = stays.others t n

left_kept : (own mine : ℕ → Bool) (tab a t b : ℕ) (p : Plain) (r : Step) → Spares mine tab p r → Stays tab a p r.after → own a ≡ false → ((u c : ℕ) → IsAt c (tab_at p u) → own c ≡ mine u)
    → (t ≡ tab) ⊎ (t ≡ tab → ⊥) → IsAt b (tab_at r.after t) → own b ≡ mine t
left_kept own mine tab a t b p r spares stays off old (inr n) at = old t b (subst (λ (x : Tab). IsAt b x) (stays.others t n) at)
left_kept own mine tab a t b p r (inr same) stays off old (inl e) at =
    old t b (subst (λ (x : Tab). IsAt b x) (ap (λ (x : ℕ). tab_at r.after x) e ∙ (same ∙ ap (λ (x : ℕ). tab_at p x) (sym e))) at)
left_kept own mine tab a t b p r (inl not_mine) stays off old (inl e) at = elim (stays.tabs t) [
  | inl k ↦ old t b (subst (λ (x : Tab). IsAt b x) k at)
  | inr on ↦ ap own (on_at a b (tab_at r.after t) on at) ∙ (off ∙ sym (ap mine e ∙ not_mine))
]

away : (own : ℕ → Bool) (a b : ℕ) → own b ≡ true → own a ≡ false → b ≡ a → ⊥
away own a b o off e = let k : true ≡ false = sym o ∙ (ap own e ∙ off) in cc

pub other_agrees : (rename : ℕ → ℕ) (own mine : ℕ → Bool) (s : Setting) (cap : ℕ → ℕ) (tab : ℕ) (p q : Plain) (Why : ℕ → Type 0) (r : Step) → Agree rename own mine p q
    → ((a : ℕ) → Why a → own a ≡ false) → Spares mine tab p r → length r.after.places ≡ length p.places → Outcome s cap tab p Why r → Agree rename own mine r.after q
other_agrees rename own mine s cap tab p q Why r h why spares many (Outcome.still e fine) = subst (λ (x : Plain). Agree rename own mine x q) (sym e) h
other_agrees rename own mine s cap tab p q Why r h why spares many (Outcome.moved a because stays place fine) = record {
  places = λ b o. stays.places b (away own a b o (why a because)) ∙ h.places b o;
  tabs = λ t m. tab_kept mine tab a t p r spares stays m (same_tab t tab) ∙ h.tabs t m;
  left = λ t b at. left_kept own mine tab a t b p r spares stays (why a because) h.left (same_tab t tab) at;
  right = h.right;
  idle = h.idle;
  as_many = many ∙ h.as_many;
  as_long = stays.long ∙ h.as_long;
}

-- a line that is not own names an other's anchor, or is on an other's tab
tab_elsewhere : (rename : ℕ → ℕ) (own mine : ℕ → Bool) (tab a : ℕ) (p q : Plain) → Agree rename own mine p q → mine tab ≡ false → IsAt a (tab_at p tab) → own a ≡ false
tab_elsewhere rename own mine tab a p q h off at = h.left tab a at ∙ off

last_at : (a : ℕ) (p : Plain) → tab_at p 7 ≡ Free → IsAt a (tab_at p 7) → ⊥
last_at a p free at = subst (λ (t : Tab). IsAt a t) free at

-- a request that is not own uses the tab of whole requests, or one that is not mine
off_tab : (own mine : ℕ → Bool) (s : Setting) (request : Request) → is_of s own mine request ≡ false
    → (tab_of request ≡ 7) ⊎ (mine (tab_of request) ≡ false)
off_tab own mine s (Begin tab url made) off = inr off
off_tab own mine s (OpenTab tab url) off = inr off
off_tab own mine s (Add tab count) off = inr off
off_tab own mine s (End tab) off = inr off
off_tab own mine s (DropTab tab) off = inr off
off_tab own mine s (More tab) off = inr off
off_tab own mine s (CloseTab tab) off = inr off
off_tab own mine s _ off = inl refl

-- the URL that it names is of another's anchor
off_url : (own mine : ℕ → Bool) (s : Setting) (request : Request) (a : ℕ) → is_of s own mine request ≡ false → Sorts s own mine request
    → Names s a request → own a ≡ false
off_url own mine s (Put url made) a off sorts named = ap own (sym named) ∙ off
off_url own mine s (Save url made) a off sorts named = ap own (sym named) ∙ off
off_url own mine s (Get url) a off sorts named = ap own (sym named) ∙ off
off_url own mine s (Purge url) a off sorts named = ap own (sym named) ∙ off
off_url own mine s (Wipe url) a off sorts named = ap own (sym named) ∙ off
off_url own mine s (Begin tab url made) a off sorts named = ap own (sym named) ∙ (sorts ∙ off)
off_url own mine s (OpenTab tab url) a off sorts named = ap own (sym named) ∙ (sorts ∙ off)
off_url own mine s _ a off sorts named = absurd named

pub elsewhere : (rename : ℕ → ℕ) (own mine : ℕ → Bool) (s : Setting) (request : Request) (p q : Plain) → Agree rename own mine p q → tab_at p 7 ≡ Free → is_of s own mine request ≡ false → Sorts s own mine request
    → (a : ℕ) → Because s p request a → own a ≡ false
elsewhere rename own mine s request p q h free off sorts a (inl named) = off_url own mine s request a off sorts named
elsewhere rename own mine s request p q h free off sorts a (inr at) = elim (off_tab own mine s request off) [
  | inl last ↦ absurd (last_at a p free (subst (λ (tab : ℕ). IsAt a (tab_at p tab)) last at))
  | inr other ↦ tab_elsewhere rename own mine (tab_of request) a p q h other at
]

-- the tab of such a line is an other's, or the last one, which is free again
pub spares : (own mine : ℕ → Bool) (s : Setting) (request : Request) (p : Plain) (r : Step) → is_of s own mine request ≡ false → tab_at r.after 7 ≡ tab_at p 7 → Spares mine (tab_of request) p r
spares own mine s request p r off same = elim (off_tab own mine s request off) [
  | inl last ↦ inr (subst (λ (tab : ℕ). tab_at r.after tab ≡ tab_at p tab) (sym last) same)
  | inr other ↦ inl other
]
