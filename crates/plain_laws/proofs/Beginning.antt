-- What beginning comes to.
use Rattle.std.proofs.Common.{◌≡◌, ◌⊎◌, inl, inr, ℕ, zero, suc, ◌+◌, List, [], ◌∷◌, get_or, set, refl, ap, Bool, true, false}
use Rattle.std.specs.Prelude.{not, nat_lt, nat_le, ◌||◌}
use Rattle.lock_word.specs.declared.word.Word.{Word}
use Rattle.script_text.specs.declared.answer.Answer.TheVariants as answer
use Rattle.store_key.specs.Key.{key_of}
use Rattle.store_key.specs.Anchor.{anchor_of}
use Rattle.plain_model.specs.declared.store.Setting.{Setting}
use Rattle.plain_model.specs.declared.store.Tab.{Tab}
use Rattle.plain_model.specs.declared.store.Tab.TheVariants.{Free, Writing, Reading}
use Rattle.plain_model.specs.declared.store.Plain.{Plain}
use Rattle.plain_model.specs.Store.{tab_at, meta_size, word_at, is_vacant_at, is_idle_at}
use Rattle.plain_model.specs.Writing.{step, taken_by, entry_of, begin}

-- why nothing began
pub data BeginsAs (s : Setting) (tab : ℕ) (url body : List ℕ) (offer : ℕ) (p : Plain) : Type 0 where
  in_use : begin s tab url body offer p ≡ step answer.Tab p → BeginsAs s tab url body offer p
  long : begin s tab url body offer p ≡ step answer.LongUrl p → BeginsAs s tab url body offer p
  busy : (w : Word) → begin s tab url body offer p ≡ step (answer.Busy w w) p → BeginsAs s tab url body offer p
  spent : nat_le 4294901760 p.counter ≡ true → begin s tab url body offer p ≡ step (answer.Spent p.counter) p → BeginsAs s tab url body offer p
  begun : tab_at p tab ≡ Free → nat_lt s.room (meta_size url) ≡ false
      → (is_vacant_at p (anchor_of (key_of url) s.anchors) || is_idle_at p (anchor_of (key_of url) s.anchors)) ≡ true
      → begin s tab url body offer p ≡ step (answer.Begun (p.counter + 1)) (taken_by tab (anchor_of (key_of url) s.anchors) (entry_of url body offer) p)
      → BeginsAs s tab url body offer p

not_not : (b : Bool) → not b ≡ false → b ≡ true
not_not true e = refl
not_not false e = let k : true ≡ false = e in cc

begins_when : (s : Setting) (tab : ℕ) (url body : List ℕ) (offer : ℕ) (p : Plain) → tab_at p tab ≡ Free
    → (l b c : Bool) → nat_lt s.room (meta_size url) ≡ l
    → not (is_vacant_at p (anchor_of (key_of url) s.anchors) || is_idle_at p (anchor_of (key_of url) s.anchors)) ≡ b
    → nat_le 4294901760 p.counter ≡ c → BeginsAs s tab url body offer p
begins_when s tab url body offer p t true b c hl hb hc = BeginsAs.long (rw (t, hl) refl)
begins_when s tab url body offer p t false true c hl hb hc = BeginsAs.busy (word_at s p (anchor_of (key_of url) s.anchors)) (rw (t, hl, hb) refl)
begins_when s tab url body offer p t false false true hl hb hc = BeginsAs.spent hc (rw (t, hl, hb, hc) refl)
begins_when s tab url body offer p t false false false hl hb hc = BeginsAs.begun t hl (not_not (is_vacant_at p (anchor_of (key_of url) s.anchors) || is_idle_at p (anchor_of (key_of url) s.anchors)) hb) (rw (t, hl, hb, hc) refl)

pub begins : (s : Setting) (tab : ℕ) (url body : List ℕ) (offer : ℕ) (p : Plain) (t : Tab) → tab_at p tab ≡ t → BeginsAs s tab url body offer p
begins s tab url body offer p Free t = begins_when s tab url body offer p t
    (nat_lt s.room (meta_size url)) (not (is_vacant_at p (anchor_of (key_of url) s.anchors) || is_idle_at p (anchor_of (key_of url) s.anchors))) (nat_le 4294901760 p.counter) refl refl refl
begins s tab url body offer p (Writing a) t = BeginsAs.in_use (rw t refl)
begins s tab url body offer p (Reading a g o) t = BeginsAs.in_use (rw t refl)

-- what stands where something is put: that, or the default where there is no such place
pub set_here : {A : Type 0} (xs : List A) (i : ℕ) (v d : A) → (get_or (set xs i v) i d ≡ v) ⊎ (get_or (set xs i v) i d ≡ d)
set_here [] i v d = inr refl
set_here (x ∷ xs) zero v d = inl refl
set_here (x ∷ xs) (suc i) v d = set_here xs i v d

-- and anywhere
pub set_there : {A : Type 0} (xs : List A) (i j : ℕ) (v d : A) → ((j ≡ i) × (get_or (set xs i v) j d ≡ v)) ⊎ (get_or (set xs i v) j d ≡ get_or xs j d)
set_there [] i j v d = inr refl
set_there (x ∷ xs) zero zero v d = inl (refl, refl)
set_there (x ∷ xs) zero (suc j) v d = inr refl
set_there (x ∷ xs) (suc i) zero v d = inr refl
set_there (x ∷ xs) (suc i) (suc j) v d = elim (set_there xs i j v d) [ inl h ↦ inl (ap suc h.0, h.1) | inr h ↦ inr h ]
