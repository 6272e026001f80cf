-- A request changes one anchor, and tabs that are there.
use Rattle.std.proofs.Common.{◌≡◌, ◌⊎◌, inl, inr, ◌∙◌, ℕ, zero, suc, ◌+◌, List, [], ◌∷◌, length, get_or, set, refl, sym, subst, false, get_or-set_other, length-set}
use Rattle.std.specs.Prelude.{Some}
use Rattle.plain_model.specs.declared.entry.Life.{Life}
use Rattle.plain_model.specs.declared.entry.Entry.{Entry}
use Rattle.plain_model.specs.declared.entry.Place.{Place}
use Rattle.plain_model.specs.declared.store.Tab.{Tab}
use Rattle.plain_model.specs.declared.store.Tab.TheVariants.{Free, Writing, Reading}
use Rattle.plain_model.specs.declared.store.Plain.{Plain}
use Rattle.plain_model.specs.Place.{nothing, vacated, ended}
use Rattle.plain_model.specs.Store.{place_at, tab_at, with_tab, is_left_over_at}
use Rattle.plain_laws.proofs.Choosing.{either}
use Rattle.plain_model.specs.Writing.{settle, taken_by, close_writer}

-- the tab is free, or at this anchor
abbrev pub IsOn : ℕ → Tab → Type 0
IsOn a Free = Unit {0}
IsOn a (Writing b) = b ≡ a
IsOn a (Reading b given other) = b ≡ a

-- the hand, all other anchors and all other tabs are as they were, and this tab too, or it is at this anchor
pub record Stays (tab a : ℕ) (p q : Plain) : Type 0 where
  pub hand : q.hand ≡ p.hand
  pub places : (b : ℕ) → (b ≡ a → ⊥) → place_at q b ≡ place_at p b
  pub tabs : (t : ℕ) → (tab_at q t ≡ tab_at p t) ⊎ IsOn a (tab_at q t)
  pub others : (t : ℕ) → (t ≡ tab → ⊥) → tab_at q t ≡ tab_at p t
  pub long : length q.tabs ≡ length p.tabs

pub stays_refl : (tab a : ℕ) (p : Plain) → Stays tab a p p
stays_refl tab a p = record { hand = refl; places = λ b n. refl; tabs = λ t. inl refl; others = λ t n. refl; long = refl }

pub stays_trans : (tab a : ℕ) (p q r : Plain) → Stays tab a p q → Stays tab a q r → Stays tab a p r
stays_trans tab a p q r h k = record {
  hand = k.hand ∙ h.hand;
  places = λ b n. k.places b n ∙ h.places b n;
  tabs = λ t. elim (k.tabs t) [
    | inl e ↦ elim (h.tabs t) [ inl d ↦ inl (e ∙ d) | inr d ↦ inr (subst (λ (x : Tab). IsOn a x) (sym e) d) ]
    | inr e ↦ inr e
  ];
  others = λ t n. k.others t n ∙ h.others t n;
  long = k.long ∙ h.long;
}

pub stays_set : (f : Place → Place) (tab a : ℕ) (p : Plain) → Stays tab a p (record p { places = set p.places a (f (place_at p a)) })
stays_set f tab a p = record { hand = refl; places = λ b n. get_or-set_other p.places a b (f (place_at p a)) nothing n; tabs = λ t. inl refl; others = λ t n. refl; long = refl }

tab_there : (ts : List Tab) (tab t : ℕ) (x : Tab) → (get_or (set ts tab x) t Free ≡ get_or ts t Free) ⊎ (get_or (set ts tab x) t Free ≡ x)
tab_there [] tab t x = inl refl
tab_there (y ∷ ts) zero zero x = inr refl
tab_there (y ∷ ts) zero (suc t) x = inl refl
tab_there (y ∷ ts) (suc tab) zero x = inl refl
tab_there (y ∷ ts) (suc tab) (suc t) x = tab_there ts tab t x

tabs_there : (a : ℕ) (ts : List Tab) (tab t : ℕ) (x : Tab) → IsOn a x → (get_or (set ts tab x) t Free ≡ get_or ts t Free) ⊎ IsOn a (get_or (set ts tab x) t Free)
tabs_there a ts tab t x on = elim (tab_there ts tab t x) [ inl e ↦ inl e | inr e ↦ inr (subst (λ (y : Tab). IsOn a y) (sym e) on) ]

pub stays_tab : (a tab : ℕ) (x : Tab) (p : Plain) → IsOn a x → Stays tab a p (with_tab p tab x)
stays_tab a tab x p on = record { hand = refl; places = λ b n. refl; tabs = λ t. tabs_there a p.tabs tab t x on; others = λ t n. get_or-set_other p.tabs tab t x Free n; long = length-set p.tabs tab x }

pub stays_settle : (tab a : ℕ) (p : Plain) → Stays tab a p (settle a p)
stays_settle tab a p = either (λ (q : Plain). Stays tab a p q) (is_left_over_at p a) _ _ (λ t. stays_set vacated tab a p) (λ t. stays_refl tab a p)

pub stays_close_writer : (life : Life) (tab a : ℕ) (p : Plain) → Stays tab a p (close_writer life tab a p)
stays_close_writer life tab a p = stays_trans tab a p q (settle a q)
    (record {
      hand = refl;
      places = λ b n. get_or-set_other p.places a b (ended life (place_at p a)) nothing n;
      tabs = λ t. tabs_there a p.tabs tab t Free tt;
      others = λ t n. get_or-set_other p.tabs tab t Free Free n;
      long = length-set p.tabs tab Free;
    })
    (stays_settle tab a q)
  where
    q : Plain
    q = record p { tabs = set p.tabs tab Free; places = set p.places a (ended life (place_at p a)) }

pub stays_taken : (tab a : ℕ) (e : Entry) (p : Plain) → Stays tab a p (taken_by tab a e p)
stays_taken tab a e p = record {
  hand = refl;
  places = λ b n. get_or-set_other p.places a b (record { version = p.counter + 1; doom = false; entry = Some e }) nothing n;
  tabs = λ t. tabs_there a p.tabs tab t (Writing a) refl;
  others = λ t n. get_or-set_other p.tabs tab t (Writing a) Free n;
  long = length-set p.tabs tab (Writing a);
}
