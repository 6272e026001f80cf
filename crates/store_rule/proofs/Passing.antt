-- Each pass has nine tabs.
use Rattle.std.proofs.Common.{◌≡◌, ℕ, suc, [], ◌∷◌, refl, List, map, set, length, sym, ap, ◌∙◌, length-set, Bool, true, false, cond}
use Rattle.core_model.specs.declared.tab.Tab.{Tab}
use Rattle.core_model.specs.declared.moves.Move.{Move}
use Rattle.core_model.specs.Layout.{Setting}
use Rattle.core_model.specs.Tabs.{IsPass}
use Rattle.store_rule.specs.declared.store.Pass.{Pass}
use Rattle.tab_states.specs.declared.tabs.At.{At}
use Rattle.core_model.specs.AllowedByView.{AllowedByView, MayMake}
use Rattle.store_rule.specs.Passes.{view}
use Rattle.tab_states.specs.Tabs.{at_of, taken_here, new_writing, whole_here, evicted_here}

as_many : {X : Type 0} → (xs : List (Tab X)) → length (map at_of xs) ≡ length xs
as_many [] = refl
as_many (x ∷ xs) = ap suc (as_many xs)

module _ {C : Type 0} where
  pub pass_of : (p : Pass C) → IsPass (view p)
  pass_of p = sym (as_many (view p).tabs) ∙ ap length (sym p.at_hand) ∙ p.nine

  pub may_of : (p : Pass C) → {k : Setting (List ℕ)} {m : Move} → AllowedByView k (view p) m → MayMake k (view p) m
  may_of p allowed = record { pass = pass_of p; allowed = allowed }

pub kept_nine : (old new : List At) (t : ℕ) (y : At) → length old ≡ 9 → new ≡ set old t y → length new ≡ 9
kept_nine old new t y nine is = ap length is ∙ length-set old t y ∙ nine

pub taken_nine : (old new : List At) (t a u : ℕ) (idle : Bool) → length old ≡ 9 → new ≡ taken_here old t a u idle → length new ≡ 9
taken_nine old new t a u idle nine is = ap length is ∙ length-set (cond idle (set old 8 (whole_here a false)) old) t (At.Writing (new_writing a u)) ∙ both idle
  where
    both : (b : Bool) → length (cond b (set old 8 (whole_here a false)) old) ≡ 9
    both true = length-set old 8 (whole_here a false) ∙ nine
    both false = nine

pub evicted_nine : (old new : List At) (t a : ℕ) → length old ≡ 9 → new ≡ evicted_here old t a → length new ≡ 9
evicted_nine old new t a nine is = ap length is ∙ length-set (set old t At.Free) 8 (whole_here a true) ∙ length-set old t At.Free ∙ nine

pub kept_left : (old new : List ℕ) (t n : ℕ) → length old ≡ 9 → new ≡ set old t n → length new ≡ 9
kept_left old new t n nine is = ap length is ∙ length-set old t n ∙ nine
