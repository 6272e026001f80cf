-- To look at the counter of versions, and to draw one, keeps a state sound.
use Rattle.std.proofs.Common.{◌≡◌, ◌⊎◌, inl, inr, ⊎_elim, ℕ, ◌+◌, ◌*◌, ◌<◌, ◌≤◌, ◌∷◌, length, sym, refl, ap, arith, Bool, true, false, cond, eq-eqb, ne_eqb, leb, Contains}
use Rattle.std.proofs.lemmas.Bool.{eqb-true, leb-true}
use Rattle.std.proofs.lemmas.Bool.Decides.{nat_tests}
use mathlib.Core.Option.{some}
use mathlib.Core.Logic.{dite}
use native.Mathlib.Decide.{ℕ_discrete}
use lib.ListN.{get_elem?}
use Rattle.lock_word.specs.Words.{version_limit}
use Rattle.core_model.specs.declared.moves.Move.TheVariants.{Count, Draw}
use Rattle.core_model.specs.declared.view.Item.{Item}
use Rattle.core_model.specs.declared.view.View.{View}
use Rattle.core_model.specs.Layout.{Setting}
use Rattle.core_model.specs.Chains.{times}
use Rattle.core_model.specs.State.{State, counter}
use Rattle.core_model.specs.Trails.{drawn, draws_in_vain}
use Rattle.core_model.specs.Steps.{after}
use Rattle.core_model.specs.Versions.{drawn_by}
use Rattle.core_model.specs.Sound.{AnchorsSound}
use Rattle.core_model.proofs.Lists.{by_eq, le_sum_at, cons_contains}
use Rattle.core_model.proofs.Tabs.{times_contains}
use Rattle.core_model.proofs.CounterKept.{at_counter}
use Rattle.core_model.specs.Tabs.{IsPass}
use Rattle.core_model.specs.Table.{Allowed, item_of, held_after}

module _ {X : Type 0} (k : Setting X) (s : State X) (i : ℕ) (v : View X) (so : AnchorsSound k s) (at : get_elem? s.views i ≡ some v) (pass : IsPass v) where
  abbrev n : ℕ
  n = counter k s

  pub count_kept : AnchorsSound k (after k s i v Count)
  count_kept = at_counter k s i v so at n v.held (item_of v Count n) record {
    is_pass = pass;
    quiet = refl;
    grows = omega arith;
    draws_add = omega arith;
    looked = λ _. omega arith;
    drew = λ q. cc;
    drawn_add = λ u. inl (omega arith);
    limited = inr (omega arith);
    vain_more = omega arith;
    vain = let z = so.drawn.vain i v at in omega arith;
    stops = λ h. let z = so.drawn.stops i v at (omega arith) in (z.1, z.1);
    held_before = λ u h. inl (h, refl);
    draws_next = λ u h. cc;
  }

  abbrev item : Item
  item = item_of v Draw n

  -- no version above the counter is held
  held_low : (u : ℕ) → Contains v.held u → u ≤ n
  held_low u h = let f = so.held.fresh i v at u h in let d = f.drawn in let t = le_sum_at (drawn_by u) s.views i v at in (so.drawn.above u (omega arith)).1

  none_held : times (n + 1) v.held ≡ 0
  none_held = dite (ℕ_discrete (times (n + 1) v.held) 0) (λ q. q) (λ ne. absurd (let h = held_low (n + 1) (times_contains (n + 1) v.held (omega arith)) in omega arith))

  held_added : (past : Bool) → past ≡ leb version_limit n → (u : ℕ) → Contains (cond past v.held ((n + 1) ∷ v.held)) u
      → (Contains v.held u × (times u (cond past v.held ((n + 1) ∷ v.held)) ≡ times u v.held))
      ⊎ ((u ≡ n + 1) × (u ≤ version_limit) × (0 < drawn u (item ∷ v.trail)) × (times u (cond past v.held ((n + 1) ∷ v.held)) ≡ 1))
  held_added true e u h = inl (h, refl)
  held_added false e u h = ⊎_elim
      (λ (q : n + 1 ≡ u). inr (sym q, (let z = below e in omega arith), drawn_it u q, times_one u q))
      (λ (q : Contains v.held u). let low = held_low u q in let ne = ne_eqb (n + 1) u (λ z. absurd (omega arith)) in inl (q, rw ne (omega arith)))
      (cons_contains (n + 1) u v.held h)
    where
      below : false ≡ leb version_limit n → n < version_limit
      below e = grind (arith, nat_tests)

      drawn_it : (u : ℕ) → n + 1 ≡ u → 0 < drawn u (item ∷ v.trail)
      drawn_it u q = let z = eq-eqb (n + 1) u q in rw z (omega arith)

      times_one : (u : ℕ) → n + 1 ≡ u → times u ((n + 1) ∷ v.held) ≡ 1
      times_one u q = let z = eq-eqb (n + 1) u q in let none_ = none_held in let same = ap (λ (m : ℕ). times m v.held) q in rw z (omega arith)

  vain_one : (past : Bool) → past ≡ leb version_limit n → (n + 1 ≤ version_limit) ⊎ (n + 1 + draws_in_vain v.trail ≤ n + (cond past 1 0 + draws_in_vain v.trail))
  vain_one true e = inr (omega arith)
  vain_one false e = inl (below e)
    where
      below : false ≡ leb version_limit n → n + 1 ≤ version_limit
      below e = grind (arith, nat_tests)

  pub draw_kept : Allowed k s v Draw → AnchorsSound k (after k s i v Draw)
  draw_kept may = at_counter k s i v so at (n + 1) (held_after v Draw n) item record {
    is_pass = pass;
    quiet = refl;
    grows = omega arith;
    draws_add = omega arith;
    looked = λ q. cc;
    drew = λ _. omega arith;
    drawn_add = λ u. by_eq (λ z. (cond z 1 0 + drawn u v.trail ≡ drawn u v.trail) ⊎ ((u ≡ n + 1) × (n + 1 ≡ n + 1) × (cond z 1 0 + drawn u v.trail ≡ drawn u v.trail + 1))) (n + 1) u (λ q. inr (sym q, refl, omega arith)) (λ ne. inl (omega arith));
    limited = vain_one (leb version_limit n) refl;
    vain_more = omega arith;
    vain = vain_few (leb version_limit n);
    stops = λ h. (omega arith, past_limit (leb version_limit n) refl h);
    held_before = held_added (leb version_limit n) refl;
    draws_next = λ u h. sym (eqb-true (n + 1) u h);
  }
    where
      no_vain : draws_in_vain v.trail ≡ 0
      no_vain = dite (ℕ_discrete (draws_in_vain v.trail) 0) (λ q. q) (λ ne. absurd (let z = (so.drawn.stops i v at (omega arith)).0 in let m = may in omega arith))

      vain_few : (past : Bool) → 9 * (cond past 1 0 + draws_in_vain v.trail) ≤ length v.tabs
      vain_few true = let z = no_vain in let p = pass in omega arith
      vain_few false = let z = no_vain in omega arith

      past_limit : (past : Bool) → past ≡ leb version_limit n → 0 < cond past 1 0 + draws_in_vain v.trail → version_limit ≤ n + 1
      past_limit true e h = let z = leb-true version_limit n (sym e) in omega arith
      past_limit false e h = absurd (let z = no_vain in omega arith)
