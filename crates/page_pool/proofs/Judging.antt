-- What the rule says of a page.
use Rattle.std.proofs.Common.{◌≡◌, ◌⊎◌, inl, inr, ⊎_elim, ℕ, ◌<◌, List, [], length, refl, sym, ap, ◌∙◌, subst, arith, true, Contains}
use Rattle.std.specs.Prelude.{Option}
use mathlib.Core.Option.{some, some-injective}
use lib.ListN.{get_elem?}
use Rattle.atomic_table.specs.Table.{State}
use Rattle.page_pool.specs.declared.page.Page.{Page}
use Rattle.page_pool.specs.declared.pool.PoolSize.{PoolSize}
use Rattle.page_pool.specs.declared.view.View.{View}
use Rattle.page_pool.specs.Plays.{FoundTaken}
use Rattle.page_pool.specs.Ruled.{Has, IsFreeOrHeld, IsTaken, Phase, Ruled, free, holds, moves, number_of}
use Rattle.page_pool.proofs.Lists.{at_length, none_in}

owner : Phase → ℕ
owner free = 0
owner (moves i) = i
owner (holds i) = i

clash : (a b : Phase) → a ≡ b → (number_of a ≡ number_of b → ⊥) → ⊥
clash a b e ne = ne (ap number_of e)

module _ (about : PoolSize) (s : State (Option Page) View) (so : Ruled about s) (m : ℕ) (lt : m < about.pages) where
  -- who has the page is the one that its phase names
  is_owner : (i : ℕ) (v : View) → get_elem? s.views i ≡ some v → Has m v → (so.phases m ≡ holds i) ⊎ (so.phases m ≡ moves i)
  is_owner i v e has = ⊎_elim (λ (h : Contains v.held m). inl ((so.seats i v e).held m h).1) (λ (h : Contains v.moving m). inr ((so.seats i v e).moving m h).1) has

  the_owner : (i : ℕ) (v : View) → get_elem? s.views i ≡ some v → Has m v → owner (so.phases m) ≡ i
  unfolding owner
  the_owner i v e has = ⊎_elim (λ (h : so.phases m ≡ holds i). ap owner h) (λ (h : so.phases m ≡ moves i). ap owner h) (is_owner i v e has)

  of_phase : (q : Phase) → so.phases m ≡ q → IsFreeOrHeld about s m
  unfolding owner
  of_phase free is = inl (λ i v e has. ⊎_elim (λ (h : so.phases m ≡ holds i). clash free (holds i) (sym is ∙ h) (λ z. omega arith)) (λ (h : so.phases m ≡ moves i). clash free (moves i) (sym is ∙ h) (λ z. omega arith)) (is_owner i v e has))
  of_phase (holds i) is = let t = so.holders m i lt is in inr (i, (t.0, t.1, inl t.2), λ j w e has. sym (the_owner j w e has) ∙ ap owner is)
  of_phase (moves i) is = let t = so.movers m i lt is in inr (i, (t.0, t.1, inr t.2), λ j w e has. sym (the_owner j w e has) ∙ ap owner is)

  pub free_or_held : IsFreeOrHeld about s m
  free_or_held = of_phase (so.phases m) refl

-- a seat that is alone has each page that is taken
pub lone_holds : (about : PoolSize) (m : ℕ) (v : View) → v.is_alone ≡ true → v.moving ≡ [] → m < about.pages → FoundTaken about m v → Contains v.held m
lone_holds about m v alone quiet lt f = of_phase (f.rule.phases m) refl
  where
    one : length f.state.views ≡ 1
    one = f.rule.lone f.id v f.seat alone

    mine : (i : ℕ) (u : View) → get_elem? f.state.views i ≡ some u → v ≡ u
    mine i u e =
        let a = at_length f.state.views i u e in let b = at_length f.state.views f.id v f.seat in
        let same : i ≡ f.id = omega (arith, a, b, one) in
        some-injective v u (sym f.seat ∙ subst (λ (j : ℕ). get_elem? f.state.views j ≡ some u) same e)

    of_phase : (q : Phase) → f.rule.phases m ≡ q → Contains v.held m
    of_phase free is = absurd (subst IsTaken is f.taken)
    of_phase (holds i) is = let t = f.rule.holders m i lt is in subst (λ (u : View). Contains u.held m) (sym (mine i t.0 t.1)) t.2
    of_phase (moves i) is = let t = f.rule.movers m i lt is in
        absurd (none_in m (subst (λ (l : List ℕ). Contains l m) quiet (subst (λ (u : View). Contains u.moving m) (sym (mine i t.0 t.1)) t.2)))
