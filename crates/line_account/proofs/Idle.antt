-- The workers of a store that was just opened, and who served nothing, are closed.
use Rattle.std.proofs.Common.{◌≡◌, inl, ⊎_elim, ℕ, ◌+◌, ◌<◌, zero, suc, List, [], ◌∷◌, length, sym, refl, ap, ◌∙◌, subst, arith, Contains, true}
use Rattle.std.specs.Prelude.{None, Some}
use Rattle.std.proofs.lemmas.List.Elements.{Contains-append_right}
use mathlib.Core.Option.{some, some-injective, some-ne-none}
use mathlib.Core.Logic.{dite}
use native.Mathlib.Decide.{ℕ_discrete}
use lib.ListN.{get_elem?}
use Rattle.core_model.specs.declared.view.Sight.{Sight}
use Rattle.core_model.specs.declared.view.Sight.TheVariants.{Published, Stood}
use Rattle.core_model.specs.declared.view.View.{View}
use Rattle.core_model.specs.Anchors.{opening_epoch}
use Rattle.core_model.specs.Opening.{new_view, new_views, sights_below}
use Rattle.core_model.specs.Sound.{Sound}
use Rattle.core_model.specs.State.{State}
use Rattle.core_model.proofs.Lists.{cons_contains, contains_none}
use Rattle.lock_word.specs.Words.{version_of}
use Rattle.line_account.specs.Answers.{Run}
use Rattle.line_account.specs.Accounts.{Account}
use Rattle.line_account.specs.Courses.{Begins}
use Rattle.line_account.specs.Closing.{Closed, Worker}
use Rattle.line_account.specs.Idle.{idle_workers}
use Rattle.line_account.specs.Lines.{Served}
use Rattle.line_account.proofs.Courses.{account_begins, account_left}

contains_next : (x y : Sight) (xs : List Sight) → Contains xs y → Contains (x ∷ xs) y
contains_next x y xs h = Contains-append_right (x ∷ []) xs y h

module _ {X : Type 0} (r : Run X) where
  pub seen_below : (a n : ℕ) → a < n → Contains (sights_below r.setting n) (Stood a (opening_epoch r.setting a))
  seen_below a zero lt = absurd (omega arith)
  seen_below a (suc n) lt = dite (ℕ_discrete a n)
      (λ e. subst (λ b. Contains (sights_below r.setting (suc n)) (Stood b (opening_epoch r.setting b))) (sym e) (0, omega arith, refl))
      (λ ne. contains_next (Stood n (opening_epoch r.setting n)) (Stood a (opening_epoch r.setting a)) (sights_below r.setting n) (seen_below a n (omega arith)))

  pub new_begins : (pass : ℕ) → Begins r (new_view r.setting pass)
  new_begins pass = record { opening = λ a lt. seen_below a r.setting.anchors lt; drawn = λ x. refl; draws = refl; deeds = refl }

  new_account : (pass : ℕ) → Account r (new_view r.setting pass) [] true
  new_account pass = account_left r (new_view r.setting pass) (new_view r.setting pass) [] (account_begins r (new_view r.setting pass) (new_begins pass)) (record {
    keeps = record { pass = refl; seen = λ x h. h; trail = λ x h. h; met = λ a h. h };
    drawn = λ x. refl;
    draws = refl;
    deeds = λ d h. inl h;
    halts = λ a x h. absurd (let z : None ≡ Some h.writes.first = h.writes.begun_is in cc);
  })

  -- a worker that served nothing
  served_none : (count j : ℕ) (w : Worker) → get_elem? (idle_workers count) j ≡ some w → [] ≡ w.served
  served_none zero j w e = absurd (some-ne-none w (sym e))
  served_none (suc count) zero w e = ap Worker.served (some-injective _ w e)
  served_none (suc count) (suc j) w e = served_none count j w e

  -- and the view of its pass
  new_at : (from count j : ℕ) (w : Worker) → get_elem? (idle_workers count) j ≡ some w → get_elem? (new_views r.setting from count) j ≡ some (new_view r.setting (from + j))
  new_at from zero j w e = absurd (some-ne-none w (sym e))
  new_at from (suc count) zero w e = ap (λ n. some (new_view r.setting n)) (let z : from ≡ from + 0 = omega arith in z)
  new_at from (suc count) (suc j) w e = new_at (from + 1) count j w e ∙ ap (λ n. some (new_view r.setting n)) (let z : from + 1 + j ≡ from + suc j = omega arith in z)

  idle_count : (count : ℕ) → length (idle_workers count) ≡ count
  idle_count zero = refl
  idle_count (suc count) = let h = idle_count count in omega arith

  -- a new view has seen no published slot
  none_published : (n a x many : ℕ) → Contains (sights_below r.setting n) (Published a x many) → ⊥
  none_published zero a x many h = contains_none (Published a x many) h
  none_published (suc n) a x many h = ⊎_elim
      (λ q. not_stood (opening_epoch r.setting n) q)
      (λ (q : Contains (sights_below r.setting n) (Published a x many)). none_published n a x many q)
      (cons_contains (Stood n (opening_epoch r.setting n)) (Published a x many) (sights_below r.setting n) h)
    where
      not_stood : (e : ℕ) → ◌≡◌ {A = Sight} (Stood n e) (Published a x many) → ⊥
      not_stood e q = cc

  new_seen : (count from i : ℕ) (v : View X) → get_elem? (new_views r.setting from count) i ≡ some v → v.seen ≡ sights_below r.setting r.setting.anchors
  new_seen zero from i v e = absurd (some-ne-none v (sym e))
  new_seen (suc count) from zero v e = sym (ap View.seen (some-injective (new_view r.setting from) v e))
  new_seen (suc count) from (suc i) v e = new_seen count (from + 1) i v e

  pub idle_closed : (s : State X) → Sound r.setting s → s.views ≡ new_views r.setting 0 r.setting.passes
      → (c : Closed r (idle_workers r.setting.passes)) × ((j : ℕ) → c.view_at j ≡ new_view r.setting j)
  idle_closed s so is = (
    record {
      state = s;
      sound = so;
      halted = record {
        short = λ i j l u v z au av az a e many number four stood shown named.
            absurd (none_published r.setting.anchors a (version_of e) many (subst (λ (y : List Sight). Contains y (Published a (version_of e) many)) (new_seen r.setting.passes 0 j v (ap (λ y. get_elem? y j) (sym is) ∙ av)) shown));
      };
      view_at = λ j. new_view r.setting j;
      index = λ j. j;
      at = λ j w e. ap (λ l. get_elem? l j) is ∙ new_at 0 r.setting.passes j w e ∙ ap (λ n. some (new_view r.setting n)) (let z : 0 + j ≡ j = omega arith in z);
      apart = λ j l w x e g h. h;
      count = idle_count r.setting.passes;
      passes = λ j w e. refl;
      accounts = λ j w e. subst (λ (l : List Served). Account r (new_view r.setting j) l true) (served_none r.setting.passes j w e) (new_account j);
    },
    λ j. refl,
  )
