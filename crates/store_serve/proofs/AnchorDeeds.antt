-- What calls on anchors draw and do.
use Rattle.std.proofs.Common.{Bool, Contains, List, None, Some, [], ap, arith, cond, eqb-true, false, get_or, get_or-set_same, inl, inr, refl, subst, sym, true, ◌+◌, ◌-◌, ◌==◌, ◌≡◌, ◌≤◌, ◌∙◌, ◌∷◌, ⊎_elim, ℕ}
use Rattle.lock_word.specs.Words.{epoch_of, evicted, is_idle, is_left_over, stage_of}
use Rattle.lock_word.proofs.Raising.{stage_of-raised_to}
use Rattle.lock_word.proofs.Testing.{left_over-idle, mode_of-idle, stage_of-left_over}
use Rattle.core_model.specs.AnchorMoves.{MayEvict, deed_of, left_tab}
use Rattle.core_model.specs.Tabs.{anchor_of, inner, is_free, tab_at}
use Rattle.core_model.specs.Trails.{last_find}
use Rattle.core_model.specs.declared.moves.Move.TheVariants.{Evict}
use Rattle.core_model.specs.declared.tab.Tab.{Tab}
use Rattle.core_model.specs.declared.view.Deed.{Deed}
use Rattle.core_model.specs.declared.view.Kind.TheVariants.{Changed}
use Rattle.core_model.specs.declared.view.View.{View}
use Rattle.store_rule.specs.Ground.{Ground}
use Rattle.tab_states.specs.Tabs.{is_last}
use Rattle.store_rule.specs.Told.{Steps}
use Rattle.rw_anchor.specs.Calls.{Drew, GivenUp, Gone, LeftLast, Leaves, SpentAtDraw, SpentAtLook}
use Rattle.rw_anchor.specs.declared.Left.{Left}
use Rattle.store_serve.specs.Acting.{Acted}
use Rattle.store_serve.specs.Deeds.{FreesLeftOver}
use Rattle.store_serve.proofs.AddingUp.{behind, by_step, draw_step, none_there, on, only_one, quiet_step}

-- Words.

not_both : (b : Bool) → b ≡ true → b ≡ false → ⊥
not_both true h k = cc
not_both false h k = cc

left_over_busy : (n : ℕ) → is_left_over n ≡ true → is_idle n ≡ false
left_over_busy n h = by_bool (is_idle n) refl
  where
    by_bool : (b : Bool) → is_idle n ≡ b → b ≡ false
    by_bool false e = refl
    by_bool true e = absurd (not_both (is_left_over n) h (left_over-idle n e))

left_over_at : (n : ℕ) → is_left_over n ≡ true → stage_of (epoch_of n) ≤ 5
left_over_at n h = ⊎_elim {C = stage_of (epoch_of n) ≤ 5} (λ e. omega arith) (λ e. omega arith) (stage_of-left_over n h)

pub at_five : (n : ℕ) → stage_of (epoch_of n) ≤ 5 → stage_of (epoch_of (evicted n)) ≡ 5
at_five n le = stage_of-raised_to n 5 le (omega arith)

pub idle_at : (n : ℕ) → is_idle n ≡ true → stage_of (epoch_of n) ≤ 5
idle_at n h = let m = mode_of-idle n h in omega arith

-- A tab that is last is not free.
not_free : {X : Type 0} (x : Tab X) → is_last x ≡ true → is_free x ≡ true → ⊥
not_free Tab.Free h k = cc
not_free (Tab.Retreating a) h k = cc
not_free (Tab.Reading r) h k = cc
not_free (Tab.Writing w) h k = cc
not_free (Tab.Last a) h k = cc
not_free (Tab.Freeing f) h k = cc

module _ {X : Type 0} {g : Ground X} where
  pub drew : {P : Deed → Type 0} {v w : View X} {version : ℕ} → Drew g v version w → Acted (Some version) P v w
  drew {P} {v} {w} {version} h = subst (λ (n : ℕ). Acted (Some n) P v w) h.version_is (behind (quiet_step h.look refl refl) (draw_step h.draw))

  pub spent_at_look : {P : Deed → Type 0} {v w : View X} {versions : ℕ} → SpentAtLook g v versions w → Acted None P v w
  spent_at_look h = quiet_step h.look refl refl

  pub spent_at_draw : {P : Deed → Type 0} {v w : View X} {versions : ℕ} → SpentAtDraw g v versions w → Acted (Some (versions + 1)) P v w
  spent_at_draw h = behind (quiet_step h.look refl refl) (draw_step h.draw)

  module _ {v w : View X} {t n : ℕ} (last : is_last (tab_at v t) ≡ true) (st : Steps g v (Evict t (anchor_of (tab_at v t))) n w) where
    abbrev a : ℕ
    a = anchor_of (tab_at v t)

    left_over : MayEvict v t a → is_left_over (last_find a v.trail) ≡ true
    left_over (inl h) = absurd (not_free (tab_at v inner) (subst (λ (u : ℕ). is_last (tab_at v u) ≡ true) h.0 last) h.1)
    left_over (inr h) = h.2

    frees : n ≡ last_find a v.trail → FreesLeftOver (deed_of v Changed a (evicted n) (is_idle n))
    frees e = let over = subst (λ (z : ℕ). is_left_over z ≡ true) (sym e) (left_over st.may.allowed.1) in
        record { kind = refl; stage = at_five n (left_over_at n over); was_idle = left_over_busy n over }

    done : (b : Bool) → (n == last_find a v.trail) ≡ b → (d : Deed) → Contains (cond b (deed_of v Changed a (evicted n) (is_idle n) ∷ []) []) d → (d.pass ≡ v.pass) × FreesLeftOver d
    done true e d c = let is = only_one (deed_of v Changed a (evicted n) (is_idle n)) d c in
        (ap Deed.pass (sym is), subst FreesLeftOver is (frees (eqb-true n (last_find a v.trail) e)))
    done false e d c = absurd (none_there d c)

    pub evicts_last : Acted None FreesLeftOver v w
    evicts_last = by_step st refl (done (n == last_find a v.trail) refl)

  pub given_up : {v w : View X} {t : ℕ} {left : Left} → is_last (tab_at v t) ≡ true → GivenUp g v t left w → Acted None FreesLeftOver v w
  given_up last h = evicts_last last h.evict

  gone : {v w : View X} {t : ℕ} {left : Left} → Gone g v t left w → Acted None FreesLeftOver v w
  gone h = quiet_step h.leave refl refl

  left_last : {v w : View X} {t : ℕ} {left : Left} → LeftLast g v t left w → Acted None FreesLeftOver v w
  left_last {v} {w} {t} {left} h = on (quiet_step h.leave refl refl) (given_up now h.gives_up)
    where
      now : is_last (tab_at h.middle t) ≡ true
      now = ap (λ (xs : List (Tab X)). is_last (get_or xs t Tab.Free)) (ap View.tabs h.leave.leaves)
          ∙ ap is_last (get_or-set_same v.tabs t (left_tab (anchor_of (tab_at v t)) (h.found - 1)) Tab.Free (let n = h.leave.may.pass in let l = h.leave.may.allowed.0 in omega arith))
          ∙ ap (λ (b : Bool). is_last {X = X} (cond b (Tab.Last (anchor_of (tab_at v t))) Tab.Free)) h.over

  pub leaves : (v w : View X) (t : ℕ) (left : Left) → Leaves g v t left w → Acted None FreesLeftOver v w
  leaves v w t left (inl h) = given_up h.0 h.1
  leaves v w t left (inr (_, inl h)) = gone h
  leaves v w t left (inr (_, inr h)) = left_last h
