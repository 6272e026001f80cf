-- A step on one anchor leaves each epoch explained by deeds, and the mirror of a lone pass right.
use Rattle.std.proofs.Common.{◌≡◌, ◌≢◌, ◌⊎◌, inl, inr, ⊎_elim, ℕ, ◌<◌, ◌≤◌, List, [], ◌∷◌, length, get_or, set, sym, refl, ap, ◌∙◌, subst, arith, sum_by, cond, Contains, get_or-set_same, get_or-set_other}
use mathlib.Core.Option.{some}
use lib.ListN.{get_elem?}
use Rattle.std.proofs.lemmas.List.Elements.{Contains-append_left, Contains-append_right, Contains-append_cases}
use Rattle.lock_word.specs.Words.{epoch_of, version_of, stage_of, doom_of}
use Rattle.core_model.specs.declared.tab.Tab.{Tab}
use Rattle.core_model.specs.declared.view.Item.{Item}
use Rattle.core_model.specs.declared.view.Sight.{Sight}
use Rattle.core_model.specs.declared.view.Sight.TheVariants.{Stood}
use Rattle.core_model.specs.declared.view.Deed.{Deed}
use Rattle.core_model.specs.declared.view.View.{View}
use Rattle.core_model.specs.declared.chain.Chain.{Chain}
use Rattle.core_model.specs.Layout.{Setting, anchor_index}
use Rattle.core_model.specs.State.{State, word}
use Rattle.core_model.specs.Tabs.{counts, count}
use Rattle.core_model.specs.Anchors.{tabs_in, opening_epoch}
use Rattle.core_model.specs.Deeds.{mirrored, OneMirror, IsEpochAt, IsDone, LeftEpoch, DoomedVersion, HaltedVersion, EvictedVersion, EnteredBy, EnteredByAnother, DeedsExplain}
use Rattle.core_model.specs.Sound.{AnchorsSound}
use Rattle.core_model.proofs.Lists.{by_eq, at_set, two_le_sum, sum_others, set_else}
use Rattle.core_model.proofs.AnchorStep.{stepped, moved, Owes}
use Rattle.core_model.proofs.AnchorTabs.{by_anchor, all_views, in_row, at_w}
use Rattle.core_model.proofs.AnchorSeen.{Had, had}

-- a deed of which P holds is one of which Q holds
pub done_as : {X : Type 0} → (s : State X) (P Q : Deed → Type 0) → ((d : Deed) → P d → Q d) → IsDone s P → IsDone s Q
done_as s P Q h d = record { i = d.i; view = d.view; at = d.at; deed = d.deed; done = d.done; so = h d.deed d.so }

module _ {X : Type 0} (k : Setting X) (s : State X) (i : ℕ) (v : View X) (so : AnchorsSound k s) (at : get_elem? s.views i ≡ some v)
    (a n' e : ℕ) (tabs : List (Tab X)) (held : List ℕ) (item : Item) (deeds : List Deed) (met : List ℕ) (chains : List Chain) (o : Owes k s i v a n' e tabs held item deeds met chains) where
  abbrev w : View X
  w = stepped v a n' e tabs held item deeds met

  abbrev s' : State X
  s' = moved s i w a n' chains

  -- another pass has no tabs where the store has one pass
  alone : k.passes ≡ 1 → (j : ℕ) (u : View X) → j ≢ i → get_elem? s.views j ≡ some u → u.tabs ≡ []
  alone one j u ne uat = none u.tabs (let t = two_le_sum tabs_in s.views i j v u at uat ne in let q = so.shaped.tabs in let p = o.is_pass in omega arith)
    where
      none : (xs : List (Tab X)) → length xs ≡ 0 → xs ≡ []
      none [] h = refl
      none (x ∷ xs) h = absurd (omega arith)

  pub mirror : OneMirror k s'
  mirror one j u uat some_tabs p lt = ⊎_elim
      (λ (t : (j ≡ i) × (w ≡ u)). subst (λ (z : View X). mirrored k p z.mirror ≡ get_or (set s.words (anchor_index a) n') p 0) t.1
      (by_eq (λ z. cond z n' (mirrored k p v.mirror) ≡ get_or (set s.words (anchor_index a) n') p 0) (anchor_index a) p
      (λ q. subst (λ (c : ℕ). n' ≡ get_or (set s.words (anchor_index a) n') c 0) q (sym (get_or-set_same s.words (anchor_index a) n' 0 (in_row k s i v so at a n' e tabs held item deeds met chains o))))
      (λ ne. so.mirror one i v at (λ h. absurd (let z = o.is_pass in let y : length v.tabs ≡ 0 = ap length h in omega arith)) p lt ∙ sym (get_or-set_other s.words (anchor_index a) p n' 0 (λ q. ne (sym q))))))
      (λ (t : (j ≢ i) × (get_elem? s.views j ≡ some u)). absurd (some_tabs (alone one j u t.0 t.1)))
      (at_set s.views i j w u uat)

  -- deeds stay
  done_later : (P : Deed → Type 0) → IsDone s P → IsDone s' P
  done_later P d = cases (λ (q : d.i ≡ i). let same : v ≡ d.view = mathlib.Core.Option.some-injective v d.view (sym at ∙ subst (λ (z : ℕ). get_elem? s.views z ≡ some d.view) q d.at) in
      record { i = i; view = w; at = at_w k s i v so at a n' e tabs held item deeds met chains o; deed = d.deed; done = Contains-append_right deeds v.deeds d.deed (subst (λ (z : View X). Contains z.deeds d.deed) (sym same) d.done); so = d.so })
      (λ (ne : d.i ≢ i). record { i = d.i; view = d.view; at = set_else s.views i d.i w ne ∙ d.at; deed = d.deed; done = d.done; so = d.so })
    where
      cases : (d.i ≡ i → IsDone s' P) → (d.i ≢ i → IsDone s' P) → IsDone s' P
      cases f g = mathlib.Core.Logic.dite (native.Mathlib.Decide.ℕ_discrete d.i i) f g

  done_now : (P : Deed → Type 0) (d : Deed) → Contains deeds d → P d → IsDone s' P
  done_now P d h p = record { i = i; view = w; at = at_w k s i v so at a n' e tabs held item deeds met chains o; deed = d; done = Contains-append_left deeds v.deeds d h; so = p }

  epoch_before : (b x : ℕ) → IsEpochAt k s' b x → IsEpochAt k s b x ⊎ ((b ≡ a) × (x ≡ epoch_of n'))
  epoch_before b x (inl h) = by_anchor k s i v so at a n' e tabs held item deeds met chains o
      (λ b y z. b < k.anchors → epoch_of z ≡ x → IsEpochAt k s b x ⊎ ((b ≡ a) × (x ≡ epoch_of n')))
      (λ lt q. inr (refl, sym q))
      (λ b ne lt q. inl (inl (lt, q)))
      b h.0 h.1
  epoch_before b x (inr h) = ⊎_elim
      (λ (q : Had k s i v so at a n' e tabs held item deeds met chains o h.0 (Stood b x)). inl (inr (h.0, q.view, q.at_j, q.has)))
      (λ (q : Stood b x ≡ Stood a e). inr (ap Rattle.core_model.specs.Trails.sight_anchor q, stood_epoch b x q))
      (had k s i v so at a n' e tabs held item deeds met chains o h.0 h.1 h.2 (Stood b x) h.3)
    where
      epoch_in : Sight → ℕ
      epoch_in (Stood c y) = y
      epoch_in _ = 0

      stood_epoch : (b x : ℕ) → Stood b x ≡ Stood a e → x ≡ epoch_of n'
      stood_epoch b x q = ap epoch_in q ∙ o.sees

  -- the word that the step found
  abbrev found : IsEpochAt k s a (epoch_of (word s a))
  found = inl (o.inside, refl)

  left_now : (epoch_of n' ≡ opening_epoch k a) ⊎ IsDone s' (LeftEpoch a (epoch_of n'))
  left_now = ⊎_elim
      (λ (q : epoch_of n' ≡ epoch_of (word s a)). ⊎_elim
      (λ (r : epoch_of (word s a) ≡ opening_epoch k a). inl (q ∙ r))
      (λ (r : IsDone s (LeftEpoch a (epoch_of (word s a)))). inr (subst (λ (z : ℕ). IsDone s' (LeftEpoch a z)) (sym q) (done_later (LeftEpoch a (epoch_of (word s a))) r)))
      (so.deeds.left a (epoch_of (word s a)) found))
      (λ (q : (d : Deed) × Contains deeds d × LeftEpoch a (epoch_of n') d). inr (done_now (LeftEpoch a (epoch_of n')) q.0 q.1 q.2))
      o.left

  doomed_now : doom_of (epoch_of n') ≡ 1 → IsDone s' (DoomedVersion a (version_of (epoch_of n')))
  doomed_now h = ⊎_elim
      (λ (q : (doom_of (epoch_of (word s a)) ≡ 1) × (version_of (epoch_of n') ≡ version_of (epoch_of (word s a)))).
      subst (λ (z : ℕ). IsDone s' (DoomedVersion a z)) (sym q.1) (done_later (DoomedVersion a (version_of (epoch_of (word s a)))) (so.deeds.doomed a (epoch_of (word s a)) found q.0)))
      (λ (q : (d : Deed) × Contains deeds d × DoomedVersion a (version_of (epoch_of n')) d). done_now (DoomedVersion a (version_of (epoch_of n'))) q.0 q.1 q.2)
      (o.doomed h)

  abbrev Gone : ℕ → ℕ → Type 0
  Gone b version = IsDone s' (HaltedVersion b version) ⊎ IsDone s' (EvictedVersion b version)

  gone_later : (b version : ℕ) → IsDone s (HaltedVersion b version) ⊎ IsDone s (EvictedVersion b version) → Gone b version
  gone_later b version h = ⊎_elim (λ (q : IsDone s (HaltedVersion b version)). inl (done_later (HaltedVersion b version) q)) (λ (q : IsDone s (EvictedVersion b version)). inr (done_later (EvictedVersion b version) q)) h

  gone_now : doom_of (epoch_of n') ≡ 0 → 4 ≤ stage_of (epoch_of n') → Gone a (version_of (epoch_of n'))
  gone_now h g = ⊎_elim
      (λ (q : (doom_of (epoch_of (word s a)) ≡ 0) × (4 ≤ stage_of (epoch_of (word s a))) × (version_of (epoch_of n') ≡ version_of (epoch_of (word s a)))).
      subst (Gone a) (sym q.2) (gone_later a (version_of (epoch_of (word s a))) (so.deeds.undoomed a (epoch_of (word s a)) found q.0 q.1)))
      (λ (q : (d : Deed) × Contains deeds d × (HaltedVersion a (version_of (epoch_of n')) d ⊎ EvictedVersion a (version_of (epoch_of n')) d)). ⊎_elim
      (λ (r : HaltedVersion a (version_of (epoch_of n')) q.0). inl (done_now (HaltedVersion a (version_of (epoch_of n'))) q.0 q.1 r))
      (λ (r : EvictedVersion a (version_of (epoch_of n')) q.0). inr (done_now (EvictedVersion a (version_of (epoch_of n'))) q.0 q.1 r))
      q.2)
      (o.undoomed h g)

  -- another pass with a tab there has entered it
  another : count (counts a) v < sum_by (count (counts a)) s.views → IsDone s (EnteredByAnother a v.pass)
  another h = let q = sum_others (count (counts a)) s.views i v at h in
      done_as s (EnteredBy a q.1.pass) (EnteredByAnother a v.pass)
      (λ d p. (p.0, p.1, λ same. q.2 (so.deeds.numbers q.0 i q.1 v q.3 at (has_tabs q.1 q.4) (λ z. absurd (let l = o.is_pass in let y : length v.tabs ≡ 0 = ap length z in omega arith)) (sym p.2 ∙ same))))
      (so.deeds.entered q.0 q.1 q.3 a q.4)
    where
      has_tabs : (u : View X) → 0 < count (counts a) u → u.tabs ≢ []
      has_tabs u h z = absurd (let y : count (counts a) u ≡ 0 = ap (sum_by (counts a)) z in omega arith)

  pub deeds_kept : DeedsExplain k s'
  deeds_kept = record {
    left = λ b x h. ⊎_elim
        (λ (q : IsEpochAt k s b x). ⊎_elim (λ (r : x ≡ opening_epoch k b). inl r) (λ (r : IsDone s (LeftEpoch b x)). inr (done_later (LeftEpoch b x) r)) (so.deeds.left b x q))
        (λ (q : (b ≡ a) × (x ≡ epoch_of n')). subst (λ (z : ℕ). (x ≡ opening_epoch k z) ⊎ IsDone s' (LeftEpoch z x)) (sym q.0) (subst (λ (z : ℕ). (z ≡ opening_epoch k a) ⊎ IsDone s' (LeftEpoch a z)) (sym q.1) left_now))
        (epoch_before b x h);
    doomed = λ b x h. ⊎_elim
        (λ (q : IsEpochAt k s b x) (dd : doom_of x ≡ 1). done_later (DoomedVersion b (version_of x)) (so.deeds.doomed b x q dd))
        (λ (q : (b ≡ a) × (x ≡ epoch_of n')). subst (λ (z : ℕ). doom_of x ≡ 1 → IsDone s' (DoomedVersion z (version_of x))) (sym q.0) (subst (λ (z : ℕ). doom_of z ≡ 1 → IsDone s' (DoomedVersion a (version_of z))) (sym q.1) doomed_now))
        (epoch_before b x h);
    undoomed = λ b x h. ⊎_elim
        (λ (q : IsEpochAt k s b x) (dd : doom_of x ≡ 0) (st : 4 ≤ stage_of x). gone_later b (version_of x) (so.deeds.undoomed b x q dd st))
        (λ (q : (b ≡ a) × (x ≡ epoch_of n')). subst (λ (z : ℕ). doom_of x ≡ 0 → 4 ≤ stage_of x → Gone z (version_of x)) (sym q.0) (subst (λ (z : ℕ). doom_of z ≡ 0 → 4 ≤ stage_of z → Gone a (version_of z)) (sym q.1) gone_now))
        (epoch_before b x h);
    entered = all_views k s i v so at a n' e tabs held item deeds met chains o (λ j u. (b : ℕ) → 0 < count (counts b) u → IsDone s (EnteredBy b u.pass)) (λ j u. (b : ℕ) → 0 < count (counts b) u → IsDone s' (EnteredBy b u.pass))
        (λ j u _ h b g. done_later (EnteredBy b u.pass) (h b g))
        (λ b g. ⊎_elim (λ (q : 0 < count (counts b) v). done_later (EnteredBy b v.pass) (so.deeds.entered i v at b q)) (λ (q : (d : Deed) × Contains deeds d × EnteredBy b v.pass d). done_now (EnteredBy b v.pass) q.0 q.1 q.2) (o.entered b g))
        so.deeds.entered;
    met = all_views k s i v so at a n' e tabs held item deeds met chains o (λ j u. (b : ℕ) → Contains u.met b → IsDone s (EnteredByAnother b u.pass)) (λ j u. (b : ℕ) → Contains u.met b → IsDone s' (EnteredByAnother b u.pass))
        (λ j u _ h b g. done_later (EnteredByAnother b u.pass) (h b g))
        (λ b g. done_later (EnteredByAnother b v.pass) (⊎_elim
        (λ (q : Contains met b). let r = o.met_others b q in subst (λ (z : ℕ). IsDone s (EnteredByAnother z v.pass)) (sym r.0) (another (let c = so.readers a o.inside in let y = r.1 in omega arith)))
        (λ (q : Contains v.met b). so.deeds.met i v at b q)
        (Contains-append_cases met v.met b g)))
        so.deeds.met;
    numbers = λ j l u t uat tat p q same. numbers_kept j l u t uat tat p q same;
  }
    where
      tabs_v : v.tabs ≢ []
      tabs_v z = absurd (let l = o.is_pass in let y : length v.tabs ≡ 0 = ap length z in omega arith)

      numbers_kept : (j l : ℕ) (u t : View X) → get_elem? (set s.views i w) j ≡ some u → get_elem? (set s.views i w) l ≡ some t → u.tabs ≢ [] → t.tabs ≢ [] → u.pass ≡ t.pass → j ≡ l
      numbers_kept j l u t uat tat p q same = ⊎_elim
          (λ (x : (j ≡ i) × (w ≡ u)). ⊎_elim
          (λ (y : (l ≡ i) × (w ≡ t)). x.0 ∙ sym y.0)
          (λ (y : (l ≢ i) × (get_elem? s.views l ≡ some t)). x.0 ∙ so.deeds.numbers i l v t at y.1 tabs_v q (ap View.pass x.1 ∙ same))
          (at_set s.views i l w t tat))
          (λ (x : (j ≢ i) × (get_elem? s.views j ≡ some u)). ⊎_elim
          (λ (y : (l ≡ i) × (w ≡ t)). so.deeds.numbers j i u v x.1 at p tabs_v (same ∙ sym (ap View.pass y.1)) ∙ sym y.0)
          (λ (y : (l ≢ i) × (get_elem? s.views l ≡ some t)). so.deeds.numbers j l u t x.1 y.1 p q same)
          (at_set s.views i l w t tat))
          (at_set s.views i j w u uat)
