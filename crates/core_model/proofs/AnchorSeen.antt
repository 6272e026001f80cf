-- A step on one anchor leaves what was seen at most what is there.
use Rattle.std.proofs.Common.{◌≡◌, ◌≢◌, ◌⊎◌, inl, inr, ⊎_elim, ℕ, ◌<◌, ◌≤◌, List, length, get_or, set, sym, refl, ap, ◌∙◌, subst, arith, cond, max, Contains}
use mathlib.Core.Option.{some}
use lib.ListN.{get_elem?}
use Rattle.lock_word.specs.Words.{epoch_of, version_of, stage_of}
use Rattle.core_model.specs.declared.moves.Side.{Side}
use Rattle.core_model.specs.declared.moves.Side.TheVariants.{Start}
use Rattle.core_model.specs.declared.tab.Tab.{Tab}
use Rattle.core_model.specs.declared.view.Item.{Item}
use Rattle.core_model.specs.declared.view.Sight.{Sight}
use Rattle.core_model.specs.declared.view.Sight.TheVariants.{Stood, Named, Published}
use Rattle.core_model.specs.declared.view.Place.TheVariants.{Beside}
use Rattle.core_model.specs.declared.view.Deed.{Deed}
use Rattle.core_model.specs.declared.view.View.{View}
use Rattle.core_model.specs.declared.chain.Chain.{Chain}
use Rattle.core_model.specs.Layout.{Setting, index}
use Rattle.core_model.specs.Chains.{no_chain}
use Rattle.core_model.specs.State.{State, word, chain_of}
use Rattle.core_model.specs.Trails.{seen_at, sight_anchor, sight_version}
use Rattle.core_model.specs.Versions.{HasSlot, SeenStands, IsSighted}
use Rattle.core_model.specs.Sound.{AnchorsSound}
use Rattle.core_model.proofs.Lists.{by_eq, at_set, cons_contains}
use Rattle.core_model.proofs.Places.{beside_far}
use Rattle.core_model.proofs.AnchorStep.{stepped, moved, Owes}
use Rattle.core_model.proofs.AnchorTabs.{by_anchor, all_views, else_same, seen_later}

module _ {X : Type 0} (k : Setting X) (s : State X) (i : ℕ) (v : View X) (so : AnchorsSound k s) (at : get_elem? s.views i ≡ some v)
    (a n' e : ℕ) (tabs : List (Tab X)) (held : List ℕ) (item : Item) (deeds : List Deed) (met : List ℕ) (chains : List Chain) (o : Owes k s i v a n' e tabs held item deeds met chains) where
  abbrev w : View X
  w = stepped v a n' e tabs held item deeds met

  abbrev s' : State X
  s' = moved s i w a n' chains

  -- a sight that a view had before the step
  pub record Had (j : ℕ) (x : Sight) : Type 0 where
    pub view : View X
    pub at_j : get_elem? s.views j ≡ some view
    pub has : Contains view.seen x

  pub had : (j : ℕ) (u : View X) → get_elem? (set s.views i w) j ≡ some u → (x : Sight) → Contains u.seen x → Had j x ⊎ (x ≡ Stood a e)
  had j u uat x h = ⊎_elim
      (λ (t : (j ≡ i) × (w ≡ u)). ⊎_elim
      (λ (q : Stood a e ≡ x). inr (sym q))
      (λ (q : Contains v.seen x). inl (subst (λ (z : ℕ). Had z x) (sym t.0) record { view = v; at_j = at; has = q }))
      (cons_contains (Stood a e) x v.seen (subst (λ (z : View X). Contains z.seen x) (sym t.1) h)))
      (λ (t : (j ≢ i) × (get_elem? s.views j ≡ some u)). inl record { view = u; at_j = t.1; has = h })
      (at_set s.views i j w u uat)

  named_is_not : (b version : ℕ) (side : Side) (value : ℕ) → Named b version side value ≢ Stood a e
  named_is_not b version side value h = cc

  published_is_not : (b version many : ℕ) → Published b version many ≢ Stood a e
  published_is_not b version many h = cc

  rises : (b : ℕ) → epoch_of (word s b) ≤ epoch_of (word s' b)
  rises b = by_anchor k s i v so at a n' e tabs held item deeds met chains o (λ b x y. epoch_of x ≤ epoch_of y) o.rises (λ b ne. omega arith) b

  pub seen_below : (b m : ℕ) → (a ≡ b → e ≤ m) → seen_at b v.seen ≤ m → seen_at b w.seen ≤ m
  seen_below b m here old = by_eq (λ z. max (cond z e 0) (seen_at b v.seen) ≤ m) a b (λ q. let h = here q in omega arith) (λ ne. omega arith)

  pub e_seen : e ≤ seen_at a w.seen
  e_seen = by_eq (λ z. e ≤ max (cond z e 0) (seen_at a v.seen)) a a (λ q. omega arith) (λ ne. absurd (ne refl))

  e_here : (b : ℕ) → a ≡ b → e ≤ epoch_of (word s' b)
  e_here b q = let x = Rattle.core_model.proofs.AnchorTabs.here_same k s i v so at a n' e tabs held item deeds met chains o in let y = o.sees in subst (λ (c : ℕ). e ≤ epoch_of (word s' c)) q (rw x (omega arith))

  -- a version that comes to the anchor was known nowhere
  unknown_here : (b version : ℕ) → Contains v.held (version_of (epoch_of n')) → version_of (epoch_of n') ≡ version → IsSighted s b version → ⊥
  unknown_here b version h q x = let f = so.held.fresh i v at (version_of (epoch_of n')) h in f.unknown b (inr (subst (IsSighted s b) (sym q) x))

  -- a part of the version that stands after the step, and stood before
  stood_before : (j b version : ℕ) (x : Sight) → Had j x → sight_anchor x ≡ b → sight_version x ≡ version → version_of (epoch_of (word s' b)) ≡ version
      → (version_of (epoch_of (word s b)) ≡ version) × (b ≡ a → version_of (epoch_of n') ≡ version_of (epoch_of (word s a)))
  stood_before j b version x h xa xv = by_anchor k s i v so at a n' e tabs held item deeds met chains o
      (λ b y z. IsSighted s b version → version_of (epoch_of z) ≡ version → (version_of (epoch_of y) ≡ version) × (b ≡ a → version_of (epoch_of n') ≡ version_of (epoch_of (word s a))))
      (λ sighted q. ⊎_elim
      (λ (same : version_of (epoch_of n') ≡ version_of (epoch_of (word s a))). (sym same ∙ q, λ _. same))
      (λ (new : Contains v.held (version_of (epoch_of n')) × _). absurd (unknown_here a version new.0 q sighted))
      o.version)
      (λ b ne _ q. (q, λ eq. absurd (ne eq)))
      b record { i = j; view = h.view; at = h.at_j; sight = x; seen = h.has; anchor = xa; version_is = xv }

  slot_later : (b : ℕ) → (b ≡ a → version_of (epoch_of n') ≡ version_of (epoch_of (word s a))) → HasSlot s b → HasSlot s' b
  slot_later b same h = by_anchor k s i v so at a n' e tabs held item deeds met chains o
      (λ b x y. (b ≡ a → version_of (epoch_of n') ≡ version_of (epoch_of (word s a))) → (stage_of (epoch_of x) ≤ 4 → 0 < length (chain_of s b).slots) → stage_of (epoch_of y) ≤ 4 → 0 < length (get_or chains b no_chain).slots)
      (λ same h low. let c = o.chain_here (same refl) low in let z = h c.0 in let q = ap length c.1 in omega arith)
      (λ b ne _ h low. let c = o.chain_else b ne in let z = h low in rw c z)
      b same h

  pub seen : SeenStands k s'
  seen = record {
    epochs = all_views k s i v so at a n' e tabs held item deeds met chains o (λ j u. (b : ℕ) → b < k.anchors → seen_at b u.seen ≤ epoch_of (word s b)) (λ j u. (b : ℕ) → b < k.anchors → seen_at b u.seen ≤ epoch_of (word s' b))
        (λ j u _ h b lt. let x = h b lt in let y = rises b in omega arith)
        (λ b lt. seen_below b _ (e_here b) (let x = so.seen.epochs i v at b lt in let y = rises b in omega arith))
        so.seen.epochs;
    no_start = λ j u uat b version value h. ⊎_elim (λ (q : Had j (Named b version Start value)). so.seen.no_start j q.view q.at_j b version value q.has) (λ (q : Named b version Start value ≡ Stood a e). cc) (had j u uat (Named b version Start value) h);
    inside = λ j u uat x h. ⊎_elim (λ (q : Had j x). so.seen.inside j q.view q.at_j x q.has) (λ (q : x ≡ Stood a e). subst (λ (z : Sight). sight_anchor z < k.anchors) (sym q) o.inside) (had j u uat x h);
    known = all_views k s i v so at a n' e tabs held item deeds met chains o (λ j u. (x : Sight) → Contains u.seen x → sight_version x ≤ version_of (seen_at (sight_anchor x) u.seen)) (λ j u. (x : Sight) → Contains u.seen x → sight_version x ≤ version_of (seen_at (sight_anchor x) u.seen))
        (λ j u _ h. h)
        (λ x h. ⊎_elim
        (λ (q : Stood a e ≡ x). subst (λ (z : Sight). sight_version z ≤ version_of (seen_at (sight_anchor z) w.seen)) q (let z = e_seen in version_mono _ _ z))
        (λ (q : Contains v.seen x). let z = so.seen.known i v at x q in let y = seen_later k s i v so at a n' e tabs held item deeds met chains o (sight_anchor x) in let m = version_mono _ _ y in omega arith)
        (cons_contains (Stood a e) x v.seen h))
        so.seen.known;
    named = λ j u uat b version side value h q. ⊎_elim
        (λ (p : Had j (Named b version side value)). let st = stood_before j b version _ p refl refl q in let old = so.seen.named j p.view p.at_j b version side value p.has st.0 in
        (else_same k s i v so at a n' e tabs held item deeds met chains o (index k (Beside side b)) (beside_far k side a b) ∙ old.0, slot_later b st.1 old.1))
        (λ (p : Named b version side value ≡ Stood a e). absurd (named_is_not b version side value p))
        (had j u uat (Named b version side value) h);
    published = λ j u uat b version many h q low. ⊎_elim
        (λ (p : Had j (Published b version many)). let st = stood_before j b version _ p refl refl q in published_later b version many st.1 (so.seen.published j p.view p.at_j b version many p.has st.0) low)
        (λ (p : Published b version many ≡ Stood a e). absurd (published_is_not b version many p))
        (had j u uat (Published b version many) h);
    agree = λ j l u t uat tat b version side x y hx hy. ⊎_elim
        (λ (p : Had j (Named b version side x)). ⊎_elim
        (λ (q : Had l (Named b version side y)). so.seen.agree j l p.view q.view p.at_j q.at_j b version side x y p.has q.has)
        (λ (q : Named b version side y ≡ Stood a e). absurd (named_is_not b version side y q))
        (had l t tat (Named b version side y) hy))
        (λ (p : Named b version side x ≡ Stood a e). absurd (named_is_not b version side x p))
        (had j u uat (Named b version side x) hx);
  }
    where
      version_mono : (x y : ℕ) → x ≤ y → version_of x ≤ version_of y
      version_mono x y h = omega arith

      published_later : (b version many : ℕ) → (b ≡ a → version_of (epoch_of n') ≡ version_of (epoch_of (word s a))) → (stage_of (epoch_of (word s b)) ≤ 4 → many ≤ length (chain_of s b).slots)
          → stage_of (epoch_of (word s' b)) ≤ 4 → many ≤ length (get_or chains b no_chain).slots
      published_later b version many same h = by_anchor k s i v so at a n' e tabs held item deeds met chains o
          (λ b x y. (b ≡ a → version_of (epoch_of n') ≡ version_of (epoch_of (word s a))) → (stage_of (epoch_of x) ≤ 4 → many ≤ length (chain_of s b).slots) → stage_of (epoch_of y) ≤ 4 → many ≤ length (get_or chains b no_chain).slots)
          (λ same h low. let c = o.chain_here (same refl) low in let z = h c.0 in let q = ap length c.1 in omega arith)
          (λ b ne _ h low. let c = o.chain_else b ne in let z = h low in rw c z)
          b same h
