-- The entry that is evicted for a slot is the victim of the plain store.
use Rattle.std.proofs.Common.{Contains, List, Some, ap, arith, inl, inr, refl, subst, sym, true, false, ◌<◌, ◌∙◌, ◌≡◌, ◌⊎◌, ℕ}
use Rattle.core_model.specs.Layout.{Setting}
use Rattle.core_model.specs.Tabs.{inner}
use Rattle.core_model.specs.declared.tab.Freer.{Freer}
use Rattle.core_model.specs.declared.view.Place.{Place}
use Rattle.core_model.specs.declared.view.Place.TheVariants.{Anchor, Link}
use Rattle.core_model.specs.declared.view.View.{View}
use Rattle.lock_word.specs.Words.{is_idle, raised}
use Rattle.lock_word.proofs.Testing.{readers_of-idle}
use Rattle.store_rule.specs.Words.{has}
use Rattle.plain_laws.proofs.Evicting.{idle_whole}
use Rattle.plain_runs.specs.Words.{IsLone, Knows, no_guests, setting_of, whole_lot}
use Rattle.plain_runs.proofs.Frames.{knows_same}
use Rattle.plain_runs.proofs.Frames as frame
use Rattle.plain_runs.proofs.Freeing.{EvictedAt, FewReaders, IsGivenBack, KnowsBut, evict_leaves, gave_but, gave_right, given_place, vacated_at}
use Rattle.plain_runs.proofs.OwnAnchors.{lot_lone, mine_lone}
use Rattle.plain_runs.proofs.PlainWords.{idle_there, readers_there}
use Rattle.plain_runs.proofs.Rounds.{onward_inside, victim_is}
use Rattle.plain_model.specs.declared.store.Plain.{Plain}
use Rattle.plain_model.specs.Slots.{evicted, victim}
use Rattle.plain_model.specs.Store.{is_idle_at, readers}
use Rattle.slice_chain.specs.Victims.{Evicted, onward}
use Rattle.store_rule.specs.Ground.{Ground}

module _ (g : Ground (List ℕ)) (lone : IsLone g) (rename : ℕ → ℕ) (m : View (List ℕ)) (p : Plain) (knows : Knows g rename m p no_guests) (few : FewReaders p no_guests)
    (h : ℕ) (hand_is : h ≡ p.hand) (begins : h < g.setting.anchors) (t slot : ℕ) (w : View (List ℕ)) (hand_after : ℕ) (e : Evicted g h m t slot w hand_after) where
  abbrev k : Setting (List ℕ)
  k = g.setting

  abbrev x : ℕ
  x = onward g.setting.anchors h e.steps

  pub x_inside : x < k.anchors
  x_inside = onward_inside k.anchors h e.steps begins (let lt = e.within in omega arith)

  idle_at : (a : ℕ) → a < k.anchors → is_idle_at p a ≡ is_idle (has g m (Anchor a))
  idle_at a lt = sym (idle_there rename (setting_of g) p 0 a (has g m (Anchor a)) (knows.each a lt refl).word (few a) refl)

  word_idle : is_idle (has g m (Anchor x)) ≡ true
  word_idle = ap is_idle (e.was (mine_lone g lone m (Anchor x))) ∙ e.victim.idle

  pub idle : is_idle_at p x ≡ true
  idle = idle_at x x_inside ∙ word_idle

  -- It is the first idle one from the hand on.
  pub victim_here : victim (setting_of g) p ≡ Some x
  victim_here = victim_is (setting_of g) p e.steps (subst (λ z. z < k.anchors) hand_is begins) e.within (λ j lt. subst (λ z. is_idle_at p (onward k.anchors z j) ≡ false) hand_is (before j lt))
      (subst (λ z. is_idle_at p (onward k.anchors z e.steps) ≡ true) hand_is idle) ∙ ap (λ z. Some (onward k.anchors z e.steps)) (sym hand_is)
    where
      before : (j : ℕ) → j < e.steps → is_idle_at p (onward k.anchors h j) ≡ false
      before j lt = idle_at (onward k.anchors h j) (onward_inside k.anchors h j begins (let le = e.within in omega arith)) ∙ e.before.was j lt (mine_lone g lone m (Anchor (onward k.anchors h j)))

  knows_before : Knows g rename e.victim.before p no_guests
  knows_before = knows_same g rename e.looked e.victim.before p no_guests
      (knows_same g rename m e.looked p no_guests knows (frame.went_none g lone m e.looked e.before.added e.before.went e.before.calm.1))
      (frame.went_none g lone e.looked e.victim.before e.victim.looked.added e.victim.looked.went e.victim.looked.calm.1)

  unread : readers p x ≡ 0
  unread = let r = readers_there rename (setting_of g) p 0 x (has g m (Anchor x)) (knows.each x x_inside refl).word (few x) in let none = readers_of-idle (has g m (Anchor x)) word_idle in omega arith

  at_freeing : EvictedAt g rename whole_lot e.won x p no_guests
  at_freeing = let whole = idle_whole p x idle in evict_leaves g rename e.victim.before e.won inner x e.victim.word p no_guests whole.0 (mine_lone g lone e.victim.before (Anchor x)) refl knows_before e.victim.step (sym e.victim.looked.last) whole.1 unread refl

  anchor_is : e.kept.freer.anchor ≡ x
  anchor_is = ap Freer.anchor e.chain

  given : (q : Place) → Contains e.kept.added.changed q → IsGivenBack e.kept.freer q
  given q c = of_one (e.kept.changed q c)
    where
      of_one : ((j : ℕ) × (q ≡ Link j) × Contains e.kept.freer.rest j) ⊎ (q ≡ Anchor e.kept.freer.anchor) → IsGivenBack e.kept.freer q
      of_one (inl y) = inl y
      of_one (inr y) = inr (inr y)

  others : KnowsBut g rename w p no_guests x
  others = subst (KnowsBut g rename w p no_guests) anchor_is
      (gave_but g rename e.won w e.kept.freer (Contains e.kept.added.changed) p no_guests few (lot_lone g lone whole_lot e.won.pass) e.victim.stands at_freeing.nine e.kept.was
      (frame.went_same g lone e.won w e.kept.added e.kept.went (λ q c. given_place g e.won e.kept.freer e.victim.stands at_freeing.nine e.kept.was q (given q c))) given (subst (KnowsBut g rename e.won p no_guests) (sym anchor_is) at_freeing.others))

  a_stage_on : has g w (Anchor x) ≡ raised (has g e.won (Anchor x)) 1
  a_stage_on = e.left ∙ e.kept.from (subst (λ z. z < k.anchors) (sym anchor_is) x_inside) (mine_lone g lone e.won (Anchor e.kept.freer.anchor)) ∙ ap (λ z. raised (has g e.won (Anchor z)) 1) anchor_is

  knows_vacated : Knows g rename w (vacated_at x p) no_guests
  knows_vacated = gave_right g rename w p no_guests x (has g e.won (Anchor x)) others at_freeing.drawn at_freeing.word a_stage_on

  -- Without it the words are the plain store's.
  pub knows_without : Knows g rename w (evicted (setting_of g) x p) no_guests
  knows_without = record { counter = knows_vacated.counter; many = knows_vacated.many; each = λ a lt own. record { word = (knows_vacated.each a lt refl).word; entry = (knows_vacated.each a lt refl).entry } }
