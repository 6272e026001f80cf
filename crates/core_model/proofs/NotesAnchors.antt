-- Where passes come to have seen more, and notes come and go, what is sound of the anchors stays so.
use Rattle.std.proofs.Common.{◌≡◌, ◌≢◌, inl, inr, ⊎_elim, ℕ, ◌*◌, ◌<◌, ◌≤◌, List, [], length, get_or, sym, refl, ap, ◌∙◌, subst, arith, sum_by, true, Contains}
use mathlib.Core.Option.{some, some-ne-none}
use lib.ListN.{get_elem?}
use Rattle.lock_word.specs.Words.{epoch_of, version_of, version_limit}
use Rattle.core_model.specs.declared.moves.Side.TheVariants.{Start}
use Rattle.core_model.specs.declared.tab.Tab.{Tab}
use Rattle.core_model.specs.declared.tab.Tab.TheVariants.{Free, Retreating, Reading, Writing, Last, Freeing}
use Rattle.core_model.specs.declared.view.Kind.TheVariants.{Counted as Looks, Drew}
use Rattle.core_model.specs.declared.view.Item.{Item}
use Rattle.core_model.specs.declared.view.Sight.TheVariants.{Named, Published}
use Rattle.core_model.specs.declared.view.View.{View}
use Rattle.core_model.specs.Layout.{Setting, word_count}
use Rattle.core_model.specs.Chains.{times}
use Rattle.core_model.specs.State.{State, word, counter}
use Rattle.core_model.specs.Tabs.{counts, writes, frees, count}
use Rattle.core_model.specs.Trails.{last_find, last_count, drew_since, draws_in_vain, seen_at}
use Rattle.core_model.specs.Anchors.{tabs_in, Shaped, TabStands, TabsStand, IsLastAt, opening_epoch}
use Rattle.core_model.specs.Versions.{SeenStands, draws_by, vain_by, drawn_by, VersionsDrawn, IsFresh, VersionsHeld}
use Rattle.core_model.specs.Deeds.{mirrored, OneMirror, IsDone, EnteredBy, EnteredByAnother, LeftEpoch, DoomedVersion, HaltedVersion, EvictedVersion, DeedsExplain}
use Rattle.core_model.specs.Sound.{AnchorsSound}
use Rattle.core_model.proofs.Lists.{contains_none}
use Rattle.core_model.proofs.AnchorTabs.{version_up}
use Rattle.core_model.proofs.NotesFrame.{Goes, Later, Learned, Renews, each_now, tab_sums, was_seen, known_before, epoch_before, done_later}
use Rattle.core_model.specs.CellMoves.{note_of}
use Rattle.core_model.specs.TableForms.{renewed}

module _ {X : Type 0} (k : Setting X) (s : State X) (views : List (View X)) (r : Renews k s views) (so : AnchorsSound k s) where
  abbrev s' : State X
  s' = renewed s views

  all_now : (Q : ℕ → View X → Type 0) → ((j : ℕ) (u w : View X) → get_elem? s.views j ≡ some u → Goes u w → Q j w) → ((j : ℕ) (n : View X) → Q j (note_of n))
      → (j : ℕ) (w : View X) → get_elem? views j ≡ some w → Q j w
  all_now = each_now k s views r

  -- The anchors.

  shaped : Shaped k s'
  shaped = record {
    words = so.shaped.words;
    places = so.shaped.places;
    chains = so.shaped.chains;
    tabs = r.sums tabs_in (λ u w g. ap length g.tabs) (λ n. refl) ∙ so.shaped.tabs;
    notes = r.notes;
    anchors = so.shaped.anchors;
  }

  stands : (u w : View X) → Goes u w → (t : ℕ) (tab : Tab X) → TabStands k s u t tab → TabStands k s' w t tab
  stands u w g t Free h = tt
  stands u w g t (Retreating b) h = h
  stands u w g t (Reading x) h = (
    h.0,
    record { version_is = h.1.version_is; from = h.1.from; to = h.1.to },
    version_up x.version (seen_at x.anchor u.seen) (seen_at x.anchor w.seen) h.2 (g.sees x.anchor),
  )
  stands u w g t (Writing x) h = (h.0, h.1, version_up x.version (seen_at x.anchor u.seen) (seen_at x.anchor w.seen) h.2 (g.sees x.anchor))
  stands u w g t (Last b) h = h
  stands u w g t (Freeing f) h = h

  tabs' : TabsStand k s'
  tabs' = all_now (λ j w. (t : ℕ) (tab : Tab X) → get_elem? w.tabs t ≡ some tab → TabStands k s' w t tab)
      (λ j u w at g t tab h. stands u w g t tab (so.tabs j u at t tab (subst (λ (z : List (Tab X)). get_elem? z t ≡ some tab) g.tabs h)))
      (λ j n t tab h. absurd (some-ne-none tab (sym h)))

  last_later : (b n : ℕ) → IsLastAt s b n → IsLastAt s' b n
  last_later b n l = ⊎_elim
      (λ (z : Later views l.i l.view). record { i = l.i; view = z.0; at = z.1; t = l.t; last = subst (λ (y : List (Tab X)). get_elem? y l.t ≡ some (Last b)) (sym z.2.tabs) l.last; find = z.2.find b ∙ l.find })
      (λ (z : Learned views l.view). absurd (some-ne-none (Last b) (sym (subst (λ (y : View X). get_elem? y.tabs l.t ≡ some (Last b)) z.0 l.last))))
      (r.later l.i l.view l.at)

  -- The versions.

  seen' : SeenStands k s'
  seen' = record {
    epochs = λ j w at. (r.sights j w at).epochs;
    inside = λ j w at x h. let q = was_seen k s views r j w at x h in so.seen.inside q.i q.view q.at x q.seen;
    no_start = λ j w at a version value h. let q = was_seen k s views r j w at (Named a version Start value) h in so.seen.no_start q.i q.view q.at a version value q.seen;
    known = λ j w at. (r.sights j w at).known;
    named = λ j w at a version side value h. let q = was_seen k s views r j w at (Named a version side value) h in so.seen.named q.i q.view q.at a version side value q.seen;
    published = λ j w at a version many h. let q = was_seen k s views r j w at (Published a version many) h in so.seen.published q.i q.view q.at a version many q.seen;
    agree = λ i j u w uat wat a version side x y hx hy. let p = was_seen k s views r i u uat (Named a version side x) hx in let q = was_seen k s views r j w wat (Named a version side y) hy in
        so.seen.agree p.i q.i p.view q.view p.at q.at a version side x y p.seen q.seen;
  }

  draws_same : sum_by draws_by views ≡ sum_by draws_by s.views
  draws_same = r.sums draws_by (λ u w g. g.as_draws) (λ n. refl)

  vain_same : sum_by vain_by views ≡ sum_by vain_by s.views
  vain_same = r.sums vain_by (λ u w g. g.as_vain) (λ n. refl)

  drawn_same : (version : ℕ) → sum_by (drawn_by version) views ≡ sum_by (drawn_by version) s.views
  drawn_same version = r.sums (drawn_by version) (λ u w g. g.as_drawn version) (λ n. refl)

  drawn' : VersionsDrawn k s'
  drawn' = record {
    counted = let e = draws_same in let d = so.drawn.counted in omega arith;
    looked = all_now (λ j w. (x : Item) → Contains w.trail x → x.kind ≡ Looks → x.found ≤ counter k s) (λ j u w at g x h e. so.drawn.looked j u at x (g.looked x h e) e) (λ j n x h. absurd (contains_none x h));
    drew = all_now (λ j w. (x : Item) → Contains w.trail x → x.kind ≡ Drew → x.found < counter k s) (λ j u w at g x h e. so.drawn.drew j u at x (g.drew x h e) e) (λ j n x h. absurd (contains_none x h));
    once = λ version. let e = drawn_same version in let d = so.drawn.once version in omega arith;
    above = λ version h. let e = drawn_same version in so.drawn.above version (omega arith);
    stand = so.drawn.stand;
    limited = let e = vain_same in let d = so.drawn.limited in omega arith;
    vain = all_now (λ j w. 9 * draws_in_vain w.trail ≤ length w.tabs) (λ j u w at g. let e = g.as_vain in let l = ap length g.tabs in let d = so.drawn.vain j u at in omega arith) (λ j n. omega arith);
    stops = all_now (λ j w. 0 < draws_in_vain w.trail → (version_limit ≤ last_count w.trail) × (version_limit ≤ counter k s))
        (λ j u w at g h. let e = g.as_vain in let q = so.drawn.stops j u at (omega arith) in let c = g.as_count in (let y = q.0 in omega arith, q.1)) (λ j n h. absurd (omega arith));
  }

  fresh_now : (u w : View X) → Goes u w → (version : ℕ) → IsFresh k s u version → IsFresh k s' w version
  fresh_now u w g version f = record {
    drawn = let e = g.as_drawn version in let d = f.drawn in omega arith;
    once = ap (times version) g.held ∙ f.once;
    fits = f.fits;
    unknown = λ a h. f.unknown a (known_before k s views r a version h);
  }

  held' : VersionsHeld k s'
  held' = record {
    fresh = all_now (λ j w. (version : ℕ) → Contains w.held version → IsFresh k s' w version)
        (λ j u w at g version h. fresh_now u w g version (so.held.fresh j u at version (subst (λ (z : List ℕ). Contains z version) g.held h))) (λ j n version h. absurd (contains_none version h));
    since = all_now (λ j w. (a version : ℕ) → a < k.anchors → Contains w.held version → drew_since version a w.trail ≡ true → version_of (epoch_of (last_find a w.trail)) < version)
        (λ j u w at g a version lt h e. subst (λ (z : ℕ). version_of (epoch_of z) < version) (sym (g.find a))
        (so.held.since j u at a version lt (subst (λ (z : List ℕ). Contains z version) g.held h) (sym (g.since version a) ∙ e))) (λ j n a version lt h. absurd (contains_none version h));
    one_anchor = λ a b version high p q. so.held.one_anchor a b version high (known_before k s views r a version p) (known_before k s views r b version q);
    finds = all_now (λ j w. (a : ℕ) → epoch_of (last_find a w.trail) ≤ seen_at a w.seen) (λ j u w at g a. let e = ap epoch_of (g.find a) in let h = so.held.finds j u at a in let m = g.sees a in omega arith) (λ j n a. omega arith);
  }

  -- The records.

  mirror' : OneMirror k s'
  mirror' one = all_now (λ j w. w.tabs ≢ [] → (p : ℕ) → p < word_count k → mirrored k p w.mirror ≡ get_or s.words p 0)
      (λ j u w at g ne p lt. ap (mirrored k p) g.mirror ∙ so.mirror one j u at (λ z. ne (g.tabs ∙ z)) p lt) (λ j n ne. absurd (ne refl))

  deeds' : DeedsExplain k s'
  deeds' = record {
    left = λ a e h. ⊎_elim (λ (q : e ≡ opening_epoch k a). inl q) (λ (q : IsDone s (LeftEpoch a e)). inr (done_later k s views r (LeftEpoch a e) q)) (so.deeds.left a e (epoch_before k s views r a e h));
    doomed = λ a e h d. done_later k s views r (DoomedVersion a (version_of e)) (so.deeds.doomed a e (epoch_before k s views r a e h) d);
    undoomed = λ a e h d st. ⊎_elim (λ (q : IsDone s (HaltedVersion a (version_of e))). inl (done_later k s views r (HaltedVersion a (version_of e)) q))
        (λ (q : IsDone s (EvictedVersion a (version_of e))). inr (done_later k s views r (EvictedVersion a (version_of e)) q)) (so.deeds.undoomed a e (epoch_before k s views r a e h) d st);
    entered = all_now (λ j w. (a : ℕ) → 0 < count (counts a) w → IsDone s' (EnteredBy a w.pass))
        (λ j u w at g a h. subst (λ (z : ℕ). IsDone s' (EnteredBy a z)) (sym g.pass) (done_later k s views r (EnteredBy a u.pass) (so.deeds.entered j u at a (subst (λ (z : List (Tab X)). 0 < sum_by (counts a) z) g.tabs h))))
        (λ j n a h. absurd (omega arith));
    met = all_now (λ j w. (a : ℕ) → Contains w.met a → IsDone s' (EnteredByAnother a w.pass))
        (λ j u w at g a h. subst (λ (z : ℕ). IsDone s' (EnteredByAnother a z)) (sym g.pass) (done_later k s views r (EnteredByAnother a u.pass) (so.deeds.met j u at a (subst (λ (z : List ℕ). Contains z a) g.met h))))
        (λ j n a h. absurd (contains_none a h));
    numbers = λ i j u w uat wat. all_now (λ i u. u.tabs ≢ [] → w.tabs ≢ [] → u.pass ≡ w.pass → i ≡ j)
        (λ i u₀ u uat₀ g p q e. all_now (λ j w. w.tabs ≢ [] → u₀.pass ≡ w.pass → i ≡ j)
        (λ j w₀ w wat₀ h q e. so.deeds.numbers i j u₀ w₀ uat₀ wat₀ (λ z. p (g.tabs ∙ z)) (λ z. q (h.tabs ∙ z)) (e ∙ h.pass)) (λ j n q e. absurd (q refl)) j w wat q (sym g.pass ∙ e))
        (λ i n p q e. absurd (p refl)) i u uat;
  }

  pub renews_anchors : AnchorsSound k s'
  renews_anchors = record {
    setting = so.setting;
    shaped = shaped;
    readers = λ a lt. so.readers a lt ∙ sym (tab_sums k s views r (counts a));
    writers = λ a version stage lt. so.writers a version stage lt ∙ sym (tab_sums k s views r (writes a version stage));
    freers = λ a u d lt. so.freers a u d lt ∙ sym (tab_sums k s views r (frees a u d));
    tabs = tabs';
    lasts = λ a lt over. last_later a (word s a) (so.lasts a lt over);
    seen = seen';
    drawn = drawn';
    held = held';
    mirror = mirror';
    deeds = deeds';
  }
