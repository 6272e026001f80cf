-- To take an entry to FREEING keeps a state sound.
use Rattle.std.proofs.Common.{◌≡◌, ◌≢◌, ◌⊎◌, inl, inr, ⊎_elim, ℕ, zero, suc, ◌+◌, ◌-◌, ◌<◌, ◌≤◌, List, [], ◌∷◌, length, set, sym, refl, ap, ◌∙◌, subst, arith, sum_by, Bool, true, false, cond, ◌==◌, length-set, eq-eqb, ne_eqb, Contains, get_or-set_other}
use Rattle.std.proofs.lemmas.Bool.{eqb-true, false≢true}
use mathlib.Core.Option.{some}
use mathlib.Core.Logic.{dite}
use native.Mathlib.Decide.{ℕ_discrete}
use lib.ListN.{get_elem?}
use Rattle.lock_word.specs.Words.{readers_of, epoch_of, version_of, mode_of, stage_of, doom_of, is_written, is_idle, is_left_over, evicted, doom_number}
use Rattle.lock_word.proofs.Raising.{readers_of-raised, epoch_of-raised, version_of-raised, doom_of-raised, stage_of-raised, is_word-raised}
use Rattle.lock_word.proofs.Testing.{readers_of-idle, readers_of-left_over, mode_of-idle, stage_of-left_over, written-idle, written-left_over}
use Rattle.core_model.specs.declared.tab.Tab.{Tab}
use Rattle.core_model.specs.declared.tab.Tab.TheVariants.{Free, Last, Freeing}
use Rattle.core_model.specs.declared.moves.Move.TheVariants.{Evict}
use Rattle.core_model.specs.declared.view.Kind.TheVariants.{Changed}
use Rattle.core_model.specs.declared.view.Item.{Item}
use Rattle.core_model.specs.declared.view.Deed.{Deed}
use Rattle.core_model.specs.declared.view.View.{View}
use Rattle.core_model.specs.declared.chain.Chain.{Chain}
use Rattle.core_model.specs.Layout.{Setting}
use Rattle.core_model.specs.Chains.{no_chain}
use Rattle.core_model.specs.State.{State, word, chain_of}
use Rattle.core_model.specs.Trails.{last_find}
use Rattle.core_model.specs.Tabs.{tab_at, inner, is_free, counts, frees, count, IsPass}
use Rattle.core_model.specs.Anchors.{written_at, freed_at}
use Rattle.core_model.specs.Steps.{after}
use Rattle.core_model.specs.Sound.{AnchorsSound}
use Rattle.core_model.proofs.Lists.{set_else, set_here}
use Rattle.core_model.proofs.Tabs.{Turns, changes, tab_there}
use Rattle.core_model.proofs.AnchorStep.{stepped, moved}
use Rattle.core_model.proofs.AnchorKept.{at_anchor}
use Rattle.core_model.proofs.AnchorKinds.{meets_others, one_tab, two_tabs, same_epoch}
use Rattle.core_model.proofs.EntersKept.{IsUncounted}
use Rattle.core_model.proofs.TakesKept.{free_is}
use Rattle.core_model.specs.AnchorMoves.{MayEvict, freer_of, meets, deed_of}
use Rattle.core_model.specs.Table.{Allowed, item_of}

doom_is : (d : ℕ) → d < 2 → d ≡ doom_number (d == 1)
doom_is zero lt = refl
doom_is (suc zero) lt = refl
doom_is (suc (suc d)) lt = absurd (omega arith)

-- a word that may be taken to FREEING: it is idle, or left over
pub record IsRipe (n : ℕ) : Type 0 where
  pub unread : readers_of n ≡ 0
  pub unwritten : is_written (epoch_of n) ≡ false
  pub stage : ((is_idle n ≡ true) × (mode_of (epoch_of n) ≡ 3)) ⊎ ((stage_of (epoch_of n) ≡ 4) ⊎ (mode_of (epoch_of n) ≡ 11))

pub ripe_idle : (n : ℕ) → is_idle n ≡ true → IsRipe n
ripe_idle n h = record { unread = readers_of-idle n h; unwritten = written-idle n h; stage = inl (h, mode_of-idle n h) }

pub ripe_left : (n : ℕ) → is_left_over n ≡ true → IsRipe n
ripe_left n h = record { unread = readers_of-left_over n h; unwritten = written-left_over n h; stage = inr (stage_of-left_over n h) }

pub ripe_stage : (n : ℕ) → IsRipe n → (stage_of (epoch_of n) ≡ 3) ⊎ (stage_of (epoch_of n) ≡ 4)
ripe_stage n r = ⊎_elim (λ (h : (is_idle n ≡ true) × (mode_of (epoch_of n) ≡ 3)). inl (let m = h.1 in omega arith))
    (λ (h : (stage_of (epoch_of n) ≡ 4) ⊎ (mode_of (epoch_of n) ≡ 11)). ⊎_elim (λ (q : stage_of (epoch_of n) ≡ 4). inr q) (λ (q : mode_of (epoch_of n) ≡ 11). inl (omega arith)) h) r.stage

module _ {X : Type 0} (k : Setting X) (s : State X) (i : ℕ) (v : View X) (so : AnchorsSound k s) (at : get_elem? s.views i ≡ some v) (pass : IsPass v) (t a : ℕ) (lt : a < k.anchors) (may : MayEvict v t a) where
  abbrev n : ℕ
  n = word s a

  abbrev item : Item
  item = item_of v (Evict t a) n

  abbrev deed : Deed
  deed = deed_of v Changed a (evicted n) (is_idle n)

  abbrev met : List ℕ
  met = meets a n v.tabs

  abbrev freeing : Tab X
  freeing = Freeing (freer_of a true n (chain_of s a))

  abbrev chains : List Chain
  chains = set s.chains a no_chain

  small : t < length v.tabs
  small = ⊎_elim (λ (h : (t ≡ inner) × (is_free (tab_at v inner) ≡ true) × _). let z = h.0 in let p = pass in omega arith) (λ (h : (t ≤ inner) × (tab_at v t ≡ Last a) × _ × _). let z = h.0 in let p = pass in omega arith) may

  -- the tab is free or last, and in no count
  abbrev old : Tab X
  old = tab_at v t

  was : get_elem? v.tabs t ≡ some old
  was = tab_there v t old small refl

  quiet : IsUncounted a old
  quiet = ⊎_elim
      (λ (h : (t ≡ inner) × (is_free (tab_at v inner) ≡ true) × _). subst (IsUncounted a) (sym (free_is _ h.1) ∙ ap (tab_at v) (sym h.0)) record { at_a = tt; counts_none = refl; writes_none = λ _ _. refl; frees_none = λ _ _. refl })
      (λ (h : (t ≤ inner) × (tab_at v t ≡ Last a) × _ × _). subst (IsUncounted a) (sym h.1) record { at_a = refl; counts_none = refl; writes_none = λ _ _. refl; frees_none = λ _ _. refl })
      may

  first : Turns v.tabs t a old Free
  first = record { was = was; old_at = quiet.at_a; new_at = tt }

  inner_then : get_elem? (set v.tabs t Free) inner ≡ some Free
  inner_then = dite (ℕ_discrete inner t)
      (λ q. subst (λ (z : ℕ). get_elem? (set v.tabs t Free) z ≡ some Free) (sym q) (set_here v.tabs t Free small))
      (λ ne. set_else v.tabs t inner Free ne ∙ tab_there v inner Free (let p = pass in omega arith) (inner_free ne))
    where
      inner_free : inner ≢ t → tab_at v inner ≡ Free
      inner_free ne = ⊎_elim (λ (h : (t ≡ inner) × _ × _). absurd (ne (sym h.0)))
          (λ (h : (t ≤ inner) × (tab_at v t ≡ Last a) × _ × ((is_free (tab_at v inner) ≡ true) ⊎ (t ≡ inner))). ⊎_elim (λ (q : is_free (tab_at v inner) ≡ true). free_is _ q) (λ (q : t ≡ inner). absurd (ne (sym q))) h.3)
          may

  second : Turns (set v.tabs t Free) inner a Free freeing
  second = record { was = inner_then; old_at = tt; new_at = refl }

  pub ripe : n ≡ last_find a v.trail → IsRipe n
  ripe e = ⊎_elim (λ (h : _ × _ × (is_idle (last_find a v.trail) ≡ true)). subst IsRipe (sym e) (ripe_idle _ h.2)) (λ (h : _ × _ × (is_left_over (last_find a v.trail) ≡ true) × _). subst IsRipe (sym e) (ripe_left _ h.2)) may

  counted : (f : Tab X → ℕ) → f old ≡ 0 → f Free ≡ 0 → f freeing ≡ 0 → sum_by f (set (set v.tabs t Free) inner freeing) ≡ sum_by f v.tabs
  counted f x y z = let c = changes v.tabs t a old Free first f in let d = changes (set v.tabs t Free) inner a Free freeing second f in omega arith

  -- where the try is lost the tab is last no longer
  lost : (n == last_find a v.trail) ≡ false → AnchorsSound k (moved s i (stepped v a n (epoch_of n) (set v.tabs t Free) v.held item [] met) a n s.chains)
  lost miss = let q = quiet in let x = q.counts_none in same_epoch k s i v so at pass a n (epoch_of n) (set v.tabs t Free) v.held item [] met lt (so.shaped.anchors a lt) refl refl
      record { at_a = refl; tells = refl; no_draw = refl; no_count = λ _ _. refl; found = omega arith }
      (one_tab k s i v so at pass a n (epoch_of n) t old Free v.held item [] met s.chains first (omega arith) (λ u g. let w = q.writes_none u g in omega arith) (λ u d. let w = q.frees_none u d in omega arith) tt)
      (λ u h. (h, refl))
      (λ _. inr (refl, λ p tat f. absurd (false≢true (sym miss ∙ eq-eqb n (last_find a v.trail) (sym f)))))
      (λ b h. inl (fewer b h))
      (λ b h. meets_others a n b v.tabs h)
    where
      fewer : (b : ℕ) → 0 < sum_by (counts b) (set v.tabs t Free) → 0 < count (counts b) v
      fewer b h = let c = changes v.tabs t a old Free first (counts b) in omega arith

  stage_new : IsRipe n → stage_of (epoch_of (evicted n)) ≡ 5
  stage_new r = let st = ripe_stage n r in stage_of-raised n (5 - stage_of (epoch_of n)) (omega arith) ∙ omega arith

  won : n ≡ last_find a v.trail → AnchorsSound k (moved s i (stepped v a (evicted n) (epoch_of (evicted n)) (set (set v.tabs t Free) inner freeing) v.held item (deed ∷ []) met) a (evicted n) chains)
  won e = let r = ripe e in let st = ripe_stage n r in let by : ℕ = 5 - stage_of (epoch_of n) in let room : stage_of (epoch_of n) + by < 7 = omega arith in
      let q = quiet in let x = q.counts_none in
      let readers = readers_of-raised n by in let rises = epoch_of-raised n by in let ver = version_of-raised n by room in let doom = doom_of-raised n by room in let five = stage_new r in
      let tb = two_tabs k s i v so at pass a (evicted n) (epoch_of (evicted n)) t inner old Free Free freeing v.held item (deed ∷ []) met chains first second
      (omega arith)
      (λ u g. let w = q.writes_none u g in let y = not_written r u g in let y' = unwritten r u g in omega arith)
      (λ u d. let w = freed_now r u d in let w' = freed_before r u d in let z = q.frees_none u d in omega arith)
      tt (lt, refl) in
      at_anchor k s i v so at a (evicted n) (epoch_of (evicted n)) (set (set v.tabs t Free) inner freeing) v.held item (deed ∷ []) met chains record {
        inside = lt;
        good = is_word-raised n by (so.shaped.anchors a lt) room;
        rises = omega arith;
        is_pass = pass;
        length_same = tb.length_same;
        sees = refl;
        item_at = refl;
        tells = refl;
        no_draw = refl;
        no_count = λ _ _. refl;
        found = omega arith;
        held_before = λ u h. (h, refl);
        readers = tb.readers;
        writers = tb.writers;
        freers = tb.freers;
        readers_else = tb.readers_else;
        writers_else = tb.writers_else;
        freers_else = tb.freers_else;
        steady = inl r.unread;
        stand = tb.stand;
        lasts = λ over. absurd (not_over r (stage_of-left_over (evicted n) over));
        lasts_else = tb.lasts_else;
        version = inl ver;
        chain_count = length-set s.chains a no_chain;
        chain_else = λ b ne. get_or-set_other s.chains a b no_chain no_chain ne;
        chain_here = λ same low. absurd (omega arith);
        left = inr (deed, (0, omega arith, refl), ((refl, inl refl), refl));
        doomed = λ h. inl (sym doom ∙ h, ver);
        undoomed = λ h g. undoomed_now r h;
        entered = λ b h. inl (fewer b h);
        met_others = λ b h. meets_others a n b v.tabs h;
      }
    where
      fewer : (b : ℕ) → 0 < sum_by (counts b) (set (set v.tabs t Free) inner freeing) → 0 < count (counts b) v
      fewer b h = let c = changes v.tabs t a old Free first (counts b) in let d = changes (set v.tabs t Free) inner a Free freeing second (counts b) in omega arith

      unwritten : IsRipe n → (u g : ℕ) → written_at (epoch_of n) u g ≡ 0
      unwritten r u g = rw r.unwritten refl

      not_written : IsRipe n → (u g : ℕ) → written_at (epoch_of (evicted n)) u g ≡ 0
      not_written r u g = let five = stage_new r in rw five refl

      -- the tab knows the version and the doom of the word, which stay
      freed_now : IsRipe n → (u d : ℕ) → freed_at (epoch_of (evicted n)) u d ≡ frees a u d freeing
      freed_now r u d = let st = ripe_stage n r in let by : ℕ = 5 - stage_of (epoch_of n) in let room : stage_of (epoch_of n) + by < 7 = omega arith in
          let five = stage_new r in let ver = version_of-raised n by room in let doom : doom_of (epoch_of (evicted n)) ≡ doom_number (doom_of (epoch_of n) == 1) = doom_of-raised n by room ∙ doom_is (doom_of (epoch_of n)) (omega arith) in
          rw (five, ver, doom, eq-eqb a a refl) refl

      freed_before : IsRipe n → (u d : ℕ) → freed_at (epoch_of n) u d ≡ 0
      freed_before r u d = let st = ripe_stage n r in rw (ne_eqb (stage_of (epoch_of n)) 5 (λ q. absurd (omega arith))) refl

      not_over : IsRipe n → (stage_of (epoch_of (evicted n)) ≡ 4) ⊎ (mode_of (epoch_of (evicted n)) ≡ 11) → ⊥
      not_over r h = let five = stage_new r in omega arith

      undoomed_now : IsRipe n → doom_of (epoch_of (evicted n)) ≡ 0 → ((doom_of (epoch_of n) ≡ 0) × (4 ≤ stage_of (epoch_of n)) × (version_of (epoch_of (evicted n)) ≡ version_of (epoch_of n)))
          ⊎ ((d : Deed) × Contains (deed ∷ []) d × (Rattle.core_model.specs.Deeds.HaltedVersion a (version_of (epoch_of (evicted n))) d ⊎ Rattle.core_model.specs.Deeds.EvictedVersion a (version_of (epoch_of (evicted n))) d))
      undoomed_now r h = let st = ripe_stage n r in let by : ℕ = 5 - stage_of (epoch_of n) in let room : stage_of (epoch_of n) + by < 7 = omega arith in let ver = version_of-raised n by room in let doom = doom_of-raised n by room in ⊎_elim
          (λ (q : (is_idle n ≡ true) × (mode_of (epoch_of n) ≡ 3)). inr (deed, (0, omega arith, refl), inr (refl, refl, refl, stage_new r, q.0)))
          (λ (q : (stage_of (epoch_of n) ≡ 4) ⊎ (mode_of (epoch_of n) ≡ 11)). ⊎_elim
          (λ (z : stage_of (epoch_of n) ≡ 4). inl (sym doom ∙ h, omega arith, ver))
          (λ (z : mode_of (epoch_of n) ≡ 11). absurd (omega arith))
          q)
          r.stage

  pub evicts : (hit : Bool) → hit ≡ (n == last_find a v.trail)
      → AnchorsSound k (moved s i (stepped v a (cond hit (evicted n) n) (epoch_of (cond hit (evicted n) n)) (cond hit (set (set v.tabs t Free) inner freeing) (set v.tabs t Free)) v.held item (cond hit (deed ∷ []) []) met) a (cond hit (evicted n) n) (cond hit chains s.chains))
  evicts false e = lost (sym e)
  evicts true e = won (eqb-true _ _ (sym e))

pub evict_kept : {X : Type 0} → (k : Setting X) (s : State X) (i : ℕ) (v : View X) → AnchorsSound k s → get_elem? s.views i ≡ some v → IsPass v → (t a : ℕ) → Allowed k s v (Evict t a) → AnchorsSound k (after k s i v (Evict t a))
evict_kept k s i v so at pass t a may = evicts k s i v so at pass t a may.0 may.1 _ refl
