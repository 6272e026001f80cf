-- To take an anchor for a new entry keeps a state sound.
use Rattle.std.proofs.Common.{◌≡◌, ◌≢◌, ◌⊎◌, inl, inr, ⊎_elim, ℕ, ◌<◌, ◌≤◌, List, [], ◌∷◌, set, sym, refl, ap, ◌∙◌, subst, arith, sum_by, Bool, true, false, cond, ◌==◌, length-set, eq-eqb, ne_eqb, Contains, get_or-set_other}
use Rattle.std.proofs.lemmas.Bool.{eqb-true}
use mathlib.Core.Option.{some}
use lib.ListN.{get_elem?}
use Rattle.lock_word.specs.Words.{readers_of, epoch_of, version_of, mode_of, stage_of, doom_of, is_written, is_idle, is_vacant, word_at}
use Rattle.lock_word.proofs.Taking.{readers_of-word_at, epoch_of-word_at, version_of-epoch_at, doom_of-epoch_at, stage_of-epoch_at, is_word-word_at, word_rises, written-taken}
use Rattle.lock_word.proofs.Testing.{readers_of-idle, readers_of-vacant, mode_of-idle, stage_of-vacant, stage_of-left_over, written-idle, written-vacant}
use Rattle.core_model.specs.declared.tab.Tab.{Tab}
use Rattle.core_model.specs.declared.tab.Tab.TheVariants.{Free, Retreating, Reading, Writing, Last, Freeing}
use Rattle.core_model.specs.declared.moves.Move.TheVariants.{Take}
use Rattle.core_model.specs.declared.view.Kind.TheVariants.{Changed}
use Rattle.core_model.specs.declared.view.Item.{Item}
use Rattle.core_model.specs.declared.view.Deed.{Deed}
use Rattle.core_model.specs.declared.view.View.{View}
use Rattle.core_model.specs.declared.chain.Chain.{Chain}
use Rattle.core_model.specs.Layout.{Setting}
use Rattle.core_model.specs.Chains.{no_chain, times, without}
use Rattle.core_model.specs.State.{State, word, chain_of}
use Rattle.core_model.specs.Trails.{last_find, seen_at}
use Rattle.core_model.specs.Tabs.{tab_at, inner, is_free, counts, writes, frees, count, IsPass}
use Rattle.core_model.specs.Anchors.{written_at, freed_at, TabStands}
use Rattle.core_model.specs.Steps.{after}
use Rattle.core_model.specs.Sound.{AnchorsSound}
use Rattle.core_model.proofs.Lists.{set_else}
use Rattle.core_model.proofs.Tabs.{Turns, changes, tab_there, in_without, times_without_same}
use Rattle.core_model.proofs.AnchorStep.{stepped, moved}
use Rattle.core_model.proofs.AnchorKept.{at_anchor}
use Rattle.core_model.proofs.AnchorKinds.{meets_others, sees_now, TabsOwe, no_tab, one_tab, two_tabs, same_epoch}
use Rattle.core_model.specs.AnchorMoves.{MayTake, writer_of, freer_of, meets, deed_of}
use Rattle.core_model.specs.Table.{Allowed, item_of}

-- a word that may be taken
pub record IsFit (n : ℕ) : Type 0 where
  pub unread : readers_of n ≡ 0
  pub unwritten : is_written (epoch_of n) ≡ false
  pub unfreed : stage_of (epoch_of n) ≢ 5

pub fit_vacant : (n : ℕ) → is_vacant n ≡ true → IsFit n
fit_vacant n h = let st = stage_of-vacant n h in record { unread = readers_of-vacant n h; unwritten = written-vacant n h; unfreed = λ q. absurd (omega arith) }

pub fit_idle : (n : ℕ) → is_idle n ≡ true → IsFit n
fit_idle n h = let m = mode_of-idle n h in record { unread = readers_of-idle n h; unwritten = written-idle n h; unfreed = λ q. absurd (omega arith) }

pub free_is : {X : Type 0} → (x : Tab X) → is_free x ≡ true → x ≡ Free
free_is Free h = refl
free_is (Retreating a) h = cc
free_is (Reading r) h = cc
free_is (Writing w) h = cc
free_is (Last a) h = cc
free_is (Freeing f) h = cc

module _ {X : Type 0} (k : Setting X) (s : State X) (i : ℕ) (v : View X) (so : AnchorsSound k s) (at : get_elem? s.views i ≡ some v) (pass : IsPass v) (t a u : ℕ) (lt : a < k.anchors) (may : MayTake v t a u) where
  abbrev n : ℕ
  n = word s a

  abbrev taken : ℕ
  taken = word_at u 1

  abbrev item : Item
  item = item_of v (Take t a u) n

  abbrev deed : Deed
  deed = deed_of v Changed a taken (is_idle n)

  abbrev met : List ℕ
  met = meets a n v.tabs

  abbrev writing : Tab X
  writing = Writing (writer_of a u)

  abbrev freeing : Tab X
  freeing = Freeing (freer_of a false n (chain_of s a))

  abbrev chains : List Chain
  chains = set s.chains a no_chain

  fit : n ≡ last_find a v.trail → IsFit n
  fit e = ⊎_elim (λ (h : is_vacant (last_find a v.trail) ≡ true). subst IsFit (sym e) (fit_vacant _ h)) (λ (h : (is_idle (last_find a v.trail) ≡ true) × (is_free (tab_at v inner) ≡ true)). subst IsFit (sym e) (fit_idle _ h.0)) may.fit

  -- where the try is lost
  lost : AnchorsSound k (moved s i (stepped v a n (epoch_of n) v.tabs (without u v.held) item [] met) a n s.chains)
  lost = same_epoch k s i v so at pass a n (epoch_of n) v.tabs (without u v.held) item [] met lt (so.shaped.anchors a lt) refl refl
      record { at_a = refl; tells = refl; no_draw = refl; no_count = λ _ _. refl; found = omega arith }
      (no_tab k s i v so at pass a n (epoch_of n) (without u v.held) item [] met s.chains refl (λ _ _. refl) (λ _ _. refl))
      (λ x h. in_without u x v.held h)
      (λ _. inr (refl, λ p tat f. (tat, refl)))
      (λ b h. inl h)
      (λ b h. meets_others a n b v.tabs h)

  written_new : (x g : ℕ) → written_at (epoch_of taken) x g ≡ writes a x g writing
  written_new x g = let w = written-taken u in let e = version_of-epoch_at u 1 (omega arith) in let st = stage_of-epoch_at u 1 (omega arith) in
      rw (epoch_of-word_at u 1, w, e, st, eq-eqb a a refl) refl

  written_old : IsFit n → (x g : ℕ) → written_at (epoch_of n) x g ≡ 0
  written_old f x g = rw f.unwritten refl

  freed_new : (x d : ℕ) → freed_at (epoch_of taken) x d ≡ 0
  freed_new x d = let st = stage_of-epoch_at u 1 (omega arith) in rw (epoch_of-word_at u 1, st) refl

  freed_old : IsFit n → (x d : ℕ) → freed_at (epoch_of n) x d ≡ 0
  freed_old f x d = rw (ne_eqb (stage_of (epoch_of n)) 5 f.unfreed) refl

  freeing_none : (x d : ℕ) → frees a x d freeing ≡ 0
  freeing_none x d = rw (eq-eqb a a refl) refl

  version_new : version_of (epoch_of taken) ≡ u
  version_new = ap version_of (epoch_of-word_at u 1) ∙ version_of-epoch_at u 1 (omega arith)

  stage_new : stage_of (epoch_of taken) ≡ 1
  stage_new = ap stage_of (epoch_of-word_at u 1) ∙ stage_of-epoch_at u 1 (omega arith)

  doom_new : doom_of (epoch_of taken) ≡ 0
  doom_new = ap doom_of (epoch_of-word_at u 1) ∙ doom_of-epoch_at u 1 (omega arith)

  above : n ≡ last_find a v.trail → version_of (epoch_of n) < u
  above e = subst (λ (z : ℕ). version_of (epoch_of z) < u) (sym e) (so.held.since i v at a u lt may.held may.since)

  -- where it is won, whatever becomes of the inner tab
  won : (tabs : List (Tab X)) → n ≡ last_find a v.trail → TabsOwe k s i v a taken (epoch_of taken) tabs (without u v.held) item (deed ∷ []) met chains
      → ((b : ℕ) → sum_by (counts b) tabs ≡ count (counts b) v)
      → AnchorsSound k (moved s i (stepped v a taken (epoch_of taken) tabs (without u v.held) item (deed ∷ []) met) a taken chains)
  won tabs e tb counted = let f = fit e in let up = above e in let fresh = so.held.fresh i v at u may.held in let ver = version_new in let st = stage_new in
      at_anchor k s i v so at a taken (epoch_of taken) tabs (without u v.held) item (deed ∷ []) met chains record {
        inside = lt;
        good = is_word-word_at u 1 (let z = fresh.fits in omega arith) (omega arith);
        rises = let z = word_rises n u 1 up in omega arith;
        is_pass = pass;
        length_same = tb.length_same;
        sees = refl;
        item_at = refl;
        tells = refl;
        no_draw = refl;
        no_count = λ _ _. refl;
        found = let z = word_rises n u 1 up in omega arith;
        held_before = λ x h. in_without u x v.held h;
        readers = tb.readers;
        writers = tb.writers;
        freers = tb.freers;
        readers_else = tb.readers_else;
        writers_else = tb.writers_else;
        freers_else = tb.freers_else;
        steady = inl f.unread;
        stand = tb.stand;
        lasts = λ over. absurd (not_over (stage_of-left_over taken over));
        lasts_else = tb.lasts_else;
        version = inr (subst (Contains v.held) (sym ver) may.held, ap (λ (z : ℕ). times z (without u v.held)) ver ∙ times_without_same u v.held);
        chain_count = length-set s.chains a no_chain;
        chain_else = λ b ne. get_or-set_other s.chains a b no_chain no_chain ne;
        chain_here = λ same low. absurd (omega arith);
        left = inr (deed, (0, omega arith, refl), ((refl, inl refl), refl));
        doomed = λ h. absurd (let d = doom_new in omega arith);
        undoomed = λ h g. absurd (omega arith);
        entered = λ b h. inl (let c = counted b in omega arith);
        met_others = λ b h. meets_others a n b v.tabs h;
      }
    where
      not_over : (stage_of (epoch_of taken) ≡ 4) ⊎ (mode_of (epoch_of taken) ≡ 11) → ⊥
      not_over h = let st = stage_new in omega arith

  -- the tab of the writer
  writer_stands : (s' : State X) (w : View X) → epoch_of taken ≤ seen_at a w.seen → TabStands k s' w t writing
  writer_stands s' w seen = (lt, may.writes, let v = version_new in omega arith)

  pub took : (hit idle : Bool) → hit ≡ (n == last_find a v.trail) → idle ≡ is_idle n
      → AnchorsSound k (moved s i (stepped v a (cond hit taken n) (epoch_of (cond hit taken n)) (cond hit (set (cond idle (set v.tabs inner freeing) v.tabs) t writing) v.tabs) (without u v.held) item (cond hit (deed ∷ []) []) met) a (cond hit taken n) (cond hit chains s.chains))
  took false idle e q = lost
  took true false e q = let same : n ≡ last_find a v.trail = eqb-true _ _ (sym e) in let f = fit same in
      let turns : Turns v.tabs t a Free writing = record { was = tab_there v t Free (let p = pass in let z = may.writes in omega arith) may.free; old_at = tt; new_at = refl } in
      won (set v.tabs t writing) same
      (one_tab k s i v so at pass a taken (epoch_of taken) t Free writing (without u v.held) item (deed ∷ []) met chains turns
      (let r = readers_of-word_at u 1 in let z = f.unread in omega arith)
      (λ x g. let y = written_new x g in let z = written_old f x g in omega arith)
      (λ x d. let y = freed_new x d in let z = freed_old f x d in omega arith)
      (writer_stands (moved s i (stepped v a taken (epoch_of taken) (set v.tabs t writing) (without u v.held) item (deed ∷ []) met) a taken chains) (stepped v a taken (epoch_of taken) (set v.tabs t writing) (without u v.held) item (deed ∷ []) met) (sees_now a (epoch_of taken) v.seen)))
      (λ b. let c = changes v.tabs t a Free writing turns (counts b) in omega arith)
  took true true e q = let same : n ≡ last_find a v.trail = eqb-true _ _ (sym e) in let f = fit same in
      let first : Turns v.tabs inner a Free freeing = record { was = tab_there v inner Free (let p = pass in omega arith) (inner_free same (sym q)); old_at = tt; new_at = refl } in
      let second : Turns (set v.tabs inner freeing) t a Free writing = record { was = set_else v.tabs inner t freeing (λ z. absurd (let y = may.writes in omega arith)) ∙ tab_there v t Free (let p = pass in let z = may.writes in omega arith) may.free; old_at = tt; new_at = refl } in
      won (set (set v.tabs inner freeing) t writing) same
      (two_tabs k s i v so at pass a taken (epoch_of taken) inner t Free freeing Free writing (without u v.held) item (deed ∷ []) met chains first second
      (let r = readers_of-word_at u 1 in let z = f.unread in omega arith)
      (λ x g. let y = written_new x g in let z = written_old f x g in omega arith)
      (λ x d. let y = freed_new x d in let z = freed_old f x d in let w = freeing_none x d in omega arith)
      (lt, refl)
      (writer_stands (moved s i (stepped v a taken (epoch_of taken) (set (set v.tabs inner freeing) t writing) (without u v.held) item (deed ∷ []) met) a taken chains) (stepped v a taken (epoch_of taken) (set (set v.tabs inner freeing) t writing) (without u v.held) item (deed ∷ []) met) (sees_now a (epoch_of taken) v.seen)))
      (λ b. let c = changes v.tabs inner a Free freeing first (counts b) in let d = changes (set v.tabs inner freeing) t a Free writing second (counts b) in omega arith)
    where
      inner_free : n ≡ last_find a v.trail → is_idle n ≡ true → tab_at v inner ≡ Free
      inner_free same idle = ⊎_elim
          (λ (h : is_vacant (last_find a v.trail) ≡ true). absurd (let z : is_vacant n ≡ true = subst (λ (m : ℕ). is_vacant m ≡ true) (sym same) h in let y = stage_of-vacant n z in let m = mode_of-idle n idle in omega arith))
          (λ (h : (is_idle (last_find a v.trail) ≡ true) × (is_free (tab_at v inner) ≡ true)). free_is _ h.1)
          may.fit

pub take_kept : {X : Type 0} → (k : Setting X) (s : State X) (i : ℕ) (v : View X) → AnchorsSound k s → get_elem? s.views i ≡ some v → IsPass v → (t a u : ℕ) → Allowed k s v (Take t a u) → AnchorsSound k (after k s i v (Take t a u))
take_kept k s i v so at pass t a u may = took k s i v so at pass t a u may.0 may.1 _ _ refl refl
