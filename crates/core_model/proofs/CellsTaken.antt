-- To take an anchor for a new entry, and to evict an entry, keeps the part on cells, turns, contents and names: nobody reads there.
use Rattle.std.proofs.Common.{◌≡◌, ◌≢◌, ◌⊎◌, inl, inr, ⊎_elim, ℕ, ◌<◌, ◌≤◌, List, length, set, get_or, sym, refl, ap, ◌∙◌, subst, arith, Bool, true, false, cond, ◌==◌, get_or-set_same, get_or-set_other}
use Rattle.std.proofs.lemmas.Bool.{eqb-true, false≢true}
use mathlib.Core.Option.{some}
use mathlib.Core.Logic.{dite}
use native.Mathlib.Decide.{ℕ_discrete}
use lib.ListN.{get_elem?}
use Rattle.lock_word.specs.Words.{readers_of, word_at, is_vacant, is_idle, is_left_over, evicted}
use Rattle.lock_word.proofs.Testing.{stage_of-vacant, mode_of-idle}
use Rattle.core_model.specs.declared.tab.Turn.TheVariants.{NoTurn}
use Rattle.core_model.specs.declared.tab.Tab.{Tab}
use Rattle.core_model.specs.declared.tab.Tab.TheVariants.{Free, Writing, Last, Freeing}
use Rattle.core_model.specs.declared.moves.Move.TheVariants.{Take, Evict}
use Rattle.core_model.specs.declared.view.View.{View}
use Rattle.core_model.specs.declared.chain.Chain.{Chain}
use Rattle.core_model.specs.Layout.{Setting, anchor_index}
use Rattle.core_model.specs.State.{State, word, chain_of}
use Rattle.core_model.specs.Chains.{no_chain}
use Rattle.core_model.specs.Trails.{last_find}
use Rattle.core_model.specs.Tabs.{tab_at, inner, is_free, turn_of, IsPass, InnerIsFree}
use Rattle.core_model.specs.Steps.{finding, view_after, after}
use Rattle.core_model.specs.Anchors.{opening_counter}
use Rattle.core_model.specs.Versions.{drawn_by}
use Rattle.core_model.specs.Slots.{SlotsSound}
use Rattle.core_model.specs.Cells.{TabPiece, CellsSound}
use Rattle.core_model.specs.Sound.{AnchorsSound}
use Rattle.core_model.proofs.Lists.{le_sum_at, set_here, set_else}
use Rattle.core_model.proofs.Tabs.{tab_there}
use Rattle.core_model.proofs.TakesKept.{fit_vacant, fit_idle, free_is}
use Rattle.core_model.proofs.EvictsKept.{IsRipe, ripe_idle, ripe_left}
use Rattle.core_model.proofs.CellsFrame.{freer_fits, later, Sees, no_has, contains_later, TurnsKeep, turns_same, turns_with, cells_later, names_else, turns_else, same_chains, on_anchor}
use Rattle.core_model.specs.Table.{Allowed, sights_of}
use Rattle.core_model.specs.AnchorMoves.{MayTake, MayEvict, writer_of, freer_of}

module _ {X : Type 0} (k : Setting X) (s : State X) (i : ℕ) (v : View X) (so : AnchorsSound k s) (sl : SlotsSound k s) (cells : CellsSound k s) (at : get_elem? s.views i ≡ some v) (pass : IsPass v) (a : ℕ) (lt : a < k.anchors) where
  abbrev n : ℕ
  n = word s a

  abbrev chains : List Chain
  chains = set s.chains a no_chain

  -- where no tab changes
  turns_as : (s' : State X) (v' : View X) → v'.tabs ≡ v.tabs → TurnsKeep k s' v v'.tabs
  turns_as s' v' same = subst (TurnsKeep k s' v) (sym same) (turns_same k s' v)

  -- the chain goes to the pass, where nobody reads
  empties : readers_of (word s a) ≡ 0 → (x : ℕ) (v' : View X) → TurnsKeep k (later s i v' (set s.words (anchor_index a) x) chains) v v'.tabs → Sees v v' → CellsSound k (later s i v' (set s.words (anchor_index a) x) chains)
  empties unread x v' tabs see = cells_later k s i v so sl cells at v' (set s.words (anchor_index a) x) chains record {
    turns = turns_else k s (anchor_index a) x (λ slot l e. omega arith);
    tabs = tabs;
    seen = see;
    chains = λ b lb. dite (ℕ_discrete b a)
        (λ e. inr (ap (λ (z : ℕ). readers_of (word s z)) e ∙ unread))
        (λ ne. inl record { slots = ap Chain.slots (other b ne); end = ap Chain.end (other b ne) });
    entries = λ b lb. dite (ℕ_discrete b a)
        (λ e. inr (ap (λ (z : ℕ). (get_or chains z no_chain).slots) e ∙ ap Chain.slots here))
        (λ ne. inl record { named = names_else k s i v' chains a x lt b lb ne; slots = ap Chain.slots (other b ne); end = ap Chain.end (other b ne) });
  }
    where
      other : (b : ℕ) → b ≢ a → get_or chains b no_chain ≡ get_or s.chains b no_chain
      other b ne = get_or-set_other s.chains a b no_chain no_chain ne

      here : get_or chains a no_chain ≡ no_chain
      here = get_or-set_same s.chains a no_chain no_chain (let m = so.shaped.chains in omega arith)

  -- Taken by a tab that was free.
  module _ (t u : ℕ) (may : MayTake v t a u) where
    abbrev writing : Tab X
    writing = Writing (writer_of a u)

    abbrev freeing : Tab X
    freeing = Freeing (freer_of a false n (chain_of s a))

    free_here : get_elem? v.tabs t ≡ some Free
    free_here = tab_there v t Free (let p = pass in let z = may.writes in omega arith) may.free

    -- a version that was drawn is above the opening's counter
    is_drawn : opening_counter k < u
    is_drawn = (so.drawn.above u (let z = (so.held.fresh i v at u may.held).drawn in let y = le_sum_at (drawn_by u) s.views i v at in omega arith)).0

    writing_piece : (s' : State X) → TabPiece k s' writing
    writing_piece s' = record { drawn = is_drawn; fits = (so.held.fresh i v at u may.held).fits; offer = λ x e. cc; logged = λ e. (refl, refl); home = λ p e written. cc; held = λ p h e. absurd (no_has NoTurn h refl e); synced = λ h e. absurd (no_has NoTurn h refl e) }

    takes_tab : (s' : State X) (tabs : List (Tab X)) → TurnsKeep k s' v tabs → get_elem? tabs t ≡ some Free → TurnsKeep k s' v (set tabs t writing)
    takes_tab s' tabs keep free = turns_with k s' v tabs keep t Free writing free refl (λ h e. absurd (no_has NoTurn h refl e)) (writing_piece s')

    idle_tabs : (s' : State X) → tab_at v inner ≡ Free → TurnsKeep k s' v (set (set v.tabs inner freeing) t writing)
    idle_tabs s' inner_free = takes_tab s' (set v.tabs inner freeing)
        (turns_with k s' v v.tabs (turns_same k s' v) inner Free freeing (tab_there v inner Free (let p = pass in omega arith) inner_free) refl (freer_fits k s' (freer_of a false n (chain_of s a)) refl) tt)
        (set_else v.tabs inner t freeing (λ z. absurd (let y = may.writes in omega arith)) ∙ free_here)

    takes : (hit idle : Bool) → hit ≡ (n == last_find a v.trail) → idle ≡ is_idle n → (v' : View X) → v'.tabs ≡ cond hit (set (cond idle (set v.tabs inner freeing) v.tabs) t writing) v.tabs → Sees v v'
        → CellsSound k (later s i v' (set s.words (anchor_index a) (cond hit (word_at u 1) n)) (cond hit chains s.chains))
    takes false idle e q v' tabs see = on_anchor k s i v so sl cells at a n v' s.chains lt refl (turns_as _ v' tabs) see (same_chains k s)
    takes true false e q v' tabs see = let same : n ≡ last_find a v.trail = eqb-true _ _ (sym e) in ⊎_elim
        (λ (h : is_vacant (last_find a v.trail) ≡ true). empties (fit_vacant n (subst (λ (z : ℕ). is_vacant z ≡ true) (sym same) h)).unread (word_at u 1) v'
        (subst (TurnsKeep k (later s i v' (set s.words (anchor_index a) (word_at u 1)) chains) v) (sym tabs) (takes_tab _ v.tabs (turns_same k _ v) free_here)) see)
        (λ (h : (is_idle (last_find a v.trail) ≡ true) × InnerIsFree v). absurd (false≢true (q ∙ subst (λ (z : ℕ). is_idle z ≡ true) (sym same) h.0)))
        may.fit
    takes true true e q v' tabs see = let same : n ≡ last_find a v.trail = eqb-true _ _ (sym e) in empties (fit_idle n (sym q)).unread (word_at u 1) v'
        (subst (TurnsKeep k (later s i v' (set s.words (anchor_index a) (word_at u 1)) chains) v) (sym tabs) (idle_tabs _ (inner_free same))) see
      where
        inner_free : n ≡ last_find a v.trail → tab_at v inner ≡ Free
        inner_free same = ⊎_elim
            (λ (h : is_vacant (last_find a v.trail) ≡ true). absurd (let z = stage_of-vacant n (subst (λ (z : ℕ). is_vacant z ≡ true) (sym same) h) in let m = mode_of-idle n (sym q) in omega arith))
            (λ (h : (is_idle (last_find a v.trail) ≡ true) × InnerIsFree v). free_is _ h.1)
            may.fit

  -- Evicted by the inner tab, or by the tab that is last there.
  module _ (t : ℕ) (may : MayEvict v t a) where
    abbrev evicting : Tab X
    evicting = Freeing (freer_of a true n (chain_of s a))

    abbrev old : Tab X
    old = tab_at v t

    below : t < length v.tabs
    below = ⊎_elim (λ (h : (t ≡ inner) × (is_free (tab_at v inner) ≡ true) × _). let z = h.0 in let p = pass in omega arith) (λ (h : (t ≤ inner) × (tab_at v t ≡ Last a) × _ × _). let z = h.0 in let p = pass in omega arith) may

    was : get_elem? v.tabs t ≡ some old
    was = tab_there v t old below refl

    no_turn : turn_of old ≡ NoTurn
    no_turn = ⊎_elim (λ (h : (t ≡ inner) × (is_free (tab_at v inner) ≡ true) × _). ap turn_of (ap (tab_at v) h.0 ∙ free_is _ h.1)) (λ (h : (t ≤ inner) × (tab_at v t ≡ Last a) × _ × _). ap turn_of h.1) may

    unread : n ≡ last_find a v.trail → readers_of n ≡ 0
    unread e = (⊎_elim (λ (h : _ × _ × (is_idle (last_find a v.trail) ≡ true)). subst IsRipe (sym e) (ripe_idle _ h.2)) (λ (h : _ × _ × (is_left_over (last_find a v.trail) ≡ true) × _). subst IsRipe (sym e) (ripe_left _ h.2)) may).unread

    inner_then : get_elem? (set v.tabs t Free) inner ≡ some Free
    inner_then = dite (ℕ_discrete inner t)
        (λ q. subst (λ (z : ℕ). get_elem? (set v.tabs t Free) z ≡ some Free) (sym q) (set_here v.tabs t Free below))
        (λ ne. set_else v.tabs t inner Free ne ∙ tab_there v inner Free (let p = pass in omega arith) (inner_free ne))
      where
        inner_free : inner ≢ t → tab_at v inner ≡ Free
        inner_free ne = ⊎_elim (λ (h : (t ≡ inner) × _ × _). absurd (ne (sym h.0)))
            (λ (h : (t ≤ inner) × (tab_at v t ≡ Last a) × _ × ((is_free (tab_at v inner) ≡ true) ⊎ (t ≡ inner))). ⊎_elim (λ (q : is_free (tab_at v inner) ≡ true). free_is _ q) (λ (q : t ≡ inner). absurd (ne (sym q))) h.3)
            may

    freed_tabs : (s' : State X) → TurnsKeep k s' v (set v.tabs t Free)
    freed_tabs s' = turns_with k s' v v.tabs (turns_same k s' v) t old Free was (sym no_turn) tt tt

    evicts : (hit : Bool) → hit ≡ (n == last_find a v.trail) → (v' : View X) → v'.tabs ≡ cond hit (set (set v.tabs t Free) inner evicting) (set v.tabs t Free) → Sees v v'
        → CellsSound k (later s i v' (set s.words (anchor_index a) (cond hit (evicted n) n)) (cond hit chains s.chains))
    evicts false e v' tabs see = on_anchor k s i v so sl cells at a n v' s.chains lt refl (subst (TurnsKeep k (later s i v' (set s.words (anchor_index a) n) s.chains) v) (sym tabs) (freed_tabs _)) see (same_chains k s)
    evicts true e v' tabs see = empties (unread (eqb-true _ _ (sym e))) (evicted n) v'
        (subst (TurnsKeep k (later s i v' (set s.words (anchor_index a) (evicted n)) chains) v) (sym tabs) (turns_with k _ v (set v.tabs t Free) (freed_tabs _) inner Free evicting inner_then refl (freer_fits k (later s i v' (set s.words (anchor_index a) (evicted n)) chains) (freer_of a true n (chain_of s a)) refl) tt)) see

module _ {X : Type 0} (k : Setting X) (s : State X) (i : ℕ) (v : View X) (so : AnchorsSound k s) (sl : SlotsSound k s) (cells : CellsSound k s) (at : get_elem? s.views i ≡ some v) (pass : IsPass v) where
  pub take_cells : (t a u : ℕ) → Allowed k s v (Take t a u) → CellsSound k (after k s i v (Take t a u))
  take_cells t a u may = takes k s i v so sl cells at pass a may.0 t u may.1 (word s a == last_find a v.trail) (is_idle (word s a)) refl refl (view_after v (Take t a u) (finding k s v (Take t a u))) refl
      (contains_later (sights_of v (Take t a u) (finding k s v (Take t a u))) v.seen)

  pub evict_cells : (t a : ℕ) → Allowed k s v (Evict t a) → CellsSound k (after k s i v (Evict t a))
  evict_cells t a may = evicts k s i v so sl cells at pass a may.0 t may.1 (word s a == last_find a v.trail) refl (view_after v (Evict t a) (finding k s v (Evict t a))) refl
      (contains_later (sights_of v (Evict t a) (finding k s v (Evict t a))) v.seen)
