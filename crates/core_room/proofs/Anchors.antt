-- No step but a look at the map gives an anchor more slots, with what tabs of the pass have of them.
use Rattle.std.proofs.Common.{Bool, Some, [], ap, arith, cond, eq-eqb, false, get_or, length, set, subst, sym, true, ⊎_elim, ◌++◌, ◌+◌, ◌==◌, ◌∷◌, ◌≡◌, ◌≤◌, ℕ}
use Rattle.std.proofs.lemmas.List.{length-append}
use mathlib.Core.Option.{some}
use lib.ListN.{get_elem?}
use Rattle.lock_word.specs.declared.stage.Stage.{Stage}
use Rattle.lock_word.specs.declared.stage.Stage.TheVariants.{Appending, Closed, Empty, Freeing as FreeingStage, Gone, Halted, Taken}
use Rattle.lock_word.specs.Words.{epoch_of, is_idle}
use Rattle.link_word.specs.declared.link.Link.{Link}
use Rattle.link_word.specs.Map.{next_free, taken_in}
use Rattle.core_model.specs.declared.moves.Move.{Move}
use Rattle.core_model.specs.declared.moves.Move.TheVariants.{CellIn, CellOut, Count, Disown, Doom, Draw, EndTurn, Enter, Evict, GetLink, Learn, Leave, LoadSide, LogPiece, Look, LookMap, Loosen, Note, Own, Publish, Raise, StoreSide, Sync, Take, TryTurn, Write}
use Rattle.core_model.specs.declared.tab.Freer.{Freer}
use Rattle.core_model.specs.declared.tab.Tab.{Tab}
use Rattle.core_model.specs.declared.tab.Tab.TheVariants.{Free, Freeing, Last, Reading, Retreating, Writing}
use Rattle.core_model.specs.declared.tab.Writer.{Writer}
use Rattle.core_model.specs.declared.view.View.{View}
use Rattle.core_model.specs.declared.chain.Chain.{Chain}
use Rattle.core_model.specs.Layout.{Setting}
use Rattle.core_model.specs.Chains.{no_chain, rest_of}
use Rattle.core_model.specs.State.{State, chain_of, word}
use Rattle.core_model.specs.Trails.{last_find}
use Rattle.core_model.specs.Tabs.{OfFreer, OfWriter, anchor_of, inner, tab_at}
use Rattle.core_model.specs.AnchorMoves.{MayEnd, MayRaise, StartsRight, entered, left_tab, raised_tab}
use Rattle.core_model.specs.SlotMoves.{MayLoosen, MayPublish, MayReserve, gives_back, loaded, looks, loosens, misses, publishes, reserves, stores}
use Rattle.core_model.specs.CellMoves.{ends, is_kept, logs, moves, rewrites, settled_by_sync, settled_by_write, tries}
use Rattle.core_model.specs.Steps.{cell_found, chains_after, finding, halted, longer, number_found}
use Rattle.core_model.specs.Table.{Allowed, left_by, tabs_after}
use Rattle.core_model.specs.Sound.{Sound}
use Rattle.core_model.proofs.ReservesKept.{of_freer, of_writer}
use Rattle.core_model.proofs.Tabs.{tab_there}
use Rattle.core_model.specs.Tabs.{IsPass}
use Rattle.core_room.specs.Conditions.{HasCome, KeepsRoom}
use Rattle.core_room.proofs.Tabs.{Less, ends_less, entered_less, gives_back_less, left_less, loaded_less, logs_less, looks_less, moves_less, raised_less, rewrites_less, stores_less, tries_less}
use Rattle.core_model.specs.SlotMoves.{goes_past}
use Rattle.core_room.proofs.Tabs.{if_at}
use Rattle.core_room.proofs.Held.{at_anchor, evicted, halts, runs_on, shows_one, stays, taken, wins}

-- a step that is no look at the map
abbrev pub IsNoLook : Move → Type 0
IsNoLook (LookMap t word) = ⊥
IsNoLook m = Unit {0}

module _ {X : Type 0} where
  abbrev Looser : ℕ → Tab X → Type 0
  Looser slot x = Less x (loosens x (slot ∷ []))

  -- the first slot of a rest comes to be loose
  loosens_less : (slot : ℕ) (f : Freer X) → MayLoosen slot f → Looser slot (Freeing f)
  loosens_less slot f may = record {
    past = λ j. omega arith;
    held = λ a. if_at (f.anchor == a) (length (rest_of f.rest) + length (f.loose ++ slot ∷ [])) (length f.rest + length f.loose)
        (let l = length-append f.loose (slot ∷ []) in let r = ap length may.0 in omega arith);
  }

module _ {X : Type 0} (k : Setting X) (s : State X) (i : ℕ) (v : View X) (so : Sound k s) (at : get_elem? s.views i ≡ some v)
    (pass : IsPass v) (need : ℕ → ℕ) where
  abbrev pub Keeps : Move → Type 0
  Keeps m = (b : ℕ) → at_anchor (chains_after s.chains v m (number_found k s v m)) (tabs_after v m (finding k s v m)) b
      ≤ at_anchor s.chains v.tabs b

  -- the chain of a writing tab's anchor is what it published
  pub chain_is : (t : ℕ) (w : Writer X) → t ≤ 8 → tab_at v t ≡ Writing w
      → chain_of s w.anchor ≡ record { slots = w.published; end = w.end; tail = [] }
  chain_is t w le e = (so.slots.tabs i v at t (Writing w) (tab_there v t (Writing w) (let p = pass in omega arith) e)).chain

  same : (b : ℕ) → at_anchor s.chains v.tabs b ≤ at_anchor s.chains v.tabs b
  same b = omega arith

  one : (t : ℕ) (y : Tab X) → Less (tab_at v t) y → (b : ℕ) → at_anchor s.chains (set v.tabs t y) b ≤ at_anchor s.chains v.tabs b
  one t y less b = stays s.chains v.tabs t y less b

  raised : (t : ℕ) (to : Stage) (b : ℕ)
      → at_anchor s.chains (set v.tabs t (raised_tab (tab_at v t) to (left_by v (Raise t to) (number_found k s v (Raise t to))))) b
      ≤ at_anchor s.chains v.tabs b
  raised t to = let n : ℕ = left_by v (Raise t to) (number_found k s v (Raise t to)) in
      one t (raised_tab (tab_at v t) to n) (raised_less to n (tab_at v t))

  -- what a row comes to, of a tab that is so
  abbrev HaltedBy : (t n b : ℕ) → Tab X → Type 0
  HaltedBy t n b z = at_anchor (set s.chains (anchor_of z) (halted (get_or s.chains (anchor_of z) no_chain)))
      (set v.tabs t (raised_tab z Halted n)) b ≤ at_anchor s.chains v.tabs b

  abbrev PublishedBy : (t slot : ℕ) → Link → (b : ℕ) → Tab X → Type 0
  PublishedBy t slot link b z = at_anchor (set s.chains (anchor_of z) (longer (get_or s.chains (anchor_of z) no_chain) slot link))
      (set v.tabs t (publishes z slot link)) b ≤ at_anchor s.chains v.tabs b

  abbrev TriedBy : (t slot n b : ℕ) → Tab X → Type 0
  TriedBy t slot n b z =
      at_anchor s.chains (set v.tabs t (cond (taken_in n slot == 0) (reserves z slot) (misses z slot n))) b ≤ at_anchor s.chains v.tabs b

  abbrev LoosenedIf : (t slot b : ℕ) → Bool → Type 0
  LoosenedIf t slot b c = at_anchor s.chains (cond c (set v.tabs inner (loosens (tab_at v inner) (slot ∷ [])))
      (set (set v.tabs inner (loosens (tab_at v inner) [])) t (reserves (tab_at v t) slot))) b ≤ at_anchor s.chains v.tabs b

  halts_row : (t : ℕ) → Allowed k s v (Raise t Halted) → Keeps (Raise t Halted)
  halts_row t may b = ⊎_elim writer
      (λ (h : OfFreer (λ f. MayEnd f Halted) (tab_at v t)). absurd (of_freer (λ f. MayEnd f Halted) (tab_at v t) h).2) may.1
    where
      n : ℕ
      n = left_by v (Raise t Halted) (number_found k s v (Raise t Halted))

      writer : OfWriter (λ w. MayRaise w Halted × StartsRight k s w) (tab_at v t) → HaltedBy t n b (tab_at v t)
      writer h = let q = of_writer (λ w. MayRaise w Halted × StartsRight k s w) (tab_at v t) h in
          subst (HaltedBy t n b) (sym q.1) (halts s.chains v.tabs t q.0 q.1 n b (ap Chain.end (chain_is t q.0 may.0 q.1)) q.2.0.2)

  publishes_row : (t slot : ℕ) (link : Link) → Allowed k s v (Publish t slot link) → Keeps (Publish t slot link)
  publishes_row t slot link may b = let q = of_writer (MayPublish k s slot link) (tab_at v t) may.1 in
      subst (PublishedBy t slot link b) (sym q.1) (shows_one s.chains v.tabs t q.0 q.1 slot link b q.2.first)

  tries_row : (t slot : ℕ) → OfWriter (HasCome slot) (tab_at v t) → Keeps (Own t slot)
  tries_row t slot come b = let q = of_writer (HasCome slot) (tab_at v t) come in
      subst (TriedBy t slot n b) (sym q.1) (by_hit q.0 q.1 q.2 (taken_in n slot == 0))
    where
      n : ℕ
      n = number_found k s v (Own t slot)

      by_hit : (w : Writer X) → tab_at v t ≡ Writing w → w.claim ≡ Some slot → (hit : Bool)
          → at_anchor s.chains (set v.tabs t (cond hit (reserves (Writing w) slot) (misses (Writing w) slot n))) b
          ≤ at_anchor s.chains v.tabs b
      by_hit w e come true = wins s.chains v.tabs t w e slot b come
      by_hit w e come false =
          runs_on s.chains v.tabs t w e (record w { claim = goes_past w.claim slot n }) (cond (slot == slot) (next_free n slot) slot) slot b
          (ap (λ c. record w { claim = goes_past c slot n }) come) come

  loosens_row : (t slot : ℕ) → Allowed k s v (Loosen t slot) → t ≡ inner → Keeps (Loosen t slot)
  loosens_row t slot may is b = let q = of_freer (MayLoosen slot) (tab_at v inner) frees in let z = eq-eqb t inner is in
      subst (LoosenedIf t slot b) (sym z)
      (one inner (loosens (tab_at v inner) (slot ∷ [])) (subst (Looser slot) (sym q.1) (loosens_less slot q.0 q.2)) b)
    where
      weaker : (x : Tab X) → OfFreer (λ f. MayLoosen slot f × (f.is_freeing ≡ true)) x → OfFreer (MayLoosen slot) x
      weaker (Freeing f) h = h.0
      weaker Free h = absurd h
      weaker (Retreating a) h = absurd h
      weaker (Reading r) h = absurd h
      weaker (Writing w) h = absurd h
      weaker (Last a) h = absurd h

      frees : OfFreer (MayLoosen slot) (tab_at v inner)
      frees = ⊎_elim
          (λ (h : OfFreer (MayLoosen slot) (tab_at v t)). subst (λ (u : ℕ). OfFreer (MayLoosen slot) (tab_at v u)) is h)
          (λ (h : OfWriter MayReserve (tab_at v t) × OfFreer (λ f. MayLoosen slot f × (f.is_freeing ≡ true)) (tab_at v inner)).
          weaker (tab_at v inner) h.1)
          may.1

  pub held_after : (m : Move) → IsNoLook m → Allowed k s v m → KeepsRoom k need v m → Keeps m
  held_after (Look a) off may keeps = same
  held_after (Enter t a) off may keeps = one t (entered a (epoch_of (word s a))) (entered_less (tab_at v t) a (epoch_of (word s a)))
  held_after (Leave t) off may keeps = let n : ℕ = left_by v (Leave t) (number_found k s v (Leave t)) in
      one t (left_tab (anchor_of (tab_at v t)) n) (left_less (tab_at v t) (anchor_of (tab_at v t)) n)
  held_after Count off may keeps = same
  held_after Draw off may keeps = same
  held_after (Take t a u) off may keeps = taken s.chains v.tabs (word s a == last_find a v.trail) (is_idle (word s a)) t a u (word s a)
  held_after (Evict t a) off may keeps = evicted s.chains v.tabs (word s a == last_find a v.trail) t a (word s a)
  held_after (Raise t Halted) off may keeps = halts_row t may
  held_after (Raise t Empty) off may keeps = raised t Empty
  held_after (Raise t Taken) off may keeps = raised t Taken
  held_after (Raise t Appending) off may keeps = raised t Appending
  held_after (Raise t Closed) off may keeps = raised t Closed
  held_after (Raise t FreeingStage) off may keeps = raised t FreeingStage
  held_after (Raise t Gone) off may keeps = raised t Gone
  held_after (Doom t) off may keeps = same
  held_after (LoadSide t side) off may keeps = let n : ℕ = number_found k s v (LoadSide t side) in
      one t (loaded (tab_at v t) side n) (loaded_less side n (tab_at v t))
  held_after (StoreSide t side value) off may keeps = one t (stores (tab_at v t) side value) (stores_less side value (tab_at v t))
  held_after (LookMap t w) off may keeps = absurd off
  held_after (Own t slot) off may keeps = tries_row t slot keeps
  held_after (Disown t slot) off may keeps = one t (gives_back (tab_at v t) slot) (gives_back_less slot (tab_at v t))
  held_after (LogPiece t slot durable) off may keeps = one t (logs (tab_at v t) slot durable) (logs_less slot durable (tab_at v t))
  held_after (Publish t slot link) off may keeps = publishes_row t slot link may
  held_after (Loosen t slot) off may keeps = loosens_row t slot may keeps
  held_after (GetLink t slot) off may keeps = let n : ℕ = number_found k s v (GetLink t slot) in
      one t (looks (tab_at v t) n) (looks_less n (tab_at v t))
  held_after (TryTurn t slot) off may keeps = let n : ℕ = number_found k s v (TryTurn t slot) in
      let c = cell_found k s v (TryTurn t slot) in one t (tries (tab_at v t) slot n c) (tries_less slot n c (tab_at v t))
  held_after (EndTurn t slot then) off may keeps = one t (ends (tab_at v t) then) (ends_less then (tab_at v t))
  held_after (CellOut t slot) off may keeps = one t (moves (tab_at v t) true) (moves_less true (tab_at v t))
  held_after (CellIn t slot) off may keeps = one t (moves (tab_at v t) false) (moves_less false (tab_at v t))
  held_after Note off may keeps = same
  held_after (Learn note) off may keeps = same
  held_after (Write t slot outcome) off may keeps = let c = cell_found k s v (Write t slot outcome) in
      let b : Bool = settled_by_write (tab_at v t) outcome in
      one t (rewrites (tab_at v t) (is_kept outcome) b c) (rewrites_less (is_kept outcome) b c (tab_at v t))
  held_after (Sync t slot kept) off may keeps = let c = cell_found k s v (Sync t slot kept) in
      let b : Bool = settled_by_sync (tab_at v t) kept in
      one t (rewrites (tab_at v t) false b c) (rewrites_less false b c (tab_at v t))
