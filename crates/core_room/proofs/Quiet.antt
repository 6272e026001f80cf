-- A step that is no part of a search lets no search come further.
use Rattle.std.proofs.Common.{Bool, List, None, [], ap, arith, cond, false, refl, set, sum_by, true, ◌==◌, ◌∷◌, ◌≡◌, ◌≤◌, ℕ}
use Rattle.lock_word.specs.declared.stage.Stage.{Stage}
use Rattle.lock_word.specs.Words.{epoch_of, is_idle}
use Rattle.link_word.specs.declared.link.Link.{Link}
use Rattle.core_model.specs.declared.moves.Move.{Move}
use Rattle.core_model.specs.declared.moves.Move.TheVariants.{CellIn, CellOut, Count, Disown, Doom, Draw, EndTurn, Enter, Evict, GetLink, Learn, Leave, LoadSide, LogPiece, Look, LookMap, Loosen, Note, Own, Publish, Raise, StoreSide, Sync, Take, TryTurn, Write}
use Rattle.core_model.specs.declared.tab.Freer.{Freer}
use Rattle.core_model.specs.declared.tab.Tab.{Tab}
use Rattle.core_model.specs.declared.tab.Tab.TheVariants.{Free, Freeing, Last, Reading, Retreating, Writing}
use Rattle.core_model.specs.declared.tab.Writer.{Writer}
use Rattle.core_model.specs.declared.view.View.{View}
use Rattle.core_model.specs.Layout.{Setting}
use Rattle.core_model.specs.State.{State, chain_of, word}
use Rattle.core_model.specs.Trails.{last_find}
use Rattle.core_model.specs.Tabs.{anchor_of, inner, tab_at}
use Rattle.core_model.specs.AnchorMoves.{entered, freer_of, left_tab, raised_tab, writer_of}
use Rattle.core_model.specs.SlotMoves.{gives_back, loaded, looks, loosens, publishes, reserves, stores}
use Rattle.core_model.specs.CellMoves.{ends, is_kept, logs, moves, rewrites, settled_by_sync, settled_by_write, tries}
use Rattle.core_model.specs.Steps.{cell_found, finding, number_found}
use Rattle.core_model.specs.Table.{left_by, tabs_after}
use Rattle.core_room.proofs.Tabs.{Less, ends_less, entered_less, gives_back_less, left_less, loaded_less, logs_less, looks_less, moves_less, raised_less, rewrites_less, set_less, set_more, stores_less, tries_less}
use Rattle.core_room.specs.Room.{past, past_in}

-- a step that is no part of a search
abbrev pub IsNoSearch : Move → Type 0
IsNoSearch (LookMap t word) = ⊥
IsNoSearch (Own t slot) = ⊥
IsNoSearch m = Unit {0}

module _ {X : Type 0} where
  publishes_past : (slot : ℕ) (link : Link) (j : ℕ) (x : Tab X) → past_in j (publishes x slot link) ≤ past_in j x
  publishes_past slot link j Free = omega arith
  publishes_past slot link j (Retreating a) = omega arith
  publishes_past slot link j (Reading r) = omega arith
  publishes_past slot link j (Writing w) = omega arith
  publishes_past slot link j (Last a) = omega arith
  publishes_past slot link j (Freeing f) = omega arith

  loosens_past : (slots : List ℕ) (j : ℕ) (x : Tab X) → past_in j (loosens x slots) ≤ past_in j x
  loosens_past slots j Free = omega arith
  loosens_past slots j (Retreating a) = omega arith
  loosens_past slots j (Reading r) = omega arith
  loosens_past slots j (Writing w) = omega arith
  loosens_past slots j (Last a) = omega arith
  loosens_past slots j (Freeing f) = omega arith

  no_claim : (slot j : ℕ) (x : Tab X) → past_in j (reserves x slot) ≡ 0
  no_claim slot j Free = refl
  no_claim slot j (Retreating a) = refl
  no_claim slot j (Reading r) = refl
  no_claim slot j (Writing w) = refl
  no_claim slot j (Last a) = refl
  no_claim slot j (Freeing f) = refl

module _ {X : Type 0} (k : Setting X) (s : State X) (v : View X) where
  abbrev pub ComesNoFurther : Move → Type 0
  ComesNoFurther m = (j : ℕ) → sum_by (past_in j) (tabs_after v m (finding k s v m)) ≤ sum_by (past_in j) v.tabs

  same : (j : ℕ) → sum_by (past_in j) v.tabs ≤ sum_by (past_in j) v.tabs
  same j = omega arith

  one : (t : ℕ) (y : Tab X) → Less (tab_at v t) y → (j : ℕ) → sum_by (past_in j) (set v.tabs t y) ≤ sum_by (past_in j) v.tabs
  one t y less j = set_less (past_in j) refl v.tabs t y (less.past j)

  raised : (t : ℕ) (to : Stage) (j : ℕ)
      → sum_by (past_in j) (set v.tabs t (raised_tab (tab_at v t) to (left_by v (Raise t to) (number_found k s v (Raise t to)))))
      ≤ sum_by (past_in j) v.tabs
  raised t to = let n : ℕ = left_by v (Raise t to) (number_found k s v (Raise t to)) in
      one t (raised_tab (tab_at v t) to n) (raised_less to n (tab_at v t))

  taken_row : (hit idle : Bool) (t u : ℕ) (f : Freer X) (w : Writer X) → w.claim ≡ None → (j : ℕ)
      → sum_by (past_in j) (cond hit (set (cond idle (set v.tabs inner (Freeing f)) v.tabs) t (Writing w)) v.tabs)
      ≤ sum_by (past_in j) v.tabs
  taken_row false idle t u f w none j = omega arith
  taken_row true true t u f w none j = let x = set_more (past_in j) refl (set v.tabs inner (Freeing f)) t (Writing w) in
      let y = set_more (past_in j) refl v.tabs inner (Freeing f) in let z = ap (past j) none in omega arith
  taken_row true false t u f w none j = let x = set_more (past_in j) refl v.tabs t (Writing w) in let z = ap (past j) none in omega arith

  evicted_row : (hit : Bool) (t : ℕ) (f : Freer X) (j : ℕ)
      → sum_by (past_in j) (cond hit (set (set v.tabs t Free) inner (Freeing f)) (set v.tabs t Free)) ≤ sum_by (past_in j) v.tabs
  evicted_row true t f j = let x = set_more (past_in j) refl (set v.tabs t Free) inner (Freeing f) in
      let y = set_more (past_in j) refl v.tabs t Free in omega arith
  evicted_row false t f j = let y = set_more (past_in j) refl v.tabs t Free in omega arith

  loosens_row : (hit : Bool) (t slot j : ℕ)
      → sum_by (past_in j) (cond hit (set v.tabs inner (loosens (tab_at v inner) (slot ∷ [])))
      (set (set v.tabs inner (loosens (tab_at v inner) [])) t (reserves (tab_at v t) slot))) ≤ sum_by (past_in j) v.tabs
  loosens_row true t slot j =
      set_less (past_in j) refl v.tabs inner (loosens (tab_at v inner) (slot ∷ [])) (loosens_past (slot ∷ []) j (tab_at v inner))
  loosens_row false t slot j =
      let x = set_more (past_in j) refl (set v.tabs inner (loosens (tab_at v inner) [])) t (reserves (tab_at v t) slot) in
      let y = set_less (past_in j) refl v.tabs inner (loosens (tab_at v inner) []) (loosens_past [] j (tab_at v inner)) in
      let z = no_claim slot j (tab_at v t) in omega arith

  pub past_after : (m : Move) → IsNoSearch m → ComesNoFurther m
  past_after (Look a) off = same
  past_after (Enter t a) off = one t (entered a (epoch_of (word s a))) (entered_less (tab_at v t) a (epoch_of (word s a)))
  past_after (Leave t) off = let n : ℕ = left_by v (Leave t) (number_found k s v (Leave t)) in
      one t (left_tab (anchor_of (tab_at v t)) n) (left_less (tab_at v t) (anchor_of (tab_at v t)) n)
  past_after Count off = same
  past_after Draw off = same
  past_after (Take t a u) off =
      taken_row (word s a == last_find a v.trail) (is_idle (word s a)) t u (freer_of a false (word s a) (chain_of s a)) (writer_of a u) refl
  past_after (Evict t a) off = evicted_row (word s a == last_find a v.trail) t (freer_of a true (word s a) (chain_of s a))
  past_after (Raise t to) off = raised t to
  past_after (Doom t) off = same
  past_after (LoadSide t side) off = let n : ℕ = number_found k s v (LoadSide t side) in
      one t (loaded (tab_at v t) side n) (loaded_less side n (tab_at v t))
  past_after (StoreSide t side value) off = one t (stores (tab_at v t) side value) (stores_less side value (tab_at v t))
  past_after (LookMap t w) off = absurd off
  past_after (Own t slot) off = absurd off
  past_after (Disown t slot) off = one t (gives_back (tab_at v t) slot) (gives_back_less slot (tab_at v t))
  past_after (LogPiece t slot durable) off = one t (logs (tab_at v t) slot durable) (logs_less slot durable (tab_at v t))
  past_after (Publish t slot link) off = λ j.
      set_less (past_in j) refl v.tabs t (publishes (tab_at v t) slot link) (publishes_past slot link j (tab_at v t))
  past_after (Loosen t slot) off = loosens_row (t == inner) t slot
  past_after (GetLink t slot) off = let n : ℕ = number_found k s v (GetLink t slot) in
      one t (looks (tab_at v t) n) (looks_less n (tab_at v t))
  past_after (TryTurn t slot) off = let n : ℕ = number_found k s v (TryTurn t slot) in let c = cell_found k s v (TryTurn t slot) in
      one t (tries (tab_at v t) slot n c) (tries_less slot n c (tab_at v t))
  past_after (EndTurn t slot then) off = one t (ends (tab_at v t) then) (ends_less then (tab_at v t))
  past_after (CellOut t slot) off = one t (moves (tab_at v t) true) (moves_less true (tab_at v t))
  past_after (CellIn t slot) off = one t (moves (tab_at v t) false) (moves_less false (tab_at v t))
  past_after Note off = same
  past_after (Learn note) off = same
  past_after (Write t slot outcome) off = let c = cell_found k s v (Write t slot outcome) in
      let b : Bool = settled_by_write (tab_at v t) outcome in
      one t (rewrites (tab_at v t) (is_kept outcome) b c) (rewrites_less (is_kept outcome) b c (tab_at v t))
  past_after (Sync t slot kept) off = let c = cell_found k s v (Sync t slot kept) in let b : Bool = settled_by_sync (tab_at v t) kept in
      one t (rewrites (tab_at v t) false b c) (rewrites_less false b c (tab_at v t))
