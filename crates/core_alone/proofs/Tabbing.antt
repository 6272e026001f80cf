-- Where the tabs of a pass are after a step of it, and which slots they have: at anchors at which it was, or to which it came.
use Rattle.std.proofs.Common.{◌≡◌, ◌≢◌, ◌⊎◌, ⊎_elim, ℕ, zero, suc, ◌-◌, List, [], ◌∷◌, ◌++◌, length, get_or, set, sym, refl, subst, Bool, true, false, not, cond, ◌==◌, ◌&&◌, Option, None, Contains, arith, eq-eqb, ne_eqb}
use Rattle.std.proofs.lemmas.List.Elements.{Contains-append_cases}
use mathlib.Core.Logic.{dite}
use mathlib.Core.Option.{some}
use native.Mathlib.Decide.{ℕ_discrete}
use lib.ListN.{get_elem?}
use Rattle.lock_word.specs.declared.stage.Stage.{Stage}
use Rattle.lock_word.specs.declared.stage.Stage.TheVariants.{Empty, Taken, Appending, Closed, Halted, Freeing as FreeingStage, Gone}
use Rattle.lock_word.specs.Words.{epoch_of, is_readable, is_idle, is_left_over, version_of}
use Rattle.link_word.specs.declared.link.Link.{Link}
use Rattle.link_word.specs.declared.link.Link.TheVariants.{NotWritten}
use Rattle.link_word.specs.Map.{taken_in}
use Rattle.core_model.specs.declared.moves.Side.{Side}
use Rattle.core_model.specs.declared.moves.Side.TheVariants.{Key0, Key1, Offer, Start}
use Rattle.core_model.specs.declared.moves.Move.{Move}
use Rattle.core_model.specs.declared.moves.Move.TheVariants.{Enter, Leave, Take, Evict, Raise, LoadSide, StoreSide, LookMap, Own, Disown, LogPiece, Publish, Loosen, GetLink, TryTurn, EndTurn, CellOut, CellIn, Write, Sync}
use Rattle.core_model.specs.declared.moves.Then.{Then}
use Rattle.core_model.specs.declared.moves.Then.TheVariants.{GoesOn}
use Rattle.core_model.specs.declared.tab.Cell.{Cell}
use Rattle.core_model.specs.declared.tab.Writer.{Writer}
use Rattle.core_model.specs.declared.tab.Freer.{Freer}
use Rattle.core_model.specs.declared.tab.Tab.{Tab}
use Rattle.core_model.specs.declared.tab.Tab.TheVariants.{Free, Retreating, Reading, Writing, Last, Freeing}
use Rattle.core_model.specs.declared.tab.Turn.TheVariants.{NoTurn}
use Rattle.core_model.specs.declared.view.View.{View}
use Rattle.core_model.specs.Layout.{Setting}
use Rattle.core_model.specs.State.{State, word, chain_of}
use Rattle.core_model.specs.Trails.{last_find}
use Rattle.core_model.specs.Chains.{rest_of, without}
use Rattle.core_model.specs.SlotMoves.{loaded, stores, searches, reserves, misses, gives_back, publishes, loosens, looks}
use Rattle.core_model.specs.CellMoves.{logs, tries, ends, moves, is_kept, rewrites, settled_by_write, settled_by_sync}
use Rattle.core_model.specs.Table.{tabs_after, left_by, Allowed}
use Rattle.core_model.specs.AnchorMoves.{entered, left_tab, writer_of, freer_of, raised_tab, taken_tabs, evicted_tabs, MayEnd, MayRaise, StartsRight}
use Rattle.core_model.specs.declared.chain.Chain.{Chain}
use Rattle.core_model.specs.Tabs.{tab_at, inner, anchor_of, is_counted, OfWriter, OfFreer}
use Rattle.core_model.specs.Steps.{number_found, cell_found, finding}
use Rattle.core_model.proofs.Lists.{at_set, contains_none}
use Rattle.core_model.proofs.Tabs.{in_without}

rest_contains : (xs : List ℕ) (x : ℕ) → Contains (rest_of xs) x → Contains xs x
rest_contains [] x c = c
rest_contains (y ∷ ys) x c = (suc c.0, (let z = c.1 in omega arith), c.2)

module _ {X : Type 0} (A : ℕ → Type 0) (B : ℕ → ℕ → Type 0) where
  -- A holds of the anchor where the tab is, and B of that anchor with each slot that the tab has reserved or has yet to take out of a chain
  abbrev pub TabHas : Tab X → Type 0
  TabHas Free = Unit {0}
  TabHas (Retreating a) = A a
  TabHas (Reading r) = A r.anchor
  TabHas (Writing w) = A w.anchor × ((slot : ℕ) → Contains w.reserved slot → B w.anchor slot)
  TabHas (Last a) = A a
  TabHas (Freeing f) = A f.anchor × ((slot : ℕ) → Contains f.rest slot → B f.anchor slot)

  either_has : (b : Bool) (x y : Tab X) → TabHas x → TabHas y → TabHas (cond b x y)
  either_has true x y h j = h
  either_has false x y h j = j

-- B holds of the anchor with each slot of this chain
abbrev pub ChainHas : (B : ℕ → ℕ → Type 0) → Chain → ℕ → Type 0
ChainHas B c a = (slot : ℕ) → Contains (c.slots ++ c.tail) slot → B a slot

module _ (X : Type 0) (A : ℕ → Type 0) (B : ℕ → ℕ → Type 0) where
  freer_has : (a n : ℕ) (b : Bool) (c : Chain) → A a → ChainHas B c a → TabHas {X = X} A B (Freeing (freer_of a b n c))
  freer_has a n b c h g = (h, g)

  writer_has : (a version : ℕ) → A a → TabHas {X = X} A B (Writing (writer_of a version))
  writer_has a version h = (h, λ slot c. absurd (contains_none slot c))

  entered_has : (a e : ℕ) → A a → TabHas {X = X} A B (entered a e)
  entered_has a e h = either_has A B (is_readable e)
      (Reading record { anchor = a; version = version_of e; place = 0; slot = None; found = NotWritten; turn = NoTurn }) (Retreating a) h h

  left_has : (a n : ℕ) → A a → TabHas {X = X} A B (left_tab a n)
  left_has a n h = either_has A B (is_left_over n) (Last a) Free h tt

module _ {X : Type 0} (A : ℕ → Type 0) (B : ℕ → ℕ → Type 0) where
  counted_has : (n : ℕ) (x : Tab X) → is_counted x ≡ true → TabHas A B x → TabHas {X = X} A B (left_tab (anchor_of x) n)
  counted_has n Free c h = cc
  counted_has n (Retreating a) c h = left_has X A B a n h
  counted_has n (Reading r) c h = left_has X A B r.anchor n h
  counted_has n (Writing w) c h = cc
  counted_has n (Last a) c h = cc
  counted_has n (Freeing f) c h = cc

  raised_has : (to : Stage) (n : ℕ) (x : Tab X) → (P : Writer X → Type 0) (Q : Freer X → Type 0) → OfWriter P x ⊎ OfFreer Q x → TabHas A B x
      → TabHas {X = X} A B (raised_tab x to n)
  raised_has to n Free P Q o h = absurd (⊎_elim (λ (z : ⊥). z) (λ (z : ⊥). z) o)
  raised_has to n (Retreating b) P Q o h = absurd (⊎_elim (λ (z : ⊥). z) (λ (z : ⊥). z) o)
  raised_has to n (Reading r) P Q o h = absurd (⊎_elim (λ (z : ⊥). z) (λ (z : ⊥). z) o)
  raised_has to n (Last b) P Q o h = absurd (⊎_elim (λ (z : ⊥). z) (λ (z : ⊥). z) o)
  raised_has to n (Freeing f) P Q o h = left_has X A B f.anchor n h.0
  raised_has Empty n (Writing w) P Q o h = left_has X A B w.anchor n h.0
  raised_has Taken n (Writing w) P Q o h = left_has X A B w.anchor n h.0
  raised_has Closed n (Writing w) P Q o h = left_has X A B w.anchor n h.0
  raised_has Halted n (Writing w) P Q o h = left_has X A B w.anchor n h.0
  raised_has FreeingStage n (Writing w) P Q o h = left_has X A B w.anchor n h.0
  raised_has Gone n (Writing w) P Q o h = left_has X A B w.anchor n h.0
  raised_has Appending n (Writing w) P Q o h = h

  loaded_has : (side : Side) (n : ℕ) (x : Tab X) → TabHas A B x → TabHas A B (loaded x side n)
  loaded_has Key0 n (Reading r) h = h
  loaded_has Key1 n (Reading r) h = h
  loaded_has Offer n (Reading r) h = h
  loaded_has Start n (Reading r) h = h
  loaded_has side n x h = h

  stores_has : (side : Side) (n : ℕ) (x : Tab X) → TabHas A B x → TabHas A B (stores x side n)
  stores_has Key0 n (Writing w) h = h
  stores_has Key1 n (Writing w) h = h
  stores_has Offer n (Writing w) h = h
  stores_has Start n (Writing w) h = h
  stores_has side n x h = h

  -- a slot more is reserved, of which B holds wherever it is
  reserves_has : (slot : ℕ) → ((a : ℕ) → B a slot) → (x : Tab X) → TabHas A B x → TabHas A B (reserves x slot)
  reserves_has slot new (Writing w) h =
      (h.0, λ y c. ⊎_elim (λ q. h.1 y q) (λ q. one_more y q) (Contains-append_cases w.reserved (slot ∷ []) y c))
    where
      one_more : (y : ℕ) → Contains (slot ∷ []) y → B w.anchor y
      one_more y (zero, lt, e) = subst (B w.anchor) e (new w.anchor)
      one_more y (suc j, lt, e) = absurd (omega arith)
  reserves_has slot new x h = h

  gives_back_has : (slot : ℕ) (x : Tab X) → TabHas A B x → TabHas A B (gives_back x slot)
  gives_back_has slot (Writing w) h = (h.0, λ y c. h.1 y ((in_without slot y w.reserved c).0))
  gives_back_has slot (Freeing f) h = either_has A B ((length f.rest == 0) && (length (without slot f.loose) == 0) && not f.is_freeing) Free
      (Freeing record f { loose = without slot f.loose }) tt h
  gives_back_has slot x h = h

  searches_has : (word n : ℕ) (x : Tab X) → TabHas A B x → TabHas A B (searches x word n)
  searches_has word n (Writing w) h = h
  searches_has word n x h = h

  misses_has : (slot n : ℕ) (x : Tab X) → TabHas A B x → TabHas A B (misses x slot n)
  misses_has slot n (Writing w) h = h
  misses_has slot n x h = h

  logs_has : (slot : ℕ) (durable : Bool) (x : Tab X) → TabHas A B x → TabHas A B (logs x slot durable)
  logs_has slot durable (Writing w) h = h
  logs_has slot durable x h = h

  publishes_has : (slot : ℕ) (link : Link) (x : Tab X) → TabHas A B x → TabHas A B (publishes x slot link)
  publishes_has slot link (Writing w) h = (h.0, λ y c. h.1 y (rest_contains w.reserved y c))
  publishes_has slot link x h = h

  loosens_has : (slots : List ℕ) (x : Tab X) → TabHas A B x → TabHas A B (loosens x slots)
  loosens_has slots (Freeing f) h = (h.0, λ y c. h.1 y (rest_contains f.rest y c))
  loosens_has slots x h = h

  looks_has : (n : ℕ) (x : Tab X) → TabHas A B x → TabHas A B (looks x n)
  looks_has n (Reading r) h = h
  looks_has n x h = h

  tries_has : (slot n : ℕ) (cell : Option (Cell X)) (x : Tab X) → TabHas A B x → TabHas A B (tries x slot n cell)
  tries_has slot n cell (Reading r) h = h
  tries_has slot n cell x h = h

  ends_has : (then : Then) (x : Tab X) → TabHas A B x → TabHas A B (ends x then)
  ends_has GoesOn (Reading r) h = h
  ends_has then (Freeing f) h = h
  ends_has then x h = h

  moves_has : (out : Bool) (x : Tab X) → TabHas A B x → TabHas A B (moves x out)
  moves_has out (Reading r) h = h
  moves_has out x h = h

  rewrites_has : (kept settled : Bool) (cell : Option (Cell X)) (x : Tab X) → TabHas A B x → TabHas A B (rewrites x kept settled cell)
  rewrites_has kept settled cell (Writing w) h = h
  rewrites_has kept settled cell x h = h

  abbrev pub TabsHave : List (Tab X) → Type 0
  TabsHave tabs = (t : ℕ) (x : Tab X) → get_elem? tabs t ≡ some x → TabHas A B x

  pub has_there : (tabs : List (Tab X)) (t : ℕ) → TabsHave tabs → TabHas A B (get_or tabs t Free)
  has_there [] t h = tt
  has_there (x ∷ xs) zero h = h 0 x refl
  has_there (x ∷ xs) (suc t) h = has_there xs t (λ u y e. h (suc u) y e)

  pub one_has : (tabs : List (Tab X)) → TabsHave tabs → (t : ℕ) (y : Tab X) → TabHas A B y → TabsHave (set tabs t y)
  one_has tabs g t y h u x e = ⊎_elim
      (λ (q : (u ≡ t) × (y ≡ x)). subst (λ (z : Tab X). TabHas A B z) q.1 h)
      (λ (q : (u ≢ t) × (get_elem? tabs u ≡ some x)). g u x q.1)
      (at_set tabs t u y x e)

  all_either : (b : Bool) (xs ys : List (Tab X)) → TabsHave xs → TabsHave ys → TabsHave (cond b xs ys)
  all_either true xs ys g h = g
  all_either false xs ys g h = h

  -- The tabs of a pass after a step: what a step comes to is so, a slot that it reserves is, and so are those of a chain that it takes.
  module _ (k : Setting X) (s : State X) (v : View X) (all : TabsHave v.tabs) where
    has_at : (t : ℕ) → TabHas A B (tab_at v t)
    has_at t = has_there v.tabs t all

    -- what has to hold of what comes anew
    abbrev pub News : Move → Type 0
    News (Enter t a) = A a
    News (Take t a version) = A a × ChainHas B (chain_of s a) a
    News (Evict t a) = A a × ChainHas B (chain_of s a) a
    News (Own t slot) = taken_in (number_found k s v (Own t slot)) slot ≡ 0 → (a : ℕ) → B a slot
    News (Loosen t slot) = (a : ℕ) → B a slot
    News m = Unit {0}

    -- a slot whose bit was clear is reserved, and one whose bit was set is not
    owns_has : (n slot t : ℕ) → (taken_in n slot ≡ 0 → (a : ℕ) → B a slot)
        → TabHas A B (cond (taken_in n slot == 0) (reserves (tab_at v t) slot) (misses (tab_at v t) slot n))
    owns_has n slot t new = dite (ℕ_discrete (taken_in n slot) 0)
        (λ e. subst (λ (b : Bool). TabHas A B (cond b (reserves (tab_at v t) slot) (misses (tab_at v t) slot n)))
        (sym (eq-eqb (taken_in n slot) 0 e)) (reserves_has slot (new e) (tab_at v t) (has_at t)))
        (λ ne. subst (λ (b : Bool). TabHas A B (cond b (reserves (tab_at v t) slot) (misses (tab_at v t) slot n)))
        (sym (ne_eqb (taken_in n slot) 0 ne)) (misses_has slot n (tab_at v t) (has_at t)))

    pub tabs_have : (m : Move) → Allowed k s v m → News m → TabsHave (tabs_after v m (finding k s v m))
    tabs_have (Enter t a) may new = one_has v.tabs all t (entered a (epoch_of (word s a))) (entered_has X A B a (epoch_of (word s a)) new)
    tabs_have (Leave t) may new = one_has v.tabs all t (left_tab (anchor_of (tab_at v t)) (word s (anchor_of (tab_at v t)) - 1))
        (counted_has (word s (anchor_of (tab_at v t)) - 1) (tab_at v t) may.1 (has_at t))
    tabs_have (Take t a u) may new = all_either (word s a == last_find a v.trail) (taken_tabs v t a u (finding k s v (Take t a u))) v.tabs
        (one_has (cond (is_idle (word s a)) (set v.tabs inner (Freeing (freer_of a false (word s a) (chain_of s a)))) v.tabs)
        (all_either (is_idle (word s a)) (set v.tabs inner (Freeing (freer_of a false (word s a) (chain_of s a)))) v.tabs
        (one_has v.tabs all inner (Freeing (freer_of a false (word s a) (chain_of s a)))
        (freer_has X A B a (word s a) false (chain_of s a) new.0 new.1)) all)
        t (Writing (writer_of a u)) (writer_has X A B a u new.0))
        all
    tabs_have (Evict t a) may new =
        all_either (word s a == last_find a v.trail) (evicted_tabs v t a (finding k s v (Evict t a))) (set v.tabs t Free)
        (one_has (set v.tabs t Free) (one_has v.tabs all t Free tt) inner (Freeing (freer_of a true (word s a) (chain_of s a)))
        (freer_has X A B a (word s a) true (chain_of s a) new.0 new.1))
        (one_has v.tabs all t Free tt)
    tabs_have (Raise t to) may new =
        one_has v.tabs all t (raised_tab (tab_at v t) to (left_by v (Raise t to) (word s (anchor_of (tab_at v t)))))
        (raised_has to (left_by v (Raise t to) (word s (anchor_of (tab_at v t)))) (tab_at v t) (λ w. MayRaise w to × StartsRight k s w)
        (λ f. MayEnd f to) may.1 (has_at t))
    tabs_have (LoadSide t side) may new = one_has v.tabs all t (loaded (tab_at v t) side (number_found k s v (LoadSide t side)))
        (loaded_has side (number_found k s v (LoadSide t side)) (tab_at v t) (has_at t))
    tabs_have (StoreSide t side value) may new =
        one_has v.tabs all t (stores (tab_at v t) side value) (stores_has side value (tab_at v t) (has_at t))
    tabs_have (LookMap t place) may new = one_has v.tabs all t (searches (tab_at v t) place (number_found k s v (LookMap t place)))
        (searches_has place (number_found k s v (LookMap t place)) (tab_at v t) (has_at t))
    tabs_have (Own t slot) may new = one_has v.tabs all t
        (cond (taken_in (number_found k s v (Own t slot)) slot == 0) (reserves (tab_at v t) slot)
        (misses (tab_at v t) slot (number_found k s v (Own t slot))))
        (owns_has (number_found k s v (Own t slot)) slot t new)
    tabs_have (Disown t slot) may new = one_has v.tabs all t (gives_back (tab_at v t) slot) (gives_back_has slot (tab_at v t) (has_at t))
    tabs_have (LogPiece t slot durable) may new =
        one_has v.tabs all t (logs (tab_at v t) slot durable) (logs_has slot durable (tab_at v t) (has_at t))
    tabs_have (Publish t slot link) may new =
        one_has v.tabs all t (publishes (tab_at v t) slot link) (publishes_has slot link (tab_at v t) (has_at t))
    tabs_have (Loosen t slot) may new = all_either (t == inner) (set v.tabs inner (loosens (tab_at v inner) (slot ∷ [])))
        (set (set v.tabs inner (loosens (tab_at v inner) [])) t (reserves (tab_at v t) slot))
        (one_has v.tabs all inner (loosens (tab_at v inner) (slot ∷ [])) (loosens_has (slot ∷ []) (tab_at v inner) (has_at inner)))
        (one_has (set v.tabs inner (loosens (tab_at v inner) []))
        (one_has v.tabs all inner (loosens (tab_at v inner) []) (loosens_has [] (tab_at v inner) (has_at inner)))
        t (reserves (tab_at v t) slot) (reserves_has slot new (tab_at v t) (has_at t)))
    tabs_have (GetLink t slot) may new = one_has v.tabs all t (looks (tab_at v t) (number_found k s v (GetLink t slot)))
        (looks_has (number_found k s v (GetLink t slot)) (tab_at v t) (has_at t))
    tabs_have (TryTurn t slot) may new = one_has v.tabs all t
        (tries (tab_at v t) slot (number_found k s v (TryTurn t slot)) (cell_found k s v (TryTurn t slot)))
        (tries_has slot (number_found k s v (TryTurn t slot)) (cell_found k s v (TryTurn t slot)) (tab_at v t) (has_at t))
    tabs_have (EndTurn t slot then) may new = one_has v.tabs all t (ends (tab_at v t) then) (ends_has then (tab_at v t) (has_at t))
    tabs_have (CellOut t slot) may new = one_has v.tabs all t (moves (tab_at v t) true) (moves_has true (tab_at v t) (has_at t))
    tabs_have (CellIn t slot) may new = one_has v.tabs all t (moves (tab_at v t) false) (moves_has false (tab_at v t) (has_at t))
    tabs_have (Write t slot outcome) may new = one_has v.tabs all t
        (rewrites (tab_at v t) (is_kept outcome) (settled_by_write (tab_at v t) outcome) (cell_found k s v (Write t slot outcome)))
        (rewrites_has (is_kept outcome) (settled_by_write (tab_at v t) outcome) (cell_found k s v (Write t slot outcome)) (tab_at v t)
        (has_at t))
    tabs_have (Sync t slot kept) may new =
        one_has v.tabs all t (rewrites (tab_at v t) false (settled_by_sync (tab_at v t) kept) (cell_found k s v (Sync t slot kept)))
        (rewrites_has false (settled_by_sync (tab_at v t) kept) (cell_found k s v (Sync t slot kept)) (tab_at v t) (has_at t))
    tabs_have m may new = all
