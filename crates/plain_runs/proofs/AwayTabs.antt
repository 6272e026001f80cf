-- Where two tabs of a pass are after a step that one of them makes: the tab t and the inner one are at such anchors still, or free.
use Rattle.std.proofs.Common.{Bool, List, None, Option, cond, false, get_or, inl, inr, length, length-set, set, subst, suc, sym, true, zero, ◌∙◌, ◌∷◌, ◌≡◌, ◌⊎◌, ⊎_elim, [], ℕ}
use Rattle.std.specs.Prelude.{◌==◌, ◌&&◌, not}
use Rattle.link_word.specs.declared.link.Link.{Link}
use Rattle.link_word.specs.declared.link.Link.TheVariants.{NotWritten}
use Rattle.lock_word.specs.declared.stage.Stage.{Stage}
use Rattle.lock_word.specs.declared.stage.Stage.TheVariants.{Appending, Closed, Empty, Freeing as FreeingStage, Gone, Halted, Taken}
use Rattle.lock_word.specs.Words.{epoch_of, is_idle, is_left_over, is_readable, version_of}
use Rattle.core_model.specs.AnchorMoves.{entered, evicted_tabs, freer_of, left_tab, raised_tab, taken_tabs, writer_of}
use Rattle.core_model.specs.CellMoves.{ends, logs, tries}
use Rattle.core_model.specs.Chains.{without}
use Rattle.core_model.specs.SlotMoves.{gives_back, loaded, looks, publishes, reserves, stores}
use Rattle.core_model.specs.State.{Finding}
use Rattle.core_model.specs.Table.{left_by, tabs_after}
use Rattle.core_model.specs.Tabs.{OfFreer, OfWriter, anchor_of, inner, is_counted, is_reading, is_using, tab_at}
use Rattle.core_model.specs.Trails.{last_find}
use Rattle.core_model.specs.declared.moves.Move.{Move}
use Rattle.core_model.specs.declared.moves.Move.TheVariants.{CellIn, CellOut, Count, Disown, Doom, Draw, EndTurn, Enter, Evict, GetLink, Learn, Leave, LoadSide, LogPiece, Look, LookMap, Loosen, Note, Own, Publish, Raise, StoreSide, Sync, Take, TryTurn, Write}
use Rattle.core_model.specs.declared.moves.Side.{Side}
use Rattle.core_model.specs.declared.moves.Side.TheVariants.{Key0, Key1, Offer, Start}
use Rattle.core_model.specs.declared.moves.Then.{Then}
use Rattle.core_model.specs.declared.moves.Then.TheVariants.{GoesOn}
use Rattle.core_model.specs.declared.tab.Cell.{Cell}
use Rattle.core_model.specs.declared.tab.Freer.{Freer}
use Rattle.core_model.specs.declared.tab.Tab.{Tab}
use Rattle.core_model.specs.declared.tab.Tab.TheVariants.{Free, Freeing, Last, Reading, Retreating, Writing}
use Rattle.core_model.specs.declared.tab.Turn.TheVariants.{NoTurn}
use Rattle.core_model.specs.declared.tab.Writer.{Writer}
use Rattle.core_model.specs.declared.view.View.{View}

-- the tab is t, or the inner one
abbrev pub IsMine : (t : ℕ) → ℕ → Type 0
IsMine t u = (u ≡ t) ⊎ (u ≡ inner)

module _ (A : ℕ → Type 0) where
  -- the tab is free, or at such an anchor
  abbrev pub IsAtSuch : Tab (List ℕ) → Type 0
  IsAtSuch Free = Unit {0}
  IsAtSuch (Retreating a) = A a
  IsAtSuch (Reading r) = A r.anchor
  IsAtSuch (Writing w) = A w.anchor
  IsAtSuch (Last a) = A a
  IsAtSuch (Freeing f) = A f.anchor

  pub either_such : (b : Bool) (x y : Tab (List ℕ)) → IsAtSuch x → IsAtSuch y → IsAtSuch (cond b x y)
  either_such true x y h k = h
  either_such false x y h k = k

  -- What the tab is after a step: at the anchor that it came to, or at which it was.

  entered_such : (a e : ℕ) → A a → IsAtSuch (entered a e)
  entered_such a e h = either_such (is_readable e)
      (Reading record { anchor = a; version = version_of e; place = 0; slot = None; found = NotWritten; turn = NoTurn }) (Retreating a) h h

  left_such : (a n : ℕ) → A a → IsAtSuch (left_tab a n)
  left_such a n h = either_such (is_left_over n) (Last a) Free h tt

  pub counted_such : (x : Tab (List ℕ)) → is_counted x ≡ true → IsAtSuch x → A (anchor_of x)
  counted_such Free c h = cc
  counted_such (Retreating a) c h = h
  counted_such (Reading r) c h = h
  counted_such (Writing w) c h = cc
  counted_such (Last a) c h = cc
  counted_such (Freeing f) c h = cc

  pub reading_such : (x : Tab (List ℕ)) → is_reading x ≡ true → IsAtSuch x → A (anchor_of x)
  reading_such Free c h = cc
  reading_such (Retreating a) c h = cc
  reading_such (Reading r) c h = h
  reading_such (Writing w) c h = cc
  reading_such (Last a) c h = cc
  reading_such (Freeing f) c h = cc

  pub using_such : (x : Tab (List ℕ)) → is_using x ≡ true → IsAtSuch x → A (anchor_of x)
  using_such Free c h = cc
  using_such (Retreating a) c h = cc
  using_such (Reading r) c h = h
  using_such (Writing w) c h = h
  using_such (Last a) c h = cc
  using_such (Freeing f) c h = h

  pub writing_such : (P : Writer (List ℕ) → Type 0) (x : Tab (List ℕ)) → OfWriter P x → IsAtSuch x → A (anchor_of x)
  writing_such P Free o h = absurd o
  writing_such P (Retreating a) o h = absurd o
  writing_such P (Reading r) o h = absurd o
  writing_such P (Writing w) o h = h
  writing_such P (Last a) o h = absurd o
  writing_such P (Freeing f) o h = absurd o

  pub raising_such : (P : Writer (List ℕ) → Type 0) (Q : Freer (List ℕ) → Type 0) (x : Tab (List ℕ)) → OfWriter P x ⊎ OfFreer Q x
      → IsAtSuch x → A (anchor_of x)
  raising_such P Q Free o h = absurd (⊎_elim (λ (z : ⊥). z) (λ (z : ⊥). z) o)
  raising_such P Q (Retreating a) o h = absurd (⊎_elim (λ (z : ⊥). z) (λ (z : ⊥). z) o)
  raising_such P Q (Reading r) o h = absurd (⊎_elim (λ (z : ⊥). z) (λ (z : ⊥). z) o)
  raising_such P Q (Writing w) o h = h
  raising_such P Q (Last a) o h = absurd (⊎_elim (λ (z : ⊥). z) (λ (z : ⊥). z) o)
  raising_such P Q (Freeing f) o h = h

  -- raised from an anchor where the tab is
  raised_such : (to : Stage) (n : ℕ) (x : Tab (List ℕ)) → A (anchor_of x) → IsAtSuch (raised_tab x to n)
  raised_such to n Free h = left_such 0 n h
  raised_such to n (Retreating a) h = left_such a n h
  raised_such to n (Reading r) h = left_such r.anchor n h
  raised_such to n (Last a) h = left_such a n h
  raised_such to n (Freeing f) h = left_such f.anchor n h
  raised_such Empty n (Writing w) h = left_such w.anchor n h
  raised_such Taken n (Writing w) h = left_such w.anchor n h
  raised_such Closed n (Writing w) h = left_such w.anchor n h
  raised_such Halted n (Writing w) h = left_such w.anchor n h
  raised_such FreeingStage n (Writing w) h = left_such w.anchor n h
  raised_such Gone n (Writing w) h = left_such w.anchor n h
  raised_such Appending n (Writing w) h = h

  loaded_such : (side : Side) (n : ℕ) (x : Tab (List ℕ)) → IsAtSuch x → IsAtSuch (loaded x side n)
  loaded_such Key0 n (Reading r) h = h
  loaded_such Key1 n (Reading r) h = h
  loaded_such Offer n (Reading r) h = h
  loaded_such Start n (Reading r) h = h
  loaded_such side n x h = h

  stores_such : (side : Side) (n : ℕ) (x : Tab (List ℕ)) → IsAtSuch x → IsAtSuch (stores x side n)
  stores_such Key0 n (Writing w) h = h
  stores_such Key1 n (Writing w) h = h
  stores_such Offer n (Writing w) h = h
  stores_such Start n (Writing w) h = h
  stores_such side n x h = h

  pub reserves_such : (slot : ℕ) (x : Tab (List ℕ)) → IsAtSuch x → IsAtSuch (reserves x slot)
  reserves_such slot (Writing w) h = h
  reserves_such slot x h = h

  gives_back_such : (slot : ℕ) (x : Tab (List ℕ)) → IsAtSuch x → IsAtSuch (gives_back x slot)
  gives_back_such slot (Writing w) h = h
  gives_back_such slot (Freeing f) h = either_such ((length f.rest == 0) && (length (without slot f.loose) == 0) && not f.is_freeing) Free
      (Freeing record f { loose = without slot f.loose }) tt h
  gives_back_such slot x h = h

  logs_such : (slot : ℕ) (durable : Bool) (x : Tab (List ℕ)) → IsAtSuch x → IsAtSuch (logs x slot durable)
  logs_such slot durable (Writing w) h = h
  logs_such slot durable x h = h

  publishes_such : (slot : ℕ) (link : Link) (x : Tab (List ℕ)) → IsAtSuch x → IsAtSuch (publishes x slot link)
  publishes_such slot link (Writing w) h = h
  publishes_such slot link x h = h

  looks_such : (n : ℕ) (x : Tab (List ℕ)) → IsAtSuch x → IsAtSuch (looks x n)
  looks_such n (Reading r) h = h
  looks_such n (Freeing f) h = h
  looks_such n x h = h

  tries_such : (slot n : ℕ) (cell : Option (Cell (List ℕ))) (x : Tab (List ℕ)) → IsAtSuch x → IsAtSuch (tries x slot n cell)
  tries_such slot n cell (Reading r) h = h
  tries_such slot n cell (Writing w) h = h
  tries_such slot n cell (Freeing f) h = h
  tries_such slot n cell x h = h

  ends_such : (then : Then) (x : Tab (List ℕ)) → IsAtSuch x → IsAtSuch (ends x then)
  ends_such GoesOn (Reading r) h = h
  ends_such then (Reading r) h = h
  ends_such then (Writing w) h = h
  ends_such then (Freeing f) h = h
  ends_such then x h = h

  module _ (t : ℕ) where
    -- Of the nine tabs of a pass the tab t and the inner one are so.
    pub record TwoSuch (tabs : List (Tab (List ℕ))) : Type 0 where
      pub nine : length tabs ≡ 9
      pub tab : IsAtSuch (get_or tabs t Free)
      pub within : IsAtSuch (get_or tabs inner Free)

    pub mine_such : (tabs : List (Tab (List ℕ))) → TwoSuch tabs → (u : ℕ) → IsMine t u → IsAtSuch (get_or tabs u Free)
    mine_such tabs h u (inl e) = subst (λ (n : ℕ). IsAtSuch (get_or tabs n Free)) (sym e) h.tab
    mine_such tabs h u (inr e) = subst (λ (n : ℕ). IsAtSuch (get_or tabs n Free)) (sym e) h.within

    set_such : (tabs : List (Tab (List ℕ))) (u j : ℕ) (y : Tab (List ℕ)) → IsAtSuch y → IsAtSuch (get_or tabs j Free)
        → IsAtSuch (get_or (set tabs u y) j Free)
    set_such [] u j y h k = k
    set_such (x ∷ xs) zero zero y h k = h
    set_such (x ∷ xs) zero (suc j) y h k = k
    set_such (x ∷ xs) (suc u) zero y h k = k
    set_such (x ∷ xs) (suc u) (suc j) y h k = set_such xs u j y h k

    pub one_such : (tabs : List (Tab (List ℕ))) → TwoSuch tabs → (u : ℕ) (y : Tab (List ℕ)) → IsAtSuch y → TwoSuch (set tabs u y)
    one_such tabs all u y h = record {
      nine = length-set tabs u y ∙ all.nine;
      tab = set_such tabs u t y h all.tab;
      within = set_such tabs u inner y h all.within;
    }

    both_such : (b : Bool) (xs ys : List (Tab (List ℕ))) → TwoSuch xs → TwoSuch ys → TwoSuch (cond b xs ys)
    both_such true xs ys h k = h
    both_such false xs ys h k = k

    -- The step is made by one of the two, and what it comes to is so. Steps of which longer calls are made are none of these.
    abbrev pub Suits : Move → Type 0
    Suits (Look a) = Unit {0}
    Suits Count = Unit {0}
    Suits Draw = Unit {0}
    Suits (Enter u a) = IsMine t u × A a
    Suits (Take u a version) = IsMine t u × A a
    Suits (Evict u a) = IsMine t u × A a
    Suits (Leave u) = IsMine t u
    Suits (Raise u to) = IsMine t u
    Suits (Doom u) = IsMine t u
    Suits (LoadSide u side) = IsMine t u
    Suits (StoreSide u side value) = IsMine t u
    Suits (Disown u slot) = IsMine t u
    Suits (LogPiece u slot durable) = IsMine t u
    Suits (Publish u slot link) = IsMine t u
    Suits (GetLink u slot) = IsMine t u
    Suits (TryTurn u slot) = IsMine t u
    Suits (EndTurn u slot then) = IsMine t u
    Suits m = ⊥

    -- a tab that leaves an anchor, or raises it, is there
    abbrev pub LeavesSuch : View (List ℕ) → Move → Type 0
    LeavesSuch v (Leave u) = A (anchor_of (tab_at v u))
    LeavesSuch v (Raise u to) = A (anchor_of (tab_at v u))
    LeavesSuch v m = Unit {0}

    -- The two after such a step.
    module _ (v : View (List ℕ)) (x : Finding (List ℕ)) (all : TwoSuch v.tabs) where
      own : (u : ℕ) → IsMine t u → IsAtSuch (tab_at v u)
      own u mine = mine_such v.tabs all u mine

      pub tabs_such : (m : Move) → Suits m → LeavesSuch v m → TwoSuch (tabs_after v m x)
      tabs_such (Look a) h k = all
      tabs_such Count h k = all
      tabs_such Draw h k = all
      tabs_such (Enter u a) h k = one_such v.tabs all u (entered a (epoch_of x.word)) (entered_such a (epoch_of x.word) h.1)
      tabs_such (Take u a version) h k = both_such (x.word == last_find a v.trail) (taken_tabs v u a version x) v.tabs
          (one_such (cond (is_idle x.word) (set v.tabs inner (Freeing (freer_of a false x.word x.chain))) v.tabs)
          (both_such (is_idle x.word) (set v.tabs inner (Freeing (freer_of a false x.word x.chain))) v.tabs
          (one_such v.tabs all inner (Freeing (freer_of a false x.word x.chain)) h.1) all)
          u (Writing (writer_of a version)) h.1)
          all
      tabs_such (Evict u a) h k = both_such (x.word == last_find a v.trail) (evicted_tabs v u a x) (set v.tabs u Free)
          (one_such (set v.tabs u Free) (one_such v.tabs all u Free tt) inner (Freeing (freer_of a true x.word x.chain)) h.1)
          (one_such v.tabs all u Free tt)
      tabs_such (Leave u) h k = one_such v.tabs all u (left_tab (anchor_of (tab_at v u)) (left_by v (Leave u) x.word))
          (left_such (anchor_of (tab_at v u)) (left_by v (Leave u) x.word) k)
      tabs_such (Raise u to) h k = one_such v.tabs all u (raised_tab (tab_at v u) to (left_by v (Raise u to) x.word))
          (raised_such to (left_by v (Raise u to) x.word) (tab_at v u) k)
      tabs_such (Doom u) h k = all
      tabs_such (LoadSide u side) h k = one_such v.tabs all u (loaded (tab_at v u) side x.word)
          (loaded_such side x.word (tab_at v u) (own u h))
      tabs_such (StoreSide u side value) h k = one_such v.tabs all u (stores (tab_at v u) side value)
          (stores_such side value (tab_at v u) (own u h))
      tabs_such (LookMap u word) h k = absurd h
      tabs_such (Own u slot) h k = absurd h
      tabs_such (Disown u slot) h k = one_such v.tabs all u (gives_back (tab_at v u) slot) (gives_back_such slot (tab_at v u) (own u h))
      tabs_such (LogPiece u slot durable) h k = one_such v.tabs all u (logs (tab_at v u) slot durable)
          (logs_such slot durable (tab_at v u) (own u h))
      tabs_such (Publish u slot link) h k = one_such v.tabs all u (publishes (tab_at v u) slot link)
          (publishes_such slot link (tab_at v u) (own u h))
      tabs_such (Loosen u slot) h k = absurd h
      tabs_such (GetLink u slot) h k = one_such v.tabs all u (looks (tab_at v u) x.word) (looks_such x.word (tab_at v u) (own u h))
      tabs_such (TryTurn u slot) h k = one_such v.tabs all u (tries (tab_at v u) slot x.word x.cell)
          (tries_such slot x.word x.cell (tab_at v u) (own u h))
      tabs_such (EndTurn u slot then) h k = one_such v.tabs all u (ends (tab_at v u) then) (ends_such then (tab_at v u) (own u h))
      tabs_such (CellOut u slot) h k = absurd h
      tabs_such (CellIn u slot) h k = absurd h
      tabs_such Note h k = absurd h
      tabs_such (Learn note) h k = absurd h
      tabs_such (Write u slot outcome) h k = absurd h
      tabs_such (Sync u slot kept) h k = absurd h
