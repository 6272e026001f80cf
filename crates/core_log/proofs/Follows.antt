-- What a step makes of a tab that writes, as far as its version, its chain and its choice go.
use Rattle.std.proofs.Common.{◌≡◌, ◌≢◌, ◌⊎◌, inl, inr, ⊎_elim, ℕ, ◌-◌, List, [], ◌∷◌, ◌++◌, length, get_or, set, sym, refl, ap, ◌∙◌, subst, Bool, true, false, not, cond, ◌==◌, ◌&&◌, Option, Some, None, Contains, ◌*◌}
use Rattle.std.proofs.lemmas.Bool.{false≢true}
use mathlib.Core.Option.{some}
use lib.ListN.{get_elem?}
use Rattle.lock_word.specs.declared.stage.Stage.{Stage}
use Rattle.lock_word.specs.declared.stage.Stage.TheVariants.{Empty, Taken, Appending, Closed, Halted, Freeing as FreeingStage, Gone}
use Rattle.lock_word.specs.Words.{epoch_of, version_of, is_readable, is_idle, is_left_over}
use Rattle.link_word.specs.declared.link.Link.{Link}
use Rattle.link_word.specs.declared.link.Link.TheVariants.{NotWritten}
use Rattle.core_model.specs.declared.moves.Side.{Side}
use Rattle.core_model.specs.declared.moves.Side.TheVariants.{Key0, Key1, Offer, Start}
use Rattle.core_model.specs.declared.moves.Move.{Move}
use Rattle.core_model.specs.declared.moves.Move.TheVariants.{Look, Enter, Leave, Count, Draw, Take, Evict, Raise, Doom, LoadSide, StoreSide, Own, Disown, Publish, Loosen, GetLink, TryTurn, EndTurn, CellOut, CellIn, Note, Learn, Write, Sync, LookMap, LogPiece}
use Rattle.core_model.specs.declared.moves.Then.{Then}
use Rattle.core_model.specs.declared.moves.Then.TheVariants.{Stays, Wiped}
use Rattle.core_model.specs.declared.tab.Cell.{Cell}
use Rattle.core_model.specs.declared.tab.Piece.{Piece}
use Rattle.core_model.specs.declared.tab.Turn.TheVariants.{NoTurn}
use Rattle.core_model.specs.declared.tab.Writer.{Writer}
use Rattle.core_model.specs.declared.tab.Freer.{Freer}
use Rattle.core_model.specs.declared.tab.Tab.{Tab}
use Rattle.core_model.specs.declared.tab.Tab.TheVariants.{Free, Retreating, Reading, Writing, Last, Freeing}
use Rattle.core_model.specs.declared.view.View.{View}
use Rattle.core_model.specs.Layout.{Setting}
use Rattle.core_model.specs.State.{State, word, chain_of}
use Rattle.core_model.specs.Trails.{last_find}
use Rattle.core_model.specs.Tabs.{tab_at, inner, anchor_of, OfWriter}
use Rattle.core_model.specs.Steps.{number_found, cell_found, finding}
use Rattle.core_model.specs.AnchorMoves.{entered, left_tab, writer_of, freer_of, raised_tab, taken_tabs, evicted_tabs}
use Rattle.core_model.specs.Chains.{rest_of, without}
use Rattle.core_model.specs.SlotMoves.{loaded, stores, reserves, gives_back, publishes, loosens, looks, MayPublish, MayStore, searches, misses, goes_past, begun_at}
use Rattle.core_model.specs.CellMoves.{piece_of, turn_with, tries, was_written, ends, moved, moves, is_kept, rewritten, rewrites, was_settled, settled_by_write, settled_by_sync, MayLog, logs}
use Rattle.core_model.specs.Table.{tabs_after, left_by, Allowed}
use Rattle.core_model.proofs.Lists.{at_set, at_or}
use Rattle.link_word.specs.Map.{taken_in}

none_some : (p : Piece) → None ≡ Some p → ⊥
none_some p e = cc

first_stays : (xs : List ℕ) (y slot : ℕ) → xs ≡ y ∷ rest_of xs → xs ++ slot ∷ [] ≡ y ∷ rest_of (xs ++ slot ∷ [])
first_stays [] y slot e = absurd (cc)
first_stays (x ∷ xs) y slot e = ap (λ z. z ∷ (xs ++ slot ∷ [])) (head e)
  where
    head : x ∷ xs ≡ y ∷ xs → x ≡ y
    head e = cc

module _ {X : Type 0} (k : Setting X) (s : State X) (v : View X) where
  -- it begins, with a version that the pass held
  pub record Begins (x : Writer X) : Type 0 where
    pub held : Contains v.held x.version
    pub none : x.chosen ≡ None

  -- it has the piece that it had chosen, logged for the same slot
  abbrev pub SameChoice : Writer X → Writer X → Type 0
  SameChoice w x = (x.chosen ≡ w.chosen) × (x.logged_in ≡ w.logged_in) × (x.is_durable ≡ w.is_durable)

  -- it logs its next piece, and chooses it so
  pub record LogsNow (m : Move) (u : ℕ) (w x : Writer X) : Type 0 where
    pub slot : ℕ
    pub is_durable : Bool
    pub logs_it : m ≡ LogPiece u slot is_durable
    pub is : x ≡ record w { chosen = Some (piece_of w); logged_in = Some slot; is_durable = is_durable; is_written = false; is_settled = false }

  -- It goes on: version, offer and chain stay, and so does the choice, if it does not log a piece now. The first reserved slot stays unless one was
  -- given back.
  pub record GoesOn (m : Move) (u : ℕ) (w x : Writer X) : Type 0 where
    pub names : (x.anchor ≡ w.anchor) × (x.key0 ≡ w.key0) × (x.key1 ≡ w.key1)
    pub offer : x.offer ≡ w.offer
    pub published : x.published ≡ w.published
    pub end : x.end ≡ w.end
    pub going : x.is_ending ≡ false → w.is_ending ≡ false
    pub first : x.is_ending ≡ false → (slot : ℕ) → w.reserved ≡ slot ∷ rest_of w.reserved → x.reserved ≡ slot ∷ rest_of x.reserved
    pub chosen : SameChoice w x ⊎ ((w.chosen ≡ None) × LogsNow m u w x)

  -- it stores a name, before it chose a piece or published one
  pub record Stores (w : Writer X) : Type 0 where
    pub none : w.chosen ≡ None
    pub nothing : w.published ≡ []

  -- it publishes the piece that it chose
  pub record PublishesNow (w x : Writer X) : Type 0 where
    pub slot : ℕ
    pub first : w.reserved ≡ slot ∷ rest_of w.reserved
    pub goes_on : w.is_ending ≡ false
    pub piece : Piece
    pub chosen : w.chosen ≡ Some piece
    pub link : Link
    pub link_is : piece.next ≡ link
    pub is : x ≡ record w { reserved = rest_of w.reserved; chosen = None; logged_in = None; is_durable = false; is_written = false; is_settled = false; published = w.published ++ slot ∷ []; end = link }

  pub record Continues (m : Move) (u : ℕ) (old : Tab X) (x : Writer X) : Type 0 where
    pub writer : Writer X
    pub is : old ≡ Writing writer
    pub version : x.version ≡ writer.version
    pub how : GoesOn m u writer x ⊎ (Stores writer ⊎ PublishesNow writer x)

  abbrev pub Follow : Move → ℕ → Tab X → Tab X → Type 0
  Follow m u old (Writing x) = Begins x ⊎ Continues m u old x
  Follow m u old _ = Unit {0}

  same : (m : Move) (u : ℕ) (w x : Writer X) → (x.anchor ≡ w.anchor) × (x.key0 ≡ w.key0) × (x.key1 ≡ w.key1) → x.version ≡ w.version → x.offer ≡ w.offer → x.published ≡ w.published → x.end ≡ w.end → x.is_ending ≡ w.is_ending → SameChoice w x
      → ((slot : ℕ) → w.reserved ≡ slot ∷ rest_of w.reserved → x.reserved ≡ slot ∷ rest_of x.reserved) → Follow m u (Writing w) (Writing x)
  same m u w x n a b c d e f g = inr record { writer = w; is = refl; version = a; how = inl record { names = n; offer = b; published = c; end = d; going = λ z. sym e ∙ z; first = λ z. g; chosen = inl f } }

  itself : (m : Move) (u : ℕ) (x : Tab X) → Follow m u x x
  itself m u Free = tt
  itself m u (Retreating b) = tt
  itself m u (Reading r) = tt
  itself m u (Writing w) = same m u w w (refl, refl, refl) refl refl refl refl refl (refl, refl, refl) (λ slot e. e)
  itself m u (Last b) = tt
  itself m u (Freeing f) = tt

  entered_goes : (m : Move) (u : ℕ) (x : Tab X) (a e : ℕ) (b : Bool) → Follow m u x (cond b (Reading record { anchor = a; version = version_of e; place = 0; slot = None; found = NotWritten; turn = NoTurn }) (Retreating a))
  entered_goes m u x a e true = tt
  entered_goes m u x a e false = tt

  left_goes : (m : Move) (u : ℕ) (x : Tab X) (a : ℕ) (b : Bool) → Follow m u x (cond b (Last a) Free)
  left_goes m u x a true = tt
  left_goes m u x a false = tt

  settled_goes : (m : Move) (u : ℕ) (x : Tab X) (f : Freer X) (b : Bool) → Follow m u x (cond b Free (Freeing f))
  settled_goes m u x f true = tt
  settled_goes m u x f false = tt

  taken_goes : (m : Move) (u : ℕ) (x : Tab X) (a version : ℕ) → Contains v.held version → Follow m u x (Writing (writer_of a version))
  taken_goes m u x a version h = inl record { held = h; none = refl }

  reserves_goes : (m : Move) (u : ℕ) (slot : ℕ) (x : Tab X) → Follow m u x (reserves x slot)
  reserves_goes m u slot Free = tt
  reserves_goes m u slot (Retreating b) = tt
  reserves_goes m u slot (Reading r) = tt
  reserves_goes m u slot (Writing w) = same m u w record w { claim = None; reserved = w.reserved ++ slot ∷ [] } (refl, refl, refl) refl refl refl refl refl (refl, refl, refl) (λ j e. first_stays w.reserved j slot e)
  reserves_goes m u slot (Last b) = tt
  reserves_goes m u slot (Freeing f) = tt

  gives_back_goes : (m : Move) (u : ℕ) (slot : ℕ) (x : Tab X) → Follow m u x (gives_back x slot)
  gives_back_goes m u slot Free = tt
  gives_back_goes m u slot (Retreating b) = tt
  gives_back_goes m u slot (Reading r) = tt
  gives_back_goes m u slot (Writing w) = inr record {
    writer = w;
    is = refl;
    version = refl;
    how = inl record { names = (refl, refl, refl); offer = refl; published = refl; end = refl; going = λ z. absurd (false≢true (sym z)); first = λ z. absurd (false≢true (sym z)); chosen = inl (refl, refl, refl) };
  }
  gives_back_goes m u slot (Last b) = tt
  gives_back_goes m u slot (Freeing f) = settled_goes m u (Freeing f) record f { loose = without slot f.loose } ((length f.rest == 0) && (length (without slot f.loose) == 0) && not f.is_freeing)

  publishes_goes : (m : Move) (u : ℕ) (slot : ℕ) (link : Link) (x : Tab X) → OfWriter (MayPublish k s slot link) x → Follow m u x (publishes x slot link)
  publishes_goes m u slot link Free may = tt
  publishes_goes m u slot link (Retreating b) may = tt
  publishes_goes m u slot link (Reading r) may = tt
  publishes_goes m u slot link (Writing w) may = inr record {
    writer = w;
    is = refl;
    version = refl;
    how = inr (inr record { slot = slot; first = may.first; goes_on = may.goes_on; piece = may.piece; chosen = may.chosen; link = link; link_is = may.link_is; is = refl });
  }
  publishes_goes m u slot link (Last b) may = tt
  publishes_goes m u slot link (Freeing f) may = tt

  loosens_goes : (m : Move) (u : ℕ) (slots : List ℕ) (x : Tab X) → Follow m u x (loosens x slots)
  loosens_goes m u slots Free = tt
  loosens_goes m u slots (Retreating b) = tt
  loosens_goes m u slots (Reading r) = tt
  loosens_goes m u slots (Writing w) = itself m u (Writing w)
  loosens_goes m u slots (Last b) = tt
  loosens_goes m u slots (Freeing f) = tt

  looks_goes : (m : Move) (u : ℕ) (n : ℕ) (x : Tab X) → Follow m u x (looks x n)
  looks_goes m u n Free = tt
  looks_goes m u n (Retreating b) = tt
  looks_goes m u n (Reading r) = tt
  looks_goes m u n (Writing w) = itself m u (Writing w)
  looks_goes m u n (Last b) = tt
  looks_goes m u n (Freeing f) = tt

  raised_goes : (m : Move) (u : ℕ) (to : Stage) (n : ℕ) (x : Tab X) → Follow m u x (raised_tab x to n)
  raised_goes m u to n Free = left_goes m u Free 0 (is_left_over n)
  raised_goes m u to n (Retreating b) = left_goes m u (Retreating b) b (is_left_over n)
  raised_goes m u to n (Reading r) = left_goes m u (Reading r) r.anchor (is_left_over n)
  raised_goes m u to n (Last b) = left_goes m u (Last b) b (is_left_over n)
  raised_goes m u to n (Freeing f) = left_goes m u (Freeing f) f.anchor (is_left_over n)
  raised_goes m u Empty n (Writing w) = left_goes m u (Writing w) w.anchor (is_left_over n)
  raised_goes m u Taken n (Writing w) = left_goes m u (Writing w) w.anchor (is_left_over n)
  raised_goes m u Closed n (Writing w) = left_goes m u (Writing w) w.anchor (is_left_over n)
  raised_goes m u Halted n (Writing w) = left_goes m u (Writing w) w.anchor (is_left_over n)
  raised_goes m u FreeingStage n (Writing w) = left_goes m u (Writing w) w.anchor (is_left_over n)
  raised_goes m u Gone n (Writing w) = left_goes m u (Writing w) w.anchor (is_left_over n)
  raised_goes m u Appending n (Writing w) = same m u w record w { is_appending = true } (refl, refl, refl) refl refl refl refl refl (refl, refl, refl) (λ j e. e)

  loaded_goes : (m : Move) (u : ℕ) (side : Side) (n : ℕ) (x : Tab X) → Follow m u x (loaded x side n)
  loaded_goes m u side n Free = tt
  loaded_goes m u side n (Retreating b) = tt
  loaded_goes m u side n (Last b) = tt
  loaded_goes m u side n (Freeing f) = tt
  loaded_goes m u side n (Writing w) = itself m u (Writing w)
  loaded_goes m u Key0 n (Reading r) = tt
  loaded_goes m u Key1 n (Reading r) = tt
  loaded_goes m u Offer n (Reading r) = tt
  loaded_goes m u Start n (Reading r) = tt

  stores_goes : (m : Move) (u : ℕ) (side : Side) (value : ℕ) (x : Tab X) → OfWriter (λ w. (w.is_appending ≡ false) × MayStore k w side value) x → Follow m u x (stores x side value)
  stores_goes m u side value Free may = tt
  stores_goes m u side value (Retreating b) may = tt
  stores_goes m u side value (Reading r) may = tt
  stores_goes m u side value (Last b) may = tt
  stores_goes m u side value (Freeing f) may = tt
  stores_goes m u Key0 value (Writing w) may = inr record { writer = w; is = refl; version = refl; how = inr (inl record { none = may.1.0; nothing = may.1.1 }) }
  stores_goes m u Key1 value (Writing w) may = inr record { writer = w; is = refl; version = refl; how = inr (inl record { none = may.1.0; nothing = may.1.1 }) }
  stores_goes m u Offer value (Writing w) may = inr record { writer = w; is = refl; version = refl; how = inr (inl record { none = may.1.0; nothing = may.1.1 }) }
  stores_goes m u Start value (Writing w) may = same m u w record w { start = Some value } (refl, refl, refl) refl refl refl refl refl (refl, refl, refl) (λ j e. e)

  ends_goes : (m : Move) (u : ℕ) (then : Then) (x : Tab X) → Follow m u x (ends x then)
  ends_goes m u then Free = tt
  ends_goes m u then (Retreating b) = tt
  ends_goes m u Stays (Reading r) = tt
  ends_goes m u Then.GoesOn (Reading r) = tt
  ends_goes m u Wiped (Reading r) = tt
  ends_goes m u then (Writing w) = same m u w record w { is_written = was_written w.turn; is_settled = was_settled w.turn; turn = NoTurn } (refl, refl, refl) refl refl refl refl refl (refl, refl, refl) (λ j e. e)
  ends_goes m u then (Last b) = tt
  ends_goes m u then (Freeing f) = tt

  moves_goes : (m : Move) (u : ℕ) (out : Bool) (x : Tab X) → Follow m u x (moves x out)
  moves_goes m u out Free = tt
  moves_goes m u out (Retreating b) = tt
  moves_goes m u out (Reading r) = tt
  moves_goes m u out (Writing w) = same m u w record w { turn = moved w.turn out } (refl, refl, refl) refl refl refl refl refl (refl, refl, refl) (λ j e. e)
  moves_goes m u out (Last b) = tt
  moves_goes m u out (Freeing f) = tt

  rewrites_goes : (m : Move) (u : ℕ) (kept settled : Bool) (cell : Option (Cell X)) (x : Tab X) → Follow m u x (rewrites x kept settled cell)
  rewrites_goes m u kept settled cell Free = tt
  rewrites_goes m u kept settled cell (Retreating b) = tt
  rewrites_goes m u kept settled cell (Reading r) = tt
  rewrites_goes m u kept settled cell (Writing w) = same m u w record w { turn = rewritten w.turn kept settled cell } (refl, refl, refl) refl refl refl refl refl (refl, refl, refl) (λ j e. e)
  rewrites_goes m u kept settled cell (Last b) = tt
  rewrites_goes m u kept settled cell (Freeing f) = tt

  tries_goes : (m : Move) (u slot n : ℕ) (cell : Option (Cell X)) (x : Tab X) → Follow m u x (tries x slot n cell)
  tries_goes m u slot n cell Free = tt
  tries_goes m u slot n cell (Retreating b) = tt
  tries_goes m u slot n cell (Reading r) = tt
  tries_goes m u slot n cell (Last b) = tt
  tries_goes m u slot n cell (Freeing f) = tt
  tries_goes m u slot n cell (Writing w) = same m u w record w { is_written = cond (n == 0) false w.is_written; is_settled = cond (n == 0) false w.is_settled; turn = cond (n == 0) (turn_with slot cell) w.turn } (refl, refl, refl) refl refl refl refl refl (refl, refl, refl) (λ j e. e)

  logs_goes : (u slot : ℕ) (is_durable : Bool) (x : Tab X) → OfWriter (MayLog slot) x → Follow (LogPiece u slot is_durable) u x (logs x slot is_durable)
  logs_goes u slot is_durable Free may = absurd may
  logs_goes u slot is_durable (Retreating b) may = absurd may
  logs_goes u slot is_durable (Reading r) may = absurd may
  logs_goes u slot is_durable (Last b) may = absurd may
  logs_goes u slot is_durable (Freeing f) may = absurd may
  logs_goes u slot is_durable (Writing w) may = inr record {
    writer = w;
    is = refl;
    version = refl;
    how = inl record { names = (refl, refl, refl); offer = refl; published = refl; end = refl; going = λ z. z; first = λ z j e. e; chosen = inr (may.none, record { slot = slot; is_durable = is_durable; logs_it = refl; is = refl }) };
  }

  searches_goes : (m : Move) (u word n : ℕ) (x : Tab X) → Follow m u x (searches x word n)
  searches_goes m u word n Free = tt
  searches_goes m u word n (Retreating b) = tt
  searches_goes m u word n (Reading r) = tt
  searches_goes m u word n (Writing w) = same m u w record w { claim = goes_past (begun_at w.claim word) (64 * word) n } (refl, refl, refl) refl refl refl refl refl (refl, refl, refl) (λ j e. e)
  searches_goes m u word n (Last b) = tt
  searches_goes m u word n (Freeing f) = tt

  misses_goes : (m : Move) (u slot n : ℕ) (x : Tab X) → Follow m u x (misses x slot n)
  misses_goes m u slot n Free = tt
  misses_goes m u slot n (Retreating b) = tt
  misses_goes m u slot n (Reading r) = tt
  misses_goes m u slot n (Writing w) = same m u w record w { claim = goes_past w.claim slot n } (refl, refl, refl) refl refl refl refl refl (refl, refl, refl) (λ j e. e)
  misses_goes m u slot n (Last b) = tt
  misses_goes m u slot n (Freeing f) = tt

  owned_goes : (m : Move) (u slot n : ℕ) (hit : Bool) (x : Tab X) → Follow m u x (cond hit (reserves x slot) (misses x slot n))
  owned_goes m u slot n true x = reserves_goes m u slot x
  owned_goes m u slot n false x = misses_goes m u slot n x

  abbrev AllGo : Move → List (Tab X) → Type 0
  AllGo m tabs = (u : ℕ) (x : Tab X) → get_elem? tabs u ≡ some x → Follow m u (tab_at v u) x

  untouched : (m : Move) → AllGo m v.tabs
  untouched m u x e = subst (λ (y : Tab X). Follow m u y x) (sym (at_or v.tabs u x Free e)) (itself m u x)

  one : (m : Move) (tabs : List (Tab X)) → AllGo m tabs → (t : ℕ) (y : Tab X) → Follow m t (tab_at v t) y → AllGo m (set tabs t y)
  one m tabs g t y h u x e = ⊎_elim
      (λ (q : (u ≡ t) × (y ≡ x)). subst (λ (z : ℕ). Follow m z (tab_at v z) x) (sym q.0) (subst (Follow m t (tab_at v t)) q.1 h))
      (λ (q : (u ≢ t) × (get_elem? tabs u ≡ some x)). g u x q.1)
      (at_set tabs t u y x e)

  either : (m : Move) (b : Bool) (xs ys : List (Tab X)) → AllGo m xs → AllGo m ys → AllGo m (cond b xs ys)
  either m true xs ys g h = g
  either m false xs ys g h = h

  pub tabs_follow : (m : Move) → Allowed k s v m → AllGo m (tabs_after v m (finding k s v m))
  tabs_follow (Look a) may = untouched (Look a)
  tabs_follow (Enter t a) may = one (Enter t a) v.tabs (untouched (Enter t a)) t (entered a (epoch_of (word s a))) (entered_goes (Enter t a) t (tab_at v t) a (epoch_of (word s a)) (is_readable (epoch_of (word s a))))
  tabs_follow (Leave t) may = one (Leave t) v.tabs (untouched (Leave t)) t (left_tab (anchor_of (tab_at v t)) (word s (anchor_of (tab_at v t)) - 1)) (left_goes (Leave t) t (tab_at v t) (anchor_of (tab_at v t)) (is_left_over (word s (anchor_of (tab_at v t)) - 1)))
  tabs_follow Count may = untouched Count
  tabs_follow Draw may = untouched Draw
  tabs_follow (Take t a u) may = either (Take t a u) (word s a == last_find a v.trail) (taken_tabs v t a u (finding k s v (Take t a u))) v.tabs
      (one (Take t a u) (cond (is_idle (word s a)) (set v.tabs inner (Freeing (freer_of a false (word s a) (chain_of s a)))) v.tabs)
      (either (Take t a u) (is_idle (word s a)) (set v.tabs inner (Freeing (freer_of a false (word s a) (chain_of s a)))) v.tabs
      (one (Take t a u) v.tabs (untouched (Take t a u)) inner (Freeing (freer_of a false (word s a) (chain_of s a))) tt) (untouched (Take t a u)))
      t (Writing (writer_of a u)) (taken_goes (Take t a u) t (tab_at v t) a u may.1.held))
      (untouched (Take t a u))
  tabs_follow (Evict t a) may = either (Evict t a) (word s a == last_find a v.trail) (evicted_tabs v t a (finding k s v (Evict t a))) (set v.tabs t Free)
      (one (Evict t a) (set v.tabs t Free) (one (Evict t a) v.tabs (untouched (Evict t a)) t Free tt) inner (Freeing (freer_of a true (word s a) (chain_of s a))) tt)
      (one (Evict t a) v.tabs (untouched (Evict t a)) t Free tt)
  tabs_follow (Raise t to) may = one (Raise t to) v.tabs (untouched (Raise t to)) t (raised_tab (tab_at v t) to (left_by v (Raise t to) (word s (anchor_of (tab_at v t))))) (raised_goes (Raise t to) t to (left_by v (Raise t to) (word s (anchor_of (tab_at v t)))) (tab_at v t))
  tabs_follow (Doom t) may = untouched (Doom t)
  tabs_follow (LoadSide t side) may = one (LoadSide t side) v.tabs (untouched (LoadSide t side)) t (loaded (tab_at v t) side (number_found k s v (LoadSide t side))) (loaded_goes (LoadSide t side) t side (number_found k s v (LoadSide t side)) (tab_at v t))
  tabs_follow (StoreSide t side value) may = one (StoreSide t side value) v.tabs (untouched (StoreSide t side value)) t (stores (tab_at v t) side value) (stores_goes (StoreSide t side value) t side value (tab_at v t) may.2)
  tabs_follow (Own t slot) may = let n : ℕ = number_found k s v (Own t slot) in one (Own t slot) v.tabs (untouched (Own t slot)) t (cond (taken_in n slot == 0) (reserves (tab_at v t) slot) (misses (tab_at v t) slot n)) (owned_goes (Own t slot) t slot n (taken_in n slot == 0) (tab_at v t))
  tabs_follow (LookMap t word) may = one (LookMap t word) v.tabs (untouched (LookMap t word)) t (searches (tab_at v t) word (number_found k s v (LookMap t word))) (searches_goes (LookMap t word) t word (number_found k s v (LookMap t word)) (tab_at v t))
  tabs_follow (LogPiece t slot is_durable) may = one (LogPiece t slot is_durable) v.tabs (untouched (LogPiece t slot is_durable)) t (logs (tab_at v t) slot is_durable) (logs_goes t slot is_durable (tab_at v t) may.1)
  tabs_follow (Disown t slot) may = one (Disown t slot) v.tabs (untouched (Disown t slot)) t (gives_back (tab_at v t) slot) (gives_back_goes (Disown t slot) t slot (tab_at v t))
  tabs_follow (Publish t slot link) may = one (Publish t slot link) v.tabs (untouched (Publish t slot link)) t (publishes (tab_at v t) slot link) (publishes_goes (Publish t slot link) t slot link (tab_at v t) may.1)
  tabs_follow (Loosen t slot) may = either (Loosen t slot) (t == inner) (set v.tabs inner (loosens (tab_at v inner) (slot ∷ []))) (set (set v.tabs inner (loosens (tab_at v inner) [])) t (reserves (tab_at v t) slot))
      (one (Loosen t slot) v.tabs (untouched (Loosen t slot)) inner (loosens (tab_at v inner) (slot ∷ [])) (loosens_goes (Loosen t slot) inner (slot ∷ []) (tab_at v inner)))
      (one (Loosen t slot) (set v.tabs inner (loosens (tab_at v inner) [])) (one (Loosen t slot) v.tabs (untouched (Loosen t slot)) inner (loosens (tab_at v inner) []) (loosens_goes (Loosen t slot) inner [] (tab_at v inner)))
      t (reserves (tab_at v t) slot) (reserves_goes (Loosen t slot) t slot (tab_at v t)))
  tabs_follow (GetLink t slot) may = one (GetLink t slot) v.tabs (untouched (GetLink t slot)) t (looks (tab_at v t) (number_found k s v (GetLink t slot))) (looks_goes (GetLink t slot) t (number_found k s v (GetLink t slot)) (tab_at v t))
  tabs_follow (TryTurn t slot) may = one (TryTurn t slot) v.tabs (untouched (TryTurn t slot)) t (tries (tab_at v t) slot (number_found k s v (TryTurn t slot)) (get_or s.places slot None)) (tries_goes (TryTurn t slot) t slot (number_found k s v (TryTurn t slot)) (get_or s.places slot None) (tab_at v t))
  tabs_follow (EndTurn t slot then) may = one (EndTurn t slot then) v.tabs (untouched (EndTurn t slot then)) t (ends (tab_at v t) then) (ends_goes (EndTurn t slot then) t then (tab_at v t))
  tabs_follow (CellOut t slot) may = one (CellOut t slot) v.tabs (untouched (CellOut t slot)) t (moves (tab_at v t) true) (moves_goes (CellOut t slot) t true (tab_at v t))
  tabs_follow (CellIn t slot) may = one (CellIn t slot) v.tabs (untouched (CellIn t slot)) t (moves (tab_at v t) false) (moves_goes (CellIn t slot) t false (tab_at v t))
  tabs_follow Note may = untouched Note
  tabs_follow (Learn note) may = untouched (Learn note)
  tabs_follow (Write t slot outcome) may = one (Write t slot outcome) v.tabs (untouched (Write t slot outcome)) t (rewrites (tab_at v t) (is_kept outcome) (settled_by_write (tab_at v t) outcome) (cell_found k s v (Write t slot outcome)))
      (rewrites_goes (Write t slot outcome) t (is_kept outcome) (settled_by_write (tab_at v t) outcome) (cell_found k s v (Write t slot outcome)) (tab_at v t))
  tabs_follow (Sync t slot kept) may = one (Sync t slot kept) v.tabs (untouched (Sync t slot kept)) t (rewrites (tab_at v t) false (settled_by_sync (tab_at v t) kept) (cell_found k s v (Sync t slot kept)))
      (rewrites_goes (Sync t slot kept) t false (settled_by_sync (tab_at v t) kept) (cell_found k s v (Sync t slot kept)) (tab_at v t))
