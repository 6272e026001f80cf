-- Each step keeps what holds of the log.
use Rattle.std.proofs.Common.{◌≡◌, ◌≢◌, ◌⊎◌, inl, inr, ⊎_elim, ℕ, zero, suc, ◌+◌, ◌-◌, ◌<◌, ◌≤◌, List, [], ◌∷◌, ◌++◌, length, drop, get_or, set, max, sym, refl, ap, ◌∙◌, subst, arith, Bool, Option, Some, None, unwrap_or, Contains, eq-eqb, ne_eqb}
use mathlib.Core.Option.{some, some-injective, some-ne-none}
use mathlib.Core.Logic.{dite}
use native.Mathlib.Decide.{ℕ_discrete}
use lib.ListN.{get_elem?}
use Rattle.lock_word.specs.Words.{epoch_of, version_of}
use Rattle.link_word.specs.declared.link.Link.TheVariants.{Last as LastLink, Next}
use Rattle.core_model.specs.declared.view.LoggedPiece.{LoggedPiece}
use Rattle.core_model.specs.declared.moves.Move.{Move}
use Rattle.core_model.specs.declared.moves.Move.TheVariants.{Look, Enter, Leave, Count, Draw, Take, Evict, Raise, Doom, LoadSide, StoreSide, Own, Disown, Publish, Loosen, GetLink, TryTurn, EndTurn, CellOut, CellIn, Note, Learn, Write, Sync, LookMap, LogPiece}
use Rattle.core_model.specs.declared.tab.Piece.{Piece}
use Rattle.core_model.specs.declared.tab.Writer.{Writer}
use Rattle.core_model.specs.declared.tab.Tab.{Tab}
use Rattle.core_model.specs.declared.tab.Tab.TheVariants.{Free, Retreating, Reading, Writing, Last, Freeing}
use Rattle.core_model.specs.declared.view.Sight.{Sight}
use Rattle.core_model.specs.declared.view.Sight.TheVariants.{Stood, Named, Published, Logged, Wiped}
use Rattle.core_model.specs.declared.view.View.{View}
use Rattle.core_model.specs.Layout.{Setting, word_in}
use Rattle.core_model.specs.State.{State, word}
use Rattle.core_model.specs.Slots.{held_in, slot_words}
use Rattle.core_model.proofs.SlotFrame.{used_few}
use Rattle.core_model.specs.Anchors.{opening_counter}
use Rattle.core_model.specs.Chains.{first_of, link_to, rest_of, times}
use Rattle.core_model.specs.Tabs.{count, inner, tab_at, OfWriter}
use Rattle.core_model.specs.Trails.{seen_at, stood}
use Rattle.core_model.specs.CellMoves.{piece_of, logs, MayLog}
use Rattle.core_model.specs.Versions.{IsSighted}
use Rattle.core_model.specs.Holders.{IsTab}
use Rattle.core_model.specs.Sound.{Sound}
use Rattle.core_model.specs.Steps.{finding, view_after, after}
use Rattle.core_model.specs.Table.{Allowed}
use Rattle.core_model.proofs.Lists.{at_length, at_set, cons_contains, contains_none, le_sum_at, set_here}
use Rattle.core_model.proofs.Matching.{matches_writer, one_writer}
use Rattle.core_model.proofs.Spelling.{one_same}
use Rattle.core_log.specs.Logged.{Agree, IsChosen, IsOfWriter, IsPublished, LinksStand, logged_now, logged_with, piece_logged}
use Rattle.core_model.specs.CellMoves.{note_of}
use Rattle.core_model.specs.Tabs.{IsPass}
use Rattle.core_model.proofs.Choices.{view_was}
use Rattle.core_log.proofs.KnownStays.{stays_seen}
use Rattle.core_log.proofs.Agreeing.{agrees, begins, published_stays}
use Rattle.core_log.proofs.Follows.{Follow, GoesOn, PublishesNow, Stores, tabs_follow, SameChoice, LogsNow}
use Rattle.core_model.specs.declared.view.Place.TheVariants.{LogCounter}

-- the greatest epoch that was seen at an anchor was seen there
stood_there : (a : ℕ) (xs : List Sight) → 0 < seen_at a xs → Contains xs (Stood a (seen_at a xs))
stood_there a [] h = absurd (omega arith)
stood_there a (x ∷ xs) h = dite (ℕ_discrete (stood a x - seen_at a xs) 0)
    (λ e. let le : stood a x ≤ seen_at a xs = omega arith in let same : max (stood a x) (seen_at a xs) ≡ seen_at a xs = omega arith in
    let q = stood_there a xs (omega arith) in subst (λ (n : ℕ). Contains (x ∷ xs) (Stood a n)) (sym same) (suc q.0, (let z = q.1 in omega arith), q.2))
    (λ ne. let same : max (stood a x) (seen_at a xs) ≡ stood a x = omega arith in
    subst (λ (n : ℕ). Contains (x ∷ xs) (Stood a n)) (sym same) (here x (omega arith)))
  where
    here : (y : Sight) → 0 < stood a y → Contains (y ∷ xs) (Stood a (stood a y))
    here (Stood b e) h = dite (ℕ_discrete b a)
        (λ q. (0, omega arith, (let z = eq-eqb b a q in let same : stood a (Stood b e) ≡ e = rw z refl in ap (λ (n : ℕ). Stood n e) q ∙ ap (Stood a) (sym same))))
        (λ ne. absurd (let z = ne_eqb b a ne in let none : stood a (Stood b e) ≡ 0 = rw z refl in omega arith))
    here (Named b u side value) h = absurd (omega arith)
    here (Published b u many) h = absurd (omega arith)
    here (Logged l) h = absurd (omega arith)
    here (Wiped b u slot) h = absurd (omega arith)

pub split : {A : Type 0} (xs ys : List A) (y : A) → Contains (xs ++ ys) y → Contains xs y ⊎ Contains ys y
split [] ys y h = inr h
split (x ∷ xs) ys y h = ⊎_elim (λ (e : x ≡ y). inl (0, omega arith, e))
    (λ (q : Contains (xs ++ ys) y). ⊎_elim (λ (z : Contains xs y). inl (suc z.0, (let w = z.1 in omega arith), z.2)) (λ (z : Contains ys y). inr z) (split xs ys y q))
    (cons_contains x y (xs ++ ys) h)

pub one_of : {A : Type 0} (x y : A) → Contains (x ∷ []) y → x ≡ y
one_of x y h = ⊎_elim (λ (q : x ≡ y). q) (λ (q : Contains [] y). absurd (contains_none y q)) (cons_contains x y [] h)

no_choice : (p : Piece) → None ≡ Some p → ⊥
no_choice p e = cc

-- an offer that was stored
offer_there : (o : Option ℕ) → o ≢ None → o ≡ Some (unwrap_or o 0)
offer_there None ne = absurd (ne refl)
offer_there (Some n) ne = refl

pub writes_at : {X : Type 0} (xs : List (Tab X)) (t : ℕ) (w : Writer X) → get_or xs t Free ≡ Writing w → get_elem? xs t ≡ some (Writing w)
writes_at {X} [] t w e = absurd (not_free e)
  where
    not_free : ◌≡◌ {A = Tab X} Free (Writing w) → ⊥
    not_free e = cc
writes_at (x ∷ xs) zero w e = ap some e
writes_at (x ∷ xs) (suc t) w e = writes_at xs t w e

-- a writing tab that logged this piece
pub record LoggedIs {X : Type 0} (slot : ℕ) (is_durable : Bool) (w x : Writer X) : Type 0 where
  pub anchor : x.anchor ≡ w.anchor
  pub key0 : x.key0 ≡ w.key0
  pub key1 : x.key1 ≡ w.key1
  pub offer : x.offer ≡ w.offer
  pub published : x.published ≡ w.published
  pub reserved : x.reserved ≡ w.reserved
  pub chosen : x.chosen ≡ Some (piece_of w)
  pub slot_is : x.logged_in ≡ Some slot
  pub durable : x.is_durable ≡ is_durable

logged_fields : {X : Type 0} (slot : ℕ) (is_durable : Bool) (w x : Writer X) → logs (Writing w) slot is_durable ≡ Writing x → LoggedIs slot is_durable w x
logged_fields {X} slot is_durable w x e = record {
  anchor = sym (ap (λ (y : Tab X). (as_writer y).anchor) e);
  key0 = sym (ap (λ (y : Tab X). (as_writer y).key0) e);
  key1 = sym (ap (λ (y : Tab X). (as_writer y).key1) e);
  offer = sym (ap (λ (y : Tab X). (as_writer y).offer) e);
  published = sym (ap (λ (y : Tab X). (as_writer y).published) e);
  reserved = sym (ap (λ (y : Tab X). (as_writer y).reserved) e);
  chosen = sym (ap (λ (y : Tab X). (as_writer y).chosen) e);
  slot_is = sym (ap (λ (y : Tab X). (as_writer y).logged_in) e);
  durable = sym (ap (λ (y : Tab X). (as_writer y).is_durable) e);
}
  where
    as_writer : Tab X → Writer X
    as_writer (Writing y) = y
    as_writer _ = w

module _ {X : Type 0} (k : Setting X) (s : State X) (log : List LoggedPiece) (i : ℕ) (v : View X) (so : Sound k s) (st : LinksStand k s log) (at : get_elem? s.views i ≡ some v) where
  pub my_tab : (t : ℕ) (w : Writer X) → tab_at v t ≡ Writing w → IsTab s i t (Writing w)
  my_tab t w e = record { view = v; at = at; there = writes_at v.tabs t w e }

  -- two tabs that write one version are one
  one_version : (j p t u : ℕ) (w x : Writer X) → IsTab s j t (Writing w) → IsTab s p u (Writing x) → w.version ≡ x.version → (j ≡ p) × (t ≡ u)
  one_version j p t u w x iw ix same =
      let a = matches_writer k s so.anchors j t w iw in
      let b = matches_writer k s so.anchors p u x ix in
      let new = (so.cells.writers j iw.view iw.at t (Writing w) iw.there).drawn in
      let here = so.anchors.held.one_anchor w.anchor x.anchor w.version new (inl (a.0, a.1.version_is)) (inl (b.0, b.1.version_is ∙ sym same)) in
      one_writer k s so.anchors w.anchor j p t u w x a.0 iw ix refl (sym here)

  -- a version that the pass holds was never logged
  held_new : (version : ℕ) → Contains v.held version → (l : LoggedPiece) → Contains log l → l.piece.version ≡ version → ⊥
  held_new version h l c e = (so.anchors.held.fresh i v at version h).unknown l.anchor (inr (subst (IsSighted s l.anchor) e (st.stood l c)))

  -- What a tab writes stays its own.

  stays : (t : ℕ) (m : Move) (u : ℕ) (w x : Writer X) → IsTab s i t (Writing w) → GoesOn k s v m u w x ⊎ (Stores k s v w ⊎ PublishesNow k s v w x) → (l : LoggedPiece) → IsOfWriter w l → IsOfWriter x l
  stays t m u w x tab (inl g) l is = record {
    anchor = is.anchor ∙ sym g.names.0;
    key0 = g.names.1 ∙ is.key0;
    key1 = g.names.2 ∙ is.key1;
    offer = g.offer ∙ is.offer;
    first = is.first ∙ ap (λ (xs : List ℕ). first_of (xs ++ l.slot ∷ [])) (sym g.published);
    stands = ⊎_elim
        (λ (q : IsPublished w l). inl record { place = ap (λ (xs : List ℕ). get_elem? xs l.piece.place) g.published ∙ q.place; next = q.next ∙ ap (λ (xs : List ℕ). link_to (drop (l.piece.place + 1) xs) w.end) (sym g.published) ∙ ap (link_to (drop (l.piece.place + 1) x.published)) (sym g.end) })
        (λ (q : IsChosen w l). ⊎_elim
        (λ (z : SameChoice k s v w x). inr record { chosen = z.0 ∙ q.chosen; slot_is = z.1 ∙ q.slot_is; durable = z.2 ∙ q.durable; place = q.place ∙ ap length (sym g.published); first = λ e. g.first e l.slot (q.first (g.going e)) })
        (λ (z : (w.chosen ≡ None) × LogsNow k s v m u w x). absurd (no_choice l.piece (sym z.0 ∙ q.chosen)))
        g.chosen)
        is.stands;
  }
  stays t m u w x tab (inr (inl g)) l is = absurd (⊎_elim
      (λ (q : IsPublished w l). let lt = at_length w.published l.piece.place l.slot q.place in let z = ap length g.nothing in (omega arith))
      (λ (q : IsChosen w l). no_choice l.piece (sym g.none ∙ q.chosen))
      is.stands)
  stays t m u w x tab (inr (inr g)) l is = subst (λ (y : Writer X). IsOfWriter y l) (sym g.is) (published_stays k s i tab.view so tab.at t w tab.there g.slot g.first g.goes_on g.piece g.chosen g.link g.link_is l is)

  module _ (m : Move) (may : Allowed k s v m) where
    abbrev s' : State X
    s' = after k s i v m

    abbrev v' : View X
    v' = view_after v m (finding k s v m)

    abbrev more : List LoggedPiece
    more = logged_now k s v m ++ log

    -- What was sighted is.
    sighted_later : IsPass v → (a u : ℕ) → IsSighted s a u → IsSighted s' a u
    sighted_later pass a u h = let q = stays_seen k s i v at pass m may h.sight record { i = h.i; view = h.view; at = h.at; seen = h.seen } in
        record { i = q.i; view = q.view; at = q.at; sight = h.sight; seen = q.seen; anchor = h.anchor; version_is = h.version_is }

    -- What the step logs.

    pub record IsNew (l : LoggedPiece) : Type 0 where
      pub t : ℕ
      pub slot : ℕ
      pub is_durable : Bool
      pub writer : Writer X
      pub logs_it : m ≡ LogPiece t slot is_durable
      pub number_is : l.number ≡ word_in k s.words LogCounter
      pub is : tab_at v t ≡ Writing writer
      pub none : writer.chosen ≡ None
      pub may_log : MayLog slot writer
      pub anchor_is : l.anchor ≡ writer.anchor
      pub key0_is : l.key0 ≡ unwrap_or writer.key0 0
      pub key1_is : l.key1 ≡ unwrap_or writer.key1 0
      pub slot_is : l.slot ≡ slot
      pub durable_is : l.is_durable ≡ is_durable
      pub piece_is : l.piece ≡ piece_of writer
      pub only : (n : LoggedPiece) → Contains (logged_now k s v m) n → l ≡ n

  logs_new : (t slot : ℕ) (is_durable : Bool) (allowed : Allowed k s v (LogPiece t slot is_durable)) (l : LoggedPiece)
      → (x : Tab X) → tab_at v t ≡ x → Contains (logged_with slot is_durable (word_in k s.words LogCounter) x) l → OfWriter (MayLog slot) x → IsNew (LogPiece t slot is_durable) allowed l
  logs_new t slot is_durable allowed l Free e c h = absurd (contains_none l c)
  logs_new t slot is_durable allowed l (Retreating b) e c h = absurd (contains_none l c)
  logs_new t slot is_durable allowed l (Reading r) e c h = absurd (contains_none l c)
  logs_new t slot is_durable allowed l (Last b) e c h = absurd (contains_none l c)
  logs_new t slot is_durable allowed l (Freeing f) e c h = absurd (contains_none l c)
  logs_new t slot is_durable allowed l (Writing w) e c h = let same : the ≡ l = one_of the l c in record {
    t = t;
    slot = slot;
    is_durable = is_durable;
    writer = w;
    logs_it = refl;
    number_is = sym (ap LoggedPiece.number same);
    is = e;
    none = h.none;
    may_log = h;
    anchor_is = sym (ap LoggedPiece.anchor same);
    key0_is = sym (ap LoggedPiece.key0 same);
    key1_is = sym (ap LoggedPiece.key1 same);
    slot_is = sym (ap LoggedPiece.slot same);
    durable_is = sym (ap LoggedPiece.is_durable same);
    piece_is = sym (ap LoggedPiece.piece same);
    only = λ n d. sym same ∙ one_of the n (subst (λ (x : Tab X). Contains (logged_with slot is_durable (word_in k s.words LogCounter) x) n) e d);
  }
    where
      the : LoggedPiece
      the = piece_logged slot is_durable (word_in k s.words LogCounter) w

  pub new_is : (m : Move) (may : Allowed k s v m) (l : LoggedPiece) → Contains (logged_now k s v m) l → IsNew m may l
  new_is (LogPiece t slot is_durable) may l c = logs_new t slot is_durable may l (tab_at v t) refl c may.1
  new_is (LookMap t word) may l c = absurd (contains_none l c)
  new_is (TryTurn t slot) may l c = absurd (contains_none l c)
  new_is (Look a) may l c = absurd (contains_none l c)
  new_is (Enter t a) may l c = absurd (contains_none l c)
  new_is (Leave t) may l c = absurd (contains_none l c)
  new_is Count may l c = absurd (contains_none l c)
  new_is Draw may l c = absurd (contains_none l c)
  new_is (Take t a u) may l c = absurd (contains_none l c)
  new_is (Evict t a) may l c = absurd (contains_none l c)
  new_is (Raise t to) may l c = absurd (contains_none l c)
  new_is (Doom t) may l c = absurd (contains_none l c)
  new_is (LoadSide t side) may l c = absurd (contains_none l c)
  new_is (StoreSide t side value) may l c = absurd (contains_none l c)
  new_is (Own t slot) may l c = absurd (contains_none l c)
  new_is (Disown t slot) may l c = absurd (contains_none l c)
  new_is (Publish t slot link) may l c = absurd (contains_none l c)
  new_is (Loosen t slot) may l c = absurd (contains_none l c)
  new_is (GetLink t slot) may l c = absurd (contains_none l c)
  new_is (EndTurn t slot then) may l c = absurd (contains_none l c)
  new_is (CellOut t slot) may l c = absurd (contains_none l c)
  new_is (CellIn t slot) may l c = absurd (contains_none l c)
  new_is Note may l c = absurd (contains_none l c)
  new_is (Learn note) may l c = absurd (contains_none l c)
  new_is (Write t slot outcome) may l c = absurd (contains_none l c)
  new_is (Sync t slot kept) may l c = absurd (contains_none l c)

  module _ (m : Move) (may : Allowed k s v m) where
    abbrev s₁ : State X
    s₁ = after k s i v m

    abbrev all : List LoggedPiece
    all = logged_now k s v m ++ log

    abbrev New : LoggedPiece → Type 0
    New l = IsNew m may l

    either : (l : LoggedPiece) → Contains all l → New l ⊎ Contains log l
    either l c = ⊎_elim (λ (q : Contains (logged_now k s v m) l). inl (new_is m may l q)) (λ (q : Contains log l). inr q) (split (logged_now k s v m) log l c)

    tab_of : (l : LoggedPiece) (n : New l) → IsTab s i n.t (Writing n.writer)
    tab_of l n = my_tab n.t n.writer n.is

    version_of_new : (l : LoggedPiece) (n : New l) → l.piece.version ≡ n.writer.version
    version_of_new l n = ap Piece.version n.piece_is

    -- its version is new, and the pass has seen it at the anchor
    new_drawn : (l : LoggedPiece) → New l → opening_counter k < l.piece.version
    new_drawn l n = let z = (so.cells.writers i (tab_of l n).view (tab_of l n).at n.t (Writing n.writer) (tab_of l n).there).drawn in let e = version_of_new l n in omega arith

    new_stood : (l : LoggedPiece) → New l → IsSighted s l.anchor l.piece.version
    new_stood l n = record {
      i = i;
      view = v;
      at = at;
      sight = Stood n.writer.anchor (seen_at n.writer.anchor v.seen);
      seen = stood_there n.writer.anchor v.seen (let a = stands.2 in let b = some_version in omega arith);
      anchor = sym n.anchor_is;
      version_is = same ∙ sym (version_of_new l n);
    }
      where
        tab : IsTab s i n.t (Writing n.writer)
        tab = tab_of l n

        stands : (n.writer.anchor < k.anchors) × (n.t < inner) × (n.writer.version ≤ version_of (seen_at n.writer.anchor v.seen))
        stands = so.anchors.tabs i v at n.t (Writing n.writer) (writes_at v.tabs n.t n.writer n.is)

        matches : version_of (epoch_of (word s n.writer.anchor)) ≡ n.writer.version
        matches = (matches_writer k s so.anchors i n.t n.writer tab).1.version_is

        le : seen_at n.writer.anchor v.seen ≤ epoch_of (word s n.writer.anchor)
        le = so.anchors.seen.epochs i v at n.writer.anchor stands.0

        some_version : 0 < n.writer.version
        some_version = let z = new_drawn l n in let e = version_of_new l n in omega arith

        same : version_of (seen_at n.writer.anchor v.seen) ≡ n.writer.version
        same = let a = stands.2 in let b = matches in let c = le in omega arith

    -- one slot is reserved once
    reserved_once : (l : LoggedPiece) (n : New l) → times n.slot n.writer.reserved ≤ 1
    reserved_once l n = let a = le_sum_at (held_in n.slot) v.tabs n.t (Writing n.writer) (writes_at v.tabs n.t n.writer n.is) in let b = le_sum_at (count (held_in n.slot)) s.views i v at in
        let o = so.slots.places.taken n.slot in let u = used_few ((slot_words k s.words).taken n.slot) in omega arith

    agrees_itself : (l : LoggedPiece) → New l → Agree l l
    agrees_itself l n = record {
      anchor = refl;
      key0 = refl;
      key1 = refl;
      offer = refl;
      first = refl;
      place = λ e. refl;
      slot = λ e. refl;
      behind = λ e. absurd (no_loop (sym (ap Piece.next n.piece_is) ∙ e ∙ ap Next n.slot_is));
      follows = λ e. absurd (omega arith);
      followed = λ e. absurd (omega arith);
      before = λ e. absurd (no_loop (sym (ap Piece.next n.piece_is) ∙ e ∙ ap Next n.slot_is));
    }
      where
        no_loop : link_to (rest_of n.writer.reserved) LastLink ≡ Next n.slot → ⊥
        no_loop e = of_rest (rest_of n.writer.reserved) refl e
          where
            no_last : LastLink ≡ Next n.slot → ⊥
            no_last e = cc

            same_next : (a b : ℕ) → Next a ≡ Next b → a ≡ b
            same_next a b e = cc

            of_rest : (xs : List ℕ) → rest_of n.writer.reserved ≡ xs → link_to xs LastLink ≡ Next n.slot → ⊥
            of_rest [] q e = no_last e
            of_rest (x ∷ xs) q e = let same : x ≡ n.slot = same_next x n.slot e in
                let c : times n.slot n.writer.reserved ≡ times n.slot (n.slot ∷ x ∷ xs) = ap (times n.slot) (n.may_log.first ∙ ap (λ (z : List ℕ). n.slot ∷ z) q) in
                let d : times n.slot (n.slot ∷ x ∷ xs) ≡ times n.slot (n.slot ∷ n.slot ∷ xs) = ap (λ (y : ℕ). times n.slot (n.slot ∷ y ∷ xs)) same in
                let o = one_same n.slot in let z = reserved_once l n in omega arith

    agrees_old : (l r : LoggedPiece) → New l → Contains log r → l.piece.version ≡ r.piece.version → Agree l r
    agrees_old l r n c e = agrees k s i v so at n.t n.writer (writes_at v.tabs n.t n.writer n.is) n.slot n.may_log.first n.none l n.slot_is n.piece_is n.anchor_is n.key0_is n.key1_is r
        (st.writers i n.t n.writer (tab_of l n) r c (sym e ∙ version_of_new l n))

    turned : (l r : LoggedPiece) → Agree l r → Agree r l
    turned l r a = record { anchor = sym a.anchor; key0 = sym a.key0; key1 = sym a.key1; offer = sym a.offer; first = sym a.first; place = λ e. sym (a.place (sym e)); slot = λ e. sym (a.slot (sym e)); behind = a.before; before = a.behind; follows = a.followed; followed = a.follows }

    agree_after : (l r : LoggedPiece) → Contains all l → Contains all r → l.piece.version ≡ r.piece.version → Agree l r
    agree_after l r cl cr e = ⊎_elim
        (λ (n : New l). ⊎_elim
        (λ (q : Contains (logged_now k s v m) r). subst (Agree l) (n.only r q) (agrees_itself l n))
        (λ (q : Contains log r). agrees_old l r n q e)
        (split (logged_now k s v m) log r cr))
        (λ (c : Contains log l). ⊎_elim
        (λ (n : New r). turned r l (agrees_old r l n c (sym e)))
        (λ (q : Contains log r). st.agree l r c q e)
        (either r cr))
        (either l cl)

    begins_after : (l : LoggedPiece) → Contains all l → l.piece.first ≡ l.slot → l.piece.place ≡ 0
    begins_after l c e = ⊎_elim
        (λ (n : New l). begins k s i v so at n.t n.writer (writes_at v.tabs n.t n.writer n.is) n.slot n.may_log.first n.none l n.slot_is n.piece_is n.anchor_is n.key0_is n.key1_is e)
        (λ (q : Contains log l). st.begins l q e)
        (either l c)

    -- The pieces of the version that a tab writes.

    -- the piece that it logs now is the one that it has chosen
    logged_is : (l : LoggedPiece) (n : New l) (x : Writer X) → get_elem? (view_after v m (finding k s v m)).tabs n.t ≡ some (Writing x) → LoggedIs n.slot n.is_durable n.writer x
    logged_is l n x e = of_step (subst (λ (y : Move). get_elem? (view_after v y (finding k s v y)).tabs n.t ≡ some (Writing x)) n.logs_it e)
      where
        of_step : get_elem? (set v.tabs n.t (logs (tab_at v n.t) n.slot n.is_durable)) n.t ≡ some (Writing x) → LoggedIs n.slot n.is_durable n.writer x
        of_step e = ⊎_elim
            (λ (q : (n.t ≡ n.t) × (logs (tab_at v n.t) n.slot n.is_durable ≡ Writing x)). logged_fields n.slot n.is_durable n.writer x (sym (ap (λ (y : Tab X). logs y n.slot n.is_durable) n.is) ∙ q.1))
            (λ (q : (n.t ≢ n.t) × (get_elem? v.tabs n.t ≡ some (Writing x))). absurd (q.0 refl))
            (at_set v.tabs n.t n.t (logs (tab_at v n.t) n.slot n.is_durable) (Writing x) e)

    now_chosen : (l : LoggedPiece) (n : New l) (x : Writer X) → LoggedIs n.slot n.is_durable n.writer x → IsOfWriter x l
    now_chosen l n x g = record {
      anchor = n.anchor_is ∙ sym g.anchor;
      key0 = g.key0 ∙ offer_there n.writer.key0 n.may_log.key0 ∙ ap Some (sym n.key0_is);
      key1 = g.key1 ∙ offer_there n.writer.key1 n.may_log.key1 ∙ ap Some (sym n.key1_is);
      offer = g.offer ∙ offer_there n.writer.offer n.may_log.offer ∙ ap Some (sym (ap Piece.offer n.piece_is));
      first = ap Piece.first n.piece_is ∙ front n.writer.published ∙ ap (λ (xs : List ℕ). first_of (xs ++ l.slot ∷ [])) (sym g.published);
      stands = inr record {
        chosen = g.chosen ∙ ap Some (sym n.piece_is);
        slot_is = g.slot_is ∙ ap Some (sym n.slot_is);
        durable = g.durable ∙ sym n.durable_is;
        place = ap Piece.place n.piece_is ∙ ap length (sym g.published);
        first = λ e. g.reserved ∙ n.may_log.first ∙ ap (λ (y : ℕ). y ∷ rest_of n.writer.reserved) (sym n.slot_is) ∙ ap (λ (xs : List ℕ). l.slot ∷ rest_of xs) (sym g.reserved);
      };
    }
      where
        front : (xs : List ℕ) → first_of (xs ++ n.writer.reserved) ≡ first_of (xs ++ l.slot ∷ [])
        front [] = ap first_of n.may_log.first ∙ sym n.slot_is
        front (y ∷ xs) = refl

    mine_after : (t : ℕ) (x : Writer X) → get_elem? (view_after v m (finding k s v m)).tabs t ≡ some (Writing x) → Follow k s v m t (tab_at v t) (Writing x) → (l : LoggedPiece) → Contains all l → l.piece.version ≡ x.version → IsOfWriter x l
    mine_after t x there (inl b) l c e = absurd (⊎_elim
        (λ (n : New l). let mw = matches_writer k s so.anchors i n.t n.writer (tab_of l n) in
        (so.anchors.held.fresh i v at x.version b.held).unknown n.writer.anchor (inl (mw.0, mw.1.version_is ∙ sym (version_of_new l n) ∙ e)))
        (λ (q : Contains log l). held_new x.version b.held l q e)
        (either l c))
    mine_after t x there (inr g) l c e = ⊎_elim
        (λ (n : New l). let same = one_version i i t n.t g.writer n.writer (my_tab t g.writer g.is) (tab_of l n) (sym g.version ∙ sym e ∙ version_of_new l n) in
        now_chosen l n x (logged_is l n x (subst (λ (p : ℕ). get_elem? (view_after v m (finding k s v m)).tabs p ≡ some (Writing x)) same.1 there)))
        (λ (q : Contains log l). stays t m t g.writer x (my_tab t g.writer g.is) g.how l (st.writers i t g.writer (my_tab t g.writer g.is) l q (e ∙ g.version)))
        (either l c)

    of_writer_after : (j t : ℕ) (x : Writer X) → IsTab s₁ j t (Writing x) → (l : LoggedPiece) → Contains all l → l.piece.version ≡ x.version → IsOfWriter x l
    of_writer_after j t x is l c e = ⊎_elim
        (λ (q : (j ≡ i) × (is.view ≡ view_after v m (finding k s v m))). let there : get_elem? (view_after v m (finding k s v m)).tabs t ≡ some (Writing x) = subst (λ (z : View X). get_elem? z.tabs t ≡ some (Writing x)) q.1 is.there in
        mine_after t x there (tabs_follow k s v m may t (Writing x) there) l c e)
        (λ (z : (get_elem? s.views j ≡ some is.view) ⊎ (is.view ≡ note_of is.view)). ⊎_elim
        (λ (q : get_elem? s.views j ≡ some is.view). other q)
        (λ (q : is.view ≡ note_of is.view). absurd (some-ne-none (Writing x) (sym (subst (λ (z : View X). get_elem? z.tabs t ≡ some (Writing x)) q is.there))))
        z)
        (view_was k s i v m j is.view is.at)
      where
        -- a view that stayed: the pass's own has become another, so that the tabs that write are of two passes, or it is as it was
        other : get_elem? s.views j ≡ some is.view → IsOfWriter x l
        other q = let old : IsTab s j t (Writing x) = record { view = is.view; at = q; there = is.there } in ⊎_elim
            (λ (n : New l). of_same old n (one_version j i t n.t x n.writer old (tab_of l n) (sym e ∙ version_of_new l n)))
            (λ (z : Contains log l). st.writers j t x old l z e)
            (either l c)
          where
            there : New l → get_elem? (after k s i v m).views i ≡ some (view_after v m (finding k s v m))
            there n = subst (λ (y : Move). get_elem? (after k s i v y).views i ≡ some (view_after v y (finding k s v y))) (sym n.logs_it) (set_here s.views i (view_after v (LogPiece n.t n.slot n.is_durable) (finding k s v (LogPiece n.t n.slot n.is_durable))) (at_length s.views i v at))

            here : j ≡ i → New l → is.view ≡ view_after v m (finding k s v m)
            here e n = some-injective is.view (view_after v m (finding k s v m)) (sym is.at ∙ ap (get_elem? (after k s i v m).views) e ∙ there n)

            of_same : IsTab s j t (Writing x) → (n : New l) → (j ≡ i) × (t ≡ n.t) → IsOfWriter x l
            of_same old n same = now_chosen l n x (logged_is l n x (subst (λ (p : ℕ). get_elem? (view_after v m (finding k s v m)).tabs p ≡ some (Writing x)) same.1 (subst (λ (z : View X). get_elem? z.tabs t ≡ some (Writing x)) (here same.0 n) is.there)))

    pub links_stand : IsPass v → LinksStand k s₁ all
    links_stand pass = record {
      new = λ l c. ⊎_elim (λ (n : New l). new_drawn l n) (λ (q : Contains log l). st.new l q) (either l c);
      stood = λ l c. sighted_later m may pass l.anchor l.piece.version (⊎_elim (λ (n : New l). new_stood l n) (λ (q : Contains log l). st.stood l q) (either l c));
      begins = begins_after;
      agree = agree_after;
      writers = of_writer_after;
    }
