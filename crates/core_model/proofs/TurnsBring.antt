-- With a turn come the pieces that were logged for its slot: each that somebody knows is known then, and nothing else comes.
use Rattle.std.proofs.Common.{◌≡◌, ◌⊎◌, inl, inr, ⊎_elim, ℕ, zero, suc, List, [], ◌∷◌, ◌++◌, sym, refl, ap, ◌∙◌, subst, arith, Bool, true, false, cond, ◌==◌, ◌&&◌, eq-eqb, ne_eqb, Contains}
use Rattle.std.proofs.lemmas.Bool.{and_from, and_parts, eqb-true, false≢true, or_cases}
use Rattle.std.proofs.lemmas.List.Elements.{Contains-append_cases, Contains-append_left, Contains-append_right}
use mathlib.Core.Option.{some, some-injective, some-ne-none}
use lib.ListN.{get_elem?}
use Rattle.link_word.specs.declared.link.Link.{Link}
use Rattle.link_word.specs.Words.{link_number}
use Rattle.link_word.proofs.Numbers.{same_link}
use Rattle.core_model.specs.declared.tab.Piece.{Piece}
use Rattle.core_model.specs.declared.view.LoggedPiece.{LoggedPiece}
use Rattle.core_model.specs.declared.view.Sight.{Sight}
use Rattle.core_model.specs.declared.view.Sight.TheVariants.{Logged, Named, Published, Stood, Wiped}
use Rattle.core_model.specs.declared.view.View.{View}
use Rattle.core_model.specs.Layout.{Setting}
use Rattle.core_model.specs.State.{State, turn_word}
use Rattle.core_model.specs.CellMoves.{all_seen, has_piece, is_logged_as, is_news, is_piece, is_sight_of, news_of, same_bool}
use Rattle.core_model.specs.Told.{TurnBrings}
use Rattle.core_model.proofs.Lists.{cons_contains, contains_none}

-- Pieces that are the same in all their parts are one.

module _ (p q : Piece) where
  abbrev offers : Bool
  offers = p.offer == q.offer

  abbrev versions : Bool
  versions = p.version == q.version

  abbrev places : Bool
  places = p.place == q.place

  abbrev firsts : Bool
  firsts = p.first == q.first

  abbrev links : Bool
  links = link_number p.next == link_number q.next

  abbrev piece_of : ℕ → ℕ → ℕ → ℕ → Link → Piece
  piece_of offer version place first next = record { offer = offer; version = version; place = place; first = first; next = next }

  same_piece : is_piece p q ≡ true → p ≡ q
  same_piece h = let a = and_parts offers (versions && (places && (firsts && links))) h in let b = and_parts versions (places && (firsts && links)) a.1 in
      let c = and_parts places (firsts && links) b.1 in let d = and_parts firsts links c.1 in
      ap (λ (z : ℕ). piece_of z p.version p.place p.first p.next) (eqb-true p.offer q.offer a.0)
      ∙ (ap (λ (z : ℕ). piece_of q.offer z p.place p.first p.next) (eqb-true p.version q.version b.0)
      ∙ (ap (λ (z : ℕ). piece_of q.offer q.version z p.first p.next) (eqb-true p.place q.place c.0)
      ∙ (ap (λ (z : ℕ). piece_of q.offer q.version q.place z p.next) (eqb-true p.first q.first d.0)
      ∙ ap (λ (z : Link). piece_of q.offer q.version q.place q.first z) (same_link p.next q.next (eqb-true (link_number p.next) (link_number q.next) d.1)))))

same_bools : (a b : Bool) → same_bool a b ≡ true → a ≡ b
same_bools true b h = sym h
same_bools false true h = h
same_bools false false h = refl

module _ (l m : LoggedPiece) where
  abbrev numbers : Bool
  numbers = l.number == m.number

  abbrev anchors : Bool
  anchors = l.anchor == m.anchor

  abbrev keys0 : Bool
  keys0 = l.key0 == m.key0

  abbrev keys1 : Bool
  keys1 = l.key1 == m.key1

  abbrev slots : Bool
  slots = l.slot == m.slot

  abbrev durables : Bool
  durables = same_bool l.is_durable m.is_durable

  abbrev pieces : Bool
  pieces = is_piece l.piece m.piece

  abbrev logged_of : ℕ → ℕ → ℕ → ℕ → ℕ → Bool → Piece → LoggedPiece
  logged_of number anchor key0 key1 slot durable piece = record { number = number; anchor = anchor; key0 = key0; key1 = key1; slot = slot; is_durable = durable; piece = piece }

  same_logged : is_logged_as l m ≡ true → l ≡ m
  same_logged h = let a = and_parts numbers (anchors && (keys0 && (keys1 && (slots && (durables && pieces))))) h in let b = and_parts anchors (keys0 && (keys1 && (slots && (durables && pieces)))) a.1 in
      let c = and_parts keys0 (keys1 && (slots && (durables && pieces))) b.1 in let d = and_parts keys1 (slots && (durables && pieces)) c.1 in
      let e = and_parts slots (durables && pieces) d.1 in let f = and_parts durables pieces e.1 in
      ap (λ (z : ℕ). logged_of z l.anchor l.key0 l.key1 l.slot l.is_durable l.piece) (eqb-true l.number m.number a.0)
      ∙ (ap (λ (z : ℕ). logged_of m.number z l.key0 l.key1 l.slot l.is_durable l.piece) (eqb-true l.anchor m.anchor b.0)
      ∙ (ap (λ (z : ℕ). logged_of m.number m.anchor z l.key1 l.slot l.is_durable l.piece) (eqb-true l.key0 m.key0 c.0)
      ∙ (ap (λ (z : ℕ). logged_of m.number m.anchor m.key0 z l.slot l.is_durable l.piece) (eqb-true l.key1 m.key1 d.0)
      ∙ (ap (λ (z : ℕ). logged_of m.number m.anchor m.key0 m.key1 z l.is_durable l.piece) (eqb-true l.slot m.slot e.0)
      ∙ (ap (λ (z : Bool). logged_of m.number m.anchor m.key0 m.key1 m.slot z l.piece) (same_bools l.is_durable m.is_durable f.0)
      ∙ ap (λ (z : Piece). logged_of m.number m.anchor m.key0 m.key1 m.slot m.is_durable z) (same_piece l.piece m.piece f.1))))))

-- What is among the known ones.

sight_is : (l : LoggedPiece) (x : Sight) → is_sight_of l x ≡ true → x ≡ Logged l
sight_is l (Logged m) h = ap Logged (sym (same_logged l m h))
sight_is l (Stood a e) h = absurd (false≢true h)
sight_is l (Named a version side value) h = absurd (false≢true h)
sight_is l (Published a version many) h = absurd (false≢true h)
sight_is l (Wiped a version slot) h = absurd (false≢true h)

head_of : (x : Sight) (xs : List Sight) → Contains (x ∷ xs) x
head_of x xs = (0, omega arith, refl)

has_then : (l : LoggedPiece) (xs : List Sight) → has_piece l xs ≡ true → Contains xs (Logged l)
has_then l [] h = absurd (false≢true h)
has_then l (x ∷ xs) h = ⊎_elim
    (λ (q : is_sight_of l x ≡ true). subst (Contains (x ∷ xs)) (sight_is l x q) (head_of x xs))
    (λ (q : has_piece l xs ≡ true). Contains-append_right (x ∷ []) xs (Logged l) (has_then l xs q))
    (or_cases (is_sight_of l x) (has_piece l xs) h)

no_news : (slot : ℕ) (known : List Sight) (l : LoggedPiece) → l.slot ≡ slot → is_news slot known (Logged l) ≡ false → Contains known (Logged l)
no_news slot known l e h = by_has (has_piece l known) refl
  where
    by_has : (b : Bool) → has_piece l known ≡ b → Contains known (Logged l)
    by_has true q = has_then l known q
    by_has false q = absurd (false≢true (sym h ∙ and_from (l.slot == slot) (cond (has_piece l known) false true) (eq-eqb l.slot slot e) (ap (λ (b : Bool). cond b false true) q)))

-- What is news.

abbrev pub IsOfSlot : ℕ → Sight → Type 0
IsOfSlot slot x = (l : LoggedPiece) × (x ≡ Logged l) × (l.slot ≡ slot)

news_is : (slot : ℕ) (known : List Sight) (x : Sight) → is_news slot known x ≡ true → IsOfSlot slot x
news_is slot known (Logged l) h = (l, refl, eqb-true l.slot slot (and_parts (l.slot == slot) (cond (has_piece l known) false true) h).0)
news_is slot known (Stood a e) h = absurd (false≢true h)
news_is slot known (Named a version side value) h = absurd (false≢true h)
news_is slot known (Published a version many) h = absurd (false≢true h)
news_is slot known (Wiped a version other) h = absurd (false≢true h)

module _ (slot : ℕ) (known : List Sight) (y : Sight) (ys news : List Sight) where
  later : (x : Sight) → IsOfSlot slot x × Contains ys x → IsOfSlot slot x × Contains (y ∷ ys) x
  later x h = (h.0, Contains-append_right (y ∷ []) ys x h.1)

  news_next : (x : Sight) → (Contains news x → IsOfSlot slot x × Contains ys x) → (b : Bool) → is_news slot (news ++ known) y ≡ b → Contains (cond b (y ∷ news) news) x
      → IsOfSlot slot x × Contains (y ∷ ys) x
  news_next x r true e c = ⊎_elim
      (λ (q : y ≡ x). subst (λ (z : Sight). IsOfSlot slot z × Contains (y ∷ ys) z) q (news_is slot (news ++ known) y e, head_of y ys))
      (λ (q : Contains news x). later x (r q))
      (cons_contains y x news c)
  news_next x r false e c = later x (r c)

  brings_next : (l : LoggedPiece) → l.slot ≡ slot → (Contains ys (Logged l) → Contains news (Logged l) ⊎ Contains known (Logged l)) → (b : Bool) → is_news slot (news ++ known) y ≡ b
      → Contains (y ∷ ys) (Logged l) → Contains (cond b (y ∷ news) news) (Logged l) ⊎ Contains known (Logged l)
  brings_next l e r true f c = ⊎_elim
      (λ (q : y ≡ Logged l). inl (subst (Contains (y ∷ news)) q (head_of y news)))
      (λ (q : Contains ys (Logged l)). ⊎_elim
      (λ (z : Contains news (Logged l)). inl (Contains-append_right (y ∷ []) news (Logged l) z))
      (λ (z : Contains known (Logged l)). inr z)
      (r q))
      (cons_contains y (Logged l) ys c)
  brings_next l e r false f c = ⊎_elim
      (λ (q : y ≡ Logged l). Contains-append_cases news known (Logged l) (no_news slot (news ++ known) l e (subst (λ (z : Sight). is_news slot (news ++ known) z ≡ false) q f)))
      (λ (q : Contains ys (Logged l)). r q)
      (cons_contains y (Logged l) ys c)

news_are : (slot : ℕ) (known xs : List Sight) (x : Sight) → Contains (news_of slot known xs) x → IsOfSlot slot x × Contains xs x
news_are slot known [] x c = absurd (contains_none x c)
news_are slot known (y ∷ ys) x c = news_next slot known y ys (news_of slot known ys) x (news_are slot known ys x) (is_news slot (news_of slot known ys ++ known) y) refl c

brings : (slot : ℕ) (known xs : List Sight) (l : LoggedPiece) → l.slot ≡ slot → Contains xs (Logged l) → Contains (news_of slot known xs) (Logged l) ⊎ Contains known (Logged l)
brings slot known [] l e c = absurd (contains_none (Logged l) c)
brings slot known (y ∷ ys) l e c = brings_next slot known y ys (news_of slot known ys) l e (brings slot known ys l e) (is_news slot (news_of slot known ys ++ known) y) refl c

-- What passes and notes have seen.

-- a piece that was logged for the slot, and a view that had seen it
pub record IsBrought {X : Type 0} (slot : ℕ) (views : List (View X)) (x : Sight) : Type 0 where
  pub piece : LoggedPiece
  pub is : x ≡ Logged piece
  pub slot_is : piece.slot ≡ slot
  pub i : ℕ
  pub view : View X
  pub at : get_elem? views i ≡ some view
  pub seen : Contains view.seen x

abbrev SeenIn : {X : Type 0} → List (View X) → Sight → Type 0
SeenIn {X} views x = (i : ℕ) × (v : View X) × (get_elem? views i ≡ some v) × Contains v.seen x

module _ {X : Type 0} where
  seen_by_all : (views : List (View X)) (j : ℕ) (u : View X) → get_elem? views j ≡ some u → (x : Sight) → Contains u.seen x → Contains (all_seen views) x
  seen_by_all [] j u e x c = absurd (some-ne-none u (sym e))
  seen_by_all (v ∷ vs) zero u e x c = Contains-append_left v.seen (all_seen vs) x (subst (λ (z : View X). Contains z.seen x) (sym (some-injective v u e)) c)
  seen_by_all (v ∷ vs) (suc j) u e x c = Contains-append_right v.seen (all_seen vs) x (seen_by_all vs j u e x c)

  seen_by_one : (views : List (View X)) (x : Sight) → Contains (all_seen views) x → SeenIn views x
  seen_by_one [] x c = absurd (contains_none x c)
  seen_by_one (v ∷ vs) x c = ⊎_elim
      (λ (q : Contains v.seen x). (0, v, refl, q))
      (λ (q : Contains (all_seen vs) x). let h = seen_by_one vs x q in (suc h.0, h.1, h.2, h.3))
      (Contains-append_cases v.seen (all_seen vs) x c)

  -- what a try brings, where it found the turn free or taken
  pub brought : (slot : ℕ) (known : List Sight) (views : List (View X)) (free : Bool) (x : Sight) → Contains (cond free (news_of slot known (all_seen views)) []) x → IsBrought slot views x
  brought slot known views true x c = let h = news_are slot known (all_seen views) x c in let q = seen_by_one views x h.1 in
      record { piece = h.0.0; is = h.0.1; slot_is = h.0.2; i = q.0; view = q.1; at = q.2; seen = q.3 }
  brought slot known views false x c = absurd (contains_none x c)

module _ {X : Type 0} (k : Setting X) (s : State X) (v : View X) (slot : ℕ) where
  abbrev found : Bool → List Sight
  found free = cond free (news_of slot v.seen (all_seen s.views)) []

  known_then : (free : Bool) → free ≡ true → (j : ℕ) (u : View X) → get_elem? s.views j ≡ some u → (l : LoggedPiece) → Contains u.seen (Logged l) → l.slot ≡ slot → Contains (found free ++ v.seen) (Logged l)
  known_then true e j u at l c is = ⊎_elim
      (λ (q : Contains (found true) (Logged l)). Contains-append_left (found true) v.seen (Logged l) q)
      (λ (q : Contains v.seen (Logged l)). Contains-append_right (found true) v.seen (Logged l) q)
      (brings slot v.seen (all_seen s.views) l is (seen_by_all s.views j u at (Logged l) c))
  known_then false e j u at l c is = absurd (false≢true e)

  pub turn_brings : (t : ℕ) → TurnBrings k s v t slot (turn_word k s slot)
  turn_brings t = record {
    each = λ free j u at l c is. known_then (turn_word k s slot == 0) (eq-eqb (turn_word k s slot) 0 free) j u at l c is;
    only = λ x c. let q = brought slot v.seen s.views (turn_word k s slot == 0) x c in (q.piece, q.is, q.slot_is);
    lost = λ taken. ap (λ (z : Bool). found z ++ v.seen) (ne_eqb (turn_word k s slot) 0 taken);
  }
