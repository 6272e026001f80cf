-- Slots whose pieces are walked from the first one on.
use Rattle.std.proofs.Common.{◌≡◌, ℕ, ◌+◌, ◌<◌, ◌≤◌, List, [], ◌∷◌, ◌++◌, length, refl, sym, ap, ◌∙◌, subst, arith, append_assoc, Contains, Option, None, Some, false, ⊎_elim, ne_eqb}
use Rattle.std.specs.Prelude.{MatchOption, nat_eq}
use Rattle.std.specs.List.{AllByRecursion, IsDistinct}
use Rattle.link_word.specs.declared.link.Link.{Link}
use Rattle.link_word.specs.declared.link.Link.TheVariants.{Last, Next}
use Rattle.core_model.specs.declared.view.LoggedPiece.{LoggedPiece}
use Rattle.core_model.specs.Chains.{link_to}
use Rattle.core_model.proofs.Lists.{cons_contains, contains_none}
use Rattle.named_rebuild.specs.declared.contents.FirstContent.{FirstContent}
use Rattle.named_rebuild.specs.declared.contents.FirstContent.TheVariants.{Logged}
use Rattle.named_rebuild.specs.Contents.{AreContents, content_at}
use Rattle.named_rebuild.specs.Entries.{ArePieces, IsPieceAt}

pub some_of : {X : Type 0} (A : Type 0) (B : X → Type 0) {o : Option X} {x : X} → o ≡ Some x → MatchOption o A B → B x
some_of A B is told = subst (λ o. MatchOption o A B) is told

pub none_of : {X : Type 0} (A : Type 0) (B : X → Type 0) {o : Option X} → o ≡ None → MatchOption o A B → A
none_of A B is told = subst (λ o. MatchOption o A B) is told

pub same_piece : (contents : List FirstContent) (s : ℕ) (l m : LoggedPiece) → content_at contents s ≡ Logged l → content_at contents s ≡ Logged m → l ≡ m
same_piece contents s l m e f = one l m (sym e ∙ f)
  where
    one : (l m : LoggedPiece) → Logged l ≡ Logged m → l ≡ m
    one l m h = cc

last_not_next : (s : ℕ) → Last ≡ Next s → ⊥
last_not_next s e = cc

same_next : (s t : ℕ) → Next s ≡ Next t → s ≡ t
same_next s t e = cc

module _ (contents : List FirstContent) (head : LoggedPiece) where
  -- so far the walk came over `chain` and is at a slot, and every entry that begins there goes the same way
  pub record Walked (first : ℕ) (chain : List ℕ) (at place : ℕ) : Type 0 where
    pub few : place ≤ length contents
    pub begins : (tail : List ℕ) → (behind : List ℕ) × (chain ++ at ∷ tail ≡ first ∷ behind)
    pub pieces : (tail : List ℕ) → ArePieces contents head place (at ∷ tail) → ArePieces contents head 0 (chain ++ at ∷ tail)
    pub every : (behind : List ℕ) → ArePieces contents head 0 (first ∷ behind) → (tail : List ℕ) × (first ∷ behind ≡ chain ++ at ∷ tail) × ArePieces contents head place (at ∷ tail)

  pub at_first : (first : ℕ) (chain : List ℕ) → chain ≡ [] → Walked first chain first 0
  at_first first chain none = subst (λ (xs : List ℕ). Walked first xs first 0) (sym none) record {
    few = omega arith;
    begins = λ tail. (tail, refl);
    pieces = λ tail h. h;
    every = λ behind h. (behind, refl, h);
  }

  -- the slot goes on in the other one
  goes_on : (at next place : ℕ) (tail : List ℕ) → IsPieceAt contents head place at (Next next) → ArePieces contents head place (at ∷ tail) → (behind : List ℕ) × (tail ≡ next ∷ behind) × ArePieces contents head (place + 1) (next ∷ behind)
  goes_on at next place [] here h = absurd (last_not_next next (sym h.0.link_is ∙ ap (λ (l : LoggedPiece). l.piece.next) (same_piece contents at h.0.piece here.piece h.0.there here.there) ∙ here.link_is))
  goes_on at next place (t ∷ tail) here h =
      let is : t ≡ next = same_next t next (sym h.0.link_is ∙ ap (λ (l : LoggedPiece). l.piece.next) (same_piece contents at h.0.piece here.piece h.0.there here.there) ∙ here.link_is) in
      (tail, ap (λ (x : ℕ). x ∷ tail) is, subst (λ (x : ℕ). ArePieces contents head (place + 1) (x ∷ tail)) is h.1)

  pub one_more : (first : ℕ) (chain grown : List ℕ) (at next place : ℕ) → Walked first chain at place → place < length contents → grown ≡ chain ++ at ∷ [] → IsPieceAt contents head place at (Next next) → Walked first grown next (place + 1)
  one_more first chain grown at next place w lt grows here = subst (λ (xs : List ℕ). Walked first xs next (place + 1)) (sym grows) record {
    few = omega arith;
    begins = λ tail. let b = w.begins (next ∷ tail) in (b.0, append_assoc chain (at ∷ []) (next ∷ tail) ∙ b.1);
    pieces = λ tail h. subst (ArePieces contents head 0) (sym (append_assoc chain (at ∷ []) (next ∷ tail))) (w.pieces (next ∷ tail) (here, h));
    every = λ behind h. let q = w.every behind h in let r = goes_on at next place q.0 here q.2 in
        (r.0, q.1 ∙ ap (λ (xs : List ℕ). chain ++ at ∷ xs) r.1 ∙ sym (append_assoc chain (at ∷ []) (next ∷ r.0)), r.2);
  }

  pub ended : (first : ℕ) (chain grown : List ℕ) (at place : ℕ) → Walked first chain at place → grown ≡ chain ++ at ∷ [] → IsPieceAt contents head place at Last
      → (behind : List ℕ) × (grown ≡ first ∷ behind) × ArePieces contents head 0 (first ∷ behind)
  ended first chain grown at place w grows here = let b = w.begins [] in (b.0, grows ∙ b.1, subst (ArePieces contents head 0) b.1 (w.pieces [] (here, tt)))

  -- there is no entry where the walk comes to a slot that has not the piece for it
  pub strays : (first : ℕ) (chain : List ℕ) (at place : ℕ) → Walked first chain at place → ((link : Link) → IsPieceAt contents head place at link → ⊥) → (behind : List ℕ) → ArePieces contents head 0 (first ∷ behind) → ⊥
  strays first chain at place w none behind h = let q = w.every behind h in none (link_to q.0 Last) q.2.0

  -- or the piece has no written link
  pub unwritten : (first : ℕ) (chain : List ℕ) (at place : ℕ) (link : Link) → Walked first chain at place → IsPieceAt contents head place at link → ((tail : List ℕ) → link_to tail Last ≡ link → ⊥)
      → (behind : List ℕ) → ArePieces contents head 0 (first ∷ behind) → ⊥
  unwritten first chain at place link w here none behind h = let q = w.every behind h in
      none q.0 (sym q.2.0.link_is ∙ ap (λ (l : LoggedPiece). l.piece.next) (same_piece contents at q.2.0.piece here.piece q.2.0.there here.there) ∙ here.link_is)

  -- or there is no such place
  pub past : (first : ℕ) (chain : List ℕ) (at place : ℕ) → AreContents (length contents) contents → Walked first chain at place → length contents ≤ place → (behind : List ℕ) → ArePieces contents head 0 (first ∷ behind) → ⊥
  past first chain at place are w all = strays first chain at place w (λ link here. let low = (are.pieces at here.piece here.there).place in let is = here.part.place_is in omega arith)

  -- a slot of an entry holds one of its pieces, from a place on
  pub piece_in : (place : ℕ) (xs : List ℕ) (s : ℕ) → ArePieces contents head place xs → Contains xs s → (q : ℕ) × (place ≤ q) × ((link : Link) × IsPieceAt contents head q s link)
  piece_in place [] s h has = absurd (contains_none s has)
  piece_in place (x ∷ xs) s h has = ⊎_elim
      (λ (e : x ≡ s). (place, (omega arith), (link_to xs Last, subst (λ (y : ℕ). IsPieceAt contents head place y (link_to xs Last)) e h.0)))
      (λ (later : Contains xs s). let r = piece_in (place + 1) xs s h.1 later in (r.0, (let z = r.1 in omega arith), r.2))
      (cons_contains x s xs has)

  apart_from : (place : ℕ) (s : ℕ) (link : Link) (xs : List ℕ) → IsPieceAt contents head place s link → (next : ℕ) → place < next → ArePieces contents head next xs → AllByRecursion (λ y. nat_eq s y ≡ false) xs
  apart_from place s link [] here next lt h = tt
  apart_from place s link (x ∷ xs) here next lt h = (
    ne_eqb s x (λ e. let same = same_piece contents s here.piece h.0.piece here.there (ap (content_at contents) e ∙ h.0.there) in let p = here.part.place_is in let q = h.0.part.place_is in let r = ap (λ (l : LoggedPiece). l.piece.place) same in omega arith),
    apart_from place s link xs here (next + 1) (omega arith) h.1,
  )

  -- no slot comes twice
  pub once : (place : ℕ) (xs : List ℕ) → ArePieces contents head place xs → IsDistinct nat_eq xs
  unfolding IsDistinct
  once place [] h = tt
  once place (x ∷ xs) h = (apart_from place x (link_to xs Last) xs h.0 (place + 1) (omega arith) h.1, once (place + 1) xs h.1)
