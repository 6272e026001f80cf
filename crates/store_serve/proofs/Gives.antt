-- A tab is given the bytes of one slot after the other.
use Rattle.std.proofs.Common.{◌≡◌, ℕ, ◌++◌, ◌∙◌, [], ◌∷◌, List, Bool, ap, inl, inr, refl, subst, sym, take}
use Rattle.std.specs.Prelude.{Err, Ok, OnErr, Result, ◌≢◌}
use Rattle.std.proofs.lemmas.List.{append_assoc}
use Rattle.rock_disk.specs.Cell.{CellState}
use Rattle.store_rule.specs.declared.store.Pass.{Pass}
use Rattle.store_rule.specs.declared.store.Store.{Store}
use Rattle.store_rule.specs.Ground.{Offers}
use Rattle.store_rule.specs.Passes.{IsOf}
use Rattle.rock_reader.specs.declared.answer.More.{More}
use Rattle.rock_reader.specs.declared.answer.More.TheVariants.{End, Fault, Halted, NotYet, OtherUrl, Piece}
use Rattle.rock_reader.specs.Reading.{Gave, IsPiece, ReadsAs, Standing, onward}
use Rattle.rock_reader.specs.Wanted.{FollowsReader}
use Rattle.store_serve.specs.Following.{GaveSome, Given, Gives, WentOn}

pub no_fault : {r : More} {count : ℕ} → r ≡ Piece count → r ≢ Fault
no_fault is w = cc

pub on_err : {T E : Type 0} (A : Type 0) (r : Result T E) → A → OnErr r A
on_err A (Ok x) a = tt
on_err A (Err e) a = a

module _ {C O : Type 0} (tells : Bool) (state : C → CellState) (offers : O → Offers) (s : Store C O) (t : ℕ) where
  -- the tab was given what stands behind `front` in `all`, and reads on
  pub record HasRead (e : Standing) (p q : Pass C) (front all : List ℕ) : Type 0 where
    pub calls : List (Given C)
    pub standing : Standing
    pub bytes : List ℕ
    pub gives : Gives tells state offers s t e p calls standing q bytes
    pub all_is : all ≡ front ++ bytes
    pub reads : ReadsAs tells state offers s q t standing

  pub read_none : (e : Standing) (p : Pass C) (front : List ℕ) → ReadsAs tells state offers s p t e → HasRead e p p front front
  read_none e p front reads = record { calls = []; standing = e; bytes = []; gives = (refl, refl, refl); all_is = nothing_behind front; reads = reads }
    where
      nothing_behind : (xs : List ℕ) → xs ≡ xs ++ []
      nothing_behind [] = refl
      nothing_behind (x ∷ xs) = ap (λ z. x ∷ z) (nothing_behind xs)

  pub read_one : (e : Standing) (p u q : Pass C) (front all more before after : List ℕ) (count : ℕ) (h : HasRead e p u front all) → IsPiece tells state offers s t u h.standing before after q count → more ≡ all ++ take count after
      → HasRead e p q front more
  read_one e p u q front all more before after count h piece grown = record {
    calls = record { before = before; after = after; count = count; left = q } ∷ h.calls;
    standing = onward h.standing;
    bytes = h.bytes ++ take count after;
    gives = (h.standing, u, h.bytes, h.gives, piece, refl, refl, refl);
    all_is = grown ∙ ap (λ z. z ++ take count after) h.all_is ∙ append_assoc front h.bytes (take count after);
    reads = piece.reads;
  }

  pub some_given : (e : Standing) (p u q : Pass C) (front all before after : List ℕ) (count : ℕ) (h : HasRead e p u front all) → IsPiece tells state offers s t u h.standing before after q count → (bytes : List ℕ) × GaveSome tells state offers s t e p q bytes
  some_given e p u q front all before after count h piece = (
    h.bytes ++ take count after,
    record {
      calls = record { before = before; after = after; count = count; left = q } ∷ h.calls;
      standing = onward h.standing;
      gives = (h.standing, u, h.bytes, h.gives, piece, refl, refl, refl);
      reads = piece.reads;
    },
  )

  -- whatever else the answer is, the tab reads still
  pub reads_after : (e : Standing) (p q : Pass C) (before after : List ℕ) (answer : More) → ReadsAs tells state offers s p t e → Gave tells state offers s t p e before after q answer → ((count : ℕ) → answer ≢ Piece count)
      → (f : Standing) × ReadsAs tells state offers s q t f
  reads_after e p q before after (Piece count) reads gave none = absurd (none count refl)
  reads_after e p q before after (NotYet epoch) reads gave none = (e, gave.stays)
  reads_after e p q before after End reads gave none = (e, subst (λ (z : Pass C). ReadsAs tells state offers s z t e) (sym gave.still) reads)
  reads_after e p q before after Halted reads gave none = (_, gave.stays)
  reads_after e p q before after OtherUrl reads (inl stays) none = (e, subst (λ (z : Pass C). ReadsAs tells state offers s z t e) (sym stays.still) reads)
  reads_after e p q before after OtherUrl reads (inr turns) none = (_, turns.reads)
  reads_after e p q before after Fault reads gave none = (e, gave.stays)

  pub went_on : (e : Standing) (p u q : Pass C) (front all before after : List ℕ) (answer : More) (h : HasRead e p u front all) → Gave tells state offers s t u h.standing before after q answer → ((count : ℕ) → answer ≢ Piece count)
      → (bytes : List ℕ) × (all ≡ front ++ bytes) × WentOn tells state offers s t e p q bytes answer
  went_on e p u q front all before after answer h gave none = let last = reads_after h.standing u q before after answer h.reads gave none in (
    h.bytes,
    h.all_is,
    record {
      calls = h.calls;
      standing = h.standing;
      middle = u;
      gives = h.gives;
      before = before;
      after = after;
      ends = gave;
      no_piece = none;
      last = last.0;
      reads = last.1;
    },
  )

  pub reader_none : (p : Pass C) → IsOf tells state offers s p → FollowsReader tells state offers s t p p
  reader_none p own = record { own = own; others = λ j ne far. refl; left = λ j ne far. refl; places = refl; desks = λ j ne far. (refl, refl); hand = refl; cells = refl }

  pub reader_on : (p u q : Pass C) → FollowsReader tells state offers s t p u → FollowsReader tells state offers s t u q → FollowsReader tells state offers s t p q
  reader_on p u q a b = record {
    own = b.own;
    others = λ j ne far. b.others j ne far ∙ a.others j ne far;
    left = λ j ne far. b.left j ne far ∙ a.left j ne far;
    places = b.places ∙ a.places;
    desks = λ j ne far. let x = a.desks j ne far in let y = b.desks j ne far in (y.0 ∙ x.0, y.1 ∙ x.1);
    hand = b.hand ∙ a.hand;
    cells = b.cells ∙ a.cells;
  }
