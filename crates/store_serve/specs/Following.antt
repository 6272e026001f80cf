-- A tab reads on, as far as its entry goes.
use Rattle.std.specs.Prelude.{Bool, List, [], take, ◌++◌, ◌∷◌, ◌≡◌, ◌≢◌, ℕ}
use Rattle.rock_disk.specs.Cell.{CellState}
use Rattle.store_rule.specs.declared.store.Pass.{Pass}
use Rattle.store_rule.specs.declared.store.Store.{Store}
use Rattle.store_rule.specs.Ground.{Offers}
use Rattle.rock_reader.specs.declared.answer.More.{More}
use Rattle.rock_reader.specs.declared.answer.More.TheVariants.{Piece}
use Rattle.rock_reader.specs.Reading.{Gave, IsPiece, ReadsAs, Standing, onward}

-- a call gave the first so many of these bytes, where others stood before, and left this pass
pub record Given (C : Type 0) : Type 0 where
  pub before : List ℕ
  pub after : List ℕ
  pub count : ℕ
  pub left : Pass C

module _ {C O : Type 0} (tells : Bool) (state : C → CellState) (offers : O → Offers) (s : Store C O) (t : ℕ) where
  -- These calls, the newest first, gave these bytes, each those of a slot, and the tab went on from the standing e to f.
  abbrev pub Gives : Standing → Pass C → List (Given C) → Standing → Pass C → List ℕ → Type 0
  Gives e p [] f q bytes = (f ≡ e) × (q ≡ p) × (bytes ≡ [])
  Gives e p (c ∷ earlier) f q bytes =
      (standing : Standing) × (middle : Pass C) × (front : List ℕ) × Gives e p earlier standing middle front × IsPiece tells state offers s t middle standing c.before c.after c.left c.count × (f ≡ onward standing) × (q ≡ c.left) × (bytes ≡ front ++ take c.count c.after)

  -- The tab was given these bytes, and reads on.
  pub record GaveSome (e : Standing) (p q : Pass C) (bytes : List ℕ) : Type 0 where
    pub calls : List (Given C)
    pub standing : Standing
    pub gives : Gives e p calls standing q bytes
    pub reads : ReadsAs tells state offers s q t standing

  -- The tab was given these bytes, and then there was no more to give, for this cause.
  pub record WentOn (e : Standing) (p q : Pass C) (bytes : List ℕ) (answer : More) : Type 0 where
    pub calls : List (Given C)
    pub standing : Standing
    pub middle : Pass C
    pub gives : Gives e p calls standing middle bytes
    pub before : List ℕ
    pub after : List ℕ
    pub ends : Gave tells state offers s t middle standing before after q answer
    pub no_piece : (count : ℕ) → answer ≢ Piece count
    pub last : Standing
    pub reads : ReadsAs tells state offers s q t last
