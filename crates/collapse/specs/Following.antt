-- A tab follows an entry, also while it grows.
use Rattle.std.specs.Prelude.{Bool, List, [], false, take, true, ◌++◌, ◌+◌, ◌<◌, ◌∷◌, ◌≡◌, ◌≢◌, ℕ}
use Rattle.rock_disk.specs.Cell.{CellState}
use Rattle.store_rule.specs.declared.store.Pass.{Pass}
use Rattle.store_rule.specs.declared.store.Store.{Store}
use Rattle.store_rule.specs.Ground.{Offers}
use Rattle.rock_reader.specs.declared.answer.More.{More}
use Rattle.rock_reader.specs.declared.answer.More.TheVariants.{NotYet, Piece}
use Rattle.rock_reader.specs.declared.answer.More.TheVariants as more
use Rattle.rock_reader.specs.Reading.{Gave, Standing, onward}
use Rattle.collapse.specs.Sending.{Sends, SendsFront}
use Rattle.collapse.specs.declared.following.Followed.{Followed}
use Rattle.collapse.specs.declared.following.Followed.TheVariants.{End, Fault, Halted, OtherUrl, SinkFault, Waited}

-- A call that reads on: what lay in front of it before and after, what it answered, and the pass that it left.
pub record Turn (C : Type 0) : Type 0 where
  pub before : List ℕ
  pub after : List ℕ
  pub answer : More
  pub left : Pass C

-- it gave a piece, or there was nothing to give yet
abbrev pub GoesOn : More → Type 0
GoesOn (Piece count) = Unit {0}
GoesOn (NotYet epoch) = Unit {0}
GoesOn _ = ⊥

-- the bytes that it gave
abbrev pub given_by : List ℕ → More → List ℕ
given_by after (Piece count) = take count after
given_by after _ = []

-- 1 where it was a look in vain
abbrev pub looks_by : More → ℕ
looks_by (NotYet epoch) = 1
looks_by _ = 0

-- how the tab stands behind it
abbrev pub standing_by : Standing → More → Standing
standing_by e (Piece count) = onward e
standing_by e _ = e

module _ {C O : Type 0} (tells : Bool) (state : C → CellState) (offers : O → Offers) (s : Store C O) (t : ℕ) where
  -- These calls, the newest first, gave these bytes and were so many looks in vain, and the tab went on from the standing e to f.
  abbrev pub Follows : Standing → Pass C → List (Turn C) → Standing → Pass C → List ℕ → ℕ → Type 0
  Follows e p [] f q bytes looks = (f ≡ e) × (q ≡ p) × (bytes ≡ []) × (looks ≡ 0)
  Follows e p (c ∷ earlier) f q bytes looks =
      (standing : Standing) × (middle : Pass C) × (front : List ℕ) × (before : ℕ) × Follows e p earlier standing middle front before × GoesOn c.answer × Gave tells state offers s t middle standing c.before c.after c.left c.answer × (f ≡ standing_by standing c.answer) × (q ≡ c.left) × (bytes ≡ front ++ given_by c.after c.answer) × (looks ≡ before + looks_by c.answer)

  -- The tab was given these bytes, and looked so often in vain.
  pub record FollowsSome (e : Standing) (p q : Pass C) (bytes : List ℕ) (looks : ℕ) : Type 0 where
    pub turns : List (Turn C)
    pub standing : Standing
    pub follows : Follows e p turns standing q bytes looks

  -- And then there was no more to give, for this cause.
  pub record FollowsTo (e : Standing) (p q : Pass C) (bytes : List ℕ) (looks : ℕ) (answer : More) : Type 0 where
    pub middle : Pass C
    pub turns : List (Turn C)
    pub standing : Standing
    pub follows : Follows e p turns standing middle bytes looks
    pub before : List ℕ
    pub after : List ℕ
    pub ends : Gave tells state offers s t middle standing before after q answer

  -- What following came to, of a sink that took `old` before and `new` after, where it had been so often in vain before.
  module _ (e : Standing) (p q : Pass C) (sink_tells : Bool) (old new : List ℕ) (looks most : ℕ) where
    -- there was no more to give, for this cause
    pub record EndsWith (answer : More) : Type 0 where
      pub bytes : List ℕ
      pub waits : ℕ
      pub few : looks + waits < most
      pub went : FollowsTo e p q bytes waits answer
      pub sent : Sends sink_tells old new bytes

    -- the entry is of another URL, and a byte was given before or not
    pub record FindsOther (is_late : Bool) : Type 0 where
      pub ends : EndsWith more.OtherUrl
      pub early : is_late ≡ false → ends.bytes ≡ []
      pub late : is_late ≡ true → ends.bytes ≢ []

    -- there was nothing to give yet, so often as may be
    pub record LooksOnly (times : ℕ) : Type 0 where
      pub bytes : List ℕ
      pub waits : ℕ
      pub some : FollowsSome e p q bytes waits
      pub sent : Sends sink_tells old new bytes
      pub times_are : times ≡ looks + waits
      pub all : times ≡ most

    -- the sink failed
    pub record LosesSink : Type 0 where
      pub bytes : List ℕ
      pub waits : ℕ
      pub few : looks + waits < most
      pub some : FollowsSome e p q bytes waits
      pub sent : SendsFront sink_tells old new bytes

    abbrev pub FollowedAs : Followed → Type 0
    FollowedAs End = EndsWith more.End
    FollowedAs Halted = EndsWith more.Halted
    FollowedAs Fault = EndsWith more.Fault
    FollowedAs (OtherUrl is_late) = FindsOther is_late
    FollowedAs (Waited times) = LooksOnly times
    FollowedAs SinkFault = LosesSink
