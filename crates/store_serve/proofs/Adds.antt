-- Bytes are taken by calls, one behind the other.
use Rattle.std.proofs.Common.{◌<◌, ◌≡◌, ℕ, ◌+◌, ◌-◌, ◌≤◌, ◌∙◌, [], ◌∷◌, List, Bool, ap, arith, drop, length, refl, subst, sym, take}
use Rattle.std.specs.Prelude.{Err, IsErrOf, Result}
use Rattle.rock_disk.specs.Cell.{CellState}
use Rattle.store_rule.specs.declared.store.Pass.{Pass}
use Rattle.store_rule.specs.declared.store.Store.{Store}
use Rattle.core_model.specs.declared.view.View.{View}
use Rattle.store_rule.specs.Ground.{Ground, Offers}
use Rattle.store_rule.specs.Passes.{IsOf}
use Rattle.rock_writer.specs.declared.fault.WriteFault.{WriteFault}
use Rattle.rock_writer.specs.Appending.{Appended, MayAppend, NotAppended}
use Rattle.rock_writer.specs.Durable.{LoggedSoFar}
use Rattle.rock_writer.specs.Entries.{Entry, WritesAs, with_taken}
use Rattle.rock_writer.specs.Passes.{FollowsWriting}
use Rattle.store_serve.specs.Adding.{Added, MayAdd, NotAdded, StoppedBelow, taken_on}

pub same_error : {T E : Type 0} {f g : E} → ◌≡◌ {A = Result T E} (Err f) (Err g) → f ≡ g
same_error e = cc

-- an error is one of every such result
pub error_as : {T U E : Type 0} {f g : E} → IsErrOf {T = T} (Err f) g → IsErrOf {T = U} (Err f) g
error_as w = ap Err (same_error w)

-- what is known where so many bytes were taken
pub more_taken : {X : Type 0} (g : Ground X) (e : Entry) (v : View X) (n m : ℕ) → n ≡ m → LoggedSoFar g (with_taken e n) v → LoggedSoFar g (with_taken e m) v
more_taken g e v n m same h = subst (λ (k : ℕ). LoggedSoFar g (with_taken e k) v) same h

module _ {C O : Type 0} (tells : Bool) (state : C → CellState) (offers : O → Offers) (s : Store C O) (t : ℕ) where
  -- these are the next bytes of the body
  pub may_append : (e : Entry) (body : List ℕ) (from upto : ℕ) (p : Pass C) (bytes : List ℕ) → MayAdd tells state offers s t e body from upto p → bytes ≡ take (length bytes) (drop from body)
      → MayAppend tells state offers s t e bytes p
  may_append e body from upto p bytes may next = record {
    writes = may.writes;
    continues = subst (λ (z : List ℕ). bytes ≡ take (length bytes) (drop e.taken z)) (sym may.body_is) (subst (λ (n : ℕ). bytes ≡ take (length bytes) (drop n body)) (sym may.from_is) next);
  }

  module _ (e : Entry) (p : Pass C) where
    -- nothing was taken yet
    pub added_none : WritesAs tells state offers s p t e → (n : ℕ) → n ≡ 0 → Added tells state offers s t e p p n
    added_none writes n none = record {
      calls = [];
      took = (refl, none);
      writes = subst (λ (k : ℕ). WritesAs tells state offers s p t (with_taken e k)) (let z = none in omega arith) writes;
    }

    -- and one call took some more
    pub added_on : (u q : Pass C) (total count n : ℕ) (bytes : List ℕ) → Added tells state offers s t e p u total → Appended tells state offers s t (taken_on e total) bytes u q count → n ≡ total + count
        → Added tells state offers s t e p q n
    added_on u q total count n bytes added appended sum = record {
      calls = record { bytes = bytes; count = count; after = q } ∷ added.calls;
      took = (u, total, added.took, appended, refl, sum);
      writes = subst (λ (k : ℕ). WritesAs tells state offers s q t (with_taken e k)) (let z = sum in omega arith) appended.writes;
    }

    -- or gave the entry up
    pub added_not : (u q : Pass C) (total : ℕ) (bytes : List ℕ) (fault : WriteFault) → Added tells state offers s t e p u total → NotAppended tells state offers s t (taken_on e total) bytes u q fault
        → NotAdded tells state offers s t e p q fault
    added_not u q total bytes fault added stopped = record { calls = added.calls; middle = u; total = total; took = added.took; bytes = bytes; stopped = stopped }

    pub added_below : (u q : Pass C) (total most : ℕ) (bytes : List ℕ) (fault : WriteFault) → total < most → Added tells state offers s t e p u total → NotAppended tells state offers s t (taken_on e total) bytes u q fault
        → StoppedBelow tells state offers s t e p q most fault
    added_below u q total most bytes fault less added stopped = record { not_added = record { calls = added.calls; middle = u; total = total; took = added.took; bytes = bytes; stopped = stopped }; fewer = less }

    -- so more may be taken
    pub adds_still : (body : List ℕ) (from upto taken : ℕ) (u : Pass C) → MayAdd tells state offers s t e body from upto p → from ≤ taken → taken ≤ upto → Added tells state offers s t e p u (taken - from)
        → MayAdd tells state offers s t (taken_on e (taken - from)) body taken upto u
    adds_still body from upto taken u may over under added = record {
      writes = added.writes;
      body_is = may.body_is;
      from_is = let z = may.from_is in omega arith;
      order = under;
      inside = may.inside;
    }

  pub follows_none : (p : Pass C) → IsOf tells state offers s p → FollowsWriting tells state offers s t p p
  follows_none p own = record { own = own; others = λ j ne far. refl; left = λ j ne far. refl; places = refl; desks = λ j ne. refl; cells = refl }

  pub follows_on : (p u q : Pass C) → FollowsWriting tells state offers s t p u → FollowsWriting tells state offers s t u q → FollowsWriting tells state offers s t p q
  follows_on p u q a b = record {
    own = b.own;
    others = λ j ne far. b.others j ne far ∙ a.others j ne far;
    left = λ j ne far. b.left j ne far ∙ a.left j ne far;
    places = b.places ∙ a.places;
    desks = λ j ne. b.desks j ne ∙ a.desks j ne;
    cells = b.cells ∙ a.cells;
  }
