-- An entry was opened, followed and left: what that comes to.
use Rattle.std.proofs.Common.{arith, Bool, IsTrue, List, [], ap, false, true, inl, inr, length, refl, subst, sym, ◌+◌, ◌<◌, ◌≡◌, ◌∙◌, ◌⊎◌, ℕ}
use Rattle.std.specs.Prelude.{◌≢◌}
use Rattle.rock_disk.specs.Cell.{CellState}
use Rattle.store_rule.specs.declared.store.Pass.{Pass}
use Rattle.store_rule.specs.declared.store.Store.{Store}
use Rattle.store_rule.specs.Ground.{Offers, anchor_for}
use Rattle.store_rule.specs.Passes.{basis, view}
use Rattle.rock_reader.specs.Closing.{Parted}
use Rattle.rock_reader.specs.declared.answer.More.{More}
use Rattle.rock_reader.specs.declared.answer.More.TheVariants as more
use Rattle.rock_reader.specs.Reading.{StaysOther, TurnsOut, newly}
use Rattle.rock_reader.specs.Responses.{HoldsFile, body_below}
use Rattle.collapse.specs.Following.{EndsWith, FindsOther, FollowsSome, FollowsTo, LooksOnly, LosesSink}
use Rattle.collapse.specs.Forwarding.{FailsToRead, FindsHalted, Hits, Opened, ReadSome, ReadTo, ReadsInVain, TurnedOut, Waits}
use Rattle.collapse.specs.Sending.{Sends}
use Rattle.collapse.proofs.Turns.{IsGiven, given_along}

module _ {C O : Type 0} (tells : Bool) (state : C → CellState) (offers : O → Offers) (s : Store C O) (t offer : ℕ) (url : List ℕ) (most : ℕ) where
  read_to : (p o u q : Pass C) (rounds : List (Pass C)) (version looks : ℕ) (bytes : List ℕ) (answer : More) (h : Opened tells state offers s t offer url p rounds o version) → length rounds + looks < most
      → FollowsTo tells state offers s t (newly (anchor_for (basis tells state offers s) url) version h.last.offer_of url) o u bytes looks answer → Parted (basis tells state offers s) t (view u) (view q)
      → ReadTo tells state offers s t offer url most p q version bytes answer
  read_to p o u q rounds version looks bytes answer h few went parted = record { rounds = rounds; opened = o; opens = h; read = u; looks = looks; few = few; went = went; parted = parted }

  read_some : (p o u q : Pass C) (rounds : List (Pass C)) (version looks times : ℕ) (bytes : List ℕ) (h : Opened tells state offers s t offer url p rounds o version)
      → FollowsSome tells state offers s t (newly (anchor_for (basis tells state offers s) url) version h.last.offer_of url) o u bytes looks → Parted (basis tells state offers s) t (view u) (view q) → times ≡ length rounds + looks
      → ReadSome tells state offers s t offer url most p q version bytes times
  read_some p o u q rounds version looks times bytes h went parted are = record { rounds = rounds; opened = o; opens = h; read = u; looks = looks; went = went; times_are = are; parted = parted }

  -- where cells tell, an entry that turns out to be of another URL has given no byte
  untold : (p q : Pass C) (version : ℕ) (bytes : List ℕ) → bytes ≢ [] → ReadTo tells state offers s t offer url most p q version bytes more.OtherUrl → IsTrue tells → HoldsFile (basis tells state offers s) → ⊥
  untold p q version bytes some h told holds = by h.went.ends
    where
      given : IsGiven tells state offers s t (newly (anchor_for (basis tells state offers s) url) version h.opens.last.offer_of url) h.went.standing bytes
      given = given_along tells state offers s t _ h.opened h.went.turns h.went.standing h.went.middle bytes h.looks refl h.went.follows

      by : StaysOther tells state offers s t h.went.middle h.went.standing h.went.before h.went.after h.read ⊎ TurnsOut tells state offers s t h.went.middle h.went.standing h.went.before h.went.after h.read → ⊥
      by (inl stays) = let a = stays.was in let b = given.is_other in cc
      by (inr turns) = some (given.bytes_are told holds ∙ ap (body_below (basis tells state offers s) (anchor_for (basis tells state offers s) url) h.opens.last.offer_of) (turns.url told holds).0)

  module _ (p o u q : Pass C) (rounds : List (Pass C)) (version looks : ℕ) (h : Opened tells state offers s t offer url p rounds o version) (many : length rounds ≡ looks) (parted : Parted (basis tells state offers s) t (view u) (view q))
      (body : List ℕ) (sink_tells : Bool) (old new : List ℕ) (starts : ℕ) where
    few_of : (waits : ℕ) → looks + waits < most → length rounds + waits < most
    few_of waits few = omega (arith, many)

    pub hits : EndsWith tells state offers s t (newly (anchor_for (basis tells state offers s) url) version h.last.offer_of url) o u sink_tells old new looks most more.End → Hits tells state offers s t offer url most p q body sink_tells old new starts starts version
    hits k = record { bytes = k.bytes; read = read_to p o u q rounds version k.waits k.bytes more.End h (few_of k.waits k.few) k.went parted; sent = k.sent; unstarted = refl }

    pub finds_halted : EndsWith tells state offers s t (newly (anchor_for (basis tells state offers s) url) version h.last.offer_of url) o u sink_tells old new looks most more.Halted → FindsHalted tells state offers s t offer url most p q body sink_tells old new starts starts
    finds_halted k = record { version = version; bytes = k.bytes; how = inl (read_to p o u q rounds version k.waits k.bytes more.Halted h (few_of k.waits k.few) k.went parted); sent = k.sent; unstarted = refl }

    pub fails_to_read : EndsWith tells state offers s t (newly (anchor_for (basis tells state offers s) url) version h.last.offer_of url) o u sink_tells old new looks most more.Fault → FailsToRead tells state offers s t offer url most p q body sink_tells old new starts starts
    fails_to_read k = record { version = version; bytes = k.bytes; read = read_to p o u q rounds version k.waits k.bytes more.Fault h (few_of k.waits k.few) k.went parted; sent = k.sent; unstarted = refl }

    pub finds_other_late : (is_late : Bool) → is_late ≡ true → FindsOther tells state offers s t (newly (anchor_for (basis tells state offers s) url) version h.last.offer_of url) o u sink_tells old new looks most is_late → FindsHalted tells state offers s t offer url most p q body sink_tells old new starts starts
    finds_other_late is_late is k = let r = read_to p o u q rounds version k.ends.waits k.ends.bytes more.OtherUrl h (few_of k.ends.waits k.ends.few) k.ends.went parted in record {
      version = version;
      bytes = k.ends.bytes;
      how = inr record { some = k.late is; read = r; untold = untold p q version k.ends.bytes (k.late is) r };
      sent = k.ends.sent;
      unstarted = refl;
    }

    pub turns_out : (is_late : Bool) → is_late ≡ false → FindsOther tells state offers s t (newly (anchor_for (basis tells state offers s) url) version h.last.offer_of url) o u sink_tells old new looks most is_late → TurnedOut tells state offers s t offer url most p q
    turns_out is_late is k = record {
      version = version;
      read = subst (λ (z : List ℕ). ReadTo tells state offers s t offer url most p q version z more.OtherUrl) (k.early is) (read_to p o u q rounds version k.ends.waits k.ends.bytes more.OtherUrl h (few_of k.ends.waits k.ends.few) k.ends.went parted);
    }

    -- nothing went to the sink then
    pub unsent : (is_late : Bool) → is_late ≡ false → FindsOther tells state offers s t (newly (anchor_for (basis tells state offers s) url) version h.last.offer_of url) o u sink_tells old new looks most is_late → Sends sink_tells old new []
    unsent is_late is k = subst (λ (z : List ℕ). Sends sink_tells old new z) (k.early is) k.ends.sent

    pub waits : (times : ℕ) → LooksOnly tells state offers s t (newly (anchor_for (basis tells state offers s) url) version h.last.offer_of url) o u sink_tells old new looks most times
        → Waits tells state offers s t offer url most p q body sink_tells old new starts starts times
    waits times k = record {
      how = inr record { version = version; bytes = k.bytes; read = read_some p o u q rounds version k.waits times k.bytes h k.some parted (k.times_are ∙ ap (λ n. n + k.waits) (sym many)); sent = k.sent };
      all = k.all;
      unstarted = refl;
    }

    pub reads_in_vain : LosesSink tells state offers s t (newly (anchor_for (basis tells state offers s) url) version h.last.offer_of url) o u sink_tells old new looks most → ReadsInVain tells state offers s t offer url most p q body sink_tells old new starts starts
    reads_in_vain k = record { version = version; bytes = k.bytes; times = length rounds + k.waits; few = few_of k.waits k.few; read = read_some p o u q rounds version k.waits (length rounds + k.waits) k.bytes h k.some parted refl; sent = k.sent; unstarted = refl }
