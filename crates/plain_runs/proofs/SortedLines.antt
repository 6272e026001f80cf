-- The lines of a worker whose tabs each name private anchors alone, or others alone: its private lines are on one lot, and all others
-- elsewhere.
use Rattle.std.proofs.Common.{Bool, Contains, List, ap, arith, false, inl, inr, refl, sym, true, ◌<◌, ◌∙◌, ◌≡◌, ◌⊎◌, ℕ}
use Rattle.std.specs.Prelude.{not, ◌&&◌, ◌==◌, ◌||◌}
use Rattle.std.specs.List.{list_all}
use Rattle.std.proofs.lemmas.Bool.{false≢true}
use Rattle.std.proofs.lemmas.Bool.Decides.{nat_tests}
use Rattle.std.proofs.lemmas.List.Elements.{All-contains, All-contains_itself, All-weaker}
use Rattle.std.proofs.lemmas.List.Sums.{AllPass-from_list_all, list_all-from_AllPass}
use Rattle.rock_disk.specs.Cell.{CellState}
use Rattle.script_text.specs.declared.line.Line.{Line}
use Rattle.script_text.specs.declared.request.Request.{Request}
use Rattle.script_text.specs.declared.request.Request.TheVariants.{Add, Await, Begin, CloseTab, DropTab, End, Get, Mark, More, OpenTab, Purge, Put, Save, Wipe}
use Rattle.plain_model.specs.declared.store.Setting.{Setting}
use Rattle.plain_model.specs.Serving.{lines_for}
use Rattle.plain_laws.specs.Private.{OpenOnly, is_of, is_private_anchor, is_private_tab, names_only, takes, url_anchor}
use Rattle.store_rule.specs.declared.store.Store.{Store}
use Rattle.store_rule.specs.Ground.{Ground, Offers, left_to}
use Rattle.store_rule.specs.Passes.{basis}
use Rattle.store_serve.specs.Serving.{MayAsk}
use Rattle.worker_pool.specs.Courses.{IsServed}
use Rattle.plain_runs.specs.Alone.{AreTabsApart, IsAtMark}
use Rattle.plain_runs.specs.Elsewhere.{IsElse}
use Rattle.plain_runs.specs.Words.{Lot, setting_of}
use Rattle.plain_runs.proofs.LotLines.{IsOfLot}

-- a test of all lines
all_of : (test : Line → Bool) (lines : List Line) → ((line : Line) → Contains lines line → test line ≡ true) → list_all test lines ≡ true
all_of test lines h = list_all-from_AllPass test lines
    (All-weaker (Contains lines) (λ line. test line ≡ true) h lines (All-contains_itself lines))

one_of : (test : Line → Bool) (lines : List Line) (line : Line) → list_all test lines ≡ true → Contains lines line → test line ≡ true
one_of test lines line h among = All-contains (λ l. test l ≡ true) lines line (AllPass-from_list_all test lines h) among

or_not : (a b : Bool) → (a ≡ true → b ≡ true) → (not a || b) ≡ true
or_not true b h = h refl
or_not false b h = refl

then_so : (a b : Bool) → (not a || b) ≡ true → a ≡ true → b ≡ true
then_so true b h t = h
then_so false b h t = absurd (false≢true t)

is_not : (b : Bool) → not b ≡ true → b ≡ false
is_not true h = absurd (false≢true h)
is_not false h = refl

same_number : (n : ℕ) → (n == n) ≡ true
same_number n = grind (arith, nat_tests)

other_number : (n : ℕ) → n < 7 → (n == 7) ≡ false
other_number n h = grind (arith, nat_tests)

and_true : (a b : Bool) → a ≡ true → b ≡ true → (a && b) ≡ true
and_true true b h k = k
and_true false b h k = absurd (false≢true h)

and_false : (a b : Bool) → b ≡ false → (a && b) ≡ false
and_false true b k = k
and_false false b k = refl

or_true : (a b : Bool) → b ≡ true → (a || b) ≡ true
or_true true b k = refl
or_true false b k = k

or_false : (a b : Bool) → a ≡ false → b ≡ false → (a || b) ≡ false
or_false true b h k = absurd (false≢true (sym h))
or_false false b h k = k

-- The lot of a worker: its private anchors that are left to its pass, with its private tabs and the tab of whole requests.
abbrev pub private_lot : Ground (List ℕ) → List Line → (worker pass : ℕ) → Lot
private_lot g script worker pass = record {
  anchors = λ a. left_to g pass a && is_private_anchor (setting_of g) script worker a;
  tabs = λ t. (t == 7) || is_private_tab (setting_of g) script worker t;
  counter = false;
}

module _ {C O : Type 0} (tells : Bool) (state : C → CellState) (offers : O → Offers) (s : Store C O) (script : List Line) (worker pass : ℕ)
    (line : Line)
    (among : Contains (lines_for worker script) line) where
  abbrev g : Ground (List ℕ)
  g = basis tells state offers s

  abbrev S : Setting
  S = setting_of (basis tells state offers s)

  abbrev own : ℕ → Bool
  own = is_private_anchor (setting_of (basis tells state offers s)) script worker

  abbrev mine : ℕ → Bool
  mine = is_private_tab (setting_of (basis tells state offers s)) script worker

  abbrev lot : Lot
  lot = private_lot (basis tells state offers s) script worker pass

  abbrev IsOn : Request → Type 0
  IsOn request = IsServed request × IsOfLot S lot request

  in_lot : (a : ℕ) → own a ≡ true → left_to g pass a ≡ true → lot.anchors a ≡ true
  in_lot a private left = and_true (left_to g pass a) (own a) left private

  out_lot : (a : ℕ) → own a ≡ false → lot.anchors a ≡ false
  out_lot a other = and_false (left_to g pass a) (own a) other

  tab_in : (t : ℕ) → mine t ≡ true → lot.tabs t ≡ true
  tab_in t private = or_true (t == 7) (mine t) private

  tab_out : (t : ℕ) → t < 7 → mine t ≡ false → lot.tabs t ≡ false
  tab_out t lt other = or_false (t == 7) (mine t) (other_number t lt) other

  -- A line that opens a private tab names a private anchor,
  opens_private : (t : ℕ) → mine t ≡ true → takes t line.request ≡ true → names_only S own line.request ≡ true
  opens_private t private t_taken = then_so (takes t line.request) (names_only S own line.request)
      (one_of (λ l. not (takes t l.request) || names_only S own l.request) (lines_for worker script) line private among) t_taken

  -- and one that opens another names none.
  opens_other : (t : ℕ) → OpenOnly S own t (lines_for worker script) ⊎ OpenOnly S (λ a. not (own a)) t (lines_for worker script)
      → mine t ≡ false → takes t line.request ≡ true
      → names_only S (λ a. not (own a)) line.request ≡ true
  opens_other t (inl only) other t_taken = absurd (false≢true (sym other
      ∙ all_of (λ l. not (takes t l.request) || names_only S own l.request) (lines_for worker script)
      (λ l c. or_not (takes t l.request) (names_only S own l.request) (only l c))))
  opens_other t (inr others) other t_taken = others line among t_taken

  -- a private line
  pub on_lot : (request : Request) → line.request ≡ request → is_of S own mine request ≡ true → names_only S (left_to g pass) request ≡ true
      → IsServed request × IsOfLot (setting_of (basis tells state offers s))
      (private_lot (basis tells state offers s) script worker pass) request
  on_lot (Put url body) e is left = let h = in_lot (url_anchor S url) is left in (tt, record { of = h; names = h })
  on_lot (Save url body) e is left = let h = in_lot (url_anchor S url) is left in (tt, record { of = h; names = h })
  on_lot (Get url) e is left = let h = in_lot (url_anchor S url) is left in (tt, record { of = h; names = h })
  on_lot (Purge url) e is left = let h = in_lot (url_anchor S url) is left in (tt, record { of = h; names = h })
  on_lot (Wipe url) e is left = let h = in_lot (url_anchor S url) is left in (tt, record { of = h; names = h })
  on_lot (Begin t url body) e is left =
      (tt, record { of = tab_in t is; names = in_lot (url_anchor S url) (named (opens_private t is (taken e))) left })
    where
      taken : line.request ≡ Begin t url body → takes t line.request ≡ true
      taken e = ap (takes t) e ∙ same_number t

      named : names_only S own line.request ≡ true → own (url_anchor S url) ≡ true
      named h = sym (ap (names_only S own) e) ∙ h
  on_lot (OpenTab t url) e is left =
      (tt, record { of = tab_in t is; names = in_lot (url_anchor S url) (named (opens_private t is (taken e))) left })
    where
      taken : line.request ≡ OpenTab t url → takes t line.request ≡ true
      taken e = ap (takes t) e ∙ same_number t

      named : names_only S own line.request ≡ true → own (url_anchor S url) ≡ true
      named h = sym (ap (names_only S own) e) ∙ h
  on_lot (Add t count) e is left = (tt, record { of = tab_in t is; names = refl })
  on_lot (End t) e is left = (tt, record { of = tab_in t is; names = refl })
  on_lot (DropTab t) e is left = (tt, record { of = tab_in t is; names = refl })
  on_lot (More t) e is left = (tt, record { of = tab_in t is; names = refl })
  on_lot (CloseTab t) e is left = (tt, record { of = tab_in t is; names = refl })
  on_lot (Mark mark) e is left = absurd (false≢true is)
  on_lot (Await mark) e is left = absurd (false≢true is)

  -- any other
  pub elsewhere : AreTabsApart (setting_of (basis tells state offers s)) script worker → (request : Request) → line.request ≡ request
      → (IsServed request → MayAsk tells state offers s line.number request)
      → is_of S own mine request ≡ false
      → IsAtMark request ⊎
      (IsServed request × IsElse tells state offers s (private_lot (basis tells state offers s) script worker pass) request)
  elsewhere apart (Put url body) e asks is = inr (tt, out_lot (url_anchor S url) is)
  elsewhere apart (Save url body) e asks is = inr (tt, out_lot (url_anchor S url) is)
  elsewhere apart (Get url) e asks is = inr (tt, out_lot (url_anchor S url) is)
  elsewhere apart (Purge url) e asks is = inr (tt, out_lot (url_anchor S url) is)
  elsewhere apart (Wipe url) e asks is = inr (tt, out_lot (url_anchor S url) is)
  elsewhere apart (Begin t url body) e asks is = let low = (asks tt).0 in
      inr (
        tt,
        (
          (low, tab_out t low is),
          out_lot (url_anchor S url) (is_not (own (url_anchor S url))
              (sym (ap (names_only S (λ a. not (own a))) e) ∙ opens_other t (apart t) is (ap (takes t) e ∙ same_number t))),
        ),
      )
  elsewhere apart (OpenTab t url) e asks is = let low = (asks tt).0 in
      inr (
        tt,
        (
          (low, tab_out t low is),
          out_lot (url_anchor S url) (is_not (own (url_anchor S url))
              (sym (ap (names_only S (λ a. not (own a))) e) ∙ opens_other t (apart t) is (ap (takes t) e ∙ same_number t))),
        ),
      )
  elsewhere apart (Add t count) e asks is = let low = asks tt in inr (tt, (low, tab_out t low is))
  elsewhere apart (End t) e asks is = let low = asks tt in inr (tt, (low, tab_out t low is))
  elsewhere apart (DropTab t) e asks is = let low = asks tt in inr (tt, (low, tab_out t low is))
  elsewhere apart (More t) e asks is = let low = asks tt in inr (tt, (low, tab_out t low is))
  elsewhere apart (CloseTab t) e asks is = let low = asks tt in inr (tt, (low, tab_out t low is))
  elsewhere apart (Mark mark) e asks is = inl tt
  elsewhere apart (Await mark) e asks is = inl tt
