-- What lines leave of the tabs that they do not use.
use Rattle.std.proofs.Common.{Bool, List, None, Some, [], ap, arith, cond, false, refl, sym, true, ◌&&◌, ◌+◌, ◌++◌, ◌==◌, ◌∷◌, ◌≡◌, ◌∙◌, ne_eqb, ℕ}
use Rattle.std.proofs.lemmas.List.{append-nil}
use Rattle.script_text.specs.Tabs.{UsesTab}
use Rattle.script_text.specs.declared.answer.Answer.{Answer}
use Rattle.script_text.specs.declared.answer.Answer.TheVariants as answer
use Rattle.script_text.specs.declared.body.Body.{Body}
use Rattle.script_text.specs.declared.request.Request.{Request}
use Rattle.script_text.specs.declared.request.Request.TheVariants.{Add, Begin, CloseTab, DropTab, End, Get, More, OpenTab, Purge, Put, Save, Wipe}
use Rattle.line_account.specs.Lines.{Served, added, added_by, added_in, begins, bytes_given, bytes_in, closes, ends, given_by, is_begun, is_closed, is_dropped, is_finished, is_opened, is_refused, opens, reading, writing}
use Rattle.line_account.specs.Stopping.{answered_more, answers_more, is_end, is_halted, is_other_url}
use Rattle.std.proofs.Common.{◌||◌}

-- the last answers on a tab that reads
abbrev pub is_last : Answer → Bool
is_last a = is_end a || (is_halted a || is_other_url a)

-- a line with this request and answer is nothing to the tab j
pub record LeavesAlone (j : ℕ) (request : Request) (a : Answer) : Type 0 where
  pub begins : begins j request a ≡ false
  pub ends : ends j request a ≡ false
  pub opens : opens j request a ≡ false
  pub closes : closes j request a ≡ false
  pub given : given_by j request a ≡ []
  pub added : added_by j request a ≡ 0
  pub last : answers_more is_last j request a ≡ false

-- It is nothing to a tab that the request does not name.

other : (t j : ℕ) → (j ≡ t → ⊥) → (t == j) ≡ false
other t j ne = ne_eqb t j (λ e. ne (sym e))

at_other : (b c : Bool) → b ≡ false → (b && c) ≡ false
at_other b c e = ap (λ (z : Bool). z && c) e

no_bytes : (b : Bool) (xs : List ℕ) → b ≡ false → cond b xs [] ≡ []
no_bytes b xs e = ap (λ (z : Bool). cond z xs []) e

no_count : (b : Bool) (n : ℕ) → b ≡ false → cond b n 0 ≡ 0
no_count b n e = ap (λ (z : Bool). cond z n 0) e

alone : (j : ℕ) (request : Request) (a : Answer) → begins j request a ≡ false → ends j request a ≡ false → opens j request a ≡ false → closes j request a ≡ false → given_by j request a ≡ [] → added_by j request a ≡ 0
    → answers_more is_last j request a ≡ false → LeavesAlone j request a
alone j request a b e o c g n m = record { begins = b; ends = e; opens = o; closes = c; given = g; added = n; last = m }

pub elsewhere : (request : Request) (a : Answer) (j : ℕ) → (UsesTab request j → ⊥) → LeavesAlone j request a
elsewhere (Begin t url body) a j ne = alone j (Begin t url body) a (at_other (t == j) (is_begun a) (other t j ne)) refl refl refl refl refl refl
elsewhere (Add t count) a j ne = alone j (Add t count) a refl (at_other (t == j) (is_refused a) (other t j ne)) refl refl refl (no_count (t == j) (added_in a) (other t j ne)) refl
elsewhere (End t) a j ne = alone j (End t) a refl (at_other (t == j) (is_refused a || is_finished a) (other t j ne)) refl refl refl refl refl
elsewhere (DropTab t) a j ne = alone j (DropTab t) a refl (at_other (t == j) (is_dropped a) (other t j ne)) refl refl refl refl refl
elsewhere (OpenTab t url) a j ne = alone j (OpenTab t url) a refl refl (at_other (t == j) (is_opened a) (other t j ne)) refl refl refl refl
elsewhere (More t) a j ne = alone j (More t) a refl refl refl refl (no_bytes (t == j) (bytes_in a) (other t j ne)) refl (at_other (t == j) (is_last a) (other t j ne))
elsewhere (CloseTab t) a j ne = alone j (CloseTab t) a refl refl refl (at_other (t == j) (is_closed a) (other t j ne)) refl refl refl
elsewhere request a j ne = alone j request a refl refl refl refl refl refl refl

-- A whole request is nothing to any tab.
pub get_alone : (url : List ℕ) (a : Answer) (j : ℕ) → LeavesAlone j (Get url) a
get_alone url a j = alone j (Get url) a refl refl refl refl refl refl refl

pub purge_alone : (url : List ℕ) (a : Answer) (j : ℕ) → LeavesAlone j (Purge url) a
purge_alone url a j = alone j (Purge url) a refl refl refl refl refl refl refl

pub wipe_alone : (url : List ℕ) (a : Answer) (j : ℕ) → LeavesAlone j (Wipe url) a
wipe_alone url a j = alone j (Wipe url) a refl refl refl refl refl refl refl

pub put_alone : (url : List ℕ) (body : Body) (a : Answer) (j : ℕ) → LeavesAlone j (Put url body) a
put_alone url body a j = alone j (Put url body) a refl refl refl refl refl refl refl

pub save_alone : (url : List ℕ) (body : Body) (a : Answer) (j : ℕ) → LeavesAlone j (Save url body) a
save_alone url body a j = alone j (Save url body) a refl refl refl refl refl refl refl

-- Nor is a line to any tab whose answer begins, ends and gives nothing.

or_left : (b c : Bool) → (b || c) ≡ false → b ≡ false
or_left true c e = absurd (let z : true ≡ false = e in cc)
or_left false c e = refl

or_right : (b c : Bool) → (b || c) ≡ false → c ≡ false
or_right true c e = absurd (let z : true ≡ false = e in cc)
or_right false c e = e

never : (b c : Bool) → c ≡ false → (b && c) ≡ false
never true c e = e
never false c e = refl

nothing : (b : Bool) (xs : List ℕ) → xs ≡ [] → cond b xs [] ≡ []
nothing true xs e = e
nothing false xs e = refl

zero_more : (b : Bool) (n : ℕ) → n ≡ 0 → cond b n 0 ≡ 0
zero_more true n e = e
zero_more false n e = refl

pub record IsMute (a : Answer) : Type 0 where
  pub begun : is_begun a ≡ false
  pub refused : is_refused a ≡ false
  pub finished : is_finished a ≡ false
  pub dropped : is_dropped a ≡ false
  pub opened : is_opened a ≡ false
  pub closed : is_closed a ≡ false
  pub bytes : bytes_in a ≡ []
  pub count : added_in a ≡ 0
  pub last : is_last a ≡ false

pub mute : (request : Request) (a : Answer) (j : ℕ) → IsMute a → LeavesAlone j request a
mute (Begin t url body) a j m = alone j (Begin t url body) a (never (t == j) (is_begun a) m.begun) refl refl refl refl refl refl
mute (Add t count) a j m = alone j (Add t count) a refl (never (t == j) (is_refused a) m.refused) refl refl refl (zero_more (t == j) (added_in a) m.count) refl
mute (End t) a j m = alone j (End t) a refl (never (t == j) (is_refused a || is_finished a) (λ i. m.refused i || m.finished i)) refl refl refl refl refl
mute (DropTab t) a j m = alone j (DropTab t) a refl (never (t == j) (is_dropped a) m.dropped) refl refl refl refl refl
mute (OpenTab t url) a j m = alone j (OpenTab t url) a refl refl (never (t == j) (is_opened a) m.opened) refl refl refl refl
mute (More t) a j m = alone j (More t) a refl refl refl refl (nothing (t == j) (bytes_in a) m.bytes) refl (never (t == j) (is_last a) m.last)
mute (CloseTab t) a j m = alone j (CloseTab t) a refl refl refl (never (t == j) (is_closed a) m.closed) refl refl refl
mute request a j m = alone j request a refl refl refl refl refl refl refl

pub tab_is_mute : IsMute answer.Tab
tab_is_mute = record { begun = refl; refused = refl; finished = refl; dropped = refl; opened = refl; closed = refl; bytes = refl; count = refl; last = refl }

pub busy_is_mute : (looked other : _) → IsMute (answer.Busy looked other)
busy_is_mute looked other = record { begun = refl; refused = refl; finished = refl; dropped = refl; opened = refl; closed = refl; bytes = refl; count = refl; last = refl }

-- An answer that is none of the last ones is not this one of them.
not_so : (so : Answer → Bool) → ((a : Answer) → is_last a ≡ false → so a ≡ false) → (j : ℕ) (request : Request) (a : Answer) → answers_more is_last j request a ≡ false → answers_more so j request a ≡ false
not_so so of j (More t) a e = by_tab (t == j) e
  where
    by_tab : (b : Bool) → (b && is_last a) ≡ false → (b && so a) ≡ false
    by_tab true h = of a h
    by_tab false h = refl
not_so so of j _ a e = refl

pub not_end : (a : Answer) → is_last a ≡ false → is_end a ≡ false
not_end a h = or_left (is_end a) (is_halted a || is_other_url a) h

pub not_halted : (a : Answer) → is_last a ≡ false → is_halted a ≡ false
not_halted a h = or_left (is_halted a) (is_other_url a) (or_right (is_end a) (is_halted a || is_other_url a) h)

pub not_other_url : (a : Answer) → is_last a ≡ false → is_other_url a ≡ false
not_other_url a h = or_right (is_halted a) (is_other_url a) (or_right (is_end a) (is_halted a || is_other_url a) h)

-- So what the tab writes and reads by the lines is as it was.
module _ (j : ℕ) (s : Served) (served : List Served) (h : LeavesAlone j s.asked.request s.answer) where
  pub writing_on : writing j (s ∷ served) ≡ writing j served
  writing_on = λ i. cond (h.begins i) (Some s) (cond (h.ends i) None (writing j served))

  pub reading_on : reading j (s ∷ served) ≡ reading j served
  reading_on = λ i. cond (h.opens i) (Some s) (cond (h.closes i) None (reading j served))

  pub added_on : added j (s ∷ served) ≡ added j served
  added_on = let e : added j (s ∷ served) ≡ 0 + added j served = λ i. cond (h.begins i) 0 (h.added i + added j served) in e ∙ (omega arith)

  pub given_on : bytes_given j (s ∷ served) ≡ bytes_given j served
  given_on = let e : bytes_given j (s ∷ served) ≡ bytes_given j served ++ [] = λ i. cond (h.opens i) [] (bytes_given j served ++ h.given i) in e ∙ append-nil (bytes_given j served)

  pub answered_on : (so : Answer → Bool) → ((a : Answer) → is_last a ≡ false → so a ≡ false) → answered_more so j (s ∷ served) ≡ answered_more so j served
  answered_on so of = λ i. cond (h.opens i) false (not_so so of j s.asked.request s.answer h.last i || answered_more so j served)

-- What a tab writes and reads behind a line that does something with it.
module _ (t : ℕ) (s : Served) (served : List Served) where
  pub now_writes : begins t s.asked.request s.answer ≡ true → writing t (s ∷ served) ≡ Some s
  now_writes e = λ i. cond (e i) (Some s) (cond (ends t s.asked.request s.answer) None (writing t served))

  pub none_added : begins t s.asked.request s.answer ≡ true → added t (s ∷ served) ≡ 0
  none_added e = λ i. cond (e i) 0 (added_by t s.asked.request s.answer + added t served)

  pub no_more_writes : begins t s.asked.request s.answer ≡ false → ends t s.asked.request s.answer ≡ true → writing t (s ∷ served) ≡ None
  no_more_writes e f = λ i. cond (e i) (Some s) (cond (f i) None (writing t served))

  pub now_reads : opens t s.asked.request s.answer ≡ true → reading t (s ∷ served) ≡ Some s
  now_reads e = λ i. cond (e i) (Some s) (cond (closes t s.asked.request s.answer) None (reading t served))

  pub none_answered : (so : Answer → Bool) → opens t s.asked.request s.answer ≡ true → answered_more so t (s ∷ served) ≡ false
  none_answered so e = λ i. cond (e i) false (answers_more so t s.asked.request s.answer || answered_more so t served)

  pub none_given : opens t s.asked.request s.answer ≡ true → bytes_given t (s ∷ served) ≡ []
  none_given e = λ i. cond (e i) [] (bytes_given t served ++ given_by t s.asked.request s.answer)

  pub no_more_reads : opens t s.asked.request s.answer ≡ false → closes t s.asked.request s.answer ≡ true → reading t (s ∷ served) ≡ None
  no_more_reads e f = λ i. cond (e i) (Some s) (cond (f i) None (reading t served))
