-- A run of one worker over a file is answered as by a plain store that is opened on the file.
use Rattle.std.proofs.Common.{All, Bool, IsTrue, List, [], ap, arith, length, map, refl, subst, sym, ◌<◌, ◌∙◌, ◌≡◌, ◌∷◌, ℕ}
use Rattle.std.proofs.lemmas.List.{length-map}
use Rattle.std.specs.FinMap.{get}
use Rattle.std.proofs.lemmas.List.Elements.{All-head}
use lib.ListN.{get_elem?}
use mathlib.Core.Option.{some}
use Rattle.rock_disk.specs.Cell.{CellState}
use Rattle.rock_disk.specs.Crash.{IsCrashImage}
use Rattle.rock_disk.specs.File.{Files, bytes_of, rest_cut}
use Rattle.rock_disk.proofs.Out.{get_inserted}
use Rattle.script_text.specs.declared.answer.Answer.{Answer}
use Rattle.script_text.specs.declared.line.Line.{Line}
use Rattle.core_model.specs.State.{word}
use Rattle.entry_cut.specs.Content.{room_of}
use Rattle.lock_word.specs.Words.{word_number}
use Rattle.plain_runs.specs.Words.{setting_of}
use Rattle.plain_model.specs.declared.store.Plain.{Plain}
use Rattle.plain_model.specs.declared.store.Setting.{Setting}
use Rattle.plain_model.specs.Opening.{IsOpened}
use Rattle.plain_model.specs.Serving.{answers_of, left_by, lines_for}
use Rattle.plain_model.specs.Store.{word_at}
use Rattle.rock_disk.specs.Counts.{Counts}
use Rattle.rock_open.specs.Opening.{IsStoreOver}
use Rattle.rock_run.specs.Offered.{offers_of}
use Rattle.store_rule.specs.declared.store.Pass.{Pass}
use Rattle.store_rule.specs.Closing.{views_of}
use Rattle.store_rule.specs.Passes.{basis, view}
use Rattle.worker_pool.specs.Courses.{At, Stage}
use Rattle.worker_pool.specs.Running.{Account, answers_of as account_answers}
use Rattle.worker_shelf.specs.Shelves.{OnShelf}
use Rattle.plain_runs.specs.Ends.{HoldsWhole}
use Rattle.plain_runs.specs.Runs.{IsPlainRun, setting_over}
use Rattle.crew_accounts.specs.Playing.{HasRun as HasPlayed}
use Rattle.rock_run.specs.Runs.{HasRun}
use Rattle.run_rules.specs.Standing.{KeepsWhole, WasKept}
use Rattle.run_rules.specs.Plain.{EndedPlainly, IsAnsweredPlainly, NoneFailedServing, numbered}
use Rattle.run_rules.proofs.Lists.{both}
use Rattle.run_rules.proofs.Opened.{as_many, has_played}

-- lines with their answers, each with its number
numbered_stages : {H : Type 0} (stages : List (Stage H)) → map (λ s. (s.line.number, s.answer)) stages ≡ numbered (map (λ s. s.line) stages)
    (map (λ s. s.answer) stages)
numbered_stages [] = refl
numbered_stages (s ∷ stages) = ap (λ xs. (s.line.number, s.answer) ∷ xs) (numbered_stages stages)

-- there is one account
pub record OneOf {A : Type 0} (xs : List A) : Type 0 where
  pub only : A
  pub is : xs ≡ only ∷ []

one_of : {A : Type 0} (xs : List A) → length xs ≡ 1 → OneOf xs
one_of [] e = absurd (omega arith)
one_of (x ∷ []) e = record { only = x; is = refl }
one_of (x ∷ y ∷ xs) e = absurd (omega arith)

module _ {C St : Type 0} (volume_tells told : Bool) (state : C → CellState) (faults : St → ℕ) (files left : Files) (name : List ℕ)
    (slot anchors workers : ℕ) (script : List Line) (answers : List (List (ℕ × Answer)))
    (before after : Counts) (h : HasRun volume_tells told state files left name slot anchors workers script faults answers before after)
    (alone : workers ≡ 1) (tells : IsTrue volume_tells) where
  abbrev accounts : List (Account (OnShelf C (List Line) St))
  accounts = h.served.played.accounts

  pub one : OneOf accounts
  one = one_of accounts (as_many volume_tells told state faults files left name slot anchors workers script answers before after h ∙ alone)

  pub at_first : At accounts 0 one.only
  at_first = subst (λ (xs : List (Account (OnShelf C (List Line) St))). At xs 0 one.only) (sym one.is) (omega arith, refl)

  -- its station was ended with no fault
  pub station_none : NoneFailedServing before after → faults one.only.end.station ≡ 0
  station_none none = All-head (λ (n : ℕ). n ≡ 0) (faults one.only.end.station) []
      (subst (All (λ (n : ℕ). n ≡ 0)) stations_are (none (map faults h.stations) h.ended))
    where
      stations_are : map faults h.stations ≡ faults one.only.end.station ∷ []
      stations_are = ap (map faults) (sym h.served.played.stations_left_are)
          ∙ ap (λ (xs : List (Account (OnShelf C (List Line) St))). map faults
          (map (λ (a : Account (OnShelf C (List Line) St)). a.end.station) xs)) one.is

  pub has_alone : HasPlayed told state offers_of faults h.closed.store script accounts h.closed.cells
  has_alone = has_played volume_tells told state faults files left name slot anchors workers script answers before after h

  abbrev images : List (List ℕ)
  images = map (λ (c : C). (state c).now) h.closed.opened.cells

  -- what a plain run of the worker says of the file
  pub plainly : (plain : Plain) → IsOpened slot images anchors plain
      → IsPlainRun told state offers_of h.closed.store slot anchors (length h.closed.opened.cells) script plain one.only h.closed.cells
      → KeepsWhole slot anchors (map (λ (c : C). (state c).now) h.closed.cells)
      (left_by (setting_over slot anchors (length h.closed.opened.cells)) script 1 plain) (λ e. Unit {0})
      → ((crashed : List (List ℕ)) → IsCrashImage (map state h.closed.cells) crashed
      → KeepsWhole slot anchors crashed (left_by (setting_over slot anchors (length h.closed.opened.cells)) script 1 plain)
      (WasKept (length h.closed.opened.cells) script))
      → IsAnsweredPlainly files left name slot anchors script answers
  plainly plain opened run kept lasting = let out = h.closed.opened.out tells in record {
    images = images;
    file = record {
      was = out.was;
      there = out.found;
      images_are = sym (both state (λ (c : CellState). c.now) h.closed.opened.cells) ∙ ap (map (λ (c : CellState). c.now)) out.cells_are;
    };
    plain = plain;
    opened = opened;
    answered = sym h.served.played.answers_are ∙ ap (map account_answers) one.is
        ∙ ap (λ xs. xs ∷ []) (numbered_stages one.only.stages ∙ (λ i. numbered (run.lines i) (run.answers i))
        ∙ ap (λ (n : ℕ). numbered (lines_for 1 script) (answers_of (setting_over slot anchors n) script 1 plain)) many);
    back = map (λ (c : C). (state c).now) h.closed.cells;
    given_back = record {
      header = state h.closed.header;
      cells = map state h.closed.cells;
      rest = rest_cut slot (bytes_of out.was);
      there = ap (λ m. get m name) (h.closed.back tells) ∙ get_inserted h.closed.middle name _;
      images_are = sym (both state (λ (c : CellState). c.now) h.closed.cells);
    };
    entries = subst (λ (n : ℕ). HoldsWhole slot anchors (map (λ (c : C). (state c).now) h.closed.cells)
        (left_by (setting_over slot anchors n) script 1 plain)) many run.entries;
    kept = subst (λ (n : ℕ). KeepsWhole slot anchors (map (λ (c : C). (state c).now) h.closed.cells)
        (left_by (setting_over slot anchors n) script 1 plain) (λ e. Unit {0})) many kept;
    lasting = λ crashed crash. subst (λ (n : ℕ). KeepsWhole slot anchors crashed (left_by (setting_over slot anchors n) script 1 plain)
        (WasKept n script)) many (lasting crashed crash);
  }
    where
      many : length h.closed.opened.cells ≡ length images
      many = sym (length-map h.closed.opened.cells (λ (c : C). (state c).now))

  -- the store was opened with one pass
  pub opened_alone : IsStoreOver told state offers_of slot anchors 1 script h.closed.opened.cells h.closed.store h.closed.passes
  opened_alone = subst (λ (n : ℕ). IsStoreOver told state offers_of slot anchors n script h.closed.opened.cells h.closed.store
      h.closed.passes) alone h.closed.opened.store

  -- with whose view it was closed
  pub first_view : get_elem? (views_of h.closed.left) 0 ≡ some (view one.only.end.pass)
  first_view = ap (λ (xs : List (Pass C)). get_elem? (views_of xs) 0)
      (sym h.served.played.passes_left_are ∙ ap (map (λ (a : Account (OnShelf C (List Line) St)). a.end.pass)) one.is)

  -- words by the store's setting are words by that of the file
  pub words_over : (plain : Plain) (opened : IsOpened slot images anchors plain)
      → (run : IsPlainRun told state offers_of h.closed.store slot anchors
      (length h.closed.opened.cells) script plain one.only h.closed.cells)
      → (kept : KeepsWhole slot anchors (map (λ (c : C). (state c).now) h.closed.cells)
      (left_by (setting_over slot anchors (length h.closed.opened.cells)) script 1 plain) (λ e. Unit {0}))
      → (lasting : (crashed : List (List ℕ)) → IsCrashImage (map state h.closed.cells) crashed
      → KeepsWhole slot anchors crashed (left_by (setting_over slot anchors (length h.closed.opened.cells)) script 1 plain)
      (WasKept (length h.closed.opened.cells) script))
      → ((a : ℕ) → a < (basis told state offers_of h.closed.store).setting.anchors
      → word h.closed.closed.gathered.state a ≡ word_number (word_at (setting_of (basis told state offers_of h.closed.store))
      (left_by (setting_over slot anchors (length h.closed.opened.cells)) script 1 plain) a))
      → EndedPlainly (word h.closed.closed.gathered.state) (plainly plain opened run kept lasting)
  unfolding plainly
  words_over plain opened run kept lasting words a lt =
      words a (subst (λ (n : ℕ). a < n) (sym opened_alone.anchors_are) lt)
      ∙ ap (λ (t : Setting). word_number (word_at t (left_by (setting_over slot anchors (length h.closed.opened.cells)) script 1 plain) a))
      setting_is
      ∙ ap (λ (n : ℕ). word_number (word_at (setting_over slot anchors n) (left_by (setting_over slot anchors n) script 1 plain) a))
      (sym (length-map h.closed.opened.cells (λ (c : C). (state c).now)))
    where
      setting_is : setting_of (basis told state offers_of h.closed.store) ≡ setting_over slot anchors (length h.closed.opened.cells)
      setting_is i = record {
        slots = opened_alone.slots_are i;
        room = room_of (opened_alone.slot_is i);
        anchors =
            opened_alone.anchors_are i;
      }
