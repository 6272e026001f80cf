-- A run of one worker whose station met no fault.
use Rattle.std.proofs.Common.{Bool, Contains, List, [], ap, arith, cond, false, length, map, refl, subst, suc, sym, true, zero, ◌+◌, ◌-◌, ◌∙◌, ◌∷◌, ◌≡◌, ◌≤◌, ◌^◌, ℕ}
use Rattle.std.specs.Prelude.{IsTrue, count_by, min}
use Rattle.std.specs.List.{range_with_len}
use Rattle.std.specs.Global.{Vec}
use Rattle.std.proofs.lemmas.List.Sums.{sum_by-cons}
use Rattle.rock_disk.specs.Cell.{CellState}
use Rattle.rock_disk.specs.Opened.{AreSlots}
use Rattle.entry_cut.specs.Content.{room_of}
use Rattle.script_text.specs.declared.answer.Answer.TheVariants.{Met, Unmet}
use Rattle.script_text.specs.declared.line.Line.{Line}
use Rattle.plain_model.specs.declared.store.Plain.{Plain}
use Rattle.plain_model.specs.declared.store.Setting.{Setting}
use Rattle.plain_model.specs.Opening.{IsOpened}
use Rattle.plain_model.specs.Serving.{after, answers, answers_of, leave_all, left_by, lines_for}
use Rattle.store_rule.specs.declared.store.Pass.{Pass}
use Rattle.store_rule.specs.declared.store.Store.{Store}
use Rattle.store_rule.specs.Closing.{Closed}
use Rattle.store_rule.specs.Ground.{Ground, Offers}
use Rattle.store_rule.specs.Passes.{basis, view}
use Rattle.rock_open.specs.Opening.{IsStoreOver}
use Rattle.worker_pool.specs.Courses.{At, Stage}
use Rattle.worker_pool.specs.Running.{Account}
use Rattle.store_serve.specs.Answers.{is_fault}
use Rattle.store_serve.specs.Whole.{whole_tab}
use Rattle.worker_shelf.specs.Shelves.{LeftBelow, OnShelf}
use Rattle.worker_shelf.proofs.Holding.{Stays}
use Rattle.worker_shelf.specs.Playing.{HasSteps, IsPlayed, fault_answers}
use Rattle.plain_runs.specs.Words.{setting_of, whole_lot}
use Rattle.plain_runs.proofs.OwnAnchors.{lot_lone}
use Rattle.plain_runs.proofs.ShowingOthers.{OneBegins}
use Rattle.plain_runs.specs.Ends.{HoldsWhole}
use Rattle.plain_runs.proofs.AtAnchors.{OneKept}
use Rattle.plain_runs.proofs.Awaits.{IsOwnLine, awaits_alike, served_line, served_lines}
use Rattle.plain_runs.proofs.Courses.{AllRight, IsFair, Reached, all_right}
use Rattle.plain_runs.proofs.Ends.{PlacedPieces}
use Rattle.plain_runs.proofs.Leaving.{leaves_all}
use Rattle.plain_runs.proofs.LotEnds.{entries_there, image_at}
use Rattle.plain_runs.proofs.Lines.{GivesFronts, GivesWholes, LinesRight, lines_right}
use Rattle.plain_runs.proofs.Opened.{HoldsKept, holds_file, new_free, shows_opened}
use Rattle.plain_runs.specs.Runs.{IsPlainRun, Numbered, ShowsPlain, setting_over}

-- where none is counted, none is so
pub none_counted : {X : Type 0} (f : X → Bool) (xs : List X) → count_by f xs ≡ 0 → (x : X) → Contains xs x → f x ≡ false
none_counted f [] none x c = absurd (let z = c.1 in omega arith)
none_counted f (y ∷ xs) none x (zero, lt, e) = first (f y) refl
  where
    first : (b : Bool) → f y ≡ b → f x ≡ false
    first false is = ap f (sym e) ∙ is
    first true is = absurd (let sum = sum_by-cons (λ z. cond (f z) 1 0) y xs in let one : ◌≡◌ {A = ℕ} (cond (f y) 1 0) 1 = ap (λ (b : Bool). cond b 1 0) is in omega arith)
none_counted f (y ∷ xs) none x (suc i, lt, e) = none_counted f xs (let sum = sum_by-cons (λ z. cond (f z) 1 0) y xs in omega arith) x (i, omega arith, e)

module _ {C O St : Type 0} (tells : Bool) (state : C → CellState) (offers : O → Offers) (faults : St → ℕ) (slot anchors : ℕ) (origin : O) (cells : List C) (s : Store C O) (ps : Vec (Pass C))
    (over : IsStoreOver tells state offers slot anchors 1 origin cells s ps) (told : IsTrue tells) (as_wide : (c : C) → IsTrue tells → length (state c).now ≡ (state c).width)
    (slots : AreSlots slot (map state cells)) (one : OneKept) (holds : HoldsKept) (placed : PlacedPieces) (stays : Stays tells state offers s)
    (rose : (a : Account (OnShelf C O St)) → HasSteps tells state offers faults a → min (faults a.start.station + fault_answers a) (2 ^ 64 - 1) ≤ faults a.end.station)
    (begins : OneBegins) (fronts : GivesFronts) (wholes : GivesWholes)
    (script : List Line) (numbers : Numbered 0 script) (plain : Plain) (o : IsOpened slot (map (λ c. (state c).now) cells) anchors plain) where
  abbrev g : Ground (List ℕ)
  g = basis tells state offers s

  lines : LinesRight tells state offers s
  lines = lines_right tells state offers s over.passes_are begins stays told (holds_file tells state offers slot anchors 1 origin cells s ps over told holds) fronts wholes
      (let z = slots.size.to in let e = over.slot_is in omega arith)

  setting_is : setting_of g ≡ setting_over slot anchors (length cells)
  setting_is i = record { slots = over.slots_are i; room = room_of (over.slot_is i); anchors = over.anchors_are i }

  module _ (a : Account (OnShelf C O St)) (h : IsPlayed tells state offers faults s script 0 a) (none : faults a.end.station ≡ 0) where
    no_faults : fault_answers a ≡ 0
    no_faults = let r = rose a h.has_steps in omega arith

    own : (x : Stage (OnShelf C O St)) → Contains a.stages x → IsOwnLine 1 0 script x.place x.line
    own x c = served_line 1 script a.stages numbers h.each x c

    fair : (x : Stage (OnShelf C O St)) → Contains a.stages x → IsFair tells state offers faults s script lines stays a.start.pass x
    fair x c = record {
      step = h.has_steps.steps x c;
      takes = λ served. h.takes x.line (own x c).among (own x c).mine served;
      fair = none_counted (λ (y : Stage (OnShelf C O St)). is_fault y.answer) a.stages no_faults x c;
      awaits = λ mark is. h.awaits x c mark is ∙ ap (λ (b : Bool). cond b Met Unmet) (awaits_alike script mark 1 x.place x.line numbers (own x c));
    }

    started : Reached tells state offers faults s script lines stays a.start.pass a.start plain
    started = record {
      store = h.store;
      number = refl;
      shows = shows_opened tells state offers slot anchors 1 origin cells s ps over told as_wide slots one a.start.pass h.fresh plain o;
      whole = new_free tells state offers slot anchors 1 origin cells s ps over told as_wide slots one a.start.pass h.fresh plain o whole_tab;
    }

    done : AllRight tells state offers faults s script lines stays a.start.pass a.stages a.last plain
    done = all_right tells state offers faults s script lines stays a.start.pass a.stages a.start a.last plain h.has_steps.linked fair started

    own_lines : map (λ x. x.line) a.stages ≡ lines_for 1 script
    own_lines = served_lines 1 script a.stages h.each

    -- what the script leaves
    left_shown : ShowsPlain tells state offers s a.end.pass (left_by (setting_of g) script 1 plain)
    left_shown = subst (λ (ls : List Line). ShowsPlain tells state offers s a.end.pass (leave_all (range_with_len 0 8) (after (setting_of g) script ls plain))) own_lines
        (leaves_all tells state offers s lines a.last.pass a.end.pass (after (setting_of g) script (map (λ x. x.line) a.stages) plain)
        (subst (λ (z : Store C O). LeftBelow tells state offers z whole_tab a.last.pass a.end.pass) done.reached.store h.has_steps.left.left) done.reached.shows done.reached.whole)

    module _ (accounts : List (Account (OnShelf C O St))) (at : At accounts 0 a) (left : List C) (closed : Closed tells state g (map (λ b. view b.end.pass) accounts) left) where
      held : HoldsWhole g.slot g.setting.anchors (map (λ c. (state c).now) left) (left_by (setting_of g) script 1 plain)
      held = let there = entries_there tells state offers slot anchors 1 origin cells s ps over told as_wide slots one placed (λ v. v) whole_lot 0 a.end.pass (left_by (setting_of g) script 1 plain)
          (map (λ b. view b.end.pass) accounts) left closed (image_at (λ (b : Account (OnShelf C O St)). view b.end.pass) accounts 0 a at)
          (lot_lone g over.passes_are whole_lot (view a.end.pass).pass) left_shown in
          λ a e lt whole_entry whole. there a e lt refl whole_entry whole

      pub plain_run : IsPlainRun tells state offers s slot anchors (length cells) script plain a left
      plain_run = record {
        lines = own_lines;
        answers = done.answered ∙ ap (λ (ls : List Line). answers (setting_of g) script ls plain) own_lines ∙ ap (λ (t : Setting). answers_of t script 1 plain) setting_is;
        shows = subst (λ (t : Setting). ShowsPlain tells state offers s a.end.pass (left_by t script 1 plain)) setting_is left_shown;
        entries = subst (λ (t : Setting). HoldsWhole slot anchors (map (λ c. (state c).now) left) (left_by t script 1 plain)) setting_is
            (subst (λ (n : ℕ). HoldsWhole n anchors (map (λ c. (state c).now) left) (left_by (setting_of g) script 1 plain)) over.slot_is
            (subst (λ (n : ℕ). HoldsWhole g.slot n (map (λ c. (state c).now) left) (left_by (setting_of g) script 1 plain)) over.anchors_are held));
      }
