-- An anchor that no line of a script names, where the script fits into the file: at last it stands as it did at the opening, and the file that
-- was given back has the entry that a rebuild of the file keeps there.
use Rattle.std.proofs.Common.{IsTrue, List, ap, arith, inl, inr, map, subst, sym, true, ⊎_elim, ◌<◌, ◌∙◌, ◌≡◌}
use Rattle.std.proofs.Common.{◌-◌, ◌≤◌, ◌⊎◌, ℕ}
use Rattle.std.specs.Prelude.{None, Some}
use mathlib.Core.Logic.{dite}
use native.Mathlib.Decide.{ℕ_discrete}
use Rattle.lock_word.specs.Words.{doom_of, epoch_of, stage_of, version_of}
use Rattle.lock_word.proofs.Taking.{stage_of-epoch_at, version_of-epoch_at}
use Rattle.store_key.specs.Anchor.{anchor_of}
use Rattle.store_key.specs.Key.{key_of}
use Rattle.rock_disk.specs.Cell.{CellState}
use Rattle.rebuild_model.specs.Entry.{Entry as FileEntry, IsComplete}
use Rattle.rebuild_model.specs.Rebuilt.{IsWinner}
use Rattle.script_text.specs.Requests.{url_in}
use Rattle.script_text.specs.Shapes.{Shape, shape_of}
use Rattle.script_text.specs.declared.body.Body.{Body}
use Rattle.lock_word.specs.declared.stage.Stage.TheVariants.{Freeing}
use Rattle.script_text.specs.declared.line.Line.{Line}
use Rattle.script_text.specs.declared.request.Request.{Request}
use Rattle.script_text.specs.declared.request.Request.TheVariants.{Begin, Purge, Put, Save, Wipe}
use Rattle.core_model.specs.Anchors.{opening_counter, opening_epoch}
use Rattle.plain_model.specs.declared.entry.Entry.{Entry as PlainEntry}
use Rattle.plain_model.specs.declared.store.Plain.{Plain}
use Rattle.plain_model.specs.declared.store.Setting.{Setting}
use Rattle.plain_model.specs.Opening.{IsOpened, entry_kept, kept_at, kept_of, place_kept}
use Rattle.plain_model.specs.Place.{nothing}
use Rattle.plain_model.specs.Store.{entry_at, place_at}
use Rattle.plain_model.specs.declared.entry.Place.{Place}
use Rattle.line_account.specs.Answers.{Run}
use Rattle.line_account.specs.Closing.{LineIn, PurgedIn, PurgesVersion, Worker}
use Rattle.line_account.specs.Deeds.{WipesInVain}
use Rattle.line_account.specs.EpochNames.{IsFromStage}
use Rattle.line_account.specs.Lines.{Offers, Served}
use Rattle.line_account.specs.Printed.{HadEntry}
use Rattle.line_account.specs.Scripts.{ServesScript}
use Rattle.plain_runs.specs.Ends.{HoldsEntry}
use Rattle.plain_runs.proofs.Kept.{HasNone, HasOne, one_kept, opened_place}
use Rattle.run_rules.specs.Last.{AreLastWords}
use Rattle.run_rules.specs.Openings.{BeganWithFile, HadNothing, HadWinner}
use Rattle.run_rules.specs.Standing.{IsClosedWord, Stands, StandsAsBefore, StandsAsOffered}
use Rattle.run_rules.proofs.Fitting.{OneWinner}
use Rattle.run_rules.proofs.Scripts.{in_script}
use Rattle.run_rules.proofs.Unnamed.{names_none, unnamed}

-- a request that purges a URL names it
purged_url : (request : Request) (url : List ℕ) → shape_of request ≡ Shape.Purges url → url_in request ≡ Some url
purged_url (Purge u) url is = ap Some cc
purged_url (Wipe u) url is = ap Some cc
purged_url _ url is = absurd cc

-- one that offers a body under a URL names it
offered_url : (request : Request) (url : List ℕ) (body : Body) → Offers request url body → url_in request ≡ Some url
offered_url (Put u b) url body is = ap Some is.0
offered_url (Save u b) url body is = ap Some is.0
offered_url (Begin t u b) url body is = ap Some is.0
offered_url _ url body is = absurd is

module _ {X : Type 0} (r : Run X) (slot anchors : ℕ) (images : List (List ℕ)) (script : List Line) (crew : List Worker) (last : ℕ → ℕ)
    (began : BeganWithFile r slot anchors images) (serves : ServesScript script crew) (words : AreLastWords r crew last) (fit : IsTrue r.fits)
    (anchors_are : r.setting.anchors ≡ anchors) (s : Setting) (s_is : s.anchors ≡ anchors) (a : ℕ) (lt : a < anchors) (none : names_none s script a ≡ true) where
  -- no line of a worker names the anchor
  no_line : {P : List Served → Served → Type 0} (p : LineIn crew P) (url : List ℕ) → url_in p.served.asked.request ≡ Some url
      → a ≡ anchor_of (key_of url) r.setting.anchors → ⊥
  no_line {P} p url named at = unnamed s script a none p.served.asked (in_script script crew P serves p) url named
      (ap (anchor_of (key_of url)) (s_is ∙ sym anchors_are) ∙ sym at)

  inside : a < r.setting.anchors
  inside = subst (λ (n : ℕ). a < n) (sym anchors_are) lt

  abbrev epoch : ℕ
  epoch = epoch_of (last a)

  old_there : version_of epoch ≤ opening_counter r.setting
  old_there = dite (ℕ_discrete (version_of epoch - opening_counter r.setting) 0)
      (λ z. omega arith)
      (λ ne. absurd (let b = words.new a inside (omega arith) in no_line b b.so.anchor.url b.so.anchor.named_is b.so.anchor.anchor))

  not_purged : PurgedIn r crew a (version_of epoch) → ⊥
  not_purged p = by_line p.so
    where
      by_line : PurgesVersion r.setting.anchors p.served a (version_of epoch) ⊎ WipesInVain r.setting.anchors p.served a → ⊥
      by_line (inl h) = no_line p h.purges.url (purged_url p.served.asked.request h.purges.url h.purges.request) h.purges.anchor
      by_line (inr h) = no_line p h.url (ap url_in h.request) h.anchor

  not_gone : stage_of epoch ≡ 6 → ⊥
  not_gone gone = dite (ℕ_discrete (doom_of epoch) 0)
      (λ undoomed. let high = words.given_back_new fit a inside gone undoomed in let low = old_there in absurd (omega arith))
      (λ ne. not_purged (words.purged a inside (omega arith)))

  -- what was there at the opening stands there
  closed_there : (w : HadWinner r slot anchors images a) → IsClosedWord (last a) × (version_of epoch ≡ w.entry.version)
  closed_there w = (
    record { stage = stage; undoomed = (words.finished a inside).closed stage },
    (words.old a inside old_there).0 ∙ ap version_of w.epoch ∙ version_of-epoch_at w.entry.version 3 (omega arith),
  )
    where
      by_end : (stage_of epoch ≡ 0) ⊎ (stage_of epoch ≡ 3) ⊎ (stage_of epoch ≡ 6) → 5 ≤ stage_of epoch → stage_of epoch ≡ 3
      by_end (inl z) from = absurd (omega arith)
      by_end (inr (inl z)) from = z
      by_end (inr (inr z)) from = absurd (not_gone z)

      by_old : (stage_of epoch ≡ stage_of (opening_epoch r.setting a)) ⊎ (IsFromStage Freeing epoch × HadEntry r a) → stage_of epoch ≡ 3
      by_old (inl same) = same ∙ ap stage_of w.epoch ∙ stage_of-epoch_at w.entry.version 3 (omega arith)
      by_old (inr back) = by_end (words.finished a inside).stage back.0

      stage : stage_of epoch ≡ 3
      stage = by_old (words.old a inside old_there).1

  module _ (one : OneWinner) (plain : Plain) (o : IsOpened slot images anchors plain) (back : List (List ℕ)) (cells : List CellState) (back_is : map (λ c. c.now) cells ≡ back)
      (closed : IsClosedWord (last a) → Stands slot anchors images script cells a (version_of (epoch_of (last a)))) (e : PlainEntry) (there : entry_at plain a ≡ Some e) where
    -- the entry of the file for which the plain store has its own
    record FromFile : Type 0 where
      file : FileEntry
      won : IsWinner slot images anchors a file
      is : place_at plain a ≡ place_kept (Some (kept_of images file))

    place_is : place_at plain a ≡ place_kept (kept_at anchors (map (kept_of images) o.is.entries) a)
    place_is = ap (λ (p : Plain). place_at p a) o.store ∙ opened_place anchors (map (kept_of images) o.is.entries) o.rebuilt.greatest a lt

    from_file : FromFile
    from_file = by_kept (one_kept images anchors a o.is.entries)
      where
        by_kept : HasOne images anchors a o.is.entries ⊎ HasNone images anchors a o.is.entries → FromFile
        by_kept (inl h) = record {
          file = h.entry;
          won = subst (λ (n : ℕ). IsWinner slot images anchors n h.entry) h.at (o.is.won h.entry h.among);
          is = place_is ∙ ap place_kept h.is;
        }
        by_kept (inr h) = let nothing_there : place_at plain a ≡ nothing = place_is ∙ ap place_kept h.is in
            let no : Some e ≡ None = sym there ∙ ap Place.entry nothing_there in absurd cc

    entry_is : e ≡ entry_kept (kept_of images from_file.file)
    entry_is = let is : Some e ≡ Some (entry_kept (kept_of images from_file.file)) = sym there ∙ ap Place.entry from_file.is in cc

    had : HadWinner r slot anchors images a
    had = ⊎_elim (λ (w : HadWinner r slot anchors images a). w)
        (λ (h : HadNothing r slot anchors images a). absurd (h.none from_file.file from_file.won.complete from_file.won.at))
        (began.each a lt)

    version_is : version_of epoch ≡ (place_at plain a).version
    version_is = (closed_there had).1 ∙ ap FileEntry.version (one slot images anchors a had.entry from_file.file had.winner from_file.won)
        ∙ sym (ap Place.version from_file.is)

    before : StandsAsBefore slot anchors images script cells a (version_of epoch) → HoldsEntry slot anchors back a (place_at plain a).version e
    before h = let same = one slot images anchors a h.file.entry from_file.file h.file.won from_file.won in record {
      entry = h.now.entry;
      complete = subst (λ (xs : List (List ℕ)). IsComplete slot xs h.now.entry) back_is h.now.won.complete;
      at = h.now.won.at;
      version_is = h.now.version_is ∙ version_is;
      url_is = h.now.url_is ∙ sym h.file.url_is ∙ ap FileEntry.url same ∙ sym (ap PlainEntry.url entry_is);
      body_is = h.now.body_is ∙ sym h.file.body_is ∙ ap FileEntry.body same ∙ sym (ap PlainEntry.body entry_is);
    }

    -- what a line offers is under a URL that the line names
    not_offered : StandsAsOffered slot anchors images script cells a (version_of epoch) → ⊥
    not_offered h =
        unnamed s script a none h.offered.line h.offered.among h.url (offered_url h.offered.line.request h.url h.offered.made h.offered.offers)
        (ap (anchor_of (key_of h.url)) s_is ∙ ap (λ (url : List ℕ). anchor_of (key_of url) anchors) (sym h.now.url_is)
        ∙ ap (λ (key : List ℕ). anchor_of key anchors) (sym h.now.won.complete.key_of_url) ∙ h.now.won.at)

    pub unnamed_holds : HoldsEntry slot anchors back a (place_at plain a).version e
    unnamed_holds = ⊎_elim before (λ h. absurd (not_offered h)) (closed (closed_there had).0)
