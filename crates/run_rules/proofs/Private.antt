-- A worker that is alone at its anchors is answered as by a plain store of its own that is opened on the file.
use Rattle.std.proofs.Common.{Bool, [], Contains, IsTrue, List, ap, cond, false, inl, inr, length, map, refl, subst, sym, ⊎_elim, ◌+◌, ◌==◌, ◌∙◌, ◌∷◌}
use Rattle.std.proofs.Common.{◌≡◌, ◌⊎◌, ℕ, true}
use Rattle.std.specs.Prelude.{Some}
use Rattle.std.proofs.lemmas.Bool.{and_from, and_parts}
use Rattle.std.proofs.lemmas.List.{append_cancel_left, length-map}
use mathlib.Core.Option.{some, some-injective}
use lib.ListN.{get_elem?}
use Rattle.core_model.proofs.SlotsOpened.{map_contains}
use Rattle.core_model.specs.State.{State, word}
use Rattle.std.specs.FinMap.{get}
use Rattle.rock_disk.specs.Cell.{CellState}
use Rattle.rock_disk.specs.Counts.{Counts}
use Rattle.rock_disk.specs.File.{File, Files, bytes_of, rest_cut, slots_cut}
use Rattle.rock_disk.proofs.Out.{get_inserted}
use Rattle.entry_cut.specs.Content.{room_of}
use Rattle.script_text.specs.declared.answer.Answer.{Answer}
use Rattle.script_text.specs.declared.answer.Answer.TheVariants as answer
use Rattle.script_text.specs.declared.line.Line.{Line}
use Rattle.plain_model.specs.declared.store.Plain.{Plain}
use Rattle.plain_model.specs.declared.store.Setting.{Setting}
use Rattle.plain_model.specs.Serving.{lines_for}
use Rattle.plain_laws.specs.Private.{is_private_anchor}
use Rattle.plain_runs.specs.Alone.{AreTabsApart, IsAloneAtItsAnchors}
use Rattle.plain_runs.specs.PrivateRuns.{IsPrivateRun, left_private}
use Rattle.plain_runs.specs.Runs.{setting_over}
use Rattle.plain_runs.specs.Words.{setting_of}
use Rattle.store_rule.specs.Ground.{Ground, fits, left_to}
use Rattle.store_rule.specs.Passes.{basis}
use Rattle.worker_pool.specs.Courses.{Stage, lines_from}
use Rattle.worker_pool.specs.Running.{Account, answers_of}
use Rattle.worker_shelf.specs.Shelves.{OnShelf}
use Rattle.rock_run.specs.Device.{HasEnded}
use Rattle.rock_run.specs.Offered.{offers_of}
use Rattle.rock_run.specs.Runs.{HasRun}
use Rattle.run_rules.specs.Plain.{HasCells}
use Rattle.run_rules.specs.Private.{OpensWithRoom, is_own_anchor}
use Rattle.run_rules.specs.Runs.{HasImages}
use Rattle.run_rules.proofs.LeftAlone.{names_left, own_left}
use Rattle.run_rules.proofs.Lists.{IsImage, at_place, both, image}
use Rattle.run_rules.proofs.Opened.{as_many, has_played, same_state}
use Rattle.run_rules.proofs.Scripts.{of_filter}

-- the counts with which stations were ended are one list
pub one_list : (xs ys : List ℕ) (before after : Counts) → HasEnded 0 xs before after → HasEnded 0 ys before after → xs ≡ ys
one_list xs ys before after h k =
    let same : 0 ∷ xs ≡ 0 ∷ ys = append_cancel_left before.ended (0 ∷ xs) (0 ∷ ys) (sym h.ended ∙ k.ended) in cc

-- the lines of a worker, with their places, are its lines
lines_are : (worker n : ℕ) (lines : List Line) → map (λ (x : ℕ × Line). x.1) (lines_from worker n lines) ≡ lines_for worker lines
lines_are worker n [] = refl
lines_are worker n (line ∷ lines) = by_test (line.worker == worker) (lines_are worker (n + 1) lines)
  where
    by_test : (b : Bool) → map (λ (x : ℕ × Line). x.1) (lines_from worker (n + 1) lines) ≡ lines_for worker lines
        → map (λ (x : ℕ × Line). x.1) (cond b ((n, line) ∷ lines_from worker (n + 1) lines) (lines_from worker (n + 1) lines))
        ≡ cond b (line ∷ lines_for worker lines) (lines_for worker lines)
    by_test true rest = ap (λ (xs : List Line). line ∷ xs) rest
    by_test false rest = rest

module _ {C St : Type 0} (volume_tells told : Bool) (state : C → CellState) (faults : St → ℕ) (files left : Files) (name : List ℕ)
    (slot anchors workers : ℕ) (script : List Line) (answers : List (List (ℕ × Answer))) (before after : Counts)
    (h : HasRun volume_tells told state files left name slot anchors workers script faults answers before after) (tells : IsTrue volume_tells) where
  abbrev accounts : List (Account (OnShelf C (List Line) St))
  accounts = h.served.played.accounts

  abbrev g : Ground (List ℕ)
  g = basis told state offers_of h.closed.store

  -- the images of the file are what its cells were
  pub images_are : (images : List (List ℕ)) → HasImages files name slot images → images ≡ map (λ (c : C). (state c).now) h.closed.opened.cells
  images_are images file =
      let out = h.closed.opened.out tells in
      let same : Some file.was ≡ Some out.was = sym file.there ∙ out.found in
      let one : file.was ≡ out.was = cc in
      file.images_are ∙ ap (λ (f : File). map (λ c. c.now) (slots_cut slot (bytes_of f))) one
      ∙ ap (map (λ (c : CellState). c.now)) (sym out.cells_are) ∙ both state (λ (c : CellState). c.now) h.closed.opened.cells

  -- the account of a worker, by its answers
  pub account_of : (j : ℕ) (mine : List (ℕ × Answer)) → get_elem? answers j ≡ some mine → IsImage answers_of accounts j mine
  account_of j mine at = image answers_of accounts j mine (ap (λ (z : List (List (ℕ × Answer))). get_elem? z j) h.served.played.answers_are ∙ at)

  -- each worker has a list of answers
  pub answer_lists : length answers ≡ workers
  answer_lists = ap length (sym h.served.played.answers_are) ∙ length-map accounts answers_of
      ∙ as_many volume_tells told state faults files left name slot anchors workers script answers before after h

  -- with one for each of its lines
  pub answers_counted : (j : ℕ) (mine : List (ℕ × Answer)) → get_elem? answers j ≡ some mine → length mine ≡ length (lines_for (j + 1) script)
  answers_counted j mine at =
      let account = account_of j mine at in
      let played = h.served.played.each j account.item (at_place accounts j account.item account.at) in
      ap length (sym account.is) ∙ length-map account.item.stages (λ (x : Stage (OnShelf C (List Line) St)). (x.line.number, x.answer))
      ∙ sym (length-map account.item.stages (λ (x : Stage (OnShelf C (List Line) St)). (x.place, x.line))) ∙ ap length played.each
      ∙ sym (length-map (lines_from (j + 1) 0 script) (λ (x : ℕ × Line). x.1)) ∙ ap length (lines_are (j + 1) 0 script)

  -- its station was ended with this count
  pub station_of : (stations : List ℕ) → HasEnded 0 stations before after → (j count : ℕ) → get_elem? stations j ≡ some count
      → (a : Account (OnShelf C (List Line) St)) → get_elem? accounts j ≡ some a → faults a.end.station ≡ count
  station_of stations ended j count at a there =
      let listed : stations ≡ map (λ (b : Account (OnShelf C (List Line) St)). faults b.end.station) accounts =
      one_list stations (map faults h.stations) before after ended h.ended ∙ ap (map faults) (sym h.served.played.stations_left_are)
      ∙ both (λ (b : Account (OnShelf C (List Line) St)). b.end.station) faults accounts in
      let i = image (λ (b : Account (OnShelf C (List Line) St)). faults b.end.station) accounts j count
      (ap (λ (z : List ℕ). get_elem? z j) (sym listed) ∙ at) in
      ap (λ (b : Account (OnShelf C (List Line) St)). faults b.end.station) (some-injective a i.item (sym there ∙ i.at)) ∙ i.is

  -- what each line of it was answered is among these
  pub told_of : (a : Account (OnShelf C (List Line) St)) (x : Stage (OnShelf C (List Line) St)) → Contains a.stages x
      → Contains (answers_of a) (x.line.number, x.answer)
  told_of a x among = map_contains (λ (y : Stage (OnShelf C (List Line) St)). (y.line.number, y.answer)) a.stages x among

  -- the setting of the store is that of the plain store
  pub setting_is : setting_of g ≡ setting_over slot anchors (length h.closed.opened.cells)
  setting_is = let over = h.closed.opened.store in
      λ i. record { slots = over.slots_are i; room = room_of (over.slot_is i); anchors = over.anchors_are i }

  -- a worker whose tabs are apart is alone in the store at the anchors that its private lines name
  pub alone_there : (w : ℕ) → fits g ≡ true → AreTabsApart (setting_over slot anchors (length h.closed.opened.cells)) script (w + 1)
      → IsAloneAtItsAnchors g script (w + 1) w
  alone_there w fit apart = record {
    fits_is = fit;
    lines = λ line mine own. names_left (setting_of g) script w g fit refl h.closed.opened.store.offers_are line
        (of_filter (λ l. l.worker == w + 1) script line mine) mine own;
    tabs = subst (λ (s : Setting). AreTabsApart s script (w + 1)) (sym setting_is) apart;
  }

  -- the file that was given back
  pub cells_back : HasCells left name (map (λ (c : C). (state c).now) h.closed.cells)
  cells_back = let out = h.closed.opened.out tells in record {
    header = state h.closed.header;
    cells = map state h.closed.cells;
    rest = rest_cut slot (bytes_of out.was);
    there = ap (λ m. get m name) (h.closed.back tells) ∙ get_inserted h.closed.middle name _;
    images_are = sym (both state (λ (c : CellState). c.now) h.closed.cells);
  }

  -- What a worker comes to in the store it comes to in the run, with the answers that are told of it.
  module _ (w : ℕ) (images : List (List ℕ)) (many : length images ≡ length h.closed.opened.cells) (plain : Plain) where
    abbrev back : List (List ℕ)
    back = map (λ (c : C). (state c).now) h.closed.cells

    pub run_over : (given told_to : List Answer) → given ≡ told_to
        → IsPrivateRun slot (setting_over slot anchors (length h.closed.opened.cells)) script (w + 1) plain given (left_private g script (w + 1) w) (left_private g script (w + 1) w)
        (word (has_played volume_tells told state faults files left name slot anchors workers script answers before after h).closed.gathered.state) back
        → IsPrivateRun slot (setting_over slot anchors (length images)) script (w + 1) plain told_to (left_private g script (w + 1) w) (left_private g script (w + 1) w)
        (word h.closed.closed.gathered.state) back
    run_over given told_to same run =
        subst (λ (n : ℕ). IsPrivateRun slot (setting_over slot anchors n) script (w + 1) plain told_to (left_private g script (w + 1) w) (left_private g script (w + 1) w)
        (word h.closed.closed.gathered.state) back) (sym many)
        (subst (λ (z : List Answer). IsPrivateRun slot (setting_over slot anchors (length h.closed.opened.cells)) script (w + 1) plain z
        (left_private g script (w + 1) w) (left_private g script (w + 1) w) (word h.closed.closed.gathered.state) back) same
        (subst (λ (t : State (List ℕ)). IsPrivateRun slot (setting_over slot anchors (length h.closed.opened.cells)) script (w + 1) plain given
        (left_private g script (w + 1) w) (left_private g script (w + 1) w) (word t) back)
        (same_state volume_tells told state faults files left name slot anchors workers script answers before after h) run))

    -- the anchors that it alone names are private to it, and left to its pass
    pub own_there : fits g ≡ true → (a : ℕ) → is_own_anchor (setting_over slot anchors (length images)) script (w + 1) a ≡ true
        → left_private g script (w + 1) w a ≡ true
    own_there fit a mine =
        let here : is_own_anchor (setting_of g) script (w + 1) a ≡ true = subst (λ (s : Setting). is_own_anchor s script (w + 1) a ≡ true) (sym setting_is)
        (subst (λ (n : ℕ). is_own_anchor (setting_over slot anchors n) script (w + 1) a ≡ true) many mine) in
        and_from (left_to g w a) (is_private_anchor (setting_of g) script (w + 1) a)
        (own_left (setting_of g) script w g fit refl h.closed.opened.store.offers_are a here)
        (and_parts (is_private_anchor (setting_of g) script (w + 1) a) _ here).0
