-- What a line tells of an entry that it doomed.
use Rattle.std.proofs.Common.{Bool, List, ap, arith, subst, sym, ◌∙◌, ◌≡◌, ◌≤◌, ℕ}
use Rattle.std.specs.Prelude.{Contains, Some}
use Rattle.lock_word.specs.Words.{doomed, epoch_number, epoch_of, stage_of, version_of}
use Rattle.lock_word.specs.declared.epoch.Epoch.{Epoch}
use Rattle.lock_word.proofs.Dooming.{stage_of-doomed}
use Rattle.lock_word.proofs.Parts.{version_of-epoch_number}
use Rattle.store_key.specs.Anchor.{back_half, front_half}
use Rattle.store_key.specs.Key.{key_of}
use Rattle.store_key.proofs.KeyFacts.{key_is_bytes, key_is_long}
use Rattle.core_model.specs.Anchors.{IsReadAt}
use Rattle.core_model.specs.State.{word}
use Rattle.core_model.specs.Tabs.{anchor_of, tab_at}
use Rattle.core_model.specs.declared.moves.Move.TheVariants.{Doom}
use Rattle.core_model.specs.declared.moves.Side.TheVariants.{Key0, Key1}
use Rattle.core_model.specs.declared.tab.Reader.{Reader}
use Rattle.core_model.specs.declared.tab.Tab.{Tab}
use Rattle.core_model.specs.declared.tab.Tab.TheVariants.{Reading}
use Rattle.core_model.specs.declared.view.Sight.{Sight}
use Rattle.core_model.specs.declared.view.Sight.TheVariants.{Named}
use Rattle.core_model.specs.declared.view.View.{View}
use Rattle.core_model.proofs.Tabs.{tab_there}
use Rattle.line_account.specs.Answers.{HasPurged, IsKeyRead}
use Rattle.script_text.specs.Requests.{url_in}
use Rattle.line_account.specs.Lines.{Served}
use Rattle.store_rule.specs.Ground.{Ground, anchor_for}
use Rattle.store_rule.specs.Told.{Steps}
use Rattle.rock_reader.specs.Opening.{opened}
use Rattle.rock_reader.proofs.Coming.{readable_is, step_sees}
use Rattle.crew_accounts.specs.Runs.{Past, run_of}
use Rattle.crew_accounts.proofs.Coming.{came_reads}
use Rattle.crew_accounts.proofs.Doomed.{HasDoomed}
use Rattle.crew_accounts.proofs.Loading.{HasLoaded, back_loaded, front_loaded}

-- An entry that a tab reads is at APPENDING, CLOSED or HALTED when it is doomed.
module _ {X : Type 0} (g : Ground X) (v w : View X) (t n : ℕ) (r : Reader X) (is : tab_at v t ≡ Reading r) (st : Steps g v (Doom t) n w) where
  read_at : IsReadAt st.state r.anchor r.version
  read_at = (st.rule.sound.anchors.tabs st.index v st.at t (Reading r) (tab_there v t (Reading r) (let nine = st.may.pass in let low = st.may.allowed.0 in omega arith) is)).1

  word_is : n ≡ word st.state r.anchor
  word_is = st.found ∙ ap (λ (tab : Tab X). word st.state (anchor_of tab)) is

  pub doom_stage : (2 ≤ stage_of (epoch_of (doomed n))) × (stage_of (epoch_of (doomed n)) ≤ 4)
  doom_stage =
      let from = read_at.from in
      let to = read_at.to in
      let same = stage_of-doomed n ∙ ap (λ (m : ℕ). stage_of (epoch_of m)) word_is in
      (omega arith, omega arith)

module _ (g : Ground (List ℕ)) (told : Bool) (past : Past) (url : List ℕ) (v w : View (List ℕ)) (t : ℕ) (left : Epoch) (h : HasDoomed g t url v left w) where
  abbrev anchor : ℕ
  anchor = anchor_for g url

  abbrev r : Reader (List ℕ)
  r = opened anchor h.epoch.version

  came : tab_at h.entered t ≡ Reading r
  came = came_reads g v h.entered t anchor h.came.found h.epoch h.came.enter h.came.epoch_is h.readable

  -- what was seen once the key was loaded is seen at the end
  keeps : (x : Sight) → Contains h.keyed.seen x → Contains w.seen x
  keeps x c = h.known.seen x (step_sees g h.keyed h.after (Doom t) h.word x h.doom c)

  front : HasLoaded g.setting r Key0 (front_half (key_of url)) h.keyed.seen
  front = front_loaded g h.entered h.keyed t r came (key_of url) h.key

  back : HasLoaded g.setting r Key1 (back_half (key_of url)) h.keyed.seen
  back = back_loaded g h.entered h.keyed t r came (key_of url) h.key

  keyed : IsKeyRead (run_of g told past) w anchor (epoch_number h.epoch) (key_of url)
  keyed = let same = version_of-epoch_number h.epoch in record {
    readable = readable_is h.epoch h.readable;
    seen = h.came.fresh.seen;
    long = key_is_long url;
    bytes = key_is_bytes url;
    front = subst (λ (n : ℕ). Contains w.seen (Named anchor n Key0 (front_half (key_of url)))) (sym same) (keeps _ front.named);
    back = subst (λ (n : ℕ). Contains w.seen (Named anchor n Key1 (back_half (key_of url)))) (sym same) (keeps _ back.named);
    old_front = λ low. front.old (omega arith);
    old_back = λ low. back.old (omega arith);
  }

  stage : (2 ≤ stage_of (epoch_number left)) × (stage_of (epoch_number left) ≤ 4)
  stage = subst (λ (e : ℕ). (2 ≤ stage_of e) × (stage_of e ≤ 4)) (sym h.left_is) (doom_stage g h.keyed h.after t h.word r h.reads h.doom)

  pub has_purged : (l : Served) → url_in l.asked.request ≡ Some url → l.opened ≡ epoch_number h.epoch → HasPurged (run_of g told past) w l left
  has_purged l named found = record {
    doomed = h.dooms;
    from = stage.0;
    to = stage.1;
    url = url;
    named = named;
    version_is = ap version_of found ∙ version_of-epoch_number h.epoch ∙ sym h.version_is ∙ sym (version_of-epoch_number left);
    keyed = subst (λ (e : ℕ). IsKeyRead (run_of g told past) w anchor e (key_of url)) (sym found) keyed;
  }
