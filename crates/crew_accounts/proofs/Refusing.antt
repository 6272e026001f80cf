-- A look-up that was refused: its cause, and the key that it tells.
use Rattle.std.proofs.Common.{Bool, Contains, List, Some, ap, arith, length, subst, sym, ◌<◌, ◌∙◌, ◌≡◌, ℕ}
use Rattle.std.specs.Prelude.{slice_index_or}
use Rattle.lock_word.specs.Cause.{cause_of}
use Rattle.lock_word.specs.Life.{IsReadable}
use Rattle.lock_word.specs.Words.{epoch_number}
use Rattle.lock_word.specs.declared.cause.Cause.{Cause}
use Rattle.lock_word.specs.declared.epoch.Epoch.{Epoch}
use Rattle.lock_word.proofs.Parts.{version_of-epoch_number}
use Rattle.store_key.specs.Anchor.{back_half, front_half}
use Rattle.store_key.specs.Key.{key_of}
use Rattle.core_model.specs.Tabs.{tab_at}
use Rattle.core_model.specs.declared.moves.Side.TheVariants.{Key0, Key1}
use Rattle.core_model.specs.declared.tab.Tab.TheVariants.{Reading}
use Rattle.core_model.specs.declared.view.Sight.{Sight}
use Rattle.core_model.specs.declared.view.Sight.TheVariants.{Named}
use Rattle.core_model.specs.declared.view.View.{View}
use Rattle.line_account.specs.Answers.{IsKeyRead, Run}
use Rattle.line_account.specs.Accounts.{epoch_in}
use Rattle.script_text.specs.Requests.{url_in}
use Rattle.line_account.specs.Lines.{Served, url_at}
use Rattle.store_rule.specs.Ground.{Ground, anchor_for}
use Rattle.store_rule.specs.Calls.{IsFresh}
use Rattle.slice_chain.specs.Names.{KeyLoaded}
use Rattle.rock_reader.specs.Opening.{opened}
use Rattle.rock_reader.proofs.Coming.{readable_is}
use Rattle.worker_shelf.specs.Typed.{TellsKey}
use Rattle.crew_accounts.specs.Runs.{Past, run_of}
use Rattle.crew_accounts.proofs.Causes.{causes_tell}
use Rattle.crew_accounts.proofs.Loading.{back_loaded, front_loaded}
use Rattle.crew_accounts.proofs.Shown.{anchor_at}
use Rattle.crew_accounts.proofs.Telling.{ForCause}

module _ (g : Ground (List ℕ)) (told : Bool) (past : Past) (earlier : List Served) (l : Served) (url : List ℕ) (named : url_in l.asked.request ≡ Some url) (at_url : url_at earlier l.asked.request ≡ Some url) where
  abbrev r : Run (List ℕ)
  r = run_of g told past

  module _ (v w : View (List ℕ)) (c : Cause) (epoch : Epoch) (fresh : IsFresh (anchor_for g url) (epoch_number epoch) v w) where
    -- where nothing could be read there
    pub away_cause : (IsReadable epoch → ⊥) → ((key : List ℕ) → cause_of epoch key (key_of url) ≡ Some c) → ForCause r w earlier l c × (epoch_in c ≡ epoch)
    away_cause unreadable is =
        let tells = causes_tell epoch (key_of url) (key_of url) c (is (key_of url)) in (
          record {
            cause = record { url = url; named = named; kept = key_of url; judged = subst (λ (e : Epoch). cause_of e (key_of url) (key_of url) ≡ Some c) (sym tells.epoch) (is (key_of url)) };
            key = λ e key a z at. absurd (unreadable (tells.other e key z).1);
          },
          tells.epoch,
        )

    -- where the entry has another key, which was loaded
    module _ (entered keyed : View (List ℕ)) (t : ℕ) (key : List ℕ) (readable : IsReadable epoch) (reads : tab_at entered t ≡ Reading (opened (anchor_for g url) epoch.version)) (loaded : KeyLoaded g t entered key keyed)
        (sees : (x : Sight) → Contains keyed.seen x → Contains w.seen x) (is : cause_of epoch key (key_of url) ≡ Some c) (fits : TellsKey c) where
      abbrev anchor : ℕ
      anchor = anchor_for g url

      read_as : (length key ≡ 16) × ((i : ℕ) → slice_index_or key i 0 < 256) → IsKeyRead r w anchor (epoch_number epoch) key
      read_as key_fits =
          let front = front_loaded g entered keyed t (opened anchor epoch.version) reads key loaded in
          let back = back_loaded g entered keyed t (opened anchor epoch.version) reads key loaded in
          let version = version_of-epoch_number epoch in
          record {
            readable = readable_is epoch readable;
            seen = fresh.seen;
            long = key_fits.0;
            bytes = key_fits.1;
            front = subst (λ (n : ℕ). Contains w.seen (Named anchor n Key0 (front_half key))) (sym version) (sees _ front.named);
            back = subst (λ (n : ℕ). Contains w.seen (Named anchor n Key1 (back_half key))) (sym version) (sees _ back.named);
            old_front = λ old. front.old (omega arith);
            old_back = λ old. back.old (omega arith);
          }

      pub other_cause : ForCause r w earlier l c × (epoch_in c ≡ epoch)
      other_cause =
          let tells = causes_tell epoch key (key_of url) c is in (
            record {
              cause = record { url = url; named = named; kept = key; judged = subst (λ (e : Epoch). cause_of e key (key_of url) ≡ Some c) (sym tells.epoch) is };
              key = λ e other a z at.
                  let same : epoch_in c ≡ e = ap epoch_in z in
                  let its = (tells.other e other z).0 in
                  let key_fits = subst TellsKey z fits in
                  subst (λ (b : ℕ). IsKeyRead r w b (epoch_number e) other) (anchor_at g.setting.anchors (url_at earlier l.asked.request) url a at_url at)
                  (subst (λ (f : Epoch). IsKeyRead r w anchor (epoch_number f) other) (sym tells.epoch ∙ same)
                  (subst (IsKeyRead r w anchor (epoch_number epoch)) (sym its)
                  (read_as (subst (λ (k : List ℕ). (length k ≡ 16) × ((i : ℕ) → slice_index_or k i 0 < 256)) its key_fits))));
            },
            tells.epoch,
          )
