-- A tab came to the anchor of a URL, and what it read there was refused.
use Rattle.std.proofs.Common.{Bool, List, Some, ap, arith, get_or, get_or-set_same, inl, inr, subst, sym, ◌∙◌, ◌≡◌, ℕ}
use Rattle.lock_word.specs.Life.{IsReadable}
use Rattle.lock_word.specs.Words.{epoch_number, epoch_of}
use Rattle.lock_word.specs.declared.cause.Cause.{Cause}
use Rattle.lock_word.specs.declared.epoch.Epoch.{Epoch}
use Rattle.core_model.specs.AnchorMoves.{entered}
use Rattle.core_model.specs.Tabs.{tab_at}
use Rattle.core_model.specs.declared.moves.Move.TheVariants.{Enter}
use Rattle.core_model.specs.declared.tab.Tab.{Tab}
use Rattle.core_model.specs.declared.tab.Tab.TheVariants.{Free, Reading}
use Rattle.core_model.specs.declared.view.View.{View}
use Rattle.line_account.specs.Accounts.{epoch_in}
use Rattle.script_text.specs.Requests.{url_in}
use Rattle.line_account.specs.Lines.{Served, url_at}
use Rattle.store_rule.specs.Ground.{Ground, anchor_for}
use Rattle.store_rule.specs.Told.{Steps}
use Rattle.rock_reader.specs.Opening.{Refused, opened}
use Rattle.rock_reader.proofs.Coming.{came_tabs, entered_readable}
use Rattle.store_serve.proofs.Readers as readers
use Rattle.worker_shelf.specs.Typed.{TellsKey}
use Rattle.crew_accounts.specs.Runs.{Past, run_of}
use Rattle.crew_accounts.proofs.Refusing.{away_cause, other_cause}
use Rattle.crew_accounts.proofs.Shown.{IsInTurn}
use Rattle.crew_accounts.proofs.Telling.{ForCause}
use Rattle.crew_accounts.proofs.Turns.{came_turn}

module _ {X : Type 0} (g : Ground X) where
  -- a tab that came to an entry which can be read reads it
  pub came_reads : (v w : View X) (t a n : ℕ) (e : Epoch) → Steps g v (Enter t a) n w → epoch_of n ≡ epoch_number e → IsReadable e → tab_at w t ≡ Reading (opened a e.version)
  came_reads v w t a n e st same h = ap (λ (xs : List (Tab X)). get_or xs t Free) (came_tabs g v w t a n st)
      ∙ get_or-set_same v.tabs t (entered a (epoch_of n)) Free (let nine = st.may.pass in let low = st.may.allowed.1 in omega arith)
      ∙ ap (entered a) same ∙ entered_readable a e h

-- It was refused by this cause, at an epoch that was in turn there.
pub record IsRefused (g : Ground (List ℕ)) (told : Bool) (past : Past) (earlier : List Served) (l : Served) (url : List ℕ) (v w : View (List ℕ)) (c : Cause) : Type 0 where
  pub cause : ForCause (run_of g told past) w earlier l c
  pub turn : IsInTurn (anchor_for g url) (epoch_number (epoch_in c)) v w

module _ (g : Ground (List ℕ)) (told : Bool) (past : Past) (earlier : List Served) (l : Served) (url : List ℕ) (named : url_in l.asked.request ≡ Some url) (at_url : url_at earlier l.asked.request ≡ Some url) (v w : View (List ℕ)) (c : Cause) where
  refused_at : (epoch : Epoch) → IsInTurn (anchor_for g url) (epoch_number epoch) v w → ForCause (run_of g told past) w earlier l c × (epoch_in c ≡ epoch) → IsRefused g told past earlier l url v w c
  refused_at epoch turn h = record { cause = h.0; turn = subst (λ (e : Epoch). IsInTurn (anchor_for g url) (epoch_number e) v w) (sym h.1) turn }

  module _ (t : ℕ) (fits : TellsKey c) where
    pub refused : Refused g t url v c w → IsRefused g told past earlier l url v w c
    refused (inl h) = refused_at h.epoch (came_turn g h.came) (away_cause g told past earlier l url named at_url v w c h.epoch h.came.fresh h.unreadable h.cause_is)
    refused (inr h) = let d = h.declined in
        refused_at h.epoch (came_turn g h.came)
        (other_cause g told past earlier l url named at_url v w c h.epoch h.came.fresh h.entered d.keyed t d.key h.readable (came_reads g v h.entered t (anchor_for g url) h.came.found h.epoch h.came.enter h.came.epoch_is h.readable) d.loaded
        (readers.parted g t d.keyed w d.parted).seen d.cause_is fits)
