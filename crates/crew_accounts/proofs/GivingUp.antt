-- A line whose writing was given up.
use Rattle.std.proofs.Common.{Bool, List, Some, ap, eq-eqb, false, length, min, refl, subst, sym, true, ◌&&◌, ◌*◌, ◌+◌, ◌<◌, ◌==◌, ◌||◌, ◌∙◌, ◌∷◌, ◌≡◌, ◌≤◌, [], arith, ℕ}
use Rattle.script_text.specs.declared.answer.Answer.TheVariants as answer
use Rattle.core_model.specs.declared.view.View.{View}
use Rattle.entry_cut.specs.Content.{room_of}
use Rattle.line_account.specs.Accounts.{HasFinished, HasGivenUp, epochs_of}
use Rattle.line_account.specs.Answers.{IsLarge, IsSmall, Run}
use Rattle.line_account.specs.Deeds.{NeededSlots}
use Rattle.line_account.specs.Lines.{Served, begun_by, gives_up, is_finished, is_refused}
use Rattle.lock_word.specs.Words.{epoch_at}
use Rattle.lock_word.specs.declared.epoch.Epoch.{Epoch}
use Rattle.store_rule.specs.Ground.{Ground}
use Rattle.rock_writer.specs.Entries.{Entry, body_in, url_in}
use Rattle.rock_writer.specs.Finishing.{version_of}
use Rattle.rock_writer.specs.declared.fault.Ended.{Ended}
use Rattle.rock_writer.specs.declared.fault.Ended.TheVariants.{Doomed, Stored}
use Rattle.rock_writer.specs.declared.fault.WriteFault.{WriteFault}
use Rattle.rock_writer.specs.declared.fault.WriteFault.TheVariants.{Fault, Full, Large}
use Rattle.store_serve.specs.Answers.{answer_to_ended, answer_to_fault}
use Rattle.crew_accounts.specs.Runs.{Past, run_of}
use Rattle.crew_accounts.proofs.Running.{new_body, new_url}
use Rattle.crew_accounts.proofs.Telling.{ToTell}
use Rattle.crew_accounts.proofs.TooLarge.{NeedsTooMany}
use Rattle.crew_accounts.proofs.WriterLines.{IsBegunBy}

pub self_both : (t : ℕ) (b : Bool) → b ≡ true → ((t == t) && b) ≡ true
self_both t b e = λ i. (eq-eqb t t refl i) && (e i)

pub gives_up_fault : (fault : WriteFault) → gives_up (answer_to_fault fault) ≡ true
gives_up_fault Large = refl
gives_up_fault Full = refl
gives_up_fault Fault = refl

pub refuses_fault : (fault : WriteFault) → is_refused (answer_to_fault fault) ≡ true
refuses_fault Large = refl
refuses_fault Full = refl
refuses_fault Fault = refl

pub ends_ended : (ended : Ended) → (is_refused (answer_to_ended ended) || is_finished (answer_to_ended ended)) ≡ true
ends_ended (Stored x) = refl
ends_ended (Doomed x) = refl

pub ends_fault : (fault : WriteFault) → (is_refused (answer_to_fault fault) || is_finished (answer_to_fault fault)) ≡ true
ends_fault Large = refl
ends_fault Full = refl
ends_fault Fault = refl

-- a line that was answered so came so far that it needed slots
pub fault_evicts : (fault : WriteFault) → NeededSlots (answer_to_fault fault)
fault_evicts Large = tt
fault_evicts Full = tt
fault_evicts Fault = tt

pub ended_evicts : (ended : Ended) → NeededSlots (answer_to_ended ended)
ended_evicts (Stored x) = tt
ended_evicts (Doomed x) = tt

pub shows_no_epoch : (fault : WriteFault) → epochs_of 0 0 (answer_to_fault fault) ≡ []
shows_no_epoch Large = refl
shows_no_epoch Full = refl
shows_no_epoch Fault = refl

-- the epoch that a finished line shows
abbrev pub closed_epoch : Ended → ℕ
closed_epoch (Stored x) = epoch_at x 3
closed_epoch (Doomed x) = epoch_at x 11

pub shows_closed : (ended : Ended) → epochs_of 0 0 (answer_to_ended ended) ≡ closed_epoch ended ∷ []
shows_closed (Stored x) = refl
shows_closed (Doomed x) = refl

pub fault_no_part : (fault : WriteFault) (e : Epoch) (bytes : List ℕ) → answer_to_fault fault ≡ answer.Part e bytes → ⊥
fault_no_part Large e bytes h = cc
fault_no_part Full e bytes h = cc
fault_no_part Fault e bytes h = cc

pub fault_no_tab : (fault : WriteFault) → answer_to_fault fault ≡ answer.Tab → ⊥
fault_no_tab Large h = cc
fault_no_tab Full h = cc
fault_no_tab Fault h = cc

pub ended_no_part : (ended : Ended) (e : Epoch) (bytes : List ℕ) → answer_to_ended ended ≡ answer.Part e bytes → ⊥
ended_no_part (Stored x) e bytes h = cc
ended_no_part (Doomed x) e bytes h = cc

pub ended_no_tab : (ended : Ended) → answer_to_ended ended ≡ answer.Tab → ⊥
ended_no_tab (Stored x) h = cc
ended_no_tab (Doomed x) h = cc

module _ {X : Type 0} (r : Run X) (v : View X) (earlier : List Served) (s : Served) where
  pub fault_told : (fault : WriteFault) → HasGivenUp r.setting.anchors v earlier s → (fault ≡ Full → r.fits ≡ false) → (answer_to_fault fault ≡ answer.Large → IsLarge r earlier s) → ToTell r v earlier s (answer_to_fault fault)
  fault_told Large up unfit large = (up, large refl)
  fault_told Full up unfit large = (up, unfit refl)
  fault_told Fault up unfit large = λ writes. up

  pub ended_told : (ended : Ended) → HasFinished r.setting v earlier s (version_of ended) → IsSmall r earlier s → ToTell r v earlier s (answer_to_ended ended)
  ended_told (Stored x) h small = (h, small)
  ended_told (Doomed x) h small = (h, small)

-- a body that needs too many slots, as the account has it
module _ (g : Ground (List ℕ)) (told : Bool) (past : Past) (e : Entry) (first : Served) (h : IsBegunBy g e first) (from : g.setting.slots ≤ e.offer) where
  pub body_eq : (run_of g told past).body (g.setting.slots + first.asked.number) ≡ body_in g e
  body_eq = ap (run_of g told past).body (sym h.offer) ∙ new_body g told past e.offer from

  pub url_eq : (run_of g told past).url (g.setting.slots + first.asked.number) ≡ h.url
  url_eq = ap (run_of g told past).url (sym h.offer) ∙ new_url g told past e.offer from ∙ h.url_is

  -- metadata and body together, as the account has them and as the writer does
  sizes : 32 + length (url_in g e) + length (body_in g e) ≡ 32 + length h.url + length ((run_of g told past).body (g.setting.slots + first.asked.number))
  sizes = let a = ap length body_eq in let b = ap length h.url_is in omega arith

  pub large_of : (earlier : List Served) (l : Served) → begun_by earlier l ≡ Some first → NeedsTooMany g (url_in g e) (body_in g e) → IsLarge (run_of g told past) earlier l
  large_of earlier l begun many = record {
    first = first;
    begun_is = begun;
    url = h.url;
    named = h.named;
    large = subst (λ (n : ℕ). min 4096 g.setting.slots * room_of g.slot < n) sizes many;
  }

  -- a body that needs no more
  pub small_of : (earlier : List Served) (l : Served) → begun_by earlier l ≡ Some first → 32 + length (url_in g e) + length (body_in g e) ≤ min 4096 g.setting.slots * room_of g.slot → IsSmall (run_of g told past) earlier l
  small_of earlier l begun few = record {
    first = first;
    begun_is = begun;
    url = h.url;
    named = h.named;
    small = subst (λ (n : ℕ). n ≤ min 4096 g.setting.slots * room_of g.slot) sizes few;
  }
