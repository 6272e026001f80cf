-- How the command ends where the script was not read.
use Rattle.std.proofs.Common.{Bool, List, ap, inl, inr, refl, ◌∙◌, ◌≡◌, ℕ}
use Rattle.std.specs.Prelude.{IsTrue, Option}
use Rattle.rock_disk.specs.File.{Files}
use Rattle.rock_disk.specs.Counts.{Counts, NoStation}
use Rattle.rock_status.specs.declared.status.Status.{Status}
use Rattle.rock_status.specs.declared.status.Status.TheVariants.{BadGeometry, BadScript, Missing, Small}
use Rattle.script_text.specs.Script.{Explains, IsBadScript, IsScript}
use Rattle.script_text.specs.declared.fault.ScriptFault.{ScriptFault}
use Rattle.script_text.specs.declared.fault.ScriptFault.TheVariants.{BadLine, Failed, Memory}
use Rattle.script_text.specs.declared.line.Line.{Line}
use Rattle.run_command.specs.Faults.{status_of_script}
use Rattle.run_command.specs.Says.{IsRunRefused, OrUnread}

-- where the text is a script, reading it met a fault or want of memory
unread : (HasFailed : Type 0) (due : Status) (fault : ScriptFault) → Explains (λ _ _. ⊥) HasFailed fault
    → OrUnread due (status_of_script fault)
unread HasFailed due (BadLine line cause) h = absurd h
unread HasFailed due Failed h = inr (inl refl)
unread HasFailed due Memory h = inr (inr refl)

bad_line : (HasFailed : Type 0) (line cause : ℕ) (fault : ScriptFault) → Explains (λ l c. (l ≡ line) × (c ≡ cause)) HasFailed fault
    → OrUnread (BadScript line cause) (status_of_script fault)
bad_line HasFailed line cause (BadLine l c) h = inl (ap (λ n. BadScript n c) h.0 ∙ ap (BadScript line) h.1)
bad_line HasFailed line cause Failed h = inr (inl refl)
bad_line HasFailed line cause Memory h = inr (inr refl)

pub unread_refused : (source_tells volume_tells : Bool) (text : List ℕ) (files : Files) (name : List ℕ) (given : Option ℕ)
    (anchors workers : ℕ) (before : Counts) (HasFailed : Type 0) (fault : ScriptFault)
    → ((lines : List Line) → IsTrue source_tells → IsScript workers text lines → Explains (λ _ _. ⊥) HasFailed fault)
    → ((line cause : ℕ) → IsTrue source_tells → IsBadScript workers text line cause
    → Explains (λ l c. (l ≡ line) × (c ≡ cause)) HasFailed fault)
    → IsRunRefused source_tells volume_tells text files name given anchors workers before before (status_of_script fault)
unread_refused source_tells volume_tells text files name given anchor_count worker_count before HasFailed fault good bad =
    let none : NoStation before before = record { made = refl; ended = refl } in
    record {
      script = λ line cause told is. bad_line HasFailed line cause fault (bad line cause told is);
      slot = λ tells not. unread HasFailed (BadGeometry 1) fault (good tells.lines tells.told tells.is);
      workers = λ tells sized not. unread HasFailed (BadGeometry 3) fault (good tells.lines tells.told tells.is);
      missing = λ tells told sized passes is. unread HasFailed Missing fault (good tells.lines tells.told tells.is);
      small = λ bytes tells told sized passes is. unread HasFailed (Small bytes) fault (good tells.lines tells.told tells.is);
      wrong = λ tells told sized passes is. (inl (unread HasFailed (BadGeometry 6) fault (good tells.lines tells.told tells.is)), none);
      differs = λ tells told sized passes is. (inl (unread HasFailed (BadGeometry 5) fault (good tells.lines tells.told tells.is)), none);
      unknown = λ tells told passes is. (inl (unread HasFailed (BadGeometry 7) fault (good tells.lines tells.told tells.is)), none);
      short = λ bytes tells told sized passes is. (inl (unread HasFailed (Small bytes) fault (good tells.lines tells.told tells.is)), none);
      anchors = λ tells told sized passes is. (inl (unread HasFailed (BadGeometry 2) fault (good tells.lines tells.told tells.is)), none);
    }
