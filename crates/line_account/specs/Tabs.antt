-- What the lines of one tab that reads have in common.
use Rattle.std.specs.Prelude.{IsTrue, List, Some, [], length, take, ◌<◌, ◌≡◌, ◌≤◌, ℕ}
use Rattle.lock_word.specs.Words.{epoch_number, version_of}
use Rattle.lock_word.specs.declared.epoch.Epoch.{Epoch}
use Rattle.plain_model.specs.Serving.{bytes_of}
use Rattle.script_text.specs.declared.answer.Answer.{Answer}
use Rattle.script_text.specs.declared.answer.Answer.TheVariants as answer
use Rattle.script_text.specs.declared.body.Body.{Body}
use Rattle.script_text.specs.Requests.{url_in}
use Rattle.core_model.specs.Anchors.{opening_counter}
use Rattle.line_account.specs.Answers.{IsSure, IsWhole, Reads, Run, bytes_with}
use Rattle.line_account.specs.Closing.{BegunIn, HaltedIn, LineIn, Worker}
use Rattle.line_account.specs.Lines.{Offers, Served}
use Rattle.line_account.specs.Printed.{HadEntry, ReadsVersion, old_offer}
use Rattle.line_account.specs.Stopping.{ReadsBehind, is_end, is_halted, is_other_url}

-- a line that reads what was opened with the version x at the anchor a
pub record ReadsOn (anchors : ℕ) (earlier : List Served) (s : Served) (a x : ℕ) : Type 0 where
  pub of : ReadsVersion anchors earlier s a x
  pub reads : Reads s.answer

-- it printed PART with this epoch, or HALTED
pub record ReadsPart (anchors : ℕ) (earlier : List Served) (s : Served) (a x : ℕ) (epoch : Epoch) : Type 0 where
  pub of : ReadsVersion anchors earlier s a x
  pub bytes : List ℕ
  pub printed : s.answer ≡ answer.Part epoch bytes

pub record ReadsHalted (anchors : ℕ) (earlier : List Served) (s : Served) (a x : ℕ) : Type 0 where
  pub of : ReadsVersion anchors earlier s a x
  pub bytes : List ℕ
  pub printed : s.answer ≡ answer.Halted bytes

-- a line that reads what was opened with the version x at the anchor a under this URL, and found its first slot
pub record ReadsUnder (anchors : ℕ) (earlier : List Served) (s : Served) (a x : ℕ) (url : List ℕ) : Type 0 where
  pub of : ReadsVersion anchors earlier s a x
  pub named : url_in of.first.asked.request ≡ Some url
  pub sure : IsSure s.answer

-- one that printed OTHERURL of it
pub record ReadsOther (anchors : ℕ) (earlier : List Served) (s : Served) (a x : ℕ) (url : List ℕ) : Type 0 where
  pub of : ReadsVersion anchors earlier s a x
  pub named : url_in of.first.asked.request ≡ Some url
  pub printed : s.answer ≡ answer.OtherUrl

-- the bytes are the first ones of the body of the entry that the anchor a had at the opening, and all of it where the answer says so
pub record IsFrontOfOld {X : Type 0} (r : Run X) (a : ℕ) (told : Answer) (bytes : List ℕ) : Type 0 where
  pub there : HadEntry r a
  pub first_ones : bytes ≡ take (length bytes) (r.body (old_offer r a))
  pub whole : IsWhole told → bytes ≡ r.body (old_offer r a)

-- or of the body that the line offers which began the version x at the anchor a
pub record IsFrontOfLine {X : Type 0} (r : Run X) (crew : List Worker) (a x : ℕ) (told : Answer) (bytes : List ℕ) : Type 0 where
  pub begun : BegunIn r crew a x
  pub url : List ℕ
  pub body : Body
  pub offers : Offers begun.served.asked.request url body
  pub first_ones : bytes ≡ take (length bytes) (bytes_of body)
  pub whole : IsWhole told → bytes ≡ bytes_of body

module _ {X : Type 0} (r : Run X) (crew : List Worker) where
  pub record TabsStay : Type 0 where
    -- PART on a tab is of the version that its OPEN printed
    pub part : (a x : ℕ) (epoch : Epoch) → LineIn crew (λ earlier s. ReadsPart r.setting.anchors earlier s a x epoch)
        → version_of (epoch_number epoch) ≡ x
    -- HALTED on a tab comes only where the writing of that version was halted
    pub halted : (a x : ℕ) → LineIn crew (λ earlier s. ReadsHalted r.setting.anchors earlier s a x) → HaltedIn r crew a x
    -- All bytes that a tab gave since its OPEN are the first ones of one body: of a version of the opening that of the entry that the
    -- anchor had then, and of a later one that of the line that began the version. They are all of it at END; and so are those of HIT.
    pub old : IsTrue r.tells → (a x : ℕ) → (p : LineIn crew (λ earlier s. ReadsOn r.setting.anchors earlier s a x))
        → x ≤ opening_counter r.setting → IsFrontOfOld r a p.served.answer (bytes_with p.earlier p.served)
    -- of a later version those of the line that began the version
    pub new : IsTrue r.tells → (a x : ℕ) → (p : LineIn crew (λ earlier s. ReadsOn r.setting.anchors earlier s a x))
        → opening_counter r.setting < x → IsFrontOfLine r crew a x p.served.answer (bytes_with p.earlier p.served)
    -- Behind END a tab that reads prints END and no byte, behind OTHERURL it prints OTHERURL, and behind HALTED it prints HALTED and no
    -- byte.
    pub behind_end : (tab : ℕ) → (p : LineIn crew (λ earlier s. ReadsBehind is_end earlier s tab)) → p.served.answer ≡ answer.End []
    pub behind_other : (tab : ℕ) → (p : LineIn crew (λ earlier s. ReadsBehind is_other_url earlier s tab))
        → p.served.answer ≡ answer.OtherUrl
    pub behind_halted : (tab : ℕ) → (p : LineIn crew (λ earlier s. ReadsBehind is_halted earlier s tab))
        → p.served.answer ≡ answer.Halted []
    -- Of one version under one URL, either OTHERURL is printed, or HIT, PART, END and HALTED.
    pub one_url : IsTrue r.tells → (a x : ℕ) (url : List ℕ) → LineIn crew (λ earlier s. ReadsUnder r.setting.anchors earlier s a x url)
        → LineIn crew (λ earlier s. ReadsOther r.setting.anchors earlier s a x url) → ⊥
