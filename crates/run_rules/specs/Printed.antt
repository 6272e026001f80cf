-- What lines print of the file and of the script.
use Rattle.std.specs.Prelude.{List, length, take, ◌≡◌, ◌≤◌, ℕ}
use Rattle.lock_word.specs.Words.{epoch_number, version_of}
use Rattle.lock_word.specs.declared.epoch.Epoch.{Epoch}
use Rattle.rebuild_model.specs.Entry.{Entry}
use Rattle.rebuild_model.specs.Rebuilt.{IsWinner}
use Rattle.store_key.specs.Key.{key_of}
use Rattle.script_text.specs.declared.answer.Answer.{Answer}
use Rattle.script_text.specs.declared.line.Line.{Line}
use Rattle.core_model.specs.Anchors.{opening_counter}
use Rattle.line_account.specs.Answers.{IsWhole, Run, bytes_with}
use Rattle.line_account.specs.Closing.{LineIn, Worker}
use Rattle.line_account.specs.Lines.{Served}
use Rattle.line_account.specs.Printed.{Finds, HitIn, KeyIn, PrintsOther, ReadsOf}
use Rattle.line_account.specs.Tabs.{ReadsOn}
use Rattle.run_rules.specs.Responses.{HasTwin, IsFrontOf, IsResponse}

module _ {X : Type 0} (r : Run X) (slot anchors : ℕ) (images : List (List ℕ)) (script : List Line) (crew : List Worker) where
  -- the winner of an anchor, whose URL and body these are
  pub record IsOfWinner (a : ℕ) (url body : List ℕ) : Type 0 where
    -- an entry
    pub entry : Entry
    -- that a rebuild of the file keeps at the anchor
    pub winner : IsWinner slot images anchors a entry
    -- with this URL
    pub url_is : url ≡ entry.url
    -- and this body
    pub body_is : body ≡ entry.body

  -- bytes are the first ones of its body, and all of it where the answer says so
  pub record IsFrontOfWinner (a : ℕ) (told : Answer) (bytes : List ℕ) : Type 0 where
    -- an entry
    pub entry : Entry
    -- that a rebuild of the file keeps at the anchor
    pub winner : IsWinner slot images anchors a entry
    -- the bytes are the first ones of its body
    pub first_ones : bytes ≡ take (length bytes) entry.body
    -- and all of it at HIT and END
    pub whole : IsWhole told → bytes ≡ entry.body

  -- and its key
  pub record IsKeyOfWinner (a : ℕ) (key : List ℕ) : Type 0 where
    -- an entry
    pub entry : Entry
    -- that a rebuild of the file keeps at the anchor
    pub winner : IsWinner slot images anchors a entry
    -- the key is that of its URL
    pub key_is : key ≡ key_of entry.url

  -- Where the volume tells its files.
  pub record AreResponses : Type 0 where
    -- the URL and the body of each HIT are a stored response
    pub hit : (a x : ℕ) (url bytes : List ℕ) → HitIn r crew a x url bytes → IsResponse slot images script url bytes
    -- and with a version of the opening they are those of the file's winner at the anchor
    pub hit_old : (a x : ℕ) (url bytes : List ℕ) → HitIn r crew a x url bytes → x ≤ opening_counter r.setting → IsOfWinner a url bytes
    -- the bytes of each PART, HALTED and FAULT of a `get`, and all that the `more` lines of a tab gave since its `open`, are the first ones
    -- of one stored response under the URL, and all of it where HIT or END came. A FAULT before a slot was read gives no byte, and nothing
    -- is said of it.
    pub bytes : (first : Served) (url : List ℕ) → (p : LineIn crew (λ earlier s. ReadsOf earlier s first url))
        → IsFrontOf slot images script p.served.answer url (bytes_with p.earlier p.served)
    -- where the tab was opened with a version of the opening they are those of the file's winner at the anchor
    pub tab_old : (a x : ℕ) → (p : LineIn crew (λ earlier s. ReadsOn r.setting.anchors earlier s a x)) → x ≤ opening_counter r.setting
        → IsFrontOfWinner a p.served.answer (bytes_with p.earlier p.served)
    -- OTHERURL comes only where another URL of the file or of the script has the key of the URL
    pub other : (url : List ℕ) → LineIn crew (λ earlier s. PrintsOther earlier s url) → HasTwin slot images script url

  -- Of versions of the opening.
  pub record AreKeysOfWinners : Type 0 where
    -- a printed key is that of the URL of the file's winner at the anchor
    pub printed : (a : ℕ) (epoch : Epoch) (key : List ℕ) → KeyIn r crew a epoch key
        → version_of (epoch_number epoch) ≤ opening_counter r.setting → IsKeyOfWinner a key
    -- and so is the key of the URL for which OPEN, HIT, PURGED, WIPED, LATER or the PART of a `get` tells of an entry
    pub found : (a x : ℕ) (url : List ℕ) → LineIn crew (λ earlier s. Finds r.setting.anchors s a x url)
        → x ≤ opening_counter r.setting → IsKeyOfWinner a (key_of url)
