-- Where the bytes and the keys come from that lines print.
use Rattle.std.specs.Prelude.{List, ◌<◌, ◌≡◌, ◌≤◌, ℕ}
use Rattle.lock_word.specs.Words.{epoch_number, version_of}
use Rattle.lock_word.specs.declared.epoch.Epoch.{Epoch}
use Rattle.store_key.specs.Key.{key_of}
use Rattle.core_model.specs.Anchors.{opening_counter}
use Rattle.line_account.specs.Answers.{Run, bytes_with}
use Rattle.line_account.specs.Closing.{HaltedIn, LineIn, Worker}
use Rattle.line_account.specs.Lines.{Served}
use Rattle.line_account.specs.Printed.{AreFirstOnes, Finds, FinishedIn, HadEntry, HitIn, IsBodyAsPrinted, IsKeyOfLine, IsOldBody, IsOldUrl}
use Rattle.line_account.specs.Printed.{KeyIn, ReadsOf, ReadsWhole}

module _ {X : Type 0} (r : Run X) (crew : List Worker) where
  -- of a run that tells of bytes
  pub record HaveBodies : Type 0 where
    -- a HIT of a version of the opening has the whole body of the entry that the anchor had then, under its URL
    pub hit_old : (a x : ℕ) (url bytes : List ℕ) → HitIn r crew a x url bytes → x ≤ opening_counter r.setting → IsOldBody r a url bytes
    -- and that of a later version the whole body that the line offers which printed that it began the version, under its URL
    pub hit_new : (a x : ℕ) (url bytes : List ℕ) → HitIn r crew a x url bytes → opening_counter r.setting < x
        → IsBodyAsPrinted r crew a x url bytes
    -- A later version is given to its end, by HIT or by END, only where a line of its writing printed STORED or DOOMED with it.
    pub finished : (a x : ℕ) → LineIn crew (λ earlier s. ReadsWhole r.setting.anchors earlier s a x) → opening_counter r.setting < x
        → FinishedIn r crew a x
    -- So its writing was not given up: no line printed DROPPED, FULL, LARGE or FAULT of it, and no worker came to its end with a tab that
    -- wrote it.
    pub not_halted : (a x : ℕ) → LineIn crew (λ earlier s. ReadsWhole r.setting.anchors earlier s a x) → opening_counter r.setting < x
        → HaltedIn r crew a x → ⊥
    -- the bytes that a `get`, or all `more` of a tab since its `open`, gave are the first ones of one body that is stored under its URL,
    -- and all of it at HIT and END
    pub bytes : (first : Served) (url : List ℕ) → (p : LineIn crew (λ earlier s. ReadsOf earlier s first url))
        → AreFirstOnes r crew p.served.answer url (bytes_with p.earlier p.served)

  -- of any run
  pub record HaveKeys : Type 0 where
    -- a key with a version of the opening is that of the entry that the anchor had then
    pub old : (a : ℕ) (epoch : Epoch) (key url : List ℕ) → KeyIn r crew a epoch key
        → version_of (epoch_number epoch) ≤ opening_counter r.setting → IsOldUrl r a url → key ≡ key_of url
    -- and the anchor had an entry then
    pub kept : (a : ℕ) (epoch : Epoch) (key : List ℕ) → KeyIn r crew a epoch key
        → version_of (epoch_number epoch) ≤ opening_counter r.setting → HadEntry r a
    -- and that with a later version is the key of the URL of the line that began the version there
    pub new : (a : ℕ) (epoch : Epoch) (key : List ℕ) → KeyIn r crew a epoch key
        → opening_counter r.setting < version_of (epoch_number epoch)
        → IsKeyOfLine r crew a (version_of (epoch_number epoch)) key
    -- What OPEN, HIT, PURGED and the PART of a `get` tell of is an entry with the key of the line's URL: of a version of the opening, the
    -- entry that the anchor had then, and of a later one the line that began the version.
    pub found_old : (a x : ℕ) (url kept : List ℕ) → LineIn crew (λ earlier s. Finds r.setting.anchors s a x url)
        → x ≤ opening_counter r.setting → IsOldUrl r a kept → key_of url ≡ key_of kept
    -- of a later version with the key of the URL of the line that began the version
    pub found_new : (a x : ℕ) (url : List ℕ) → LineIn crew (λ earlier s. Finds r.setting.anchors s a x url) → opening_counter r.setting < x
        → IsKeyOfLine r crew a x (key_of url)
