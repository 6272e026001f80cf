-- What a source gave, and what was read of it.
use Rattle.std.proofs.Common.{◌≡◌, ◌≤◌, ◌<◌, ◌^◌, ℕ, List, [], ◌∷◌, ◌++◌, length, take, drop, Bool, Ok, Err, ap, sym, ◌∙◌, subst, append_assoc, arith}
use Rattle.std.specs.Prelude.{Result, MatchResult, IfOk, IfErr, IsErrAnd, IsTrue}
use Rattle.std.proofs.lemmas.List.{take-append-le, append-nil, take-take}
use Rattle.script_text.specs.Words.{lines_of}
use Rattle.script_text.specs.Reading.{IsFront}
use Rattle.script_text.specs.Refusals.{IfBadLine}
use Rattle.script_text.specs.Script.{IsScript, IsBadScript, GivesScript, GivesBadLine, Explains}
use Rattle.script_text.specs.declared.fault.ScriptFault.{ScriptFault}
use Rattle.script_text.specs.declared.fault.ScriptFault.TheVariants.{BadLine, Failed, Memory}
use Rattle.script_text.specs.declared.line.Line.{Line}
use Rattle.script_text.specs.declared.line.Script.{Script}
use Rattle.script_text.specs.declared.reading.Reading.{Reading}
use Rattle.script_text.proofs.Excluding.{one_script, never_both, one_bad_line}

-- the bytes that a source put into the front of a buffer
pub chunk_given : (count len : ℕ) (new old : List ℕ) → count ≤ length new → count ≤ len → take count (take len (new ++ drop (length new) old)) ≡ take count new
chunk_given count len new old given fits = grind (arith, take-take, take-append-le)

-- what was taken before, and now
pub taken_more : (before front bytes mid after : List ℕ) → before ≡ front ++ mid → mid ≡ bytes ++ after → before ≡ (front ++ bytes) ++ after
taken_more before front bytes mid after was is = was ∙ ap (λ l. front ++ l) is ∙ sym (append_assoc front bytes after)

explained_at : (e : ScriptFault) (IsBad Tells : ℕ → ℕ → Type 0) (HasFailed : Type 0) → IfBadLine IsBad e → ((line cause : ℕ) → IsBad line cause → Tells line cause) → Explains Tells HasFailed e
explained_at (BadLine line cause) IsBad Tells HasFailed bad so = so line cause bad
explained_at Failed IsBad Tells HasFailed bad so = absurd bad
explained_at Memory IsBad Tells HasFailed bad so = tt

pub explained : {T : Type 0} (r : Result T ScriptFault) (IsBad Tells : ℕ → ℕ → Type 0) (HasFailed : Type 0) → IfErr r (IfBadLine IsBad) → ((line cause : ℕ) → IsBad line cause → Tells line cause)
    → IfErr r (Explains Tells HasFailed)
explained (Ok x) IsBad Tells HasFailed bad so = tt
explained (Err e) IsBad Tells HasFailed bad so = explained_at e IsBad Tells HasFailed bad so

pub explained_again : {T : Type 0} (r : Result T ScriptFault) (e : ScriptFault) (IsBad Tells : ℕ → ℕ → Type 0) (HasFailed : Type 0) → IsErrAnd r (λ f. f ≡ e) → IfBadLine IsBad e
    → ((line cause : ℕ) → IsBad line cause → Tells line cause) → IfErr r (Explains Tells HasFailed)
explained_again (Ok x) e IsBad Tells HasFailed is bad so = absurd is
explained_again (Err f) e IsBad Tells HasFailed is bad so = rw is (explained_at e IsBad Tells HasFailed bad so)

-- a bad line in the bytes that a source gave now
pub bad_now : (tells : Bool) (reading : Reading) (workers : ℕ) (before front bytes mid after : List ℕ) (line cause : ℕ) → reading.workers ≡ workers → IsFront reading front
    → (IsTrue tells → before ≡ front ++ mid) → (IsTrue tells → mid ≡ bytes ++ after)
    → ((front rest : List ℕ) → IsFront reading front → IsBadScript reading.workers ((front ++ bytes) ++ rest) line cause) → GivesBadLine tells workers before line cause
bad_now tells reading workers before front bytes mid after line cause same is was now bad = (
  (front ++ bytes) ++ after,
  subst (λ (w : ℕ). IsBadScript w ((front ++ bytes) ++ after) line cause) same (bad front after is),
  λ told. sym (taken_more before front bytes mid after (was told) (now told)),
)

-- a source that has nothing left
pub all_taken : (before front mid after : List ℕ) (bytes : List ℕ) → before ≡ front ++ mid → mid ≡ bytes ++ after → mid ≡ [] → (front ≡ before) × (after ≡ [])
all_taken before front mid after [] was now none =
    (sym (was ∙ ap (λ l. front ++ l) none ∙ append-nil front), sym now ∙ none)
all_taken before front mid after (b ∷ bytes) was now none = absurd (let joined : [] ≡ b ∷ (bytes ++ after) = sym none ∙ now in cc)

-- the text ends in a bad line
pub bad_at_end : (tells : Bool) (reading : Reading) (workers : ℕ) (before front mid after bytes : List ℕ) (line cause : ℕ) → reading.workers ≡ workers → IsFront reading front
    → (IsTrue tells → before ≡ front ++ mid) → (IsTrue tells → mid ≡ bytes ++ after) → (IsTrue tells → mid ≡ [])
    → ((front : List ℕ) → IsFront reading front → IsBadScript reading.workers front line cause) → GivesBadLine tells workers before line cause
bad_at_end tells reading workers before front mid after bytes line cause same is was now none bad = (
  front,
  subst (λ (w : ℕ). IsBadScript w front line cause) same (bad front is),
  λ told. (all_taken before front mid after bytes (was told) (now told) (none told)).0,
)

-- the text ends in no bad line
pub script_at_end : (tells : Bool) (reading : Reading) (workers : ℕ) (before front mid after bytes : List ℕ) (r : Result Script ScriptFault) → reading.workers ≡ workers → IsFront reading front
    → (IsTrue tells → before ≡ front ++ mid) → (IsTrue tells → mid ≡ bytes ++ after) → (IsTrue tells → mid ≡ [])
    → IfOk r (λ script. (front : List ℕ) → IsFront reading front → IsScript reading.workers front script.lines)
    → IfOk r (λ script. GivesScript tells workers before after script.lines)
script_at_end tells reading workers before front mid after bytes (Ok script) same is was now none so = (
  front,
  subst (λ (w : ℕ). IsScript w front script.lines) same (so front is),
  λ told. all_taken before front mid after bytes (was told) (now told) (none told),
)
script_at_end tells reading workers before front mid after bytes (Err e) same is was now none so = tt

-- a script that the source was to give is what was read of it
pub good_read : (tells : Bool) (workers : ℕ) (before after : List ℕ) (HasFailed : Type 0) (r : Result Script ScriptFault) (lines : List Line) → workers < 2 ^ 32
    → IfOk r (λ script. GivesScript tells workers before after script.lines) → IfErr r (Explains (GivesBadLine tells workers before) HasFailed)
    → IsTrue tells → IsScript workers before lines → MatchResult r (λ script. script.lines ≡ lines) (Explains (λ _ _. ⊥) HasFailed)
good_read tells workers before after HasFailed (Ok script) lines few (text, is, so) refused told good =
    one_script workers (lines_of before) script.lines lines few (subst (λ (t : List ℕ). IsScript workers t script.lines) (so told).0 is) good
good_read tells workers before after HasFailed (Err (BadLine line cause)) lines few script (text, is, so) told good =
    never_both workers before lines line cause few good (subst (λ (t : List ℕ). IsBadScript workers t line cause) (so told) is)
good_read tells workers before after HasFailed (Err Failed) lines few script refused told good = refused
good_read tells workers before after HasFailed (Err Memory) lines few script refused told good = tt

-- and so is its first bad line
pub bad_read : (tells : Bool) (workers : ℕ) (before after : List ℕ) (HasFailed : Type 0) (r : Result Script ScriptFault) (line cause : ℕ) → workers < 2 ^ 32
    → IfOk r (λ script. GivesScript tells workers before after script.lines) → IfErr r (Explains (GivesBadLine tells workers before) HasFailed)
    → IsTrue tells → IsBadScript workers before line cause → MatchResult r (λ _. ⊥) (Explains (λ l c. (l ≡ line) × (c ≡ cause)) HasFailed)
bad_read tells workers before after HasFailed (Ok script) line cause few (text, is, so) refused told bad =
    never_both workers before script.lines line cause few (subst (λ (t : List ℕ). IsScript workers t script.lines) (so told).0 is) bad
bad_read tells workers before after HasFailed (Err (BadLine other another)) line cause few script (text, is, so) told bad =
    one_bad_line workers before other another line cause few (subst (λ (t : List ℕ). IsBadScript workers t other another) (so told) is) bad
bad_read tells workers before after HasFailed (Err Failed) line cause few script refused told bad = refused
bad_read tells workers before after HasFailed (Err Memory) line cause few script refused told bad = tt

-- a refusal is no script
pub no_script : {T : Type 0} (r : Result T ScriptFault) (e : ScriptFault) (Is : T → Type 0) → IsErrAnd r (λ f. f ≡ e) → IfOk r Is
no_script (Ok x) e Is is = absurd is
no_script (Err f) e Is is = tt
