-- The number of an anchor's word, and what the plain store has there.
use Rattle.std.proofs.Common.{Bool, Option, None, Some, ap, arith, cond, false, length, refl, sym, true, ◌*◌, ◌+◌, ◌<◌, ◌≡◌, ◌≢◌, ◌≤◌, ◌∙◌, ne_eqb, ℕ}
use Rattle.std.specs.Prelude.{◌&&◌, ◌==◌, ◌||◌, is_none, not}
use Rattle.std.proofs.Math.Bool.{and_comm}
use Rattle.std.proofs.lemmas.List.Sums.{count_by-le-length, sum_by-set}
use Rattle.lock_word.specs.declared.epoch.Epoch.{Epoch}
use Rattle.lock_word.specs.declared.stage.Stage.TheVariants.{Appending, Empty, Gone, Taken}
use Rattle.lock_word.specs.declared.word.Word.{Word}
use Rattle.lock_word.specs.Words.{doom_number, doom_of, epoch_number, epoch_of, is_idle, is_left_over, is_vacant, mode_of, readers_of, stage_number, stage_of, version_of, word_number}
use Rattle.lock_word.proofs.Parts.{doom_of-epoch_number, mode_of-epoch_number, same_epoch, stage_of-epoch_number, version_of-epoch_number}
use Rattle.plain_model.specs.declared.entry.Entry.{Entry}
use Rattle.plain_model.specs.declared.entry.Life.{Life}
use Rattle.plain_model.specs.declared.entry.Life.TheVariants.{GivenUp, Growing, Whole}
use Rattle.plain_model.specs.declared.store.Plain.{Plain}
use Rattle.plain_model.specs.declared.store.Setting.{Setting}
use Rattle.plain_model.specs.declared.store.Tab.{Tab}
use Rattle.plain_model.specs.declared.store.Tab.TheVariants.{Free}
use Rattle.plain_model.specs.Store.{entry_at, epoch_of as epoch_in, has_life, is_idle_at, is_left_over_at, is_vacant_at, place_at, published, readers, reads_at, stage_of as stage_in, stage_of_entry, tab_at, with_tab, word_at}
use Rattle.plain_laws.specs.Renaming.{renamed_epoch, renamed_word}

-- Numbers with so many readers more than a word has.

module _ (w : Word) (guests n : ℕ) (is : n ≡ word_number w + guests) (few : w.readers + guests < 65536) where
  pub readers_counted : readers_of n ≡ w.readers + guests
  readers_counted = omega arith

  pub epoch_counted : epoch_of n ≡ epoch_number w.epoch
  epoch_counted = omega arith

  pub version_counted : version_of (epoch_of n) ≡ w.epoch.version
  version_counted = ap version_of epoch_counted ∙ version_of-epoch_number w.epoch

  pub doom_counted : doom_of (epoch_of n) ≡ doom_number w.epoch.doom
  doom_counted = ap doom_of epoch_counted ∙ doom_of-epoch_number w.epoch

  pub stage_counted : stage_of (epoch_of n) ≡ stage_number w.epoch.stage
  stage_counted = ap stage_of epoch_counted ∙ stage_of-epoch_number w.epoch

  pub mode_counted : mode_of (epoch_of n) ≡ 8 * doom_number w.epoch.doom + stage_number w.epoch.stage
  mode_counted = ap mode_of epoch_counted ∙ mode_of-epoch_number w.epoch

word : Epoch → ℕ → Word
word epoch readers = record { epoch = epoch; readers = readers }

same_parts : {e f : Epoch} {r q : ℕ} → e ≡ f → r ≡ q → word e r ≡ word f q
same_parts p q = cc

-- a number is that of one word, where its readers fit
pub word_told : (w v : Word) → w.readers < 65536 → v.readers < 65536 → word_number w ≡ word_number v → w ≡ v
unfolding word
word_told w v few less is = same_parts (same_epoch w.epoch v.epoch (omega arith)) (omega arith)

-- What the plain store has at an anchor.

-- no more tabs read than there are
pub readers_few : (p : Plain) (a : ℕ) → readers p a ≤ length p.tabs
readers_few p a = count_by-le-length (reads_at a) p.tabs

pub readers_fit : (p : Plain) (a guests : ℕ) → length p.tabs ≡ 8 → guests ≤ 1 → readers p a + guests < 65536
readers_fit p a guests eight one = let k = readers_few p a in omega arith

-- one tab more or less that reads there
pub readers_put : (p : Plain) (t a : ℕ) (x : Tab) → t < length p.tabs → readers (with_tab p t x) a + cond (reads_at a (tab_at p t)) 1 0 ≡ readers p a + cond (reads_at a x) 1 0
readers_put p t a x inside = sum_by-set (λ (y : Tab). cond (reads_at a y) 1 0) p.tabs t x Free inside

-- the tests of a number, by the parts of a place
vacant_stage : (room version : ℕ) (o : Option Entry) → ((stage_number (stage_in room version o) == 0) || (stage_number (stage_in room version o) == 6)) ≡ is_none o
vacant_stage room version None = of_none (version == 0)
  where
    of_none : (b : Bool) → ((stage_number (cond b Empty Gone) == 0) || (stage_number (cond b Empty Gone) == 6)) ≡ true
    of_none true = refl
    of_none false = refl
vacant_stage room version (Some e) = of_life e.life
  where
    of_none : (b : Bool) → ((stage_number (cond b Taken Appending) == 0) || (stage_number (cond b Taken Appending) == 6)) ≡ false
    of_none true = refl
    of_none false = refl

    of_life : (l : Life) → ((stage_number (stage_of_entry room l e.content) == 0) || (stage_number (stage_of_entry room l e.content) == 6)) ≡ false
    of_life Growing = of_none (published room e.content == 0)
    of_life Whole = refl
    of_life GivenUp = refl

idle_mode : (room version : ℕ) (doom : Bool) (o : Option Entry) → (8 * doom_number doom + stage_number (stage_in room version o) == 3) ≡ (has_life Whole o && not doom)
idle_mode room version false None = of_none (version == 0)
  where
    of_none : (b : Bool) → (8 * doom_number false + stage_number (cond b Empty Gone) == 3) ≡ false
    of_none true = refl
    of_none false = refl
idle_mode room version true None = of_none (version == 0)
  where
    of_none : (b : Bool) → (8 * doom_number true + stage_number (cond b Empty Gone) == 3) ≡ false
    of_none true = refl
    of_none false = refl
idle_mode room version doom (Some e) = of_life doom e.life
  where
    of_none : (doom b : Bool) → (8 * doom_number doom + stage_number (cond b Taken Appending) == 3) ≡ false
    of_none true true = refl
    of_none true false = refl
    of_none false true = refl
    of_none false false = refl

    of_life : (doom : Bool) (l : Life) → (8 * doom_number doom + stage_number (stage_of_entry room l e.content) == 3) ≡ (has_life Whole (Some (record e { life = l })) && not doom)
    of_life doom Growing = of_none doom (published room e.content == 0)
    of_life true Whole = refl
    of_life false Whole = refl
    of_life true GivenUp = refl
    of_life false GivenUp = refl

left_over_mode : (room version : ℕ) (doom : Bool) (o : Option Entry)
    → ((stage_number (stage_in room version o) == 4) || (8 * doom_number doom + stage_number (stage_in room version o) == 11)) ≡ (has_life GivenUp o || (has_life Whole o && doom))
left_over_mode room version doom None = of_none doom (version == 0)
  where
    of_none : (doom b : Bool) → ((stage_number (cond b Empty Gone) == 4) || (8 * doom_number doom + stage_number (cond b Empty Gone) == 11)) ≡ false
    of_none true true = refl
    of_none true false = refl
    of_none false true = refl
    of_none false false = refl
left_over_mode room version doom (Some e) = of_life doom e.life
  where
    of_none : (doom b : Bool) → ((stage_number (cond b Taken Appending) == 4) || (8 * doom_number doom + stage_number (cond b Taken Appending) == 11)) ≡ false
    of_none true true = refl
    of_none true false = refl
    of_none false true = refl
    of_none false false = refl

    of_life : (doom : Bool) (l : Life) → ((stage_number (stage_of_entry room l e.content) == 4) || (8 * doom_number doom + stage_number (stage_of_entry room l e.content) == 11))
        ≡ (has_life GivenUp (Some (record e { life = l })) || (has_life Whole (Some (record e { life = l })) && doom))
    of_life doom Growing = of_none doom (published room e.content == 0)
    of_life true Whole = refl
    of_life false Whole = refl
    of_life true GivenUp = refl
    of_life false GivenUp = refl

-- The number n is that of the plain store's word at the anchor, with so many readers more.
module _ (rename : ℕ → ℕ) (s : Setting) (p : Plain) (guests a n : ℕ) (is : n ≡ word_number (renamed_word rename (word_at s p a)) + guests) (few : readers p a + guests < 65536) where
  pub readers_there : readers_of n ≡ readers p a + guests
  readers_there = readers_counted (renamed_word rename (word_at s p a)) guests n is few

  pub epoch_there : epoch_of n ≡ epoch_number (renamed_epoch rename (epoch_in s.room (place_at p a)))
  epoch_there = epoch_counted (renamed_word rename (word_at s p a)) guests n is few

  pub version_there : version_of (epoch_of n) ≡ rename (place_at p a).version
  version_there = version_counted (renamed_word rename (word_at s p a)) guests n is few

  pub doom_there : doom_of (epoch_of n) ≡ doom_number (place_at p a).doom
  doom_there = doom_counted (renamed_word rename (word_at s p a)) guests n is few

  pub stage_there : stage_of (epoch_of n) ≡ stage_number (stage_in s.room (place_at p a).version (entry_at p a))
  stage_there = stage_counted (renamed_word rename (word_at s p a)) guests n is few

  pub mode_there : mode_of (epoch_of n) ≡ 8 * doom_number (place_at p a).doom + stage_number (stage_in s.room (place_at p a).version (entry_at p a))
  mode_there = mode_counted (renamed_word rename (word_at s p a)) guests n is few

  -- an epoch of this number is that of the plain store
  pub epoch_told : (e : Epoch) → epoch_of n ≡ epoch_number e → e ≡ renamed_epoch rename (epoch_in s.room (place_at p a))
  epoch_told e same = same_epoch e (renamed_epoch rename (epoch_in s.room (place_at p a))) (sym same ∙ epoch_there)

  -- with no reader but those of the plain store it is vacant, idle or left over as the anchor is there
  module _ (none : guests ≡ 0) where
    readers_same : readers_of n ≡ readers p a
    readers_same = omega (arith, readers_there)

    pub vacant_there : is_vacant n ≡ is_vacant_at p a
    vacant_there = ap (λ (m : ℕ). (m == 0) && ((stage_of (epoch_of n) == 0) || (stage_of (epoch_of n) == 6))) readers_same
        ∙ ap (λ (m : ℕ). (readers p a == 0) && ((m == 0) || (m == 6))) stage_there
        ∙ ap (λ (b : Bool). (readers p a == 0) && b) (vacant_stage s.room (place_at p a).version (entry_at p a))
        ∙ and_comm (readers p a == 0) (is_none (entry_at p a))

    pub idle_there : is_idle n ≡ is_idle_at p a
    idle_there = ap (λ (m : ℕ). (m == 0) && (mode_of (epoch_of n) == 3)) readers_same
        ∙ ap (λ (m : ℕ). (readers p a == 0) && (m == 3)) mode_there
        ∙ ap (λ (b : Bool). (readers p a == 0) && b) (idle_mode s.room (place_at p a).version (place_at p a).doom (entry_at p a))
        ∙ and_comm (readers p a == 0) (has_life Whole (entry_at p a) && not (place_at p a).doom)

    pub left_over_there : is_left_over n ≡ is_left_over_at p a
    left_over_there = ap (λ (m : ℕ). (m == 0) && ((stage_of (epoch_of n) == 4) || (mode_of (epoch_of n) == 11))) readers_same
        ∙ ap (λ (m : ℕ). (readers p a == 0) && ((m == 4) || (mode_of (epoch_of n) == 11))) stage_there
        ∙ ap (λ (m : ℕ). (readers p a == 0) && ((stage_number (stage_in s.room (place_at p a).version (entry_at p a)) == 4) || (m == 11))) mode_there
        ∙ ap (λ (b : Bool). (readers p a == 0) && b) (left_over_mode s.room (place_at p a).version (place_at p a).doom (entry_at p a))
        ∙ and_comm (readers p a == 0) (has_life GivenUp (entry_at p a) || (has_life Whole (entry_at p a) && (place_at p a).doom))

  -- with others it is none of these
  module _ (some : 0 < guests) where
    readers_some : readers_of n ≢ 0
    readers_some e = let k = readers_there in omega arith

    pub guests_vacant : is_vacant n ≡ false
    guests_vacant = let k = ne_eqb (readers_of n) 0 readers_some in rw k refl

    pub guests_idle : is_idle n ≡ false
    guests_idle = let k = ne_eqb (readers_of n) 0 readers_some in rw k refl

    pub guests_left_over : is_left_over n ≡ false
    guests_left_over = let k = ne_eqb (readers_of n) 0 readers_some in rw k refl

-- The word that a step found there, where it is known to fit, is the plain store's.
pub word_there : (rename : ℕ → ℕ) (s : Setting) (p : Plain) (a : ℕ) (w : Word) → word_number w ≡ word_number (renamed_word rename (word_at s p a)) + 0 → w.readers < 65536 → readers p a < 65536 → w ≡ renamed_word rename (word_at s p a)
word_there rename s p a w is less few = word_told w (renamed_word rename (word_at s p a)) less few (omega arith)
