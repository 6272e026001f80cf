-- What a pass finds at an anchor: the epoch of the plain store, by which it judges the entry there as the plain store does.
use Rattle.std.proofs.Common.{Bool, List, None, Option, Some, ap, cond, false, inl, inr, refl, subst, sym, true, ◌+◌, ◌<◌, ◌∙◌, ◌==◌, ◌≡◌, ◌≢◌, ◌⊎◌, ℕ}
use Rattle.std.specs.Str.{bytes_eq}
use Rattle.std.proofs.lemmas.Slice.Eq.{bytes_eq-Decides}
use Rattle.lock_word.specs.Cause.{cause_of}
use Rattle.lock_word.specs.Life.{IsReadable}
use Rattle.lock_word.specs.Words.{epoch_number, epoch_of}
use Rattle.lock_word.specs.declared.cause.Cause.{Cause}
use Rattle.lock_word.specs.declared.cause.Cause.TheVariants.{Absent, OtherKey}
use Rattle.lock_word.specs.declared.epoch.Epoch.{Epoch}
use Rattle.lock_word.specs.declared.stage.Stage.{Stage}
use Rattle.lock_word.specs.declared.stage.Stage.TheVariants.{Appending, Closed, Empty, Freeing, Gone, Halted, Taken}
use Rattle.core_model.specs.declared.view.Place.TheVariants.{Anchor}
use Rattle.core_model.specs.declared.view.View.{View}
use Rattle.entry_cut.specs.Content.{room_of}
use Rattle.plain_model.specs.declared.entry.Entry.{Entry}
use Rattle.plain_model.specs.declared.store.Plain.{Plain}
use Rattle.plain_model.specs.declared.store.Setting.{Setting}
use Rattle.plain_model.specs.Reading.{judge}
use Rattle.plain_model.specs.Store as plain
use Rattle.plain_model.specs.Store.{entry_at, place_at, readers}
use Rattle.plain_laws.specs.Renaming.{renamed_cause, renamed_epoch}
use Rattle.plain_laws.proofs.ReadingAlike.{renamed_verdict}
use Rattle.store_rule.specs.Ground.{Ground}
use Rattle.store_rule.specs.Words.{has}
use Rattle.plain_runs.proofs.PlainWords.{epoch_told}
use Rattle.plain_runs.specs.Words.{ShowsAt, setting_of}

-- Causes at an epoch whose version stands for another.

other_key : (rename : ℕ → ℕ) (e : Epoch) (key : List ℕ) (b : Bool) → cond b None (Some (OtherKey (renamed_epoch rename e) key)) ≡ renamed_verdict rename (cond b None (Some (OtherKey e key)))
other_key rename e key true = refl
other_key rename e key false = refl

cause_at : (rename : ℕ → ℕ) (v : ℕ) (doom : Bool) (s : Stage) (key wanted : List ℕ)
    → cause_of (record { version = rename v; doom = doom; stage = s }) key wanted ≡ renamed_verdict rename (cause_of (record { version = v; doom = doom; stage = s }) key wanted)
cause_at rename v doom Empty key wanted = refl
cause_at rename v doom Gone key wanted = refl
cause_at rename v doom Taken key wanted = refl
cause_at rename v true Appending key wanted = refl
cause_at rename v true Closed key wanted = refl
cause_at rename v true Halted key wanted = refl
cause_at rename v true Freeing key wanted = refl
cause_at rename v false Halted key wanted = refl
cause_at rename v false Freeing key wanted = refl
cause_at rename v false Appending key wanted = other_key rename (record { version = v; doom = false; stage = Appending }) key (bytes_eq key wanted)
cause_at rename v false Closed key wanted = other_key rename (record { version = v; doom = false; stage = Closed }) key (bytes_eq key wanted)

-- The plain store judges by its epoch, and where there is an entry by its key.

absent_at : (v : ℕ) (doom b : Bool) (key wanted : List ℕ) (s : Stage) → s ≡ cond b Empty Gone → Some (Absent record { version = v; doom = doom; stage = s }) ≡ cause_of record { version = v; doom = doom; stage = s } key wanted
absent_at v doom true key wanted s is = rw is refl
absent_at v doom false key wanted s is = rw is refl

abbrev HasKey : Option Entry → List ℕ → Type 0
HasKey None key = Unit {0}
HasKey (Some e) key = e.key ≡ key

-- of any epoch that is the plain one
judged_when : (s : Setting) (p : Plain) (a : ℕ) (key wanted : List ℕ) (epoch : Epoch) (o : Option Entry) → plain.epoch_of s.room (place_at p a) ≡ epoch → entry_at p a ≡ o → HasKey o key
    → ((o ≡ None) → Some (Absent epoch) ≡ cause_of epoch key wanted) → judge s p a wanted ≡ cause_of epoch key wanted
judged_when s p a key wanted epoch None h there k absent = judge_none ∙ absent refl
  where
    judge_none : judge s p a wanted ≡ Some (Absent epoch)
    judge_none = rw there (ap (λ (x : Epoch). Some (Absent x)) h)
judged_when s p a key wanted epoch (Some e) h there k absent = judge_some ∙ ap (λ (z : List ℕ). cause_of epoch z wanted) k
  where
    judge_some : judge s p a wanted ≡ cause_of epoch e.key wanted
    judge_some = rw there (ap (λ (y : Epoch). cause_of y e.key wanted) h)

judged_by : (s : Setting) (p : Plain) (a : ℕ) (key wanted : List ℕ) → HasKey (entry_at p a) key → judge s p a wanted ≡ cause_of (plain.epoch_of s.room (place_at p a)) key wanted
judged_by s p a key wanted h = judged_when s p a key wanted (plain.epoch_of s.room (place_at p a)) (entry_at p a) refl refl h
    (λ none. absent_at (place_at p a).version (place_at p a).doom ((place_at p a).version == 0) key wanted (plain.stage_of s.room (place_at p a).version (entry_at p a)) (ap (plain.stage_of s.room (place_at p a).version) none))

verdict_none : (rename : ℕ → ℕ) (o : Option Cause) → renamed_verdict rename o ≡ None → o ≡ None
verdict_none rename None h = refl
verdict_none rename (Some c) h = absurd (let z : Some (renamed_cause rename c) ≡ None = h in cc)

verdict_some : (rename : ℕ → ℕ) (o : Option Cause) (c : Cause) → renamed_verdict rename o ≡ Some c → (d : Cause) × (o ≡ Some d) × (c ≡ renamed_cause rename d)
verdict_some rename None c h = absurd (let z : None ≡ Some c = h in cc)
verdict_some rename (Some d) c h = (d, refl, (let z : Some (renamed_cause rename d) ≡ Some c = h in cc))

-- a readable epoch has an entry
readable_some : (s : Setting) (p : Plain) (a : ℕ) (o : Option Entry) → entry_at p a ≡ o → IsReadable (plain.epoch_of s.room (place_at p a)) → (e : Entry) × (o ≡ Some e)
readable_some s p a None there h = absurd (empty_or_gone ((place_at p a).version == 0) (ap (plain.stage_of s.room (place_at p a).version) there) h.0)
  where
    empty_or_gone : (b : Bool) → plain.stage_of s.room (place_at p a).version (entry_at p a) ≡ cond b Empty Gone
        → (plain.stage_of s.room (place_at p a).version (entry_at p a) ≡ Appending) ⊎ (plain.stage_of s.room (place_at p a).version (entry_at p a) ≡ Closed) → ⊥
    empty_or_gone true e (inl k) = let z : Empty ≡ Appending = sym e ∙ k in cc
    empty_or_gone true e (inr k) = let z : Empty ≡ Closed = sym e ∙ k in cc
    empty_or_gone false e (inl k) = let z : Gone ≡ Appending = sym e ∙ k in cc
    empty_or_gone false e (inr k) = let z : Gone ≡ Closed = sym e ∙ k in cc
readable_some s p a (Some e) there h = (e, refl)

module _ (g : Ground (List ℕ)) (rename : ℕ → ℕ) (v : View (List ℕ)) (p : Plain) (n a : ℕ) (shows : ShowsAt g rename v p n a) (few : readers p a + n < 65536) where
  abbrev epoch_plain : Epoch
  epoch_plain = plain.epoch_of (room_of g.slot) (place_at p a)

  abbrev epoch_here : Epoch
  epoch_here = renamed_epoch rename epoch_plain

  -- an epoch that is found there is the one of the plain store
  pub epoch_found : (found : ℕ) (e : Epoch) → found ≡ has g v (Anchor a) → epoch_of found ≡ epoch_number e → e ≡ epoch_here
  epoch_found found e is at = epoch_told rename (setting_of g) p n a found (is ∙ shows.word) few e at

  module _ (e : Epoch) (is : e ≡ epoch_here) where
    readable_plain : IsReadable e → IsReadable epoch_plain
    readable_plain h = subst IsReadable is h

    pub entry_found : IsReadable e → (x : Entry) × (entry_at p a ≡ Some x)
    entry_found h = readable_some (setting_of g) p a (entry_at p a) refl (readable_plain h)

    -- by this key it is judged as the plain store does, whose entry has that key, if there is one
    module _ (key wanted : List ℕ) (kept : (x : Entry) → entry_at p a ≡ Some x → x.key ≡ key) where
      has_key : (o : Option Entry) → entry_at p a ≡ o → HasKey o key
      has_key None there = tt
      has_key (Some x) there = kept x there

      judged_as : cause_of e key wanted ≡ renamed_verdict rename (judge (setting_of g) p a wanted)
      judged_as = ap (λ (z : Epoch). cause_of z key wanted) is ∙ cause_at rename epoch_plain.version epoch_plain.doom epoch_plain.stage key wanted
          ∙ ap (renamed_verdict rename) (sym (judged_by (setting_of g) p a key wanted (has_key (entry_at p a) refl)))

      pub judged_hit : cause_of e key wanted ≡ None → judge (setting_of g) p a wanted ≡ None
      judged_hit h = verdict_none rename (judge (setting_of g) p a wanted) (sym judged_as ∙ h)

      pub judged_miss : (c : Cause) → cause_of e key wanted ≡ Some c → (d : Cause) × (judge (setting_of g) p a wanted ≡ Some d) × (c ≡ renamed_cause rename d)
      judged_miss c h = verdict_some rename (judge (setting_of g) p a wanted) c (sym judged_as ∙ h)

-- an entry that can be read and has the wanted key is a hit
hit_at : (version : ℕ) (doom : Bool) (stage : Stage) (key wanted : List ℕ) → bytes_eq key wanted ≡ true → IsReadable record { version = version; doom = doom; stage = stage } → cause_of record { version = version; doom = doom; stage = stage } key wanted ≡ None
hit_at version true stage key wanted same h = absurd (let z : true ≡ false = h.1 in cc)
hit_at version false Appending key wanted same h = rw same refl
hit_at version false Closed key wanted same h = rw same refl
hit_at version false Empty key wanted same h = absurd (unread h.0)
  where
    unread : (Empty ≡ Appending) ⊎ (Empty ≡ Closed) → ⊥
    unread (inl e) = cc
    unread (inr e) = cc
hit_at version false Taken key wanted same h = absurd (unread h.0)
  where
    unread : (Taken ≡ Appending) ⊎ (Taken ≡ Closed) → ⊥
    unread (inl e) = cc
    unread (inr e) = cc
hit_at version false Halted key wanted same h = absurd (unread h.0)
  where
    unread : (Halted ≡ Appending) ⊎ (Halted ≡ Closed) → ⊥
    unread (inl e) = cc
    unread (inr e) = cc
hit_at version false Freeing key wanted same h = absurd (unread h.0)
  where
    unread : (Freeing ≡ Appending) ⊎ (Freeing ≡ Closed) → ⊥
    unread (inl e) = cc
    unread (inr e) = cc
hit_at version false Gone key wanted same h = absurd (unread h.0)
  where
    unread : (Gone ≡ Appending) ⊎ (Gone ≡ Closed) → ⊥
    unread (inl e) = cc
    unread (inr e) = cc

pub hits : (e : Epoch) (key wanted : List ℕ) → key ≡ wanted → IsReadable e → cause_of e key wanted ≡ None
hits e key wanted same h = hit_at e.version e.doom e.stage key wanted ((bytes_eq-Decides key wanted).1 same) h

-- one with another key is refused, with that key
other_at : (e : Epoch) (key wanted : List ℕ) (b : Bool) → bytes_eq key wanted ≡ b → key ≢ wanted → cond b None (Some (OtherKey e key)) ≡ Some (OtherKey e key)
other_at e key wanted true is ne = absurd (ne ((bytes_eq-Decides key wanted).0 is))
other_at e key wanted false is ne = refl

pub refuses : (e : Epoch) (key wanted : List ℕ) → key ≢ wanted → IsReadable e → cause_of e key wanted ≡ Some (OtherKey e key)
refuses e key wanted ne h = by_parts e.version e.doom e.stage h
  where
    by_parts : (version : ℕ) (doom : Bool) (stage : Stage) → IsReadable record { version = version; doom = doom; stage = stage }
        → cause_of record { version = version; doom = doom; stage = stage } key wanted ≡ Some (OtherKey record { version = version; doom = doom; stage = stage } key)
    by_parts version doom stage (inl a, b) = ap (λ (z : Epoch). cause_of z key wanted) (λ i. record { version = version; doom = b i; stage = a i })
        ∙ other_at record { version = version; doom = false; stage = Appending } key wanted (bytes_eq key wanted) refl ne
        ∙ (λ i. Some (OtherKey record { version = version; doom = sym b i; stage = sym a i } key))
    by_parts version doom stage (inr a, b) = ap (λ (z : Epoch). cause_of z key wanted) (λ i. record { version = version; doom = b i; stage = a i })
        ∙ other_at record { version = version; doom = false; stage = Closed } key wanted (bytes_eq key wanted) refl ne
        ∙ (λ i. Some (OtherKey record { version = version; doom = sym b i; stage = sym a i } key))
