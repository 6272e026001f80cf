-- The cause for which a look-up of a key finds no entry to read.
use Rattle.std.proofs.Common.{Bool, List, None, Some, ap, false, inl, inr, refl, sym, true, ◌∙◌, ◌≡◌, ℕ}
use Rattle.std.specs.Str.{bytes_eq}
use Rattle.std.specs.Prelude.{if◌then◌else◌}
use Rattle.lock_word.specs.Cause.{cause_of}
use Rattle.lock_word.specs.Life.{IsReadable}
use Rattle.lock_word.specs.declared.cause.Cause.{Cause}
use Rattle.lock_word.specs.declared.cause.Cause.TheVariants.{Absent, Leaving, OtherKey, Writing}
use Rattle.lock_word.specs.declared.epoch.Epoch.{Epoch}
use Rattle.lock_word.specs.declared.stage.Stage.{Stage}
use Rattle.lock_word.specs.declared.stage.Stage.TheVariants.{Appending, Closed, Empty, Freeing, Gone, Halted, Taken}
use Rattle.line_account.specs.Accounts.{epoch_in}

-- It tells the epoch. Another key comes only where the entry can be read, and it is the one that is kept.
pub record IsTold (e : Epoch) (key : List ℕ) (c : Cause) : Type 0 where
  pub epoch : epoch_in c ≡ e
  pub other : (f : Epoch) (k : List ℕ) → c ≡ OtherKey f k → (k ≡ key) × IsReadable e

abbrev key_in : Cause → List ℕ → List ℕ
key_in (OtherKey f k) other = k
key_in _ other = other

same_cause : (c d : Cause) → Some c ≡ Some d → c ≡ d
same_cause c d e = cc

absent_told : (e : Epoch) (key : List ℕ) (c : Cause) → Absent e ≡ c → IsTold e key c
absent_told e key c h = record { epoch = ap epoch_in (sym h); other = λ f k z. absurd (let y : Absent e ≡ OtherKey f k = h ∙ z in cc) }

writing_told : (e : Epoch) (key : List ℕ) (c : Cause) → Writing e ≡ c → IsTold e key c
writing_told e key c h = record { epoch = ap epoch_in (sym h); other = λ f k z. absurd (let y : Writing e ≡ OtherKey f k = h ∙ z in cc) }

leaving_told : (e : Epoch) (key : List ℕ) (c : Cause) → Leaving e ≡ c → IsTold e key c
leaving_told e key c h = record { epoch = ap epoch_in (sym h); other = λ f k z. absurd (let y : Leaving e ≡ OtherKey f k = h ∙ z in cc) }

other_told : (e : Epoch) (key : List ℕ) (c : Cause) → IsReadable e → OtherKey e key ≡ c → IsTold e key c
other_told e key c readable h = record { epoch = ap epoch_in (sym h); other = λ f k z. (ap (λ (d : Cause). key_in d key) (sym z ∙ sym h), readable) }

by_key : (e : Epoch) (key : List ℕ) (c : Cause) → IsReadable e → (b : Bool) → (if b then None else Some (OtherKey e key)) ≡ Some c → IsTold e key c
by_key e key c readable true h = absurd (let z : None ≡ Some c = h in cc)
by_key e key c readable false h = other_told e key c readable (same_cause _ c h)

by_parts : (version : ℕ) (doom : Bool) (stage : Stage) (key wanted : List ℕ) (c : Cause) → cause_of (record { version = version; doom = doom; stage = stage }) key wanted ≡ Some c → IsTold (record { version = version; doom = doom; stage = stage }) key c
by_parts version doom Empty key wanted c h = absent_told _ key c (same_cause _ c h)
by_parts version doom Gone key wanted c h = absent_told _ key c (same_cause _ c h)
by_parts version doom Taken key wanted c h = writing_told _ key c (same_cause _ c h)
by_parts version true Appending key wanted c h = leaving_told _ key c (same_cause _ c h)
by_parts version true Closed key wanted c h = leaving_told _ key c (same_cause _ c h)
by_parts version true Halted key wanted c h = leaving_told _ key c (same_cause _ c h)
by_parts version true Freeing key wanted c h = leaving_told _ key c (same_cause _ c h)
by_parts version false Halted key wanted c h = leaving_told _ key c (same_cause _ c h)
by_parts version false Freeing key wanted c h = leaving_told _ key c (same_cause _ c h)
by_parts version false Appending key wanted c h = by_key _ key c (inl refl, refl) (bytes_eq key wanted) h
by_parts version false Closed key wanted c h = by_key _ key c (inr refl, refl) (bytes_eq key wanted) h

pub causes_tell : (e : Epoch) (key wanted : List ℕ) (c : Cause) → cause_of e key wanted ≡ Some c → IsTold e key c
causes_tell e key wanted c h = by_parts e.version e.doom e.stage key wanted c h
