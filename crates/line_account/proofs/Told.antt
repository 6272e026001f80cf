-- Versions that are printed alone.
use Rattle.std.proofs.Common.{◌≡◌, ℕ, ◌<◌, ◌≤◌, List, [], ◌∷◌, sym, refl, ◌∙◌, subst, arith, Contains}
use Rattle.std.specs.Prelude.{None, Some}
use Rattle.lock_word.specs.Words.{epoch_at, version_of}
use Rattle.script_text.specs.declared.answer.Answer.{Answer}
use Rattle.script_text.specs.declared.answer.Answer.TheVariants as answer
use Rattle.core_model.specs.Anchors.{opening_counter, opening_epoch}
use Rattle.line_account.specs.Answers.{Run}
use Rattle.line_account.specs.Accounts.{epochs_of}
use Rattle.line_account.specs.Closing.{BegunIn, Closed, LineIn, ShownIn, Worker}
use Rattle.line_account.specs.Order.{Opens, PrintsAlone, version_alone}
use Rattle.line_account.proofs.Gathered.{tells_at}
use Rattle.line_account.proofs.Ordering.{FoundAt, reads}
use Rattle.line_account.proofs.Versions.{version_of_new, version_of_old}

-- an epoch of this version that is shown
record ShownOf (opened looked x : ℕ) (a : Answer) : Type 0 where
  epoch : ℕ
  shown : Contains (epochs_of opened looked a) epoch
  version_is : version_of epoch ≡ x

first_of : (e : ℕ) → Contains (e ∷ []) e
first_of e = (0, omega arith, refl)

shown_of : (opened looked x : ℕ) (a : Answer) → ((y : ℕ) → Opens a y → FoundAt opened y) → version_alone a ≡ Some x → ShownOf opened looked x a
shown_of opened looked x (answer.Stored version) found h = let is : version ≡ x = cc in record { epoch = epoch_at version 3; shown = first_of (epoch_at version 3); version_is = omega arith }
shown_of opened looked x (answer.Doomed version) found h = let is : version ≡ x = cc in record { epoch = epoch_at version 11; shown = first_of (epoch_at version 11); version_is = omega arith }
shown_of opened looked x (answer.Begun version) found h = let is : version ≡ x = cc in record { epoch = epoch_at version 1; shown = first_of (epoch_at version 1); version_is = omega arith }
shown_of opened looked x (answer.Opened version) found h = let is : version ≡ x = cc in record { epoch = opened; shown = first_of opened; version_is = sym (found version refl).version_is ∙ is }
shown_of opened looked x (answer.Hit version bytes) found h = let is : version ≡ x = cc in record { epoch = opened; shown = first_of opened; version_is = sym (found version refl).version_is ∙ is }
shown_of opened looked x (answer.Busy first second) found h = absurd (let z : None ≡ Some x = h in cc)
shown_of opened looked x (answer.Spent versions) found h = absurd (let z : None ≡ Some x = h in cc)
shown_of opened looked x answer.LongUrl found h = absurd (let z : None ≡ Some x = h in cc)
shown_of opened looked x answer.Full found h = absurd (let z : None ≡ Some x = h in cc)
shown_of opened looked x answer.Large found h = absurd (let z : None ≡ Some x = h in cc)
shown_of opened looked x answer.Fault found h = absurd (let z : None ≡ Some x = h in cc)
shown_of opened looked x (answer.Part epoch bytes) found h = absurd (let z : None ≡ Some x = h in cc)
shown_of opened looked x (answer.End bytes) found h = absurd (let z : None ≡ Some x = h in cc)
shown_of opened looked x (answer.Halted bytes) found h = absurd (let z : None ≡ Some x = h in cc)
shown_of opened looked x (answer.ReadFault bytes) found h = absurd (let z : None ≡ Some x = h in cc)
shown_of opened looked x answer.OtherUrl found h = absurd (let z : None ≡ Some x = h in cc)
shown_of opened looked x (answer.Miss cause) found h = absurd (let z : None ≡ Some x = h in cc)
shown_of opened looked x (answer.Purged epoch) found h = absurd (let z : None ≡ Some x = h in cc)
shown_of opened looked x (answer.Wiped epoch) found h = absurd (let z : None ≡ Some x = h in cc)
shown_of opened looked x (answer.Later epoch) found h = absurd (let z : None ≡ Some x = h in cc)
shown_of opened looked x (answer.NoEntry cause) found h = absurd (let z : None ≡ Some x = h in cc)
shown_of opened looked x (answer.Added count) found h = absurd (let z : None ≡ Some x = h in cc)
shown_of opened looked x answer.Dropped found h = absurd (let z : None ≡ Some x = h in cc)
shown_of opened looked x answer.Closed found h = absurd (let z : None ≡ Some x = h in cc)
shown_of opened looked x answer.Marked found h = absurd (let z : None ≡ Some x = h in cc)
shown_of opened looked x answer.Met found h = absurd (let z : None ≡ Some x = h in cc)
shown_of opened looked x answer.Unmet found h = absurd (let z : None ≡ Some x = h in cc)
shown_of opened looked x answer.Tab found h = absurd (let z : None ≡ Some x = h in cc)

module _ {X : Type 0} (r : Run X) (crew : List Worker) (c : Closed r crew) where
  -- the line shows an epoch of the version
  record ShownWith (a x : ℕ) : Type 0 where
    epoch : ℕ
    shown : ShownIn r crew a epoch
    version_is : version_of epoch ≡ x

  shown_with : (a x : ℕ) → LineIn crew (λ earlier s. PrintsAlone r.setting.anchors earlier s a x) → ShownWith a x
  shown_with a x p =
      let told = tells_at r crew c (λ earlier s. PrintsAlone r.setting.anchors earlier s a x) p in
      let h = shown_of p.served.opened p.served.looked x p.served.answer (reads r (c.view_at p.j) p.earlier p.served told) p.so.alone in
      record {
        epoch = h.epoch;
        version_is = h.version_is;
        shown = record {
          j = p.j;
          worker = p.worker;
          at = p.at;
          later = p.later;
          served = p.served;
          earlier = p.earlier;
          split = p.split;
          so = record { at = p.so.at; shown = h.shown };
        };
      }

  pub alone_old : (a x : ℕ) → LineIn crew (λ earlier s. PrintsAlone r.setting.anchors earlier s a x) → x ≤ opening_counter r.setting → x ≡ version_of (opening_epoch r.setting a)
  alone_old a x p low = let h = shown_with a x p in let is = h.version_is in sym is ∙ (version_of_old r crew c a h.epoch h.shown (omega arith)).0

  pub alone_new : (a x : ℕ) → LineIn crew (λ earlier s. PrintsAlone r.setting.anchors earlier s a x) → opening_counter r.setting < x → BegunIn r crew a x
  alone_new a x p high = let h = shown_with a x p in let is = h.version_is in subst (BegunIn r crew a) is (version_of_new r crew c a h.epoch h.shown (omega arith))
