-- The laws on the order of printed epochs.
use Rattle.std.proofs.Common.{◌≡◌, ◌⊎◌, inl, inr, ⊎_elim, ℕ, ◌<◌, ◌≤◌, List, [], ◌∷◌, ◌++◌, sym, refl, ap, ◌∙◌, subst, arith, Bool, true, cond, Contains, eq-eqb}
use Rattle.std.proofs.lemmas.List.Elements.{Contains-append_right}
use Rattle.std.specs.Prelude.{None, Some}
use Rattle.lock_word.specs.declared.epoch.Epoch.{Epoch}
use Rattle.lock_word.specs.Words.{doom_of, epoch_at, epoch_number, is_readable, mode_of, stage_of, version_of}
use Rattle.lock_word.proofs.Testing.{mode_of-readable}
use Rattle.script_text.specs.declared.answer.Answer.{Answer}
use Rattle.script_text.specs.declared.answer.Answer.TheVariants as answer
use Rattle.script_text.specs.declared.request.Request.{Request}
use Rattle.script_text.specs.declared.request.Request.TheVariants.{Get, OpenTab}
use Rattle.core_model.specs.declared.view.Sight.{Sight}
use Rattle.core_model.specs.declared.view.Sight.TheVariants.{Stood}
use Rattle.core_model.specs.declared.view.View.{View}
use Rattle.core_model.specs.Trails.{seen_at, stood}
use Rattle.core_model.specs.Versions.{Leads}
use Rattle.core_model.proofs.Lists.{cons_contains, contains_none}
use Rattle.line_account.specs.Deeds.{Begins}
use Rattle.line_account.specs.Lines.{IsAt, Served}
use Rattle.line_account.specs.Requests.{IsAnswerTo}
use Rattle.line_account.specs.Answers.{ComesIn, HasOpened, Run, TellsDoom}
use Rattle.line_account.specs.Accounts.{Tells, epoch_in, epochs_of}
use Rattle.line_account.specs.Courses.{Adds, Course, Stage, lines_in}
use Rattle.line_account.specs.Order.{FindsEntry, FindsOrStores, HandsOver, NotBelow, Opens, StandsAt, StandsIn, counts_as, epochs_told, printed, version_alone}

-- What was seen.

abbrev pick : ℕ → Bool → ℕ
pick e b = cond b e 0

sight_le : (a e : ℕ) (xs : List Sight) → Contains xs (Stood a e) → e ≤ seen_at a xs
sight_le a e [] h = absurd (contains_none (Stood a e) h)
sight_le a e (x ∷ xs) h = ⊎_elim
    (λ (q : x ≡ Stood a e). let s : stood a x ≡ e = ap (stood a) q ∙ ap (pick e) (eq-eqb a a refl) in omega arith)
    (λ (q : Contains xs (Stood a e)). let r = sight_le a e xs q in omega arith)
    (cons_contains x (Stood a e) xs h)

-- a stage that leads to another one is not above it
leads_up : (g h : ℕ) → Leads g h → g ≤ h
leads_up g h (inl same) = omega arith
leads_up g h (inr on) = let z = on.1 in omega arith

-- Answers.

one : (e x : ℕ) → Contains (e ∷ []) x → e ≡ x
one e x h = ⊎_elim (λ (q : e ≡ x). q) (λ (q : Contains [] x). absurd (contains_none x q)) (cons_contains e x [] h)

first_of : (e : ℕ) (es : List ℕ) → Contains (e ∷ es) e
first_of e es = (0, omega arith, refl)

second_of : (d e : ℕ) → Contains (d ∷ e ∷ []) e
second_of d e = (1, omega arith, refl)

two : (d e x : ℕ) → Contains (d ∷ e ∷ []) x → (d ≡ x) ⊎ (e ≡ x)
two d e x h = ⊎_elim (λ (q : d ≡ x). inl q) (λ (q : Contains (e ∷ []) x). inr (one e x q)) (cons_contains d x (e ∷ []) h)

-- where an entry was opened
pub record FoundAt (opened x : ℕ) : Type 0 where
  pub readable : is_readable opened ≡ true
  pub version_is : x ≡ version_of opened

-- the stages that an answer shows are not below that of an epoch of the same version
abbrev StagesUp : ℕ → List ℕ → Type 0
StagesUp e shown = (f : ℕ) → Contains shown f → version_of f ≡ version_of e → stage_of e ≤ stage_of f

-- an answer that tells of no entry
silent : (e : ℕ) (a : Answer) → printed a ≡ [] → epochs_told a ≡ [] → version_alone a ≡ None → ((x : ℕ) → FindsOrStores a x → ⊥) → ((x : ℕ) → FindsEntry a x → ⊥) → NotBelow e a
silent e a none told alone stores finds = record {
  epochs = λ f q. absurd (contains_none f (subst (λ (l : List ℕ). Contains l f) none q));
  versions = λ x q. absurd (let z : None ≡ Some x = sym alone ∙ q in cc);
  undoomed = λ x q s. absurd (stores x q);
  there = λ x q s. absurd (finds x q);
  stages = λ f q s. absurd (contains_none f (subst (λ (l : List ℕ). Contains l f) told q));
}

-- an answer that prints epochs
of_epochs : (e : ℕ) (a : Answer) → ((f : ℕ) → Contains (printed a) f → e ≤ f) → StagesUp e (epochs_told a) → version_alone a ≡ None → ((x : ℕ) → FindsOrStores a x → ⊥) → ((x : ℕ) → FindsEntry a x → ⊥) → NotBelow e a
of_epochs e a h up alone stores finds = record {
  epochs = h;
  versions = λ x q. absurd (let z : None ≡ Some x = sym alone ∙ q in cc);
  undoomed = λ x q s. absurd (stores x q);
  there = λ x q s. absurd (finds x q);
  stages = up;
}

-- an answer that tells of an entry that was found
found_below : (e opened v : ℕ) → FoundAt opened v → e ≤ opened → (version_of e ≤ v) × (version_of e ≡ v → doom_of e ≡ 0) × (version_of e ≡ v → stage_of e < 4)
found_below e opened v found h = ⊎_elim
    (λ (m : mode_of opened ≡ 2). let z = found.version_is in ((omega arith), (λ s. omega arith), (λ s. omega arith)))
    (λ (m : mode_of opened ≡ 3). let z = found.version_is in ((omega arith), (λ s. omega arith), (λ s. omega arith)))
    (mode_of-readable opened found.readable)

-- what is behind the first of two is in the list
behind_first : (d e f : ℕ) → Contains (e ∷ []) f → Contains (d ∷ e ∷ []) f
behind_first d e f h = Contains-append_right (d ∷ []) (e ∷ []) f h

-- an answer that tells a doom counts as the epoch that it tells
pub doom_counts : (a : Answer) (e : Epoch) → TellsDoom a e → Contains (counts_as a) (epoch_number e)
doom_counts (answer.Purged epoch) e h = (0, omega arith, ap epoch_number h)
doom_counts (answer.Wiped epoch) e h = (0, omega arith, ap epoch_number h)
doom_counts (answer.Later epoch) e h = (0, omega arith, ap epoch_number h)
doom_counts _ e h = absurd h

-- and tells of an entry with its version
pub doom_finds : (a : Answer) (e : Epoch) → TellsDoom a e → FindsOrStores a (version_of (epoch_number e))
doom_finds (answer.Purged epoch) e h = ap (λ (z : Epoch). version_of (epoch_number z)) h
doom_finds (answer.Wiped epoch) e h = ap (λ (z : Epoch). version_of (epoch_number z)) h
doom_finds (answer.Later epoch) e h = ap (λ (z : Epoch). version_of (epoch_number z)) h
doom_finds _ e h = absurd h

-- an answer that tells a doom shows where the entry was found, and the epoch that the doom left
of_doom : (opened e : ℕ) (epoch : Epoch) (a : Answer) → FoundAt opened (version_of (epoch_number epoch)) → ((f : ℕ) → Contains (opened ∷ epoch_number epoch ∷ []) f → e ≤ f) → StagesUp e (opened ∷ epoch_number epoch ∷ [])
    → printed a ≡ epoch_number epoch ∷ [] → epochs_told a ≡ epoch_number epoch ∷ [] → version_alone a ≡ None
    → ((x : ℕ) → FindsOrStores a x → version_of (epoch_number epoch) ≡ x) → ((x : ℕ) → FindsEntry a x → version_of (epoch_number epoch) ≡ x) → NotBelow e a
of_doom opened e epoch a found h up prints tells alone stores finds =
    let b = found_below e opened (version_of (epoch_number epoch)) found (h opened (first_of opened (epoch_number epoch ∷ []))) in record {
      epochs = λ f q. h f (behind_first opened (epoch_number epoch) f (subst (λ (l : List ℕ). Contains l f) prints q));
      versions = λ x q. absurd (let z : None ≡ Some x = sym alone ∙ q in cc);
      undoomed = λ x q s. b.1 (s ∙ sym (stores x q));
      there = λ x q s. b.2 (s ∙ sym (finds x q));
      stages = λ f q s. up f (behind_first opened (epoch_number epoch) f (subst (λ (l : List ℕ). Contains l f) tells q)) s;
    }

pub below : (opened looked e : ℕ) (a : Answer) → ((x : ℕ) → FindsEntry a x → FoundAt opened x) → ((f : ℕ) → Contains (epochs_of opened looked a) f → e ≤ f) → ((f : ℕ) → Contains (epochs_of opened looked a) f → version_of f ≡ version_of e → stage_of e ≤ stage_of f)
    → NotBelow e a
below opened looked e (answer.Stored version) found h up = let le = h (epoch_at version 3) (first_of (epoch_at version 3) []) in record {
  epochs = λ f q. absurd (contains_none f q);
  versions = λ x q. let is : version ≡ x = cc in omega arith;
  undoomed = λ x q s. omega arith;
  there = λ x q s. absurd q;
  stages = up;
}
below opened looked e (answer.Doomed version) found h up = let le = h (epoch_at version 11) (first_of (epoch_at version 11) []) in record {
  epochs = λ f q. absurd (contains_none f q);
  versions = λ x q. let is : version ≡ x = cc in omega arith;
  undoomed = λ x q s. absurd q;
  there = λ x q s. absurd q;
  stages = up;
}
below opened looked e (answer.Begun version) found h up = let le = h (epoch_at version 1) (first_of (epoch_at version 1) []) in record {
  epochs = λ f q. absurd (contains_none f q);
  versions = λ x q. let is : version ≡ x = cc in omega arith;
  undoomed = λ x q s. absurd q;
  there = λ x q s. absurd q;
  stages = λ f q s. absurd (contains_none f q);
}
below opened looked e (answer.Opened version) found h up = let b = found_below e opened version (found version refl) (h opened (first_of opened [])) in record {
  epochs = λ f q. absurd (contains_none f q);
  versions = λ x q. let is : version ≡ x = cc in let z = b.0 in omega arith;
  undoomed = λ x q s. b.1 (s ∙ sym q);
  there = λ x q s. b.2 (s ∙ sym q);
  stages = λ f q s. absurd (contains_none f q);
}
below opened looked e (answer.Hit version bytes) found h up = let b = found_below e opened version (found version refl) (h opened (first_of opened [])) in record {
  epochs = λ f q. absurd (contains_none f q);
  versions = λ x q. let is : version ≡ x = cc in let z = b.0 in omega arith;
  undoomed = λ x q s. b.1 (s ∙ sym q);
  there = λ x q s. b.2 (s ∙ sym q);
  stages = λ f q s. absurd (contains_none f q);
}
below opened looked e (answer.Purged epoch) found h up = of_doom opened e epoch (answer.Purged epoch) (found (version_of (epoch_number epoch)) refl) h up refl refl refl (λ x q. q) (λ x q. q)
below opened looked e (answer.Wiped epoch) found h up = of_doom opened e epoch (answer.Wiped epoch) (found (version_of (epoch_number epoch)) refl) h up refl refl refl (λ x q. q) (λ x q. q)
below opened looked e (answer.Later epoch) found h up = of_doom opened e epoch (answer.Later epoch) (found (version_of (epoch_number epoch)) refl) h up refl refl refl (λ x q. q) (λ x q. q)
below opened looked e (answer.Busy first second) found h up = of_epochs e (answer.Busy first second) h up refl (λ x q. q) (λ x q. q)
below opened looked e (answer.Part epoch bytes) found h up = of_epochs e (answer.Part epoch bytes) h up refl (λ x q. q) (λ x q. q)
below opened looked e (answer.Miss cause) found h up = of_epochs e (answer.Miss cause) h up refl (λ x q. q) (λ x q. q)
below opened looked e (answer.NoEntry cause) found h up = of_epochs e (answer.NoEntry cause) h up refl (λ x q. q) (λ x q. q)
below opened looked e (answer.Spent versions) found h up = silent e (answer.Spent versions) refl refl refl (λ x q. q) (λ x q. q)
below opened looked e answer.LongUrl found h up = silent e answer.LongUrl refl refl refl (λ x q. q) (λ x q. q)
below opened looked e answer.Full found h up = silent e answer.Full refl refl refl (λ x q. q) (λ x q. q)
below opened looked e answer.Large found h up = silent e answer.Large refl refl refl (λ x q. q) (λ x q. q)
below opened looked e answer.Fault found h up = silent e answer.Fault refl refl refl (λ x q. q) (λ x q. q)
below opened looked e (answer.End bytes) found h up = silent e (answer.End bytes) refl refl refl (λ x q. q) (λ x q. q)
below opened looked e (answer.Halted bytes) found h up = silent e (answer.Halted bytes) refl refl refl (λ x q. q) (λ x q. q)
below opened looked e (answer.ReadFault bytes) found h up = silent e (answer.ReadFault bytes) refl refl refl (λ x q. q) (λ x q. q)
below opened looked e answer.OtherUrl found h up = silent e answer.OtherUrl refl refl refl (λ x q. q) (λ x q. q)
below opened looked e (answer.Added count) found h up = silent e (answer.Added count) refl refl refl (λ x q. q) (λ x q. q)
below opened looked e answer.Dropped found h up = silent e answer.Dropped refl refl refl (λ x q. q) (λ x q. q)
below opened looked e answer.Closed found h up = silent e answer.Closed refl refl refl (λ x q. q) (λ x q. q)
below opened looked e answer.Marked found h up = silent e answer.Marked refl refl refl (λ x q. q) (λ x q. q)
below opened looked e answer.Met found h up = silent e answer.Met refl refl refl (λ x q. q) (λ x q. q)
below opened looked e answer.Unmet found h up = silent e answer.Unmet refl refl refl (λ x q. q) (λ x q. q)
below opened looked e answer.Tab found h up = silent e answer.Tab refl refl refl (λ x q. q) (λ x q. q)

-- what an answer counts as is at most what its line shows, which is of the same version and at no lower stage
record ShowsMore (opened looked e : ℕ) (a : Answer) : Type 0 where
  epoch : ℕ
  shown : Contains (epochs_of opened looked a) epoch
  more : e ≤ epoch
  version : version_of epoch ≡ version_of e
  stage : stage_of e ≤ stage_of epoch

as_shown : (opened looked e f : ℕ) (a : Answer) → f ≡ e → Contains (epochs_of opened looked a) f → ShowsMore opened looked e a
as_shown opened looked e f a is h = record { epoch = f; shown = h; more = omega arith; version = ap version_of is; stage = (let s = ap stage_of is in omega arith) }

opened_more : (opened v : ℕ) → FoundAt opened v → (epoch_at v 2 ≤ opened) × (version_of opened ≡ version_of (epoch_at v 2)) × (stage_of (epoch_at v 2) ≤ stage_of opened)
opened_more opened v found = ⊎_elim
    (λ (m : mode_of opened ≡ 2). let z = found.version_is in ((omega arith), (omega arith), (omega arith)))
    (λ (m : mode_of opened ≡ 3). let z = found.version_is in ((omega arith), (omega arith), (omega arith)))
    (mode_of-readable opened found.readable)

at_opening : (opened looked e v : ℕ) (a : Answer) → FoundAt opened v → epoch_at v 2 ≡ e → Contains (epochs_of opened looked a) opened → ShowsMore opened looked e a
at_opening opened looked e v a found is h =
    let m = opened_more opened v found in
    let version = ap version_of is in
    let stage = ap stage_of is in
    record { epoch = opened; shown = h; more = (let z = m.0 in omega arith); version = m.1 ∙ version; stage = (let z = m.2 in omega arith) }

counted : (opened looked e : ℕ) (a : Answer) → ((x : ℕ) → FindsEntry a x → FoundAt opened x) → Contains (counts_as a) e → ShowsMore opened looked e a
counted opened looked e (answer.Stored version) found h = as_shown opened looked e (epoch_at version 3) (answer.Stored version) (one (epoch_at version 3) e h) (first_of (epoch_at version 3) [])
counted opened looked e (answer.Doomed version) found h = as_shown opened looked e (epoch_at version 11) (answer.Doomed version) (one (epoch_at version 11) e h) (first_of (epoch_at version 11) [])
counted opened looked e (answer.Begun version) found h = as_shown opened looked e (epoch_at version 1) (answer.Begun version) (one (epoch_at version 1) e h) (first_of (epoch_at version 1) [])
counted opened looked e (answer.Part epoch bytes) found h = as_shown opened looked e (epoch_number epoch) (answer.Part epoch bytes) (one (epoch_number epoch) e h) (first_of (epoch_number epoch) [])
counted opened looked e (answer.Purged epoch) found h = as_shown opened looked e (epoch_number epoch) (answer.Purged epoch) (one (epoch_number epoch) e h) (second_of opened (epoch_number epoch))
counted opened looked e (answer.Wiped epoch) found h = as_shown opened looked e (epoch_number epoch) (answer.Wiped epoch) (one (epoch_number epoch) e h) (second_of opened (epoch_number epoch))
counted opened looked e (answer.Later epoch) found h = as_shown opened looked e (epoch_number epoch) (answer.Later epoch) (one (epoch_number epoch) e h) (second_of opened (epoch_number epoch))
counted opened looked e (answer.Miss cause) found h = as_shown opened looked e (epoch_number (epoch_in cause)) (answer.Miss cause) (one (epoch_number (epoch_in cause)) e h) (first_of (epoch_number (epoch_in cause)) [])
counted opened looked e (answer.NoEntry cause) found h = as_shown opened looked e (epoch_number (epoch_in cause)) (answer.NoEntry cause) (one (epoch_number (epoch_in cause)) e h) (first_of (epoch_number (epoch_in cause)) [])
counted opened looked e (answer.Opened version) found h = at_opening opened looked e version (answer.Opened version) (found version refl) (one (epoch_at version 2) e h) (first_of opened [])
counted opened looked e (answer.Hit version bytes) found h = at_opening opened looked e version (answer.Hit version bytes) (found version refl) (one (epoch_at version 2) e h) (first_of opened [])
counted opened looked e (answer.Busy first second) found h = ⊎_elim
    (λ (q : epoch_number first.epoch ≡ e). as_shown opened looked e (epoch_number first.epoch) (answer.Busy first second) q (first_of (epoch_number first.epoch) (epoch_number second.epoch ∷ [])))
    (λ (q : epoch_number second.epoch ≡ e). as_shown opened looked e (epoch_number second.epoch) (answer.Busy first second) q (second_of (epoch_number first.epoch) (epoch_number second.epoch)))
    (two (epoch_number first.epoch) (epoch_number second.epoch) e h)
counted opened looked e (answer.Spent versions) found h = absurd (contains_none e h)
counted opened looked e answer.LongUrl found h = absurd (contains_none e h)
counted opened looked e answer.Full found h = absurd (contains_none e h)
counted opened looked e answer.Large found h = absurd (contains_none e h)
counted opened looked e answer.Fault found h = absurd (contains_none e h)
counted opened looked e (answer.End bytes) found h = absurd (contains_none e h)
counted opened looked e (answer.Halted bytes) found h = absurd (contains_none e h)
counted opened looked e (answer.ReadFault bytes) found h = absurd (contains_none e h)
counted opened looked e answer.OtherUrl found h = absurd (contains_none e h)
counted opened looked e (answer.Added count) found h = absurd (contains_none e h)
counted opened looked e answer.Dropped found h = absurd (contains_none e h)
counted opened looked e answer.Closed found h = absurd (contains_none e h)
counted opened looked e answer.Marked found h = absurd (contains_none e h)
counted opened looked e answer.Met found h = absurd (contains_none e h)
counted opened looked e answer.Unmet found h = absurd (contains_none e h)
counted opened looked e answer.Tab found h = absurd (contains_none e h)

-- OPEN and HIT come to lines that opened an entry

comes_opened : (q : Request) (version : ℕ) → IsAnswerTo q (answer.Opened version) → ComesIn q (answer.Opened version) version
comes_opened (OpenTab tab url) version h = refl
comes_opened _ version h = absurd h

comes_hit : (q : Request) (version : ℕ) (bytes : List ℕ) → IsAnswerTo q (answer.Hit version bytes) → ComesIn q (answer.Hit version bytes) version
comes_hit (Get url) version bytes h = refl
comes_hit _ version bytes h = absurd h

told_opened : (q : Request) (version x : ℕ) → ComesIn q (answer.Opened version) x → version ≡ x
told_opened (OpenTab tab url) version x h = h
told_opened _ version x h = absurd h

told_hit : (q : Request) (version x : ℕ) (bytes : List ℕ) → ComesIn q (answer.Hit version bytes) x → version ≡ x
told_hit (Get url) version x bytes h = h
told_hit _ version x bytes h = absurd h

-- what was opened was found
pub opens_finds : (a : Answer) (x : ℕ) → Opens a x → FindsEntry a x
opens_finds (answer.Opened version) x h = h
opens_finds (answer.Hit version bytes) x h = h
opens_finds _ x h = absurd h

module _ {X : Type 0} (r : Run X) (v : View X) (earlier : List Served) (s : Served) (t : Tells r v earlier s) where
  found_of : (version : ℕ) → version ≡ version_of s.opened → HasOpened r v s → FoundAt s.opened version
  found_of version is o = record { readable = o.entry.readable; version_is = is }

  pub opened_at : (version : ℕ) → s.answer ≡ answer.Opened version → FoundAt s.opened version
  opened_at version e =
      let may : IsAnswerTo s.asked.request (answer.Opened version) = subst (IsAnswerTo s.asked.request) e t.answers in
      let comes : ComesIn s.asked.request s.answer version = subst (λ (z : Answer). ComesIn s.asked.request z version) (sym e) (comes_opened s.asked.request version may) in
      let o = t.opened version comes in
      found_of version (told_opened s.asked.request version (version_of s.opened) (subst (λ (z : Answer). ComesIn s.asked.request z (version_of s.opened)) e o.told)) o

  hit_at : (version : ℕ) (bytes : List ℕ) → s.answer ≡ answer.Hit version bytes → FoundAt s.opened version
  hit_at version bytes e =
      let may : IsAnswerTo s.asked.request (answer.Hit version bytes) = subst (IsAnswerTo s.asked.request) e t.answers in
      let comes : ComesIn s.asked.request s.answer version = subst (λ (z : Answer). ComesIn s.asked.request z version) (sym e) (comes_hit s.asked.request version bytes may) in
      let o = t.opened version comes in
      found_of version (told_hit s.asked.request version (version_of s.opened) bytes (subst (λ (z : Answer). ComesIn s.asked.request z (version_of s.opened)) e o.told)) o

  purged_at : (epoch : Epoch) → TellsDoom s.answer epoch → FoundAt s.opened (version_of (epoch_number epoch))
  purged_at epoch e = let h = t.purged epoch e in record { readable = h.keyed.readable; version_is = sym h.version_is }

  finds_of : (a : Answer) → a ≡ s.answer → (x : ℕ) → FindsEntry a x → FoundAt s.opened x
  finds_of (answer.Opened version) e x q = subst (FoundAt s.opened) q (opened_at version (sym e))
  finds_of (answer.Hit version bytes) e x q = subst (FoundAt s.opened) q (hit_at version bytes (sym e))
  finds_of (answer.Stored version) e x q = absurd q
  finds_of (answer.Doomed version) e x q = absurd q
  finds_of (answer.Busy first second) e x q = absurd q
  finds_of (answer.Spent versions) e x q = absurd q
  finds_of answer.LongUrl e x q = absurd q
  finds_of answer.Full e x q = absurd q
  finds_of answer.Large e x q = absurd q
  finds_of answer.Fault e x q = absurd q
  finds_of (answer.Part epoch bytes) e x q = absurd q
  finds_of (answer.End bytes) e x q = absurd q
  finds_of (answer.Halted bytes) e x q = absurd q
  finds_of (answer.ReadFault bytes) e x q = absurd q
  finds_of answer.OtherUrl e x q = absurd q
  finds_of (answer.Miss cause) e x q = absurd q
  finds_of (answer.Purged epoch) e x q = subst (FoundAt s.opened) q (purged_at epoch (subst (λ (z : Answer). TellsDoom z epoch) e refl))
  finds_of (answer.Wiped epoch) e x q = subst (FoundAt s.opened) q (purged_at epoch (subst (λ (z : Answer). TellsDoom z epoch) e refl))
  finds_of (answer.Later epoch) e x q = subst (FoundAt s.opened) q (purged_at epoch (subst (λ (z : Answer). TellsDoom z epoch) e refl))
  finds_of (answer.NoEntry cause) e x q = absurd q
  finds_of (answer.Begun version) e x q = absurd q
  finds_of (answer.Added count) e x q = absurd q
  finds_of answer.Dropped e x q = absurd q
  finds_of answer.Closed e x q = absurd q
  finds_of answer.Marked e x q = absurd q
  finds_of answer.Met e x q = absurd q
  finds_of answer.Unmet e x q = absurd q
  finds_of answer.Tab e x q = absurd q

  pub finds : (x : ℕ) → FindsEntry s.answer x → FoundAt s.opened x
  finds x q = finds_of s.answer refl x q

  pub reads : (x : ℕ) → Opens s.answer x → FoundAt s.opened x
  reads x q = finds x (opens_finds s.answer x q)

-- What was seen before a line, and after it.

module _ {X : Type 0} (r : Run X) where
  -- an epoch of the same version, no lower and at no lower stage, was seen
  pub record Seen (a d : ℕ) (v : View X) : Type 0 where
    pub epoch : ℕ
    pub more : d ≤ epoch
    pub version : version_of epoch ≡ version_of d
    pub stage : stage_of d ≤ stage_of epoch
    pub seen : Contains v.seen (Stood a epoch)

  pub itself : (a d : ℕ) (v : View X) → Contains v.seen (Stood a d) → Seen a d v
  itself a d v h = record { epoch = d; more = omega arith; version = refl; stage = omega arith; seen = h }

  -- what was known then is known later
  pub seen_on : (a d : ℕ) (v w : View X) → ((x : Sight) → Contains v.seen x → Contains w.seen x) → Seen a d v → Seen a d w
  seen_on a d v w keeps k = record { epoch = k.epoch; more = k.more; version = k.version; stage = k.stage; seen = keeps (Stood a k.epoch) k.seen }

  -- what was seen before a line is not above what it shows, and no stage of its version falls
  pub not_below_seen : (t : Stage X) (earlier : List (Stage X)) (a d : ℕ) → Adds r t.before (lines_in earlier) t.served t.after → IsAt r.setting.anchors (lines_in earlier) t.served a → Seen a d t.before → NotBelow d t.served.answer
  not_below_seen t earlier a d n at k = below t.served.opened t.served.looked d t.served.answer (finds r t.after (lines_in earlier) t.served n.tells)
      (λ f q. let le = sight_le a k.epoch t.before.seen k.seen in let fresh = n.fresh a f record { at = at; shown = q } in let less = k.more in omega arith)
      (λ f q same. let up = leads_up (stage_of k.epoch) (stage_of f) (n.stages a k.epoch f record { at = at; shown = q } k.seen (k.version ∙ sym same)) in let less = k.stage in omega arith)

  -- what was seen before a line that began a version is of an earlier one, at whatever anchor
  pub above_seen : (t : Stage X) (earlier : List (Stage X)) (a b x d : ℕ) → Adds r t.before (lines_in earlier) t.served t.after → Begins r.setting.anchors t.served a x → Seen b d t.before → version_of d < x
  above_seen t earlier a b x d n begun k =
      let le = sight_le b k.epoch t.before.seen k.seen in
      let up : version_of k.epoch ≤ version_of (seen_at b t.before.seen) = omega arith in
      let above = n.above a b x begun in
      let same = k.version in
      omega arith

  -- what a line counts as was seen after it
  pub seen_after : (s : Stage X) (earlier : List (Stage X)) (a d : ℕ) → Adds r s.before (lines_in earlier) s.served s.after → IsAt r.setting.anchors (lines_in earlier) s.served a → Contains (counts_as s.served.answer) d → Seen a d s.after
  seen_after s earlier a d n at q =
      let m = counted s.served.opened s.served.looked d s.served.answer (finds r s.after (lines_in earlier) s.served n.tells) q in
      record { epoch = m.epoch; more = m.more; version = m.version; stage = m.stage; seen = n.tells.shown a m.epoch record { at = at; shown = m.shown } }

-- Courses.

module _ {X : Type 0} (r : Run X) (start : View X) where
  -- a stage of a course: what it adds, the course before it, and what is still known after it
  pub record HasStage (t : Stage X) (earlier : List (Stage X)) (end : View X) : Type 0 where
    pub adds : Adds r t.before (lines_in earlier) t.served t.after
    pub course : Course r start earlier t.before
    pub keeps : (x : Sight) → Contains t.after.seen x → Contains end.seen x

  pub stage_in : (stages later : List (Stage X)) (t : Stage X) (earlier : List (Stage X)) (end : View X) → stages ≡ later ++ t ∷ earlier → Course r start stages end → HasStage t earlier end
  stage_in stages [] t earlier end e c =
      let k : Course r start (t ∷ earlier) end = subst (λ (l : List (Stage X)). Course r start l end) e c in
      record { adds = k.1; course = k.2; keeps = λ x h. subst (λ (v : View X). Contains v.seen x) (sym k.0) h }
  stage_in stages (y ∷ later) t earlier end e c =
      let k : Course r start (y ∷ (later ++ t ∷ earlier)) end = subst (λ (l : List (Stage X)). Course r start l end) e c in
      let h = stage_in (later ++ t ∷ earlier) later t earlier y.before refl k.2 in
      record { adds = h.adds; course = h.course; keeps = λ x q. subst (λ (v : View X). Contains v.seen x) (sym k.0) (k.1.keeps.seen x (h.keeps x q)) }

  -- what was seen at the beginning is known along the course
  pub start_known : (stages : List (Stage X)) (end : View X) (x : Sight) → Course r start stages end → Contains start.seen x → Contains end.seen x
  start_known [] end x c h = subst (λ (v : View X). Contains v.seen x) (sym c) h
  start_known (s ∷ earlier) end x c h = subst (λ (v : View X). Contains v.seen x) (sym c.0) (c.1.keeps.seen x (start_known earlier s.before x c.2 h))

  -- what a line counts as is known at the end of the course
  pub seen_later : (stages : List (Stage X)) (end : View X) (s : Stage X) (earlier : List (Stage X)) (a d : ℕ) → Course r start stages end → StandsAt r.setting.anchors stages s earlier a → Contains (counts_as s.served.answer) d → Seen r a d end
  seen_later stages end s earlier a d c is q =
      let h = stage_in stages is.in_.later s earlier end is.in_.split c in
      seen_on r a d s.after end h.keeps (seen_after r s earlier a d h.adds is.at q)

  pub not_below_earlier : (stages : List (Stage X)) (end : View X) (t s : Stage X) (before earlier : List (Stage X)) (a d : ℕ) → Course r start stages end
      → StandsAt r.setting.anchors stages t before a → StandsAt r.setting.anchors before s earlier a → Contains (counts_as s.served.answer) d → NotBelow d t.served.answer
  not_below_earlier stages end t s before earlier a d c is was q =
      let h = stage_in stages is.in_.later t before end is.in_.split c in
      not_below_seen r t before a d h.adds is.at (seen_later before t.before s earlier a d h.course was q)

module _ {X : Type 0} (r : Run X) (start other : View X) where
  -- the other worker's lines before its mark
  pub not_below_met : (stages others : List (Stage X)) (end last : View X) (t n m s : Stage X) (before between marked earlier : List (Stage X)) (a d : ℕ) → Course r start stages end → Course r other others last
      → StandsAt r.setting.anchors stages t before a → StandsIn before n between → HandsOver m n → StandsIn others m marked → StandsAt r.setting.anchors marked s earlier a
      → Contains (counts_as s.served.answer) d → NotBelow d t.served.answer
  not_below_met stages others end last t n m s before between marked earlier a d c o is met hands mark was q =
      let h = stage_in r start stages is.in_.later t before end is.in_.split c in
      let g = stage_in r start before met.later n between t.before met.split h.course in
      let f = stage_in r other others mark.later m marked last mark.split o in
      not_below_seen r t before a d h.adds is.at (seen_on r a d m.before t.before (λ x c. g.keeps x (hands.hands x c)) (seen_later r other marked m.before s earlier a d f.course was q))
