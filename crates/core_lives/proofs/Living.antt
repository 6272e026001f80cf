-- A life stays sound, whatever happens.
use Rattle.std.proofs.Common.{◌≡◌, ⊎_elim, ℕ, zero, suc, replicate, ◌<◌, ◌^◌, List, [], ◌++◌, length, refl, sym, ap, ◌∙◌, subst, arith, None, Option, Some, Contains, Result, Ok, Err}
use Rattle.std.specs.Prelude.{IfOk, OnErr}
use Rattle.std.proofs.lemmas.List.{length-replicate}
use Rattle.rebuild_model.specs.declared.image.FileImage.{FileImage}
use Rattle.rebuild_model.specs.declared.rebuilt.Rebuilt.{Rebuilt}
use Rattle.rebuild_model.specs.Image.{IsFile}
use Rattle.core_model.specs.declared.view.LoggedPiece.{LoggedPiece}
use Rattle.core_model.specs.Layout.{Setting}
use Rattle.core_model.specs.Sound.{Sound}
use Rattle.core_model.specs.State.{State}
use Rattle.core_model.proofs.AllKept.{keeps_sound}
use Rattle.core_model.proofs.Lists.{contains_none}
use Rattle.core_log.specs.Keeps.{IsWithin}
use Rattle.core_log.specs.Logged.{LogStands, logged_now}
use Rattle.core_log.proofs.LinksKept.{new_is, split}
use Rattle.core_log.proofs.LogOpened.{no_log}
use Rattle.core_log.proofs.LogsKept.{logs_kept}
use Rattle.core_log.proofs.Within.{new_within}
use Rattle.core_openings.specs.KeptSo.{IsKeptSo}
use Rattle.core_openings.proofs.Settings.{opened_setting}
use Rattle.core_openings.proofs.Sounding.{opens_sound}
use Rattle.core_state.specs.declared.act.Act.{Act}
use Rattle.core_state.specs.declared.act.Step.{Step}
use Rattle.core_state.specs.declared.act.Step.TheVariants as step
use Rattle.core_state.specs.Applied.{Applies, IsSameStore}
use Rattle.core_state.specs.Opened.{IsOpenedWith}
use Rattle.core_table.specs.declared.content.Content.{Content}
use Rattle.core_table.specs.declared.content.Content.TheVariants as content
use Rattle.core_table.specs.New.{IsNew}
use Rattle.core_table.specs.Machine.{Machine, opened_from, setting_of, state_of}
use Rattle.named_rebuild.specs.declared.contents.FirstContent.{FirstContent}
use Rattle.named_rebuild.specs.declared.contents.FirstContent.TheVariants.{Blank, File, Logged}
use Rattle.named_rebuild.specs.Contents.{AreContents, IsPieceWithin, content_at}
use Rattle.named_rebuild.specs.Keeping.{IsRebuiltOfNames}
use Rattle.named_rebuild.proofs.Facts.{not_blank}
use Rattle.named_rebuild.proofs.Gathering.{kept_so}
use Rattle.core_lives.specs.Crash.{ArePicked, ShowsAs}
use Rattle.core_lives.specs.Happening.{Happens, IsActed, IsCrashed, IsReopened, IsSameLife}
use Rattle.core_lives.specs.Lived.{HasOrderedLog, IsSoundLife, Lived}
use Rattle.core_lives.proofs.Seeking.{at_contains}

-- the setting is that of the sizes and the words at the opening
pub same_setting : (m left : Machine) → IsSameStore m left → setting_of left ≡ setting_of m
same_setting m left same = λ j. record {
  anchors = same.anchors j;
  slots = same.slots j;
  passes = same.passes j;
  words = same.opening j;
  contents = opened_from 0 (same.slots j);
  image = (setting_of m).image;
  blank = (setting_of m).blank;
}

-- a setting and a state have a log in order
record Ordered (k : Setting Content) (s : State Content) : Type 0 where
  log : List LoggedPiece
  stands : LogStands k s log
  within : (l : LoggedPiece) → Contains log l → IsWithin k l.piece

acted_log : (m left : Machine) (act : Act) (number : ℕ) → Sound (setting_of m) (state_of m) → Applies m (step.Act act) number left → HasOrderedLog m → Ordered (setting_of m) (state_of left)
acted_log m left act number so made logs = let k = setting_of m in let s = state_of m in let is = made.2 in let new = logged_now k s is.view made.0 in
    subst (Ordered k) (sym is.leaves) record {
      log = new ++ logs.log;
      stands = logs_kept k s logs.log act.pass is.view made.0 so logs.stands is.at is.may;
      within = λ l c. ⊎_elim
          (λ (q : Contains new l). new_within k s logs.log act.pass is.view so logs.stands.links is.at is.may.pass made.0 is.may.allowed l (new_is k s logs.log act.pass is.view so logs.stands.links is.at made.0 is.may.allowed l q))
          (λ (q : Contains logs.log l). logs.within l q) (split new logs.log l c);
    }

pub still_logs : (m left : Machine) (act : Act) (number : ℕ) → Sound (setting_of m) (state_of m) → IsSameStore m left → Applies m (step.Act act) number left → HasOrderedLog m → HasOrderedLog left
still_logs m left act number so same made logs = let o = subst (λ (k : Setting Content). Ordered k (state_of left)) (sym (same_setting m left same)) (acted_log m left act number so made logs) in
    record { log = o.log; stands = o.stands; within = o.within }

acted_sound : (m left : Machine) (act : Act) (number : ℕ) → Sound (setting_of m) (state_of m) → IsSameStore m left → Applies m (step.Act act) number left → Sound (setting_of left) (state_of left)
acted_sound m left act number so same made = subst (λ (k : Setting Content). Sound k (state_of left)) (sym (same_setting m left same))
    (subst (Sound (setting_of m)) (sym made.2.leaves) (keeps_sound (setting_of m) (state_of m) act.pass made.2.view made.0 so made.2.at made.2.may))

-- a core that was just opened so is sound, and nothing is logged
module _ (r : Rebuilt) (anchors slots passes : ℕ) (m : Machine) (o : IsOpenedWith r anchors slots passes m) (b : IsKeptSo anchors slots r) where
  kept_here : IsKeptSo m.anchors m.slots r
  kept_here = subst (λ (n : ℕ). IsKeptSo n m.slots r) (sym o.anchors_are) (subst (λ (n : ℕ). IsKeptSo anchors n r) (sym o.slots_are) b)

  pub opened_sound : Sound (setting_of m) (state_of m)
  opened_sound = opens_sound (setting_of m) r (state_of m) o.opened kept_here

  pub opened_log : slots < 2 ^ 32 → HasOrderedLog m
  opened_log few = record {
    log = [];
    stands = no_log (setting_of m) r (state_of m) (opened_setting (setting_of m) r (state_of m) o.opened kept_here) o.opened opened_sound (let same = o.slots_are in omega arith);
    within = λ l c. absurd (contains_none l c);
  }

-- what is left of slots are contents of such slots
module _ (m : Machine) (logs : HasOrderedLog m) (first : List FirstContent) (are : AreContents m.slots first) where
  piece_shown : (slot : ℕ) (x : Content) (l : LoggedPiece) → ShowsAs m first slot x (Logged l) → IsPieceWithin m.slots l
  piece_shown slot (content.Opened _) l e = are.pieces slot l (sym e)
  piece_shown slot (content.Offered p) l e =
      let at = at_contains m.views e.1.view e.1.among in
      let c = logs.stands.of.all e.0 record { i = at.0; view = e.1.view; at = at.1; seen = e.1.seen } in
      let low = logs.stands.numbers.inside e.0 c in
      subst (IsPieceWithin m.slots) (one e.0 l (sym e.2)) record { version_to = low.0; place = low.1 }
    where
      one : (a b : LoggedPiece) → Logged a ≡ Logged b → a ≡ b
      one a b h = cc
  piece_shown slot content.Blank l e = absurd (no l e)
    where
      no : (l : LoggedPiece) → Logged l ≡ Blank → ⊥
      no l h = cc

  pub left_contents : (picks : List ℕ) (left : List FirstContent) → ArePicked m first picks left → AreContents m.slots left
  left_contents picks left p = record {
    many = p.many;
    pieces = λ s l is. let lt = not_blank left s l is in let q = p.each s (let n = p.many in omega arith) in
        piece_shown s q.content l (subst (ShowsAs m first s q.content) is q.shown);
  }

no_left : (xs : List FirstContent) → None ≡ Some xs → ⊥
no_left xs e = cc

same_left : (xs ys : List FirstContent) → Some xs ≡ Some ys → xs ≡ ys
same_left xs ys e = cc

-- a pass made a step
pub acted : (l then : Lived) (act : Act) (number : ℕ) → IsSoundLife l → IsSameLife l then → IsActed l (step.Act act) number then → IsSoundLife then
acted l then act number so same h = record {
  sound = acted_sound l.core then.core act number so.sound h.same_store h.made;
  logs = still_logs l.core then.core act number so.sound h.same_store h.made so.logs;
  file = subst (λ (f : FileImage). IsFile f.slot f.slots) (sym same.file) so.file;
  slots = ap (λ (f : FileImage). length f.slots) same.file ∙ so.slots ∙ sym same.slots;
  some_anchor = let e = same.anchors in let some = so.some_anchor in omega arith;
  first = subst (λ (n : ℕ). AreContents n then.first) (sym same.slots) (subst (AreContents l.core.slots) (sym h.first) so.first);
  left = λ xs e. absurd (no_left xs (sym h.left ∙ e));
}

-- a crash came
pub crashed : (l then : Lived) (picks : List ℕ) → IsSoundLife l → IsSameLife l then → IsCrashed l picks then → IsSoundLife then
crashed l then picks so same h = record {
  sound = subst (λ (m : Machine). Sound (setting_of m) (state_of m)) (sym h.core) so.sound;
  logs = subst HasOrderedLog (sym h.core) so.logs;
  file = subst (λ (f : FileImage). IsFile f.slot f.slots) (sym same.file) so.file;
  slots = ap (λ (f : FileImage). length f.slots) same.file ∙ so.slots ∙ sym same.slots;
  some_anchor = let e = same.anchors in let some = so.some_anchor in omega arith;
  first = subst (λ (n : ℕ). AreContents n then.first) (sym same.slots) (subst (AreContents l.core.slots) (sym h.first) so.first);
  left = λ xs e. subst (λ (n : ℕ). AreContents n xs) (sym same.slots) (subst (AreContents l.core.slots) (same_left h.contents xs (sym h.left ∙ e)) (left_contents l.core so.logs l.first so.first picks h.contents h.picked));
}

-- it was opened anew
pub reopened : (l then : Lived) → IsSoundLife l → IsSameLife l then → IsReopened l then → IsSoundLife then
reopened l then so same h = record {
  sound = opened_sound h.rebuilt l.core.anchors l.core.slots l.core.passes then.core h.opened kept;
  logs = opened_log h.rebuilt l.core.anchors l.core.slots l.core.passes then.core h.opened kept (let few = so.file.few in let n = so.slots in omega arith);
  file = subst (λ (f : FileImage). IsFile f.slot f.slots) (sym same.file) so.file;
  slots = ap (λ (f : FileImage). length f.slots) same.file ∙ so.slots ∙ sym same.slots;
  some_anchor = let e = same.anchors in let some = so.some_anchor in omega arith;
  first = subst (λ (n : ℕ). AreContents n then.first) (sym same.slots) (so.left then.first h.first);
  left = λ xs e. absurd (no_left xs (sym h.left ∙ e));
}
  where
    kept : IsKeptSo l.core.anchors l.core.slots h.rebuilt
    kept = subst (λ (n : ℕ). IsKeptSo l.core.anchors n h.rebuilt) so.slots
        (kept_so l.file then.first l.core.anchors h.rebuilt h.kept (subst (λ (n : ℕ). AreContents n then.first) (sym so.slots) (so.left then.first h.first)))

-- whatever happens to a sound life, it stays sound
pub happens_sound : (l then : Lived) (s : Step) (number : ℕ) → IsSoundLife l → IsSameLife l then → Happens l s number then → IsSoundLife then
happens_sound l then (step.Act act) number so same h = acted l then act number so same h
happens_sound l then (step.Crash picks) number so same h = crashed l then picks so same h.1
happens_sound l then step.Rebuild number so same h = reopened l then so same h.1

-- a core that was opened anew is the core of such a life
pub opens_anew : (l : Lived) (m : Machine) (first : List FirstContent) (left : Option (List FirstContent)) → IsSoundLife l → l.left ≡ Some first → left ≡ None
    → (r : Rebuilt) × IsRebuiltOfNames l.file first l.core.anchors r × IsOpenedWith r l.core.anchors l.core.slots l.core.passes m
    → IsSoundLife record { core = m; file = l.file; first = first; left = left }
opens_anew l m first left so was none o = reopened l record { core = m; file = l.file; first = first; left = left } so
    record { file = refl; anchors = o.2.anchors_are; slots = o.2.slots_are; passes = o.2.passes_are }
    record { first = was; left = none; rebuilt = o.0; kept = o.1; opened = o.2 }

-- a step of the core, or want of memory
pub act_keeps : {E : Type 0} (l : Lived) (m : Machine) (act : Act) (r : Result ℕ E) → IsSoundLife l → l.left ≡ None → IfOk r (λ n. Applies l.core (step.Act act) n m) → OnErr r (m ≡ l.core) → IsSameStore l.core m
    → IsSoundLife record { core = m; file = l.file; first = l.first; left = l.left }
act_keeps l m act (Ok n) so runs made unchanged same = acted l record { core = m; file = l.file; first = l.first; left = l.left } act n so
    record { file = refl; anchors = same.anchors; slots = same.slots; passes = same.passes }
    record { runs = runs; made = made; same_store = same; first = refl; left = runs }
act_keeps l m act (Err e) so runs made unchanged same = subst (λ (x : Machine). IsSoundLife record { core = x; file = l.file; first = l.first; left = l.left }) (sym unchanged) so

-- a crash
pub crash_keeps : (l : Lived) (picks : List ℕ) (left : List FirstContent) → IsSoundLife l → IsCrashed l picks record { core = l.core; file = l.file; first = l.first; left = Some left }
    → IsSoundLife record { core = l.core; file = l.file; first = l.first; left = Some left }
crash_keeps l picks left so h = crashed l record { core = l.core; file = l.file; first = l.first; left = Some left } picks so record { file = refl; anchors = refl; slots = refl; passes = refl } h

pub all_files : (n i : ℕ) → i < n → content_at (replicate n File) i ≡ File
all_files zero i lt = absurd (omega arith)
all_files (suc n) zero lt = refl
all_files (suc n) (suc i) lt = all_files n i (omega arith)

pub no_piece : (n s : ℕ) (l : LoggedPiece) → content_at (replicate n File) s ≡ Logged l → ⊥
no_piece n s l e = let lt = not_blank (replicate n File) s l e in let m = length-replicate n File in no (sym (all_files n s (omega arith)) ∙ e)
  where
    no : File ≡ Logged l → ⊥
    no h = cc

-- a core that was opened over a file
pub new_sound : (file : FileImage) (anchors passes : ℕ) (m : Machine) (first : List FirstContent) → IsNew file (length file.slots) anchors passes m → Sound (setting_of m) (state_of m)
    → IsFile file.slot file.slots → 0 < anchors → first ≡ replicate (length file.slots) File → IsSoundLife record { core = m; file = file; first = first; left = None }
new_sound file anchors passes m first new so is some_anchor holds = record {
  sound = so;
  logs = record {
    log = [];
    stands = no_log (setting_of m) new.rebuilt (state_of m) so.anchors.setting new.opened so (let few = is.few in let n = new.slots_are in omega arith);
    within = λ l c. absurd (contains_none l c);
  };
  file = is;
  slots = sym new.slots_are;
  some_anchor = let e = new.anchors_are in omega arith;
  first = record {
    many = ap length holds ∙ length-replicate (length file.slots) File ∙ sym new.slots_are;
    pieces = λ s l e. absurd (no_piece (length file.slots) s l (ap (λ (xs : List FirstContent). content_at xs s) (sym holds) ∙ e));
  };
  left = λ xs e. absurd (no_left xs e);
}
