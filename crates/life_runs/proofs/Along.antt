-- Along every list of steps, crashes and rebuilds what slots hold is in order, and each entry is the last opening's or one of its offer.
use Rattle.std.proofs.Common.{◌≡◌, ◌⊎◌, inl, inr, ℕ, zero, suc, ◌+◌, ◌<◌, ◌≤◌, ◌^◌, List, length, None, Some, replicate, refl, sym, ap, ◌∙◌, subst, arith}
use mathlib.Core.Option.{some, some-injective}
use lib.ListN.{get_elem?}
use Rattle.db_layout.specs.Layout.{IsSlotSize}
use Rattle.rebuild_model.specs.declared.image.FileImage.{FileImage}
use Rattle.rebuild_model.specs.declared.rebuilt.Rebuilt.{Rebuilt}
use Rattle.rebuild_model.specs.Rebuilt.{IsRebuilt}
use Rattle.core_model.specs.declared.view.LoggedPiece.{LoggedPiece}
use Rattle.core_model.specs.declared.view.Sight.TheVariants as sight
use Rattle.core_model.specs.Layout.{Setting}
use Rattle.core_model.proofs.Lists.{at_length}
use Rattle.core_log.specs.Keeps.{HasLog}
use Rattle.core_log.specs.Seen.{IsSeen}
use Rattle.core_log.proofs.HasLog.{log_opened}
use Rattle.core_state.specs.declared.act.Act.{Act}
use Rattle.core_state.specs.declared.act.Step.{Step}
use Rattle.core_state.specs.declared.act.Step.TheVariants as step
use Rattle.core_table.specs.Machine.{Machine, setting_of, state_of}
use Rattle.core_table.specs.New.{IsNew}
use Rattle.core_runs.specs.Offered.{AllOffered, offering_of}
use Rattle.core_runs.specs.Runs.{IsSound}
use Rattle.core_runs.proofs.Answering.{from_offers}
use Rattle.core_runs.proofs.Runs.{same_setting}
use Rattle.crash_entries.specs.Parts.{Offers}
use Rattle.crash_entries.proofs.Telling.{Tools}
use Rattle.named_rebuild.specs.declared.contents.FirstContent.{FirstContent}
use Rattle.named_rebuild.specs.declared.contents.FirstContent.TheVariants.{File}
use Rattle.named_rebuild.specs.Keeping.{IsRebuiltOfNames}
use Rattle.named_bytes.specs.Alike.{AreAlike}
use Rattle.named_bytes.specs.Bytes.{images_from}
use Rattle.named_bytes.specs.Order.{AreInOrder}
use Rattle.named_bytes.proofs.Images.{many_images}
use Rattle.core_lives.specs.Along.{LeadsThrough}
use Rattle.core_lives.specs.Happening.{Happens, IsActed, IsCrashed, IsNewLife, IsReopened, IsSameLife}
use Rattle.core_lives.specs.Left.{KeepsToOffer}
use Rattle.core_lives.specs.Lived.{IsSoundLife, Lived}
use Rattle.core_lives.proofs.Bytes.{first_images}
use Rattle.core_lives.proofs.Known.{Known, all_known, new_known}
use Rattle.core_lives.proofs.Leading.{there}
use Rattle.core_lives.proofs.Living.{no_piece}
use Rattle.life_runs.specs.Keeping.{HasKeyOf, KeepsOffers}
use Rattle.life_runs.specs.Opening.{IsOpenSince, file_of, responses_of}
use Rattle.life_runs.proofs.Acting.{log_then, offers_then}
use Rattle.life_runs.proofs.Openings.{opened_alike}
use Rattle.life_runs.proofs.Ordered.{left_in_order}

no_left : (xs : List FirstContent) → None ≡ Some xs → ⊥
no_left xs e = cc

same_left : (xs ys : List FirstContent) → Some xs ≡ Some ys → xs ≡ ys
same_left xs ys e = cc

-- the law on names and bytes
abbrev pub KeepSame : Type 0
KeepSame = (file : FileImage) (o : Offers) (anchors : ℕ) (contents : List FirstContent) (r : Rebuilt) → IsSlotSize file.slot → length file.slots ≤ 1048576 → length contents ≡ length file.slots → AreInOrder file o anchors contents
    → IsRebuiltOfNames file contents anchors r → (b : Rebuilt) × IsRebuilt file.slot (images_from file o 0 contents) anchors b × AreAlike r b

module _ (t : Tools) (law : KeepSame) (file : FileImage) (o : Offers) (anchors passes : ℕ) (size : IsSlotSize file.slot) (sized : file.slot < 2 ^ 32) (few : length file.slots ≤ 1048576) where
  abbrev slots : ℕ
  slots = length file.slots

  abbrev over : List FirstContent → FileImage
  over first = file_of file o first

  abbrev IsKnown : Lived → Type 0
  IsKnown l = Known t file o anchors sized few l

  -- The core was opened over these bytes. Since then each entry is the opening's or one of its offer, and each logged piece is one of its
  -- offer.
  pub record GoesOn (from : Machine) (first : List FirstContent) (m : Machine) : Type 0 where
    pub new : IsNew (over first) slots anchors passes from
    pub sound : IsSound from
    pub same : setting_of m ≡ setting_of from
    pub offers : AllOffered (over first) (responses_of o) from m
    pub logs : HasLog (offering_of (over first) (responses_of o) from) (setting_of m) (state_of m)

  pub record IsGood (l : Lived) : Type 0 where
    pub order : AreInOrder file o anchors l.first
    pub left : (xs : List FirstContent) → l.left ≡ Some xs → AreInOrder file o anchors xs
    pub from : Machine
    pub goes : GoesOn from l.first l.core

  many : (l : Lived) → IsKnown l → length (images_from file o 0 l.first) ≡ slots
  many l k = many_images file o 0 l.first ∙ k.sound.first.many ∙ slots_at l k
    where
      slots_at : (l : Lived) → IsKnown l → l.core.slots ≡ slots
      slots_at l k = sym k.sound.slots ∙ ap (λ (f : FileImage). length f.slots) k.file_is

  -- a core that was just opened over these bytes
  opens : (first : List FirstContent) (m : Machine) → length (images_from file o 0 first) ≡ slots → IsNew (over first) slots anchors passes m → IsSound m → GoesOn m first m
  opens first m n new so = record {
    new = new;
    sound = so;
    same = refl;
    offers = from_offers (over first) (responses_of o) anchors passes m (subst (λ (x : ℕ). IsNew (over first) x anchors passes m) (sym n) new) so;
    logs = log_opened (offering_of (over first) (responses_of o) m) (setting_of m) (state_of m) new.rebuilt so.anchors.setting new.opened so (let z = new.slots_are in omega arith);
  }

  new_images : (l : Lived) → IsNewLife file anchors passes l → images_from file o 0 l.first ≡ file.slots
  new_images l new = ap (images_from file o 0) new.first ∙ first_images file o

  new_core : (l : Lived) → IsNewLife file anchors passes l → IsNew (over l.first) slots anchors passes l.core
  new_core l new = subst (λ (xs : List (List ℕ)). IsNew record { slot = file.slot; slots = xs } slots anchors passes l.core) (sym (new_images l new)) new.core

  pub new_goes : (l : Lived) → IsNewLife file anchors passes l → IsSoundLife l → GoesOn l.core l.first l.core
  new_goes l new so = opens l.first l.core (ap (λ (xs : List (List ℕ)). length xs) (new_images l new)) (new_core l new) so.sound

  pub new_good : (l : Lived) → IsNewLife file anchors passes l → IsSoundLife l → IsGood l
  new_good l new so = record {
    order = subst (AreInOrder file o anchors) (sym new.first) no_pieces;
    left = λ xs e. absurd (no_left xs (sym new.left ∙ e));
    from = l.core;
    goes = new_goes l new so;
  }
    where
      no_pieces : AreInOrder file o anchors (replicate slots File)
      no_pieces = record {
        pieces = λ s p e. absurd (no_piece slots s p e);
        one = λ s u p q e f v. absurd (no_piece slots s p e);
        newer = λ s u p e sane f. absurd (no_piece slots u p f);
      }

  -- a pass made a step
  pub acted_on : (from : Machine) (first : List FirstContent) (l then : Lived) (act : Act) (number : ℕ) → IsKnown l → GoesOn from first l.core → KeepsOffers o then → IsSameLife l then → IsActed l (step.Act act) number then → GoesOn from first then.core
  acted_on from first l then act number k g keeps same h = record {
    new = g.new;
    sound = g.sound;
    same = same_setting l.core then.core h.same_store ∙ g.same;
    offers = offers_then file o first from l.core then.core act number k.sound.sound h.made h.same_store (ap Setting.anchors g.same) kept g.offers g.logs;
    logs = log_then file o first from l.core then.core act number k.sound.sound h.made h.same_store (ap Setting.anchors g.same) kept g.offers g.logs;
  }
    where
      kept : (p : LoggedPiece) → IsSeen then.core.views (sight.Logged p) → KeepsToOffer file o then.core.anchors p × HasKeyOf o p
      kept p seen = (subst (λ (f : FileImage). KeepsToOffer f o then.core.anchors p) (same.file ∙ k.file_is) (keeps.faithful p seen), keeps.keyed p seen)

  acted : (l then : Lived) (act : Act) (number : ℕ) → IsKnown l → IsGood l → KeepsOffers o then → IsSameLife l then → IsActed l (step.Act act) number then → IsGood then
  acted l then act number k g keeps same h = record {
    order = subst (AreInOrder file o anchors) (sym h.first) g.order;
    left = λ xs e. absurd (no_left xs (sym h.left ∙ e));
    from = g.from;
    goes = subst (λ (xs : List FirstContent). GoesOn g.from xs then.core) (sym h.first) (acted_on g.from l.first l then act number k g.goes keeps same h);
  }

  crashed : (l then : Lived) (picks : List ℕ) → IsKnown l → IsKnown then → IsGood l → IsCrashed l picks then → IsGood then
  crashed l then picks k after g h = record {
    order = subst (AreInOrder file o anchors) (sym h.first) g.order;
    left = λ xs e. subst (AreInOrder file o anchors) (same_left h.contents xs (sym h.left ∙ e))
        (left_in_order t file o anchors l.first g.from l.core g.order k.sound.first.many (sym (ap (λ (f : FileImage). length f.slots) k.file_is) ∙ k.sound.slots) k.greatest g.goes.logs picks h.contents h.picked (after.left h.contents h.left).0);
    from = g.from;
    goes = subst (λ (xs : List FirstContent). GoesOn g.from xs then.core) (sym h.first) (subst (GoesOn g.from l.first) (sym h.core) g.goes);
  }

  -- a core that was opened anew was opened over the bytes
  pub reopened_new : (l then : Lived) → IsKnown l → IsKnown then → IsGood l → IsReopened l then → IsNew (over then.first) slots anchors passes then.core
  reopened_new l then k after g h =
      let order : AreInOrder file o anchors then.first = g.left then.first h.first in
      let n : length then.first ≡ slots = after.sound.first.many ∙ sym after.sound.slots ∙ ap (λ (f : FileImage). length f.slots) after.file_is in
      let kept : IsRebuiltOfNames file then.first anchors h.rebuilt = subst (λ (f : FileImage). IsRebuiltOfNames f then.first anchors h.rebuilt) k.file_is (subst (λ (a : ℕ). IsRebuiltOfNames l.file then.first a h.rebuilt) k.anchors_is h.kept) in
      let q = law file o anchors then.first h.rebuilt size few n order kept in
      record {
        anchors_are = h.opened.anchors_are ∙ k.anchors_is;
        slots_are = h.opened.slots_are ∙ sym k.sound.slots ∙ ap (λ (f : FileImage). length f.slots) k.file_is;
        passes_are = h.opened.passes_are ∙ ap Setting.passes g.goes.same ∙ g.goes.new.passes_are;
        rebuilt = q.0;
        kept = q.1;
        opened = opened_alike (setting_of then.core) (state_of then.core) h.rebuilt q.0 q.2 h.opened.opened;
      }

  pub reopened_goes : (l then : Lived) → IsKnown l → IsKnown then → IsGood l → IsReopened l then → GoesOn then.core then.first then.core
  reopened_goes l then k after g h = opens then.first then.core (many then after) (reopened_new l then k after g h) after.sound.sound

  reopened : (l then : Lived) → IsKnown l → IsKnown then → IsGood l → IsReopened l then → IsGood then
  reopened l then k after g h = record {
    order = g.left then.first h.first;
    left = λ xs e. absurd (no_left xs (sym h.left ∙ e));
    from = then.core;
    goes = reopened_goes l then k after g h;
  }

  good_next : (l then : Lived) (s : Step) (number : ℕ) → IsKnown l → IsKnown then → IsGood l → KeepsOffers o then → IsSameLife l then → Happens l s number then → IsGood then
  good_next l then (step.Act act) number k after g keeps same h = acted l then act number k g keeps same h
  good_next l then (step.Crash picks) number k after g keeps same h = crashed l then picks k after g h.1
  good_next l then step.Rebuild number k after g keeps same h = reopened l then k after g h.1

  module _ (steps : List Step) (lives : List Lived) (from : Lived) (new : IsNewLife file anchors passes from) (so : IsSoundLife from) (leads : LeadsThrough steps lives) (begins : get_elem? lives 0 ≡ some from)
      (keeps : (j : ℕ) (l : Lived) → get_elem? lives j ≡ some l → KeepsOffers o l) where
    pub known : (i : ℕ) (l : Lived) → get_elem? lives i ≡ some l → IsKnown l
    known i l at = all_known t file o anchors sized few steps lives from leads begins (new_known t file o anchors sized few passes from new so) (λ j x h. (keeps j x h).faithful) i l at

    pub all_good : (i : ℕ) (l : Lived) → get_elem? lives i ≡ some l → IsGood l
    all_good zero l at = subst IsGood (some-injective from l (sym begins ∙ at)) (new_good from new so)
    all_good (suc i) l at =
        let lt = at_length lives (suc i) l at in
        let count = leads.count in
        let was = there lives i (omega arith) in
        let made = there steps i (omega arith) in
        let more : suc i ≡ i + 1 = omega arith in
        let follows = leads.follows i made.0 was.0 l made.1 was.1 (ap (get_elem? lives) (sym more) ∙ at) in
        good_next was.0 l made.0 follows.1.0 (known i was.0 was.1) (known (suc i) l at) (all_good i was.0 was.1) (keeps (suc i) l at) follows.0 follows.1.1

    -- right after a rebuild
    pub opened_there : (i : ℕ) (l : Lived) → get_elem? steps i ≡ some step.Rebuild → get_elem? lives (i + 1) ≡ some l → IsNew (over l.first) slots anchors passes l.core
    opened_there i l rebuilds at =
        let lt = at_length steps i step.Rebuild rebuilds in
        let count = leads.count in
        let was = there lives i (omega arith) in
        let follows = leads.follows i step.Rebuild was.0 l rebuilds was.1 at in
        reopened_new was.0 l (known i was.0 was.1) (known (i + 1) l at) (all_good i was.0 was.1) follows.1.1.1

    -- an opening, and what follows it until a crash
    open_at : (i : ℕ) (l : Lived) → get_elem? lives i ≡ some l → (i ≡ 0) ⊎ ((h : ℕ) × (i ≡ h + 1) × (get_elem? steps h ≡ some step.Rebuild)) → GoesOn l.core l.first l.core
    open_at i l at (inl e) = subst (λ (x : Lived). GoesOn x.core x.first x.core) (some-injective from l (sym begins ∙ ap (get_elem? lives) (sym e) ∙ at)) (new_goes from new so)
    open_at i l at (inr (h, e, rebuilds)) =
        let here : get_elem? lives (h + 1) ≡ some l = ap (get_elem? lives) (sym e) ∙ at in
        let lt = at_length steps h step.Rebuild rebuilds in
        let count = leads.count in
        let was = there lives h (omega arith) in
        let follows = leads.follows h step.Rebuild was.0 l rebuilds was.1 here in
        reopened_goes was.0 l (known h was.0 was.1) (known (h + 1) l here) (all_good h was.0 was.1) follows.1.1.1

    pub goes_since : (i j d : ℕ) (opened l : Lived) → IsOpenSince steps i j → get_elem? lives i ≡ some opened → i + d ≤ j → get_elem? lives (i + d) ≡ some l → GoesOn opened.core opened.first l.core
    goes_since i j zero opened l since first low at =
        let same : i + 0 ≡ i = omega arith in
        subst (λ (x : Lived). GoesOn opened.core opened.first x.core) (some-injective opened l (sym first ∙ ap (get_elem? lives) (sym same) ∙ at)) (open_at i opened first since.opens)
    goes_since i j (suc d) opened l since first low at =
        let more : i + suc d ≡ (i + d) + 1 = omega arith in
        let here : get_elem? lives ((i + d) + 1) ≡ some l = ap (get_elem? lives) (sym more) ∙ at in
        let lt = at_length lives ((i + d) + 1) l here in
        let was = there lives (i + d) (omega arith) in
        let act = since.acts (i + d) (omega arith) (omega arith) in
        let follows = leads.follows (i + d) (step.Act act.0) was.0 l act.1 was.1 here in
        acted_on opened.core opened.first was.0 l act.0 follows.1.0 (known (i + d) was.0 was.1) (goes_since i j d opened was.0 since first (omega arith) was.1) (keeps ((i + d) + 1) l here) follows.0 follows.1.1
