-- A pass makes a step: each entry stays the opening's or one of its offer, and each logged piece one of its offer.
use Rattle.std.proofs.Common.{◌≡◌, ◌≢◌, ℕ, List, Option, Some, None, unwrap_or, Bool, refl, sym, ap, ◌∙◌, subst, arith, Contains}
use Rattle.std.proofs.lemmas.List.Elements.{Contains-append_left}
use Rattle.rebuild_model.specs.declared.image.FileImage.{FileImage}
use Rattle.core_model.specs.declared.moves.Move.{Move}
use Rattle.core_model.specs.declared.moves.Move.TheVariants.{LogPiece}
use Rattle.core_model.specs.declared.tab.Tab.{Tab}
use Rattle.core_model.specs.declared.tab.Tab.TheVariants.{Writing}
use Rattle.core_model.specs.declared.tab.Writer.{Writer}
use Rattle.core_model.specs.declared.view.LoggedPiece.{LoggedPiece}
use Rattle.core_model.specs.declared.view.Place.TheVariants.{LogCounter}
use Rattle.core_model.specs.declared.view.Sight.TheVariants as sight
use Rattle.core_model.specs.declared.view.View.{View}
use Rattle.core_model.specs.CellMoves.{MayLog, piece_of}
use Rattle.core_model.specs.Layout.{Setting, word_in}
use Rattle.core_model.specs.Offers.{ChoosesRight, KeepsTo, Offering, OffersStand}
use Rattle.core_model.specs.State.{State}
use Rattle.core_model.specs.Table.{Allowed}
use Rattle.core_model.specs.Tabs.{OfWriter, tab_at}
use Rattle.core_model.proofs.OffersKept.{offers_kept}
use Rattle.core_log.specs.Keeps.{HasLog}
use Rattle.core_log.specs.Logged.{logged_now, logged_with, piece_logged}
use Rattle.core_log.specs.Seen.{IsSeen}
use Rattle.core_log.proofs.HasLog.{log_after}
use Rattle.core_log.proofs.LogsKept.{logs_kept}
use Rattle.core_state.specs.declared.act.Act.{Act}
use Rattle.core_state.specs.declared.act.Step.TheVariants as step
use Rattle.core_state.specs.Applied.{Applies, IsSameStore}
use Rattle.core_table.specs.declared.content.Content.{Content}
use Rattle.core_table.specs.Machine.{Machine, setting_of, state_of}
use Rattle.core_runs.specs.Offered.{AllOffered, offering_of}
use Rattle.core_runs.specs.Responses.{KeepsTo as TabKeeps}
use Rattle.core_runs.specs.Runs.{IsSound}
use Rattle.core_runs.proofs.Offered.{keeps_to}
use Rattle.core_runs.proofs.Runs.{same_setting}
use Rattle.crash_entries.specs.Parts.{Offers}
use Rattle.core_lives.specs.Left.{KeepsToOffer}
use Rattle.named_rebuild.specs.declared.contents.FirstContent.{FirstContent}
use Rattle.life_runs.specs.Keeping.{HasKeyOf}
use Rattle.life_runs.specs.Opening.{file_of, responses_of}

-- the step that logs a piece is the only one that has to keep to an offer
chooses : {X : Type 0} → (o : Offering) (v : View X) (m : Move) → ((t slot : ℕ) (durable : Bool) → m ≡ LogPiece t slot durable → (w : Writer X) → tab_at v t ≡ Writing w → KeepsTo o w (piece_of w)) → ChoosesRight o v m
chooses o v (LogPiece t slot durable) h = λ w is none. h t slot durable refl w is
chooses o v m h = tt

-- a tab that may log is a writing one that may
may_log : {X : Type 0} → (slot : ℕ) (tab : Tab X) (w : Writer X) → tab ≡ Writing w → OfWriter (MayLog slot) tab → MayLog slot w
may_log slot tab w is h = subst (OfWriter (MayLog slot)) is h

stored : (x : Option ℕ) → x ≢ None → x ≡ Some (unwrap_or x 0)
stored None ne = absurd (ne refl)
stored (Some y) ne = refl

module _ (file : FileImage) (o : Offers) (first : List FirstContent) (from m left : Machine) where
  abbrev over : FileImage
  over = file_of file o first

  abbrev off : Offering
  off = offering_of over (responses_of o) from

  -- a logged piece that keeps to its offer, with its key, is one that its tab may choose
  tab_keeps : (l : LoggedPiece) (w : Writer Content) → KeepsToOffer file o from.anchors l → HasKeyOf o l → l.piece ≡ piece_of w → l.anchor ≡ w.anchor → w.key0 ≡ Some l.key0 → w.key1 ≡ Some l.key1
      → TabKeeps over from.anchors (responses_of o) w (piece_of w)
  tab_keeps l w k h is at a b = subst (TabKeeps over from.anchors (responses_of o) w) is record {
    url = k.url;
    short = k.short;
    anchor = k.anchor_is ∙ at;
    key0 = a ∙ ap Some h.key0;
    key1 = b ∙ ap Some h.key1;
    last = k.last;
  }

  module _ (act : Act) (number : ℕ) (so : IsSound m) (made : Applies m (step.Act act) number left) (same : IsSameStore m left) (anchors_are : m.anchors ≡ from.anchors)
      (keeps : (l : LoggedPiece) → IsSeen left.views (sight.Logged l) → KeepsToOffer file o left.anchors l × HasKeyOf o l) (st : AllOffered over (responses_of o) from m)
      (logs : HasLog off (setting_of m) (state_of m)) where
    abbrev k : Setting Content
    k = setting_of m

    abbrev s : State Content
    s = state_of m

    abbrev v : View Content
    v = made.2.view

    abbrev move : Move
    move = made.0

    abbrev new : List LoggedPiece
    new = logged_now k s v move

    -- what the step logs is known afterwards
    seen_then : (l : LoggedPiece) → Contains new l → IsSeen left.views (sight.Logged l)
    seen_then l c = subst (λ (t : State Content). IsSeen t.views (sight.Logged l)) (sym made.2.leaves)
        ((logs_kept k s logs.log act.pass v move so logs.stands made.2.at made.2.may).of.seen l (Contains-append_left new logs.log l c))

    right : ChoosesRight off v move
    right = chooses off v move (λ t slot durable is w tab.
        let l : LoggedPiece = piece_logged slot durable (word_in k s.words LogCounter) w in
        let among : Contains new l = subst (λ (x : Move). Contains (logged_now k s v x) l) (sym is)
        (subst (λ (x : Tab Content). Contains (logged_with slot durable (word_in k s.words LogCounter) x) l) (sym tab) (0, omega arith, refl)) in
        let may : MayLog slot w = may_log slot (tab_at v t) w tab (subst (Allowed k s v) is made.2.may.allowed).1 in
        let kept = keeps l (seen_then l among) in
        let here : KeepsToOffer file o from.anchors l = subst (λ (n : ℕ). KeepsToOffer file o n l) (same.anchors ∙ anchors_are) kept.0 in
        keeps_to over (responses_of o) from w (piece_of w) (tab_keeps l w here kept.1 refl refl (stored w.key0 may.key0) (stored w.key1 may.key1)))

    pub offers_then : AllOffered over (responses_of o) from left
    offers_then = subst (λ (j : Setting Content). OffersStand off j (state_of left)) (sym (same_setting m left same))
        (subst (OffersStand off k) (sym made.2.leaves) (offers_kept off k s act.pass v move so st made.2.at made.2.may right))

    pub log_then : HasLog off (setting_of left) (state_of left)
    log_then = subst (λ (j : Setting Content). HasLog off j (state_of left)) (sym (same_setting m left same))
        (subst (HasLog off k) (sym made.2.leaves) (log_after off k s act.pass v move so st made.2.at made.2.may right logs))
