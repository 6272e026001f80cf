-- The version that a line began is one that its worker had seen after it.
use Rattle.std.proofs.Common.{Contains, List, ap, arith, refl, subst, sym, true, ◌∙◌, ◌≡◌, ℕ}
use Rattle.std.specs.Prelude.{None, Some}
use Rattle.lock_word.specs.Words.{epoch_at, version_of}
use Rattle.store_key.specs.Anchor.{anchor_of}
use Rattle.store_key.specs.Key.{key_of}
use Rattle.script_text.specs.Requests.{url_in}
use Rattle.script_text.specs.declared.answer.Answer.{Answer}
use Rattle.script_text.specs.declared.answer.Answer.TheVariants as answer
use Rattle.script_text.specs.declared.request.Request.{Request}
use Rattle.script_text.specs.declared.request.Request.TheVariants.{Begin, Put, Save}
use Rattle.core_model.specs.declared.view.Sight.TheVariants.{Stood}
use Rattle.core_model.specs.declared.view.View.{View}
use Rattle.line_account.specs.Accounts.{Tells, epochs_of}
use Rattle.line_account.specs.Answers.{Run}
use Rattle.line_account.specs.Deeds.{Began, BeganAndEnded, BeganOnTab, Begins}
use Rattle.line_account.specs.Lines.{IsAt, Served, begun_by, begun_of, gives_up, url_at}

-- an epoch of the version x was seen at the anchor a
pub record HasSeen {X : Type 0} (v : View X) (a x : ℕ) : Type 0 where
  pub epoch : ℕ
  pub version_is : version_of epoch ≡ x
  pub seen : Contains v.seen (Stood a epoch)

module _ {X : Type 0} (r : Run X) (earlier : List Served) (s : Served) (b y : ℕ) (w : View X) (tells : Tells r w earlier s) (begun : Begins r.setting.anchors s b y) where
  -- a line that gave its own writing up has seen it halted
  given_up : begun_by earlier s ≡ Some s → gives_up s.answer ≡ true → HasSeen w b y
  given_up own up =
      let u = tells.gave_up (λ none. let z : None ≡ Some s = sym none ∙ own in cc) up in
      let line : Some u.writes.first ≡ Some s = sym u.writes.begun_is ∙ own in
      let first_is : u.writes.first ≡ s = cc in
      let drawn : Some u.version ≡ Some y = sym u.writes.drew ∙ ap Served.drew first_is ∙ begun.drew in
      let version : u.version ≡ y = cc in
      let named : Some u.writes.anchor.url ≡ Some begun.anchor.url = sym u.writes.anchor.named_is ∙ ap (λ (z : Served). url_in z.asked.request) first_is ∙ begun.anchor.named_is in
      let url : u.writes.anchor.url ≡ begun.anchor.url = cc in
      let anchor : u.anchor ≡ b = u.writes.anchor.anchor ∙ ap (λ (z : List ℕ). anchor_of (key_of z) r.setting.anchors) url ∙ sym begun.anchor.anchor in
      record { epoch = u.epoch; version_is = u.version_is ∙ version; seen = subst (λ (z : ℕ). Contains w.seen (Stood z u.epoch)) anchor u.seen }

  module _ (named : url_at earlier s.asked.request ≡ url_in s.asked.request) where
    at : IsAt r.setting.anchors earlier s b
    at = record { url = begun.anchor.url; named_is = named ∙ begun.anchor.named_is; anchor = begun.anchor.anchor }

    -- a line that shows an epoch of it has seen this
    shown : (e : ℕ) → Contains (epochs_of s.opened s.looked s.answer) e → version_of e ≡ y → HasSeen w b y
    shown e h is = record { epoch = e; version_is = is; seen = tells.shown b e (record { at = at; shown = h }) }

    at_once : begun_by earlier s ≡ Some s → (a : Answer) → s.answer ≡ a → BeganAndEnded a y → HasSeen w b y
    at_once own (answer.Stored version) is h = shown (epoch_at version 3) (subst (λ (z : Answer). Contains (epochs_of s.opened s.looked z) (epoch_at version 3)) (sym is) (0, omega arith, refl)) (omega arith)
    at_once own (answer.Doomed version) is h = shown (epoch_at version 11) (subst (λ (z : Answer). Contains (epochs_of s.opened s.looked z) (epoch_at version 11)) (sym is) (0, omega arith, refl)) (omega arith)
    at_once own answer.Full is h = given_up own (ap gives_up is)
    at_once own answer.Large is h = given_up own (ap gives_up is)
    at_once own answer.Fault is h = given_up own (ap gives_up is)
    at_once own _ is h = absurd h

    on_tab : (a : Answer) → s.answer ≡ a → BeganOnTab a y → HasSeen w b y
    on_tab (answer.Begun version) is h = shown (epoch_at version 1) (subst (λ (z : Answer). Contains (epochs_of s.opened s.looked z) (epoch_at version 1)) (sym is) (0, omega arith, refl)) (omega arith)
    on_tab _ is h = absurd h

  by_request : (q : Request) → s.asked.request ≡ q → Began q s.answer y → HasSeen w b y
  by_request (Put url body) is h = at_once (ap (url_at earlier) is ∙ sym (ap url_in is)) (ap (begun_of earlier s) is) s.answer refl h
  by_request (Save url body) is h = at_once (ap (url_at earlier) is ∙ sym (ap url_in is)) (ap (begun_of earlier s) is) s.answer refl h
  by_request (Begin tab url body) is h = on_tab (ap (url_at earlier) is ∙ sym (ap url_in is)) s.answer refl h
  by_request _ is h = absurd h

  pub begun_after : HasSeen w b y
  begun_after = by_request s.asked.request refl begun.began
