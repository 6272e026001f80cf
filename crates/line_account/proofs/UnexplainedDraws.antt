-- A version that no line printed, and that is later than one which its worker began behind it.
use Rattle.std.proofs.Common.{Contains, List, [], ap, arith, false, inl, inr, refl, subst, suc, sym, zero, ⊎_elim, ◌++◌, ◌∙◌, ◌∷◌, ◌≡◌, ◌≤◌, ◌⊎◌, ℕ}
use Rattle.std.specs.Prelude.{Some, ◌≢◌}
use mathlib.Core.Option.{some, some-injective, some-ne-none}
use lib.ListN.{get_elem?}
use Rattle.lock_word.specs.Words.{epoch_number, version_of}
use Rattle.lock_word.proofs.Parts.{version_of-epoch_number}
use Rattle.lock_word.specs.declared.cause.Cause.TheVariants.{Absent}
use Rattle.lock_word.specs.declared.epoch.Epoch.{Epoch}
use Rattle.lock_word.specs.declared.stage.Stage.TheVariants as stage
use Rattle.store_key.specs.Anchor.{anchor_of}
use Rattle.store_key.specs.Key.{key_of}
use Rattle.script_text.specs.declared.answer.Answer.{Answer}
use Rattle.script_text.specs.declared.answer.Answer.TheVariants as answer
use Rattle.script_text.specs.declared.body.Body.{Body}
use Rattle.script_text.specs.declared.line.Line.{Line}
use Rattle.script_text.specs.declared.request.Request.{Request}
use Rattle.script_text.specs.declared.request.Request.TheVariants.{Get, Put}
use Rattle.script_text.specs.Requests.{url_in}
use Rattle.line_account.specs.Accounts.{epochs_of}
use Rattle.line_account.specs.Alone.{home}
use Rattle.line_account.specs.Answers.{Run}
use Rattle.line_account.specs.Closing.{BegunIn, ShownIn, Worker}
use Rattle.line_account.specs.Crews.KnewOf.{own}
use Rattle.line_account.specs.Deeds.{Began, Begins, TellsBegun}
use Rattle.line_account.specs.Lines.{IsAnchorOf, Served, url_at}
use Rattle.line_account.specs.Rules.{KeepsRules}

one_of_two : (s t : Served) (later earlier : List Served) (x : Served) → s ∷ t ∷ [] ≡ later ++ x ∷ earlier → (s ≡ x) ⊎ (t ≡ x)
one_of_two s t [] earlier x e = inl cc
one_of_two s t (y ∷ []) earlier x e = inr cc
one_of_two s t (y ∷ z ∷ []) earlier x e = absurd (let n : [] ≡ x ∷ earlier = cc in cc)
one_of_two s t (y ∷ z ∷ v ∷ later) earlier x e = absurd (let n : [] ≡ v ∷ (later ++ x ∷ earlier) = cc in cc)

the_one : (s : Served) (later earlier : List Served) (x : Served) → s ∷ [] ≡ later ++ x ∷ earlier → s ≡ x
the_one s [] earlier x e = cc
the_one s (y ∷ []) earlier x e = absurd (let n : [] ≡ x ∷ earlier = cc in cc)
the_one s (y ∷ z ∷ later) earlier x e = absurd (let n : [] ≡ z ∷ (later ++ x ∷ earlier) = cc in cc)

module _ {X : Type 0} (r : Run X) (script : List Line) (u w : Worker) (rules : KeepsRules r script (u ∷ w ∷ [])) (p q g : Served) (url other : List ℕ) (body next : Body) (x y : ℕ)
    (us : u.served ≡ q ∷ p ∷ []) (ws : w.served ≡ g ∷ []) (apart : home r url ≢ home r other) (qq : q.asked.request ≡ Put other next) (qa : q.answer ≡ answer.Stored x) (gq : g.asked.request ≡ Get url)
    (ga : g.answer ≡ answer.Miss (Absent (record { version = y; stage = stage.Gone; doom = false }))) where
  -- the second line began its version
  abbrev stored : BegunIn r (u ∷ w ∷ []) (home r other) x
  stored = record {
    j = 0;
    worker = u;
    at = refl;
    later = [];
    served = q;
    earlier = p ∷ [];
    split = us;
    so = rules.versions.told (home r other) x (record {
      j = 0;
      worker = u;
      at = refl;
      later = [];
      served = q;
      earlier = p ∷ [];
      split = us;
      so = record {
        anchor = record { url = other; named_is = ap url_in qq; anchor = refl };
        told = subst (λ (z : Request). TellsBegun z q.answer x) (sym qq) (subst (λ (z : Answer). TellsBegun (Put other next) z x) (sym qa) refl);
      };
    });
  }

  abbrev gone : Epoch
  gone = record { version = y; stage = stage.Gone; doom = false }

  shown : ShownIn r (u ∷ w ∷ []) (home r url) (epoch_number gone)
  shown = record {
    j = 1;
    worker = w;
    at = refl;
    later = [];
    served = g;
    earlier = [];
    split = ws;
    so = record {
      at = record { url = url; named_is = ap (url_at []) gq; anchor = refl };
      shown = subst (λ (z : Answer). Contains (epochs_of g.opened g.looked z) (epoch_number gone)) (sym ga) (0, omega arith, refl);
    };
  }

  -- it began it at its own anchor
  elsewhere : (s : Served) → q ≡ s → IsAnchorOf r.setting.anchors (url_in s.asked.request) (home r url) → ⊥
  elsewhere s same at =
      let k : Some at.url ≡ Some other = sym at.named_is ∙ ap (λ (z : Served). url_in z.asked.request) (sym same) ∙ ap url_in qq in
      let e : at.url ≡ other = cc in
      apart (at.anchor ∙ ap (λ (z : List ℕ). anchor_of (key_of z) r.setting.anchors) e)

  -- a line that began a version at the first one's anchor is the first one
  is_first : (v : ℕ) (j : ℕ) (o : Worker) → get_elem? (u ∷ w ∷ []) j ≡ some o → (later earlier : List Served) (s : Served) → o.served ≡ later ++ s ∷ earlier → Begins r.setting.anchors s (home r url) v → p ≡ s
  is_first v zero o at later earlier s is begins = ⊎_elim
      (λ (h : q ≡ s). absurd (elsewhere s h begins.anchor))
      (λ (h : p ≡ s). h)
      (one_of_two q p later earlier s (sym us ∙ ap Worker.served (some-injective u o at) ∙ is))
  is_first v (suc zero) o at later earlier s is begins =
      let same = the_one g later earlier s (sym ws ∙ ap Worker.served (some-injective w o at) ∙ is) in
      absurd (subst (λ (z : Request). Began z s.answer v) (ap (λ (z : Served). z.asked.request) (sym same) ∙ gq) begins.began)
  is_first v (suc (suc j)) o at later earlier s is begins = absurd (some-ne-none o (sym at))

  pub never_later : x ≤ y → ⊥
  unfolding stored
  never_later low =
      let n : ℕ = epoch_number gone in
      let version : version_of n ≡ y = version_of-epoch_number gone in
      let high = (rules.versions.bounds (home r other) x stored).0 in
      let b = rules.epochs.new (home r url) n shown (omega arith) in
      let first = is_first (version_of n) b.j b.worker b.at b.later b.earlier b.served b.split b.so in
      let later = rules.order.draws (home r other) (home r url) x (version_of n) p [] stored (own (record { later = []; split = refl }))
      (subst (λ (z : Served). Begins r.setting.anchors z (home r url) (version_of n)) (sym first) b.so) in
      omega arith
