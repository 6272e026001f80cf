-- A put and a get have an account.
use Rattle.std.proofs.Common.{length, min, mul-le-mul_right, ◌≤◌, ◌≡◌, inl, inr, ⊎_elim, ℕ, ◌+◌, ◌<◌, List, [], ◌∷◌, sym, refl, ap, ◌∙◌, subst, arith, true, false, Contains}
use Rattle.std.specs.Prelude.{None, Some}
use Rattle.std.proofs.lemmas.List.Elements.{Contains-append_right}
use Rattle.store_key.specs.Anchor.{anchor_of, back_half, front_half}
use Rattle.store_key.specs.Key.{key_of}
use Rattle.lock_word.specs.Words.{epoch_at, version_of}
use Rattle.lock_word.proofs.Testing.{readable_where}
use Rattle.plain_model.specs.Serving.{bytes_of}
use Rattle.script_text.specs.declared.answer.Answer.TheVariants as answer
use Rattle.script_text.specs.declared.body.Body.{Body}
use Rattle.script_text.specs.declared.request.Request.TheVariants.{Get, More, Put}
use Rattle.core_model.specs.declared.moves.Side.TheVariants.{Key0, Key1, Offer}
use Rattle.core_model.specs.declared.view.Deed.{Deed}
use Rattle.core_model.specs.declared.view.Kind.TheVariants.{Changed, Doomed, Entered, Raised}
use Rattle.core_model.specs.declared.view.Sight.TheVariants.{Named, Published, Stood}
use Rattle.core_model.specs.declared.view.View.{View}
use Rattle.core_model.specs.Anchors.{opening_epoch}
use Rattle.core_model.specs.Opening.{sights_below}
use Rattle.core_model.proofs.Lists.{cons_contains, contains_none}
use Rattle.line_account.specs.Lines.{Served, Writes}
use Rattle.line_account.specs.Deeds.{Begins as BeginsVersion, Grows, HasLine, IsDeedOf, IsNamed}
use Rattle.line_account.specs.Answers.{HasGiven, HasHit, HasOpened, IsEntryAt, IsSmall, Run}
use Rattle.line_account.specs.Accounts.{Account, HasFinished, IsOffered, Tells}
use Rattle.line_account.specs.Alone.{OffersNothing, hit_line, home, next_version, nothing, stored_line, view_after}
use Rattle.line_account.proofs.Courses.{lines_more, no_line}
use Rattle.line_account.proofs.Idle.{seen_below}

one : (e x : ℕ) → Contains (e ∷ []) x → e ≡ x
one e x h = ⊎_elim (λ (q : e ≡ x). q) (λ (q : Contains [] x). absurd (contains_none x q)) (cons_contains e x [] h)

module _ {X : Type 0} (r : Run X) (url : List ℕ) (o : OffersNothing r url) where
  abbrev x : ℕ
  x = next_version r

  abbrev a : ℕ
  a = home r url

  abbrev v : View X
  v = view_after r url

  abbrev put : Served
  put = stored_line url x

  abbrev get : Served
  get = hit_line url x

  version : version_of (epoch_at x 3) ≡ x
  version = omega arith

  version_taken : version_of (epoch_at x 1) ≡ x
  version_taken = omega arith

  -- What was seen.

  offer_seen : Contains v.seen (Named a x Offer (r.setting.slots + 1))
  offer_seen = (0, omega arith, refl)

  back_seen : Contains v.seen (Named a x Key1 (back_half (key_of url)))
  back_seen = (1, omega arith, refl)

  front_seen : Contains v.seen (Named a x Key0 (front_half (key_of url)))
  front_seen = (2, omega arith, refl)

  closed_seen : Contains v.seen (Stood a (epoch_at x 3))
  closed_seen = (3, omega arith, refl)

  published_seen : Contains v.seen (Published a x 1)
  published_seen = (4, omega arith, refl)

  opening_seen : (b : ℕ) → b < r.setting.anchors → Contains v.seen (Stood b (opening_epoch r.setting b))
  opening_seen b lt = Contains-append_right
      (Named a x Offer (r.setting.slots + 1) ∷ Named a x Key1 (back_half (key_of url)) ∷ Named a x Key0 (front_half (key_of url)) ∷ Stood a (epoch_at x 3) ∷ Published a x 1 ∷ Stood a (epoch_at x 1) ∷ [])
      (sights_below r.setting r.setting.anchors) (Stood b (opening_epoch r.setting b)) (seen_below r b r.setting.anchors lt)

  named : IsNamed r.setting v a x put
  named = record { url = url; url_is = refl; key0 = front_seen; key1 = back_seen; offer = offer_seen }

  writes : Writes r.setting.anchors [] put a x
  writes = record { first = put; begun_is = refl; drew = refl; anchor = record { url = url; named_is = refl; anchor = refl } }

  grows : Grows r.setting v [] put a x
  unfolding writes
  grows = record { writes = writes; named = named }

  begins : BeginsVersion r.setting.anchors put a x
  begins = record { anchor = record { url = url; named_is = refl; anchor = refl }; drew = refl; began = refl }

  -- Deeds.

  abbrev entered : Deed
  entered = record { pass = 0; kind = Entered; anchor = a; epoch = epoch_at x 3; was_idle = false }

  abbrev closed : Deed
  closed = record { pass = 0; kind = Raised; anchor = a; epoch = epoch_at x 3; was_idle = false }

  abbrev taken : Deed
  taken = record { pass = 0; kind = Changed; anchor = a; epoch = epoch_at x 1; was_idle = false }

  entered_line : IsDeedOf r v entered (put ∷ []) get
  entered_line = record {
    entered = λ q. record { url = url; comes = refl; anchor = refl };
    changed = λ q. absurd (let z : Entered ≡ Changed = q in cc);
    took = λ q s. absurd (let z : Entered ≡ Changed = q in cc);
    evicted = λ q s i. absurd (let z : Entered ≡ Changed = q in cc);
    grew = λ q s. absurd (let z : Entered ≡ Raised = q in cc);
    closed = λ q s. absurd (let z : Entered ≡ Raised = q in cc);
    halted = λ q s. absurd (let z : Entered ≡ Raised = q in cc);
    doomed = λ q. absurd (let z : Entered ≡ Doomed = q in cc);
    with_doom = λ q. absurd (let z : Entered ≡ Doomed = q in cc);
  }

  closed_line : IsDeedOf r v closed [] put
  closed_line = record {
    entered = λ q. absurd (let z : Raised ≡ Entered = q in cc);
    changed = λ q. absurd (let z : Raised ≡ Changed = q in cc);
    took = λ q s. absurd (let z : Raised ≡ Changed = q in cc);
    evicted = λ q s i. absurd (let z : Raised ≡ Changed = q in cc);
    grew = λ q s. subst (λ y. Grows r.setting v [] put a y) (sym version) grows;
    closed = λ q s. record { stored = λ d. ap answer.Stored (sym version); doomed = λ d. absurd (omega arith) };
    halted = λ q s. absurd (omega arith);
    doomed = λ q. absurd (let z : Raised ≡ Doomed = q in cc);
    with_doom = λ q. absurd (let z : Raised ≡ Doomed = q in cc);
  }

  taken_line : IsDeedOf r v taken [] put
  taken_line = record {
    entered = λ q. absurd (let z : Changed ≡ Entered = q in cc);
    changed = λ q. inl (omega arith);
    took = λ q s. subst (λ y. BeginsVersion r.setting.anchors put a y) (sym version_taken) begins;
    evicted = λ q s i. absurd (omega arith);
    grew = λ q s. absurd (let z : Changed ≡ Raised = q in cc);
    closed = λ q s. absurd (let z : Changed ≡ Raised = q in cc);
    halted = λ q s. absurd (let z : Changed ≡ Raised = q in cc);
    doomed = λ q. absurd (let z : Changed ≡ Doomed = q in cc);
    with_doom = λ q. absurd (let z : Changed ≡ Doomed = q in cc);
  }

  abbrev both : List Served
  both = get ∷ put ∷ []

  abbrev HasOne : Deed → Type 0
  HasOne d = (d.pass ≡ 0) × HasLine r v d both true

  deeds : (d : Deed) → Contains (entered ∷ closed ∷ taken ∷ []) d → HasOne d
  deeds d h = ⊎_elim
      (λ (q : entered ≡ d). subst HasOne q (refl, inl record { later = []; served = get; earlier = put ∷ []; split = refl; so = entered_line }))
      (λ (t : Contains (closed ∷ taken ∷ []) d). ⊎_elim
      (λ (q : closed ≡ d). subst HasOne q (refl, inl record { later = get ∷ []; served = put; earlier = []; split = refl; so = closed_line }))
      (λ (u : Contains (taken ∷ []) d). ⊎_elim
      (λ (q : taken ≡ d). subst HasOne q (refl, inl record { later = get ∷ []; served = put; earlier = []; split = refl; so = taken_line }))
      (λ (n : Contains [] d). absurd (contains_none d n))
      (cons_contains taken d [] u))
      (cons_contains closed d (taken ∷ []) t))
      (cons_contains entered d (closed ∷ taken ∷ []) h)

  -- What the lines tell.

  shown_of : (b e : ℕ) (named_ : List ℕ) → Some url ≡ Some named_ → b ≡ anchor_of (key_of named_) r.setting.anchors → epoch_at x 3 ≡ e → Contains v.seen (Stood b e)
  shown_of b e named_ n at is =
      let same : url ≡ named_ = cc in
      let there : a ≡ b = ap (λ u. anchor_of (key_of u) r.setting.anchors) same ∙ sym at in
      subst (λ z. Contains v.seen (Stood z e)) there (subst (λ z. Contains v.seen (Stood a z)) is closed_seen)

  put_offers : (u : List ℕ) (body : Body) → (url ≡ u) × (nothing ≡ body) → IsOffered r put u body
  put_offers u body h = record { url_is = o.url_is ∙ h.0; body_is = o.body_is ∙ ap bytes_of h.1 }

  -- one slot has room for the metadata and no byte
  put_small : IsSmall r [] put
  put_small = record {
    first = put;
    begun_is = refl;
    url = url;
    named = refl;
    small = let m = mul-le-mul_right r.room one_slot in let e = ap length o.body_is in let room = o.short in omega arith;
  }
    where
      one_slot : 1 ≤ min 4096 r.setting.slots
      one_slot = let some = o.some in omega arith

  put_no_more : (t : ℕ) → Put url nothing ≡ More t → ⊥
  put_no_more t e = cc

  get_no_more : (t : ℕ) → Get url ≡ More t → ⊥
  get_no_more t e = cc

  put_tells : Tells r v [] put
  put_tells = record {
    shown = λ b e h. shown_of b e h.at.url h.at.named_is h.at.anchor (one (epoch_at x 3) e h.shown);
    answers = tt;
    drew = λ n. refl;
    began = λ y h. record { version = x; drew = refl; began = refl };
    finished = λ y h. ⊎_elim
        (λ (q : answer.Stored x ≡ answer.Stored y). let same : x ≡ y = cc in subst (λ z. HasFinished r.setting v [] put z) same (record { anchor = a; grows = grows }))
        (λ (q : answer.Stored x ≡ answer.Doomed y). absurd cc)
        h;
    gave_up = λ writes h. absurd (let z : false ≡ true = h in cc);
    full = λ h. absurd (let z : answer.Stored x ≡ answer.Full = h in cc);
    large = λ h. absurd (let z : answer.Stored x ≡ answer.Large = h in cc);
    small = λ y h. put_small;
    long = λ h. absurd (let z : answer.Stored x ≡ answer.LongUrl = h in cc);
    short = λ u body h fits far. absurd (let e = ap length h.0 in let room = o.short in omega arith);
    busy = λ looked other h. absurd (let z : answer.Stored x ≡ answer.Busy looked other = h in cc);
    spent = λ n h. absurd (let z : answer.Stored x ≡ answer.Spent n = h in cc);
    offered = put_offers;
    cause = λ c h. absurd h;
    key = λ e key b h at. absurd h;
    opened = λ y h. absurd h;
    hit = λ t y bytes h. absurd (let z : answer.Stored x ≡ answer.Hit y bytes = h in cc);
    other = λ t h. absurd (let z : answer.Stored x ≡ answer.OtherUrl = h in cc);
    halted = λ bytes h. absurd (let z : answer.Stored x ≡ answer.Halted bytes = h in cc);
    part = λ e bytes h. absurd (let z : answer.Stored x ≡ answer.Part e bytes = h in cc);
    halted_version = λ bytes h. absurd (let z : answer.Stored x ≡ answer.Halted bytes = h in cc);
    part_version = λ e bytes h. absurd (let z : answer.Stored x ≡ answer.Part e bytes = h in cc);
    purged = λ e h. absurd h;
    added = λ n h. absurd (let z : answer.Stored x ≡ answer.Added n = h in cc);
    given = λ t h. absurd h;
    tab = ((λ h. absurd (let z : answer.Stored x ≡ answer.Tab = h in cc)), (λ n. absurd (n tt)));
    behind_end = λ t h. absurd (put_no_more t h.request);
    behind_other = λ t h. absurd (put_no_more t h.request);
    behind_halted = λ t h. absurd (put_no_more t h.request);
  }

  abbrev entry : IsEntryAt r v a (epoch_at x 3) url
  entry = record {
    readable = readable_where (epoch_at x 3) (inr (omega arith));
    seen = closed_seen;
    front = subst (λ y. Contains v.seen (Named a y Key0 (front_half (key_of url)))) (sym version) front_seen;
    back = subst (λ y. Contains v.seen (Named a y Key1 (back_half (key_of url)))) (sym version) back_seen;
    offer = r.setting.slots + 1;
    offered = subst (λ y. Contains v.seen (Named a y Offer (r.setting.slots + 1))) (sym version) offer_seen;
    old = λ low. absurd (let z = version in omega arith);
    old_front = λ low. absurd (let z = version in omega arith);
    old_back = λ low. absurd (let z = version in omega arith);
  }

  abbrev opened : HasOpened r v get
  opened = record { url = url; named = refl; entry = entry; told = sym version }

  get_given : HasGiven r v (put ∷ []) get
  get_given = record {
    first = get;
    opened_is = refl;
    url = url;
    named = refl;
    entry = entry;
    place = 1;
    most = omega arith;
    sure = λ h. omega arith;
    url_is = λ some_slot. o.url_is;
    first_ones = refl;
    whole = λ h. sym o.body_is;
    fewer = λ h. absurd h;
    published = λ some_slot. subst (λ y. Contains v.seen (Published a y 1)) (sym version) published_seen;
  }

  get_hit : (bytes : List ℕ) → [] ≡ bytes → HasHit r v get bytes
  get_hit bytes h = record { opened = opened; whole = sym h ∙ sym o.body_is; same = o.url_is }

  get_tells : Tells r v (put ∷ []) get
  get_tells = record {
    shown = λ b e h. shown_of b e h.at.url h.at.named_is h.at.anchor (one (epoch_at x 3) e h.shown);
    answers = tt;
    drew = λ n. absurd (n refl);
    began = λ y h. absurd h;
    finished = λ y h. ⊎_elim
        (λ (q : answer.Hit x [] ≡ answer.Stored y). absurd cc)
        (λ (q : answer.Hit x [] ≡ answer.Doomed y). absurd cc)
        h;
    gave_up = λ writes h. absurd (let z : false ≡ true = h in cc);
    full = λ h. absurd (let z : answer.Hit x [] ≡ answer.Full = h in cc);
    large = λ h. absurd (let z : answer.Hit x [] ≡ answer.Large = h in cc);
    small = λ y h. absurd (⊎_elim
        (λ (q : answer.Hit x [] ≡ answer.Stored y). let z : ⊥ = cc in z)
        (λ (q : answer.Hit x [] ≡ answer.Doomed y). let z : ⊥ = cc in z)
        h);
    long = λ h. absurd (let z : answer.Hit x [] ≡ answer.LongUrl = h in cc);
    short = λ u body h fits far. absurd h;
    busy = λ looked other h. absurd (let z : answer.Hit x [] ≡ answer.Busy looked other = h in cc);
    spent = λ n h. absurd (let z : answer.Hit x [] ≡ answer.Spent n = h in cc);
    offered = λ u body h. absurd h;
    cause = λ c h. absurd h;
    key = λ e key b h at. absurd h;
    opened = λ y h. opened;
    hit = λ t y bytes h. get_hit bytes (let z : answer.Hit x [] ≡ answer.Hit y bytes = h in cc);
    other = λ t h. absurd (let z : answer.Hit x [] ≡ answer.OtherUrl = h in cc);
    halted = λ bytes h. absurd (let z : answer.Hit x [] ≡ answer.Halted bytes = h in cc);
    part = λ e bytes h. absurd (let z : answer.Hit x [] ≡ answer.Part e bytes = h in cc);
    halted_version = λ bytes h. absurd (let z : answer.Hit x [] ≡ answer.Halted bytes = h in cc);
    part_version = λ e bytes h. absurd (let z : answer.Hit x [] ≡ answer.Part e bytes = h in cc);
    purged = λ e h. absurd h;
    added = λ n h. absurd (let z : answer.Hit x [] ≡ answer.Added n = h in cc);
    given = λ t h. get_given;
    tab = ((λ h. absurd (let z : answer.Hit x [] ≡ answer.Tab = h in cc)), (λ n. absurd (n tt)));
    behind_end = λ t h. absurd (get_no_more t h.request);
    behind_other = λ t h. absurd (get_no_more t h.request);
    behind_halted = λ t h. absurd (get_no_more t h.request);
  }

  pub has_account : Account r v both true
  has_account = record {
    opening = opening_seen;
    drawn = λ y. omega arith;
    draws = refl;
    deeds = deeds;
    lines = lines_more r v (put ∷ []) get get_tells (lines_more r v [] put put_tells (λ later earlier s e. absurd (no_line r later earlier s e)));
    left = λ e b z h. absurd (let n : None ≡ Some h.writes.first = h.writes.begun_is in cc);
  }
