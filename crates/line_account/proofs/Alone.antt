-- The examples of one worker.
use Rattle.std.proofs.Common.{◌≡◌, ◌⊎◌, inl, inr, ⊎_elim, ℕ, ◌-◌, ◌≤◌, zero, suc, List, [], ◌∷◌, ◌++◌, sym, refl, ap, ◌∙◌, subst, arith, Bool, true, false, cond, Contains}
use Rattle.std.specs.Prelude.{IsTrue, None, Some, count_by}
use Rattle.std.proofs.lemmas.List.Sums.{sum_by-cons}
use mathlib.Core.Option.{some, some-injective, some-ne-none}
use mathlib.Core.Logic.{dite}
use native.Mathlib.Decide.{ℕ_discrete}
use lib.ListN.{get_elem?}
use Rattle.store_key.specs.Anchor.{anchor_of}
use Rattle.store_key.specs.Key.{key_of}
use Rattle.lock_word.specs.Words.{doom_of, epoch_at, epoch_number, stage_of, version_limit, version_of, doom_number}
use Rattle.lock_word.specs.declared.cause.Cause.{Cause}
use Rattle.lock_word.specs.declared.cause.Cause.TheVariants.{Absent, Leaving}
use Rattle.lock_word.specs.declared.epoch.Epoch.{Epoch}
use Rattle.lock_word.proofs.Parts.{doom_of-epoch_number}
use Rattle.plain_model.specs.Serving.{bytes_of}
use Rattle.script_text.specs.declared.answer.Answer.{Answer}
use Rattle.script_text.specs.declared.answer.Answer.TheVariants as answer
use Rattle.script_text.specs.declared.body.Body.{Body}
use Rattle.script_text.specs.declared.request.Request.{Request}
use Rattle.script_text.specs.declared.request.Request.TheVariants.{Get, Put}
use Rattle.core_model.specs.declared.view.View.{View}
use Rattle.core_model.specs.Anchors.{opening_counter}
use Rattle.script_text.specs.Requests.{url_in}
use Rattle.line_account.specs.Lines.{LineOf, Offers, Served, gives_up, offers, writing, url_at, begins, ends}
use Rattle.line_account.specs.Deeds.{Began, Begins as BeginsVersion, Halts, PrintsBegunVersion, TellsBegun}
use Rattle.line_account.specs.Answers.{Run, TellsDoom}
use Rattle.line_account.specs.Accounts.{Shows, epochs_of, epoch_in}
use Rattle.line_account.specs.Courses.{Stage, lines_in, Course}
use Rattle.line_account.specs.Closing.{BegunIn, Closed, HaltedIn, LineIn, ShownIn, Worker, offered, offered_by}
use Rattle.line_account.specs.Printed.{HitIn, IsBodyAsPrinted, PrintsHit}
use Rattle.line_account.specs.Order.{NotBelow, counts_as, version_alone, FindsOrStores, HandsOver, printed}
use Rattle.line_account.specs.Parts.{IsCourseOf}
use Rattle.line_account.specs.Alone.{alone, next_version}
use Rattle.line_account.proofs.Gathered.{one_line, same_line}
use Rattle.line_account.proofs.Versions.{bounded, halted_by}
use Rattle.line_account.proofs.HitVersions.{hit_body_printed, told_at_once}
use Rattle.line_account.proofs.Printing.{given_back_halted, hit_of_new, spent_bounds}
use Rattle.line_account.proofs.Ordering.{doom_counts, not_below_earlier, stage_in, not_below_met}

abbrev one_of : Bool → ℕ
one_of b = cond b 1 0

module _ {X : Type 0} (r : Run X) (w : Worker) (c : Closed r (alone w)) where
  -- a line of the worker
  abbrev line_in : (later : List Served) (s : Served) (earlier : List Served) → w.served ≡ later ++ s ∷ earlier → (P : List Served → Served → Type 0) → P earlier s → LineIn (alone w) P
  line_in later s earlier e P h = record { j = 0; worker = w; at = refl; later = later; served = s; earlier = earlier; split = e; so = h }

  -- how many lines of two offer a body
  offered_one : (s : Served) → w.served ≡ s ∷ [] → offered (alone w) ≤ 1
  offered_one s e =
      let a = sum_by-cons offered_by w [] in
      let b : offered_by w ≡ count_by (λ (z : Served). offers z.asked.request) (s ∷ []) = ap (count_by (λ (z : Served). offers z.asked.request)) e in
      let d = sum_by-cons (λ (z : Served). one_of (offers z.asked.request)) s [] in
      let le = small (offers s.asked.request) in
      omega arith
    where
      small : (b : Bool) → one_of b ≤ 1
      small true = omega arith
      small false = omega arith

  offered_two : (s t : Served) → w.served ≡ s ∷ t ∷ [] → offers s.asked.request ≡ false → offered (alone w) ≤ 1
  offered_two s t e none =
      let a = sum_by-cons offered_by w [] in
      let b : offered_by w ≡ count_by (λ (z : Served). offers z.asked.request) (s ∷ t ∷ []) = ap (count_by (λ (z : Served). offers z.asked.request)) e in
      let d = sum_by-cons (λ (z : Served). one_of (offers z.asked.request)) s (t ∷ []) in
      let f = sum_by-cons (λ (z : Served). one_of (offers z.asked.request)) t [] in
      let le = small (offers t.asked.request) in
      let zero_ : one_of (offers s.asked.request) ≡ 0 = ap one_of none in
      omega arith
    where
      small : (b : Bool) → one_of b ≤ 1
      small true = omega arith
      small false = omega arith

  -- a put that printed STORED began the version
  stored_begins : (later : List Served) (s : Served) (earlier : List Served) (url : List ℕ) (body : Body) (x : ℕ) → w.served ≡ later ++ s ∷ earlier → s.asked.request ≡ Put url body → s.answer ≡ answer.Stored x
      → BeginsVersion r.setting.anchors s (anchor_of (key_of url) r.setting.anchors) x
  stored_begins later s earlier url body x e q a =
      let told = (c.accounts 0 w refl).lines later earlier s e in
      let as_put : (y : ℕ) → x ≡ y → Began s.asked.request s.answer y = λ y h. subst (λ (z : Request). Began z s.answer y) (sym q) (subst (λ (z : Answer). Began (Put url body) z y) (sym a) h) in
      let b = told.began x (as_put x refl) in
      let same : x ≡ b.version = subst (λ (z : Answer). Began (Put url body) z b.version) a (subst (λ (z : Request). Began z s.answer b.version) q b.began) in
      record {
        anchor = record { url = url; named_is = ap url_in q; anchor = refl };
        drew = b.drew ∙ ap Some (sym same);
        began = as_put x refl;
      }

  abbrev Begun : ℕ → ℕ → List Served → Served → Type 0
  Begun a x earlier s = BeginsVersion r.setting.anchors s a x

  pub lone_version : (s : Served) (url : List ℕ) (body : Body) (x : ℕ) → w.served ≡ s ∷ [] → s.asked.request ≡ Put url body → s.answer ≡ answer.Stored x → x ≡ next_version r
  lone_version s url body x e q a =
      let p : BegunIn r (alone w) (anchor_of (key_of url) r.setting.anchors) x = line_in [] s [] e (Begun (anchor_of (key_of url) r.setting.anchors) x) (stored_begins [] s [] url body x e q a) in
      let b = bounded r (alone w) c (anchor_of (key_of url) r.setting.anchors) x p in
      let more = b.0 in
      let most = b.1 in
      let one = offered_one s e in
      omega arith

  pub lone_spent : (s : Served) (n : ℕ) → w.served ≡ s ∷ [] → s.answer ≡ answer.Spent n → opening_counter r.setting ≡ version_limit → n ≡ version_limit
  lone_spent s n e a limit =
      let b = spent_bounds r (alone w) c n (line_in [] s [] e (λ earlier t. t.answer ≡ answer.Spent n) a) in
      let least = b.0 in
      let most = b.1 in
      let one = offered_one s e in
      omega arith

  -- the offer of a put is its body
  put_body : (q : Request) (url url2 : List ℕ) (body body2 : Body) → q ≡ Put url body → Offers q url2 body2 → body2 ≡ body
  put_body q url url2 body body2 e h = sym (subst (λ (z : Request). Offers z url2 body2) e h).1

  pub hit_is_stored : IsTrue r.tells → (start end : View X) (p g : Stage X) (url bytes : List ℕ) (body : Body) (x y : ℕ) → IsCourseOf r w start (g ∷ p ∷ []) end → p.served.asked.request ≡ Put url body → p.served.answer ≡ answer.Stored x
      → g.served.asked.request ≡ Get url → g.served.answer ≡ answer.Hit y bytes → (x ≡ next_version r) × (y ≡ next_version r) × (bytes ≡ bytes_of body)
  hit_is_stored tells start end p g url bytes body x y o pq pa gq ga =
      let a : ℕ = anchor_of (key_of url) r.setting.anchors in
      let e : w.served ≡ g.served ∷ p.served ∷ [] = sym o.lines in
      let put : BegunIn r (alone w) a x = line_in (g.served ∷ []) p.served [] e (Begun a x) (stored_begins (g.served ∷ []) p.served [] url body x e pq pa) in
      let b = bounded r (alone w) c a x put in
      let b0 = b.0 in
      let b1 = b.1 in
      let two = offered_two g.served p.served e (ap offers gq) in
      let order : NotBelow (epoch_at x 3) g.served.answer = not_below_earlier r start (g ∷ p ∷ []) o.last g p (p ∷ []) [] a (epoch_at x 3) o.course
      (record { in_ = record { later = []; split = refl }; at = record { url = url; named_is = at_get gq; anchor = refl } })
      (record { in_ = record { later = []; split = refl }; at = record { url = url; named_is = at_put pq; anchor = refl } })
      (counts_first pa) in
      let above : version_of (epoch_at x 3) ≤ y = order.versions y (ap version_alone ga) in
      let is : version_of (epoch_at x 3) ≡ x = omega arith in
      let hit : HitIn r (alone w) a y url bytes = line_in [] g.served (p.served ∷ []) e (λ earlier s. PrintsHit r.setting.anchors s a y url bytes) (record { request = gq; anchor = refl; printed = ga }) in
      let found = hit_of_new r (alone w) c tells a y url bytes hit (omega arith) in
      let d = bounded r (alone w) c a y found.begun in
      let d1 = d.1 in
      let same : x ≡ y = omega arith in
      let lines : found.begun.served ≡ p.served = same_line r (alone w) c (Begun a y) (Begun a x) found.begun put
      (one_line r (alone w) c (Begun a y) (Begun a x) found.begun put y found.begun.so.drew (put.so.drew ∙ ap Some same)) in
      (omega arith, omega arith, found.whole ∙ ap bytes_of (put_body found.begun.served.asked.request url url body found.body (ap (λ (z : Served). z.asked.request) lines ∙ pq) found.offers))
    where
      at_get : g.served.asked.request ≡ Get url → url_at (lines_in (p ∷ [])) g.served.asked.request ≡ Some url
      at_get q = ap (url_at (lines_in (p ∷ []))) q

      at_put : p.served.asked.request ≡ Put url body → url_at [] p.served.asked.request ≡ Some url
      at_put q = ap (url_at []) q

      counts_first : p.served.answer ≡ answer.Stored x → Contains (counts_as p.served.answer) (epoch_at x 3)
      counts_first h = subst (λ (z : Answer). Contains (counts_as z) (epoch_at x 3)) (sym h) (0, omega arith, refl)

  -- no line gave a writing up, and no tab writes
  halts_not : (s : Served) (url : List ℕ) (a x : ℕ) → w.served ≡ s ∷ [] → s.asked.request ≡ Get url → gives_up s.answer ≡ false → HaltedIn r (alone w) a x → ⊥
  halts_not s url a x is q m (inl h) = by_place h.j h.worker h.at (record { later = h.later; served = h.served; earlier = h.earlier; split = h.split; so = h.so })
    where
      in_one : (later earlier : List Served) (t : Served) → s ∷ [] ≡ later ++ t ∷ earlier → gives_up t.answer ≡ true → ⊥
      in_one [] earlier t k g = let same : s ≡ t = cc in let no : gives_up t.answer ≡ false = ap (λ (z : Served). gives_up z.answer) (sym same) ∙ m in let f : true ≡ false = sym g ∙ no in cc
      in_one (y ∷ []) earlier t k g = let f : [] ≡ t ∷ earlier = cc in cc
      in_one (y ∷ z ∷ later) earlier t k g = let f : [] ≡ z ∷ (later ++ t ∷ earlier) = cc in cc

      by_place : (j : ℕ) (u : Worker) → get_elem? (alone w) j ≡ some u → LineOf u.served (λ earlier t. Halts r.setting.anchors earlier t a x) → ⊥
      by_place zero u k l = let same : w ≡ u = some-injective w u k in in_one l.later l.earlier l.served (sym is ∙ ap Worker.served same ∙ l.split) l.so.gave_up
      by_place (suc j) u k l = absurd (some-ne-none u (sym k))
  halts_not s url a x is q m (inr h) = by_place h.j h.worker h.at h.writing.tab h.writing.writes.first h.writing.writes.begun_is
    where
      none : (t : ℕ) → writing t (s ∷ []) ≡ None
      none t = ap (λ (z : Request). cond (begins t z s.answer) (Some s) (cond (ends t z s.answer) None None)) q

      by_place : (j : ℕ) (u : Worker) → get_elem? (alone w) j ≡ some u → (t : ℕ) (b : Served) → writing t u.served ≡ Some b → ⊥
      by_place zero u k t b l = let same : w ≡ u = some-injective w u k in let f : None ≡ Some b = sym (none t) ∙ ap (writing t) (sym is ∙ ap Worker.served same) ∙ l in cc
      by_place (suc j) u k t b l = absurd (some-ne-none u (sym k))

  pub none_halted : (s : Served) (url : List ℕ) (e : Epoch) → w.served ≡ s ∷ [] → s.asked.request ≡ Get url → s.answer ≡ answer.Miss (Leaving e) → stage_of (epoch_number e) ≡ 4 → ⊥
  none_halted s url e is q m four =
      let a : ℕ = anchor_of (key_of url) r.setting.anchors in
      let shown : ShownIn r (alone w) a (epoch_number e) = line_in [] s [] is (λ earlier t. Shows r.setting.anchors earlier t a (epoch_number e)) (record {
        at = record { url = url; named_is = ap (url_at []) q; anchor = refl };
        shown = subst (λ (z : Answer). Contains (epochs_of s.opened s.looked z) (epoch_number e)) (sym m) (0, omega arith, refl);
      }) in
      halts_not s url a (version_of (epoch_number e)) is q (ap gives_up m) (halted_by r (alone w) c a (epoch_number e) shown four)

  not_false : (d : Bool) → (d ≡ false → ⊥) → d ≡ true
  not_false true h = refl
  not_false false h = absurd (h refl)

  pub none_gone : IsTrue r.fits → (s : Served) (url : List ℕ) (e : Epoch) → w.served ≡ s ∷ [] → s.asked.request ≡ Get url → s.answer ≡ answer.Miss (Absent e) → stage_of (epoch_number e) ≡ 6 → e.doom ≡ true
  none_gone fit s url e is q m six =
      let a : ℕ = anchor_of (key_of url) r.setting.anchors in
      let shown : ShownIn r (alone w) a (epoch_number e) = line_in [] s [] is (λ earlier t. Shows r.setting.anchors earlier t a (epoch_number e)) (record {
        at = record { url = url; named_is = ap (url_at []) q; anchor = refl };
        shown = subst (λ (z : Answer). Contains (epochs_of s.opened s.looked z) (epoch_number e)) (sym m) (0, omega arith, refl);
      }) in
      not_false e.doom (λ n. halts_not s url a (version_of (epoch_number e)) is q (ap gives_up m)
      (given_back_halted r (alone w) c fit a (epoch_number e) shown (doom_of-epoch_number e ∙ ap doom_number n) (omega arith)))

  -- Behind a put that was given up.

  pub given_up_not_hit : IsTrue r.tells → (p g : Served) (url bytes : List ℕ) (body : Body) (y : ℕ) → w.served ≡ g ∷ p ∷ [] → p.asked.request ≡ Put url body → gives_up p.answer ≡ true
      → g.asked.request ≡ Get url → g.answer ≡ answer.Hit y bytes → y ≤ opening_counter r.setting
  given_up_not_hit tells p g url bytes body y e pq pa gq ga = dite (ℕ_discrete (y - opening_counter r.setting) 0)
      (λ z. omega arith)
      (λ z. absurd (none (hit_body_printed r (alone w) c tells a y url bytes
      (line_in [] g (p ∷ []) e (λ earlier s. PrintsHit r.setting.anchors s a y url bytes) (record { request = gq; anchor = refl; printed = ga })) (omega arith))))
    where
      a : ℕ
      a = anchor_of (key_of url) r.setting.anchors

      in_two : (later earlier : List Served) (t : Served) → g ∷ p ∷ [] ≡ later ++ t ∷ earlier → (g ≡ t) ⊎ (p ≡ t)
      in_two [] earlier t k = inl cc
      in_two (u ∷ []) earlier t k = inr cc
      in_two (u ∷ v ∷ []) earlier t k = let f : [] ≡ t ∷ earlier = cc in cc
      in_two (u ∷ v ∷ z ∷ later) earlier t k = let f : [] ≡ z ∷ (later ++ t ∷ earlier) = cc in cc

      not_told : (t : Served) → (g ≡ t) ⊎ (p ≡ t) → TellsBegun t.asked.request t.answer y → ⊥
      not_told t (inl same) h = subst (λ (q : Request). TellsBegun q t.answer y) (ap (λ (z : Served). z.asked.request) (sym same) ∙ gq) h
      not_told t (inr same) h = ⊎_elim (λ (q : p.answer ≡ answer.Stored y). not_given (ap gives_up q)) (λ (q : p.answer ≡ answer.Doomed y). not_given (ap gives_up q))
          (told_at_once (Put url body) p.answer y tt (subst (λ (q : Request). TellsBegun q p.answer y) pq (subst (λ (z : Served). TellsBegun z.asked.request z.answer y) (sym same) h)))
        where
          not_given : gives_up p.answer ≡ false → ⊥
          not_given q = let f : true ≡ false = sym pa ∙ q in cc

      by_place : (j : ℕ) (u : Worker) → get_elem? (alone w) j ≡ some u → LineOf u.served (λ earlier t. PrintsBegunVersion r.setting.anchors t a y) → ⊥
      by_place zero u k l = let same : w ≡ u = some-injective w u k in not_told l.served (in_two l.later l.earlier l.served (sym e ∙ ap Worker.served same ∙ l.split)) l.so.told
      by_place (suc j) u k l = absurd (some-ne-none u (sym k))

      none : IsBodyAsPrinted r (alone w) a y url bytes → ⊥
      none b = by_place b.begun.j b.begun.worker b.begun.at (record { later = b.begun.later; served = b.begun.served; earlier = b.begun.earlier; split = b.begun.split; so = b.begun.so })

module _ {X : Type 0} (r : Run X) (w : Worker) where
  pub no_hit : (start end : View X) (p g : Stage X) (url bytes : List ℕ) (e : Epoch) (y : ℕ) → IsCourseOf r w start (g ∷ p ∷ []) end → url_at [] p.served.asked.request ≡ Some url → TellsDoom p.served.answer e
      → g.served.asked.request ≡ Get url → g.served.answer ≡ answer.Hit y bytes → version_of (epoch_number e) ≡ y → ⊥
  no_hit start end p g url bytes e y o named told gq ga same =
      let a : ℕ = anchor_of (key_of url) r.setting.anchors in
      let order : NotBelow (epoch_number e) g.served.answer = not_below_earlier r start (g ∷ p ∷ []) o.last g p (p ∷ []) [] a (epoch_number e) o.course
      (record { in_ = record { later = []; split = refl }; at = record { url = url; named_is = ap (url_at (lines_in (p ∷ []))) gq; anchor = refl } })
      (record { in_ = record { later = []; split = refl }; at = record { url = url; named_is = named; anchor = refl } })
      (doom_counts p.served.answer e told) in
      let doom : e.doom ≡ true = ((stage_in r start (g ∷ p ∷ []) (g ∷ []) p [] o.last refl o.course).adds.tells.purged e told).doomed in
      let undoomed : doom_of (epoch_number e) ≡ 0 = order.undoomed y (subst (λ (z : Answer). FindsOrStores z y) (sym ga) refl) same in
      let doomed : doom_of (epoch_number e) ≡ 1 = doom_of-epoch_number e ∙ ap doom_number doom in
      omega arith

module _ {X : Type 0} (r : Run X) where
  pub no_old_miss : (start end other last : View X) (p m n g : Stage X) (url : List ℕ) (body : Body) (x : ℕ) (cause : Cause) → Course r start (g ∷ n ∷ []) end → Course r other (m ∷ p ∷ []) last
      → p.served.asked.request ≡ Put url body → p.served.answer ≡ answer.Stored x → HandsOver m n → g.served.asked.request ≡ Get url → g.served.answer ≡ answer.Miss cause
      → epoch_at x 3 ≤ epoch_number (epoch_in cause)
  no_old_miss start end other last p m n g url body x cause c o pq pa hands gq ga =
      let a : ℕ = anchor_of (key_of url) r.setting.anchors in
      let order : NotBelow (epoch_at x 3) g.served.answer = not_below_met r start other (g ∷ n ∷ []) (m ∷ p ∷ []) end last g n m p (n ∷ []) [] (p ∷ []) [] a (epoch_at x 3) c o
      (record { in_ = record { later = []; split = refl }; at = record { url = url; named_is = ap (url_at (lines_in (n ∷ []))) gq; anchor = refl } })
      (record { later = []; split = refl })
      hands
      (record { later = []; split = refl })
      (record { in_ = record { later = []; split = refl }; at = record { url = url; named_is = ap (url_at []) pq; anchor = refl } })
      (subst (λ (z : Answer). Contains (counts_as z) (epoch_at x 3)) (sym pa) (0, omega arith, refl)) in
      order.epochs (epoch_number (epoch_in cause)) (subst (λ (z : Answer). Contains (printed z) (epoch_number (epoch_in cause))) (sym ga) (0, omega arith, refl))
