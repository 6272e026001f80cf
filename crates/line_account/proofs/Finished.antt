-- What was given to its end was finished by a line of its writing.
use Rattle.std.proofs.Common.{◌≡◌, ◌⊎◌, inl, inr, ⊎_elim, ℕ, ◌<◌, List, [], ◌∷◌, ◌++◌, sym, refl, ap, ◌∙◌, subst, append_assoc, Bool, true, false, cond, eqb-true, eq-eqb, ◌==◌, ◌&&◌, ◌||◌}
use Rattle.std.specs.Prelude.{IsTrue, None, Some}
use Rattle.script_text.specs.declared.answer.Answer.{Answer}
use Rattle.script_text.specs.declared.answer.Answer.TheVariants as answer
use Rattle.script_text.specs.declared.request.Request.{Request}
use Rattle.script_text.specs.declared.request.Request.TheVariants.{Add, Begin, DropTab, End, Put, Save}
use Rattle.core_model.specs.declared.view.View.{View}
use Rattle.core_model.specs.Anchors.{opening_counter}
use Rattle.line_account.specs.Lines.{Fits, LineOf, Served, Writes, begins, begun_of, ends, gives_up, is_begun, is_dropped, is_finished, is_refused, reading, writing}
use Rattle.line_account.specs.Deeds.{BeganOnTab, TellsBegun, TellsEnded}
use Rattle.line_account.specs.Accounts.{Tells}
use Rattle.line_account.specs.Answers.{Run}
use Rattle.line_account.specs.Closing.{BegunIn, Closed, LineIn, Worker}
use Rattle.line_account.specs.Printed.{Ends, FinishedIn, PrintsFinished, ReadsWhole}
use Rattle.line_account.proofs.HitVersions.{both_none, finished_so, whole_begun, whole_kept, whole_printed}

-- the line ends what the tab writes that this line began
pub record EndsTab (tab : ℕ) (first : Served) (earlier : List Served) (s : Served) : Type 0 where
  pub writes : writing tab earlier ≡ Some first
  pub ended : ends tab s.asked.request s.answer ≡ true

-- A tab that a line began to write on still does so behind later lines, or one of these ended that.
module _ (tab : ℕ) (t : Served) (earlier : List Served) (began : begins tab t.asked.request t.answer ≡ true) where
  abbrev Goes : List Served → Type 0
  Goes later = (writing tab (later ++ t ∷ earlier) ≡ Some t) ⊎ LineOf (later ++ t ∷ earlier) (EndsTab tab t)

  one_more : (s : Served) (later : List Served) → (begins tab s.asked.request s.answer ≡ true → writing tab (later ++ t ∷ earlier) ≡ None) → (b e : Bool) → begins tab s.asked.request s.answer ≡ b → ends tab s.asked.request s.answer ≡ e
      → writing tab (later ++ t ∷ earlier) ≡ Some t → Goes (s ∷ later)
  one_more s later fits true e is_b is_e w = absurd (let z : None ≡ Some t = sym (fits is_b) ∙ w in cc)
  one_more s later fits false true is_b is_e w = inr (record { later = []; served = s; earlier = later ++ t ∷ earlier; split = refl; so = record { writes = w; ended = is_e } })
  one_more s later fits false false is_b is_e w = inl ((λ i. cond (is_b i) (Some s) (cond (is_e i) None (writing tab (later ++ t ∷ earlier)))) ∙ w)

  goes : (later : List Served) → ((front back : List Served) (s : Served) → later ≡ front ++ s ∷ back → begins tab s.asked.request s.answer ≡ true → writing tab (back ++ t ∷ earlier) ≡ None) → Goes later
  goes [] fits = inl (λ i. cond (began i) (Some t) (cond (ends tab t.asked.request t.answer) None (writing tab earlier)))
  goes (s ∷ later) fits = ⊎_elim
      (λ (w : writing tab (later ++ t ∷ earlier) ≡ Some t). one_more s later (fits [] later s refl) (begins tab s.asked.request s.answer) (ends tab s.asked.request s.answer) refl refl w)
      (λ (l : LineOf (later ++ t ∷ earlier) (EndsTab tab t)). inr (record { later = s ∷ l.later; served = l.served; earlier = l.earlier; split = ap (λ (z : List Served). s ∷ z) l.split; so = l.so }))
      (goes later (λ front back u is. fits (s ∷ front) back u (ap (λ (z : List Served). s ∷ z) is)))

-- What begins and ends a writing on a tab.

both_true : (b c : Bool) → (b && c) ≡ true → (b ≡ true) × (c ≡ true)
both_true true c e = (refl, e)
both_true false c e = absurd (let z : false ≡ true = e in cc)

either_true : (b c : Bool) → (b || c) ≡ true → (b ≡ true) ⊎ (c ≡ true)
either_true true c e = inl refl
either_true false c e = inr e

refused_up : (a : Answer) → is_refused a ≡ true → gives_up a ≡ true
refused_up a e = ap (λ (b : Bool). b || is_dropped a) e

finished_as : (a : Answer) → is_finished a ≡ true → (x : ℕ) × ((a ≡ answer.Stored x) ⊎ (a ≡ answer.Doomed x))
finished_as (answer.Stored version) e = (version, inl refl)
finished_as (answer.Doomed version) e = (version, inr refl)
finished_as _ e = absurd (let z : false ≡ true = e in cc)

dropped_up : (a : Answer) → is_dropped a ≡ true → gives_up a ≡ true
dropped_up answer.Dropped e = refl
dropped_up _ e = absurd (let z : false ≡ true = e in cc)

-- the line writes what the tab does, and gave it up or finished it
record EndsSo (tab : ℕ) (earlier : List Served) (s : Served) (q : Request) : Type 0 where
  on : begun_of earlier s q ≡ writing tab earlier
  so : (gives_up s.answer ≡ true) ⊎ (is_finished s.answer ≡ true)

ends_so : (tab : ℕ) (earlier : List Served) (s : Served) (q : Request) → ends tab q s.answer ≡ true → EndsSo tab earlier s q
ends_so tab earlier s (Add u count) e = let h = both_true (u == tab) (is_refused s.answer) e in
    record { on = ap (λ (v : ℕ). writing v earlier) (eqb-true u tab h.0); so = inl (refused_up s.answer h.1) }
ends_so tab earlier s (End u) e = let h = both_true (u == tab) (is_refused s.answer || is_finished s.answer) e in
    record {
      on = ap (λ (v : ℕ). writing v earlier) (eqb-true u tab h.0);
      so = ⊎_elim (λ (z : is_refused s.answer ≡ true). inl (refused_up s.answer z)) (λ (z : is_finished s.answer ≡ true). inr z) (either_true (is_refused s.answer) (is_finished s.answer) h.1);
    }
ends_so tab earlier s (DropTab u) e = let h = both_true (u == tab) (is_dropped s.answer) e in
    record { on = ap (λ (v : ℕ). writing v earlier) (eqb-true u tab h.0); so = inl (dropped_up s.answer h.1) }
ends_so tab earlier s _ e = absurd (let z : false ≡ true = e in cc)

one_some : (s t : Served) → Some s ≡ Some t → s ≡ t
one_some s t e = cc

some_number : (m n : ℕ) → Some m ≡ Some n → m ≡ n
some_number m n e = cc

-- A line that begins on a tab found that nothing was written there.
module _ {X : Type 0} (r : Run X) (v : View X) (earlier : List Served) (s : Served) (told : Tells r v earlier s) where
  free_of : (tab : ℕ) (q : Request) → (((Fits earlier q → ⊥) → s.answer ≡ answer.Tab)) → begins tab q s.answer ≡ true → writing tab earlier ≡ None
  free_of tab (Begin u url body) unfit e =
      let h = both_true (u == tab) (is_begun s.answer) e in
      let fits = both_none (writing u earlier) (reading u earlier) (λ n. let z : false ≡ true = sym (ap is_begun (unfit n)) ∙ h.1 in cc) in
      ap (λ (w : ℕ). writing w earlier) (sym (eqb-true u tab h.0)) ∙ fits.0
  free_of tab _ unfit e = absurd (let z : false ≡ true = e in cc)

  free_before : (tab : ℕ) → begins tab s.asked.request s.answer ≡ true → writing tab earlier ≡ None
  free_before tab e = free_of tab s.asked.request told.tab.1 e

-- what began a version on a tab began to write there
record BeginsOn (t : Served) : Type 0 where
  tab : ℕ
  begins_there : begins tab t.asked.request t.answer ≡ true

begins_on : (a : Answer) (x : ℕ) (tab : ℕ) → BeganOnTab a x → ((tab == tab) && is_begun a) ≡ true
begins_on (answer.Begun version) x tab h = ap (λ (b : Bool). b && true) (eq-eqb tab tab refl)
begins_on _ x tab h = absurd h

-- it did so, or it printed that it ended it too
begins_or_ended : (t : Served) (q : Request) (x : ℕ) → q ≡ t.asked.request → TellsBegun q t.answer x → BeginsOn t ⊎ ((begun_of [] t q ≡ Some t) × TellsEnded t.answer x)
begins_or_ended t (Put url body) x is h = inr (refl, h)
begins_or_ended t (Save url body) x is h = inr (refl, h)
begins_or_ended t (Begin tab url body) x is h = inl (record { tab = tab; begins_there = subst (λ (q : Request). begins tab q t.answer ≡ true) is (begins_on t.answer x tab h) })
begins_or_ended t _ x is h = absurd h

module _ {X : Type 0} (r : Run X) (crew : List Worker) (c : Closed r crew) (y : IsTrue r.tells) (a x : ℕ) (p : LineIn crew (λ earlier s. ReadsWhole r.setting.anchors earlier s a x)) (high : opening_counter r.setting < x) where
  abbrev b : BegunIn r crew a x
  b = whole_begun r crew c y a x p high

  abbrev t : Served
  t = b.served

  writes_first : (earlier : List Served) (s : Served) → begun_of earlier s s.asked.request ≡ Some t → Writes r.setting.anchors earlier s a x
  writes_first earlier s is = record { first = t; begun_is = is; drew = b.so.drew; anchor = b.so.anchor }

  -- a line that finished the writing printed the version
  finishes : (later earlier : List Served) (s : Served) → b.worker.served ≡ later ++ s ∷ earlier → begun_of earlier s s.asked.request ≡ Some t → (z : ℕ) → (s.answer ≡ answer.Stored z) ⊎ (s.answer ≡ answer.Doomed z) → PrintsFinished s x
  finishes later earlier s split is z printed =
      let f = ((c.accounts b.j b.worker b.at).lines later earlier s split).finished z printed in
      let first : f.grows.writes.first ≡ t = one_some f.grows.writes.first t (sym f.grows.writes.begun_is ∙ is) in
      let same : z ≡ x = some_number z x (sym f.grows.writes.drew ∙ ap Served.drew first ∙ b.so.drew) in
      subst (λ (n : ℕ). PrintsFinished s n) same printed

  in_worker : (later earlier : List Served) (s : Served) → b.worker.served ≡ later ++ s ∷ earlier → Ends r.setting.anchors earlier s a x → FinishedIn r crew a x
  in_worker later earlier s split so = record { j = b.j; worker = b.worker; at = b.at; later = later; served = s; earlier = earlier; split = split; so = so }

  module _ (on : BeginsOn t) where
    later_fits : (front back : List Served) (s : Served) → b.later ≡ front ++ s ∷ back → begins on.tab s.asked.request s.answer ≡ true → writing on.tab (back ++ t ∷ b.earlier) ≡ None
    later_fits front back s is begun =
        let split = b.split ∙ ap (λ (z : List Served). z ++ t ∷ b.earlier) is ∙ append_assoc front (s ∷ back) (t ∷ b.earlier) in
        free_before r (c.view_at b.j) (back ++ t ∷ b.earlier) s ((c.accounts b.j b.worker b.at).lines front (back ++ t ∷ b.earlier) s split) on.tab begun

    by_end : (l : LineOf (b.later ++ t ∷ b.earlier) (EndsTab on.tab t)) → FinishedIn r crew a x
    by_end l =
        let split = b.split ∙ l.split in
        let e = ends_so on.tab l.earlier l.served l.served.asked.request l.so.ended in
        let is : begun_of l.earlier l.served l.served.asked.request ≡ Some t = e.on ∙ l.so.writes in
        ⊎_elim
        (λ (up : gives_up l.served.answer ≡ true). absurd (whole_kept r crew c y a x p high (inl (record {
          j = b.j;
          worker = b.worker;
          at = b.at;
          later = l.later;
          served = l.served;
          earlier = l.earlier;
          split = split;
          so = record { writes = writes_first l.earlier l.served is; gave_up = up };
        }))))
        (λ (done : is_finished l.served.answer ≡ true).
        let f = finished_as l.served.answer done in
        in_worker l.later l.earlier l.served split (record { writes = writes_first l.earlier l.served is; printed = finishes l.later l.earlier l.served split is f.0 f.1 }))
        e.so

    still : writing on.tab (b.later ++ t ∷ b.earlier) ≡ Some t → FinishedIn r crew a x
    still w = absurd (whole_kept r crew c y a x p high (inr (record {
      j = b.j;
      worker = b.worker;
      at = b.at;
      writing = record {
        tab = on.tab;
        writes = record { first = t; begun_is = ap (writing on.tab) b.split ∙ w; drew = b.so.drew; anchor = b.so.anchor };
      };
    })))

    on_tab : FinishedIn r crew a x
    on_tab = ⊎_elim still by_end (goes on.tab t b.earlier on.begins_there b.later later_fits)

  pub whole_finished : FinishedIn r crew a x
  whole_finished = ⊎_elim
      (λ (on : BeginsOn t). on_tab on)
      (λ (at_once : (begun_of [] t t.asked.request ≡ Some t) × TellsEnded t.answer x).
      in_worker b.later b.earlier t b.split
      (record { writes = writes_first b.earlier t (own b.earlier t.asked.request at_once.0); printed = finished_so t.answer x at_once.1 }))
      (begins_or_ended t t.asked.request x refl (whole_printed r crew c y a x p b).told)
    where
      own : (earlier : List Served) (q : Request) → begun_of [] t q ≡ Some t → begun_of earlier t q ≡ Some t
      own earlier (Put url body) h = refl
      own earlier (Save url body) h = refl
      own earlier (Begin tab url body) h = refl
      own earlier _ h = absurd (let z : None ≡ Some t = h in cc)
