-- Lines in an order that no run explains.
use Rattle.std.proofs.Common.{Bool, Contains, List, [], ap, arith, cond, false, refl, subst, sym, true, ◌<◌, ◌∙◌, ◌∷◌, ◌≡◌, ◌≤◌, ◌||◌, ℕ}
use Rattle.std.specs.Prelude.{None, Some, ◌≢◌}
use mathlib.Core.Option.{some}
use lib.ListN.{get_elem?}
use Rattle.lock_word.specs.Words.{doom_number, doom_of, epoch_at, epoch_number, version_of}
use Rattle.lock_word.proofs.Parts.{doom_of-epoch_number, stage_of-epoch_number, version_of-epoch_number}
use Rattle.lock_word.specs.declared.cause.Cause.TheVariants.{Absent, Leaving}
use Rattle.lock_word.specs.declared.epoch.Epoch.{Epoch}
use Rattle.lock_word.specs.declared.stage.Stage.TheVariants as stage
use Rattle.script_text.specs.declared.answer.Answer.{Answer}
use Rattle.script_text.specs.declared.answer.Answer.TheVariants as answer
use Rattle.script_text.specs.declared.body.Body.{Body}
use Rattle.script_text.specs.declared.line.Line.{Line}
use Rattle.script_text.specs.declared.request.Request.{Request}
use Rattle.script_text.specs.declared.request.Request.TheVariants.{Await, Get, Mark, More, OpenTab, Put}
use Rattle.script_text.specs.Requests.{url_in}
use Rattle.line_account.specs.Alone.{alone, home}
use Rattle.line_account.specs.Answers.{Run, TellsDoom}
use Rattle.line_account.specs.Closing.{LineIn, Worker}
use Rattle.line_account.specs.Crews.{KnewOf}
use Rattle.line_account.specs.Crews.KnewOf.{own, told}
use Rattle.line_account.specs.Deeds.{PrintsBegunVersion, TellsBegun}
use Rattle.line_account.specs.Lines.{Served, closes, opens, reading, url_at}
use Rattle.line_account.specs.Order.{NotBelow, counts_as, epochs_told, printed}
use Rattle.line_account.specs.Stopping.{ReadsBehind, answered_more, answers_more, is_end, is_halted, is_other_url}
use Rattle.line_account.specs.Rules.{KeepsRules}
use Rattle.line_account.proofs.Ordering.{doom_counts, doom_finds}

module _ {X : Type 0} (r : Run X) (script : List Line) (u v w : Worker) (rules : KeepsRules r script (u ∷ v ∷ w ∷ [])) (p a b c d g : Served) (us : u.served ≡ a ∷ p ∷ []) (vs : v.served ≡ c ∷ b ∷ []) (ws : w.served ≡ g ∷ d ∷ [])
    (m n : ℕ) (aq : a.asked.request ≡ Mark m) (bq : b.asked.request ≡ Await m) (ba : b.answer ≡ answer.Met) (cq : c.asked.request ≡ Mark n) (dq : d.asked.request ≡ Await n) (da : d.answer ≡ answer.Met) where
  -- the third worker knew of the line by the second one
  told_on : KnewOf (u ∷ v ∷ w ∷ []) (d ∷ []) p []
  told_on = told
      (record { mark = n; met = d; between = []; awaits = record { later = []; split = refl }; asked = dq; meets = da; j = 1; worker = v; at = refl; setter = c; sets = record { later = []; split = vs }; set = cq })
      (told
      (record { mark = m; met = b; between = []; awaits = record { later = []; split = refl }; asked = bq; meets = ba; j = 0; worker = u; at = refl; setter = a; sets = record { later = []; split = us }; set = aq })
      (own (record { later = []; split = refl })))

  pub never_forgotten : (url : List ℕ) (body : Body) (x : ℕ) → p.asked.request ≡ Put url body → p.answer ≡ answer.Stored x → g.asked.request ≡ Get url
      → g.answer ≡ answer.Miss (Absent (record { version = 0; stage = stage.Empty; doom = false })) → ⊥
  never_forgotten url body x pq pa gq ga =
      let none : Epoch = record { version = 0; stage = stage.Empty; doom = false } in
      let order = rules.order.known (home r url) (epoch_at x 3) p []
      (record { j = 2; worker = w; at = refl; later = []; served = g; earlier = d ∷ []; split = ws; so = record { url = url; named_is = ap (url_at (d ∷ [])) gq; anchor = refl } })
      told_on
      (record { at = record { url = url; named_is = ap (url_at []) pq; anchor = refl }; counts = subst (λ (z : Answer). Contains (counts_as z) (epoch_at x 3)) (sym pa) (0, omega arith, refl) }) in
      let below : epoch_at x 3 ≤ epoch_number none = order.epochs (epoch_number none) (subst (λ (z : Answer). Contains (printed z) (epoch_number none)) (sym ga) (0, omega arith, refl)) in
      omega arith

module _ {X : Type 0} (r : Run X) (script : List Line) (w : Worker) (rules : KeepsRules r script (alone w)) where
  -- what the later line of two prints is not below what the earlier one counts as
  in_order : (s t : Served) (url : List ℕ) (e : ℕ) → w.served ≡ t ∷ s ∷ [] → url_at [] s.asked.request ≡ Some url → url_at (s ∷ []) t.asked.request ≡ Some url → Contains (counts_as s.answer) e → NotBelow e t.answer
  in_order s t url e is first second counts = rules.order.known (home r url) e s []
      (record { j = 0; worker = w; at = refl; later = []; served = t; earlier = s ∷ []; split = is; so = record { url = url; named_is = second; anchor = refl } })
      (own (record { later = []; split = refl }))
      (record { at = record { url = url; named_is = first; anchor = refl }; counts = counts })

  -- what a line told doomed no later line of the URL tells so again
  pub never_twice : (p s : Served) (url : List ℕ) (e : Epoch) → w.served ≡ s ∷ p ∷ [] → url_at [] p.asked.request ≡ Some url → url_at (p ∷ []) s.asked.request ≡ Some url → TellsDoom p.answer e → TellsDoom s.answer e → e.doom ≡ true → ⊥
  never_twice p s url e is first second before again doom =
      let n : ℕ = epoch_number e in
      let order = in_order p s url n is first second (doom_counts p.answer e before) in
      let undoomed : doom_of n ≡ 0 = order.undoomed (version_of n) (doom_finds s.answer e again) refl in
      let doomed : doom_of n ≡ 1 = doom_of-epoch_number e ∙ ap doom_number doom in
      omega arith

  pub never_falls : (p g : Served) (url : List ℕ) (body : Body) (x : ℕ) → w.served ≡ g ∷ p ∷ [] → p.asked.request ≡ Put url body → p.answer ≡ answer.Stored x → g.asked.request ≡ Get url
      → g.answer ≡ answer.Miss (Leaving (record { version = x; stage = stage.Appending; doom = true })) → ⊥
  never_falls p g url body x is pq pa gq ga =
      let e : Epoch = record { version = x; stage = stage.Appending; doom = true } in
      let n : ℕ = epoch_number e in
      let order = in_order p g url (epoch_at x 3) is (ap (url_at []) pq) (ap (url_at (p ∷ [])) gq) (subst (λ (z : Answer). Contains (counts_as z) (epoch_at x 3)) (sym pa) (0, omega arith, refl)) in
      let version = version_of-epoch_number e in
      let at = stage_of-epoch_number e in
      let up = order.stages n (subst (λ (z : Answer). Contains (epochs_told z) n) (sym ga) (0, omega arith, refl)) (omega arith) in
      omega arith

  -- A line on a tab that was answered so, and one behind it.
  module _ (so : Answer → Bool) (o e m : Served) (url : List ℕ) (x : ℕ) (is : w.served ≡ m ∷ e ∷ o ∷ []) (oq : o.asked.request ≡ OpenTab 0 url) (oa : o.answer ≡ answer.Opened x)
      (eq : e.asked.request ≡ More 0) (ea : so e.answer ≡ true) (mq : m.asked.request ≡ More 0) where
    opened : opens 0 o.asked.request o.answer ≡ true
    opened = ap (λ (q : Request). opens 0 q o.answer) oq ∙ ap (opens 0 (OpenTab 0 url)) oa

    reading_first : reading 0 (o ∷ []) ≡ Some o
    reading_first = λ i. cond (opened i) (Some o) (cond (closes 0 o.asked.request o.answer) None None)

    reading_still : reading 0 (e ∷ o ∷ []) ≡ Some o
    reading_still = (λ i. cond (opens 0 (eq i) e.answer) (Some e) (cond (closes 0 (eq i) e.answer) None (reading 0 (o ∷ [])))) ∙ reading_first

    answered : answered_more so 0 (e ∷ o ∷ []) ≡ true
    answered = (λ i. cond (opens 0 (eq i) e.answer) false (answers_more so 0 (eq i) e.answer || answered_more so 0 (o ∷ []))) ∙ (λ i. ea i || answered_more so 0 (o ∷ []))

    still_reads : reading 0 (e ∷ o ∷ []) ≢ None
    still_reads none = let z : None ≡ Some o = sym none ∙ reading_still in cc

    abbrev behind_so : ReadsBehind so (e ∷ o ∷ []) m 0
    behind_so = record { request = mq; reads = still_reads; behind = answered }

    pub behind : LineIn (alone w) (λ earlier s. ReadsBehind so earlier s 0)
    behind = record { j = 0; worker = w; at = refl; later = []; served = m; earlier = e ∷ o ∷ []; split = is; so = behind_so }

  -- it comes to nothing else
  module _ (o e m : Served) (url : List ℕ) (x : ℕ) (is : w.served ≡ m ∷ e ∷ o ∷ []) (oq : o.asked.request ≡ OpenTab 0 url) (oa : o.answer ≡ answer.Opened x)
      (eq : e.asked.request ≡ More 0) (mq : m.asked.request ≡ More 0) where
    pub still_ended : (bytes : List ℕ) → e.answer ≡ answer.End bytes → m.answer ≡ answer.End []
    unfolding behind
    still_ended bytes ea = rules.tabs.behind_end 0 (behind is_end o e m url x is oq oa eq (ap is_end ea) mq)

    pub still_other : e.answer ≡ answer.OtherUrl → m.answer ≡ answer.OtherUrl
    unfolding behind
    still_other ea = rules.tabs.behind_other 0 (behind is_other_url o e m url x is oq oa eq (ap is_other_url ea) mq)

    pub still_halted : (bytes : List ℕ) → e.answer ≡ answer.Halted bytes → m.answer ≡ answer.Halted []
    unfolding behind
    still_halted bytes ea = rules.tabs.behind_halted 0 (behind is_halted o e m url x is oq oa eq (ap is_halted ea) mq)

-- A `put` that printed STORED, and one behind it of which the worker knew.
module _ {X : Type 0} (r : Run X) (script : List Line) (crew : List Worker) (rules : KeepsRules r script crew) (p q : Served) (url other : List ℕ) (body next : Body) (x y : ℕ)
    (pq : p.asked.request ≡ Put url body) (pa : p.answer ≡ answer.Stored x) (qq : q.asked.request ≡ Put other next) (qa : q.answer ≡ answer.Stored y) where
  -- it began its version
  told_so : PrintsBegunVersion r.setting.anchors q (home r other) y
  told_so = record {
    anchor = record { url = other; named_is = ap url_in qq; anchor = refl };
    told = subst (λ (z : Request). TellsBegun z q.answer y) (sym qq) (subst (λ (z : Answer). TellsBegun (Put other next) z y) (sym qa) refl);
  }

  -- so its version is later
  pub put_later : (j : ℕ) (w : Worker) (at : get_elem? crew j ≡ some w) (earlier : List Served) → w.served ≡ q ∷ earlier → KnewOf crew earlier p [] → x < y
  put_later j w at earlier is knows =
      let began = rules.versions.told (home r other) y (record { j = j; worker = w; at = at; later = []; served = q; earlier = earlier; split = is; so = told_so }) in
      let later = rules.order.begun (home r other) (home r url) y (epoch_at x 3) p []
      (record { j = j; worker = w; at = at; later = []; served = q; earlier = earlier; split = is; so = began })
      knows
      (record { at = record { url = url; named_is = ap (url_at []) pq; anchor = refl }; counts = subst (λ (z : Answer). Contains (counts_as z) (epoch_at x 3)) (sym pa) (0, omega arith, refl) }) in
      omega arith
