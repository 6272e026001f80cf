-- The views of the workers are those of all passes, and each deed is that of a worker.
use Rattle.std.proofs.Common.{◌≡◌, ◌≢◌, ◌⊎◌, inl, inr, ⊎_elim, ℕ, ◌+◌, ◌<◌, ◌≤◌, suc, List, [], ◌∷◌, ◌++◌, length, sym, refl, ap, ◌∙◌, subst, arith, sum_by, true, cond, Contains, eq-eqb, length-append}
use Rattle.std.specs.Prelude.{Bool, None, Option, Some}
use mathlib.Core.Option.{some, some-injective}
use mathlib.Core.Logic.{dite}
use native.Mathlib.Decide.{ℕ_discrete}
use lib.ListN.{get_elem?}
use Rattle.core_model.specs.declared.view.Deed.{Deed}
use Rattle.core_model.specs.Trails.{has_drawn, is_drawn}
use Rattle.core_model.specs.declared.view.Sight.TheVariants.{Stood}
use Rattle.core_model.specs.declared.view.View.{View}
use Rattle.core_model.specs.Anchors.{opening_counter, tabs_in}
use Rattle.core_model.specs.CellMoves.{note_of, spent}
use Rattle.core_model.specs.Deeds.{IsDone, IsEpochAt}
use Rattle.core_model.specs.State.{counter}
use Rattle.core_model.specs.Tabs.{IsPass}
use Rattle.core_model.specs.Versions.{drawn_by, draws_by}
use Rattle.core_model.proofs.Lists.{le_sum_at, two_le_sum}
use Rattle.core_model.proofs.StepsKeepTabs.{deeds_have_tabs}
use Rattle.line_account.specs.Lines.{LineOf, Served, offers}
use Rattle.line_account.specs.Deeds.{HasLine, IsDeedOf, IsDeedOfEnd}
use Rattle.line_account.specs.Answers.{Run}
use Rattle.line_account.specs.Accounts.{Account, Shows, Tells, drew_some, drew_version}
use Rattle.line_account.specs.Closing.{Closed, IsSameLine, LineIn, ShownIn, Worker, offered, offered_by}
use Rattle.line_account.proofs.Ended.{Ended, IsEnded, ended, ended_at, ended_count, ended_sum, is_ended, with_view}
use Rattle.line_account.proofs.Rows.{left_was, rest, seam_at, split_at, sum_below, sum_none, sum_same, sum_within, sums, taken_or_left}

abbrev one_if : Bool → ℕ
one_if b = cond b 1 0

empty : {A : Type 0} → (xs : List A) → length xs ≡ 0 → xs ≡ []
empty [] h = refl
empty (x ∷ xs) h = absurd (omega arith)

module _ {X : Type 0} (r : Run X) (crew : List Worker) (c : Closed r crew) where
  abbrev views : List (View X)
  views = c.state.views

  -- the workers with their views
  abbrev all : List (Ended X)
  all = ended c.view_at crew

  is_at : (j : ℕ) (x : Ended X) → get_elem? all j ≡ some x → IsEnded c.view_at crew j x
  is_at j x e = is_ended c.view_at crew j x e

  placed : (j : ℕ) (w : Worker) → get_elem? crew j ≡ some w → get_elem? all j ≡ some (with_view (c.view_at j) w)
  placed j w e = ended_at c.view_at crew j w e

  all_at : (j : ℕ) (x : Ended X) → get_elem? all j ≡ some x → get_elem? views (c.index j) ≡ some x.view
  all_at j x e = let h = is_at j x e in c.at j x.worker h.at ∙ ap (λ (z : Ended X). some z.view) h.is

  all_apart : (j l : ℕ) (x y : Ended X) → get_elem? all j ≡ some x → get_elem? all l ≡ some y → c.index j ≡ c.index l → j ≡ l
  all_apart j l x y e f same = c.apart j l x.worker y.worker (is_at j x e).at (is_at l y f).at same

  account_at : (j : ℕ) (x : Ended X) → get_elem? all j ≡ some x → Account r x.view x.worker.served true
  account_at j x e = let h = is_at j x e in subst (λ (z : Ended X). Account r z.view z.worker.served true) h.is (c.accounts j x.worker h.at)

  abbrev left : List (View X)
  left = rest Ended.view spent views all c.index

  no_tabs_left : sum_by tabs_in left ≡ 0
  no_tabs_left =
      let taken = sums Ended.view spent tabs_in refl views all c.index all_at all_apart in
      let nine = sum_same (λ (x : Ended X). tabs_in x.view) 9 all (λ j x e. let h = is_at j x e in subst (λ (z : Ended X). IsPass z.view) h.is (c.passes j x.worker h.at)) in
      let shaped = c.sound.anchors.shaped.tabs in
      let count = c.count in
      let as_many = ended_count c.view_at crew in
      omega arith

  left_has_none : (i : ℕ) (u : View X) → get_elem? left i ≡ some u → u.tabs ≡ []
  left_has_none i u h = empty u.tabs (let l = le_sum_at tabs_in left i u h in let z = no_tabs_left in omega arith)

  -- a view that has tabs is that of a worker
  pub has_worker : (i : ℕ) (u : View X) → get_elem? views i ≡ some u → u.tabs ≢ [] → (j : ℕ) × (w : Worker) × (get_elem? crew j ≡ some w) × (c.view_at j ≡ u)
  has_worker i u h some_tabs = ⊎_elim
      (λ (t : (j : ℕ) × (x : Ended X) × (get_elem? all j ≡ some x) × (x.view ≡ u)). let h = is_at t.0 t.1 t.2 in (t.0, t.1.worker, h.at, ap Ended.view h.is ∙ t.3))
      (λ (t : get_elem? left i ≡ some u). absurd (some_tabs (left_has_none i u t)))
      (taken_or_left Ended.view spent views all c.index all_at all_apart i u h)

  -- what counts in passes alone is counted over the workers
  pub counted_by_workers : (g : View X → ℕ) → g spent ≡ 0 → ((u : View X) → g (note_of u) ≡ 0) → sum_by g views ≡ sum_by (λ (x : Ended X). g x.view) all
  counted_by_workers g none notes =
      let taken = sums Ended.view spent g none views all c.index all_at all_apart in
      let z : sum_by g left ≡ 0 = sum_none g left (λ i u h. ⊎_elim
      (λ (q : spent ≡ u). ap g (sym q) ∙ none)
      (λ (q : get_elem? views i ≡ some u). ap g (c.sound.anchors.shaped.notes i u q (left_has_none i u h)) ∙ notes u)
      (left_was Ended.view spent views all c.index i u h)) in
      omega arith

  -- what the account of the worker says of a line
  pub tells_at : (P : List Served → Served → Type 0) (p : LineIn crew P) → Tells r (c.view_at p.j) p.earlier p.served
  tells_at P p = (c.accounts p.j p.worker p.at).lines p.later p.earlier p.served p.split

  -- what a line shows was seen
  pub shown_known : (a e : ℕ) → ShownIn r crew a e → IsEpochAt r.setting c.state a e
  shown_known a e p = inr (c.index p.j, c.view_at p.j, c.at p.j p.worker p.at, (tells_at (λ earlier s. Shows r.setting.anchors earlier s a e) p).shown a e p.so)

  pub inside : (a e : ℕ) → IsEpochAt r.setting c.state a e → a < r.setting.anchors
  inside a e (inl h) = h.0
  inside a e (inr h) = c.sound.anchors.seen.inside h.0 h.1 h.2 (Stood a e) h.3

  -- a deed of which P holds is that of a worker, and has its line there
  pub record DeedIn (P : Deed → Type 0) : Type 0 where
    pub j : ℕ
    pub worker : Worker
    pub at : get_elem? crew j ≡ some worker
    pub deed : Deed
    pub so : P deed
    pub own : deed.pass ≡ (c.view_at j).pass
    pub line : HasLine r (c.view_at j) deed worker.served true

  pub deed_in : (P : Deed → Type 0) → IsDone c.state P → DeedIn P
  deed_in P done =
      let w = has_worker done.i done.view done.at (deeds_have_tabs r.setting c.state done.i done.view done.deed c.sound.anchors.shaped done.at done.done) in
      let own : Contains (c.view_at w.0).deeds done.deed = subst (λ (v : View X). Contains v.deeds done.deed) (sym w.3) done.done in
      let a = (c.accounts w.0 w.1 w.2).deeds done.deed own in
      record { j = w.0; worker = w.1; at = w.2; deed = done.deed; so = done.so; own = a.0; line = a.1 }

  -- a line of a worker of which Q holds, given its view
  pub record ByWorker (Q : View X → List Served → Served → Type 0) : Type 0 where
    pub j : ℕ
    pub worker : Worker
    pub at : get_elem? crew j ≡ some worker
    pub earlier : List Served
    pub served : Served
    pub later : List Served
    pub split : worker.served ≡ later ++ served ∷ earlier
    pub so : Q (c.view_at j) earlier served

  abbrev pub AtEnd : (List Served → Type 0) → Type 0
  AtEnd R = (j : ℕ) × (w : Worker) × (get_elem? crew j ≡ some w) × R w.served

  -- a deed has its line, or belongs to the end of its worker
  pub by_view : (P : Deed → Type 0) (Q : View X → List Served → Served → Type 0) (R : List Served → Type 0)
      → ((v : View X) (d : Deed) (earlier : List Served) (s : Served) → P d → d.pass ≡ v.pass → IsDeedOf r v d earlier s → Q v earlier s)
      → ((d : Deed) (served : List Served) → P d → IsDeedOfEnd r.setting d served → R served)
      → IsDone c.state P → ByWorker Q ⊎ AtEnd R
  by_view P Q R of_line of_end done = let d = deed_in P done in ⊎_elim
      (λ (l : LineOf d.worker.served (IsDeedOf r (c.view_at d.j) d.deed)). inl (record {
        j = d.j;
        worker = d.worker;
        at = d.at;
        later = l.later;
        served = l.served;
        earlier = l.earlier;
        split = l.split;
        so = of_line (c.view_at d.j) d.deed l.earlier l.served d.so d.own l.so;
      }))
      (λ (l : (true ≡ true) × IsDeedOfEnd r.setting d.deed d.worker.served). inr (d.j, d.worker, d.at, of_end d.deed d.worker.served d.so l.1))
      d.line

  pub by_worker : (P : Deed → Type 0) (Q : View X → List Served → Served → Type 0)
      → ((v : View X) (d : Deed) (earlier : List Served) (s : Served) → P d → d.pass ≡ v.pass → IsDeedOf r v d earlier s → Q v earlier s)
      → ((d : Deed) (served : List Served) → P d → IsDeedOfEnd r.setting d served → ⊥)
      → IsDone c.state P → ByWorker Q
  by_worker P Q of_line of_end done = ⊎_elim (λ (l : ByWorker Q). l) (λ (l : AtEnd (λ served. ⊥)). absurd l.3) (by_view P Q (λ served. ⊥) of_line of_end done)

  pub by_cause : (P : Deed → Type 0) (Q : List Served → Served → Type 0) (R : List Served → Type 0)
      → ((v : View X) (d : Deed) (earlier : List Served) (s : Served) → P d → IsDeedOf r v d earlier s → Q earlier s)
      → ((d : Deed) (served : List Served) → P d → IsDeedOfEnd r.setting d served → R served)
      → IsDone c.state P → LineIn crew Q ⊎ AtEnd R
  by_cause P Q R of_line of_end done = ⊎_elim
      (λ (l : ByWorker (λ v. Q)). inl (record { j = l.j; worker = l.worker; at = l.at; later = l.later; served = l.served; earlier = l.earlier; split = l.split; so = l.so }))
      (λ (l : AtEnd R). inr l)
      (by_view P (λ v. Q) R (λ v d earlier s p own o. of_line v d earlier s p o) of_end done)

  pub by_line : (P : Deed → Type 0) (Q : List Served → Served → Type 0)
      → ((v : View X) (d : Deed) (earlier : List Served) (s : Served) → P d → IsDeedOf r v d earlier s → Q earlier s)
      → ((d : Deed) (served : List Served) → P d → IsDeedOfEnd r.setting d served → ⊥)
      → IsDone c.state P → LineIn crew Q
  by_line P Q of_line of_end done = ⊎_elim
      (λ (l : LineIn crew Q). l)
      (λ (l : AtEnd (λ served. ⊥)). absurd l.3)
      (by_cause P Q (λ served. ⊥) of_line of_end done)

  -- Draws.

  drew_one : (x : ℕ) (s : Served) → s.drew ≡ Some x → one_if (drew_version x s) ≡ 1
  drew_one x s e = ap one_if (ap (is_drawn x) e ∙ eq-eqb x x refl)

  -- a worker that served a line which drew the version drew it
  pub drawn_by_worker : (P : List Served → Served → Type 0) (p : LineIn crew P) (x : ℕ) → p.served.drew ≡ Some x → 1 ≤ drawn_by x (c.view_at p.j)
  drawn_by_worker P p x e =
      let one = drew_one x p.served e in
      let k = le_sum_at (λ (s : Served). one_if (drew_version x s)) p.worker.served (length p.later) p.served (seam_at p.worker.served p.later p.served p.earlier p.split) in
      let a = (c.accounts p.j p.worker p.at).drawn x in
      omega arith

  drawn_sum : (x : ℕ) → sum_by (λ (y : Ended X). drawn_by x y.view) all ≤ 1
  drawn_sum x = let h = counted_by_workers (drawn_by x) refl (λ u. refl) in let o = c.sound.anchors.drawn.once x in omega arith

  pub drawn_some : (P : List Served → Served → Type 0) (p : LineIn crew P) (x : ℕ) → p.served.drew ≡ Some x → 0 < sum_by (drawn_by x) views
  drawn_some P p x e = let d = drawn_by_worker P p x e in let l = le_sum_at (drawn_by x) views (c.index p.j) (c.view_at p.j) (c.at p.j p.worker p.at) in omega arith

  same_worker : (P Q : List Served → Served → Type 0) (p : LineIn crew P) (q : LineIn crew Q) (x : ℕ) → p.served.drew ≡ Some x → q.served.drew ≡ Some x → p.j ≡ q.j
  same_worker P Q p q x d e = dite (ℕ_discrete p.j q.j) (λ h. h) (λ ne. absurd
      (let f = drawn_by_worker P p x d in
      let g = drawn_by_worker Q q x e in
      let two = two_le_sum (λ (y : Ended X). drawn_by x y.view) all q.j p.j (with_view (c.view_at q.j) q.worker) (with_view (c.view_at p.j) p.worker) (placed q.j q.worker q.at) (placed p.j p.worker p.at) ne in
      let most = drawn_sum x in
      omega arith))

  back_length : (zs xs : List Served) (x : Served) (ys : List Served) → zs ≡ xs ++ x ∷ ys → length zs ≡ length xs + suc (length ys)
  back_length zs xs x ys e = ap length e ∙ length-append xs (x ∷ ys)

  -- two lines that drew one version are the same
  pub one_line : (P Q : List Served → Served → Type 0) (p : LineIn crew P) (q : LineIn crew Q) (x : ℕ) → p.served.drew ≡ Some x → q.served.drew ≡ Some x → IsSameLine crew P Q p q
  one_line P Q p q x d e = record { worker = same_j; place = place }
    where
      same_j : p.j ≡ q.j
      same_j = same_worker P Q p q x d e

      same : p.worker ≡ q.worker
      same = some-injective p.worker q.worker (sym p.at ∙ ap (get_elem? crew) same_j ∙ q.at)

      same_lines : p.worker.served ≡ q.worker.served
      same_lines = ap Worker.served same

      there : get_elem? p.worker.served (length q.later) ≡ some q.served
      there = ap (λ l. get_elem? l (length q.later)) same_lines ∙ seam_at q.worker.served q.later q.served q.earlier q.split

      later : length p.later ≡ length q.later
      later = dite (ℕ_discrete (length p.later) (length q.later)) (λ h. h) (λ ne. absurd
          (let f = drew_one x p.served d in
          let g = drew_one x q.served e in
          let two = two_le_sum (λ (s : Served). one_if (drew_version x s)) p.worker.served (length q.later) (length p.later) q.served p.served
          there (seam_at p.worker.served p.later p.served p.earlier p.split) ne in
          let a = (c.accounts p.j p.worker p.at).drawn x in
          let most = drawn_sum x in
          let l = le_sum_at (λ (y : Ended X). drawn_by x y.view) all p.j (with_view (c.view_at p.j) p.worker) (placed p.j p.worker p.at) in
          omega arith))

      place : length p.earlier ≡ length q.earlier
      place =
          let a = back_length p.worker.served p.later p.served p.earlier p.split in
          let b = back_length q.worker.served q.later q.served q.earlier q.split in
          let k = later in
          let n = ap length same_lines in
          omega arith

  -- so they have one and the same line
  pub same_line : (P Q : List Served → Served → Type 0) (p : LineIn crew P) (q : LineIn crew Q) → IsSameLine crew P Q p q → p.served ≡ q.served
  same_line P Q p q is = some-injective p.served q.served (sym here ∙ ap (get_elem? p.worker.served) later ∙ there)
    where
      same_lines : p.worker.served ≡ q.worker.served
      same_lines = ap Worker.served (some-injective p.worker q.worker (sym p.at ∙ ap (get_elem? crew) is.worker ∙ q.at))

      here : get_elem? p.worker.served (length p.later) ≡ some p.served
      here = seam_at p.worker.served p.later p.served p.earlier p.split

      there : get_elem? p.worker.served (length q.later) ≡ some q.served
      there = ap (λ l. get_elem? l (length q.later)) same_lines ∙ seam_at q.worker.served q.later q.served q.earlier q.split

      later : length p.later ≡ length q.later
      later =
          let a = back_length p.worker.served p.later p.served p.earlier p.split in
          let b = back_length q.worker.served q.later q.served q.earlier q.split in
          let n = ap length same_lines in
          let k = is.place in
          omega arith

  -- a line that drew a version offers a body
  draws_offer : (v : View X) (earlier : List Served) (s : Served) → Tells r v earlier s → one_if (drew_some s) ≤ one_if (offers s.asked.request)
  draws_offer v earlier s t = by_drew s.drew refl
    where
      by_drew : (d : Option ℕ) → d ≡ s.drew → one_if (has_drawn d) ≤ one_if (offers s.asked.request)
      by_drew None e = omega arith
      by_drew (Some x) e = let o : one_if (offers s.asked.request) ≡ 1 = ap one_if (t.drew (λ n. let z : Some x ≡ None = e ∙ n in cc)) in omega arith

  -- what the lines of the workers offer
  offered_is : sum_by (λ (x : Ended X). offered_by x.worker) all ≡ offered crew
  offered_is = ended_sum offered_by c.view_at crew

  pub offers_suffice : sum_by (λ (x : Ended X). draws_by x.view) all ≤ offered crew
  offers_suffice =
      let within = sum_within (λ (x : Ended X). draws_by x.view) (λ (x : Ended X). offered_by x.worker) all (λ j x at.
      let a = (account_at j x at).draws in
      let k = sum_within (λ (s : Served). one_if (drew_some s)) (λ (s : Served). one_if (offers s.asked.request)) x.worker.served
      (λ i s h. let split = split_at x.worker.served i s h in draws_offer x.view split.back s ((account_at j x at).lines split.front split.back s split.split)) in
      omega arith) in
      let is = offered_is in
      omega arith

  pub counter_is : counter r.setting c.state ≤ opening_counter r.setting + offered crew
  counter_is =
      let n = c.sound.anchors.drawn.counted in
      let s = counted_by_workers draws_by refl (λ u. refl) in
      let o = offers_suffice in
      omega arith

  -- a line that offers a body and drew no version leaves one version more
  pub offers_more : (P : List Served → Served → Type 0) (p : LineIn crew P) → p.served.drew ≡ None → offers p.served.asked.request ≡ true
      → sum_by (λ (x : Ended X). draws_by x.view) all < offered crew
  offers_more P p none offers_body =
      let less = sum_below (λ (x : Ended X). draws_by x.view) (λ (x : Ended X). offered_by x.worker) all p.j (with_view (c.view_at p.j) p.worker) (placed p.j p.worker p.at) (λ j x at.
      let a = (account_at j x at).draws in
      let k = sum_within (λ (s : Served). one_if (drew_some s)) (λ (s : Served). one_if (offers s.asked.request)) x.worker.served (each j x at) in
      omega arith)
      (let a = (c.accounts p.j p.worker p.at).draws in
      let k = sum_below (λ (s : Served). one_if (drew_some s)) (λ (s : Served). one_if (offers s.asked.request)) p.worker.served (length p.later) p.served
      (seam_at p.worker.served p.later p.served p.earlier p.split) (each p.j (with_view (c.view_at p.j) p.worker) (placed p.j p.worker p.at))
      (let z : one_if (drew_some p.served) ≡ 0 = ap one_if (ap has_drawn none) in let y : one_if (offers p.served.asked.request) ≡ 1 = ap one_if offers_body in omega arith) in
      omega arith) in
      let is = offered_is in
      omega arith
    where
      each : (j : ℕ) (x : Ended X) → get_elem? all j ≡ some x → (i : ℕ) (s : Served) → get_elem? x.worker.served i ≡ some s → one_if (drew_some s) ≤ one_if (offers s.asked.request)
      each j x at i s h = let split = split_at x.worker.served i s h in draws_offer x.view split.back s ((account_at j x at).lines split.front split.back s split.split)

  pub counter_below : (P : List Served → Served → Type 0) (p : LineIn crew P) → p.served.drew ≡ None → offers p.served.asked.request ≡ true
      → counter r.setting c.state < opening_counter r.setting + offered crew
  counter_below P p none offers_body =
      let n = c.sound.anchors.drawn.counted in
      let s = counted_by_workers draws_by refl (λ u. refl) in
      let o = offers_more P p none offers_body in
      omega arith
