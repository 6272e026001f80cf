-- An entry that stands closed and not doomed was stored by a line.
use Rattle.std.proofs.Common.{Bool, Contains, List, None, Some, [], ap, arith, cond, false, inl, inr, refl, subst, suc, sym, true, zero, ⊎_elim, ◌++◌, ◌+◌, ◌-◌, ◌<◌, ◌∙◌, ◌∷◌, ◌≡◌, ◌≢◌, ◌⊎◌, ℕ}
use Rattle.std.proofs.lemmas.List.Elements.{Contains-append_left, Contains-append_right}
use mathlib.Core.Option.{some}
use lib.ListN.{get_elem?}
use Rattle.lock_word.specs.Words.{doom_of, epoch_of, stage_of, version_of}
use Rattle.rock_disk.specs.Cell.{CellState}
use Rattle.script_text.specs.declared.answer.Answer.{Answer}
use Rattle.script_text.specs.declared.answer.Answer.TheVariants as answer
use Rattle.script_text.specs.declared.body.Body.{Body}
use Rattle.script_text.specs.declared.line.Line.{Line}
use Rattle.script_text.specs.declared.request.Request.{Request}
use Rattle.script_text.specs.declared.request.Request.TheVariants.{Add, Await, Begin, DropTab, End, Mark, Put, Save}
use Rattle.store_key.specs.Anchor.{anchor_of}
use Rattle.store_key.specs.Key.{key_of}
use Rattle.core_model.specs.declared.moves.Side.TheVariants.{Offer}
use Rattle.core_model.specs.declared.view.Deed.{Deed}
use Rattle.core_model.specs.declared.view.Kind.TheVariants.{Changed, Doomed, Raised}
use Rattle.core_model.specs.declared.view.View.{View}
use Rattle.core_model.specs.Anchors.{opening_counter, opening_epoch}
use Rattle.core_model.specs.Deeds.{IsDone, LeftEpoch}
use Rattle.core_model.specs.State.{State, side_word, word}
use Rattle.core_model.proofs.Lists.{at_length, at_or}
use Rattle.core_model.proofs.SlotsOpened.{contains_map}
use Rattle.line_account.specs.Answers.{Run}
use Rattle.line_account.specs.Closing.{Closed, Worker}
use Rattle.line_account.specs.Courses.{Stage as Told, lines_in}
use Rattle.line_account.specs.Deeds.{Grows, IsDeedOf, IsDeedOfEnd}
use Rattle.line_account.specs.Lines.{Offers, Served, begins, begun_of, ends, writing}
use Rattle.line_account.proofs.Gathered.{ByWorker, by_worker}
use Rattle.line_account.proofs.Names.{HasOffer, begun_among, offered_url}
use Rattle.store_rule.specs.declared.store.Store.{Store}
use Rattle.store_rule.specs.Ground.{Ground, Offers as Origins, Rule}
use Rattle.store_rule.specs.Passes.{basis}
use Rattle.worker_pool.specs.Courses.{At, IsServed, Stage}
use Rattle.worker_pool.specs.Running.{Account}
use Rattle.store_serve.specs.Serving.{MayAsk, offer_of}
use Rattle.store_serve.specs.Tabs.{IsOffered}
use Rattle.worker_shelf.specs.Shelves.{OnShelf}
use Rattle.crew_accounts.specs.Courses.{in_order}
use Rattle.crew_accounts.specs.Playing.{HasRun}
use Rattle.worker_shelf.specs.Playing.{IsPlayed}
use Rattle.crew_accounts.specs.Runs.{Past, run_of}
use Rattle.crew_accounts.specs.Saved.{IsOfLine, IsSave, WasStored}
use Rattle.crew_accounts.proofs.CrewLists.{first}
use Rattle.crew_accounts.proofs.Crews.{IsOne, Laws, StandsHere, stands_here}
use Rattle.crew_accounts.proofs.ScriptLines.{in_script}

-- The line that began what a line writes offers a body. It is that line itself, or it is a `begin`.
IsBegin : Request → Type 0
IsBegin (Begin tab url body) = Unit {0}
IsBegin _ = ⊥

begins_it : (t : ℕ) (q : Request) (a : Answer) → begins t q a ≡ true → IsBegin q
unfolding IsBegin
begins_it t (Begin tab url body) a e = tt
begins_it t _ a e = absurd (let z : false ≡ true = e in cc)

writing_began : (t : ℕ) (served : List Served) (b : Served) → writing t served ≡ Some b → IsBegin b.asked.request
writing_began t [] b e = absurd (let q : None ≡ Some b = e in cc)
writing_began t (s ∷ earlier) b e = by_tests (begins t s.asked.request s.answer) refl (ends t s.asked.request s.answer) e (writing_began t earlier b)
  where
    by_tests : (x : Bool) → begins t s.asked.request s.answer ≡ x → (y : Bool) → cond x (Some s) (cond y None (writing t earlier)) ≡ Some b → (writing t earlier ≡ Some b → IsBegin b.asked.request) → IsBegin b.asked.request
    by_tests true is y q rest = let same : s ≡ b = cc in subst (λ (z : Served). IsBegin z.asked.request) same (begins_it t s.asked.request s.answer is)
    by_tests false is true q rest = absurd (let z : None ≡ Some b = q in cc)
    by_tests false is false q rest = rest q

-- what a `begin` offers
begin_offers : (q : Request) → IsBegin q → HasOffer q
unfolding IsBegin
begin_offers (Begin tab url body) h = record { url = url; body = body; offers = (refl, refl) }
begin_offers _ h = absurd h

-- and is no `save`
no_save : (q : Request) → IsBegin q → IsSave q → ⊥
unfolding IsBegin
no_save (Begin tab url body) h g = g
no_save _ h g = h

-- what a line began that writes, and that a `save` among these is the line itself
record Began (s b : Served) : Type 0 where
  offer : HasOffer b.asked.request
  itself : IsSave b.asked.request → s ≡ b

on_tab : (s b : Served) → IsBegin b.asked.request → Began s b
on_tab s b h = record { offer = begin_offers b.asked.request h; itself = λ save. absurd (no_save b.asked.request h save) }

at_once : (s b : Served) → s ≡ b → HasOffer s.asked.request → Began s b
at_once s b is o = record { offer = subst (λ (z : Served). HasOffer z.asked.request) is o; itself = λ save. is }

began : (earlier : List Served) (s b : Served) (q : Request) → s.asked.request ≡ q → begun_of earlier s q ≡ Some b → Began s b
began earlier s b (Put url body) is e = at_once s b (let same : s ≡ b = cc in same) (subst HasOffer (sym is) record { url = url; body = body; offers = (refl, refl) })
began earlier s b (Save url body) is e = at_once s b (let same : s ≡ b = cc in same) (subst HasOffer (sym is) record { url = url; body = body; offers = (refl, refl) })
began earlier s b (Begin tab url body) is e = at_once s b (let same : s ≡ b = cc in same) (subst HasOffer (sym is) record { url = url; body = body; offers = (refl, refl) })
began earlier s b (Add tab count) is e = on_tab s b (writing_began tab earlier b e)
began earlier s b (End tab) is e = on_tab s b (writing_began tab earlier b e)
began earlier s b (DropTab tab) is e = on_tab s b (writing_began tab earlier b e)
began earlier s b _ is e = absurd (let q : None ≡ Some b = e in cc)

-- A line that left an epoch at CLOSED that is not doomed.
module _ {X : Type 0} (r : Run X) (a e : ℕ) (three : stage_of e ≡ 3) (undoomed : doom_of e ≡ 0) where
  record ClosedBy (v : View X) (earlier : List Served) (s : Served) : Type 0 where
    grows : Grows r.setting v earlier s a (version_of e)
    stored : s.answer ≡ answer.Stored (version_of e)

  is_three : (d : Deed) → LeftEpoch a e d → stage_of d.epoch ≡ 3
  is_three d p = ap stage_of p.1 ∙ three

  wrong : (d : Deed) → LeftEpoch a e d → (n : ℕ) → stage_of d.epoch ≡ n → n ≢ 3 → ⊥
  wrong d p n is ne = ne (sym is ∙ is_three d p)

  closed_line : (v : View X) (d : Deed) (earlier : List Served) (s : Served) → LeftEpoch a e d → d.pass ≡ v.pass → IsDeedOf r v d earlier s → ClosedBy v earlier s
  closed_line v d earlier s p own h = ⊎_elim
      (λ (q : d.kind ≡ Changed). absurd (⊎_elim (λ (z : stage_of d.epoch ≡ 1). wrong d p 1 z (omega arith)) (λ (z : stage_of d.epoch ≡ 5). wrong d p 5 z (omega arith)) (h.changed q)))
      (λ (q : (d.kind ≡ Raised) ⊎ (d.kind ≡ Doomed)). ⊎_elim
      (λ (t : d.kind ≡ Raised). record {
        grows = subst (λ (b : ℕ). Grows r.setting v earlier s b (version_of e)) p.0.0 (subst (λ (y : ℕ). Grows r.setting v earlier s d.anchor (version_of y)) p.1 (h.grew t (inr (is_three d p))));
        stored = (h.closed t (is_three d p)).stored (ap doom_of p.1 ∙ undoomed) ∙ ap (λ (y : ℕ). answer.Stored (version_of y)) p.1;
      })
      (λ (t : d.kind ≡ Doomed). absurd (let z = h.with_doom t in let y = ap doom_of p.1 in omega arith))
      q)
      p.0.1

  closed_end : (d : Deed) (served : List Served) → LeftEpoch a e d → IsDeedOfEnd r.setting d served → ⊥
  closed_end d served p h = ⊎_elim
      (λ (q : d.kind ≡ Changed). wrong d p 5 (h.changed q).0 (omega arith))
      (λ (q : (d.kind ≡ Raised) ⊎ (d.kind ≡ Doomed)). ⊎_elim
      (λ (t : d.kind ≡ Raised). ⊎_elim (λ (z : stage_of d.epoch ≡ 4). wrong d p 4 z (omega arith)) (λ (z : stage_of d.epoch ≡ 6). wrong d p 6 z (omega arith)) (h.raised t))
      (λ (t : d.kind ≡ Doomed). h.doomed t)
      q)
      p.0.1

  closed_by : (crew : List Worker) (c : Closed r crew) → IsDone c.state (LeftEpoch a e) → ByWorker r crew c ClosedBy
  closed_by crew c done = by_worker r crew c (LeftEpoch a e) ClosedBy closed_line closed_end done

-- a line of a list that is split there
split_among : (zs front back : List Served) (s : Served) → zs ≡ front ++ s ∷ back → Contains zs s
split_among zs front back s e = subst (λ (l : List Served). Contains l s) (sym e) (Contains-append_right front (s ∷ back) s (first s back))

-- a line that was served stands in the course with its answer
abbrev told_by : Served → Line × Answer
told_by s = (s.asked, s.answer)

served_told : {X : Type 0} → (course : List (Told X)) (s : Served) → Contains (lines_in course) s → Contains (in_order course) (told_by s)
served_told [] s h = absurd (let lt = h.1 in omega arith)
served_told (x ∷ earlier) s (zero, lt, is) = Contains-append_right (in_order earlier) (told_by x.served ∷ []) (told_by s)
    (subst (λ (z : Served). Contains (told_by x.served ∷ []) (told_by z)) is (first (told_by x.served) []))
served_told (x ∷ earlier) s (suc i, lt, is) = Contains-append_left (in_order earlier) (told_by x.served ∷ []) (told_by s) (served_told earlier s (i, omega arith, is))

-- a request that offers a body is served
pub offered_served : (q : Request) (url : List ℕ) (body : Body) → Offers q url body → IsServed q
offered_served (Mark mark) url body o = absurd o
offered_served (Await mark) url body o = absurd o
offered_served _ url body o = tt

module _ {C O : Type 0} (tells : Bool) (state : C → CellState) (offers : O → Origins) (s : Store C O) where
  renamed : (number : ℕ) (u url : List ℕ) (b body : Body) → (u ≡ url) × (b ≡ body) → IsOffered tells state offers s (offer_of tells state offers s number) u b → IsOffered tells state offers s (offer_of tells state offers s number) url body
  renamed number u url b body o h = subst (λ (z : Body). IsOffered tells state offers s (offer_of tells state offers s number) url z) o.1
      (subst (λ (z : List ℕ). IsOffered tells state offers s (offer_of tells state offers s number) z b) o.0 h)

  -- what a line offers is the offer of its number
  pub asked : (number : ℕ) (q : Request) (url : List ℕ) (body : Body) → Offers q url body → MayAsk tells state offers s number q → IsOffered tells state offers s (offer_of tells state offers s number) url body
  asked number (Put u b) url body o h = renamed number u url b body o h
  asked number (Save u b) url body o h = renamed number u url b body o h
  asked number (Begin tab u b) url body o h = renamed number u url b body o h.1
  asked number _ url body o h = absurd o

module _ {C O St : Type 0} (tells : Bool) (state : C → CellState) (offers : O → Origins) (faults : St → ℕ) (s : Store C O) (script : List Line) (told : Bool) (past : Past)
    (laws : Laws tells state offers faults s script told past) (accounts : List (Account (OnShelf C O St))) (cells : List C) (h : HasRun tells state offers faults s script accounts cells) where
  abbrev g : Ground (List ℕ)
  g = basis tells state offers s

  abbrev r : Run (List ℕ)
  r = run_of (basis tells state offers s) told past

  abbrev last : State (List ℕ)
  last = h.closed.gathered.state

  rule : Rule g last
  rule = h.closed.gathered.rule

  here : StandsHere tells state offers faults s script told past laws accounts cells h
  here = stands_here tells state offers faults s script told past laws accounts cells h

  -- a line that a worker of the crew served is a stage of the account of its place
  record IsStage (account : Account (OnShelf C O St)) (line : Served) : Type 0 where
    stage : Stage (OnShelf C O St)
    among : Contains account.stages stage
    line_is : stage.line ≡ line.asked
    answer_is : stage.answer ≡ line.answer

  stage_of_line : (j : ℕ) (w : Worker) (o : IsOne tells state offers faults s script told past laws accounts cells h j w) (line : Served) → Contains w.served line → IsStage o.account line
  stage_of_line j w o line among =
      let served = served_told o.course.stages line (subst (λ (z : Worker). Contains z.served line) (sym o.is) among) in
      let m = contains_map (λ (x : Stage (OnShelf C O St)). (x.line, x.answer)) o.account.stages (told_by line)
      (subst (λ (ls : List (Line × Answer)). Contains ls (told_by line)) o.done.is.lines served) in
      record { stage = m.0; among = m.1; line_is = ap (λ (p : Line × Answer). p.0) m.2; answer_is = ap (λ (p : Line × Answer). p.1) m.2 }

  module _ (a : ℕ) (lt : a < g.setting.anchors) (three : stage_of (epoch_of (word last a)) ≡ 3) (undoomed : doom_of (epoch_of (word last a)) ≡ 0) (new : opening_counter g.setting < version_of (epoch_of (word last a))) where
    abbrev epoch : ℕ
    epoch = epoch_of (word last a)

    done : IsDone last (LeftEpoch a epoch)
    done = ⊎_elim
        (λ (q : epoch ≡ opening_epoch g.setting a). absurd (let z = rule.sound.anchors.setting.version a lt in let y = ap version_of q in omega arith))
        (λ (q : IsDone last (LeftEpoch a epoch)). q)
        (rule.sound.anchors.deeds.left a epoch (inl (lt, refl)))

    by : ByWorker r here.crew here.closed (ClosedBy r a epoch three undoomed)
    by = closed_by r a epoch three undoomed here.crew here.closed (subst (λ (z : State (List ℕ)). IsDone z (LeftEpoch a epoch)) (sym here.same) done)

    one : IsOne tells state offers faults s script told past laws accounts cells h by.j by.worker
    one = here.one by.j by.worker by.at

    abbrev line : Served
    line = by.served

    abbrev begun : Served
    begun = by.so.grows.writes.first

    what : Began by.served by.so.grows.writes.first
    what = began by.earlier by.served by.so.grows.writes.first by.served.asked.request refl by.so.grows.writes.begun_is

    line_there : Contains by.worker.served by.served
    line_there = split_among by.worker.served by.later by.earlier by.served by.split

    begun_there : Contains by.worker.served by.so.grows.writes.first
    begun_there = let b = begun_among by.earlier by.served by.so.grows.writes.first by.served.asked.request by.so.grows.writes.begun_is in
        subst (λ (l : List Served). Contains l by.so.grows.writes.first) (sym by.split)
        (Contains-append_right by.later (by.served ∷ by.earlier) by.so.grows.writes.first
        (split_among (by.served ∷ by.earlier) b.front b.back by.so.grows.writes.first b.split))

    played : IsPlayed tells state offers faults s script by.j one.account
    played = h.each by.j one.account (at_place one.at)
      where
        at_place : get_elem? accounts by.j ≡ some one.account → At accounts by.j one.account
        at_place e = (at_length accounts by.j one.account e, at_or accounts by.j one.account one.account e)

    of_script : Contains script begun.asked × (begun.asked.worker ≡ by.j + 1)
    of_script = let x = stage_of_line by.j by.worker one by.so.grows.writes.first begun_there in
        subst (λ (l : Line). Contains script l × (l.worker ≡ by.j + 1)) x.line_is (in_script (by.j + 1) script one.account.stages played.each x.stage x.among)

    offered : IsOffered tells state offers s (offer_of tells state offers s begun.asked.number) what.offer.url what.offer.body
    offered = asked tells state offers s begun.asked.number begun.asked.request what.offer.url what.offer.body what.offer.offers
        (played.takes begun.asked of_script.0 of_script.1 (offered_served begun.asked.request what.offer.url what.offer.body what.offer.offers)).asks

    -- what its worker has seen as the offer stands beside the anchor
    offer_is : side_word g.setting last Offer a ≡ offer_of tells state offers s begun.asked.number
    offer_is = let at = subst (λ (z : State (List ℕ)). get_elem? z.views (here.closed.index by.j) ≡ some (here.closed.view_at by.j)) here.same (here.closed.at by.j by.worker by.at) in
        (rule.sound.anchors.seen.named (here.closed.index by.j) (here.closed.view_at by.j) at a (version_of epoch) Offer (offer_of tells state offers s begun.asked.number) by.so.grows.named.offer refl).0

    at_anchor : anchor_of (key_of what.offer.url) g.setting.anchors ≡ a
    at_anchor = let there = by.so.grows.writes.anchor in
        let same : Some what.offer.url ≡ Some there.url = sym (offered_url begun.asked.request what.offer.url what.offer.body what.offer.offers) ∙ there.named_is in
        let is : what.offer.url ≡ there.url = cc in
        ap (λ (u : List ℕ). anchor_of (key_of u) g.setting.anchors) is ∙ sym there.anchor

    was_stored : IsSave begun.asked.request → WasStored g script accounts a (version_of epoch) (side_word g.setting last Offer a) begun.asked
    was_stored save = let x = stage_of_line by.j by.worker one by.served line_there in record {
      w = by.j;
      account = one.account;
      at = one.at;
      stage = x.stage;
      among = x.among;
      line_is = x.line_is ∙ ap (λ (z : Served). z.asked) (what.itself save);
      answered = x.answer_is ∙ by.so.stored;
    }

    pub of_line : IsOfLine g script accounts a (version_of (epoch_of (word h.closed.gathered.state a))) (side_word g.setting h.closed.gathered.state Offer a)
    of_line = record {
      line = begun.asked;
      among = of_script.0;
      offer_is = offer_is;
      url = what.offer.url;
      body = what.offer.body;
      offers = what.offer.offers;
      url_is = ap (λ (n : ℕ). g.offers.url (n - g.setting.slots)) offer_is ∙ offered.url_is;
      body_is = ap (λ (n : ℕ). g.offers.body (n - g.setting.slots)) offer_is ∙ offered.body_is;
      at = at_anchor;
      saved = was_stored;
    }
