-- Which line the key and the offer of an entry come from.
use Rattle.std.proofs.Common.{◌≡◌, ◌⊎◌, inl, inr, ⊎_elim, ℕ, ◌<◌, List, [], ◌∷◌, ◌++◌, sym, refl, ap, ◌∙◌, subst, arith, Bool, true, false, cond, append_assoc}
use Rattle.std.specs.Prelude.{None, Some}
use mathlib.Core.Option.{some}
use lib.ListN.{get_elem?}
use Rattle.lock_word.specs.Words.{doom_of, is_readable, stage_of, version_of}
use Rattle.lock_word.proofs.Testing.{doom_of-readable, stage_of-readable}
use Rattle.script_text.specs.declared.body.Body.{Body}
use Rattle.script_text.specs.declared.request.Request.{Request}
use Rattle.script_text.specs.declared.request.Request.TheVariants.{Add, Begin, DropTab, End, Put, Save}
use Rattle.script_text.specs.declared.answer.Answer.{Answer}
use Rattle.core_model.specs.declared.view.Deed.{Deed}
use Rattle.core_model.specs.declared.view.Kind.TheVariants.{Changed, Doomed, Raised}
use Rattle.core_model.specs.declared.view.View.{View}
use Rattle.core_model.specs.Anchors.{opening_counter, opening_epoch}
use Rattle.core_model.specs.Deeds.{IsDone, IsEpochAt, LeftEpoch}
use Rattle.core_model.proofs.DeedsTell.{known_taken}
use Rattle.script_text.specs.Requests.{url_in}
use Rattle.line_account.specs.Lines.{Offers, Served, begins, begun_of, ends, writing}
use Rattle.line_account.specs.Deeds.{Began, Begins, Grows, IsDeedOf, IsDeedOfEnd, IsNamed}
use Rattle.line_account.specs.Answers.{Run}
use Rattle.line_account.specs.Closing.{BegunIn, Closed, LineIn, Worker}
use Rattle.line_account.proofs.Rows.{Split}
use Rattle.line_account.proofs.Gathered.{ByWorker, by_worker, inside, one_line, same_line}
use Rattle.line_account.proofs.Versions.{taken_by_line}

-- The line that began a writing is among the lines.

writing_among : (t : ℕ) (served : List Served) (b : Served) → writing t served ≡ Some b → Split served b
writing_among t [] b e = absurd (let q : None ≡ Some b = e in cc)
writing_among t (s ∷ earlier) b e = among (λ q. writing_among t earlier b q) (begins t s.asked.request s.answer) (ends t s.asked.request s.answer) e
  where
    among : (writing t earlier ≡ Some b → Split earlier b) → (x y : Bool) → cond x (Some s) (cond y None (writing t earlier)) ≡ Some b → Split (s ∷ earlier) b
    among before true y q = let is : s ≡ b = cc in record { front = []; back = earlier; split = ap (λ z. z ∷ earlier) is }
    among before false true q = absurd (let z : None ≡ Some b = q in cc)
    among before false false q = let h = before q in record { front = s ∷ h.front; back = h.back; split = ap (λ l. s ∷ l) h.split }

later_split : (s : Served) (earlier : List Served) (b : Served) → Split earlier b → Split (s ∷ earlier) b
later_split s earlier b h = record { front = s ∷ h.front; back = h.back; split = ap (λ l. s ∷ l) h.split }

pub begun_among : (earlier : List Served) (s b : Served) (q : Request) → begun_of earlier s q ≡ Some b → Split (s ∷ earlier) b
begun_among earlier s b (Put url body) e = let is : s ≡ b = cc in record { front = []; back = earlier; split = ap (λ z. z ∷ earlier) is }
begun_among earlier s b (Save url body) e = let is : s ≡ b = cc in record { front = []; back = earlier; split = ap (λ z. z ∷ earlier) is }
begun_among earlier s b (Begin tab url body) e = let is : s ≡ b = cc in record { front = []; back = earlier; split = ap (λ z. z ∷ earlier) is }
begun_among earlier s b (Add tab count) e = later_split s earlier b (writing_among tab earlier b e)
begun_among earlier s b (End tab) e = later_split s earlier b (writing_among tab earlier b e)
begun_among earlier s b (DropTab tab) e = later_split s earlier b (writing_among tab earlier b e)
begun_among earlier s b _ e = absurd (let q : None ≡ Some b = e in cc)

-- Offers.

-- what a line that began a version offers
pub record HasOffer (q : Request) : Type 0 where
  pub url : List ℕ
  pub body : Body
  pub offers : Offers q url body

pub offer_of : (q : Request) (a : Answer) (x : ℕ) → Began q a x → HasOffer q
offer_of (Put url body) a x h = record { url = url; body = body; offers = (refl, refl) }
offer_of (Save url body) a x h = record { url = url; body = body; offers = (refl, refl) }
offer_of (Begin tab url body) a x h = record { url = url; body = body; offers = (refl, refl) }
offer_of _ a x h = absurd h

pub offered_url : (q : Request) (url : List ℕ) (body : Body) → Offers q url body → url_in q ≡ Some url
offered_url (Put u b) url body h = ap Some h.0
offered_url (Save u b) url body h = ap Some h.0
offered_url (Begin tab u b) url body h = ap Some h.0
offered_url _ url body h = absurd h

module _ {X : Type 0} (r : Run X) (crew : List Worker) (c : Closed r crew) where
  abbrev GrowsAt : ℕ → ℕ → View X → List Served → Served → Type 0
  GrowsAt a x v earlier s = Grows r.setting v earlier s a x

  grown_line : (a e : ℕ) → is_readable e ≡ true → (v : View X) (d : Deed) (earlier : List Served) (s : Served) → LeftEpoch a e d → d.pass ≡ v.pass → IsDeedOf r v d earlier s → GrowsAt a (version_of e) v earlier s
  grown_line a e read v d earlier s p own h = ⊎_elim
      (λ (q : d.kind ≡ Changed). absurd (⊎_elim (λ (z : stage_of d.epoch ≡ 1). wrong 1 z (inl (omega arith))) (λ (z : stage_of d.epoch ≡ 5). wrong 5 z (inr (omega arith))) (h.changed q)))
      (λ (q : (d.kind ≡ Raised) ⊎ (d.kind ≡ Doomed)). ⊎_elim
      (λ (t : d.kind ≡ Raised). as_said (h.grew t stage))
      (λ (t : d.kind ≡ Doomed). absurd (let z = h.with_doom t in let y = ap doom_of p.1 in let n = doom_of-readable e read in omega arith))
      q)
      p.0.1
    where
      stage : (stage_of d.epoch ≡ 2) ⊎ (stage_of d.epoch ≡ 3)
      stage = ⊎_elim (λ (z : stage_of e ≡ 2). inl (ap stage_of p.1 ∙ z)) (λ (z : stage_of e ≡ 3). inr (ap stage_of p.1 ∙ z)) (stage_of-readable e read)

      wrong : (n : ℕ) → stage_of d.epoch ≡ n → (n < 2) ⊎ (3 < n) → ⊥
      wrong n is far = ⊎_elim
          (λ (f : n < 2). ⊎_elim (λ (z : stage_of d.epoch ≡ 2). omega arith) (λ (z : stage_of d.epoch ≡ 3). omega arith) stage)
          (λ (f : 3 < n). ⊎_elim (λ (z : stage_of d.epoch ≡ 2). omega arith) (λ (z : stage_of d.epoch ≡ 3). omega arith) stage)
          far

      as_said : GrowsAt d.anchor (version_of d.epoch) v earlier s → GrowsAt a (version_of e) v earlier s
      as_said x = subst (λ (b : ℕ). GrowsAt b (version_of e) v earlier s) p.0.0 (subst (λ (y : ℕ). GrowsAt d.anchor (version_of y) v earlier s) p.1 x)

  grown_end : (a e : ℕ) → is_readable e ≡ true → (d : Deed) (served : List Served) → LeftEpoch a e d → IsDeedOfEnd r.setting d served → ⊥
  grown_end a e read d served p h = ⊎_elim
      (λ (q : d.kind ≡ Changed). wrong 5 (h.changed q).0 (omega arith))
      (λ (q : (d.kind ≡ Raised) ⊎ (d.kind ≡ Doomed)). ⊎_elim
      (λ (t : d.kind ≡ Raised). ⊎_elim (λ (z : stage_of d.epoch ≡ 4). wrong 4 z (omega arith)) (λ (z : stage_of d.epoch ≡ 6). wrong 6 z (omega arith)) (h.raised t))
      (λ (t : d.kind ≡ Doomed). h.doomed t)
      q)
      p.0.1
    where
      wrong : (n : ℕ) → stage_of d.epoch ≡ n → 3 < n → ⊥
      wrong n is far = let s = ap stage_of p.1 in ⊎_elim (λ (z : stage_of e ≡ 2). omega arith) (λ (z : stage_of e ≡ 3). omega arith) (stage_of-readable e read)

  -- the line that began a version, and a worker that knows its key and its offer
  pub record HasNames (a x : ℕ) : Type 0 where
    pub begun : BegunIn r crew a x
    pub j : ℕ
    pub worker : Worker
    pub at : get_elem? crew j ≡ some worker
    pub named : IsNamed r.setting (c.view_at j) a x begun.served

  abbrev first_in : (a x : ℕ) (g : ByWorker r crew c (GrowsAt a x)) → LineIn crew (λ earlier s. s.drew ≡ Some x)
  first_in a x g =
      let h = begun_among g.earlier g.served g.so.writes.first g.served.asked.request g.so.writes.begun_is in
      record {
        j = g.j;
        worker = g.worker;
        at = g.at;
        later = g.later ++ h.front;
        served = g.so.writes.first;
        earlier = h.back;
        split = g.split ∙ ap (λ z. g.later ++ z) h.split ∙ sym (append_assoc g.later h.front (g.so.writes.first ∷ h.back));
        so = g.so.writes.drew;
      }

  pub names_of : (a e : ℕ) → IsEpochAt r.setting c.state a e → is_readable e ≡ true → opening_counter r.setting < version_of e → HasNames a (version_of e)
  names_of a e known read high =
      let x : ℕ = version_of e in
      let left : IsDone c.state (LeftEpoch a e) = ⊎_elim
      (λ (q : e ≡ opening_epoch r.setting a). absurd (let z = c.sound.anchors.setting.version a (inside r crew c a e known) in let y = ap version_of q in omega arith))
      (λ (q : IsDone c.state (LeftEpoch a e)). q)
      (c.sound.anchors.deeds.left a e known) in
      let g : ByWorker r crew c (GrowsAt a x) = by_worker r crew c (LeftEpoch a e) (GrowsAt a x) (grown_line a e read) (grown_end a e read) left in
      let begun : BegunIn r crew a x = taken_by_line r crew c a x (known_taken r.setting c.state c.sound a e known high) in
      let first : LineIn crew (λ earlier s. s.drew ≡ Some x) = first_in a x g in
      let same : g.so.writes.first ≡ begun.served = same_line r crew c (λ earlier s. s.drew ≡ Some x) (λ earlier s. Begins r.setting.anchors s a x) first begun
      (one_line r crew c (λ earlier s. s.drew ≡ Some x) (λ earlier s. Begins r.setting.anchors s a x) first begun x g.so.writes.drew begun.so.drew) in
      record { begun = begun; j = g.j; worker = g.worker; at = g.at; named = subst (λ (s : Served). IsNamed r.setting (c.view_at g.j) a x s) same g.so.named }
