-- Accounts hold along the course of a worker.
use Rattle.std.proofs.Common.{◌≡◌, ◌⊎◌, inl, inr, ⊎_elim, ℕ, ◌+◌, List, [], ◌∷◌, ◌++◌, sym, refl, ap, ◌∙◌, subst, Contains, true, false, Bool}
use Rattle.std.specs.Prelude.{Some, None, count_by}
use Rattle.std.proofs.lemmas.List.Sums.{sum_by-cons}
use Rattle.lock_word.specs.declared.epoch.Epoch.{Epoch}
use Rattle.store_key.specs.Key.{key_of}
use Rattle.core_model.specs.declared.view.Deed.{Deed}
use Rattle.core_model.specs.declared.view.Kind.{Kind}
use Rattle.core_model.specs.declared.view.Kind.TheVariants.{Counted, Drew}
use Rattle.core_model.specs.declared.view.Sight.TheVariants.{Stood}
use Rattle.core_model.specs.declared.view.View.{View}
use Rattle.core_model.specs.Layout.{Setting}
use Rattle.core_model.proofs.Lists.{contains_none}
use Rattle.line_account.specs.Lines.{Served}
use Rattle.line_account.specs.Deeds.{Grows, HasLine, IsDeedOf, IsDeedOfEnd, IsNamed}
use Rattle.line_account.specs.Answers.{HasAdded, HasGiven, HasHit, HasItem, HasOpened, HasOther, HasPurged, IsEntryAt, IsKeyRead, IsSpent, Run}
use Rattle.line_account.specs.Accounts.{Account, HasFinished, HasGivenUp, Tells, drew_some, drew_version}
use Rattle.core_model.specs.Knowing.{KnowsAll}
use Rattle.line_account.specs.Courses.{Adds, Begins, Course, Leaves, Stage, lines_in, one_if}

module _ {X : Type 0} (k : Setting X) (v w : View X) (h : KnowsAll v w) where
  named_later : (a x : ℕ) (first : Served) → IsNamed k v a x first → IsNamed k w a x first
  named_later a x first n = record { url = n.url; url_is = n.url_is; key0 = h.seen _ n.key0; key1 = h.seen _ n.key1; offer = h.seen _ n.offer }

  grows_later : (earlier : List Served) (s : Served) (a x : ℕ) → Grows k v earlier s a x → Grows k w earlier s a x
  grows_later earlier s a x g = record { writes = g.writes; named = named_later a x g.writes.first g.named }

module _ {X : Type 0} (r : Run X) (v w : View X) (h : KnowsAll v w) where
  deed_later : (d : Deed) (earlier : List Served) (s : Served) → IsDeedOf r v d earlier s → IsDeedOf r w d earlier s
  deed_later d earlier s o = record {
    entered = o.entered;
    changed = o.changed;
    took = o.took;
    evicted = o.evicted;
    grew = λ q g. grows_later r.setting v w h earlier s d.anchor _ (o.grew q g);
    closed = o.closed;
    halted = o.halted;
    doomed = o.doomed;
    with_doom = o.with_doom;
  }

  line_later : (d : Deed) (served : List Served) (at_end : Bool) → HasLine r v d served at_end → HasLine r w d served at_end
  line_later d served at_end (inl l) = inl record { later = l.later; served = l.served; earlier = l.earlier; split = l.split; so = deed_later d l.earlier l.served l.so }
  line_later d served at_end (inr l) = inr l

  item_later : (kind : Kind) (n : ℕ) → HasItem v kind n → HasItem w kind n
  item_later kind n i = record { item = i.item; among = h.trail i.item i.among; kind_is = i.kind_is; found_is = i.found_is }

  spent_later : (s : Served) (n : ℕ) → IsSpent v s n → IsSpent w s n
  spent_later s n p = record { offers = p.offers; limit = p.limit; found = later p.found }
    where
      later : ((s.drew ≡ None) × HasItem v Counted n) ⊎ ((s.drew ≡ Some (n + 1)) × HasItem v Drew n)
          → ((s.drew ≡ None) × HasItem w Counted n) ⊎ ((s.drew ≡ Some (n + 1)) × HasItem w Drew n)
      later (inl q) = inl (q.0, item_later Counted n q.1)
      later (inr q) = inr (q.0, item_later Drew n q.1)

  abbrev entry_later : (a e : ℕ) (url : List ℕ) → IsEntryAt r v a e url → IsEntryAt r w a e url
  entry_later a e url i = record {
    readable = i.readable;
    seen = h.seen _ i.seen;
    front = h.seen _ i.front;
    back = h.seen _ i.back;
    offer = i.offer;
    offered = h.seen _ i.offered;
    old = i.old;
    old_front = i.old_front;
    old_back = i.old_back;
  }

  abbrev opened_later : (s : Served) → HasOpened r v s → HasOpened r w s
  opened_later s o = record { url = o.url; named = o.named; entry = entry_later _ s.opened o.url o.entry; told = o.told }

  hit_later : (s : Served) (bytes : List ℕ) → HasHit r v s bytes → HasHit r w s bytes
  hit_later s bytes o = record { opened = opened_later s o.opened; whole = o.whole; same = o.same }

  other_later : (earlier : List Served) (s : Served) → HasOther r v earlier s → HasOther r w earlier s
  other_later earlier s o = record {
    first = o.first;
    opened_is = o.opened_is;
    url = o.url;
    named = o.named;
    entry = entry_later _ o.first.opened o.url o.entry;
    good = o.good;
    same_key = o.same_key;
    differs = o.differs;
  }

  added_later : (earlier : List Served) (s : Served) (count : ℕ) → HasAdded r v earlier s count → HasAdded r w earlier s count
  added_later earlier s count a = record {
    tab = a.tab;
    asked = a.asked;
    request = a.request;
    writes = a.writes;
    count_is = a.count_is;
    url_is = a.url_is;
    published = λ some. h.seen _ (a.published some);
    offer = λ some. h.seen _ (a.offer some);
  }

  given_later : (earlier : List Served) (s : Served) → HasGiven r v earlier s → HasGiven r w earlier s
  given_later earlier s g = record {
    first = g.first;
    opened_is = g.opened_is;
    url = g.url;
    named = g.named;
    entry = entry_later _ g.first.opened g.url g.entry;
    place = g.place;
    most = g.most;
    sure = g.sure;
    url_is = g.url_is;
    first_ones = g.first_ones;
    whole = g.whole;
    fewer = g.fewer;
    published = λ some. h.seen _ (g.published some);
  }

  key_later : (a e : ℕ) (key : List ℕ) → IsKeyRead r v a e key → IsKeyRead r w a e key
  key_later a e key i = record {
    readable = i.readable;
    seen = h.seen _ i.seen;
    long = i.long;
    bytes = i.bytes;
    front = h.seen _ i.front;
    back = h.seen _ i.back;
    old_front = i.old_front;
    old_back = i.old_back;
  }

  purged_later : (s : Served) (e : Epoch) → HasPurged r v s e → HasPurged r w s e
  purged_later s e p = record {
    doomed = p.doomed;
    from = p.from;
    to = p.to;
    url = p.url;
    named = p.named;
    version_is = p.version_is;
    keyed = key_later _ s.opened (key_of p.url) p.keyed;
  }

  finished_later : (earlier : List Served) (s : Served) (x : ℕ) → HasFinished r.setting v earlier s x → HasFinished r.setting w earlier s x
  finished_later earlier s x f = record { anchor = f.anchor; grows = grows_later r.setting v w h earlier s f.anchor x f.grows }

  given_up_later : (earlier : List Served) (s : Served) → HasGivenUp r.setting.anchors v earlier s → HasGivenUp r.setting.anchors w earlier s
  given_up_later earlier s g = record {
    anchor = g.anchor;
    version = g.version;
    writes = g.writes;
    epoch = g.epoch;
    version_is = g.version_is;
    halted = g.halted;
    seen = h.seen (Stood g.anchor g.epoch) g.seen;
  }

  -- what a line tells stays told
  pub tells_later : (earlier : List Served) (s : Served) → Tells r v earlier s → Tells r w earlier s
  tells_later earlier s t = record {
    shown = λ a e q. h.seen (Stood a e) (t.shown a e q);
    answers = t.answers;
    drew = t.drew;
    began = t.began;
    finished = λ x q. finished_later earlier s x (t.finished x q);
    gave_up = λ writes q. given_up_later earlier s (t.gave_up writes q);
    full = t.full;
    large = t.large;
    small = t.small;
    long = t.long;
    short = t.short;
    busy = λ looked other q. let b = t.busy looked other q in record { cause = b.cause; rises = b.rises; met = λ a at more. h.met a (b.met a at more); counted = b.counted };
    spent = λ n q. spent_later s n (t.spent n q);
    offered = t.offered;
    cause = t.cause;
    key = λ e key a q at. key_later a _ key (t.key e key a q at);
    opened = λ x q. opened_later s (t.opened x q);
    hit = λ y x bytes q. hit_later s bytes (t.hit y x bytes q);
    other = λ y q. other_later earlier s (t.other y q);
    halted = t.halted;
    part = t.part;
    halted_version = t.halted_version;
    part_version = t.part_version;
    purged = λ e q. purged_later s e (t.purged e q);
    added = λ count q. added_later earlier s count (t.added count q);
    given = λ y q. given_later earlier s (t.given y q);
    tab = t.tab;
    behind_end = t.behind_end;
    behind_other = t.behind_other;
    behind_halted = t.behind_halted;
  }

module _ {X : Type 0} (r : Run X) where
  count_line : (p : Served → Bool) (s : Served) (served : List Served) → count_by p (s ∷ served) ≡ one_if (p s) + count_by p served
  count_line p s served = sum_by-cons (λ (x : Served). one_if (p x)) s served

  pub no_line : (later earlier : List Served) (s : Served) → [] ≡ later ++ s ∷ earlier → ⊥
  no_line [] earlier s e = cc
  no_line (x ∷ xs) earlier s e = cc

  pub account_begins : (v : View X) → Begins r v → Account r v [] false
  account_begins v b = record {
    opening = b.opening;
    drawn = b.drawn;
    draws = b.draws;
    deeds = λ d h. absurd (contains_none d (subst (λ (ds : List Deed). Contains ds d) b.deeds h));
    lines = λ later earlier s e. absurd (no_line later earlier s e);
    left = λ e. absurd (let q : false ≡ true = e in cc);
  }

  one_more : (v : View X) (d : Deed) (served : List Served) (s : Served) → HasLine r v d served false → HasLine r v d (s ∷ served) false
  one_more v d served s (inl l) = inl record { later = s ∷ l.later; served = l.served; earlier = l.earlier; split = ap (λ (z : List Served). s ∷ z) l.split; so = l.so }
  one_more v d served s (inr l) = absurd (let q : false ≡ true = l.0 in cc)

  pub lines_more : (w : View X) (served : List Served) (s : Served) → Tells r w served s → ((later earlier : List Served) (x : Served) → served ≡ later ++ x ∷ earlier → Tells r w earlier x)
      → (later earlier : List Served) (x : Served) → s ∷ served ≡ later ++ x ∷ earlier → Tells r w earlier x
  lines_more w served s t h [] earlier x e =
      let is : s ≡ x = cc in
      let rest : served ≡ earlier = cc in
      subst (λ (z : List Served). Tells r w z x) rest (subst (λ (z : Served). Tells r w served z) is t)
  lines_more w served s t h (y ∷ later) earlier x e = let rest : served ≡ later ++ x ∷ earlier = cc in h later earlier x rest

  pub account_after : (v w : View X) (served : List Served) (s : Served) → Account r v served false → Adds r v served s w → Account r w (s ∷ served) false
  account_after v w served s a n = record {
    opening = λ b lt. n.keeps.seen _ (a.opening b lt);
    drawn = λ x. let c = count_line (drew_version x) s served in n.drawn x ∙ ap (λ m. one_if (drew_version x s) + m) (a.drawn x) ∙ sym c;
    draws = let c = count_line drew_some s served in n.draws ∙ ap (λ m. one_if (drew_some s) + m) a.draws ∙ sym c;
    deeds = λ d h. ⊎_elim
        (λ (q : Contains v.deeds d). let o = a.deeds d q in (o.0 ∙ sym n.keeps.pass, one_more w d served s (line_later r v w n.keeps d served false o.1)))
        (λ (q : (d.pass ≡ v.pass) × IsDeedOf r w d served s). (q.0 ∙ sym n.keeps.pass, inl record { later = []; served = s; earlier = served; split = refl; so = q.1 }))
        (n.deeds d h);
    lines = lines_more w served s n.tells (λ later earlier x e. tells_later r v w n.keeps earlier x (a.lines later earlier x e));
    left = λ e. absurd (let q : false ≡ true = e in cc);
  }

  at_its_end : (w : View X) (d : Deed) (served : List Served) → HasLine r w d served false → HasLine r w d served true
  at_its_end w d served (inl l) = inl l
  at_its_end w d served (inr l) = absurd (let q : false ≡ true = l.0 in cc)

  pub account_left : (v w : View X) (served : List Served) → Account r v served false → Leaves r v served w → Account r w served true
  account_left v w served a n = record {
    opening = λ b lt. n.keeps.seen _ (a.opening b lt);
    drawn = λ x. n.drawn x ∙ a.drawn x;
    draws = n.draws ∙ a.draws;
    deeds = λ d h. ⊎_elim
        (λ (q : Contains v.deeds d). let o = a.deeds d q in (o.0 ∙ sym n.keeps.pass, at_its_end w d served (line_later r v w n.keeps d served false o.1)))
        (λ (q : (d.pass ≡ v.pass) × IsDeedOfEnd r.setting d served). (q.0 ∙ sym n.keeps.pass, inr (refl, q.1)))
        (n.deeds d h);
    lines = λ later earlier x e. tells_later r v w n.keeps earlier x (a.lines later earlier x e);
    left = λ e. n.halts;
  }

  pub account_along : (start end : View X) (stages : List (Stage X)) → Begins r start → Course r start stages end → Account r end (lines_in stages) false
  account_along start end [] b c = subst (λ (v : View X). Account r v [] false) (sym c) (account_begins start b)
  account_along start end (s ∷ earlier) b c = subst (λ (v : View X). Account r v (s.served ∷ lines_in earlier) false) (sym c.0)
      (account_after s.before s.after (lines_in earlier) s.served (account_along start s.before earlier b c.2) c.1)
