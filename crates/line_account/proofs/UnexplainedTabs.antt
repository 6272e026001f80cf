-- What no tab is given.
use Rattle.std.proofs.Common.{Bool, ◌≡◌, ◌⊎◌, inl, inr, ⊎_elim, ℕ, ◌<◌, zero, suc, List, [], ◌∷◌, ◌++◌, sym, refl, ap, ◌∙◌, subst, true, false, cond}
use Rattle.std.specs.Prelude.{IsTrue, None, Some}
use mathlib.Core.Option.{some, some-injective, some-ne-none}
use lib.ListN.{get_elem?}
use Rattle.store_key.specs.Key.{key_of}
use Rattle.plain_model.specs.Serving.{bytes_of}
use Rattle.script_text.specs.declared.answer.Answer.{Answer}
use Rattle.script_text.specs.declared.answer.Answer.TheVariants as answer
use Rattle.script_text.specs.declared.body.Body.{Body}
use Rattle.script_text.specs.declared.line.Line.{Line}
use Rattle.script_text.specs.declared.request.Request.{Request}
use Rattle.script_text.specs.declared.request.Request.TheVariants.{More, OpenTab, Put}
use Rattle.core_model.specs.Anchors.{opening_counter}
use Rattle.line_account.specs.Alone.{alone, home}
use Rattle.line_account.specs.Answers.{IsWhole, Reads, Run, bytes_of_tab, bytes_with}
use Rattle.line_account.specs.Closing.{HaltedIn, TellsBegunIn, Worker}
use Rattle.line_account.specs.Deeds.{Began, Begins, TellsBegun}
use Rattle.script_text.specs.Requests.{url_in}
use Rattle.line_account.specs.Lines.{Offers, Served, begins, bytes_given, bytes_in, closes, ends, gives_up, given_by, opened_of, opens, reading, writing}
use Rattle.line_account.specs.Order.{Opens}
use Rattle.line_account.specs.Printed.{ReadsVersion, TellsFound}
use Rattle.line_account.specs.Rules.{KeepsRules}

one_of_two : (s t : Served) (later earlier : List Served) (x : Served) → s ∷ t ∷ [] ≡ later ++ x ∷ earlier → (s ≡ x) ⊎ (t ≡ x)
one_of_two s t [] earlier x e = inl cc
one_of_two s t (y ∷ []) earlier x e = inr cc
one_of_two s t (y ∷ z ∷ []) earlier x e = absurd (let n : [] ≡ x ∷ earlier = cc in cc)
one_of_two s t (y ∷ z ∷ v ∷ later) earlier x e = absurd (let n : [] ≡ v ∷ (later ++ x ∷ earlier) = cc in cc)

one_of_three : (s t u : Served) (later earlier : List Served) (x : Served) → s ∷ t ∷ u ∷ [] ≡ later ++ x ∷ earlier
    → (s ≡ x) ⊎ ((t ≡ x) ⊎ (u ≡ x))
one_of_three s t u [] earlier x e = inl cc
one_of_three s t u (y ∷ later) earlier x e = inr (one_of_two t u later earlier x cc)

one_url : (u v : List ℕ) → Some u ≡ Some v → u ≡ v
one_url u v e = cc

one_body : (u v : Body) → u ≡ v → bytes_of u ≡ bytes_of v
one_body u v e = ap bytes_of e

module _ {X : Type 0} (r : Run X) (script : List Line) (w : Worker) (rules : KeepsRules r script (alone w)) where
  -- the worker is this one
  same_lines : (l : ℕ) (v : Worker) → get_elem? (alone w) l ≡ some v → w.served ≡ v.served
  same_lines zero v at = ap Worker.served (some-injective w v at)
  same_lines (suc l) v at = absurd (some-ne-none v (sym at))

  -- a line of it that stored a body
  module _ (later earlier : List Served) (p : Served) (url : List ℕ) (body : Body) (x : ℕ) (is : w.served ≡ later ++ p ∷ earlier)
      (pq : p.asked.request ≡ Put url body) (pa : p.answer ≡ answer.Stored x) where
    put_begun : TellsBegunIn r (alone w) (home r url) x
    put_begun = record {
      j = 0;
      worker = w;
      at = refl;
      later = later;
      served = p;
      earlier = earlier;
      split = is;
      so = record {
        anchor = record { url = url; named_is = ap url_in pq; anchor = refl };
        told = subst (λ (q : Request). TellsBegun q p.answer x) (sym pq) (subst (λ (z : Answer). TellsBegun (Put url body) z x) (sym pa) refl);
      };
    }

    above : opening_counter r.setting < x
    unfolding put_begun
    above = (rules.versions.bounds (home r url) x (record { j = 0; worker = w; at = refl; later = later; served = p; earlier = earlier; split = is; so = rules.versions.told (home r url) x put_begun })).0

  -- `open` of another URL
  module _ (p s : Served) (url other : List ℕ) (body : Body) (x : ℕ) (is : w.served ≡ s ∷ p ∷ []) (pq : p.asked.request ≡ Put other body)
      (pa : p.answer ≡ answer.Stored x)
      (sq : s.asked.request ≡ OpenTab 0 url) (sa : s.answer ≡ answer.Opened x) where
    begun_by_put : (l : ℕ) (v : Worker) → get_elem? (alone w) l ≡ some v → (later earlier : List Served) (z : Served)
        → v.served ≡ later ++ z ∷ earlier → Begins r.setting.anchors z (home r url) x → p ≡ z
    begun_by_put l v at later earlier z split begins_it = ⊎_elim
        (λ (opening : s ≡ z). absurd (subst (λ (q : Request). Began q z.answer x) (ap (λ (y : Served). y.asked.request) (sym opening) ∙ sq) begins_it.began))
        (λ (put : p ≡ z). put)
        (one_of_two s p later earlier z (sym is ∙ same_lines l v at ∙ split))

    pub opened_key : key_of other ≡ key_of url
    opened_key =
        let k = rules.keys.found_new (home r url) x url
        (record { j = 0; worker = w; at = refl; later = []; served = s; earlier = p ∷ []; split = is; so = record { named = ap url_in sq; anchor = refl; found = subst (λ (z : Answer). TellsFound z x) (sym sa) refl } })
        (above (s ∷ []) [] p other body x is pq pa) in
        let put = begun_by_put k.begun.j k.begun.worker k.begun.at k.begun.later k.begun.earlier k.begun.served k.begun.split k.begun.so in
        let same : k.url ≡ other = one_url k.url other (sym k.url_is ∙ ap (λ (y : Served). url_in y.asked.request) (sym put) ∙ ap url_in pq) in
        sym (k.key_is ∙ ap key_of same)

  -- `put`, and `open` and `more` of what it stored
  module _ (p o m : Served) (url : List ℕ) (body : Body) (x : ℕ) (is : w.served ≡ m ∷ o ∷ p ∷ []) (pq : p.asked.request ≡ Put url body)
      (pa : p.answer ≡ answer.Stored x)
      (oq : o.asked.request ≡ OpenTab 0 url) (oa : o.answer ≡ answer.Opened x) (mq : m.asked.request ≡ More 0) where
    abbrev here : ℕ
    here = home r url

    opened : opens 0 o.asked.request o.answer ≡ true
    opened = ap (λ (q : Request). opens 0 q o.answer) oq ∙ ap (opens 0 (OpenTab 0 url)) oa

    reads_first : reading 0 (o ∷ p ∷ []) ≡ Some o
    reads_first = λ i. cond (opened i) (Some o) (cond (closes 0 o.asked.request o.answer) None (reading 0 (p ∷ [])))

    none_before : bytes_given 0 (o ∷ p ∷ []) ≡ []
    none_before = λ i. cond (opened i) [] (bytes_given 0 (p ∷ []) ++ given_by 0 o.asked.request o.answer)

    abbrev of : ReadsVersion r.setting.anchors (o ∷ p ∷ []) m here x
    of = record {
      first = o;
      opened_is = ap (opened_of (o ∷ p ∷ []) m) mq ∙ reads_first;
      anchor = record { url = url; named_is = ap url_in oq; anchor = refl };
      told = subst (λ (z : Answer). Opens z x) (sym oa) refl;
    }

    -- the line that began the version is the `put`
    begun_by : (l : ℕ) (v : Worker) → get_elem? (alone w) l ≡ some v → (later earlier : List Served) (z : Served)
        → v.served ≡ later ++ z ∷ earlier → Begins r.setting.anchors z here x → p ≡ z
    begun_by l v at later earlier z split begins_it = ⊎_elim
        (λ (more : m ≡ z). absurd (subst (λ (q : Request). Began q z.answer x) (ap (λ (y : Served). y.asked.request) (sym more) ∙ mq) begins_it.began))
        (λ (rest : (o ≡ z) ⊎ (p ≡ z)). ⊎_elim
        (λ (opening : o ≡ z). absurd (subst (λ (q : Request). Began q z.answer x) (ap (λ (y : Served). y.asked.request) (sym opening) ∙ oq) begins_it.began))
        (λ (put : p ≡ z). put)
        rest)
        (one_of_three m o p later earlier z (sym is ∙ same_lines l v at ∙ split))

    pub its_body : IsTrue r.tells → (bytes : List ℕ) → m.answer ≡ answer.End bytes → bytes ≡ bytes_of body
    its_body y bytes ma =
        let f = rules.tabs.new y here x
        (record { j = 0; worker = w; at = refl; later = []; served = m; earlier = o ∷ p ∷ []; split = is; so = record { of = of; reads = subst Reads (sym ma) tt } })
        (above (m ∷ o ∷ []) [] p url body x is pq pa) in
        let put = begun_by f.begun.j f.begun.worker f.begun.at f.begun.later f.begun.earlier f.begun.served f.begun.split f.begun.so in
        let offered : Offers (Put url body) f.url f.body = subst (λ (q : Request). Offers q f.url f.body) (ap (λ (z : Served). z.asked.request) (sym put) ∙ pq) f.offers in
        sym given ∙ f.whole (subst IsWhole (sym ma) tt) ∙ sym (one_body body f.body offered.1)
      where
        given : bytes_with (o ∷ p ∷ []) m ≡ bytes
        given = ap (bytes_of_tab (o ∷ p ∷ []) m) mq ∙ (λ i. cond (opens 0 (mq i) m.answer) [] (none_before i ++ given_by 0 (mq i) m.answer)) ∙ ap bytes_in ma

    -- no line gave the writing up
    stored_so : (a : Answer) → a ≡ answer.Stored x → gives_up a ≡ false
    stored_so a e = ap gives_up e

    none_writes : (t : ℕ) → writing t (m ∷ o ∷ p ∷ []) ≡ None
    none_writes t = with_line m (o ∷ p ∷ []) (ap (λ (q : Request). begins t q m.answer) mq) (with_line o (p ∷ []) (ap (λ (q : Request). begins t q o.answer) oq) (with_line p [] (ap (λ (q : Request). begins t q p.answer) pq) refl))
      where
        same : (b : Bool) → cond b None (writing t []) ≡ None
        same true = refl
        same false = refl

        with_line : (s : Served) (earlier : List Served) → begins t s.asked.request s.answer ≡ false → writing t earlier ≡ None
            → writing t (s ∷ earlier) ≡ None
        with_line s earlier not_begun before = (λ i. cond (not_begun i) (Some s) (cond (ends t s.asked.request s.answer) None (before i))) ∙ same (ends t s.asked.request s.answer)

    pub never_halted : (bytes : List ℕ) → m.answer ≡ answer.Halted bytes → ⊥
    never_halted bytes ma = no_halt (rules.tabs.halted here x
        (record { j = 0; worker = w; at = refl; later = []; served = m; earlier = o ∷ p ∷ []; split = is; so = record { of = of; bytes = bytes; printed = ma } }))
      where
        kept : (z : Served) → (m ≡ z) ⊎ ((o ≡ z) ⊎ (p ≡ z)) → gives_up z.answer ≡ false
        kept z (inl e) = ap (λ (s : Served). gives_up s.answer) (sym e) ∙ ap gives_up ma
        kept z (inr (inl e)) = ap (λ (s : Served). gives_up s.answer) (sym e) ∙ ap gives_up oa
        kept z (inr (inr e)) = ap (λ (s : Served). gives_up s.answer) (sym e) ∙ ap gives_up pa

        no_halt : HaltedIn r (alone w) here x → ⊥
        no_halt (inl q) =
            let z : true ≡ false = sym q.so.gave_up ∙ kept q.served (one_of_three m o p q.later q.earlier q.served (sym is ∙ same_lines q.j q.worker q.at ∙ q.split)) in
            cc
        no_halt (inr q) =
            let z : None ≡ Some q.writing.writes.first = sym (none_writes q.writing.tab) ∙ ap (writing q.writing.tab) (sym is ∙ same_lines q.j q.worker q.at) ∙ q.writing.writes.begun_is in
            cc
