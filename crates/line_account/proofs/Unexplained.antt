-- Lines that no run explains.
use Rattle.std.proofs.Common.{Bool, Contains, ◌≡◌, ◌⊎◌, inl, inr, ⊎_elim, ℕ, ◌<◌, ◌≤◌, zero, suc, List, [], ◌∷◌, ◌++◌, sym, refl, ap, ◌∙◌, subst, arith, true, cond}
use Rattle.std.specs.Prelude.{IsTrue, None, Some}
use mathlib.Core.Option.{some, some-injective, some-ne-none}
use lib.ListN.{get_elem?}
use Rattle.lock_word.specs.Words.{epoch_at, epoch_number, stage_of, version_of}
use Rattle.lock_word.specs.declared.epoch.Epoch.{Epoch}
use Rattle.store_key.specs.Anchor.{anchor_of}
use Rattle.store_key.specs.Key.{key_of}
use Rattle.script_text.specs.declared.answer.Answer.{Answer}
use Rattle.script_text.specs.declared.answer.Answer.TheVariants as answer
use Rattle.script_text.specs.declared.body.Body.{Body}
use Rattle.script_text.specs.declared.line.Line.{Line}
use Rattle.script_text.specs.declared.request.Request.{Request}
use Rattle.script_text.specs.declared.request.Request.TheVariants.{Add, Begin, DropTab, Get, More, OpenTab, Purge, Put}
use Rattle.core_model.specs.Anchors.{opening_counter, opening_epoch}
use Rattle.line_account.specs.Alone.{alone, home}
use Rattle.line_account.specs.Answers.{IsWhole, Run, TellsDoom}
use Rattle.line_account.specs.Closing.{BegunIn, HaltedIn, LineIn, TellsBegunIn, Worker}
use Rattle.line_account.specs.Crews.KnewOf.{own}
use Rattle.line_account.specs.Deeds.{Began, Begins, PrintsBegunVersion, TellsBegun}
use Rattle.script_text.specs.Requests.{url_in}
use Rattle.line_account.specs.Lines.{Offers, Served, begins, begun_of, closes, ends, gives_up, opened_of, opens, reading, url_at, writing}
use Rattle.line_account.specs.Order.{Opens, counts_as}
use Rattle.line_account.specs.Printed.{Finds, NeedsTooMany, PrintsEnded, ReadsVersion, ReadsWhole, TellsFound}
use Rattle.line_account.specs.Tabs.{ReadsPart}
use Rattle.line_account.specs.Rules.{KeepsRules}

-- The lines of a worker, from all of them.

two_lines : (s t : Served) (later earlier : List Served) (x : Served) → s ∷ t ∷ [] ≡ later ++ x ∷ earlier → (s ≡ x) ⊎ (t ≡ x)
two_lines s t [] earlier x e = inl cc
two_lines s t (y ∷ []) earlier x e = inr cc
two_lines s t (y ∷ z ∷ []) earlier x e = absurd (let n : [] ≡ x ∷ earlier = cc in cc)
two_lines s t (y ∷ z ∷ v ∷ later) earlier x e = absurd (let n : [] ≡ v ∷ (later ++ x ∷ earlier) = cc in cc)

one_url : (u v : List ℕ) → Some u ≡ Some v → u ≡ v
one_url u v e = cc

module _ {X : Type 0} (r : Run X) (script : List Line) (crew : List Worker) (rules : KeepsRules r script crew) where
  -- a worker of the crew printed BEGUN on the tab 0, and nothing more of it than this list has
  module _ (j : ℕ) (u : Worker) (at : get_elem? crew j ≡ some u) (later : List Served) (b : Served) (served : u.served ≡ later ++ b ∷ []) (url : List ℕ) (body : Body) (x : ℕ)
      (bq : b.asked.request ≡ Begin 0 url body) (ba : b.answer ≡ answer.Begun x) where
    abbrev a : ℕ
    a = anchor_of (key_of url) r.setting.anchors

    tells_begun : TellsBegunIn r crew a x
    tells_begun = record {
      j = j;
      worker = u;
      at = at;
      later = later;
      served = b;
      earlier = [];
      split = served;
      so = record {
        anchor = record { url = url; named_is = ap url_in bq; anchor = refl };
        told = subst (λ (q : Request). TellsBegun q b.answer x) (sym bq) (subst (λ (z : Answer). TellsBegun (Begin 0 url body) z x) (sym ba) refl);
      };
    }

    begins_x : Begins r.setting.anchors b a x
    unfolding tells_begun
    begins_x = rules.versions.told a x tells_begun

    begun : BegunIn r crew a x
    begun = record { j = j; worker = u; at = at; later = later; served = b; earlier = []; split = served; so = begins_x }

    high : opening_counter r.setting < x
    high = (rules.versions.bounds a x begun).0

    begins_there : begins 0 b.asked.request b.answer ≡ true
    begins_there = ap (λ (q : Request). begins 0 q b.answer) bq ∙ ap (begins 0 (Begin 0 url body)) ba

    writes : writing 0 (b ∷ []) ≡ Some b
    writes = λ i. cond (begins_there i) (Some b) (cond (ends 0 b.asked.request b.answer) None None)

    -- no `get` prints HIT of what was halted
    no_hit : IsTrue r.tells → (l : ℕ) (w : Worker) → get_elem? crew l ≡ some w → (g : Served) (bytes : List ℕ) → w.served ≡ g ∷ [] → g.asked.request ≡ Get url → g.answer ≡ answer.Hit x bytes → HaltedIn r crew a x → ⊥
    no_hit y l w there g bytes ws gq ga halted = (rules.bodies y).not_halted a x hit high halted
      where
        hit : LineIn crew (λ earlier s. ReadsWhole r.setting.anchors earlier s a x)
        hit = record {
          j = l;
          worker = w;
          at = there;
          later = [];
          served = g;
          earlier = [];
          split = ws;
          so = record {
            of = record {
              first = g;
              opened_is = ap (opened_of [] g) gq;
              anchor = record { url = url; named_is = ap url_in gq; anchor = refl };
              told = subst (λ (z : Answer). Opens z x) (sym ga) refl;
            };
            whole = subst IsWhole (sym ga) tt;
          };
        }

module _ {X : Type 0} (r : Run X) (script : List Line) (u w : Worker) (rules : KeepsRules r script (u ∷ w ∷ [])) (y : IsTrue r.tells) where
  pub dropped_not_hit : (b d g : Served) (url bytes : List ℕ) (body : Body) (x : ℕ) → u.served ≡ d ∷ b ∷ [] → w.served ≡ g ∷ []
      → b.asked.request ≡ Begin 0 url body → b.answer ≡ answer.Begun x → d.asked.request ≡ DropTab 0 → d.answer ≡ answer.Dropped
      → g.asked.request ≡ Get url → g.answer ≡ answer.Hit x bytes → ⊥
  dropped_not_hit b d g url bytes body x us ws bq ba dq da gq ga =
      let began = begins_x r script (u ∷ w ∷ []) rules 0 u refl (d ∷ []) b us url body x bq ba in
      no_hit r script (u ∷ w ∷ []) rules 0 u refl (d ∷ []) b us url body x bq ba y 1 w refl g bytes ws gq ga (inl (record {
        j = 0;
        worker = u;
        at = refl;
        later = [];
        served = d;
        earlier = b ∷ [];
        split = us;
        so = record {
          writes = record {
            first = b;
            begun_is = ap (begun_of (b ∷ []) d) dq ∙ writes r script (u ∷ w ∷ []) rules 0 u refl (d ∷ []) b us url body x bq ba;
            drew = began.drew;
            anchor = began.anchor;
          };
          gave_up = ap gives_up da;
        };
      }))

  -- nor is what ended with FULL given to its end
  pub refused_not_whole : (b d o m : Served) (url bytes : List ℕ) (body : Body) (x count : ℕ) → u.served ≡ d ∷ b ∷ [] → w.served ≡ m ∷ o ∷ []
      → b.asked.request ≡ Begin 0 url body → b.answer ≡ answer.Begun x → d.asked.request ≡ Add 0 count → d.answer ≡ answer.Full
      → o.asked.request ≡ OpenTab 0 url → o.answer ≡ answer.Opened x → m.asked.request ≡ More 0 → m.answer ≡ answer.End bytes → ⊥
  refused_not_whole b d o m url bytes body x count us ws bq ba dq da oq oa mq ma =
      let began = begins_x r script (u ∷ w ∷ []) rules 0 u refl (d ∷ []) b us url body x bq ba in
      (rules.bodies y).not_halted (anchor_of (key_of url) r.setting.anchors) x
      (record {
        j = 1;
        worker = w;
        at = refl;
        later = [];
        served = m;
        earlier = o ∷ [];
        split = ws;
        so = record {
          of = record {
            first = o;
            opened_is = ap (opened_of (o ∷ []) m) mq ∙ reads;
            anchor = record { url = url; named_is = ap url_in oq; anchor = refl };
            told = subst (λ (z : Answer). Opens z x) (sym oa) refl;
          };
          whole = subst IsWhole (sym ma) tt;
        };
      })
      (high r script (u ∷ w ∷ []) rules 0 u refl (d ∷ []) b us url body x bq ba)
      (inl (record {
        j = 0;
        worker = u;
        at = refl;
        later = [];
        served = d;
        earlier = b ∷ [];
        split = us;
        so = record {
          writes = record {
            first = b;
            begun_is = ap (begun_of (b ∷ []) d) dq ∙ writes r script (u ∷ w ∷ []) rules 0 u refl (d ∷ []) b us url body x bq ba;
            drew = began.drew;
            anchor = began.anchor;
          };
          gave_up = ap gives_up da;
        };
      }))
    where
      opened : opens 0 o.asked.request o.answer ≡ true
      opened = ap (λ (q : Request). opens 0 q o.answer) oq ∙ ap (opens 0 (OpenTab 0 url)) oa

      reads : reading 0 (o ∷ []) ≡ Some o
      reads = λ i. cond (opened i) (Some o) (cond (closes 0 o.asked.request o.answer) None None)

  pub left_not_hit : (b g : Served) (url bytes : List ℕ) (body : Body) (x : ℕ) → u.served ≡ b ∷ [] → w.served ≡ g ∷ []
      → b.asked.request ≡ Begin 0 url body → b.answer ≡ answer.Begun x → g.asked.request ≡ Get url → g.answer ≡ answer.Hit x bytes → ⊥
  left_not_hit b g url bytes body x us ws bq ba gq ga =
      let began = begins_x r script (u ∷ w ∷ []) rules 0 u refl [] b us url body x bq ba in
      no_hit r script (u ∷ w ∷ []) rules 0 u refl [] b us url body x bq ba y 1 w refl g bytes ws gq ga (inr (record {
        j = 0;
        worker = u;
        at = refl;
        writing = record {
          tab = 0;
          writes = record {
            first = b;
            begun_is = ap (writing 0) us ∙ writes r script (u ∷ w ∷ []) rules 0 u refl [] b us url body x bq ba;
            drew = began.drew;
            anchor = began.anchor;
          };
        };
      }))

module _ {X : Type 0} (r : Run X) (script : List Line) (w : Worker) (rules : KeepsRules r script (alone w)) where
  abbrev line_in : (later : List Served) (s : Served) (earlier : List Served) → w.served ≡ later ++ s ∷ earlier → (P : List Served → Served → Type 0) → P earlier s → LineIn (alone w) P
  line_in later s earlier e P h = record { j = 0; worker = w; at = refl; later = later; served = s; earlier = earlier; split = e; so = h }

  abbrev FindsSo : ℕ → ℕ → List ℕ → List Served → Served → Type 0
  FindsSo a x url earlier s = Finds r.setting.anchors s a x url

  pub never_opened : (s : Served) (url : List ℕ) → w.served ≡ s ∷ [] → opening_epoch r.setting (home r url) ≡ 0 → s.asked.request ≡ OpenTab 0 url → s.answer ≡ answer.Opened 0 → ⊥
  never_opened s url e none sq sa =
      let had = rules.epochs.found_old (home r url) 0 url
      (line_in [] s [] e (FindsSo (home r url) 0 url) (record { named = ap url_in sq; anchor = refl; found = subst (λ (z : Answer). TellsFound z 0) (sym sa) refl })) (omega arith) in
      let empty = ap stage_of none in
      omega arith

  pub never_purged : (s : Served) (e : Epoch) → w.served ≡ s ∷ [] → s.answer ≡ answer.Purged e → (2 ≤ stage_of (epoch_number e)) × (stage_of (epoch_number e) ≤ 4)
  never_purged s e is sa = rules.epochs.purged_stage e (line_in [] s [] is (λ earlier z. TellsDoom z.answer e) (subst (λ (z : Answer). TellsDoom z e) (sym sa) refl))

  pub never_before : (g p : Served) (url bytes : List ℕ) (body : Body) (x : ℕ) → w.served ≡ p ∷ g ∷ [] → g.asked.request ≡ Get url → g.answer ≡ answer.Hit x bytes → p.asked.request ≡ Put url body → p.answer ≡ answer.Stored x → ⊥
  never_before g p url bytes body x is gq ga pq pa =
      let a : ℕ = home r url in
      let begun = rules.versions.told a x (line_in [] p (g ∷ []) is (λ earlier z. PrintsBegunVersion r.setting.anchors z a x) (record {
        anchor = record { url = url; named_is = ap url_in pq; anchor = refl };
        told = subst (λ (q : Request). TellsBegun q p.answer x) (sym pq) (subst (λ (z : Answer). TellsBegun (Put url body) z x) (sym pa) refl);
      })) in
      let later = rules.order.begun a a x (epoch_at x 2) g [] (line_in [] p (g ∷ []) is (λ earlier z. Begins r.setting.anchors z a x) begun)
      (own (record { later = []; split = refl }))
      (record {
        at = record { url = url; named_is = ap (url_at []) gq; anchor = refl };
        counts = subst (λ (z : Answer). Contains (counts_as z) (epoch_at x 2)) (sym ga) (0, omega arith, refl);
      }) in
      omega arith

  pub never_changed : (o m : Served) (url bytes : List ℕ) (x : ℕ) (e : Epoch) → w.served ≡ m ∷ o ∷ [] → o.asked.request ≡ OpenTab 0 url → o.answer ≡ answer.Opened x → m.asked.request ≡ More 0 → m.answer ≡ answer.Part e bytes
      → version_of (epoch_number e) ≡ x
  never_changed o m url bytes x e is oq oa mq ma = rules.tabs.part (home r url) x e
      (line_in [] m (o ∷ []) is (λ earlier z. ReadsPart r.setting.anchors earlier z (home r url) x e) (record { of = reads; bytes = bytes; printed = ma }))
    where
      opened : opens 0 o.asked.request o.answer ≡ true
      opened = ap (λ (q : Request). opens 0 q o.answer) oq ∙ ap (opens 0 (OpenTab 0 url)) oa

      reads : ReadsVersion r.setting.anchors (o ∷ []) m (home r url) x
      reads = record {
        first = o;
        opened_is = ap (opened_of (o ∷ []) m) mq ∙ ap (λ (b : Bool). cond b (Some o) (cond (closes 0 o.asked.request o.answer) None (reading 0 []))) opened;
        anchor = record { url = url; named_is = ap url_in oq; anchor = refl };
        told = subst (λ (z : Answer). Opens z x) (sym oa) refl;
      }

  pub never_stored : (p : Served) (url : List ℕ) (body : Body) (x : ℕ) → w.served ≡ p ∷ [] → p.asked.request ≡ Put url body → p.answer ≡ answer.Stored x → ¬ NeedsTooMany r url body
  never_stored p url body x is pq pa = rules.answers.small p url body
      (line_in [] p [] is (λ earlier z. PrintsEnded earlier z p) (record { begun_is = ap (begun_of [] p) pq; version = x; printed = inl pa }))
      (subst (λ (q : Request). Offers q url body) (sym pq) (refl, refl))

  -- a `put` of one URL, and a `purge` of another
  module _ (p s : Served) (url other : List ℕ) (body : Body) (x : ℕ) (e : Epoch) (is : w.served ≡ s ∷ p ∷ []) (pq : p.asked.request ≡ Put other body) (pa : p.answer ≡ answer.Stored x)
      (sq : s.asked.request ≡ Purge url) (sa : s.answer ≡ answer.Purged e) (of : version_of (epoch_number e) ≡ x) where
    abbrev here : ℕ
    here = home r url

    abbrev put_at : ℕ
    put_at = home r other

    put_begun : TellsBegunIn r (alone w) put_at x
    put_begun = record {
      j = 0;
      worker = w;
      at = refl;
      later = s ∷ [];
      served = p;
      earlier = [];
      split = is;
      so = record {
        anchor = record { url = other; named_is = ap url_in pq; anchor = refl };
        told = subst (λ (q : Request). TellsBegun q p.answer x) (sym pq) (subst (λ (z : Answer). TellsBegun (Put other body) z x) (sym pa) refl);
      };
    }

    above : opening_counter r.setting < x
    unfolding put_begun
    above = (rules.versions.bounds put_at x (line_in (s ∷ []) p [] is (λ earlier z. Begins r.setting.anchors z put_at x) (rules.versions.told put_at x put_begun))).0

    -- the line that began a version is the `put`
    begun_by_put : (l : ℕ) (v : Worker) → get_elem? (alone w) l ≡ some v → (later earlier : List Served) (z : Served) → v.served ≡ later ++ z ∷ earlier → Begins r.setting.anchors z here x → p ≡ z
    begun_by_put zero v at later earlier z split begins_it = ⊎_elim
        (λ (purge : s ≡ z). absurd (subst (λ (q : Request). Began q z.answer x) (ap (λ (y : Served). y.asked.request) (sym purge) ∙ sq) begins_it.began))
        (λ (put : p ≡ z). put)
        (two_lines s p later earlier z (sym is ∙ ap Worker.served (some-injective w v at) ∙ split))
    begun_by_put (suc l) v at later earlier z split begins_it = absurd (some-ne-none v (sym at))

    pub one_key : key_of other ≡ key_of url
    one_key =
        let k = rules.keys.found_new here x url (line_in [] s (p ∷ []) is (FindsSo here x url) (record { named = ap url_in sq; anchor = refl; found = subst (λ (z : Answer). TellsFound z x) (sym sa) of })) above in
        let put = begun_by_put k.begun.j k.begun.worker k.begun.at k.begun.later k.begun.earlier k.begun.served k.begun.split k.begun.so in
        let same : k.url ≡ other = one_url k.url other (sym k.url_is ∙ ap (λ (y : Served). url_in y.asked.request) (sym put) ∙ ap url_in pq) in
        sym (k.key_is ∙ ap key_of same)
