-- A `put` and a `get` keep all rules.
use Rattle.std.proofs.Common.{length, min, mul-le-mul_right, ◌≡◌, ◌⊎◌, inl, inr, ⊎_elim, ℕ, ◌<◌, ◌≤◌, ◌↔◌, zero, suc, List, [], ◌∷◌, ◌++◌}
use Rattle.std.proofs.Common.{sym, refl, ap, ◌∙◌, subst, arith, Bool, true, false, cond, Contains}
use Rattle.std.proofs.lemmas.List.Sums.{sum_by-cons}
use Rattle.std.specs.Prelude.{None, Some}
use mathlib.Core.Option.{some, some-injective, some-ne-none}
use lib.ListN.{get_elem?}
use Rattle.store_key.specs.Anchor.{anchor_of}
use Rattle.store_key.specs.Key.{key_of}
use Rattle.lock_word.specs.Words.{epoch_at, is_readable, version_of}
use Rattle.lock_word.proofs.Testing.{readable_where}
use Rattle.plain_model.specs.Serving.{bytes_of}
use Rattle.script_text.specs.declared.answer.Answer.TheVariants as answer
use Rattle.script_text.specs.declared.body.Body.{Body}
use Rattle.script_text.specs.declared.line.Line.{Line}
use Rattle.script_text.specs.declared.request.Request.TheVariants.{Await, End, Get, More, Put}
use Rattle.core_model.specs.Anchors.{opening_counter, opening_epoch}
use Rattle.core_model.proofs.Lists.{cons_contains, contains_none}
use Rattle.line_account.specs.Accounts.{Shows}
use Rattle.line_account.specs.Alone.{alone, home, next_version, nothing}
use Rattle.line_account.specs.Answers.{Refuses, Run, TellsDoom, bytes_with}
use Rattle.line_account.specs.Bodies.{HaveBodies, HaveKeys}
use Rattle.line_account.specs.Closing.{BegunIn, HaltedIn, LineIn, PrintsDoomed, PrintsHalted, Stores, TellsBegunIn, Worker}
use Rattle.line_account.specs.Crews.{IsAmong, KnewOf}
use Rattle.line_account.specs.Crews.KnewOf.{own, told}
use Rattle.line_account.specs.Deeds.{Began, Begins, Halts, PrintsBegun, PrintsBegunVersion}
use Rattle.line_account.specs.Epochs.{EpochsHaveCauses}
use Rattle.run_rules.specs.Lawful.{MayBegin, get_line, put_and_get, put_and_get_script, put_line}
use Rattle.script_text.specs.Requests.{url_in}
use Rattle.line_account.specs.Lines.{Fits, IsAnchorOf, IsAt, Offers, Served, Writes, offers, writing}
use Rattle.line_account.specs.Order.{FindsEntry, NotBelow, Opens, PrintsAlone, counts_as}
use Rattle.line_account.specs.Ordering.{AreInOrder, AreNotShort}
use Rattle.line_account.specs.Parts.{PrintsPart}
use Rattle.line_account.specs.Printed.{AreFirstOnes, Ends, EndsBegun, Finds, FinishedIn, IsBodyAsPrinted, IsBodyOfLine, IsKeyOfLine}
use Rattle.line_account.specs.Printed.{NeedsTooMany, PrintsAdded, PrintsEnded, PrintsHit, PrintsKey, PrintsLarge, PrintsOther}
use Rattle.line_account.specs.Printed.{PrintsBusy, PrintsReaders, ReadsOf, ReadsVersion, ReadsWhole}
use Rattle.line_account.specs.Refusals.{Any, AnswersHaveCauses}
use Rattle.line_account.specs.Requests.{IsAnswerTo}
use Rattle.line_account.specs.Rules.{KeepsRules}
use Rattle.line_account.specs.Scripts.{offering}
use Rattle.line_account.specs.Stopping.{ReadsBehind, is_end, is_halted, is_other_url}
use Rattle.line_account.specs.Tabs.{IsFrontOfLine, ReadsHalted, ReadsOn, ReadsOther, ReadsPart, TabsStay}
use Rattle.line_account.specs.Versions.{AreBegun}
use Rattle.line_account.proofs.Ordering.{FoundAt, below}

abbrev one_if : Bool → ℕ
one_if b = cond b 1 0

one_of : (e x : ℕ) → Contains (e ∷ []) x → e ≡ x
one_of e x h = ⊎_elim (λ (q : e ≡ x). q) (λ (q : Contains [] x). absurd (contains_none x q)) (cons_contains e x [] h)

one_served : (s t : Served) → Some s ≡ Some t → s ≡ t
one_served s t e = cc

one_url : (u v : List ℕ) → Some u ≡ Some v → u ≡ v
one_url u v e = cc

one_number : (m n : ℕ) → Some m ≡ Some n → m ≡ n
one_number m n e = cc

get_url : (u v : List ℕ) → Get u ≡ Get v → u ≡ v
get_url u v e = cc

hit_version : (x y : ℕ) (u v : List ℕ) → answer.Hit x u ≡ answer.Hit y v → x ≡ y
hit_version x y u v e = cc

hit_bytes : (x y : ℕ) (u v : List ℕ) → answer.Hit x u ≡ answer.Hit y v → u ≡ v
hit_bytes x y u v e = cc

two_lines : (g p : Served) (later earlier : List Served) (s : Served) → g ∷ p ∷ [] ≡ later ++ s ∷ earlier
    → ((g ≡ s) × (p ∷ [] ≡ earlier)) ⊎ ((p ≡ s) × ([] ≡ earlier))
two_lines g p [] earlier s e = inl (cc, cc)
two_lines g p (y ∷ []) earlier s e = inr (cc, cc)
two_lines g p (y ∷ z ∷ []) earlier s e = absurd (let n : [] ≡ s ∷ earlier = cc in cc)
two_lines g p (y ∷ z ∷ v ∷ later) earlier s e = absurd (let n : [] ≡ v ∷ (later ++ s ∷ earlier) = cc in cc)

module _ {X : Type 0} (r : Run X) (url : List ℕ) (m : MayBegin r url) (w : Worker) (is : w.served ≡ put_and_get r url) where
  abbrev x : ℕ
  x = next_version r

  abbrev put : Served
  put = put_line r url

  abbrev get : Served
  get = get_line r url

  abbrev a : ℕ
  a = home r url

  abbrev crew : List Worker
  crew = alone w

  version : version_of (epoch_at x 3) ≡ x
  version = omega arith

  high : opening_counter r.setting < x
  high = omega arith

  -- the lines are these two
  abbrev IsLine : List Served → Served → Type 0
  IsLine earlier s = ((get ≡ s) × (put ∷ [] ≡ earlier)) ⊎ ((put ≡ s) × ([] ≡ earlier))

  two : (later earlier : List Served) (s : Served) → get ∷ put ∷ [] ≡ later ++ s ∷ earlier → IsLine earlier s
  two later earlier s e = two_lines get put later earlier s e

  only : (j : ℕ) (v : Worker) → get_elem? crew j ≡ some v → (j ≡ 0) × (v.served ≡ get ∷ put ∷ [])
  only zero v e = (refl, sym (ap Worker.served (some-injective w v e)) ∙ is)
  only (suc j) v e = absurd (some-ne-none v (sym e))

  -- what holds of both lines holds of each
  each : (Q : List Served → Served → Type 0) → Q (put ∷ []) get → Q [] put → (earlier : List Served) (s : Served) → IsLine earlier s
      → Q earlier s
  each Q of_get of_put earlier s (inl h) = subst (λ (z : List Served). Q z s) h.1 (subst (Q (put ∷ [])) h.0 of_get)
  each Q of_get of_put earlier s (inr h) = subst (λ (z : List Served). Q z s) h.1 (subst (Q []) h.0 of_put)

  by_line : (P Q : List Served → Served → Type 0) → (P (put ∷ []) get → Q (put ∷ []) get) → (P [] put → Q [] put) → (p : LineIn crew P)
      → Q p.earlier p.served
  by_line P Q of_get of_put p = each (λ earlier s. P earlier s → Q earlier s) of_get of_put p.earlier p.served
      (two p.later p.earlier p.served (sym (only p.j p.worker p.at).1 ∙ p.split)) p.so

  -- what neither line prints
  never : (P : List Served → Served → Type 0) → (P (put ∷ []) get → ⊥) → (P [] put → ⊥) → LineIn crew P → ⊥
  never P of_get of_put p = by_line P (λ earlier s. ⊥) of_get of_put p

  among : (j : ℕ) (v : Worker) → get_elem? crew j ≡ some v → (s : Served) (earlier : List Served) → IsAmong v.served s earlier
      → IsLine earlier s
  among j v at s earlier h = two h.later earlier s (sym (only j v at).1 ∙ h.split)

  -- the `put` as one of the lines
  abbrev at_put : (P : List Served → Served → Type 0) → P [] put → LineIn crew P
  at_put P so = record { j = 0; worker = w; at = refl; later = get ∷ []; served = put; earlier = []; split = is; so = so }

  here : (b : ℕ) → IsAnchorOf r.setting.anchors (Some url) b → b ≡ a
  here b h = h.anchor ∙ ap (λ (u : List ℕ). anchor_of (key_of u) r.setting.anchors) (sym (one_url url h.url h.named_is))

  begins : (b y : ℕ) → b ≡ a → x ≡ y → Begins r.setting.anchors put b y
  begins b y at same = record { anchor = record { url = url; named_is = refl; anchor = at }; drew = ap Some same; began = same }

  abbrev begun : (b y : ℕ) → b ≡ a → x ≡ y → BegunIn r crew b y
  begun b y at same = at_put (λ earlier s. Begins r.setting.anchors s b y) (begins b y at same)

  writes : (b y : ℕ) → b ≡ a → x ≡ y → Writes r.setting.anchors [] put b y
  writes b y at same = record {
    first = put;
    begun_is = refl;
    drew = ap Some same;
    anchor =
        record { url = url; named_is = refl; anchor = at };
  }

  old_none : (y : ℕ) → x ≡ y → y ≤ opening_counter r.setting → ⊥
  old_none y same low = let h = high in omega arith

  -- one slot has room for the metadata and no byte
  nothing_is_small : (u : List ℕ) (body : Body) → (url ≡ u) × (nothing ≡ body) → ¬ NeedsTooMany r u body
  nothing_is_small u body h many =
      let some = m.offers.some in
      let few = mul-le-mul_right r.room (let z : 1 ≤ min 4096 r.setting.slots = omega arith in z) in
      let e = ap length h.0 in
      let none : length (bytes_of body) ≡ 0 = sym (ap (λ (b : Body). length (bytes_of b)) h.1) in
      let room = m.offers.short in
      omega arith

  answers : AnswersHaveCauses r (put_and_get_script r url) crew
  answers = record {
    possible = λ p. by_line Any (λ earlier s. IsAnswerTo s.asked.request s.answer) (λ z. tt) (λ z. tt) p;
    tab = λ p. by_line Any (λ earlier s. (s.answer ≡ answer.Tab) ↔ ¬ Fits earlier s.asked.request)
        (λ z. ((λ h. absurd (let k : answer.Hit x [] ≡ answer.Tab = h in cc)), (λ n. absurd (n tt))))
        (λ z. ((λ h. absurd (let k : answer.Stored x ≡ answer.Tab = h in cc)), (λ n. absurd (n tt)))) p;
    long = λ p. absurd (never (λ earlier s. s.answer ≡ answer.LongUrl) (λ h. let k : answer.Hit x [] ≡ answer.LongUrl = h in cc)
        (λ h. let k : answer.Stored x ≡ answer.LongUrl = h in cc) p);
    short = λ u body p far. absurd (never (λ earlier s. Offers s.asked.request u body × Fits earlier s.asked.request) (λ h. h.0)
        (λ h. let e = ap length h.0.0 in let room = m.offers.short in omega arith) p);
    added = λ first u body tab asked count p o. absurd (never (λ earlier s. PrintsAdded earlier s first tab asked count)
        (λ h. let k : answer.Hit x [] ≡ answer.Added count = h.printed in cc)
        (λ h. let k : answer.Stored x ≡ answer.Added count = h.printed in cc) p);
    ended = λ version y p. absurd (never (λ earlier s. EndsBegun earlier s version y) (λ h. let k : Get url ≡ End h.tab = h.request in cc)
        (λ h. let k : Put url nothing ≡ End h.tab = h.request in cc) p);
    opened = λ y p. by_line (λ earlier s. FindsEntry s.answer y) (λ earlier s. (version_of s.opened ≡ y) × (is_readable s.opened ≡ true))
        (λ h. let same : x ≡ y = h in (version ∙ same, readable_where (epoch_at x 3) (inr (omega arith)))) (λ h. absurd h) p;
    part = λ epoch bytes p. absurd (never (λ earlier s. s.answer ≡ answer.Part epoch bytes)
        (λ h. let k : answer.Hit x [] ≡ answer.Part epoch bytes = h in cc)
        (λ h. let k : answer.Stored x ≡ answer.Part epoch bytes = h in cc) p);
    busy = λ looked other p. absurd (never (λ earlier s. s.answer ≡ answer.Busy looked other)
        (λ h. let k : answer.Hit x [] ≡ answer.Busy looked other = h in cc)
        (λ h. let k : answer.Stored x ≡ answer.Busy looked other = h in cc) p);
    readers = λ b p. absurd (never (λ earlier s. PrintsReaders r.setting.anchors earlier s b)
        (λ h. let k : answer.Hit x [] ≡ answer.Busy h.looked h.other = h.printed in cc)
        (λ h. let k : answer.Stored x ≡ answer.Busy h.looked h.other = h.printed in cc) p);
    counted = λ b looked other p. absurd (never (λ earlier s. PrintsBusy r.setting.anchors earlier s b looked other)
        (λ h. let k : answer.Hit x [] ≡ answer.Busy looked other = h.printed in cc)
        (λ h. let k : answer.Stored x ≡ answer.Busy looked other = h.printed in cc) p);
    spent = λ n p. absurd (never (λ earlier s. s.answer ≡ answer.Spent n) (λ h. let k : answer.Hit x [] ≡ answer.Spent n = h in cc)
        (λ h. let k : answer.Stored x ≡ answer.Spent n = h in cc) p);
    large = λ first u body p o. absurd (never (λ earlier s. PrintsLarge earlier s first)
        (λ h. let k : answer.Hit x [] ≡ answer.Large = h.printed in cc) (λ h. let k : answer.Stored x ≡ answer.Large = h.printed in cc) p);
    small = λ first u body p o. by_line (λ earlier s. PrintsEnded earlier s first)
        (λ earlier s. Offers first.asked.request u body → ¬ NeedsTooMany r u body)
        (λ h. absurd (⊎_elim
        (λ (q : answer.Hit x [] ≡ answer.Stored h.version). let z : ⊥ = cc in z)
        (λ (q : answer.Hit x [] ≡ answer.Doomed h.version). let z : ⊥ = cc in z)
        h.printed))
        (λ h offers many. nothing_is_small u body (subst (λ (f : Served). Offers f.asked.request u body)
        (sym (one_served put first h.begun_is)) offers) many) p o;
    full = λ fit p. never (λ earlier s. s.answer ≡ answer.Full) (λ h. let k : answer.Hit x [] ≡ answer.Full = h in cc)
        (λ h. let k : answer.Stored x ≡ answer.Full = h in cc) p;
    other = λ tells u p. absurd (never (λ earlier s. PrintsOther earlier s u)
        (λ h. let k : answer.Hit x [] ≡ answer.OtherUrl = h.printed in cc)
        (λ h. let k : answer.Stored x ≡ answer.OtherUrl = h.printed in cc) p);
    cause = λ cause p. absurd (never (λ earlier s. Refuses s.answer cause) (λ h. h) (λ h. h) p);
  }

  -- the `get` reads what the `put` stored
  of_get : (b y : ℕ) → ReadsVersion r.setting.anchors (put ∷ []) get b y → (b ≡ a) × (x ≡ y)
  of_get b y h =
      let first : get ≡ h.first = one_served get h.first h.opened_is in (
        here b (subst (λ (s : Served). IsAnchorOf r.setting.anchors (url_in s.asked.request) b) (sym first) h.anchor),
        subst (λ (s : Served). Opens s.answer y) (sym first) h.told,
      )

  of_put : (b y : ℕ) → ReadsVersion r.setting.anchors [] put b y → ⊥
  of_put b y h = let k : None ≡ Some h.first = h.opened_is in cc

  finished : (b y : ℕ) → b ≡ a → x ≡ y → FinishedIn r crew b y
  finished b y at same = at_put (λ earlier s. Ends r.setting.anchors earlier s b y)
      (record { writes = writes b y at same; printed = inl (ap answer.Stored same) })

  none_halted : (b y : ℕ) → HaltedIn r crew b y → ⊥
  none_halted b y (inl p) = never (λ earlier s. Halts r.setting.anchors earlier s b y) (λ h. let k : false ≡ true = h.gave_up in cc)
      (λ h. let k : false ≡ true = h.gave_up in cc) p
  none_halted b y (inr q) = let k : None ≡ Some q.writing.writes.first = sym (ap (writing q.writing.tab) (only q.j q.worker q.at).1)
      ∙ q.writing.writes.begun_is in cc

  body_of_line : (u : List ℕ) → url ≡ u → IsBodyOfLine r crew (anchor_of (key_of u) r.setting.anchors) x u []
  body_of_line u same = record {
    begun = begun (anchor_of (key_of u) r.setting.anchors) x (ap (λ (v : List ℕ). anchor_of (key_of v) r.setting.anchors) (sym same)) refl;
    body = nothing;
    offers = (same, refl);
    whole = refl;
  }

  bodies : HaveBodies r crew
  bodies = record {
    hit_old = λ b y u bytes p low. absurd (never (λ earlier s. PrintsHit r.setting.anchors s b y u bytes)
        (λ h. old_none y (hit_version x y [] bytes h.printed) low) (λ h. let k : Put url nothing ≡ Get u = h.request in cc) p);
    hit_new = λ b y u bytes p new. by_line (λ earlier s. PrintsHit r.setting.anchors s b y u bytes)
        (λ earlier s. IsBodyAsPrinted r crew b y u bytes)
        (λ h. let same = get_url url u h.request in
        let version = hit_version x y [] bytes h.printed in
        let at : b ≡ a = h.anchor ∙ ap (λ (v : List ℕ). anchor_of (key_of v) r.setting.anchors) (sym same) in
        record {
          begun = at_put (λ earlier s. PrintsBegunVersion r.setting.anchors s b y)
              (record { anchor = record { url = url; named_is = refl; anchor = at }; told = version });
          body = nothing;
          offers = (same, refl);
          whole = sym (hit_bytes x y [] bytes h.printed);
        })
        (λ h. absurd (let k : Put url nothing ≡ Get u = h.request in cc)) p;
    finished = λ b y p new. by_line (λ earlier s. ReadsWhole r.setting.anchors earlier s b y) (λ earlier s. FinishedIn r crew b y)
        (λ h. let k = of_get b y h.of in finished b y k.0 k.1) (λ h. absurd h.whole) p;
    not_halted = λ b y p new halted. none_halted b y halted;
    bytes = λ first u p. by_line (λ earlier s. ReadsOf earlier s first u)
        (λ earlier s. AreFirstOnes r crew s.answer u (bytes_with earlier s))
        (λ h. let same : url ≡ u = one_url url u (ap (λ (s : Served). url_in s.asked.request) (one_served get first h.opened_is) ∙ h.named)
        in
        record { body = []; stored = record { source = inr (x, body_of_line u same) }; first_ones = refl; whole = λ z. refl })
        (λ h. absurd (let k : None ≡ Some first = h.opened_is in cc)) p;
  }

  keys : HaveKeys r crew
  keys = record {
    old = λ b epoch key u p low old. absurd (never (λ earlier s. PrintsKey r.setting.anchors earlier s b epoch key) (λ h. h.printed)
        (λ h. h.printed) p);
    kept = λ b epoch key p low. absurd (never (λ earlier s. PrintsKey r.setting.anchors earlier s b epoch key) (λ h. h.printed)
        (λ h. h.printed) p);
    new = λ b epoch key p new. absurd (never (λ earlier s. PrintsKey r.setting.anchors earlier s b epoch key) (λ h. h.printed)
        (λ h. h.printed) p);
    found_old = λ b y u kept p low old. absurd (never (λ earlier s. Finds r.setting.anchors s b y u) (λ h. old_none y h.found low)
        (λ h. h.found) p);
    found_new = λ b y u p new. by_line (λ earlier s. Finds r.setting.anchors s b y u) (λ earlier s. IsKeyOfLine r crew b y (key_of u))
        (λ h. let same = one_url url u h.named in
        record {
          begun = begun b y (h.anchor ∙ ap (λ (v : List ℕ). anchor_of (key_of v) r.setting.anchors) (sym same)) h.found;
          url = url;
          url_is = refl;
          key_is = ap key_of (sym same);
        })
        (λ h. absurd h.found) p;
  }

  begun_last : (b y : ℕ) (p : BegunIn r crew b y) → length p.earlier ≡ 0
  begun_last b y p = by_line (λ earlier s. Begins r.setting.anchors s b y) (λ earlier s. length earlier ≡ 0) (λ h. absurd h.began)
      (λ h. refl) p

  told_last : (b y : ℕ) (p : TellsBegunIn r crew b y) → length p.earlier ≡ 0
  told_last b y p = by_line (λ earlier s. PrintsBegunVersion r.setting.anchors s b y) (λ earlier s. length earlier ≡ 0) (λ h. absurd h.told)
      (λ h. refl) p

  begun_here : (b y : ℕ) → BegunIn r crew b y → (b ≡ a) × (x ≡ y)
  begun_here b y p = by_line (λ earlier s. Begins r.setting.anchors s b y) (λ earlier s. (b ≡ a) × (x ≡ y)) (λ h. absurd h.began)
      (λ h. (here b h.anchor, h.began)) p

  few : offering (put_and_get_script r url) ≡ 1
  few =
      let first = sum_by-cons (λ (l : Line). one_if (offers l.request)) put.asked (get.asked ∷ []) in
      let second = sum_by-cons (λ (l : Line). one_if (offers l.request)) get.asked [] in
      omega arith

  versions : AreBegun r (put_and_get_script r url) crew
  versions = record {
    printed = λ b y p. by_line (λ earlier s. Begins r.setting.anchors s b y)
        (λ earlier s. (offers s.asked.request ≡ true) × PrintsBegun s.answer) (λ h. absurd h.began) (λ h. (refl, tt)) p;
    told = λ b y p. by_line (λ earlier s. PrintsBegunVersion r.setting.anchors s b y) (λ earlier s. Begins r.setting.anchors s b y)
        (λ h. absurd h.told) (λ h. begins b y (here b h.anchor) h.told) p;
    line = λ b d y p q. record {
      worker = (only p.j p.worker p.at).0 ∙ sym (only q.j q.worker q.at).0;
      place = begun_last b y p
          ∙ sym (begun_last d y q);
    };
    anchor = λ b d y p q. (begun_here b y p).0 ∙ sym (begun_here d y q).0;
    version = λ b d y z p q. one_number y z (sym p.so.drew ∙ q.drew);
    once = λ b d y p q. record {
      worker = (only p.j p.worker p.at).0 ∙ sym (only q.j q.worker q.at).0;
      place = told_last b y p
          ∙ sym (told_last d y q);
    };
    bounds = λ b y p. let same = (begun_here b y p).1 in let n = few in (omega arith, omega arith);
  }

  -- an epoch that a line shows is that of the entry
  shown : (b e : ℕ) → LineIn crew (λ earlier s. Shows r.setting.anchors earlier s b e) → (b ≡ a) × (epoch_at x 3 ≡ e)
  shown b e p = by_line (λ earlier s. Shows r.setting.anchors earlier s b e) (λ earlier s. (b ≡ a) × (epoch_at x 3 ≡ e))
      (λ h. (here b h.at, one_of (epoch_at x 3) e h.shown)) (λ h. (here b h.at, one_of (epoch_at x 3) e h.shown)) p

  printed_alone : (b y : ℕ) → LineIn crew (λ earlier s. PrintsAlone r.setting.anchors earlier s b y) → (b ≡ a) × (x ≡ y)
  printed_alone b y p = by_line (λ earlier s. PrintsAlone r.setting.anchors earlier s b y) (λ earlier s. (b ≡ a) × (x ≡ y))
      (λ h. (here b h.at, one_number x y h.alone)) (λ h. (here b h.at, one_number x y h.alone)) p

  epochs : EpochsHaveCauses r crew
  epochs = record {
    old = λ b e p low. absurd (let s = (shown b e p).1 in let h = high in omega arith);
    stage = λ b e p low. absurd (let s = (shown b e p).1 in let h = high in omega arith);
    empty = λ b e p low none. absurd (let s = (shown b e p).1 in let h = high in omega arith);
    begun = λ b e p new. let s = (shown b e p).1 in omega arith;
    doomed_stage = λ b e p one. let s = (shown b e p).1 in omega arith;
    new = λ b e p new. let s = shown b e p in begun b (version_of e) s.0 (let z = s.1 in omega arith);
    alone_old = λ b y p low. absurd (old_none y (printed_alone b y p).1 low);
    alone_new = λ b y p new. let s = printed_alone b y p in begun b y s.0 s.1;
    found_old = λ b y u p low. absurd (never (λ earlier s. Finds r.setting.anchors s b y u) (λ h. old_none y h.found low) (λ h. h.found) p);
    stored = λ b e p new undoomed three. let s = shown b e p in let v : x ≡ version_of e = (let z = s.1 in omega arith) in
        at_put (λ earlier s. Stores r.setting.anchors earlier s b (version_of e))
        (record { writes = writes b (version_of e) s.0 v; printed = ap answer.Stored v });
    halted = λ b e p four. absurd (let s = (shown b e p).1 in omega arith);
    halted_line = λ b p. absurd (never (λ earlier s. PrintsHalted r.setting.anchors earlier s b)
        (λ h. let k : answer.Hit x [] ≡ answer.Halted h.bytes = h.printed in cc)
        (λ h. let k : answer.Stored x ≡ answer.Halted h.bytes = h.printed in cc) p);
    doomed = λ b e p one. absurd (let s = (shown b e p).1 in omega arith);
    doomed_line = λ b y p. absurd (never (λ earlier s. PrintsDoomed r.setting.anchors earlier s b y)
        (λ h. let k : answer.Hit x [] ≡ answer.Doomed y = h.printed in cc)
        (λ h. let k : answer.Stored x ≡ answer.Doomed y = h.printed in cc) p);
    purged = λ e p. absurd (never (λ earlier s. TellsDoom s.answer e) (λ h. h) (λ h. h) p);
    purged_stage = λ e p. absurd (never (λ earlier s. TellsDoom s.answer e) (λ h. h) (λ h. h) p);
    given_back = λ b e p undoomed four. absurd (let s = (shown b e p).1 in omega arith);
    given_back_new = λ fit b e p undoomed four. absurd (let s = (shown b e p).1 in omega arith);
  }

  found_at : (y : ℕ) → x ≡ y → FoundAt (epoch_at x 3) y
  found_at y same = record { readable = readable_where (epoch_at x 3) (inr (omega arith)); version_is = omega arith }

  -- what is at most the entry's epoch is not above what the lines print
  not_above : (e : ℕ) → e ≤ epoch_at x 3 → (earlier : List Served) (s : Served) → IsLine earlier s → NotBelow e s.answer
  not_above e le earlier s line = each (λ z t. NotBelow e t.answer)
      (below (epoch_at x 3) 0 e (answer.Hit x []) (λ y h. found_at y h) (λ f h. let k = one_of (epoch_at x 3) f h in omega arith)
      (λ f h same. let k = one_of (epoch_at x 3) f h in omega arith))
      (below 0 0 e (answer.Stored x) (λ y h. absurd h) (λ f h. let k = one_of (epoch_at x 3) f h in omega arith)
      (λ f h same. let k = one_of (epoch_at x 3) f h in omega arith))
      earlier s line

  counted : (e : ℕ) (s : Served) (earlier : List Served) → IsLine earlier s → Contains (counts_as s.answer) e → e ≤ epoch_at x 3
  counted e s earlier line = each (λ z t. Contains (counts_as t.answer) e → e ≤ epoch_at x 3)
      (λ h. let k = one_of (epoch_at x 2) e h in omega arith) (λ h. let k = one_of (epoch_at x 3) e h in omega arith) earlier s line

  no_item : (later earlier : List Served) (s : Served) → [] ≡ later ++ s ∷ earlier → ⊥
  no_item [] earlier s e = cc
  no_item (y ∷ later) earlier s e = cc

  -- neither met a mark
  met_none : (earlier : List Served) (s : Served) → IsLine earlier s → (t : Served) (before : List Served) → IsAmong earlier t before
      → (mark : ℕ) → t.asked.request ≡ Await mark → ⊥
  met_none earlier s line t before among mark asked = ⊎_elim
      (λ (h : (get ≡ s) × (put ∷ [] ≡ earlier)). each (λ past z. z.asked.request ≡ Await mark → ⊥)
      (λ q. let k : Get url ≡ Await mark = q in cc) (λ q. let k : Put url nothing ≡ Await mark = q in cc)
      before t (two (get ∷ among.later) before t (ap (λ (z : List Served). get ∷ z) (h.1 ∙ among.split))) asked)
      (λ (h : (put ≡ s) × ([] ≡ earlier)). no_item among.later before t (h.1 ∙ among.split))
      line

  -- a line that was known before one of these is the `put`
  knew : (earlier : List Served) (s : Served) → IsLine earlier s → (before : List Served) (t : Served) → KnewOf crew earlier t before
      → IsLine before t
  knew earlier s line before t (own among) = ⊎_elim
      (λ (h : (get ≡ s) × (put ∷ [] ≡ earlier)). two (get ∷ among.later) before t (ap (λ (z : List Served). get ∷ z) (h.1 ∙ among.split)))
      (λ (h : (put ≡ s) × ([] ≡ earlier)). absurd (no_item among.later before t (h.1 ∙ among.split)))
      line
  knew earlier s line before t (told met knows) = absurd (met_none earlier s line met.met met.between met.awaits met.mark met.asked)

  -- the lines
  line_of : (P : List Served → Served → Type 0) (p : LineIn crew P) → IsLine p.earlier p.served
  line_of P p = two p.later p.earlier p.served (sym (only p.j p.worker p.at).1 ∙ p.split)

  -- before the first line nothing was known
  knew_none : (earlier : List Served) → [] ≡ earlier → (t : Served) (before : List Served) → KnewOf crew earlier t before → ⊥
  knew_none earlier none t before (own among) = no_item among.later before t (none ∙ among.split)
  knew_none earlier none t before (told met knows) = no_item met.awaits.later met.between met.met (none ∙ met.awaits.split)

  -- the line that began a version is the first one, which knew of none
  begun_first : (P : List Served → Served → Type 0) (p : LineIn crew P) (b y : ℕ) → Begins r.setting.anchors p.served b y
      → (s : Served) (earlier : List Served) → KnewOf crew p.earlier s earlier → ⊥
  begun_first P p b y begun s earlier knows = ⊎_elim
      (λ (h : (get ≡ p.served) × (put ∷ [] ≡ p.earlier)). subst (λ (z : Served). Began z.asked.request z.answer y)
      (sym h.0) begun.began)
      (λ (h : (put ≡ p.served) × ([] ≡ p.earlier)). knew_none p.earlier h.1 s earlier knows)
      (line_of P p)

  order : AreInOrder r crew
  order = record {
    opening = λ b small p. not_above (opening_epoch r.setting b) (let d = m.drawn b small in omega arith) p.earlier p.served
        (line_of (λ earlier t. IsAt r.setting.anchors earlier t b) p);
    known = λ b e s earlier p knows counts.
        let line = line_of (λ before t. IsAt r.setting.anchors before t b) p in
        not_above e (counted e s earlier (knew p.earlier p.served line earlier s knows) counts.counts) p.earlier p.served line;
    begun = λ b d y e s earlier p knows counts. absurd (begun_first (λ before t. Begins r.setting.anchors t b y) p b y p.so s earlier knows);
    draws = λ b d y z s earlier p knows began. absurd (begun_first (λ before t. Begins r.setting.anchors t b y) p b y p.so s earlier knows);
  }

  no_part : (y : ℕ) → LineIn crew (λ before t. PrintsPart t y) → ⊥
  no_part y p = never (λ before t. PrintsPart t y) (λ h. let k : answer.Hit x [] ≡ answer.Part h.epoch h.bytes = h.printed in cc)
      (λ h. let k : answer.Stored x ≡ answer.Part h.epoch h.bytes = h.printed in cc) p

  parts : AreNotShort r crew
  parts = record {
    added = λ y slots u s earlier p knows adds. absurd (no_part y p);
    gave = λ y tab s earlier p knows gives. absurd (no_part y p);
  }

  tabs : TabsStay r crew
  tabs = record {
    part = λ b y epoch p. absurd (never (λ earlier s. ReadsPart r.setting.anchors earlier s b y epoch)
        (λ h. let k : answer.Hit x [] ≡ answer.Part epoch h.bytes = h.printed in cc)
        (λ h. let k : answer.Stored x ≡ answer.Part epoch h.bytes = h.printed in cc) p);
    halted = λ b y p. absurd (never (λ earlier s. ReadsHalted r.setting.anchors earlier s b y)
        (λ h. let k : answer.Hit x [] ≡ answer.Halted h.bytes = h.printed in cc)
        (λ h. let k : answer.Stored x ≡ answer.Halted h.bytes = h.printed in cc) p);
    old = λ tells b y p low. absurd (never (λ earlier s. ReadsOn r.setting.anchors earlier s b y) (λ h. old_none y (of_get b y h.of).1 low)
        (λ h. of_put b y h.of) p);
    new = λ tells b y p new. by_line (λ earlier s. ReadsOn r.setting.anchors earlier s b y)
        (λ earlier s. IsFrontOfLine r crew b y s.answer (bytes_with earlier s))
        (λ h. let k = of_get b y h.of in record {
          begun = begun b y k.0 k.1;
          url = url;
          body = nothing;
          offers = (refl, refl);
          first_ones =
              refl;
          whole = λ z. refl;
        })
        (λ h. absurd (of_put b y h.of)) p;
    one_url = λ tells b y u p q. never (λ earlier s. ReadsOther r.setting.anchors earlier s b y u)
        (λ h. let k : answer.Hit x [] ≡ answer.OtherUrl = h.printed in cc)
        (λ h. let k : answer.Stored x ≡ answer.OtherUrl = h.printed in cc) q;
    behind_end = λ tab p. absurd (never (λ earlier s. ReadsBehind is_end earlier s tab) (λ h. let k : Get url ≡ More tab = h.request in cc)
        (λ h. let k : Put url nothing ≡ More tab = h.request in cc) p);
    behind_other = λ tab p. absurd (never (λ earlier s. ReadsBehind is_other_url earlier s tab)
        (λ h. let k : Get url ≡ More tab = h.request in cc) (λ h. let k : Put url nothing ≡ More tab = h.request in cc) p);
    behind_halted = λ tab p. absurd (never (λ earlier s. ReadsBehind is_halted earlier s tab)
        (λ h. let k : Get url ≡ More tab = h.request in cc) (λ h. let k : Put url nothing ≡ More tab = h.request in cc) p);
  }

  pub keeps_rules : KeepsRules r (put_and_get_script r url) crew
  keeps_rules = record {
    answers = answers;
    bodies = λ tells. bodies;
    keys = keys;
    versions = versions;
    epochs = epochs;
    order = order;
    tabs = tabs;
    parts = λ tells. parts;
  }
