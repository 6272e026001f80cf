-- Scripts that fit run in room.
use Rattle.std.proofs.Common.{◌≡◌, ◌⊎◌, inl, inr, ◌∙◌, ℕ, ◌+◌, ◌<◌, ◌≤◌, List, [], ◌∷◌, length, sum_by, refl, sym, ap, subst, arith, Bool, true, false, cond}
use Rattle.std.specs.Prelude.{Option, Some, ◌==◌, ◌||◌, nat_lt, min}
use Rattle.std.proofs.lemmas.Bool.Decides.{nat_tests}
use Rattle.plain_model.specs.declared.entry.Entry.{Entry}
use Rattle.plain_model.specs.declared.entry.Place.{Place}
use Rattle.plain_model.specs.declared.store.Setting.{Setting}
use Rattle.plain_model.specs.declared.store.Tab.{Tab}
use Rattle.plain_model.specs.declared.store.Tab.TheVariants.{Free, Writing}
use Rattle.plain_model.specs.declared.store.Plain.{Plain}
use Rattle.plain_model.specs.Store.{place_at, tab_at, published}
use Rattle.plain_model.specs.Slots.{held_by, held, limit}
use Rattle.plain_laws.specs.Holding.{IsGrowing, slots_held}
use Rattle.std.specs.Prelude.{All, count_by, max}
use Rattle.std.specs.List.{range_with_len}
use Rattle.std.proofs.lemmas.List.Elements.{All-nil, All-cons}
use Rattle.std.proofs.lemmas.List.Sums.{sum_by-cons}
use Rattle.std.proofs.Common.{length-set}
use Rattle.store_key.specs.Key.{key_of}
use Rattle.store_key.specs.Anchor.{anchor_of}
use Rattle.script_text.specs.Shapes.{Shape, shape_of}
use Rattle.script_text.specs.Requests.{offers_body, OffersBody}
use Rattle.script_text.specs.declared.answer.Answer.TheVariants as answer
use Rattle.script_text.specs.declared.line.Line.{Line}
use Rattle.script_text.specs.declared.request.Request.{Request}
use Rattle.script_text.specs.declared.request.Request.TheVariants.{Put, Save, Get, Purge, Wipe, Begin, Add, End, DropTab, OpenTab, More, CloseTab, Mark, Await}
use Rattle.plain_model.specs.Store.{meta_size, is_vacant_at, is_idle_at}
use Rattle.plain_model.specs.Writing.{Step, step, taken_by, entry_of, begin, add, end, give_up}
use Rattle.plain_model.specs.Reading.{open_tab, told, more, close, purge, wipe}
use Rattle.plain_model.specs.Serving.{bytes_of, put, get, serve, answers, after, is_set_before}
use Rattle.plain_laws.specs.Fitting.{need, need_if_at, need_at, most_needed, most_held, Fits, IsAtRest, Names, NamesNone, HadRoom, RunsInRoom}
use Rattle.plain_laws.specs.Holding.{HoldsItsSlots}
use Rattle.plain_laws.proofs.Staying.{IsOn, stays_taken}
use Rattle.plain_laws.proofs.Fitted.{Sized, PlaceFits}
use Rattle.plain_laws.proofs.Roomed.{Outcome, IsAt, InRoom, fits_changed, add_room, end_room, give_up_room}
use Rattle.plain_laws.proofs.Beginning.{BeginsAs, begins, set_here}
use Rattle.plain_laws.proofs.Looking.{opens}
use Rattle.script_text.specs.declared.body.Body.{Body}
use Rattle.plain_laws.proofs.Alone.{all_caps}
use Rattle.plain_laws.proofs.Held.{new_holds_none, taken_holds, able_not, serve_holds, anchor_inside}
use Rattle.plain_laws.proofs.Serving.{Effect, effect, anchors_stay}
use Rattle.plain_laws.proofs.ReadingRoomed.{IsUrlAt, open_room, more_room, close_room, purge_room, wipe_room, get_room, fit_after, Follows, follow, on_at}

pub holds_of : (s : Setting) (cap : ℕ → ℕ) (p : Plain) → InRoom s cap p → HoldsItsSlots s p
holds_of s cap p h = record {
  within = (let k : slots_held s p ≤ sum_by cap (range_with_len 0 (length p.places)) = all_caps (held s.room) cap p.places 0 (λ b. let f = (h.fits b).holds in let same : cap (0 + b) ≡ cap b = ap cap (omega arith) in omega arith) in
      let all : sum_by cap (range_with_len 0 (length p.places)) ≡ sum_by cap (range_with_len 0 s.anchors) = ap (λ (n : ℕ). sum_by cap (range_with_len 0 n)) h.are in
      let most = h.total in omega arith);
  writes = h.writes;
}

needs_of : (s : Setting) (url body : List ℕ) → nat_lt s.room (meta_size url) ≡ false → need s url body ≡ min (limit s) (published s.room (meta_size url + length body) + 1)
needs_of s url body fits = ap (λ b. cond b 0 (min (limit s) (published s.room (meta_size url + length body) + 1))) fits

new_fits : (s : Setting) (c : ℕ) (url body : List ℕ) (offer : ℕ) (version : ℕ) → nat_lt s.room (meta_size url) ≡ false → need s url body ≤ c
    → PlaceFits s c (record { version = version; doom = false; entry = Some (entry_of url body offer) })
new_fits s c url body offer version fits le = record {
  holds = (let none : held_by s.room (Some (entry_of url body offer)) ≡ 0 = new_holds_none s.room url body offer fits in omega arith);
  writing = λ e is g.
      let k : Some (entry_of url body offer) ≡ Some e = is in
      let same : entry_of url body offer ≡ e = cc in
      subst (λ (x : Entry). Sized s c x) same (record { front = omega arith; back = omega arith; need = (let n = needs_of s url body fits in omega arith) });
}

-- the counter stands below the last version
begin_room : (s : Setting) (cap : ℕ → ℕ) (tab : ℕ) (url body : List ℕ) (offer : ℕ) (p : Plain) → InRoom s cap p → p.counter < 4294901760 → need s url body ≤ cap (anchor_of (key_of url) s.anchors) → BeginsAs s tab url body offer p
    → Outcome s cap tab p (IsUrlAt s url) (begin s tab url body offer p)
begin_room s cap tab url body offer p h below le (BeginsAs.in_use e) = rw e (Outcome.still refl tt)
begin_room s cap tab url body offer p h below le (BeginsAs.long e) = rw e (Outcome.still refl tt)
begin_room s cap tab url body offer p h below le (BeginsAs.busy w e) = rw e (Outcome.still refl tt)
begin_room s cap tab url body offer p h below le (BeginsAs.spent out e) = absurd (let k : 4294901760 ≤ p.counter = grind (arith, nat_tests) in omega arith)
begin_room s cap tab url body offer p h below le (BeginsAs.begun t fits able e) = rw e (Outcome.moved (anchor_of (key_of url) s.anchors) refl
    (stays_taken tab (anchor_of (key_of url) s.anchors) (entry_of url body offer) p)
    (fits_changed s (cap (anchor_of (key_of url) s.anchors)) p.places (anchor_of (key_of url) s.anchors) (record { version = p.counter + 1; doom = false; entry = Some (entry_of url body offer) })
    (new_fits s (cap (anchor_of (key_of url) s.anchors)) url body offer (p.counter + 1) fits le)) tt)

-- there is room once an entry was begun
pub taken_room : (s : Setting) (cap : ℕ → ℕ) (tab : ℕ) (url body : List ℕ) (offer : ℕ) (p : Plain) → InRoom s cap p → tab_at p tab ≡ Free → nat_lt s.room (meta_size url) ≡ false
    → (is_vacant_at p (anchor_of (key_of url) s.anchors) || is_idle_at p (anchor_of (key_of url) s.anchors)) ≡ true → need s url body ≤ cap (anchor_of (key_of url) s.anchors)
    → InRoom s cap (taken_by tab (anchor_of (key_of url) s.anchors) (entry_of url body offer) p)
taken_room s cap tab url body offer p h t fits able le = record {
  room = h.room;
  slots = h.slots;
  some = h.some;
  are = length-set p.places anchor new ∙ h.are;
  total = h.total;
  fits = fit_after s cap tab p (IsUrlAt s url) (step answer.Tab q) h.fits (Outcome.moved anchor refl (stays_taken tab anchor (entry_of url body offer) p) here tt);
  writes = (taken_holds s tab anchor p (entry_of url body offer) (holds_of s cap p h) t (able_not p anchor able) refl (new_holds_none s.room url body offer fits) (anchor_inside s url p h.some h.are)).writes;
}
  where
    anchor : ℕ
    anchor = anchor_of (key_of url) s.anchors

    new : Place
    new = record { version = p.counter + 1; doom = false; entry = Some (entry_of url body offer) }

    q : Plain
    q = taken_by tab anchor (entry_of url body offer) p

    here : PlaceFits s (cap anchor) (place_at q anchor)
    here = fits_changed s (cap anchor) p.places anchor new (new_fits s (cap anchor) url body offer (p.counter + 1) fits le)

put_room : (s : Setting) (cap : ℕ → ℕ) (url body : List ℕ) (offer : ℕ) (p : Plain) → InRoom s cap p → p.counter < 4294901760 → need s url body ≤ cap (anchor_of (key_of url) s.anchors) → BeginsAs s 7 url body offer p
    → Outcome s cap 7 p (IsUrlAt s url) (put s url body offer p)
put_room s cap url body offer p h below le (BeginsAs.in_use e) = rw e (Outcome.still refl tt)
put_room s cap url body offer p h below le (BeginsAs.long e) = rw e (Outcome.still refl tt)
put_room s cap url body offer p h below le (BeginsAs.busy w e) = rw e (Outcome.still refl tt)
put_room s cap url body offer p h below le (BeginsAs.spent out e) = absurd (let k : 4294901760 ≤ p.counter = grind (arith, nat_tests) in omega arith)
put_room s cap url body offer p h below le (BeginsAs.begun t fits able e) = rw e (Outcome.moved anchor refl ends.stays ends.place ends.fine)
  where
    anchor : ℕ
    anchor = anchor_of (key_of url) s.anchors

    new : Place
    new = record { version = p.counter + 1; doom = false; entry = Some (entry_of url body offer) }

    q : Plain
    q = taken_by 7 anchor (entry_of url body offer) p

    here : PlaceFits s (cap anchor) (place_at q anchor)
    here = fits_changed s (cap anchor) p.places anchor new (new_fits s (cap anchor) url body offer (p.counter + 1) fits le)

    room : InRoom s cap q
    room = taken_room s cap 7 url body offer p h t fits able le

    on : IsOn anchor (tab_at q 7)
    on = elim (set_here p.tabs 7 (Writing anchor) Free) [ inl k ↦ subst (λ (x : Tab). IsOn anchor x) (sym k) refl | inr k ↦ subst (λ (x : Tab). IsOn anchor x) (sym k) tt ]

    ends : Follows s cap 7 anchor p (end s 7 q)
    ends = follow s cap anchor 7 p q (end s 7 q) (stays_taken 7 anchor (entry_of url body offer) p) on here (end_room s cap 7 q room (tab_at q 7) refl)

-- the tab that a request is on: that of whole requests where it names none
abbrev pub tab_of : Request → ℕ
tab_of request = of_shape (shape_of request)
  where
    of_shape : Shape → ℕ
    of_shape (Shape.Stores url body durable) = 7
    of_shape (Shape.Reads url) = 7
    of_shape (Shape.Purges url) = 7
    of_shape (Shape.Begins tab url body) = tab
    of_shape (Shape.Opens tab url) = tab
    of_shape (Shape.WritesOn tab) = tab
    of_shape (Shape.ReadsOn tab) = tab
    of_shape (Shape.AtMark mark) = 7

-- why a request moves an anchor: it names it, or its tab is there
abbrev pub Because : Setting → Plain → Request → ℕ → Type 0
Because s p request a = Names s a request ⊎ IsAt a (tab_at p (tab_of request))

named : (s : Setting) (cap : ℕ → ℕ) (p : Plain) (request : Request) (W : ℕ → Type 0) (r : Step) → ((a : ℕ) → W a → Because s p request a) → Outcome s cap (tab_of request) p W r
    → Outcome s cap (tab_of request) p (Because s p request) r
named s cap p request W r f (Outcome.still e fine) = Outcome.still e fine
named s cap p request W r f (Outcome.moved a why stays place fine) = Outcome.moved a (f a why) stays place fine

-- what the line may take is within what its anchor may hold
pub need_here : (s : Setting) (cap : ℕ → ℕ) (url body : List ℕ) → ((a : ℕ) → need_if_at s a url body ≤ cap a) → need s url body ≤ cap (anchor_of (key_of url) s.anchors)
need_here s cap url body le =
    let k = le (anchor_of (key_of url) s.anchors) in
    let same : (anchor_of (key_of url) s.anchors == anchor_of (key_of url) s.anchors) ≡ true = grind (arith, nat_tests) in
    let is : need_if_at s (anchor_of (key_of url) s.anchors) url body ≡ need s url body = ap (λ b. cond b (need s url body) 0) same in
    omega arith

await_fine : (b : Bool) → HadRoom (cond b answer.Met answer.Unmet)
await_fine true = tt
await_fine false = tt

pub serve_room : (s : Setting) (cap : ℕ → ℕ) (script : List Line) (worker number : ℕ) (request : Request) (p : Plain) → InRoom s cap p → (offers_body request ≡ true → p.counter < 4294901760) → ((a : ℕ) → need_at s a request ≤ cap a)
    → Outcome s cap (tab_of request) p (Because s p request) (serve s script (record { worker = worker; number = number; request = request }) p)
serve_room s cap script w n (Put url made) p h below le = named s cap p (Put url made) (IsUrlAt s url) (put s url (bytes_of made) (s.slots + n) p) (λ a k. inl k)
    (put_room s cap url (bytes_of made) (s.slots + n) p h (below refl) (need_here s cap url (bytes_of made) le) (begins s 7 url (bytes_of made) (s.slots + n) p (tab_at p 7) refl))
serve_room s cap script w n (Save url made) p h below le = named s cap p (Save url made) (IsUrlAt s url) (put s url (bytes_of made) (s.slots + n) p) (λ a k. inl k)
    (put_room s cap url (bytes_of made) (s.slots + n) p h (below refl) (need_here s cap url (bytes_of made) le) (begins s 7 url (bytes_of made) (s.slots + n) p (tab_at p 7) refl))
serve_room s cap script w n (Begin tab url made) p h below le = named s cap p (Begin tab url made) (IsUrlAt s url) (begin s tab url (bytes_of made) (s.slots + n) p) (λ a k. inl k)
    (begin_room s cap tab url (bytes_of made) (s.slots + n) p h (below refl) (need_here s cap url (bytes_of made) le) (begins s tab url (bytes_of made) (s.slots + n) p (tab_at p tab) refl))
serve_room s cap script w n (Get url) p h below le = named s cap p (Get url) (IsUrlAt s url) (get s url p) (λ a k. inl k) (get_room s cap url p h.fits (opens s url p (tab_at p 7) refl))
serve_room s cap script w n (Purge url) p h below le = named s cap p (Purge url) (IsUrlAt s url) (purge s url p) (λ a k. inl k) (purge_room s cap url p h.fits)
serve_room s cap script w n (Wipe url) p h below le = named s cap p (Wipe url) (IsUrlAt s url) (wipe s url p) (λ a k. inl k) (wipe_room s cap url p h.fits)
serve_room s cap script w n (OpenTab tab url) p h below le = named s cap p (OpenTab tab url) (IsUrlAt s url) (open_tab s tab url p) (λ a k. inl k) (open_room s cap tab url p h.fits (tab_at p tab) refl)
serve_room s cap script w n (Add tab count) p h below le = named s cap p (Add tab count) (λ b. IsAt b (tab_at p tab)) (add s tab count p) (λ a k. inr k) (add_room s cap tab count p h (tab_at p tab) refl)
serve_room s cap script w n (End tab) p h below le = named s cap p (End tab) (λ b. IsAt b (tab_at p tab)) (end s tab p) (λ a k. inr k) (end_room s cap tab p h (tab_at p tab) refl)
serve_room s cap script w n (DropTab tab) p h below le = named s cap p (DropTab tab) (λ b. IsAt b (tab_at p tab)) (give_up tab p) (λ a k. inr k) (give_up_room s cap tab p h (tab_at p tab) refl)
serve_room s cap script w n (More tab) p h below le = named s cap p (More tab) (λ b. IsAt b (tab_at p tab)) (more s tab p) (λ a k. inr k) (more_room s cap tab p h.fits (tab_at p tab) refl)
serve_room s cap script w n (CloseTab tab) p h below le = named s cap p (CloseTab tab) (λ b. IsAt b (tab_at p tab)) (close tab p) (λ a k. inr k) (close_room s cap tab p h.fits (tab_at p tab) refl)
serve_room s cap script w n (Mark mark) p h below le = Outcome.still refl tt
serve_room s cap script w n (Await mark) p h below le = Outcome.still refl (await_fine (is_set_before script n mark))

-- each line may take what its anchor may hold
abbrev pub AllNeeded : Setting → (ℕ → ℕ) → List Line → Type 0
AllNeeded s cap [] = Unit {0}
AllNeeded s cap (line ∷ lines) = ((a : ℕ) → need_at s a line.request ≤ cap a) × AllNeeded s cap lines

pub needed : (s : Setting) (cap : ℕ → ℕ) (lines : List Line) → ((a : ℕ) → most_needed s a lines ≤ cap a) → AllNeeded s cap lines
needed s cap [] h = tt
needed s cap (line ∷ lines) h = ((λ a. let k : max (need_at s a line.request) (most_needed s a lines) ≤ cap a = h a in omega arith), needed s cap lines (λ a. let k : max (need_at s a line.request) (most_needed s a lines) ≤ cap a = h a in omega arith))

pub room_after : (s : Setting) (cap : ℕ → ℕ) (script : List Line) (line : Line) (p : Plain) → InRoom s cap p → Outcome s cap (tab_of line.request) p (Because s p line.request) (serve s script line p) → InRoom s cap (serve s script line p).after
room_after s cap script line p h o = record {
  room = h.room;
  slots = h.slots;
  some = h.some;
  are = anchors_stay s line p (serve s script line p) (effect s script line p) ∙ h.are;
  total = h.total;
  fits = fit_after s cap (tab_of line.request) p (Because s p line.request) (serve s script line p) h.fits o;
  writes = (serve_holds s script line.worker line.number line.request p h.room h.some h.are (holds_of s cap p h)).writes;
}

-- no tab is at this anchor
abbrev pub NoneAt : ℕ → Plain → Type 0
NoneAt a p = (tab : ℕ) → IsAt a (tab_at p tab) → ⊥

apart_from : (a b : ℕ) (s : Setting) (p : Plain) (request : Request) → Because s p request a → (Names s b request → ⊥) → NoneAt b p → b ≡ a → ⊥
apart_from a b s p request (inl named) unnamed away same = unnamed (subst (λ (n : ℕ). Names s n request) (sym same) named)
apart_from a b s p request (inr at) unnamed away same = away (tab_of request) (subst (λ (n : ℕ). IsAt n (tab_at p (tab_of request))) (sym same) at)

-- what a line does not name stays, and no tab comes there
record Spared (b : ℕ) (p q : Plain) : Type 0 where
  place : place_at q b ≡ place_at p b
  away : NoneAt b q

spared : (s : Setting) (cap : ℕ → ℕ) (b : ℕ) (p : Plain) (request : Request) (r : Step) → (Names s b request → ⊥) → NoneAt b p → Outcome s cap (tab_of request) p (Because s p request) r → Spared b p r.after
spared s cap b p request r unnamed away (Outcome.still e fine) = record { place = ap (λ (q : Plain). place_at q b) e; away = subst (λ (q : Plain). NoneAt b q) (sym e) away }
spared s cap b p request r unnamed away (Outcome.moved a why stays place fine) = record {
  place = stays.places b (apart_from a b s p request why unnamed away);
  away = λ tab at. elim (stays.tabs tab) [
    | inl e ↦ away tab (subst (λ (t : Tab). IsAt b t) e at)
    | inr on ↦ apart_from a b s p request why unnamed away (on_at a b (tab_at r.after tab) on at)
  ];
}

fine_of : (s : Setting) (cap : ℕ → ℕ) (tab : ℕ) (p : Plain) (W : ℕ → Type 0) (r : Step) → Outcome s cap tab p W r → HadRoom r.answer
fine_of s cap tab p W r (Outcome.still e fine) = fine
fine_of s cap tab p W r (Outcome.moved a why stays place fine) = fine

hand_of : (s : Setting) (cap : ℕ → ℕ) (tab : ℕ) (p : Plain) (W : ℕ → Type 0) (r : Step) → Outcome s cap tab p W r → r.after.hand ≡ p.hand
hand_of s cap tab p W r (Outcome.still e fine) = ap (λ (q : Plain). q.hand) e
hand_of s cap tab p W r (Outcome.moved a why stays place fine) = stays.hand

-- the counter rises by what a line offers
offered_one : (line : Line) (url : List ℕ) (made : Body) → (r : Request) → r ≡ line.request → OffersBody r url made → offers_body r ≡ true
offered_one line url made (Put u b) e o = refl
offered_one line url made (Save u b) e o = refl
offered_one line url made (Begin tab u b) e o = refl
offered_one line url made _ e o = absurd o

abbrev pub one_if : Bool → ℕ
one_if b = cond b 1 0

pub counter_by : (s : Setting) (line : Line) (p : Plain) (r : Step) → Effect s line p r → r.after.counter ≤ p.counter + one_if (offers_body line.request)
counter_by s line p r (Effect.kept k told) = let same = k.counter in omega arith
counter_by s line p r (Effect.began tab url made offers b told) =
    let more = b.counter in
    let one : one_if (offers_body line.request) ≡ 1 = ap one_if (offered_one line url made line.request refl offers) in
    omega arith

abbrev pub offers_in : List Line → ℕ
offers_in lines = count_by (λ line. offers_body line.request) lines

pub offers_cons : (line : Line) (lines : List Line) → offers_in (line ∷ lines) ≡ one_if (offers_body line.request) + offers_in lines
offers_cons line lines = sum_by-cons (λ (l : Line). cond (offers_body l.request) 1 0) line lines

-- along the lines
record Runs (s : Setting) (script lines : List Line) (p : Plain) : Type 0 where
  answered : All HadRoom (answers s script lines p)
  hand : (after s script lines p).hand ≡ p.hand
  unnamed : (b : ℕ) → NoneAt b p → NamesNone s b lines → place_at (after s script lines p) b ≡ place_at p b

run : (s : Setting) (cap : ℕ → ℕ) (script lines : List Line) (p : Plain) → InRoom s cap p → AllNeeded s cap lines → p.counter + offers_in lines ≤ 4294901760 → Runs s script lines p
run s cap script [] p h n v = record { answered = All-nil HadRoom; hand = refl; unnamed = λ b away none. refl }
run s cap script (line ∷ lines) p h n v =
    let split = offers_cons line lines in
    let out : Outcome s cap (tab_of line.request) p (Because s p line.request) (serve s script line p) = serve_room s cap script line.worker line.number line.request p h
    (λ (o : offers_body line.request ≡ true). let one : one_if (offers_body line.request) ≡ 1 = ap one_if o in omega arith) n.0 in
    let grew = counter_by s line p (serve s script line p) (effect s script line p) in
    let next = run s cap script lines (serve s script line p).after (room_after s cap script line p h out) n.1 (omega arith) in
    record {
      answered = All-cons HadRoom (serve s script line p).answer (answers s script lines (serve s script line p).after) (fine_of s cap (tab_of line.request) p (Because s p line.request) (serve s script line p) out) next.answered;
      hand = next.hand ∙ hand_of s cap (tab_of line.request) p (Because s p line.request) (serve s script line p) out;
      unnamed = λ b away none. let spare = spared s cap b p line.request (serve s script line p) none.0 away out in next.unnamed b spare.away none.1 ∙ spare.place;
    }

pub not_at : (a : ℕ) (t : Tab) → t ≡ Free → IsAt a t → ⊥
not_at a t e at = subst (λ (x : Tab). IsAt a x) e at

-- a store at rest has room for lines that fit
pub room_at_rest : (s : Setting) (lines : List Line) (p : Plain) → 0 < s.room → 0 < s.anchors → 0 < s.slots → length p.places ≡ s.anchors → IsAtRest p → Fits s lines p → InRoom s (most_held s lines p) p
room_at_rest s lines p room some slots are rest fits = record {
  room = room;
  slots = slots;
  some = some;
  are = are;
  total = fits.slots;
  fits = λ a. record {
    holds = (let k : held s.room (place_at p a) ≤ max (held s.room (place_at p a)) (most_needed s a lines) = omega arith in k);
    writing = λ e is g. absurd (rest.settled a (subst (λ (o : Option Entry). IsGrowing o) (sym is) g));
  };
  writes = record {
    grows = λ t a w. absurd (let k : Free ≡ Writing a = sym (rest.free t) ∙ w in cc);
    apart = λ t u a w x. absurd (let k : Free ≡ Writing a = sym (rest.free t) ∙ w in cc);
  };
}

pub all_needed : (s : Setting) (lines : List Line) (p : Plain) → AllNeeded s (most_held s lines p) lines
all_needed s lines p = needed s (most_held s lines p) lines (λ a. let k : most_needed s a lines ≤ max (held s.room (place_at p a)) (most_needed s a lines) = omega arith in k)

-- a script that fits
pub runs : (s : Setting) (script lines : List Line) (p : Plain) → 0 < s.room → 0 < s.anchors → 0 < s.slots → length p.places ≡ s.anchors → IsAtRest p → Fits s lines p → RunsInRoom s script lines p
runs s script lines p room some slots are rest fits =
    let ran = run s (most_held s lines p) script lines p (room_at_rest s lines p room some slots are rest fits) (all_needed s lines p) fits.versions in
    record { answered = ran.answered; hand = ran.hand; unnamed = λ b none. ran.unnamed b (λ tab at. not_at b (tab_at p tab) (rest.free tab) at) none }
