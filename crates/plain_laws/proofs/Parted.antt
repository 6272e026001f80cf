-- Along the lines, own lines are answered as they are by themselves.
use Rattle.std.proofs.Common.{◌≡◌, ◌⊎◌, inl, inr, ◌∙◌, ℕ, ◌+◌, ◌<◌, ◌≤◌, List, [], ◌∷◌, ◌++◌, refl, sym, ap, subst, arith, Bool, true, false, cond, map}
use Rattle.std.specs.Prelude.{◌==◌, filter}
use Rattle.std.proofs.lemmas.Bool.Decides.{nat_tests}
use Rattle.script_text.specs.Tabs.{IsOnTab}
use Rattle.script_text.specs.Requests.{offers_body}
use Rattle.script_text.specs.declared.answer.Answer.{Answer}
use Rattle.script_text.specs.declared.line.Line.{Line}
use Rattle.plain_model.specs.declared.store.Setting.{Setting}
use Rattle.plain_model.specs.declared.store.Tab.TheVariants.{Free}
use Rattle.plain_model.specs.declared.store.Plain.{Plain}
use Rattle.plain_model.specs.Store.{tab_at}
use Rattle.plain_model.specs.Writing.{Step}
use Rattle.plain_model.specs.Serving.{serve, answers, after}
use Rattle.plain_laws.specs.Begun.{RiseAbove}
use Rattle.plain_laws.specs.Fitting.{need_at}
use Rattle.plain_laws.specs.Renaming.{renamed}
use Rattle.plain_laws.specs.Private.{is_of, answers_to}
use Rattle.plain_laws.proofs.Serving.{Effect, effect, anchors_stay}
use Rattle.plain_laws.proofs.Course.{rise_told}
use Rattle.plain_laws.proofs.Roomed.{Outcome, InRoom}
use Rattle.plain_laws.proofs.Running.{tab_of, Because, serve_room, AllNeeded, room_after, one_if, counter_by, offers_in, offers_cons}
use Rattle.plain_laws.proofs.Agreeing.{Agree}
use Rattle.plain_laws.proofs.WritingAlike.{Drew}
use Rattle.plain_laws.proofs.LastTab.{last_free}
use Rattle.plain_laws.proofs.OwnLines.{Sorts, Ready, own_line}
use Rattle.plain_laws.proofs.OtherLines.{other_agrees, elsewhere, spares}

-- the versions that these lines draw, in order
abbrev pub rise : (before behind : ℕ) → List ℕ
rise before behind = cond (before == behind) [] (behind ∷ [])

abbrev pub rise_by : Bool → (before behind : ℕ) → List ℕ
rise_by these before behind = cond these (rise before behind) []

abbrev pub drawn : Setting → (script : List Line) → (Line → Bool) → (lines : List Line) → Plain → List ℕ
drawn s script these [] p = []
drawn s script these (line ∷ lines) p = rise_by (these line) p.counter (serve s script line p).after.counter ++ drawn s script these lines (serve s script line p).after

rise_none : (c d : ℕ) → d ≡ c → rise c d ≡ []
rise_none c d e = let t : (c == d) ≡ true = grind (arith, nat_tests) in ap (λ (b : Bool). cond b [] (d ∷ [])) t

rise_one : (c d : ℕ) → d ≡ c + 1 → rise c d ≡ (c + 1) ∷ []
rise_one c d e = let t : (c == d) ≡ false = grind (arith, nat_tests) in ap (λ (b : Bool). cond b [] (d ∷ [])) t ∙ ap (λ (n : ℕ). n ∷ []) e

-- a line lets the counter stand, or go on by one
counts : (s : Setting) (line : Line) (p : Plain) (r : Step) → Effect s line p r → (r.after.counter ≡ p.counter) ⊎ (r.after.counter ≡ p.counter + 1)
counts s line p r (Effect.kept k told) = inl k.counter
counts s line p r (Effect.began tab url made offers b told) = inr b.counter

rise_is : (these : Bool) (c d : ℕ) → (d ≡ c) ⊎ (d ≡ c + 1) → (rise_by these c d ≡ []) ⊎ (rise_by these c d ≡ (c + 1) ∷ [])
rise_is false c d h = inl refl
rise_is true c d (inl e) = inl (rise_none c d e)
rise_is true c d (inr e) = inr (rise_one c d e)

rises_on : (these : Bool) (c d : ℕ) (more : List ℕ) → (d ≡ c) ⊎ (d ≡ c + 1) → RiseAbove d more → RiseAbove c (rise_by these c d ++ more)
rises_on these c d more (inr e) r = rise_told c d (rise_by these c d) more (rise_is these c d (inr e)) e r
rises_on true c d more (inl e) r = rw (rise_none c d e) (subst (λ (n : ℕ). RiseAbove n more) e r)
rises_on false c d more (inl e) r = subst (λ (n : ℕ). RiseAbove n more) e r

pub drawn_rise : (s : Setting) (script : List Line) (these : Line → Bool) (lines : List Line) (p : Plain) → RiseAbove p.counter (drawn s script these lines p)
drawn_rise s script these [] p = tt
drawn_rise s script these (line ∷ lines) p =
    rises_on (these line) p.counter (serve s script line p).after.counter (drawn s script these lines (serve s script line p).after)
    (counts s line p (serve s script line p) (effect s script line p)) (drawn_rise s script these lines (serve s script line p).after)

-- these versions stand for those that are drawn next, in order
abbrev pub StandFor : (ℕ → ℕ) → ℕ → List ℕ → Type 0
StandFor rename c [] = Unit {0}
StandFor rename c (d ∷ ds) = (rename (c + 1) ≡ d) × StandFor rename (c + 1) ds

next_stands : (rename : ℕ → ℕ) (c d e : ℕ) (more : List ℕ) → StandFor rename c (rise d e ++ more) → e ≡ d + 1 → rename (c + 1) ≡ d + 1
next_stands rename c d e more h is = (subst (λ (xs : List ℕ). StandFor rename c (xs ++ more)) (rise_one d e is) h).0

rest_stands : (rename : ℕ → ℕ) (p q : Plain) (r u : Step) (more : List ℕ) → Drew p q r u → StandFor rename q.counter (rise p.counter r.after.counter ++ more) → StandFor rename u.after.counter more
rest_stands rename p q r u more (Drew.none e d) h =
    subst (λ (c : ℕ). StandFor rename c more) (sym d) (subst (λ (xs : List ℕ). StandFor rename q.counter (xs ++ more)) (rise_none p.counter r.after.counter e) h)
rest_stands rename p q r u more (Drew.one e d) h =
    subst (λ (c : ℕ). StandFor rename c more) (sym d) (subst (λ (xs : List ℕ). StandFor rename q.counter (xs ++ more)) (rise_one p.counter r.after.counter e) h).1

-- each line is sorted, and leaves the last tab to whole requests
abbrev pub AllSorted : Setting → (own mine : ℕ → Bool) → List Line → Type 0
AllSorted s own mine [] = Unit {0}
AllSorted s own mine (line ∷ lines) = Sorts s own mine line.request × IsOnTab line.request × AllSorted s own mine lines

abbrev pub chosen : Setting → (own mine : ℕ → Bool) → Line → Bool
chosen s own mine line = is_of s own mine line.request

-- own lines among others, and by themselves
pub record Parts (rename : ℕ → ℕ) (own mine : ℕ → Bool) (s : Setting) (cap : ℕ → ℕ) (script lines : List Line) (p q : Plain) : Type 0 where
  pub answered : answers_to (chosen s own mine) lines (answers s script lines p) ≡ map (renamed rename) (answers s script (filter (chosen s own mine) lines) q)
  pub agree : Agree rename own mine (after s script lines p) (after s script (filter (chosen s own mine) lines) q)
  pub room : InRoom s cap (after s script lines p)

with_own : (rename : ℕ → ℕ) (own mine : ℕ → Bool) (s : Setting) (cap : ℕ → ℕ) (script lines : List Line) (line : Line) (p q : Plain) → chosen s own mine line ≡ true
    → (serve s script line p).answer ≡ renamed rename (serve s script line q).answer
    → Parts rename own mine s cap script lines (serve s script line p).after (serve s script line q).after → Parts rename own mine s cap script (line ∷ lines) p q
with_own rename own mine s cap script lines line p q is same h = record {
  answered = rw is (ap (λ (a : Answer). a ∷ answers_to (chosen s own mine) lines (answers s script lines (serve s script line p).after)) same
      ∙ ap (λ (xs : List Answer). renamed rename (serve s script line q).answer ∷ xs) h.answered);
  agree = rw is h.agree;
  room = h.room;
}

with_other : (rename : ℕ → ℕ) (own mine : ℕ → Bool) (s : Setting) (cap : ℕ → ℕ) (script lines : List Line) (line : Line) (p q : Plain) → chosen s own mine line ≡ false
    → Parts rename own mine s cap script lines (serve s script line p).after q → Parts rename own mine s cap script (line ∷ lines) p q
with_other rename own mine s cap script lines line p q is h = record { answered = rw is h.answered; agree = rw is h.agree; room = h.room }

-- how far the counters may go
pub record Below (p q : Plain) (lines : List Line) : Type 0 where
  pub left : p.counter + offers_in lines ≤ 4294901760
  pub right : q.counter + offers_in lines ≤ 4294901760

below_next : (s : Setting) (script lines : List Line) (line : Line) (p : Plain) → p.counter + offers_in (line ∷ lines) ≤ 4294901760 → (serve s script line p).after.counter + offers_in lines ≤ 4294901760
below_next s script lines line p h =
    let split = offers_cons line lines in
    let grew = counter_by s line p (serve s script line p) (effect s script line p) in
    omega arith

below_rest : (lines : List Line) (line : Line) (p : Plain) → p.counter + offers_in (line ∷ lines) ≤ 4294901760 → p.counter + offers_in lines ≤ 4294901760
below_rest lines line p h = let split = offers_cons line lines in omega arith

below_now : (lines : List Line) (line : Line) (p : Plain) → p.counter + offers_in (line ∷ lines) ≤ 4294901760 → offers_body line.request ≡ true → p.counter < 4294901760
below_now lines line p h o =
    let split = offers_cons line lines in
    let one : one_if (offers_body line.request) ≡ 1 = ap one_if o in
    omega arith

abbrev outcome : (s : Setting) (cap : ℕ → ℕ) (script lines : List Line) (line : Line) (p : Plain) → InRoom s cap p → p.counter + offers_in (line ∷ lines) ≤ 4294901760 → ((a : ℕ) → need_at s a line.request ≤ cap a)
    → Outcome s cap (tab_of line.request) p (Because s p line.request) (serve s script line p)
outcome s cap script lines line p h below le = serve_room s cap script line.worker line.number line.request p h (below_now lines line p below) le

free_after : (s : Setting) (cap : ℕ → ℕ) (script lines : List Line) (line : Line) (p : Plain) → InRoom s cap p → p.counter + offers_in (line ∷ lines) ≤ 4294901760 → ((a : ℕ) → need_at s a line.request ≤ cap a)
    → tab_at p 7 ≡ Free → IsOnTab line.request → tab_at (serve s script line p).after 7 ≡ Free
free_after s cap script lines line p h below le free on = last_free s cap script line.worker line.number line.request p h free on (outcome s cap script lines line p h below le)

-- behind an own line
ready_own : (rename : ℕ → ℕ) (own mine : ℕ → Bool) (s : Setting) (cap : ℕ → ℕ) (script lines : List Line) (line : Line) (p q : Plain) → Ready rename own mine s cap p q → Below p q (line ∷ lines)
    → ((a : ℕ) → need_at s a line.request ≤ cap a) → IsOnTab line.request → Agree rename own mine (serve s script line p).after (serve s script line q).after
    → Ready rename own mine s cap (serve s script line p).after (serve s script line q).after
ready_own rename own mine s cap script lines line p q h below le on agree = record {
  none = h.none;
  agree = agree;
  last = h.last;
  left = room_after s cap script line p h.left (outcome s cap script lines line p h.left below.left le);
  right = room_after s cap script line q h.right (outcome s cap script lines line q h.right below.right le);
  left_free = free_after s cap script lines line p h.left below.left le h.left_free on;
  right_free = free_after s cap script lines line q h.right below.right le h.right_free on;
}

-- behind another
ready_other : (rename : ℕ → ℕ) (own mine : ℕ → Bool) (s : Setting) (cap : ℕ → ℕ) (script lines : List Line) (line : Line) (p q : Plain) → Ready rename own mine s cap p q → Below p q (line ∷ lines)
    → ((a : ℕ) → need_at s a line.request ≤ cap a) → IsOnTab line.request → Sorts s own mine line.request → chosen s own mine line ≡ false
    → Ready rename own mine s cap (serve s script line p).after q
ready_other rename own mine s cap script lines line p q h below le on sorts other =
    let free = free_after s cap script lines line p h.left below.left le h.left_free on in
    let out = outcome s cap script lines line p h.left below.left le in
    record {
      none = h.none;
      agree = other_agrees rename own mine s cap (tab_of line.request) p q (Because s p line.request) (serve s script line p) h.agree
          (elsewhere rename own mine s line.request p q h.agree h.left_free other sorts)
          (spares own mine s line.request p (serve s script line p) other (free ∙ sym h.left_free))
          (anchors_stay s line p (serve s script line p) (effect s script line p)) out;
      last = h.last;
      left = room_after s cap script line p h.left out;
      right = h.right;
      left_free = free;
      right_free = h.right_free;
    }

abbrev rest_drawn : Setting → (own mine : ℕ → Bool) → (script lines : List Line) → Line → Plain → List ℕ
rest_drawn s own mine script lines line p = drawn s script (chosen s own mine) lines (serve s script line p).after

stands_own : (rename : ℕ → ℕ) (own mine : ℕ → Bool) (s : Setting) (script lines : List Line) (line : Line) (p q : Plain) → chosen s own mine line ≡ true
    → StandFor rename q.counter (drawn s script (chosen s own mine) (line ∷ lines) p)
    → StandFor rename q.counter (rise p.counter (serve s script line p).after.counter ++ rest_drawn s own mine script lines line p)
stands_own rename own mine s script lines line p q is h =
    subst (λ (b : Bool). StandFor rename q.counter (rise_by b p.counter (serve s script line p).after.counter ++ rest_drawn s own mine script lines line p)) is h

stands_other : (rename : ℕ → ℕ) (own mine : ℕ → Bool) (s : Setting) (script lines : List Line) (line : Line) (p q : Plain) → chosen s own mine line ≡ false
    → StandFor rename q.counter (drawn s script (chosen s own mine) (line ∷ lines) p) → StandFor rename q.counter (rest_drawn s own mine script lines line p)
stands_other rename own mine s script lines line p q is h =
    subst (λ (b : Bool). StandFor rename q.counter (rise_by b p.counter (serve s script line p).after.counter ++ rest_drawn s own mine script lines line p)) is h

pub parts : (rename : ℕ → ℕ) (own mine : ℕ → Bool) (s : Setting) (cap : ℕ → ℕ) (script lines : List Line) (p q : Plain) → Ready rename own mine s cap p q → AllNeeded s cap lines → Below p q lines
    → AllSorted s own mine lines → StandFor rename q.counter (drawn s script (chosen s own mine) lines p) → Parts rename own mine s cap script lines p q
parts rename own mine s cap script [] p q h le below sorted stands = record { answered = refl; agree = h.agree; room = h.left }
parts rename own mine s cap script (line ∷ lines) p q h le below sorted stands = by_test (chosen s own mine line) refl
    (λ q2. parts rename own mine s cap script lines (serve s script line p).after q2)
  where
    by_test : (b : Bool) → chosen s own mine line ≡ b
        → ((q2 : Plain) → Ready rename own mine s cap (serve s script line p).after q2 → AllNeeded s cap lines → Below (serve s script line p).after q2 lines
        → AllSorted s own mine lines → StandFor rename q2.counter (rest_drawn s own mine script lines line p) → Parts rename own mine s cap script lines (serve s script line p).after q2)
        → Parts rename own mine s cap script (line ∷ lines) p q
    by_test true is next =
        let now = stands_own rename own mine s script lines line p q is stands in
        let both = own_line rename own mine s cap script line p q h (below_now lines line p below.left) (below_now lines line q below.right) le.0 is sorted.0
        (λ e. next_stands rename q.counter p.counter (serve s script line p).after.counter (rest_drawn s own mine script lines line p) now e) in
        with_own rename own mine s cap script lines line p q is both.alike.answer
        (next (serve s script line q).after (ready_own rename own mine s cap script lines line p q h below le.0 sorted.1 both.alike.agree) le.1
        (record { left = below_next s script lines line p below.left; right = below_next s script lines line q below.right }) sorted.2
        (rest_stands rename p q (serve s script line p) (serve s script line q) (rest_drawn s own mine script lines line p) both.drew now))
    by_test false is next =
        with_other rename own mine s cap script lines line p q is
        (next q (ready_other rename own mine s cap script lines line p q h below le.0 sorted.1 sorted.0 is) le.1
        (record { left = below_next s script lines line p below.left; right = below_rest lines line q below.right }) sorted.2
        (stands_other rename own mine s script lines line p q is stands))
