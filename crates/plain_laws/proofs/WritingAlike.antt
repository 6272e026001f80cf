-- Requests that write are answered alike by stores that agree and have room.
use Rattle.std.proofs.Common.{◌≡◌, ◌∙◌, ℕ, ◌+◌, ◌<◌, ◌≤◌, List, refl, sym, ap, subst, arith, Bool, true, false, cond, set}
use Rattle.std.specs.Prelude.{Option, Some, None, ◌||◌, not, min, nat_lt, nat_le}
use Rattle.std.proofs.lemmas.Bool.Decides.{nat_tests}
use Rattle.store_key.specs.Key.{key_of}
use Rattle.store_key.specs.Anchor.{anchor_of}
use Rattle.lock_word.specs.declared.word.Word.{Word}
use Rattle.script_text.specs.declared.answer.Answer.{Answer}
use Rattle.script_text.specs.declared.answer.Answer.TheVariants as answer
use Rattle.plain_model.specs.declared.entry.Life.TheVariants.{Whole, GivenUp}
use Rattle.plain_model.specs.declared.entry.Entry.{Entry}
use Rattle.plain_model.specs.declared.entry.Place.{Place}
use Rattle.plain_model.specs.declared.store.Setting.{Setting}
use Rattle.plain_model.specs.declared.store.Tab.{Tab}
use Rattle.plain_model.specs.declared.store.Tab.TheVariants.{Free, Writing, Reading}
use Rattle.plain_model.specs.declared.store.Plain.{Plain}
use Rattle.plain_model.specs.declared.store.Refusal.{Refusal}
use Rattle.plain_model.specs.declared.store.Refusal.TheVariants.{Full, Large}
use Rattle.plain_model.specs.Store.{place_at, entry_at, tab_at, with_tab, meta_size, word_at, is_vacant_at, is_idle_at}
use Rattle.plain_model.specs.Slots.{grown_as, resize}
use Rattle.plain_model.specs.Writing.{Step, step, close_writer, refused_by, lacking, append, taken_by, entry_of, begin, unless_refused, add, last_slot, finish, end, give_up}
use Rattle.plain_model.specs.Serving.{put}
use Rattle.plain_laws.specs.Fitting.{need}
use Rattle.plain_laws.specs.Renaming.{renamed, renamed_word}
use Rattle.plain_laws.proofs.Alone.{added_size, added_refusal}
use Rattle.plain_laws.proofs.Fitted.{Sized}
use Rattle.plain_laws.proofs.Roomed.{IsAt, InRoom, Written, unless_some, add_is, end_is, grown_to, grown_on, written_of, grows_at, ended_at, give_up_is}
use Rattle.plain_laws.proofs.Keeping.{keeps_end}
use Rattle.plain_laws.proofs.Running.{taken_room}
use Rattle.plain_laws.proofs.Agreeing.{KeepsNone, Agree, Alike, entry_alike, word_alike, able_alike, agree_tab, agree_place, agree_counter, resize_agree, close_writer_agree, not_idle}

-- both counters stand, or both go on by one
pub data Drew (p q : Plain) (r u : Step) : Type 0 where
  none : r.after.counter ≡ p.counter → u.after.counter ≡ q.counter → Drew p q r u
  one : r.after.counter ≡ p.counter + 1 → u.after.counter ≡ q.counter + 1 → Drew p q r u

-- the end of a writing
finish_answer : (rename : ℕ → ℕ) (v : ℕ) (doom : Bool) → cond doom (answer.Doomed (rename v)) (answer.Stored (rename v)) ≡ renamed rename (cond doom (answer.Doomed v) (answer.Stored v))
finish_answer rename v true = refl
finish_answer rename v false = refl

finish_alike : (rename : ℕ → ℕ) (own mine : ℕ → Bool) (tab a : ℕ) (p q : Plain) → Agree rename own mine p q → own a ≡ true → Alike rename own mine (finish tab a p) (finish tab a q)
finish_alike rename own mine tab a p q h o = record {
  answer = ap (λ (x : Place). cond x.doom (answer.Doomed x.version) (answer.Stored x.version)) (h.places a o) ∙ finish_answer rename (place_at q a).version (place_at q a).doom;
  agree = close_writer_agree rename own mine Whole tab a p q h o;
}

refused_alike : (rename : ℕ → ℕ) (x : Refusal) → refused_by x ≡ renamed rename (refused_by x)
refused_alike rename Full = refl
refused_alike rename Large = refl

-- what a refused writing comes to
refused_is : (s : Setting) (tab a count c : ℕ) (p : Plain) (next : Plain → Step) (x : Refusal) → 0 < s.room → (w : Written s c tab a p) → Sized s c w.entry → count ≤ lacking w.entry → added_refusal s count w.entry.content ≡ Some x
    → unless_refused tab a next (append s a count w.entry.content p) ≡ step (refused_by x) (close_writer GivenUp tab a (resize a (added_size s count w.entry.content) p))
refused_is s tab a count c p next x room w sized le r =
    ap (unless_refused tab a next) (grown_to s tab a count c p w.entry next room w.roomy sized le)
    ∙ unless_some tab a next (grown_as (resize a (added_size s count w.entry.content) p) (added_refusal s count w.entry.content)) x r

given_up_alike : (rename : ℕ → ℕ) (own mine : ℕ → Bool) (tab a size : ℕ) (x : Refusal) (p q : Plain) → Agree rename own mine p q → own a ≡ true
    → Alike rename own mine (step (refused_by x) (close_writer GivenUp tab a (resize a size p))) (step (refused_by x) (close_writer GivenUp tab a (resize a size q)))
given_up_alike rename own mine tab a size x p q h o = record {
  answer = refused_alike rename x;
  agree = close_writer_agree rename own mine GivenUp tab a (resize a size p) (resize a size q) (resize_agree rename own mine a size p q h o) o;
}

-- two steps that are told by other words
by_words : (rename : ℕ → ℕ) (own mine : ℕ → Bool) (r v u w : Step) → r ≡ v → u ≡ w → Alike rename own mine v w → Alike rename own mine r u
by_words rename own mine r v u w e d h = subst (λ (x : Step). Alike rename own mine x u) (sym e) (subst (λ (x : Step). Alike rename own mine v x) (sym d) h)

-- a tab of each store writes this entry
pub record WriteBoth (s : Setting) (cap : ℕ → ℕ) (tab a : ℕ) (x : Entry) (p q : Plain) : Type 0 where
  pub left : InRoom s cap p
  pub right : InRoom s cap q
  pub left_at : tab_at p tab ≡ Writing a
  pub right_at : tab_at q tab ≡ Writing a
  pub left_there : entry_at p a ≡ Some x
  pub right_there : entry_at q a ≡ Some x

abbrev left_of : (s : Setting) (cap : ℕ → ℕ) (tab a : ℕ) (x : Entry) (p q : Plain) → WriteBoth s cap tab a x p q → Written s (cap a) tab a p
left_of s cap tab a x p q w = written_of s cap tab a p x w.left w.left_at w.left_there (grows_at s cap tab a p x w.left w.left_at w.left_there)

abbrev right_of : (s : Setting) (cap : ℕ → ℕ) (tab a : ℕ) (x : Entry) (p q : Plain) → WriteBoth s cap tab a x p q → Written s (cap a) tab a q
right_of s cap tab a x p q w = written_of s cap tab a q x w.right w.right_at w.right_there (grows_at s cap tab a q x w.right w.right_at w.right_there)

sized_of : (s : Setting) (cap : ℕ → ℕ) (tab a : ℕ) (x : Entry) (p q : Plain) → WriteBoth s cap tab a x p q → Sized s (cap a) x
sized_of s cap tab a x p q w = (w.left.fits a).writing x w.left_there (grows_at s cap tab a p x w.left w.left_at w.left_there)

-- a writing that goes on, or is refused
grown_alike : (rename : ℕ → ℕ) (own mine : ℕ → Bool) (s : Setting) (cap : ℕ → ℕ) (tab a count : ℕ) (x : Entry) (next : Plain → Step) (p q : Plain)
    → Agree rename own mine p q → own a ≡ true → WriteBoth s cap tab a x p q → count ≤ lacking x
    → (added_refusal s count x.content ≡ None → Alike rename own mine (next (resize a (x.content + count) p)) (next (resize a (x.content + count) q)))
    → (o : Option Refusal) → added_refusal s count x.content ≡ o
    → Alike rename own mine (unless_refused tab a next (append s a count x.content p)) (unless_refused tab a next (append s a count x.content q))
grown_alike rename own mine s cap tab a count x next p q h o w le on (Some r) e =
    let sized = sized_of s cap tab a x p q w in
    by_words rename own mine (unless_refused tab a next (append s a count x.content p)) (step (refused_by r) (close_writer GivenUp tab a (resize a (added_size s count x.content) p)))
    (unless_refused tab a next (append s a count x.content q)) (step (refused_by r) (close_writer GivenUp tab a (resize a (added_size s count x.content) q)))
    (refused_is s tab a count (cap a) p next r w.left.room (left_of s cap tab a x p q w) sized le e)
    (refused_is s tab a count (cap a) q next r w.right.room (right_of s cap tab a x p q w) sized le e)
    (given_up_alike rename own mine tab a (added_size s count x.content) r p q h o)
grown_alike rename own mine s cap tab a count x next p q h o w le on None e =
    let sized = sized_of s cap tab a x p q w in
    by_words rename own mine (unless_refused tab a next (append s a count x.content p)) (next (resize a (x.content + count) p))
    (unless_refused tab a next (append s a count x.content q)) (next (resize a (x.content + count) q))
    (grown_on s count (cap a) tab a p next w.left.room (left_of s cap tab a x p q w) sized le e)
    (grown_on s count (cap a) tab a q next w.right.room (right_of s cap tab a x p q w) sized le e)
    (on e)

-- adding
add_both : (rename : ℕ → ℕ) (own mine : ℕ → Bool) (s : Setting) (cap : ℕ → ℕ) (tab a count : ℕ) (x : Entry) (p q : Plain)
    → Agree rename own mine p q → own a ≡ true → WriteBoth s cap tab a x p q → Alike rename own mine (add s tab count p) (add s tab count q)
add_both rename own mine s cap tab a count x p q h o w =
    by_words rename own mine (add s tab count p) (unless_refused tab a next (append s a n x.content p)) (add s tab count q) (unless_refused tab a next (append s a n x.content q))
    (add_is s tab count a p x w.left_at w.left_there) (add_is s tab count a q x w.right_at w.right_there)
    (grown_alike rename own mine s cap tab a n x next p q h o w (omega arith)
    (λ e. record { answer = refl; agree = resize_agree rename own mine a (x.content + n) p q h o }) (added_refusal s n x.content) refl)
  where
    n : ℕ
    n = min count (lacking x)

    next : Plain → Step
    next = step (answer.Added n)

-- the tab is at an own anchor
at_own : (rename : ℕ → ℕ) (own mine : ℕ → Bool) (tab a : ℕ) (p q : Plain) → Agree rename own mine p q → mine tab ≡ true → tab_at q tab ≡ Writing a → own a ≡ true
at_own rename own mine tab a p q h m e = h.right tab a (subst (λ (x : Tab). IsAt a x) (sym e) refl) ∙ m

add_nothing : (s : Setting) (tab count a : ℕ) (p : Plain) → tab_at p tab ≡ Writing a → entry_at p a ≡ None → add s tab count p ≡ step answer.Tab p
add_nothing s tab count a p t e = rw (t, e) refl

add_to : (rename : ℕ → ℕ) (own mine : ℕ → Bool) (s : Setting) (cap : ℕ → ℕ) (tab a count : ℕ) (p q : Plain) → Agree rename own mine p q → own a ≡ true → InRoom s cap p → InRoom s cap q
    → (e : Option Entry) → entry_at q a ≡ e → entry_at p a ≡ e → tab_at q tab ≡ Writing a → tab_at p tab ≡ Writing a → Alike rename own mine (add s tab count p) (add s tab count q)
add_to rename own mine s cap tab a count p q h o i j None e d t u =
    by_words rename own mine (add s tab count p) (step answer.Tab p) (add s tab count q) (step answer.Tab q) (add_nothing s tab count a p u d) (add_nothing s tab count a q t e) (record { answer = refl; agree = h })
add_to rename own mine s cap tab a count p q h o i j (Some x) e d t u =
    add_both rename own mine s cap tab a count x p q h o (record { left = i; right = j; left_at = u; right_at = t; left_there = d; right_there = e })

pub add_alike : (rename : ℕ → ℕ) (own mine : ℕ → Bool) (s : Setting) (cap : ℕ → ℕ) (tab count : ℕ) (p q : Plain) → Agree rename own mine p q → mine tab ≡ true → InRoom s cap p → InRoom s cap q
    → (t : Tab) → tab_at q tab ≡ t → tab_at p tab ≡ t → Alike rename own mine (add s tab count p) (add s tab count q)
add_alike rename own mine s cap tab count p q h m i j Free t u = rw (t, u) (record { answer = refl; agree = h })
add_alike rename own mine s cap tab count p q h m i j (Reading a g other) t u = rw (t, u) (record { answer = refl; agree = h })
add_alike rename own mine s cap tab count p q h m i j (Writing a) t u =
    let o = at_own rename own mine tab a p q h m t in
    add_to rename own mine s cap tab a count p q h o i j (entry_at q a) refl (entry_alike rename own mine a p q h o) t u

-- ending
end_both : (rename : ℕ → ℕ) (own mine : ℕ → Bool) (s : Setting) (cap : ℕ → ℕ) (tab a : ℕ) (x : Entry) (p q : Plain)
    → Agree rename own mine p q → own a ≡ true → WriteBoth s cap tab a x p q → Alike rename own mine (end s tab p) (end s tab q)
end_both rename own mine s cap tab a x p q h o w =
    by_words rename own mine (end s tab p) (unless_refused tab a next (append s a (lacking x) x.content p)) (end s tab q) (unless_refused tab a next (append s a (lacking x) x.content q))
    (end_is s tab a p x w.left_at w.left_there) (end_is s tab a q x w.right_at w.right_there)
    (grown_alike rename own mine s cap tab a (lacking x) x next p q h o w (omega arith) last (added_refusal s (lacking x) x.content) refl)
  where
    next : Plain → Step
    next z = unless_refused tab a (finish tab a) (last_slot s (x.content + lacking x) z)

    last : added_refusal s (lacking x) x.content ≡ None → Alike rename own mine (next (resize a (x.content + lacking x) p)) (next (resize a (x.content + lacking x) q))
    last r =
        let sized = sized_of s cap tab a x p q w in
        by_words rename own mine (next (resize a (x.content + lacking x) p)) (finish tab a (resize a (x.content + lacking x) p))
        (next (resize a (x.content + lacking x) q)) (finish tab a (resize a (x.content + lacking x) q))
        (ended_at s (cap a) tab a (lacking x) p w.left.room w.left.slots (left_of s cap tab a x p q w) sized (omega arith) r).0
        (ended_at s (cap a) tab a (lacking x) q w.right.room w.right.slots (right_of s cap tab a x p q w) sized (omega arith) r).0
        (finish_alike rename own mine tab a (resize a (x.content + lacking x) p) (resize a (x.content + lacking x) q) (resize_agree rename own mine a (x.content + lacking x) p q h o) o)

end_nothing : (s : Setting) (tab a : ℕ) (p : Plain) → tab_at p tab ≡ Writing a → entry_at p a ≡ None → end s tab p ≡ step answer.Tab p
end_nothing s tab a p t e = rw (t, e) refl

end_to : (rename : ℕ → ℕ) (own mine : ℕ → Bool) (s : Setting) (cap : ℕ → ℕ) (tab a : ℕ) (p q : Plain) → Agree rename own mine p q → own a ≡ true → InRoom s cap p → InRoom s cap q
    → (e : Option Entry) → entry_at q a ≡ e → entry_at p a ≡ e → tab_at q tab ≡ Writing a → tab_at p tab ≡ Writing a → Alike rename own mine (end s tab p) (end s tab q)
end_to rename own mine s cap tab a p q h o i j None e d t u =
    by_words rename own mine (end s tab p) (step answer.Tab p) (end s tab q) (step answer.Tab q) (end_nothing s tab a p u d) (end_nothing s tab a q t e) (record { answer = refl; agree = h })
end_to rename own mine s cap tab a p q h o i j (Some x) e d t u =
    end_both rename own mine s cap tab a x p q h o (record { left = i; right = j; left_at = u; right_at = t; left_there = d; right_there = e })

pub end_alike : (rename : ℕ → ℕ) (own mine : ℕ → Bool) (s : Setting) (cap : ℕ → ℕ) (tab : ℕ) (p q : Plain) → Agree rename own mine p q → mine tab ≡ true → InRoom s cap p → InRoom s cap q
    → (t : Tab) → tab_at q tab ≡ t → tab_at p tab ≡ t → Alike rename own mine (end s tab p) (end s tab q)
end_alike rename own mine s cap tab p q h m i j Free t u = rw (t, u) (record { answer = refl; agree = h })
end_alike rename own mine s cap tab p q h m i j (Reading a g other) t u = rw (t, u) (record { answer = refl; agree = h })
end_alike rename own mine s cap tab p q h m i j (Writing a) t u =
    let o = at_own rename own mine tab a p q h m t in
    end_to rename own mine s cap tab a p q h o i j (entry_at q a) refl (entry_alike rename own mine a p q h o) t u

-- giving up
pub give_up_alike : (rename : ℕ → ℕ) (own mine : ℕ → Bool) (tab : ℕ) (p q : Plain) → Agree rename own mine p q → mine tab ≡ true
    → (t : Tab) → tab_at q tab ≡ t → tab_at p tab ≡ t → Alike rename own mine (give_up tab p) (give_up tab q)
give_up_alike rename own mine tab p q h m Free t u = rw (t, u) (record { answer = refl; agree = h })
give_up_alike rename own mine tab p q h m (Reading a g other) t u = rw (t, u) (record { answer = refl; agree = h })
give_up_alike rename own mine tab p q h m (Writing a) t u =
    by_words rename own mine (give_up tab p) (step answer.Dropped (close_writer GivenUp tab a p)) (give_up tab q) (step answer.Dropped (close_writer GivenUp tab a q))
    (give_up_is tab a p u) (give_up_is tab a q t)
    (record { answer = refl; agree = close_writer_agree rename own mine GivenUp tab a p q h (at_own rename own mine tab a p q h m t) })

-- beginning: both do, or neither for one cause
abbrev began : Setting → ℕ → (url body : List ℕ) → ℕ → Plain → Step
began s tab url body offer p = step (answer.Begun (p.counter + 1)) (taken_by tab (anchor_of (key_of url) s.anchors) (entry_of url body offer) p)

abbrev is_able : Setting → List ℕ → Plain → Bool
is_able s url p = is_vacant_at p (anchor_of (key_of url) s.anchors) || is_idle_at p (anchor_of (key_of url) s.anchors)

data BeginBoth (rename : ℕ → ℕ) (s : Setting) (tab : ℕ) (url body : List ℕ) (offer : ℕ) (p q : Plain) : Type 0 where
  in_use : begin s tab url body offer p ≡ step answer.Tab p → begin s tab url body offer q ≡ step answer.Tab q → BeginBoth rename s tab url body offer p q
  long : begin s tab url body offer p ≡ step answer.LongUrl p → begin s tab url body offer q ≡ step answer.LongUrl q → BeginBoth rename s tab url body offer p q
  busy : (v w : Word) → v ≡ renamed_word rename w → begin s tab url body offer p ≡ step (answer.Busy v v) p → begin s tab url body offer q ≡ step (answer.Busy w w) q → BeginBoth rename s tab url body offer p q
  begun : tab_at p tab ≡ Free → tab_at q tab ≡ Free → nat_lt s.room (meta_size url) ≡ false → is_able s url p ≡ true → is_able s url q ≡ true
      → begin s tab url body offer p ≡ began s tab url body offer p → begin s tab url body offer q ≡ began s tab url body offer q → BeginBoth rename s tab url body offer p q

is_below : (c : ℕ) → c < 4294901760 → nat_le 4294901760 c ≡ false
is_below c h = grind (arith, nat_tests)

begin_long : (s : Setting) (tab : ℕ) (url body : List ℕ) (offer : ℕ) (p : Plain) → tab_at p tab ≡ Free → nat_lt s.room (meta_size url) ≡ true → begin s tab url body offer p ≡ step answer.LongUrl p
begin_long s tab url body offer p t l = rw (t, l) refl

begin_busy : (s : Setting) (tab : ℕ) (url body : List ℕ) (offer : ℕ) (p : Plain) → tab_at p tab ≡ Free → nat_lt s.room (meta_size url) ≡ false → not (is_able s url p) ≡ true
    → begin s tab url body offer p ≡ step (answer.Busy (word_at s p (anchor_of (key_of url) s.anchors)) (word_at s p (anchor_of (key_of url) s.anchors))) p
begin_busy s tab url body offer p t l b = rw (t, l, b) refl

begin_begins : (s : Setting) (tab : ℕ) (url body : List ℕ) (offer : ℕ) (p : Plain) → tab_at p tab ≡ Free → nat_lt s.room (meta_size url) ≡ false → not (is_able s url p) ≡ false → nat_le 4294901760 p.counter ≡ false
    → begin s tab url body offer p ≡ began s tab url body offer p
begin_begins s tab url body offer p t l b c = rw (t, l, b, c) refl

begin_used : (s : Setting) (tab : ℕ) (url body : List ℕ) (offer : ℕ) (p : Plain) (x : Tab) → tab_at p tab ≡ x → (x ≡ Free → ⊥) → begin s tab url body offer p ≡ step answer.Tab p
begin_used s tab url body offer p Free t n = absurd (n refl)
begin_used s tab url body offer p (Writing a) t n = rw t refl
begin_used s tab url body offer p (Reading a g o) t n = rw t refl

both_begin_free : (rename : ℕ → ℕ) (own mine : ℕ → Bool) (s : Setting) (tab : ℕ) (url body : List ℕ) (offer : ℕ) (p q : Plain) → KeepsNone rename → Agree rename own mine p q → own (anchor_of (key_of url) s.anchors) ≡ true
    → p.counter < 4294901760 → q.counter < 4294901760 → tab_at q tab ≡ Free → tab_at p tab ≡ Free
    → (l b : Bool) → nat_lt s.room (meta_size url) ≡ l → is_able s url q ≡ b → is_able s url p ≡ b → BeginBoth rename s tab url body offer p q
both_begin_free rename own mine s tab url body offer p q k h o lp lq t u true b hl hq hp =
    BeginBoth.long (begin_long s tab url body offer p u hl) (begin_long s tab url body offer q t hl)
both_begin_free rename own mine s tab url body offer p q k h o lp lq t u false false hl hq hp =
    BeginBoth.busy (word_at s p (anchor_of (key_of url) s.anchors)) (word_at s q (anchor_of (key_of url) s.anchors)) (word_alike rename own mine s (anchor_of (key_of url) s.anchors) p q k h o)
    (begin_busy s tab url body offer p u hl (ap not hp)) (begin_busy s tab url body offer q t hl (ap not hq))
both_begin_free rename own mine s tab url body offer p q k h o lp lq t u false true hl hq hp =
    BeginBoth.begun u t hl hp hq
    (begin_begins s tab url body offer p u hl (ap not hp) (is_below p.counter lp)) (begin_begins s tab url body offer q t hl (ap not hq) (is_below q.counter lq))

both_begin : (rename : ℕ → ℕ) (own mine : ℕ → Bool) (s : Setting) (tab : ℕ) (url body : List ℕ) (offer : ℕ) (p q : Plain) → KeepsNone rename → Agree rename own mine p q → own (anchor_of (key_of url) s.anchors) ≡ true
    → p.counter < 4294901760 → q.counter < 4294901760 → (x : Tab) → tab_at q tab ≡ x → tab_at p tab ≡ x → BeginBoth rename s tab url body offer p q
both_begin rename own mine s tab url body offer p q k h o lp lq Free t u =
    both_begin_free rename own mine s tab url body offer p q k h o lp lq t u (nat_lt s.room (meta_size url)) (is_able s url q) refl refl (able_alike rename own mine (anchor_of (key_of url) s.anchors) p q h o)
both_begin rename own mine s tab url body offer p q k h o lp lq (Writing a) t u =
    BeginBoth.in_use (begin_used s tab url body offer p (Writing a) u (λ e. cc)) (begin_used s tab url body offer q (Writing a) t (λ e. cc))
both_begin rename own mine s tab url body offer p q k h o lp lq (Reading a g other) t u =
    BeginBoth.in_use (begin_used s tab url body offer p (Reading a g other) u (λ e. cc)) (begin_used s tab url body offer q (Reading a g other) t (λ e. cc))

-- what is begun in both
taken_agree : (rename : ℕ → ℕ) (own mine : ℕ → Bool) (tab a : ℕ) (e : Entry) (p q : Plain) → Agree rename own mine p q → own a ≡ true → mine tab ≡ true → rename (q.counter + 1) ≡ p.counter + 1
    → Agree rename own mine (taken_by tab a e p) (taken_by tab a e q)
taken_agree rename own mine tab a e p q h o m next =
    agree_counter rename own mine (p.counter + 1) (q.counter + 1) (with_tab (record p { places = set p.places a x }) tab (Writing a)) (with_tab (record q { places = set q.places a y }) tab (Writing a))
    (agree_tab rename own mine tab (Writing a) (record p { places = set p.places a x }) (record q { places = set q.places a y })
    (agree_place rename own mine a x y p q h (ap (λ (v : ℕ). new v) (sym next))) (λ c at. ap own (sym at) ∙ (o ∙ sym m)) (not_idle mine tab (Writing a) m))
  where
    new : ℕ → Place
    new v = record { version = v; doom = false; entry = Some e }

    x : Place
    x = new (p.counter + 1)

    y : Place
    y = new (q.counter + 1)

-- what begins is answered alike, and draws a version in both or in neither
pub record BothServed (rename : ℕ → ℕ) (own mine : ℕ → Bool) (p q : Plain) (r u : Step) : Type 0 where
  pub alike : Alike rename own mine r u
  pub drew : Drew p q r u

begin_served : (rename : ℕ → ℕ) (own mine : ℕ → Bool) (s : Setting) (tab : ℕ) (url body : List ℕ) (offer : ℕ) (p q : Plain) → Agree rename own mine p q → own (anchor_of (key_of url) s.anchors) ≡ true → mine tab ≡ true
    → ((begin s tab url body offer p).after.counter ≡ p.counter + 1 → rename (q.counter + 1) ≡ p.counter + 1)
    → BeginBoth rename s tab url body offer p q → BothServed rename own mine p q (begin s tab url body offer p) (begin s tab url body offer q)
begin_served rename own mine s tab url body offer p q h o m next (BeginBoth.in_use e d) = rw (e, d) (record { alike = record { answer = refl; agree = h }; drew = Drew.none refl refl })
begin_served rename own mine s tab url body offer p q h o m next (BeginBoth.long e d) = rw (e, d) (record { alike = record { answer = refl; agree = h }; drew = Drew.none refl refl })
begin_served rename own mine s tab url body offer p q h o m next (BeginBoth.busy v w same e d) =
    rw (e, d) (record { alike = record { answer = ap (λ (x : Word). answer.Busy x x) same; agree = h }; drew = Drew.none refl refl })
begin_served rename own mine s tab url body offer p q h o m next (BeginBoth.begun t u fits able able_too e d) =
    let drawn : rename (q.counter + 1) ≡ p.counter + 1 = next (ap (λ (r : Step). r.after.counter) e) in
    rw (e, d) (record {
      alike = record { answer = ap answer.Begun (sym drawn); agree = taken_agree rename own mine tab (anchor_of (key_of url) s.anchors) (entry_of url body offer) p q h o m drawn };
      drew = Drew.one refl refl;
    })

pub begin_alike : (rename : ℕ → ℕ) (own mine : ℕ → Bool) (s : Setting) (tab : ℕ) (url body : List ℕ) (offer : ℕ) (p q : Plain) → KeepsNone rename → Agree rename own mine p q → own (anchor_of (key_of url) s.anchors) ≡ true → mine tab ≡ true
    → p.counter < 4294901760 → q.counter < 4294901760
    → ((begin s tab url body offer p).after.counter ≡ p.counter + 1 → rename (q.counter + 1) ≡ p.counter + 1)
    → BothServed rename own mine p q (begin s tab url body offer p) (begin s tab url body offer q)
begin_alike rename own mine s tab url body offer p q k h o m lp lq next =
    begin_served rename own mine s tab url body offer p q h o m next (both_begin rename own mine s tab url body offer p q k h o lp lq (tab_at q tab) refl (h.tabs tab m))

-- storing at once
put_used : (s : Setting) (url body : List ℕ) (offer : ℕ) (p : Plain) → begin s 7 url body offer p ≡ step answer.Tab p → put s url body offer p ≡ step answer.Tab p
put_used s url body offer p e = rw e refl

put_long : (s : Setting) (url body : List ℕ) (offer : ℕ) (p : Plain) → begin s 7 url body offer p ≡ step answer.LongUrl p → put s url body offer p ≡ step answer.LongUrl p
put_long s url body offer p e = rw e refl

put_busy : (s : Setting) (url body : List ℕ) (offer : ℕ) (p : Plain) (w : Word) → begin s 7 url body offer p ≡ step (answer.Busy w w) p → put s url body offer p ≡ step (answer.Busy w w) p
put_busy s url body offer p w e = rw e refl

put_begun : (s : Setting) (url body : List ℕ) (offer : ℕ) (p : Plain) → begin s 7 url body offer p ≡ began s 7 url body offer p
    → put s url body offer p ≡ end s 7 (taken_by 7 (anchor_of (key_of url) s.anchors) (entry_of url body offer) p)
put_begun s url body offer p e = rw e refl

put_counts : (s : Setting) (url body : List ℕ) (offer : ℕ) (p : Plain) → begin s 7 url body offer p ≡ began s 7 url body offer p → (put s url body offer p).after.counter ≡ p.counter + 1
put_counts s url body offer p e =
    ap (λ (r : Step). r.after.counter) (put_begun s url body offer p e)
    ∙ (keeps_end s 7 (taken_by 7 (anchor_of (key_of url) s.anchors) (entry_of url body offer) p) (tab_at (taken_by 7 (anchor_of (key_of url) s.anchors) (entry_of url body offer) p) 7) refl).counter

both_as : (rename : ℕ → ℕ) (own mine : ℕ → Bool) (p q : Plain) (r u : Step) (x y : Answer) → r ≡ step x p → u ≡ step y q → x ≡ renamed rename y → Agree rename own mine p q → BothServed rename own mine p q r u
both_as rename own mine p q r u x y e d same h = record {
  alike = by_words rename own mine r (step x p) u (step y q) e d (record { answer = same; agree = h });
  drew = Drew.none (ap (λ (v : Step). v.after.counter) e) (ap (λ (v : Step). v.after.counter) d);
}

put_served : (rename : ℕ → ℕ) (own mine : ℕ → Bool) (s : Setting) (cap : ℕ → ℕ) (url body : List ℕ) (offer : ℕ) (p q : Plain) → Agree rename own mine p q → own (anchor_of (key_of url) s.anchors) ≡ true → mine 7 ≡ true
    → InRoom s cap p → InRoom s cap q → need s url body ≤ cap (anchor_of (key_of url) s.anchors)
    → ((put s url body offer p).after.counter ≡ p.counter + 1 → rename (q.counter + 1) ≡ p.counter + 1)
    → BeginBoth rename s 7 url body offer p q → BothServed rename own mine p q (put s url body offer p) (put s url body offer q)
put_served rename own mine s cap url body offer p q h o m i j le next (BeginBoth.in_use e d) =
    both_as rename own mine p q (put s url body offer p) (put s url body offer q) answer.Tab answer.Tab (put_used s url body offer p e) (put_used s url body offer q d) refl h
put_served rename own mine s cap url body offer p q h o m i j le next (BeginBoth.long e d) =
    both_as rename own mine p q (put s url body offer p) (put s url body offer q) answer.LongUrl answer.LongUrl (put_long s url body offer p e) (put_long s url body offer q d) refl h
put_served rename own mine s cap url body offer p q h o m i j le next (BeginBoth.busy v w same e d) =
    both_as rename own mine p q (put s url body offer p) (put s url body offer q) (answer.Busy v v) (answer.Busy w w) (put_busy s url body offer p v e) (put_busy s url body offer q w d) (ap (λ (x : Word). answer.Busy x x) same) h
put_served rename own mine s cap url body offer p q h o m i j le next (BeginBoth.begun t u fits able able_too e d) = record {
  alike = by_words rename own mine (put s url body offer p) (end s 7 p1) (put s url body offer q) (end s 7 q1) (put_begun s url body offer p e) (put_begun s url body offer q d)
      (end_alike rename own mine s cap 7 p1 q1 taken m (taken_room s cap 7 url body offer p i t fits able le) (taken_room s cap 7 url body offer q j u fits able_too le) (tab_at q1 7) refl (taken.tabs 7 m));
  drew = Drew.one (put_counts s url body offer p e) (put_counts s url body offer q d);
}
  where
    p1 : Plain
    p1 = taken_by 7 (anchor_of (key_of url) s.anchors) (entry_of url body offer) p

    q1 : Plain
    q1 = taken_by 7 (anchor_of (key_of url) s.anchors) (entry_of url body offer) q

    taken : Agree rename own mine p1 q1
    taken = taken_agree rename own mine 7 (anchor_of (key_of url) s.anchors) (entry_of url body offer) p q h o m (next (put_counts s url body offer p e))

pub put_alike : (rename : ℕ → ℕ) (own mine : ℕ → Bool) (s : Setting) (cap : ℕ → ℕ) (url body : List ℕ) (offer : ℕ) (p q : Plain) → KeepsNone rename → Agree rename own mine p q → own (anchor_of (key_of url) s.anchors) ≡ true → mine 7 ≡ true
    → InRoom s cap p → InRoom s cap q → need s url body ≤ cap (anchor_of (key_of url) s.anchors) → p.counter < 4294901760 → q.counter < 4294901760
    → ((put s url body offer p).after.counter ≡ p.counter + 1 → rename (q.counter + 1) ≡ p.counter + 1)
    → BothServed rename own mine p q (put s url body offer p) (put s url body offer q)
put_alike rename own mine s cap url body offer p q k h o m i j le lp lq next =
    put_served rename own mine s cap url body offer p q h o m i j le next (both_begin rename own mine s 7 url body offer p q k h o lp lq (tab_at q 7) refl (h.tabs 7 m))
