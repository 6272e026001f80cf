-- Two stores that agree at some anchors and on some tabs, but for versions.
use Rattle.std.proofs.Common.{◌≡◌, inl, inr, ◌∙◌, ℕ, zero, suc, ◌+◌, List, [], ◌∷◌, length, get_or, set, refl, sym, ap, subst, arith, Bool, true, false, cond, length-set}
use Rattle.std.specs.Prelude.{Option, Some, None, ◌==◌, ◌||◌, ◌&&◌, not, is_none, count_by}
use Rattle.std.proofs.lemmas.Bool.Decides.{nat_tests}
use Rattle.std.proofs.lemmas.List.Sums.{sum_by-cons}
use Rattle.lock_word.specs.declared.stage.Stage.{Stage}
use Rattle.lock_word.specs.declared.stage.Stage.TheVariants as stage
use Rattle.lock_word.specs.declared.epoch.Epoch.{Epoch}
use Rattle.lock_word.specs.declared.word.Word.{Word}
use Rattle.plain_model.specs.declared.entry.Life.{Life}
use Rattle.plain_model.specs.declared.entry.Life.TheVariants.{Whole, GivenUp}
use Rattle.plain_model.specs.declared.entry.Entry.{Entry}
use Rattle.plain_model.specs.declared.entry.Place.{Place}
use Rattle.plain_model.specs.declared.store.Setting.{Setting}
use Rattle.plain_model.specs.declared.store.Tab.{Tab}
use Rattle.plain_model.specs.declared.store.Tab.TheVariants.{Free, Writing, Reading}
use Rattle.plain_model.specs.declared.store.Plain.{Plain}
use Rattle.plain_model.specs.Place.{nothing, vacated, resized, ended}
use Rattle.plain_model.specs.Store.{place_at, entry_at, tab_at, with_tab, stage_of, epoch_of, reads_at, readers, word_at, has_life, is_vacant_at, is_idle_at, is_left_over_at}
use Rattle.plain_model.specs.Slots.{resize}
use Rattle.plain_model.specs.Writing.{Step, settle, close_writer}
use Rattle.plain_laws.specs.Renaming.{renamed, renamed_epoch, renamed_word, renamed_place}
use Rattle.plain_laws.proofs.Beginning.{set_there}
use Rattle.plain_laws.proofs.Roomed.{IsAt}

-- no version stands for none, and none for a version
abbrev pub KeepsNone : (ℕ → ℕ) → Type 0
KeepsNone rename = (v : ℕ) → (rename v == 0) ≡ (v == 0)

-- At these anchors and on these tabs both are the same but for versions. A tab is at such an anchor where it is one of
-- these, and the others of the second store are free
pub record Agree (rename : ℕ → ℕ) (own mine : ℕ → Bool) (p q : Plain) : Type 0 where
  pub places : (a : ℕ) → own a ≡ true → place_at p a ≡ renamed_place rename (place_at q a)
  pub tabs : (t : ℕ) → mine t ≡ true → tab_at p t ≡ tab_at q t
  pub left : (t a : ℕ) → IsAt a (tab_at p t) → own a ≡ mine t
  pub right : (t a : ℕ) → IsAt a (tab_at q t) → own a ≡ mine t
  pub idle : (t : ℕ) → mine t ≡ false → tab_at q t ≡ Free
  pub as_many : length p.places ≡ length q.places
  pub as_long : length p.tabs ≡ length q.tabs

-- two steps that are answered alike, and leave stores that agree
pub record Alike (rename : ℕ → ℕ) (own mine : ℕ → Bool) (r u : Step) : Type 0 where
  pub answer : r.answer ≡ renamed rename u.answer
  pub agree : Agree rename own mine r.after u.after

-- what is read off two places
stage_alike : (rename : ℕ → ℕ) (room v : ℕ) (o : Option Entry) → KeepsNone rename → stage_of room (rename v) o ≡ stage_of room v o
stage_alike rename room v None k = ap (λ (b : Bool). cond b stage.Empty stage.Gone) (k v)
stage_alike rename room v (Some e) k = refl

epoch_with : ℕ → Bool → Stage → Epoch
epoch_with v d s = record { version = v; doom = d; stage = s }

epoch_of_renamed : (rename : ℕ → ℕ) (room : ℕ) (x : Place) → KeepsNone rename → epoch_of room (renamed_place rename x) ≡ renamed_epoch rename (epoch_of room x)
unfolding epoch_with
epoch_of_renamed rename room x k = ap (epoch_with (rename x.version) x.doom) (stage_alike rename room x.version x.entry k)

pub epoch_alike : (rename : ℕ → ℕ) (own mine : ℕ → Bool) (s : Setting) (a : ℕ) (p q : Plain) → KeepsNone rename → Agree rename own mine p q → own a ≡ true
    → epoch_of s.room (place_at p a) ≡ renamed_epoch rename (epoch_of s.room (place_at q a))
epoch_alike rename own mine s a p q k h o = ap (epoch_of s.room) (h.places a o) ∙ epoch_of_renamed rename s.room (place_at q a) k

pub entry_alike : (rename : ℕ → ℕ) (own mine : ℕ → Bool) (a : ℕ) (p q : Plain) → Agree rename own mine p q → own a ≡ true → entry_at p a ≡ entry_at q a
entry_alike rename own mine a p q h o = ap (λ (x : Place). x.entry) (h.places a o)

-- as many readers
count_alike : (f g : Tab → Bool) (ts us : List Tab) → length ts ≡ length us → ((t : ℕ) → f (get_or ts t Free) ≡ g (get_or us t Free)) → count_by f ts ≡ count_by g us
count_alike f g [] [] e h = refl
count_alike f g [] (u ∷ us) e h = absurd (omega arith)
count_alike f g (t ∷ ts) [] e h = absurd (omega arith)
count_alike f g (t ∷ ts) (u ∷ us) e h =
    sum_by-cons (λ (x : Tab). cond (f x) 1 0) t ts
    ∙ ap (λ (b : Bool). cond b 1 0 + count_by f ts) (h 0)
    ∙ ap (λ (n : ℕ). cond (g u) 1 0 + n) (count_alike f g ts us (omega arith) (λ i. h (suc i)))
    ∙ sym (sum_by-cons (λ (x : Tab). cond (g x) 1 0) u us)

not_reading : (own : ℕ → Bool) (b : Bool) (a : ℕ) (x : Tab) → (IsAt a x → own a ≡ b) → own a ≡ true → b ≡ false → reads_at a x ≡ false
not_reading own b a Free h o m = refl
not_reading own b a (Writing c) h o m = refl
not_reading own b a (Reading c g other) h o m = by_test (c == a) refl
  where
    by_test : (t : Bool) → (c == a) ≡ t → (c == a) ≡ false
    by_test false e = e
    by_test true e =
        let same : c ≡ a = grind (arith, nat_tests) in
        let no : true ≡ false = sym o ∙ (h same ∙ m) in cc

reads_alike : (rename : ℕ → ℕ) (own mine : ℕ → Bool) (a t : ℕ) (p q : Plain) → Agree rename own mine p q → own a ≡ true → (b : Bool) → mine t ≡ b → reads_at a (tab_at p t) ≡ reads_at a (tab_at q t)
reads_alike rename own mine a t p q h o true m = ap (reads_at a) (h.tabs t m)
reads_alike rename own mine a t p q h o false m = not_reading own (mine t) a (tab_at p t) (h.left t a) o m ∙ sym (not_reading own (mine t) a (tab_at q t) (h.right t a) o m)

pub readers_alike : (rename : ℕ → ℕ) (own mine : ℕ → Bool) (a : ℕ) (p q : Plain) → Agree rename own mine p q → own a ≡ true → readers p a ≡ readers q a
readers_alike rename own mine a p q h o = count_alike (reads_at a) (reads_at a) p.tabs q.tabs h.as_long (λ t. reads_alike rename own mine a t p q h o (mine t) refl)

word_with : Epoch → ℕ → Word
word_with e n = record { epoch = e; readers = n }

pub word_alike : (rename : ℕ → ℕ) (own mine : ℕ → Bool) (s : Setting) (a : ℕ) (p q : Plain) → KeepsNone rename → Agree rename own mine p q → own a ≡ true
    → word_at s p a ≡ renamed_word rename (word_at s q a)
unfolding word_with
word_alike rename own mine s a p q k h o =
    ap (λ (e : Epoch). word_with e (readers p a)) (epoch_alike rename own mine s a p q k h o)
    ∙ ap (word_with (renamed_epoch rename (epoch_of s.room (place_at q a)))) (readers_alike rename own mine a p q h o)

-- tests on a place and its readers
pub test_alike : (rename : ℕ → ℕ) (own mine : ℕ → Bool) (a : ℕ) (p q : Plain) (test : Option Entry → Bool → ℕ → Bool) → Agree rename own mine p q → own a ≡ true
    → test (entry_at p a) (place_at p a).doom (readers p a) ≡ test (entry_at q a) (place_at q a).doom (readers q a)
test_alike rename own mine a p q test h o =
    ap (λ (x : Place). test x.entry x.doom (readers p a)) (h.places a o)
    ∙ ap (test (entry_at q a) (place_at q a).doom) (readers_alike rename own mine a p q h o)

pub able_alike : (rename : ℕ → ℕ) (own mine : ℕ → Bool) (a : ℕ) (p q : Plain) → Agree rename own mine p q → own a ≡ true
    → (is_vacant_at p a || is_idle_at p a) ≡ (is_vacant_at q a || is_idle_at q a)
able_alike rename own mine a p q h o = test_alike rename own mine a p q (λ e d n. (is_none e && (n == 0)) || (has_life Whole e && not d && (n == 0))) h o

pub left_over_alike : (rename : ℕ → ℕ) (own mine : ℕ → Bool) (a : ℕ) (p q : Plain) → Agree rename own mine p q → own a ≡ true → is_left_over_at p a ≡ is_left_over_at q a
left_over_alike rename own mine a p q h o = test_alike rename own mine a p q (λ e d n. (has_life GivenUp e || (has_life Whole e && d)) && (n == 0)) h o

-- the same is put into two lists
set_alike : {A : Type 0} (f : A → A) (xs ys : List A) (i j : ℕ) (x y d : A) → length xs ≡ length ys → x ≡ f y → get_or xs j d ≡ f (get_or ys j d)
    → get_or (set xs i x) j d ≡ f (get_or (set ys i y) j d)
set_alike f [] [] i j x y d e put h = h
set_alike f [] (w ∷ ys) i j x y d e put h = absurd (omega arith)
set_alike f (v ∷ xs) [] i j x y d e put h = absurd (omega arith)
set_alike f (v ∷ xs) (w ∷ ys) zero zero x y d e put h = put
set_alike f (v ∷ xs) (w ∷ ys) zero (suc j) x y d e put h = h
set_alike f (v ∷ xs) (w ∷ ys) (suc i) zero x y d e put h = h
set_alike f (v ∷ xs) (w ∷ ys) (suc i) (suc j) x y d e put h = set_alike f xs ys i j x y d (omega arith) put h

set_at : (own : ℕ → Bool) (mine : ℕ → Bool) (tab : ℕ) (x : Tab) (ts : List Tab) → ((a : ℕ) → IsAt a x → own a ≡ mine tab) → ((t a : ℕ) → IsAt a (get_or ts t Free) → own a ≡ mine t)
    → (t a : ℕ) → IsAt a (get_or (set ts tab x) t Free) → own a ≡ mine t
set_at own mine tab x ts new old t a at = elim (set_there ts tab t x Free) [
  | inl k ↦ new a (subst (λ (y : Tab). IsAt a y) k.1 at) ∙ ap mine (sym k.0)
  | inr k ↦ old t a (subst (λ (y : Tab). IsAt a y) k at)
]

set_idle : (mine : ℕ → Bool) (tab : ℕ) (x : Tab) (ts : List Tab) → (mine tab ≡ false → x ≡ Free) → ((t : ℕ) → mine t ≡ false → get_or ts t Free ≡ Free) → (t : ℕ) → mine t ≡ false → get_or (set ts tab x) t Free ≡ Free
set_idle mine tab x ts new old t off = elim (set_there ts tab t x Free) [
  | inl k ↦ k.1 ∙ new (ap mine (sym k.0) ∙ off)
  | inr k ↦ k ∙ old t off
]

-- the same is done to both
pub agree_tab : (rename : ℕ → ℕ) (own mine : ℕ → Bool) (tab : ℕ) (x : Tab) (p q : Plain) → Agree rename own mine p q → ((a : ℕ) → IsAt a x → own a ≡ mine tab) → (mine tab ≡ false → x ≡ Free)
    → Agree rename own mine (with_tab p tab x) (with_tab q tab x)
agree_tab rename own mine tab x p q h new idle = record {
  places = h.places;
  tabs = λ t m. set_alike (λ (y : Tab). y) p.tabs q.tabs tab t x x Free h.as_long refl (h.tabs t m);
  left = set_at own mine tab x p.tabs new h.left;
  right = set_at own mine tab x q.tabs new h.right;
  idle = set_idle mine tab x q.tabs idle h.idle;
  as_many = h.as_many;
  as_long = length-set p.tabs tab x ∙ (h.as_long ∙ sym (length-set q.tabs tab x));
}

pub agree_free : (rename : ℕ → ℕ) (own mine : ℕ → Bool) (tab : ℕ) (p q : Plain) → Agree rename own mine p q → Agree rename own mine (with_tab p tab Free) (with_tab q tab Free)
agree_free rename own mine tab p q h = agree_tab rename own mine tab Free p q h (λ a at. absurd at) (λ off. refl)

pub agree_place : (rename : ℕ → ℕ) (own mine : ℕ → Bool) (a : ℕ) (x y : Place) (p q : Plain) → Agree rename own mine p q → x ≡ renamed_place rename y
    → Agree rename own mine (record p { places = set p.places a x }) (record q { places = set q.places a y })
agree_place rename own mine a x y p q h same = record {
  places = λ b o. set_alike (renamed_place rename) p.places q.places a b x y nothing h.as_many same (h.places b o);
  tabs = h.tabs;
  left = h.left;
  right = h.right;
  idle = h.idle;
  as_many = length-set p.places a x ∙ (h.as_many ∙ sym (length-set q.places a y));
  as_long = h.as_long;
}

pub agree_counter : (rename : ℕ → ℕ) (own mine : ℕ → Bool) (c d : ℕ) (p q : Plain) → Agree rename own mine p q → Agree rename own mine (record p { counter = c }) (record q { counter = d })
agree_counter rename own mine c d p q h = record { places = h.places; tabs = h.tabs; left = h.left; right = h.right; idle = h.idle; as_many = h.as_many; as_long = h.as_long }

pub resize_agree : (rename : ℕ → ℕ) (own mine : ℕ → Bool) (a content : ℕ) (p q : Plain) → Agree rename own mine p q → own a ≡ true → Agree rename own mine (resize a content p) (resize a content q)
resize_agree rename own mine a content p q h o = agree_place rename own mine a (resized content (place_at p a)) (resized content (place_at q a)) p q h (ap (resized content) (h.places a o))

both_ways : {A : Type 0} (R : A → A → Type 0) (b : Bool) (x y u v : A) → R x u → R y v → R (cond b x y) (cond b u v)
both_ways R true x y u v h k = h
both_ways R false x y u v h k = k

vacate : ℕ → Plain → Plain
vacate a p = record p { places = set p.places a (vacated (place_at p a)) }

pub settle_agree : (rename : ℕ → ℕ) (own mine : ℕ → Bool) (a : ℕ) (p q : Plain) → Agree rename own mine p q → own a ≡ true → Agree rename own mine (settle a p) (settle a q)
unfolding vacate
settle_agree rename own mine a p q h o =
    subst (λ (b : Bool). Agree rename own mine (cond b (vacate a p) p) (settle a q)) (sym (left_over_alike rename own mine a p q h o))
    (both_ways (Agree rename own mine) (is_left_over_at q a) (vacate a p) p (vacate a q) q
    (agree_place rename own mine a (vacated (place_at p a)) (vacated (place_at q a)) p q h (ap vacated (h.places a o))) h)

pub close_writer_agree : (rename : ℕ → ℕ) (own mine : ℕ → Bool) (life : Life) (tab a : ℕ) (p q : Plain) → Agree rename own mine p q → own a ≡ true
    → Agree rename own mine (close_writer life tab a p) (close_writer life tab a q)
close_writer_agree rename own mine life tab a p q h o =
    settle_agree rename own mine a (with_tab (record p { places = set p.places a (ended life (place_at p a)) }) tab Free) (with_tab (record q { places = set q.places a (ended life (place_at q a)) }) tab Free)
    (agree_free rename own mine tab (record p { places = set p.places a (ended life (place_at p a)) }) (record q { places = set q.places a (ended life (place_at q a)) })
    (agree_place rename own mine a (ended life (place_at p a)) (ended life (place_at q a)) p q h (ap (ended life) (h.places a o)))) o

-- a tab of these is not idle
pub not_idle : (mine : ℕ → Bool) (tab : ℕ) (x : Tab) → mine tab ≡ true → mine tab ≡ false → x ≡ Free
not_idle mine tab x m off = absurd (let k : true ≡ false = sym m ∙ off in cc)
