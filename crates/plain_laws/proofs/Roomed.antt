-- Requests that write, where there is room.
use Rattle.std.proofs.Common.{◌≡◌, inl, inr, ◌∙◌, ℕ, zero, suc, ◌+◌, ◌-◌, ◌<◌, ◌≤◌, List, length, get_or, set, sum_by, refl, sym, ap, subst, arith}
use Rattle.std.specs.Prelude.{Option, Some, None, min}
use Rattle.plain_model.specs.declared.entry.Life.{Life}
use Rattle.plain_model.specs.declared.entry.Life.TheVariants.{Growing, Whole, GivenUp}
use Rattle.plain_model.specs.declared.entry.Entry.{Entry}
use Rattle.plain_model.specs.declared.entry.Place.{Place}
use Rattle.plain_model.specs.declared.store.Setting.{Setting}
use Rattle.plain_model.specs.declared.store.Tab.{Tab}
use Rattle.plain_model.specs.declared.store.Tab.TheVariants.{Free, Writing, Reading}
use Rattle.plain_model.specs.declared.store.Plain.{Plain}
use Rattle.plain_model.specs.declared.store.Refusal.{Refusal}
use Rattle.plain_model.specs.declared.store.Refusal.TheVariants.{Large}
use Rattle.plain_model.specs.Place.{nothing, vacated, resized, ended}
use Rattle.plain_model.specs.Store.{place_at, entry_at, tab_at, published, is_left_over_at}
use Rattle.plain_model.specs.Slots.{held_by, held, Grown, resize}
use Rattle.plain_laws.specs.Holding.{IsGrowing, slots_held}
use Rattle.plain_laws.proofs.Choosing.{either}
use Rattle.script_text.specs.declared.answer.Answer.{Answer}
use Rattle.script_text.specs.declared.answer.Answer.TheVariants as answer
use Rattle.plain_model.specs.Slots.{grown_as}
use Rattle.plain_model.specs.Store.{meta_size}
use Rattle.plain_model.specs.Writing.{Step, step, settle, refused_by, lacking, append, unless_refused, close_writer, add, last_slot, finish, end, give_up}
use Rattle.plain_laws.specs.Fitting.{HadRoom}
use Rattle.plain_laws.specs.Holding.{WritesApart}
use Rattle.plain_laws.proofs.Sums.{hold, held_unfinished, held_whole, inside}
use Rattle.plain_laws.proofs.Beginning.{set_here}
use Rattle.plain_laws.proofs.Filling.{resized_there}
use Rattle.std.specs.List.{range_with_len}
use Rattle.plain_laws.proofs.Alone.{one_cap, Roomy, published_le, append_free, last_free, resize_sums, added_size, added_refusal}
use Rattle.plain_laws.proofs.Staying.{Stays, stays_trans, stays_set, stays_close_writer}
use Rattle.plain_laws.proofs.Fitted.{Sized, PlaceFits, fits_vacated, fits_nothing, fits_ended, fits_resized, size_holds, size_success, never_full}

-- a request on this tab leaves all as it is, or moves one anchor, for this reason
pub data Outcome (s : Setting) (cap : ℕ → ℕ) (tab : ℕ) (p : Plain) (Why : ℕ → Type 0) (r : Step) : Type 0 where
  still : r.after ≡ p → HadRoom r.answer → Outcome s cap tab p Why r
  moved : (a : ℕ) → Why a → Stays tab a p r.after → PlaceFits s (cap a) (place_at r.after a) → HadRoom r.answer → Outcome s cap tab p Why r

-- the tab is at this anchor
abbrev pub IsAt : ℕ → Tab → Type 0
IsAt a Free = ⊥
IsAt a (Writing b) = b ≡ a
IsAt a (Reading b given other) = b ≡ a

pub fits_changed : (s : Setting) (c : ℕ) (ps : List Place) (a : ℕ) (x : Place) → PlaceFits s c x → PlaceFits s c (get_or (set ps a x) a nothing)
fits_changed s c ps a x h = elim (set_here ps a x nothing) [
  | inl e ↦ subst (λ (y : Place). PlaceFits s c y) (sym e) h
  | inr e ↦ subst (λ (y : Place). PlaceFits s c y) (sym e) (fits_nothing s c)
]

pub fits_settled : (s : Setting) (c a : ℕ) (p : Plain) → PlaceFits s c (place_at p a) → PlaceFits s c (place_at (settle a p) a)
fits_settled s c a p h = either (λ (q : Plain). PlaceFits s c (place_at q a)) (is_left_over_at p a) _ _ (λ t. fits_changed s c p.places a (vacated (place_at p a)) (fits_vacated s c (place_at p a))) (λ t. h)

fits_closed : (s : Setting) (c tab a : ℕ) (life : Life) (p : Plain) (e : Entry) → entry_at p a ≡ Some e → (life ≡ Growing → ⊥) → held_by s.room (Some (record e { life = life })) ≤ c
    → PlaceFits s c (place_at (close_writer life tab a p) a)
fits_closed s c tab a life p e is never le =
    fits_settled s c a (record p { tabs = set p.tabs tab Free; places = set p.places a (ended life (place_at p a)) })
    (fits_changed s c p.places a (ended life (place_at p a)) (fits_ended s c (place_at p a) e life is never le))

pub unless_none : (tab a : ℕ) (next : Plain → Step) (g : Grown) → g.refusal ≡ None → unless_refused tab a next g ≡ next g.store
unless_none tab a next g e = rw e refl

pub unless_some : (tab a : ℕ) (next : Plain → Step) (g : Grown) (x : Refusal) → g.refusal ≡ Some x → unless_refused tab a next g ≡ step (refused_by x) (close_writer GivenUp tab a g.store)
unless_some tab a next g x e = rw e refl

pub add_is : (s : Setting) (tab count a : ℕ) (p : Plain) (x : Entry) → tab_at p tab ≡ Writing a → entry_at p a ≡ Some x
    → add s tab count p ≡ unless_refused tab a (step (answer.Added (min count (lacking x)))) (append s a (min count (lacking x)) x.content p)
add_is s tab count a p x t e = rw (t, e) refl

pub end_is : (s : Setting) (tab a : ℕ) (p : Plain) (x : Entry) → tab_at p tab ≡ Writing a → entry_at p a ≡ Some x
    → end s tab p ≡ unless_refused tab a (λ q. unless_refused tab a (finish tab a) (last_slot s (x.content + lacking x) q)) (append s a (lacking x) x.content p)
end_is s tab a p x t e = rw (t, e) refl

-- growing where there is room
pub grown_to : (s : Setting) (tab a count c : ℕ) (p : Plain) (x : Entry) (next : Plain → Step) → 0 < s.room → (h : Roomy s a c p) → Sized s c x → count ≤ lacking x
    → append s a count x.content p ≡ grown_as (resize a (added_size s count x.content) p) (added_refusal s count x.content)
grown_to s tab a count c p x next room h sized le =
    let front = sized.front in
    let back = sized.back in
    let need = sized.need in
    let most : x.content + count ≤ meta_size x.url + length x.body = omega arith in
    let whole : published s.room (x.content + count) ≤ published s.room (meta_size x.url + length x.body) = published_le s.room (x.content + count) (meta_size x.url + length x.body) room most in
    append_free s a count x.content c p room (omega arith) h

-- how much it then holds
held_then : (s : Setting) (count c : ℕ) (x : Entry) → 0 < s.room → Sized s c x → count ≤ lacking x → hold (published s.room x.content) ≤ c → hold (published s.room (added_size s count x.content)) ≤ c
held_then s count c x room sized le h =
    let front = sized.front in
    let back = sized.back in
    let need = sized.need in
    let most : x.content + count ≤ meta_size x.url + length x.body = omega arith in
    let whole : published s.room (x.content + count) ≤ published s.room (meta_size x.url + length x.body) = published_le s.room (x.content + count) (meta_size x.url + length x.body) room most in
    size_holds s (x.content + count) (published s.room (x.content + count) - published s.room x.content) (published s.room x.content + 1) (published s.room x.content) c room refl refl (omega arith) h

pub record Written (s : Setting) (c tab a : ℕ) (p : Plain) : Type 0 where
  pub at : tab_at p tab ≡ Writing a
  pub entry : Entry
  pub there : entry_at p a ≡ Some entry
  pub grows : entry.life ≡ Growing
  pub fits : PlaceFits s c (place_at p a)
  pub roomy : Roomy s a c p

holds_now : (s : Setting) (c tab a : ℕ) (p : Plain) → (w : Written s c tab a p) → hold (published s.room w.entry.content) ≤ c
holds_now s c tab a p w =
    let had : held s.room (place_at p a) ≡ hold (published s.room w.entry.content) = ap (held_by s.room) w.there ∙ held_unfinished s.room w.entry Growing w.grows (inl refl) in
    let le = w.fits.holds in
    omega arith

-- it was refused: it is LARGE, and given up
refused_at : (s : Setting) (cap : ℕ → ℕ) (count tab a : ℕ) (p : Plain) (next : Plain → Step) (x : Refusal) → 0 < s.room → (w : Written s (cap a) tab a p) → Sized s (cap a) w.entry → count ≤ lacking w.entry
    → added_refusal s count w.entry.content ≡ Some x
    → Outcome s cap tab p (λ b. IsAt b (Writing a)) (unless_refused tab a next (append s a count w.entry.content p))
refused_at s cap count tab a p next x room w sized le r =
    subst (λ (o : Step). Outcome s cap tab p (λ b. IsAt b (Writing a)) o) (sym is)
    (Outcome.moved a refl
    (stays_trans tab a p q (close_writer GivenUp tab a q) (stays_set (resized size) tab a p) (stays_close_writer GivenUp tab a q))
    (fits_closed s (cap a) tab a GivenUp q (record w.entry { content = size }) (resized_there a size p w.entry w.there) (λ e. cc)
    (let k : held_by s.room (Some (record w.entry { content = size; life = GivenUp })) ≡ hold (published s.room size) = held_unfinished s.room (record w.entry { content = size; life = GivenUp }) GivenUp refl (inr refl) in
    let le2 = held_then s count (cap a) w.entry room sized le (holds_now s (cap a) tab a p w) in omega arith))
    tt)
  where
    size : ℕ
    size = added_size s count w.entry.content

    q : Plain
    q = resize a size p

    large : x ≡ Large
    large = never_full s (published s.room (w.entry.content + count) - published s.room w.entry.content) (published s.room w.entry.content + 1) x r

    is : unless_refused tab a next (append s a count w.entry.content p) ≡ step answer.Large (close_writer GivenUp tab a q)
    is = ap (unless_refused tab a next) (grown_to s tab a count (cap a) p w.entry next room w.roomy sized le)
        ∙ unless_some tab a next (grown_as q (added_refusal s count w.entry.content)) Large (r ∙ ap Some large)

-- it went on
pub grown_on : (s : Setting) (count c tab a : ℕ) (p : Plain) (next : Plain → Step) → 0 < s.room → (w : Written s c tab a p) → Sized s c w.entry → count ≤ lacking w.entry
    → added_refusal s count w.entry.content ≡ None
    → unless_refused tab a next (append s a count w.entry.content p) ≡ next (resize a (w.entry.content + count) p)
grown_on s count c tab a p next room w sized le r =
    ap (unless_refused tab a next) (grown_to s tab a count c p w.entry next room w.roomy sized le)
    ∙ unless_none tab a next (grown_as (resize a (added_size s count w.entry.content) p) (added_refusal s count w.entry.content)) r
    ∙ ap (λ n. next (resize a n p)) (size_success s (w.entry.content + count) (published s.room (w.entry.content + count) - published s.room w.entry.content) (published s.room w.entry.content + 1) r)

-- the entry that went on
sized_on : (s : Setting) (c count : ℕ) (x : Entry) → Sized s c x → count ≤ lacking x → Sized s c (record x { content = x.content + count })
sized_on s c count x h le = let front = h.front in let back = h.back in record { front = omega arith; back = omega arith; need = h.need }

fits_on : (s : Setting) (c count tab a : ℕ) (p : Plain) → 0 < s.room → (w : Written s c tab a p) → Sized s c w.entry → count ≤ lacking w.entry → added_refusal s count w.entry.content ≡ None
    → PlaceFits s c (place_at (resize a (w.entry.content + count) p) a)
fits_on s c count tab a p room w sized le r =
    fits_changed s c p.places a (resized (w.entry.content + count) (place_at p a))
    (fits_resized s c (w.entry.content + count) (place_at p a) w.entry w.there w.grows
    (subst (λ (n : ℕ). hold (published s.room n) ≤ c)
    (size_success s (w.entry.content + count) (published s.room (w.entry.content + count) - published s.room w.entry.content) (published s.room w.entry.content + 1) r)
    (held_then s count c w.entry room sized le (holds_now s c tab a p w)))
    (sized_on s c count w.entry sized le))

-- a store in which all that is written has room
pub record InRoom (s : Setting) (cap : ℕ → ℕ) (p : Plain) : Type 0 where
  pub room : 0 < s.room
  pub slots : 0 < s.slots
  pub some : 0 < s.anchors
  pub are : length p.places ≡ s.anchors
  pub total : sum_by cap (range_with_len 0 s.anchors) ≤ s.slots
  pub fits : (a : ℕ) → PlaceFits s (cap a) (place_at p a)
  pub writes : WritesApart p

pub roomy_sum : (s : Setting) (cap : ℕ → ℕ) (a : ℕ) (p : Plain) (x : Entry) → InRoom s cap p → entry_at p a ≡ Some x → slots_held s p + cap a ≤ s.slots + held s.room (place_at p a)
roomy_sum s cap a p x h e =
    let inside_it : a < length p.places = inside p.places a x e in
    let k : slots_held s p + cap (0 + a) ≤ sum_by cap (range_with_len 0 (length p.places)) + held s.room (place_at p a) = one_cap (held s.room) cap p.places 0 a inside_it
    (λ b. let f = (h.fits b).holds in let same : cap (0 + b) ≡ cap b = ap cap (omega arith) in omega arith) in
    let at : cap (0 + a) ≡ cap a = ap cap (omega arith) in
    let all : sum_by cap (range_with_len 0 (length p.places)) ≡ sum_by cap (range_with_len 0 s.anchors) = ap (λ (n : ℕ). sum_by cap (range_with_len 0 n)) h.are in
    let most = h.total in
    omega arith

abbrev pub written_of : (s : Setting) (cap : ℕ → ℕ) (tab a : ℕ) (p : Plain) (x : Entry) → InRoom s cap p → tab_at p tab ≡ Writing a → entry_at p a ≡ Some x → x.life ≡ Growing → Written s (cap a) tab a p
written_of s cap tab a p x h t e g = record {
  at = t;
  entry = x;
  there = e;
  grows = g;
  fits = h.fits a;
  roomy = record { entry = x; there = e; grows = g; may_hold = roomy_sum s cap a p x h e };
}

pub grows_at : (s : Setting) (cap : ℕ → ℕ) (tab a : ℕ) (p : Plain) (x : Entry) → InRoom s cap p → tab_at p tab ≡ Writing a → entry_at p a ≡ Some x → x.life ≡ Growing
grows_at s cap tab a p x h t e = subst (λ (o : Option Entry). IsGrowing o) e (h.writes.grows tab a t)

add_at : (s : Setting) (cap : ℕ → ℕ) (count tab a : ℕ) (p : Plain) → 0 < s.room → (w : Written s (cap a) tab a p) → Sized s (cap a) w.entry → (o : Option Refusal) → added_refusal s (min count (lacking w.entry)) w.entry.content ≡ o
    → Outcome s cap tab p (λ b. IsAt b (Writing a)) (unless_refused tab a (step (answer.Added (min count (lacking w.entry)))) (append s a (min count (lacking w.entry)) w.entry.content p))
add_at s cap count tab a p room w sized (Some x) r = refused_at s cap (min count (lacking w.entry)) tab a p (step (answer.Added (min count (lacking w.entry)))) x room w sized (omega arith) r
add_at s cap count tab a p room w sized None r =
    subst (λ (o : Step). Outcome s cap tab p (λ b. IsAt b (Writing a)) o) (sym (grown_on s (min count (lacking w.entry)) (cap a) tab a p (step (answer.Added (min count (lacking w.entry)))) room w sized (omega arith) r))
    (Outcome.moved a refl (stays_set (resized (w.entry.content + min count (lacking w.entry))) tab a p) (fits_on s (cap a) (min count (lacking w.entry)) tab a p room w sized (omega arith) r) tt)

add_to : (s : Setting) (cap : ℕ → ℕ) (count tab a : ℕ) (p : Plain) → InRoom s cap p → tab_at p tab ≡ Writing a → (o : Option Entry) → entry_at p a ≡ o → Outcome s cap tab p (λ b. IsAt b (Writing a)) (add s tab count p)
add_to s cap count tab a p h t None e = Outcome.still (rw (t, e) refl) (rw (t, e) tt)
add_to s cap count tab a p h t (Some x) e =
    let g = grows_at s cap tab a p x h t e in
    subst (λ (r : Step). Outcome s cap tab p (λ b. IsAt b (Writing a)) r) (sym (add_is s tab count a p x t e))
    (add_at s cap count tab a p h.room (written_of s cap tab a p x h t e g) ((h.fits a).writing x e g) (added_refusal s (min count (lacking x)) x.content) refl)

pub add_room : (s : Setting) (cap : ℕ → ℕ) (tab count : ℕ) (p : Plain) → InRoom s cap p → (t : Tab) → tab_at p tab ≡ t → Outcome s cap tab p (λ b. IsAt b t) (add s tab count p)
add_room s cap tab count p h Free t = Outcome.still (rw t refl) (rw t tt)
add_room s cap tab count p h (Reading a g o) t = Outcome.still (rw t refl) (rw t tt)
add_room s cap tab count p h (Writing a) t = add_to s cap count tab a p h t (entry_at p a) refl

whole_le : (n c : ℕ) → hold n ≤ c → 1 ≤ c → n + 1 ≤ c
whole_le zero c h k = omega arith
whole_le (suc n) c h k = let e : hold (suc n) ≡ suc (suc n) = refl in omega arith

finish_fine : (tab a : ℕ) (q : Plain) → HadRoom (finish tab a q).answer
finish_fine tab a q = either (λ (x : Answer). HadRoom x) (place_at q a).doom (answer.Doomed (place_at q a).version) (answer.Stored (place_at q a).version) (λ t. tt) (λ t. tt)

-- the last slot is there, and the entry is whole
pub ended_at : (s : Setting) (c tab a count : ℕ) (p : Plain) → 0 < s.room → 0 < s.slots → (w : Written s c tab a p) → Sized s c w.entry → count ≤ lacking w.entry → added_refusal s count w.entry.content ≡ None
    → (unless_refused tab a (finish tab a) (last_slot s (w.entry.content + count) (resize a (w.entry.content + count) p)) ≡ finish tab a (resize a (w.entry.content + count) p))
    × PlaceFits s c (place_at (finish tab a (resize a (w.entry.content + count) p)).after a)
ended_at s c tab a count p room slots w sized le r =
    let need = sized.need in
    let one : 1 ≤ c = omega arith in
    let there = resized_there a size p w.entry w.there in
    let fits = fits_on s c count tab a p room w sized le r in
    let had : held s.room (place_at q a) ≡ hold (published s.room size) = ap (held_by s.room) there ∙ held_unfinished s.room (record w.entry { content = size }) Growing w.grows (inl refl) in
    let holds = fits.holds in
    let may = (resize_sums s a size c p w.roomy).may_hold in (
      ap (unless_refused tab a (finish tab a)) (last_free s a size c q (record w.entry { content = size }) one there w.grows refl may) ∙ unless_none tab a (finish tab a) (grown_as q None) refl,
      fits_closed s c tab a Whole q (record w.entry { content = size }) there (λ e. cc)
          (let k : held_by s.room (Some (record w.entry { content = size; life = Whole })) ≡ published s.room size + 1 = held_whole s.room (record w.entry { content = size; life = Whole }) refl in
          let j : published s.room size + 1 ≤ c = whole_le (published s.room size) c (omega arith) one in omega arith),
    )
  where
    size : ℕ
    size = w.entry.content + count

    q : Plain
    q = resize a size p

end_at : (s : Setting) (cap : ℕ → ℕ) (tab a : ℕ) (p : Plain) → 0 < s.room → 0 < s.slots → (w : Written s (cap a) tab a p) → Sized s (cap a) w.entry → (o : Option Refusal) → added_refusal s (lacking w.entry) w.entry.content ≡ o
    → Outcome s cap tab p (λ b. IsAt b (Writing a)) (unless_refused tab a (λ q. unless_refused tab a (finish tab a) (last_slot s (w.entry.content + lacking w.entry) q)) (append s a (lacking w.entry) w.entry.content p))
end_at s cap tab a p room slots w sized (Some x) r = refused_at s cap (lacking w.entry) tab a p (λ q. unless_refused tab a (finish tab a) (last_slot s (w.entry.content + lacking w.entry) q)) x room w sized (omega arith) r
end_at s cap tab a p room slots w sized None r =
    let ends = ended_at s (cap a) tab a (lacking w.entry) p room slots w sized (omega arith) r in
    subst (λ (o : Step). Outcome s cap tab p (λ b. IsAt b (Writing a)) o)
    (sym (grown_on s (lacking w.entry) (cap a) tab a p (λ q. unless_refused tab a (finish tab a) (last_slot s (w.entry.content + lacking w.entry) q)) room w sized (omega arith) r ∙ ends.0))
    (Outcome.moved a refl
    (stays_trans tab a p q (close_writer Whole tab a q) (stays_set (resized (w.entry.content + lacking w.entry)) tab a p) (stays_close_writer Whole tab a q))
    ends.1 (finish_fine tab a q))
  where
    q : Plain
    q = resize a (w.entry.content + lacking w.entry) p

end_to : (s : Setting) (cap : ℕ → ℕ) (tab a : ℕ) (p : Plain) → InRoom s cap p → tab_at p tab ≡ Writing a → (o : Option Entry) → entry_at p a ≡ o → Outcome s cap tab p (λ b. IsAt b (Writing a)) (end s tab p)
end_to s cap tab a p h t None e = Outcome.still (rw (t, e) refl) (rw (t, e) tt)
end_to s cap tab a p h t (Some x) e =
    let g = grows_at s cap tab a p x h t e in
    subst (λ (r : Step). Outcome s cap tab p (λ b. IsAt b (Writing a)) r) (sym (end_is s tab a p x t e))
    (end_at s cap tab a p h.room h.slots (written_of s cap tab a p x h t e g) ((h.fits a).writing x e g) (added_refusal s (lacking x) x.content) refl)

pub end_room : (s : Setting) (cap : ℕ → ℕ) (tab : ℕ) (p : Plain) → InRoom s cap p → (t : Tab) → tab_at p tab ≡ t → Outcome s cap tab p (λ b. IsAt b t) (end s tab p)
end_room s cap tab p h Free t = Outcome.still (rw t refl) (rw t tt)
end_room s cap tab p h (Reading a g o) t = Outcome.still (rw t refl) (rw t tt)
end_room s cap tab p h (Writing a) t = end_to s cap tab a p h t (entry_at p a) refl

pub give_up_is : (tab a : ℕ) (p : Plain) → tab_at p tab ≡ Writing a → give_up tab p ≡ step answer.Dropped (close_writer GivenUp tab a p)
give_up_is tab a p t = rw t refl

give_up_to : (s : Setting) (cap : ℕ → ℕ) (tab a : ℕ) (p : Plain) → InRoom s cap p → tab_at p tab ≡ Writing a → (o : Option Entry) → entry_at p a ≡ o → Outcome s cap tab p (λ b. IsAt b (Writing a)) (give_up tab p)
give_up_to s cap tab a p h t None e = absurd (subst (λ (o : Option Entry). IsGrowing o) e (h.writes.grows tab a t))
give_up_to s cap tab a p h t (Some x) e =
    let g = grows_at s cap tab a p x h t e in
    let had : held s.room (place_at p a) ≡ hold (published s.room x.content) = ap (held_by s.room) e ∙ held_unfinished s.room x Growing g (inl refl) in
    let now : held_by s.room (Some (record x { life = GivenUp })) ≡ hold (published s.room x.content) = held_unfinished s.room (record x { life = GivenUp }) GivenUp refl (inr refl) in
    let le = (h.fits a).holds in
    subst (λ (r : Step). Outcome s cap tab p (λ b. IsAt b (Writing a)) r) (sym (give_up_is tab a p t))
    (Outcome.moved a refl (stays_close_writer GivenUp tab a p) (fits_closed s (cap a) tab a GivenUp p x e (λ k. cc) (omega arith)) tt)

pub give_up_room : (s : Setting) (cap : ℕ → ℕ) (tab : ℕ) (p : Plain) → InRoom s cap p → (t : Tab) → tab_at p tab ≡ t → Outcome s cap tab p (λ b. IsAt b t) (give_up tab p)
give_up_room s cap tab p h Free t = Outcome.still (rw t refl) (rw t tt)
give_up_room s cap tab p h (Reading a g o) t = Outcome.still (rw t refl) (rw t tt)
give_up_room s cap tab p h (Writing a) t = give_up_to s cap tab a p h t (entry_at p a) refl
