-- What a line does to entries and versions.
use Rattle.std.proofs.Common.{◌≡◌, ◌⊎◌, inl, inr, ◌∙◌, ℕ, ◌+◌, List, [], ◌∷◌, refl, sym, ap, false, length, length-set}
use Rattle.std.specs.Prelude.{Some, None}
use Rattle.store_key.specs.Key.{key_of}
use Rattle.store_key.specs.Anchor.{anchor_of}
use Rattle.script_text.specs.Requests.{OffersBody}
use Rattle.script_text.specs.declared.body.Body.{Body}
use Rattle.script_text.specs.declared.line.Line.{Line}
use Rattle.script_text.specs.declared.request.Request.{Request}
use Rattle.script_text.specs.declared.request.Request.TheVariants.{Put, Save, Get, Purge, Wipe, Begin, Add, End, DropTab, OpenTab, More, CloseTab, Mark, Await}
use Rattle.plain_model.specs.declared.entry.Entry.{Entry}
use Rattle.plain_model.specs.declared.entry.Place.{Place}
use Rattle.plain_model.specs.declared.store.Setting.{Setting}
use Rattle.plain_model.specs.declared.store.Tab.{Tab}
use Rattle.plain_model.specs.declared.store.Tab.TheVariants.{Free, Writing}
use Rattle.plain_model.specs.declared.store.Plain.{Plain}
use Rattle.plain_model.specs.Place.{nothing}
use Rattle.plain_model.specs.Store.{place_at, entry_at, tab_at}
use Rattle.plain_model.specs.Writing.{Step, begin, taken_by, entry_of}
use Rattle.plain_model.specs.Serving.{bytes_of, put, serve}
use Rattle.plain_laws.specs.Kept.{Keeps, Begins}
use Rattle.plain_laws.specs.Begun.{told_begun, told_stored, begun_by}
use Rattle.plain_laws.proofs.Keeping.{keeps_refl, keeps_add, keeps_end, keeps_give_up}
use Rattle.plain_laws.proofs.Looking.{keeps_close, keeps_get, keeps_more, keeps_open, keeps_purge, keeps_wipe}
use Rattle.plain_laws.proofs.Beginning.{BeginsAs, begins, set_here}
use Rattle.plain_laws.proofs.Ending.{TellsAtMost, end_tells}

-- nothing begins and none is told, or one begins, and none or that one is told
pub data Effect (s : Setting) (line : Line) (p : Plain) (r : Step) : Type 0 where
  kept : Keeps p r.after → begun_by line.request r.answer ≡ [] → Effect s line p r
  began : (tab : ℕ) (url : List ℕ) (made : Body) → OffersBody line.request url made → Begins s tab url (bytes_of made) (s.slots + line.number) p r.after
      → (begun_by line.request r.answer ≡ []) ⊎ (begun_by line.request r.answer ≡ (p.counter + 1) ∷ []) → Effect s line p r

one_tab : (a b : ℕ) (t : Tab) → t ≡ Writing b → (t ≡ Writing a) ⊎ (t ≡ Free) → a ≡ b
one_tab a b t e (inl h) = let k : Writing a ≡ Writing b = sym h ∙ e in cc
one_tab a b t e (inr h) = let k : Free ≡ Writing b = sym h ∙ e in cc

new_version : (x : Place) (n : ℕ) (e f : Entry) → x.entry ≡ Some f → (x ≡ record { version = n; doom = false; entry = Some e }) ⊎ (x ≡ nothing) → x.version ≡ n
new_version x n e f is (inl h) = ap (λ (y : Place). y.version) h
new_version x n e f is (inr h) = let k : None ≡ Some f = sym (ap (λ (y : Place). y.entry) h) ∙ is in cc

taken_version : (a b : ℕ) (e f : Entry) (p : Plain) → tab_at (taken_by 7 a e p) 7 ≡ Writing b → entry_at (taken_by 7 a e p) b ≡ Some f → (place_at (taken_by 7 a e p) b).version ≡ p.counter + 1
taken_version a b e f p t is =
    let same : a ≡ b = one_tab a b (tab_at (taken_by 7 a e p) 7) t (set_here p.tabs 7 (Writing a) Free) in
    let here : entry_at (taken_by 7 a e p) a ≡ Some f = ap (λ (x : ℕ). entry_at (taken_by 7 a e p) x) same ∙ is in
    ap (λ (x : ℕ). (place_at (taken_by 7 a e p) x).version) (sym same)
    ∙ new_version (place_at (taken_by 7 a e p) a) (p.counter + 1) e f here (set_here p.places a (record { version = p.counter + 1; doom = false; entry = Some e }) nothing)

pub put_effect : (s : Setting) (url body : List ℕ) (offer : ℕ) (p : Plain) → BeginsAs s 7 url body offer p
    → (Keeps p (put s url body offer p).after × (told_stored (put s url body offer p).answer ≡ []))
    ⊎ (Begins s 7 url body offer p (put s url body offer p).after × TellsAtMost (p.counter + 1) (put s url body offer p).answer)
put_effect s url body offer p (BeginsAs.in_use e) = inl (rw e (keeps_refl p, refl))
put_effect s url body offer p (BeginsAs.long e) = inl (rw e (keeps_refl p, refl))
put_effect s url body offer p (BeginsAs.busy w e) = inl (rw e (keeps_refl p, refl))
put_effect s url body offer p (BeginsAs.spent out e) = inl (rw e (keeps_refl p, refl))
put_effect s url body offer p (BeginsAs.begun t fits able e) = inr (rw e
    (keeps_end s 7 q (tab_at q 7) refl, end_tells s (p.counter + 1) 7 q (tab_at q 7) refl (λ a x u is. taken_version anchor a (entry_of url body offer) x p u is)))
  where
    anchor : ℕ
    anchor = anchor_of (key_of url) s.anchors

    q : Plain
    q = taken_by 7 anchor (entry_of url body offer) p

begin_effect : (s : Setting) (tab : ℕ) (url body : List ℕ) (offer : ℕ) (p : Plain) → BeginsAs s tab url body offer p
    → (Keeps p (begin s tab url body offer p).after × (told_begun (begin s tab url body offer p).answer ≡ []))
    ⊎ (Begins s tab url body offer p (begin s tab url body offer p).after × (told_begun (begin s tab url body offer p).answer ≡ (p.counter + 1) ∷ []))
begin_effect s tab url body offer p (BeginsAs.in_use e) = inl (rw e (keeps_refl p, refl))
begin_effect s tab url body offer p (BeginsAs.long e) = inl (rw e (keeps_refl p, refl))
begin_effect s tab url body offer p (BeginsAs.busy w e) = inl (rw e (keeps_refl p, refl))
begin_effect s tab url body offer p (BeginsAs.spent out e) = inl (rw e (keeps_refl p, refl))
begin_effect s tab url body offer p (BeginsAs.begun t fits able e) = inr (rw e (keeps_refl (taken_by tab (anchor_of (key_of url) s.anchors) (entry_of url body offer) p), refl))

-- by what a line asks
effect_of : (s : Setting) (script : List Line) (worker number : ℕ) (request : Request) (p : Plain)
    → Effect s (record { worker = worker; number = number; request = request }) p (serve s script (record { worker = worker; number = number; request = request }) p)
effect_of s script w n (Put url made) p =
    elim (put_effect s url (bytes_of made) (s.slots + n) p (begins s 7 url (bytes_of made) (s.slots + n) p (tab_at p 7) refl)) [
      | inl h ↦ Effect.kept h.0 h.1
      | inr h ↦ Effect.began 7 url made (refl, refl) h.0 h.1
    ]
effect_of s script w n (Save url made) p =
    elim (put_effect s url (bytes_of made) (s.slots + n) p (begins s 7 url (bytes_of made) (s.slots + n) p (tab_at p 7) refl)) [
      | inl h ↦ Effect.kept h.0 h.1
      | inr h ↦ Effect.began 7 url made (refl, refl) h.0 h.1
    ]
effect_of s script w n (Get url) p = Effect.kept (keeps_get s url p) refl
effect_of s script w n (Purge url) p = Effect.kept (keeps_purge s url p) refl
effect_of s script w n (Wipe url) p = Effect.kept (keeps_wipe s url p) refl
effect_of s script w n (Begin tab url made) p =
    elim (begin_effect s tab url (bytes_of made) (s.slots + n) p (begins s tab url (bytes_of made) (s.slots + n) p (tab_at p tab) refl)) [
      | inl h ↦ Effect.kept h.0 h.1
      | inr h ↦ Effect.began tab url made (refl, refl) h.0 (inr h.1)
    ]
effect_of s script w n (Add tab count) p = Effect.kept (keeps_add s tab count p (tab_at p tab) refl) refl
effect_of s script w n (End tab) p = Effect.kept (keeps_end s tab p (tab_at p tab) refl) refl
effect_of s script w n (DropTab tab) p = Effect.kept (keeps_give_up tab p (tab_at p tab) refl) refl
effect_of s script w n (OpenTab tab url) p = Effect.kept (keeps_open s tab url p (tab_at p tab) refl) refl
effect_of s script w n (More tab) p = Effect.kept (keeps_more s tab p (tab_at p tab) refl) refl
effect_of s script w n (CloseTab tab) p = Effect.kept (keeps_close tab p (tab_at p tab) refl) refl
effect_of s script w n (Mark mark) p = Effect.kept (keeps_refl p) refl
effect_of s script w n (Await mark) p = Effect.kept (keeps_refl p) refl

pub effect : (s : Setting) (script : List Line) (line : Line) (p : Plain) → Effect s line p (serve s script line p)
effect s script line p = effect_of s script line.worker line.number line.request p

-- there are as many anchors as before
pub anchors_stay : (s : Setting) (line : Line) (p : Plain) (r : Step) → Effect s line p r → length r.after.places ≡ length p.places
anchors_stay s line p r (Effect.kept k told) = k.anchors
anchors_stay s line p r (Effect.began tab url made offers b told) =
    b.anchors ∙ length-set p.places (anchor_of (key_of url) s.anchors) (record { version = p.counter + 1; doom = false; entry = Some (entry_of url (bytes_of made) (s.slots + line.number)) })
