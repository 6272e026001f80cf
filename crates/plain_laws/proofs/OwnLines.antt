-- Own lines are answered alike by stores that agree and have room.
use Rattle.std.proofs.Common.{◌≡◌, ◌∙◌, ℕ, ◌+◌, ◌<◌, ◌≤◌, List, refl, Bool, true, false}
use Rattle.script_text.specs.Requests.{offers_body}
use Rattle.script_text.specs.declared.line.Line.{Line}
use Rattle.script_text.specs.declared.request.Request.{Request}
use Rattle.script_text.specs.declared.request.Request.TheVariants.{Put, Save, Get, Purge, Wipe, Begin, Add, End, DropTab, OpenTab, More, CloseTab, Mark, Await}
use Rattle.plain_model.specs.declared.store.Setting.{Setting}
use Rattle.plain_model.specs.declared.store.Tab.TheVariants.{Free}
use Rattle.plain_model.specs.declared.store.Plain.{Plain}
use Rattle.plain_model.specs.Store.{tab_at}
use Rattle.plain_model.specs.Writing.{Step, add, end, give_up}
use Rattle.plain_model.specs.Reading.{open_tab, more, close, purge, wipe}
use Rattle.plain_model.specs.Serving.{bytes_of, get, serve}
use Rattle.plain_laws.specs.Fitting.{need_at}
use Rattle.plain_laws.specs.Kept.{Keeps}
use Rattle.plain_laws.specs.Private.{url_anchor, is_of}
use Rattle.plain_laws.proofs.Keeping.{keeps_add, keeps_end, keeps_give_up}
use Rattle.plain_laws.proofs.Looking.{keeps_open, keeps_more, keeps_close, keeps_purge, keeps_wipe, keeps_get}
use Rattle.plain_laws.proofs.Roomed.{InRoom}
use Rattle.plain_laws.proofs.Running.{need_here}
use Rattle.plain_laws.proofs.Agreeing.{KeepsNone, Agree, Alike}
use Rattle.plain_laws.proofs.ReadingAlike.{open_alike, more_alike, close_alike, purge_alike, wipe_alike, get_alike}
use Rattle.plain_laws.proofs.WritingAlike.{Drew, BothServed, add_alike, end_alike, give_up_alike, begin_alike, put_alike}

-- a request opens a tab for an anchor of its own kind
abbrev pub Sorts : Setting → (own mine : ℕ → Bool) → Request → Type 0
Sorts s own mine (Begin tab url made) = own (url_anchor s url) ≡ mine tab
Sorts s own mine (OpenTab tab url) = own (url_anchor s url) ≡ mine tab
Sorts s own mine _ = Unit {0}

both_kept : (rename : ℕ → ℕ) (own mine : ℕ → Bool) (p q : Plain) (r u : Step) → Alike rename own mine r u → Keeps p r.after → Keeps q u.after → BothServed rename own mine p q r u
both_kept rename own mine p q r u h k l = record { alike = h; drew = Drew.none k.counter l.counter }

-- two stores with room, whose last tab is free
pub record Ready (rename : ℕ → ℕ) (own mine : ℕ → Bool) (s : Setting) (cap : ℕ → ℕ) (p q : Plain) : Type 0 where
  pub none : KeepsNone rename
  pub agree : Agree rename own mine p q
  pub last : mine 7 ≡ true
  pub left : InRoom s cap p
  pub right : InRoom s cap q
  pub left_free : tab_at p 7 ≡ Free
  pub right_free : tab_at q 7 ≡ Free

serve_alike : (rename : ℕ → ℕ) (own mine : ℕ → Bool) (s : Setting) (cap : ℕ → ℕ) (script : List Line) (worker number : ℕ) (request : Request) (p q : Plain) → Ready rename own mine s cap p q
    → (offers_body request ≡ true → p.counter < 4294901760) → (offers_body request ≡ true → q.counter < 4294901760) → ((a : ℕ) → need_at s a request ≤ cap a)
    → is_of s own mine request ≡ true → Sorts s own mine request
    → ((serve s script (record { worker = worker; number = number; request = request }) p).after.counter ≡ p.counter + 1 → rename (q.counter + 1) ≡ p.counter + 1)
    → BothServed rename own mine p q (serve s script (record { worker = worker; number = number; request = request }) p) (serve s script (record { worker = worker; number = number; request = request }) q)
serve_alike rename own mine s cap script w n (Put url made) p q h lp lq le o sorts next =
    put_alike rename own mine s cap url (bytes_of made) (s.slots + n) p q h.none h.agree o h.last h.left h.right (need_here s cap url (bytes_of made) le) (lp refl) (lq refl) next
serve_alike rename own mine s cap script w n (Save url made) p q h lp lq le o sorts next =
    put_alike rename own mine s cap url (bytes_of made) (s.slots + n) p q h.none h.agree o h.last h.left h.right (need_here s cap url (bytes_of made) le) (lp refl) (lq refl) next
serve_alike rename own mine s cap script w n (Get url) p q h lp lq le o sorts next =
    both_kept rename own mine p q (get s url p) (get s url q) (get_alike rename own mine s url p q h.none h.agree o h.last h.left_free h.right_free) (keeps_get s url p) (keeps_get s url q)
serve_alike rename own mine s cap script w n (Purge url) p q h lp lq le o sorts next =
    both_kept rename own mine p q (purge s url p) (purge s url q) (purge_alike rename own mine s url p q h.none h.agree o) (keeps_purge s url p) (keeps_purge s url q)
serve_alike rename own mine s cap script w n (Wipe url) p q h lp lq le o sorts next =
    both_kept rename own mine p q (wipe s url p) (wipe s url q) (wipe_alike rename own mine s url p q h.none h.agree o) (keeps_wipe s url p) (keeps_wipe s url q)
serve_alike rename own mine s cap script w n (Begin tab url made) p q h lp lq le o sorts next =
    begin_alike rename own mine s tab url (bytes_of made) (s.slots + n) p q h.none h.agree (sorts ∙ o) o (lp refl) (lq refl) next
serve_alike rename own mine s cap script w n (Add tab count) p q h lp lq le o sorts next =
    both_kept rename own mine p q (add s tab count p) (add s tab count q) (add_alike rename own mine s cap tab count p q h.agree o h.left h.right (tab_at q tab) refl (h.agree.tabs tab o))
    (keeps_add s tab count p (tab_at p tab) refl) (keeps_add s tab count q (tab_at q tab) refl)
serve_alike rename own mine s cap script w n (End tab) p q h lp lq le o sorts next =
    both_kept rename own mine p q (end s tab p) (end s tab q) (end_alike rename own mine s cap tab p q h.agree o h.left h.right (tab_at q tab) refl (h.agree.tabs tab o))
    (keeps_end s tab p (tab_at p tab) refl) (keeps_end s tab q (tab_at q tab) refl)
serve_alike rename own mine s cap script w n (DropTab tab) p q h lp lq le o sorts next =
    both_kept rename own mine p q (give_up tab p) (give_up tab q) (give_up_alike rename own mine tab p q h.agree o (tab_at q tab) refl (h.agree.tabs tab o))
    (keeps_give_up tab p (tab_at p tab) refl) (keeps_give_up tab q (tab_at q tab) refl)
serve_alike rename own mine s cap script w n (OpenTab tab url) p q h lp lq le o sorts next =
    both_kept rename own mine p q (open_tab s tab url p) (open_tab s tab url q) (open_alike rename own mine s tab url p q h.none h.agree (sorts ∙ o) o (tab_at q tab) refl (h.agree.tabs tab o))
    (keeps_open s tab url p (tab_at p tab) refl) (keeps_open s tab url q (tab_at q tab) refl)
serve_alike rename own mine s cap script w n (More tab) p q h lp lq le o sorts next =
    both_kept rename own mine p q (more s tab p) (more s tab q) (more_alike rename own mine s tab p q h.none h.agree o (tab_at q tab) refl (h.agree.tabs tab o))
    (keeps_more s tab p (tab_at p tab) refl) (keeps_more s tab q (tab_at q tab) refl)
serve_alike rename own mine s cap script w n (CloseTab tab) p q h lp lq le o sorts next =
    both_kept rename own mine p q (close tab p) (close tab q) (close_alike rename own mine tab p q h.agree o (tab_at q tab) refl (h.agree.tabs tab o))
    (keeps_close tab p (tab_at p tab) refl) (keeps_close tab q (tab_at q tab) refl)
serve_alike rename own mine s cap script w n (Mark mark) p q h lp lq le o sorts next = absurd (let no : false ≡ true = o in cc)
serve_alike rename own mine s cap script w n (Await mark) p q h lp lq le o sorts next = absurd (let no : false ≡ true = o in cc)

pub own_line : (rename : ℕ → ℕ) (own mine : ℕ → Bool) (s : Setting) (cap : ℕ → ℕ) (script : List Line) (line : Line) (p q : Plain) → Ready rename own mine s cap p q
    → (offers_body line.request ≡ true → p.counter < 4294901760) → (offers_body line.request ≡ true → q.counter < 4294901760) → ((a : ℕ) → need_at s a line.request ≤ cap a)
    → is_of s own mine line.request ≡ true → Sorts s own mine line.request
    → ((serve s script line p).after.counter ≡ p.counter + 1 → rename (q.counter + 1) ≡ p.counter + 1)
    → BothServed rename own mine p q (serve s script line p) (serve s script line q)
own_line rename own mine s cap script line p q h lp lq le o sorts next = serve_alike rename own mine s cap script line.worker line.number line.request p q h lp lq le o sorts next
