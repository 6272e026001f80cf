-- Versions that stand were given out.
use Rattle.std.proofs.Common.{◌≡◌, inl, inr, ℕ, ◌+◌, ◌≤◌, List, [], ◌∷◌, refl, ap, subst, arith}
use Rattle.std.specs.Prelude.{Some, false}
use Rattle.std.specs.List.{range_with_len}
use Rattle.store_key.specs.Key.{key_of}
use Rattle.store_key.specs.Anchor.{anchor_of}
use Rattle.script_text.specs.declared.line.Line.{Line}
use Rattle.plain_model.specs.declared.entry.Entry.{Entry}
use Rattle.plain_model.specs.declared.entry.Place.{Place}
use Rattle.plain_model.specs.declared.store.Setting.{Setting}
use Rattle.plain_model.specs.declared.store.Tab.{Tab}
use Rattle.plain_model.specs.declared.store.Tab.TheVariants.{Free, Writing, Reading}
use Rattle.plain_model.specs.declared.store.Plain.{Plain}
use Rattle.plain_model.specs.Place.{nothing}
use Rattle.plain_model.specs.Store.{place_at, tab_at}
use Rattle.plain_model.specs.Writing.{Step, taken_by, entry_of}
use Rattle.plain_model.specs.Serving.{bytes_of, serve, after, leave, leave_all, lines_for, left_by}
use Rattle.plain_laws.specs.Kept.{Keeps}
use Rattle.plain_laws.specs.Renaming.{CountsVersions}
use Rattle.plain_laws.proofs.Keeping.{keeps_give_up}
use Rattle.plain_laws.proofs.Looking.{keeps_close}
use Rattle.plain_laws.proofs.Beginning.{set_there}
use Rattle.plain_laws.proofs.Serving.{Effect, effect}
use Rattle.plain_laws.proofs.Leaving.{leave_free, leave_writing, leave_reading}

keeps_counts : (p q : Plain) → Keeps p q → CountsVersions p → CountsVersions q
keeps_counts p q k h a =
    let same : (place_at q a).version ≡ (place_at p a).version = (k.places a).version in
    let old : (place_at p a).version ≤ p.counter = h a in
    let counter : q.counter ≡ p.counter = k.counter in
    omega arith

taken_counts : (tab a : ℕ) (e : Entry) (p : Plain) → CountsVersions p → CountsVersions (taken_by tab a e p)
taken_counts tab a e p h b = elim (set_there p.places a b (record { version = p.counter + 1; doom = false; entry = Some e }) nothing) [
  | inl k ↦ (let new : (place_at (taken_by tab a e p) b).version ≡ p.counter + 1 = ap (λ (x : Place). x.version) k.1 in omega arith)
  | inr k ↦ (let same : (place_at (taken_by tab a e p) b).version ≡ (place_at p b).version = ap (λ (x : Place). x.version) k in let old : (place_at p b).version ≤ p.counter = h b in omega arith)
]

line_counts : (s : Setting) (line : Line) (p : Plain) (r : Step) → Effect s line p r → CountsVersions p → CountsVersions r.after
line_counts s line p r (Effect.kept k told) h = keeps_counts p r.after k h
line_counts s line p r (Effect.began tab url made offers b told) h =
    keeps_counts (taken_by tab (anchor_of (key_of url) s.anchors) (entry_of url (bytes_of made) (s.slots + line.number)) p) r.after b
    (taken_counts tab (anchor_of (key_of url) s.anchors) (entry_of url (bytes_of made) (s.slots + line.number)) p h)

pub counted_along : (s : Setting) (script lines : List Line) (p : Plain) → CountsVersions p → CountsVersions (after s script lines p)
counted_along s script [] p h = h
counted_along s script (line ∷ lines) p h = counted_along s script lines (serve s script line p).after (line_counts s line p (serve s script line p) (effect s script line p) h)

leave_counts : (tab : ℕ) (p : Plain) → CountsVersions p → (t : Tab) → tab_at p tab ≡ t → CountsVersions (leave tab p)
leave_counts tab p h Free t = subst (λ (q : Plain). CountsVersions q) (leave_free tab p t) h
leave_counts tab p h (Writing a) t = subst (λ (q : Plain). CountsVersions q) (leave_writing tab a p t) (keeps_counts p _ (keeps_give_up tab p (Writing a) t) h)
leave_counts tab p h (Reading a g o) t = subst (λ (q : Plain). CountsVersions q) (leave_reading tab a g o p t) (keeps_counts p _ (keeps_close tab p (Reading a g o) t) h)

leave_all_counts : (tabs : List ℕ) (p : Plain) → CountsVersions p → CountsVersions (leave_all tabs p)
leave_all_counts [] p h = h
leave_all_counts (tab ∷ tabs) p h = leave_all_counts tabs (leave tab p) (leave_counts tab p h (tab_at p tab) refl)

pub counted_at_the_end : (s : Setting) (script : List Line) (worker : ℕ) (p : Plain) → CountsVersions p → CountsVersions (left_by s script worker p)
counted_at_the_end s script worker p h = leave_all_counts (range_with_len 0 8) (after s script (lines_for worker script) p) (counted_along s script (lines_for worker script) p h)
