-- What keeps entries and versions.
use Rattle.std.proofs.Common.{◌≡◌, ◌∙◌, ℕ, zero, suc, ◌+◌, ◌-◌, ◌*◌, List, [], ◌∷◌, get_or, set, length-set, refl}
use Rattle.std.specs.Prelude.{Option, Some, None, min, nat_lt, nat_le, ◌==◌, is_some}
use Rattle.script_text.specs.declared.answer.Answer.{Answer}
use Rattle.plain_model.specs.declared.entry.Life.{Life}
use Rattle.plain_model.specs.declared.entry.Life.TheVariants.{Whole, GivenUp}
use Rattle.plain_model.specs.declared.entry.Entry.{Entry}
use Rattle.plain_model.specs.declared.entry.Place.{Place}
use Rattle.plain_model.specs.declared.store.Setting.{Setting}
use Rattle.plain_model.specs.declared.store.Tab.{Tab}
use Rattle.plain_model.specs.declared.store.Tab.TheVariants.{Free, Writing, Reading}
use Rattle.plain_model.specs.declared.store.Plain.{Plain}
use Rattle.plain_model.specs.declared.store.Refusal.{Refusal}
use Rattle.plain_model.specs.Place.{nothing, vacated, doomed, changed, resized, ended}
use Rattle.plain_model.specs.Store.{place_at, entry_at, tab_at, with_tab, published, is_left_over_at}
use Rattle.plain_model.specs.Slots.{free, victim, evicted, claim, claim_of, claim_two, Claimed, Grown, resize, publish, grow, limit}
use Rattle.plain_model.specs.Writing.{Step, settle, close_writer, lacking, append, unless_refused, add, last_slot, finish, end, give_up}
use Rattle.plain_laws.specs.Kept.{SameOffer, IsLeft, IsAs, Keeps}
use Rattle.plain_laws.proofs.Choosing.{either}

pub same_offer : (e : Entry) → SameOffer e e
same_offer e = record { url = refl; key = refl; body = refl; offer = refl }

left_refl : (o : Option Entry) → IsLeft o o
left_refl None = tt
left_refl (Some e) = same_offer e

left_trans : (o p q : Option Entry) → IsLeft o p → IsLeft p q → IsLeft o q
left_trans o p None h k = tt
left_trans None (Some e) (Some f) h k = h
left_trans o None (Some f) h k = absurd k
left_trans (Some d) (Some e) (Some f) h k = record { url = k.url ∙ h.url; key = k.key ∙ h.key; body = k.body ∙ h.body; offer = k.offer ∙ h.offer }

as_refl : (x : Place) → IsAs x x
as_refl x = record { version = refl; entry = left_refl x.entry }

pub keeps_refl : (p : Plain) → Keeps p p
keeps_refl p = record { counter = refl; anchors = refl; places = λ a. as_refl (place_at p a) }

pub keeps_trans : (p q r : Plain) → Keeps p q → Keeps q r → Keeps p r
keeps_trans p q r h k = record {
  counter = k.counter ∙ h.counter;
  anchors = k.anchors ∙ h.anchors;
  places = λ a. record {
    version = (k.places a).version ∙ (h.places a).version;
    entry = left_trans (entry_at p a) (entry_at q a) (entry_at r a) (h.places a).entry (k.places a).entry;
  };
}

-- one place is changed
places_set : (f : Place → Place) → ((x : Place) → IsAs x (f x)) → (ps : List Place) (a b : ℕ) → IsAs (get_or ps b nothing) (get_or (set ps a (f (get_or ps a nothing))) b nothing)
places_set f keeps [] a b = as_refl nothing
places_set f keeps (x ∷ ps) zero zero = keeps x
places_set f keeps (x ∷ ps) zero (suc b) = as_refl (get_or ps b nothing)
places_set f keeps (x ∷ ps) (suc a) zero = as_refl x
places_set f keeps (x ∷ ps) (suc a) (suc b) = places_set f keeps ps a b

abbrev pub changing : (Place → Place) → ℕ → Plain → Plain
changing f a p = record p { places = set p.places a (f (place_at p a)) }

pub keeps_set : (f : Place → Place) → ((x : Place) → IsAs x (f x)) → (a : ℕ) (p : Plain) → Keeps p (changing f a p)
keeps_set f keeps a p = record { counter = refl; anchors = length-set p.places a (f (place_at p a)); places = λ b. places_set f keeps p.places a b }

as_vacated : (x : Place) → IsAs x (vacated x)
as_vacated x = record { version = refl; entry = tt }

pub as_doomed : (x : Place) → IsAs x (doomed x)
as_doomed x = record { version = refl; entry = left_refl x.entry }

left_resized : (content : ℕ) (o : Option Entry) → IsLeft o (changed (λ e. record e { content = content }) o)
left_resized content None = tt
left_resized content (Some e) = record { url = refl; key = refl; body = refl; offer = refl }

as_resized : (content : ℕ) (x : Place) → IsAs x (resized content x)
as_resized content x = record { version = refl; entry = left_resized content x.entry }

left_ended : (life : Life) (o : Option Entry) → IsLeft o (changed (λ e. record e { life = life }) o)
left_ended life None = tt
left_ended life (Some e) = record { url = refl; key = refl; body = refl; offer = refl }

as_ended : (life : Life) (x : Place) → IsAs x (ended life x)
as_ended life x = record { version = refl; entry = left_ended life x.entry }

keeps_evicted : (s : Setting) (a : ℕ) (p : Plain) → Keeps p (evicted s a p)
keeps_evicted s a p = record { counter = refl; anchors = length-set p.places a (vacated (place_at p a)); places = λ b. places_set vacated as_vacated p.places a b }

keeps_claim_of : (s : Setting) (p : Plain) (o : Option ℕ) → Keeps p (claim_of s p o).store
keeps_claim_of s p None = keeps_refl p
keeps_claim_of s p (Some a) = keeps_evicted s a p

keeps_claim : (s : Setting) (k : ℕ) (p : Plain) → Keeps p (claim s k p).store
keeps_claim s k p = either (λ (c : Claimed). Keeps p c.store) (nat_lt k (free s p)) _ _ (λ h. keeps_refl p) (λ h. keeps_claim_of s p (victim s p))

keeps_claim_two : (s : Setting) (p : Plain) → Keeps p (claim_two s p).store
keeps_claim_two s p = either (λ (c : Claimed). Keeps p c.store) (claim s 0 p).done _ _
    (λ h. keeps_trans p (claim s 0 p).store (claim s 1 (claim s 0 p).store).store (keeps_claim s 0 p) (keeps_claim s 1 (claim s 0 p).store))
    (λ h. keeps_claim s 0 p)

keeps_publish : (s : Setting) (a filled : ℕ) (p : Plain) → Keeps p (publish s a filled p).store
keeps_publish s a filled p =
    keeps_trans p (resize a (filled * s.room) p) (publish s a filled p).store (keeps_set (resized (filled * s.room)) (as_resized (filled * s.room)) a p)
    (either (λ (g : Grown). Keeps (resize a (filled * s.room) p) g.store) (nat_le (limit s) filled) _ _
    (λ h. keeps_refl (resize a (filled * s.room) p))
    (λ h. either (λ (c : Claimed). Keeps (resize a (filled * s.room) p) c.store) (filled == 1) (claim_two s (resize a (filled * s.room) p)) (claim s 0 (resize a (filled * s.room) p))
    (λ k. keeps_claim_two s (resize a (filled * s.room) p)) (λ k. keeps_claim s 0 (resize a (filled * s.room) p))))

pub keeps_grow : (s : Setting) (a content n filled : ℕ) (p : Plain) → Keeps p (grow s a content n filled p).store
keeps_grow s a content zero filled p = keeps_set (resized content) (as_resized content) a p
keeps_grow s a content (suc n) filled p = either (λ (g : Grown). Keeps p g.store) (is_some (publish s a filled p).refusal) _ _
    (λ h. keeps_publish s a filled p)
    (λ h. keeps_trans p (publish s a filled p).store (grow s a content n (filled + 1) (publish s a filled p).store).store (keeps_publish s a filled p) (keeps_grow s a content n (filled + 1) (publish s a filled p).store))

pub keeps_settle : (a : ℕ) (p : Plain) → Keeps p (settle a p)
keeps_settle a p = either (λ q. Keeps p q) (is_left_over_at p a) _ _ (λ h. keeps_set vacated as_vacated a p) (λ h. keeps_refl p)

pub keeps_tab : (tab : ℕ) (t : Tab) (p : Plain) → Keeps p (with_tab p tab t)
keeps_tab tab t p = record { counter = refl; anchors = refl; places = λ a. as_refl (place_at p a) }

ending : Life → (tab a : ℕ) → Plain → Plain
ending life tab a p = record p { tabs = set p.tabs tab Free; places = set p.places a (ended life (place_at p a)) }

pub keeps_close_writer : (life : Life) (tab a : ℕ) (p : Plain) → Keeps p (close_writer life tab a p)
unfolding ending
keeps_close_writer life tab a p = keeps_trans p (ending life tab a p) (close_writer life tab a p)
    (record { counter = refl; anchors = length-set p.places a (ended life (place_at p a)); places = λ b. places_set (ended life) (as_ended life) p.places a b })
    (keeps_settle a (ending life tab a p))

-- the next step is taken only where nothing was refused
keeps_unless : (tab a : ℕ) (next : Plain → Step) (p : Plain) (g : Grown) → Keeps p g.store → ((q : Plain) → Keeps p q → Keeps p (next q).after)
    → (o : Option Refusal) → g.refusal ≡ o → Keeps p (unless_refused tab a next g).after
keeps_unless tab a next p g h k None e = rw e (k g.store h)
keeps_unless tab a next p g h k (Some r) e = rw e (keeps_trans p g.store (close_writer GivenUp tab a g.store) h (keeps_close_writer GivenUp tab a g.store))

pub keeps_append : (s : Setting) (a count content : ℕ) (p : Plain) → Keeps p (append s a count content p).store
keeps_append s a count content p = keeps_grow s a (content + count) (published s.room (content + count) - published s.room content) (published s.room content + 1) p

pub keeps_last_slot : (s : Setting) (content : ℕ) (p : Plain) → Keeps p (last_slot s content p).store
keeps_last_slot s content p = either (λ (g : Grown). Keeps p g.store) (published s.room content == 0) _ _ (λ h. keeps_claim s 0 p) (λ h. keeps_refl p)

keeps_finish : (tab a : ℕ) (p : Plain) → Keeps p (finish tab a p).after
keeps_finish tab a p = keeps_close_writer Whole tab a p

add_to : (s : Setting) (tab count a : ℕ) (p : Plain) (o : Option Entry) → entry_at p a ≡ o → tab_at p tab ≡ Writing a → Keeps p (add s tab count p).after
add_to s tab count a p None e t = rw (t, e) (keeps_refl p)
add_to s tab count a p (Some x) e t = rw (t, e)
    (keeps_unless tab a (λ q. record { answer = Answer.Added (min count (lacking x)); after = q }) p (append s a (min count (lacking x)) x.content p)
    (keeps_append s a (min count (lacking x)) x.content p) (λ q h. h) (append s a (min count (lacking x)) x.content p).refusal refl)

pub keeps_add : (s : Setting) (tab count : ℕ) (p : Plain) (t : Tab) → tab_at p tab ≡ t → Keeps p (add s tab count p).after
keeps_add s tab count p Free t = rw t (keeps_refl p)
keeps_add s tab count p (Reading a g o) t = rw t (keeps_refl p)
keeps_add s tab count p (Writing a) t = add_to s tab count a p (entry_at p a) refl t

-- and the rest of the growing of an entry that is ended
keeps_end_rest : (s : Setting) (tab content a : ℕ) (q : Plain) → Keeps q (unless_refused tab a (finish tab a) (last_slot s content q)).after
keeps_end_rest s tab content a q = keeps_unless tab a (finish tab a) q (last_slot s content q) (keeps_last_slot s content q)
    (λ r h. keeps_trans q r (finish tab a r).after h (keeps_finish tab a r)) (last_slot s content q).refusal refl

end_to : (s : Setting) (tab a : ℕ) (p : Plain) (o : Option Entry) → entry_at p a ≡ o → tab_at p tab ≡ Writing a → Keeps p (end s tab p).after
end_to s tab a p None e t = rw (t, e) (keeps_refl p)
end_to s tab a p (Some x) e t = rw (t, e)
    (keeps_unless tab a (λ q. unless_refused tab a (finish tab a) (last_slot s (x.content + lacking x) q)) p (append s a (lacking x) x.content p)
    (keeps_append s a (lacking x) x.content p)
    (λ q h. keeps_trans p q (unless_refused tab a (finish tab a) (last_slot s (x.content + lacking x) q)).after h (keeps_end_rest s tab (x.content + lacking x) a q))
    (append s a (lacking x) x.content p).refusal refl)

pub keeps_end : (s : Setting) (tab : ℕ) (p : Plain) (t : Tab) → tab_at p tab ≡ t → Keeps p (end s tab p).after
keeps_end s tab p Free t = rw t (keeps_refl p)
keeps_end s tab p (Reading a g o) t = rw t (keeps_refl p)
keeps_end s tab p (Writing a) t = end_to s tab a p (entry_at p a) refl t

pub keeps_give_up : (tab : ℕ) (p : Plain) (t : Tab) → tab_at p tab ≡ t → Keeps p (give_up tab p).after
keeps_give_up tab p Free t = rw t (keeps_refl p)
keeps_give_up tab p (Reading a g o) t = rw t (keeps_refl p)
keeps_give_up tab p (Writing a) t = rw t (keeps_close_writer GivenUp tab a p)
