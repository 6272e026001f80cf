-- Of a store that was just opened each pass has the words as they are, since it made no step and the words are the opening's.
use Rattle.std.proofs.Common.{◌≡◌, ℕ, zero, suc, ◌+◌, List, [], Bool, cond, replicate, sym, refl, ap, ◌∙◌, subst}
use mathlib.Core.Option.{some, some-injective, some-ne-none}
use lib.ListN.{get_elem?}
use Rattle.core_model.specs.declared.tab.Tab.{Tab}
use Rattle.core_model.specs.declared.tab.Tab.TheVariants.{Free}
use Rattle.core_model.specs.declared.view.Place.{Place}
use Rattle.core_model.specs.declared.view.Place.TheVariants.{Anchor, Beside, Link}
use Rattle.core_model.specs.declared.view.View.{View}
use Rattle.core_model.specs.Layout.{Setting, word_in}
use Rattle.core_model.specs.Opening.{new_view, new_views}
use Rattle.core_model.specs.State.{State}
use Rattle.core_alone.specs.Alone.{IsTabAt, StandsAlone, is_unlinked, link_in}
use Rattle.core_alone.proofs.Following.{mirror_of}

-- nothing was done with such a view
record IsNew {X : Type 0} (v : View X) : Type 0 where
  mirror : v.mirror ≡ []
  trail : v.trail ≡ []
  tabs : (t : ℕ) (x : Tab X) → get_elem? v.tabs t ≡ some x → x ≡ Free

all_free : {X : Type 0} → (n t : ℕ) (x : Tab X) → get_elem? (replicate n Free) t ≡ some x → x ≡ Free
all_free zero t x e = absurd (some-ne-none x (sym e))
all_free (suc n) zero x e = sym (some-injective Free x e)
all_free (suc n) (suc t) x e = all_free n t x e

new_at : {X : Type 0} → (k : Setting X) (n from i : ℕ) (v : View X) → get_elem? (new_views k from n) i ≡ some v → IsNew v
new_at k zero from i v e = absurd (some-ne-none v (sym e))
new_at k (suc n) from zero v e =
    subst IsNew (some-injective (new_view k from) v e) record { mirror = refl; trail = refl; tabs = λ t x h. all_free 9 t x h }
new_at k (suc n) from (suc i) v e = new_at k n (from + 1) i v e

module _ {X : Type 0} (left : ℕ → ℕ → Bool) (k : Setting X) (s : State X) (words : s.words ≡ k.words)
    (views : s.views ≡ new_views k 0 k.passes) where
  bare : (i : ℕ) (v : View X) → get_elem? s.views i ≡ some v → IsNew v
  bare i v at = new_at k k.passes 0 i v (subst (λ (z : List (View X)). get_elem? z i ≡ some v) views at)

  same : (v : View X) → v.mirror ≡ [] → (q : Place) → word_in k s.words q ≡ mirror_of k v q
  same v none q = ap (λ (ws : List ℕ). word_in k ws q) words
      ∙ sym (ap (Rattle.core_model.specs.Deeds.mirrored k (Rattle.core_model.specs.Layout.index k q)) none)

  linked : (v : View X) → IsNew v → (slot : ℕ) → word_in k s.words (Link slot) ≡ link_in k v slot
  linked v n slot = same v n.mirror (Link slot)
      ∙ sym (ap (λ (b : Bool). cond b 0 (mirror_of k v (Link slot))) (ap (is_unlinked slot) n.trail))

  pub alone_new : StandsAlone left k s
  alone_new = record {
    apart =
        λ i j t a u tab uat owns is is_at. absurd (subst (λ (z : Tab X). IsTabAt z a) ((bare j is.view is.at).tabs t tab is.there) is_at);
    each = λ i v at tabs. let n = bare i v at in record {
      word = λ a lt is. same v n.mirror (Anchor a);
      sides = λ side a lt is. same v n.mirror (Beside side a);
      links = λ a slot lt is c. linked v n slot;
      held = λ t a slot tab there is_at is c. absurd (subst (λ (z : Tab X). IsTabAt z a) (n.tabs t tab there) is_at);
    };
  }
