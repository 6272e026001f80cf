-- What a pass sees anew of the entry that stands at an anchor agrees with what others have seen.
use Rattle.std.proofs.Common.{◌≡◌, ◌≢◌, ⊎_elim, ℕ, ◌<◌, ◌≤◌, List, [], ◌∷◌, length, get_or, sym, refl, ◌∙◌, subst, Some, None, Option, Contains}
use Rattle.std.specs.Prelude.{unwrap_or}
use Rattle.lock_word.specs.Words.{epoch_of, version_of}
use Rattle.core_model.specs.declared.moves.Side.{Side}
use Rattle.core_model.specs.declared.moves.Side.TheVariants.{Key0, Key1, Offer, Start}
use Rattle.core_model.specs.declared.view.Sight.{Sight}
use Rattle.core_model.specs.declared.view.Sight.TheVariants.{Stood, Named, Published, Logged, Wiped}
use Rattle.core_model.specs.declared.view.Place.TheVariants.{Beside}
use Rattle.core_model.specs.declared.view.View.{View}
use Rattle.core_model.specs.Layout.{Setting, index}
use Rattle.core_model.specs.State.{State, word, chain_of}
use Rattle.core_model.specs.Trails.{seen_at, sight_anchor, sight_version}
use Rattle.core_model.specs.Versions.{HasSlot}
use Rattle.core_model.specs.Sound.{AnchorsSound}
use Rattle.core_model.proofs.Lists.{cons_contains, contains_none}
use Rattle.core_model.proofs.BesideKept.{NoEpoch, SightsOwe}

-- P holds of each of these
abbrev pub Each : (P : Sight → Type 0) → List Sight → Type 0
Each P [] = Unit {0}
Each P (y ∷ ys) = P y × Each P ys

pub each_is : (P : Sight → Type 0) (ys : List Sight) → Each P ys → (y : Sight) → Contains ys y → P y
each_is P [] h y c = absurd (contains_none y c)
each_is P (x ∷ ys) h y c = ⊎_elim (λ (e : x ≡ y). subst P e h.0) (λ (q : Contains ys y). each_is P ys h.1 y q) (cons_contains x y ys c)

pub stored_value : (o : Option ℕ) (n : ℕ) → o ≢ None → ((m : ℕ) → o ≡ Some m → n ≡ m) → n ≡ unwrap_or o 0
stored_value None n ne h = absurd (ne refl)
stored_value (Some m) n ne h = h m refl

module _ {X : Type 0} (k : Setting X) (s s' : State X) (v : View X) where
  -- a sight of the version that stands, which the pass has seen
  abbrev pub OfNow : Sight → Type 0
  OfNow y = (sight_anchor y < k.anchors) × (version_of (epoch_of (word s (sight_anchor y))) ≡ sight_version y) × (sight_version y ≤ version_of (seen_at (sight_anchor y) v.seen))

  -- what it tells is so
  abbrev pub IsSo : Sight → Type 0
  IsSo (Stood a e) = ⊥
  IsSo (Named a version Start value) = ⊥
  IsSo (Named a version side value) = (get_or s'.words (index k (Beside side a)) 0 ≡ value) × HasSlot s' a × (get_or s'.words (index k (Beside side a)) 0 ≡ get_or s.words (index k (Beside side a)) 0)
  IsSo (Published a version many) = many ≤ length (chain_of s' a).slots
  IsSo (Logged l) = Unit {0}
  IsSo (Wiped a version slot) = Unit {0}

  so_named : (a version : ℕ) (side : Side) (value : ℕ) → IsSo (Named a version side value)
      → (get_or s'.words (index k (Beside side a)) 0 ≡ value) × HasSlot s' a × (get_or s'.words (index k (Beside side a)) 0 ≡ get_or s.words (index k (Beside side a)) 0)
  so_named a version Key0 value h = h
  so_named a version Key1 value h = h
  so_named a version Offer value h = h
  so_named a version Start value h = absurd h

  pub no_epochs : (ys : List Sight) → Each IsSo ys → NoEpoch ys
  no_epochs [] h = tt
  no_epochs (Stood a e ∷ ys) h = absurd h.0
  no_epochs (Named a version side value ∷ ys) h = no_epochs ys h.1
  no_epochs (Published a version many ∷ ys) h = no_epochs ys h.1
  no_epochs (Logged l ∷ ys) h = no_epochs ys h.1
  no_epochs (Wiped a version slot ∷ ys) h = no_epochs ys h.1

  pub sees_so : AnchorsSound k s → (ys : List Sight) → Each OfNow ys → Each IsSo ys → SightsOwe k s s' v ys
  sees_so so ys now is = record {
    no_epoch = no_epochs ys is;
    no_start = λ b version value c. each_is IsSo ys is (Named b version Start value) c;
    inside = λ y c. (each_is OfNow ys now y c).0;
    stands = λ y c some. (each_is OfNow ys now y c).1;
    known = λ y c. (each_is OfNow ys now y c).2;
    named = λ b version side value c. let q = so_named b version side value (each_is IsSo ys is (Named b version side value) c) in (q.0, q.1);
    published = λ b version many c. each_is IsSo ys is (Published b version many) c;
    agree = λ j u ut b version side y z c d. let q = so_named b version side y (each_is IsSo ys is (Named b version side y) c) in let r = (each_is OfNow ys now (Named b version side y) c).1 in
        sym q.0 ∙ q.2 ∙ (so.seen.named j u ut b version side z d r).0;
    agree_new = λ b version side y z c d. sym (so_named b version side y (each_is IsSo ys is (Named b version side y) c)).0 ∙ (so_named b version side z (each_is IsSo ys is (Named b version side z) d)).0;
  }
