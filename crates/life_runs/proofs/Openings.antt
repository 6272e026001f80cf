-- A state that was opened with what one rebuild keeps was opened with what another keeps that keeps the same.
use Rattle.std.proofs.Common.{◌≡◌, ℕ, zero, suc, List, [], ◌∷◌, map, sym, ap, ◌∙◌, subst, arith, Contains}
use Rattle.std.specs.Prelude.{slice_index}
use Rattle.store_key.specs.Anchor.{anchor_of}
use Rattle.rebuild_model.specs.declared.found.Found.{Found}
use Rattle.rebuild_model.specs.declared.rebuilt.Rebuilt.{Rebuilt}
use Rattle.core_model.specs.Layout.{Setting}
use Rattle.core_model.specs.Opening.{IsKeptAt, IsOpened}
use Rattle.core_model.specs.State.{State}
use Rattle.core_model.specs.Slots.{used}
use Rattle.core_model.proofs.SlotsOpened.{contains_map}
use Rattle.named_bytes.specs.Alike.{AreAlike, named}

map_there : {X Y : Type 0} (f : X → Y) (xs : List X) (x : X) → Contains xs x → Contains (map f xs) (f x)
map_there f [] x h = absurd (let lt = h.1 in omega arith)
map_there f (y ∷ ys) x (zero, lt, e) = (zero, (omega arith), ap f e)
map_there f (y ∷ ys) x (suc i, lt, e) = let r = map_there f ys x (i, (omega arith), e) in (suc r.0, (let z = r.1 in omega arith), r.2)

module _ {X : Type 0} (k : Setting X) (s : State X) where
  -- an opening looks at what names tell of an entry, and at nothing else
  at_named : (a : ℕ) (f : Found) → IsKeptAt k s a f → IsKeptAt k s a (named f)
  at_named a f h = record { word_is = h.word_is; key0 = h.key0; key1 = h.key1; offer = h.offer; start = h.start; chain = h.chain; links = h.links }

  of_named : (a : ℕ) (f : Found) → IsKeptAt k s a (named f) → IsKeptAt k s a f
  of_named a f h = record { word_is = h.word_is; key0 = h.key0; key1 = h.key1; offer = h.offer; start = h.start; chain = h.chain; links = h.links }

  module _ (r b : Rebuilt) (alike : AreAlike r b) (op : IsOpened k r s) where
    other : (f : Found) → Contains b.winners f → (g : Found) × Contains r.winners g × (named g ≡ named f)
    other f h = contains_map named r.winners (named f) (subst (λ (ws : List Found). Contains ws (named f)) (sym alike.winners) (map_there named b.winners f h))

    back : (g : Found) → Contains r.winners g → (f : Found) × Contains b.winners f × (named f ≡ named g)
    back g h = contains_map named b.winners (named g) (subst (λ (ws : List Found). Contains ws (named g)) alike.winners (map_there named r.winners g h))

    pub opened_alike : IsOpened k b s
    opened_alike = record {
      few = op.few;
      words = op.words;
      count = op.count;
      contents = op.contents;
      kept = λ f h. let q = other f h in
          of_named (anchor_of f.key k.anchors) f (subst (λ (x : Found). IsKeptAt k s (anchor_of x.key k.anchors) x) q.2 (at_named (anchor_of q.0.key k.anchors) q.0 (op.kept q.0 q.1)));
      empty = λ a lt none. op.empty a lt (λ g h e. let q = back g h in none q.0 q.1 (ap (λ (x : Found). anchor_of x.key k.anchors) q.2 ∙ e));
      taken = λ slot lt. op.taken slot lt ∙ ap (λ (owner : List ℕ). used (slice_index owner slot)) alike.owner;
      ends = op.ends;
      free = λ slot lt none. op.free slot lt (ap (λ (owner : List ℕ). slice_index owner slot) alike.owner ∙ none);
      turns = op.turns;
      counter = op.counter ∙ alike.greatest;
      log = op.log;
      chains = op.chains;
      places = op.places;
      cells = op.cells;
      views = op.views;
    }
