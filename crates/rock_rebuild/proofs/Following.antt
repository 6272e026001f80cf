-- A chain that is followed from header to header.
use Rattle.std.proofs.Common.{◌≡◌, ℕ, ◌+◌, ◌<◌, Bool, true, false, List, [], ◌∷◌, ◌++◌, length, get_or, refl, ap, sym, ◌∙◌, subst, arith, append_assoc}
use Rattle.std.specs.Prelude.{ℤ, pos, negsuc, Option, Some, None, Contains, nat_eq, ◌||◌, sum_by}
use Rattle.std.specs.List.{IsDistinct, AllByRecursion}
use Rattle.std.proofs.Math.ListN.{set}
use Rattle.std.proofs.lemmas.Bool.{false≢true}
use Rattle.std.proofs.lemmas.Bool.Decides.{nat_tests}
use Rattle.std.proofs.lemmas.List.{get_or-set_same, get_or-set_other}
use Rattle.std.proofs.lemmas.List.Elements.{All-contains, Contains-append_right, All-from_recursion}
use Rattle.std.proofs.lemmas.List.Sums.{sum_by-append, sum_by-cons}
use Rattle.slot_cell.specs.declared.header.Header.{Header}
use Rattle.slot_cell.specs.Header.{header_of, IsSane}
use Rattle.rebuild_model.specs.Image.{header_at, image_at, BelongsTo, Links}
use Rattle.rebuild_model.specs.Entry.{IsChain, AllButLast}
use Rattle.rebuild_model.specs.Plain.{IsFull, IsWhole, size_at}
use Rattle.rock_rebuild.specs.Kept.{IsHeaderOf, TellsHeader, AreHeaders}
use Rattle.rock_rebuild.specs.Left.{IsOf, AreLeft, HasNoChain, IsChainAt}
use Rattle.rock_rebuild.proofs.Keys.{same_keys, keys_from}
use Rattle.rock_rebuild.proofs.Lists.{is_among, parts, push_all, push_once, came_once, among_push, all_but_last, not_last, of_last, from_last}
use Rattle.rock_rebuild.proofs.Counting.{within}
use Rattle.rock_rebuild.proofs.Options.{at_some}

-- so far the chain has the slots `chain` and `size` bytes, and is at slot `at`. Each chain that begins there goes this way,
-- and of the headers those of its slots alone are taken
pub record Followed (slot : ℕ) (images : List (List ℕ)) (first : ℕ) (head : Header) (chain : List ℕ) (at size : ℕ) (headers : List (Option Header)) : Type 0 where
  pub head_is : IsHeaderOf (length images) slot (image_at images first) head
  pub belong : AllByRecursion (BelongsTo slot images first) chain
  pub full : AllByRecursion (IsFull slot images) chain
  pub once : IsDistinct nat_eq chain
  pub begins : (tail : List ℕ) → (behind : List ℕ) × (chain ++ at ∷ tail ≡ first ∷ behind)
  pub linked : (tail : List ℕ) → Links images (at ∷ tail) → Links images (chain ++ at ∷ tail)
  pub every : (whole : List ℕ) → IsChain slot images first whole → (rest : List ℕ) × (whole ≡ chain ++ at ∷ rest)
  pub sum : size ≡ sum_by (size_at images) chain
  pub told : (s : ℕ) (h : Header) → get_or headers s None ≡ Some h → (s < length images) × IsHeaderOf (length images) slot (image_at images s) h
  pub mine : (s : ℕ) → BelongsTo slot images first s → is_among s chain ≡ false → get_or headers s None ≡ Some (header_at images s)
  pub later : (f s : ℕ) → first < f → BelongsTo slot images f s → get_or headers s None ≡ Some (header_at images s)
  pub gone : (s : ℕ) → is_among s chain ≡ true → get_or headers s None ≡ None

-- the header of the slot was taken, and is one of the entry
pub record Takes (first at : ℕ) (head h : Header) (headers after : List (Option Header)) : Type 0 where
  pub after_is : after ≡ set headers at None
  pub was : get_or headers at None ≡ Some h
  pub of : IsOf first head h

none_is_none : {h : Header} {o : Option Header} → o ≡ None → o ≡ Some h → ⊥
none_is_none e k = cc

same_pos : {z : ℤ} {a b : ℕ} → z ≡ pos a → z ≡ pos b → a ≡ b
same_pos e k = cc

ends_not : {z : ℤ} {t : ℕ} → z ≡ negsuc 0 → z ≡ pos t → ⊥
ends_not e k = cc

pub at_first : (slot : ℕ) (images : List (List ℕ)) (first : ℕ) (head : Header) (headers : List (Option Header)) → AreLeft slot images first headers → get_or headers first None ≡ Some head
    → Followed slot images first head [] first 0 headers
unfolding IsDistinct
at_first slot images first head headers left there = record {
  head_is = (left.told first head there).1;
  belong = tt;
  full = tt;
  once = tt;
  begins = λ tail. (tail, refl);
  linked = λ tail l. l;
  every = λ whole c. (c.behind, c.begins);
  sum = refl;
  told = left.told;
  mine = λ s belongs new. left.all first s (omega arith) belongs;
  later = λ f s above belongs. left.all f s (omega (arith, above)) belongs;
  gone = λ s among. absurd (false≢true among);
}

-- a slot whose header is one of the entry belongs to it
pub belongs_at : (slot : ℕ) (images : List (List ℕ)) (first : ℕ) (head : Header) (chain : List ℕ) (at size : ℕ) (headers : List (Option Header)) (h : Header) → Followed slot images first head chain at size headers
    → get_or headers at None ≡ Some h → IsOf first head h → BelongsTo slot images first at
belongs_at slot images first head chain at size headers h f there of =
    let told = f.told at h there in
    let is : h ≡ header_at images at = told.1.is in
    record {
      sane = record { within = told.0; sane = subst (λ u. IsSane u (length images) slot) is told.1.sane };
      key = same_keys (image_at images at) (image_at images first) h head told.1.spelled f.head_is.spelled of.k0 of.k1;
      version = ap (λ u. u.version) (sym is) ∙ of.version ∙ ap (λ u. u.version) f.head_is.is;
      first = ap (λ u. u.first_slot) (sym is) ∙ of.starts;
    }

-- and the other way round
pub is_of : (slot : ℕ) (images : List (List ℕ)) (first : ℕ) (head : Header) (at : ℕ) → IsHeaderOf (length images) slot (image_at images first) head → BelongsTo slot images first at → IsOf first head (header_at images at)
is_of slot images first head at is belongs =
    let keys = keys_from (image_at images at) (image_at images first) belongs.key in
    record {
      k0 = keys.0 ∙ ap (λ u. u.k0) (sym is.is);
      k1 = keys.1 ∙ ap (λ u. u.k1) (sym is.is);
      version = belongs.version ∙ ap (λ u. u.version) (sym is.is);
      starts = belongs.first;
    }

-- a header that is left is of a slot that is not in the chain yet
new_at : (slot : ℕ) (images : List (List ℕ)) (first : ℕ) (head : Header) (chain : List ℕ) (at size : ℕ) (headers : List (Option Header)) (h : Header) → Followed slot images first head chain at size headers
    → get_or headers at None ≡ Some h → is_among at chain ≡ false
new_at slot images first head chain at size headers h f there =
    elim (is_among at chain) as (λ b. is_among at chain ≡ b → b ≡ false) [
      | true ↦ λ among. absurd (none_is_none (f.gone at among) there)
      | false ↦ λ not. refl
    ] refl

without : (a : Bool) → (a || false) ≡ true → a ≡ true
without true e = refl
without false e = e

apart : (y s : ℕ) → nat_eq y s ≡ false → s ≡ y → ⊥
apart y s e same = grind (arith, nat_tests)

together : (y s : ℕ) → nat_eq y s ≡ true → s ≡ y
together y s e = grind (arith, nat_tests)

-- the others stay as they are
still : (headers : List (Option Header)) (at s : ℕ) (o : Option Header) → (s ≡ at → ⊥) → get_or headers s None ≡ o → get_or (set headers at None) s None ≡ o
still headers at s o apart was = get_or-set_other headers at s None None apart ∙ was

told_still : (slot : ℕ) (images : List (List ℕ)) (headers : List (Option Header)) (at : ℕ) → at < length headers → ((s : ℕ) (h : Header) → get_or headers s None ≡ Some h → (s < length images) × IsHeaderOf (length images) slot (image_at images s) h)
    → (s : ℕ) (h : Header) → get_or (set headers at None) s None ≡ Some h → (s < length images) × IsHeaderOf (length images) slot (image_at images s) h
told_still slot images headers at inside told s h there = elim (nat_eq at s) as (λ b. nat_eq at s ≡ b → (s < length images) × IsHeaderOf (length images) slot (image_at images s) h) [
  | true ↦ λ e. absurd (none_is_none (get_or-set_same headers at None None inside) (subst (λ k. get_or (set headers at None) k None ≡ Some h) (together at s e) there))
  | false ↦ λ e. told s h (sym (get_or-set_other headers at s None None (apart at s e)) ∙ there)
] refl

-- slots of later entries are left
later_still : (slot : ℕ) (images : List (List ℕ)) (first : ℕ) (headers : List (Option Header)) (at : ℕ) → BelongsTo slot images first at
    → ((f s : ℕ) → first < f → BelongsTo slot images f s → get_or headers s None ≡ Some (header_at images s))
    → (f s : ℕ) → first < f → BelongsTo slot images f s → get_or (set headers at None) s None ≡ Some (header_at images s)
later_still slot images first headers at belongs later f s above other =
    still headers at s (Some (header_at images s)) (λ same. let one : first ≡ f = same_pos belongs.first (subst (λ k. (header_at images k).first_slot ≡ pos f) same other.first) in omega (arith, above, one)) (later f s above other)

links_behind : (images : List (List ℕ)) (xs zs : List ℕ) (y : ℕ) → Links images (xs ++ y ∷ zs) → Links images (y ∷ zs)
links_behind images [] zs y l = l
links_behind images (x ∷ []) zs y l = l.1
links_behind images (x ∷ w ∷ xs) zs y l = links_behind images (w ∷ xs) zs y l.1

goes_on : (images : List (List ℕ)) (at next : ℕ) (rest : List ℕ) → (header_at images at).next_slot ≡ pos next → Links images (at ∷ rest) → (behind : List ℕ) × (rest ≡ next ∷ behind)
goes_on images at next [] goes l = absurd (ends_not l goes)
goes_on images at next (u ∷ rest) goes l = (rest, ap (λ v. v ∷ rest) (same_pos l.0 goes))

stops : (images : List (List ℕ)) (at : ℕ) (rest : List ℕ) → (header_at images at).next_slot ≡ negsuc 0 → Links images (at ∷ rest) → rest ≡ []
stops images at [] ends l = refl
stops images at (u ∷ rest) ends l = absurd (ends_not ends l.0)

-- those that were taken are gone, and the new one too
gone_still : (headers : List (Option Header)) (chain : List ℕ) (at : ℕ) → at < length headers → ((s : ℕ) → is_among s chain ≡ true → get_or headers s None ≡ None)
    → (s : ℕ) → (is_among s chain || nat_eq at s) ≡ true → get_or (set headers at None) s None ≡ None
gone_still headers chain at inside gone s among = elim (nat_eq at s) as (λ b. nat_eq at s ≡ b → (is_among s chain || b) ≡ true → get_or (set headers at None) s None ≡ None) [
  | true ↦ λ e there. subst (λ k. get_or (set headers at None) k None ≡ None) (sym (together at s e)) (get_or-set_same headers at None None inside)
  | false ↦ λ e there. still headers at s None (apart at s e) (gone s (without (is_among s chain) there))
] refl among

-- the chain goes on
pub one_more : (slot : ℕ) (images : List (List ℕ)) (first : ℕ) (head : Header) (chain grown : List ℕ) (at next size bigger : ℕ) (headers after : List (Option Header)) (h : Header)
    → Followed slot images first head chain at size headers → Takes first at head h headers after → grown ≡ chain ++ at ∷ [] → bigger ≡ size + h.payload_size → h.next_slot ≡ pos next → h.payload_size + 40 ≡ slot
    → Followed slot images first head grown next bigger after
one_more slot images first head chain grown at next size bigger headers after h f t grows sums goes full =
    let belongs = belongs_at slot images first head chain at size headers h f t.was t.of in
    let new = new_at slot images first head chain at size headers h f t.was in
    let inside = within headers at h t.was in
    let is : h ≡ header_at images at = (f.told at h t.was).1.is in
    let links : (header_at images at).next_slot ≡ pos next = ap (λ u. u.next_slot) (sym is) ∙ goes in
    let sized : size_at images at ≡ h.payload_size = ap (λ u. u.payload_size) (sym is) in
    subst (λ g. Followed slot images first head g next bigger after) (sym grows) (subst (λ a. Followed slot images first head (chain ++ at ∷ []) next bigger a) (sym t.after_is) record {
      head_is = f.head_is;
      belong = push_all (BelongsTo slot images first) chain at f.belong belongs;
      full = push_all (IsFull slot images) chain at f.full (ap (λ n. n + 40) sized ∙ full);
      once = push_once chain at f.once new;
      begins = λ tail. let b = f.begins (next ∷ tail) in (b.0, append_assoc chain (at ∷ []) (next ∷ tail) ∙ b.1);
      linked = λ tail l. subst (Links images) (sym (append_assoc chain (at ∷ []) (next ∷ tail))) (f.linked (next ∷ tail) (links, l));
      every = λ whole c.
          let rest = f.every whole c in
          let behind = goes_on images at next rest.0 links (links_behind images chain rest.0 at (subst (Links images) rest.1 c.linked)) in
          (behind.0, rest.1 ∙ ap (λ r. chain ++ at ∷ r) behind.1 ∙ sym (append_assoc chain (at ∷ []) (next ∷ behind.0)));
      sum = omega (arith, sums, f.sum, sized, sum_by-append (size_at images) chain (at ∷ []), sum_by-cons (size_at images) at []);
      told = told_still slot images headers at inside f.told;
      mine = λ s other not.
          let both = parts (is_among s chain) (nat_eq at s) (sym (among_push chain at s) ∙ not) in
          still headers at s (Some (header_at images s)) (apart at s both.1) (f.mine s other both.0);
      later = later_still slot images first headers at belongs f.later;
      gone = λ s among. gone_still headers chain at inside f.gone s (sym (among_push chain at s) ∙ among);
    })

-- what is left behind an entry, whether it was there or not
pub left_behind : (slot : ℕ) (images : List (List ℕ)) (first : ℕ) (head : Header) (chain : List ℕ) (at size : ℕ) (headers : List (Option Header))
    → Followed slot images first head chain at size headers → AreLeft slot images (first + 1) headers
left_behind slot images first head chain at size headers f = record {
  told = f.told;
  all = λ g s from belongs. f.later g s (omega (arith, from)) belongs;
}

pub left_after : (slot : ℕ) (images : List (List ℕ)) (first : ℕ) (head : Header) (chain : List ℕ) (at size : ℕ) (headers after : List (Option Header)) (h : Header)
    → Followed slot images first head chain at size headers → Takes first at head h headers after → AreLeft slot images (first + 1) after
left_after slot images first head chain at size headers after h f t = subst (AreLeft slot images (first + 1)) (sym t.after_is) record {
  told = told_still slot images headers at (within headers at h t.was) f.told;
  all = λ g s from belongs. later_still slot images first headers at (belongs_at slot images first head chain at size headers h f t.was t.of) f.later g s (omega (arith, from)) belongs;
}

-- no chain begins where none is left
pub none_left : (slot : ℕ) (images : List (List ℕ)) (first : ℕ) (headers : List (Option Header)) → AreLeft slot images first headers → get_or headers first None ≡ None → HasNoChain slot images first
none_left slot images first headers left none chain c whole =
    let belongs = All-contains (BelongsTo slot images first) chain first c.belong (subst (λ l. Contains l first) (sym c.begins) (0, omega arith, refl)) in
    none_is_none none (left.all first first (omega arith) belongs)

-- or where the next header is gone, or none of the entry
pub strays : (slot : ℕ) (images : List (List ℕ)) (first : ℕ) (head : Header) (chain : List ℕ) (at size : ℕ) (headers : List (Option Header)) → Followed slot images first head chain at size headers
    → ((h : Header) → get_or headers at None ≡ Some h → IsOf first head h → ⊥) → HasNoChain slot images first
strays slot images first head chain at size headers f not whole c full =
    let rest = f.every whole c in
    let there : Contains whole at = subst (λ l. Contains l at) (sym rest.1) (Contains-append_right chain (at ∷ rest.0) at (0, omega arith, refl)) in
    let belongs = All-contains (BelongsTo slot images first) whole at c.belong there in
    let new = came_once chain rest.0 at (subst (IsDistinct nat_eq) rest.1 c.once) in
    not (header_at images at) (f.mine at belongs new) (is_of slot images first head at f.head_is belongs)

-- the last slot ends the chain
its_end : (slot : ℕ) (images : List (List ℕ)) (first : ℕ) (head : Header) (chain : List ℕ) (at size : ℕ) (headers : List (Option Header)) → Followed slot images first head chain at size headers
    → (header_at images at).next_slot ≡ negsuc 0 → (whole : List ℕ) → IsChain slot images first whole → whole ≡ chain ++ at ∷ []
its_end slot images first head chain at size headers f ends whole c =
    let rest = f.every whole c in
    rest.1 ∙ ap (λ r. chain ++ at ∷ r) (stops images at rest.0 ends (links_behind images chain rest.0 at (subst (Links images) rest.1 c.linked)))

all_bytes : (images : List (List ℕ)) (chain : List ℕ) (at : ℕ) → sum_by (size_at images) (chain ++ at ∷ []) ≡ sum_by (size_at images) chain + size_at images at
all_bytes images chain at = omega (arith, sum_by-append (size_at images) chain (at ∷ []), sum_by-cons (size_at images) at [])

-- and is whole where the last slot has the size of all
pub ended : (slot : ℕ) (images : List (List ℕ)) (first : ℕ) (head : Header) (chain : List ℕ) (at size : ℕ) (headers after : List (Option Header)) (h : Header) (grown : List ℕ) (bigger : ℕ)
    → Followed slot images first head chain at size headers → Takes first at head h headers after → grown ≡ chain ++ at ∷ [] → bigger ≡ size + h.payload_size → h.next_slot ≡ negsuc 0 → h.entry_size ≡ bigger
    → IsChainAt slot images first grown bigger
ended slot images first head chain at size headers after h grown bigger f t grows sums ends same =
    let belongs = belongs_at slot images first head chain at size headers h f t.was t.of in
    let new = new_at slot images first head chain at size headers h f t.was in
    let told : h ≡ header_at images at = (f.told at h t.was).1.is in
    let links : (header_at images at).next_slot ≡ negsuc 0 = ap (λ u. u.next_slot) (sym told) ∙ ends in
    let sized : size_at images at ≡ h.payload_size = ap (λ u. u.payload_size) (sym told) in
    let b = f.begins [] in
    let sum : bigger ≡ sum_by (size_at images) (chain ++ at ∷ []) = omega (arith, sums, f.sum, sized, all_bytes images chain at) in
    let last : (header_at images at).entry_size ≡ sum_by (size_at images) (chain ++ at ∷ []) = ap (λ u. u.entry_size) (sym told) ∙ same ∙ sum in
    record {
      is = subst (IsChain slot images first) (sym grows) record {
        behind = b.0;
        begins = b.1;
        belong = All-from_recursion (BelongsTo slot images first) (chain ++ at ∷ []) (push_all (BelongsTo slot images first) chain at f.belong belongs);
        linked = f.linked [] links;
        once = push_once chain at f.once new;
      };
      whole = subst (IsWhole slot images) (sym grows) record {
        full = all_but_last (IsFull slot images) chain at f.full;
        size = of_last (λ s. (header_at images s).entry_size ≡ sum_by (size_at images) (chain ++ at ∷ [])) chain at last;
      };
      sum = sum ∙ ap (sum_by (size_at images)) (sym grows);
    }

-- and is not where it has another
pub other_size : (slot : ℕ) (images : List (List ℕ)) (first : ℕ) (head : Header) (chain : List ℕ) (at size bigger : ℕ) (headers after : List (Option Header)) (h : Header)
    → Followed slot images first head chain at size headers → Takes first at head h headers after → bigger ≡ size + h.payload_size → h.next_slot ≡ negsuc 0 → (h.entry_size ≡ bigger → ⊥)
    → HasNoChain slot images first
other_size slot images first head chain at size bigger headers after h f t sums ends differs whole c full =
    let told : h ≡ header_at images at = (f.told at h t.was).1.is in
    let links : (header_at images at).next_slot ≡ negsuc 0 = ap (λ u. u.next_slot) (sym told) ∙ ends in
    let one = its_end slot images first head chain at size headers f links whole c in
    let here : IsWhole slot images (chain ++ at ∷ []) = subst (IsWhole slot images) one full in
    let last = from_last (λ s. (header_at images s).entry_size ≡ sum_by (size_at images) (chain ++ at ∷ [])) chain at here.size in
    let sized : size_at images at ≡ h.payload_size = ap (λ u. u.payload_size) (sym told) in
    let sum : bigger ≡ sum_by (size_at images) (chain ++ at ∷ []) = omega (arith, sums, f.sum, sized, all_bytes images chain at) in
    differs (ap (λ u. u.entry_size) told ∙ last ∙ sym sum)

-- a slot that goes on is full
pub not_full : (slot : ℕ) (images : List (List ℕ)) (first : ℕ) (head : Header) (chain : List ℕ) (at next size : ℕ) (headers after : List (Option Header)) (h : Header)
    → Followed slot images first head chain at size headers → Takes first at head h headers after → h.next_slot ≡ pos next → (h.payload_size + 40 ≡ slot → ⊥)
    → HasNoChain slot images first
not_full slot images first head chain at next size headers after h f t goes not whole c full =
    let told : h ≡ header_at images at = (f.told at h t.was).1.is in
    let links : (header_at images at).next_slot ≡ pos next = ap (λ u. u.next_slot) (sym told) ∙ goes in
    let rest = f.every whole c in
    let behind = goes_on images at next rest.0 links (links_behind images chain rest.0 at (subst (Links images) rest.1 c.linked)) in
    let all : AllButLast (IsFull slot images) (chain ++ at ∷ next ∷ behind.0) = subst (AllButLast (IsFull slot images)) (rest.1 ∙ ap (λ r. chain ++ at ∷ r) behind.1) full.full in
    not (ap (λ u. u.payload_size + 40) told ∙ not_last (IsFull slot images) chain behind.0 at next all)

-- an entry that is passed over takes nothing
pub passed : (slot : ℕ) (images : List (List ℕ)) (first : ℕ) (headers : List (Option Header)) → AreLeft slot images first headers → AreLeft slot images (first + 1) headers
passed slot images first headers left = record {
  told = left.told;
  all = λ g s from belongs. left.all g s (omega (arith, from)) belongs;
}

kept_when_sane : (slot : ℕ) (images : List (List ℕ)) (s : ℕ) (header : Option Header) → TellsHeader (length images) slot (image_at images s) header → IsSane (header_at images s) (length images) slot → header ≡ Some (header_at images s)
kept_when_sane slot images s None not sane = absurd (not sane)
kept_when_sane slot images s (Some h) is sane = ap Some is.is

-- at first all headers are left
pub all_left : (slot : ℕ) (images : List (List ℕ)) (headers : List (Option Header)) → AreHeaders (length images) slot images headers → AreLeft slot images 0 headers
all_left slot images headers are = record {
  told = λ s h there.
      let inside : s < length images = omega (arith, within headers s h there, are.count) in
      (inside, at_some (IsSane (header_of (image_at images s)) (length images) slot → ⊥) (IsHeaderOf (length images) slot (image_at images s)) there (are.each s inside));
  all = λ f s from belongs. kept_when_sane slot images s (get_or headers s None) (are.each s belongs.sane.within) belongs.sane.sane;
}
