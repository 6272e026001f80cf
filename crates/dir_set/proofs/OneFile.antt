-- A call on the pass of one file, of all the passes of a worker.
use Rattle.std.proofs.Common.{Bool, List, Option, Some, ap, arith, get_or, inl, inr, length, refl, replicate, set, subst, sym, suc, unwrap_or, zero, ◌<◌, ◌≡◌, ◌≢◌, ◌≤◌, ◌⊎◌, ◌∙◌, ◌∷◌, [], ℕ}
use Rattle.std.proofs.Math.ListN.{length-set}
use Rattle.std.proofs.lemmas.Bool.{cases_lt}
use Rattle.std.proofs.lemmas.Option.{slice_get_read, slice_get_within}
use Rattle.std.specs.Prelude.{slice_get, slice_index}
use Rattle.std.specs.Vec.{with_item}
use Rattle.rock_disk.specs.Cell.{CellState}
use Rattle.store_rule.specs.declared.store.Pass.{Pass}
use Rattle.store_rule.specs.declared.store.Store.{Store}
use Rattle.store_rule.specs.Ground.{Offers}
use Rattle.store_rule.specs.Passes.{IsOf}
use Rattle.dir_set.specs.declared.dirs.DirPass.{DirPass}
use Rattle.dir_set.specs.declared.dirs.Dirs.{Dirs}
use Rattle.dir_set.specs.Dirs.{AtDir, AtItem, IsDirPass, OnlyDir, OnlyItem, dir_count}

from_both : (m n : ℕ) → (m < n) ⊎ (n ≤ m) → (n < m) ⊎ (m ≤ n) → (m ≡ n) ⊎ (m ≢ n)
from_both m n (inl lt) r = inr (omega arith)
from_both m n (inr le) (inl lt) = inr (omega arith)
from_both m n (inr le) (inr ge) = inl (omega arith)

pub is_or_not : (m n : ℕ) → (m ≡ n) ⊎ (m ≢ n)
is_or_not m n = from_both m n (cases_lt m n) (cases_lt n m)

pub get_set : {T : Type 0} (xs : List T) (d : ℕ) (x : T) → d < length xs → slice_get (set xs d x) d ≡ Some x
get_set [] d x lt = absurd (omega arith)
get_set (y ∷ xs) zero x lt = refl
get_set (y ∷ xs) (suc d) x lt = get_set xs d x (omega arith)

pub get_set_other : {T : Type 0} (xs : List T) (d : ℕ) (x : T) (j : ℕ) → j ≢ d → slice_get (set xs d x) j ≡ slice_get xs j
get_set_other [] d x j ne = refl
get_set_other (y ∷ xs) zero x zero ne = absurd (ne refl)
get_set_other (y ∷ xs) zero x (suc j) ne = refl
get_set_other (y ∷ xs) (suc d) x zero ne = refl
get_set_other (y ∷ xs) (suc d) x (suc j) ne = get_set_other xs d x j (λ e. ne (ap suc e))

pub there_is : {T : Type 0} (xs : List T) (d : ℕ) → d < length xs → (x : T) × (slice_get xs d ≡ Some x)
there_is [] d lt = absurd (omega arith)
there_is (y ∷ xs) zero lt = (y, refl)
there_is (y ∷ xs) (suc d) lt = there_is xs d (omega arith)

pub same_some : {T : Type 0} (o : Option T) (x y : T) → o ≡ Some x → o ≡ Some y → x ≡ y
same_some o x y e f = ap (λ (z : Option _). unwrap_or z x) (sym e ∙ f)

-- a tab that was at no file yet is at the first one
pub first_of_all : (n : ℕ) → 0 < n → (k t : ℕ) → get_or (replicate k 0) t 0 < n
first_of_all n some zero t = some
first_of_all n some (suc k) zero = some
first_of_all n some (suc k) (suc t) = first_of_all n some k t

-- an element of a list was changed
pub record Puts {T : Type 0} (old new : List T) (d : ℕ) (x y : T) : Type 0 where
  pub was : slice_get old d ≡ Some x
  pub moved : new ≡ set old d y

module _ {T : Type 0} {old new : List T} {d : ℕ} {x y : T} (h : Puts old new d x y) where
  now_there : slice_get new d ≡ Some y
  now_there = ap (λ (xs : List T). slice_get xs d) h.moved ∙ get_set old d y (slice_get_within old d x h.was)

  pub at_item : (R : T → T → Type 0) → R x y → AtItem old new d R
  at_item R r x2 y2 e f = subst (λ (v : T). R v y2) (same_some (slice_get old d) x x2 h.was e) (subst (λ (w : T). R x w) (same_some (slice_get new d) y y2 now_there f) r)

  pub only_item : OnlyItem d old new
  only_item = record {
    many = ap (λ (xs : List T). length xs) h.moved ∙ length-set old d y;
    others = λ j ne. ap (λ (xs : List T). slice_get xs j) h.moved ∙ get_set_other old d y j ne;
  }

pub puts : {T : Type 0} (old : List T) (d k : ℕ) (x y : T) → d ≡ k → d < length old → x ≡ get_or old d x → Puts old (set old d y) k x y
puts old d k x y e lt is = record {
  was = subst (λ (n : ℕ). slice_get old n ≡ Some x) e (slice_get_read old (length old) d x refl lt is);
  moved = ap (λ (n : ℕ). set old n y) e;
}

-- the pass of this file was changed, and nothing else
pub record Hits {C O : Type 0} (dirs : Dirs C O) (a b : DirPass C) (d : ℕ) (s : Store C O) (p q : Pass C) : Type 0 where
  pub store : slice_get dirs.stores.items d ≡ Some s
  pub pass : Puts a.passes.items b.passes.items d p q
  pub hand : b.hand ≡ a.hand
  pub tabs : b.tab_dirs ≡ a.tab_dirs

module _ {C O : Type 0} {dirs : Dirs C O} {a b : DirPass C} {d : ℕ} {s : Store C O} {p q : Pass C} (h : Hits dirs a b d s p q) where
  pub at_dir : (R : Store C O → (p q : Pass C) → Type 0) → R s p q → AtDir dirs a b d R
  at_dir R r s2 p2 q2 es ep eq = subst (λ (x : Store C O). R x p2 q2) (same_some (slice_get dirs.stores.items d) s s2 h.store es)
      (at_item h.pass (R s) r p2 q2 ep eq)

  pub only_dir : OnlyDir d a b
  only_dir = let o = only_item h.pass in record {
    moves = record { many = o.many; hand = h.hand; tabs = h.tabs };
    others = o.others;
  }

abbrev pub with_pass : {C : Type 0} → DirPass C → ℕ → Pass C → DirPass C
with_pass a d q = record { passes = with_item a.passes d q; hand = a.hand; tab_dirs = a.tab_dirs }

module _ {C O : Type 0} (tells : Bool) (state : C → CellState) (offers : O → Offers) (dirs : Dirs C O) (a : DirPass C) (own : IsDirPass tells state offers dirs a) where
  -- the file of number k is the one that the code names by d
  pub hits : (d k : ℕ) (s : Store C O) (p q : Pass C) → d ≡ k → d < dir_count dirs → s ≡ get_or dirs.stores.items d s → p ≡ get_or a.passes.items d p → Hits dirs a (with_pass a d q) k s p q
  hits d k s p q e lt si pi = record {
    store = subst (λ (n : ℕ). slice_get dirs.stores.items n ≡ Some s) e (slice_get_read dirs.stores.items (dir_count dirs) d s refl lt si);
    pass = puts a.passes.items d k p q e (let m = own.many in omega arith) pi;
    hand = refl;
    tabs = refl;
  }

  -- a pass of each file stays one where only one of them changed, and that one is of its store still
  pub only_own : (b : DirPass C) (d : ℕ) → OnlyDir d a b → ((s : Store C O) (q : Pass C) → slice_get dirs.stores.items d ≡ Some s → slice_get b.passes.items d ≡ Some q → IsOf tells state offers s q) → IsDirPass tells state offers dirs b
  only_own b d o at = record {
    many = o.moves.many ∙ own.many;
    own = λ j s q es eq. each j s q es eq (is_or_not j d);
    hand = subst (λ (n : ℕ). n < dir_count dirs) (sym o.moves.hand) own.hand;
    tabs = λ t lt. subst (λ (xs : List ℕ). slice_index xs t < dir_count dirs) (sym o.moves.tabs) (own.tabs t lt);
  }
    where
      each : (j : ℕ) (s : Store C O) (q : Pass C) → slice_get dirs.stores.items j ≡ Some s → slice_get b.passes.items j ≡ Some q → ((j ≡ d) ⊎ (j ≢ d)) → IsOf tells state offers s q
      each j s q es eq (inl e) = at s q (ap (λ (n : ℕ). slice_get dirs.stores.items n) (sym e) ∙ es) (ap (λ (n : ℕ). slice_get b.passes.items n) (sym e) ∙ eq)
      each j s q es eq (inr ne) = own.own j s q es (sym (o.others j ne) ∙ eq)

  pub hits_own : (b : DirPass C) (d : ℕ) (s : Store C O) (p q : Pass C) → Hits dirs a b d s p q → IsOf tells state offers s q → IsDirPass tells state offers dirs b
  hits_own b d s p q h of = only_own b d (only_dir h) (λ s2 q2 es eq. at_dir h (λ x y z. IsOf tells state offers x z) of s2 p q2 es h.pass.was eq)
