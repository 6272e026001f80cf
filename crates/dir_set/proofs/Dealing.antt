-- The passes of a file are given to the workers, one each, and taken from them again.
use Rattle.std.proofs.Common.{List, Option, Some, [], ap, arith, inl, inr, length, length-append, refl, set, subst, suc, sym, take, unwrap_or, zero, ◌++◌, ◌+◌, ◌<◌, ◌≡◌, ◌≢◌, ◌≤◌, ◌⊎◌, ◌∙◌, ◌∷◌, ℕ}
use Rattle.std.proofs.Math.ListN.{length-set}
use Rattle.std.proofs.Math.Seq.{take-length}
use Rattle.std.proofs.lemmas.List.{ext_get_or, take-append-le}
use Rattle.std.proofs.lemmas.Option.{slice_get-get_or, slice_get_within}
use Rattle.std.specs.List.{SameBelow}
use Rattle.std.specs.Prelude.{slice_get}
use Rattle.store_rule.specs.declared.store.Pass.{Pass}
use Rattle.dir_set.specs.declared.dirs.DirPass.{DirPass}
use Rattle.dir_set.specs.Files.{ArePassesAt}
use Rattle.dir_set.specs.Parts.{Dealt, Gains, Gathered, Loses}
use Rattle.dir_set.proofs.OneFile.{get_set, get_set_other, is_or_not, there_is}

-- an item was put behind a list
module _ {T : Type 0} where
  pub put_before : (xs : List T) (x : T) (d : ℕ) → d < length xs → slice_get (xs ++ x ∷ []) d ≡ slice_get xs d
  put_before [] x d lt = absurd (omega arith)
  put_before (y ∷ xs) x zero lt = refl
  put_before (y ∷ xs) x (suc d) lt = put_before xs x d (omega arith)

  pub put_at : (xs : List T) (x : T) → slice_get (xs ++ x ∷ []) (length xs) ≡ Some x
  put_at [] x = refl
  put_at (y ∷ xs) x = put_at xs x

  pub put_here : (xs : List T) (x : T) (d : ℕ) → d ≡ length xs → slice_get (xs ++ x ∷ []) d ≡ Some x
  put_here xs x d e = ap (λ (n : ℕ). slice_get (xs ++ x ∷ []) n) e ∙ put_at xs x

  pub put_length : (xs : List T) (x : T) → length (xs ++ x ∷ []) ≡ length xs + 1
  put_length xs x = length-append xs (x ∷ [])

  pub one_item : (o : Option T) (x y : T) → o ≡ Some x → o ≡ Some y → x ≡ y
  one_item o x y e f = ap (λ (z : Option T). unwrap_or z x) (sym e ∙ f)

  pub same_lists : (xs ys : List T) → length xs ≡ length ys → ((d : ℕ) → d < length xs → slice_get xs d ≡ slice_get ys d) → xs ≡ ys
  same_lists [] [] many same = refl
  same_lists [] (y ∷ ys) many same = absurd (omega (arith, many))
  same_lists (x ∷ xs) [] many same = absurd (omega (arith, many))
  same_lists (x ∷ xs) (y ∷ ys) many same = ext_get_or x (x ∷ xs) (y ∷ ys) many (λ d lt.
      ap (λ (o : Option T). unwrap_or o x) (sym (slice_get-get_or (x ∷ xs) d x lt) ∙ same d lt ∙ slice_get-get_or (y ∷ ys) d x (omega (arith, many, lt))))

  -- what was written over all items of a list
  pub filled : (new old : List T) (n : ℕ) → length new ≡ n → take n (new ++ old) ≡ new
  filled new old n e = take-append-le n new old (omega arith) ∙ ap (λ (k : ℕ). take k new) (sym e) ∙ take-length new

  -- what stands below a place, read by its items
  pub same_below : (xs ys : List T) (n : ℕ) → (n ≤ length xs) × (n ≤ length ys) → SameBelow xs ys n → (d : ℕ) → d < n → slice_get ys d ≡ slice_get xs d
  same_below [] ys n within same d lt = absurd (let w = within.0 in omega (arith, w, lt))
  same_below (x ∷ xs) ys n within same d lt =
      let u = within.0 in let v = within.1 in
      slice_get-get_or ys d x (omega (arith, v, lt)) ∙ ap Some (same d x lt) ∙ sym (slice_get-get_or (x ∷ xs) d x (omega (arith, u, lt)))

module _ {C : Type 0} where
  -- a file has one list of passes
  pub one_row : (workers : List (DirPass C)) (d : ℕ) (ps qs : List (Pass C)) → ArePassesAt workers d ps → ArePassesAt workers d qs → ps ≡ qs
  one_row workers d ps qs h k = same_lists ps qs (h.many ∙ sym k.many) (λ w lt. let a = there_is workers w (let m = h.many in omega (arith, m, lt)) in h.each w a.0 a.1 ∙ sym (k.each w a.0 a.1))

  -- the workers from this one on have one of these passes more, and those before it are as they were
  pub record Dealing (old now : List (DirPass C)) (all left : List (Pass C)) (n : ℕ) : Type 0 where
    pub many : length now ≡ length old
    pub count : length left ≡ n
    pub within : n ≤ length all
    pub front : (w : ℕ) → w < n → slice_get left w ≡ slice_get all w
    pub below : (w : ℕ) → w < n → slice_get now w ≡ slice_get old w
    pub done : (w : ℕ) (a b : DirPass C) (p : Pass C) → n ≤ w → slice_get old w ≡ Some a → slice_get now w ≡ Some b → slice_get all w ≡ Some p → Gains a b p

  pub dealt_none : (old : List (DirPass C)) (all : List (Pass C)) → length all ≡ length old → Dealing old old all all (length all)
  dealt_none old all many = record {
    many = refl;
    count = refl;
    within = omega arith;
    front = λ w lt. refl;
    below = λ w lt. refl;
    done = λ w a b p le e f h. let lt = slice_get_within all w p h in absurd (omega (arith, le, lt));
  }

  module _ (old now : List (DirPass C)) (all left rest : List (Pass C)) (n k : ℕ) (h : Dealing old now all left n) (p : Pass C) (put : left ≡ rest ++ p ∷ []) (is : k ≡ length rest) where
    one_less : n ≡ k + 1
    one_less = let e = h.count in let f = ap length put in let l = put_length rest p in omega (arith, e, f, l, is)

    its_pass : slice_get all k ≡ Some p
    its_pass = sym (h.front k (let e = one_less in omega (arith, e))) ∙ ap (λ (xs : List (Pass C)). slice_get xs k) put ∙ put_here rest p k is

    -- the last worker that had none has one more
    pub dealt_one : (a b : DirPass C) → slice_get now k ≡ Some a → Gains a b p → Dealing old (set now k b) all rest k
    dealt_one a b at gains = record {
      many = length-set now k b ∙ h.many;
      count = sym is;
      within = let w = h.within in let e = one_less in omega (arith, w, e);
      front = λ w lt. sym (put_before rest p w (let e = is in omega (arith, e, lt))) ∙ ap (λ (xs : List (Pass C)). slice_get xs w) (sym put) ∙ h.front w (let e = one_less in omega (arith, e, lt));
      below = λ w lt. get_set_other now k b w (omega (arith, lt)) ∙ h.below w (let e = one_less in omega (arith, e, lt));
      done = λ w x y q le ex ey eq. pick w x y q le ex ey eq (is_or_not w k);
    }
      where
        pick : (w : ℕ) (x y : DirPass C) (q : Pass C) → k ≤ w → slice_get old w ≡ Some x → slice_get (set now k b) w ≡ Some y → slice_get all w ≡ Some q → ((w ≡ k) ⊎ (w ≢ k)) → Gains x y q
        pick w x y q le ex ey eq (inl same) =
            let xa : x ≡ a = one_item (slice_get old w) x a ex (sym (h.below w (let e = one_less in omega (arith, e, same))) ∙ ap (λ (j : ℕ). slice_get now j) same ∙ at) in
            let yb : y ≡ b = one_item (slice_get (set now k b) w) y b ey (ap (λ (j : ℕ). slice_get (set now k b) j) same ∙ get_set now k b (slice_get_within now k a at)) in
            let qp : q ≡ p = one_item (slice_get all w) q p eq (ap (λ (j : ℕ). slice_get all j) same ∙ its_pass) in
            subst (λ (z : DirPass C). Gains z y q) (sym xa) (subst (λ (z : DirPass C). Gains a z q) (sym yb) (subst (λ (z : Pass C). Gains a b z) (sym qp) gains))
        pick w x y q le ex ey eq (inr ne) = h.done w x y q (let e = one_less in omega (arith, e, le, ne)) ex (sym (get_set_other now k b w ne) ∙ ey) eq

  pub dealt_all : (old now : List (DirPass C)) (all left : List (Pass C)) (n : ℕ) → Dealing old now all left n → n ≡ 0 → Dealt old now all
  dealt_all old now all left n h none = record { many = h.many; each = λ w a b p ea eb ep. h.done w a b p (omega (arith, none)) ea eb ep }

  -- the passes of a file that some workers gave, the first ones; the others are as they were
  pub record Gathering (d : ℕ) (old now : List (DirPass C)) (room : List (Pass C)) (n : ℕ) : Type 0 where
    pub many : length now ≡ length old
    pub taken : length room ≡ n
    pub got : (w : ℕ) (a : DirPass C) → w < n → slice_get old w ≡ Some a → slice_get room w ≡ slice_get a.passes.items d
    pub lost : (w : ℕ) (a b : DirPass C) → w < n → slice_get old w ≡ Some a → slice_get now w ≡ Some b → Loses d a b
    pub still : (w : ℕ) → n ≤ w → slice_get now w ≡ slice_get old w

  pub gathered_none : (d : ℕ) (old : List (DirPass C)) (room : List (Pass C)) → length room ≡ 0 → Gathering d old old room 0
  gathered_none d old room none = record {
    many = refl;
    taken = none;
    got = λ w a lt e. absurd (omega (arith, lt));
    lost = λ w a b lt e f. absurd (omega (arith, lt));
    still = λ w le. refl;
  }

  module _ (d : ℕ) (old now : List (DirPass C)) (room : List (Pass C)) (n : ℕ) (h : Gathering d old now room n) (a b : DirPass C) (p : Pass C)
      (at : slice_get now n ≡ Some a) (its : slice_get a.passes.items d ≡ Some p) (loses : Loses d a b) where
    was : slice_get old n ≡ Some a
    was = sym (h.still n (omega arith)) ∙ at

    pub gathered_one : Gathering d old (set now n b) (room ++ p ∷ []) (n + 1)
    gathered_one = record {
      many = length-set now n b ∙ h.many;
      taken = put_length room p ∙ ap (λ (k : ℕ). k + 1) h.taken;
      got = λ w x lt e. got w x lt e (is_or_not w n);
      lost = λ w x y lt e f. lost w x y lt e f (is_or_not w n);
      still = λ w le. get_set_other now n b w (omega (arith, le)) ∙ h.still w (omega (arith, le));
    }
      where
        got : (w : ℕ) (x : DirPass C) → w < n + 1 → slice_get old w ≡ Some x → ((w ≡ n) ⊎ (w ≢ n)) → slice_get (room ++ p ∷ []) w ≡ slice_get x.passes.items d
        got w x lt e (inl same) =
            let xa : x ≡ a = one_item (slice_get old w) x a e (ap (λ (j : ℕ). slice_get old j) same ∙ was) in
            put_here room p w (same ∙ sym h.taken) ∙ sym its ∙ ap (λ (z : DirPass C). slice_get z.passes.items d) (sym xa)
        got w x lt e (inr ne) = put_before room p w (let t = h.taken in omega (arith, t, lt, ne)) ∙ h.got w x (omega (arith, lt, ne)) e

        lost : (w : ℕ) (x y : DirPass C) → w < n + 1 → slice_get old w ≡ Some x → slice_get (set now n b) w ≡ Some y → ((w ≡ n) ⊎ (w ≢ n)) → Loses d x y
        lost w x y lt e f (inl same) =
            let xa : x ≡ a = one_item (slice_get old w) x a e (ap (λ (j : ℕ). slice_get old j) same ∙ was) in
            let yb : y ≡ b = one_item (slice_get (set now n b) w) y b f (ap (λ (j : ℕ). slice_get (set now n b) j) same ∙ get_set now n b (slice_get_within now n a at)) in
            subst (λ (z : DirPass C). Loses d z y) (sym xa) (subst (λ (z : DirPass C). Loses d a z) (sym yb) loses)
        lost w x y lt e f (inr ne) = h.lost w x y (omega (arith, lt, ne)) e (sym (get_set_other now n b w ne) ∙ f)

  module _ (d : ℕ) (old now : List (DirPass C)) (room : List (Pass C)) (n : ℕ) (h : Gathering d old now room n) (all : length now ≤ n) (within : n ≤ length now) where
    pub gathered_row : ArePassesAt old d room
    gathered_row = record {
      many = let t = h.taken in let m = h.many in omega (arith, t, m, all, within);
      each = λ w a e. h.got w a (let lt = slice_get_within old w a e in let m = h.many in omega (arith, lt, m, all)) e;
    }

    pub gathered_all : Gathered d old now
    gathered_all = record {
      many = h.many;
      each = λ w a b e f. h.lost w a b (let lt = slice_get_within old w a e in let m = h.many in omega (arith, lt, m, all)) e f;
    }
