-- The files of a new cache.
use Rattle.std.proofs.Common.{Bool, List, Option, Some, [], ap, arith, inl, inr, length, length-append, refl, subst, suc, sym, unwrap_or, zero, ◌++◌, ◌<◌, ◌≡◌, ◌≤◌, ◌⊎◌, ◌∙◌, ◌∷◌, ℕ}
use Rattle.std.proofs.lemmas.Bool.{cases_lt}
use Rattle.std.proofs.lemmas.List.Elements.{All-pop}
use Rattle.std.proofs.lemmas.Option.{slice_get_within}
use Rattle.std.specs.Global.{Vec}
use Rattle.std.specs.Prelude.{All, slice_get}
use Rattle.core_model.specs.Opening.{new_view}
use Rattle.core_model.specs.Tabs.{inner, is_free, tab_at}
use Rattle.core_model.specs.declared.tab.Tab.TheVariants.{Free}
use Rattle.core_model.specs.declared.view.View.{View}
use Rattle.rock_disk.specs.Cell.{CellState}
use Rattle.store_rule.specs.declared.store.Pass.{Pass}
use Rattle.store_rule.specs.declared.store.Store.{Store}
use Rattle.store_rule.specs.Ground.{Offers}
use Rattle.store_rule.specs.Passes.{IsNewOf, basis, view}
use Rattle.dir_set.specs.declared.dirs.DirPass.{DirPass}
use Rattle.dir_set.specs.declared.dirs.Dirs.{Dirs}
use Rattle.dir_set.specs.Dirs.{IsDirPass}
use Rattle.dir_set.proofs.OneFile.{there_is}
use Rattle.test_dirs.specs.Offered.{AreFiles, IsFile, IsReady}

put_before : {T : Type 0} (xs : List T) (x : T) (d : ℕ) → d < length xs → slice_get (xs ++ x ∷ []) d ≡ slice_get xs d
put_before [] x d lt = absurd (omega arith)
put_before (y ∷ xs) x zero lt = refl
put_before (y ∷ xs) x (suc d) lt = put_before xs x d (omega arith)

put_at : {T : Type 0} (xs : List T) (x : T) → slice_get (xs ++ x ∷ []) (length xs) ≡ Some x
put_at [] x = refl
put_at (y ∷ xs) x = put_at xs x

-- an item of a list with one more is one of the list, or the new one
pub put_cases : {T : Type 0} (xs zs : List T) (x : T) (d : ℕ) (z : T) → zs ≡ xs ++ x ∷ [] → slice_get zs d ≡ Some z → (d < length xs) ⊎ (length xs ≤ d) → ((d < length xs) × (slice_get xs d ≡ Some z)) ⊎ ((length xs ≤ d) × (z ≡ x))
put_cases xs zs x d z put has (inl lt) = inl (lt, sym (put_before xs x d lt) ∙ ap (λ (l : List _). slice_get l d) (sym put) ∙ has)
put_cases xs zs x d z put has (inr ge) =
    let within = slice_get_within zs d z has in
    let n = ap length put ∙ length-append xs (x ∷ []) in
    let last : d ≡ length xs = omega (arith, within, n) in
    let got : Some z ≡ Some x = sym has ∙ ap (λ (l : List _). slice_get l d) put ∙ ap (λ (k : ℕ). slice_get (xs ++ x ∷ []) k) last ∙ put_at xs x in
    inr (ge, ap (λ (o : Option _). unwrap_or o z) got)

module _ {C O : Type 0} (tells : Bool) (state : C → CellState) (offers : O → Offers) (t : ℕ) (offered : Offers) where
  pub new_file : (s : Store C O) (p : Pass C) (old new : List (Pass C)) → tab_at (new_view (basis tells state offers s).setting (view p).pass) t ≡ Free → All (IsNewOf tells state offers s) old → old ≡ new ++ p ∷ [] → (basis tells state offers s).slot ≡ 512 → (basis tells state offers s).offers ≡ offered → IsFile tells state offers t offered s p
  new_file s p old new free all put size is = let h = (All-pop (IsNewOf tells state offers s) old new (Some p) put all).1 in record {
    own = h.own;
    idle = record {
      free = ap (λ (v : View (List ℕ)). tab_at v t) h.fresh ∙ free;
      inner_free = ap (λ (v : View (List ℕ)). is_free (tab_at v inner)) h.fresh;
      offers_are = is;
    };
    size = size;
  }

  pub put_files : (stores stores2 : List (Store C O)) (passes passes2 : List (Pass C)) (s : Store C O) (p : Pass C) → AreFiles tells state offers t offered stores passes → IsFile tells state offers t offered s p → stores2 ≡ stores ++ s ∷ [] → passes2 ≡ passes ++ p ∷ [] → AreFiles tells state offers t offered stores2 passes2
  put_files stores stores2 passes passes2 s p had file put put2 = record {
    many = let m = had.many in let a = ap length put ∙ length-append stores (s ∷ []) in let b = ap length put2 ∙ length-append passes (p ∷ []) in omega (arith, a, b, m);
    each = λ d x y ex ey. pick d x y (put_cases stores stores2 s d x put ex (cases_lt d (length stores))) (put_cases passes passes2 p d y put2 ey (cases_lt d (length passes)));
  }
    where
      pick : (d : ℕ) (x : Store C O) (y : Pass C) → ((d < length stores) × (slice_get stores d ≡ Some x)) ⊎ ((length stores ≤ d) × (x ≡ s)) → ((d < length passes) × (slice_get passes d ≡ Some y)) ⊎ ((length passes ≤ d) × (y ≡ p)) → IsFile tells state offers t offered x y
      pick d x y (inl a) (inl b) = had.each d x y a.1 b.1
      pick d x y (inl a) (inr b) = let m = had.many in let u = a.0 in let v = b.0 in absurd (omega (arith, m, u, v))
      pick d x y (inr a) (inl b) = let m = had.many in let u = a.0 in let v = b.0 in absurd (omega (arith, m, u, v))
      pick d x y (inr a) (inr b) = subst (λ (z : Store C O). IsFile tells state offers t offered z y) (sym a.1) (subst (λ (z : Pass C). IsFile tells state offers t offered s z) (sym b.1) file)

  pub cache_ready : (stores : Vec (Store C O)) (passes : Vec (Pass C)) (dirs : Dirs C O) (a : DirPass C) → dirs.stores ≡ stores → a.passes ≡ passes → AreFiles tells state offers t offered stores.items passes.items → IsDirPass tells state offers dirs a → IsReady tells state offers t offered dirs a
  cache_ready stores passes dirs a are are2 files own = record {
    own = own;
    sizes = λ d s es.
        let lt = slice_get_within dirs.stores.items d s es in
        let m = own.many in
        let p = there_is a.passes.items d (omega (arith, m, lt)) in
        (at d s p.0 es p.1).size;
    idle = λ d s p es ep. (at d s p es ep).idle;
  }
    where
      at : (d : ℕ) (s : Store C O) (p : Pass C) → slice_get dirs.stores.items d ≡ Some s → slice_get a.passes.items d ≡ Some p → IsFile tells state offers t offered s p
      at d s p es ep = files.each d s p (ap (λ (v : Vec (Store C O)). slice_get v.items d) (sym are) ∙ es) (ap (λ (v : Vec (Pass C)). slice_get v.items d) (sym are2) ∙ ep)
