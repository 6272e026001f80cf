-- Versions that rise may stand for those that are drawn in turn.
use Rattle.std.proofs.Common.{◌≡◌, ◌∙◌, ℕ, zero, suc, ◌+◌, ◌-◌, ◌<◌, ◌≤◌, List, [], ◌∷◌, refl, sym, ap, arith, Bool, true, false, cond}
use Rattle.std.specs.Prelude.{◌==◌, nat_le}
use Rattle.std.proofs.lemmas.Bool.Decides.{nat_tests}
use Rattle.plain_laws.specs.Begun.{RiseAbove}
use Rattle.plain_laws.specs.Renaming.{IsRenaming}
use Rattle.plain_laws.proofs.Agreeing.{KeepsNone}
use Rattle.plain_laws.proofs.Parted.{StandFor}

-- the version at this place of the list, and those behind the list where it ends
pick : (k last : ℕ) → List ℕ → ℕ
pick k last [] = last + 1 + k
pick zero last (d ∷ ds) = d
pick (suc k) last (d ∷ ds) = pick k d ds

pick_above : (k last : ℕ) (ds : List ℕ) → RiseAbove last ds → last < pick k last ds
unfolding pick
pick_above k last [] r = omega arith
pick_above zero last (d ∷ ds) r = r.0
pick_above (suc k) last (d ∷ ds) r =
    let first : last < d = r.0 in
    let rest : d < pick k d ds = pick_above k d ds r.1 in
    let both : last < pick k d ds = omega arith in both

pick_rises : (k m last : ℕ) (ds : List ℕ) → RiseAbove last ds → k < m → pick k last ds < pick m last ds
unfolding pick
pick_rises k m last [] r h = omega arith
pick_rises zero zero last (d ∷ ds) r h = absurd (omega arith)
pick_rises zero (suc m) last (d ∷ ds) r h = pick_above m d ds r.1
pick_rises (suc k) zero last (d ∷ ds) r h = absurd (omega arith)
pick_rises (suc k) (suc m) last (d ∷ ds) r h = pick_rises k m d ds r.1 (omega arith)

stands_by : (rename : ℕ → ℕ) (c last : ℕ) (ds : List ℕ) → ((k : ℕ) → rename (c + 1 + k) ≡ pick k last ds) → StandFor rename c ds
unfolding pick
stands_by rename c last [] h = tt
stands_by rename c last (d ∷ ds) h = (
  ap rename (let e : c + 1 ≡ c + 1 + 0 = omega arith in e) ∙ h 0,
  stands_by rename (c + 1) d ds (λ k. ap rename (let e : c + 1 + 1 + k ≡ c + 1 + suc k = omega arith in e) ∙ h (suc k)),
)

-- up to the counter each stands for itself, and behind it they are drawn
pub standing : ℕ → List ℕ → ℕ → ℕ
standing c ds v = cond (nat_le v c) v (pick (v - (c + 1)) c ds)

stands_low : (c : ℕ) (ds : List ℕ) (v : ℕ) → v ≤ c → standing c ds v ≡ v
unfolding standing
stands_low c ds v h = let t : nat_le v c ≡ true = grind (arith, nat_tests) in ap (λ (b : Bool). cond b v (pick (v - (c + 1)) c ds)) t

stands_high : (c : ℕ) (ds : List ℕ) (v : ℕ) → c < v → standing c ds v ≡ pick (v - (c + 1)) c ds
unfolding standing
stands_high c ds v h = let t : nat_le v c ≡ false = grind (arith, nat_tests) in ap (λ (b : Bool). cond b v (pick (v - (c + 1)) c ds)) t

stands_rising : (c : ℕ) (ds : List ℕ) (v w : ℕ) → RiseAbove c ds → v < w → (a b : Bool) → nat_le v c ≡ a → nat_le w c ≡ b → standing c ds v < standing c ds w
stands_rising c ds v w r h a true ha hb =
    let low : w ≤ c = grind (arith, nat_tests) in
    let first : standing c ds v ≡ v = stands_low c ds v (omega arith) in
    let second : standing c ds w ≡ w = stands_low c ds w low in
    omega arith
stands_rising c ds v w r h true false ha hb =
    let low : v ≤ c = grind (arith, nat_tests) in
    let high : c < w = grind (arith, nat_tests) in
    let first : standing c ds v ≡ v = stands_low c ds v low in
    let second : standing c ds w ≡ pick (w - (c + 1)) c ds = stands_high c ds w high in
    let above : c < pick (w - (c + 1)) c ds = pick_above (w - (c + 1)) c ds r in
    omega arith
stands_rising c ds v w r h false false ha hb =
    let low : c < v = grind (arith, nat_tests) in
    let first : standing c ds v ≡ pick (v - (c + 1)) c ds = stands_high c ds v low in
    let second : standing c ds w ≡ pick (w - (c + 1)) c ds = stands_high c ds w (omega arith) in
    let rises : pick (v - (c + 1)) c ds < pick (w - (c + 1)) c ds = pick_rises (v - (c + 1)) (w - (c + 1)) c ds r (omega arith) in
    omega arith

pub standing_is : (c : ℕ) (ds : List ℕ) → RiseAbove c ds → IsRenaming c (standing c ds)
standing_is c ds r = record {
  keeps = λ v h. stands_low c ds v h;
  rises = λ v w h. stands_rising c ds v w r h (nat_le v c) (nat_le w c) refl refl;
}

pub standing_stands : (c : ℕ) (ds : List ℕ) → StandFor (standing c ds) c ds
standing_stands c ds = stands_by (standing c ds) c c ds
    (λ k. stands_high c ds (c + 1 + k) (omega arith) ∙ ap (λ (n : ℕ). pick n c ds) (let e : c + 1 + k - (c + 1) ≡ k = omega arith in e))

pub none_kept : (c : ℕ) (rename : ℕ → ℕ) → IsRenaming c rename → KeepsNone rename
none_kept c rename h zero = ap (λ (n : ℕ). n == 0) (h.keeps 0 (omega arith))
none_kept c rename h (suc v) =
    let above : rename 0 < rename (suc v) = h.rises 0 (suc v) (omega arith) in
    let one : (rename (suc v) == 0) ≡ false = grind (arith, nat_tests) in
    let two : (suc v == 0) ≡ false = grind (arith, nat_tests) in
    one ∙ sym two
