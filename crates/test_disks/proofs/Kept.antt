-- What is known of files, and of cells that are out, still holds where they are as they were.
use Rattle.std.proofs.Common.{◌≡◌, ◌++◌, ℕ, List, length, take, arith, ap, sym, ◌∙◌, subst, Some}
use Rattle.std.specs.FinMap.{get, insert}
use Rattle.std.proofs.lemmas.List.{take-append-le}
use Rattle.std.proofs.Math.Seq.{take-length}
use Rattle.rock_disk.specs.Cell.{CellState}
use Rattle.rock_disk.specs.File.{Files, IsThere}
use Rattle.rock_disk.specs.File.File.{Away, Home}
use Rattle.rock_disk.specs.Opened.{IsOut}

pub there_still : {before after : Files} (name : List ℕ) → after ≡ before → IsThere before name → IsThere after name
there_still name same there = (there.0, ap (λ m. get m name) same ∙ there.1)

pub out_still : {before after : Files} {name : List ℕ} {header : CellState} {cells now : List CellState} → after ≡ before → now ≡ cells → IsOut before name header cells → IsOut after name header now
out_still {before = before} {name = name} {header = header} {now = now} files same out =
    subst (λ f. IsOut f name header now) (sym files) (subst (λ cs. IsOut before name header cs) (sym same) out)

-- what giving cells back makes of the files, if these are still as opening left them
pub back_still : (opened now final : Files) (name : List ℕ) (header : CellState) (cells : List CellState) → now ≡ opened
    → ((slots slot : ℕ) (rest : List ℕ) → get now name ≡ Some (Away slots slot rest) → final ≡ insert now name (Home header cells rest))
    → (slots slot : ℕ) (rest : List ℕ) → get opened name ≡ Some (Away slots slot rest) → final ≡ insert opened name (Home header cells rest)
back_still opened now final name header cells same back slots slot rest away =
    back slots slot rest (ap (λ (f : Files). get f name) same ∙ away) ∙ ap (λ (f : Files). insert f name (Home header cells rest)) same

-- a slice that a call has filled is the whole of the buffer
pub filled : {A : Type 0} (new old : List A) (n : ℕ) → length new ≡ n → take n (new ++ old) ≡ new
filled new old n e = take-append-le n new old (omega arith) ∙ (ap (λ k. take k new) (sym e) ∙ take-length new)
