-- A draft, one round further.
use Rattle.std.proofs.Common.{◌≡◌, ℕ, ◌+◌, ◌*◌, ◌<◌, ◌≤◌, List, [], ◌∷◌, ◌++◌, take, get_or, length, arith, sym, ap, ◌∙◌, append_assoc}
use Rattle.std.proofs.lemmas.List.{take_more}
use Rattle.workload.specs.declared.shares.Share.{Share}
use Rattle.workload.specs.declared.script.Draft.{Draft}
use Rattle.workload.specs.Numbers.{number_at}
use Rattle.workload.specs.Shares.{shares_of}
use Rattle.workload.specs.Script.{turns_of, lines_of, IsDraft}
use Rattle.workload.proofs.Turns.{turns_more, length_turns, few_shares, room_for_round}
use Rattle.workload.proofs.Drafts.{length_lines, draft_of_same}

pub no_draft : (seed workers : ℕ) (draft : Draft) → draft.last ≡ seed → draft.lines.items ≡ [] → IsDraft seed draft (turns_of workers 0)
unfolding turns_of number_at lines_of
no_draft seed workers draft l m = record { last = l; lines = m }

pub turns_taken : (turns shares : List Share) (i : ℕ) (share : Share) → i < length shares → share ≡ get_or shares i share
    → (turns ++ take i shares) ++ share ∷ [] ≡ turns ++ take (i + 1) shares
turns_taken turns shares i share h e =
    append_assoc turns (take i shares) (share ∷ [])
    ∙ ap (λ (ys : List Share). turns ++ ys) (ap (λ (s : Share). take i shares ++ s ∷ []) e ∙ sym (take_more shares i share h))

pub round_more : (seed workers round : ℕ) (draft : Draft) (shares : List Share) → shares ≡ shares_of workers → IsDraft seed draft (turns_of workers round ++ shares)
    → IsDraft seed draft (turns_of workers (round + 1))
round_more seed workers round draft shares e is =
    draft_of_same seed draft (turns_of workers round ++ shares) (turns_of workers (round + 1))
    (ap (λ (s : List Share). turns_of workers round ++ s) e ∙ sym (turns_more workers round)) is

pub round_fits : (seed workers count round : ℕ) (draft : Draft) (shares : List Share) → workers ≤ 32 → count ≤ 10000 → round < count → shares ≡ shares_of workers
    → IsDraft seed draft (turns_of workers round) → length draft.lines.items + length shares ≤ 320000
round_fits seed workers count round draft shares few short within e is =
    let a : length draft.lines.items ≡ round * length (shares_of workers) = ap length is.lines ∙ length_lines seed (turns_of workers round) ∙ length_turns workers round in
    let b : length shares ≡ length (shares_of workers) = ap length e in
    let f : length (shares_of workers) ≤ 32 = omega (arith, few_shares workers) in
    let g : round < 10000 = omega arith in
    let r = room_for_round round (length (shares_of workers)) g f in
    omega (arith, a, b, r)
