use Rattle.std.proofs.Common.{rules, ◌≡◌, ℕ, List, [], ◌∷◌, subst}
use Rattle.link_word.specs.declared.link.Link.TheVariants.{Last, NotWritten}
use Rattle.core_model.specs.Chains.{link_to}
use Rattle.named_rebuild.specs.Entries.{IsPieceAt}
use Rattle.named_rebuild.proofs.Walking.{at_first, one_more, ended, unwritten}
use Rattle.named_rebuild.proofs.entry.pieces_from.Goals as goal

written : (tail : List ℕ) → link_to tail Last ≡ NotWritten → ⊥
written [] e = cc
written (s ∷ tail) e = cc

pub pieces-init : goal.pieces-init
pieces-init c = at_first c.args.contents.now c.args.head.now c.args.first c.new-chain.result.items c.new-chain.ensures.items

pub returns-in-Last : goal.returns-in-Last
returns-in-Last c = ended c.args.contents.now c.args.head.now c.args.first c.pieces.chain.items c.push.new.self.items c.pieces.at c.pieces.place c.pieces.invariant c.in_ok-push.ensures.items
    (subst (IsPieceAt c.args.contents.now c.args.head.now c.pieces.place c.pieces.at) c.in-Last.is c.in-Some.ensures)

pub returns-in-NotWritten : goal.returns-in-NotWritten
returns-in-NotWritten c = unwritten c.args.contents.now c.args.head.now c.args.first c.pieces.chain.items c.pieces.at c.pieces.place NotWritten c.pieces.invariant
    (subst (IsPieceAt c.args.contents.now c.args.head.now c.pieces.place c.pieces.at) c.in-NotWritten.is c.in-Some.ensures) written

pub pieces-preserved : goal.pieces-preserved
pieces-preserved c = one_more c.args.contents.now c.args.head.now c.args.first c.pieces.chain.items c.push.new.self.items c.pieces.at c.in-Next.slot c.pieces.place c.pieces.invariant (search rules) c.in_ok-push.ensures.items
    (subst (IsPieceAt c.args.contents.now c.args.head.now c.pieces.place c.pieces.at) c.in-Next.is c.in-Some.ensures)
