use Rattle.std.proofs.Common.{◌≡◌, ◌+◌, length, take, ◌∙◌, rules, arith}
use Rattle.std.proofs.lemmas.Grind.{common_steps}
use Rattle.swap_meta.proofs.Written.{same_later, written_spelled}
use Rattle.swap_meta.proofs.writing.write_meta.Goals as goal

pub returns-clause-written : goal.returns-clause-written
returns-clause-written c = grind (arith, common_steps)

pub returns-clause-spelled : goal.returns-clause-spelled
returns-clause-spelled c =
    let size : c.put.result ≡ 32 + length c.args.url.now = search rules in
    let sixteen : length c.args.key.now ≡ 16 = search rules in
    written_spelled (take c.put.result c.put.new.out) c.args.key.now c.args.url.now c.put.result sixteen c.requires.fits size (returns-clause-written c)

pub returns-clause-behind : goal.returns-clause-behind
returns-clause-behind c =
    let end = c.put.result in
    c.put.ensures.behind
    ∙ same_later c.put-at-2.new.out c.put_head-at-3.new.out c.put-at-2.result end (omega arith) c.put-at-2.ensures.behind
    ∙ same_later c.put_head-at-3.new.out c.put-at.new.out c.put_head-at-3.result end (omega arith) c.put_head-at-3.ensures.behind
    ∙ same_later c.put-at.new.out c.put_head-at-2.new.out c.put-at.result end (omega arith) c.put-at.ensures.behind
    ∙ same_later c.put_head-at-2.new.out c.put_head-at.new.out c.put_head-at-2.result end (omega arith) c.put_head-at-2.ensures.behind
    ∙ same_later c.put_head-at.new.out c.args.out.now c.put_head-at.result end (omega arith) c.put_head-at.ensures.behind
