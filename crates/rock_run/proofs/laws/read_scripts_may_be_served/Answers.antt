use Rattle.rock_run.proofs.laws.read_scripts_may_be_served.Goals as goal

pub returns : goal.returns
returns c workers text lines are = record {
  within = λ line among. c.scripts_may_be_run.ensures.workers workers _ lines line are among;
  found = λ line among. (c.read_lines_may_be_asked.ensures workers _ lines line are among).0;
  asked = λ line among. (c.read_lines_may_be_asked.ensures workers _ lines line are among).1;
  marks = c.scripts_may_be_run.ensures.marks workers _ lines are;
}
