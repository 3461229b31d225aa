-- What is written of the joiner's outcome (joint_outputs).
use Rattle.joining.proofs.TextLaws.{joint_outputs}
use borrow.Author.Rules.{rules}
use Rattle.joining.proofs.text.put_joint.Goals as goal

pub returns : goal.returns
returns c = search (rules, joint_outputs)
