use Rattle.tracing.proofs.WalkLaws.{walking}
use borrow.Author.Rules.{rules}
use Rattle.tracing.proofs.walk.+put_trail.Goals as goal

pub put_trail-requires : goal.put_trail-requires
put_trail-requires t c = (search walking, (search rules, (search walking, search walking)))

pub returns-in-None : goal.returns-in-None
returns-in-None t c = search (rules, walking)

pub returns-in-Some : goal.returns-in-Some
returns-in-Some t c = let given = c.requires in search walking
