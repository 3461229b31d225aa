-- The judge's answers by document 01's numbers: what each case of a verdict says.
use Rattle.routes.specs.declared.Route.{Route}
use Rattle.lists.specs.Answer.{Answer, given}
use Rattle.networks.specs.Judge.{Verdict as Judged, pass, found}
use Rattle.judging.specs.declared.Verdict.{Verdict}
use Rattle.judging.specs.declared.Verdict.TheVariants.{Pass, NotDue, PromiseBroken, DemandUnmet, Refused}
use Rattle.layout.specs.Refusals.{refusing}

-- 31 with the due route, 32 with the promise, 33 with the listed route; each with the node and the judged count
abbrev pub answer_of : Verdict → Answer (Judged Route)
answer_of (Pass count) = given (pass count)
answer_of (NotDue f) = given (found 31 f.node f.route f.count)
answer_of (PromiseBroken f) = given (found 32 f.node f.route f.count)
answer_of (DemandUnmet f) = given (found 33 f.node f.route f.count)
answer_of (Refused r) = refusing r
