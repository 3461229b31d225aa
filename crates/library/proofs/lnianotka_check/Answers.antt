-- A check that finds nothing has 0 for both, and one that refuses has its refusal's number and place.
use Rattle.library.proofs.Laws.{checking}
use Rattle.library.proofs.lnianotka_check.Goals as goal

pub returns-in-Ok : goal.returns-in-Ok
returns-in-Ok c = search checking

pub returns-in-Err : goal.returns-in-Err
returns-in-Err c = search checking
