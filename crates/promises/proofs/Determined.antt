-- Determination, proved. Most contracts are equations, for the result and for what a lent buffer holds, and two things that are equal to a
-- third are equal. Where an answer is an enum, the equation is of its numbers and values, and two cases with the same are the same.
--     determined                                            the entry points
--     Values, Parts, Tables, Judging, Writers, Fragments, Joins, Rooms     the layers below, a law for each public function
pub mod Values
pub mod Parts
pub mod Tables
pub mod Judging
pub mod Writers
pub mod Fragments
pub mod Joins
pub mod Rooms
use mathlib.Core.Path.{sym, ◌∙◌}
use Rattle.layout.proofs.Cases.{one_check}
use Rattle.judging.proofs.Answers.{one_verdict}
use Rattle.outcomes.proofs.Outcomes.{one_outcome}
use Rattle.promises.specs.Determined.{Determined}

pub determined : Determined
determined = record {
  judge = λ κs a r r' e e' p q. one_verdict _ r r' p q;
  neighbour = λ κs a r r' e e' p q. cc;
  cut = λ κs a r r' e e' p q i. (one_outcome _ r r' p.0 q.0 i, (p.1 ∙ sym q.1) i);
  join = λ κs a r r' e e' p q i. (one_outcome _ r r' p.0 q.0 i, (p.1 ∙ sym q.1) i);
  judge_bytes = λ κs a r r' e e' p q. cc;
  cut_bytes = λ κs a r r' e e' p q. cc;
  join_bytes = λ κs a r r' e e' p q. cc;
  census = λ κs a r r' e e' p q. cc;
  census_bytes = λ κs a r r' e e' p q. cc;
  trail = λ κs a r r' e e' p q. cc;
  trail_bytes = λ κs a r r' e e' p q. cc;
  check_network = λ κs a r r' e e' p q. one_check _ r r' p q;
  check_list = λ κs a r r' e e' p q. one_check _ r r' p q;
  check_sheet = λ κs a r r' e e' p q. one_check _ r r' p q;
  lnianotka_check = λ κs a r r' e e' p q. cc;
  lnianotka_judge = λ κs a r r' e e' p q. cc;
  lnianotka_census = λ κs a r r' e e' p q. cc;
  lnianotka_trail = λ κs a r r' e e' p q. cc;
  lnianotka_cut = λ κs a r r' e e' p q. cc;
  lnianotka_join = λ κs a r r' e e' p q. cc;
}
