-- One result of each function that says how long an input or an answer can be.
use contract.Lifetimes.{Lfts}
use Rattle.judging.proofs.longest_input.Reads as judging_longest_input
use Rattle.judging.proofs.longest_naming.Reads as longest_naming
use Rattle.counting.proofs.longest_census.Reads as longest_census
use Rattle.tracing.proofs.longest_trail.Reads as longest_trail
use Rattle.cutting.proofs.longest_input.Reads as cutting_longest_input
use Rattle.cutting.proofs.largest_output.Reads as cutting_largest_output
use Rattle.joining.proofs.longest_input.Reads as joining_longest_input
use Rattle.joining.proofs.largest_output.Reads as joining_largest_output
use Rattle.library.proofs.lnianotka_judge_input.Reads as lnianotka_judge_input
use Rattle.library.proofs.lnianotka_judge_answer.Reads as lnianotka_judge_answer
use Rattle.library.proofs.lnianotka_census_answer.Reads as lnianotka_census_answer
use Rattle.library.proofs.lnianotka_trail_input.Reads as lnianotka_trail_input
use Rattle.library.proofs.lnianotka_trail_answer.Reads as lnianotka_trail_answer
use Rattle.library.proofs.lnianotka_cut_input.Reads as lnianotka_cut_input
use Rattle.library.proofs.lnianotka_cut_answer.Reads as lnianotka_cut_answer
use Rattle.library.proofs.lnianotka_join_input.Reads as lnianotka_join_input
use Rattle.library.proofs.lnianotka_join_answer.Reads as lnianotka_join_answer
use Rattle.promises.specs.Determined.{One}

pub one_judging_longest_input : (κs : Lfts 0) → One (judging_longest_input.Post κs) (λ r e. r)
one_judging_longest_input κs a r r' e e' p q = cc

pub one_longest_naming : (κs : Lfts 0) → One (longest_naming.Post κs) (λ r e. r)
one_longest_naming κs a r r' e e' p q = cc

pub one_longest_census : (κs : Lfts 0) → One (longest_census.Post κs) (λ r e. r)
one_longest_census κs a r r' e e' p q = cc

pub one_longest_trail : (κs : Lfts 0) → One (longest_trail.Post κs) (λ r e. r)
one_longest_trail κs a r r' e e' p q = cc

pub one_cutting_longest_input : (κs : Lfts 0) → One (cutting_longest_input.Post κs) (λ r e. r)
one_cutting_longest_input κs a r r' e e' p q = cc

pub one_cutting_largest_output : (κs : Lfts 0) → One (cutting_largest_output.Post κs) (λ r e. r)
one_cutting_largest_output κs a r r' e e' p q = cc

pub one_joining_longest_input : (κs : Lfts 0) → One (joining_longest_input.Post κs) (λ r e. r)
one_joining_longest_input κs a r r' e e' p q = cc

pub one_joining_largest_output : (κs : Lfts 0) → One (joining_largest_output.Post κs) (λ r e. r)
one_joining_largest_output κs a r r' e e' p q = cc

pub one_lnianotka_judge_input : (κs : Lfts 0) → One (lnianotka_judge_input.Post κs) (λ r e. r)
one_lnianotka_judge_input κs a r r' e e' p q = cc

pub one_lnianotka_judge_answer : (κs : Lfts 0) → One (lnianotka_judge_answer.Post κs) (λ r e. r)
one_lnianotka_judge_answer κs a r r' e e' p q = cc

pub one_lnianotka_census_answer : (κs : Lfts 0) → One (lnianotka_census_answer.Post κs) (λ r e. r)
one_lnianotka_census_answer κs a r r' e e' p q = cc

pub one_lnianotka_trail_input : (κs : Lfts 0) → One (lnianotka_trail_input.Post κs) (λ r e. r)
one_lnianotka_trail_input κs a r r' e e' p q = cc

pub one_lnianotka_trail_answer : (κs : Lfts 0) → One (lnianotka_trail_answer.Post κs) (λ r e. r)
one_lnianotka_trail_answer κs a r r' e e' p q = cc

pub one_lnianotka_cut_input : (κs : Lfts 0) → One (lnianotka_cut_input.Post κs) (λ r e. r)
one_lnianotka_cut_input κs a r r' e e' p q = cc

pub one_lnianotka_cut_answer : (κs : Lfts 0) → One (lnianotka_cut_answer.Post κs) (λ r e. r)
one_lnianotka_cut_answer κs a r r' e e' p q = cc

pub one_lnianotka_join_input : (κs : Lfts 0) → One (lnianotka_join_input.Post κs) (λ r e. r)
one_lnianotka_join_input κs a r r' e e' p q = cc

pub one_lnianotka_join_answer : (κs : Lfts 0) → One (lnianotka_join_answer.Post κs) (λ r e. r)
one_lnianotka_join_answer κs a r r' e e' p q = cc
