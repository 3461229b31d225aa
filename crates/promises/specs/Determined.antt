-- Determination: any two results that a contract allows for the same arguments are equal, and so is what they leave in a lent buffer.
-- A contract is taken as Rattle makes it of the function's `ensures`: `Post` of its `Reads` says of the arguments a, a result r and the
-- arguments at exit e whether the contract allows r and e. Of a reference `now` is what stands behind it.
use Rattle.layout.specs.declared.Refusal.{Refusal}
use Rattle.std.specs.Prelude.{◌≡◌, List, ℕ, Result}
use contract.Lifetimes.{Lfts}
use Rattle.judging.proofs.judge.Reads as the_judge
use Rattle.judging.proofs.judge_bytes.Reads as the_judge_bytes
use Rattle.judging.proofs.neighbour.Reads as the_neighbour
use Rattle.cutting.proofs.cut.Reads as the_cut
use Rattle.cutting.proofs.cut_bytes.Reads as the_cut_bytes
use Rattle.joining.proofs.join.Reads as the_join
use Rattle.joining.proofs.join_bytes.Reads as the_join_bytes
use Rattle.counting.proofs.census.Reads as the_census
use Rattle.counting.proofs.census_bytes.Reads as the_census_bytes
use Rattle.tracing.proofs.trail.Reads as the_trail
use Rattle.tracing.proofs.trail_bytes.Reads as the_trail_bytes
use Rattle.records.proofs.check_network.Reads as the_check_network
use Rattle.entries.proofs.check_list.Reads as the_check_list
use Rattle.entries.proofs.check_sheet.Reads as the_check_sheet
use Rattle.library.proofs.lnianotka_check.Reads as the_lnianotka_check
use Rattle.library.proofs.lnianotka_judge.Reads as the_lnianotka_judge
use Rattle.library.proofs.lnianotka_census.Reads as the_lnianotka_census
use Rattle.library.proofs.lnianotka_trail.Reads as the_lnianotka_trail
use Rattle.library.proofs.lnianotka_cut.Reads as the_lnianotka_cut
use Rattle.library.proofs.lnianotka_join.Reads as the_lnianotka_join

-- `seen` is what a caller has of a result and of the arguments at exit.
abbrev pub One : {A R E B : Type 0} → (A → R → E → Type 0) → (R → E → B) → Type 0
One {A} {R} {E} Post seen = (a : A) (r r' : R) (e e' : E) → Post a r e → Post a r' e' → seen r e ≡ seen r' e'

-- Each entry point: its result, with what stands at exit in the buffer or the place that was lent to it. Those of the layers below are in
-- proofs/Determined, one law each.
pub record Determined : Type 0 where
  pub judge : (κs : Lfts 1) → One (the_judge.Post κs) (λ r e. r)
  pub neighbour : (κs : Lfts 1) → One (the_neighbour.Post κs) (λ r e. r.now)
  pub cut : (κs : Lfts 3) → One {B = Result ℕ Refusal × List ℕ} (the_cut.Post κs) (λ r e. (r, e.1.1.1.0.now))
  pub join : (κs : Lfts 3) → One {B = Result ℕ Refusal × List ℕ} (the_join.Post κs) (λ r e. (r, e.1.1.0.now))
  pub judge_bytes : (κs : Lfts 2) → One {B = ℕ × List ℕ} (the_judge_bytes.Post κs) (λ r e. (r, e.1.0.now))
  pub cut_bytes : (κs : Lfts 2) → One {B = ℕ × List ℕ} (the_cut_bytes.Post κs) (λ r e. (r, e.1.0.now))
  pub join_bytes : (κs : Lfts 2) → One {B = ℕ × List ℕ} (the_join_bytes.Post κs) (λ r e. (r, e.1.0.now))
  pub census : (κs : Lfts 2) → One {B = ℕ × List ℕ} (the_census.Post κs) (λ r e. (r, e.1.1.0.now))
  pub census_bytes : (κs : Lfts 2) → One {B = ℕ × List ℕ} (the_census_bytes.Post κs) (λ r e. (r, e.1.0.now))
  pub trail : (κs : Lfts 2) → One {B = ℕ × List ℕ} (the_trail.Post κs) (λ r e. (r, e.1.1.1.0.now))
  pub trail_bytes : (κs : Lfts 2) → One {B = ℕ × List ℕ} (the_trail_bytes.Post κs) (λ r e. (r, e.1.0.now))
  pub check_network : (κs : Lfts 1) → One (the_check_network.Post κs) (λ r e. r)
  pub check_list : (κs : Lfts 1) → One (the_check_list.Post κs) (λ r e. r)
  pub check_sheet : (κs : Lfts 1) → One (the_check_sheet.Post κs) (λ r e. r)
  pub lnianotka_check : (κs : Lfts 2) → One {B = ℕ × ℕ} (the_lnianotka_check.Post κs) (λ r e. (r, e.1.0.now))
  pub lnianotka_judge : (κs : Lfts 2) → One {B = ℕ × List ℕ} (the_lnianotka_judge.Post κs) (λ r e. (r, e.1.0.now))
  pub lnianotka_census : (κs : Lfts 2) → One {B = ℕ × List ℕ} (the_lnianotka_census.Post κs) (λ r e. (r, e.1.0.now))
  pub lnianotka_trail : (κs : Lfts 2) → One {B = ℕ × List ℕ} (the_lnianotka_trail.Post κs) (λ r e. (r, e.1.0.now))
  pub lnianotka_cut : (κs : Lfts 2) → One {B = ℕ × List ℕ} (the_lnianotka_cut.Post κs) (λ r e. (r, e.1.0.now))
  pub lnianotka_join : (κs : Lfts 2) → One {B = ℕ × List ℕ} (the_lnianotka_join.Post κs) (λ r e. (r, e.1.0.now))
