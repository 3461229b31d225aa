-- One result of each function that a join is made of: the rows that it finds and counts, whether policies are alike, and the merged rows.
use mathlib.Core.List.{List}
use Prim.Native.Nat.{ℕ}
use contract.Lifetimes.{Lfts}
use Rattle.matching.proofs.first_twice.Reads as first_twice
use Rattle.matching.proofs.first_unmatched.Reads as first_unmatched
use Rattle.matching.proofs.shared_rows.Reads as shared_rows
use Rattle.matching.proofs.alike_policies.Reads as alike_policies
use Rattle.merging.proofs.front_id.Reads as front_id
use Rattle.merging.proofs.merge_nodes.Reads as merge_nodes
use Rattle.merging.proofs.merge_edges.Reads as merge_edges
use Rattle.promises.specs.Determined.{One}

pub one_first_twice : (κs : Lfts 5) → One (first_twice.Post κs) (λ r e. r)
one_first_twice κs a r r' e e' p q = cc

pub one_first_unmatched : (κs : Lfts 5) → One (first_unmatched.Post κs) (λ r e. r)
one_first_unmatched κs a r r' e e' p q = cc

pub one_shared_rows : (κs : Lfts 5) → One (shared_rows.Post κs) (λ r e. r)
one_shared_rows κs a r r' e e' p q = cc

pub one_alike_policies : (κs : Lfts 1) → One (alike_policies.Post κs) (λ r e. r)
one_alike_policies κs a r r' e e' p q = cc

pub one_front_id : (κs : Lfts 2) → One (front_id.Post κs) (λ r e. r)
one_front_id κs a r r' e e' p q = cc

pub one_merge_nodes : (κs : Lfts 2) → One {B = ℕ × List ℕ} (merge_nodes.Post κs) (λ r e. (r, e.1.1.0.now))
one_merge_nodes κs a r r' e e' p q = cc

pub one_merge_edges : (κs : Lfts 2) → One (merge_edges.Post κs) (λ r e. e.1.1.0.now)
one_merge_edges κs a r r' e e' p q = cc
