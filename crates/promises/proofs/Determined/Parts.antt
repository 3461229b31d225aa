-- One result of each function that reads a part of a record. A contract is an equation for the result, and of `place_entries` one for the
-- table too, by its result.
use mathlib.Core.List.{List}
use Prim.Native.Nat.{ℕ}
use contract.Lifetimes.{Lfts}
use Rattle.layout.proofs.form_of.Reads as form_of
use Rattle.layout.proofs.policy_offset.Reads as policy_offset
use Rattle.layout.proofs.node_part.Reads as node_part
use Rattle.layout.proofs.node_width.Reads as node_width
use Rattle.layout.proofs.node_offset.Reads as node_offset
use Rattle.layout.proofs.edge_offset.Reads as edge_offset
use Rattle.layout.proofs.entry_offset.Reads as entry_offset
use Rattle.layout.proofs.total_of.Reads as total_of
use Rattle.layout.proofs.refusals.U8FromClass.from.Reads as number_from
use Rattle.entries.proofs.lookup.EntriesRecord.entry_of.Reads as entry_of
use Rattle.entries.proofs.lookup.EntriesRecord.entry_near.Reads as entry_near
use Rattle.entries.proofs.row_behind.Reads as row_behind
use Rattle.nodes.proofs.bad_policy.Reads as bad_policy
use Rattle.nodes.proofs.bad_node.Reads as bad_node
use Rattle.nodes.proofs.record.NetworkRecord.no_own.Reads as no_own
use Rattle.nodes.proofs.record.NetworkRecord.node_id.Reads as node_id
use Rattle.nodes.proofs.record.NetworkRecord.is_own.Reads as is_own
use Rattle.nodes.proofs.own_at.Reads as own_at
use Rattle.nodes.proofs.promising_at.Reads as promising_at
use Rattle.nodes.proofs.demand_at.Reads as demand_at
use Rattle.nodes.proofs.record.NetworkRecord.refused_at.Reads as refused_at
use Rattle.records.proofs.rows.TabledNetwork.is_owned.Reads as is_owned
use Rattle.records.proofs.rows.TabledNetwork.row_in.Reads as row_in
use Rattle.records.proofs.place_entries.Reads as place_entries
use Rattle.nodes.proofs.record.NetworkRecord.node_count.Reads as node_count
use Rattle.nodes.proofs.record.NetworkRecord.edge_count.Reads as edge_count
use Rattle.nodes.proofs.record.NetworkRecord.policy_count.Reads as policy_count
use Rattle.nodes.proofs.record.NetworkRecord.node_offset.Reads as offset_of_node
use Rattle.nodes.proofs.record.NetworkRecord.edge_offset.Reads as offset_of_edge
use Rattle.entries.proofs.lookup.EntriesRecord.entry_count.Reads as entry_count
use Rattle.records.proofs.rows.TabledNetwork.is_boxed.Reads as is_boxed
use Rattle.records.proofs.rows.TabledNetwork.bad_edge.Reads as bad_edge
use Rattle.promises.specs.Determined.{One}

pub one_form_of : (κs : Lfts 1) → One (form_of.Post κs) (λ r e. r)
one_form_of κs a r r' e e' p q = cc

pub one_policy_offset : (κs : Lfts 0) → One (policy_offset.Post κs) (λ r e. r)
one_policy_offset κs a r r' e e' p q = cc

pub one_node_part : (κs : Lfts 1) → One (node_part.Post κs) (λ r e. r)
one_node_part κs a r r' e e' p q = cc

pub one_node_width : (κs : Lfts 0) → One (node_width.Post κs) (λ r e. r)
one_node_width κs a r r' e e' p q = cc

pub one_node_offset : (κs : Lfts 1) → One (node_offset.Post κs) (λ r e. r)
one_node_offset κs a r r' e e' p q = cc

pub one_edge_offset : (κs : Lfts 1) → One (edge_offset.Post κs) (λ r e. r)
one_edge_offset κs a r r' e e' p q = cc

pub one_entry_offset : (κs : Lfts 0) → One (entry_offset.Post κs) (λ r e. r)
one_entry_offset κs a r r' e e' p q = cc

pub one_total_of : (κs : Lfts 1) → One (total_of.Post κs) (λ r e. r)
one_total_of κs a r r' e e' p q = cc

pub one_number : (κs : Lfts 0) → One (number_from.Post κs) (λ r e. r)
one_number κs a r r' e e' p q = cc

pub one_entry_of : (κs : Lfts 2) → One (entry_of.Post κs) (λ r e. r)
one_entry_of κs a r r' e e' p q = cc

pub one_entry_near : (κs : Lfts 2) → One (entry_near.Post κs) (λ r e. r)
one_entry_near κs a r r' e e' p q = cc

pub one_row_behind : (κs : Lfts 0) → One (row_behind.Post κs) (λ r e. r)
one_row_behind κs a r r' e e' p q = cc

pub one_bad_policy : (κs : Lfts 1) → One (bad_policy.Post κs) (λ r e. r)
one_bad_policy κs a r r' e e' p q = cc

pub one_bad_node : (κs : Lfts 1) → One (bad_node.Post κs) (λ r e. r)
one_bad_node κs a r r' e e' p q = cc

pub one_no_own : (κs : Lfts 2) → One (no_own.Post κs) (λ r e. r)
one_no_own κs a r r' e e' p q = cc

pub one_node_id : (κs : Lfts 2) → One (node_id.Post κs) (λ r e. r)
one_node_id κs a r r' e e' p q = cc

pub one_is_own : (κs : Lfts 2) → One (is_own.Post κs) (λ r e. r)
one_is_own κs a r r' e e' p q = cc

pub one_own_at : (κs : Lfts 1) → One (own_at.Post κs) (λ r e. r)
one_own_at κs a r r' e e' p q = cc

pub one_promising_at : (κs : Lfts 1) → One (promising_at.Post κs) (λ r e. r)
one_promising_at κs a r r' e e' p q = cc

pub one_demand_at : (κs : Lfts 1) → One (demand_at.Post κs) (λ r e. r)
one_demand_at κs a r r' e e' p q = cc

pub one_refused_at : (κs : Lfts 2) → One (refused_at.Post κs) (λ r e. r)
one_refused_at κs a r r' e e' p q = cc

pub one_is_owned : (κs : Lfts 3) → One (is_owned.Post κs) (λ r e. r)
one_is_owned κs a r r' e e' p q = cc

pub one_row_in : (κs : Lfts 3) → One (row_in.Post κs) (λ r e. r)
one_row_in κs a r r' e e' p q = cc

pub one_place_entries : (κs : Lfts 5) → One {B = ℕ × List ℕ} (place_entries.Post κs) (λ r e. (r, e.1.1.0.now))
one_place_entries κs a r r' e e' p q = cc

pub one_node_count : (κs : Lfts 2) → One (node_count.Post κs) (λ r e. r)
one_node_count κs a r r' e e' p q = cc

pub one_edge_count : (κs : Lfts 2) → One (edge_count.Post κs) (λ r e. r)
one_edge_count κs a r r' e e' p q = cc

pub one_policy_count : (κs : Lfts 2) → One (policy_count.Post κs) (λ r e. r)
one_policy_count κs a r r' e e' p q = cc

pub one_offset_of_node : (κs : Lfts 2) → One (offset_of_node.Post κs) (λ r e. r)
one_offset_of_node κs a r r' e e' p q = cc

pub one_offset_of_edge : (κs : Lfts 2) → One (offset_of_edge.Post κs) (λ r e. r)
one_offset_of_edge κs a r r' e e' p q = cc

pub one_entry_count : (κs : Lfts 2) → One (entry_count.Post κs) (λ r e. r)
one_entry_count κs a r r' e e' p q = cc

pub one_is_boxed : (κs : Lfts 3) → One (is_boxed.Post κs) (λ r e. r)
one_is_boxed κs a r r' e e' p q = cc

pub one_bad_edge : (κs : Lfts 4) → One {B = ℕ × List ℕ} (bad_edge.Post κs) (λ r e. (r, e.1.0.now))
one_bad_edge κs a r r' e e' p q = cc
