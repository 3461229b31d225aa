-- One result of each function that judging is made of: the routes that it looks up, the wires in their order and what they give, the fault of
-- a box, the verdict and its line. Of a part and of a line the contract gives the bytes.
use mathlib.Core.List.{List}
use Prim.Native.Nat.{ℕ}
use contract.Lifetimes.{Lfts}
use Rattle.layout.specs.declared.Form.{Form}
use Rattle.lines.specs.Line.{line_bytes}
use Rattle.boxes.proofs.Faults.{one_fault}
use Rattle.judging.proofs.Answers.{one_verdict}
use Rattle.preparing.proofs.lookup.Proposal.row_part.Reads as row_part
use Rattle.preparing.proofs.lookup.Lookup.box_part.Reads as box_part
use Rattle.preparing.proofs.lookup.Lookup.box_route.Reads as box_route
use Rattle.preparing.proofs.lookup.Lookup.named_part.Reads as named_part
use Rattle.boxes.proofs.own_box.Reads as own_box
use Rattle.boxes.proofs.fault_at.Reads as fault_at
use Rattle.boxes.proofs.first_wire.Reads as first_wire
use Rattle.boxes.proofs.wire_behind.Reads as wire_behind
use Rattle.boxes.proofs.wire_into.Reads as wire_into
use Rattle.boxes.proofs.offer.Reads as offer
use Rattle.boxes.proofs.over_wire.Reads as over_wire
use Rattle.judging.proofs.search.Reads as search
use Rattle.judging.proofs.verdict_line.Reads as verdict_line
use Rattle.preparing.proofs.lookup.Lookup.new.Reads as new_lookup
use Rattle.preparing.proofs.lookup.Lookup.table.Reads as table_of
use Rattle.promises.specs.Determined.{One}

pub one_row_part : (κs : Lfts 3) → One (row_part.Post κs) (λ r e. r.now)
one_row_part κs a r r' e e' p q = cc

-- a struct of references is known by what stands behind them
pub one_new : (κs : Lfts 2) → One {B = Form × List ℕ × List ℕ × List ℕ × List ℕ} (new_lookup.Post κs)
    (λ r e. (r.proposal.network.form, r.proposal.network.bytes.now, r.proposal.list.now, r.rows.now, r.proposal.stands.now))
one_new κs a r r' e e' p q = cc

pub one_table : (κs : Lfts 3) → One {B = Form × List ℕ × List ℕ} (table_of.Post κs) (λ r e. (r.network.form, r.network.bytes.now, r.rows.now))
one_table κs a r r' e e' p q = cc

pub one_box_part : (κs : Lfts 3) → One (box_part.Post κs) (λ r e. r.now)
one_box_part κs a r r' e e' p q = cc

pub one_box_route : (κs : Lfts 3) → One (box_route.Post κs) (λ r e. r)
one_box_route κs a r r' e e' p q = cc

pub one_named_part : (κs : Lfts 3) → One (named_part.Post κs) (λ r e. r.now)
one_named_part κs a r r' e e' p q = cc

pub one_own_box : (κs : Lfts 2) → One (own_box.Post κs) (λ r e. r)
one_own_box κs a r r' e e' p q = cc

pub one_fault_at : (κs : Lfts 3) → One (fault_at.Post κs) (λ r e. r)
one_fault_at κs a r r' e e' p q = one_fault _ r r' p q

pub one_first_wire : (κs : Lfts 2) → One (first_wire.Post κs) (λ r e. r)
one_first_wire κs a r r' e e' p q = cc

pub one_wire_behind : (κs : Lfts 2) → One (wire_behind.Post κs) (λ r e. r)
one_wire_behind κs a r r' e e' p q = cc

pub one_wire_into : (κs : Lfts 2) → One (wire_into.Post κs) (λ r e. r)
one_wire_into κs a r r' e e' p q = cc

pub one_offer : (κs : Lfts 3) → One (offer.Post κs) (λ r e. r)
one_offer κs a r r' e e' p q = cc

pub one_over_wire : (κs : Lfts 3) → One (over_wire.Post κs) (λ r e. r)
one_over_wire κs a r r' e e' p q = cc

pub one_search : (κs : Lfts 3) → One (search.Post κs) (λ r e. r)
one_search κs a r r' e e' p q = one_verdict _ r r' p q

pub one_verdict_line : (κs : Lfts 0) → One (verdict_line.Post κs) (λ r e. line_bytes r)
one_verdict_line κs a r r' e e' p q = cc
