-- One result of each function that lays down a part of a record or of a line: how many bytes, or the offset behind them, and the buffer. Of
-- those that split a program's input: the id that is named, and how many bytes a part of it takes. Of a record against the room for it: the
-- outcome.
use mathlib.Core.List.{List}
use Prim.Native.Nat.{ℕ}
use contract.Lifetimes.{Lfts}
use Rattle.writing.proofs.size_of.Reads as type_size
use Rattle.writing.proofs.put_head.Reads as put_head
use Rattle.writing.proofs.put_policies.Reads as put_policies
use Rattle.writing.proofs.put_node.Reads as put_node
use Rattle.writing.proofs.put_promised.Reads as put_promised
use Rattle.writing.proofs.put_input.Reads as put_input
use Rattle.writing.proofs.put_edge.Reads as put_edge
use Rattle.lines.proofs.first_length.Reads as first_length
use Rattle.lines.proofs.named_id.Reads as named_id
use Rattle.lines.proofs.named_length.Reads as named_length
use Rattle.lines.proofs.put_word.Reads as put_word
use Rattle.lines.proofs.put_number.Reads as put_number
use Rattle.lines.proofs.add_numbers.Reads as add_numbers
use Rattle.lines.proofs.add_route.Reads as add_route
use Rattle.lines.proofs.put_line.Reads as put_line
use Rattle.lines.proofs.put_box.Reads as put_box
use Rattle.lines.proofs.place_line.Reads as place_line
use Rattle.lines.proofs.LineFromRefusal.from.Reads as refusal_line
use Rattle.outcomes.proofs.laid_in.Reads as Laid_in
use Rattle.outcomes.proofs.place_outcome.Reads as place_outcome
use Rattle.outcomes.proofs.Outcomes.{one_outcome}
use Rattle.lines.specs.Written.{Written}
use Rattle.promises.specs.Determined.{One}

pub one_size_of : (κs : Lfts 0) → One (type_size.Post κs) (λ r e. r)
one_size_of κs a r r' e e' p q = cc

pub one_put_head : (κs : Lfts 1) → One (put_head.Post κs) (λ r e. e.1.1.1.1.1.0.now)
one_put_head κs a r r' e e' p q = cc

pub one_put_policies : (κs : Lfts 2) → One {B = ℕ × List ℕ} (put_policies.Post κs) (λ r e. (r, e.1.0.now))
one_put_policies κs a r r' e e' p q = cc

pub one_put_node : (κs : Lfts 2) → One {B = ℕ × List ℕ} (put_node.Post κs) (λ r e. (r, e.1.1.1.0.now))
one_put_node κs a r r' e e' p q = cc

pub one_put_promised : (κs : Lfts 3) → One {B = ℕ × List ℕ} (put_promised.Post κs) (λ r e. (r, e.1.1.1.1.1.0.now))
one_put_promised κs a r r' e e' p q = cc

pub one_put_input : (κs : Lfts 2) → One {B = ℕ × List ℕ} (put_input.Post κs) (λ r e. (r, e.1.1.1.1.0.now))
one_put_input κs a r r' e e' p q = cc

pub one_put_edge : (κs : Lfts 2) → One {B = ℕ × List ℕ} (put_edge.Post κs) (λ r e. (r, e.1.1.0.now))
one_put_edge κs a r r' e e' p q = cc

pub one_first_length : (κs : Lfts 1) → One (first_length.Post κs) (λ r e. r)
one_first_length κs a r r' e e' p q = cc

pub one_named_id : (κs : Lfts 1) → One (named_id.Post κs) (λ r e. r)
one_named_id κs a r r' e e' p q = cc

pub one_named_length : (κs : Lfts 1) → One (named_length.Post κs) (λ r e. r)
one_named_length κs a r r' e e' p q = cc

pub one_put_word : (κs : Lfts 2) → One {B = ℕ × List ℕ} (put_word.Post κs) (λ r e. (r, e.1.0.now))
unfolding Written
one_put_word κs a r r' e e' p q = cc

pub one_put_number : (κs : Lfts 1) → One {B = ℕ × List ℕ} (put_number.Post κs) (λ r e. (r, e.1.0.now))
unfolding Written
one_put_number κs a r r' e e' p q = cc

pub one_add_numbers : (κs : Lfts 2) → One {B = ℕ × List ℕ} (add_numbers.Post κs) (λ r e. (r, e.1.0.now))
unfolding Written
one_add_numbers κs a r r' e e' p q = cc

pub one_add_route : (κs : Lfts 1) → One {B = ℕ × List ℕ} (add_route.Post κs) (λ r e. (r, e.1.0.now))
unfolding Written
one_add_route κs a r r' e e' p q = cc

pub one_put_line : (κs : Lfts 1) → One {B = ℕ × List ℕ} (put_line.Post κs) (λ r e. (r, e.1.0.now))
unfolding Written
one_put_line κs a r r' e e' p q = cc

pub one_put_box : (κs : Lfts 1) → One {B = ℕ × List ℕ} (put_box.Post κs) (λ r e. (r, e.1.1.0.now))
unfolding Written
one_put_box κs a r r' e e' p q = cc

pub one_place_line : (κs : Lfts 1) → One {B = ℕ × List ℕ} (place_line.Post κs) (λ r e. (r, e.1.0.now))
one_place_line κs a r r' e e' p q = cc

pub one_laid_in : (κs : Lfts 0) → One (Laid_in.Post κs) (λ r e. r)
one_laid_in κs a r r' e e' p q = one_outcome _ r r' p q

pub one_place_outcome : (κs : Lfts 1) → One {B = ℕ × List ℕ} (place_outcome.Post κs) (λ r e. (r, e.1.0.now))
one_place_outcome κs a r r' e e' p q = cc

pub one_refusal_line : (κs : Lfts 0) → One (refusal_line.Post κs) (λ r e. r)
one_refusal_line κs a r r' e e' p q = cc
