-- One result of each function on numbers and routes. A contract is an equation for the result, or for the buffer that is written to, and two
-- things that are equal to a third are equal.
use contract.Lifetimes.{Lfts}
use Rattle.numbers.proofs.stride.Reads as stride
use Rattle.numbers.proofs.u16_at.Reads as u16_at
use Rattle.numbers.proofs.u32_at.Reads as u32_at
use Rattle.numbers.proofs.all_zero.Reads as all_zero
use Rattle.numbers.proofs.put_u8.Reads as put_u8
use Rattle.numbers.proofs.put_u16.Reads as put_u16
use Rattle.numbers.proofs.put_u32.Reads as put_u32
use Rattle.numbers.proofs.put_zeros.Reads as put_zeros
use Rattle.numbers.proofs.put_part.Reads as put_part
use Rattle.routes.proofs.better.Reads as better
use Rattle.routes.proofs.same.Reads as same
use Rattle.routes.proofs.same_policy.Reads as same_policy
use Rattle.routes.proofs.carry.Reads as carry
use Rattle.routes.proofs.is_met.Reads as is_met
use Rattle.routes.proofs.route_formed.Reads as route_formed
use Rattle.routes.proofs.policy_formed.Reads as policy_formed
use Rattle.routes.proofs.route_at.Reads as route_at
use Rattle.routes.proofs.policy_at.Reads as policy_at
use Rattle.promises.specs.Determined.{One}

pub one_stride : (κs : Lfts 0) → One (stride.Post κs) (λ r e. r)
one_stride κs a r r' e e' p q = cc

pub one_u16_at : (κs : Lfts 1) → One (u16_at.Post κs) (λ r e. r)
one_u16_at κs a r r' e e' p q = cc

pub one_u32_at : (κs : Lfts 1) → One (u32_at.Post κs) (λ r e. r)
one_u32_at κs a r r' e e' p q = cc

pub one_all_zero : (κs : Lfts 1) → One (all_zero.Post κs) (λ r e. r)
one_all_zero κs a r r' e e' p q = cc

pub one_put_u8 : (κs : Lfts 1) → One (put_u8.Post κs) (λ r e. e.0.now)
one_put_u8 κs a r r' e e' p q = cc

pub one_put_u16 : (κs : Lfts 1) → One (put_u16.Post κs) (λ r e. e.0.now)
one_put_u16 κs a r r' e e' p q = cc

pub one_put_u32 : (κs : Lfts 1) → One (put_u32.Post κs) (λ r e. e.0.now)
one_put_u32 κs a r r' e e' p q = cc

pub one_put_zeros : (κs : Lfts 1) → One (put_zeros.Post κs) (λ r e. e.0.now)
one_put_zeros κs a r r' e e' p q = cc

pub one_put_part : (κs : Lfts 2) → One (put_part.Post κs) (λ r e. e.0.now)
one_put_part κs a r r' e e' p q = cc

pub one_better : (κs : Lfts 0) → One (better.Post κs) (λ r e. r)
one_better κs a r r' e e' p q = cc

pub one_same : (κs : Lfts 0) → One (same.Post κs) (λ r e. r)
one_same κs a r r' e e' p q = cc

pub one_same_policy : (κs : Lfts 0) → One (same_policy.Post κs) (λ r e. r)
one_same_policy κs a r r' e e' p q = cc

pub one_carry : (κs : Lfts 0) → One (carry.Post κs) (λ r e. r)
one_carry κs a r r' e e' p q = cc

pub one_is_met : (κs : Lfts 0) → One (is_met.Post κs) (λ r e. r)
one_is_met κs a r r' e e' p q = cc

pub one_route_formed : (κs : Lfts 1) → One (route_formed.Post κs) (λ r e. r)
one_route_formed κs a r r' e e' p q = cc

pub one_policy_formed : (κs : Lfts 1) → One (policy_formed.Post κs) (λ r e. r)
one_policy_formed κs a r r' e e' p q = cc

pub one_route_at : (κs : Lfts 1) → One (route_at.Post κs) (λ r e. r)
one_route_at κs a r r' e e' p q = cc

pub one_policy_at : (κs : Lfts 1) → One (policy_at.Post κs) (λ r e. r)
one_policy_at κs a r r' e e' p q = cc
