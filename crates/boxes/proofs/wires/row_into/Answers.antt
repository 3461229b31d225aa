use Rattle.boxes.proofs.WireLaws.{half_start, halving}
use native.Mathlib.Omega.{arith}
use borrow.Author.Rules.{rules}
use Rattle.boxes.proofs.wires.row_into.Goals as goal

pub loop-lo-init : goal.loop-lo-init
loop-lo-init c = half_start _ _ _ _

pub overflow_sub-mid : goal.overflow_sub-mid
overflow_sub-mid c = omega arith

pub overflow_add-mid : goal.overflow_add-mid
overflow_add-mid c = omega arith

pub stride-requires : goal.stride-requires
stride-requires c = (search rules, search rules, let within = c.loop-lo.invariant.high in omega arith)

pub u16_at-requires : goal.u16_at-requires
u16_at-requires c = search halving

pub overflow_add-lo : goal.overflow_add-lo
overflow_add-lo c = omega arith

pub loop-lo-smaller-then-u16_at-id : goal.loop-lo-smaller-then-u16_at-id
loop-lo-smaller-then-u16_at-id c = omega arith

pub loop-lo-preserved-then-u16_at-id : goal.loop-lo-preserved-then-u16_at-id
loop-lo-preserved-then-u16_at-id c = search halving

pub loop-lo-smaller : goal.loop-lo-smaller
loop-lo-smaller c = omega arith

pub loop-lo-preserved : goal.loop-lo-preserved
loop-lo-preserved c = search halving

pub returns : goal.returns
returns c = search halving
