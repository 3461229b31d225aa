use Rattle.entries.proofs.LookupLaws.{find_none, find_place, find_room, find_hit, find_up, find_down}
use Rattle.lists.proofs.Rising.{between_start}
use native.Mathlib.Omega.{arith}
use borrow.Author.Rules.{rules}
use Rattle.entries.proofs.lookup.find.Goals as goal

pub loop-lo-init : goal.loop-lo-init
loop-lo-init c = between_start _ _ _

pub overflow_sub-mid : goal.overflow_sub-mid
overflow_sub-mid c = omega arith

pub overflow_add-mid : goal.overflow_add-mid
overflow_add-mid c = omega arith

pub stride-requires : goal.stride-requires
stride-requires c = (search rules, search rules, search find_place)

pub u16_at-found-requires : goal.u16_at-found-requires
u16_at-found-requires c = search find_room

pub returns-then-found-id : goal.returns-then-found-id
returns-then-found-id c = search find_hit

pub overflow_add-lo : goal.overflow_add-lo
overflow_add-lo c = omega arith

pub loop-lo-smaller-then-found-id-2 : goal.loop-lo-smaller-then-found-id-2
loop-lo-smaller-then-found-id-2 c = omega arith

pub loop-lo-preserved-then-found-id-2 : goal.loop-lo-preserved-then-found-id-2
loop-lo-preserved-then-found-id-2 c = search find_up

pub loop-lo-smaller : goal.loop-lo-smaller
loop-lo-smaller c = omega arith

pub loop-lo-preserved : goal.loop-lo-preserved
loop-lo-preserved c = search find_down

pub returns : goal.returns
returns c = search find_none
