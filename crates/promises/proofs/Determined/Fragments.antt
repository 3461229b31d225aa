-- One result of each function that a cut is made of: the tables by rows that it fills, the rows that it finds, and the fragment's record.
use mathlib.Core.List.{List}
use Prim.Native.Nat.{ℕ}
use contract.Lifetimes.{Lfts}
use Rattle.marking.proofs.Entered.number_rows.Reads as number_rows
use Rattle.marking.proofs.first_inside.Reads as first_inside
use Rattle.marking.proofs.Entered.first_clash.Reads as first_clash
use Rattle.marking.proofs.Entered.note_offset.Reads as note_offset
use Rattle.marking.proofs.Wires.mark_wires.Reads as mark_wires
use Rattle.marking.proofs.Fragment.classify_rows.Reads as classify_rows
use Rattle.marking.proofs.pieces.U8FromKept.from.Reads as code_from
use Rattle.marking.proofs.pieces.KeptFromU8.from.Reads as kept_from
use Rattle.laying.proofs.lay.Reads as lay
use Rattle.promises.specs.Determined.{One}

pub one_number_rows : (κs : Lfts 2) → One (number_rows.Post κs) (λ r e. e.1.0.now)
one_number_rows κs a r r' e e' p q = cc

pub one_first_inside : (κs : Lfts 3) → One (first_inside.Post κs) (λ r e. r)
one_first_inside κs a r r' e e' p q = cc

pub one_first_clash : (κs : Lfts 2) → One (first_clash.Post κs) (λ r e. r)
one_first_clash κs a r r' e e' p q = cc

pub one_note_offset : (κs : Lfts 1) → One (note_offset.Post κs) (λ r e. r)
one_note_offset κs a r r' e e' p q = cc

pub one_mark_wires : (κs : Lfts 4) → One {B = ℕ × List ℕ × List ℕ} (mark_wires.Post κs) (λ r e. (r, e.1.0.now, e.1.1.0.now))
one_mark_wires κs a r r' e e' p q = cc

pub one_classify_rows : (κs : Lfts 4) → One {B = ℕ × List ℕ} (classify_rows.Post κs) (λ r e. (r, e.1.1.1.0.now))
one_classify_rows κs a r r' e e' p q = cc

pub one_code : (κs : Lfts 0) → One (code_from.Post κs) (λ r e. r)
one_code κs a r r' e e' p q = cc

pub one_kept : (κs : Lfts 0) → One (kept_from.Post κs) (λ r e. r)
one_kept κs a r r' e e' p q = cc

pub one_lay : (κs : Lfts 4) → One {B = ℕ × List ℕ} (lay.Post κs) (λ r e. (r, e.1.1.1.1.1.0.now))
one_lay κs a r r' e e' p q = cc
